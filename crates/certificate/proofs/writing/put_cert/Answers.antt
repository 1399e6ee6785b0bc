use Rattle.std.proofs.Common.{rules, ◌++◌, codes, sym}
use Rattle.std.specs.Fmt.{decimal}
use Rattle.outputs.proofs.PageLaws.{adds_both, adds_same}
use Rattle.certificate.specs.Lines.{said_of}
use Rattle.certificate.specs.Words.{ended}
use Rattle.certificate.specs.Written.{head_text, instances_text, places_text, walk_text}
use Rattle.certificate.proofs.WriteLaws.{sections}
use Rattle.certificate.proofs.writing.put_cert.Goals as goal

pub returns : goal.returns
returns g c =
    let taken = g.O.Output.taken in
    let failures = g.O.Output.failures in
    let said = said_of c.args.longest.now in
    let h = head_text said.numbers in
    let b = ended (codes "bound " ++ decimal said.bound) in
    let w = walk_text said.walk in
    let k = codes "close\n" in
    let p = places_text said.places in
    let i = instances_text said.instances in
    let s = codes "stop\n" in
    let end = c.put-2.new.out in
    let last = c.put-2.new.self in
    let instances = adds_both taken failures c.put_places.new.out c.put_instances.new.out end c.put_places.new.page c.put_instances.new.page last i s (search rules) c.put-2.ensures in
    let places = adds_both taken failures c.put.new.out c.put_places.new.out end c.put.new.self c.put_places.new.page last p (i ++ s) (search rules) instances in
    let close = adds_both taken failures c.put_items.new.out c.put.new.out end c.put_items.new.page c.put.new.self last k (p ++ (i ++ s)) c.put.ensures places in
    let walk = adds_both taken failures c.put_number.new.out c.put_items.new.out end c.put_number.new.page c.put_items.new.page last w (k ++ (p ++ (i ++ s))) (search rules) close in
    let bound = adds_both taken failures c.put_head.new.out c.put_number.new.out end c.put_head.new.page c.put_number.new.page last b (w ++ (k ++ (p ++ (i ++ s)))) c.put_number.ensures walk in
    let whole = adds_both taken failures c.args.out.now c.put_head.new.out end c.args.page.now c.put_head.new.page last h (b ++ (w ++ (k ++ (p ++ (i ++ s))))) c.put_head.ensures bound in
    adds_same taken failures c.args.out.now end c.args.page.now last _ _ (sym (sections said)) whole

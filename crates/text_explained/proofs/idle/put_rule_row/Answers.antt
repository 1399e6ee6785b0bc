use Rattle.std.proofs.Common.{◌++◌, codes}
use Rattle.std.proofs.lemmas.Result.{on_ok_weaker}
use Rattle.text_explained.specs.Rules.{part_text, register_text}
use Rattle.text_explained.proofs.RuleLaws.{after}
use Rattle.text_explained.proofs.idle.put_rule_row.Goals as goal

pub returns : goal.returns
returns c =
    let rule = c.args.rule.now in
    let end = codes "  no load or store there takes its class\n" in
    let a = c.put.new.out.items in
    let b = c.put_register.new.out.items in
    let d = c.put-2.new.out.items in
    let e = c.put_part.new.out.items in
    let f = c.put-3.new.out.items in
    on_ok_weaker c.put-3.result
    (λ is. after c.args.out.now.items (codes "  base    ") (register_text rule.register ++ (codes " from " ++ (part_text rule ++ end))) a f c.in_ok-put.ensures
    (after a (register_text rule.register) (codes " from " ++ (part_text rule ++ end)) b f c.in_ok-put_register.ensures
    (after b (codes " from ") (part_text rule ++ end) d f c.in_ok-put-2.ensures (after d (part_text rule) end e f c.in_ok-put_part.ensures is))))
    c.put-3.ensures

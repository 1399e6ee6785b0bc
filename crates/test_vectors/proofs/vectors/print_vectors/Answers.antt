use Rattle.std.proofs.Common.{◌++◌, [], codes, refl}
use Rattle.outputs.proofs.PageLaws.{on_from_start}
use Rattle.test_vectors.proofs.ChainLaws.{two}
use Rattle.test_vectors.proofs.vectors.print_vectors.Goals as goal

pub returns : goal.returns
returns g c =
    let start = on_from_start g.O.Output.taken g.O.Output.failures c.args.out.now c.new-page.result c.new-page.ensures.bytes c.new-page.ensures.failed in
    let vectors = c.put_vectors.ensures.0 in
    let text = codes "[" ++ (vectors ++ codes "\n]\n") in
    let all = two g.O.Output.taken g.O.Output.failures c.put.ensures (two g.O.Output.taken g.O.Output.failures c.put_vectors.ensures.2 c.put-2.ensures) in
    (text, (vectors, c.put_vectors.ensures.1, refl), c.finish.ensures c.args.out.now text (all c.args.out.now [] start))

use Rattle.std.proofs.Common.{◌∙◌, ◌++◌, ℕ, ap, codes, true, false}
use Rattle.json_trace.specs.StepLine.{memory_word}
use Rattle.test_vectors.specs.Vector.{access_object}
use Rattle.test_vectors.proofs.TextLaws.{refill_put}
use Rattle.test_vectors.proofs.ChainLaws.{as_text, two}
use Rattle.test_vectors.proofs.cycles.put_refill.Goals as goal

pub returns : goal.returns
returns g c =
    let m = c.args.memc.now in
    let first = codes "," ++ access_object (codes "fetch") false c.args.to (memory_word m false c.args.to) in
    as_text g.O.Output.taken g.O.Output.failures (two g.O.Output.taken g.O.Output.failures c.put_fetch.ensures c.put_fetch-2.ensures)
    (ap (λ (a : ℕ). first ++ (codes "," ++ access_object (codes "fetch") true a (memory_word m false a))) c.ahead_of.ensures.sum
    ∙ refill_put m c.args.jumps c.args.to c.if-not-jumps.false)

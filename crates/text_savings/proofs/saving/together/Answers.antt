use Rattle.std.proofs.Common.{◌≡◌, ◌∙◌, ℕ, ◌+◌, ◌<◌, List, ap, arith, get_or, length, sum_by, take, take_all}
use Rattle.std.proofs.lemmas.List.Sums.{sum_by_more}
use Rattle.walk_counts.specs.Counts.{capped}
use Rattle.text_savings.specs.Savings.{ticks_saved}
use Rattle.text_savings.specs.declared.saving.Saving.{Saving}
use Rattle.text_savings.proofs.saving.together.Goals as goal

one_more : (list : List Saving) (i ticks new : ℕ) (d : Saving) → ticks ≡ capped (sum_by ticks_saved (take i list)) → i < length list
    → new ≡ capped (ticks + (get_or list i d).ticks) → new ≡ capped (sum_by ticks_saved (take (i + 1) list))
one_more list i ticks new d so_far lt is =
    let next : sum_by ticks_saved (take (i + 1) list) ≡ sum_by ticks_saved (take i list) + (get_or list i d).ticks = sum_by_more ticks_saved list i d lt in
    omega arith

pub loop-saving-preserved : goal.loop-saving-preserved
loop-saving-preserved c =
    one_more c.args.list.now c.loop-saving.saving-index c.loop-saving.ticks c.capped_sum-ticks.result _ c.loop-saving.invariant c.loop-saving-test.true c.capped_sum-ticks.ensures

pub returns : goal.returns
returns c =
    c.loop-saving.invariant ∙ ap (λ xs. capped (sum_by ticks_saved xs)) (take_all c.loop-saving.saving-index c.args.list.now c.loop-saving-test.false)

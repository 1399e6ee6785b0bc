use Rattle.std.proofs.Common.{◌≡◌, ◌⊎◌, length, arith, sym, inl, inr, ⊎_elim}
use Rattle.std.proofs.lemmas.Bool.{cases_lt}
use Rattle.loop_bounds.proofs.KeyLemmas.{compared}
use Rattle.loop_bounds.proofs.compare_pushed.compare_pushed.Goals as goal

pub returns : goal.returns
returns g c =
    let n = c.min-common.result in
    let one : (n ≡ length c.args.left.now) ⊎ (n ≡ length c.args.right.now) =
    ⊎_elim (λ l. inl (omega (arith, c.min-common.ensures))) (λ ge. inr (omega (arith, c.min-common.ensures))) (cases_lt (length c.args.left.now) (length c.args.right.now)) in
    rw (c.then-2.ensures, c.then.ensures, c.cmp-2.ensures, c.cmp.ensures, c.cmp-next.ensures, c.element_at.ensures c.args.after.now, c.element_at-2.ensures c.args.after.now)
    (sym (compared _ c.args.left.now c.args.right.now c.args.after.now c.args.other.now c.args.after.now n (omega (arith, c.min-common.ensures)) (omega (arith, c.min-common.ensures)) one))

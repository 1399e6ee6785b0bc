use Rattle.std.proofs.Common.{◌≡◌, ◌+◌, ◌-◌, ◌%◌, ℕ, sym, ap, ◌∙◌, arith}
use Rattle.std.proofs.Math.Nat.{add-mod_right, mod-eq_of_lt}
use Rattle.vidc.proofs.frame.since.Goals as goal

pub returns-then-from-mark-clause-since : goal.returns-then-from-mark-clause-since
returns-then-from-mark-clause-since c = sym (mod-eq_of_lt (omega arith))

pub returns-clause-since : goal.returns-clause-since
returns-clause-since c =
    let e : c.args.from + (c.args.frame - c.args.mark) ≡ (c.args.from - c.args.mark) + c.args.frame = omega arith in
    sym (ap (λ (x : ℕ). x % c.args.frame) e ∙ add-mod_right (c.args.from - c.args.mark) c.args.frame ∙ mod-eq_of_lt (omega arith))

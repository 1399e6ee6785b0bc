use Rattle.std.proofs.Common.{◌≡◌, sym, subst, arith, ℕ, false}
use Rattle.objasm.specs.Exchanges.{rotated_below}
use Rattle.objasm.proofs.ExchangeLaws.{found_one, none_below, not_yet}
use Rattle.objasm.proofs.exchanges.is_rotated.Goals as goal

pub loop-k-init : goal.loop-k-init
loop-k-init c = none_below c.args.n

pub returns-then-rotate_left-lt256 : goal.returns-then-rotate_left-lt256
returns-then-rotate_left-lt256 c = found_one c.loop-k.k c.args.n c.rotate_left.result (omega (arith, c.loop-k-test.true)) c.rotate_left.ensures c.if-rotate_left-lt256.true

pub loop-k-preserved : goal.loop-k-preserved
loop-k-preserved c = not_yet c.loop-k.k c.args.n c.rotate_left.result c.rotate_left.ensures c.if-rotate_left-lt256.false c.loop-k.invariant

pub returns : goal.returns
returns c =
    let last : c.loop-k.k ≡ 16 = omega (arith, c.loop-k-test.false, c.loop-k.auto.k-end) in
    sym (subst (λ (k : ℕ). rotated_below k c.args.n ≡ false) last c.loop-k.invariant)

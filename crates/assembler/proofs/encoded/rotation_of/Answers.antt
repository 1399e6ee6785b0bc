use Rattle.std.proofs.Common.{◌≡◌, ◌≤◌, ◌∙◌, ℕ, subst, sym, arith}
use Rattle.assembler.specs.Codes.{rotation_of}
use Rattle.assembler.proofs.CodeLaws.{rotation_from, rotation_on}
use Rattle.assembler.proofs.encoded.rotation_of.Goals as goal

pub returns-clause-value : goal.returns-clause-value
returns-clause-value c =
    let last : c.loop-k.k ≡ 16 = omega arith in
    subst (λ (k : ℕ). rotation_from k c.args.n ≡ rotation_of c.args.n) last c.loop-k.invariant

pub loop-k-preserved : goal.loop-k-preserved
loop-k-preserved c =
    let large = subst (λ (r : ℕ). 256 ≤ r) c.rotate_left.ensures c.if-rotate_left-lt256.false in
    sym (rotation_on c.loop-k.k c.args.n c.loop-k-test.true large) ∙ c.loop-k.invariant

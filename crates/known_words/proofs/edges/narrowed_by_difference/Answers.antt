use Rattle.std.proofs.Common.{◌≡◌, true, sym, subst}
use Rattle.arm2_decode.specs.Conditions.{condition_holds}
use Rattle.arm2_effect.specs.Operands.{current_in}
use Rattle.known_words.specs.Known.{IsKnown}
use Rattle.known_words.specs.Knowledge.{AreFlagsOf}
use Rattle.known_words.proofs.edges.narrowed_by_difference.Goals as goal

pub returns : goal.returns
returns c = λ entry turns now is holds.
    let word = current_in c.args.register now in
    let flags = subst (λ k. AreFlagsOf k now) c.requires holds.flags in
    let known = subst (λ k. IsKnown entry turns k word) (sym c.of.ensures) (holds.registers c.args.register flags.0) in
    c.learned.ensures entry turns now holds
    (c.by_difference.ensures entry turns word (subst (λ f. condition_holds c.args.condition f ≡ true) flags.1 is) known)

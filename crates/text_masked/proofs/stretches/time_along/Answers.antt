use Rattle.std.proofs.Common.{[], ◌∷◌, refl, subst}
use Rattle.numbered_walks.specs.declared.fault.WalkFault.{WalkFault}
use Rattle.numbered_walks.specs.Found.{IsWalkFault}
use Rattle.text_masked.specs.Held.{way_out}
use Rattle.text_masked.proofs.stretches.time_along.Goals as goal

pub returns : goal.returns
returns c =
    let n = c.in-Err-NoCompleteWalk in
    let none = subst (λ (f : WalkFault). IsWalkFault c.args.exit c.args.edges.now c.args.spans.now f) n.field-0-is n.ensures in
    absurd (none (way_out c.args.exit 0 ∷ []) (c.requires.leads_out, refl, refl))

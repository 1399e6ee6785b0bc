use Rattle.std.proofs.Common.{◌∙◌, ap, inl, inr, refl, subst, sym}
use Rattle.std.specs.Prelude.{All}
use Rattle.std.proofs.lemmas.List.{map-append}
use Rattle.std.proofs.lemmas.List.Elements.{All-push}
use Rattle.text_draft.specs.Accesses.{HasBase, RestsOnWord, places_of}
use Rattle.text_draft.specs.declared.accesses.FoundAccess.{FoundAccess}
use Rattle.text_draft.proofs.AccessLaws.{base_transfers, transfers_base}
use Rattle.text_draft.proofs.accesses.keep_access.Goals as goal

pub returns-in_default-clause-kept : goal.returns-in_default-clause-kept
returns-in_default-clause-kept c =
    inr (
      λ h. let b = transfers_base c.args.image.now c.args.at h in c.in_default.not-Some b.0 (c.base_at.ensures.only b.0 b.1),
      refl,
    )

pub returns-clause-kept : goal.returns-clause-kept
returns-clause-kept c =
    inl (
      base_transfers c.args.image.now c.args.at c.in-Some.base c.in-Some.ensures.some,
      ap (λ es. places_of es) c.in_ok-push.ensures.items ∙ map-append (λ (e : FoundAccess). e.at) c.args.found.now.items _,
    )

pub returns-clause-bases : goal.returns-clause-bases
returns-clause-bases c = λ all.
    let P = λ (e : FoundAccess). HasBase c.args.image.now e.at e.base in
    subst (All P) (sym c.in_ok-push.ensures.items) (All-push P c.args.found.now.items _ all c.in-Some.ensures.some)

pub returns-clause-rest : goal.returns-clause-rest
returns-clause-rest c = λ all e.
    let P = λ (e : FoundAccess). RestsOnWord c.args.image.now e.at e.class in
    subst (All P) (sym c.in_ok-push.ensures.items) (All-push P c.args.found.now.items _ (all e) (c.class_at-class.ensures e))

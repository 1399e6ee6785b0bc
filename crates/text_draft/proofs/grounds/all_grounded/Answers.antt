use Rattle.std.proofs.Common.{◌∙◌, ◌++◌, ◌∷◌, [], ap, refl, subst, sym}
use Rattle.std.specs.Prelude.{All, map}
use Rattle.std.proofs.lemmas.List.{map-append}
use Rattle.std.proofs.lemmas.List.Elements.{All-nil, All-push}
use Rattle.text_draft.specs.Grounds.{IsGround, plain}
use Rattle.text_draft.proofs.Mapped.{mapped_all, mapped_more, mapped_none}
use Rattle.text_draft.proofs.grounds.all_grounded.Goals as goal

pub loop-access-init : goal.loop-access-init
loop-access-init c = record {
  same = mapped_none plain c.args.accesses.now (map plain c.new-found.result.items) (ap (map plain) c.new-found.ensures.items);
  grounds = rw c.new-found.ensures.items (All-nil (IsGround c.args.image.now c.args.claims.now));
}

pub loop-access-preserved : goal.loop-access-preserved
loop-access-preserved c =
    let P = IsGround c.args.image.now c.args.claims.now in
    let old = c.loop-access.found.items in
    record {
      same = mapped_more plain c.args.accesses.now c.loop-access.access-index _ _ (map plain old) _ _ c.loop-access.invariant.same c.loop-access-test.true refl
          (ap (map plain) c.in_ok-push.ensures.items ∙ map-append plain old _ ∙ ap (λ x. map plain old ++ x ∷ []) c.grounded.ensures.same);
      grounds = subst (All P) (sym c.in_ok-push.ensures.items) (All-push P old _ c.loop-access.invariant.grounds c.grounded.ensures.basis);
    }

pub returns : goal.returns
returns c = record {
  same = mapped_all plain c.args.accesses.now c.loop-access.access-index (map plain c.loop-access.found.items) _ c.loop-access.invariant.same c.loop-access-test.false;
  grounds = c.loop-access.invariant.grounds;
}

use Rattle.std.proofs.Common.{◌∙◌, ap, subst, sym}
use Rattle.std.specs.List.Sorted.{IsStrictlySortedBy}
use Rattle.std.specs.Ordering.{nat_cmp}
use Rattle.text_draft.specs.Accesses.{AreUnclassed}
use Rattle.text_draft.specs.Reach.{AreReached}
use Rattle.text_draft.specs.Rules.{AreRules}
use Rattle.text_draft.specs.Targets.{ArePending, leaves_open}
use Rattle.text_draft.proofs.drafts.find_at.Goals as goal

pub returns : goal.returns
returns c =
    let words = c.args.image.now in
    let begun = c.args.begun.now in
    let addresses = c.as_slice-addresses.result.now in
    let targets = c.in_ok-targets.targets.items in
    let open_left = c.leaves_open-open_left.ensures ∙ ap (λ ts. leaves_open c.is_full-full.result begun ts) c.deref-2.ensures.value in
    let accesses = c.in_ok-accesses.accesses.items in
    record {
      addresses = addresses;
      writers = c.in_ok-writers.writers.items;
      transfers = c.in_ok-transfers.transfers.items;
      ascend = subst (IsStrictlySortedBy nat_cmp) (sym c.as_slice-addresses.ensures.value) c.requires.ascend;
      reached = subst (AreReached words begun c.args.entry) (sym c.as_slice-addresses.ensures.value) c.requires.reached;
      full_is = c.is_full-full.ensures;
      open_is = open_left;
      ends_are = c.in_ok-ends.ensures;
      writers_are = c.in_ok-writers.ensures;
      targets_are = subst (λ ws. ArePending begun ws targets) c.deref.ensures.value c.in_ok-targets.ensures;
      transfers_are = c.in_ok-transfers.ensures;
      accesses_are = subst (λ ts. AreUnclassed begun ts accesses) c.deref-3.ensures.value c.in_ok-accesses.ensures;
      rules_are = subst (λ es. AreRules words c.leaves_open-open_left.result es begun c.in_ok-rules.rules.items) c.deref-4.ensures.value c.in_ok-rules.ensures;
      candidates_are = c.in_ok-candidates.ensures;
      loops_are = c.in_ok-loops.ensures;
    }

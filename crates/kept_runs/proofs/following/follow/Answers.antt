use Rattle.std.proofs.Common.{◌+◌, ◌∙◌, ℕ, List, Option, ap, arith, length, subst, sym}
use Rattle.numbered_walks.specs.Index.{AreHeaders}
use Rattle.numbered_walks.specs.declared.span.Span.{Span}
use Rattle.walk_counts.proofs.StayLemmas.{spans_end}
use Rattle.kept_runs.specs.Following.{IsFresh}
use Rattle.kept_runs.proofs.following.follow.Goals as goal

pub headers-requires-clause-ended : goal.headers-requires-clause-ended
headers-requires-clause-ended c =
    spans_end c.args.handler.now.graph c.args.handler.now.tree c.requires.handler.tree_is c.spans.result.now (length c.places-exit.result.now) c.spans.ensures (ap length c.places-exit.ensures.value)

pub headers-requires-clause-small : goal.headers-requires-clause-small
headers-requires-clause-small c =
    let few = c.places-exit.ensures.well_formed.few in
    omega (arith, few, ap length c.places-exit.ensures.value)

pub follow_whole-requires-clause-handler : goal.follow_whole-requires-clause-handler
follow_whole-requires-clause-handler c = c.requires.handler

pub follow_whole-requires-clause-headers : goal.follow_whole-requires-clause-headers
follow_whole-requires-clause-headers c = record {
  whole = ap length c.deref.ensures.value ∙ c.in_ok-headers.ensures.0 ∙ ap (λ (n : ℕ). n + 1) (ap length c.places-exit.ensures.value);
  are =
      subst (λ (xs : List (Option Span)). AreHeaders c.args.handler.now.tree.spans xs) (sym c.deref.ensures.value)
      (subst (λ (ss : List Span). AreHeaders ss c.in_ok-headers.headers.items) c.spans.ensures c.in_ok-headers.ensures.1);
}

pub follow_whole-requires-clause-fresh : goal.follow_whole-requires-clause-fresh
follow_whole-requires-clause-fresh c =
    subst (λ (n : ℕ). IsFresh n c.in_ok-follower.follower) (ap length c.places-exit.ensures.value) c.in_ok-follower.ensures

-- How edges turn the loops that are counted.
use Rattle.std.proofs.Common.{◌≡◌, ◌≢◌, ◌∙◌, ℕ, ◌+◌, ◌<◌, ◌⊎◌, inl, inr, Bool, true, false, List, [], ◌∷◌, ◌++◌, length, get_or, Option, Some, None, refl, sym, ap, subst, arith}
use Rattle.std.specs.Prelude.{Contains, IfSome}
use Rattle.std.proofs.lemmas.List.{get_or_default}
use Rattle.std.proofs.lemmas.List.Elements.{Contains-append_left, Contains-append_right}
use Rattle.numbered_walks.specs.Index.{span_at}
use Rattle.numbered_walks.specs.Ordered.{IsOrdered, is_in}
use Rattle.numbered_walks.specs.declared.span.NumberedEdge.{NumberedEdge}
use Rattle.numbered_walks.specs.declared.span.Span.{Span}
use Rattle.numbered_walks.proofs.Members.{no_span}
use Rattle.walk_counts.specs.Spans.{turns_at_end}
use Rattle.walk_counts.proofs.StayLemmas.{edge_back, edge_from_outside, edge_in_stay}
use Rattle.control_flow.specs.Flow.{Flow}
use Rattle.loop_bounds.specs.Tree.{Tree}
use Rattle.known_words.specs.Turning.{IsTurned, turns_at}
use Rattle.known_words.specs.declared.knowledge.Knowledge.{Knowledge}
use Rattle.known_words.specs.declared.turning.Depth.{Depth}
use Rattle.known_words.specs.declared.turning.Depth.TheVariants.{Fourth, Outermost, Second, Third}
use Rattle.known_words.specs.declared.turning.Turn.{Turn}
use Rattle.known_words.specs.declared.turning.Turn.TheVariants.{Again, Begins, Stays}
use Rattle.known_places.specs.Around.{BoundFollows, NeverOver, TurnsOne, TurnsSpan, loop_at, turns_in, turns_of}
use Rattle.known_places.specs.declared.around.Around.{Around}

pub some_as : {X : Type 0} (P Q : X → Type 0) (o : Option X) → ((x : X) → P x → Q x) → IfSome o P → IfSome o Q
some_as P Q None f h = tt
some_as P Q (Some x) f h = f x h

module _ (span : Span) (counted : Bool) (edge : NumberedEdge) where
  pub begins_there : is_in span edge.from ≡ false → TurnsSpan span counted edge Begins
  begins_there out exit edges walk spans old order has in_spans is =
      (edge_from_outside exit edges spans order edge has walk span in_spans out).1

  pub again_there : span.header ≡ edge.to → is_in span edge.from ≡ true → counted ≡ true → TurnsSpan span counted edge Again
  again_there at inner is_counted exit edges walk spans old order has in_spans is =
      (edge_back exit edges spans order edge has walk span in_spans at inner).1
      ∙ ap (λ (n : ℕ). n + 1) (sym (is is_counted))

  pub stays_there : span.header ≢ edge.to → is_in span edge.to ≡ true → counted ≡ true → TurnsSpan span counted edge Stays
  stays_there other here is_counted exit edges walk spans old order has in_spans is =
      (edge_in_stay exit edges spans order edge has walk span in_spans other here).1 ∙ sym (is is_counted)

pub span_turns : (spans : List Span) (edge : NumberedEdge) (before : Option ℕ) (number : ℕ) (counted : Bool) (turn : Turn)
    → number < length spans → (counted ≡ true → before ≡ Some number) → TurnsSpan (span_at spans number) counted edge turn
    → TurnsOne spans edge before (Some number) turn
span_turns spans edge before number counted turn inside same turns exit edges walk order has =
    turns exit edges walk spans (turns_of spans before walk) order has
    (number, inside, get_or_default spans number (span_at spans number) no_span inside)
    (λ is_counted. ap (λ (o : Option ℕ). turns_of spans o walk) (same is_counted))

pub turns_of_depth : (spans : List Span) (depth : Depth) (around : Around) (walk : List NumberedEdge)
    → turns_at depth (turns_in spans around walk) ≡ turns_of spans (loop_at depth around) walk
turns_of_depth spans Outermost around walk = refl
turns_of_depth spans Second around walk = refl
turns_of_depth spans Third around walk = refl
turns_of_depth spans Fourth around walk = refl

module _ (flow : Flow) (tree : Tree) (around : List Around) (known : List Knowledge) (trusted more : List ℕ) (k : ℕ) where
  pub bound_before : BoundFollows flow tree around known trusted k → BoundFollows flow tree around known (trusted ++ more) k
  bound_before follows calls a place = by_case (follows calls a place)
    where
      by_case : Contains trusted a ⊎ NeverOver tree.spans around known (span_at tree.spans k)
          → Contains (trusted ++ more) a ⊎ NeverOver tree.spans around known (span_at tree.spans k)
      by_case (inl has) = inl (Contains-append_left trusted more a has)
      by_case (inr other) = inr other

  pub bound_after : BoundFollows flow tree around known more k → BoundFollows flow tree around known (trusted ++ more) k
  bound_after follows calls a place = by_case (follows calls a place)
    where
      by_case : Contains more a ⊎ NeverOver tree.spans around known (span_at tree.spans k)
          → Contains (trusted ++ more) a ⊎ NeverOver tree.spans around known (span_at tree.spans k)
      by_case (inl has) = inl (Contains-append_right trusted more a has)
      by_case (inr other) = inr other

-- What a run does at each address, and the rows where it and a walk differ.
use Rattle.std.proofs.Common.{◌≡◌, ◌∙◌, ℕ, ◌+◌, ◌-◌, ◌*◌, ◌<◌, Bool, true, false, cond, eqb, List, [], ◌∷◌, ◌++◌, append-nil, append_assoc, length, get_or, take, Bor, Option, Some, None, Vec, ⊎_elim, refl, sym, ap, subst, arith, add-one}
use Rattle.std.specs.Prelude.{All, ◌&&◌, flat_map, sum_by, if◌then◌else◌}
use Rattle.std.specs.List.{range_with_len}
use Rattle.std.proofs.lemmas.Bool.{cases_Bool, false≢true}
use Rattle.std.specs.Global.{Global}
use Rattle.std.proofs.lemmas.List.{flat_map_more, get_or_default, length-append, take_more}
use Rattle.std.proofs.lemmas.List.Elements.{All-head, All-tail}
use Rattle.std.proofs.lemmas.List.Sums.{sum_by-cons, sum_by_push}
use Rattle.text_explained.specs.Taken.{IsTally as IsWalkTally, is_at}
use Rattle.text_explained.specs.declared.walk_tally.WalkTally.{WalkTally}
use Rattle.control_flow.specs.Flow.{Flow}
use Rattle.control_flow.specs.Places.{place_at}
use Rattle.control_flow.specs.declared.edges.Edge.{Edge}
use Rattle.control_flow.specs.declared.places.Place.{Place}
use Rattle.control_flow.specs.declared.places.Place.TheVariants.{Exit}
use Rattle.kept_runs.specs.Passing as passing
use Rattle.kept_runs.specs.Passing.{IsTally, Pass, passed_at}
use Rattle.kept_runs.specs.declared.tally.Passed.{Passed}
use Rattle.image.specs.Image.{Words}
use Rattle.walk_counts.specs.Counts.{capped}
use Rattle.walk_counts.proofs.SumLemmas.{picked, range_push, same_sums, sum_none}
use Rattle.statement.specs.Stated.{Stated}
use Rattle.follow_reports.specs.declared.differences.Compared.{Compared}
use Rattle.follow_reports.specs.declared.differences.Difference.{Difference}
use Rattle.follow_reports.specs.declared.differences.Numbers.{Numbers}
use Rattle.follow_reports.specs.declared.differences.RunTally.{RunTally}
use Rattle.asm_text.specs.Appended.{Appends}
use Rattle.text_rows.specs.WordLines.{Numbered}
use Rattle.assembler.specs.declared.placed_line.PlacedLine.{PlacedLine}
use Rattle.text_rows.specs.Rows.{AreRows}
use Rattle.sources.specs.Lines.{line_of}
use Rattle.sources.specs.declared.read.Source.{Source}
use Rattle.sources.specs.declared.read.SourceText.{SourceText}
use Rattle.sources.specs.declared.read.SourceText.TheVariants.{Lines, Image}
use Rattle.follow_reports.specs.declared.differences.Cause.{Cause}
use Rattle.follow_reports.specs.DifferenceText.{IsDifferenceRow, IsEnd, cause_row, compared_text, lines_in}
use Rattle.std.specs.List.Sorted.{IsPermutation, IsSortedByKey, IsStableByKey}
use Rattle.text_explained.specs.declared.pricing.Pricing.{Pricing}
use Rattle.text_savings.specs.Savings.{falling}
use Rattle.follow_reports.specs.Differences.{Adds, AreDifferences, HasAdded, IsListed, compared_in, differences_at, ticks_apart, capped_run_at, in_all, numbers_of, tallied, capped_at, with_place}
use Rattle.walks.proofs.SumLe.{sum_by-both}

-- ## Sums over places

split_term : (at own : Bool) (w s : ℕ) → cond at (cond own w 0 + s) 0 ≡ cond own 1 0 * cond at w 0 + cond at s 0
split_term true true w s = omega arith
split_term true false w s = omega arith
split_term false true w s = omega arith
split_term false false w s = omega arith

none_there : (at : Bool) (n : ℕ) → n ≡ 0 → cond at n 0 ≡ 0
none_there true n is = is
none_there false n is = refl

-- what the steps are at each place that is met, is what the steps that are met are
by_places : (at : ℕ → Bool) (weight : Pass → ℕ) (n : ℕ) (passes : List Pass) → All (λ p. p.place < n) passes
    → sum_by (λ k. cond (at k) (sum_by (λ p. cond (eqb p.place k) (weight p) 0) passes) 0) (range_with_len 0 n) ≡ sum_by (λ p. cond (at p.place) (weight p) 0) passes
by_places at weight n [] inside =
    same_sums (λ k. cond (at k) 0 0) (λ k. 0) n 0 (λ k low high. none_there (at k) 0 refl) ∙ sum_none (range_with_len 0 n)
by_places at weight n (p ∷ passes) inside =
    let here : p.place < n = All-head (λ q. q.place < n) p passes inside in
    let rest = by_places at weight n passes (All-tail (λ q. q.place < n) p passes inside) in
    let own = λ (k : ℕ). cond (eqb p.place k) 1 0 * cond (at k) (weight p) 0 in
    let others = λ (k : ℕ). cond (at k) (sum_by (λ q. cond (eqb q.place k) (weight q) 0) passes) 0 in
    let split : sum_by (λ k. cond (at k) (sum_by (λ q. cond (eqb q.place k) (weight q) 0) (p ∷ passes)) 0) (range_with_len 0 n) ≡ sum_by (λ k. own k + others k) (range_with_len 0 n) =
    same_sums (λ k. cond (at k) (sum_by (λ q. cond (eqb q.place k) (weight q) 0) (p ∷ passes)) 0) (λ k. own k + others k) n 0
    (λ k low high.
    ap (λ s. cond (at k) s 0) (sum_by-cons (λ q. cond (eqb q.place k) (weight q) 0) p passes)
    ∙ split_term (at k) (eqb p.place k) (weight p) (sum_by (λ q. cond (eqb q.place k) (weight q) 0) passes)) in
    split ∙ sum_by-both own others (range_with_len 0 n)
    ∙ (λ i. picked p.place (λ k. cond (at k) (weight p) 0) n 0 (omega arith) (omega (arith, here)) i + rest i)
    ∙ sym (sum_by-cons (λ q. cond (at q.place) (weight q) 0) p passes)

-- ## Tallies

pub same_numbers : (m n : Numbers) → m.passes ≡ n.passes → m.done ≡ n.done → m.ticks ≡ n.ticks → m ≡ n
same_numbers m n passes done ticks = λ i. record { passes = passes i; done = done i; ticks = ticks i }

one_of_both : (a b : Bool) → ◌≡◌ {A = ℕ} (cond (a && b) 1 0) (cond a (cond b 1 0) 0)
one_of_both true b = refl
one_of_both false b = refl

module _ (flow : Flow) (passes : List Pass) (by_place : List Passed) (t : RunTally) (added : HasAdded flow.places by_place (length flow.places) t) (tally : IsTally flow passes by_place) where
  -- a number of each place, as the steps have it
  all_of : (number : Passed → ℕ) (a : ℕ)
      → in_all flow.places by_place number (length flow.places) a
      ≡ sum_by (λ k. cond (is_at a (place_at flow.places k)) (number (passed_at passes k)) 0) (range_with_len 0 (length flow.places))
  all_of number a =
      same_sums (λ k. cond (is_at a (place_at flow.places k)) (number (get_or by_place k passing.nothing)) 0)
      (λ k. cond (is_at a (place_at flow.places k)) (number (passed_at passes k)) 0) (length flow.places) 0
      (λ k low high. ap (λ p. cond (is_at a (place_at flow.places k)) (number p) 0) (tally.each k (omega (arith, high))))

  run_capped : (a : ℕ) → tallied t a ≡ capped_run_at flow passes a
  run_capped a =
      added a
      ∙ same_numbers _ (capped_run_at flow passes a)
      (ap capped (all_of (λ p. p.passes) a ∙ by_places (λ k. is_at a (place_at flow.places k)) (λ p. 1) (length flow.places) passes tally.inside))
      (ap capped
      (all_of (λ p. p.done) a
      ∙ (λ i. sum_by (λ k. cond (is_at a (place_at flow.places k)) (sum_by (λ p. one_of_both (eqb p.place k) p.done i) passes) 0) (range_with_len 0 (length flow.places)))
      ∙ by_places (λ k. is_at a (place_at flow.places k)) (λ p. cond p.done 1 0) (length flow.places) passes tally.inside
      ∙ sym (λ i. sum_by (λ p. one_of_both (is_at a (place_at flow.places p.place)) p.done i) passes)))
      (ap capped (all_of (λ p. p.ticks) a ∙ by_places (λ k. is_at a (place_at flow.places k)) (λ p. p.ticks) (length flow.places) passes tally.inside))

pub same_compared : (c d : Compared) → c.run ≡ d.run → c.bound ≡ d.bound → c ≡ d
same_compared c d run bound = λ i. record { run = run i; bound = bound i }

-- the list by the tallies is the one by the run and the walk
pub listed_capped : (words : Words) (st : Stated) (flow : Flow) (walk : List Edge) (by_place : List Passed) (run : RunTally) (of_walk : WalkTally) (list : List Difference)
    → HasAdded flow.places by_place (length flow.places) run → IsWalkTally flow walk of_walk → IsListed words st flow (compared_in run of_walk) list
    → (passes : List Pass) → IsTally flow passes by_place → IsListed words st flow (capped_at flow passes walk) list
listed_capped words st flow walk by_place run of_walk list added taken listed passes tally =
    subst (λ (f : ℕ → Compared). IsListed words st flow f list) same listed
  where
    at : (a : ℕ) → compared_in run of_walk a ≡ capped_at flow passes walk a
    at a = same_compared (compared_in run of_walk a) (capped_at flow passes walk a)
        (run_capped flow passes by_place run added tally a)
        (ap numbers_of (taken a))

    same : compared_in run of_walk ≡ capped_at flow passes walk
    same = λ i a. at a i

-- ## A place more

in_all_more : (places : List Place) (by_place : List Passed) (number : Passed → ℕ) (i a : ℕ)
    → in_all places by_place number (i + 1) a ≡ in_all places by_place number i a + cond (is_at a (place_at places i)) (number (get_or by_place i passing.nothing)) 0
in_all_more places by_place number i a =
    let term = λ (k : ℕ). cond (is_at a (place_at places k)) (number (get_or by_place k passing.nothing)) 0 in
    ap (λ n. sum_by term (range_with_len 0 n)) (add-one i) ∙ ap (sum_by term) (range_push i 0) ∙ sum_by_push term (range_with_len 0 i) (0 + i)
    ∙ ap (λ k. sum_by term (range_with_len 0 i) + term k) (omega arith)

capped_on : (s m : ℕ) → capped (capped s + m) ≡ capped (s + m)
capped_on s m = omega arith

pub place_added : (places : List Place) (by_place : List Passed) (i : ℕ) (place : Place) (p : Passed) (old new : RunTally) → i < length places → place ≡ get_or places i place
    → p ≡ get_or by_place i passing.nothing → HasAdded places by_place i old → Adds place p old new → HasAdded places by_place (i + 1) new
place_added places by_place i place p old new in_places place_is p_is h adds a = ⊎_elim here elsewhere (cases_Bool (is_at a place))
  where
    sums_at : ℕ → Numbers
    sums_at n = record { passes = capped (in_all places by_place (λ q. q.passes) n a); done = capped (in_all places by_place (λ q. q.done) n a); ticks = capped (in_all places by_place (λ q. q.ticks) n a) }

    own : place ≡ place_at places i
    own = place_is ∙ get_or_default places i place Exit in_places

    number_more : (number : Passed → ℕ) → is_at a place ≡ true → in_all places by_place number (i + 1) a ≡ in_all places by_place number i a + number p
    number_more number at =
        in_all_more places by_place number i a
        ∙ ap (λ (q : Place). in_all places by_place number i a + cond (is_at a q) (number (get_or by_place i passing.nothing)) 0) (sym own)
        ∙ ap (λ (b : Bool). in_all places by_place number i a + cond b (number (get_or by_place i passing.nothing)) 0) at
        ∙ ap (λ (q : Passed). in_all places by_place number i a + number q) (sym p_is)

    number_same : (number : Passed → ℕ) → is_at a place ≡ false → in_all places by_place number (i + 1) a ≡ in_all places by_place number i a
    number_same number out =
        in_all_more places by_place number i a
        ∙ ap (λ (q : Place). in_all places by_place number i a + cond (is_at a q) (number (get_or by_place i passing.nothing)) 0) (sym own)
        ∙ ap (λ (b : Bool). in_all places by_place number i a + cond b (number (get_or by_place i passing.nothing)) 0) out
        ∙ omega arith

    here : is_at a place ≡ true → tallied new a ≡ sums_at (i + 1)
    here at =
        adds a ∙ ap (λ (b : Bool). if b then with_place (tallied old a) p else tallied old a) at
        ∙ ap (λ (n : Numbers). with_place n p) (h a)
        ∙ same_numbers _ (sums_at (i + 1))
        (capped_on (in_all places by_place (λ q. q.passes) i a) p.passes ∙ ap capped (sym (number_more (λ q. q.passes) at)))
        (capped_on (in_all places by_place (λ q. q.done) i a) p.done ∙ ap capped (sym (number_more (λ q. q.done) at)))
        (capped_on (in_all places by_place (λ q. q.ticks) i a) p.ticks ∙ ap capped (sym (number_more (λ q. q.ticks) at)))

    elsewhere : is_at a place ≡ false → tallied new a ≡ sums_at (i + 1)
    elsewhere out =
        adds a ∙ ap (λ (b : Bool). if b then with_place (tallied old a) p else tallied old a) out ∙ h a
        ∙ same_numbers _ (sums_at (i + 1))
        (ap capped (sym (number_same (λ q. q.passes) out)))
        (ap capped (sym (number_same (λ q. q.done) out)))
        (ap capped (sym (number_same (λ q. q.ticks) out)))

-- ## Rows

-- the end of a row after so many columns
pub whole_row : (lines : Option (ℕ → Option Numbered)) (d : Difference) (used : ℕ) (old mid new : List ℕ) → mid ≡ old ++ compared_text d.compared → used ≡ length mid - length old
    → Appends (IsEnd lines used d) mid new → Appends (IsDifferenceRow lines d) old new
whole_row lines d used old mid new front is adds =
    let columns = compared_text d.compared in
    let long : length mid ≡ length old + length columns = ap length front ∙ length-append old columns in
    let same : used ≡ length columns = omega (arith, is, long) in (
      columns ++ adds.0,
      (adds.0, subst (λ n. IsEnd lines n d adds.0) same adds.1, refl),
      adds.2 ∙ ap (λ (xs : List ℕ). xs ++ adds.0) front ∙ append_assoc old columns adds.0,
    )

-- by the lines of a text that are found beforehand
pub by_lines : (read : Source) (text : SourceText) (bytes : Bor (List ℕ)) (placed : Vec PlacedLine Global) (lines : ℕ → Option Numbered) (list : List Difference) (rows : List ℕ)
    → text ≡ Lines bytes placed → ((at : ℕ) → lines at ≡ line_of read at) → AreRows (IsDifferenceRow (Some lines)) list rows → AreRows (IsDifferenceRow (lines_in read text)) list rows
by_lines read text bytes placed lines list rows is are_lines are =
    subst (λ (t : SourceText). AreRows (IsDifferenceRow (lines_in read t)) list rows) (sym is)
    (subst (λ (f : ℕ → Option Numbered). AreRows (IsDifferenceRow (Some f)) list rows) (λ i x. are_lines x i) are)

-- by the words of an image
pub by_image : (read : Source) (text : SourceText) (list : List Difference) (rows : List ℕ) → text ≡ Image → AreRows (IsDifferenceRow None) list rows
    → AreRows (IsDifferenceRow (lines_in read text)) list rows
by_image read text list rows is are = subst (λ (t : SourceText). AreRows (IsDifferenceRow (lines_in read t)) list rows) (sym is) are

-- an element more of a list, each of whose elements gives some
pub mapped_more : {A B : Type 0} (f : A → List B) (xs : List A) (i : ℕ) (d : A) (mid new : List B) → i < length xs → mid ≡ flat_map f (take i xs)
    → new ≡ mid ++ f (get_or xs i d) → new ≡ flat_map f (take (i + 1) xs)
mapped_more f xs i d mid new lt before one =
    one ∙ ap (λ ys. ys ++ f (get_or xs i d)) before ∙ flat_map_more f [] (take i xs) (get_or xs i d)
    ∙ ap (flat_map f) (sym (take_more xs i d lt))

-- what is sorted is a list of the differences
pub sorted_of : (compared : ℕ → Compared) (priced : ℕ → Option Pricing) (words : Words) (found list : List Difference) → found ≡ flat_map (differences_at compared priced) words
    → IsPermutation found list → IsSortedByKey ticks_apart falling list → IsStableByKey ticks_apart falling found list → AreDifferences compared priced words list
sorted_of compared priced words found list is same ordered stable = record {
  same = subst (λ (f : List Difference). IsPermutation f list) is same;
  ordered = ordered;
  stable = subst (λ (f : List Difference). IsStableByKey ticks_apart falling f list) is stable;
}

-- a cause more
pub cause_more : (list : List Difference) (causes : List Cause) (i : ℕ) (d : Cause) (old mid new : List ℕ) → i < length causes → mid ≡ old ++ flat_map (cause_row list) (take i causes)
    → new ≡ mid ++ cause_row list (get_or causes i d) → new ≡ old ++ flat_map (cause_row list) (take (i + 1) causes)
cause_more list causes i d old mid new lt before one =
    one ∙ ap (λ xs. xs ++ cause_row list (get_or causes i d)) before ∙ flat_map_more (cause_row list) old (take i causes) (get_or causes i d)
    ∙ ap (λ cs. old ++ flat_map (cause_row list) cs) (sym (take_more causes i d lt))

-- What a walk takes of a part.
use Rattle.std.proofs.Common.{◌≡◌, ◌∙◌, ℕ, ◌+◌, ◌*◌, ◌<◌, ◌≤◌, Bool, true, false, List, [], ◌++◌, Some, add-one, append_assoc, get_or, length, suc, zero, refl, sym, ap, subst, arith, ⊎_elim}
use Rattle.std.specs.Prelude.{◌==◌, if◌then◌else◌, slice_get}
use Rattle.std.specs.BTreeMap.{BTreeMap}
use Rattle.std.specs.List.{list_any}
use Rattle.std.proofs.lemmas.Bool.{cases_Bool, false≢true}
use Rattle.std.proofs.lemmas.List.Folds.{list_any_at}
use Rattle.std.proofs.lemmas.Option.{slice_get-get_or}
use Rattle.asm_text.specs.Appended.{Appends}
use Rattle.control_flow.specs.Flow.{Flow}
use Rattle.control_flow.specs.declared.edges.Edge.{Edge}
use Rattle.control_flow.proofs.Firsts.{no_edge}
use Rattle.image.specs.Image.{Words}
use Rattle.loop_bounds.specs.Instance.{is_back_edge_of}
use Rattle.longest_walk.specs.Built.{step_at}
use Rattle.sources.specs.Lines.{AreLines}
use Rattle.sources.specs.declared.read.Source.{Source}
use Rattle.sources.proofs.RowLaws.{all_appended}
use Rattle.statement.specs.Stated.{StatedLoops}
use Rattle.statement.specs.declared.apart.ApartStretch.{ApartStretch}
use Rattle.statement.specs.declared.stated.Loop.{Loop}
use Rattle.text_rows.specs.Rows.{AreRows, section}
use Rattle.text_rows.specs.declared.line_labels.SourceLine.{SourceLine}
use Rattle.walk_counts.specs.Counts.{capped, occurrences}
use Rattle.text_explained.specs.PartSums.{loop_passes, passes_at, with_edge}
use Rattle.text_explained.specs.Sums.{AreLoopSums, AreRoutineSums, begun_row, calls_of, cost_if, is_call_to, is_called, is_in_loop, is_site, loop_sum, loops_heading, once_if, routine_row, routine_sum, routines_heading, sum_of, sum_row, sum_to}
use Rattle.text_explained.specs.Taken.{in_all}
use Rattle.text_explained.specs.declared.part_sums.PartSum.{PartSum}
use Rattle.text_explained.proofs.TallyLaws.{counts_cost, counts_not, counts_once}

abbrev count_if : Bool → ℕ → ℕ
count_if counts n = if counts then n else 0

module _ (edges walk : List Edge) (i : ℕ) (e : Edge) (count : ℕ) (e_is : e ≡ step_at edges i) (count_is : count ≡ capped (occurrences edges walk i)) where
  times_more : (begins : Edge → Bool) (b : Bool) → begins e ≡ b → capped (capped (in_all edges walk i (once_if begins)) + count_if b count) ≡ capped (in_all edges walk (i + 1) (once_if begins))
  times_more begins true is =
      counts_once edges walk i (once_if begins) count count_is (ap (λ (x : Edge). once_if begins x) (sym e_is) ∙ ap (λ b. if b then 1 else 0) is)
  times_more begins false is =
      let s = in_all edges walk i (once_if begins) in
      let none : capped (capped s + 0) ≡ capped s = omega arith in
      none ∙ counts_not edges walk i (once_if begins) (ap (λ (x : Edge). once_if begins x) (sym e_is) ∙ ap (λ b. if b then 1 else 0) is)

  ticks_more : (inside : Edge → Bool) (b : Bool) → inside e ≡ b
      → capped (capped (in_all edges walk i (cost_if inside)) + count_if b (capped (count * e.cost))) ≡ capped (in_all edges walk (i + 1) (cost_if inside))
  ticks_more inside true is =
      counts_cost edges walk i (cost_if inside) count e.cost count_is (ap (λ (x : Edge). cost_if inside x) (sym e_is) ∙ ap (λ b. if b then e.cost else 0) is)
  ticks_more inside false is =
      let s = in_all edges walk i (cost_if inside) in
      let none : capped (capped s + 0) ≡ capped s = omega arith in
      none ∙ counts_not edges walk i (cost_if inside) (ap (λ (x : Edge). cost_if inside x) (sym e_is) ∙ ap (λ b. if b then e.cost else 0) is)

  times_kept : (begins inside : Bool) (x : ℕ) (s : PartSum) → s.times ≡ capped x → (with_edge begins inside count e.cost s).times ≡ capped (capped x + count_if begins count)
  times_kept true true x s is = ap (λ t. capped (capped (t + count) + 0)) is ∙ omega arith
  times_kept true false x s is = ap (λ t. capped (t + count)) is
  times_kept false true x s is = ap (λ t. capped (t + 0)) is
  times_kept false false x s is = is ∙ omega arith

  ticks_kept : (begins inside : Bool) (x : ℕ) (s : PartSum) → s.ticks ≡ capped x
      → (with_edge begins inside count e.cost s).ticks ≡ capped (capped x + count_if inside (capped (count * e.cost)))
  ticks_kept true true x s is = ap (λ t. capped (capped (t + 0) + capped (count * e.cost))) is ∙ ap (λ t. capped (t + capped (count * e.cost))) (same x)
    where
      same : (y : ℕ) → capped (capped y + 0) ≡ capped y
      same y = omega arith
  ticks_kept false true x s is = ap (λ t. capped (t + capped (count * e.cost))) is
  ticks_kept true false x s is = ap (λ t. capped (t + 0)) is
  ticks_kept false false x s is = is ∙ omega arith

  -- an edge more
  pub sum_more : (begins inside : Edge → Bool) (old new : PartSum) → old ≡ sum_to edges walk i begins inside → new ≡ with_edge (begins e) (inside e) count e.cost old
      → new ≡ sum_to edges walk (i + 1) begins inside
  sum_more begins inside old new before is =
      let times = ap (λ (s : PartSum). s.times) is ∙ times_kept (begins e) (inside e) (in_all edges walk i (once_if begins)) old (ap (λ (s : PartSum). s.times) before)
      ∙ times_more begins (begins e) refl in
      let ticks = ap (λ (s : PartSum). s.ticks) is ∙ ticks_kept (begins e) (inside e) (in_all edges walk i (cost_if inside)) old (ap (λ (s : PartSum). s.ticks) before)
      ∙ ticks_more inside (inside e) refl in
      λ k. record { times = times k; ticks = ticks k }

pub six_parts : (old p1 p2 p3 p4 p5 p6 a b c d e new : List ℕ) → a ≡ old ++ p1 → b ≡ a ++ p2 → c ≡ b ++ p3 → d ≡ c ++ p4 → e ≡ d ++ p5 → new ≡ e ++ p6
    → new ≡ old ++ (p1 ++ (p2 ++ (p3 ++ (p4 ++ (p5 ++ p6)))))
six_parts old p1 p2 p3 p4 p5 p6 a b c d e new ia ib ic id ie inew =
    inew ∙ ap (λ xs. xs ++ p6) (ie ∙ ap (λ xs. xs ++ p5) (id ∙ ap (λ xs. xs ++ p4) (ic ∙ ap (λ xs. xs ++ p3) (ib ∙ ap (λ xs. xs ++ p2) ia)))) ∙ simp append_assoc

-- the sum of a stated loop by its number
pub numbered_sum : (apart : List ApartStretch) (loops : List Loop) (flow : Flow) (walk : List Edge) (i : ℕ) (l : Loop) (sum : PartSum) → slice_get loops i ≡ Some l
    → sum ≡ sum_of flow walk (λ (e : Edge). passes_at loops (λ (x : Loop). is_back_edge_of apart x e) i) (λ (e : Edge). passes_at loops (λ (x : Loop). is_in_loop apart x e.from) i)
    → sum ≡ loop_sum apart flow walk l
numbered_sum apart loops flow walk i l sum found is =
    is ∙ (λ j. sum_of flow walk (λ (e : Edge). loop_passes (λ (x : Loop). is_back_edge_of apart x e) (found j)) (λ (e : Edge). loop_passes (λ (x : Loop). is_in_loop apart x e.from) (found j)))

-- the row of a part
pub sum_written : (lines : BTreeMap ℕ SourceLine) (bound a : ℕ) (s t : PartSum) (old new : List ℕ) → s ≡ t → new ≡ old ++ sum_row lines bound a s
    → Appends (λ row. row ≡ sum_row lines bound a t) old new
sum_written lines bound a s t old new same is = (sum_row lines bound a t, refl, is ∙ ap (λ (u : PartSum). old ++ sum_row lines bound a u) same)

-- that of a stated loop
pub numbered_row : (lines : BTreeMap ℕ SourceLine) (bound : ℕ) (apart : List ApartStretch) (loops shown : List Loop) (flow : Flow) (walk : List Edge) (i : ℕ) (d : Loop) (sum : PartSum)
    (old new : List ℕ) → shown ≡ loops → i < length shown
    → sum ≡ sum_of flow walk (λ (e : Edge). passes_at loops (λ (x : Loop). is_back_edge_of apart x e) i) (λ (e : Edge). passes_at loops (λ (x : Loop). is_in_loop apart x e.from) i)
    → new ≡ old ++ sum_row lines bound (get_or shown i d).header sum
    → Appends (λ row. row ≡ sum_row lines bound (get_or shown i d).header (loop_sum apart flow walk (get_or shown i d))) old new
numbered_row lines bound apart loops shown flow walk i d sum old new shown_is lt sum_is is =
    let l = get_or shown i d in
    let found : slice_get loops i ≡ Some l = subst (λ (ls : List Loop). slice_get ls i ≡ Some l) shown_is (slice_get-get_or shown i d lt) in
    sum_written lines bound l.header sum (loop_sum apart flow walk l) old new (numbered_sum apart loops flow walk i l sum found sum_is) is

-- the section of loops
pub sums_whole : (source : Source) (loops : StatedLoops) (flow : Flow) (walk : List Edge) (bound : ℕ) (lines : BTreeMap ℕ SourceLine) (apart : List ApartStretch) (list : List Loop)
    (start rows shown text : List ℕ) → apart ≡ loops.apart → list ≡ loops.list → AreLines source lines → start ≡ []
    → Appends (AreRows (λ (l : Loop) (row : List ℕ). row ≡ sum_row lines bound l.header (loop_sum apart flow walk l)) list) start rows → shown ≡ rows → text ≡ section loops_heading shown
    → AreLoopSums source loops flow walk bound text
sums_whole source loops flow walk bound lines apart list start rows shown text apart_is list_is are empty adds shown_is text_is =
    let Are = λ (a : List ApartStretch) (ls : List Loop). AreRows (λ (l : Loop) (row : List ℕ). row ≡ sum_row lines bound l.header (loop_sum a flow walk l)) ls rows in
    let all : Are apart list = all_appended (AreRows (λ (l : Loop) (row : List ℕ). row ≡ sum_row lines bound l.header (loop_sum apart flow walk l)) list) start rows empty adds in
    (lines, rows, are, subst (λ (ls : List Loop). Are loops.apart ls) list_is (subst (λ (a : List ApartStretch). Are a list) apart_is all), text_is ∙ ap (section loops_heading) shown_is)

-- ## Routines

-- where nothing is called the walk calls nothing
module _ (edges walk : List Edge) (at : ℕ) (none : is_called edges at ≡ false) where
  not_one : (i : ℕ) → i < length edges → once_if (is_call_to at) (step_at edges i) ≡ 0
  not_one i lt = ⊎_elim
      (λ (yes : is_call_to at (step_at edges i) ≡ true). absurd (false≢true (sym none ∙ list_any_at (is_call_to at) edges i no_edge lt yes)))
      (λ (no : is_call_to at (step_at edges i) ≡ false). ap (λ b. if b then 1 else 0) no)
      (cases_Bool (is_call_to at (step_at edges i)))

  no_calls : (i : ℕ) → i ≤ length edges → capped (in_all edges walk i (once_if (is_call_to at))) ≡ 0
  no_calls zero le = refl
  no_calls (suc i) le =
      ap (λ n. capped (in_all edges walk n (once_if (is_call_to at)))) (sym (add-one i))
      ∙ sym (counts_not edges walk i (once_if (is_call_to at)) (not_one i (omega (arith, le)))) ∙ no_calls i (omega (arith, le))

module _ (lines : BTreeMap ℕ SourceLine) (flow : Flow) (walk : List Edge) (bound : ℕ) where
  by_called : (at : ℕ) (b : Bool) → is_called flow.edges at ≡ b
      → begun_row lines bound at (routine_sum flow walk at) ≡ (if b then begun_row lines bound at (routine_sum flow walk at) else [])
  by_called at true is = refl
  by_called at false is =
      ap (λ n. if n == 0 then [] else sum_row lines bound at (routine_sum flow walk at)) (no_calls flow.edges walk at is (length flow.edges) (omega arith))

  pub routine_written : (at : ℕ) (called : ℕ → ℕ → Bool) (sum : PartSum) (old new : List ℕ) → ((site n : ℕ) → called site n ≡ is_site flow.edges n site)
      → sum ≡ sum_of flow walk (is_call_to at) (λ (e : Edge). list_any (λ call. called call at) (calls_of e.from)) → new ≡ old ++ begun_row lines bound at sum
      → Appends (λ row. row ≡ routine_row lines flow walk bound at) old new
  routine_written at called sum old new sites_are sum_is is =
      let own : sum ≡ routine_sum flow walk at = sum_is ∙ (λ i. sum_of flow walk (is_call_to at) (λ (e : Edge). list_any (λ call. sites_are call at i) (calls_of e.from))) in (
        routine_row lines flow walk bound at,
        refl,
        is ∙ ap (λ (s : PartSum). old ++ begun_row lines bound at s) own ∙ ap (λ row. old ++ row) (by_called at (is_called flow.edges at) refl),
      )

  -- the section of routines
  pub routines_whole : (source : Source) (words list : Words) (start rows shown text : List ℕ) → list ≡ words → AreLines source lines → start ≡ []
      → Appends (AreRows (λ (e : ℕ × ℕ) (row : List ℕ). row ≡ routine_row lines flow walk bound e.0) list) start rows → shown ≡ rows → text ≡ section routines_heading shown
      → AreRoutineSums source words flow walk bound text
  routines_whole source words list start rows shown text list_is are empty adds shown_is text_is =
      let Are = λ (ws : Words). AreRows (λ (e : ℕ × ℕ) (row : List ℕ). row ≡ routine_row lines flow walk bound e.0) ws rows in
      let all : Are list = all_appended (AreRows (λ (e : ℕ × ℕ) (row : List ℕ). row ≡ routine_row lines flow walk bound e.0) list) start rows empty adds in
      (lines, rows, are, subst Are list_is all, text_is ∙ ap (section routines_heading) shown_is)

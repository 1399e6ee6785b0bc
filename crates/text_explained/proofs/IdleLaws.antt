-- Entries of a statement without effect.
use Rattle.std.proofs.Common.{◌≡◌, ◌≢◌, ◌∙◌, ℕ, ◌<◌, ◌≤◌, codes, Bool, true, false, List, [], ◌∷◌, ◌++◌, length, get_or, append-nil, append_assoc, refl, sym, ap, subst, arith, inl, inr, ◌⊎◌}
use Rattle.std.specs.Prelude.{◌==◌, ◌↔◌, if◌then◌else◌, Contains, IsTrue, Some, decimal}
use Rattle.std.specs.Map.{keys_of}
use Rattle.std.proofs.lemmas.Bool.{eq-eqb, false≢true, ne_eqb}
use Rattle.std.proofs.lemmas.Bool.Decides.{nat_tests}
use Rattle.control_flow.specs.Flow.{Flow}
use Rattle.control_flow.proofs.SortedLemmas.{here}
use Rattle.control_flow.specs.Edges.{HasAction}
use Rattle.control_flow.specs.Kinds.{IsAction}
use Rattle.control_flow.specs.declared.actions.Action.{Action}
use Rattle.control_flow.proofs.EdgeLemmas.{one_action_at}
use Rattle.image.specs.Image.{Words, word_of}
use Rattle.statement.specs.Stated.{Stated}
use Rattle.statement.specs.declared.apart.ApartStretch.{ApartStretch}
use Rattle.statement.specs.declared.stated.Loop.{Loop}
use Rattle.statement.specs.declared.stated.BaseRule.{BaseRule}
use Rattle.text_explained.specs.Idle.{AreEntryRows, AreIdleRows, IsConditional, IsEntryRow, IsIdleRow, IsLoopRow, IsRuleRow, IsStretchRow, RuleCounts, are_together, has_condition, is_with_others, unreached_entries, entry_addresses, count_unreached, in_together_row, rule_row, together_row, together_words}
use Rattle.text_explained.specs.Leaving.{is_carried_out}
use Rattle.text_explained.specs.RuleParts.{AreDoneCoverages}
use Rattle.text_explained.specs.Rules.{IsDoneCoverage}
use Rattle.text_explained.specs.Taken.{is_reached}
use Rattle.text_explained.specs.declared.idle.Entry.{Entry}
use Rattle.text_explained.specs.declared.idle.Entry.TheVariants.{Target, Access, Multiply, Branch}
use Rattle.asm_text.specs.Appended.{Appends}
use Rattle.text_rows.specs.Rows.{AreRows}

-- ## One entry

-- an entry with an effect has no row
pub counted_row : (Counts : Type 0) (shown text : List ℕ) → Counts → Appends (IsIdleRow Counts shown) text text
counted_row Counts shown text counts = (
  [],
  record { without = λ none. absurd (none counts); with_one = λ c. refl },
  sym (append-nil text),
)

-- one without has its own
pub idle_row : (Counts : Type 0) (shown old new : List ℕ) → (Counts → ⊥) → new ≡ old ++ shown → Appends (IsIdleRow Counts shown) old new
idle_row Counts shown old new none is = (shown, record { without = λ n. refl; with_one = λ c. absurd (none c) }, is)

pub not_both : (b : Bool) (Counts : Type 0) → (Counts → b ≡ true) → b ≡ false → Counts → ⊥
not_both b Counts is_done none counts = false≢true (sym none ∙ is_done counts)

pub neither : (Counts : Type 0) (with_others : Bool) → (Counts → ⊥) → with_others ≡ false → Counts ⊎ (with_others ≡ true) → ⊥
neither Counts with_others none alone (inl counts) = none counts
neither Counts with_others none alone (inr told) = false≢true (sym alone ∙ told)

-- ## Words

pub cond_decides : (words : Words) (a word : ℕ) (action : Action) (b : Bool) → word_of words a ≡ Some word → IsAction word action → b ≡ has_condition action.cond → IsTrue b ↔ IsConditional words a
cond_decides words a word action b word_is is same =
    let has : HasAction words a action = record { word = word; word_is = word_is; is = is } in (
      λ e. (action, has, sym same ∙ e),
      λ h. same ∙ ap (λ (x : Action). has_condition x.cond) (one_action_at words a action h.0 has h.1) ∙ h.2,
    )

-- ## Rules

module _ (words : Words) (st : Stated) (flow : Flow) (r : BaseRule) (n : ℕ) (covers : IsDoneCoverage words st flow r n) where
  -- a rule has an effect exactly where it covers a word
  none_covered : (RuleCounts words st flow r → ⊥) → n ≡ 0
  none_covered none = of_list covers.covered refl
    where
      of_list : (xs : List ℕ) → covers.covered ≡ xs → n ≡ 0
      of_list [] is = covers.count_is ∙ ap length is
      of_list (x ∷ xs) is = let w = (covers.each x).0 (subst (λ ys. Contains ys x) (sym is) (here x xs)) in absurd (none (x, w.0, w.1))

  some_covered : RuleCounts words st flow r → n ≢ 0
  some_covered counts zero =
      let at : Contains covers.covered counts.0 = (covers.each counts.0).1 (counts.1, counts.2) in
      let lt : at.0 < length covers.covered = at.1 in
      let is : n ≡ length covers.covered = covers.count_is in
      omega (arith, lt, is, zero)

pub rule_shown : (words : Words) (st : Stated) (flow : Flow) (counts old new : List ℕ) (k : ℕ) (d rule : BaseRule) (count : ℕ) → AreDoneCoverages words st flow counts → k < length st.rules
    → rule ≡ get_or st.rules k d → count ≡ get_or counts k 0 → new ≡ old ++ (if count == 0 then rule_row rule else []) → Appends (IsRuleRow words st flow (get_or st.rules k d)) old new
rule_shown words st flow counts old new k d rule count are lt rule_is count_is is =
    let r = get_or st.rules k d in
    let covers : IsDoneCoverage words st flow r (get_or counts k 0) = are.each k d lt in (
      (if count == 0 then rule_row rule else []),
      record {
        without = λ none. ap (λ b. if b then rule_row rule else []) (eq-eqb count 0 (count_is ∙ none_covered words st flow r (get_or counts k 0) covers none)) ∙ ap rule_row rule_is;
        with_one = λ counts_one. ap (λ b. if b then rule_row rule else []) (ne_eqb count 0 (λ zero. some_covered words st flow r (get_or counts k 0) covers counts_one (sym count_is ∙ zero)));
      },
      is,
    )

-- ## The rows

entry_rows : (words : Words) (flow : Flow) (others : ℕ → Bool) (done reached told : ℕ → Bool) (entry : Entry) (addresses stated rows : List ℕ) → done ≡ is_carried_out flow.edges → reached ≡ is_reached flow.places → told ≡ others
    → addresses ≡ stated → AreRows (IsEntryRow words done reached told entry) addresses rows → AreEntryRows words flow others entry stated rows
entry_rows words flow others done reached told entry addresses stated rows all_done all_there all_told are h =
    subst (λ (p : ℕ → Bool). AreRows (IsEntryRow words (is_carried_out flow.edges) (is_reached flow.places) p entry) stated rows) all_told
    (subst (λ (p : ℕ → Bool). AreRows (IsEntryRow words (is_carried_out flow.edges) p told entry) stated rows) all_there
    (subst (λ (p : ℕ → Bool). AreRows (IsEntryRow words p reached told entry) stated rows) all_done
    (subst (λ (xs : List ℕ). AreRows (IsEntryRow words done reached told entry) xs rows) are h)))

-- from four on there is a row
pub together_is : (n : ℕ) → 4 ≤ n → together_row n ≡ codes "  " ++ (decimal n ++ together_words)
together_is n enough =
    let are : are_together n ≡ true = grind (arith, nat_tests, enough) in
    ap (λ (b : Bool). if b then codes "  " ++ (decimal n ++ together_words) else []) are

-- what was seen of a handler, as the definitions have it
pub record HasSeen (st : Stated) (flow : Flow) (done reached : ℕ → Bool) (together : Bool) (count : ℕ) : Type 0 where
  pub is_done : (x : ℕ) → done x ≡ is_carried_out flow.edges x
  pub is_there : (x : ℕ) → reached x ≡ is_reached flow.places x
  pub count_is : count ≡ count_unreached reached (entry_addresses st)
  pub together_is : together ≡ are_together count

module _ (st : Stated) (flow : Flow) (done reached : ℕ → Bool) (together : Bool) (count : ℕ) (seen : HasSeen st flow done reached together count) where
  all_there : reached ≡ is_reached flow.places
  all_there = λ i x. seen.is_there x i

  count_whole : count ≡ unreached_entries st flow
  count_whole = seen.count_is ∙ ap (λ (p : ℕ → Bool). count_unreached p (entry_addresses st)) all_there

  all_told : is_with_others together reached ≡ in_together_row st flow
  all_told =
      ap (λ (b : Bool). is_with_others b reached) (seen.together_is ∙ ap are_together count_whole)
      ∙ ap (is_with_others (are_together (unreached_entries st flow))) all_there

  pub all_idle : (words : Words) (loops : List Loop) (apart : List ApartStretch) (more : List Loop) (stretches : List ApartStretch) (targets accesses multiplies branches start o a b c d e f rows : List ℕ)
      → loops ≡ st.loops.list → apart ≡ st.loops.apart → more ≡ st.loops.list → stretches ≡ st.loops.apart → targets ≡ keys_of st.targets → accesses ≡ keys_of st.accesses → multiplies ≡ keys_of st.multiplies → branches ≡ keys_of st.branches → start ≡ []
      → Appends (AreRows (IsLoopRow apart flow (is_with_others together reached)) loops) start o → Appends (AreRows (IsStretchRow more) stretches) o a → Appends (AreRows (IsEntryRow words done reached (is_with_others together reached) Target) targets) a b → Appends (AreRows (IsEntryRow words done reached (is_with_others together reached) Access) accesses) b c
      → Appends (AreRows (IsRuleRow words st flow) st.rules) c d → Appends (AreRows (IsEntryRow words done reached (is_with_others together reached) Multiply) multiplies) d e → Appends (AreRows (IsEntryRow words done reached (is_with_others together reached) Branch) branches) e f
      → rows ≡ f ++ together_row count
      → AreIdleRows words st flow rows
  all_idle words loops apart more stretches targets accesses multiplies branches start o a b c d e f rows loops_are apart_is more_are stretches_are targets_are accesses_are multiplies_are branches_are none l p t s r m w last =
      let others = is_with_others together reached in
      let all_done : done ≡ is_carried_out flow.edges = λ i x. seen.is_done x i in
      let row = together_row (unreached_entries st flow) in
      let whole : rows ≡ ((((((l.0 ++ p.0) ++ t.0) ++ s.0) ++ r.0) ++ m.0) ++ w.0) ++ row =
      last ∙ ap (λ (n : ℕ). f ++ together_row n) count_whole
      ∙ ap (λ xs. xs ++ row) (w.2 ∙ ap (λ xs. xs ++ w.0) (m.2 ∙ ap (λ xs. xs ++ m.0) (r.2 ∙ ap (λ xs. xs ++ r.0) (s.2 ∙ ap (λ xs. xs ++ s.0) (t.2 ∙ ap (λ xs. xs ++ t.0) (p.2 ∙ ap (λ xs. xs ++ p.0) (l.2 ∙ ap (λ xs. xs ++ l.0) none))))))) in
      record {
        loops = l.0;
        stretches = p.0;
        targets = t.0;
        accesses = s.0;
        rules = r.0;
        multiplies = m.0;
        branches = w.0;
        are_loops =
            subst (λ (told : ℕ → Bool). AreRows (IsLoopRow st.loops.apart flow told) st.loops.list l.0) all_told
            (subst (λ (ss : List ApartStretch). AreRows (IsLoopRow ss flow others) st.loops.list l.0) apart_is (subst (λ (ls : List Loop). AreRows (IsLoopRow apart flow others) ls l.0) loops_are l.1));
        are_stretches = subst (λ (ss : List ApartStretch). AreRows (IsStretchRow st.loops.list) ss p.0) stretches_are (subst (λ (ls : List Loop). AreRows (IsStretchRow ls) stretches p.0) more_are p.1);
        are_targets = entry_rows words flow (in_together_row st flow) done reached others Target targets (keys_of st.targets) t.0 all_done all_there all_told targets_are t.1;
        are_accesses = entry_rows words flow (in_together_row st flow) done reached others Access accesses (keys_of st.accesses) s.0 all_done all_there all_told accesses_are s.1;
        are_rules = r.1;
        are_multiplies = entry_rows words flow (in_together_row st flow) done reached others Multiply multiplies (keys_of st.multiplies) m.0 all_done all_there all_told multiplies_are m.1;
        are_branches = entry_rows words flow (in_together_row st flow) done reached others Branch branches (keys_of st.branches) w.0 all_done all_there all_told branches_are w.1;
        rows_are = whole ∙ simp append_assoc;
      }

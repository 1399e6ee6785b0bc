-- The loops in which a word lies are those under the greatest cut up to it.
use Rattle.std.proofs.Common.{◌≡◌, ◌∙◌, ℕ, ◌+◌, ◌<◌, ◌≤◌, Bool, true, false, List, [], ◌∷◌, ◌++◌, Some, None, get_or, length, take, refl, sym, ap, arith, ⊎_elim}
use Rattle.std.specs.Prelude.{◌||◌, ◌&&◌, ◌==◌, Option, nat_le, nat_lt, slice_get}
use Rattle.std.specs.BTreeMap.{BTreeMap, is_at}
use Rattle.std.specs.BTreeMap.Range.{range_contains}
use Rattle.std.specs.BTreeSet.{BTreeSet, IsKeyRangeOf, contains, keys_between}
use Rattle.std.specs.List.{list_any}
use Rattle.std.specs.Ordering.{is_gt, nat_cmp}
use Rattle.std.specs.declared.ops.Bound.TheVariants.{Included, Excluded, Unbounded}
use Rattle.std.proofs.lemmas.Bool.{cases_lt, cases_eq, eq-eqb}
use Rattle.std.proofs.lemmas.Bool.Decides.{nat_tests}
use Rattle.std.proofs.lemmas.List.Folds.{list_any_more}
use Rattle.std.proofs.lemmas.Map.Keys.{any_passes_from_place, ge_from_not_lt, le_from_not_gt}
use Rattle.std.proofs.lemmas.Map.Views.{any-filter_same}
use Rattle.std.proofs.lemmas.Option.{slice_get-get_or, slice_get_past}
use Rattle.statement.specs.Stated.{lies_at, lies_within}
use Rattle.statement.specs.declared.apart.ApartStretch.{ApartStretch}
use Rattle.statement.specs.declared.stated.Loop.{Loop}
use Rattle.text_explained.specs.LoopTable.{IsLoopTable, is_cut, spans}
use Rattle.text_explained.specs.PartSums.{in_group, loop_passes, passes_at}
use Rattle.text_explained.proofs.SetLaws.{found_is, has}

-- ## Cuts

pub cut_more : (apart : List ApartStretch) (loops : List Loop) (i : ℕ) (d : Loop) → i < length loops → (old new : ℕ → Bool) (first end : ℕ)
    → first ≡ lies_at apart (get_or loops i d).first → end ≡ lies_at apart (get_or loops i d).last + 1 → ((at : ℕ) → old at ≡ list_any (is_cut apart at) (take i loops))
    → ((at : ℕ) → new at ≡ (old at || (at == first || at == end))) → (at : ℕ) → new at ≡ list_any (is_cut apart at) (take (i + 1) loops)
cut_more apart loops i d lt old new first end first_is end_is before put at =
    put at ∙ ap (λ b. b || (at == first || at == end)) (before at)
    ∙ (λ j. list_any (is_cut apart at) (take i loops) || (at == first_is j || at == end_is j))
    ∙ sym (list_any_more (is_cut apart at) loops i d lt)

-- the cuts from one number up to another
in_range : (a b q : ℕ) → range_contains nat_cmp (Included a) (Excluded b) q ≡ (nat_le a q && nat_lt q b)
in_range a b q = grind (arith, nat_tests)

same_number : (a b at k : ℕ) → is_at (nat_cmp at) k ≡ true → range_contains nat_cmp (Included a) (Excluded b) k ≡ (nat_le a at && nat_lt at b)
same_number a b at k is = ⊎_elim
    (λ (e : at ≡ k). in_range a b k ∙ ap (λ m. nat_le a m && nat_lt m b) (sym e))
    (λ (ne : at ≡ k → ⊥). absurd (ne (grind (arith, nat_tests, found_is at k, is))))
    (cases_eq at k)

and_swapped : (x y : Bool) → (x && y) ≡ (y && x)
and_swapped true true = refl
and_swapped true false = refl
and_swapped false true = refl
and_swapped false false = refl

pub cuts_between : (cuts : BTreeSet ℕ) (a b at : ℕ) → has (keys_between nat_cmp (Included a) (Excluded b) cuts) at ≡ (contains nat_cmp cuts at && (nat_le a at && nat_lt at b))
cuts_between cuts a b at =
    any-filter_same (is_at (nat_cmp at)) (range_contains nat_cmp (Included a) (Excluded b)) (nat_le a at && nat_lt at b) (same_number a b at) cuts.keys
    ∙ and_swapped (nat_le a at && nat_lt at b) (contains nat_cmp cuts at)

none_between : (a b at : ℕ) → b ≤ a → (nat_le a at && nat_lt at b) ≡ false
none_between a b at le = grind (arith, nat_tests)

pub no_cut_between : (old c x : Bool) (a b at : ℕ) → b ≤ a → old ≡ (old || ((c && (nat_le a at && nat_lt at b)) && x))
no_cut_between old c x a b at le = without old c x ∙ ap (λ s. old || ((c && s) && x)) (sym (none_between a b at le))
  where
    without : (old c x : Bool) → old ≡ (old || ((c && false) && x))
    without true c x = refl
    without false true x = refl
    without false false x = refl

-- a loop under a cut more
pub noted_next : (old new target : ℕ → ℕ → Bool) (k number : ℕ) (left rest : List ℕ) → left ≡ k ∷ rest
    → ((at n : ℕ) → (old at n || (has left at && (n == number))) ≡ target at n)
    → ((at n : ℕ) → new at n ≡ (old at n || (at == k && n == number))) → (at n : ℕ) → (new at n || (has rest at && (n == number))) ≡ target at n
noted_next old new target k number left rest left_is before put at n =
    ap (λ b. b || (has rest at && (n == number))) (put at n) ∙ sym (parted (old at n) (at == k) (has rest at) (n == number))
    ∙ ap (λ b. old at n || ((b || has rest at) && (n == number))) (sym (found_is at k))
    ∙ ap (λ ks. old at n || (has ks at && (n == number))) (sym left_is) ∙ before at n
  where
    parted : (a e r t : Bool) → (a || ((e || r) && t)) ≡ ((a || (e && t)) || (r && t))
    parted true e r t = refl
    parted false true r true = refl
    parted false true true false = refl
    parted false true false false = refl
    parted false false r t = refl

-- ## Groups

module _ (apart : List ApartStretch) (loops : List Loop) (cuts : BTreeSet ℕ) where
  -- the first loops are under their cuts
  abbrev pub grouped_to : (count : ℕ) → (at n : ℕ) → Bool
  grouped_to count at n = contains nat_cmp cuts at && (nat_lt n count && passes_at loops (spans apart at) n)

  module _ (i : ℕ) (d : Loop) (lt : i < length loops) (first end : ℕ) (first_is : first ≡ lies_at apart (get_or loops i d).first)
      (end_is : end ≡ lies_at apart (get_or loops i d).last + 1) where
    abbrev l : Loop
    l = get_or loops i d

    span_is : (at n : ℕ) → n ≡ i → passes_at loops (spans apart at) n ≡ (nat_le first at && nat_lt at end)
    span_is at n e =
        let found : slice_get loops n ≡ Some l = ap (slice_get loops) e ∙ slice_get-get_or loops i d lt in
        let same : (nat_le (lies_at apart l.first) at && nat_le at (lies_at apart l.last)) ≡ (nat_le (lies_at apart l.first) at && nat_lt at (lies_at apart l.last + 1)) = grind (arith, nat_tests) in
        ap (loop_passes (spans apart at)) found ∙ same ∙ (λ j. nat_le (sym first_is j) at && nat_lt at (sym end_is j))

    joins : (c b p s m : Bool) → b ≡ true → m ≡ false → ((c && (b && p)) || ((c && s) && m)) ≡ (c && (true && p))
    joins true b true s m bt mf = (λ j. (bt j && true) || (s && mf j)) ∙ refl
    joins true b false s m bt mf = (λ j. (bt j && false) || (s && mf j)) ∙ no s
      where
        no : (s : Bool) → (s && false) ≡ false
        no true = refl
        no false = refl
    joins false b p s m bt mf = refl

    turns : (c b p s m : Bool) → b ≡ false → m ≡ true → p ≡ s → ((c && (b && p)) || ((c && s) && m)) ≡ (c && (true && p))
    turns true b p true m bf mt ps = (λ j. (bf j && p) || mt j) ∙ sym ps
    turns true b p false m bf mt ps = (λ j. (bf j && p) || false) ∙ sym ps
    turns false b p s m bf mt ps = refl

    stays : (c b p s m : Bool) → b ≡ false → m ≡ false → ((c && (b && p)) || ((c && s) && m)) ≡ (c && (false && p))
    stays true b p true m bf mf = λ j. (bf j && p) || mf j
    stays true b p false m bf mf = λ j. (bf j && p) || false
    stays false b p s m bf mf = refl

    pub grouped_more : (old new : ℕ → ℕ → Bool) → ((at n : ℕ) → old at n ≡ grouped_to i at n)
        → ((at n : ℕ) → new at n ≡ (old at n || ((contains nat_cmp cuts at && (nat_le first at && nat_lt at end)) && n == i)))
        → (at n : ℕ) → new at n ≡ grouped_to (i + 1) at n
    grouped_more old new before put at n = put at n ∙ ap (λ b. b || ((c && s) && n == i)) (before at n) ∙ ⊎_elim
        (λ (less : n < i). joins c (nat_lt n i) p s (n == i) (grind (arith, nat_tests)) (grind (arith, nat_tests)) ∙ ap (λ b. c && (b && p)) (later (omega arith)))
        (λ (le : i ≤ n). ⊎_elim
        (λ (e : n ≡ i). turns c (nat_lt n i) p s (n == i) (grind (arith, nat_tests)) (eq-eqb n i e) (span_is at n e) ∙ ap (λ b. c && (b && p)) (later (omega arith)))
        (λ (ne : n ≡ i → ⊥). let past : i + 1 ≤ n = omega arith in stays c (nat_lt n i) p s (n == i) (grind (arith, nat_tests)) (grind (arith, nat_tests)) ∙ ap (λ b. c && (b && p)) (never past))
        (cases_eq n i))
        (cases_lt n i)
      where
        c : Bool
        c = contains nat_cmp cuts at

        s : Bool
        s = nat_le first at && nat_lt at end

        p : Bool
        p = passes_at loops (spans apart at) n

        later : n < i + 1 → true ≡ nat_lt n (i + 1)
        later lt1 = grind (arith, nat_tests)

        never : i + 1 ≤ n → false ≡ nat_lt n (i + 1)
        never le1 = grind (arith, nat_tests)

  pub grouped_all : (old : ℕ → ℕ → Bool) (count : ℕ) → length loops ≤ count → ((at n : ℕ) → old at n ≡ grouped_to count at n)
      → (at n : ℕ) → old at n ≡ (contains nat_cmp cuts at && passes_at loops (spans apart at) n)
  grouped_all old count le are at n = are at n ∙ ap (λ b. contains nat_cmp cuts at && b) (whole (slice_get loops n) refl)
    where
      whole : (o : Option Loop) → slice_get loops n ≡ o → (nat_lt n count && passes_at loops (spans apart at) n) ≡ passes_at loops (spans apart at) n
      whole o is = ⊎_elim
          (λ (less : n < count). let yes : nat_lt n count ≡ true = grind (arith, nat_tests) in ap (λ b. b && passes_at loops (spans apart at) n) yes)
          (λ (past : count ≤ n).
          let no : nat_lt n count ≡ false = grind (arith, nat_tests) in
          let none : slice_get loops n ≡ None = slice_get_past loops n (omega arith) in
          ap (λ b. b && passes_at loops (spans apart at) n) no ∙ ap (loop_passes (spans apart at)) (sym none))
          (cases_lt n count)

-- ## Looking up

module _ (apart : List ApartStretch) (loops : List Loop) (cuts : BTreeSet ℕ) (groups : BTreeMap ℕ (BTreeSet ℕ)) (table : IsLoopTable apart loops cuts groups) (word : ℕ) where
  ends : (n : ℕ) (l : Loop) (at : ℕ) → slice_get loops n ≡ Some l → is_cut apart at l ≡ true → contains nat_cmp cuts at ≡ true
  ends n l at is met = table.cut at ∙ any_passes_from_place (is_cut apart at) loops n l is met

  begins : (n : ℕ) (l : Loop) → slice_get loops n ≡ Some l → contains nat_cmp cuts (lies_at apart l.first) ≡ true
  begins n l is = ends n l (lies_at apart l.first) is (ap (λ b. b || lies_at apart l.first == lies_at apart l.last + 1) (eq-eqb (lies_at apart l.first) (lies_at apart l.first) refl))

  or_true : (b : Bool) → (b || true) ≡ true
  or_true true = refl
  or_true false = refl

  stops : (n : ℕ) (l : Loop) → slice_get loops n ≡ Some l → contains nat_cmp cuts (lies_at apart l.last + 1) ≡ true
  stops n l is = ends n l (lies_at apart l.last + 1) is
      (ap (λ b. (lies_at apart l.last + 1) == lies_at apart l.first || b) (eq-eqb (lies_at apart l.last + 1) (lies_at apart l.last + 1) refl) ∙ or_true ((lies_at apart l.last + 1) == lies_at apart l.first))

  -- the greatest cut up to the word
  module _ (cut : ℕ) (up : cut ≤ word) (known : contains nat_cmp cuts cut ≡ true) (greatest : (q : ℕ) → q ≤ word → contains nat_cmp cuts q ≡ true → q ≤ cut) where
    alike : (first last : ℕ) → (first ≤ word → first ≤ cut) → (last + 1 ≤ word → last + 1 ≤ cut) → (nat_le first cut && nat_le cut last) ≡ (nat_le first word && nat_le word last)
    alike first last from to = λ j. from_first j && to_last j
      where
        from_first : nat_le first cut ≡ nat_le first word
        from_first = ⊎_elim
            (λ (out : word < first). let over : cut < first = omega arith in grind (arith, nat_tests))
            (λ (within : first ≤ word). let under = from within in grind (arith, nat_tests))
            (cases_lt word first)

        to_last : nat_le cut last ≡ nat_le word last
        to_last = ⊎_elim
            (λ (out : last < word). let past : last + 1 ≤ word = omega arith in let over = to past in grind (arith, nat_tests))
            (λ (within : word ≤ last). let under : cut ≤ last = omega arith in grind (arith, nat_tests))
            (cases_lt last word)

    by_loop : (n : ℕ) (o : Option Loop) → slice_get loops n ≡ o → loop_passes (spans apart cut) o ≡ loop_passes (spans apart word) o
    by_loop n None is = refl
    by_loop n (Some l) is =
        alike (lies_at apart l.first) (lies_at apart l.last) (λ le. greatest (lies_at apart l.first) le (begins n l is)) (λ le. greatest (lies_at apart l.last + 1) le (stops n l is))

    pub at_cut : (n : ℕ) → in_group groups cut n ≡ passes_at loops (spans apart word) n
    at_cut n = table.each cut n ∙ ap (λ b. b && passes_at loops (spans apart cut) n) known ∙ by_loop n (slice_get loops n) refl

  true_false : true ≡ false → ⊥
  true_false h = grind (arith, h)

  unspanned : ((q : ℕ) → q ≤ word → contains nat_cmp cuts q ≡ false) → (n : ℕ) (o : Option Loop) → slice_get loops n ≡ o → loop_passes (spans apart word) o ≡ false
  unspanned none n None is = refl
  unspanned none n (Some l) is = ⊎_elim
      (λ (out : word < lies_at apart l.first).
      let no : nat_le (lies_at apart l.first) word ≡ false = grind (arith, nat_tests) in ap (λ b. b && nat_le word (lies_at apart l.last)) no)
      (λ (within : lies_at apart l.first ≤ word). absurd (true_false (sym (begins n l is) ∙ none (lies_at apart l.first) within)))
      (cases_lt word (lies_at apart l.first))

  pub before_cuts : ((q : ℕ) → q ≤ word → contains nat_cmp cuts q ≡ false) → (n : ℕ) → passes_at loops (spans apart word) n ≡ false
  before_cuts none n = unspanned none n (slice_get loops n) refl

pub not_past : (q word : ℕ) → q ≤ word → is_gt (nat_cmp q word) ≡ false
not_past q word le = grind (arith, nat_tests)

-- what the table says of the word at an address
module _ (apart : List ApartStretch) (loops : List Loop) (cuts : BTreeSet ℕ) (groups : BTreeMap ℕ (BTreeSet ℕ)) (table : IsLoopTable apart loops cuts groups) (address word : ℕ)
    (word_is : word ≡ lies_at apart address) (r : List ℕ) (range : IsKeyRangeOf nat_cmp Unbounded (Included word) cuts r) where
  abbrev within : ℕ → Bool
  within n = passes_at loops (λ (l : Loop). lies_within apart l.first address l.last) n

  at_word : (n : ℕ) → passes_at loops (spans apart word) n ≡ within n
  at_word n = ap (λ w. passes_at loops (spans apart w) n) word_is

  pub under_cut : (cut : ℕ) (t : List ℕ) → r ≡ t ++ cut ∷ [] → (old new : ℕ → Bool) → ((n : ℕ) → new n ≡ (old n || in_group groups cut n))
      → (n : ℕ) → new n ≡ (old n || within n)
  under_cut cut t last old new put n =
      let here = range.3 cut t last in
      let greatest = λ (q : ℕ) (le : q ≤ word) (known : contains nat_cmp cuts q ≡ true). ge_from_not_lt cut q (range.4 cut t last q (tt, not_past q word le) known) in
      put n ∙ ap (λ b. old n || b) (at_cut apart loops cuts groups table word cut (le_from_not_gt cut word here.0.1) here.1 greatest n ∙ at_word n)

  or_false : (b : Bool) → b ≡ (b || false)
  or_false true = refl
  or_false false = refl

  pub under_none : r ≡ [] → (old : ℕ → Bool) → (n : ℕ) → old n ≡ (old n || within n)
  under_none none old n =
      or_false (old n)
      ∙ ap (λ b. old n || b) (sym (before_cuts apart loops cuts groups table word (λ q le. range.5 none q (tt, not_past q word le)) n) ∙ at_word n)

-- How many words each rule for a base register covers.
use Rattle.std.proofs.Common.{◌≡◌, ◌∙◌, ℕ, ◌+◌, ◌<◌, ◌≤◌, ◌^◌, Bool, true, false, List, [], ◌∷◌, ◌++◌, append_assoc, length, length-append, get_or, take, replicate, ◌⊎◌, AllPairs, cond, ltb, min, Option, Some, None, inl, inr, ⊎_elim, refl, sym, ap, subst, arith}
use Rattle.std.specs.Prelude.{◌↔◌, Contains, IfSome, is_some, nat_eq}
use Rattle.std.specs.BTreeSet.{BTreeSet, contains}
use Rattle.std.specs.List.{position, position_or_len}
use Rattle.std.specs.List.Sorted.{IsStrictlySortedBy}
use Rattle.std.specs.Map.{lookup}
use Rattle.std.specs.Ordering.{nat_cmp}
use Rattle.std.proofs.lemmas.Bool.{cases_Bool, cases_eq, cases_lt, false≢true, lt-ltb}
use Rattle.std.proofs.lemmas.Cmp.{nat_cmp_total}
use Rattle.std.proofs.lemmas.List.{get_or-replicate, get_or-set_other, get_or-set_same, get_or-take, get_or_default, get_or_past, length-replicate, length-set, length-take-le, take_all, take_more}
use Rattle.std.proofs.lemmas.List.Elements.{Contains-append_left, Contains-push, Contains-push_cases}
use Rattle.std.proofs.lemmas.List.Quantifiers.{all_pairs_push, position-Some}
use Rattle.std.proofs.lemmas.List.Sums.{position_or_len_is}
use Rattle.std.proofs.lemmas.Map.Keys.{below_from_sorted}
use Rattle.std.proofs.lemmas.Map.Lookups.{exact_unsigned}
use Rattle.std.proofs.lemmas.Map.Views.{btree_set_contains_iff}
use Rattle.arm2_decode.specs.declared.instr.Instr.{Instr}
use Rattle.arm2_decode.specs.declared.names.Register.{Register}
use Rattle.asm_text.specs.Appended.{Appends}
use Rattle.control_flow.specs.Flow.{Flow}
use Rattle.control_flow.specs.Kinds.{base_of}
use Rattle.image.specs.Image.{Words}
use Rattle.statement.specs.Stated.{ShareNoWord, Stated, is_ruled}
use Rattle.statement.specs.declared.stated.BaseRule.{BaseRule}
use Rattle.control_flow.proofs.SortedLemmas.{no_member}
use Rattle.word_shapes.specs.Words.{HasInstr}
use Rattle.text_explained.specs.Leaving.{is_carried_out}
use Rattle.text_explained.specs.RuleParts.{AreCoverages, AreDoneCoverages, IsRuleOver, counted}
use Rattle.text_explained.specs.Rules.{IsCovered, IsCoverage, IsCoverageRow, UsesBase, coverage_row}

-- ## The rule of a word

-- an index that is found lies within the list
some_index : {X : Type 0} (p : X → Bool) (xs : List X) (k : ℕ) → position p xs ≡ Some k → k < length xs
some_index p [] k is = absurd (let e : None ≡ Some k = is in cc)
some_index p (x ∷ xs) k is = (position-Some p (x ∷ xs) k x is).0

module _ (words : Words) (a : ℕ) (i : Instr) (has : HasInstr words a i) (only : (j : Instr) → HasInstr words a j → Some i ≡ Some j) where
  pub base_some : (r : Option Register) → r ≡ base_of i.operation → IfSome r (UsesBase words a)
  base_some None is = tt
  base_some (Some base) is = (i, has, sym is)

  pub base_only : (r : Option Register) → r ≡ base_of i.operation → (base : Register) → UsesBase words a base → r ≡ Some base
  base_only r is base uses =
      let both : Some i ≡ Some uses.0 = only uses.0 uses.1 in
      let same : i ≡ uses.0 = cc in
      is ∙ ap (λ (j : Instr). base_of j.operation) same ∙ uses.2

module _ (words : Words) (st : Stated) (a : ℕ) where
  pub none_over : ((r : BaseRule) → IsCovered words st r a → ⊥) → IsRuleOver words st a None
  none_over none = record {
    covers = λ k is. absurd (let e : None ≡ Some k = is in cc);
    only = λ k d lt covered. absurd (none (get_or st.rules k d) covered);
  }

  pub by_access : is_some (lookup (nat_eq a) st.accesses) ≡ true → IsRuleOver words st a None
  by_access has = none_over (λ r covered. false≢true (sym (ap is_some covered.no_access) ∙ has))

  pub by_no_base : ((base : Register) → UsesBase words a base → None ≡ Some base) → IsRuleOver words st a None
  by_no_base none = none_over (λ r covered. let e : None ≡ Some covered.base = none covered.base covered.uses in cc)

  -- no other of the rules is for the base
  the_one : AllPairs ShareNoWord st.rules → (base : Register) (k : ℕ) (d : BaseRule) → k < length st.rules → is_ruled base a (get_or st.rules k d) ≡ true → position (is_ruled base a) st.rules ≡ Some k
  the_one apart base k d lt passes =
      let p = is_ruled base a in
      let first : position_or_len p st.rules ≡ k =
      position_or_len_is p st.rules k d (omega (arith, lt))
      (λ j less. ⊎_elim (λ also. absurd (apart j k d less lt base a also passes)) (λ fails. fails) (cases_Bool (p (get_or st.rules j d))))
      (λ inside. passes) in
      ap (λ i. cond (ltb i (length st.rules)) (Some i) None) first ∙ ap (λ b. cond b (Some k) None) (lt-ltb k (length st.rules) lt)

  pub by_base : AllPairs ShareNoWord st.rules → is_some (lookup (nat_eq a) st.accesses) ≡ false → (base : Register) → UsesBase words a base → ((b : Register) → UsesBase words a b → Some base ≡ Some b)
      → (rule : Option ℕ) → rule ≡ position (is_ruled base a) st.rules → IsRuleOver words st a rule
  by_base apart free base uses only rule is = record {
    covers = λ k has.
        let there : position (is_ruled base a) st.rules ≡ Some k = sym is ∙ has in (
          some_index (is_ruled base a) st.rules k there,
          λ d. record { base = base; uses = uses; ruled = (position-Some (is_ruled base a) st.rules k d there).1; no_access = no_entry (lookup (nat_eq a) st.accesses) free },
        );
    only = λ k d lt covered.
        let both : Some base ≡ Some covered.base = only covered.base covered.uses in
        let same : covered.base ≡ base = cc in
        is ∙ the_one apart base k d lt (subst (λ (b : Register). is_ruled b a (get_or st.rules k d) ≡ true) same covered.ruled);
  }
    where
      no_entry : {X : Type 0} (found : Option X) → is_some found ≡ false → found ≡ None
      no_entry None e = refl
      no_entry (Some x) e = absurd (false≢true (sym e))

-- ## One word more

module _ (words : Words) (st : Stated) where
  -- the numbers are at most those of the words
  pub record AreCounted (among counts : List ℕ) : Type 0 where
    pub coverages : AreCoverages words st (Contains among) counts
    pub few : (k : ℕ) → get_or counts k 0 ≤ length among

  pub none_counted : (among counts : List ℕ) → among ≡ [] → counts ≡ replicate (length st.rules) 0 → AreCounted among counts
  none_counted among counts empty zeros = record {
    coverages = record {
      each_has = ap length zeros ∙ length-replicate (length st.rules) 0;
      each = λ k d lt. record {
        covered = [];
        ascending = λ i j e before below. absurd (omega (arith, below));
        each = λ a. (λ h. absurd (no_member a h), λ h. absurd (no_member a (subst (λ xs. Contains xs a) empty h.0)));
        count_is = zero_at k;
      };
    };
    few = λ k. let z : get_or counts k 0 ≡ 0 = zero_at k in omega (arith, z);
  }
    where
      nothing : ℕ → List ℕ
      nothing n = replicate n 0

      zeros_at : (n k : ℕ) → get_or (nothing n) k 0 ≡ 0
      zeros_at n k = ⊎_elim (λ lt. get_or-replicate n k 0 0 lt) (λ (ge : n ≤ k). get_or_past (nothing n) k 0 (let e : length (nothing n) ≡ n = length-replicate n 0 in omega (arith, e, ge))) (cases_lt k n)

      zero_at : (k : ℕ) → get_or counts k 0 ≡ 0
      zero_at k = ap (λ xs. get_or xs k 0) zeros ∙ zeros_at (length st.rules) k

  module _ (among counts : List ℕ) (a : ℕ) (rule : Option ℕ) (over : IsRuleOver words st a rule) (below : (x : ℕ) → Contains among x → x < a) (before : AreCounted among counts) where
    among_is : (x : ℕ) → Contains (among ++ a ∷ []) x → Contains among x ⊎ (x ≡ a)
    among_is x h = ⊎_elim (λ w. inl w) (λ same. inr (sym same)) (Contains-push_cases among a x h)

    -- a rule that does not cover it has no more
    same_coverage : (r : BaseRule) (n : ℕ) → (IsCovered words st r a → ⊥) → IsCoverage words st (Contains among) r n → IsCoverage words st (Contains (among ++ a ∷ [])) r n
    same_coverage r n none was = record {
      covered = was.covered;
      ascending = was.ascending;
      each = λ x. (
        λ h. let w = (was.each x).0 h in (Contains-append_left among (a ∷ []) x w.0, w.1),
        λ h. ⊎_elim (λ old. (was.each x).1 (old, h.1)) (λ same. absurd (none (subst (IsCovered words st r) same h.1))) (among_is x h.0),
      );
      count_is = was.count_is;
    }

    -- one that does has one more
    one_coverage : (r : BaseRule) (n : ℕ) → IsCovered words st r a → IsCoverage words st (Contains among) r n → IsCoverage words st (Contains (among ++ a ∷ [])) r (n + 1)
    one_coverage r n covers was = record {
      covered = was.covered ++ a ∷ [];
      ascending = all_pairs_push (λ x y. x < y) was.covered a was.ascending (λ k d lt. below (get_or was.covered k d) (((was.each (get_or was.covered k d)).0 (k, lt, default_free was.covered k d lt)).0));
      each = λ x. (
        λ h. ⊎_elim
            (λ old. let w = (was.each x).0 old in (Contains-append_left among (a ∷ []) x w.0, w.1))
            (λ same. (subst (Contains (among ++ a ∷ [])) same (Contains-push among a), subst (IsCovered words st r) same covers))
            (Contains-push_cases was.covered a x h),
        λ h. ⊎_elim
            (λ old. Contains-append_left was.covered (a ∷ []) x ((was.each x).1 (old, h.1)))
            (λ same. subst (Contains (was.covered ++ a ∷ [])) (sym same) (Contains-push was.covered a))
            (among_is x h.0),
      );
      count_is = let n_is : n ≡ length was.covered = was.count_is in let len : length (was.covered ++ a ∷ []) ≡ length was.covered + 1 = length-append was.covered (a ∷ []) in omega (arith, n_is, len);
    }
      where
        default_free : (xs : List ℕ) (k d : ℕ) → k < length xs → get_or xs k (get_or xs k d) ≡ get_or xs k d
        default_free xs k d lt = get_or_default xs k (get_or xs k d) d lt

    -- at a number of the list
    count_at : (k : ℕ) → k < length counts → rule ≡ Some k → get_or (counted counts rule) k 0 ≡ get_or counts k 0 + 1
    count_at k lt is = ap (λ r. get_or (counted counts r) k 0) is ∙ get_or-set_same counts k (get_or counts k 0 + 1) 0 lt

    count_beside : (k : ℕ) → (rule ≡ Some k → ⊥) → get_or (counted counts rule) k 0 ≡ get_or counts k 0
    count_beside k other = of_rule rule refl
      where
        of_rule : (r : Option ℕ) → r ≡ rule → get_or (counted counts r) k 0 ≡ get_or counts k 0
        of_rule None is = refl
        of_rule (Some j) is = get_or-set_other counts j k (get_or counts j 0 + 1) 0 (λ same. other (sym is ∙ ap Some (sym same)))

    counted_length : (r : Option ℕ) → length (counted counts r) ≡ length counts
    counted_length None = refl
    counted_length (Some j) = length-set counts j (get_or counts j 0 + 1)

    is_or_not : (k : ℕ) → (rule ≡ Some k) ⊎ (rule ≡ Some k → ⊥)
    is_or_not k = of_rule rule refl
      where
        of_rule : (r : Option ℕ) → r ≡ rule → (rule ≡ Some k) ⊎ (rule ≡ Some k → ⊥)
        of_rule None is = inr (λ some. let e : None ≡ Some k = is ∙ some in cc)
        of_rule (Some j) is = ⊎_elim (λ same. inl (sym is ∙ ap Some same)) (λ apart. inr (λ some. apart (let e : Some j ≡ Some k = is ∙ some in cc))) (cases_eq j k)

    pub one_counted : AreCounted (among ++ a ∷ []) (counted counts rule)
    one_counted = record {
      coverages = record {
        each_has = counted_length rule ∙ before.coverages.each_has;
        each = λ k d lt.
            let r = get_or st.rules k d in
            let was : IsCoverage words st (Contains among) r (get_or counts k 0) = before.coverages.each k d lt in
            ⊎_elim
            (λ is. subst (IsCoverage words st (Contains (among ++ a ∷ [])) r) (sym (count_at k (let same : length counts ≡ length st.rules = before.coverages.each_has in omega (arith, same, lt)) is))
            (one_coverage r (get_or counts k 0) ((over.covers k is).1 d) was))
            (λ other. subst (IsCoverage words st (Contains (among ++ a ∷ [])) r) (sym (count_beside k other))
            (same_coverage r (get_or counts k 0) (λ covered. other (over.only k d lt covered)) was))
            (is_or_not k);
      };
      few = λ k.
          let longer : length (among ++ a ∷ []) ≡ length among + 1 = length-append among (a ∷ []) in
          let was : get_or counts k 0 ≤ length among = before.few k in
          ⊎_elim
          (λ is. ⊎_elim
          (λ (lt : k < length counts). let now = count_at k lt is in let goal : get_or (counted counts rule) k 0 ≤ length (among ++ a ∷ []) = omega (arith, now, longer, was) in goal)
          (λ (ge : length counts ≤ k). let now : get_or (counted counts rule) k 0 ≡ 0 = get_or_past (counted counts rule) k 0 (let same : length (counted counts rule) ≡ length counts = counted_length rule in omega (arith, same, ge)) in let goal : get_or (counted counts rule) k 0 ≤ length (among ++ a ∷ []) = omega (arith, now) in goal)
          (cases_lt k (length counts)))
          (λ other. let now = count_beside k other in let goal : get_or (counted counts rule) k 0 ≤ length (among ++ a ∷ []) = omega (arith, now, longer, was) in goal)
          (is_or_not k);
    }

  -- ## All words

  -- there is room for one more
  pub fits_one : (among counts : List ℕ) (a : ℕ) (rule : Option ℕ) → IsRuleOver words st a rule → AreCounted among counts → length among + 1 < 2 ^ 64 → IfSome rule (λ k. (k < length counts) × (get_or counts k 0 + 1 < 2 ^ 64))
  fits_one among counts a None over before room = tt
  fits_one among counts a (Some k) over before room =
      let lt : k < length st.rules = (over.covers k refl).0 in
      let same : length counts ≡ length st.rules = before.coverages.each_has in
      let few : get_or counts k 0 ≤ length among = before.few k in
      (omega (arith, lt, same), omega (arith, few, room))

  -- one address more of some that ascend
  pub more_counted : (at : List ℕ) (i d : ℕ) (counts : List ℕ) (rule : Option ℕ) → IsStrictlySortedBy nat_cmp at → i < length at → IsRuleOver words st (get_or at i d) rule → AreCounted (take i at) counts → AreCounted (take (i + 1) at) (counted counts rule)
  more_counted at i d counts rule sorted lt over before =
      let more : take (i + 1) at ≡ take i at ++ get_or at i d ∷ [] = take_more at i d lt in
      subst (λ xs. AreCounted xs (counted counts rule)) (sym more)
      (one_counted (take i at) counts (get_or at i d) rule over
      (λ x h.
      let low : h.0 < i = let l : h.0 < length (take i at) = h.1 in let most : length (take i at) ≡ i = length-take-le i at (omega (arith, lt)) in omega (arith, l, most) in
      subst (λ y. y < get_or at i d) (sym (get_or-take i at h.0 x low) ∙ h.2) (let less : get_or at h.0 x < get_or at i x = below_from_sorted at h.0 i x sorted low lt in subst (λ y. get_or at h.0 x < y) (get_or_default at i x d lt) less))
      before)

  pub all_counted : (at : List ℕ) (i : ℕ) (counts : List ℕ) → length at ≤ i → AreCounted (take i at) counts → AreCoverages words st (Contains at) counts
  all_counted at i counts le h = subst (λ xs. AreCoverages words st (Contains xs) counts) (take_all i at le) h.coverages

  -- where the addresses are those of some words
  pub of_those : (P Q : ℕ → Type 0) (counts : List ℕ) → ((a : ℕ) → P a ↔ Q a) → AreCoverages words st P counts → AreCoverages words st Q counts
  of_those P Q counts same h = record {
    each_has = h.each_has;
    each = λ k d lt.
        let c = h.each k d lt in
        record {
          covered = c.covered;
          ascending = c.ascending;
          each = λ a. (λ w. let v = (c.each a).0 w in ((same a).0 v.0, v.1), λ w. (c.each a).1 ((same a).1 w.0, w.1));
          count_is = c.count_is;
        };
  }

pub done_ones : (words : Words) (st : Stated) (flow : Flow) (done : BTreeSet ℕ) (at counts : List ℕ) → at ≡ done.keys → ((a : ℕ) → contains nat_cmp done a ≡ is_carried_out flow.edges a)
    → AreCoverages words st (Contains at) counts → AreDoneCoverages words st flow counts
done_ones words st flow done at counts keys are =
    of_those words st (Contains at) (λ a. is_carried_out flow.edges a ≡ true) counts
    (λ a.
    let iff = btree_set_contains_iff nat_cmp_total exact_unsigned done a in (
      λ h. sym (are a) ∙ iff.1 (subst (λ xs. Contains xs a) keys h),
      λ h. subst (λ xs. Contains xs a) (sym keys) (iff.0 (are a ∙ h)),
    ))

-- ## Rows

-- two texts put one after the other
pub after : (old front back a b : List ℕ) → a ≡ old ++ front → b ≡ a ++ back → b ≡ old ++ (front ++ back)
after old front back a b is then = then ∙ ap (λ xs. xs ++ back) is ∙ append_assoc old front back

-- as many of both lists were taken as there are
pub zip_whole : (rules counts n : ℕ) → counts ≡ rules → n ≡ min rules counts → rules ≤ n
zip_whole rules counts n same is = omega (arith, same, is)

pub coverage_shown : (words : Words) (st : Stated) (flow : Flow) (counts old new : List ℕ) (k : ℕ) (d rule : BaseRule) (count : ℕ) → AreDoneCoverages words st flow counts → k < length st.rules
    → rule ≡ get_or st.rules k d → count ≡ get_or counts k 0 → new ≡ old ++ coverage_row rule count → Appends (IsCoverageRow words st flow (get_or st.rules k d)) old new
coverage_shown words st flow counts old new k d rule count are lt rule_is count_is is = (
  coverage_row rule count,
  (get_or counts k 0, are.each k d lt, ap (λ (r : BaseRule). coverage_row r count) rule_is ∙ ap (coverage_row (get_or st.rules k d)) count_is),
  is,
)

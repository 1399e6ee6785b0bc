-- Chains of numbers below an end hold each of these once, where each number goes on to a greater one, and no two to the same.
use Rattle.std.proofs.Common.{◌≡◌, ◌∙◌, ℕ, zero, suc, ◌+◌, ◌*◌, ◌-◌, ◌<◌, ◌≤◌, inl, inr, ⊎_elim, Bool, true, false, ◌&&◌, ◌||◌, not, cond, eqb, if◌then◌else◌, List, [], ◌∷◌, ◌++◌, append_assoc, length, get_or, get_or-set_other, get_or-set_same, flat_map, refl, sym, ap, subst, arith}
use Rattle.std.specs.Prelude.{All, count_by, sum_by}
use Rattle.std.specs.List.{list_any, range_with_len}
use Rattle.std.proofs.Math.Bool.{or-false}
use Rattle.std.proofs.Math.ListN.{set}
use Rattle.std.proofs.lemmas.Bool.{and_from, and_parts, and_right, or_right, cases_Bool, cases_lt, eq-eqb, eqb-true, ne_eqb}
use Rattle.std.proofs.lemmas.List.Concat.{flat_map-cons}
use Rattle.std.proofs.lemmas.List.Elements.{All-append, All-cons, All-nil}
use Rattle.std.proofs.lemmas.List.Folds.{Any-from_list_any, list_any-append, list_any_at}
use Rattle.std.proofs.lemmas.List.FromFn.{get_or-range_with_len, length-range_with_len}
use Rattle.std.proofs.lemmas.List.Sums.{sum_by-append, sum_by-cons}
use Rattle.walk_counts.proofs.SumLemmas.{picked, range_push, same_sums}
use Rattle.text_graph.specs.Chains.{begins, chain, first_in, last_in}

abbrev count : ℕ → List ℕ → ℕ
count k ns = count_by (λ j. eqb j k) ns

count_same : (n k : ℕ) (ns : List ℕ) → n ≡ k → count k (n ∷ ns) ≡ 1 + count k ns
count_same n k ns is = sum_by-cons (λ j. cond (eqb j k) 1 0) n ns ∙ ap (λ b. cond b 1 0 + count k ns) (eq-eqb n k is)

count_other : (n k : ℕ) (ns : List ℕ) → (n ≡ k → ⊥) → count k (n ∷ ns) ≡ count k ns
count_other n k ns differs = sum_by-cons (λ j. cond (eqb j k) 1 0) n ns ∙ ap (λ b. cond b 1 0 + count k ns) (ne_eqb n k differs) ∙ omega arith

last_more : (n x : ℕ) (xs : List ℕ) → last_in (n ∷ x ∷ xs) ≡ last_in (x ∷ xs)
last_more n x xs =
    let is : length (n ∷ x ∷ xs) - 1 ≡ suc (length (x ∷ xs) - 1) = omega arith in
    ap (λ i. get_or (n ∷ x ∷ xs) i 0) is

pub sum_by-flat_map : {X A : Type 0} (f : A → ℕ) (g : X → List A) (xs : List X) → sum_by f (flat_map g xs) ≡ sum_by (λ x. sum_by f (g x)) xs
sum_by-flat_map f g [] = refl
sum_by-flat_map f g (x ∷ xs) =
    ap (sum_by f) (flat_map-cons g x xs) ∙ sum_by-append f (g x) (flat_map g xs) ∙ ap (λ s. sum_by f (g x) + s) (sum_by-flat_map f g xs) ∙ sym (sum_by-cons (λ y. sum_by f (g y)) x xs)

module _ (goes_on : ℕ → Bool) (next : ℕ → ℕ) where
  chain_on : (m n : ℕ) → goes_on n ≡ true → chain goes_on next (suc m) n ≡ n ∷ chain goes_on next m (next n)
  chain_on m n on = ap (λ b. n ∷ (if b then chain goes_on next m (next n) else [])) on

  chain_off : (m n : ℕ) → goes_on n ≡ false → chain goes_on next (suc m) n ≡ n ∷ []
  chain_off m n off = ap (λ b. n ∷ (if b then chain goes_on next m (next n) else [])) off

  pub chain_first : (m n : ℕ) → 0 < m → first_in (chain goes_on next m n) ≡ n
  chain_first zero n some = absurd (omega (arith, some))
  chain_first (suc m) n some = refl

  pub chain_some : (m n : ℕ) → 0 < m → 0 < length (chain goes_on next m n)
  chain_some zero n some = absurd (omega (arith, some))
  chain_some (suc m) n some = omega arith

  -- each number of a chain but the last goes on to the one after it
  pub chain_goes_on : (m n i : ℕ) → i + 1 < length (chain goes_on next m n)
      → (goes_on (get_or (chain goes_on next m n) i 0) ≡ true) × (next (get_or (chain goes_on next m n) i 0) ≡ get_or (chain goes_on next m n) (i + 1) 0)
  chain_goes_on zero n i few = absurd (omega (arith, few))
  chain_goes_on (suc zero) n i few = elim (cases_Bool (goes_on n)) [
    | inl on ↦ absurd (omega (arith, few, ap length (chain_on zero n on)))
    | inr off ↦ absurd (omega (arith, few, ap length (chain_off zero n off)))
  ]
  chain_goes_on (suc (suc m)) n zero few = elim (cases_Bool (goes_on n)) [
    | inl on ↦ (on, sym (ap (λ ns. get_or ns 1 0) (chain_on (suc m) n on)))
    | inr off ↦ absurd (omega (arith, few, ap length (chain_off (suc m) n off)))
  ]
  chain_goes_on (suc (suc m)) n (suc i) few = elim (cases_Bool (goes_on n)) [
    | inl on ↦
        let rest = chain goes_on next (suc m) (next n) in
        let is : chain goes_on next (suc (suc m)) n ≡ n ∷ rest = chain_on (suc m) n on in
        subst (λ ns. (goes_on (get_or ns (suc i) 0) ≡ true) × (next (get_or ns (suc i) 0) ≡ get_or ns (suc i + 1) 0)) (sym is)
        (further rest (chain_goes_on (suc m) (next n) i (omega (arith, few, ap length is))))
    | inr off ↦ absurd (omega (arith, few, ap length (chain_off (suc m) n off)))
  ]
    where
      further : (rest : List ℕ) → (goes_on (get_or rest i 0) ≡ true) × (next (get_or rest i 0) ≡ get_or rest (i + 1) 0)
          → (goes_on (get_or (n ∷ rest) (suc i) 0) ≡ true) × (next (get_or (n ∷ rest) (suc i) 0) ≡ get_or (n ∷ rest) (suc i + 1) 0)
      further rest h =
          let is : suc i + 1 ≡ suc (i + 1) = omega arith in
          (h.0, h.1 ∙ ap (λ j. get_or (n ∷ rest) j 0) (sym is))

  pub chain_inside : (exit : ℕ) → ((n : ℕ) → n < exit → goes_on n ≡ true → next n < exit) → (m n : ℕ) → n < exit → All (λ j. j < exit) (chain goes_on next m n)
  chain_inside exit inside zero n lt = All-nil (λ j. j < exit)
  chain_inside exit inside (suc m) n lt = elim (cases_Bool (goes_on n)) [
    | inl on ↦ subst (All (λ j. j < exit)) (sym (chain_on m n on)) (All-cons (λ j. j < exit) n (chain goes_on next m (next n)) lt (chain_inside exit inside m (next n) (inside n lt on)))
    | inr off ↦ subst (All (λ j. j < exit)) (sym (chain_off m n off)) (All-cons (λ j. j < exit) n [] lt (All-nil (λ j. j < exit)))
  ]

  module _ (exit : ℕ) (up : (n : ℕ) → n < exit → goes_on n ≡ true → (n < next n) × (next n < exit)) where
    -- ## One chain

    pub chain_below : (m n : ℕ) → n < exit → All (λ j. j < exit) (chain goes_on next m n)
    chain_below m n lt = chain_inside exit (λ j j_lt on. (up j j_lt on).1) m n lt

    none_lower : (m n j : ℕ) → n < exit → j < n → count j (chain goes_on next m n) ≡ 0
    none_lower zero n j lt less = refl
    none_lower (suc m) n j lt less = elim (cases_Bool (goes_on n)) [
      | inl on ↦
          let higher : n < next n = (up n lt on).0 in
          ap (count j) (chain_on m n on) ∙ count_other n j (chain goes_on next m (next n)) (λ is. absurd (omega (arith, is, less))) ∙ none_lower m (next n) j (up n lt on).1 (omega (arith, less, higher))
      | inr off ↦ ap (count j) (chain_off m n off) ∙ count_other n j [] (λ is. absurd (omega (arith, is, less)))
    ]

    one_first : (m n : ℕ) → n < exit → count n (chain goes_on next (suc m) n) ≡ 1
    one_first m n lt = elim (cases_Bool (goes_on n)) [
      | inl on ↦
          let rest : count n (chain goes_on next m (next n)) ≡ 0 = none_lower m (next n) n (up n lt on).1 (up n lt on).0 in
          ap (count n) (chain_on m n on) ∙ count_same n n (chain goes_on next m (next n)) refl ∙ ap (λ c. 1 + c) rest
      | inr off ↦ ap (count n) (chain_off m n off) ∙ count_same n n [] refl
    ]

    -- a number that none goes on to is in no chain but its own
    in_no_other : (k : ℕ) → ((n : ℕ) → n < exit → goes_on n ≡ true → next n ≡ k → ⊥) → (m n : ℕ) → n < exit → (n ≡ k → ⊥) → count k (chain goes_on next m n) ≡ 0
    in_no_other k alone zero n lt differs = refl
    in_no_other k alone (suc m) n lt differs = elim (cases_Bool (goes_on n)) [
      | inl on ↦ ap (count k) (chain_on m n on) ∙ count_other n k (chain goes_on next m (next n)) differs ∙ in_no_other k alone m (next n) (up n lt on).1 (alone n lt on)
      | inr off ↦ ap (count k) (chain_off m n off) ∙ count_other n k [] differs
    ]

    -- a chain that is long enough ends with a number that does not go on
    pub chain_ends : (m n : ℕ) → n < exit → exit ≤ m + n → (goes_on (last_in (chain goes_on next m n)) ≡ false) × (last_in (chain goes_on next m n) < exit)
    chain_ends zero n lt long = absurd (omega (arith, lt, long))
    chain_ends (suc zero) n lt long = elim (cases_Bool (goes_on n)) [
      | inl on ↦ absurd (omega (arith, long, (up n lt on).0, (up n lt on).1))
      | inr off ↦ subst (λ ns. (goes_on (last_in ns) ≡ false) × (last_in ns < exit)) (sym (chain_off zero n off)) (off, lt)
    ]
    chain_ends (suc (suc m)) n lt long = elim (cases_Bool (goes_on n)) [
      | inl on ↦
          let more : last_in (n ∷ chain goes_on next (suc m) (next n)) ≡ last_in (chain goes_on next (suc m) (next n)) = last_more n (next n) (if goes_on (next n) then chain goes_on next m (next (next n)) else []) in
          subst (λ l. (goes_on l ≡ false) × (l < exit)) (sym (ap last_in (chain_on (suc m) n on) ∙ more))
          (chain_ends (suc m) (next n) (up n lt on).1 (omega (arith, long, (up n lt on).0)))
      | inr off ↦ subst (λ ns. (goes_on (last_in ns) ≡ false) × (last_in ns < exit)) (sym (chain_off (suc m) n off)) (off, lt)
    ]

    module _ (apart : (m n : ℕ) → m < exit → n < exit → goes_on m ≡ true → goes_on n ≡ true → next m ≡ next n → m ≡ n) where
      -- a chain has the next of a number as often as the number, but where it is_first with the next
      with_next : (p : ℕ) → p < exit → goes_on p ≡ true → (m n : ℕ) → n < exit → exit ≤ m + n → (n ≡ next p → ⊥) → count (next p) (chain goes_on next m n) ≡ count p (chain goes_on next m n)
      with_next p p_in p_on zero n lt long differs = refl
      with_next p p_in p_on (suc m) n lt long differs = elim (cases_Bool (goes_on n)) [
        | inl on ↦
            let rest = chain goes_on next m (next n) in
            let higher : n < next n = (up n lt on).0 in
            let enough : exit ≤ m + next n = omega (arith, long, higher) in
            ap (count (next p)) (chain_on m n on) ∙ count_other n (next p) rest differs
            ∙ ⊎_elim
            (λ (less : n < p). other n on rest (λ is. absurd (omega (arith, is, less))) (with_next p p_in p_on m (next n) (up n lt on).1 enough (λ is. absurd (omega (arith, less, apart n p lt p_in on p_on is)))))
            (λ (le : p ≤ n). ⊎_elim
            (λ (more : p < n). other n on rest (λ is. absurd (omega (arith, is, more))) (with_next p p_in p_on m (next n) (up n lt on).1 enough (λ is. absurd (omega (arith, more, apart n p lt p_in on p_on is)))))
            (λ (ge : n ≤ p). same m n lt on enough (omega (arith, le, ge)))
            (cases_lt p n))
            (cases_lt n p)
            ∙ sym (ap (count p) (chain_on m n on))
        | inr off ↦
            let not_p : n ≡ p → ⊥ = λ is. let no : false ≡ true = sym off ∙ ap goes_on is ∙ p_on in absurd cc in
            ap (count (next p)) (chain_off m n off) ∙ count_other n (next p) [] differs ∙ sym (count_other n p [] not_p) ∙ sym (ap (count p) (chain_off m n off))
      ]
        where
          other : (n : ℕ) → goes_on n ≡ true → (rest : List ℕ) → (n ≡ p → ⊥) → count (next p) rest ≡ count p rest → count (next p) rest ≡ count p (n ∷ rest)
          other n on rest not_p is = is ∙ sym (count_other n p rest not_p)

          same : (m n : ℕ) → n < exit → goes_on n ≡ true → exit ≤ m + next n → n ≡ p → count (next p) (chain goes_on next m (next n)) ≡ count p (n ∷ chain goes_on next m (next n))
          same zero n lt on enough is = absurd (omega (arith, enough, (up n lt on).1))
          same (suc m) n lt on enough is =
              let rest = chain goes_on next (suc m) (next n) in
              let higher : n < next n = (up n lt on).0 in
              let none : count p rest ≡ 0 = none_lower (suc m) (next n) p (up n lt on).1 (omega (arith, is, higher)) in
              let one : count (next n) rest ≡ 1 = one_first m (next n) (up n lt on).1 in
              ap (λ q. count (next q) rest) (sym is) ∙ one ∙ sym (count_same n p rest is ∙ ap (λ c. 1 + c) none)

-- ## All chains

module _ (goes_on : ℕ → Bool) (next : ℕ → ℕ) (exit : ℕ) where
  pub begin_of_none : (k : ℕ) → begins goes_on next exit k ≡ true → (n : ℕ) → n < exit → goes_on n ≡ true → next n ≡ k → ⊥
  begin_of_none k is n lt on to =
      let ns = range_with_len 0 exit in
      let at : get_or ns n 0 ≡ n = get_or-range_with_len 0 exit n 0 lt ∙ omega arith in
      let holds : (goes_on n && eqb (next n) k) ≡ true = and_from (goes_on n) (eqb (next n) k) on (eq-eqb (next n) k to) in
      let some : list_any (λ j. goes_on j && eqb (next j) k) ns ≡ true =
      list_any_at (λ j. goes_on j && eqb (next j) k) ns n 0 (omega (arith, lt, length-range_with_len 0 exit)) (ap (λ j. goes_on j && eqb (next j) k) at ∙ holds) in
      let no : false ≡ true = sym (ap not some) ∙ is in
      absurd cc

  pub begin_or_next : (k : ℕ) → begins goes_on next exit k ≡ false → (n : ℕ) × (n < exit) × (goes_on n ≡ true) × (next n ≡ k)
  begin_or_next k is = elim (cases_Bool (list_any (λ j. goes_on j && eqb (next j) k) (range_with_len 0 exit))) [
    | inl some ↦
        let ns = range_with_len 0 exit in
        let w = Any-from_list_any (λ j. goes_on j && eqb (next j) k) ns some in
        let n = w.1 in
        let i_in : w.0 < length ns = w.2 in
        let few : w.0 < exit = omega (arith, i_in, length-range_with_len 0 exit) in
        let at : 0 + w.0 ≡ n = sym (get_or-range_with_len 0 exit w.0 n few) ∙ w.3 in
        let both = and_parts (goes_on n) (eqb (next n) k) w.4 in
        (n, omega (arith, at, few), both.0, eqb-true (next n) k both.1)
    | inr none ↦ let no : true ≡ false = sym (ap not none) ∙ is in absurd cc
  ]

module _ (goes_on : ℕ → Bool) (next : ℕ → ℕ) (exit : ℕ) (up : (n : ℕ) → n < exit → goes_on n ≡ true → (n < next n) × (next n < exit))
    (apart : (m n : ℕ) → m < exit → n < exit → goes_on m ≡ true → goes_on n ≡ true → next m ≡ next n → m ≡ n) where
  abbrev is_first : ℕ → Bool
  is_first = begins goes_on next exit

  abbrev pub numbers : ℕ → List ℕ
  numbers n = if is_first n then chain goes_on next exit n else []

  abbrev pub all_numbers : List ℕ
  all_numbers = flat_map numbers (range_with_len 0 exit)

  in_chains : (k : ℕ) → count k all_numbers ≡ sum_by (λ n. count k (numbers n)) (range_with_len 0 exit)
  in_chains k = sum_by-flat_map (λ j. cond (eqb j k) 1 0) numbers (range_with_len 0 exit)

  -- a number with which a chain is_first
  at_first : (k : ℕ) → k < exit → is_first k ≡ true → (n : ℕ) → n < exit → count k (numbers n) ≡ cond (eqb k n) 1 0 * 1
  at_first k k_in k_first n n_in = elim (cases_Bool (is_first n)) [
    | inl on ↦ ap (λ b. count k (if b then chain goes_on next exit n else [])) on ∙ ⊎_elim
        (λ (less : n < k). apart_from on (λ is. absurd (omega (arith, less, is))))
        (λ (le : k ≤ n). ⊎_elim (λ (more : k < n). apart_from on (λ is. absurd (omega (arith, more, is)))) (λ (ge : n ≤ k). itself exit n_in (omega (arith, le, ge))) (cases_lt k n))
        (cases_lt n k)
    | inr off ↦
        let differs : k ≡ n → ⊥ = λ is. let both : true ≡ false = sym k_first ∙ ap is_first is ∙ off in absurd cc in
        ap (λ b. count k (if b then chain goes_on next exit n else [])) off ∙ ap (λ b. cond b 1 0 * 1) (sym (ne_eqb k n differs))
  ]
    where
      apart_from : is_first n ≡ true → (n ≡ k → ⊥) → count k (chain goes_on next exit n) ≡ cond (eqb k n) 1 0 * 1
      apart_from on differs =
          in_no_other goes_on next exit up k (begin_of_none goes_on next exit k k_first) exit n n_in differs ∙ ap (λ b. cond b 1 0 * 1) (sym (ne_eqb k n (λ is. differs (sym is))))

      itself : (m : ℕ) → n < m → n ≡ k → count k (chain goes_on next m n) ≡ cond (eqb k n) 1 0 * 1
      itself zero less is = absurd (omega (arith, less))
      itself (suc m) less is = ap (λ j. count j (chain goes_on next (suc m) n)) (sym is) ∙ one_first goes_on next exit up m n n_in ∙ ap (λ b. cond b 1 0 * 1) (sym (eq-eqb k n (sym is)))

  -- one that a number goes on to is in the same chains as that
  at_next : (p : ℕ) → p < exit → goes_on p ≡ true → is_first (next p) ≡ false → (n : ℕ) → n < exit → count (next p) (numbers n) ≡ count p (numbers n)
  at_next p p_in p_on not_first n n_in = elim (cases_Bool (is_first n)) [
    | inl on ↦
        let differs : n ≡ next p → ⊥ = λ is. let both : true ≡ false = sym on ∙ ap is_first is ∙ not_first in absurd cc in
        ap (λ b. count (next p) (if b then chain goes_on next exit n else [])) on ∙ with_next goes_on next exit up apart p p_in p_on exit n n_in (omega arith) differs
        ∙ ap (λ b. count p (if b then chain goes_on next exit n else [])) (sym on)
    | inr off ↦ ap (λ b. count (next p) (if b then chain goes_on next exit n else [])) off ∙ ap (λ b. count p (if b then chain goes_on next exit n else [])) (sym off)
  ]

  once_below : (d k : ℕ) → k < d → k < exit → count k all_numbers ≡ 1
  once_below zero k few k_in = absurd (omega (arith, few))
  once_below (suc d) k few k_in = elim (cases_Bool (is_first k)) [
    | inl on ↦
        in_chains k ∙ same_sums (λ n. count k (numbers n)) (λ n. cond (eqb k n) 1 0 * 1) exit 0 (λ n low high. at_first k k_in on n (omega (arith, high))) ∙ picked k (λ n. 1) exit 0 (omega arith) (omega (arith, k_in))
    | inr off ↦
        let w = begin_or_next goes_on next exit k off in
        let p = w.0 in
        let lower : p < next p = (up p w.1 w.2).0 in
        let before : count p all_numbers ≡ 1 = once_below d p (omega (arith, few, lower, w.3)) w.1 in
        ap (λ j. count j all_numbers) (sym w.3) ∙ in_chains (next p)
        ∙ same_sums (λ n. count (next p) (numbers n)) (λ n. count p (numbers n)) exit 0
        (λ n low high. at_next p w.1 w.2 (ap is_first w.3 ∙ off) n (omega (arith, high)))
        ∙ sym (in_chains p) ∙ before
  ]

  pub once : (k : ℕ) → k < exit → count k all_numbers ≡ 1
  once k k_in = once_below (suc k) k (omega arith) k_in

  -- and they have no others
  inside_to : (d a : ℕ) → a + d ≡ exit → All (λ j. j < exit) (flat_map numbers (range_with_len a d))
  inside_to zero a is = All-nil (λ j. j < exit)
  inside_to (suc d) a is =
      subst (All (λ j. j < exit)) (sym (flat_map-cons numbers a (range_with_len (a + 1) d)))
      (All-append (λ j. j < exit) (numbers a) (flat_map numbers (range_with_len (a + 1) d)) (here (omega (arith, is))) (inside_to d (a + 1) (omega (arith, is))))
    where
      here : a < exit → All (λ j. j < exit) (numbers a)
      here lt = elim (is_first a) as (λ b. All (λ j. j < exit) (if b then chain goes_on next exit a else [])) [
        | true ↦ chain_below goes_on next exit up exit a lt
        | false ↦ All-nil (λ j. j < exit)
      ]

  pub all_below : All (λ j. j < exit) all_numbers
  all_below = inside_to exit 0 (omega arith)

-- ## Steps of loops

module _ (goes_on : ℕ → Bool) (next : ℕ → ℕ) where
  pub chain_more : (m c n : ℕ) (done new all : List ℕ) → done ++ chain goes_on next (m - c) n ≡ all → c < m → goes_on n ≡ true → new ≡ done ++ n ∷ [] → new ++ chain goes_on next (m - (c + 1)) (next n) ≡ all
  chain_more m c n done new all h lt on is =
      let left : m - c ≡ suc (m - (c + 1)) = omega (arith, lt) in
      let rest = chain goes_on next (m - (c + 1)) (next n) in
      ap (λ ns. ns ++ rest) is ∙ append_assoc done (n ∷ []) rest ∙ ap (λ ns. done ++ ns) (sym (ap (λ k. chain goes_on next k n) left ∙ chain_on goes_on next (m - (c + 1)) n on)) ∙ h

  pub chain_last : (m c n : ℕ) (done new all : List ℕ) → done ++ chain goes_on next (m - c) n ≡ all → c < m → goes_on n ≡ false → new ≡ done ++ n ∷ [] → new ≡ all
  chain_last m c n done new all h lt off is =
      let left : m - c ≡ suc (m - (c + 1)) = omega (arith, lt) in
      is ∙ ap (λ ns. done ++ ns) (sym (ap (λ k. chain goes_on next k n) left ∙ chain_off goes_on next (m - (c + 1)) n off)) ∙ h

  abbrev leads : (i k : ℕ) → Bool
  leads i k = goes_on i && eqb (next i) k

  more_any : (i k : ℕ) → list_any (λ n. leads n k) (range_with_len 0 (i + 1)) ≡ (list_any (λ n. leads n k) (range_with_len 0 i) || leads i k)
  more_any i k =
      let is : i + 1 ≡ suc i = omega arith in
      let zero_is : 0 + i ≡ i = omega arith in
      ap (λ n. list_any (λ j. leads j k) (range_with_len 0 n)) is ∙ ap (list_any (λ n. leads n k)) (range_push i 0)
      ∙ list_any-append (λ n. leads n k) (range_with_len 0 i) ((0 + i) ∷ [])
      ∙ ap (λ j. list_any (λ n. leads n k) (range_with_len 0 i) || (leads j k || false)) zero_is
      ∙ ap (λ b. list_any (λ n. leads n k) (range_with_len 0 i) || b) (or-false (leads i k))

  begins_kept : (i k : ℕ) → leads i k ≡ false → begins goes_on next (i + 1) k ≡ begins goes_on next i k
  begins_kept i k none =
      ap not (more_any i k ∙ ap (λ b. list_any (λ n. leads n k) (range_with_len 0 i) || b) none ∙ or-false (list_any (λ n. leads n k) (range_with_len 0 i)))

  begins_ended : (i k : ℕ) → leads i k ≡ true → begins goes_on next (i + 1) k ≡ false
  begins_ended i k some = ap not (more_any i k ∙ or_right (list_any (λ n. leads n k) (range_with_len 0 i)) (leads i k) some)

  -- a number that does not go on is the next of none
  pub begins_same : (i k : ℕ) → goes_on i ≡ false → begins goes_on next (i + 1) k ≡ begins goes_on next i k
  begins_same i k off = begins_kept i k (ap (λ b. b && eqb (next i) k) off)

  -- one that goes on takes its next from those with which chains begin
  pub begins_set : (size i to : ℕ) (old : List Bool) → length old ≡ size → to < size → goes_on i ≡ true → next i ≡ to → ((k : ℕ) → k < size → get_or old k false ≡ begins goes_on next i k)
      → (k : ℕ) → k < size → get_or (set old to false) k false ≡ begins goes_on next (i + 1) k
  begins_set size i to old whole inside on to_is are k few = ⊎_elim
      (λ (less : k < to). other (λ same. absurd (omega (arith, less, same))))
      (λ (le : to ≤ k). ⊎_elim (λ (more : to < k). other (λ same. absurd (omega (arith, more, same)))) (λ (ge : k ≤ to). here (omega (arith, le, ge))) (cases_lt to k))
      (cases_lt k to)
    where
      other : (to ≡ k → ⊥) → get_or (set old to false) k false ≡ begins goes_on next (i + 1) k
      other differs =
          get_or-set_other old to k false false (λ is. differs (sym is)) ∙ are k few
          ∙ sym (begins_kept i k (ap (λ b. goes_on i && b) (ne_eqb (next i) k (λ is. differs (sym to_is ∙ is))) ∙ and_right (goes_on i) false refl))

      here : to ≡ k → get_or (set old to false) k false ≡ begins goes_on next (i + 1) k
      here is =
          ap (λ j. get_or (set old to false) j false) (sym is) ∙ get_or-set_same old to false false (omega (arith, inside, whole))
          ∙ sym (begins_ended i k (and_from (goes_on i) (eqb (next i) k) on (eq-eqb (next i) k (to_is ∙ is))))

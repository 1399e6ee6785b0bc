-- One word more in a list of addresses and words.
use Rattle.std.proofs.Common.{◌≡◌, ◌≢◌, ◌∙◌, ℕ, suc, ◌+◌, ◌-◌, ◌%◌, ◌<◌, ◌≤◌, Bool, true, false, cond, eqb, List, [], ◌∷◌, ◌++◌, length, Option, Some, None, refl, sym, ap, inl, inr, arith, subst}
use Rattle.std.specs.Prelude.{IsTrue, IsSome, is_some, nat_le, nat_lt, not, ◌||◌}
use Rattle.std.specs.List.{AllByRecursion}
use Rattle.std.proofs.lemmas.Bool.{cases_lt, cases_eq, le-ltb, lt-ltb, ltb-false, ne_eqb, eq-eqb, eqb-false}
use Rattle.std.proofs.lemmas.Bool.Decides.{nat_tests}
use mir.Val.{bool_byte}
use Rattle.image.specs.Image.{Words, begins, may_hold, put_fault, runs_after, runs_of, with_word, word_of}
use Rattle.image.specs.Inside.{Ascends, AreAllowed}
use Rattle.image.specs.declared.image.ImageFault.{ImageFault}
use Rattle.image.specs.declared.image.ImageFault.TheVariants.{OutOfRange, TooLong}

-- ## An address without a word

-- an address that holds no word is not the first one, and none of the rest
absent_split : (b : Bool) (v : ℕ) (o : Option ℕ) → cond b (Some v) o ≡ None → (b ≡ false) × (o ≡ None)
absent_split true v o h = absurd (cc)
absent_split false v o h = (refl, h)

pub absent_first : (e : ℕ × ℕ) (rest : Words) (a : ℕ) → word_of (e ∷ rest) a ≡ None → e.0 ≢ a
absent_first e rest a none = eqb-false _ _ (absent_split (eqb e.0 a) e.1 (word_of rest a) none).0

pub absent_rest : (e : ℕ × ℕ) (rest : Words) (a : ℕ) → word_of (e ∷ rest) a ≡ None → word_of rest a ≡ None
absent_rest e rest a none = (absent_split (eqb e.0 a) e.1 (word_of rest a) none).1

-- ## Order and places

-- what holds of all of a list holds of its parts
pub all_parts : {A : Type 0} (P : A → Type 0) (front back : List A) → AllByRecursion P (front ++ back) → AllByRecursion P front × AllByRecursion P back
all_parts P [] back all = (tt, all)
all_parts P (e ∷ front) back all = let rest = all_parts P front back all.1 in ((all.0, rest.0), rest.1)

pub all_push : {A : Type 0} (P : A → Type 0) (xs : List A) (x : A) → AllByRecursion P xs → P x → AllByRecursion P (xs ++ x ∷ [])
all_push P [] x all last = (last, tt)
all_push P (y ∷ ys) x all last = (all.0, all_push P ys x all.1 last)

pub all_with_word : (P : ℕ × ℕ → Type 0) (words : Words) (a w : ℕ) → AllByRecursion P words → P (a, w) → AllByRecursion P (with_word words a w)
all_with_word P [] a w all p = (p, tt)
all_with_word P (e ∷ rest) a w all p = elim (cases_lt a e.0) [
  | inl lt ↦ rw (lt-ltb a e.0 lt) (p, all)
  | inr le ↦ rw (le-ltb a e.0 le) (all.0, all_with_word P rest a w all.1 p)
]

-- addresses above one are above any below it
pub above : (x y : ℕ) (words : Words) → x < y → AllByRecursion (λ f. y < f.0) words → AllByRecursion (λ f. x < f.0) words
above x y [] lt all = tt
above x y (e ∷ rest) lt all = (let h : y < e.0 = all.0 in omega arith, above x y rest lt all.1)

pub Ascends-with_word : (words : Words) (a w : ℕ) → Ascends words → word_of words a ≡ None → Ascends (with_word words a w)
Ascends-with_word [] a w up none = (tt, tt)
Ascends-with_word (e ∷ rest) a w up none = elim (cases_lt a e.0) [
  | inl lt ↦ rw (lt-ltb a e.0 lt) ((lt, above a e.0 rest lt up.0), up)
  | inr le ↦
      let other = absent_first e rest a none in
      let lt : e.0 < a = omega arith in
      rw (le-ltb a e.0 le) (all_with_word (λ f. e.0 < f.0) rest a w up.0 lt, Ascends-with_word rest a w up.1 (absent_rest e rest a none))
]

pub AreAllowed-with_word : (words : Words) (a w : ℕ) → AreAllowed words → IsTrue (may_hold a) → AreAllowed (with_word words a w)
AreAllowed-with_word words a w all here = all_with_word (λ e. IsTrue (may_hold e.0)) words a w all here

-- a word is where one may be
pub held : (words : Words) (a : ℕ) → AreAllowed words → IsSome (word_of words a) → IsTrue (may_hold a)
held [] a all some = absurd (cc)
held (e ∷ rest) a all some = elim (cases_eq e.0 a) [
  | inl same ↦ subst (λ x. IsTrue (may_hold x)) same all.0
  | inr other ↦ held rest a all.1 (rw (ne_eqb e.0 a other) at some)
]

-- ## Runs

-- each address is a multiple of 4
abbrev pub Quads : Words → Type 0
Quads words = AllByRecursion (λ e. e.0 % 4 ≡ 0) words

-- 1 where a word is at the address
abbrev pub has : Words → ℕ → ℕ
has words a = cond {A = ℕ} (is_some (word_of words a)) 1 0

has_here : (e : ℕ × ℕ) (rest : Words) (a : ℕ) → e.0 ≡ a → has (e ∷ rest) a ≡ 1
has_here e rest a same = rw (eq-eqb e.0 a same) refl

has_other : (e : ℕ × ℕ) (rest : Words) (a : ℕ) → e.0 ≢ a → has (e ∷ rest) a ≡ has rest a
has_other e rest a other = rw (ne_eqb e.0 a other) refl

has_below : (words : Words) (a : ℕ) → AllByRecursion (λ e. a < e.0) words → has words a ≡ 0
has_below [] a all = refl
has_below (e ∷ rest) a all = let lt : a < e.0 = all.0 in rw (ne_eqb e.0 a (λ same. omega arith)) (has_below rest a all.1)

begins_next : (p a : ℕ) → a ≡ p + 4 → begins (Some p) a ≡ 0
begins_next p a same = rw (eq-eqb a (p + 4) same) refl

pub begins_new : (p a : ℕ) → a ≢ p + 4 → begins (Some p) a ≡ 1
begins_new p a other = rw (ne_eqb a (p + 4) other) refl

-- a word follows the one before it, or begins a run
left_one : (p a h : ℕ) → h ≡ 0 → cond {A = ℕ} (eqb a (p + 4)) 1 h + begins (Some p) a ≡ 1
left_one p a h none = elim (cases_eq a (p + 4)) [
  | inl same ↦ rw (eq-eqb a (p + 4) same) refl
  | inr other ↦ rw (ne_eqb a (p + 4) other) (omega arith)
]

-- the first word above an address is 4 after it, or begins a run
right_one : (a : ℕ) (e : ℕ × ℕ) (rest : Words) → a % 4 ≡ 0 → e.0 % 4 ≡ 0 → a < e.0 → Ascends (e ∷ rest) → has (e ∷ rest) (a + 4) + begins (Some a) e.0 ≡ 1
right_one a e rest a4 e4 lt up = elim (cases_eq e.0 (a + 4)) [
  | inl same ↦
      let here = has_here e rest (a + 4) same in
      let next = begins_next a e.0 same in
      omega (arith, here, next)
  | inr other ↦
      let past : a + 4 < e.0 = omega arith in
      let none = has_below (e ∷ rest) (a + 4) (past, above (a + 4) e.0 rest past up.0) in
      let new = begins_new a e.0 other in
      omega (arith, none, new)
]

-- the words that a new word joins: 1 for the one before it, and 1 for the one after it
abbrev pub joins : Option ℕ → Words → ℕ → ℕ
joins None words a = has words (a - 4) + has words (a + 4)
joins (Some p) words a = cond {A = ℕ} (eqb a (p + 4)) 1 (has words (a - 4)) + has words (a + 4)

-- where the new word is the first, of the words after it
first_new : (p a w : ℕ) (words : Words) → p % 4 ≡ 0 → a % 4 ≡ 0 → p < a → Quads words → Ascends words → AllByRecursion (λ e. a < e.0) words
    → runs_after (Some p) ((a, w) ∷ words) + joins (Some p) words a ≡ runs_after (Some p) words + 1
first_new p a w [] p4 a4 lt q up all = let left = left_one p a 0 refl in omega (arith, left)
first_new p a w (e ∷ rest) p4 a4 lt q up all =
    let a_e : a < e.0 = all.0 in
    let e4 : e.0 % 4 ≡ 0 = q.0 in
    let low : a - 4 < e.0 = omega arith in
    let before = has_below (e ∷ rest) (a - 4) (low, above (a - 4) e.0 rest low up.0) in
    let left = left_one p a (has (e ∷ rest) (a - 4)) before in
    let right = right_one a e rest a4 e4 a_e up in
    let new = begins_new p e.0 (λ same. omega arith) in
    omega (arith, left, right, new)

-- the word before, seen after a word or in the list with it
same_before : (a : ℕ) (e : ℕ × ℕ) (rest : Words) → e.0 % 4 ≡ 0 → a % 4 ≡ 0 → e.0 < a → has (e ∷ rest) (a - 4) ≡ cond {A = ℕ} (eqb a (e.0 + 4)) 1 (has rest (a - 4))
same_before a e rest e4 a4 lt = elim (cases_eq a (e.0 + 4)) [
  | inl same ↦ has_here e rest (a - 4) (omega arith) ∙ sym (ap (λ b. cond {A = ℕ} b 1 (has rest (a - 4))) (eq-eqb a (e.0 + 4) same))
  | inr other ↦ has_other e rest (a - 4) (λ same. omega arith) ∙ sym (ap (λ b. cond {A = ℕ} b 1 (has rest (a - 4))) (ne_eqb a (e.0 + 4) other))
]

-- a new word adds a run, less those that it joins
pub runs-with_word : (p a w : ℕ) (words : Words) → p % 4 ≡ 0 → a % 4 ≡ 0 → p < a → Quads words → Ascends words → AllByRecursion (λ e. p < e.0) words → word_of words a ≡ None
    → runs_after (Some p) (with_word words a w) + joins (Some p) words a ≡ runs_after (Some p) words + 1
runs-with_word p a w [] p4 a4 lt q up all none = first_new p a w [] p4 a4 lt q up tt
runs-with_word p a w (e ∷ rest) p4 a4 lt q up all none = elim (cases_lt a e.0) [
  | inl less ↦ rw (lt-ltb a e.0 less) (first_new p a w (e ∷ rest) p4 a4 lt q up (less, above a e.0 rest less up.0))
  | inr le ↦
      let other = absent_first e rest a none in
      let e4 : e.0 % 4 ≡ 0 = q.0 in
      let p_e : p < e.0 = all.0 in
      let e_a : e.0 < a = omega arith in
      let deeper = runs-with_word e.0 a w rest e4 a4 e_a q.1 up.1 up.0 (absent_rest e rest a none) in
      rw (le-ltb a e.0 le) (later p a e rest p4 a4 e4 p_e e_a (runs_after (Some e.0) (with_word rest a w)) deeper)
]
  where
    -- past the first word
    later : (p a : ℕ) (e : ℕ × ℕ) (rest : Words) → p % 4 ≡ 0 → a % 4 ≡ 0 → e.0 % 4 ≡ 0 → p < e.0 → e.0 < a → (n : ℕ)
        → n + joins (Some e.0) rest a ≡ runs_after (Some e.0) rest + 1
        → (begins (Some p) e.0 + n) + joins (Some p) (e ∷ rest) a ≡ (begins (Some p) e.0 + runs_after (Some e.0) rest) + 1
    later p a e rest p4 a4 e4 p_e e_a n deeper =
        let after = has_other e rest (a + 4) (λ same. omega arith) in
        let apart : eqb a (p + 4) ≡ false = ne_eqb a (p + 4) (λ same. omega arith) in
        let before = same_before a e rest e4 a4 e_a in
        rw apart (omega (arith, after, before, deeper))

pub runs_of-with_word : (words : Words) (a w : ℕ) → a % 4 ≡ 0 → Quads words → Ascends words → word_of words a ≡ None → runs_of (with_word words a w) + joins None words a ≡ runs_of words + 1
runs_of-with_word [] a w a4 q up none = refl
runs_of-with_word (e ∷ rest) a w a4 q up none = elim (cases_lt a e.0) [
  | inl less ↦
      let e4 : e.0 % 4 ≡ 0 = q.0 in
      let low : a - 4 < e.0 = omega arith in
      let before = has_below (e ∷ rest) (a - 4) (low, above (a - 4) e.0 rest low up.0) in
      let right = right_one a e rest a4 e4 less up in
      rw (lt-ltb a e.0 less) (omega (arith, before, right))
  | inr le ↦
      let other = absent_first e rest a none in
      let e4 : e.0 % 4 ≡ 0 = q.0 in
      let e_a : e.0 < a = omega arith in
      let deeper = runs-with_word e.0 a w rest e4 a4 e_a q.1 up.1 up.0 (absent_rest e rest a none) in
      let after = has_other e rest (a + 4) (λ same. omega arith) in
      let before = same_before a e rest e4 a4 e_a in
      rw (le-ltb a e.0 le) (omega (arith, after, before, deeper))
]

pub quad : (a : ℕ) → IsTrue (may_hold a) → a % 4 ≡ 0
quad a may = grind (arith, nat_tests)

pub quads : (words : Words) → AreAllowed words → Quads words
quads [] all = tt
quads (e ∷ rest) all = (quad e.0 all.0, quads rest all.1)

-- what the code counts for the word beside
pub has_counted : (words : Words) (a : ℕ) (found : Bool) (n : ℕ) → found ≡ is_some (word_of words a) → n ≡ bool_byte found → n ≡ has words a
has_counted words a found n is counted =
    counted ∙ ap bool_byte is ∙ as_number (is_some (word_of words a))
  where
    as_number : (b : Bool) → bool_byte b ≡ cond {A = ℕ} b 1 0
    as_number true = refl
    as_number false = refl

pub length_with_word : (words : Words) (a w : ℕ) → length (with_word words a w) ≡ suc (length words)
length_with_word [] a w = refl
length_with_word (e ∷ rest) a w = longer (nat_lt a e.0) (length_with_word rest a w)
  where
    longer : (b : Bool) → length (with_word rest a w) ≡ suc (length rest) → length (cond b ((a, w) ∷ e ∷ rest) (e ∷ with_word rest a w)) ≡ suc (suc (length rest))
    longer true more = refl
    longer false more = ap suc more

-- ## Why a word cannot be put

abbrev pub fault_by : (may is_held full long : Bool) → Option ImageFault
fault_by may is_held full long = cond (not may || is_held) (Some OutOfRange) (cond (full || long) (Some TooLong) None)

pub none_held : (o : Option ℕ) → is_some o ≡ false → o ≡ None
none_held None e = refl
none_held (Some v) e = absurd (cc)

-- what the code has tested
pub too_long : (may is_held full long : Bool) → may ≡ true → is_held ≡ false → long ≡ true → fault_by may is_held full long ≡ Some TooLong
too_long true false true true p q r = refl
too_long true false false true p q r = refl
too_long true false full false p q r = absurd (cc)
too_long true true full long p q r = absurd (cc)
too_long false is_held full long p q r = absurd (cc)

pub no_fault : (may is_held full long : Bool) → may ≡ true → is_held ≡ false → full ≡ false → long ≡ false → fault_by may is_held full long ≡ None
no_fault may is_held full long p q r s = rw (p, q, r, s) refl

-- what no fault means
parts : (may is_held full long : Bool) → fault_by may is_held full long ≡ None → (may ≡ true) × (is_held ≡ false) × (full ≡ false) × (long ≡ false)
parts true true full long e = absurd (cc)
parts true false true long e = absurd (cc)
parts true false false true e = absurd (cc)
parts true false false false e = (refl, refl, refl, refl)
parts false is_held full long e = absurd (cc)

pub record MayPut (words : Words) (a w : ℕ) : Type 0 where
  pub may : IsTrue (may_hold a)
  pub free : word_of words a ≡ None
  pub few : runs_of (with_word words a w) ≤ 16
  pub short : length (with_word words a w) ≤ 65536

pub may_put : (words : Words) (a w : ℕ) → put_fault words a w ≡ None → MayPut words a w
may_put words a w e =
    let p = parts (may_hold a) (is_some (word_of words a)) (nat_le 65536 (length words)) (nat_lt 16 (runs_of (with_word words a w))) e in
    let room = p.2 in
    let more = length_with_word words a w in
    record { may = p.0; free = none_held _ p.1; few = ltb-false 16 _ p.3; short = grind (arith, nat_tests, room, more) }

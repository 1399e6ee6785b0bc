-- ROM words put into a map.
use Rattle.std.proofs.Common.{◌≡◌, ◌∙◌, ℕ, ◌<◌, ◌≤◌, ◌+◌, Bool, true, false, cond, eqb, List, [], ◌∷◌, length, drop, get_or, drop-cons, add-one, Option, Some, refl, sym, ap, inl, inr, arith}
use Rattle.std.specs.Option.{unwrap_or}
use Rattle.std.specs.Map.{lookup}
use Rattle.std.specs.BTreeMap.{insert_entry, is_at}
use Rattle.std.specs.Ordering.{nat_cmp}
use Rattle.std.proofs.lemmas.Bool.{cases_lt, cases_eq, le-ltb, lt-ltb, ne_eqb, eq-eqb}
use Rattle.std.proofs.lemmas.Bool.Decides.{nat_tests}
use Rattle.std.proofs.lemmas.List.{drop_all}
use Rattle.memc.specs.Memory.{rom_word, with_word, with_words, last_word}

-- the test of the map's search
pub is_at-eqb : (a b : ℕ) → is_at (nat_cmp a) b ≡ eqb b a
is_at-eqb a b = grind (arith, nat_tests)

cond-unwrap_or : (b : Bool) (x : ℕ) (o : Option ℕ) → unwrap_or (cond b (Some x) o) 0 ≡ cond b x (unwrap_or o 0)
cond-unwrap_or true x o = refl
cond-unwrap_or false x o = refl

-- the map's search finds the word
pub lookup-rom_word : (words : List (ℕ × ℕ)) (a : ℕ) → unwrap_or (lookup (is_at (nat_cmp a)) words) 0 ≡ rom_word words a
lookup-rom_word [] a = refl
lookup-rom_word (e ∷ rest) a = rw (is_at-eqb a e.0) (cond-unwrap_or (eqb e.0 a) e.1 (lookup (is_at (nat_cmp a)) rest) ∙ ap (λ (x : ℕ). cond (eqb e.0 a) e.1 x) (lookup-rom_word rest a))

-- the map's insertion puts the word
pub insert-with_word : (words : List (ℕ × ℕ)) (a w : ℕ) → insert_entry nat_cmp words a w ≡ with_word words a w
insert-with_word [] a w = refl
insert-with_word (e ∷ rest) a w = elim (cases_lt a e.0) [
  | inl lt ↦ rw (lt-ltb a e.0 lt) refl
  | inr le ↦ elim (cases_eq e.0 a) [
    | inl same ↦ rw same grind (arith, nat_tests)
    | inr other ↦ rw (le-ltb a e.0 le, ne_eqb a e.0 (λ same. other (sym same)), ne_eqb e.0 a other, insert-with_word rest a w) refl
  ]
]

cond-again : (b : Bool) (x y z : ℕ) → cond b x z ≡ cond b x (cond b y z)
cond-again true x y z = refl
cond-again false x y z = refl

cond-swap : (c d : Bool) (x y z : ℕ) → (c ≡ true → d ≡ true → ⊥) → cond c x (cond d y z) ≡ cond d y (cond c x z)
cond-swap true true x y z apart = absurd (apart refl refl)
cond-swap true false x y z apart = refl
cond-swap false d x y z apart = refl

both_equal : (x a b : ℕ) → eqb x b ≡ true → eqb a b ≡ true → x ≡ a
both_equal x a b p q = grind (arith, nat_tests)

-- one word more is there, and changes no other
pub rom_word-with_word : (words : List (ℕ × ℕ)) (a w b : ℕ) → rom_word (with_word words a w) b ≡ cond (eqb a b) w (rom_word words b)
rom_word-with_word [] a w b = refl
rom_word-with_word (e ∷ rest) a w b = elim (cases_lt a e.0) [
  | inl lt ↦ rw (lt-ltb a e.0 lt) refl
  | inr le ↦ elim (cases_eq e.0 a) [
    | inl same ↦ rw (le-ltb a e.0 le, eq-eqb e.0 a same, same) (cond-again (eqb a b) w e.1 (rom_word rest b))
    | inr other ↦ rw (le-ltb a e.0 le, ne_eqb e.0 a other, rom_word-with_word rest a w b) (cond-swap (eqb e.0 b) (eqb a b) e.1 w (rom_word rest b) (λ p q. other (both_equal e.0 a b p q)))
  ]
]

-- so of a list its last word is there
pub rom_word-with_words : (list : List (ℕ × ℕ)) (words : List (ℕ × ℕ)) (b : ℕ) → rom_word (with_words words list) b ≡ last_word list b (rom_word words b)
rom_word-with_words [] words b = refl
rom_word-with_words (e ∷ rest) words b = rom_word-with_words rest (with_word words e.0 e.1) b ∙ ap (λ (x : ℕ). last_word rest b x) (rom_word-with_word words e.0 e.1 b)

-- the next word of a list goes in
pub with_next : (rom : List (ℕ × ℕ)) (words : List (ℕ × ℕ)) (i : ℕ) (d : ℕ × ℕ) → i < length words → with_words (with_word rom (get_or words i d).0 (get_or words i d).1) (drop (i + 1) words) ≡ with_words rom (drop i words)
with_next rom words i d below = rw (add-one, drop-cons words i d) refl

-- after the last one nothing changes
pub with_rest : (rom : List (ℕ × ℕ)) (words : List (ℕ × ℕ)) (i : ℕ) → length words ≤ i → with_words rom (drop i words) ≡ rom
with_rest rom words i past = rw (drop_all i words past) refl

-- Rotations, and what follows a `#`, one after the other.
use Rattle.std.proofs.Common.{◌≡◌, ◌+◌, ◌*◌, ◌<◌, ◌≤◌, ℕ, zero, suc, Bool, true, false, List, [], ◌∷◌, length, drop, map, get_or, Option, Some, None, refl, sym, ap, ◌∙◌, inl, inr, arith}
use Rattle.std.specs.Prelude.{nat_lt, ◌||◌}
use Rattle.std.specs.Int.{w32, rotate_left}
use Rattle.std.specs.Option.{option_or}
use Rattle.std.proofs.lemmas.Bool.{cases_Bool, le-ltb, lt-ltb}
use Rattle.std.proofs.lemmas.Bool.Decides.{nat_tests}
use Rattle.std.proofs.lemmas.List.{drop_all, drop_more}
use Rattle.objasm.specs.Exchanges.{immediate_at, immediate_in, is_rotated, rotated_below}
use Rattle.objasm.specs.Parts.{Part, part_of}
use Rattle.objasm.specs.declared.token.Token.{Token}

pub none_below : (n : ℕ) → rotated_below 0 n ≡ false
unfolding rotated_below
none_below n = refl

below_more : (k n : ℕ) → rotated_below (suc k) n ≡ (nat_lt (rotate_left w32 n (2 * k)) 256 || rotated_below k n)
unfolding rotated_below
below_more k n = refl

pub not_yet : (k n r : ℕ) → r ≡ rotate_left w32 n (2 * k) → 256 ≤ r → rotated_below k n ≡ false → rotated_below (k + 1) n ≡ false
not_yet k n r is large before =
    let e : k + 1 ≡ suc k = omega arith in
    let no : nat_lt (rotate_left w32 n (2 * k)) 256 ≡ false = rw (← is) (le-ltb r 256 large) in
    rw e (below_more k n ∙ rw (no, before) refl)

pub by_one : (k j n : ℕ) → k < j → nat_lt (rotate_left w32 n (2 * k)) 256 ≡ true → rotated_below j n ≡ true
by_one k zero n lt is = absurd (omega arith)
by_one k (suc j) n lt is =
    elim (cases_Bool (nat_lt k j)) [
      | inl less ↦ below_more j n ∙ rw (by_one k j n (grind (arith, nat_tests)) is) (or_true (nat_lt (rotate_left w32 n (2 * j)) 256))
      | inr same ↦ let e : k ≡ j = grind (arith, nat_tests) in below_more j n ∙ rw (← e, is) refl
    ]
  where
    or_true : (b : Bool) → (b || true) ≡ true
    or_true true = refl
    or_true false = refl

pub found_one : (k n r : ℕ) → k < 16 → r ≡ rotate_left w32 n (2 * k) → r < 256 → true ≡ is_rotated n
found_one k n r lt is small = sym (by_one k 16 n lt (rw (← is) (lt-ltb r 256 small)))

immediate_more : (ts : List Token) (i : ℕ) → i < length ts
    → immediate_in (map part_of (drop i ts)) ≡ option_or (immediate_at (map part_of (drop i ts))) (immediate_in (map part_of (drop (i + 1) ts)))
unfolding immediate_in
immediate_more [] i lt = absurd (omega arith)
immediate_more (t ∷ ts) i lt = at_drop (drop i (t ∷ ts)) (drop (i + 1) (t ∷ ts)) (get_or (t ∷ ts) i t) (drop_more (t ∷ ts) i t lt)
  where
    at_drop : (here after : List Token) (d : Token) → here ≡ d ∷ after
        → immediate_in (map part_of here) ≡ option_or (immediate_at (map part_of here)) (immediate_in (map part_of after))
    at_drop here after d is = rw is refl

pub immediate_found : (ts : List Token) (i : ℕ) (field : List Part) (whole : Option (List Part)) → i < length ts → immediate_at (map part_of (drop i ts)) ≡ Some field
    → immediate_in (map part_of (drop i ts)) ≡ whole → Some field ≡ whole
immediate_found ts i field whole lt is before =
    ap (λ (o : Option (List Part)). option_or o (immediate_in (map part_of (drop (i + 1) ts)))) (sym is) ∙ sym (immediate_more ts i lt) ∙ before

pub immediate_later : (ts : List Token) (i : ℕ) (whole : Option (List Part)) → i < length ts → immediate_at (map part_of (drop i ts)) ≡ None
    → immediate_in (map part_of (drop i ts)) ≡ whole → immediate_in (map part_of (drop (i + 1) ts)) ≡ whole
immediate_later ts i whole lt is before =
    ap (λ (o : Option (List Part)). option_or o (immediate_in (map part_of (drop (i + 1) ts)))) (sym is) ∙ sym (immediate_more ts i lt) ∙ before

pub immediate_none : (ts : List Token) (i : ℕ) (whole : Option (List Part)) → length ts ≤ i → immediate_in (map part_of (drop i ts)) ≡ whole → None ≡ whole
unfolding immediate_in
immediate_none ts i whole le before = sym (ap (λ (l : List Token). immediate_in (map part_of l)) (drop_all i ts le)) ∙ before

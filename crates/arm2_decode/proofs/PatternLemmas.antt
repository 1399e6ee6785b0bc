-- Patterns of fixed bits: a mask, and what a word is under it.
use Rattle.std.proofs.Common.{ℕ, suc, zero, ◌<◌, ◌≡◌, ◌≢◌, Bool, true, false, not, ◌&&◌, refl, ap, sym, ◌∙◌, arith, eqb, cond, List, [], ◌∷◌, filter, take, length}
use Rattle.std.specs.Prelude.{slice_index_or}
use Rattle.std.specs.List.{list_all}
use Rattle.std.specs.Int.Bits.{bit_and}
use Rattle.std.proofs.lemmas.Nat.{and_assoc, and_comm}
use Rattle.std.proofs.lemmas.Bool.Decides.{nat_tests}
use Rattle.std.proofs.lemmas.Bool.{eq-eqb, and_parts, not-true, eqb-true}
use Rattle.arm2_decode.specs.Table.{Row, Bar, bars, why_from, why_of}

-- two numbers that differ, as a test, and two that are the same
pub eqb_apart : (x y : ℕ) → x ≢ y → eqb x y ≡ false
eqb_apart x y h = grind (arith, nat_tests)

-- two patterns agree where both masks have ones
unfoldable pub agrees : ℕ → ℕ → ℕ → ℕ → Bool
agrees mask fixed other_mask other_fixed = eqb (bit_and fixed other_mask) (bit_and other_fixed mask)

-- patterns of one word agree
both_fit : (w mask fixed other_mask other_fixed : ℕ) → bit_and w mask ≡ fixed → bit_and w other_mask ≡ other_fixed → bit_and fixed other_mask ≡ bit_and other_fixed mask
both_fit w mask fixed other_mask other_fixed h k =
    ap (λ x. bit_and x other_mask) (sym h) ∙ and_assoc other_mask w mask ∙ ap (bit_and w) (and_comm mask other_mask) ∙ sym (and_assoc mask w other_mask) ∙ ap (λ x. bit_and x mask) k

-- so a word of one pattern has none that disagrees with it
pub never_fits : (w mask fixed other_mask other_fixed : ℕ) → bit_and w mask ≡ fixed → agrees mask fixed other_mask other_fixed ≡ false → eqb (bit_and w other_mask) other_fixed ≡ false
unfolding agrees
never_fits w mask fixed other_mask other_fixed h apart =
    eqb_apart _ _ (λ k. let same : eqb (bit_and fixed other_mask) (bit_and other_fixed mask) ≡ true = eq-eqb _ _ (both_fit w mask fixed other_mask other_fixed h k) in cc)

-- a pattern within another
unfoldable pub within : ℕ → ℕ → ℕ → ℕ → Bool
within mask fixed other_mask other_fixed = eqb (bit_and mask other_mask) other_mask && eqb (bit_and fixed other_mask) other_fixed

pub fits_within : (w mask fixed other_mask other_fixed : ℕ) → bit_and w mask ≡ fixed → within mask fixed other_mask other_fixed ≡ true → eqb (bit_and w other_mask) other_fixed ≡ true
unfolding within
fits_within w mask fixed other_mask other_fixed h e =
    let parts = and_parts _ _ e in
    eq-eqb _ _ (ap (bit_and w) (sym (eqb-true _ _ parts.0)) ∙ sym (and_assoc other_mask w mask) ∙ ap (λ x. bit_and x other_mask) h ∙ eqb-true _ _ parts.1)

-- the bars that a word of the row can meet
unfoldable pub bars_of : Row → List Bar → List Bar
bars_of row = filter (λ bar. agrees row.mask row.fixed bar.mask bar.fixed)

-- the number of the first bar whose test the word meets
unfoldable pub first_met : List Bar → ℕ → ℕ
first_met [] w = 0
first_met (bar ∷ rest) w = cond (bar.test w) bar.why (first_met rest w)

pub why_among : (row : Row) (w : ℕ) → bit_and w row.mask ≡ row.fixed → (list : List Bar) → why_from list w ≡ why_from (bars_of row list) w
unfolding why_from bars_of
why_among row w h [] = refl
why_among row w h (bar ∷ rest) =
    elim (agrees row.mask row.fixed bar.mask bar.fixed) as (λ b. agrees row.mask row.fixed bar.mask bar.fixed ≡ b → why_from (bar ∷ rest) w ≡ why_from (cond b (bar ∷ bars_of row rest) (bars_of row rest)) w) [
      | true ↦ λ e. ap (λ n. cond (eqb (bit_and w bar.mask) bar.fixed && bar.test w) bar.why n) (why_among row w h rest)
      | false ↦ λ e. rw (never_fits w row.mask row.fixed bar.mask bar.fixed h e) (why_among row w h rest)
    ] refl

why_by_tests : (row : Row) (w : ℕ) → bit_and w row.mask ≡ row.fixed → (list : List Bar) → list_all (λ bar. within row.mask row.fixed bar.mask bar.fixed) list ≡ true → why_from list w ≡ first_met list w
unfolding why_from first_met
why_by_tests row w h [] e = refl
why_by_tests row w h (bar ∷ rest) e =
    let parts = and_parts (within row.mask row.fixed bar.mask bar.fixed) (list_all (λ bar. within row.mask row.fixed bar.mask bar.fixed) rest) e in
    rw (fits_within w row.mask row.fixed bar.mask bar.fixed h parts.0, why_by_tests row w h rest parts.1) refl

-- why a word of the row is none of its instructions: its bars are within its pattern
pub why_of_row : (row : Row) (w : ℕ) → bit_and w row.mask ≡ row.fixed → list_all (λ bar. within row.mask row.fixed bar.mask bar.fixed) (bars_of row bars) ≡ true → why_of w ≡ first_met (bars_of row bars) w
why_of_row row w h e = why_among row w h bars ∙ why_by_tests row w h (bars_of row bars) e

-- the place in a list of the first row whose fixed bits the word has
unfoldable pub first_fit : List Row → ℕ → ℕ
first_fit [] w = 0
first_fit (row ∷ rest) w = cond (eqb (bit_and w row.mask) row.fixed) 0 (suc (first_fit rest w))

-- it is row n where the rows before disagree with it
pub first_fit_at : (row : Row) (w : ℕ) → bit_and w row.mask ≡ row.fixed → (list : List Row) (n : ℕ) → n < length list → slice_index_or list n row ≡ row → list_all (λ r. not (agrees row.mask row.fixed r.mask r.fixed)) (take n list) ≡ true → first_fit list w ≡ n
unfolding first_fit
first_fit_at row w h [] n room here e = absurd (omega arith)
first_fit_at row w h (r ∷ rest) zero room here e = rw (here, eq-eqb _ _ h) refl
first_fit_at row w h (r ∷ rest) (suc n) room here e =
    let parts = and_parts (not (agrees row.mask row.fixed r.mask r.fixed)) (list_all (λ r. not (agrees row.mask row.fixed r.mask r.fixed)) (take n rest)) e in
    rw (never_fits w row.mask row.fixed r.mask r.fixed h (not-true _ parts.0)) (ap suc (first_fit_at row w h rest n (omega arith) here parts.1))

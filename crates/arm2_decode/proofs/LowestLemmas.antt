-- The first bar that a word meets has the lowest number.
use Rattle.std.proofs.Common.{ℕ, zero, suc, ◌≤◌, ◌<◌, ◌≡◌, Bool, true, false, ◌&&◌, refl, ap, sym, ◌∙◌, arith, eqb, leb, List, [], ◌∷◌, length, get_or}
use Rattle.std.specs.Prelude.{IfErr, Result, Ok, Err}
use Rattle.std.specs.List.{list_all}
use Rattle.std.specs.Int.Bits.{bit_and}
use Rattle.std.proofs.lemmas.List.Elements.{Contains-get_or}
use Rattle.std.proofs.lemmas.Bool.{eq-eqb, and_parts, eqb-true, leb-true}
use Rattle.arm2_decode.specs.declared.instr.Unallocated.{Unallocated}
use Rattle.arm2_decode.specs.declared.instr.Instr.{Instr}
use Rattle.arm2_decode.specs.Table.{Bar, bars, why_from, Decodes, IsBarred, IsLowestBar, IsUnallocated}

-- the word meets the bar
meets : ℕ → Bar → Bool
meets w bar = eqb (bit_and w bar.mask) bar.fixed && bar.test w

unmet : (w : ℕ) (bar : Bar) (rest : List Bar) → meets w bar ≡ false → why_from (bar ∷ rest) w ≡ why_from rest w
unfolding why_from meets
unmet w bar rest e = rw e refl

is_met : (w : ℕ) (bar : Bar) (rest : List Bar) → meets w bar ≡ true → why_from (bar ∷ rest) w ≡ bar.why
unfolding why_from meets
is_met w bar rest e = rw e refl

-- the numbers of the bars rise
rises : List Bar → Bool
rises [] = true
rises (bar ∷ rest) = list_all (λ b. leb bar.why b.why) rest && rises rest

all_at : (why : ℕ) (list : List Bar) (k : ℕ) (d : Bar) → k < length list → list_all (λ b. leb why b.why) list ≡ true → why ≤ (get_or list k d).why
all_at why [] k d room e = absurd (omega arith)
all_at why (bar ∷ rest) zero d room e = let here = and_parts (leb why bar.why) (list_all (λ b. leb why b.why) rest) e in leb-true why bar.why here.0
all_at why (bar ∷ rest) (suc k) d room e = let later = and_parts (leb why bar.why) (list_all (λ b. leb why b.why) rest) e in all_at why rest k d (omega arith) later.1

first_lowest : (w : ℕ) (list : List Bar) (k : ℕ) (d : Bar) → k < length list → meets w (get_or list k d) ≡ true → rises list ≡ true → why_from list w ≤ (get_or list k d).why
unfolding rises
first_lowest w [] k d room met e = absurd (omega arith)
first_lowest w (bar ∷ rest) zero d room met e = omega (arith, is_met w bar rest met)
first_lowest w (bar ∷ rest) (suc k) d room met e =
    let parts = and_parts (list_all (λ b. leb bar.why b.why) rest) (rises rest) e in
    elim (meets w bar) as (λ b. meets w bar ≡ b → why_from (bar ∷ rest) w ≤ (get_or rest k d).why) [
      | true ↦ λ here. omega (arith, is_met w bar rest here, all_at bar.why rest k d (omega arith) parts.0)
      | false ↦ λ past. omega (arith, unmet w bar rest past, first_lowest w rest k d (omega arith) met parts.1)
    ] refl

-- some bar that the word meets has the number
Found : ℕ → List Bar → Type 0
Found w list = (k : ℕ) × (k < length list) × ((d : Bar) → (meets w (get_or list k d) ≡ true) × ((get_or list k d).why ≡ why_from list w))

found : (w : ℕ) (list : List Bar) → 1 ≤ why_from list w → Found w list
unfolding Found why_from
found w [] some = absurd (omega arith)
found w (bar ∷ rest) some =
    elim (meets w bar) as (λ b. meets w bar ≡ b → Found w (bar ∷ rest)) [
      | true ↦ λ here. (zero, omega arith, λ d. (here, sym (is_met w bar rest here)))
      | false ↦ λ past.
          let later = found w rest (omega (arith, some, unmet w bar rest past)) in
          (suc later.0, omega (arith, later.1), λ d. ((later.2 d).0, (later.2 d).1 ∙ sym (unmet w bar rest past)))
    ] refl

no_bar : Bar
no_bar = record { why = 0; mask = 0; fixed = 0; test = λ w. false }

barred_at : (w : ℕ) (d : Bar) (k : ℕ) (why : ℕ) → k < length bars → meets w (get_or bars k d) ≡ true → (get_or bars k d).why ≡ why → IsBarred w why
unfolding meets
barred_at w d k why room met e =
    let parts = and_parts (eqb (bit_and w (get_or bars k d).mask) (get_or bars k d).fixed) ((get_or bars k d).test w) met in
    record { bar = get_or bars k d; of_table = Contains-get_or bars k d room; numbered = e; fixed = eqb-true _ _ parts.0; met = parts.1 }

met_by : (w : ℕ) (bar : Bar) → bit_and w bar.mask ≡ bar.fixed → bar.test w ≡ true → meets w bar ≡ true
unfolding meets
met_by w bar f t = rw (eq-eqb _ _ f, t) refl

all_rise : rises bars ≡ true
unfolding rises
all_rise = refl

none_lower : (w why other : ℕ) → why ≡ why_from bars w → IsBarred w other → why ≤ other
none_lower w why other e h =
    let at = h.of_table in
    let met : meets w (get_or bars at.0 h.bar) ≡ true = rw at.2 (met_by w h.bar h.fixed h.met) in
    let number : (get_or bars at.0 h.bar).why ≡ other = ap (λ b. b.why) at.2 ∙ h.numbered in
    omega (arith, first_lowest w bars at.0 h.bar at.1 met all_rise)

pub lowest_of : (w : ℕ) (u : Unallocated) → IsUnallocated w u → IsLowestBar w u.why
unfolding Found
lowest_of w u h =
    let at = found w bars (omega (arith, h.why, h.some)) in
    record {
      barred = barred_at w no_bar at.0 u.why at.1 (at.2 no_bar).0 ((at.2 no_bar).1 ∙ sym h.why);
      lowest = λ other b. none_lower w u.why other h.why b;
    }

pub err_lowest : (w : ℕ) (r : Result Instr Unallocated) → Decodes w r → IfErr r (λ u. IsLowestBar w u.why)
err_lowest w (Ok i) h = tt
err_lowest w (Err u) h = lowest_of w u h

-- Where a loop's words may lie, and which words lie within it.
use Rattle.std.proofs.Common.{◌≡◌, ◌↔◌, ◌+◌, ◌≤◌, ◌<◌, ◌||◌, ℕ, Bool, true, false, leb, cond, List, inl, inr, refl, sym, ap, subst, arith}
use Rattle.std.specs.Bool.{beq}
use Rattle.std.specs.Cmp.Derive.{both_true}
use Rattle.std.proofs.lemmas.Bool.{and_parts, cases_Bool, cases_lt, le-leb, leb-true}
use Rattle.bus_ticks.specs.declared.space.TheConstants.{SPACE_END}
use Rattle.statement.specs.Stated.{IsLoop, LiesWithin, MayStand, are_alike, is_apart, lies_at, lies_within, may_stand}
use Rattle.statement.specs.declared.apart.ApartStretch.{ApartStretch}
use Rattle.statement.specs.declared.stated.Loop.{Loop}

-- ## A loop's words

within_is :
    (apart : List ApartStretch) (first header last : ℕ)
    → lies_within apart first header last ≡ true ↔ LiesWithin apart first header last
within_is apart first header last =
    let a = lies_at apart first in
    let b = lies_at apart header in
    let c = lies_at apart last in (
      λ e. let parts = and_parts (leb a b) (leb b c) e in (leb-true a b parts.0, leb-true b c parts.1),
      λ h. both_true (le-leb a b h.0) (le-leb b c h.1),
    )

same_beq : (x y : Bool) → beq x y ≡ true ↔ (x ≡ y)
same_beq true true = (λ e. refl, λ e. refl)
same_beq true false = (λ e. sym e, λ e. sym e)
same_beq false true = (λ e. e, λ e. e)
same_beq false false = (λ e. refl, λ e. refl)

pub stand_is :
    (apart : List ApartStretch) (first header last : ℕ)
    → may_stand apart first header last ≡ true ↔ MayStand apart first header last
stand_is apart first header last =
    let within = within_is apart first header last in
    let alike = same_beq (is_apart apart first) (is_apart apart last) in (
      λ e. let parts = and_parts (lies_within apart first header last) (are_alike apart first last) e in (within.0 parts.0, alike.0 parts.1),
      λ h. both_true (within.1 h.0) (alike.1 h.1),
    )

-- ## A word within a loop, by its address

abbrev at : Bool → ℕ → ℕ
at b x = cond (b || leb SPACE_END x) (x + SPACE_END) x

stays : (x : ℕ) → x < SPACE_END → at false x ≡ x
stays x low = elim (cases_Bool (leb SPACE_END x)) [
  | inl past ↦ let far : SPACE_END ≤ x = leb-true SPACE_END x past in absurd (omega arith)
  | inr here ↦ ap (λ b. cond b (x + SPACE_END) x) here
]

moves : (x : ℕ) → SPACE_END ≤ x → at false x ≡ x + SPACE_END
moves x past = ap (λ b. cond b (x + SPACE_END) x) (le-leb SPACE_END x past)

module _ (f a l : ℕ) (small : l < SPACE_END) where
  last_is : at false l ≡ l
  last_is = stays l small

  to_address :
      (p q : Bool) → at p f ≤ at p l → (at p f ≤ at q a) × (at q a ≤ at p l)
      → (f ≤ a) × (a ≤ l) × (q ≡ p)
  to_address true true up h = let from = h.0 in let to = h.1 in (omega arith, omega arith, refl)
  to_address true false up h = elim (cases_lt a SPACE_END) [
    | inl low ↦ let is : at false a ≡ a = stays a low in let from = h.0 in absurd (omega arith)
    | inr past ↦ let is : at false a ≡ a + SPACE_END = moves a past in let to = h.1 in absurd (omega arith)
  ]
  to_address false true up h = let last : at false l ≡ l = last_is in let to = h.1 in absurd (omega arith)
  to_address false false up h = elim (cases_lt a SPACE_END) [
    | inl low ↦
        let is : at false a ≡ a = stays a low in
        let last : at false l ≡ l = last_is in
        let from = h.0 in
        let to = h.1 in
        elim (cases_lt f SPACE_END) [
          | inl first_low ↦ let first : at false f ≡ f = stays f first_low in (omega arith, omega arith, refl)
          | inr first_past ↦ let first : at false f ≡ f + SPACE_END = moves f first_past in absurd (omega arith)
        ]
    | inr past ↦
        let is : at false a ≡ a + SPACE_END = moves a past in
        let last : at false l ≡ l = last_is in
        let to = h.1 in
        absurd (omega arith)
  ]

  from_address : (p : Bool) → f ≤ a → a ≤ l → (at p f ≤ at p a) × (at p a ≤ at p l)
  from_address true low high = (omega arith, omega arith)
  from_address false low high =
      let first : at false f ≡ f = stays f (omega arith) in
      let word : at false a ≡ a = stays a (omega arith) in
      let last : at false l ≡ l = last_is in
      (omega arith, omega arith)

pub by_address :
    (apart : List ApartStretch) (l : Loop) → IsLoop apart l
    → (a : ℕ)
    → lies_within apart l.first a l.last ≡ true
    ↔ ((l.first ≤ a) × (a ≤ l.last) × (is_apart apart a ≡ is_apart apart l.first))
by_address apart l h a =
    let is = within_is apart l.first a l.last in
    let p = is_apart apart l.first in
    let q = is_apart apart a in
    let ends = h.ends in
    let first = h.within.0 in
    let last = h.within.1 in
    let whole : lies_at apart l.first ≤ lies_at apart l.last = omega arith in
    let same : at p l.first ≤ at p l.last = subst (λ b. at p l.first ≤ at b l.last) (sym ends) whole in (
      λ e.
          let lies = is.0 e in
          to_address l.first a l.last h.last_small p q same (lies.0, subst (λ b. at q a ≤ at b l.last) (sym ends) lies.1),
      λ g.
          let lies = from_address l.first a l.last h.last_small p g.0 g.1 in
          is.1 (subst (λ b. at p l.first ≤ at b a) (sym g.2) lies.0, subst (λ b. at b a ≤ lies_at apart l.last) (sym g.2) (subst (λ b. at p a ≤ at b l.last) ends lies.1)),
    )

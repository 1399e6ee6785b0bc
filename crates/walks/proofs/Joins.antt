-- What two walks joined, and one walk repeated, take of a bound.
use Rattle.std.proofs.Common.{◌≡◌, ℕ, zero, suc, ◌+◌, ◌*◌, ◌≤◌, max, Bool, true, false, cond, ◌&&◌, List, [], ◌∷◌, ◌++◌, ⊎_elim, refl, ap, ◌∙◌, arith, append-nil}
use Rattle.std.specs.List.{AllPass, repeat}
use Rattle.std.proofs.lemmas.Bool.{cases_Bool, and_parts, and_from}
use Rattle.std.proofs.lemmas.List.Sums.{sum_by-cons, sum_by-append, list_all-from_AllPass}
use Rattle.std.proofs.lemmas.List.Elements.{All-nil, All-cons}
use Rattle.walks.specs.Segments as S
use Rattle.walks.specs.Stretch.{Keeps}

tail_pick : (x y z : Bool) (all cv tv cw tw : ℕ) → all ≡ cv + cw → cond (x && (y && z)) all (cond z (tv + cw) tw) ≡ cond z (cond (x && y) cv tv + cw) tw
tail_pick true true true all cv tv cw tw is = omega arith
tail_pick true true false all cv tv cw tw is = refl
tail_pick true false true all cv tv cw tw is = refl
tail_pick true false false all cv tv cw tw is = refl
tail_pick false y true all cv tv cw tw is = refl
tail_pick false y false all cv tv cw tw is = refl

most_pick : (x : Bool) (hd mv mw tv hw ce : ℕ) → (x ≡ true → hd ≡ ce) → tv ≤ ce → max (cond x (ce + hw) hd) (max (max mv mw) (tv + hw)) ≡ max (max (max hd mv) mw) (cond x ce tv + hw)
most_pick true hd mv mw tv hw ce same few = omega (arith, same refl)
most_pick false hd mv mw tv hw ce same few = omega arith

module _ {E : Type 0} (inside turns : E → Bool) where
  abbrev turn : E → ℕ
  turn e = S.turn inside turns e

  abbrev count : List E → ℕ
  count w = S.count inside turns w

  abbrev whole : List E → Bool
  whole w = S.whole inside turns w

  abbrev head : List E → ℕ
  head w = S.head inside turns w

  abbrev tail : List E → ℕ
  tail w = S.tail inside turns w

  abbrev most : List E → ℕ
  most w = S.most inside turns w

  count-cons : (e : E) (w : List E) → count (e ∷ w) ≡ turn e + count w
  count-cons e w = sum_by-cons (λ x. cond (turns x) 1 0) e w

  pub count-append : (v w : List E) → count (v ++ w) ≡ count v + count w
  count-append v w = sum_by-append (λ x. cond (turns x) 1 0) v w

  pub whole-append : (v w : List E) → whole (v ++ w) ≡ (whole v && whole w)
  whole-append [] w = refl
  whole-append (e ∷ v) w = elim (inside e) as (λ b. (b && whole (v ++ w)) ≡ ((b && whole v) && whole w)) [ true ↦ whole-append v w | false ↦ refl ]

  pub head_whole : (w : List E) → whole w ≡ true → head w ≡ count w
  head_whole [] all = refl
  head_whole (e ∷ w) all =
      let parts : (inside e ≡ true) × (whole w ≡ true) = and_parts (inside e) (whole w) all in
      let rest : head w ≡ count w = head_whole w parts.1 in
      rw parts.0 (omega (arith, count-cons e w, rest))

  pub tail_whole : (w : List E) → whole w ≡ true → tail w ≡ count w
  tail_whole [] all = refl
  tail_whole (e ∷ w) all = rw all refl

  pub head-append : (v w : List E) → head (v ++ w) ≡ cond (whole v) (count v + head w) (head v)
  head-append [] w = omega arith
  head-append (e ∷ v) w =
      elim (inside e) as (λ b. cond b (turn e + head (v ++ w)) 0 ≡ cond (b && whole v) (count (e ∷ v) + head w) (cond b (turn e + head v) 0)) [
        | true ↦ rw (head-append v w) (elim (whole v) as (λ b. turn e + cond b (count v + head w) (head v) ≡ cond b (count (e ∷ v) + head w) (turn e + head v)) [ true ↦ omega (arith, count-cons e v) | false ↦ refl ])
        | false ↦ refl
      ]

  pub tail-append : (v w : List E) → tail (v ++ w) ≡ cond (whole w) (tail v + count w) (tail w)
  tail-append [] w = elim (whole w) as (λ b. whole w ≡ b → tail w ≡ cond b (0 + count w) (tail w)) [ true ↦ λ is. omega (arith, tail_whole w is) | false ↦ λ is. refl ] refl
  tail-append (e ∷ v) w =
      rw (whole-append v w, tail-append v w) (tail_pick (inside e) (whole v) (whole w) (count ((e ∷ v) ++ w)) (count (e ∷ v)) (tail v) (count w) (tail w) (count-append (e ∷ v) w))

  pub tail-le-count : (w : List E) → tail w ≤ count w
  tail-le-count [] = omega arith
  tail-le-count (e ∷ w) =
      let rest : tail w ≤ count w = tail-le-count w in
      let split : count (e ∷ w) ≡ turn e + count w = count-cons e w in
      elim (whole (e ∷ w)) as (λ b. cond b (count (e ∷ w)) (tail w) ≤ count (e ∷ w)) [ true ↦ omega arith | false ↦ omega arith ]

  pub head-le-most : (w : List E) → head w ≤ most w
  head-le-most [] = omega arith
  head-le-most (e ∷ w) = omega arith

  pub most-append : (v w : List E) → most (v ++ w) ≡ max (max (most v) (most w)) (tail v + head w)
  most-append [] w = omega (arith, head-le-most w)
  most-append (e ∷ v) w =
      let few : tail v ≤ count (e ∷ v) = omega (arith, tail-le-count v, count-cons e v) in
      rw (head-append (e ∷ v) w, most-append v w) (most_pick (whole (e ∷ v)) (head (e ∷ v)) (most v) (most w) (tail v) (head w) (count (e ∷ v)) (λ is. head_whole (e ∷ v) is) few)

  record HeadStretch (w : List E) : Type 0 where
    stretch : List E
    after : List E
    is : w ≡ stretch ++ after
    within : AllPass inside stretch
    counts : count stretch ≡ head w

  head_stretch : (w : List E) → HeadStretch w
  head_stretch [] = record { stretch = []; after = []; is = refl; within = All-nil (λ x. inside x ≡ true); counts = refl }
  head_stretch (e ∷ w) =
      let rest : HeadStretch w = head_stretch w in
      ⊎_elim (λ is_in. record {
        stretch = e ∷ rest.stretch;
        after = rest.after;
        is = ap (λ x. e ∷ x) rest.is;
        within = All-cons (λ x. inside x ≡ true) e rest.stretch is_in rest.within;
        counts = rw is_in (omega (arith, count-cons e rest.stretch, rest.counts));
      })
      (λ is_out. record {
        stretch = [];
        after = e ∷ w;
        is = refl;
        within = All-nil (λ x. inside x ≡ true);
        counts = rw is_out refl;
      })
      (cases_Bool (inside e))

  keeps-tail : (b : ℕ) (e : E) (w : List E) → Keeps inside turns b (e ∷ w) → Keeps inside turns b w
  keeps-tail b e w keeps before stretch after is within = keeps (e ∷ before) stretch after (ap (λ x. e ∷ x) is) within

  keeps-head : (b : ℕ) (w : List E) → Keeps inside turns b w → head w ≤ b
  keeps-head b w keeps =
      let here : HeadStretch w = head_stretch w in
      omega (arith, keeps [] here.stretch here.after here.is here.within, here.counts)

  pub most_from_keeps : (b : ℕ) (w : List E) → Keeps inside turns b w → most w ≤ b
  most_from_keeps b [] keeps = omega arith
  most_from_keeps b (e ∷ w) keeps =
      let first : head (e ∷ w) ≤ b = keeps-head b (e ∷ w) keeps in
      let rest : most w ≤ b = most_from_keeps b w (keeps-tail b e w keeps) in
      omega arith

  most_stretch : (before stretch after : List E) → AllPass inside stretch → count stretch ≤ most ((before ++ stretch) ++ after)
  most_stretch [] stretch after within =
      let all : whole stretch ≡ true = list_all-from_AllPass inside stretch within in
      let first : head (stretch ++ after) ≡ count stretch + head after = rw all at (head-append stretch after) in
      omega (arith, head-le-most (stretch ++ after))
  most_stretch (e ∷ before) stretch after within =
      let rest : count stretch ≤ most ((before ++ stretch) ++ after) = most_stretch before stretch after within in
      omega arith

  pub keeps_from_most : (b : ℕ) (w : List E) → most w ≤ b → Keeps inside turns b w
  keeps_from_most b w few before stretch after is within = omega (arith, ap most is, most_stretch before stretch after within)

  pub most_whole : (w : List E) → whole w ≡ true → most w ≡ count w
  most_whole [] all = refl
  most_whole (e ∷ w) all =
      let parts : (inside e ≡ true) × (whole w ≡ true) = and_parts (inside e) (whole w) all in
      omega (arith, head_whole (e ∷ w) all, most_whole w parts.1, count-cons e w)

  pub count-repeated : (k : ℕ) (w : List E) → count (repeat k w) ≡ k * count w
  count-repeated zero w = omega arith
  count-repeated (suc k) w = omega (arith, count-append w (repeat k w), count-repeated k w)

  pub whole-repeated : (k : ℕ) (w : List E) → whole w ≡ true → whole (repeat k w) ≡ true
  whole-repeated zero w all = refl
  whole-repeated (suc k) w all = whole-append w (repeat k w) ∙ and_from (whole w) (whole (repeat k w)) all (whole-repeated k w all)

  pub part-repeated : (k : ℕ) (w : List E) → whole w ≡ false → whole (repeat (suc k) w) ≡ false
  part-repeated k w part = rw (whole-append w (repeat k w), part) refl

  pub head-repeated : (k : ℕ) (w : List E) → whole w ≡ false → head (repeat (suc k) w) ≡ head w
  head-repeated k w part = rw (head-append w (repeat k w), part) refl

  once : (w : List E) → repeat 1 w ≡ w
  once w = append-nil w

  pub tail-repeated : (k : ℕ) (w : List E) → whole w ≡ false → tail (repeat (suc k) w) ≡ tail w
  tail-repeated zero w part = ap tail (once w)
  tail-repeated (suc k) w part = rw (tail-append w (repeat (suc k) w), part-repeated k w part) (tail-repeated k w part)

  pub most-repeated : (k : ℕ) (w : List E) → whole w ≡ false → most (repeat (suc (suc k)) w) ≡ max (most w) (tail w + head w)
  most-repeated zero w part = rw (most-append w (repeat 1 w), once w) (omega arith)
  most-repeated (suc k) w part =
      rw (most-append w (repeat (suc (suc k)) w), head-repeated (suc k) w part, most-repeated k w part) (omega arith)

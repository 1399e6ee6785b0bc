-- The runs of an image with a word more.
use Rattle.std.proofs.Common.{◌≡◌, ◌≢◌, ◌+◌, ◌%◌, ◌<◌, ◌≤◌, ℕ, true, false, ◌==◌, [], ◌∷◌, Option, Some, None, refl, sym, ◌∙◌, inl, inr, arith, eqb-true}
use Rattle.std.proofs.lemmas.Bool.{cases_Bool}
use Rattle.std.specs.Prelude.{nat_lt}
use Rattle.std.proofs.lemmas.Bool.Decides.{nat_tests}
use Rattle.asm_text.proofs.WordLaws.{chosen}
use Rattle.image.specs.Image.{Words, begins, runs_after, runs_of, with_word, word_of}

-- ascending multiples of 4

unfoldable pub AscendsFrom : ℕ → Words → Type 0
AscendsFrom b [] = Unit {0}
AscendsFrom b (e ∷ rest) = (b < e.0) × (e.0 % 4 ≡ 0) × AscendsFrom e.0 rest

unfoldable pub Ascending : Words → Type 0
unfolding AscendsFrom
Ascending [] = Unit {0}
Ascending (e ∷ rest) = (e.0 % 4 ≡ 0) × AscendsFrom e.0 rest

none_parts : (e : ℕ × ℕ) (rest : Words) (x : ℕ) → word_of (e ∷ rest) x ≡ None → ((e.0 == x) ≡ false) × (word_of rest x ≡ None)
none_parts e rest x h = elim (chosen (e.0 == x) (Some e.1) (word_of rest x) None h) [ inl k ↦ let g = k.1 in absurd cc | inr k ↦ k ]

differs : (a b : ℕ) → (a == b) ≡ false → a ≢ b
differs a b e same = let k : (a == b) ≡ true = grind (arith, nat_tests, same) in let g : true ≡ false = sym k ∙ e in absurd cc

no_eq : (a b : ℕ) → a ≢ b → (a == b) ≡ false
no_eq a b h = elim (cases_Bool (a == b)) [ inl e ↦ absurd (h (eqb-true a b e)) | inr e ↦ e ]

-- a word more after a first one
above : (e : ℕ × ℕ) (rest : Words) (at : ℕ) → nat_lt at e.0 ≡ false → word_of (e ∷ rest) at ≡ None → e.0 < at
above e rest at ge none =
    let d = differs e.0 at (none_parts e rest at none).0 in
    elim (cases_Bool (nat_lt e.0 at)) [
      | inl lt ↦ grind (arith, nat_tests, lt)
      | inr no-lt ↦ let x : e.0 ≤ at = grind (arith, nat_tests, ge) in let y : at ≤ e.0 = grind (arith, nat_tests, no-lt) in absurd (d (omega (arith, x, y)))
    ]

ascends_put : (b : ℕ) (image : Words) (at w : ℕ) → AscendsFrom b image → b < at → at % 4 ≡ 0 → word_of image at ≡ None → AscendsFrom b (with_word image at w)
unfolding AscendsFrom
ascends_put b [] at w h lt four none = (lt, four, tt)
ascends_put b (e ∷ rest) at w h lt four none =
    elim (cases_Bool (nat_lt at e.0)) [
      | inl low ↦ let x : at < e.0 = grind (arith, nat_tests, low) in rw low (lt, four, (x, h.1, h.2))
      | inr high ↦ rw high (h.0, h.1, ascends_put e.0 rest at w h.2 (above e rest at high none) four (none_parts e rest at none).1)
    ]

pub ascending_put : (image : Words) (at w : ℕ) → Ascending image → at % 4 ≡ 0 → word_of image at ≡ None → Ascending (with_word image at w)
unfolding Ascending AscendsFrom
ascending_put [] at w h four none = (four, tt)
ascending_put (e ∷ rest) at w h four none =
    elim (cases_Bool (nat_lt at e.0)) [
      | inl low ↦ let x : at < e.0 = grind (arith, nat_tests, low) in rw low (four, (x, h.0, h.1))
      | inr high ↦ rw high (h.0, ascends_put e.0 rest at w h.1 (above e rest at high none) four (none_parts e rest at none).1)
    ]

begins_one : (o : Option ℕ) (a : ℕ) → begins o a ≤ 1
begins_one None a = omega arith
begins_one (Some b) a = elim (cases_Bool (a == b + 4)) [ inl e ↦ rw e (omega arith) | inr e ↦ rw e (omega arith) ]

begins_far : (b a c : ℕ) → b % 4 ≡ 0 → c % 4 ≡ 0 → b < c → c < a → begins (Some b) a ≡ 1
begins_far b a c p q x y = let d : (a == b + 4) ≡ false = no_eq a (b + 4) (λ same. omega (arith, p, q, x, y, same)) in rw d refl

pub runs_step : (b : ℕ) (image : Words) (at w : ℕ) → b % 4 ≡ 0 → at % 4 ≡ 0 → AscendsFrom b image → b < at → word_of image at ≡ None
    → runs_after (Some b) (with_word image at w) ≤ runs_after (Some b) image + begins (Some b) at
unfolding AscendsFrom
runs_step b [] at w p q h lt none = omega arith
runs_step b (e ∷ rest) at w p q h lt none =
    elim (cases_Bool (nat_lt at e.0)) [
      | inl low ↦
          let x : at < e.0 = grind (arith, nat_tests, low) in
          let far = begins_far b e.0 at p q lt x in
          rw low (omega (arith, far, begins_one (Some at) e.0))
      | inr high ↦
          let x = above e rest at high none in
          let deeper = runs_step e.0 rest at w h.1 q h.2 x (none_parts e rest at none).1 in
          let far = begins_far b at e.0 p h.1 h.0 x in
          rw high (omega (arith, deeper, far, begins_one (Some e.0) at))
    ]

none_below : (b : ℕ) (image : Words) (x : ℕ) → AscendsFrom b image → x ≤ b → word_of image x ≡ None
unfolding AscendsFrom
none_below b [] x h le = refl
none_below b (e ∷ rest) x h le =
    let d = no_eq e.0 x (λ same. omega (arith, h.0, le, same)) in
    let gt = h.0 in
    rw d (none_below e.0 rest x h.2 (omega (arith, gt, le)))

absent : {A : Type 0} (o : Option ℕ) (w : ℕ) → o ≡ None → o ≡ Some w → A
absent o w e k = let g : ◌≡◌ {A = Option ℕ} None (Some w) = sym e ∙ k in absurd cc

begins_next : (b : ℕ) → begins (Some b) (b + 4) ≡ 0
begins_next b = let e : (b + 4 == b + 4) ≡ true = grind (arith, nat_tests) in rw e refl

ascends_later : (b : ℕ) (image : Words) → AscendsFrom b image → Ascending image
unfolding Ascending AscendsFrom
ascends_later b [] h = tt
ascends_later b (e ∷ rest) h = (h.1, h.2)

-- a word right after another begins no run
runs_join : (o : Option ℕ) (image : Words) (p v w : ℕ) → (p + 4) % 4 ≡ 0 → Ascending image → word_of image (p + 4) ≡ None → word_of image p ≡ Some v
    → runs_after o (with_word image (p + 4) w) ≤ runs_after o image
unfolding Ascending AscendsFrom
runs_join o [] p v w q h none there = let g = there in absurd cc
runs_join o (e ∷ rest) p v w q h none there =
    elim (cases_Bool (nat_lt (p + 4) e.0)) [
      | inl low ↦
          let x : p + 4 < e.0 = grind (arith, nat_tests, low) in
          let d = no_eq e.0 p (λ same. omega (arith, x, same)) in
          let k : word_of rest p ≡ Some v = rw d at there in
          absent (word_of rest p) v (none_below e.0 rest p h.1 (omega (arith, x))) k
      | inr high ↦
          let x = above e rest (p + 4) high none in
          let later = (none_parts e rest (p + 4) none).1 in
          elim (cases_Bool (e.0 == p)) [
            | inl same ↦
                let is = eqb-true e.0 p same in
                let deeper = runs_step e.0 rest (p + 4) w h.0 q h.1 x later in
                let next : begins (Some e.0) (p + 4) ≡ 0 = rw is (begins_next p) in
                rw high (omega (arith, deeper, next))
            | inr other ↦
                let k : word_of rest p ≡ Some v = rw other at there in
                rw high (omega (arith, runs_join (Some e.0) rest p v w q (ascends_later e.0 rest h.1) later k))
          ]
    ]

pub runs_same : (image : Words) (p v w : ℕ) → (p + 4) % 4 ≡ 0 → Ascending image → word_of image (p + 4) ≡ None → word_of image p ≡ Some v → runs_of (with_word image (p + 4) w) ≤ runs_of image
runs_same image p v w q h none there = runs_join None image p v w q h none there

pub runs_more : (image : Words) (at w : ℕ) → at % 4 ≡ 0 → Ascending image → word_of image at ≡ None → runs_of (with_word image at w) ≤ runs_of image + 1
unfolding Ascending AscendsFrom
runs_more [] at w q h none = omega arith
runs_more (e ∷ rest) at w q h none =
    elim (cases_Bool (nat_lt at e.0)) [
      | inl low ↦ rw low (omega (arith, begins_one (Some at) e.0))
      | inr high ↦
          let x = above e rest at high none in
          let deeper = runs_step e.0 rest at w h.0 q h.1 x (none_parts e rest at none).1 in
          rw high (omega (arith, deeper, begins_one (Some e.0) at))
    ]

-- ## What is where

pub put_elsewhere : (image : Words) (at w x : ℕ) → word_of image x ≡ None → at ≢ x → word_of (with_word image at w) x ≡ None
put_elsewhere [] at w x none other = rw (no_eq at x other) refl
put_elsewhere (e ∷ rest) at w x none other =
    let k = none_parts e rest x none in
    elim (cases_Bool (nat_lt at e.0)) [
      | inl low ↦ rw low (rw (no_eq at x other, k.0) k.1)
      | inr high ↦ rw high (rw k.0 (put_elsewhere rest at w x k.1 other))
    ]

-- What the second sweep says of the words.
use Rattle.std.proofs.Common.{◌≡◌, ◌≢◌, ◌+◌, ◌<◌, ◌≤◌, ℕ, Bool, true, false, cond, not, ◌||◌, ◌==◌, List, [], ◌∷◌, ◌++◌, length, map, Option, Some, None, Result, Ok, Err, refl, sym, ap, subst, ◌∙◌, inl, inr, arith}
use Rattle.std.specs.Prelude.{is_some, nat_le, nat_lt, flat_map}
use Rattle.std.specs.List.{AllByRecursion, AllZip, fold}
use Rattle.std.proofs.lemmas.Bool.Decides.{nat_tests}
use Rattle.std.proofs.lemmas.Bool.{not-false, or_parts}
use Rattle.asm_text.proofs.WordLaws.{chosen, false_true, same_Ok}
use Rattle.image.specs.Image.{Words, may_hold, put_fault, runs_of, with_word, word_of}
use Rattle.image.specs.declared.image.ImageFault.{ImageFault}
use Rattle.image.specs.declared.image.ImageFault.TheVariants as image_fault
use Rattle.image.proofs.WordLemmas.{length_with_word, none_held}
use Rattle.asm_text.specs.Said.{Target, Number, Label, Said, Codes, Refers, Orgs, Lists}
use Rattle.assembler.specs.Assembles.{AreWords, IsTarget, Laid, Once, places, addresses_from, words_at, words_from}
use Rattle.assembler.specs.Codes.{encoded, refer}
use Rattle.image.specs.Labels.{Names}
use Rattle.assembler.specs.Sweeps.{Fixed, Waits, Item, Pending, filled, item_step, put_on, resolved, targeted, value_pending, word_put}
use Rattle.assembler.specs.declared.fault.LineFault.{LineFault}
use Rattle.assembler.proofs.AssembleSteps.{Pends, items_at}
use Rattle.assembler.proofs.AssembleSweep.{NewItems, after_line_is, flat}
use Rattle.assembler.proofs.AssembleBasics.{all_map}

-- ## One word put

record MayPut (image : Words) (at : ℕ) : Type 0 where
  may : may_hold at ≡ true
  free : word_of image at ≡ None
  room : length image < 65536

may_put : (image : Words) (at w : ℕ) → put_fault image at w ≡ None → MayPut image at
may_put image at w e =
    elim (chosen (not (may_hold at) || is_some (word_of image at)) (Some image_fault.OutOfRange) _ None e) [
      | inl h ↦ let k = h.1 in absurd cc
      | inr h ↦ elim (chosen (nat_le 65536 (length image) || nat_lt 16 (runs_of (with_word image at w))) (Some image_fault.TooLong) None None h.1) [
        | inl g ↦ let k = g.1 in absurd cc
        | inr g ↦
            let k = or_parts (not (may_hold at)) (is_some (word_of image at)) h.0 in
            let few = (or_parts (nat_le 65536 (length image)) (nat_lt 16 (runs_of (with_word image at w))) g.0).0 in
            record { may = not-false (may_hold at) k.0; free = none_held (word_of image at) k.1; room = grind (arith, nat_tests, few) }
      ]
    ]

apart : {A : Type 0} (a b : ℕ) → (a == b) ≡ false → a ≡ b → A
apart a b no-eq same = let k : (a == b) ≡ true = grind (arith, nat_tests, same) in false_true (sym no-eq ∙ k)

-- no word was there before, nor at another address
still_free : (image : Words) (at w x : ℕ) → word_of (with_word image at w) x ≡ None → (word_of image x ≡ None) × (at ≢ x)
still_free [] at w x e =
    elim (chosen (at == x) (Some w) None None e) [
      | inl h ↦ let k = h.1 in absurd cc
      | inr h ↦ (refl, λ same. apart at x h.0 same)
    ]
still_free (f ∷ rest) at w x e = go (nat_lt at f.0) refl (still_free rest at w x)
  where
    go : (b : Bool) → nat_lt at f.0 ≡ b → (word_of (with_word rest at w) x ≡ None → (word_of rest x ≡ None) × (at ≢ x)) → (word_of (f ∷ rest) x ≡ None) × (at ≢ x)
    go true is deeper =
        let k : cond (at == x) (Some w) (word_of (f ∷ rest) x) ≡ None = rw is at e in
        elim (chosen (at == x) (Some w) (word_of (f ∷ rest) x) None k) [
          | inl h ↦ let g = h.1 in absurd cc
          | inr h ↦ (h.1, λ same. apart at x h.0 same)
        ]
    go false is deeper =
        let k : cond (f.0 == x) (Some f.1) (word_of (with_word rest at w) x) ≡ None = rw is at e in
        elim (chosen (f.0 == x) (Some f.1) (word_of (with_word rest at w) x) None k) [
          | inl h ↦ let g = h.1 in absurd cc
          | inr h ↦ let below = deeper h.1 in (rw h.0 below.0, below.1)
        ]

-- ## Items put one after the other

unfoldable pub put_words : Words → Words → Words
put_words image words = fold (λ i e. with_word i e.0 e.1) image words

put_on_is : (o : Option ImageFault) (at w : ℕ) (image new : Words) → put_on o at w image ≡ Ok new → (o ≡ None) × (new ≡ with_word image at w)
put_on_is None at w image new e = (refl, cc)
put_on_is (Some fault) at w image new e = absurd cc

word_put_is : (image : Words) (at : ℕ) (r : Result ℕ LineFault) (new : Words) → word_put image at r ≡ Ok new → (w : ℕ) × (r ≡ Ok w) × (put_fault image at w ≡ None) × (new ≡ with_word image at w)
word_put_is image at (Ok w) new e = let k = put_on_is (put_fault image at w) at w image new e in (w, refl, k.0, k.1)
word_put_is image at (Err fault) new e = absurd cc

fill_step : (names : Names) (image : Words) (i : Item) (items : List Item) (out : Words) → filled names image (i ∷ items) ≡ Ok out
    → (w : ℕ) × (resolved names i.at i.pending ≡ Ok w) × (put_fault image i.at w ≡ None) × (filled names (with_word image i.at w) items ≡ Ok out)
unfolding filled
fill_step names image i items out e =
    let one = after_line_is i.line (item_step names image i) (λ more. filled names more items) out e in
    let put = word_put_is image i.at (resolved names i.at i.pending) one.0 one.1 in
    (put.0, put.1, put.2, subst (λ (next : Words). filled names next items ≡ Ok out) put.3 one.2)

-- the addresses that words were put at
pub record Places (image : Words) (ats : List ℕ) : Type 0 where
  pub may : AllByRecursion (λ a. may_hold a ≡ true) ats
  pub free : AllByRecursion (λ a. word_of image a ≡ None) ats
  pub once : Once ats
  pub few : length image ≤ 65536 → length image + length ats ≤ 65536

pub filled_places : (names : Names) (image : Words) (items : List Item) (out : Words) → filled names image items ≡ Ok out → Places image (map (λ i. i.at) items)
filled_places names image [] out e = record { may = tt; free = tt; once = tt; few = λ small. omega (arith, small) }
filled_places names image (i ∷ items) out e =
    let s = fill_step names image i items out e in
    let p = may_put image i.at s.0 s.2 in
    let rest = filled_places names (with_word image i.at s.0) items out s.3 in
    let ats = map (λ j. j.at) items in
    let more = length_with_word image i.at s.0 in
    record {
      may = (p.may, rest.may);
      free = (p.free, all_map (λ a. word_of (with_word image i.at s.0) a ≡ None) (λ a. word_of image a ≡ None) ats (λ a k. (still_free image i.at s.0 a k).0) rest.free);
      once = (all_map (λ a. word_of (with_word image i.at s.0) a ≡ None) (λ a. i.at ≢ a) ats (λ a k. (still_free image i.at s.0 a k).1) rest.free, rest.once);
      few = λ small. omega (arith, p.room, more, rest.few (omega (arith, p.room, more)));
    }

-- ## The words of a line

unfoldable pub Resolved : Names → ℕ → List Pending → List ℕ → Type 0
Resolved names at [] [] = Unit {0}
Resolved names at (p ∷ ps) (w ∷ words) = (resolved names at p ≡ Ok w) × Resolved names (at + 4) ps words
Resolved names at _ _ = ⊥

filled_line : (names : Names) (k at : ℕ) (ps : List Pending) (image : Words) (rest : List Item) (out : Words) → filled names image (items_at k at ps ++ rest) ≡ Ok out
    → (words : List ℕ) × Resolved names at ps words × (filled names (put_words image (words_from at words)) rest ≡ Ok out)
unfolding Resolved put_words items_at
filled_line names k at [] image rest out e = ([], tt, e)
filled_line names k at (p ∷ ps) image rest out e =
    let s = fill_step names image (record { line = k; at = at; pending = p }) (items_at k (at + 4) ps ++ rest) out e in
    let more = filled_line names k (at + 4) ps (with_word image at s.0) rest out s.3 in
    (s.0 ∷ more.0, (s.1, more.1), more.2)

-- ## What they are

targeted_is : (o : Option ℕ) (f : ℕ → Result ℕ LineFault) (w : ℕ) → targeted o f ≡ Ok w → (target : ℕ) × (o ≡ Some target) × (f target ≡ Ok w)
targeted_is None f w e = absurd cc
targeted_is (Some target) f w e = (target, refl, e)

single : (names : Names) (at : ℕ) (p : Pending) (words : List ℕ) → Resolved names at (p ∷ []) words → (w : ℕ) × (words ≡ w ∷ []) × (resolved names at p ≡ Ok w)
unfolding Resolved
single names at p [] h = absurd h
single names at p (w ∷ []) h = (w, refl, h.0)
single names at p (w ∷ v ∷ words) h = absurd h.1

empty : (names : Names) (at : ℕ) (words : List ℕ) → Resolved names at [] words → words ≡ []
unfolding Resolved
empty names at [] h = refl
empty names at (w ∷ words) h = absurd h

value_is : (names : Names) (at : ℕ) (v : Target) (w : ℕ) → resolved names at (value_pending v) ≡ Ok w → IsTarget names v w
value_is names at (Number n) w e = sym (same_Ok n w e)
value_is names at (Label name) w e = let t = targeted_is (names name) (λ target. Ok target) w e in t.1 ∙ ap Some (same_Ok t.0 w t.2)

values_are : (names : Names) (at : ℕ) (vs : List Target) (words : List ℕ) → Resolved names at (map value_pending vs) words → AllZip (IsTarget names) vs words
unfolding Resolved
values_are names at [] [] h = tt
values_are names at [] (w ∷ words) h = absurd h
values_are names at (v ∷ vs) [] h = absurd h
values_are names at (v ∷ vs) (w ∷ words) h = (value_is names at v w h.0, values_are names (at + 4) vs words h.1)

are_words : (names : Names) (said : Option Said) (at : ℕ) (ps : List Pending) (words : List ℕ) → Pends said at ps → Resolved names at ps words → AreWords names said at words
unfolding Pends
are_words names (Some (Codes c)) at ps words p h =
    let s = single names at (Fixed p.0) words (subst (λ (qs : List Pending). Resolved names at qs words) p.1 h) in
    (s.0, s.1, p.2 ∙ s.2)
are_words names (Some (Refers r (Number n))) at ps words p h =
    let s = single names at (Fixed p.0) words (subst (λ (qs : List Pending). Resolved names at qs words) p.1 h) in
    (s.0, n, s.1, refl, p.2 ∙ s.2)
are_words names (Some (Refers r (Label name))) at ps words p h =
    let s = single names at (Waits r name) words (subst (λ (qs : List Pending). Resolved names at qs words) p h) in
    let t = targeted_is (names name) (λ target. encoded (refer r at target) at) s.0 s.2 in
    (s.0, t.0, s.1, t.1, t.2)
are_words names (Some (Lists vs)) at ps words p h = values_are names at vs words (subst (λ (qs : List Pending). Resolved names at qs words) p h)
are_words names (Some (Orgs n)) at ps words p h = empty names at words (subst (λ (qs : List Pending). Resolved names at qs words) p h)
are_words names None at ps words p h = empty names at words (subst (λ (qs : List Pending). Resolved names at qs words) p h)

-- ## The words of all lines

pub fold_append : (image xs ys : Words) → put_words image (xs ++ ys) ≡ put_words (put_words image xs) ys
unfolding put_words
fold_append image [] ys = refl
fold_append image (x ∷ xs) ys = fold_append (with_word image x.0 x.1) xs ys

pub filled_lines : (names : Names) (lines : List Laid) (new : List (List Item)) (image out : Words) → AllZip NewItems lines new → filled names image (flat new) ≡ Ok out
    → (words : List (List ℕ)) × AllZip (λ line ws. AreWords names line.said line.at ws) lines words × (out ≡ put_words image (words_at lines words))
unfolding flat NewItems filled put_words
filled_lines names [] [] image out h e = let same : image ≡ out = cc in ([], tt, sym same)
filled_lines names [] (n ∷ new) image out h e = absurd h
filled_lines names (line ∷ lines) [] image out h e = absurd h
filled_lines names (line ∷ lines) (n ∷ new) image out h e =
    let p = h.0 in
    let one = filled_line names p.0 line.at p.1 image (flat new) out (subst (λ (is : List Item). filled names image (is ++ flat new) ≡ Ok out) p.2 e) in
    let rest = filled_lines names lines new (put_words image (words_from line.at one.0)) out h.1 one.2 in
    (one.0 ∷ rest.0, (are_words names line.said line.at p.1 one.0 p.3 one.1, rest.1), rest.2 ∙ sym (fold_append image (words_from line.at one.0) (words_at lines rest.0)))

-- ## Where they are

map_append : (xs ys : List Item) → map (λ i. i.at) (xs ++ ys) ≡ map (λ i. i.at) xs ++ map (λ i. i.at) ys
map_append [] ys = refl
map_append (x ∷ xs) ys = ap (λ (zs : List ℕ). x.at ∷ zs) (map_append xs ys)

item_places : (k at : ℕ) (ps : List Pending) → map (λ i. i.at) (items_at k at ps) ≡ addresses_from at (length ps)
unfolding items_at
item_places k at [] = refl
item_places k at (p ∷ ps) = ap (λ (zs : List ℕ). at ∷ zs) (item_places k (at + 4) ps)

pub all_places : (lines : List Laid) (new : List (List Item)) → AllZip NewItems lines new → map (λ i. i.at) (flat new) ≡ flat_map places lines
unfolding flat NewItems
all_places [] [] h = refl
all_places [] (n ∷ new) h = absurd h
all_places (line ∷ lines) [] h = absurd h
all_places (line ∷ lines) (n ∷ new) h =
    let p = h.0 in
    let here : map (λ i. i.at) n ≡ places line = ap (map (λ i. i.at)) p.2 ∙ item_places p.0 line.at p.1 ∙ ap (addresses_from line.at) p.4 in
    map_append n (flat new) ∙ ap (λ (zs : List ℕ). zs ++ map (λ i. i.at) (flat new)) here ∙ ap (λ (zs : List ℕ). places line ++ zs) (all_places lines new h.1)

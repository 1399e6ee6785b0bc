-- What a line of the first sweep does: its words come next, and its ORG is free.
use Rattle.std.proofs.Common.{◌≡◌, ◌≢◌, ◌+◌, ◌*◌, ◌≤◌, ℕ, suc, Bool, true, false, not, ◌&&◌, ◌||◌, ◌==◌, List, [], ◌∷◌, ◌++◌, length, map, Option, Some, None, Result, Ok, Err, refl, sym, ap, subst, ◌∙◌, inl, inr, ◌⊎◌, arith, append_assoc}
use Rattle.std.specs.Prelude.{nat_le, nat_lt, is_some, unwrap_or, if◌then◌else◌}
use Rattle.std.proofs.lemmas.List.{length-append}
use Rattle.std.specs.List.{AllByRecursion, list_any}
use Rattle.std.proofs.lemmas.Bool.{and_parts, cases_Bool, not-false, or_parts}
use Rattle.std.proofs.lemmas.Bool.Decides.{nat_tests}
use Rattle.image.specs.Image.{lies_in_memory, may_hold}
use Rattle.asm_text.specs.Said.{Target, Number, Label, Said, Codes, Refers, Orgs, Lists}
use Rattle.assembler.specs.Assembles.{IsFree, address_after, is_open, addresses_from, word_count}
use Rattle.assembler.specs.Codes.{encoded, refer, use_fault}
use Rattle.assembler.specs.Faults.{lower}
use Rattle.assembler.specs.Sweeps.{Pending, Fixed, Waits, Item, State, all_placed, around_fault, closed_with, lacks_segment, label_fault, labelled_state, org_state, is_open_at, org_fault, overlaps, pending_step, place_fault, placed, said_step, unless, value_pending, word_pending}
use Rattle.assembler.specs.declared.fault.LineFault.{LineFault}
use Rattle.assembler.specs.declared.fault.LineFault.TheVariants.{OutOfRange, TooLong}
use Rattle.image.proofs.WordLemmas.{all_push}
use Rattle.assembler.proofs.AssembleBasics.{all_map, count_map, labelled_at}
use Rattle.std.proofs.lemmas.List.{append-nil}
use Rattle.asm_text.proofs.WordLaws.{chosen, false_true}

-- ## Small facts

pub unless_is : {A : Type 0} (o : Option LineFault) (s t : A) → unless o s ≡ Ok t → (o ≡ None) × (s ≡ t)
unless_is None s t e = (refl, cc)
unless_is (Some fault) s t e = absurd cc

lower_none : (a b : Option LineFault) → lower a b ≡ None → (a ≡ None) × (b ≡ None)
lower_none None b e = (refl, e)
lower_none (Some a) None e = absurd cc
lower_none (Some a) (Some b) e = elim (chosen _ (Some b) (Some a) None e) [ inl h ↦ let k = h.1 in absurd cc | inr h ↦ let k = h.1 in absurd cc ]

-- ## Words put one after the other

unfoldable pub put_all : State → ℕ → List Pending → State
put_all s k [] = s
put_all s k (p ∷ ps) = put_all (placed s k p) k ps

unfoldable pub items_at : ℕ → ℕ → List Pending → List Item
items_at k at [] = []
items_at k at (p ∷ ps) = record { line = k; at = at; pending = p } ∷ items_at k (at + 4) ps

pub values_put : (s : State) (k : ℕ) (vs : List Target) → all_placed s k vs ≡ put_all s k (map value_pending vs)
unfolding put_all
values_put s k [] = refl
values_put s k (v ∷ vs) = values_put (placed s k (value_pending v)) k vs

-- the addresses in some places lie in the segments of a state
unfoldable pub StartBelow : Option ℕ → ℕ → Type 0
StartBelow None at = Unit {0}
StartBelow (Some from) at = from ≤ at

unfoldable pub InSegments : State → ℕ → Type 0
InSegments s a = (overlaps s.closed a (a + 1) ≡ true) ⊎ (is_open_at s.start s.at a ≡ true)

pub record Covers (s : State) (taken : List ℕ) : Type 0 where
  pub covered : AllByRecursion (InSegments s) taken
  pub below : StartBelow s.start s.at

open_longer : (o : Option ℕ) (at a : ℕ) → is_open_at o at a ≡ true → is_open_at (Some (unwrap_or o at)) (at + 4) a ≡ true
open_longer None at a h = false_true h
open_longer (Some from) at a h =
    let k = and_parts (nat_le from a) (nat_lt a at) h in
    let lt : nat_lt a (at + 4) ≡ true = grind (arith, nat_tests, k.1) in
    rw (k.0, lt) refl

open_new : (o : Option ℕ) (at : ℕ) → StartBelow o at → is_open_at (Some (unwrap_or o at)) (at + 4) at ≡ true
unfolding StartBelow
open_new None at h =
    let le : nat_le at at ≡ true = grind (arith, nat_tests) in
    let lt : nat_lt at (at + 4) ≡ true = grind (arith, nat_tests) in
    rw (le, lt) refl
open_new (Some from) at h =
    let le : nat_le from at ≡ true = grind (arith, nat_tests, h) in
    let lt : nat_lt at (at + 4) ≡ true = grind (arith, nat_tests) in
    rw (le, lt) refl

start_below : (o : Option ℕ) (at : ℕ) → StartBelow o at → unwrap_or o at ≤ at + 4
unfolding StartBelow
start_below None at h = omega arith
start_below (Some from) at h = omega arith

covers_placed : (s : State) (k : ℕ) (p : Pending) (taken : List ℕ) → Covers s taken → Covers (placed s k p) (taken ++ s.at ∷ [])
unfolding InSegments StartBelow
covers_placed s k p taken h = record {
  covered = all_push (InSegments (placed s k p)) taken s.at
      (all_map (InSegments s) (InSegments (placed s k p)) taken (λ a held. elim held [ inl e ↦ inl e | inr e ↦ inr (open_longer s.start s.at a e) ]) h.covered)
      (inr (open_new s.start s.at h.below));
  below = start_below s.start s.at h.below;
}

covers_put : (s : State) (k : ℕ) (ps : List Pending) (taken : List ℕ) → Covers s taken → Covers (put_all s k ps) (taken ++ addresses_from s.at (length ps))
unfolding put_all
covers_put s k [] taken h = subst (Covers s) (sym (append-nil taken)) h
covers_put s k (p ∷ ps) taken h =
    subst (Covers (put_all (placed s k p) k ps)) (append_assoc taken (s.at ∷ []) (addresses_from (s.at + 4) (length ps)))
    (covers_put (placed s k p) k ps (taken ++ s.at ∷ []) (covers_placed s k p taken h))

put_items : (s : State) (k : ℕ) (ps : List Pending) → (put_all s k ps).items ≡ s.items ++ items_at k s.at ps
unfolding put_all items_at
put_items s k [] = sym (append-nil s.items)
put_items s k (p ∷ ps) = put_items (placed s k p) k ps ∙ append_assoc s.items (record { line = k; at = s.at; pending = p } ∷ []) (items_at k (s.at + 4) ps)

put_at : (s : State) (k : ℕ) (ps : List Pending) → (put_all s k ps).at ≡ s.at + 4 * length ps
unfolding put_all
put_at s k [] = omega arith
put_at s k (p ∷ ps) = omega (arith, put_at (placed s k p) k ps)

put_names : (s : State) (k : ℕ) (ps : List Pending) → (put_all s k ps).names ≡ s.names
unfolding put_all
put_names s k [] = refl
put_names s k (p ∷ ps) = put_names (placed s k p) k ps

put_closed : (s : State) (k : ℕ) (ps : List Pending) → (put_all s k ps).closed ≡ s.closed
unfolding put_all
put_closed s k [] = refl
put_closed s k (p ∷ ps) = put_closed (placed s k p) k ps

or_same : (b : Bool) → b ≡ (b || false)
or_same true = refl
or_same false = refl

put_open : (s : State) (k : ℕ) (ps : List Pending) → is_some (put_all s k ps).start ≡ (is_some s.start || not (length ps == 0))
unfolding put_all
put_open s k [] = or_same (is_some s.start)
put_open s k (p ∷ ps) = put_open (placed s k p) k ps ∙ or_all (is_some s.start) (suc (length ps) == 0) (grind (arith, nat_tests))
  where
    or_all : (b c : Bool) → c ≡ false → true ≡ (b || not c)
    or_all true c e = refl
    or_all false c e = rw e refl

-- ## Segments

unfoldable pub segments_in : State → ℕ
segments_in s = length s.closed + (if is_some s.start then 1 else 0)

room : (s : State) → lacks_segment s ≡ false → segments_in s ≤ 16 → length s.closed + 1 ≤ 16
unfolding segments_in
room s h few =
    elim (cases_Bool (is_some s.start)) [
      | inl e ↦ rw e at few
      | inr e ↦ let k : nat_le 16 (length s.closed) ≡ false = rw e at h in grind (arith, nat_tests, k)
    ]

-- what the words of a line add
put_segments : (s : State) (k : ℕ) (ps : List Pending) → lacks_segment s ≡ false → segments_in s ≤ 16
    → (segments_in (put_all s k ps) ≡ segments_in s + (if is_some s.start || length ps == 0 then 0 else 1)) × (segments_in (put_all s k ps) ≤ 16)
unfolding segments_in
put_segments s k ps h few =
    let made : segments_in (put_all s k ps) ≡ length s.closed + (if is_some s.start || not (length ps == 0) then 1 else 0) =
    rw (put_closed s k ps, put_open s k ps) refl in
    go (is_some s.start) (length ps == 0) refl made
  where
    go : (b none : Bool) → is_some s.start ≡ b → segments_in (put_all s k ps) ≡ length s.closed + (if b || not none then 1 else 0)
        → (segments_in (put_all s k ps) ≡ segments_in s + (if b || none then 0 else 1)) × (segments_in (put_all s k ps) ≤ 16)
    go true none is made = let was : segments_in s ≡ length s.closed + 1 = rw is refl in (omega (arith, made, was), omega (arith, made, was, few))
    go false true is made = let was : segments_in s ≡ length s.closed + 0 = rw is refl in (omega (arith, made, was), omega (arith, made, was, few))
    go false false is made = let was : segments_in s ≡ length s.closed + 0 = rw is refl in (omega (arith, made, was), omega (arith, made, was, room s h few))

-- ## An ORG

any_first : (p : ℕ × ℕ → Bool) (xs ys : List (ℕ × ℕ)) → list_any p xs ≡ true → list_any p (xs ++ ys) ≡ true
any_first p [] ys h = false_true h
any_first p (x ∷ xs) ys h = elim (cases_Bool (p x)) [ inl e ↦ rw e refl | inr e ↦ let k : list_any p xs ≡ true = rw e at h in rw e (any_first p xs ys k) ]

any_last : (p : ℕ × ℕ → Bool) (xs : List (ℕ × ℕ)) (x : ℕ × ℕ) → p x ≡ true → list_any p (xs ++ x ∷ []) ≡ true
any_last p [] x h = rw h refl
any_last p (y ∷ xs) x h = elim (cases_Bool (p y)) [ inl e ↦ rw e refl | inr e ↦ rw e (any_last p xs x h) ]

closed_keeps : (o : Option ℕ) (to a : ℕ) (closed : List (ℕ × ℕ)) → (overlaps closed a (a + 1) ≡ true) ⊎ (is_open_at o to a ≡ true) → overlaps (closed_with o to closed) a (a + 1) ≡ true
closed_keeps None to a closed h = elim h [ inl e ↦ e | inr e ↦ false_true e ]
closed_keeps (Some from) to a closed h =
    elim h [
      | inl e ↦ any_first (λ s. nat_lt s.0 (a + 1) && nat_lt a s.1) closed ((from, to) ∷ []) e
      | inr e ↦
          let k = and_parts (nat_le from a) (nat_lt a to) e in
          let lt : nat_lt from (a + 1) ≡ true = grind (arith, nat_tests, k.0) in
          any_last (λ s. nat_lt s.0 (a + 1) && nat_lt a s.1) closed (from, to) (rw (lt, k.1) refl)
    ]

covers_org : (s : State) (n : ℕ) (taken : List ℕ) → Covers s taken → Covers (org_state s n) taken
unfolding InSegments StartBelow
covers_org s n taken h = record {
  covered = all_map (InSegments s) (InSegments (org_state s n)) taken (λ a held. inl (closed_keeps s.start s.at a s.closed held)) h.covered;
  below = tt;
}

closed_count : (o : Option ℕ) (to : ℕ) (closed : List (ℕ × ℕ)) → length (closed_with o to closed) ≡ length closed + (if is_some o then 1 else 0)
closed_count None to closed = omega arith
closed_count (Some from) to closed = omega (arith, length-append closed ((from, to) ∷ []))

org_segments : (s : State) (n : ℕ) → segments_in (org_state s n) ≡ segments_in s
unfolding segments_in
org_segments s n = omega (arith, closed_count s.start s.at s.closed)

org_is : (s : State) (n : ℕ) → org_fault s n ≡ None → (may_hold n ≡ true) × (overlaps s.closed n (n + 1) ≡ false) × (is_open_at s.start s.at n ≡ false)
org_is s n e =
    elim (chosen (not (may_hold n) || (overlaps s.closed n (n + 1) || is_open_at s.start s.at n)) (Some OutOfRange) None None e) [
      | inl h ↦ let k = h.1 in absurd cc
      | inr h ↦
          let both = or_parts (not (may_hold n)) (overlaps s.closed n (n + 1) || is_open_at s.start s.at n) h.0 in
          let closed = or_parts (overlaps s.closed n (n + 1)) (is_open_at s.start s.at n) both.1 in
          (not-false (may_hold n) both.0, closed.0, closed.1)
    ]

org_free : (s : State) (n : ℕ) (taken : List ℕ) → org_fault s n ≡ None → Covers s taken → IsFree taken (Some (Orgs n))
unfolding InSegments
org_free s n taken e h =
    let k = org_is s n e in (
      k.0,
      all_map (InSegments s) (λ a. a ≢ n) taken
          (λ a held same. elim held [
            | inl x ↦ false_true (sym k.1 ∙ ap (λ b. overlaps s.closed b (b + 1)) (sym same) ∙ x)
            | inr x ↦ false_true (sym k.2 ∙ ap (is_open_at s.start s.at) (sym same) ∙ x)
          ]) h.covered,
    )

-- ## A line

-- what is at an address, by what a line says
unfoldable pub Pends : Option Said → ℕ → List Pending → Type 0
Pends (Some (Codes c)) at ps = (w : ℕ) × (ps ≡ Fixed w ∷ []) × (encoded c at ≡ Ok w)
Pends (Some (Refers r (Number n))) at ps = (w : ℕ) × (ps ≡ Fixed w ∷ []) × (encoded (refer r at n) at ≡ Ok w)
Pends (Some (Refers r (Label name))) at ps = ps ≡ Waits r name ∷ []
Pends (Some (Lists vs)) at ps = ps ≡ map value_pending vs
Pends _ at ps = ps ≡ []

pub record Moves (s : State) (k : ℕ) (said : Option Said) (t : State) : Type 0 where
  pub new : List Pending
  pub items : t.items ≡ s.items ++ items_at k s.at new
  pub pends : Pends said s.at new
  pub count : length new ≡ word_count said
  pub at : t.at ≡ address_after s.at said
  pub covers : (taken : List ℕ) → Covers s taken → Covers t (taken ++ addresses_from s.at (word_count said))
  pub free : (taken : List ℕ) → Covers s taken → IsFree taken said
  pub opened : is_some t.start ≡ is_open (is_some s.start) said
  pub segments : segments_in s ≤ 16 → (segments_in t ≡ segments_in s + (if is_some s.start || word_count said == 0 then 0 else 1)) × (segments_in t ≤ 16)

pub none_more : (b : Bool) (n : ℕ) → n ≡ n + (if b || true then 0 else 1)
none_more true n = omega arith
none_more false n = omega arith

-- a line without a statement
stays : (s : State) (k : ℕ) → Moves s k None s
unfolding Pends items_at
stays s k = record {
  new = [];
  items = sym (append-nil s.items);
  pends = refl;
  count = refl;
  at = omega arith;
  covers = λ taken h. subst (Covers s) (sym (append-nil taken)) h;
  free = λ taken h. tt;
  opened = or_same (is_some s.start);
  segments = λ few. (none_more (is_some s.start) (segments_in s), few);
}

-- a line with words
words_moves : (s : State) (said : Option Said) (k : ℕ) (ps : List Pending) → Pends said s.at ps → length ps ≡ word_count said → address_after s.at said ≡ s.at + 4 * word_count said
    → ((taken : List ℕ) → IsFree taken said) → is_open (is_some s.start) said ≡ (is_some s.start || not (word_count said == 0)) → lacks_segment s ≡ false → Moves s k said (put_all s k ps)
words_moves s said k ps pends count at free opens room = record {
  new = ps;
  items = put_items s k ps;
  pends = pends;
  count = count;
  at = put_at s k ps ∙ ap (λ (n : ℕ). s.at + 4 * n) count ∙ sym at;
  covers = λ taken h. subst (λ (n : ℕ). Covers (put_all s k ps) (taken ++ addresses_from s.at n)) count (covers_put s k ps taken h);
  free = λ taken h. free taken;
  opened = put_open s k ps ∙ ap (λ (n : ℕ). is_some s.start || not (n == 0)) count ∙ sym opens;
  segments = λ few. subst (λ (n : ℕ). (segments_in (put_all s k ps) ≡ segments_in s + (if is_some s.start || n == 0 then 0 else 1)) × (segments_in (put_all s k ps) ≤ 16)) count (put_segments s k ps room few);
}

-- an ORG
org_moves : (s : State) (k n : ℕ) → org_fault s n ≡ None → Moves s k (Some (Orgs n)) (org_state s n)
unfolding Pends items_at
org_moves s k n e = record {
  new = [];
  items = sym (append-nil s.items);
  pends = refl;
  count = refl;
  at = refl;
  covers = λ taken h. subst (Covers (org_state s n)) (sym (append-nil taken)) (covers_org s n taken h);
  free = λ taken h. org_free s n taken e h;
  opened = refl;
  segments = λ few. (org_segments s n ∙ none_more (is_some s.start) (segments_in s), omega (arith, org_segments s n));
}

-- ## After a label

relabel : (s : State) (name : List ℕ) (k : ℕ) (said : Option Said) (t : State) → Moves (labelled_state s (Some name)) k said t → Moves s k said t
unfolding InSegments StartBelow segments_in
relabel s name k said t m = record {
  new = m.new;
  items = m.items;
  pends = m.pends;
  count = m.count;
  at = m.at;
  covers = λ taken h. m.covers taken (record { covered = h.covered; below = h.below });
  free = λ taken h. m.free taken (record { covered = h.covered; below = h.below });
  opened = m.opened;
  segments = m.segments;
}

moves_of : (s : State) (label : Option (List ℕ)) (k : ℕ) (said : Option Said) (t : State) → Moves (labelled_state s label) k said t → Moves s k said t
moves_of s None k said t m = m
moves_of s (Some name) k said t m = relabel s name k said t m

labelled_lacks : (s : State) (label : Option (List ℕ)) → lacks_segment (labelled_state s label) ≡ lacks_segment s
labelled_lacks s None = refl
labelled_lacks s (Some name) = refl

labelled_org : (s : State) (label : Option (List ℕ)) (n : ℕ) → org_fault (labelled_state s label) n ≡ org_fault s n
labelled_org s None n = refl
labelled_org s (Some name) n = refl

place_room : (s : State) (n : ℕ) → place_fault s n ≡ None → lacks_segment s ≡ false
place_room s n e =
    elim (chosen (not (lies_in_memory s.at (s.at + 4 * n)) || overlaps s.closed s.at (s.at + 4 * n)) (Some OutOfRange) _ None e) [
      | inl h ↦ let k = h.1 in absurd cc
      | inr h ↦ elim (chosen (nat_lt 65536 (s.words + n) || lacks_segment s) (Some TooLong) None None h.1) [
        | inl g ↦ let k = g.1 in absurd cc
        | inr g ↦ (or_parts (nat_lt 65536 (s.words + n)) (lacks_segment s) g.0).1
      ]
    ]

pub record Step (s : State) (k : ℕ) (label : Option (List ℕ)) (said : Option Said) (t : State) : Type 0 where
  pub moves : Moves s k said t
  pub names : t.names ≡ (labelled_state s label).names
  pub fresh : label_fault s label ≡ None

words_step : (s : State) (label : Option (List ℕ)) (said : Option Said) (k : ℕ) (ps : List Pending) (t : State) → Pends said s.at ps → length ps ≡ word_count said
    → address_after s.at said ≡ s.at + 4 * word_count said
    → ((taken : List ℕ) → IsFree taken said) → ((b : Bool) → is_open b said ≡ (b || not (word_count said == 0))) → unless (around_fault s label (word_count said)) (put_all (labelled_state s label) k ps) ≡ Ok t → Step s k label said t
words_step s label said k ps t pends count at free opens e =
    let u = labelled_state s label in
    let done = unless_is (around_fault s label (word_count said)) (put_all u k ps) t e in
    let faults = lower_none (label_fault s label) (place_fault s (word_count said)) done.0 in
    let here = labelled_at s label in
    let moves : Moves u k said (put_all u k ps) =
    words_moves u said k ps (subst (λ (a : ℕ). Pends said a ps) (sym here) pends) count
    (subst (λ (a : ℕ). address_after a said ≡ a + 4 * word_count said) (sym here) at) free (opens (is_some u.start)) (labelled_lacks s label ∙ place_room s (word_count said) faults.1) in
    subst (Step s k label said) done.1 (record { moves = moves_of s label k said (put_all u k ps) moves; names = put_names u k ps; fresh = faults.0 })

-- ## What a statement waits for

word_is : (r : Result ℕ LineFault) (p : Pending) → word_pending r ≡ Ok p → (w : ℕ) × (p ≡ Fixed w) × (r ≡ Ok w)
word_is (Ok w) p e = (w, cc, refl)
word_is (Err fault) p e = absurd cc

pub pending_is : (s : State) (k : ℕ) (label : Option (List ℕ)) (r : Result Pending LineFault) (t : State) → pending_step s k label r ≡ Ok t
    → (p : Pending) × (r ≡ Ok p) × (unless (around_fault s label 1) (placed (labelled_state s label) k p) ≡ Ok t)
pending_is s k label (Ok p) t e = (p, refl, e)
pending_is s k label (Err fault) t e = blocked (lower (Some fault) (around_fault s label 1)) (some_lower fault (around_fault s label 1)) e
  where
    some_lower : (f : LineFault) (o : Option LineFault) → lower (Some f) o ≡ None → ⊥
    some_lower f o h = let k = (lower_none (Some f) o h).0 in absurd cc

    blocked : {A : Type 0} (o : Option LineFault) → (o ≡ None → ⊥) → unless o s ≡ Ok t → A
    blocked o some h = absurd (some (unless_is o s t h).0)

pub said_is : (s : State) (k : ℕ) (label : Option (List ℕ)) (said : Option Said) (t : State) → said_step s k label said ≡ Ok t → Step s k label said t
unfolding Pends put_all
said_is s k label None t e =
    let done = unless_is (label_fault s label) (labelled_state s label) t e in
    subst (Step s k label None) done.1 (record { moves = moves_of s label k None (labelled_state s label) (stays (labelled_state s label) k); names = refl; fresh = done.0 })
said_is s k label (Some (Codes c)) t e =
    let p = pending_is s k label (word_pending (encoded c s.at)) t e in
    let w = word_is (encoded c s.at) p.0 p.1 in
    words_step s label (Some (Codes c)) k (p.0 ∷ []) t (w.0, ap (λ q. q ∷ []) w.1, w.2) refl refl (λ taken. tt) (λ b. refl) p.2
said_is s k label (Some (Refers r (Number n))) t e =
    let p = pending_is s k label (word_pending (encoded (refer r s.at n) s.at)) t e in
    let w = word_is (encoded (refer r s.at n) s.at) p.0 p.1 in
    words_step s label (Some (Refers r (Number n))) k (p.0 ∷ []) t (w.0, ap (λ q. q ∷ []) w.1, w.2) refl refl (λ taken. tt) (λ b. refl) p.2
said_is s k label (Some (Refers r (Label name))) t e =
    let p = pending_is s k label (unless (use_fault r.how) (Waits r name)) t e in
    words_step s label (Some (Refers r (Label name))) k (p.0 ∷ []) t (ap (λ q. q ∷ []) (sym (unless_is (use_fault r.how) (Waits r name) p.0 p.1).1)) refl refl (λ taken. tt) (λ b. refl) p.2
said_is s k label (Some (Orgs n)) t e =
    let u = labelled_state s label in
    let done = unless_is (lower (label_fault s label) (org_fault s n)) (org_state u n) t e in
    let faults = lower_none (label_fault s label) (org_fault s n) done.0 in
    subst (Step s k label (Some (Orgs n))) done.1 (record { moves = moves_of s label k (Some (Orgs n)) (org_state u n) (org_moves u k n (labelled_org s label n ∙ faults.1)); names = refl; fresh = faults.0 })
said_is s k label (Some (Lists vs)) t e =
    words_step s label (Some (Lists vs)) k (map value_pending vs) t refl (count_map vs) refl (λ taken. tt) (λ b. refl)
    (ap (unless (around_fault s label (length vs))) (sym (values_put (labelled_state s label) k vs)) ∙ e)

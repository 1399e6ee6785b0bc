-- After lines without a fault: what the first sweep's state says of them.
use Rattle.std.specs.Prelude.{flat_map, is_some, nat_le, nat_lt, if◌then◌else◌}
use Rattle.std.proofs.Common.{◌≡◌, ◌||◌, ◌↔◌, ◌+◌, ◌<◌, ◌≤◌, ◌==◌, ℕ, suc, Bool, true, false, List, [], ◌∷◌, ◌++◌, length, map, Option, Some, None, Result, Ok, Err, refl, sym, ap, subst, ◌∙◌, inl, inr, ◌⊎◌, arith, append_assoc}
use Rattle.std.proofs.lemmas.Bool.{cases_Bool, or_cases, or_left, or_right}
use Rattle.std.specs.List.{AllByRecursion, Contains}
use Rattle.std.proofs.lemmas.Bool.Decides.{nat_tests}
use Rattle.std.proofs.lemmas.List.{append-nil, length-append}
use Rattle.std.specs.Result.{result_err}
use Rattle.image.specs.Image.{may_hold}
use Rattle.asm_text.specs.Said.{Number, Label, Said, Codes, Refers, Orgs, Lists}
use Rattle.asm_text.specs.Statements.{Parsed}
use Rattle.asm_text.proofs.WordLaws.{false_true}
use Rattle.assembler.specs.Assembles.{Laid, Once, address_after, is_open, label_at, labels_of, laid, laid_from, places, addresses_from, segments, word_count}
use Rattle.assembler.specs.Codes.{encoded, refer, use_fault}
use Rattle.assembler.specs.Faults.{lower}
use Rattle.assembler.specs.Refusals.{AreTooLong, Clashes, HasCodeFault, IsMisplaced, IsRepeated, IsWrong, address_after_all, address_of_next, asked}
use Rattle.assembler.specs.Sweeps.{Waits, Item, Pending, State, all_placed, around_fault, lacks_segment, label_fault, labelled_state, org_state, org_fault, pending_step, place_fault, placed, said_step, unless, value_pending, word_pending}
use Rattle.assembler.specs.declared.fault.LineFault.{LineFault}
use Rattle.assembler.specs.declared.fault.LineFault.TheVariants.{LabelTwice, OutOfRange, TooLong}
use Rattle.assembler.proofs.AssembleBack.{Exact, exact_org, exact_put, may_four}
use Rattle.assembler.proofs.AssembleBasics.{count_map, count_places, labelled_at}
use Rattle.assembler.proofs.AssembleReady.{NotEmpty, exact_labelled}
use Rattle.assembler.proofs.AssembleSteps.{Covers, Pends, items_at, none_more, pending_is, put_all, segments_in, unless_is, values_put}
use Rattle.assembler.proofs.RefuseLeast.{IsLeast, least_both, least_guard, least_none, least_option, least_result, least_same}
use Rattle.assembler.proofs.RefusePlaces.{Bad, org_least, place_least}

-- ## A line more

flat_more : {A B : Type 0} (f : A → List B) (xs : List A) (x : A)
    → flat_map f (xs ++ x ∷ []) ≡ flat_map f xs ++ f x
flat_more f [] x = append-nil (f x)
flat_more {B = B} f (y ∷ xs) x =
    ap (λ (zs : List B). f y ++ zs) (flat_more f xs x) ∙ sym (append_assoc (f y) (flat_map f xs) (f x))

pub laid_more : (at : ℕ) (ps : List Parsed) (p : Parsed)
    → laid_from at (ps ++ p ∷ [])
    ≡ laid_from at ps ++ record { at = address_after_all at ps; label = p.label; said = p.said } ∷ []
laid_more at [] p = refl
laid_more at (q ∷ ps) p =
    ap (λ (ls : List Laid). record { at = at; label = q.label; said = q.said } ∷ ls)
    (laid_more (address_after at q.said) ps p)

pub address_more : (at : ℕ) (ps : List Parsed) (p : Parsed)
    → address_after_all at (ps ++ p ∷ []) ≡ address_after (address_after_all at ps) p.said
address_more at [] p = refl
address_more at (q ∷ ps) p = address_more (address_after at q.said) ps p

pub count_laid : (at : ℕ) (ps : List Parsed) → length (laid_from at ps) ≡ length ps
count_laid at [] = refl
count_laid at (p ∷ ps) = ap suc (count_laid (address_after at p.said) ps)

abbrev pub open_after : Bool → List Laid → Bool
open_after b [] = b
open_after b (l ∷ ls) = open_after (is_open b l.said) ls

pub open_more : (b : Bool) (ls : List Laid) (l : Laid)
    → open_after b (ls ++ l ∷ []) ≡ is_open (open_after b ls) l.said
open_more b [] l = refl
open_more b (x ∷ ls) l = open_more (is_open b x.said) ls l

segments_more : (b : Bool) (ls : List Laid) (l : Laid)
    → segments b (ls ++ l ∷ [])
    ≡ segments b ls + (if open_after b ls || word_count l.said == 0 then 0 else 1)
segments_more b [] l = omega arith
segments_more b (x ∷ ls) l = omega (arith, segments_more (is_open b x.said) ls l)

abbrev pub taken_by : List Parsed → List ℕ
taken_by lines = flat_map places (laid lines)

pub taken_more : (before : List Parsed) (p : Parsed)
    → taken_by (before ++ p ∷ [])
    ≡ taken_by before ++ addresses_from (address_of_next before) (word_count p.said)
taken_more before p =
    ap (flat_map places) (laid_more 32768 before p)
    ∙ flat_more places (laid before)
    (record { at = address_of_next before; label = p.label; said = p.said })

pub labels_more : (before : List Parsed) (p : Parsed)
    → labels_of (laid (before ++ p ∷ []))
    ≡ labels_of (laid before) ++ label_at (address_of_next before) p.label
labels_more before p =
    ap labels_of (laid_more 32768 before p)
    ∙ flat_more (λ line. label_at line.at line.label) (laid before)
    (record { at = address_of_next before; label = p.label; said = p.said })

segments_next : (before : List Parsed) (p : Parsed)
    → segments false (laid (before ++ p ∷ []))
    ≡ segments false (laid before)
    + (if open_after false (laid before) || word_count p.said == 0 then 0 else 1)
segments_next before p =
    ap (segments false) (laid_more 32768 before p)
    ∙ segments_more false (laid before)
    (record { at = address_of_next before; label = p.label; said = p.said })

-- ## The items of lines, from a line's number on

unfoldable pub ItemsOf : ℕ → List Laid → List Item → Type 0
ItemsOf k [] items = items ≡ []
ItemsOf k (l ∷ ls) items =
    (new : List Pending) × (rest : List Item) × (items ≡ items_at k l.at new ++ rest)
    × Pends l.said l.at new × (length new ≡ word_count l.said) × ItemsOf (k + 1) ls rest

pub items_more : (k n : ℕ) (ls : List Laid) (l : Laid) (items : List Item) (new : List Pending)
    → ItemsOf k ls items → n ≡ k + length ls → Pends l.said l.at new → length new ≡ word_count l.said
    → ItemsOf k (ls ++ l ∷ []) (items ++ items_at n l.at new)
unfolding ItemsOf
items_more k n [] l items new h is pends count =
    let same : n ≡ k = omega (arith, is) in (
      new,
      [],
      ap (λ (xs : List Item). xs ++ items_at n l.at new) h
          ∙ ap (λ (j : ℕ). items_at j l.at new) same
          ∙ sym (append-nil (items_at k l.at new)),
      pends,
      count,
      refl,
    )
items_more k n (x ∷ ls) l items new h is pends count =
    let rest = items_more (k + 1) n ls l h.1 new h.5 (omega (arith, is)) pends count in (
      h.0,
      h.1 ++ items_at n l.at new,
      ap (λ (xs : List Item). xs ++ items_at n l.at new) h.2
          ∙ append_assoc (items_at k x.at h.0) h.1 (items_at n l.at new),
      h.3,
      h.4,
      rest,
    )

-- ## The state

pub record Front (s : State) (k : ℕ) (before : List Parsed) : Type 0 where
  pub number : k ≡ length before + 1
  pub at : s.at ≡ address_of_next before
  pub named : (name : List ℕ) → (a : ℕ)
      → (s.names name ≡ Some a) ↔ Contains (labels_of (laid before)) (name, a)
  pub covers : Covers s (taken_by before)
  pub exact : Exact s (taken_by before)
  pub opened : is_some s.start ≡ open_after false (laid before)
  pub segment_count : segments_in s ≡ segments false (laid before)
  pub few_segments : segments false (laid before) ≤ 16
  pub held : AllByRecursion (λ a. may_hold a ≡ true) (taken_by before)
  pub once : Once (taken_by before)
  pub few : length (taken_by before) ≤ 65536
  pub items : ItemsOf 1 (laid before) s.items

-- ## A line's faults: its label

some_is : (o : Option ℕ) → is_some o ≡ true → (a : ℕ) × (o ≡ Some a)
some_is None e = false_true e
some_is (Some a) e = (a, refl)

label_least : (s : State) (k : ℕ) (before : List Parsed) (label : Option (List ℕ)) → Front s k before
    → IsLeast (λ f. (f ≡ LabelTwice) × IsRepeated before label) (label_fault s label)
unfolding IsLeast
label_least s k before None h = λ f r. none r.1.0 r.1.2
  where
    none : (name : List ℕ) → ◌≡◌ {A = Option (List ℕ)} None (Some name) → ⊥
    none name e = cc
label_least s k before (Some name) h =
    least_guard (is_some (s.names name)) LabelTwice (IsRepeated before (Some name)) there again
  where
    there : is_some (s.names name) ≡ true → IsRepeated before (Some name)
    there e = let a = some_is (s.names name) e in (name, a.0, refl, (h.named name a.0).0 a.1)

    again : IsRepeated before (Some name) → is_some (s.names name) ≡ true
    again (other, a, same, there-is) =
        let is : s.names name ≡ Some a =
        (h.named name a).1
        (subst (λ n. Contains (labels_of (laid before)) (n, a))
        (sym (names_same name other same)) there-is) in
        rw is refl
      where
        names_same : (x y : List ℕ) → ◌≡◌ {A = Option (List ℕ)} (Some x) (Some y) → x ≡ y
        names_same x y e = cc

-- ## Too many words or segments

seventeenth : (s : State) (n g : ℕ) → (n == 0) ≡ false → segments_in s ≡ g → g ≤ 16
    → (lacks_segment s ≡ true → 16 < g + (if is_some s.start || n == 0 then 0 else 1))
    × (16 < g + (if is_some s.start || n == 0 then 0 else 1) → lacks_segment s ≡ true)
unfolding segments_in
seventeenth s n g some is few =
    elim (cases_Bool (is_some s.start)) [
      | inl e ↦ (
        λ h. let k : false ≡ true =
            rw e at h in false_true k,
        λ h. let k : 16 < g + 0 = rw e at h in absurd (omega (arith, k, few)),
      )
      | inr e ↦
          let count : length s.closed + 0 ≡ g = rw e at is in (
            λ h. let k : nat_le 16 (length s.closed) ≡ true =
                rw e at h in let le : 16 ≤ length s.closed =
                grind (arith, nat_tests, k) in rw (e, some) (omega (arith, le, count)),
            λ h. let k : 16 < g + 1 =
                rw (e, some) at h in let le : nat_le 16 (length s.closed) ≡ true =
                grind (arith, nat_tests, k, count) in rw (e, le) refl,
          )
    ]

pub record Counts (s : State) (before : List Parsed) (p : Parsed) : Type 0 where
  pub words : length (taken_by (before ++ p ∷ [])) ≡ s.words + word_count p.said
  pub segment_count : segments false (laid (before ++ p ∷ []))
      ≡ segments false (laid before) + (if is_some s.start || word_count p.said == 0 then 0 else 1)

pub counts : (s : State) (k : ℕ) (before : List Parsed) (p : Parsed) → Front s k before → Counts s before p
counts s k before p h =
    let n = word_count p.said in
    let more = length-append (taken_by before) (addresses_from (address_of_next before) n) in
    record {
      words = ap length (taken_more before p)
          ∙ omega (arith, more, count_places (address_of_next before) n, h.exact.words);
      segment_count =
          segments_next before p
          ∙ ap (λ b. segments false (laid before) + (if b || n == 0 then 0 else 1)) (sym h.opened);
    }

long_there : (s : State) (k : ℕ) (before : List Parsed) (p : Parsed) → Front s k before
    → (word_count p.said == 0) ≡ false
    → (nat_lt 65536 (s.words + word_count p.said) || lacks_segment s) ≡ true → AreTooLong (before ++ p ∷ [])
long_there s k before p h some e =
    let c = counts s k before p h in
    elim (or_cases (nat_lt 65536 (s.words + word_count p.said)) (lacks_segment s) e) [
      | inl x ↦ let lt : 65536 < s.words + word_count p.said =
          grind (arith, nat_tests, x) in inl (omega (arith, c.words, lt))
      | inr x ↦
          inr (subst (λ n. 16 < n) (sym c.segment_count)
          ((seventeenth s (word_count p.said)
          (segments false (laid before)) some h.segment_count h.few_segments).0 x))
    ]

long_again : (s : State) (k : ℕ) (before : List Parsed) (p : Parsed) → Front s k before
    → (word_count p.said == 0) ≡ false
    → AreTooLong (before ++ p ∷ []) → (nat_lt 65536 (s.words + word_count p.said) || lacks_segment s) ≡ true
long_again s k before p h some e =
    let c = counts s k before p h in
    elim e [
      | inl x ↦
          let lt : 65536 < s.words + word_count p.said = omega (arith, c.words, x) in
          or_left (nat_lt 65536 (s.words + word_count p.said)) (lacks_segment s)
          (grind (arith, nat_tests, lt))
      | inr x ↦ or_right (nat_lt 65536 (s.words + word_count p.said)) (lacks_segment s)
          ((seventeenth s (word_count p.said)
          (segments false (laid before)) some h.segment_count h.few_segments).1
          (subst (λ n. 16 < n) c.segment_count x))
    ]

not_long : (s : State) (k : ℕ) (before : List Parsed) (p : Parsed) → Front s k before
    → word_count p.said ≡ 0 → AreTooLong (before ++ p ∷ []) → ⊥
not_long s k before p h none e =
    let c = counts s k before p h in
    let words = c.words in
    let same = c.segment_count in
    let exact = h.exact.words in
    let few = h.few in
    let few_segments = h.few_segments in
    elim e [
      | inl x ↦ omega (arith, words, none, exact, few, x)
      | inr x ↦
          let is : segments false (laid (before ++ p ∷ []))
          ≡ segments false (laid before) + (if is_some s.start || true then 0 else 1) =
          rw none at same in
          let nothing = none_more (is_some s.start) (segments false (laid before)) in
          omega (arith, is, nothing, few_segments, x)
    ]

-- ## A line's faults: with those before it

sum_clash : (before : List Parsed) (p : Parsed) (f : LineFault)
    → ((f ≡ LabelTwice) × IsRepeated before p.label)
    ⊎ (((f ≡ OutOfRange) × IsMisplaced before p.said) ⊎ ((f ≡ TooLong) × AreTooLong (before ++ p ∷ [])))
    → Clashes before p f
sum_clash before p f h =
    elim h [
      | inl x ↦ subst (Clashes before p) (sym x.0) x.1
      | inr y ↦
          elim y [
            | inl x ↦ subst (Clashes before p) (sym x.0) x.1
            | inr x ↦
                subst (Clashes before p) (sym x.0) x.1
          ]
    ]

clash_sum : (before : List Parsed) (p : Parsed) (f : LineFault) → Clashes before p f
    → ((f ≡ LabelTwice) × IsRepeated before p.label)
    ⊎ (((f ≡ OutOfRange) × IsMisplaced before p.said) ⊎ ((f ≡ TooLong) × AreTooLong (before ++ p ∷ [])))
clash_sum before p LabelTwice h = inl (refl, h)
clash_sum before p OutOfRange h = inr (inl (refl, h))
clash_sum before p TooLong h = inr (inr (refl, h))
clash_sum before p _ h = absurd h

clash_least : (s : State) (k : ℕ) (before : List Parsed) (p : Parsed) (o : Option LineFault) → Front s k before
    → IsLeast
    (λ f. ((f ≡ OutOfRange) × IsMisplaced before p.said)
    ⊎ ((f ≡ TooLong) × AreTooLong (before ++ p ∷ []))) o
    → IsLeast (Clashes before p) (lower (label_fault s p.label) o)
clash_least s k before p o h place =
    let Label = λ (f : LineFault). (f ≡ LabelTwice) × IsRepeated before p.label in
    let ListPlace =
    λ (f : LineFault). ((f ≡ OutOfRange) × IsMisplaced before p.said)
    ⊎ ((f ≡ TooLong) × AreTooLong (before ++ p ∷ [])) in
    least_same (λ f. Label f ⊎ ListPlace f) (Clashes before p) (lower (label_fault s p.label) o)
    (sum_clash before p) (clash_sum before p)
    (least_both Label ListPlace (label_fault s p.label) o (label_least s k before p.label h) place)

words_clash : (s : State) (k : ℕ) (before : List Parsed) (p : Parsed) (m : ℕ) → Front s k before
    → word_count p.said ≡ suc m
    → asked (address_of_next before) p.said ≡ addresses_from (address_of_next before) (word_count p.said)
    → IsLeast (Clashes before p) (lower (label_fault s p.label) (place_fault s (word_count p.said)))
words_clash s k before p m h n-is asks =
    let some : (word_count p.said == 0) ≡ false = rw n-is (grind (arith, nat_tests)) in
    let same : addresses_from s.at (suc m) ≡ asked (address_of_next before) p.said =
    ap (λ a. addresses_from a (suc m)) h.at ∙ ap (addresses_from (address_of_next before)) (sym n-is)
    ∙ sym asks in
    let Long = AreTooLong (before ++ p ∷ []) in
    let place = place_least s (taken_by before) m Long h.exact h.covers
    (λ e. long_there s k before p h some
    (subst (λ n. (nat_lt 65536 (s.words + n) || lacks_segment s) ≡ true) (sym n-is) e))
    (λ e. subst (λ n. (nat_lt 65536 (s.words + n) || lacks_segment s) ≡ true) n-is
    (long_again s k before p h some e)) in
    clash_least s k before p (place_fault s (word_count p.said)) h
    (subst (λ o. IsLeast (λ f. ((f ≡ OutOfRange) × IsMisplaced before p.said) ⊎ ((f ≡ TooLong) × Long)) o)
    (ap (place_fault s) (sym n-is))
    (subst (λ ats. IsLeast (λ f. ((f ≡ OutOfRange) × Bad (taken_by before) ats) ⊎ ((f ≡ TooLong) × Long))
    (place_fault s (suc m))) same place))

none_clash : (s : State) (k : ℕ) (before : List Parsed) (p : Parsed) → Front s k before
    → word_count p.said ≡ 0 → (IsMisplaced before p.said → ⊥)
    → IsLeast (Clashes before p) (lower (label_fault s p.label) None)
unfolding IsLeast
none_clash s k before p h none free =
    clash_least s k before p None h
    (λ f e. elim e [ inl x ↦ free x.1 | inr x ↦ not_long s k before p h none x.1 ])

org_clash : (s : State) (k : ℕ) (before : List Parsed) (label : Option (List ℕ)) (n : ℕ) → Front s k before
    → IsLeast (Clashes before (record { label = label; said = Some (Orgs n) }))
    (lower (label_fault s label) (org_fault s n))
org_clash s k before label n h =
    let p : Parsed = record { label = label; said = Some (Orgs n) } in
    let Out = λ (f : LineFault). (f ≡ OutOfRange) × IsMisplaced before (Some (Orgs n)) in
    let Sum = λ (f : LineFault). Out f ⊎ ((f ≡ TooLong) × AreTooLong (before ++ p ∷ [])) in
    clash_least s k before p (org_fault s n) h
    (least_same Out Sum (org_fault s n) (λ f e. inl e)
    (λ f e. elim e [ inl x ↦ x | inr x ↦ absurd (not_long s k before p h refl x.1) ])
    (org_least s n (taken_by before) h.exact h.covers))

-- ## A line's faults: all

failed_unless : {A : Type 0} (o : Option LineFault) (s : A) → result_err (unless o s) ≡ o
failed_unless None s = refl
failed_unless (Some f) s = refl

failed_pending : (s : State) (k : ℕ) (label : Option (List ℕ)) (r : Result Pending LineFault)
    → result_err (pending_step s k label r) ≡ lower (result_err r) (around_fault s label 1)
failed_pending s k label (Ok p) = failed_unless (around_fault s label 1) (placed (labelled_state s label) k p)
failed_pending s k label (Err f) = failed_unless (lower (Some f) (around_fault s label 1)) s

failed_word : (r : Result ℕ LineFault) → result_err (word_pending r) ≡ result_err r
failed_word (Ok w) = refl
failed_word (Err f) = refl

joined : (before : List Parsed) (p : Parsed) (code clash o : Option LineFault)
    → IsLeast (HasCodeFault (address_of_next before) p.said) code → IsLeast (Clashes before p) clash
    → lower code clash ≡ o
    → IsLeast (IsWrong before p) o
joined before p code clash o h k is =
    subst (IsLeast (IsWrong before p)) is
    (least_both (HasCodeFault (address_of_next before) p.said) (Clashes before p) code clash h k)

no_asked : (before : List Parsed) → IsMisplaced before None → ⊥
no_asked before (a, there, why) = omega (arith, there.1)

pub said_least : (s : State) (k : ℕ) (before : List Parsed) (label : Option (List ℕ)) (said : Option Said)
    → Front s k before → NotEmpty said
    → IsLeast (IsWrong before (record { label = label; said = said }))
    (result_err (said_step s k label said))
unfolding NotEmpty
said_least s k before label None h some =
    let p : Parsed = record { label = label; said = None } in
    joined before p None (lower (label_fault s label) None) _ least_none
    (none_clash s k before p h refl (no_asked before))
    (lower_alone (label_fault s label) ∙ sym (failed_unless (label_fault s label) (labelled_state s label)))
  where
    lower_alone : (o : Option LineFault) → lower None (lower o None) ≡ o
    lower_alone None = refl
    lower_alone (Some f) = refl
said_least s k before label (Some (Codes c)) h some =
    let p : Parsed = record { label = label; said = Some (Codes c) } in
    let code =
    subst (λ a. IsLeast (λ f. encoded c a ≡ Err f) (result_err (encoded c s.at))) h.at
    (least_result (encoded c s.at)) in
    joined before p (result_err (encoded c s.at)) (around_fault s label 1) _ code
    (words_clash s k before p 0 h refl refl)
    (ap (λ o. lower o (around_fault s label 1)) (sym (failed_word (encoded c s.at)))
    ∙ sym (failed_pending s k label (word_pending (encoded c s.at))))
said_least s k before label (Some (Refers r (Number n))) h some =
    let p : Parsed = record { label = label; said = Some (Refers r (Number n)) } in
    let e = encoded (refer r s.at n) s.at in
    let code = subst (λ a. IsLeast (λ f. encoded (refer r a n) a ≡ Err f) (result_err e)) h.at (least_result e) in
    joined before p (result_err e) (around_fault s label 1) _ code (words_clash s k before p 0 h refl refl)
    (ap (λ o. lower o (around_fault s label 1)) (sym (failed_word e))
    ∙ sym (failed_pending s k label (word_pending e)))
said_least s k before label (Some (Refers r (Label name))) h some =
    let p : Parsed = record { label = label; said = Some (Refers r (Label name)) } in
    let o = use_fault r.how in
    joined before p o (around_fault s label 1) _ (least_option o) (words_clash s k before p 0 h refl refl)
    (ap (λ x. lower x (around_fault s label 1)) (sym (failed_unless o (Waits r name)))
    ∙ sym (failed_pending s k label (unless o (Waits r name))))
said_least s k before label (Some (Orgs n)) h some =
    let p : Parsed = record { label = label; said = Some (Orgs n) } in
    let clash = lower (label_fault s label) (org_fault s n) in
    joined before p None clash _ least_none (org_clash s k before label n h)
    (sym (failed_unless clash (org_state (labelled_state s label) n)))
said_least s k before label (Some (Lists [])) h some = absurd some
said_least s k before label (Some (Lists (v ∷ vs))) h some =
    let p : Parsed = record { label = label; said = Some (Lists (v ∷ vs)) } in
    let clash = around_fault s label (length (v ∷ vs)) in
    joined before p None clash _ least_none (words_clash s k before p (length vs) h refl refl)
    (sym (failed_unless clash (all_placed (labelled_state s label) k (v ∷ vs))))

-- ## A line more without a fault

one_exact : (s : State) (k : ℕ) (label : Option (List ℕ)) (r : Result Pending LineFault) (t : State)
    (taken : List ℕ) → pending_step s k label r ≡ Ok t → Exact s taken → Exact t (taken ++ s.at ∷ [])
unfolding put_all
one_exact s k label r t taken e h =
    let u = labelled_state s label in
    let p = pending_is s k label r t e in
    let done = unless_is (around_fault s label 1) (placed u k p.0) t p.2 in
    subst (λ v. Exact v (taken ++ s.at ∷ [])) done.1
    (subst (λ a. Exact (placed u k p.0) (taken ++ a ∷ [])) (labelled_at s label)
    (exact_put u k (p.0 ∷ []) taken (exact_labelled s label taken h)))

pub exact_said : (s : State) (k : ℕ) (label : Option (List ℕ)) (said : Option Said) (t : State)
    (taken : List ℕ) → (IsFreeOrg : (n : ℕ) → said ≡ Some (Orgs n) → may_hold n ≡ true)
    → said_step s k label said ≡ Ok t → Exact s taken → Exact t (taken ++ addresses_from s.at (word_count said))
unfolding put_all
exact_said s k label None t taken org e h =
    let done = unless_is (label_fault s label) (labelled_state s label) t e in
    subst (λ u. Exact u (taken ++ [])) done.1
    (subst (Exact (labelled_state s label)) (sym (append-nil taken)) (exact_labelled s label taken h))
exact_said s k label (Some (Codes c)) t taken org e h =
    one_exact s k label (word_pending (encoded c s.at)) t taken e h
exact_said s k label (Some (Refers r (Number n))) t taken org e h =
    one_exact s k label (word_pending (encoded (refer r s.at n) s.at)) t taken e h
exact_said s k label (Some (Refers r (Label name))) t taken org e h =
    one_exact s k label (unless (use_fault r.how) (Waits r name)) t taken e h
exact_said s k label (Some (Orgs n)) t taken org e h =
    let u = labelled_state s label in
    let done = unless_is (lower (label_fault s label) (org_fault s n)) (org_state u n) t e in
    subst (λ v. Exact v (taken ++ [])) done.1
    (subst (Exact (org_state u n)) (sym (append-nil taken))
    (exact_org u n taken (may_four n (org n refl)) (exact_labelled s label taken h)))
exact_said s k label (Some (Lists vs)) t taken org e h =
    let u = labelled_state s label in
    let done = unless_is (around_fault s label (length vs)) (all_placed u k vs) t e in
    subst (λ v. Exact v (taken ++ addresses_from s.at (length vs))) (sym (values_put u k vs) ∙ done.1)
    (subst (λ n. Exact (put_all u k (map value_pending vs)) (taken ++ addresses_from s.at n)) (count_map vs)
    (subst (λ a. Exact (put_all u k (map value_pending vs))
    (taken ++ addresses_from a (length (map value_pending vs)))) (labelled_at s label)
    (exact_put u k (map value_pending vs) taken (exact_labelled s label taken h))))

-- Each line of an assembly passes, and so do all.
use Rattle.std.proofs.Common.{◌≡◌, ◌≢◌, ◌+◌, ◌≤◌, ℕ, suc, Bool, true, false, cond, ◌||◌, ◌==◌, List, [], ◌∷◌, ◌++◌, length, map, Option, Some, None, Result, Ok, Err, refl, sym, ap, subst, ◌∙◌, inl, inr, arith}
use Rattle.std.proofs.lemmas.Bool.{cases_Bool}
use Rattle.std.specs.Prelude.{nat_le, nat_lt, is_some, if◌then◌else◌}
use Rattle.std.specs.List.{AllByRecursion}
use Rattle.std.proofs.lemmas.Bool.Decides.{nat_tests}
use Rattle.arm2_decode.specs.declared.names.Register.TheVariants.{R15}
use Rattle.image.specs.Image.{may_hold}
use Rattle.asm_text.specs.Said.{Number, Label, Said, Codes, Refers, Orgs, Lists}
use Rattle.asm_text.specs.declared.syntax.Use.{Use}
use Rattle.asm_text.specs.declared.syntax.Use.TheVariants as use_of
use Rattle.assembler.specs.Assembles.{AreWords, IsFree, addresses_from, word_count}
use Rattle.assembler.specs.Codes.{action_word, encoded, refer, use_action, use_fault}
use Rattle.assembler.specs.Faults.{lower}
use Rattle.image.specs.Labels.{Names}
use Rattle.assembler.specs.Sweeps.{Pending, Fixed, Waits, State, around_fault, lacks_segment, label_fault, labelled_state, org_state, is_open_at, org_fault, overlaps, place_fault, placed, said_step, unless, value_pending}
use Rattle.assembler.specs.declared.fault.LineFault.{LineFault}
use Rattle.assembler.proofs.AssembleSteps.{InSegments, put_all, segments_in, values_put}
use Rattle.assembler.proofs.AssembleBack.{Apart, Exact, StartEven, exact_org, exact_put, in_memory_all, may_four, no_overlap, not_in}
use Rattle.assembler.proofs.AssembleBasics.{count_map, labelled_at}
use Rattle.std.proofs.lemmas.List.{append-nil}

-- ## Places

place_ok : (s : State) (taken : List ℕ) (m : ℕ) → Exact s taken → AllByRecursion (λ a. may_hold a ≡ true) (addresses_from s.at (suc m)) → Apart taken (addresses_from s.at (suc m))
    → length taken + suc m ≤ 65536 → lacks_segment s ≡ false → place_fault s (suc m) ≡ None
place_ok s taken m h held apart few room =
    let inside = in_memory_all m s.at held in
    let alone = no_overlap s taken (suc m) h apart (omega arith) in
    let small : nat_lt 65536 (s.words + suc m) ≡ false = let w = h.words in grind (arith, nat_tests, w, few) in
    rw (inside, alone, small, room) refl

segment_left : (s : State) (n : ℕ) → (n == 0) ≡ false → segments_in s + (if is_some s.start || n == 0 then 0 else 1) ≤ 16 → lacks_segment s ≡ false
unfolding segments_in
segment_left s n some h =
    elim (cases_Bool (is_some s.start)) [
      | inl e ↦ rw e refl
      | inr e ↦
          let k : length s.closed + 0 + 1 ≤ 16 = rw (e, some) at h in
          let small : nat_le 16 (length s.closed) ≡ false = grind (arith, nat_tests, k) in
          rw (e, small) refl
    ]

-- ## A label

pub exact_labelled : (s : State) (label : Option (List ℕ)) (taken : List ℕ) → Exact s taken → Exact (labelled_state s label) taken
unfolding InSegments StartEven
exact_labelled s None taken h = h
exact_labelled s (Some name) taken h = record { within = λ a four held. h.within a four held; even = h.even; start = h.start; spans = h.spans; words = h.words }

unless_ok : (o : Option LineFault) (s : State) → o ≡ None → unless o s ≡ Ok s
unless_ok o s e = rw e refl

-- ## A statement

unfoldable pub NotEmpty : Option Said → Type 0
NotEmpty (Some (Lists [])) = ⊥
NotEmpty _ = Unit {0}

pub record Ready (s : State) (label : Option (List ℕ)) (said : Option Said) (names : Names) (words taken : List ℕ) : Type 0 where
  pub exact : Exact s taken
  pub fresh : label_fault s label ≡ None
  pub some : NotEmpty said
  pub coded : AreWords names said s.at words
  pub held : AllByRecursion (λ a. may_hold a ≡ true) (addresses_from s.at (word_count said))
  pub apart : Apart taken (addresses_from s.at (word_count said))
  pub free : IsFree taken said
  pub few : length taken + word_count said ≤ 65536
  pub few_segments : segments_in s + (if is_some s.start || word_count said == 0 then 0 else 1) ≤ 16

words_ok : (s : State) (label : Option (List ℕ)) (said : Option Said) (names : Names) (words taken : List ℕ) (k m : ℕ) (ps : List Pending) → Ready s label said names words taken
    → word_count said ≡ suc m → length ps ≡ word_count said
    → (unless (around_fault s label (word_count said)) (put_all (labelled_state s label) k ps) ≡ Ok (put_all (labelled_state s label) k ps)) × Exact (put_all (labelled_state s label) k ps) (taken ++ addresses_from s.at (word_count said))
words_ok s label said names words taken k m ps h n-is count =
    let some : (word_count said == 0) ≡ false = rw n-is (grind (arith, nat_tests)) in
    let room = segment_left s (word_count said) some h.few_segments in
    let place : place_fault s (word_count said) ≡ None =
    rw n-is (place_ok s taken m h.exact (subst (λ n. AllByRecursion (λ a. may_hold a ≡ true) (addresses_from s.at n)) n-is h.held) (subst (λ n. Apart taken (addresses_from s.at n)) n-is h.apart) (subst (λ n. length taken + n ≤ 65536) n-is h.few) room) in
    let around : around_fault s label (word_count said) ≡ None = rw (h.fresh, place) refl in
    let u = labelled_state s label in (
      unless_ok (around_fault s label (word_count said)) (put_all u k ps) around,
      subst (λ a. Exact (put_all u k ps) (taken ++ addresses_from a (word_count said))) (labelled_at s label)
          (subst (λ n. Exact (put_all u k ps) (taken ++ addresses_from u.at n)) count (exact_put u k ps taken (exact_labelled s label taken h.exact))),
    )

-- a word that has a code does not wait for a refusal
no_word : {A : Type 0} (b : Bool) (f g : LineFault) (w : ℕ) → cond {A = Result ℕ LineFault} b (Err f) (Err g) ≡ Ok w → A
no_word true f g w e = absurd cc
no_word false f g w e = absurd cc

use_ok : (how : Use) (c at target w : ℕ) → action_word c at (use_action how at target) ≡ Ok w → use_fault how ≡ None
use_ok (use_of.Transfer true true R15) c at target w e = no_word _ _ _ w e
use_ok (use_of.Transfer false true R15) c at target w e = no_word _ _ _ w e
use_ok _ c at target w e = refl

org_ok : (s : State) (n : ℕ) (taken : List ℕ) → Exact s taken → (may_hold n ≡ true) × AllByRecursion (λ a. a ≢ n) taken → org_fault s n ≡ None
unfolding InSegments
org_ok s n taken h free =
    let four = may_four n free.0 in
    let none : InSegments s n → ⊥ = λ held. not_in taken n free.1 (h.within n four held) in
    elim (cases_Bool (overlaps s.closed n (n + 1))) [
      | inl e ↦ absurd (none (inl e))
      | inr e ↦ elim (cases_Bool (is_open_at s.start s.at n)) [
        | inl g ↦ absurd (none (inr g))
        | inr g ↦ rw (free.0, e, g) refl
      ]
    ]

unfoldable pub Passes : State → ℕ → Option (List ℕ) → Option Said → List ℕ → Type 0
Passes s k label said taken = (t : State) × (said_step s k label said ≡ Ok t) × Exact t (taken ++ addresses_from s.at (word_count said))

pub said_ok : (s : State) (k : ℕ) (label : Option (List ℕ)) (said : Option Said) (names : Names) (words taken : List ℕ) → Ready s label said names words taken → Passes s k label said taken
unfolding Passes NotEmpty put_all
said_ok s k label None names words taken h =
    (labelled_state s label, unless_ok (label_fault s label) (labelled_state s label) h.fresh, subst (Exact (labelled_state s label)) (sym (append-nil taken)) (exact_labelled s label taken h.exact))
said_ok s k label (Some (Codes c)) names words taken h =
    let w = h.coded.0 in
    let k-is = words_ok s label (Some (Codes c)) names words taken k 0 (Fixed w ∷ []) h refl refl in
    (placed (labelled_state s label) k (Fixed w), rw h.coded.2 k-is.0, k-is.1)
said_ok s k label (Some (Refers r (Number n))) names words taken h =
    let w = h.coded.0 in
    let code : encoded (refer r s.at n) s.at ≡ Ok w = subst (λ t. encoded (refer r s.at t) s.at ≡ Ok w) h.coded.3 h.coded.4 in
    let k-is = words_ok s label (Some (Refers r (Number n))) names words taken k 0 (Fixed w ∷ []) h refl refl in
    (placed (labelled_state s label) k (Fixed w), rw code k-is.0, k-is.1)
said_ok s k label (Some (Refers r (Label name))) names words taken h =
    let none = use_ok r.how _ s.at h.coded.1 h.coded.0 h.coded.4 in
    let k-is = words_ok s label (Some (Refers r (Label name))) names words taken k 0 (Waits r name ∷ []) h refl refl in
    (placed (labelled_state s label) k (Waits r name), rw none k-is.0, k-is.1)
said_ok s k label (Some (Orgs n)) names words taken h =
    let u = labelled_state s label in
    let faults : lower (label_fault s label) (org_fault s n) ≡ None = rw (h.fresh, org_ok s n taken h.exact h.free) refl in (
      org_state u n,
      unless_ok (lower (label_fault s label) (org_fault s n)) (org_state u n) faults,
      subst (Exact (org_state u n)) (sym (append-nil taken)) (exact_org u n taken (may_four n h.free.0) (exact_labelled s label taken h.exact)),
    )
said_ok s k label (Some (Lists [])) names words taken h = absurd h.some
said_ok s k label (Some (Lists (v ∷ vs))) names words taken h =
    let all = v ∷ vs in
    let k-is = words_ok s label (Some (Lists (v ∷ vs))) names words taken k (length vs) (map value_pending (v ∷ vs)) h refl (count_map (v ∷ vs)) in (
      put_all (labelled_state s label) k (map value_pending (v ∷ vs)),
      ap (unless (around_fault s label (length (v ∷ vs)))) (values_put (labelled_state s label) k (v ∷ vs)) ∙ k-is.0,
      k-is.1,
    )

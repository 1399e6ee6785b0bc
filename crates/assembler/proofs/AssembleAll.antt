-- All lines of an assembly pass the first sweep.
use Rattle.std.proofs.Common.{◌≡◌, ◌≢◌, ◌+◌, ◌≤◌, ℕ, Bool, true, List, [], ◌∷◌, ◌++◌, length, map, Option, Some, None, Ok, refl, sym, subst, inl, inr, ◌⊎◌, arith}
use Rattle.std.proofs.lemmas.Bool.{cases_Bool}
use Rattle.std.specs.Prelude.{is_some, flat_map}
use Rattle.std.specs.List.{AllByRecursion, AllZip}
use Rattle.std.specs.Str.{bytes_eq}
use Rattle.std.proofs.lemmas.List.{length-append}
use Rattle.std.proofs.lemmas.Slice.Eq.{bytes_eq-Decides}
use Rattle.image.specs.Image.{may_hold}
use Rattle.asm_text.specs.Statements.{Parsed, line_of}
use Rattle.assembler.specs.Assembles.{AreFree, AreWords, Laid, Once, address_after, label_at, labels_of, laid_from, places, addresses_from, segments, word_count}
use Rattle.image.specs.Labels.{Names}
use Rattle.assembler.specs.Sweeps.{State, label_fault, labelled_state, swept, with_name}
use Rattle.assembler.proofs.AssembleSteps.{Step, said_is, segments_in}
use Rattle.assembler.proofs.AssembleBack.{Apart, Exact, In}
use Rattle.assembler.proofs.AssembleReady.{NotEmpty, Passes, Ready, said_ok}
use Rattle.image.proofs.WordLemmas.{all_parts}
use Rattle.assembler.proofs.AssembleBasics.{all_both, all_true, count_places}

-- ## Lists in two parts

names_all : (P : List ℕ → Type 0) (xs : List (List ℕ × ℕ)) → AllByRecursion P (map (λ e. e.0) xs) → AllByRecursion (λ e. P e.0) xs
names_all P [] h = tt
names_all P (x ∷ xs) h = (h.0, names_all P xs h.1)

pub once_parts : (xs ys : List ℕ) → Once (xs ++ ys) → Once ys × Apart xs ys
unfolding Apart In
once_parts [] ys h = (h, all_true (λ a. In [] a → ⊥) ys (λ a k. k))
once_parts (x ∷ xs) ys h =
    let k = once_parts xs ys h.1 in
    let head = (all_parts (λ y. x ≢ y) xs ys h.0).1 in
    (k.0, all_both (λ y. x ≢ y) (λ a. In xs a → ⊥) (λ a. In (x ∷ xs) a → ⊥) ys (λ a differs other there. elim there [ inl e ↦ differs e | inr m ↦ other m ]) head k.1)

in_parts : (xs ys : List ℕ) (a : ℕ) → In (xs ++ ys) a → In xs a ⊎ In ys a
unfolding In
in_parts [] ys a h = inr h
in_parts (x ∷ xs) ys a h = elim h [ inl e ↦ inl (inl e) | inr m ↦ elim (in_parts xs ys a m) [ inl k ↦ inl (inr k) | inr k ↦ inr k ] ]

pub apart_both : (xs ys zs : List ℕ) → Apart xs zs → Apart ys zs → Apart (xs ++ ys) zs
unfolding Apart
apart_both xs ys zs h k =
    all_both (λ a. In xs a → ⊥) (λ a. In ys a → ⊥) (λ a. In (xs ++ ys) a → ⊥) zs (λ a f g there. elim (in_parts xs ys a there) [ inl m ↦ f m | inr m ↦ g m ]) h k

pub apart_none : (zs : List ℕ) → Apart [] zs
unfolding Apart In
apart_none zs = all_true (λ a. In [] a → ⊥) zs (λ a k. k)

apart_parts : (taken xs ys : List ℕ) → Apart taken (xs ++ ys) → Apart taken xs × Apart taken ys
unfolding Apart
apart_parts taken xs ys h = all_parts (λ a. In taken a → ⊥) xs ys h

-- ## Names

free_label : (s : State) (label : Option (List ℕ)) (labels : List (List ℕ × ℕ)) → AllByRecursion (λ e. s.names e.0 ≡ None) (label_at s.at label ++ labels) → label_fault s label ≡ None
free_label s None labels h = refl
free_label s (Some name) labels h = rw h.0 refl

still_none : (name : List ℕ) (at : ℕ) (old : Names) (other : List ℕ) → old other ≡ None → name ≢ other → with_name name at old other ≡ None
still_none name at old other free differs =
    elim (cases_Bool (bytes_eq other name)) [
      | inl e ↦ absurd (differs (sym ((bytes_eq-Decides other name).0 e)))
      | inr e ↦ rw e free
    ]

free_after : (s : State) (label : Option (List ℕ)) (labels : List (List ℕ × ℕ)) → AllByRecursion (λ e. s.names e.0 ≡ None) (label_at s.at label ++ labels) → Once (map (λ e. e.0) (label_at s.at label ++ labels))
    → AllByRecursion (λ e. (labelled_state s label).names e.0 ≡ None) labels × Once (map (λ e. e.0) labels)
free_after s None labels h once = (h, once)
free_after s (Some name) labels h once =
    (all_both (λ e. s.names e.0 ≡ None) (λ e. name ≢ e.0) (λ e. with_name name s.at s.names e.0 ≡ None) labels (λ e free differs. still_none name s.at s.names e.0 free differs) h.1 (names_all (λ other. name ≢ other) labels once.0), once.1)

-- ## All lines

pub record CanSweep (s : State) (taken : List ℕ) (names : Names) (lines : List Laid) (words : List (List ℕ)) : Type 0 where
  pub exact : Exact s taken
  pub fresh : AllByRecursion (λ e. s.names e.0 ≡ None) (labels_of lines)
  pub once : Once (map (λ e. e.0) (labels_of lines))
  pub coded : AllZip (λ line ws. AreWords names line.said line.at ws) lines words
  pub held : AllByRecursion (λ a. may_hold a ≡ true) (flat_map places lines)
  pub apart : Apart taken (flat_map places lines)
  pub once_there : Once (flat_map places lines)
  pub free : AreFree taken lines
  pub few : length taken + length (flat_map places lines) ≤ 65536
  pub few_segments : segments_in s + segments (is_some s.start) lines ≤ 16

line_ready : (s : State) (taken : List ℕ) (names : Names) (p : Parsed) (rest : List Laid) (ws : List ℕ) (words : List (List ℕ)) → NotEmpty p.said
    → CanSweep s taken names (record { at = s.at; label = p.label; said = p.said } ∷ rest) (ws ∷ words) → Ready s p.label p.said names ws taken
line_ready s taken names p rest ws words some h =
    let here = addresses_from s.at (word_count p.said) in
    let there = flat_map places rest in
    record {
      exact = h.exact;
      fresh = free_label s p.label (labels_of rest) h.fresh;
      some = some;
      coded = h.coded.0;
      held = (all_parts (λ a. may_hold a ≡ true) here there h.held).0;
      apart = (apart_parts taken here there h.apart).0;
      free = h.free.0;
      few = omega (arith, h.few, length-append here there, count_places s.at (word_count p.said));
      few_segments = omega (arith, h.few_segments);
    }

rest_ready : (s t : State) (k : ℕ) (taken : List ℕ) (names : Names) (p : Parsed) (rest : List Laid) (ws : List ℕ) (words : List (List ℕ))
    → CanSweep s taken names (record { at = s.at; label = p.label; said = p.said } ∷ rest) (ws ∷ words) → Step s k p.label p.said t → Exact t (taken ++ addresses_from s.at (word_count p.said))
    → CanSweep t (taken ++ addresses_from s.at (word_count p.said)) names rest words
rest_ready s t k taken names p rest ws words h step exact =
    let here = addresses_from s.at (word_count p.said) in
    let there = flat_map places rest in
    let labels = free_after s p.label (labels_of rest) h.fresh h.once in
    let m = step.moves in
    let small : segments_in s ≤ 16 = omega (arith, h.few_segments) in
    let after = m.segments small in
    let parts = once_parts here there h.once_there in
    record {
      exact = exact;
      fresh = subst (λ (n : Names). AllByRecursion (λ e. n e.0 ≡ None) (labels_of rest)) (sym step.names) labels.0;
      once = labels.1;
      coded = h.coded.1;
      held = (all_parts (λ a. may_hold a ≡ true) here there h.held).1;
      apart = apart_both taken here there (apart_parts taken here there h.apart).1 parts.1;
      once_there = parts.0;
      free = h.free.1;
      few = omega (arith, h.few, length-append here there, length-append taken here);
      few_segments = subst (λ (b : Bool). segments_in t + segments b rest ≤ 16) (sym m.opened) (omega (arith, h.few_segments, after.0));
    }

pub swept_ok : (lines : List (List ℕ)) (said : List Parsed) (s : State) (k : ℕ) (taken : List ℕ) (names : Names) (words : List (List ℕ))
    → AllZip (λ line p. line_of line ≡ Ok p) lines said → AllByRecursion (λ p. NotEmpty p.said) said → CanSweep s taken names (laid_from s.at said) words → (t : State) × (swept s k lines ≡ Ok t)
unfolding swept Passes
swept_ok [] [] s k taken names words read some h = (s, refl)
swept_ok [] (p ∷ said) s k taken names words read some h = absurd read
swept_ok (line ∷ lines) [] s k taken names words read some h = absurd read
swept_ok (line ∷ lines) (p ∷ said) s k taken names [] read some h = absurd h.coded
swept_ok (line ∷ lines) (p ∷ said) s k taken names (ws ∷ words) read some h =
    let rest = laid_from (address_after s.at p.said) said in
    let one = said_ok s k p.label p.said names ws taken (line_ready s taken names p rest ws words some.0 h) in
    let step = said_is s k p.label p.said one.0 one.1 in
    let here = addresses_from s.at (word_count p.said) in
    let next = rest_ready s one.0 k taken names p rest ws words h step one.2 in
    let at-next : CanSweep one.0 (taken ++ here) names (laid_from one.0.at said) words = subst (λ (a : ℕ). CanSweep one.0 (taken ++ here) names (laid_from a said) words) (sym step.moves.at) next in
    let more = swept_ok lines said one.0 (k + 1) (taken ++ here) names words read.1 some.1 at-next in
    (more.0, rw (read.0, one.1) more.1)

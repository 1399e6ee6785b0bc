-- What the first sweep says of all lines.
use Rattle.std.proofs.Common.{◌≡◌, ◌≢◌, ◌+◌, ◌<◌, ◌≤◌, ◌↔◌, ℕ, zero, suc, Bool, List, [], ◌∷◌, ◌++◌, length, map, Option, Some, None, Result, Ok, Err, refl, sym, ap, subst, ◌∙◌, inl, inr, ◌⊎◌, arith, append_assoc, get_or}
use Rattle.std.proofs.lemmas.Bool.{cases_Bool}
use Rattle.std.specs.Prelude.{is_some, if◌then◌else◌}
use Rattle.std.specs.List.{AllByRecursion, AllZip, Contains}
use Rattle.std.specs.Str.{bytes_eq}
use Rattle.asm_text.specs.Statements.{Parsed, line_of}
use Rattle.asm_text.specs.declared.statement.TextFault.{TextFault}
use Rattle.assembler.specs.Assembles.{AreFree, Laid, Once, address_after, is_open, label_at, labels_of, laid_from, segments, word_count}
use Rattle.image.specs.Labels.{Names}
use Rattle.assembler.specs.Sweeps.{Item, Pending, State, label_fault, labelled_state, line_step, swept, after_line, with_name}
use Rattle.assembler.specs.declared.fault.LineFault.{LineFault}
use Rattle.assembler.specs.declared.fault.LineFault.TheVariants.{LabelTwice}
use Rattle.assembler.proofs.AssembleSteps.{Covers, Pends, Step, items_at, said_is, segments_in}
use Rattle.assembler.proofs.AssembleBasics.{all_map}
use Rattle.std.proofs.lemmas.List.{append-nil}
use Rattle.asm_text.proofs.WordLaws.{chosen, equal_bytes, false_true, same_bytes}

nothing : {A B : Type 0} (a : A) → None ≡ Some a → B
nothing a e = absurd cc

something : {A B : Type 0} (a : A) → Some a ≡ None → B
something a e = absurd cc

-- ## Names

pub record NamesOf (old new : Names) (labels : List (List ℕ × ℕ)) : Type 0 where
  pub fresh : AllByRecursion (λ e. old e.0 ≡ None) labels
  pub once : Once (map (λ e. e.0) labels)
  pub named : (name : List ℕ) → (at : ℕ) → (new name ≡ Some at) ↔ ((old name ≡ Some at) ⊎ Contains labels (name, at))

all_names : (P : List ℕ → Type 0) (xs : List (List ℕ × ℕ)) → AllByRecursion (λ e. P e.0) xs → AllByRecursion P (map (λ e. e.0) xs)
all_names P [] h = tt
all_names P (x ∷ xs) h = (h.0, all_names P xs h.1)

in_cases : (e : List ℕ × ℕ) (es : List (List ℕ × ℕ)) (x : List ℕ × ℕ) (k : ℕ) → k < length (e ∷ es) → get_or (e ∷ es) k x ≡ x → (e ≡ x) ⊎ Contains es x
in_cases e es x zero lt is = inl is
in_cases e es x (suc k) lt is = inr (k, omega arith, is)

pub no_labels : (names : Names) → NamesOf names names []
no_labels names = record { fresh = tt; once = tt; named = λ name at. (λ e. inl e, λ h. elim h [ inl e ↦ e | inr c ↦ absurd (omega (arith, c.1)) ]) }

was_free : (name : List ℕ) (at : ℕ) (old : Names) (other : List ℕ) → with_name name at old other ≡ None → (old other ≡ None) × (name ≢ other)
was_free name at old other e =
    elim (chosen (bytes_eq other name) (Some at) (old other) None e) [
      | inl h ↦ something at h.1
      | inr h ↦ (h.1, λ same. false_true (sym h.0 ∙ ap (bytes_eq other) same ∙ same_bytes other))
    ]

name_before : (name : List ℕ) (at : ℕ) (old : Names) (other : List ℕ) (a : ℕ) → with_name name at old other ≡ Some a → (◌≡◌ {A = List ℕ × ℕ} (name, at) (other, a)) ⊎ (old other ≡ Some a)
name_before name at old other a e =
    elim (chosen (bytes_eq other name) (Some at) (old other) (Some a) e) [
      | inl h ↦ let k : at ≡ a = let q = h.1 in cc in inl (rw (equal_bytes other name h.0, k) refl)
      | inr h ↦ inr h.1
    ]

name_still : (name : List ℕ) (at : ℕ) (old : Names) (other : List ℕ) (a : ℕ) → old name ≡ None → old other ≡ Some a → with_name name at old other ≡ Some a
name_still name at old other a free e =
    elim (cases_Bool (bytes_eq other name)) [
      | inl h ↦ nothing a (sym free ∙ ap old (sym (equal_bytes other name h)) ∙ e)
      | inr h ↦ rw h e
    ]

name_here : (name : List ℕ) (at : ℕ) (old : Names) → with_name name at old name ≡ Some at
name_here name at old = rw (same_bytes name) refl

one_label : (old new : Names) (name : List ℕ) (at : ℕ) (labels : List (List ℕ × ℕ)) → old name ≡ None → NamesOf (with_name name at old) new labels → NamesOf old new ((name, at) ∷ labels)
one_label old new name at labels free h = record {
  fresh = (free, all_map (λ e. with_name name at old e.0 ≡ None) (λ e. old e.0 ≡ None) labels (λ e k. (was_free name at old e.0 k).0) h.fresh);
  once = (all_names (λ other. name ≢ other) labels (all_map (λ e. with_name name at old e.0 ≡ None) (λ e. name ≢ e.0) labels (λ e k. (was_free name at old e.0 k).1) h.fresh), h.once);
  named = λ x a. (
    λ e. elim ((h.named x a).0 e) [
      | inl k ↦ elim (name_before name at old x a k) [ inl same ↦ inr (0, omega arith, same) | inr was ↦ inl was ]
      | inr c ↦ inr (suc c.0, omega (arith, c.1), c.2)
    ],
    λ k. elim k [
      | inl was ↦ (h.named x a).1 (inl (name_still name at old x a free was))
      | inr c ↦ elim (in_cases (name, at) labels (x, a) c.0 c.1 c.2) [
        | inl same ↦ (h.named x a).1 (inl (subst (λ (e : List ℕ × ℕ). with_name name at old e.0 ≡ Some e.1) same (name_here name at old)))
        | inr later ↦ (h.named x a).1 (inr later)
      ]
    ],
  );
}

pub label_names : (s : State) (label : Option (List ℕ)) (new : Names) (labels : List (List ℕ × ℕ)) → label_fault s label ≡ None → NamesOf (labelled_state s label).names new labels → NamesOf s.names new (label_at s.at label ++ labels)
label_names s None new labels free h = h
label_names s (Some name) new labels free h = one_label s.names new name s.at labels (go (s.names name) free) h
  where
    go : (o : Option ℕ) → (if is_some o then Some LabelTwice else None) ≡ None → o ≡ None
    go None e = refl
    go (Some at) e = something LabelTwice e

-- ## All lines

unfoldable pub flat : List (List Item) → List Item
flat [] = []
flat (x ∷ xs) = x ++ flat xs

-- what a line's words wait for
unfoldable pub NewItems : Laid → List Item → Type 0
NewItems line items = (k : ℕ) × (new : List Pending) × (items ≡ items_at k line.at new) × Pends line.said line.at new × (length new ≡ word_count line.said)

pub record Swept (s t : State) (lines : List (List ℕ)) : Type 0 where
  pub said : List Parsed
  pub read : AllZip (λ line p. line_of line ≡ Ok p) lines said
  pub new : List (List Item)
  pub pending : AllZip NewItems (laid_from s.at said) new
  pub items : t.items ≡ s.items ++ flat new
  pub names : NamesOf s.names t.names (labels_of (laid_from s.at said))
  pub free : (taken : List ℕ) → Covers s taken → AreFree taken (laid_from s.at said)
  pub few : segments_in s ≤ 16 → segments_in s + segments (is_some s.start) (laid_from s.at said) ≤ 16

one_line : (s u t : State) (k : ℕ) (line : List ℕ) (lines : List (List ℕ)) (p : Parsed) → line_of line ≡ Ok p → Step s k p.label p.said u → Swept u t lines → Swept s t (line ∷ lines)
unfolding flat NewItems
one_line s u t k line lines p read step rest =
    let m = step.moves in
    let same_lines : laid_from u.at rest.said ≡ laid_from (address_after s.at p.said) rest.said = ap (λ (a : ℕ). laid_from a rest.said) m.at in
    record {
      said = p ∷ rest.said;
      read = (read, rest.read);
      new = items_at k s.at m.new ∷ rest.new;
      pending = ((k, m.new, refl, m.pends, m.count), subst (λ (ls : List Laid). AllZip NewItems ls rest.new) same_lines rest.pending);
      items = rest.items ∙ ap (λ (is : List Item). is ++ flat rest.new) m.items ∙ append_assoc s.items (items_at k s.at m.new) (flat rest.new);
      names = label_names s p.label t.names (labels_of (laid_from (address_after s.at p.said) rest.said)) step.fresh
          (subst (λ (old : Names). NamesOf old t.names (labels_of (laid_from (address_after s.at p.said) rest.said))) step.names
          (subst (λ (ls : List Laid). NamesOf u.names t.names (labels_of ls)) same_lines rest.names));
      free = λ taken h. (m.free taken h, subst (AreFree _) same_lines (rest.free _ (m.covers taken h)));
      few = λ small.
          let more = m.segments small in
          let after : segments_in u + segments (is_open (is_some s.start) p.said) (laid_from (address_after s.at p.said) rest.said) ≤ 16 =
          subst (λ (b : Bool). segments_in u + segments b (laid_from (address_after s.at p.said) rest.said) ≤ 16) m.opened
          (subst (λ (ls : List Laid). segments_in u + segments (is_some u.start) ls ≤ 16) same_lines (rest.few more.1)) in
          omega (arith, after, more.0);
    }

pub after_line_is : {A : Type 0} (k : ℕ) (r : Result A LineFault) (on : A → Result A (LineFault × ℕ)) (t : A) → after_line k r on ≡ Ok t → (u : A) × (r ≡ Ok u) × (on u ≡ Ok t)
after_line_is k (Ok u) on t e = (u, refl, e)
after_line_is k (Err fault) on t e = absurd cc

pub step_is : (s : State) (k : ℕ) (r : Result Parsed TextFault) (u : State) → line_step s k r ≡ Ok u → (p : Parsed) × (r ≡ Ok p) × Step s k p.label p.said u
step_is s k (Ok p) u e = (p, refl, said_is s k p.label p.said u e)
step_is s k (Err w) u e = absurd cc

pub swept_is : (s : State) (k : ℕ) (lines : List (List ℕ)) (t : State) → swept s k lines ≡ Ok t → Swept s t lines
unfolding swept flat
swept_is s k [] t e =
    let same : s ≡ t = cc in
    subst (λ (u : State). Swept s u []) same
    (record { said = []; read = tt; new = []; pending = tt; items = sym (append-nil s.items); names = no_labels s.names; free = λ taken h. tt; few = λ small. omega (arith, small) })
swept_is s k (line ∷ lines) t e =
    let one = after_line_is k (line_step s k (line_of line)) (λ u. swept u (k + 1) lines) t e in
    let step = step_is s k (line_of line) one.0 one.1 in
    one_line s one.0 t k line lines step.0 step.1 step.2 (swept_is one.0 (k + 1) lines t one.2)

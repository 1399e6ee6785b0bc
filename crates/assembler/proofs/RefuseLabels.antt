-- Which line of a source without such a fault is the first that is refused for a label.
use Rattle.std.specs.Prelude.{flat_map}
use Rattle.std.proofs.Common.{◌≡◌, ◌↔◌, ◌+◌, ℕ, zero, suc, List, [], ◌∷◌, ◌++◌, length, map, Option, Some, None, Result, Ok, Err, refl, sym, ap, subst, ◌∙◌, inl, inr, ◌⊎◌, arith}
use Rattle.std.specs.List.{AllByRecursion, Contains}
use Rattle.std.proofs.lemmas.Option.{none-some, same_Some}
use Rattle.std.specs.Result.{result_err}
use Rattle.std.specs.Option.{option_or}
use Rattle.image.specs.Image.{Words, put_fault, with_word}
use Rattle.asm_text.specs.Said.{Target, Number, Label, Said, Codes, Refers, Orgs, Lists}
use Rattle.assembler.specs.Assembles.{Laid, places, addresses_from, word_count}
use Rattle.assembler.specs.Codes.{encoded, refer}
use Rattle.assembler.specs.Refusals.{HasLabelFault, IsFaultless, IsLowest, IsMissing}
use Rattle.image.specs.Labels.{Names}
use Rattle.assembler.specs.Sweeps.{Item, Pending, filled, after_line, resolved, targeted, value_pending, word_put}
use Rattle.assembler.specs.declared.fault.LineFault.{LineFault}
use Rattle.assembler.specs.declared.fault.LineFault.TheVariants.{LabelMissing}
use Rattle.assembler.proofs.AssembleSteps.{Pends, items_at}
use Rattle.assembler.proofs.AssembleFits.{Fits}
use Rattle.assembler.proofs.RefuseFront.{ItemsOf}
use Rattle.assembler.proofs.RefuseLeast.{IsLeast, either, is_least, least_is, least_no, least_none, least_result, least_same, no_least, same_le}

-- the names of all labels, and no others
unfoldable pub Known : Names → List (List ℕ × ℕ) → Type 0
Known names labels = (name : List ℕ) → (at : ℕ) → (names name ≡ Some at) ↔ Contains labels (name, at)

-- ## What waits

first_alone : (o : Option LineFault) → option_or o None ≡ o
first_alone None = refl
first_alone (Some f) = refl

-- the first fault of words side by side
abbrev late : Names → ℕ → List Pending → Option LineFault
late names at [] = None
late names at (p ∷ ps) = option_or (result_err (resolved names at p)) (late names (at + 4) ps)

-- ## A word

abbrev WordFault : List (List ℕ × ℕ) → List ℕ → (ℕ → Result ℕ LineFault) → LineFault → Type 0
WordFault labels name word f =
    ((f ≡ LabelMissing) × IsMissing labels name)
    ⊎ ((target : ℕ) × Contains labels (name, target) × (word target ≡ Err f))

missing : (names : Names) (labels : List (List ℕ × ℕ)) (name : List ℕ) → Known names labels
    → names name ≡ None → IsMissing labels name
unfolding Known
missing names labels name known none = λ at c. none-some at (sym none ∙ (known name at).1 c)

word_least : (names : Names) (labels : List (List ℕ × ℕ)) (name : List ℕ) (word : ℕ → Result ℕ LineFault)
    → Known names labels → IsLeast (WordFault labels name word) (result_err (targeted (names name) word))
unfolding IsLeast Known
word_least names labels name word known = go (names name) refl
  where
    go : (o : Option ℕ) → names name ≡ o → IsLeast (WordFault labels name word) (result_err (targeted o word))
    go None is = record {
      holds = inl (refl, missing names labels name known is);
      lowest = λ f e. elim e [
        | inl x ↦ same_le LabelMissing f (sym x.0)
        | inr x ↦
            absurd (missing names labels name known is x.0 x.1)
      ];
    }
    go (Some at) is =
        let there = (known name at).0 is in
        least_same (λ f. word at ≡ Err f) (WordFault labels name word) (result_err (word at))
        (λ f e. inr (at, there, e))
        (λ f e. elim e [
          | inl x ↦ absurd (x.1 at there)
          | inr x ↦ subst (λ a. word a ≡ Err f) (same_Some x.0 at (sym ((known name x.0).1 x.1) ∙ is)) x.2
        ]) (least_result (word at))

-- ## Values

abbrev ValueFault : List (List ℕ × ℕ) → List Target → LineFault → Type 0
ValueFault labels values f =
    (name : List ℕ) × (f ≡ LabelMissing) × Contains values (Label name) × IsMissing labels name

past_number : (labels : List (List ℕ × ℕ)) (n : ℕ) (vs : List Target) (f : LineFault)
    → ValueFault labels (Number n ∷ vs) f → ValueFault labels vs f
past_number labels n vs f (name, is, (zero, lt, same), gone) = absurd (other n name same)
  where
    other : (m : ℕ) (l : List ℕ) → ◌≡◌ {A = Target} (Number m) (Label l) → ⊥
    other m l e = cc
past_number labels n vs f (name, is, (suc k, lt, same), gone) =
    (name, is, (k, omega (arith, lt), same), gone)

past_label : (labels : List (List ℕ × ℕ)) (l : List ℕ) (at : ℕ) (vs : List Target) (f : LineFault)
    → Contains labels (l, at) → ValueFault labels (Label l ∷ vs) f → ValueFault labels vs f
past_label labels l at vs f there (name, is, (zero, lt, same), gone) =
    absurd (gone at (subst (λ n. Contains labels (n, at)) (same_label l name same) there))
  where
    same_label : (x y : List ℕ) → ◌≡◌ {A = Target} (Label x) (Label y) → x ≡ y
    same_label x y e = cc
past_label labels l at vs f there (name, is, (suc k, lt, same), gone) =
    (name, is, (k, omega (arith, lt), same), gone)

later : (labels : List (List ℕ × ℕ)) (v : Target) (vs : List Target) (f : LineFault) → ValueFault labels vs f
    → ValueFault labels (v ∷ vs) f
later labels v vs f (name, is, c, gone) = (name, is, (suc c.0, omega (arith, c.1), c.2), gone)

values_least : (names : Names) (labels : List (List ℕ × ℕ)) (at : ℕ) (vs : List Target) → Known names labels
    → IsLeast (ValueFault labels vs) (late names at (map value_pending vs))
unfolding IsLeast Known
values_least names labels at [] known = λ f e. let c = e.2 in omega (arith, c.1)
values_least names labels at (Number n ∷ vs) known =
    least_same (ValueFault labels vs) (ValueFault labels (Number n ∷ vs))
    (late names (at + 4) (map value_pending vs)) (later labels (Number n) vs)
    (past_number labels n vs)
    (values_least names labels (at + 4) vs known)
values_least names labels at (Label l ∷ vs) known =
    go (names l) refl (values_least names labels (at + 4) vs known)
  where
    go : (o : Option ℕ) → names l ≡ o
        → IsLeast (ValueFault labels vs) (late names (at + 4) (map value_pending vs))
        → IsLeast (ValueFault labels (Label l ∷ vs))
        (option_or (result_err (targeted o (λ target. Ok target))) (late names (at + 4) (map value_pending vs)))
    go None is rest = record {
      holds = (l, refl, (0, omega arith, refl), missing names labels l known is);
      lowest = λ f e. same_le LabelMissing f (sym e.1);
    }
    go (Some a) is rest =
        least_same (ValueFault labels vs) (ValueFault labels (Label l ∷ vs))
        (late names (at + 4) (map value_pending vs)) (later labels (Label l) vs)
        (λ f. past_label labels l a vs f ((known l a).0 is)) rest

-- ## A line

late_least : (names : Names) (labels : List (List ℕ × ℕ)) (at : ℕ) (said : Option Said) (new : List Pending)
    → Known names labels → Pends said at new → IsLeast (HasLabelFault labels at said) (late names at new)
unfolding Pends
late_least names labels at None new known h =
    subst (λ ps. IsLeast (λ f. ⊥) (late names at ps)) (sym h) least_none
late_least names labels at (Some (Orgs n)) new known h =
    subst (λ ps. IsLeast (λ f. ⊥) (late names at ps)) (sym h) least_none
late_least names labels at (Some (Codes c)) new known h =
    subst (λ ps. IsLeast (λ f. ⊥) (late names at ps)) (sym h.1) least_none
late_least names labels at (Some (Refers r (Number n))) new known h =
    subst (λ ps. IsLeast (λ f. ⊥) (late names at ps)) (sym h.1) least_none
late_least names labels at (Some (Refers r (Label name))) new known h =
    let word = λ (target : ℕ). encoded (refer r at target) at in
    subst (λ ps. IsLeast (WordFault labels name word) (late names at ps)) (sym h)
    (subst (IsLeast (WordFault labels name word)) (sym (first_alone (result_err (targeted (names name) word))))
    (word_least names labels name word known))
late_least names labels at (Some (Lists vs)) new known h =
    subst (λ ps. IsLeast (ValueFault labels vs) (late names at ps)) (sym h)
    (values_least names labels at vs known)

-- ## The words of a line, put

record Filled (names : Names) (image : Words) (items rest : List Item) (ats : List ℕ) : Type 0 where
  next : Words
  fits : Fits next ats
  same : filled names image (items ++ rest) ≡ filled names next rest

put_ok : (image : Words) (at w : ℕ) → put_fault image at w ≡ None
    → word_put image at (Ok w) ≡ Ok (with_word image at w)
put_ok image at w e = rw e refl

fill_all : (names : Names) (k at : ℕ) (ps : List Pending) (image : Words) (rest : List Item) (ats : List ℕ)
    → Fits image (addresses_from at (length ps) ++ ats) → late names at ps ≡ None
    → Filled names image (items_at k at ps) rest ats
unfolding Fits items_at filled
fill_all names k at [] image rest ats h none = record { next = image; fits = h; same = refl }
fill_all names k at (p ∷ ps) image rest ats h none =
    go (resolved names at p) refl none
    (λ w. fill_all names k (at + 4) ps (with_word image at w) rest ats (h w).1)
  where
    go : (r : Result ℕ LineFault) → resolved names at p ≡ r → option_or (result_err r) (late names (at + 4) ps) ≡ None
        → ((w : ℕ) → late names (at + 4) ps ≡ None
        → Filled names (with_word image at w) (items_at k (at + 4) ps) rest ats)
        → Filled names image (items_at k at (p ∷ ps)) rest ats
    go (Ok w) is e deeper =
        let more = deeper w e in
        record {
          next = more.next;
          fits = more.fits;
          same = ap
              (λ r. after_line k (word_put image at r)
              (λ i. filled names i (items_at k (at + 4) ps ++ rest))) is
              ∙ ap (λ r. after_line k r (λ i. filled names i (items_at k (at + 4) ps ++ rest)))
              (put_ok image at w (h w).0) ∙ more.same;
        }
    go (Err f) is e deeper = absurd (none-some f (sym e))

fill_stop : (names : Names) (k at : ℕ) (ps : List Pending) (image : Words) (rest : List Item) (ats : List ℕ)
    (f : LineFault) → Fits image (addresses_from at (length ps) ++ ats) → late names at ps ≡ Some f
    → filled names image (items_at k at ps ++ rest) ≡ Err (f, k)
unfolding Fits items_at filled
fill_stop names k at [] image rest ats f h some = absurd (none-some f some)
fill_stop names k at (p ∷ ps) image rest ats f h some =
    go (resolved names at p) refl some
    (λ w. fill_stop names k (at + 4) ps (with_word image at w) rest ats f (h w).1)
  where
    go : (r : Result ℕ LineFault) → resolved names at p ≡ r → option_or (result_err r) (late names (at + 4) ps) ≡ Some f
        → ((w : ℕ) → late names (at + 4) ps ≡ Some f
        → filled names (with_word image at w) (items_at k (at + 4) ps ++ rest) ≡ Err (f, k))
        → filled names image (items_at k at (p ∷ ps) ++ rest) ≡ Err (f, k)
    go (Ok w) is e deeper =
        ap (λ r. after_line k (word_put image at r) (λ i. filled names i (items_at k (at + 4) ps ++ rest))) is
        ∙ ap (λ r. after_line k r (λ i. filled names i (items_at k (at + 4) ps ++ rest)))
        (put_ok image at w (h w).0) ∙ deeper w e
    go (Err g) is e deeper =
        ap (λ r. after_line k (word_put image at r)
        (λ i. filled names i (items_at k (at + 4) ps ++ rest))) is ∙ ap (λ x. Err (x, k)) (same_Some g f e)

-- ## All lines

abbrev pub AreFaultless : List (List ℕ × ℕ) → List Laid → Type 0
AreFaultless labels lines = AllByRecursion (IsFaultless labels) lines

line_fits : (image : Words) (line : Laid) (new : List Pending) (ats : List ℕ)
    → length new ≡ word_count line.said → Fits image (places line ++ ats)
    → Fits image (addresses_from line.at (length new) ++ ats)
line_fits image line new ats count h = subst (λ n. Fits image (addresses_from line.at n ++ ats)) (sym count) h

pub filled_all : (names : Names) (labels : List (List ℕ × ℕ)) (k : ℕ) (lines : List Laid)
    (items : List Item) (image : Words) → Known names labels → ItemsOf k lines items
    → Fits image (flat_map places lines)
    → AreFaultless labels lines → (out : Words) × (filled names image items ≡ Ok out)
unfolding ItemsOf filled
filled_all names labels k [] items image known h f a = (image, ap (filled names image) h)
filled_all names labels k (line ∷ lines) items image known h f a =
    let least = late_least names labels line.at line.said h.0 known h.3 in
    let none = least_no (HasLabelFault labels line.at line.said) (late names line.at h.0) least a.0 in
    let one =
    fill_all names k line.at h.0 image h.1 (flat_map places lines)
    (line_fits image line h.0 (flat_map places lines) h.4 f) none in
    let more = filled_all names labels (k + 1) lines h.1 one.next known h.5 one.fits a.1 in
    (more.0, ap (filled names image) h.2 ∙ one.same ∙ more.1)

pub filled_stops : (names : Names) (labels : List (List ℕ × ℕ)) (k : ℕ) (front : List Laid) (line : Laid)
    (after : List Laid) (items : List Item) (image : Words) (fault : LineFault) → Known names labels
    → ItemsOf k (front ++ (line ∷ after)) items → Fits image (flat_map places (front ++ (line ∷ after)))
    → AreFaultless labels front → IsLowest (HasLabelFault labels line.at line.said) fault
    → filled names image items ≡ Err (fault, k + length front)
unfolding ItemsOf
filled_stops names labels k [] line after items image fault known h f a low =
    let least = late_least names labels line.at line.said h.0 known h.3 in
    let some = least_is (HasLabelFault labels line.at line.said) (late names line.at h.0) fault least low in
    let zero_more : k ≡ k + 0 = omega arith in
    ap (filled names image) h.2
    ∙ fill_stop names k line.at h.0 image h.1 (flat_map places after) fault
    (line_fits image line h.0 (flat_map places after) h.4 f) some ∙ ap (λ n. Err (fault, n)) zero_more
filled_stops names labels k (l ∷ front) line after items image fault known h f a low =
    let rest = front ++ (line ∷ after) in
    let least = late_least names labels l.at l.said h.0 known h.3 in
    let none = least_no (HasLabelFault labels l.at l.said) (late names l.at h.0) least a.0 in
    let one =
    fill_all names k l.at h.0 image h.1 (flat_map places rest)
    (line_fits image l h.0 (flat_map places rest) h.4 f) none in
    let more =
    filled_stops names labels (k + 1) front line after h.1 one.next fault known h.5 one.fits a.1 low in
    let same : k + 1 + length front ≡ k + suc (length front) = omega arith in
    ap (filled names image) h.2 ∙ one.same ∙ more ∙ ap (λ n. Err (fault, n)) same

pub record LabelStops (labels : List (List ℕ × ℕ)) (lines : List Laid) : Type 0 where
  pub front : List Laid
  pub line : Laid
  pub after : List Laid
  pub parts : lines ≡ front ++ (line ∷ after)
  pub none : AreFaultless labels front
  pub fault : LineFault
  pub fault-is : IsLowest (HasLabelFault labels line.at line.said) fault

pub known_or_stop : (names : Names) (labels : List (List ℕ × ℕ)) (k : ℕ) (lines : List Laid)
    (items : List Item) → Known names labels → ItemsOf k lines items → AreFaultless labels lines
    ⊎ LabelStops labels lines
unfolding ItemsOf
known_or_stop names labels k [] items known h = inl tt
known_or_stop names labels k (line ∷ lines) items known h =
    let o = late names line.at h.0 in
    let least = late_least names labels line.at line.said h.0 known h.3 in
    elim (either o) [
      | inr f ↦ inr (record {
        front = [];
        line = line;
        after = lines;
        parts = refl;
        none = tt;
        fault = f.0;
        fault-is = is_least (HasLabelFault labels line.at line.said) o f.0 least f.1;
      })
      | inl none ↦
          let clean = no_least (HasLabelFault labels line.at line.said) o least none in
          elim (known_or_stop names labels (k + 1) lines h.1 known h.5) [
            | inl all ↦ inl (clean, all)
            | inr stop ↦ inr (record {
              front = line ∷ stop.front;
              line = stop.line;
              after = stop.after;
              parts = ap (λ (ls : List Laid). line ∷ ls) stop.parts;
              none = (clean, stop.none);
              fault = stop.fault;
              fault-is = stop.fault-is;
            })
          ]
    ]

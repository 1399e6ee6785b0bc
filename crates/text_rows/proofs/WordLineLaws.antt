-- Lines put at the addresses of their words, one after another.
use Rattle.std.proofs.Common.{◌≡◌, ℕ, ◌+◌, ◌%◌, ◌^◌, suc, Bool, true, false, cond, eqb, List, [], ◌∷◌, ◌++◌, Option, Some, refl, sym, ap, ◌∙◌}
use Rattle.std.specs.BTreeMap.{BTreeMap, Updates, get}
use Rattle.std.specs.Cmp.{unsigned_tied}
use Rattle.std.specs.Map.{update, update_all}
use Rattle.std.specs.Ordering.{nat_cmp}
use Rattle.std.specs.Prelude.{option_map}
use Rattle.assembler.specs.declared.placed_line.PlacedLine.{PlacedLine}
use Rattle.image.specs.Labels.{NamedAddresses}
use Rattle.text_rows.specs.LineLabels.{label_of}
use Rattle.text_rows.specs.declared.line_labels.SourceLine.{SourceLine}
use Rattle.text_rows.specs.WordLines.{Numbered, numbered, numbered_at, words_from, words_of}

-- pairs over what holds the same at a key
pub update_all_same : {K X : Type 0} (e : K → K → Bool) (f g : K → Option X) (xs : List (K × X)) (q : K) → f q ≡ g q → update_all e f xs q ≡ update_all e g xs q
update_all_same e f g [] q same = same
update_all_same e f g (p ∷ xs) q same = update_all_same e (update e f p.0 (Some p.1)) (update e g p.0 (Some p.1)) xs q (ap (cond (e p.0 q) (Some p.1)) same)

update_all_append : {K X : Type 0} (e : K → K → Bool) (f : K → Option X) (xs ys : List (K × X)) (q : K) → update_all e f (xs ++ ys) q ≡ update_all e (update_all e f xs) ys q
update_all_append e f [] ys q = refl
update_all_append e f (p ∷ xs) ys q = update_all_append e (update e f p.0 (Some p.1)) xs ys q

mapped : (b : Bool) (line : SourceLine) (o : Option SourceLine) → option_map numbered (cond b (Some line) o) ≡ cond b (Some (numbered line)) (option_map numbered o)
mapped true line o = refl
mapped false line o = refl

-- a line is put at an address
put : (old new : BTreeMap ℕ SourceLine) (at : ℕ) (line : SourceLine) → Updates nat_cmp old new at (Some line) → (q : ℕ) → numbered_at new q ≡ update eqb (numbered_at old) at (Some (numbered line)) q
put old new at line updates q =
    ap (option_map numbered) (updates.0 q ∙ ap (λ (b : Bool). cond b (Some line) (get nat_cmp old q)) (unsigned_tied at q)) ∙ mapped (eqb at q) line (get nat_cmp old q)

pub one_word : (old new : BTreeMap ℕ SourceLine) (at count : ℕ) (line : SourceLine) → Updates nat_cmp old new at (Some line) → (q : ℕ)
    → update_all eqb (numbered_at new) (words_from ((at + 4) % 2 ^ 32) count (record (numbered line) { label = [] })) q ≡ update_all eqb (numbered_at old) (words_from at (suc count) (numbered line)) q
one_word old new at count line updates q =
    update_all_same eqb (numbered_at new) (update eqb (numbered_at old) at (Some (numbered line))) (words_from ((at + 4) % 2 ^ 32) count (record (numbered line) { label = [] })) q
    (put old new at line updates q)

abbrev line_with : ℕ → List ℕ → List ℕ → Numbered
line_with number text label = record { number = number; label = label; text = text }

pub more_lines : (names : NamedAddresses) (number : ℕ) (before label text : List ℕ) (lines : List (List ℕ)) (p : PlacedLine) (placed : List PlacedLine) (old new : ℕ → Option Numbered) (q : ℕ)
    → label ≡ label_of names text before p.at → new q ≡ update_all eqb old (words_from p.at p.words (record { number = number; label = label; text = text })) q
    → update_all eqb new (words_of names (number + 1) label lines placed) q ≡ update_all eqb old (words_of names number before (text ∷ lines) (p ∷ placed)) q
more_lines names number before label text lines p placed old new q is now =
    update_all_same eqb new (update_all eqb old (words_from p.at p.words (line_with number text label))) (words_of names (number + 1) label lines placed) q now
    ∙ sym (update_all_append eqb old (words_from p.at p.words (line_with number text label)) (words_of names (number + 1) label lines placed) q)
    ∙ ap (λ (l : List ℕ). update_all eqb old (words_from p.at p.words (line_with number text l) ++ words_of names (number + 1) l lines placed) q) is

pub no_places : (names : NamedAddresses) (number : ℕ) (before : List ℕ) (lines : List (List ℕ)) → words_of names number before lines [] ≡ []
no_places names number before [] = refl
no_places names number before (text ∷ lines) = refl

-- Where the author's lines are placed.
use Rattle.std.proofs.Common.{◌≡◌, ◌∙◌, ◌+◌, ◌*◌, ◌<◌, ℕ, zero, suc, Bool, true, false, cond, not, List, [], ◌∷◌, ◌++◌, drop, flat_map, length, map, Result, Ok, Err, ap, append_assoc, arith, inl, inr, refl, subst, sym}
use Rattle.std.specs.Prelude.{◌==◌, IfErr}
use Rattle.std.specs.Result.{IsErrAnd}
use Rattle.std.proofs.lemmas.Bool.{cases_Bool, eqb-true}
use Rattle.std.proofs.lemmas.List.{map-append}
use Rattle.std.specs.List.{AllZip}
use Rattle.asm_text.specs.Source.{lines_of}
use Rattle.asm_text.specs.Spelling.{Spells}
use Rattle.asm_text.specs.Statements.{Parsed}
use Rattle.asm_text.specs.declared.statement.TextFault.{TextFault}
use Rattle.assembler.specs.Assembles.{Laid, addresses_from, laid, places, word_count}
use Rattle.assembler.specs.Placed.{ArePlaced, IsPlaced}
use Rattle.assembler.specs.Refusals.{ArePassed}
use Rattle.assembler.specs.declared.placed_line.PlacedLine.{PlacedLine}
use Rattle.assembler.proofs.PlaceLemmas.{Reads}
use Rattle.objasm.specs.Names.{mapped}
use Rattle.objasm.specs.Source.{FaultedAt}
use Rattle.objasm.specs.declared.faults.LineFault.TheVariants.{Scattered}
use Rattle.objasm.specs.declared.source.DialectFault.{DialectFault}
use Rattle.objasm.specs.declared.source.DialectFault.TheVariants as dialect_fault
use Rattle.sources.specs.Dialect.{InGrammar, Own, From, places_by, places_of, text_of}
use Rattle.sources.specs.Origins.{Stretch, end_of, first_origin, gathered, gathered_from, have_one_origin, read_of, scattered_at, stretch_laid, stretch_of, stretches_of, together, with_read}

-- ## What lines say

read_all : Reads → (before : List Parsed) (lines : List (List ℕ)) (said : List Parsed) → ArePassed before lines said → read_of lines ≡ said
unfolding read_of
read_all reads before [] [] h = refl
read_all reads before [] (p ∷ ps) h = absurd h
read_all reads before (line ∷ lines) [] h = absurd h
read_all reads before (line ∷ lines) (p ∷ ps) h =
    ap (λ (r : Result Parsed TextFault). with_read r (read_of lines)) (reads line p h.0) ∙ ap (λ (more : List Parsed). p ∷ more) (read_all reads (before ++ p ∷ []) lines ps h.2)

as_placed : (lines : List Laid) (placed : List PlacedLine) → AllZip IsPlaced lines placed → map stretch_laid lines ≡ map stretch_of placed
as_placed [] [] h = refl
as_placed [] (p ∷ placed) h = absurd h
as_placed (line ∷ lines) [] h = absurd h
as_placed (line ∷ lines) (p ∷ placed) h =
    let one : stretch_laid line ≡ stretch_of p = ap (λ (at : ℕ). record { at = at; words = word_count line.said }) (sym h.0.0) ∙ ap (λ (n : ℕ). record { at = p.at; words = n }) (sym h.0.1) in
    ap (λ (s : Stretch). s ∷ map stretch_laid lines) one ∙ ap (λ (ss : List Stretch). stretch_of p ∷ ss) (as_placed lines placed h.1)

pub stretches_are : Reads → (source : List ℕ) (placed : List PlacedLine) → ArePlaced source placed → stretches_of source ≡ map stretch_of placed
stretches_are reads source placed h =
    ap (λ (ps : List Parsed). map stretch_laid (laid ps)) (read_all reads [] (lines_of source) h.lines h.passed) ∙ as_placed (laid h.lines) placed h.places

-- ## One line after another

pub differ : (a b : ℕ) → (a ≡ b → ⊥) → (a == b) ≡ false
differ a b apart = elim (cases_Bool (a == b)) [ inl same ↦ absurd (apart (eqb-true a b same)) | inr other ↦ other ]

added : (s : Stretch) (done new : List Stretch) (r : Result (List Stretch) ℕ) → new ≡ done ++ s ∷ []
    → mapped (λ (more : List Stretch). done ++ more) (mapped (λ (more : List Stretch). s ∷ more) r) ≡ mapped (λ (more : List Stretch). new ++ more) r
added s done new (Ok more) is = ap (λ (xs : List Stretch). Ok xs) (sym (append_assoc done (s ∷ []) more) ∙ ap (λ (xs : List Stretch). xs ++ more) (sym is))
added s done new (Err number) is = refl

-- the next comes from another
pub put_alone : (ns : List ℕ) (s t : Stretch) (done new rest : List Stretch) → have_one_origin ns ≡ false → new ≡ done ++ s ∷ []
    → mapped (λ (more : List Stretch). done ++ more) (gathered_from ns s (t ∷ rest)) ≡ mapped (λ (more : List Stretch). new ++ more) (gathered_from (drop 1 ns) t rest)
unfolding gathered_from
put_alone ns s t done new rest apart is =
    ap (λ (b : Bool). mapped (λ (more : List Stretch). done ++ more) (cond (not b) (mapped (λ (more : List Stretch). s ∷ more) (gathered_from (drop 1 ns) t rest))
    (cond (t.at == end_of s) (gathered_from (drop 1 ns) (together s t) rest) (Err (first_origin ns))))) apart
    ∙ added s done new (gathered_from (drop 1 ns) t rest) is

next_of_one : (ns : List ℕ) (s t : Stretch) (rest : List Stretch) → have_one_origin ns ≡ true
    → gathered_from ns s (t ∷ rest) ≡ cond (t.at == end_of s) (gathered_from (drop 1 ns) (together s t) rest) (Err (first_origin ns))
unfolding gathered_from
next_of_one ns s t rest one =
    ap (λ (b : Bool). cond (not b) (mapped (λ (more : List Stretch). s ∷ more) (gathered_from (drop 1 ns) t rest))
    (cond (t.at == end_of s) (gathered_from (drop 1 ns) (together s t) rest) (Err (first_origin ns)))) one

-- it comes from the same and lies behind
pub put_together : (ns : List ℕ) (s t both : Stretch) (done rest : List Stretch) → have_one_origin ns ≡ true → (t.at == end_of s) ≡ true → both ≡ together s t
    → mapped (λ (more : List Stretch). done ++ more) (gathered_from ns s (t ∷ rest)) ≡ mapped (λ (more : List Stretch). done ++ more) (gathered_from (drop 1 ns) both rest)
put_together ns s t both done rest one behind is =
    ap (mapped (λ (more : List Stretch). done ++ more))
    (next_of_one ns s t rest one ∙ ap (λ (b : Bool). cond b (gathered_from (drop 1 ns) (together s t) rest) (Err (first_origin ns))) behind
    ∙ ap (λ (x : Stretch). gathered_from (drop 1 ns) x rest) (sym is))

-- it comes from the same and does not
pub put_nowhere : (ns : List ℕ) (s t : Stretch) (rest : List Stretch) → have_one_origin ns ≡ true → (t.at == end_of s) ≡ false → scattered_at (gathered_from ns s (t ∷ rest)) ≡ Err (Scattered, first_origin ns)
put_nowhere ns s t rest one behind =
    ap scattered_at (next_of_one ns s t rest one ∙ ap (λ (b : Bool). cond b (gathered_from (drop 1 ns) (together s t) rest) (Err (first_origin ns))) behind)

-- ## All lines

-- what is left gives the whole
abbrev pub SoFar : (ns : List ℕ) (placed : List PlacedLine) → List ℕ → PlacedLine → (lines out : List PlacedLine) → Type 0
SoFar ns placed numbers line lines out =
    gathered ns (map stretch_of placed) ≡ mapped (λ (more : List Stretch). map stretch_of out ++ more) (gathered_from numbers (stretch_of line) (map stretch_of lines))

empty_first : (r : Result (List Stretch) ℕ) → r ≡ mapped (λ (more : List Stretch). more) r
empty_first (Ok more) = refl
empty_first (Err number) = refl

pub at_first : (ns : List ℕ) (placed : List PlacedLine) (line : PlacedLine) (lines out : List PlacedLine) → placed ≡ line ∷ lines → out ≡ [] → SoFar ns placed ns line lines out
at_first ns placed line lines out is none =
    ap (λ (ps : List PlacedLine). gathered ns (map stretch_of ps)) is
    ∙ empty_first (gathered_from ns (stretch_of line) (map stretch_of lines))
    ∙ ap (λ (xs : List PlacedLine). mapped (λ (more : List Stretch). map stretch_of xs ++ more) (gathered_from ns (stretch_of line) (map stretch_of lines))) (sym none)

pub one_more : (ns : List ℕ) (placed : List PlacedLine) (numbers after : List ℕ) (line next new : PlacedLine) (lines rest old out : List PlacedLine) → SoFar ns placed numbers line lines old → lines ≡ next ∷ rest
    → after ≡ drop 1 numbers
    → ((ss : List Stretch) → mapped (λ (more : List Stretch). map stretch_of old ++ more) (gathered_from numbers (stretch_of line) (stretch_of next ∷ ss))
    ≡ mapped (λ (more : List Stretch). map stretch_of out ++ more) (gathered_from (drop 1 numbers) (stretch_of new) ss))
    → SoFar ns placed after new rest out
one_more ns placed numbers after line next new lines rest old out so_far is behind step =
    so_far ∙ ap (λ (ps : List PlacedLine). mapped (λ (more : List Stretch). map stretch_of old ++ more) (gathered_from numbers (stretch_of line) (map stretch_of ps))) is
    ∙ step (map stretch_of rest)
    ∙ ap (λ (ks : List ℕ). mapped (λ (more : List Stretch). map stretch_of out ++ more) (gathered_from ks (stretch_of new) (map stretch_of rest))) (sym behind)

pub all_put : (ns : List ℕ) (placed : List PlacedLine) (numbers : List ℕ) (line : PlacedLine) (lines old out : List PlacedLine) → SoFar ns placed numbers line lines old → lines ≡ [] → out ≡ old ++ line ∷ []
    → gathered ns (map stretch_of placed) ≡ Ok (map stretch_of out)
unfolding gathered_from
all_put ns placed numbers line lines old out so_far is now =
    so_far ∙ ap (λ (ps : List PlacedLine). mapped (λ (more : List Stretch). map stretch_of old ++ more) (gathered_from numbers (stretch_of line) (map stretch_of ps))) is
    ∙ ap (λ (xs : List Stretch). Ok xs) (sym (map-append stretch_of old (line ∷ [])) ∙ ap (map stretch_of) (sym now))

in_front : (done : List Stretch) (r : Result (List Stretch) ℕ) (f : DialectFault) → FaultedAt f (scattered_at r) → FaultedAt f (scattered_at (mapped (λ (more : List Stretch). done ++ more) r))
in_front done r dialect_fault.Memory h = tt
in_front done (Ok more) (dialect_fault.Line fault line) h = absurd cc
in_front done (Err number) (dialect_fault.Line fault line) h = h

pub one_refused : (ns : List ℕ) (placed : List PlacedLine) (numbers : List ℕ) (line next : PlacedLine) (lines rest old : List PlacedLine) (f : DialectFault) → SoFar ns placed numbers line lines old
    → lines ≡ next ∷ rest → ((ss : List Stretch) → FaultedAt f (scattered_at (gathered_from numbers (stretch_of line) (stretch_of next ∷ ss))))
    → FaultedAt f (scattered_at (gathered ns (map stretch_of placed)))
one_refused ns placed numbers line next lines rest old f so_far is step =
    subst (λ (r : Result (List Stretch) ℕ). FaultedAt f (scattered_at r))
    (sym (so_far ∙ ap (λ (ps : List PlacedLine). mapped (λ (more : List Stretch). map stretch_of old ++ more) (gathered_from numbers (stretch_of line) (map stretch_of ps))) is))
    (in_front (map stretch_of old) (gathered_from numbers (stretch_of line) (stretch_of next ∷ map stretch_of rest)) f (step (map stretch_of rest)))

pub fewer : (lines rest : List PlacedLine) (next : PlacedLine) → lines ≡ next ∷ rest → length rest < length lines
fewer lines rest next is = let more : length lines ≡ suc (length rest) = ap length is in omega (arith, more)

-- what holds of a fault holds of an answer that is that fault
pub refused_as : {T : Type 0} (r : Result T DialectFault) (e : DialectFault) (P : DialectFault → Type 0) → IsErrAnd r (λ x. x ≡ e) → P e → IfErr r P
refused_as (Ok x) e P h p = tt
refused_as (Err x) e P h p = subst P (sym h) p

-- ## Which words

abbrev words_at : Stretch → List ℕ
words_at s = addresses_from s.at s.words

longer : (at n m : ℕ) → addresses_from at (n + m) ≡ addresses_from at n ++ addresses_from (at + 4 * n) m
longer at zero m =
    let none : 0 + m ≡ m = omega arith in
    let here : at ≡ at + 4 * 0 = omega arith in
    ap (λ (k : ℕ). addresses_from at k) none ∙ ap (λ (a : ℕ). addresses_from a m) here
longer at (suc n) m =
    let more : suc n + m ≡ suc (n + m) = omega arith in
    let there : at + 4 + 4 * n ≡ at + 4 * suc n = omega arith in
    ap (λ (k : ℕ). addresses_from at k) more ∙ ap (λ (xs : List ℕ). at ∷ xs) (longer (at + 4) n m ∙ ap (λ (a : ℕ). addresses_from (at + 4) n ++ addresses_from a m) there)

-- those of two that are one are those of both
both_words : (s t : Stretch) → (t.at == end_of s) ≡ true → words_at (together s t) ≡ words_at s ++ words_at t
both_words s t behind =
    longer s.at s.words t.words ∙ ap (λ (a : ℕ). words_at s ++ addresses_from a t.words) (sym (eqb-true t.at (end_of s) behind))

ok_parts : (s : Stretch) (r : Result (List Stretch) ℕ) (all : List Stretch) → mapped (λ (more : List Stretch). s ∷ more) r ≡ Ok all → (more : List Stretch) × (r ≡ Ok more) × (all ≡ s ∷ more)
ok_parts s (Ok more) all e = (more, refl, cc)
ok_parts s (Err number) all e = absurd cc

from_one : (ns : List ℕ) (s : Stretch) (ss all : List Stretch) → gathered_from ns s ss ≡ Ok all → flat_map words_at all ≡ words_at s ++ flat_map words_at ss
unfolding gathered_from
from_one ns s [] all e = let is : s ∷ [] ≡ all = cc in ap (flat_map words_at) (sym is)
from_one ns s (t ∷ ss) all e =
    elim (cases_Bool (have_one_origin ns)) [
      | inl one ↦
          let k : cond (t.at == end_of s) (gathered_from (drop 1 ns) (together s t) ss) (Err (first_origin ns)) ≡ Ok all = rw one at e in
          elim (cases_Bool (t.at == end_of s)) [
            | inl behind ↦
                let j : gathered_from (drop 1 ns) (together s t) ss ≡ Ok all = rw behind at k in
                from_one (drop 1 ns) (together s t) ss all j ∙ ap (λ (xs : List ℕ). xs ++ flat_map words_at ss) (both_words s t behind) ∙ append_assoc (words_at s) (words_at t) (flat_map words_at ss)
            | inr other ↦
                let j : ◌≡◌ {A = Result (List Stretch) ℕ} (Err (first_origin ns)) (Ok all) = rw other at k in
                absurd cc
          ]
      | inr apart ↦
          let k : mapped (λ (more : List Stretch). s ∷ more) (gathered_from (drop 1 ns) t ss) ≡ Ok all = rw apart at e in
          let parts = ok_parts s (gathered_from (drop 1 ns) t ss) all k in
          ap (flat_map words_at) parts.2 ∙ ap (λ (xs : List ℕ). words_at s ++ xs) (from_one (drop 1 ns) t ss parts.0 parts.1)
    ]

-- no word is lost, and none added
pub same_words : (ns : List ℕ) (ss all : List Stretch) → gathered ns ss ≡ Ok all → flat_map words_at all ≡ flat_map words_at ss
same_words ns [] all e = let is : [] ≡ all = cc in ap (flat_map words_at) (sym is)
same_words ns (s ∷ ss) all e = from_one ns s ss all e

read_spelled : Reads → (lines : List (List ℕ)) (said : List Parsed) → AllZip (λ line p. Spells p line) lines said → read_of lines ≡ said
unfolding read_of
read_spelled reads [] [] h = refl
read_spelled reads [] (p ∷ ps) h = absurd h
read_spelled reads (line ∷ lines) [] h = absurd h
read_spelled reads (line ∷ lines) (p ∷ ps) h =
    ap (λ (r : Result Parsed TextFault). with_read r (read_of lines)) (reads line p h.0) ∙ ap (λ (more : List Parsed). p ∷ more) (read_spelled reads lines ps h.1)

laid_words : (lines : List Laid) → flat_map words_at (map stretch_laid lines) ≡ flat_map places lines
laid_words [] = refl
laid_words (line ∷ lines) = ap (λ (xs : List ℕ). places line ++ xs) (laid_words lines)

placed_words : (placed : List PlacedLine) → flat_map words_at (map stretch_of placed) ≡ flat_map (λ (p : PlacedLine). addresses_from p.at p.words) placed
placed_words [] = refl
placed_words (p ∷ placed) = ap (λ (xs : List ℕ). addresses_from p.at p.words ++ xs) (placed_words placed)

by_text : (text : InGrammar) (ss all : List Stretch) → places_by text ss ≡ Ok all → flat_map words_at all ≡ flat_map words_at ss
by_text (Own text) ss all e = let is : ss ≡ all = cc in ap (flat_map words_at) (sym is)
by_text (From plain) ss all e = same_words plain.origins ss all e

-- the author's lines have the words of the lines in our grammar
pub all_listed : Reads → (text : InGrammar) (lines : List Parsed) (placed : List PlacedLine) → AllZip (λ line p. Spells p line) (lines_of (text_of text)) lines → places_of text ≡ Ok (map stretch_of placed)
    → flat_map places (laid lines) ≡ flat_map (λ (p : PlacedLine). addresses_from p.at p.words) placed
all_listed reads text lines placed read there =
    sym (laid_words (laid lines)) ∙ ap (λ (ps : List Parsed). flat_map words_at (map stretch_laid (laid ps))) (sym (read_spelled reads (lines_of (text_of text)) lines read))
    ∙ sym (by_text text (stretches_of (text_of text)) (map stretch_of placed) there) ∙ placed_words placed

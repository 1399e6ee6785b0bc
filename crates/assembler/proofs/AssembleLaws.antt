-- What is assembled is an assembly.
use Rattle.std.proofs.Common.{◌≡◌, ◌≤◌, ℕ, true, false, List, [], ◌∷◌, length, map, Option, Some, None, Result, Ok, Err, refl, sym, ap, subst, ◌∙◌, inl, inr, arith}
use Rattle.std.specs.Prelude.{flat_map}
use Rattle.std.specs.List.{AllByRecursion, AllZip}
use Rattle.std.proofs.lemmas.Bool.{false≢true}
use Rattle.image.specs.Image.{Words, may_hold}
use Rattle.image.proofs.ZipLemmas.{AllZip-one, AllZip-weaker}
use Rattle.asm_text.specs.Source.{lines_of}
use Rattle.asm_text.specs.Spelling.{Spells, SpellsOperands, SpellsParts}
use Rattle.asm_text.specs.Statements.{Parsed, line_of}
use Rattle.asm_text.specs.Pieces.{Piece}
use Rattle.asm_text.specs.Said.{Said, Lists}
use Rattle.asm_text.specs.declared.word.Word.{Word}
use Rattle.asm_text.specs.declared.word.Word.TheVariants.{Dcd}
use Rattle.asm_text.proofs.WordLaws.{same_Ok}
use Rattle.assembler.specs.Assembles.{AreWords, IsAssembly, Laid, Once, labels_of, laid, places}
use Rattle.image.specs.Labels.{Names, no_names}
use Rattle.assembler.specs.Sweeps.{State, assembled, assembled_on, assembled_with, at_first, filled, swept}
use Rattle.assembler.specs.declared.fault.LineFault.{LineFault}
use Rattle.assembler.proofs.AssembleSteps.{Covers, InSegments, StartBelow, segments_in}
use Rattle.assembler.proofs.AssembleSweep.{NamesOf, NewItems, flat, swept_is}
use Rattle.assembler.proofs.AssembleFill.{all_places, filled_lines, filled_places, put_words}
use Rattle.assembler.proofs.AssembleBack.{Exact, StartEven}
use Rattle.assembler.proofs.AssembleReady.{NotEmpty}
use Rattle.assembler.proofs.AssembleAll.{apart_none, swept_ok}
use Rattle.assembler.proofs.AssembleRuns.{Ascending}
use Rattle.assembler.proofs.AssembleFits.{JoinsIf, Put, fits}
use Rattle.assembler.proofs.AssembleFull.{filled_ok}
use Rattle.assembler.proofs.AssembleBasics.{all_true}

record Assembled (source : List ℕ) (image : Words) (names : Names) : Type 0 where
  state : State
  swept-is : swept at_first 1 (lines_of source) ≡ Ok state
  filled-is : filled state.names [] state.items ≡ Ok image
  names-are : state.names ≡ names

with_is : (names : Names) (r : Result Words (LineFault × ℕ)) (image : Words) (other : Names) → assembled_with names r ≡ Ok (image, other) → (r ≡ Ok image) × (names ≡ other)
with_is names (Ok words) image other e = let same : ◌≡◌ {A = Words × Names} (words, names) (image, other) = cc in (ap (λ x. Ok x.0) same, ap (λ x. x.1) same)
with_is names (Err fault) image other e = absurd cc

assembled_parts : (source : List ℕ) (r : Result State (LineFault × ℕ)) (image : Words) (names : Names) → swept at_first 1 (lines_of source) ≡ r → assembled_on r ≡ Ok (image, names) → Assembled source image names
assembled_parts source (Ok s) image names is e =
    let k = with_is s.names (filled s.names [] s.items) image names e in
    record { state = s; swept-is = is; filled-is = k.0; names-are = k.1 }
assembled_parts source (Err fault) image names is e = absurd cc

no_name : {A : Type 0} (at : ℕ) → ◌≡◌ {A = Option ℕ} None (Some at) → A
no_name at e = absurd cc

pub first_covers : Covers at_first []
unfolding StartBelow
first_covers = record { covered = tt; below = tt }

pub first_segments : segments_in at_first ≡ 0
unfolding segments_in
first_segments = refl

pub assembly_is : ((line : List ℕ) (p : Parsed) → line_of line ≡ Ok p → Spells p line) → (source : List ℕ) (image : Words) (names : Names) → assembled source ≡ Ok (image, names) → IsAssembly source image names
unfolding put_words
assembly_is reads source image names e =
    let a = assembled_parts source (swept at_first 1 (lines_of source)) image names refl e in
    let s = swept_is at_first 1 (lines_of source) a.state a.swept-is in
    let lines : List Laid = laid s.said in
    let fill : filled a.state.names [] (flat s.new) ≡ Ok image = ap (filled a.state.names []) (sym s.items) ∙ a.filled-is in
    let words = filled_lines a.state.names lines s.new [] image s.pending fill in
    let stand = filled_places a.state.names [] (flat s.new) image fill in
    let where-they : map (λ i. i.at) (flat s.new) ≡ flat_map places lines = all_places lines s.new s.pending in
    let few = stand.few (omega arith) in
    let same = a.names-are in
    record {
      lines = s.said;
      read = AllZip-weaker (λ line p. line_of line ≡ Ok p) (λ line p. Spells p line) reads (lines_of source) s.said s.read;
      once = s.names.once;
      named = λ name at. (
        λ k. elim ((s.names.named name at).0 (ap (λ (n : Names). n name) same ∙ k)) [ inl n ↦ no_name at n | inr c ↦ c ],
        λ c. ap (λ (n : Names). n name) (sym same) ∙ (s.names.named name at).1 (inr c),
      );
      words = words.0;
      coded = subst (λ (n : Names). AllZip (λ line ws. AreWords n line.said line.at ws) lines words.0) same words.1;
      image-is = words.2;
      held = subst (AllByRecursion (λ a. may_hold a ≡ true)) where-they stand.may;
      apart = subst Once where-they stand.once;
      free = s.free [] first_covers;
      few = subst (λ (ats : List ℕ). length ats ≤ 65536) where-they (omega (arith, few));
      few_segments = omega (arith, first_segments, s.few (omega (arith, first_segments)));
    }

-- ## And an assembly is assembled

said_some : (x : Said) (w : Word) (ps : List Piece) → SpellsOperands x w ps → NotEmpty (Some x)
unfolding NotEmpty
said_some (Lists []) Dcd ps h = h
said_some (Lists []) w ps h = h
said_some x w ps h = tt

pub parts_some : (label : Option (List ℕ)) (x : Option Said) (ps : List Piece) → SpellsParts label x ps → NotEmpty x
unfolding NotEmpty
parts_some label None ps h = tt
parts_some None (Some x) ps h = let k = h.2 in said_some x k.word k.rest k.operands
parts_some (Some name) (Some x) ps h = let k = h.3 in said_some x k.word k.rest k.operands

all_some : (lines : List (List ℕ)) (ps : List Parsed) → AllZip (λ line p. Spells p line) lines ps → AllByRecursion (λ p. NotEmpty p.said) ps
all_some [] [] h = tt
all_some [] (p ∷ ps) h = absurd h
all_some (line ∷ lines) [] h = absurd h
all_some (line ∷ lines) (p ∷ ps) h = let k = h.0 in (parts_some p.label p.said k.pieces k.spelled, all_some lines ps h.1)

same_options : (o r : Option ℕ) → ((at : ℕ) → o ≡ Some at → r ≡ Some at) → ((at : ℕ) → r ≡ Some at → o ≡ Some at) → o ≡ r
same_options (Some at) r f g = sym (f at refl)
same_options None None f g = refl
same_options None (Some at) f g = g at refl

pub first_exact : Exact at_first []
unfolding InSegments StartEven
first_exact = record { within = λ a four held. elim held [ inl e ↦ let k : false ≡ true = e in absurd cc | inr e ↦ let k : false ≡ true = e in absurd cc ]; even = refl; start = tt; spans = tt; words = refl }

pub first_put : Put [] [] 0
unfolding Ascending
first_put = record { ascends = tt; absent = λ a h. refl; count = refl; runs = omega arith }

pub assembly_built : ((line : List ℕ) (p : Parsed) → line_of line ≡ Ok p → Spells p line) → ((line : List ℕ) (p : Parsed) → Spells p line → line_of line ≡ Ok p)
    → (source : List ℕ) (image : Words) (names : Names) → IsAssembly source image names → assembled source ≡ Ok (image, names)
unfolding put_words JoinsIf
assembly_built spells reads source image names a =
    let lines : List Laid = laid a.lines in
    let read = AllZip-weaker (λ line p. Spells p line) (λ line p. line_of line ≡ Ok p) reads (lines_of source) a.lines a.read in
    let some = all_some (lines_of source) a.lines a.read in
    let alone = apart_none (flat_map places lines) in
    let sweep = swept_ok (lines_of source) a.lines at_first 1 [] names a.words read some
    (record {
      exact = first_exact;
      fresh = all_true (λ e. no_names e.0 ≡ None) (labels_of lines) (λ e. refl);
      once = a.once;
      coded = a.coded;
      held = a.held;
      apart = alone;
      once_there = a.apart;
      free = a.free;
      few = omega (arith, a.few);
      few_segments = omega (arith, first_segments, a.few_segments);
    }) in
    let t = sweep.0 in
    let s = swept_is at_first 1 (lines_of source) t sweep.1 in
    let same : s.said ≡ a.lines =
    AllZip-one (λ line p. line_of line ≡ Ok p) (λ line p q h k. same_Ok p q (sym h ∙ k))
    (lines_of source) s.said a.lines s.read read in
    let pending : AllZip NewItems lines s.new = subst (λ (ps : List Parsed). AllZip NewItems (laid ps) s.new) same s.pending in
    let named : NamesOf no_names t.names (labels_of lines) = subst (λ (ps : List Parsed). NamesOf no_names t.names (labels_of (laid ps))) same s.names in
    let names-are : t.names ≡ names = λ i name. same_options (t.names name) (names name)
    (λ at e. (a.named name at).1 (elim ((named.named name at).0 e) [ inl n ↦ no_name at n | inr c ↦ c ]))
    (λ at e. (named.named name at).1 (inr ((a.named name at).0 e))) i in
    let fit = fits a.lines 32768 false [] [] 0
    (record { put = first_put; joins = λ e. absurd (false≢true e); held = a.held; apart = alone; once = a.apart; few = omega (arith, a.few); few_segments = omega (arith, a.few_segments) }) in
    let fill = filled_ok names a.lines 32768 s.new a.words [] pending a.coded fit in
    let filled-is : filled t.names [] t.items ≡ Ok image = ap (filled t.names []) s.items ∙ ap (λ (n : Names). filled n [] (flat s.new)) names-are ∙ fill ∙ ap (λ (i : Words). Ok i) (sym a.image-is) in
    rw (sweep.1, filled-is) (ap (λ (n : Names). Ok (image, n)) names-are)

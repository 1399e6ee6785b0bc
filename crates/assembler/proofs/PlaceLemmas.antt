-- Where the lines of a source are placed.
use Rattle.std.proofs.Common.{◌≡◌, ◌+◌, ◌-◌, ◌*◌, ◌≤◌, ◌^◌, ℕ, List, [], ◌∷◌, ◌++◌, length, map, Option, Some, None, Result, Ok, Err, refl, sym, ap, subst, ◌∙◌, inl, inr, arith, append-nil, append_assoc}
use Rattle.std.proofs.lemmas.List.{length-append, length-map}
use Rattle.std.specs.Prelude.{IfErr, IsErrAnd}
use Rattle.std.specs.List.{AllZip}
use Rattle.asm_text.specs.Said.{Said, Orgs}
use Rattle.asm_text.specs.Source.{lines_of}
use Rattle.asm_text.specs.Spelling.{Spells}
use Rattle.asm_text.specs.Statements.{Parsed, line_of}
use Rattle.asm_text.specs.declared.statement.TextFault.{TextFault}
use Rattle.image.proofs.ZipLemmas.{AllZip-one}
use Rattle.assembler.specs.Assembles.{address_after, laid, laid_from, word_count}
use Rattle.assembler.specs.Placed.{ArePlaced, IsPlaceFault, IsPlaced}
use Rattle.assembler.specs.Refusals.{ArePassed, IsRefusedAtOnce}
use Rattle.assembler.specs.Sweeps.{State, at_first, line_step, swept, after_line}
use Rattle.assembler.specs.Views.{Faulted, FaultedAt, item_of, state_of}
use Rattle.assembler.specs.declared.fault.AsmFault.{AsmFault}
use Rattle.assembler.specs.declared.fault.AsmFault.TheVariants.{Memory, Line}
use Rattle.assembler.specs.declared.fault.LineFault.{LineFault}
use Rattle.assembler.specs.declared.placed_line.PlacedLine.{PlacedLine}
use Rattle.assembler.specs.declared.sweep.Sweep.{Sweep}
use Rattle.assembler.proofs.AssembleSteps.{items_at}
use Rattle.assembler.proofs.AssembleSweep.{step_is}
use Rattle.assembler.proofs.RefuseLaws.{all_swept, refused_there, stopped_at_once}
use Rattle.assembler.proofs.RefuseSweep.{Texts, front_first, one_meaning, pass_or_stop}

-- ## One line

items_count : (k at : ℕ) (new : List _) → length (items_at k at new) ≡ length new
unfolding items_at
items_count k at [] = refl
items_count k at (p ∷ ps) = omega (arith, items_count k (at + 4) ps)

-- what a line of a source says, the address after it, and the words that it adds
pub record CodeMoves (s : State) (r : Result Parsed TextFault) (t : State) : Type 0 where
  pub parsed : Parsed
  pub read : r ≡ Ok parsed
  pub at : t.at ≡ address_after s.at parsed.said
  pub words : length t.items ≡ length s.items + word_count parsed.said

pub code_moves : (s : State) (k : ℕ) (r : Result Parsed TextFault) (t : State) → line_step s k r ≡ Ok t
    → CodeMoves s r t
code_moves s k r t e =
    let step = step_is s k r t e in
    let m = step.2.moves in
    record {
      parsed = step.0;
      read = step.1;
      at = m.at;
      words =
          ap length m.items ∙ length-append s.items (items_at k s.at m.new)
          ∙ ap (λ n. length s.items + n) (items_count k s.at m.new ∙ m.count);
    }

words_below : (at after : ℕ) (said : Option Said) → at ≤ 2 ^ 26 → after ≤ 2 ^ 26
    → after ≡ address_after at said → at + 4 * word_count said ≤ 2 ^ 26
words_below at after (Some (Orgs n)) here there e = omega (arith, here)
words_below at after None here there e = omega (arith, here)
words_below at after said here there e = omega (arith, there, e)

-- no word is lost, and those of the line end in memory
pub record WordsMore (s t : Sweep) : Type 0 where
  pub more : length s.items.items ≤ length t.items.items
  pub within : s.at + 4 * (length t.items.items - length s.items.items) ≤ 2 ^ 26

pub words_within : (s : Sweep) (k : ℕ) (r : Result Parsed TextFault) (t : Sweep)
    → line_step (state_of s) k r ≡ Ok (state_of t) → s.at ≤ 2 ^ 26 → t.at ≤ 2 ^ 26 → WordsMore s t
words_within s k r t e here there =
    let m = code_moves (state_of s) k r (state_of t) e in
    let before : length (map item_of s.items.items) ≡ length s.items.items = length-map s.items.items item_of in
    let after : length (map item_of t.items.items) ≡ length t.items.items = length-map t.items.items item_of in
    record {
      more = omega (arith, m.words, before, after);
      within = omega (arith, words_below s.at t.at m.parsed.said here there m.at, m.words, before, after);
    }

-- ## The lines so far

abbrev pub AreRead : List (List ℕ) → List Parsed → Type 0
AreRead lines said = AllZip (λ line p. line_of line ≡ Ok p) lines said

pub record Found (lines : List (List ℕ)) (placed : List PlacedLine) : Type 0 where
  pub said : List Parsed
  pub read : AreRead lines said
  pub places : AllZip IsPlaced (laid said) placed

-- whatever the lines from here on say and wherever they are placed, all lines are those so far and these
pub record SoFar (lines rest : List (List ℕ)) (at : ℕ) (placed : List PlacedLine) : Type 0 where
  pub whole : (later : List Parsed) → (more : List PlacedLine) → AreRead rest later
      → AllZip IsPlaced (laid_from at later) more → Found lines (placed ++ more)

pub so_far_none : (lines : List (List ℕ)) → SoFar lines lines 32768 []
so_far_none lines = record { whole = λ later more read places. record { said = later; read = read; places = places } }

pub so_far_one : (lines now : List (List ℕ)) (line : List ℕ) (rest : List (List ℕ)) (s : Sweep) (k : ℕ) (t : Sweep)
    (placed : List PlacedLine) (one : PlacedLine) → SoFar lines now s.at placed → now ≡ line ∷ rest
    → line_step (state_of s) k (line_of line) ≡ Ok (state_of t) → one.at ≡ s.at
    → length t.items.items ≡ length s.items.items + one.words → SoFar lines rest t.at (placed ++ one ∷ [])
so_far_one lines now line rest s k t placed one h0 parts e at count =
    let h = subst (λ ls. SoFar lines ls s.at placed) parts h0 in
    let m = code_moves (state_of s) k (line_of line) (state_of t) e in
    let before : length (map item_of s.items.items) ≡ length s.items.items = length-map s.items.items item_of in
    let after : length (map item_of t.items.items) ≡ length t.items.items = length-map t.items.items item_of in
    let words : one.words ≡ word_count m.parsed.said = omega (arith, count, m.words, before, after) in
    record {
      whole = λ later more read places.
          subst (Found lines) (sym (append_assoc placed (one ∷ []) more))
          (h.whole (m.parsed ∷ later) (one ∷ more) (m.read, read)
          ((at, words), subst (λ a. AllZip IsPlaced (laid_from a later) more) m.at places));
    }

pub so_far_all : (lines now : List (List ℕ)) (at : ℕ) (placed : List PlacedLine) → SoFar lines now at placed
    → now ≡ [] → Found lines placed
so_far_all lines now at placed h0 none =
    let h = subst (λ ls. SoFar lines ls at placed) none h0 in
    subst (Found lines) (append-nil placed) (h.whole [] [] tt tt)

-- ## All lines

abbrev pub Reads : Type 0
Reads = (line : List ℕ) (p : Parsed) → Spells p line → line_of line ≡ Ok p

passed_read : Reads → (before : List Parsed) (lines : List (List ℕ)) (said : List Parsed)
    → ArePassed before lines said → AreRead lines said
passed_read reads before [] [] h = tt
passed_read reads before [] (p ∷ said) h = absurd h
passed_read reads before (line ∷ lines) [] h = absurd h
passed_read reads before (line ∷ lines) (p ∷ said) h =
    (reads line p h.0, passed_read reads (before ++ p ∷ []) lines said h.2)

-- what passed says what is read
pub one_passed : Reads → (lines : List (List ℕ)) (said other : List Parsed)
    → ArePassed [] lines said → AreRead lines other → said ≡ other
one_passed reads lines said other passed read =
    AllZip-one (λ line p. line_of line ≡ Ok p) (λ line p q. one_meaning p q (line_of line)) lines said other
    (passed_read reads [] lines said passed) read

both_ways : {A : Type 0} (r : Result State (LineFault × ℕ)) (s : State) (f : LineFault × ℕ) → r ≡ Ok s → r ≡ Err f → A
both_ways r s f e k = absurd (no (sym e ∙ k))
  where
    no : ◌≡◌ {A = Result State (LineFault × ℕ)} (Ok s) (Err f) → ⊥
    no e = cc

-- lines that are gone through have no fault at once
pub placed_all : Texts → (source : List ℕ) (s : State) (placed : List PlacedLine)
    → swept at_first 1 (lines_of source) ≡ Ok s → Found (lines_of source) placed → ArePlaced source placed
placed_all texts source s placed e h =
    elim (pass_or_stop texts at_first 1 [] (lines_of source) front_first) [
      | inl all ↦ record {
        lines = all.0;
        passed = all.1;
        places =
            subst (λ said. AllZip IsPlaced (laid said) placed)
            (sym (one_passed texts.reads (lines_of source) all.0 h.said all.1 h.read)) h.places;
      }
      | inr stop ↦
          both_ways (swept at_first 1 (lines_of source)) s (stop.fault, length stop.front + 1) e
          (stopped_at_once texts source stop.fault (length stop.front + 1) (refused_there source stop))
    ]

pub swept_next : (s : State) (k : ℕ) (now : List (List ℕ)) (line : List ℕ) (rest : List (List ℕ)) (t : State)
    (whole : Result State (LineFault × ℕ)) → swept s k now ≡ whole → now ≡ line ∷ rest
    → line_step s k (line_of line) ≡ Ok t → swept t (k + 1) rest ≡ whole
unfolding swept
swept_next s k now line rest t whole same parts e =
    ap (λ r. after_line k r (λ u. swept u (k + 1) rest)) (sym e) ∙ ap (swept s k) (sym parts) ∙ same

-- ## A line with a fault

refused_sweep : Texts → (source : List ℕ) (fault : LineFault) (k : ℕ)
    → swept at_first 1 (lines_of source) ≡ Err (fault, k) → IsRefusedAtOnce source fault k
refused_sweep texts source fault k e =
    elim (pass_or_stop texts at_first 1 [] (lines_of source) front_first) [
      | inl all ↦
          let s = all_swept texts source all.0 all.1 in
          both_ways (swept at_first 1 (lines_of source)) s.state (fault, k) s.same e
      | inr stop ↦
          let m = length stop.front + 1 in
          let there = refused_there source stop in
          let same = pairs (stop.fault, m) (fault, k) (sym (stopped_at_once texts source stop.fault m there) ∙ e) in
          subst (λ (x : LineFault × ℕ). IsRefusedAtOnce source x.0 x.1) same there
    ]
  where
    pairs : (f g : LineFault × ℕ) → ◌≡◌ {A = Result State (LineFault × ℕ)} (Err f) (Err g) → f ≡ g
    pairs f g e = cc

pub sweep_fault : (source line : List ℕ) (now rest : List (List ℕ)) (s : State) (k : ℕ) (fault : AsmFault)
    → swept s k now ≡ swept at_first 1 (lines_of source) → now ≡ line ∷ rest
    → Faulted fault k (line_step s k (line_of line)) → FaultedAt fault (swept at_first 1 (lines_of source))
unfolding swept
sweep_fault source line now rest s k Memory same parts h = tt
sweep_fault source line now rest s k (Line fault n) same parts h =
    sym same ∙ ap (swept s k) parts ∙ ap (λ r. after_line k r (λ t. swept t (k + 1) rest)) h.1 ∙ ap (λ m. Err (fault, m)) (sym h.0)

pub fault_at_once : Texts → (source : List ℕ) (fault : AsmFault)
    → FaultedAt fault (swept at_first 1 (lines_of source)) → IsPlaceFault source fault
fault_at_once texts source Memory h = tt
fault_at_once texts source (Line fault n) h = refused_sweep texts source fault n h

-- an answer that is refused with a fault
pub refused_as : {T : Type 0} (r : Result T AsmFault) (fault : AsmFault) (P : AsmFault → Type 0)
    → IsErrAnd r (λ x. x ≡ fault) → P fault → IfErr r P
refused_as (Ok t) fault P h p = tt
refused_as (Err f) fault P h p = subst P (sym h) p

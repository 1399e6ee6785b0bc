-- Texts of one part after another.
use Rattle.std.proofs.Common.{◌≡◌, ◌+◌, ◌-◌, ◌*◌, ℕ, suc, List, [], ◌∷◌, ◌++◌, length, take, arith, length-append, codes, ap, replicate, subst, sym, Bool, false, ◌==◌, if◌then◌else◌, decimal, Some, ◌∙◌, append_assoc}
use Rattle.std.specs.BTreeMap.{BTreeMap}
use Rattle.std.specs.Prelude.{Option}
use Rattle.text_rows.specs.declared.line_labels.SourceLine.{SourceLine}
use Rattle.text_draft.specs.Rows.{remark, row}
use Rattle.bus_ticks.specs.Prices.{ahead_of}
use Rattle.text_draft.specs.DraftText.{accesses_text, apart_text, bound_text, candidates_text, cycle_text, destination_text, destinations_text, draft_text, end_text, full_text, head_text, loop_text, place_text, target_text, way_text, words_from}
use Rattle.statement.specs.declared.apart.ApartStretch.{ApartStretch}
use Rattle.text_draft.specs.declared.accesses.FoundAccess.{FoundAccess}
use Rattle.text_draft.specs.declared.ends.End.{End}
use Rattle.text_draft.specs.declared.rules.FoundRule.{FoundRule}
use Rattle.text_draft.specs.declared.found_loop.FoundLoop.{FoundLoop}
use Rattle.text_draft.specs.Targets.{any_open}
use Rattle.text_draft.specs.declared.pc_writers.FoundTarget.{FoundTarget}
use Rattle.text_draft.specs.declared.pc_writers.Way.{Way}
use Rattle.std.specs.List.{flat_map}
use Rattle.std.proofs.Math.Seq.{take-append-add}
use Rattle.assembler.proofs.PutLaws.{joined, three}

-- the texts of words side by side
pub words_more : (f : ℕ → List ℕ) (at next left after : ℕ) (old new all : List ℕ) → left ≡ suc after
    → old ++ flat_map f (words_from at left) ≡ all → new ≡ old ++ f at → next ≡ ahead_of at 4
    → new ++ flat_map f (words_from next after) ≡ all
words_more f at next left after old new all is h0 more on =
    let h = subst (λ n. old ++ flat_map f (words_from at n) ≡ all) is h0 in
    let rest = flat_map f (words_from (ahead_of at 4) after) in
    ap (λ a. new ++ flat_map f (words_from a after)) on ∙ ap (λ t. t ++ rest) more ∙ append_assoc old (f at) rest ∙ h

-- one blank more
pub blanks_more : (left after : ℕ) (old new all : List ℕ) → left ≡ suc after → old ++ replicate left 32 ≡ all
    → new ≡ old ++ 32 ∷ [] → new ++ replicate after 32 ≡ all
blanks_more left after old new all is h0 more =
    let h = subst (λ n. old ++ replicate n 32 ≡ all) is h0 in
    ap (λ t. t ++ replicate after 32) more ∙ append_assoc old (32 ∷ []) (replicate after 32) ∙ h

-- a row with the comment of its line as far as they fit
pub row_ended : (line : Option SourceLine) (before text old mid cut new : List ℕ) (start end width room : ℕ)
    → old ≡ before ++ text → length before ≡ start → end ≡ length old → width ≡ end - start → room ≡ 80 - width
    → mid ≡ old ++ remark line → cut ≡ take (end + room) mid → new ≡ cut ++ codes "\n" → new ≡ before ++ row text line
row_ended line before text old mid cut new start end width room is at ends wide left more cut_is last =
    let long : length old ≡ length before + length text = ap length is ∙ length-append before text in
    let fits : room ≡ 80 - length text = omega arith in
    let shorter : cut ≡ old ++ take (80 - length text) (remark line) =
    cut_is ∙ ap (λ n. take (n + room) mid) ends ∙ ap (take (length old + room)) more
    ∙ take-append-add old (remark line) room ∙ ap (λ n. old ++ take n (remark line)) fits in
    three before text (take (80 - length text) (remark line)) (codes "\n") is shorter last

-- what is written of a word that writes R15, where that has two parts
pub way_whole : (lines : BTreeMap ℕ SourceLine) (w : Way) (at table branches : ℕ) (kind old front new : List ℕ)
    → way_text lines w at branches ≡ kind ++ destinations_text lines (ahead_of at 8) branches → table ≡ ahead_of at 8
    → front ≡ old ++ kind → new ≡ front ++ destinations_text lines table branches → new ≡ old ++ way_text lines w at branches
way_whole lines w at table branches kind old front new parts is a b =
    joined old front new kind (destinations_text lines (ahead_of at 8) branches) a
    (b ∙ ap (λ t. front ++ destinations_text lines t branches) is) ∙ ap (λ t. old ++ t) (sym parts)

-- the destinations of a table, part by part
pub destinations_whole : (lines : BTreeMap ℕ SourceLine) (table branches : ℕ) (old a b new : List ℕ) → (branches == 0) ≡ false
    → a ≡ old ++ codes "to = [\n" → b ≡ a ++ flat_map (destination_text lines) (words_from table branches)
    → new ≡ b ++ codes "  \"?\",  # what else it may reach, or nothing\n]\n" → new ≡ old ++ destinations_text lines table branches
destinations_whole lines table branches old a b new some h1 h2 h3 =
    let front = codes "to = [\n" in
    let rows = flat_map (destination_text lines) (words_from table branches) in
    let back = codes "  \"?\",  # what else it may reach, or nothing\n]\n" in
    let none = codes "to = \"?\"  # a list, or nothing for a return or a leave; then draft from this statement\n" in
    three old front rows back h1 h2 h3 ∙ ap (λ (x : Bool). old ++ (if x then none else front ++ (rows ++ back))) (sym some)

-- a number that was counted, part by part
pub bound_whole : (indent : ℕ) (left : Bool) (some : Option ℕ) (turns : ℕ) (front back old a b new : List ℕ)
    → bound_text indent left (Some turns) ≡ replicate indent 32 ++ (front ++ (decimal turns ++ back)) → some ≡ Some turns
    → a ≡ old ++ replicate indent 32 → b ≡ a ++ front → new ≡ b ++ (decimal turns ++ back)
    → new ≡ old ++ bound_text indent left some
bound_whole indent left some turns front back old a b new parts is h1 h2 h3 =
    three old (replicate indent 32) front (decimal turns ++ back) h1 h2 h3 ∙ ap (λ t. old ++ t) (sym parts)
    ∙ ap (λ t. old ++ bound_text indent left t) (sym is)

-- a loop, part by part
pub loop_whole : (lines : BTreeMap ℕ SourceLine) (l : FoundLoop) (old p q r s t u new : List ℕ) → p ≡ old ++ codes "\n"
    → q ≡ p ++ replicate (2 * l.depth) 32 → r ≡ q ++ codes "[[loop]]\n"
    → s ≡ r ++ place_text lines (2 * l.depth) (codes "header") l.header
    → t ≡ s ++ place_text lines (2 * l.depth) (codes "first") l.first
    → u ≡ t ++ place_text lines (2 * l.depth) (codes "last") l.last → new ≡ u ++ bound_text (2 * l.depth) l.proved l.turns
    → new ≡ old ++ loop_text lines l
loop_whole lines l old p q r s t u new h1 h2 h3 h4 h5 h6 h7 =
    let a = codes "\n" in
    let b = replicate (2 * l.depth) 32 in
    let c = codes "[[loop]]\n" in
    let d = place_text lines (2 * l.depth) (codes "header") l.header in
    let e = place_text lines (2 * l.depth) (codes "first") l.first in
    let f = place_text lines (2 * l.depth) (codes "last") l.last in
    let g = bound_text (2 * l.depth) l.proved l.turns in
    three old a b (c ++ (d ++ (e ++ (f ++ g)))) h1 h2
    (three q c d (e ++ (f ++ g)) h3 h4 (three s e f g h5 h6 h7))

-- a whole draft, part by part
pub draft_whole : (lines : BTreeMap ℕ SourceLine) (entry : ℕ) (full : Bool) (ends : List (ℕ × End)) (cycles : List ℕ)
    (apart : List ApartStretch) (rules : List FoundRule) (entries : List FoundAccess) (loops : List FoundLoop) (candidates : List ℕ) (targets : List FoundTarget)
    (old p o q r v s t u new : List ℕ) → p ≡ old ++ head_text lines entry → o ≡ p ++ full_text full
    → q ≡ o ++ flat_map (end_text lines) ends → r ≡ q ++ flat_map (cycle_text lines) cycles
    → v ≡ r ++ apart_text lines apart → s ≡ v ++ accesses_text lines rules entries → t ≡ s ++ flat_map (loop_text lines) loops
    → u ≡ t ++ candidates_text lines (codes "below") (any_open targets) candidates → new ≡ u ++ flat_map (target_text lines) targets
    → new ≡ old ++ draft_text lines entry full ends cycles apart rules entries loops candidates targets
draft_whole lines entry full ends cycles apart rules entries loops candidates targets old p o q r v s t u new h1 h2 h3 h4 h45 h5 h6 h7 h8 =
    let i = apart_text lines apart in
    let a = head_text lines entry in
    let b = full_text full in
    let c = flat_map (end_text lines) ends in
    let d = flat_map (cycle_text lines) cycles in
    let e = accesses_text lines rules entries in
    let f = flat_map (loop_text lines) loops in
    let g = candidates_text lines (codes "below") (any_open targets) candidates in
    let h = flat_map (target_text lines) targets in
    joined old p new a (b ++ (c ++ (d ++ (i ++ (e ++ (f ++ (g ++ h))))))) h1
    (joined p o new b (c ++ (d ++ (i ++ (e ++ (f ++ (g ++ h)))))) h2
    (joined o q new c (d ++ (i ++ (e ++ (f ++ (g ++ h))))) h3
    (joined q r new d (i ++ (e ++ (f ++ (g ++ h)))) h4
    (joined r v new i (e ++ (f ++ (g ++ h))) h45
    (joined v s new e (f ++ (g ++ h)) h5 (joined s t new f (g ++ h) h6 (joined t u new g h h7 h8)))))))

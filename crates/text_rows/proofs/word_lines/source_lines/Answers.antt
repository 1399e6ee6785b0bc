use Rattle.std.proofs.Common.{◌≡◌, ◌∙◌, ◌+◌, ◌∷◌, ℕ, List, [], None, ap, drop, eqb, rules, sym, arith}
use Rattle.std.proofs.Math.ListN.{drop_of_length-le}
use Rattle.std.proofs.lemmas.List.{drop_more}
use Rattle.std.specs.Map.{update_all}
use Rattle.std.specs.Prelude.{option_map}
use Rattle.asm_text.specs.Source as source
use Rattle.assembler.specs.declared.placed_line.PlacedLine.{PlacedLine}
use Rattle.text_rows.specs.WordLines.{line_at, numbered, numbered_at, words_of}
use Rattle.text_rows.proofs.WordLineLaws.{more_lines, no_places, update_all_same}
use Rattle.text_rows.proofs.word_lines.source_lines.Goals as goal

pub loop-placed-init : goal.loop-placed-init
loop-placed-init c =
    let empty : (at : ℕ) → line_at c.new-lines.result at ≡ None = search rules in
    record {
      count = omega arith;
      named = search rules;
      words = λ at.
          update_all_same eqb (numbered_at c.new-lines.result) (λ a. None) (words_of c.args.program.now.labels.now 1 [] (source.lines_of c.args.program.now.source.now) c.args.program.now.placed.now) at
          (ap (option_map numbered) (empty at));
    }

pub loop-placed-preserved : goal.loop-placed-preserved
loop-placed-preserved c =
    let names = c.args.program.now.labels.now in
    let placed = c.args.program.now.placed.now in
    let k = c.loop-placed.placed-index in
    let p = c.placed-item.result in
    let added = c.in_ok-add_words.ensures {u = tt} in
    let parts : drop k placed ≡ p ∷ drop (k + 1) placed = drop_more placed k p c.loop-placed-test.true ∙ ap (λ (x : PlacedLine). x ∷ drop (k + 1) placed) (sym c.placed-item.is) in
    record {
      count = omega (arith, c.loop-placed.invariant.count, (c.in-Some.ensures {u = tt}).1);
      named = added.named names c.label_of-label.ensures.named c.loop-placed.invariant.named;
      words = λ at.
          more_lines names c.loop-placed.number c.loop-placed.before.now c.label_of-label.result.now c.in-Some.text.now (source.lines_of c.in-Some.after.now) p (drop (k + 1) placed)
          (numbered_at c.loop-placed.lines) (numbered_at c.add_words.new.lines) at c.label_of-label.ensures.value (added.words at)
          ∙ ap (λ (ps : List PlacedLine). update_all eqb (numbered_at c.loop-placed.lines) (words_of names c.loop-placed.number c.loop-placed.before.now (c.in-Some.text.now ∷ source.lines_of c.in-Some.after.now) ps) at) (sym parts)
          ∙ ap (λ (ls : List (List ℕ)). update_all eqb (numbered_at c.loop-placed.lines) (words_of names c.loop-placed.number c.loop-placed.before.now ls (drop k placed)) at) (sym (c.in-Some.ensures {u = tt}).0)
          ∙ c.loop-placed.invariant.words at;
    }

pub returns-in_default-clause-words : goal.returns-in_default-clause-words
returns-in_default-clause-words c = λ at.
    ap (λ (ls : List (List ℕ)). update_all eqb (numbered_at c.loop-placed.lines) (words_of c.args.program.now.labels.now c.loop-placed.number c.loop-placed.before.now ls (drop c.loop-placed.placed-index c.args.program.now.placed.now)) at) (sym (c.in_default.ensures {u = tt}))
    ∙ c.loop-placed.invariant.words at

pub returns-clause-words : goal.returns-clause-words
returns-clause-words c = λ at.
    let names = c.args.program.now.labels.now in
    let placed = c.args.program.now.placed.now in
    let lines = source.lines_of c.loop-placed.rest.now in
    let none : drop c.loop-placed.placed-index placed ≡ [] = drop_of_length-le placed c.loop-placed-test.false in
    ap (λ ws. update_all eqb (numbered_at c.loop-placed.lines) ws at)
    (sym (no_places names c.loop-placed.number c.loop-placed.before.now lines) ∙ ap (words_of names c.loop-placed.number c.loop-placed.before.now lines) (sym none))
    ∙ c.loop-placed.invariant.words at

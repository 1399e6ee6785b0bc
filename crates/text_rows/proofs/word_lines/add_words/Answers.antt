use Rattle.std.proofs.Common.{◌≡◌, ◌∙◌, ◌-◌, ◌+◌, ℕ, suc, ap, eqb, rules, sym, arith}
use Rattle.std.specs.Map.{update_all}
use Rattle.text_rows.specs.WordLines.{numbered, numbered_at, words_from}
use Rattle.text_rows.proofs.WordLineLaws.{one_word}
use Rattle.text_rows.proofs.word_lines.add_words.Goals as goal

pub loop-preserved : goal.loop-preserved
loop-preserved c = record {
  label = search rules;
  named = search rules;
  words = λ a.
      let left : c.args.placed.words - c.loop.counter ≡ suc (c.args.placed.words - (c.loop.counter + 1)) = omega (arith, c.loop-test.true) in
      one_word c.loop.lines c.insert.new.self c.loop.at (c.args.placed.words - (c.loop.counter + 1)) c.loop.shown (c.in_ok-insert.ensures {u = tt}).updates a
      ∙ ap (λ (n : ℕ). update_all eqb (numbered_at c.loop.lines) (words_from c.loop.at n (numbered c.loop.shown)) a) (sym left)
      ∙ c.loop.invariant.words a;
}

pub returns-clause-words : goal.returns-clause-words
returns-clause-words c = λ a.
    let none : c.args.placed.words - c.loop.counter ≡ 0 = omega (arith, c.loop-test.false) in
    ap (λ (n : ℕ). update_all eqb (numbered_at c.loop.lines) (words_from c.loop.at n (numbered c.loop.shown)) a) (sym none)
    ∙ c.loop.invariant.words a

use Rattle.std.proofs.Common.{◌≡◌, ◌-◌, ℕ, eqb}
use Rattle.std.specs.Map.{update_all}
use Rattle.image.specs.Labels.{NamedAddresses}
use Rattle.text_rows.specs.Addresses.{IsNamed}
use Rattle.text_rows.specs.LineLabels.{AreNamed}
use Rattle.text_rows.specs.WordLines.{numbered, numbered_at, words_from}
use Rattle.text_rows.proofs.word_lines.add_words.Given as goal

abbrev pub invariant-loop : goal.invariant-loop
invariant-loop l = record {
  label : (names : NamedAddresses) → IsNamed names l.fn.placed.at l.line.label.now → IsNamed names l.at l.shown.label.now;
  named : (names : NamedAddresses) → IsNamed names l.fn.placed.at l.line.label.now → AreNamed names l.initial.lines → AreNamed names l.lines;
  words : (a : ℕ) → update_all eqb (numbered_at l.lines) (words_from l.at (l.fn.placed.words - l.counter) (numbered l.shown)) a
      ≡ update_all eqb (numbered_at l.initial.lines) (words_from l.fn.placed.at l.fn.placed.words (numbered l.line)) a;
}

use Rattle.std.proofs.Common.{◌≡◌, ℕ, ◌<◌, ◌^◌, get_or, map, take}
use Rattle.toml.specs.View.{view}
use Rattle.machine_file.specs.Written.{word_data}
use Rattle.machine_file.proofs.writing.word_values.Given as goal

abbrev pub invariant-loop-word : goal.invariant-loop-word
invariant-loop-word l = record {
  written : map view l.values.items ≡ map word_data (take l.word-index l.words);
  bound : (k : ℕ) (d : ℕ × ℕ) → k < l.word-index → (get_or l.words k d).1 < 2 ^ 32;
}

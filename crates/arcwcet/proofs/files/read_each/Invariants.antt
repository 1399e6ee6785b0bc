use Rattle.std.proofs.Common.{◌≡◌, ◌≤◌, length, vec_len}
use Rattle.std.specs.Prelude.{vec_capacity}
use Rattle.arcwcet.proofs.FileLemmas.{ReadSoFar, bytes_kept}
use Rattle.arcwcet.proofs.files.read_each.Given as goal

abbrev pub invariant-loop-name : goal.invariant-loop-name
invariant-loop-name g l = record {
  so_far : ReadSoFar g.S.Store.read_gives l.names l.fn.store l.name-index (bytes_kept l.files.items) l.store;
  count : vec_len l.files ≡ l.name-index;
  room : length l.names ≤ vec_capacity l.files;
}

use Rattle.std.proofs.Common.{◌≡◌, ◌++◌, ◌+◌, map}
use Rattle.arrayvec.specs.ArrayVec.{array_vec_len}
use Rattle.test_vectors.specs.Writing.{moved_addresses, shown_at}
use Rattle.test_vectors.proofs.shown_words.push_moved.Given as goal

abbrev pub invariant-loop-number : goal.invariant-loop-number
invariant-loop-number l =
    (l.words.items ≡ l.initial.words.items ++ map (shown_at l.memc) (moved_addresses l.moved.address l.number))
    × (array_vec_len l.words ≡ array_vec_len l.initial.words + l.number)

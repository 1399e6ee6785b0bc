use Rattle.std.proofs.Common.{◌≡◌, ◌≤◌, not, length, drop}
use Rattle.arm2_decode.specs.Transfers.{registers_in}
use Rattle.arm2_transfer.specs.Words.{words_from, verdict_of, AllFit}
use Rattle.arm2_transfer.proofs.Verdict.{verdict_after, words_among}
use Rattle.arm2_transfer.proofs.words.locate_block.Given as goal

abbrev pub invariant-loop-register : goal.invariant-loop-register
invariant-loop-register l = record {
  few : length l.moves.items ≤ l.word;
  word : l.word ≤ l.register-index;
  fit : AllFit l.memc.shift l.moves.items;
  rest : verdict_after l.unsupported l.moves.items (words_among l.memc l.user (not l.transfer.load) l.lowest l.transfer.list l.word (drop l.register-index l.register-items)) ≡ verdict_of (words_from l.memc l.user (not l.transfer.load) l.lowest 0 (registers_in l.transfer.list));
}

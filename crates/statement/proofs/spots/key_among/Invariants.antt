use Rattle.std.proofs.Common.{◌≡◌, drop}
use Rattle.statement.specs.Places.{key_among}
use Rattle.statement.proofs.spots.key_among.Given as goal

abbrev pub invariant-loop-key : goal.invariant-loop-key
invariant-loop-key l = key_among (drop l.key-index l.keys) l.word ≡ key_among l.keys l.word

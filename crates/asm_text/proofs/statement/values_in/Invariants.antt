use Rattle.std.proofs.Common.{◌≡◌, ◌++◌, drop, map}
use Rattle.std.specs.Prelude.{option_map}
use Rattle.asm_text.specs.Pieces.{piece_of}
use Rattle.asm_text.specs.Said.{target_of}
use Rattle.asm_text.specs.Statements.{values_in}
use Rattle.asm_text.specs.declared.statement.Expects.TheVariants.{Start}
use Rattle.asm_text.proofs.statement.values_in.Given as goal

abbrev pub invariant-loop-token : goal.invariant-loop-token
invariant-loop-token l = option_map (λ vs. map target_of l.values.items ++ vs) (values_in l.expects (map piece_of (drop l.token-index l.tokens))) ≡ values_in Start (map piece_of l.tokens)

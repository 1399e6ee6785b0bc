use Rattle.std.proofs.Common.{◌∙◌, sym, map}
use Rattle.std.specs.Prelude.{option_map}
use Rattle.asm_text.specs.Said.{target_of}
use Rattle.asm_text.proofs.ValueLaws.{values_turn}
use Rattle.asm_text.proofs.statement.values_in.Goals as goal

pub loop-token-preserved : goal.loop-token-preserved
loop-token-preserved c =
    let turn = values_turn (map target_of c.loop-token.values.items) c.loop-token.expects c.args.tokens.now c.loop-token.token-index _ c.loop-token-test.true (option_map target_of c.in-Some.value) c.in-Some.next (sym c.in-Some.ensures) in
    rw c.in_ok-push_some.ensures (sym turn ∙ c.loop-token.invariant)

use Rattle.objasm.specs.Names.{meanings_of}
use Rattle.objasm.proofs.PlainLaws.{parts_end, parts_go}
use Rattle.objasm.proofs.plain_lines.put_parts.Goals as goal

pub loop-token-preserved : goal.loop-token-preserved
loop-token-preserved c =
    parts_go (meanings_of c.args.names.now) c.args.tokens.now c.loop-token.token-index _ c.loop-token.out.items c.put_part.new.out.items _ c.loop-token-test.true c.in_ok-put_part.ensures c.loop-token.invariant

pub returns : goal.returns
returns c = parts_end (meanings_of c.args.names.now) c.args.tokens.now c.loop-token.token-index c.loop-token.out.items _ c.loop-token-test.false c.loop-token.invariant

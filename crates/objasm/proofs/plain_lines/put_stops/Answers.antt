use Rattle.std.proofs.Common.{List, map, ap, subst, sym, ◌∙◌}
use Rattle.objasm.specs.Names.{Told, meanings_of}
use Rattle.objasm.specs.Parts.{part_of}
use Rattle.objasm.specs.PlainLines.{behind, stop_text}
use Rattle.objasm.specs.declared.token.Token.{Token}
use Rattle.objasm.proofs.PlainLaws.{stops_end, stops_go, stops_stop}
use Rattle.objasm.proofs.plain_lines.put_stops.Goals as goal

pub returns-in-Err-clause-fault : goal.returns-in-Err-clause-fault
returns-in-Err-clause-fault c =
    let told = subst (λ (ts : List Token). Told c.in-Err.fault (stop_text (meanings_of c.args.names.now) c.args.kind (map part_of ts))) c.from.ensures c.in-Err.ensures.fault in
    stops_stop (meanings_of c.args.names.now) c.args.kind c.args.tokens.now c.loop-index.index c.loop-index.out.items c.args.out.now.items c.in-Err.fault _ c.loop-index-test.true told c.loop-index.invariant

pub loop-index-preserved : goal.loop-index-preserved
loop-index-preserved c =
    let put = sym (ap (λ (ts : List Token). behind c.loop-index.out.items (stop_text (meanings_of c.args.names.now) c.args.kind (map part_of ts))) c.from.ensures) ∙ c.in_default.ensures.ok in
    stops_go (meanings_of c.args.names.now) c.args.kind c.args.tokens.now c.loop-index.index c.loop-index.out.items c.put_stop.new.out.items _ c.loop-index-test.true put c.loop-index.invariant

pub returns-clause-ok : goal.returns-clause-ok
returns-clause-ok c = stops_end (meanings_of c.args.names.now) c.args.kind c.args.tokens.now c.loop-index.index c.loop-index.out.items _ c.loop-index-test.false c.loop-index.invariant

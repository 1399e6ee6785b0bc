use Rattle.std.proofs.Common.{List, map, ap, ◌∙◌, inr, sym}
use Rattle.objasm.specs.Names.{meanings_of}
use Rattle.objasm.specs.Parts.{part_of}
use Rattle.objasm.specs.Symbols.{reading_step}
use Rattle.objasm.specs.declared.token.Token.{Token}
use Rattle.objasm.proofs.SymbolLaws.{all_found, not_all_found, symbols_end, symbols_go, symbols_stop}
use Rattle.objasm.proofs.symbols.symbols_in.Goals as goal

pub returns-in-Err-clause-fault : goal.returns-in-Err-clause-fault
returns-in-Err-clause-fault c =
    let m = meanings_of c.args.names.now in
    let step = sym (ap (λ (ts : List Token). reading_step m c.loop-index.reading (map part_of ts)) c.from.ensures) ∙ sym c.reading_step.ensures ∙ c.in-Err.is in
    inr (symbols_stop m c.loop-index.reading c.loop-index.found.items c.in-Err.fault c.args.tokens.now c.loop-index.index _ c.loop-index-test.true step c.loop-index.invariant)

pub loop-index-preserved : goal.loop-index-preserved
loop-index-preserved c =
    let m = meanings_of c.args.names.now in
    let step = sym (ap (λ (ts : List Token). reading_step m c.loop-index.reading (map part_of ts)) c.from.ensures) ∙ sym c.reading_step.ensures ∙ c.in-Ok.is in
    symbols_go m c.loop-index.reading c.in-Ok.next c.loop-index.found.items c.push_some.new.found.items c.in-Ok.symbol c.args.tokens.now c.loop-index.index _ c.loop-index-test.true step c.in_ok-push_some-in-Ok.ensures c.loop-index.invariant

pub returns-in-Ready-clause-ok : goal.returns-in-Ready-clause-ok
returns-in-Ready-clause-ok c =
    symbols_end (meanings_of c.args.names.now) c.loop-index.reading c.loop-index.found.items c.args.tokens.now c.loop-index.index _ c.loop-index-test.false c.loop-index.invariant
    ∙ all_found c.loop-index.found.items c.loop-index.reading c.in-Ready.is

pub returns-in_default : goal.returns-in_default
returns-in_default c =
    record {
      ok = tt;
      fault = inr (
          symbols_end (meanings_of c.args.names.now) c.loop-index.reading c.loop-index.found.items c.args.tokens.now c.loop-index.index _ c.loop-index-test.false c.loop-index.invariant
          ∙ not_all_found c.loop-index.found.items c.loop-index.reading c.in_default.not-Ready
          );
    }

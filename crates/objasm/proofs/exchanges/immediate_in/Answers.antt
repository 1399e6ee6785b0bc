use Rattle.std.proofs.Common.{List, map, ap, sym, ◌∙◌}
use Rattle.objasm.specs.Exchanges.{immediate_at}
use Rattle.objasm.specs.Parts.{part_of}
use Rattle.objasm.specs.declared.token.Token.{Token}
use Rattle.objasm.proofs.ExchangeLaws.{immediate_found, immediate_later, immediate_none}
use Rattle.objasm.proofs.exchanges.immediate_in.Goals as goal

pub returns-in-Some : goal.returns-in-Some
returns-in-Some c =
    let found = sym (ap (λ (ts : List Token). immediate_at (map part_of ts)) c.from.ensures) ∙ sym c.in-Some.ensures in
    immediate_found c.args.tokens.now c.loop-index.index (map part_of c.in-Some.field.now) _ c.loop-index-test.true found c.loop-index.invariant

pub loop-index-preserved : goal.loop-index-preserved
loop-index-preserved c =
    let none = sym (ap (λ (ts : List Token). immediate_at (map part_of ts)) c.from.ensures) ∙ sym c.in_default.ensures in
    immediate_later c.args.tokens.now c.loop-index.index _ c.loop-index-test.true none c.loop-index.invariant

pub returns : goal.returns
returns c = immediate_none c.args.tokens.now c.loop-index.index _ c.loop-index-test.false c.loop-index.invariant

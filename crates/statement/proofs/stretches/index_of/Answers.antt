use Rattle.std.proofs.Common.{◌≡◌, Some, arith, get_or, length, refl, subst, sym, take}
use Rattle.std.specs.Prelude.{AllPairs}
use Rattle.std.proofs.lemmas.List.{length-take-le}
use Rattle.arm2_decode.specs.Names.{register_number}
use Rattle.arm2_decode.specs.declared.names.Register.TheVariants.{R0}
use Rattle.bus_ticks.specs.declared.profile.Class.TheVariants.{Ram}
use Rattle.statement.specs.Stated.{ShareNoWord}
use Rattle.statement.specs.Stretches.{AreOf, number_for}
use Rattle.statement.specs.declared.stated.BaseRule.{BaseRule}
use Rattle.statement.proofs.MeetLemmas.{apart_is}
use Rattle.statement.proofs.RepeatLemmas.{take_next}
use Rattle.statement.proofs.StretchLemmas.{found_met, index_full, index_more, IsPut, none_found, put, take_past}
use Rattle.statement.proofs.stretches.index_of.Goals as goal

abbrev none : BaseRule
none = record { register = R0; first = 0; last = 0; class = Ram }

pub returns-then-is_some : goal.returns-then-is_some
returns-then-is_some c =
    let rules = c.args.rules.now in
    let i = c.loop-number.number in
    let r = get_or rules i none in
    let met = found_met c.met.result _ _ c.met.ensures (c.is_some.ensures) (c.if-is_some.true) in
    index_full c.loop-number.index r (c.requires i none c.loop-number-test.true).ordered rules i none met.0 c.loop-number-test.true refl c.loop-number.invariant.held met.1

pub loop-number-preserved : goal.loop-number-preserved
loop-number-preserved c =
    let rules = c.args.rules.now in
    let i = c.loop-number.number in
    let r = get_or rules i none in
    let low = c.loop-number-test.true in
    let shorter : length (take i rules) ≡ i = length-take-le i rules (omega arith) in
    let at_base = subst (λ b. IsPut c.loop-number.index c.insert.new.self b r.last (Some (r.first, i))) c.number.ensures.number (put c.loop-number.index c.insert.new.self c.number.result r.last (Some (r.first, i)) c.in_ok-insert.ensures.updates) in
    let is_put = subst (λ k. IsPut c.loop-number.index c.insert.new.self (register_number r.register) r.last (Some (r.first, k))) (sym shorter) at_base in
    let more = index_more c.loop-number.index r (c.requires i none c.loop-number-test.true).ordered (take i rules) c.insert.new.self (none_found c.met.result _ _ c.met.ensures c.is_some.ensures c.if-is_some.false) is_put c.loop-number.invariant.held c.loop-number.invariant.apart in
    let next = take_next rules i none c.loop-number-test.true in
    record {
      held = subst (λ ys. AreOf c.insert.new.self (number_for ys)) next more.0;
      apart = subst (AllPairs ShareNoWord) next more.1;
    }

pub returns : goal.returns
returns c =
    let rules = c.args.rules.now in
    let all = take_past rules c.loop-number.number c.loop-number-test.false in (
      (apart_is rules).1 (subst (AllPairs ShareNoWord) all c.loop-number.invariant.apart),
      subst (λ ys. AreOf c.loop-number.index (number_for ys)) all c.loop-number.invariant.held,
    )

use Rattle.std.proofs.Common.{Option, ℕ, subst, sym}
use Rattle.std.specs.BTreeMap.{get}
use Rattle.std.specs.Ordering.{nat_cmp}
use Rattle.responses.specs.Response.{IsWorstArrival}
use Rattle.explain_reports.proofs.FirstLemmas.{known_at, never_at, none_more, start_at}
use Rattle.explain_reports.proofs.first_starts.put_first.Goals as goal

pub returns-in_default-clause-added : goal.returns-in_default-clause-added
returns-in_default-clause-added c = λ places before.
    let h = c.args.handler.now in
    none_more h.graph h.statement.loops places c.args.place.now (get nat_cmp c.args.first.now) (c.in_default.is) before

pub returns-then-contains_key-clause-added : goal.returns-then-contains_key-clause-added
returns-then-contains_key-clause-added c = λ places before.
    let h = c.args.handler.now in
    known_at h.graph h.statement.loops places _ _ c.args.place.now c.in-At.is (get nat_cmp c.args.first.now) (sym c.if-contains_key.ensures) before

pub returns-in_default-2-clause-added : goal.returns-in_default-2-clause-added
returns-in_default-2-clause-added c = λ places before.
    let h = c.args.handler.now in
    never_at h.graph h.statement.loops places _ _ c.args.place.now c.in-At.is (get nat_cmp c.args.first.now) (sym c.if-contains_key.ensures)
    (subst (λ (o : Option ℕ). IsWorstArrival h.graph h.statement.loops c.in-At.address o) c.in_default-2.is c.in_ok-ticks.ensures.arrival) before

pub returns-clause-added : goal.returns-clause-added
returns-clause-added c = λ places before.
    let h = c.args.handler.now in
    start_at h.graph h.statement.loops places _ _ c.args.place.now c.in-At.is (get nat_cmp c.args.first.now) (get nat_cmp c.put_ticks.new.first) c.in-Some.ticks
    (subst (λ (o : Option ℕ). IsWorstArrival h.graph h.statement.loops c.in-At.address o) c.in-Some.is c.in_ok-ticks.ensures.arrival) c.in_ok-put_ticks.ensures before

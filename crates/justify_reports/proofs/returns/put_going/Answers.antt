use Rattle.std.proofs.Common.{◌≡◌, ◌∙◌, ap, sym}
use Rattle.std.proofs.lemmas.Bool.{false≢true}
use Rattle.std.proofs.lemmas.Result.{on_ok_weaker}
use Rattle.std.specs.BTreeMap.{get}
use Rattle.std.specs.Ordering.{nat_cmp}
use Rattle.statement.specs.Stated.{target_of}
use Rattle.justify_reports.specs.Returns.{going_of}
use Rattle.justify_reports.proofs.ReturnLemmas.{none_at_exit, none_without, passed, put}
use Rattle.justify_reports.proofs.returns.put_going.Goals as goal

pub returns-in_default : goal.returns-in_default
returns-in_default c = λ found.
    let h = c.args.handler.now in
    let goes = c.args.destinations.now in
    let old = get nat_cmp c.args.found.now in
    passed h.image.now h.statement h.graph h.tree goes c.args.number old
    (none_at_exit h.image.now h.statement h.graph h.tree goes c.args.number old (sym c.place_in.ensures ∙ c.in_default.is)) found

pub returns-then-not-has_return : goal.returns-then-not-has_return
returns-then-not-has_return c = λ found.
    let h = c.args.handler.now in
    let goes = c.args.destinations.now in
    let old = get nat_cmp c.args.found.now in
    passed h.image.now h.statement h.graph h.tree goes c.args.number old
    (none_without h.image.now h.statement h.graph h.tree goes c.args.number old c.in-At.calls c.in-At.address (sym c.place_in.ensures ∙ c.in-At.is)
    (λ has. false≢true (sym c.if-not-has_return.true ∙ c.has_return.ensures.1 has)))
    found

pub returns : goal.returns
returns c = λ found.
    let h = c.args.handler.now in
    let goes = c.args.destinations.now in
    let at = c.in-At.address in
    let calls = c.in-At.calls in
    let going =
    c.going_of-going.ensures
    ∙ ap (λ t. going_of h.image.now c.leave-leave.result t calls c.destination_at-destination.result) c.target_at-target.ensures.value
    ∙ ap (λ class. going_of h.image.now class (target_of h.statement at) calls c.destination_at-destination.result) c.leave-leave.ensures
    ∙ ap (going_of h.image.now h.statement.leave (target_of h.statement at) calls) c.destination_at-destination.ensures in
    on_ok_weaker c.put_graver.result
    (λ puts. put h.image.now h.statement h.graph h.tree goes c.args.number (get nat_cmp c.args.found.now) calls at (sym c.place_in.ensures ∙ c.in-At.is)
    (c.has_return.ensures.0 c.if-not-has_return.false) c.going_of-going.result going (get nat_cmp c.put_graver.new.found) puts found)
    c.put_graver.ensures

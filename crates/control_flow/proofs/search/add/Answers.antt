use Rattle.std.proofs.Common.{rules, inl, inr, refl, sym, ◌∙◌, arith}
use Rattle.control_flow.proofs.FoundLemmas.{crowd, found_more, there_before}
use Rattle.control_flow.proofs.search.add.Goals as goal

pub returns-then-len-gt-MOST_PLACES-clause-fault : goal.returns-then-len-gt-MOST_PLACES-clause-fault
returns-then-len-gt-MOST_PLACES-clause-fault c =
    inr (refl, crowd c.args.seen.now c.insert.new.self c.args.order.now.items c.args.place.now c.requires c.in_ok-is_new.ensures.updates c.len.ensures.ordered (omega (arith, c.len.ensures.len)) c.in_default.not-Exit)

pub returns-clause-found : goal.returns-clause-found
returns-clause-found c =
    rw c.in_ok-push.ensures.items
    (found_more c.args.seen.now c.insert.new.self c.args.order.now.items c.args.place.now c.in_ok-is_new.is_new c.requires c.in_ok-is_new.ensures.updates c.in_ok-is_new.ensures.len (search rules) (omega (arith, c.len.ensures.len)) c.in_default.not-Exit)

pub returns-then-not-is_new-clause-adds : goal.returns-then-not-is_new-clause-adds
returns-then-not-is_new-clause-adds c =
    inl (refl, inr ((c.requires.same c.args.place.now).0 (there_before _ (sym c.in_ok-is_new.ensures.added ∙ c.if-not-is_new.true))))

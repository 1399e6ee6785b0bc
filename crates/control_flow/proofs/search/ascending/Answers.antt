use Rattle.std.proofs.Common.{◌++◌, [], ◌∷◌, ap, sym, refl, ◌∙◌, append-nil, append_assoc}
use Rattle.control_flow.specs.Search.{ascending}
use Rattle.control_flow.proofs.Ascending.{sorted_ascending, ascending_push}
use Rattle.control_flow.proofs.search.ascending.Goals as goal

pub loop-member-init : goal.loop-member-init
loop-member-init g c = rw (c.in_ok-members.ensures.items, c.into_iter-member-iterator.ensures.into_iter_gives, c.rev-member-items.ensures.source, c.iter.ensures.rest) refl

pub loop-member-preserved : goal.loop-member-preserved
loop-member-preserved g c =
    let members = c.loop-member.members.items in
    let left = c.next.new.self.iter in
    let k = c.in-Some.member.now in
    rw c.in_ok-push.ensures.items
    (append_assoc members (k.0 ∷ []) (ascending left)
    ∙ ap (λ xs. members ++ xs) (sym (ascending_push left k))
    ∙ ap (λ ks. members ++ ascending ks) (sym c.in-Some.ensures.steps)
    ∙ c.loop-member.invariant)

pub returns : goal.returns
returns g c =
    let is = sym (append-nil c.loop-member.members.items) ∙ ap (λ ks. c.loop-member.members.items ++ ascending ks) (sym c.in-None.ensures.steps.0) ∙ c.loop-member.invariant in
    record { members = is; ordered = rw is (sorted_ascending g.K.Ord.cmp c.args.set.now.keys c.iter.ensures.ordered) }

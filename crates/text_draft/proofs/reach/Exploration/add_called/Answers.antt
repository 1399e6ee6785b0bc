use Rattle.std.proofs.Common.{subst}
use Rattle.std.specs.Prelude.{Contains}
use Rattle.std.proofs.lemmas.Result.{on_ok_weaker}
use Rattle.text_draft.specs.Exploring.{HasRoom}
use Rattle.text_draft.specs.Reach.{CallsTo}
use Rattle.text_draft.proofs.Explored.{grows_gained}
use Rattle.word_shapes.specs.Growing.{Grows}
use Rattle.text_draft.proofs.reach.Exploration.add_called.Goals as goal

pub returns-clause-grows : goal.returns-clause-grows
returns-clause-grows c =
    on_ok_weaker c.add_roots.result
    (λ (grows : Grows HasRoom (Contains c.deref.result.now) c.args.self.now.order.items c.add_roots.new.self.order.items).
    grows_gained (CallsTo c.args.image.now c.args.begun.now c.args.at) c.clear.new.self.items c.push_calls.new.out.items
    c.args.self.now.order.items c.add_roots.new.self.order.items c.clear.ensures.items c.in_ok-push_calls.ensures
    (subst (λ t. Grows HasRoom (Contains t) c.args.self.now.order.items c.add_roots.new.self.order.items) c.deref.ensures.value grows))
    c.add_roots.ensures.grows

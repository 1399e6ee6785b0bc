use Rattle.std.proofs.Common.{arith}
use Rattle.std.proofs.lemmas.Result.{on_ok_weaker}
use Rattle.text_draft.specs.Reach.{CallsTo, LeadsTo, StepsTo}
use Rattle.word_shapes.proofs.GrowLaws.{grows_on}
use Rattle.text_draft.proofs.reach.Exploration.look_at.Goals as goal

pub returns-clause-grows : goal.returns-clause-grows
returns-clause-grows c =
    let words = c.args.image.now in
    let begun = c.args.begun.now in
    on_ok_weaker c.add_called.result
    (grows_on (StepsTo words begun c.args.at) (CallsTo words begun c.args.at) (LeadsTo words begun c.args.at)
    c.args.self.now.order.items c.add_steps.new.self.order.items c.add_called.new.self.order.items
    (λ a. ((λ leads. leads), (λ leads. leads)))
    (λ longer room. omega (arith, longer, room))
    c.in_ok-add_steps.ensures.grows)
    c.add_called.ensures.grows

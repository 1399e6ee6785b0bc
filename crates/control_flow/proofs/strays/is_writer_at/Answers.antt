use Rattle.std.proofs.Common.{◌≡◌, true, false, sym, ap, ◌∙◌}
use Rattle.control_flow.specs.Edges.{HasAction}
use Rattle.control_flow.specs.Kinds.{is_writer}
use Rattle.control_flow.proofs.EdgeLemmas.{one_action_at}
use Rattle.control_flow.proofs.strays.is_writer_at.Goals as goal

pub returns-in-Some-clause-yes : goal.returns-in-Some-clause-yes
returns-in-Some-clause-yes c =
    λ t. (c.action_of.result, record { word = c.in-Some.word; word_is = sym c.in-Some.ensures.value; is = c.action_of.ensures.value }, sym c.is_writer.ensures ∙ t)

pub returns-in-Some-clause-no : goal.returns-in-Some-clause-no
returns-in-Some-clause-no c =
    λ f h.
    let here : HasAction c.args.image.now c.args.address c.action_of.result = record { word = c.in-Some.word; word_is = sym c.in-Some.ensures.value; is = c.action_of.ensures.value } in
    let same = one_action_at c.args.image.now c.args.address h.0 c.action_of.result h.1 here in
    let both : true ≡ false = sym h.2 ∙ ap (λ a. is_writer a.kind) same ∙ sym c.is_writer.ensures ∙ f in
    cc

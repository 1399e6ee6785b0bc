use Rattle.std.proofs.Common.{rules, sym}
use Rattle.flow_graph.proofs.TightSetUp.{some_flags, word_free}
use Rattle.flow_graph.proofs.tight.set_up_for.Goals as goal

pub returns-in_err-flags-clause-none : goal.returns-in_err-flags-clause-none
returns-in_err-flags-clause-none c none free =
    let f =
    some_flags c.args.inputs.now.image.now c.args.inputs.now.statement.now c.args.inputs.now.profile.now c.args.edge.now _ c.in-At.address c.in_ok-word.word c.action_of-action.result c.requires.is_edge c.in-At.is (sym c.in_ok-word.ensures.value) c.action_of-action.ensures.value in
    absurd (c.in_err-flags.ensures.none (search rules) f.0 f.1)

pub setting_at-requires-clause-free : goal.setting_at-requires-clause-free
setting_at-requires-clause-free c =
    word_free c.args.inputs.now.image.now c.args.edge.now _ c.in-At.address c.in_ok-word.word (search rules) c.in-At.is (sym c.in_ok-word.ensures.value)

pub returns-clause-is_set_up : goal.returns-clause-is_set_up
returns-clause-is_set_up c = record {
  calls = _;
  word = c.in_ok-word.word;
  action = c.action_of-action.result;
  target = c.in_ok-target.field-0;
  is_edge = c.requires.is_edge;
  from = c.in-At.is;
  has = sym c.in_ok-word.ensures.value;
  is = c.action_of-action.ensures.value;
  label = c.in_ok-flags.ensures.flags;
  leads = c.in_ok-target.ensures.leads;
  setting = rw (← c.class_at.ensures, ← c.cycles_at.ensures.value) c.setting_at.ensures;
}

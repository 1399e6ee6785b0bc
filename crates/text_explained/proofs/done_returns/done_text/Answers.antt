use Rattle.std.proofs.Common.{append_assoc, arith}
use Rattle.text_explained.proofs.done_returns.done_text.Goals as goal

pub returns : goal.returns
returns c = record {
  returns = c.in_ok-text.text.items;
  flags = c.in_ok-flags.flags.items;
  called = c.in_ok-called.called.items;
  addressed = c.in_ok-addressed.addressed.items;
  are_returns = c.in_ok-text.ensures;
  are_flags = c.in_ok-flags.ensures;
  are_called = c.in_ok-called.ensures;
  are_addressed = c.in_ok-addressed.ensures;
  text_is = grind (arith, append_assoc, c.in_ok-put.ensures, c.in_ok-put-2.ensures, c.in_ok-put-3.ensures);
}

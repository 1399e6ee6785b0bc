use Rattle.std.proofs.Common.{◌≡◌, ◌+◌, drop, false}
use Rattle.text_refusals.specs.Outline.{has_escapes, quoted_len}
use Rattle.text_refusals.proofs.outline_tokens.quoted_len.Given as goal

abbrev pub invariant-loop-len : goal.invariant-loop-len
invariant-loop-len l = record {
  escapes : l.escapes ≡ has_escapes l.quotes;
  value : quoted_len l.quotes l.is_escaped (drop l.len l.text) + l.len ≡ quoted_len l.quotes false l.text;
}

use Rattle.std.proofs.Common.{◌≤◌, inl, length, sym, arith}
use Rattle.std.proofs.lemmas.Bool.{false≢true}
use Rattle.std.proofs.lemmas.Result.{IfOk-weaker}
use Rattle.text_refusals.specs.Refused.{IsTomlText}
use Rattle.text_refusals.proofs.no_toml.no_toml_text.Goals as goal

pub returns-in-Some : goal.returns-in-Some
returns-in-Some c =
    let at = c.in-Some.span.start in
    let no_toml = c.in-Err.ensures.refused (λ memory. false≢true (sym (c.in-Some.ensures.none.1 memory))) in
    let inside : at ≤ length c.args.text.now = omega (arith, c.in-Some.ensures.range.0, c.in-Err.ensures.span.0, c.in-Err.ensures.span.1) in
    IfOk-weaker c.toml_row_at.result _ (λ out. IsTomlText c.args.text.now out.items) (λ out is. inl (record { no_toml = no_toml; at = at; inside = inside; out_is = is })) c.toml_row_at.ensures

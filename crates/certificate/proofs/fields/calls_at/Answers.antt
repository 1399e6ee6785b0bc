use Rattle.std.proofs.Common.{◌≡◌, ◌∙◌, ◌<◌, ◌^◌, ◌∷◌, ◌++◌, [], ℕ, List, All, map, sym, ap, subst}
use Rattle.std.proofs.lemmas.List.Elements.{All-push}
use Rattle.asm_text.specs.Hex.{hex}
use Rattle.certificate.proofs.CallLaws.{Ahead, calls_result, last_word, marked_end, next_fits, next_word}
use Rattle.certificate.proofs.FieldLaws.{from_none, hex-slash}
use Rattle.certificate.proofs.NumberLaws.{hex_is_one}
use Rattle.certificate.proofs.JoinLaws.{marked}
use Rattle.certificate.proofs.fields.calls_at.Goals as goal

pub returns-in_err-hex_at : goal.returns-in_err-hex_at
returns-in_err-hex_at c = from_none _ _ _ c.from_residual.ensures (λ calls fits e.
    let ahead = c.loop-first.invariant.ahead calls fits e in
    let fit = next_fits calls c.loop-first.calls c.loop-first.rest.now ahead fits in
    let next = next_word 47 hex calls c.loop-first.calls c.loop-first.rest.now c.in-Some.first.now c.in-Some.after.now ahead (hex-slash ahead.first fit.0) c.in-Some.ensures.1 c.in-Some.ensures.0 in
    c.in_err-hex_at.ensures ahead.first fit.0 next.0)

pub loop-first-preserved : goal.loop-first-preserved
loop-first-preserved c =
    let longer = c.in_ok-calls.ensures.longer in
    let read = c.loop-first.calls in
    let a = c.in_ok-hex_at.field-0 in
    record {
      small = subst (All (λ x. x < 2 ^ 26)) (sym longer) (All-push (λ x. x < 2 ^ 26) read a c.loop-first.invariant.small c.in_ok-hex_at.ensures.0);
      whole =
          c.loop-first.invariant.whole ∙ ap (λ (x : List ℕ). marked 47 (map hex read) ++ x) (c.in-Some.ensures.0 ∙ ap (λ (x : List ℕ). x ++ 47 ∷ c.in-Some.after.now) c.in_ok-hex_at.ensures.1)
          ∙ marked_end 47 hex read a c.in-Some.after.now ∙ ap (λ (x : List ℕ). marked 47 (map hex x) ++ c.in-Some.after.now) (sym longer);
      ahead = λ calls fits e.
          let ahead = c.loop-first.invariant.ahead calls fits e in
          let fit = next_fits calls read c.loop-first.rest.now ahead fits in
          let next = next_word 47 hex calls read c.loop-first.rest.now c.in-Some.first.now c.in-Some.after.now ahead (hex-slash ahead.first fit.0) c.in-Some.ensures.1 c.in-Some.ensures.0 in
          let same : ahead.first ≡ a = hex_is_one ahead.first a fit.0 c.in_ok-hex_at.ensures.0 (sym next.0 ∙ c.in_ok-hex_at.ensures.1) in
          subst (λ (x : List ℕ). Ahead 47 hex calls x c.in-Some.after.now) (ap (λ (x : ℕ). read ++ x ∷ []) same ∙ sym longer) next.1;
    }

pub returns-in_err-hex_at-2 : goal.returns-in_err-hex_at-2
returns-in_err-hex_at-2 c = from_none _ _ _ c.from_residual-in_err-hex_at-2.ensures (λ calls fits e.
    let ahead = c.loop-first.invariant.ahead calls fits e in
    let fit = next_fits calls c.loop-first.calls c.loop-first.rest.now ahead fits in
    let last = last_word 47 hex calls c.loop-first.calls c.loop-first.rest.now ahead c.in_default.ensures in
    c.in_err-hex_at-2.ensures ahead.first fit.0 last.0)

pub returns : goal.returns
returns c =
    let inv = c.loop-first.invariant in
    calls_result c.with-2.result c.args.word.now c.loop-first.calls c.loop-first.rest.now c.in_ok-hex_at-2.field-0 c.with-2.ensures.longer c.with-2.ensures.full c.with-2.ensures.few
    inv.small c.in_ok-hex_at-2.ensures.0 inv.whole c.in_ok-hex_at-2.ensures.1 inv.ahead

use Rattle.std.proofs.Common.{◌<◌, ◌^◌, ℕ}
use Rattle.std.specs.Fmt.{decimal}
use Rattle.certificate.proofs.FieldLaws.{decimal-blank, from_none, no_word, other_word}
use Rattle.certificate.proofs.fields.number_first.Goals as goal

pub returns-in_err-word : goal.returns-in_err-word
returns-in_err-word c =
    from_none _ _ _ c.from_residual.ensures
    (no_word (λ (n : ℕ). n < 2 ^ 63) decimal c.args.words.now c.in_err-word.ensures)

pub returns-in_err-decimal_at : goal.returns-in_err-decimal_at
returns-in_err-decimal_at c =
    from_none _ _ _ c.from_residual-in_err-decimal_at.ensures
    (other_word (λ (n : ℕ). n < 2 ^ 63) decimal decimal-blank c.args.words.now c.in_ok-word.word.now c.in_ok-word.rest.now
    c.in_ok-word.ensures.1 c.in_ok-word.ensures.0 c.in_err-decimal_at.ensures)

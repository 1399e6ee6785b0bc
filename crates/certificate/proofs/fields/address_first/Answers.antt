use Rattle.std.proofs.Common.{◌<◌, ◌^◌, ℕ}
use Rattle.asm_text.specs.Hex.{hex}
use Rattle.certificate.proofs.FieldLaws.{hex-blank, from_none, no_word, other_word}
use Rattle.certificate.proofs.fields.address_first.Goals as goal

pub returns-in_err-word : goal.returns-in_err-word
returns-in_err-word c =
    from_none _ _ _ c.from_residual.ensures
    (no_word (λ (n : ℕ). n < 2 ^ 26) hex c.args.words.now c.in_err-word.ensures)

pub returns-in_err-hex_at : goal.returns-in_err-hex_at
returns-in_err-hex_at c =
    from_none _ _ _ c.from_residual-in_err-hex_at.ensures
    (other_word (λ (n : ℕ). n < 2 ^ 26) hex hex-blank c.args.words.now c.in_ok-word.word.now c.in_ok-word.rest.now
    c.in_ok-word.ensures.1 c.in_ok-word.ensures.0 c.in_err-hex_at.ensures)

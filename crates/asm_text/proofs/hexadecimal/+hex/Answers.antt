use Rattle.std.proofs.Common.{◌/◌, ◌∙◌, ◌<◌, ◌^◌, ℕ, List, [], ◌∷◌, ◌++◌, ap, sym, length, arith, rules}
use Rattle.asm_text.specs.Hex.{hex}
use Rattle.asm_text.proofs.HexLaws.{hex_length, hex_one, hex_step}
use Rattle.asm_text.proofs.hexadecimal.+hex.Goals as goal

pub returns-then-number-lt16 : goal.returns-then-number-lt16
returns-then-number-lt16 t c =
    c.push.ensures.items ∙ ap (λ (xs : List ℕ). xs ++ c.hex_digit.result ∷ []) c.new-text.ensures
    ∙ ap (λ (d : ℕ). d ∷ []) c.hex_digit.ensures ∙ sym (hex_one c.args.number c.if-number-lt16.true)

pub push-requires-2 : goal.push-requires-2
push-requires-2 t c =
    let below : c.args.number < 2 ^ 64 = search rules in
    let short = hex_length 14 (c.args.number / 16) (omega arith) (omega arith) in
    (omega arith, omega (arith, short, ap length c.hex-text.ensures))

pub returns : goal.returns
returns t c =
    let below : c.args.number < 2 ^ 64 = search rules in
    c.push-2.ensures.items ∙ ap (λ (xs : List ℕ). xs ++ c.hex_digit-2.result ∷ []) c.hex-text.ensures
    ∙ ap (λ (d : ℕ). hex (c.args.number / 16) ++ d ∷ []) c.hex_digit-2.ensures
    ∙ sym (hex_step c.args.number c.if-number-lt16.false below)

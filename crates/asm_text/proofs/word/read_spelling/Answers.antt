use Rattle.std.proofs.Common.{◌∙◌, sym, ap, true, false}
use Rattle.asm_text.proofs.WordLaws.{lower_spells, upper_spells}
use Rattle.asm_text.specs.Words.{word_of}
use Rattle.asm_text.proofs.word.read_spelling.Goals as goal

pub returns-then-is_wholly_upper : goal.returns-then-is_wholly_upper
returns-then-is_wholly_upper c = c.word_of.ensures ∙ upper_spells c.args.text.now (sym c.is_wholly_upper.ensures ∙ c.if-is_wholly_upper.true)

pub returns-then-not-is_wholly_lower : goal.returns-then-not-is_wholly_lower
returns-then-not-is_wholly_lower c =
    sym (lower_spells c.args.text.now false (sym c.is_wholly_lower.ensures ∙ c.if-not-is_wholly_lower.true) (sym c.is_wholly_upper.ensures ∙ c.if-is_wholly_upper.false))

pub returns : goal.returns
returns c =
    c.word_of-2.ensures ∙ (ap word_of (c.deref.ensures.value ∙ c.in_ok-upper.ensures.ok)
    ∙ sym (lower_spells c.args.text.now true (sym c.is_wholly_lower.ensures ∙ c.if-not-is_wholly_lower.false) (sym c.is_wholly_upper.ensures ∙ c.if-is_wholly_upper.false)))

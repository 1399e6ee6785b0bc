use Rattle.std.proofs.Common.{◌≡◌, ◌∙◌, ◌<◌, ℕ, List, true, sym, ap, subst, length, arith}
use Rattle.std.proofs.lemmas.Bool.Decides.{nat_tests}
use Rattle.debugger.specs.Words.{starts_word, words_of}
use Rattle.debugger.proofs.WordLaws.{starts_after, words_empty, words_skip, words_take}
use Rattle.debugger.proofs.words.first_word.Goals as goal

pub returns-then-is_empty : goal.returns-then-is_empty
returns-then-is_empty c =
    let text = c.after_blanks-text.result.now in
    let none : length text < 1 = grind (arith, nat_tests) in
    words_skip c.args.line.now ∙ ap words_of (sym c.after_blanks-text.ensures.rest) ∙ words_empty text none

pub returns : goal.returns
returns c =
    let line = c.args.line.now in
    let text = c.after_blanks-text.result.now in
    let some : 0 < length text = grind (arith, nat_tests) in
    let same = c.after_blanks-text.ensures.rest in
    let starts : starts_word text ≡ true =
    ap starts_word same ∙ starts_after line (subst (λ (t : List ℕ). 0 < length t) same some) in
    words_skip line ∙ ap words_of (sym c.after_blanks-text.ensures.rest)
    ∙ rw (c.split_at.ensures.front, c.split_at.ensures.back, c.word_len.ensures.len) (words_take text starts)

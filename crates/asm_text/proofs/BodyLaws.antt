-- A line's text up to its comment, found in one pass.
use Rattle.std.proofs.Common.{◌≡◌, ◌≢◌, ◌<◌, length, get_or, ◌+◌, ℕ, suc, Bool, true, false, ◌&&◌, List, [], ◌∷◌, take, drop, Ok, refl, sym, ap, ◌∙◌, arith}
use Rattle.std.specs.List.{list_all, prefix_len}
use Rattle.std.proofs.lemmas.Bool.{ne_eqb}
use Rattle.asm_text.specs.Pieces.{pieces}
use Rattle.asm_text.specs.Statements.{Parsed, body, body_len, is_comment_text, is_in_body, is_text, is_text_line, line_of, parsed}
use Rattle.asm_text.proofs.PieceLaws.{first_passes}
use Rattle.asm_text.proofs.SpelledLines.{body_said}

abbrev both : (ℕ → Bool) → (ℕ → Bool) → List ℕ → ℕ
both p q text = prefix_len (λ b. p b && q b) text

-- where bytes of both sorts end at one that is not of the second, those of the second end there
abbrev BothEnd : (ℕ → Bool) → (ℕ → Bool) → List ℕ → Type 0
BothEnd p q text = first_passes q (drop (both p q text) text) ≡ false → (prefix_len q text ≡ both p q text) × (list_all p (take (both p q text) text) ≡ true)

end_step : (p q : ℕ → Bool) (b : ℕ) (bs : List ℕ) (t u : Bool) → p b ≡ t → q b ≡ u → BothEnd p q bs → BothEnd p q (b ∷ bs)
end_step p q b bs true true e k more = λ h.
    let n : 1 + both p q bs ≡ suc (both p q bs) = omega arith in
    let rest = more (rw (e, k, n) at h) in
    rw (e, k, n) (ap (λ (m : ℕ). 1 + m) rest.0 ∙ n, rw e rest.1)
end_step p q b bs true false e k more = λ h. rw (e, k) (refl, refl)
end_step p q b bs false true e k more = λ h. let no : true ≡ false = rw (e, k) at h in absurd cc
end_step p q b bs false false e k more = λ h. rw (e, k) (refl, refl)

both_end : (p q : ℕ → Bool) (text : List ℕ) → BothEnd p q text
both_end p q [] = λ h. (refl, refl)
both_end p q (b ∷ bs) = end_step p q b bs (p b) (q b) refl refl (both_end p q bs)

-- and where they end at one of the second, that one is not of the first
abbrev BothStop : (ℕ → Bool) → (ℕ → Bool) → List ℕ → Type 0
BothStop p q text = first_passes q (drop (both p q text) text) ≡ true → list_all p (take (prefix_len q text) text) ≡ false

stop_step : (p q : ℕ → Bool) (b : ℕ) (bs : List ℕ) (t u : Bool) → p b ≡ t → q b ≡ u → BothStop p q bs → BothStop p q (b ∷ bs)
stop_step p q b bs true true e k more = λ h.
    let m : 1 + both p q bs ≡ suc (both p q bs) = omega arith in
    let n : 1 + prefix_len q bs ≡ suc (prefix_len q bs) = omega arith in
    let rest = more (rw (e, k, m) at h) in
    rw (k, n, e) rest
stop_step p q b bs false true e k more = λ h. let n : 1 + prefix_len q bs ≡ suc (prefix_len q bs) = omega arith in rw (k, n, e) refl
stop_step p q b bs true false e k more = λ h. let no : false ≡ true = rw (e, k, k) at h in absurd cc
stop_step p q b bs false false e k more = λ h. let no : false ≡ true = rw (e, k) at h in absurd cc

both_stop : (p q : ℕ → Bool) (text : List ℕ) → BothStop p q text
both_stop p q [] = λ h. absurd cc
both_stop p q (b ∷ bs) = stop_step p q b bs (p b) (q b) refl refl (both_stop p q bs)

abbrev pub in_text : List ℕ → ℕ
in_text line = prefix_len (λ b. is_text b && is_in_body b) line

text_line : (line : List ℕ) (n : ℕ) → n ≡ in_text line → first_passes is_in_body (drop n line) ≡ false → (is_text_line line ≡ list_all is_comment_text (drop n line)) × (take n line ≡ body line)
text_line line n is h =
    let ends = both_end is_text is_in_body line (rw is at h) in
    let len : body_len line ≡ n = ends.0 ∙ sym is in
    rw len (rw (ap (λ (m : ℕ). list_all is_text (take m line)) is ∙ ends.1) refl, refl)

no_text_line : (line : List ℕ) (n : ℕ) → n ≡ in_text line → first_passes is_in_body (drop n line) ≡ true → is_text_line line ≡ false
no_text_line line n is h = rw (both_stop is_text is_in_body line (rw is at h)) refl

-- what follows the text: nothing, a comment, or a byte that is neither
pub nothing_after : (line after : List ℕ) (n : ℕ) → n ≡ in_text line → after ≡ drop n line → length after < 1 → (is_text_line line ≡ true) × (take n line ≡ body line)
nothing_after line [] n is rest none = let t = text_line line n is (ap (first_passes is_in_body) (sym rest)) in (t.0 ∙ ap (list_all is_comment_text) (sym rest), t.1)
nothing_after line (b ∷ bs) n is rest none = absurd (omega arith)

pub comment_after : (line after : List ℕ) (n : ℕ) → n ≡ in_text line → after ≡ drop n line → get_or after 0 0 ≡ 59 → (is_text_line line ≡ list_all is_comment_text after) × (take n line ≡ body line)
comment_after line [] n is rest semicolon = absurd cc
comment_after line (b ∷ bs) n is rest semicolon =
    let stops : is_in_body b ≡ false = rw semicolon refl in
    let t = text_line line n is (ap (first_passes is_in_body) (sym rest) ∙ stops) in (t.0 ∙ ap (list_all is_comment_text) (sym rest), t.1)

pub other_after : (line after : List ℕ) (n : ℕ) → n ≡ in_text line → after ≡ drop n line → 0 < length after → get_or after 0 0 ≢ 59 → is_text_line line ≡ false
other_after line [] n is rest some other = absurd (omega arith)
other_after line (b ∷ bs) n is rest some other =
    let passes : is_in_body b ≡ true = rw (ne_eqb b 59 other) refl in
    no_text_line line n is (ap (first_passes is_in_body) (sym rest) ∙ passes)

-- what the pieces of its text say, a line says
pub line_said : (line plain : List ℕ) (p : Parsed) → is_text_line line ≡ true → plain ≡ body line → parsed (pieces plain) ≡ Ok p → line_of line ≡ Ok p
line_said line plain p text is e = rw text (body_said (body line) p (rw is at e))

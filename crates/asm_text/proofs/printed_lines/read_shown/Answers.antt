use Rattle.std.proofs.Common.{◌≡◌, ◌∙◌, ℕ, true, List, Option, Some, None, Ok, sym, ap, map, ◌∷◌, rules}
use Rattle.std.specs.Prelude.{IfSome}
use Rattle.asm_text.specs.Pieces.{Piece, piece_of, pieces, without_gap}
use Rattle.asm_text.specs.Shown.{is_shown_text, parsed_shown, shown_result}
use Rattle.asm_text.specs.Statements.{line_of, statement_of}
use Rattle.asm_text.specs.declared.printed_lines.Shown.{Shown}
use Rattle.asm_text.specs.declared.token.Token.{Token}
use Rattle.asm_text.proofs.ShownLaws.{line_shown, shown_from}
use Rattle.asm_text.proofs.printed_lines.read_shown.Goals as goal

abbrev said_by : List Piece → Option Shown
said_by ps = shown_result (statement_of (without_gap ps))

all_found : (r : Option Shown) (text : List ℕ) → is_shown_text text ≡ true → r ≡ said_by (pieces text) → IfSome r (λ s. line_of (32 ∷ text) ≡ Ok (parsed_shown s))
all_found None text h e = tt
all_found (Some s) text h e = line_shown text s h (sym e)

all_shown : (r : Option Shown) (text : List ℕ) → is_shown_text text ≡ true → IfSome r (λ s. is_shown_text text ≡ true)
all_shown None text h = tt
all_shown (Some s) text h = h

pub returns-clause-shown : goal.returns-clause-shown
returns-clause-shown c = all_shown c.blank_statement.result c.args.text.now (search rules)

pub returns-clause-found : goal.returns-clause-found
returns-clause-found c =
    let may : is_shown_text c.args.text.now ≡ true = search rules in
    all_found c.blank_statement.result c.args.text.now may
    (c.blank_statement.ensures ∙ ap (λ (ts : List Token). said_by (map piece_of ts)) c.as_slice.ensures.value ∙ ap said_by c.few_tokens-few.ensures)

pub returns-clause-only : goal.returns-clause-only
returns-clause-only c s h e =
    c.blank_statement.ensures ∙ ap (λ (ts : List Token). said_by (map piece_of ts)) c.as_slice.ensures.value ∙ ap said_by c.few_tokens-few.ensures ∙ shown_from c.args.text.now s h e

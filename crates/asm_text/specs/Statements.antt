-- Statements, by the pieces that spell them, and lines.
use Rattle.std.specs.Prelude.{ℕ, ◌==◌, ◌&&◌, ◌||◌, not, nat_le, nat_lt, Bool, true, false, List, [], ◌∷◌}
use Rattle.std.specs.Prelude.{Option, Some, None, Result, Ok, Err, option_map, option_and_then, if◌then◌else◌}
use Rattle.std.specs.Prelude.{length, take, drop}
use Rattle.std.specs.Char.{is_ascii_alphabetic}
use Rattle.std.specs.List.{cons_option, list_all, prefix_len}
use Rattle.arm2_decode.specs.declared.names.Cond.{Cond}
use Rattle.arm2_decode.specs.declared.names.Register.{Register}
use Rattle.asm_text.specs.Pieces.{Piece, Run, Comma, Sign, Gap, is_blank, is_name, pieces}
use Rattle.asm_text.specs.Numbers.{first_hex, number_by, first_number, read_number, with_rest}
use Rattle.asm_text.specs.Registers.{first_register_comma}
use Rattle.asm_text.specs.Words.{spelled_word_of}
use Rattle.asm_text.specs.Said.{Target, Number, Label, Said, Codes, Refers, Orgs, Lists}
use Rattle.asm_text.specs.Operands.{address_of, block_of, data_of, is_byte, is_user, product_of, all_read}
use Rattle.asm_text.specs.declared.token.Mark.TheVariants.{Ampersand, OpenBracket}
use Rattle.asm_text.specs.declared.names.Head.{Head}
use Rattle.asm_text.specs.declared.names.Head.TheVariants as head
use Rattle.asm_text.specs.declared.names.Suffix.{Suffix}
use Rattle.asm_text.specs.declared.word.Word.{Word}
use Rattle.asm_text.specs.declared.word.Word.TheVariants.{Plain, Branch, Org, Dcd}
use Rattle.asm_text.specs.declared.syntax.WordAction.{WordAction}
use Rattle.asm_text.specs.declared.syntax.WordAction.TheVariants as action
use Rattle.asm_text.specs.declared.syntax.Use.{Use}
use Rattle.asm_text.specs.declared.syntax.Use.TheVariants as use_of
use Rattle.asm_text.specs.declared.statement.Expects.{Expects}
use Rattle.asm_text.specs.declared.statement.Expects.TheVariants.{Start, Hex, After}
use Rattle.asm_text.specs.declared.statement.TextFault.{TextFault}
use Rattle.asm_text.specs.declared.statement.TextFault.TheVariants.{NotText, UnknownWord, BadOperand}

-- a letter or `_`, then letters, digits, `_`, at most 32
abbrev pub is_label : List ℕ → Bool
is_label [] = false
is_label (c ∷ cs) = (is_ascii_alphabetic c || c == 95) && (list_all is_name cs && nat_lt (length cs) 32)

-- ## Targets

abbrev pub target_by : Option ℕ → List ℕ → Option Target
target_by (Some n) d = Some (Number n)
target_by None d = if is_label d then Some (Label d) else None

-- a number or a label
abbrev pub run_target : List ℕ → Option Target
run_target d = target_by (read_number d) d

abbrev pub first_target : List Piece → Option (Target × List Piece)
first_target (Run d ∷ ps) = with_rest ps (run_target d)
first_target (Sign Ampersand ∷ ps) = option_map (λ f. (Number f.0, f.1)) (first_hex ps)
first_target _ = None

abbrev pub only_target : List Piece → Option Target
only_target ps = all_read (first_target ps)

abbrev pub only_number : List Piece → Option ℕ
only_number ps = all_read (first_number ps)

-- ## The operands of each word

abbrev pub refers : Cond → Use → List Piece → Option Said
refers c how ps = option_map (Refers (record { cond = c; how = how })) (only_target ps)

abbrev pub single_with : Cond → Bool → Suffix → Register → List Piece → Option Said
single_with c load s d (Sign OpenBracket ∷ ps) =
    option_map
    (λ a. Codes
    (record
    { cond = c; action = action.Single (record { load = load; byte = is_byte s; rd = d; address = a }) }))
    (address_of (is_user s) ps)
single_with c load s d ps = if is_user s then None else refers c (use_of.Transfer load (is_byte s) d) ps

-- Rd and an address in brackets or a target
abbrev pub single_said : Cond → Bool → Suffix → List Piece → Option Said
single_said c load s ps = option_and_then (λ f. single_with c load s f.0 f.1) (first_register_comma ps)

-- Rd and a target
abbrev pub adr_said : Cond → List Piece → Option Said
adr_said c ps = option_and_then (λ f. refers c (use_of.Adr f.0) f.1) (first_register_comma ps)

abbrev pub action_of : Head → Suffix → List Piece → Option WordAction
action_of (head.Data op) s ps = option_map action.Data (data_of op s ps)
action_of (head.Multiply a) s ps = option_map action.Multiply (product_of a s ps)
action_of (head.Block l) s ps = option_map action.Block (block_of l s ps)
action_of head.Swi s ps = option_map action.Swi (only_number ps)
action_of _ s ps = None

abbrev pub code_said : Head → Cond → Suffix → List Piece → Option Said
code_said h c s ps = option_map (λ a. Codes (record { cond = c; action = a })) (action_of h s ps)

abbrev pub plain_said : Head → Cond → Suffix → List Piece → Option Said
plain_said (head.Single load) c s ps = single_said c load s ps
plain_said head.Adr c s ps = adr_said c ps
plain_said h c s ps = code_said h c s ps

abbrev pub org_said : List Piece → Option Said
org_said ps = option_map Orgs (only_number ps)

-- what a piece adds to a list of values, and what comes next
abbrev pub value_step : Expects → Piece → Option (Option Target × Expects)
value_step Start (Run d) = option_map (λ v. (Some v, After)) (run_target d)
value_step Start (Sign Ampersand) = Some (None, Hex)
value_step Hex (Run d) = option_map (λ n. (Some (Number n), After)) (number_by 16 d)
value_step After Comma = Some (None, Start)
value_step _ _ = None

abbrev pub no_values : Expects → Option (List Target)
no_values After = Some []
no_values _ = None

-- values with commas between them
abbrev pub values_in : Expects → List Piece → Option (List Target)
values_in expects [] = no_values expects
values_in expects (p ∷ ps) =
    option_and_then (λ f. option_map (cons_option f.0) (values_in f.1 ps)) (value_step expects p)

abbrev pub dcd_said : List Piece → Option Said
dcd_said ps = option_map Lists (values_in Start ps)

abbrev pub operands_of : Word → List Piece → Option Said
operands_of (Plain h c s) ps = plain_said h c s ps
operands_of (Branch link c) ps = refers c (use_of.Branch link) ps
operands_of Org ps = org_said ps
operands_of Dcd ps = dcd_said ps

-- ## Statements

abbrev pub or_bad : Option Said → Result Said TextFault
or_bad None = Err BadOperand
or_bad (Some s) = Ok s

-- a blank and operands after a word
abbrev pub after_word : Word → List Piece → Result Said TextFault
after_word w (Gap ∷ ps) = or_bad (operands_of w ps)
after_word w _ = Err BadOperand

abbrev pub with_word : Option Word → List Piece → Result Said TextFault
with_word None ps = Err UnknownWord
with_word (Some w) ps = after_word w ps

abbrev pub statement_of : List Piece → Result Said TextFault
statement_of (Run w ∷ ps) = with_word (spelled_word_of w) ps
statement_of _ = Err UnknownWord

-- ## Lines

-- what a line says: a label, and a statement
pub record Parsed : Type 0 where
  pub label : Option (List ℕ)
  pub said : Option Said

abbrev pub with_label : Option (List ℕ) → Result Said TextFault → Result Parsed TextFault
with_label label (Ok s) = Ok (record { label = label; said = Some s })
with_label label (Err fault) = Err fault

abbrev pub after_label : List ℕ → List Piece → Result Parsed TextFault
after_label l [] = Ok (record { label = Some l; said = None })
after_label l (Gap ∷ ps) = with_label (Some l) (statement_of ps)
after_label l _ = Err UnknownWord

-- [label] [blank word [operands]]
abbrev pub parsed : List Piece → Result Parsed TextFault
parsed [] = Ok (record { label = None; said = None })
parsed (Gap ∷ ps) = with_label None (statement_of ps)
parsed (Run l ∷ ps) = if is_label l then after_label l ps else Err UnknownWord
parsed _ = Err UnknownWord

-- 20 to 7E, and a tab
abbrev pub is_text : ℕ → Bool
is_text b = (nat_le 32 b && nat_le b 126) || b == 9

-- after a `;` also 80 to FF
abbrev pub is_comment_text : ℕ → Bool
is_comment_text b = is_text b || nat_le 128 b

-- no `;`, which begins a comment
abbrev pub is_in_body : ℕ → Bool
is_in_body b = not (b == 59)

abbrev pub body_len : List ℕ → ℕ
body_len line = prefix_len is_in_body line

-- in front of the first `;`
abbrev pub body : List ℕ → List ℕ
body line = take (body_len line) line

abbrev pub is_text_line : List ℕ → Bool
is_text_line line = list_all is_text (body line) && list_all is_comment_text (drop (body_len line) line)

-- a text without the bytes of a sort that it begins with
abbrev pub drop_while : (ℕ → Bool) → List ℕ → List ℕ
drop_while sort text = drop (prefix_len sort text) text

abbrev pub begins_blank_or_ends : List ℕ → Bool
begins_blank_or_ends [] = true
begins_blank_or_ends (b ∷ bs) = is_blank b

-- a word ends at a blank or with the line: what follows label, blanks and word, each of which may be
-- missing, begins with a blank or is nothing
abbrev pub word_ends : List ℕ → Bool
word_ends text = begins_blank_or_ends (drop_while is_name (drop_while is_blank (drop_while is_name text)))

-- what a line without its comment says
abbrev pub body_says : List ℕ → Result Parsed TextFault
body_says text = if word_ends text then parsed (pieces text) else Err UnknownWord

-- what a line says
abbrev pub line_of : List ℕ → Result Parsed TextFault
line_of line = if is_text_line line then body_says (body line) else Err NotText

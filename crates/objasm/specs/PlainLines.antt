-- What stands in our grammar for a line of the dialect.
use Rattle.std.specs.Prelude.{◌==◌, ◌&&◌, ◌-◌, ◌^◌, not, nat_lt, ℕ, Bool, true, false, List, [], ◌∷◌, ◌++◌}
use Rattle.std.specs.Prelude.{decimal}
use Rattle.std.specs.Prelude.{codes, Option, Some, None, is_none, is_some, Result, Ok, Err, if◌then◌else◌}
use Rattle.std.specs.Option.{option_and_then}
use Rattle.asm_text.specs.Numbers.{number_by, read_number}
use Rattle.objasm.specs.Exchanges.{exchange_of, exchanged_word, flipped}
use Rattle.objasm.specs.Maps.{MapLine, map_line_of}
use Rattle.objasm.specs.Names.{Meanings, address_named, and_then, is_set, mapped}
use Rattle.objasm.specs.Parts.{Part, Run, Byte, after_blanks, after_field, first_field, front_blanks}
use Rattle.objasm.specs.Parts.{is_over, is_stop, lone_run}
use Rattle.objasm.specs.Settings.{Setting, setting_of, truth_of, value_of}
use Rattle.objasm.specs.Symbols.{begins_number}
use Rattle.objasm.specs.Words.{is_adr, is_assert, is_directive, is_ltorg, is_nop, is_silent, kind_of}
use Rattle.objasm.specs.Words.{sum_word, word_text}
use Rattle.objasm.specs.declared.exchanges.Flip.{Flip}
use Rattle.objasm.specs.declared.faults.LineFault.{LineFault}
use Rattle.objasm.specs.declared.faults.LineFault.TheVariants.{AssertionFailed, BadOperand, NameTwice}
use Rattle.objasm.specs.declared.faults.LineFault.TheVariants.{UnknownDirective}
use Rattle.objasm.specs.declared.names.Address.{Address}
use Rattle.objasm.specs.declared.plain_lines.Literal.{Literal}
use Rattle.objasm.specs.declared.plain_lines.Literal.TheVariants.{Plain, Hex}
use Rattle.objasm.specs.declared.plain_lines.Translation.{Translation}
use Rattle.objasm.specs.declared.plain_lines.Translation.TheVariants.{Number, Offset, Changed, Value, Place}
use Rattle.objasm.specs.declared.plain_lines.Translation.TheVariants.{Sum}
use Rattle.objasm.specs.declared.plain_lines.Translation.TheVariants.{Parts}
use Rattle.objasm.specs.declared.words.Operands.{Operands}
use Rattle.objasm.specs.declared.words.Operands.TheVariants.{Values, Offsets, Exchanged, Sums, Others}

-- a text, or why there is none
abbrev pub Text : Type 0
Text = Result (List ℕ) LineFault

-- a text and another behind it: the fault of the first comes first
abbrev pub joined : Text → Text → Text
joined a b = and_then (λ x. mapped (λ y. x ++ y) b) a

-- a text behind what is there
abbrev pub behind : List ℕ → Text → Text
behind done a = mapped (λ x. done ++ x) a

-- ## What stands for a part

abbrev pub register_text : ℕ → List ℕ
register_text n = 82 ∷ decimal n

abbrev pub run_by : List ℕ → Option ℕ → List ℕ
run_by run (Some n) = register_text n
run_by run None = run

-- a register for the name of one, and else the run itself: constants are numbers in expressions alone
abbrev pub run_text : Meanings → List ℕ → List ℕ
run_text m run = run_by run (m.registers run)

abbrev pub part_text : Meanings → Part → List ℕ
part_text m (Run r) = run_text m r
part_text m (Byte b) = b ∷ []

unfoldable pub parts_text : Meanings → List Part → List ℕ
parts_text m [] = []
parts_text m (p ∷ ps) = part_text m p ++ parts_text m ps

-- ## Numbers

abbrev pub literal_text : Literal → List ℕ
literal_text (Plain digits) = digits.now
literal_text (Hex digits) = 38 ∷ digits.now

-- the text, where it is that of a number and only blanks follow
abbrev pub lone : List ℕ → Option ℕ → List Part → Option (List ℕ)
lone text (Some n) ps = if is_over (after_blanks ps) then Some text else None
lone text None ps = None

abbrev pub hex_literal : List Part → Option (List ℕ)
hex_literal (Run r ∷ ps) = lone (38 ∷ r) (number_by 16 r) ps
hex_literal _ = None

abbrev pub literal_at : List Part → Option (List ℕ)
literal_at (Run r ∷ ps) = lone r (read_number r) ps
literal_at (Byte b ∷ ps) = if b == 38 then hex_literal ps else None
literal_at [] = None

-- a number that our grammar has too, if that is all there is but for blanks
abbrev pub literal_of : List Part → Option (List ℕ)
literal_of ps = literal_at (after_blanks ps)

abbrev pub written_so : Option (List ℕ) → ℕ → List ℕ
written_so (Some text) n = text
written_so None n = decimal n

-- a number that stands alone as its author wrote it, and the value of any other expression in decimal
abbrev pub number_text : List Part → ℕ → List ℕ
number_text ps n = written_so (literal_of ps) n

-- of 2^31 and more what is taken from 2^32, behind a `-`
abbrev pub offset_text : List Part → ℕ → List ℕ
offset_text ps n = if nat_lt n (2 ^ 31) then number_text ps n else 45 ∷ decimal (2 ^ 32 - n)

-- ## The operands

-- how what follows a stop is translated
abbrev pub written : Operands → ℕ → Translation
written Offsets stop = if stop == 35 then Offset else if stop == 44 then Place else Parts
written (Exchanged flip) stop = if stop == 35 then Changed flip else Parts
written Values stop = if stop == 35 then Number else Value
written Sums stop = if stop == 35 then Number else Sum
written Others stop = if stop == 35 then Number else Parts

abbrev pub is_label : Meanings → List ℕ → Bool
is_label m run = not (begins_number run) && is_none (m.constants run)

abbrev pub is_lone_label : Meanings → List Part → Bool
is_lone_label m [] = true
is_lone_label m (Run run ∷ ps) = is_label m run && is_over (after_blanks ps)
is_lone_label m (Byte b ∷ ps) = false

-- nothing, or one run that is no number and no name of one
abbrev pub is_label_field : Meanings → List Part → Bool
is_label_field m ps = is_lone_label m (after_blanks ps)

-- a label or a number, and the blanks in front of it
abbrev pub value_text : Meanings → List Part → Text
value_text m ps =
    if is_label_field m ps then Ok (parts_text m ps)
    else mapped (λ n. parts_text m (front_blanks ps) ++ number_text ps n) (value_of m ps)

-- the address that a lone name of a map stands for
abbrev pub address_in : Meanings → List Part → Option Address
address_in m ps = option_and_then (address_named m) (lone_run (after_blanks ps))

-- `[Rn,#offset]`
abbrev pub place_text : Address → List ℕ
place_text a = 91 ∷ (register_text a.base ++ (codes ",#" ++ (offset_text [] a.offset ++ 93 ∷ [])))

-- `Rn,#offset`
abbrev pub sum_text : Address → List ℕ
sum_text a = register_text a.base ++ (codes ",#" ++ decimal a.offset)

-- what stands for an address, behind the blanks, and for anything else its parts
abbrev pub placed_text : (Address → List ℕ) → Meanings → Option Address → List Part → List ℕ
placed_text shown m (Some a) ps = parts_text m (front_blanks ps) ++ shown a
placed_text shown m None ps = parts_text m ps

abbrev pub field_text : Meanings → Translation → List Part → Text
field_text m Number ps = mapped (number_text ps) (value_of m ps)
field_text m Offset ps = mapped (offset_text ps) (value_of m ps)
field_text m (Changed flip) ps = mapped (λ n. decimal (flipped flip n)) (value_of m ps)
field_text m Value ps = value_text m ps
field_text m Place ps = Ok (placed_text place_text m (address_in m ps) ps)
field_text m Sum ps = Ok (placed_text sum_text m (address_in m ps) ps)
field_text m Parts ps = Ok (parts_text m ps)

-- a stop, and what follows it up to the next
abbrev pub stop_text : Meanings → Operands → List Part → Text
stop_text m kind (Byte b ∷ ps) =
    if is_stop b then behind (b ∷ []) (field_text m (written kind b) (first_field ps)) else Ok []
stop_text m kind _ = Ok []

unfoldable pub stops_text : Meanings → Operands → List Part → Text
stops_text m kind [] = Ok []
stops_text m kind (p ∷ ps) = joined (stop_text m kind (p ∷ ps)) (stops_text m kind ps)

-- what is in front of the first stop, and each stop with what follows it
abbrev pub operands_text : Meanings → Operands → List Part → Text
operands_text m kind ps = joined (field_text m (written kind 44) (first_field ps)) (stops_text m kind ps)

-- ## The line

abbrev pub kind_with : List ℕ → Option Flip → Operands
kind_with word (Some flip) = Exchanged flip
kind_with word None = kind_of word

abbrev pub word_with : List ℕ → Option Flip → List ℕ
word_with word (Some flip) = exchanged_word word
word_with word None = word

abbrev pub spaced_operands : Meanings → Operands → List Part → Text
spaced_operands m kind ps = behind (parts_text m (front_blanks ps)) (operands_text m kind (after_blanks ps))

-- a word, the blanks behind it and its operands
abbrev pub exchanged_text : Meanings → List ℕ → List Part → Option Flip → Text
exchanged_text m word ps exchange =
    behind (word_text (word_with word exchange)) (spaced_operands m (kind_with word exchange) ps)

-- what follows the first comma is the name of a map with a base register
abbrev pub is_address : Meanings → List Part → Bool
is_address m (Byte b ∷ ps) = b == 44 && is_some (address_in m (first_field ps))
is_address m _ = false

-- ADR of such a name is a sum
abbrev pub is_sum : Meanings → List ℕ → List Part → Bool
is_sum m word ps = is_adr word && is_address m (after_field ps)

abbrev pub sum_line : Meanings → List ℕ → List Part → Text
sum_line m word ps = behind (word_text (sum_word word)) (spaced_operands m Sums ps)

abbrev pub nop_text : List Part → Text
nop_text ps = if is_over (after_blanks ps) then Ok (codes "MOV R0,R0") else Err BadOperand

-- nothing, where nothing is behind the word
abbrev pub ltorg_text : List Part → Text
ltorg_text ps = if is_over (after_blanks ps) then Ok [] else Err BadOperand

-- nothing, where the expression holds
abbrev pub asserted : Bool → Text
asserted holds = if holds then Ok [] else Err AssertionFailed

abbrev pub assert_text : Meanings → List Part → Text
assert_text m ps = and_then asserted (truth_of m ps)

-- a word and its operands, which are exchanged for others where the number fits only so
unfoldable pub operation_text : Meanings → List ℕ → List Part → Text
operation_text m word ps =
    if is_sum m word ps then sum_line m word ps
    else and_then (exchanged_text m word ps) (exchange_of m word ps)

-- a word of the processor or a directive, and what is behind it
abbrev pub instruction_text : Meanings → List ℕ → List Part → Text
instruction_text m word ps =
    if is_nop word then nop_text ps
    else if is_silent word then Ok []
    else if is_ltorg word then ltorg_text ps
    else if is_assert word then assert_text m ps
    else if is_directive word then Err UnknownDirective
    else operation_text m word ps

abbrev pub word_line : Meanings → List Part → Text
word_line m [] = Ok []
word_line m (Run word ∷ ps) = instruction_text m word ps
word_line m (Byte b ∷ ps) = Err UnknownDirective

-- blanks, a word and its operands
abbrev pub statement_text : Meanings → List Part → Text
statement_text m ps = behind (parts_text m (front_blanks ps)) (word_line m (after_blanks ps))

-- a label, which is no name that is set, and a statement
abbrev pub plain_text : Meanings → List Part → Text
plain_text m (Run label ∷ ps) = if is_set m label then Err NameTwice else behind label (statement_text m ps)
plain_text m ps = statement_text m ps

abbrev pub unset_text : Meanings → Option Setting → List Part → Text
unset_text m (Some s) ps = Ok []
unset_text m None ps = plain_text m ps

abbrev pub unmapped_text : Meanings → Option MapLine → List Part → Text
unmapped_text m (Some line) ps = Ok []
unmapped_text m None ps = unset_text m (setting_of ps) ps

-- a line that sets a name or is of a map stands for nothing
abbrev pub body_text : Meanings → List Part → Text
body_text m ps = unmapped_text m (map_line_of ps) ps

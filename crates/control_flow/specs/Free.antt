-- Free edges: for each of them there are a machine and an input whose one step takes the edge at exactly its
-- price (`FreeEdgesAreTight`). The rule is coarse: whole kinds of instructions are not free of which some
-- have too little choice of the address to which they transfer or jump, and no edge is from where no RAM is
-- fitted.
use Rattle.std.specs.Prelude.{◌≡◌, ℕ, Bool, true, false, not, ◌&&◌, ◌||◌, ◌==◌, IsTrue, List}
use Rattle.std.specs.Prelude.{Some, ◌⊎◌}
use Rattle.image.specs.Image.{Words, is_past_ram, word_of}
use Rattle.arm2_decode.specs.Names.{is_lsl, is_mov, is_pc}
use Rattle.arm2_decode.specs.Table.{Means}
use Rattle.arm2_decode.specs.Transfers.{asks_for_user}
use Rattle.arm2_decode.specs.Writers.{data_writes_pc}
use Rattle.arm2_decode.specs.declared.instr.DataImmediate.{DataImmediate}
use Rattle.arm2_decode.specs.declared.instr.DataRegister.{DataRegister}
use Rattle.arm2_decode.specs.declared.instr.Instr.{Instr}
use Rattle.arm2_decode.specs.declared.instr.Operation.{Operation}
use Rattle.arm2_decode.specs.declared.instr.Operation.TheVariants as operation
use Rattle.arm2_decode.specs.declared.names.Opcode.{Opcode}
use Rattle.arm2_decode.specs.declared.names.Opcode.TheVariants as opcode
use Rattle.control_flow.specs.declared.edges.Edge.{Edge}
use Rattle.control_flow.specs.declared.edges.Label.TheVariants.{Skip}
use Rattle.control_flow.specs.declared.places.Place.TheVariants.{At}

-- ## Operations

abbrev pub is_add_or_sub : Opcode → Bool
is_add_or_sub opcode.Add = true
is_add_or_sub opcode.Sub = true
is_add_or_sub _ = false

-- MOV of a register other than R15, not shifted (LSL #0)
abbrev pub copies_a_register : DataRegister → Bool
copies_a_register x = is_mov x.opcode && not (is_pc x.rm) && is_lsl x.shift && (x.amount == 0)

-- ADD or SUB of an immediate to or from a register other than R15
abbrev pub adds_an_immediate : DataImmediate → Bool
adds_an_immediate x = is_add_or_sub x.opcode && not (is_pc x.rn)

-- not free are: data processing that writes R15, other than MOV of a register and ADD or SUB of an immediate
-- as above; and single transfers whose base is R15, that ask for User rights, or whose offset is in a
-- register. A trap counts as free, but no `do` edge leaves one
abbrev pub is_free_operation : Operation → Bool
is_free_operation (operation.Multiply x) = true
is_free_operation (operation.DataRegister x) = not (data_writes_pc x.opcode x.rd) || copies_a_register x
is_free_operation (operation.DataRegisterShift x) = not (data_writes_pc x.opcode x.rd)
is_free_operation (operation.DataImmediate x) = not (data_writes_pc x.opcode x.rd) || adds_an_immediate x
is_free_operation (operation.SingleImmediate x) =
    not (is_pc x.rn) && not (asks_for_user x.before x.write_back)
is_free_operation (operation.SingleRegister x) = false
is_free_operation (operation.Block x) = true
is_free_operation (operation.Branch x) = true
is_free_operation (operation.Swi x) = true
is_free_operation (operation.UndefinedTransfer x) = true
is_free_operation (operation.CoprocessorTransfer x) = true
is_free_operation (operation.Coprocessor x) = true

-- ## Edges

-- the word is an instruction whose operation is free
abbrev pub IsFreeWord : ℕ → Type 0
IsFreeWord word = (i : Instr) × Means word i × IsTrue (is_free_operation i.operation)

-- the image has such a word at the address
abbrev pub HasFreeWord : Words → ℕ → Type 0
HasFreeWord words address = (word : ℕ) × (word_of words address ≡ Some word) × IsFreeWord word

-- of an edge of the graph: it leaves an address outside of 2400000 to 2FFFFFF, and it passes over the word
-- there, or does it, and then the word is free
pub record IsFree (words : Words) (e : Edge) : Type 0 where
  pub calls : List ℕ
  pub address : ℕ
  pub from : e.from ≡ At calls address
  pub not_past_ram : is_past_ram address ≡ false
  pub skipped_or_free : (e.label ≡ Skip) ⊎ HasFreeWord words address

-- Addresses of the source that its words name, to which a word may lead that writes R15.
use Rattle.std.specs.Prelude.{◌≡◌, ◌⊎◌, ◌↔◌, ◌*◌, ◌&&◌, ◌||◌, Bool, true, ℕ, if◌then◌else◌, List, map}
use Rattle.std.specs.Prelude.{Contains, Option, Some, None}
use Rattle.std.specs.Int.{w32, rotate_right}
use Rattle.std.specs.List.Sorted.{IsStrictlyIncreasing}
use Rattle.arm2_decode.specs.Names.{is_add, is_never, is_pc, is_sub}
use Rattle.arm2_decode.specs.declared.instr.DataImmediate.{DataImmediate}
use Rattle.arm2_decode.specs.declared.instr.Instr.{Instr}
use Rattle.arm2_decode.specs.declared.instr.Operation.{Operation}
use Rattle.arm2_decode.specs.declared.instr.Operation.TheVariants as operation
use Rattle.arm2_transfer.specs.Registers.{address_by}
use Rattle.bus_ticks.specs.Prices.{ahead_of}
use Rattle.image.specs.Image.{Words, word_of}
use Rattle.word_shapes.specs.Shapes.{keeps_return_address}
use Rattle.word_shapes.specs.Words.{HasInstr}

-- the number of an immediate operand
abbrev pub immediate : DataImmediate → ℕ
immediate x = rotate_right w32 x.value (2 * x.rotation)

-- ADD or SUB of PC, as ADR is
abbrev pub is_adr : DataImmediate → Bool
is_adr x = is_pc x.rn && (is_add x.opcode || is_sub x.opcode)

-- the address by PC that an operation at an address makes: by ADR, or by MOV R14,PC
abbrev pub named_by : ℕ → Operation → Option ℕ
named_by at (operation.Multiply x) = None
named_by at (operation.DataRegister x) =
    if keeps_return_address (operation.DataRegister x) then Some (ahead_of at 8) else None
named_by at (operation.DataRegisterShift x) = None
named_by at (operation.DataImmediate x) =
    if is_adr x then Some (address_by true (is_add x.opcode) (ahead_of at 8) (immediate x)) else None
named_by at (operation.SingleImmediate x) = None
named_by at (operation.SingleRegister x) = None
named_by at (operation.Block x) = None
named_by at (operation.Branch x) = None
named_by at (operation.Swi x) = None
named_by at (operation.UndefinedTransfer x) = None
named_by at (operation.CoprocessorTransfer x) = None
named_by at (operation.Coprocessor x) = None

-- the address that an instruction there makes: one under NV makes none
abbrev pub named_in : ℕ → Instr → Option ℕ
named_in at i = if is_never i.cond then None else named_by at i.operation

-- a word of the source is that number
abbrev pub IsLiteral : Words → ℕ → Type 0
IsLiteral words to = Contains (map (λ (e : ℕ × ℕ). e.1) words) to

module _ (words : Words) where
  abbrev pub HasWord : ℕ → Type 0
  HasWord at = (word : ℕ) × (word_of words at ≡ Some word)

  -- the word at an address names the other one
  abbrev pub Names : ℕ → ℕ → Type 0
  Names at to = (i : Instr) × HasInstr words at i × (named_in at i ≡ Some to)

  -- the word at one of the addresses names it
  abbrev pub IsNamedAt : List ℕ → ℕ → Type 0
  IsNamedAt addresses to = (at : ℕ) × Contains addresses at × Names at to

  -- ascending, exactly those where the source has a word, and that are named or the number of such a word
  pub record AreCandidates (addresses candidates : List ℕ) : Type 0 where
    pub ascend : IsStrictlyIncreasing candidates
    pub are : (to : ℕ) → Contains candidates to ↔ (HasWord to × (IsNamedAt addresses to ⊎ IsLiteral words to))

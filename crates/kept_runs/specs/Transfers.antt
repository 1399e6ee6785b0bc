-- The words that an instruction transfers where it is carried out, by the registers before it (VL86C010 data
-- sheet, single and block data transfer).
use Rattle.std.specs.Prelude.{◌≡◌, ℕ, ◌<◌, Bool, not, List, Option, Some, None}
use Rattle.bus_ticks.specs.declared.space.TheConstants.{SPACE_END}
use Rattle.bus_ticks.specs.Prices.{word_address}
use Rattle.bus_ticks.specs.Worst.{IsOf}
use Rattle.bus_ticks.specs.declared.profile.Class.{Class}
use Rattle.arm2_decode.specs.declared.instr.Block.{Block}
use Rattle.arm2_decode.specs.declared.instr.Operation.{Operation}
use Rattle.arm2_decode.specs.declared.instr.Operation.TheVariants as operation
use Rattle.arm2_decode.specs.Transfers.{word_count}
use Rattle.arm2_effect.specs.Operands.{current_in, first_of, shifted_by_amount}
use Rattle.arm2_transfer.specs.Block.{lowest_of}
use Rattle.arm2_transfer.specs.Registers.{address_by}
use Rattle.kept_runs.specs.declared.transfers.Access.{Access}
use Rattle.kept_runs.specs.declared.transfers.Transfer.{Transfer}

abbrev pub one_word : (load : Bool) → (address : ℕ) → Transfer
one_word load address = record { address = address; words = 1; store = not load }

abbrev pub block_words : Block → List ℕ → Transfer
block_words x regs =
    record {
      address = lowest_of x (current_in x.rn regs) (word_count x.list);
      words = word_count x.list;
      store = not x.load;
    }

-- loads and stores transfer words, and no other instruction does
abbrev pub words_of : Operation → List ℕ → Option Transfer
words_of (operation.Multiply x) regs = None
words_of (operation.DataRegister x) regs = None
words_of (operation.DataRegisterShift x) regs = None
words_of (operation.DataImmediate x) regs = None
words_of (operation.SingleImmediate x) regs =
    Some (one_word x.load (address_by x.before x.up (first_of 8 x.rn regs) x.offset))
words_of (operation.SingleRegister x) regs =
    Some
    (one_word x.load
    (address_by x.before x.up (first_of 8 x.rn regs)
    (shifted_by_amount x.shift x.amount x.rm regs).value))
words_of (operation.Block x) regs = Some (block_words x regs)
words_of (operation.Branch x) regs = None
words_of (operation.Swi x) regs = None
words_of (operation.UndefinedTransfer x) regs = None
words_of (operation.CoprocessorTransfer x) regs = None
words_of (operation.Coprocessor x) regs = None

-- ## Classes

-- each word is at an address of the class
abbrev pub AllOf : Class → Transfer → Type 0
AllOf class t = (i : ℕ) → i < t.words → IsOf class (word_address t.address i)

-- the access is the first of the words whose address is of another class
pub record HasOtherOf (class : Class) (t : Transfer) (access : Access) : Type 0 where
  pub number : ℕ
  pub below : number < t.words
  pub address_is : access.address ≡ word_address t.address number
  pub store : access.store ≡ t.store
  pub before : (i : ℕ) → i < number → IsOf class (word_address t.address i)
  pub other : IsOf class access.address → ⊥

-- A transfer from an address of 2 ^ 26 or more is an exception, and moves no word.
abbrev pub HasOther : Class → Option Transfer → Access → Type 0
HasOther class None access = ⊥
HasOther class (Some t) access = (t.address < SPACE_END) × HasOtherOf class t access

abbrev pub HasNoOther : Class → Option Transfer → Type 0
HasNoOther class None = Unit {0}
HasNoOther class (Some t) = t.address < SPACE_END → AllOf class t

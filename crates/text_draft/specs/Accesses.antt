-- The loads and stores, and what their classes rest on.
use Rattle.std.specs.Prelude.{◌≡◌, ◌⊎◌, ℕ, Bool, true, false, if◌then◌else◌, List, All, Option, Some, None}
use Rattle.std.specs.Prelude.{map}
use Rattle.arm2_decode.specs.Names.{is_never, is_pc}
use Rattle.arm2_decode.specs.Writers.{is_transfer}
use Rattle.arm2_decode.specs.declared.instr.Instr.{Instr}
use Rattle.arm2_decode.specs.declared.instr.Operation.{Operation}
use Rattle.arm2_decode.specs.declared.instr.Operation.TheVariants as operation
use Rattle.arm2_decode.specs.declared.instr.SingleImmediate.{SingleImmediate}
use Rattle.arm2_decode.specs.declared.names.Register.{Register}
use Rattle.arm2_transfer.specs.Registers.{address_by}
use Rattle.bus_ticks.specs.Prices.{ahead_of, narrowest_class}
use Rattle.bus_ticks.specs.declared.profile.Class.{Class}
use Rattle.bus_ticks.specs.declared.profile.Class.TheVariants.{Any}
use Rattle.control_flow.specs.Kinds.{base_of}
use Rattle.statement.specs.Stated.{Stated}
use Rattle.text_draft.specs.Begun.{has_class}
use Rattle.text_draft.specs.Picks.{Picks}
use Rattle.text_draft.specs.declared.accesses.FoundAccess.{FoundAccess}
use Rattle.image.specs.Image.{Words}
use Rattle.word_shapes.specs.Words.{HasInstr, MayDo}

-- it loads or stores one word or byte so many bytes from PC, and the class is the narrowest of that address
pub record IsByPc (at : ℕ) (o : Operation) (class : Class) : Type 0 where
  pub transfer : SingleImmediate
  pub single : o ≡ operation.SingleImmediate transfer
  pub by_pc : is_pc transfer.rn ≡ true
  pub class_is : class
      ≡ narrowest_class (address_by transfer.before transfer.up (ahead_of at 8) transfer.offset)

-- the class rests on the operation alone: it is any, or the operation shows the address
abbrev pub RestsOn : (at : ℕ) → Operation → Class → Type 0
RestsOn at o class = (class ≡ Any) ⊎ IsByPc at o class

-- the base register of an instruction that loads or stores, and is not under NV
abbrev pub base_used : Instr → Option Register
base_used i = if is_never i.cond then None else base_of i.operation

abbrev pub places_of : List FoundAccess → List ℕ
places_of accesses = map (λ e. e.at) accesses

module _ (words : Words) where
  -- the word at the address loads or stores with that base, and is not under NV
  abbrev pub HasBase : ℕ → Register → Type 0
  HasBase at register = (i : Instr) × HasInstr words at i × (base_used i ≡ Some register)

  -- the class rests on the word alone
  abbrev pub RestsOnWord : ℕ → Class → Type 0
  RestsOnWord at class = (class ≡ Any) ⊎ ((i : Instr) × HasInstr words at i × IsByPc at i.operation class)

  -- exactly those of the addresses whose words load or store and are not under NV, and their bases; while it
  -- is open where a word leads, no class rests on the words in front
  pub record AreAccesses (addresses : List ℕ) (open_left : Bool) (accesses : List FoundAccess) : Type 0 where
    pub at : Picks (MayDo is_transfer words) addresses (places_of accesses)
    pub bases : All (λ e. HasBase e.at e.base) accesses
    pub rest : open_left ≡ true → All (λ e. RestsOnWord e.at e.class) accesses

-- those to which nothing that is stated gives a class, in their order
abbrev pub AreUnclassed : Option Stated → List FoundAccess → List FoundAccess → Type 0
AreUnclassed begun = Picks (λ e. has_class begun e ≡ false)

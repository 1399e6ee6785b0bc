-- Returns by an R14 that no longer has the return address: a call, or an address of the source, has
-- overwritten it. What writes R14 is the VL86C010 data sheet's.
use Rattle.std.specs.Prelude.{◌≡◌, ◌↔◌, ℕ, ◌+◌, ◌-◌, ◌<◌, Bool, true, false, not, ◌&&◌, ◌||◌}
use Rattle.std.specs.Prelude.{if◌then◌else◌, List, length, Contains, Option, Some, None, is_some}
use Rattle.std.specs.List.Sorted.{IsStrictlySortedBy}
use Rattle.std.specs.Ordering.{nat_cmp}
use Rattle.bus_ticks.specs.Prices.{ahead_of}
use Rattle.bus_ticks.specs.declared.space.TheConstants.{SPACE_END}
use Rattle.arm2_decode.specs.Names.{is_link, is_pc}
use Rattle.arm2_decode.specs.Transfers.{is_listed}
use Rattle.arm2_decode.specs.Writers.{is_transfer, writes, writes_pc}
use Rattle.arm2_decode.specs.declared.instr.Instr.{Instr}
use Rattle.arm2_decode.specs.declared.instr.Operation.{Operation}
use Rattle.arm2_decode.specs.declared.instr.Operation.TheVariants as operation
use Rattle.arm2_decode.specs.declared.instr.SingleImmediate.{SingleImmediate}
use Rattle.arm2_decode.specs.declared.names.Register.TheVariants.{R14, R15}
use Rattle.arm2_effect.specs.ProgramCounter.{address_of}
use Rattle.control_flow.specs.Flow.{Flow, HasEdge}
use Rattle.control_flow.specs.declared.edges.Edge.{Edge}
use Rattle.control_flow.specs.declared.places.Place.{Place}
use Rattle.control_flow.specs.declared.places.Place.TheVariants.{At, Exit}
use Rattle.image.specs.Image.{Words, word_of}
use Rattle.statement.specs.Stated.{Stated, Target, target_of}
use Rattle.statement.specs.declared.stated.TargetKind.{TargetKind}
use Rattle.statement.specs.declared.stated.TargetKind.TheVariants.{Jump, Call, Return, Leave}
use Rattle.word_shapes.specs.Shapes.{is_return, makes_address}
use Rattle.word_shapes.specs.Words.{HasInstr}
use Rattle.text_explained.specs.Doing.{MayDoShape, may_be_done}
use Rattle.text_explained.specs.declared.links.LinkStep.{LinkStep}
use Rattle.text_explained.specs.declared.links.LinkStep.TheVariants.{Overwrites, Keeps}
use Rattle.text_explained.specs.declared.links.Overwrite.{Overwrite}
use Rattle.text_explained.specs.declared.links.Overwrite.TheVariants.{ByCall, ByAddress}

-- ## Words

-- a block with ^ and without R15 loads the registers of User, of which R14 is another; a base that is written
-- is the mode's own
abbrev pub loads_users_link : Operation → Bool
loads_users_link (operation.Multiply x) = false
loads_users_link (operation.DataRegister x) = false
loads_users_link (operation.DataRegisterShift x) = false
loads_users_link (operation.DataImmediate x) = false
loads_users_link (operation.SingleImmediate x) = false
loads_users_link (operation.SingleRegister x) = false
loads_users_link (operation.Block x) =
    x.load && (x.user && (not (is_listed x.list R15) && not (x.write_back && is_link x.rn)))
loads_users_link (operation.Branch x) = false
loads_users_link (operation.Swi x) = false
loads_users_link (operation.UndefinedTransfer x) = false
loads_users_link (operation.CoprocessorTransfer x) = false
loads_users_link (operation.Coprocessor x) = false

-- the operation writes R14 of an interrupt's mode, other than a call
abbrev pub writes_link : Operation → Bool
writes_link o = writes o R14 && not (loads_users_link o)

-- it writes R15 as returns do, and not from memory: MOV of R14, or SUB of a number from it
abbrev pub returns_by_link : Operation → Bool
returns_by_link o = writes_pc o && (is_return o && not (is_transfer o))

-- a word of which a jump or a call is stated does not return; one that leaves the handler does
abbrev pub is_return_kind : TargetKind → Bool
is_return_kind Jump = false
is_return_kind Call = false
is_return_kind Return = true
is_return_kind Leave = true

-- so does one of which nothing is stated
abbrev pub counts_as_return : Option Target → Bool
counts_as_return None = true
counts_as_return (Some t) = is_return_kind t.kind

-- the word at the address may return by R14
pub record MayReturnByLink (image : Words) (st : Stated) (a : ℕ) : Type 0 where
  pub returns : MayDoShape returns_by_link image st a
  pub counts : counts_as_return (target_of st a) ≡ true

-- ## Addresses

-- so many bytes after PC, or before it, in 26 bits
abbrev pub distance : (up : Bool) → (offset : ℕ) → ℕ
distance up offset = if up then offset else SPACE_END - offset

-- a load of one word into R14, by PC and a number
abbrev pub loads_link_by_pc : SingleImmediate → Bool
loads_link_by_pc x = x.load && not x.byte && is_link x.rd && is_pc x.rn

-- at the address it reads the word at this one
abbrev pub literal_at : ℕ → SingleImmediate → ℕ
literal_at a x = ahead_of a (8 + distance x.up x.offset)

-- the word, if there is one, holds the address of a word
abbrev pub holds_address : Words → Option ℕ → Bool
holds_address image None = false
holds_address image (Some word) = is_some (word_of image (address_of word))

-- at the address the operation loads R14 with a word of the source that holds the address of one
abbrev pub loads_address : Words → ℕ → Operation → Bool
loads_address image a (operation.Multiply x) = false
loads_address image a (operation.DataRegister x) = false
loads_address image a (operation.DataRegisterShift x) = false
loads_address image a (operation.DataImmediate x) = false
loads_address image a (operation.SingleImmediate x) =
    loads_link_by_pc x && holds_address image (word_of image (literal_at a x))
loads_address image a (operation.SingleRegister x) = false
loads_address image a (operation.Block x) = false
loads_address image a (operation.Branch x) = false
loads_address image a (operation.Swi x) = false
loads_address image a (operation.UndefinedTransfer x) = false
loads_address image a (operation.CoprocessorTransfer x) = false
loads_address image a (operation.Coprocessor x) = false

-- at the address the instruction may put an address of the source into R14
abbrev pub may_put_address : Words → Stated → ℕ → Instr → Bool
may_put_address image st a i =
    may_be_done st a i && (makes_address i.operation || loads_address image a i.operation)

-- such an instruction is at the address
abbrev pub PutsAddress : Words → Stated → ℕ → Type 0
PutsAddress image st a = (i : Instr) × HasInstr image a i × (may_put_address image st a i ≡ true)

-- ## Edges

-- what an edge does from an address inside some calls to a place inside others: a call that comes back along
-- it has overwritten R14; the word, inside the same calls, overwrites R14 with an address; or it does not
-- write R14, whatever its condition, if it may be done
abbrev pub DoesTo : Words → Stated → LinkStep → (calls others : List ℕ) → ℕ → Type 0
DoesTo image st (Overwrites ByCall) calls others a = length others < length calls
DoesTo image st (Overwrites ByAddress) calls others a = (calls ≡ others) × PutsAddress image st a
DoesTo image st Keeps calls others a = (calls ≡ others) × (MayDoShape writes_link image st a → ⊥)

-- nothing of that where it leaves the handler
abbrev pub Does : Words → Stated → LinkStep → (from to : Place) → Type 0
Does image st step (At calls a) (At others b) = DoesTo image st step calls others a
Does image st step (At calls a) Exit = ⊥
Does image st step Exit to = ⊥

-- ## Places

module _ (image : Words) (st : Stated) (flow : Flow) (by : Overwrite) where
  -- on some way R14 has been overwritten so, and no word of the same routine has written it since
  pub data IsLost : Place → Type 0 where
    overwritten : (e : Edge) → HasEdge flow e → Does image st (Overwrites by) e.from e.to → IsLost e.to
    kept_along : (e : Edge) → HasEdge flow e → IsLost e.from → Does image st Keeps e.from e.to → IsLost e.to

  -- at a place where R14 is lost the word may return by it
  abbrev pub ReturnsByLost : ℕ → Type 0
  ReturnsByLost a = (calls : List ℕ) × IsLost (At calls a) × MayReturnByLink image st a

  -- exactly those addresses, ascending
  pub record AreLostLinks (named : List ℕ) : Type 0 where
    pub ascending : IsStrictlySortedBy nat_cmp named
    pub each : (a : ℕ) → Contains named a ↔ ReturnsByLost a

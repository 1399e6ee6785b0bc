-- How a machine is set so that its one step pays an edge's price (VL86C010 data sheet for what each
-- instruction does).
use Rattle.std.specs.Prelude.{◌≡◌, ◌⊎◌, ◌<◌, ◌%◌, ◌-◌, ℕ, Bool, false, not, ◌&&◌, IsTrue}
use Rattle.std.specs.Prelude.{List, Some, Ok, length}
use Rattle.bus_ticks.specs.declared.space.TheConstants.{SPACE_END}
use Rattle.bus_ticks.specs.declared.profile.Class.{Class}
use Rattle.bus_ticks.specs.declared.profile.Profile.{Profile}
use Rattle.bus_ticks.specs.declared.profile.RomTimes.{RomTimes}
use Rattle.bus_ticks.specs.Dearest.{AreDearest, IsDearestBlock}
use Rattle.bus_ticks.specs.Prices.{word_address}
use Rattle.bus_ticks.specs.Worst.{leave_price}
use Rattle.image.specs.Image.{Words, word_of}
use Rattle.memc.specs.Memory.{Memory, located}
use Rattle.memc.specs.declared.spots.Spot.{Spot}
use Rattle.arm2_decode.specs.Names.{is_pc, register_number}
use Rattle.arm2_decode.specs.Table.{Means}
use Rattle.arm2_decode.specs.Transfers.{asks_for_user, is_listed, word_count}
use Rattle.arm2_decode.specs.Writers.{data_writes_pc}
use Rattle.arm2_decode.specs.declared.flags.Flags.{Flags}
use Rattle.arm2_decode.specs.declared.instr.Instr.{Instr}
use Rattle.arm2_decode.specs.declared.instr.Operation.{Operation}
use Rattle.arm2_decode.specs.declared.instr.Operation.TheVariants as operation
use Rattle.arm2_decode.specs.declared.names.Register.{Register}
use Rattle.arm2_decode.specs.declared.names.Register.TheVariants.{R15}
use Rattle.shifter.specs.Shifts.{multiply_cycles}
use Rattle.arm2_effect.specs.declared.modes.Mode.TheVariants.{Svc}
use Rattle.arm2_effect.specs.Modes.{r15_in, register_in}
use Rattle.arm2_effect.specs.Operands.{first_of, rotated_byte, shifted_by_amount}
use Rattle.arm2_effect.specs.Outcomes.{outcome_of}
use Rattle.arm2_effect.specs.ProgramCounter.{address_of, flags_of, psr_with, r15_of}
use Rattle.arm2_transfer.specs.Block.{lowest_of}
use Rattle.arm2_transfer.specs.Bus.{seen}
use Rattle.arm2_transfer.specs.Single.{address_for, of_immediate}
use Rattle.arm2_exec.specs.State.{State}
use Rattle.arm2_exec.specs.Step.{fetched, with_lines}
use Rattle.arm2_exec.specs.declared.machine.Input.{Input}
use Rattle.control_flow.specs.Edges.{IsEdge, jump_ticks}
use Rattle.control_flow.specs.Kinds.{IsAction}
use Rattle.flow_graph.specs.StepLaw.{IsPlaceOf, label_by}
use Rattle.flow_graph.specs.Tight.{IsTight}
use Rattle.control_flow.specs.declared.edges.Edge.{Edge}
use Rattle.control_flow.specs.declared.edges.Label.TheVariants.{Skip}
use Rattle.control_flow.specs.declared.actions.Action.{Action}
use Rattle.control_flow.specs.declared.places.Place.{Place}
use Rattle.control_flow.specs.declared.places.Place.TheVariants.{At}
use Rattle.statement.specs.Stated.{Stated, class_at, cycles_at}

-- F and I set, the lowest two bits of the PSR
abbrev pub masked : ℕ
masked = 3

-- the machine is at the word's address in SVC mode, with these flags and both interrupts masked; it
-- fetches the word, and ROM's time fields are at their dearest
pub record FetchesAt (profile : Profile) (word address : ℕ) (flags : Flags) (s : State) : Type 0 where
  pub registers : length s.regs ≡ 27
  pub whole : address % 4 ≡ 0
  pub below : address < SPACE_END
  pub r15 : r15_in s.regs ≡ r15_of (psr_with flags masked) address Svc
  pub prices : s.profile ≡ profile
  pub dearest : AreDearest profile s.bus.memc.control.rom_times
  pub fetches : fetched s.bus.memc (r15_in s.regs) ≡ Some word

-- an address of a word that is the place's, to which a jump costs what the graph says
pub record IsDearestTarget (st : Stated) (profile : Profile) (to : Place) (t : ℕ) : Type 0 where
  pub whole : t % 4 ≡ 0
  pub below : t < SPACE_END
  pub is_place : IsPlaceOf st.leave t to
  pub price : (rom : RomTimes) → AreDearest profile rom
      → leave_price profile (record { address = t; rom = rom }) ≡ jump_ticks profile st.leave to

-- the words from an address on are of the class and cost the most that so many can, and the memory controller
-- has a spot for each
pub record IsDearestTransfer (profile : Profile) (class : Class) (store : Bool) (words : ℕ) (m : Memory)
    (spot : ℕ → Spot) (lowest : ℕ) : Type 0 where
  pub whole : lowest % 4 ≡ 0
  pub block : IsDearestBlock profile class words store
      (record { address = lowest; rom = m.control.rom_times })
  pub spots : (i : ℕ) → i < words → located m (word_address lowest i) false store ≡ Ok (spot i)

-- of the word at an address and the place to which its edge leads
module _ (st : Stated) (profile : Profile) (address : ℕ) (to : Place) (s : State) (i : Input) where
  -- its words are such by its base, and where it loads R15, the last of them holds a target
  pub record TransfersDearest (base : Register) (load loads_pc : Bool) (words lowest : ℕ) : Type 0 where
    pub spot : ℕ → Spot
    pub transfer : IsDearestTransfer profile (class_at st address (Some base)) (not load) words s.bus.memc
        spot lowest
    pub target : IsTrue (load && loads_pc)
        → IsDearestTarget st profile to
        (address_of (seen (with_lines i.lines.0 s.bus) i.port (spot (words - 1))))

  -- a value that data processing computes, where it is written to R15
  abbrev pub WritesTarget : Bool → (value : ℕ) → Type 0
  WritesTarget writes value = IsTrue writes → IsDearestTarget st profile to (address_of value)

  -- the registers and memory are such that the operation costs the most that it can by what is stated, and
  -- leads to the place
  abbrev pub IsSetFor : Operation → Type 0
  IsSetFor (operation.Multiply x) =
      multiply_cycles (register_in Svc (register_number x.rs) s.regs) ≡ cycles_at st address
  IsSetFor (operation.DataRegister x) =
      WritesTarget (data_writes_pc x.opcode x.rd)
      (outcome_of x.opcode (first_of 8 x.rn s.regs) (shifted_by_amount x.shift x.amount x.rm s.regs)
      (flags_of (r15_in s.regs))).value
  IsSetFor (operation.DataRegisterShift x) = data_writes_pc x.opcode x.rd ≡ false
  IsSetFor (operation.DataImmediate x) =
      WritesTarget (data_writes_pc x.opcode x.rd)
      (outcome_of x.opcode (first_of 8 x.rn s.regs) (rotated_byte x.value x.rotation s.regs)
      (flags_of (r15_in s.regs))).value
  IsSetFor (operation.SingleImmediate x) =
      (is_pc x.rn ≡ false) × (asks_for_user x.before x.write_back ≡ false)
      × TransfersDearest x.rn x.load (is_pc x.rd) 1
      (address_for (of_immediate x) (register_in Svc (register_number x.rn) s.regs))
  IsSetFor (operation.SingleRegister x) = ⊥
  IsSetFor (operation.Block x) =
      TransfersDearest x.rn x.load (is_listed x.list R15) (word_count x.list)
      (lowest_of x (register_in Svc (register_number x.rn) s.regs) (word_count x.list))
  IsSetFor (operation.Branch x) = Unit {0}
  IsSetFor (operation.Swi x) = Unit {0}
  IsSetFor (operation.UndefinedTransfer x) = Unit {0}
  IsSetFor (operation.CoprocessorTransfer x) = Unit {0}
  IsSetFor (operation.Coprocessor x) = Unit {0}

module _ (words : Words) (st : Stated) (profile : Profile) where
  -- the machine is at the edge's place; by its flags the word there is passed over or done as the edge is
  -- labelled, and where it is done, the machine is set for it
  pub record IsSetForEdge (e : Edge) (s : State) (i : Input) : Type 0 where
    pub calls : List ℕ
    pub address : ℕ
    pub word : ℕ
    pub action : Action
    pub flags : Flags
    pub is_edge : IsEdge words st profile e
    pub from : e.from ≡ At calls address
    pub has : word_of words address ≡ Some word
    pub is : IsAction word action
    pub label : label_by flags action.cond ≡ e.label
    pub begins : FetchesAt profile word address flags s
    pub skipped_or_set : (e.label ≡ Skip)
        ⊎ ((x : Instr) × Means word x × IsSetFor st profile address e.to s i x.operation)

-- A machine that is set for an edge takes it at exactly its price.
abbrev pub TightLaw : Type 0
TightLaw =
    (words : Words) (st : Stated) (profile : Profile) (e : Edge) (s : State) (i : Input) →
    IsSetForEdge words st profile e s i → IsTight words st profile e s i

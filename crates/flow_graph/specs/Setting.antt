-- How a machine is set for one word, besides where it is: what the clauses of private functions cite. Our
-- own choice, among the addresses that cost the most (bus_ticks, Dearest).
use Rattle.std.specs.Prelude.{◌≡◌, ◌≢◌, ◌<◌, ◌≤◌, ◌*◌, ◌%◌, ◌⊎◌, ℕ, Bool, true, false, not}
use Rattle.std.specs.Prelude.{Some, None, Ok, IfSome, if◌then◌else◌}
use Rattle.bus_ticks.specs.declared.space.TheConstants.{ROM_START, SPACE_END}
use Rattle.bus_ticks.specs.declared.profile.Class.{Class}
use Rattle.bus_ticks.specs.declared.profile.Class.TheVariants.{Any, Ram, Rom, Io}
use Rattle.bus_ticks.specs.declared.profile.Class.TheVariants.{Slow, Medium, Fast, Synchronous}
use Rattle.bus_ticks.specs.declared.profile.Profile.{Profile}
use Rattle.bus_ticks.specs.declared.profile.RomTimes.{RomTimes}
use Rattle.bus_ticks.specs.Dearest.{AreDearest, IsDearestBlock}
use Rattle.bus_ticks.specs.Prices.{word_address}
use Rattle.memc.specs.Memory.{Memory, located, shift_of_size, word_at}
use Rattle.memc.specs.declared.spots.PageSize.TheVariants.{K32}
use Rattle.memc.specs.declared.spots.Spot.{Spot}
use Rattle.memc.specs.declared.spots.Spot.TheVariants as spot
use Rattle.shifter.specs.declared.shifts.Shifted.{Shifted}
use Rattle.shifter.specs.Shifts.{by_register}
use Rattle.shifter.specs.Word.{word_bits}
use Rattle.ioc.specs.Registers.{is_register}
use Rattle.arm2_decode.specs.Names.{is_pc, register_number}
use Rattle.arm2_decode.specs.declared.instr.DataImmediate.{DataImmediate}
use Rattle.arm2_decode.specs.declared.instr.Operation.{Operation}
use Rattle.arm2_decode.specs.declared.names.Shift.TheVariants.{Ror}
use Rattle.arm2_effect.specs.declared.modes.Mode.TheVariants.{Svc}
use Rattle.arm2_effect.specs.Modes.{r15_in, register_in}
use Rattle.arm2_effect.specs.Operands.{shifted_of}
use Rattle.arm2_effect.specs.ProgramCounter.{mode_of}
use Rattle.arm2_exec.specs.State.{State}
use Rattle.arm2_exec.specs.declared.machine.Input.{Input}
use Rattle.image.specs.Pages.{page_of}
use Rattle.loader.specs.PagePlan.{physical_page}
use Rattle.control_flow.specs.Kinds.{base_of}
use Rattle.flow_graph.specs.TightWork.{IsDearestTarget, IsSetFor}
use Rattle.control_flow.specs.declared.places.Place.{Place}
use Rattle.flow_graph.specs.declared.tight_setting.Aim.{Aim}
use Rattle.flow_graph.specs.declared.tight_setting.Held.{Held}
use Rattle.flow_graph.specs.declared.tight_setting.Setting.{Setting}
use Rattle.statement.specs.Stated.{Stated, class_at, cycles_at}

-- ## Where a transfer's words are

-- RAM or ROM
abbrev pub IsMemory : Spot → Type 0
IsMemory (spot.Ram place) = Unit {0}
IsMemory (spot.Rom address) = Unit {0}
IsMemory _ = ⊥

-- among the devices, where a load takes the port's word
abbrev pub IsPort : Spot → Type 0
IsPort (spot.Io address) = is_register address ≡ false
IsPort _ = ⊥

-- where a load finds the words of a class: of Ram and Rom in memory; of all others, Any too, among the
-- devices
abbrev pub IsSource : Class → Spot → Type 0
IsSource Ram place = IsMemory place
IsSource Rom place = IsMemory place
IsSource Io place = IsPort place
IsSource Any place = IsPort place
IsSource Slow place = IsPort place
IsSource Medium place = IsPort place
IsSource Fast place = IsPort place
IsSource Synchronous place = IsPort place

-- a word's address on the spare page, or one in ROM that is not that of the word that is executed
abbrev pub IsData : (spare address : ℕ) → ℕ → Type 0
IsData spare address at =
    (at % 4 ≡ 0)
    × ((page_of at ≡ physical_page spare) ⊎ ((ROM_START ≤ at) × (at < SPACE_END) × (at ≢ address)))

-- of a class in memory, such an address
abbrev pub IsDataOf : Class → (spare address : ℕ) → ℕ → Type 0
IsDataOf Ram spare address at = IsData spare address at
IsDataOf Rom spare address at = IsData spare address at
IsDataOf Io spare address at = Unit {0}
IsDataOf Any spare address at = Unit {0}
IsDataOf Slow spare address at = Unit {0}
IsDataOf Medium spare address at = Unit {0}
IsDataOf Fast spare address at = Unit {0}
IsDataOf Synchronous spare address at = Unit {0}

-- a transfer that starts there costs the most of its class, and with pages of 32 KB each of its words has a
-- spot; of a load, one from where a word can be loaded
pub record MayStart (aim : Aim) (load : Bool) (words lowest : ℕ) : Type 0 where
  pub whole : lowest % 4 ≡ 0
  pub below : lowest < SPACE_END
  pub block : (rom : RomTimes) → AreDearest aim.profile rom
      → IsDearestBlock aim.profile aim.class words (not load) (record { address = lowest; rom = rom })
  pub spots : ℕ → Spot
  pub located_at : (m : Memory) → m.shift ≡ shift_of_size K32 → (i : ℕ) → i < words
      → located m (word_address lowest i) false (not load) ≡ Ok (spots i)
  pub sources : load ≡ true → (i : ℕ) → i < words → IsSource aim.class (spots i)
  pub data_at : load ≡ true → (i : ℕ) → i < words
      → IsDataOf aim.class aim.spare aim.address (word_address lowest i)

-- ## Settings

-- an immediate's byte, rotated
abbrev pub rotated : DataImmediate → (carry : Bool) → Shifted
rotated x carry = shifted_of (by_register Ror (2 * x.rotation) (word_bits x.value) carry)

abbrev pub of_register : Held → Setting
of_register held = record { register = Some held; port = 0; word = None }

-- where the words of a class come from: one of them is the target
abbrev pub with_source : Class → Held → (last target : ℕ) → Setting
with_source Ram base last target = record { register = Some base; port = 0; word = Some (last, target) }
with_source Rom base last target = record { register = Some base; port = 0; word = Some (last, target) }
with_source Io base last target = record { register = Some base; port = target; word = None }
with_source Any base last target = record { register = Some base; port = target; word = None }
with_source Slow base last target = record { register = Some base; port = target; word = None }
with_source Medium base last target = record { register = Some base; port = target; word = None }
with_source Fast base last target = record { register = Some base; port = target; word = None }
with_source Synchronous base last target = record { register = Some base; port = target; word = None }

abbrev pub transfer_setting : Aim → Held → (loads_pc : Bool) → (last : ℕ) → Setting
transfer_setting aim base loads_pc last =
    if loads_pc then with_source aim.class base last aim.target else of_register base

-- the machine has what the setting says, in SVC mode, with pages of 32 KB and ROM at its dearest
pub record HasSetting (profile : Profile) (setting : Setting) (s : State) (i : Input) : Type 0 where
  pub mode : mode_of (r15_in s.regs) ≡ Svc
  pub shift : s.bus.memc.shift ≡ shift_of_size K32
  pub dearest : AreDearest profile s.bus.memc.control.rom_times
  pub register : IfSome setting.register
      (λ held. register_in Svc (register_number held.register) s.regs ≡ held.word)
  pub port : i.port ≡ setting.port
  pub word : IfSome setting.word
      (λ e. (place : Spot) → located s.bus.memc e.0 false false ≡ Ok place → word_at s.bus.memc place ≡ e.1)

-- such a machine is set for the operation, whatever is stated of which the aim has the class and the cycles
pub record Sets (aim : Aim) (o : Operation) (setting : Setting) : Type 0 where
  pub register_other : IfSome setting.register (λ held. is_pc held.register ≡ false)
  pub word_apart : IfSome setting.word (λ e. IsData aim.spare aim.address e.0)
  pub set : (st : Stated) (to : Place) (s : State) (i : Input)
      → aim.class ≡ class_at st aim.address (base_of o) → aim.cycles ≡ cycles_at st aim.address
      → IsDearestTarget st aim.profile to aim.target → HasSetting aim.profile setting s i
      → IsSetFor st aim.profile aim.address to s i o

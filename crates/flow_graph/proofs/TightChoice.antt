-- For each free operation a machine can be set: the registers, the port and the word in memory that
-- `setting_for` chooses, as values.
use Rattle.std.proofs.Common.{◌≡◌, ℕ, zero, suc, ◌+◌, ◌-◌, ◌*◌, ◌/◌, ◌%◌, ◌^◌, ◌<◌, ◌≤◌, ◌&&◌, inl, inr, Bool, true, false, cond, not, max, None, IsTrue, refl, sym, ◌∙◌, arith}
use Rattle.std.specs.Prelude.{IfSome}
use Rattle.std.proofs.lemmas.Bool.{cases_lt, false≢true, not-true}
use Rattle.bus_ticks.specs.declared.profile.Class.{Class}
use Rattle.bus_ticks.specs.declared.profile.Class.TheVariants.{Any, Ram, Rom, Io}
use Rattle.bus_ticks.specs.declared.profile.Class.TheVariants.{Slow, Medium, Fast, Synchronous}
use Rattle.bus_ticks.specs.declared.profile.Profile.{Profile}
use Rattle.bus_ticks.specs.declared.profile.RomTimes.{RomTimes}
use Rattle.bus_ticks.specs.Dearest.{IsDearestBlock, IsDearestLeave}
use Rattle.bus_ticks.specs.Prices.{choice, word_address}
use Rattle.bus_ticks.specs.Ranges.{greatest}
use Rattle.bus_ticks.specs.Worst.{IsDevice, IsOf, IsSpeed, worst_leave, worst_rom}
use Rattle.bus_ticks.proofs.LeaveLemmas.{any_of, fast_first, io_far, io_near, medium_first, ram_far, ram_near, rom_far, rom_near, slow_first, synchronous_far, synchronous_near}
use Rattle.bus_ticks.proofs.WorstLemmas.{any_block, at_page, io_block, ram_block_at, speed_block}
use Rattle.shifter.proofs.ShiftLemmas.{some_multiplier}
use Rattle.arm2_decode.proofs.Listed.{few_words, some_words}
use Rattle.arm2_decode.specs.Names.{is_pc}
use Rattle.arm2_decode.specs.Transfers.{is_listed, word_count}
use Rattle.arm2_decode.specs.Writers.{data_writes_pc}
use Rattle.arm2_decode.specs.declared.instr.Block.{Block}
use Rattle.arm2_decode.specs.declared.instr.DataImmediate.{DataImmediate}
use Rattle.arm2_decode.specs.declared.instr.DataRegister.{DataRegister}
use Rattle.arm2_decode.specs.declared.instr.Operation.{Operation}
use Rattle.arm2_decode.specs.declared.instr.Operation.TheVariants as operation
use Rattle.arm2_decode.specs.declared.instr.SingleImmediate.{SingleImmediate}
use Rattle.arm2_decode.specs.declared.names.Register.TheVariants.{R15}
use Rattle.arm2_transfer.specs.Registers.{address_by}
use Rattle.arm2_exec.specs.State.{State}
use Rattle.arm2_exec.specs.declared.machine.Input.{Input}
use Rattle.control_flow.specs.Free.{adds_an_immediate, is_free_operation}
use Rattle.flow_graph.specs.Setting.{MayStart, Sets, of_register, transfer_setting, with_source}
use Rattle.flow_graph.specs.TightWork.{IsSetFor}
use Rattle.control_flow.specs.declared.places.Place.{Place}
use Rattle.flow_graph.specs.declared.tight_setting.Aim.{Aim}
use Rattle.flow_graph.specs.declared.tight_setting.Held.{Held}
use Rattle.flow_graph.specs.declared.tight_setting.Setting.{Setting}
use Rattle.statement.specs.Stated.{Stated}
use Rattle.flow_graph.proofs.SettingLemmas.{AreDevices, loads_in_rom, starts_at_device, starts_in_ram, stores_in_rom}
use Rattle.flow_graph.proofs.SettingSets.{block_sets, copy_sets, either, moved_back, multiply_sets, single_sets_at, some_addend, sum_sets}

-- ## Where a jump out of the handler costs the most

leave_to_ram : (p : Profile) → (x : ℕ) × IsDearestLeave p Ram x
leave_to_ram p = elim (cases_lt p.quad p.unfitted) [ inl h ↦ (0x2FFFFFC, ram_far p h) | inr h ↦ (12, ram_near p h) ]

leave_to_rom : (p : Profile) → (x : ℕ) × IsDearestLeave p Rom x
leave_to_rom p = elim (cases_lt (worst_rom p) p.quad) [ inl h ↦ (0x3FFFFFC, rom_far p h) | inr h ↦ (0x3400000, rom_near p h) ]

leave_to_io : (p : Profile) → (x : ℕ) × IsDearestLeave p Io x
leave_to_io p = elim (cases_lt (worst_rom p) p.unfitted) [ inl h ↦ (0x3000000, io_near p h) | inr h ↦ (0x33FFFFC, io_far p h) ]

-- a target of the class that costs the most
pub dearest_leave : (p : Profile) (c : Class) → (x : ℕ) × IsDearestLeave p c x
dearest_leave p Ram = leave_to_ram p
dearest_leave p Rom = leave_to_rom p
dearest_leave p Io = leave_to_io p
dearest_leave p Slow = (0x3000000, slow_first p)
dearest_leave p Medium = (0x3080000, medium_first p)
dearest_leave p Fast = (0x3100000, fast_first p)
dearest_leave p Synchronous = elim (cases_lt (worst_rom p) p.unfitted) [ inl h ↦ (0x3180000, synchronous_near p h) | inr h ↦ (0x33FFFFC, synchronous_far p h) ]
dearest_leave p Any =
    elim (cases_lt (max (worst_leave p Ram) (worst_leave p Rom)) (worst_leave p Io)) [
      | inl h ↦ let best = leave_to_io p in (best.0, any_of p Io best.0 (omega arith) best.1)
      | inr g ↦ elim (cases_lt (worst_leave p Ram) (worst_leave p Rom)) [
        | inl h ↦ let best = leave_to_rom p in (best.0, any_of p Rom best.0 (omega arith) best.1)
        | inr h ↦ let best = leave_to_ram p in (best.0, any_of p Ram best.0 (omega arith) best.1)
      ]
    ]

-- ## Where a transfer costs the most

-- some of four is the greatest
some_greatest : (a b c d : ℕ) → (i : ℕ) × (i < 4) × (choice i a b c d ≡ greatest a b c d)
some_greatest a b c d =
    elim (cases_lt (max a b) (max c d)) [
      | inl low ↦ elim (cases_lt c d) [ inl h ↦ (3, omega arith, omega arith) | inr h ↦ (2, omega arith, omega arith) ]
      | inr high ↦ elim (cases_lt a b) [ inl h ↦ (1, omega arith, omega arith) | inr h ↦ (0, omega arith, omega arith) ]
    ]

from_12 : (profile : Profile) (base words : ℕ) → base % 16 ≡ 0 → 1 ≤ words → base + 12 + 4 * words ≤ 0x3000000 → (store : Bool) (rom : RomTimes)
    → IsDearestBlock profile Ram words store (record { address = base + 12; rom = rom })
from_12 profile base zero whole some room store rom = absurd (omega (arith, some))
from_12 profile base (suc k) whole some room store rom = ram_block_at profile base k store rom whole room

module _ (aim : Aim) (load : Bool) (words : ℕ) (some : 1 ≤ words) (few : words ≤ 16) (spare : aim.spare < 128) where
  abbrev Start : Type 0
  Start = (lowest : ℕ) × MayStart aim load words lowest

  in_ram : aim.class ≡ Ram → Start
  in_ram class =
      let base : ℕ = 0x2000000 + aim.spare * 0x8000 in (
        base + 12,
        starts_in_ram aim load words some few 12 class spare refl (omega arith) (λ rom dear. from_12 aim.profile base words (omega arith) some (omega (arith, spare, few)) (not load) rom),
      )

  in_io : aim.class ≡ Io → Start
  in_io class =
      let best = some_greatest aim.profile.slow aim.profile.medium aim.profile.fast aim.profile.synchronous in
      let small = best.1 in (
        0x3000000 + 0x80000 * best.0,
        starts_at_device aim load words some few (0x3000000 + 0x80000 * best.0) Io class tt (omega arith) (omega arith) (omega (arith, small))
            (λ rom dear. io_block aim.profile best.0 best.1 best.2 words few (not load) rom),
      )

  in_any : aim.class ≡ Any → Start
  in_any class =
      let best = some_greatest aim.profile.slow aim.profile.medium aim.profile.fast aim.profile.synchronous in
      let small = best.1 in (
        0x3000000 + 0x80000 * best.0,
        starts_at_device aim load words some few (0x3000000 + 0x80000 * best.0) Any class tt (omega arith) (omega arith) (omega (arith, small))
            (λ rom dear. any_block aim.profile words (not load) _ (io_block aim.profile best.0 best.1 best.2 words few (not load) rom)),
      )

  in_rom : (b : Bool) → load ≡ b → aim.class ≡ Rom → Start
  in_rom false is class = (0x3400000, stores_in_rom aim load words some few is class)
  in_rom true is class = elim (cases_lt aim.address 0x3FFFF00) [
    | inl low ↦ (0x3FFFF00, loads_in_rom aim load words some few 0x3FFFF00 is class refl (omega arith) (omega arith) (inr low))
    | inr high ↦ (0x3FFFE00, loads_in_rom aim load words some few 0x3FFFE00 is class refl (omega arith) (omega arith) (inl (omega (arith, high))))
  ]

  at_speed : (c : Class) (speed : ℕ) → speed < 4 → IsSpeed c → AreDevices c → ((x : ℕ) → IsDevice speed x → IsOf c x) → aim.class ≡ c → Start
  at_speed c speed small is devices within class = (
    0x3000000 + 0x80000 * speed,
    starts_at_device aim load words some few (0x3000000 + 0x80000 * speed) c class devices (omega arith) (omega arith) (omega (arith, small))
        (λ rom dear. speed_block aim.profile c words (not load) _ is (at_page c speed small within words few rom)),
  )

  start : (c : Class) → aim.class ≡ c → Start
  start Ram class = in_ram class
  start Rom class = in_rom load refl class
  start Io class = in_io class
  start Any class = in_any class
  start Slow class = at_speed Slow 0 (omega arith) tt tt (λ x d. d) class
  start Medium class = at_speed Medium 1 (omega arith) tt tt (λ x d. d) class
  start Fast class = at_speed Fast 2 (omega arith) tt tt (λ x d. d) class
  start Synchronous class = at_speed Synchronous 3 (omega arith) tt tt (λ x d. d) class

-- ## Bases

-- a base by which a block's lowest word is at an address
base_by : (up before : Bool) (lowest k : ℕ) → lowest % 4 ≡ 0 → lowest < 2 ^ 26 → 1 ≤ k → k ≤ 16
    → (base : ℕ) × (base < 2 ^ 32) × (cond up (cond before ((base + 4) % 2 ^ 32) base) (cond before ((base + (2 ^ 32 - 4 * k)) % 2 ^ 32) ((base + (2 ^ 32 - 4 * k + 4)) % 2 ^ 32)) / 4 * 4 ≡ lowest)
base_by true true lowest k whole below some few = ((lowest + (2 ^ 32 - 4)) % 2 ^ 32, omega arith, omega (arith, whole, below))
base_by true false lowest k whole below some few = (lowest, omega (arith, below), omega (arith, whole))
base_by false true lowest k whole below some few = (lowest + 4 * k, omega (arith, below, few), omega (arith, whole, below, some, few))
base_by false false lowest k whole below some few = (lowest + 4 * k - 4, omega (arith, below, few), omega (arith, whole, below, some, few))

-- a base by which a single transfer's word is at an address
moved_small : (before up : Bool) (address offset : ℕ) → address < 2 ^ 32 → address_by before up address offset < 2 ^ 32
moved_small false up address offset below = below
moved_small true true address offset below = omega arith
moved_small true false address offset below = omega arith

-- ## Settings

-- the words of a setting are of 32 bits
pub record IsSmall (setting : Setting) : Type 0 where
  pub register : IfSome setting.register (λ held. held.word < 2 ^ 32)
  pub port : setting.port < 2 ^ 32
  pub word : IfSome setting.word (λ e. e.1 < 2 ^ 32)

pub nothing_small : IsSmall (record { register = None; port = 0; word = None })
nothing_small = record { register = tt; port = omega arith; word = tt }

register_small : (held : Held) → held.word < 2 ^ 32 → IsSmall (of_register held)
register_small held fits = record { register = fits; port = omega arith; word = tt }

-- what a machine has for an operation
pub record Chosen (aim : Aim) (o : Operation) : Type 0 where
  pub setting : Setting
  pub sets : Sets aim o setting
  pub small : IsSmall setting

module _ (aim : Aim) (spare : aim.spare < 128) (small : aim.target < 2 ^ 26) (some : 1 ≤ aim.cycles) (few : aim.cycles ≤ 16) where
  -- nothing is set
  nothing : (o : Operation) → ((st : Stated) (to : Place) (s : State) (i : Input) → IsSetFor st aim.profile aim.address to s i o) → Chosen aim o
  nothing o always = record {
    setting = record { register = None; port = 0; word = None };
    sets = record { register_other = tt; word_apart = tt; set = λ st to s i class_is cycles_are target has. always st to s i };
    small = nothing_small;
  }

  source_small : (class : Class) (base : Held) (last : ℕ) → base.word < 2 ^ 32 → IsSmall (with_source class base last aim.target)
  source_small Ram base last fits = record { register = fits; port = omega arith; word = omega (arith, small) }
  source_small Rom base last fits = record { register = fits; port = omega arith; word = omega (arith, small) }
  source_small Io base last fits = record { register = fits; port = omega (arith, small); word = tt }
  source_small Any base last fits = record { register = fits; port = omega (arith, small); word = tt }
  source_small Slow base last fits = record { register = fits; port = omega (arith, small); word = tt }
  source_small Medium base last fits = record { register = fits; port = omega (arith, small); word = tt }
  source_small Fast base last fits = record { register = fits; port = omega (arith, small); word = tt }
  source_small Synchronous base last fits = record { register = fits; port = omega (arith, small); word = tt }

  transfer_small : (base : Held) (loads_pc : Bool) (last : ℕ) → base.word < 2 ^ 32 → IsSmall (transfer_setting aim base loads_pc last)
  transfer_small base false last fits = register_small base fits
  transfer_small base true last fits = source_small aim.class base last fits

  copied : (x : DataRegister) → IsTrue (is_free_operation (operation.DataRegister x)) → (b : Bool) → data_writes_pc x.opcode x.rd ≡ b → Chosen aim (operation.DataRegister x)
  copied x free true writes = record {
    setting = of_register (record { register = x.rm; word = aim.target });
    sets = copy_sets aim x free writes;
    small = register_small (record { register = x.rm; word = aim.target }) (omega (arith, small));
  }
  copied x free false keeps = nothing (operation.DataRegister x) (λ st to s i writes. absurd (false≢true (sym keeps ∙ writes)))

  summed : (x : DataImmediate) → IsTrue (is_free_operation (operation.DataImmediate x)) → (b : Bool) → data_writes_pc x.opcode x.rd ≡ b → Chosen aim (operation.DataImmediate x)
  summed x free true writes =
      let addend = some_addend x aim.target (omega (arith, small)) (either (data_writes_pc x.opcode x.rd) (adds_an_immediate x) free writes) in
      record {
        setting = of_register (record { register = x.rn; word = addend.0 });
        sets = sum_sets aim x addend.0 free writes addend.2;
        small = register_small (record { register = x.rn; word = addend.0 }) addend.1;
      }
  summed x free false keeps = nothing (operation.DataImmediate x) (λ st to s i writes. absurd (false≢true (sym keeps ∙ writes)))

  single : (x : SingleImmediate) → IsTrue (is_free_operation (operation.SingleImmediate x)) → Chosen aim (operation.SingleImmediate x)
  single x free =
      let first = start aim x.load 1 (omega arith) (omega arith) spare aim.class refl in
      let below = first.1.below in
      let offset = x.offset_fits in
      let base : ℕ = address_by x.before (not x.up) first.0 x.offset in
      let held : Held = record { register = x.rn; word = base } in
      record {
        setting = transfer_setting aim held (x.load && is_pc x.rd) first.0;
        sets = single_sets_at aim x first.0 base free first.1 (moved_back x.before x.up first.0 x.offset (omega (arith, below)) (omega (arith, offset)));
        small = transfer_small held (x.load && is_pc x.rd) first.0 (moved_small x.before (not x.up) first.0 x.offset (omega (arith, below)));
      }

  block : (x : Block) → Chosen aim (operation.Block x)
  block x =
      let words : ℕ = word_count x.list in
      let first = start aim x.load words (some_words x) (few_words x.list) spare aim.class refl in
      let base = base_by x.up x.before first.0 words first.1.whole first.1.below (some_words x) (few_words x.list) in
      let held : Held = record { register = x.rn; word = base.0 } in
      let last : ℕ = word_address first.0 (words - 1) in
      record {
        setting = transfer_setting aim held (x.load && is_listed x.list R15) last;
        sets = block_sets aim x first.0 base.0 first.1 base.2;
        small = transfer_small held (x.load && is_listed x.list R15) last base.1;
      }

  pub choose : (o : Operation) → IsTrue (is_free_operation o) → Chosen aim o
  choose (operation.Multiply x) free =
      let number = some_multiplier aim.cycles some few in
      record {
        setting = of_register (record { register = x.rs; word = number.0 });
        sets = multiply_sets aim x number.0 number.2;
        small = register_small (record { register = x.rs; word = number.0 }) number.1;
      }
  choose (operation.DataRegister x) free = copied x free (data_writes_pc x.opcode x.rd) refl
  choose (operation.DataRegisterShift x) free = nothing (operation.DataRegisterShift x) (λ st to s i. not-true (data_writes_pc x.opcode x.rd) free)
  choose (operation.DataImmediate x) free = summed x free (data_writes_pc x.opcode x.rd) refl
  choose (operation.SingleImmediate x) free = single x free
  choose (operation.SingleRegister x) free = absurd (false≢true free)
  choose (operation.Block x) free = block x
  choose (operation.Branch x) free = nothing (operation.Branch x) (λ st to s i. tt)
  choose (operation.Swi x) free = nothing (operation.Swi x) (λ st to s i. tt)
  choose (operation.UndefinedTransfer x) free = nothing (operation.UndefinedTransfer x) (λ st to s i. tt)
  choose (operation.CoprocessorTransfer x) free = nothing (operation.CoprocessorTransfer x) (λ st to s i. tt)
  choose (operation.Coprocessor x) free = nothing (operation.Coprocessor x) (λ st to s i. tt)

-- Which machine file is built from parts.
use Rattle.std.specs.Prelude.{◌≡◌, ◌≤◌, ◌<◌, ◌^◌, true, [], All, IfSome, IsTrue, Ok, Err, length}
use Rattle.std.specs.List.{list_all}
use Rattle.std.specs.Map.{keys_of}
use Rattle.image.specs.Image.{may_hold}
use Rattle.memc.specs.Memory.{shift_of_size}
use Rattle.toml_reading.specs.Documents.{are_distinct}
use Rattle.bus_ticks.specs.Prices.{is_word_address}
use Rattle.machine_file.specs.MachineFile.{Read, are_latched, are_single, is_mappable}
use Rattle.machine_file.specs.Stated.{IocSetting, Stated, VidcSetting, no_ioc, no_vidc}
use Rattle.machine_file.specs.declared.parts.MachineParts.{MachineParts}
use Rattle.machine_file.specs.declared.machine_faults.MachineFileFault.TheVariants.{OutOfRange, Twice}

-- what the parts state; there are no events, and the devices are as after a reset
abbrev pub stated_by : MachineParts → Stated
stated_by p =
    record {
      processor =
          record {
            pc = p.processor.pc;
            mode = p.processor.mode;
            flags = p.processor.flags;
            registers = p.processor.registers;
          };
      controller =
          record {
            size = p.controller.size;
            low_rom = p.controller.low_rom;
            high_rom = p.controller.high_rom;
            pages = p.controller.pages.items;
          };
      schedule = record { steps = p.schedule.steps; port = p.schedule.port; events = [] };
      words = p.words.items;
      ioc = no_ioc;
      vidc = no_vidc;
    }

-- each number is one that its key takes, and MEMC can map each page
pub record IsInRange (s : Stated) : Type 0 where
  pub pc : IsTrue (is_word_address s.processor.pc)
  pub low_rom : s.controller.low_rom ≤ 3
  pub high_rom : s.controller.high_rom ≤ 3
  pub mappable : list_all (is_mappable (shift_of_size s.controller.size)) s.controller.pages ≡ true
  pub steps : s.schedule.steps ≤ 65536
  pub held : All (λ w. IsTrue (may_hold w.0)) s.words

-- no page and no word appears twice
pub record HasNoneTwice (s : Stated) : Type 0 where
  pub pages_once : are_single s.controller.pages ≡ true
  pub words_once : are_distinct (keys_of s.words) ≡ true

-- the answer to what parts state, but for lack of memory
pub record IsBuilt (s : Stated) (answer : Read Stated) : Type 0 where
  pub file : IsInRange s → HasNoneTwice s → answer ≡ Ok s
  pub out_of_range : ¬ IsInRange s → answer ≡ Err OutOfRange
  pub twice : IsInRange s → ¬ HasNoneTwice s → answer ≡ Err Twice

-- what every machine file has: 26 registers, and registers and port of 32 bits
pub record AreWords (s : Stated) : Type 0 where
  pub count : length s.processor.registers ≡ 26
  pub registers : All (λ w. w < 2 ^ 32) s.processor.registers
  pub port : s.schedule.port < 2 ^ 32

-- every machine file's devices have numbers that their keys take: those of IOC
pub record IsIocInRange (s : IocSetting) : Type 0 where
  pub mask_a : s.mask_a ≤ 0xFF
  pub mask_b : s.mask_b ≤ 0xFF
  pub mask_fiq : s.mask_fiq ≤ 0xFF
  pub requests_a : IsTrue (are_latched s.requests_a)
  pub latch_0 : s.timer_0.latch ≤ 0xFFFF
  pub count_0 : IfSome s.timer_0.count (λ n. n ≤ 0xFFFF)
  pub latch_1 : s.timer_1.latch ≤ 0xFFFF
  pub count_1 : IfSome s.timer_1.count (λ n. n ≤ 0xFFFF)

-- and those of VIDC
pub record IsVidcInRange (s : VidcSetting) : Type 0 where
  pub horizontal_cycle : IfSome s.horizontal_cycle (λ n. n ≤ 0x3FF)
  pub vertical_cycle : IfSome s.vertical_cycle (λ n. n ≤ 0x3FF)
  pub display_end : s.display_end ≤ 0x3FF
  pub pixel_rate : s.pixel_rate ≤ 3
  pub ticks : s.ticks < 2 ^ 32

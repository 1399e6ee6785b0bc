-- Exceptions (VL86C010 data sheet, exceptions; reset is another matter).
use Rattle.std.specs.Prelude.{ℕ, ◌+◌, ◌*◌, ◌/◌, ◌%◌, Bool, true, false, if◌then◌else◌, List}
use Rattle.arm2_effect.specs.declared.modes.Mode.TheVariants as mode
use Rattle.arm2_effect.specs.declared.exceptions.Vector.{Vector}
use Rattle.arm2_effect.specs.declared.exceptions.Vector.TheVariants.{Undefined, Swi, PrefetchAbort, DataAbort}
use Rattle.arm2_effect.specs.declared.exceptions.Vector.TheVariants.{AddressException, Irq, Fiq}
use Rattle.arm2_effect.specs.declared.exceptions.Entry.{Entry}
use Rattle.arm2_effect.specs.declared.step_end.Kind.TheVariants.{Taken}
use Rattle.arm2_effect.specs.Modes.{r15_in, with_r15, with_register}
use Rattle.arm2_effect.specs.ProgramCounter.{psr_of, address_of, r15_of, r15_ahead}
use Rattle.arm2_effect.specs.Effects.{Effect, onward}

-- where each exception goes, its mode, whether it masks FIQ too, and what R14 adds to the instruction's
-- address
abbrev pub entry_at : Vector → Entry
entry_at Undefined = record { address = 0x04; mode = mode.Svc; masks_fiq = false; return_offset = 4 }
entry_at Swi = record { address = 0x08; mode = mode.Svc; masks_fiq = false; return_offset = 4 }
entry_at PrefetchAbort = record { address = 0x0C; mode = mode.Svc; masks_fiq = false; return_offset = 4 }
entry_at DataAbort = record { address = 0x10; mode = mode.Svc; masks_fiq = false; return_offset = 8 }
entry_at AddressException = record { address = 0x14; mode = mode.Svc; masks_fiq = false; return_offset = 8 }
entry_at Irq = record { address = 0x18; mode = mode.Irq; masks_fiq = false; return_offset = 4 }
entry_at Fiq = record { address = 0x1C; mode = mode.Fiq; masks_fiq = true; return_offset = 4 }

-- the PSR with I set, and with F set where FIQ is masked
abbrev pub masked : Bool → ℕ → ℕ
masked masks_fiq psr = psr / 4 * 4 + 2 + (if masks_fiq then 1 else psr % 2)

abbrev pub taken_by : Vector → Entry → List ℕ → Effect
taken_by vector entry regs =
    record {
      kind = Taken vector;
      accesses = onward (address_of (r15_in regs)) entry.address;
      regs =
          with_r15
          (r15_of (masked entry.masks_fiq (psr_of (r15_in regs))) entry.address entry.mode)
          (with_register entry.mode 14 (r15_ahead (r15_in regs) entry.return_offset) regs);
    }

-- an exception: R14 of the new mode keeps the PSR, the mode and the return address
unfoldable pub taken : Vector → List ℕ → Effect
taken vector regs = taken_by vector (entry_at vector) regs

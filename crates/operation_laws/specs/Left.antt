-- What an instruction leaves of the 27 registers, in general: of R15 by its parts, and of the others by their
-- places among all.
use Rattle.std.specs.Prelude.{◌≡◌, ℕ, ◌<◌, ◌==◌, Bool, true, false, if◌then◌else◌, List, length}
use Rattle.std.specs.Prelude.{slice_index}
use Rattle.arm2_decode.specs.Names.{register_number}
use Rattle.arm2_decode.specs.declared.flags.Flags.{Flags}
use Rattle.arm2_decode.specs.declared.names.Register.{Register}
use Rattle.arm2_effect.specs.Modes.{is_user, r15_in, slot_of}
use Rattle.arm2_effect.specs.Operands.{current_mode}
use Rattle.arm2_effect.specs.ProgramCounter.{address_of, flags_of, is_fiq_masked, is_irq_masked, mode_of}

-- ## R15

-- What becomes of the PSR and the mode: they stay, or the condition flags are set, or those of a word come in.
pub data Psr : Type 0 where
  Kept : Psr
  Flagged : Flags → Psr
  Restored : ℕ → Psr

-- the condition flags, where R15 was r
abbrev pub flags_left : Psr → (r : ℕ) → Flags
flags_left Kept r = flags_of r
flags_left (Flagged flags) r = flags
flags_left (Restored word) r = flags_of word

-- the word that I, F and the mode are those of: in User mode they stay in any case
abbrev pub rights_left : Psr → (r : ℕ) → ℕ
rights_left Kept r = r
rights_left (Flagged flags) r = r
rights_left (Restored word) r = if is_user (mode_of r) then r else word

-- R15 before and after: the address where the instruction goes, the flags, F, I and the mode
pub record LeavesR15 (to : ℕ) (psr : Psr) (before after : ℕ) : Type 0 where
  pub address : address_of after ≡ to
  pub flags : flags_of after ≡ flags_left psr before
  pub fiq : is_fiq_masked after ≡ is_fiq_masked (rights_left psr before)
  pub irq : is_irq_masked after ≡ is_irq_masked (rights_left psr before)
  pub mode : mode_of after ≡ mode_of (rights_left psr before)

-- ## All registers

-- a register of the current mode is at this place among all
abbrev pub is_at : (regs : List ℕ) → Register → (place : ℕ) → Bool
is_at regs register place = slot_of (current_mode regs) (register_number register) == place

-- What is left in all registers: at each place before that of R15 a word that is written there, and where none
-- is, what was there; and R15.
pub record LeavesRegisters (writes : ℕ → Bool) (IsWord : (place word : ℕ) → Type 0) (to : ℕ) (psr : Psr)
    (before after : List ℕ) : Type 0 where
  pub as_many : length after ≡ length before
  pub written : (place : ℕ) → place < 26 → writes place ≡ true → IsWord place (slice_index after place)
  pub kept : (place : ℕ) → place < 26 → writes place ≡ false
      → slice_index after place ≡ slice_index before place
  pub r15 : LeavesR15 to psr (r15_in before) (r15_in after)

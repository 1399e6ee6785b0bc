-- What a whole transfer does, and what it costs (VL86C010 data sheet, instruction cycles, but for the
-- prices, what an aborted transfer leaves and costs, and what stops the machine).
use Rattle.std.specs.Prelude.{◌≡◌, ℕ, zero, suc, ◌==◌, Bool, true, false, if◌then◌else◌, List, [], ◌∷◌, ◌++◌}
use Rattle.bus_ticks.specs.Prices.{ahead_of, word_address}
use Rattle.arm2_effect.specs.declared.step_end.Kind.{Kind}
use Rattle.arm2_effect.specs.declared.step_end.Why.TheVariants.{UnsupportedWrite}
use Rattle.arm2_effect.specs.declared.step_end.Done.{Done}
use Rattle.arm2_effect.specs.declared.exceptions.Vector.TheVariants as vector
use Rattle.arm2_effect.specs.Effects.{Access, FetchN, Word, Internal, ticks_of, Effect, straight, refill}
use Rattle.arm2_effect.specs.Effects.{stopped}
use Rattle.arm2_effect.specs.Exceptions.{taken}
use Rattle.arm2_transfer.specs.declared.bus.Bus.{Bus}
use Rattle.arm2_transfer.specs.declared.processor.Processor.{Processor}
use Rattle.arm2_transfer.specs.declared.words.TransferFault.{TransferFault}
use Rattle.arm2_transfer.specs.declared.words.TransferFault.TheVariants as fault

-- how a step ends, its accesses, and the registers and the bus after it
pub record Moved : Type 0 where
  pub kind : Kind
  pub accesses : List Access
  pub regs : List ℕ
  pub bus : Bus

-- a processor with other registers and another bus; port and prices stay
abbrev pub with_state : List ℕ → Bus → Processor → Processor
with_state regs bus p = record p { registers = regs; bus = bus }

-- the code's answer, and the processor after it, are those of a transfer
pub record IsMoved (before : Processor) (done : Done) (after : Processor) (m : Moved) : Type 0 where
  pub kind : done.kind ≡ m.kind
  pub ticks : done.ticks ≡ ticks_of before.prices m.accesses
  pub state : after ≡ with_state m.regs m.bus before

-- what the registers alone do, with the bus as it was
abbrev pub on_bus : Bus → Effect → Moved
on_bus bus e = record { kind = e.kind; accesses = e.accesses; regs = e.regs; bus = bus }

-- An address of 2 ^ 26 or more, and words that are not moved: of an aborted transfer nothing is done or
-- priced but the exception, and an unsupported write stops the machine.
abbrev pub out_of_space : List ℕ → Bus → Moved
out_of_space regs bus = on_bus bus (taken vector.AddressException regs)

abbrev pub faulted : TransferFault → List ℕ → Bus → Moved
faulted fault.DataAbort regs bus = on_bus bus (taken vector.DataAbort regs)
faulted fault.UnsupportedWrite regs bus = on_bus bus (stopped UnsupportedWrite regs)

-- the first k words from an address on
unfoldable pub words_at : (store : Bool) → (address k : ℕ) → List Access
words_at store address zero = []
words_at store address (suc k) = words_at store address k ++ Word store (k == 0) (word_address address k) ∷ []

-- a load at a: the words, one cycle to take the last of them, and a refill at t where R15 is written
abbrev pub load_accesses : (a address k : ℕ) → (jumps : Bool) → (t : ℕ) → List Access
load_accesses a address k jumps t =
    straight a ++ words_at false address k ++ Internal 1 ∷ (if jumps then refill t else [])

-- a store at a: the next fetch does not follow the access before it
abbrev pub store_accesses : (a address k : ℕ) → List Access
store_accesses a address k = FetchN (ahead_of a 8) ∷ words_at true address k

-- nothing is changed, and no ticks pass
pub record ChangesNothing (before : Processor) (done : Done) (after : Processor) : Type 0 where
  pub ticks : done.ticks ≡ 0
  pub same : after ≡ before

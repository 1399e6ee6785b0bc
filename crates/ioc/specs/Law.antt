-- Time adds up: one advance is two that take the same ticks together.
use Rattle.std.specs.Prelude.{ℕ, ◌≡◌, ◌+◌}
use Rattle.ioc.specs.Interrupts.{Controller, advanced}

abbrev pub TicksAddUp : Type 0
TicksAddUp = (a b : ℕ) (c : Controller) → advanced (a + b) c ≡ advanced b (advanced a c)

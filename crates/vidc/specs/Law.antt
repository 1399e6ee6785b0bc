-- Time adds up: one advance is two that take the same ticks together.
use Rattle.std.specs.Prelude.{ℕ, ◌≡◌, ◌+◌}
use Rattle.vidc.specs.Video.{Video, advanced, flybacks}

abbrev pub TicksAddUp : Type 0
TicksAddUp = (a b : ℕ) (v : Video) →
    (advanced (a + b) v ≡ advanced b (advanced a v))
    × (flybacks (a + b) v ≡ flybacks a v + flybacks b (advanced a v))

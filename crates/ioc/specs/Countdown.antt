-- What the code keeps of two timers that are counted down from time to time.
use Rattle.std.specs.Prelude.{◌≡◌, ℕ, ◌<◌, ◌≤◌}
use Rattle.ioc.specs.declared.timers.Timers.{Timers}
use Rattle.ioc.specs.Timers.{ticked}

-- both requests are as they were, so many ticks on
pub record SameRequests (s : Timers) (ticks : ℕ) : Type 0 where
  pub first : (ticked ticks s).timer_0.request ≡ s.timer_0.request
  pub second : (ticked ticks s).timer_1.request ≡ s.timer_1.request

-- no request rises in fewer than `quiet` ticks, of which some are left
pub record IsCountdown (s : Timers) (quiet left : ℕ) : Type 0 where
  pub phase : s.phase < 4
  pub some : 1 ≤ left
  pub within : left ≤ quiet
  pub same : (ticks : ℕ) → ticks < quiet → SameRequests s ticks

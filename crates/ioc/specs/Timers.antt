-- The timers, one tick of the 8 MHz processor after the other (shaped on the VL86C410 data sheet's 2 MHz
-- timers that count down and load their latch). Both share one phase, and a timer with a count or a latch of
-- 0 rests.
use Rattle.std.specs.Prelude.{ℕ, zero, suc, ◌+◌, ◌-◌, true, ◌==◌, ◌||◌, if◌then◌else◌}
use Rattle.ioc.specs.declared.timers.Timer.{Timer}
use Rattle.ioc.specs.declared.timers.Timers.{Timers}

-- one decrement: at 1 the timer loads its latch and requests an interrupt
abbrev pub decremented : Timer → Timer
decremented t =
    if t.count == 0 || t.latch == 0 then t
    else if t.count == 1 then record t { count = t.latch; request = true }
    else record t { count = t.count - 1 }

-- so many decrements
abbrev pub after_decrements : ℕ → Timer → Timer
after_decrements zero t = t
after_decrements (suc n) t = decremented (after_decrements n t)

-- one tick: each fourth is a decrement of both timers
abbrev pub tick : Timers → Timers
tick s =
    if s.phase == 3
    then record { phase = 0; timer_0 = decremented s.timer_0; timer_1 = decremented s.timer_1 }
    else record s { phase = s.phase + 1 }

-- so many ticks
abbrev pub ticked : ℕ → Timers → Timers
ticked zero s = s
ticked (suc n) s = tick (ticked n s)

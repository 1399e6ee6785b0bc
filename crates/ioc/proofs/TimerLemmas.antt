-- A timer after some decrements, by its count and latch, and that the ticks of the timers add up.
use Rattle.std.proofs.Common.{◌≡◌, ℕ, zero, suc, ◌+◌, ◌-◌, ◌*◌, ◌/◌, ◌%◌, ◌<◌, ◌≤◌, ◌==◌, ◌||◌, ◌⊎◌, inl, inr, true, refl, ◌∙◌, ap, arith}
use Rattle.std.proofs.lemmas.Bool.{cases_lt}
use Rattle.std.proofs.lemmas.Bool.Decides.{nat_tests}
use Rattle.std.proofs.lemmas.Nat.{mod-mul-add, mod_below, div-add-mod'}
use Rattle.std.proofs.Math.Nat.{add-mod_right, zero-mod}
use Rattle.ioc.specs.declared.timers.Timer.{Timer}
use Rattle.ioc.specs.declared.timers.Timers.{Timers}
use Rattle.ioc.specs.Interrupts.{Controller}
use Rattle.ioc.specs.Countdown.{SameRequests}
use Rattle.ioc.specs.Law.{TicksAddUp}
use Rattle.ioc.specs.Timers.{decremented, after_decrements, tick, ticked}

-- a timer that does not move
pub stays : (n : ℕ) (t : Timer) → (t.count == 0 || t.latch == 0) ≡ true → after_decrements n t ≡ t
stays zero t h = refl
stays (suc n) t h = ap decremented (stays n t h) ∙ grind (arith, nat_tests)

pub decremented_last : (t : Timer) → 0 < t.latch → t.count ≡ 1 → decremented t ≡ record t { count = t.latch; request = true }
decremented_last t l c = grind (arith, nat_tests)

-- before the count has run out
pub falls : (n : ℕ) (t : Timer) → 0 < t.latch → n < t.count → after_decrements n t ≡ record t { count = t.count - n }
falls zero t l h = grind arith
falls (suc n) t l h = ap decremented (falls n t l (omega arith)) ∙ grind (arith, nat_tests)

-- a remainder, one on
pub next_rest : (r w : ℕ) → 0 < w → ((r % w + 1 < w) × ((r + 1) % w ≡ r % w + 1)) ⊎ ((r % w + 1 ≡ w) × ((r + 1) % w ≡ 0))
next_rest r w h =
    elim (cases_lt (r % w + 1) w) [
      | inl p ↦
          let e : r + 1 ≡ r / w * w + (r % w + 1) = omega (arith, div-add-mod' r w) in
          inl (p, ap (λ (x : ℕ). x % w) e ∙ mod-mul-add (r / w) w (r % w + 1) p)
      | inr p ↦
          let e : r + 1 ≡ (r / w * w + 0) + w = omega (arith, div-add-mod' r w, mod_below r w h) in
          inr (omega (arith, mod_below r w h), ap (λ (x : ℕ). x % w) e ∙ add-mod_right (r / w * w + 0) w ∙ mod-mul-add (r / w) w 0 h)
    ]

-- one decrement of a timer that goes round
rounds_step : (r : ℕ) (t : Timer) → 0 < t.latch → decremented (record t { count = t.latch - r % t.latch; request = true }) ≡ record t { count = t.latch - (r + 1) % t.latch; request = true }
rounds_step r t l =
    elim (next_rest r t.latch l) [
      | inl p ↦ grind (arith, nat_tests, p.1)
      | inr p ↦ grind (arith, nat_tests, p.1)
    ]

-- then it goes round
pub rounds : (n : ℕ) (t : Timer) → 0 < t.latch → 0 < t.count → t.count ≤ n → after_decrements n t ≡ record t { count = t.latch - (n - t.count) % t.latch; request = true }
rounds zero t l c h = absurd (omega arith)
rounds (suc n) t l c h =
    elim (cases_lt n t.count) [
      | inl p ↦
          let e : suc n - t.count ≡ 0 = omega arith in
          let r : (suc n - t.count) % t.latch ≡ 0 = ap (λ (k : ℕ). k % t.latch) e ∙ zero-mod t.latch in
          let k : t.latch ≡ t.latch - (suc n - t.count) % t.latch = omega (arith, r) in
          ap decremented (falls n t l p)
          ∙ decremented_last (record t { count = t.count - n }) l (omega arith)
          ∙ ap (λ (k : ℕ). record t { count = k; request = true }) k
      | inr p ↦
          let e : n - t.count + 1 ≡ suc n - t.count = omega arith in
          ap decremented (rounds n t l c p) ∙ rounds_step (n - t.count) t l ∙ ap (λ (k : ℕ). record t { count = t.latch - k % t.latch; request = true }) e
    ]

tick_last : (s : Timers) → s.phase ≡ 3 → tick s ≡ record { phase = 0; timer_0 = decremented s.timer_0; timer_1 = decremented s.timer_1 }
tick_last s h = grind (arith, nat_tests)

tick_more : (s : Timers) → s.phase < 3 → tick s ≡ record s { phase = s.phase + 1 }
tick_more s h = grind (arith, nat_tests)

-- where so many decrements and a phase lead
abbrev at : Timers → ℕ → ℕ → Timers
at s d p = record { phase = p; timer_0 = after_decrements d s.timer_0; timer_1 = after_decrements d s.timer_1 }

-- ticks by way of decrements
pub by_decrements : (n : ℕ) (s : Timers) → s.phase < 4 →
    ticked n s ≡ record { phase = (s.phase + n) % 4; timer_0 = after_decrements ((s.phase + n) / 4) s.timer_0; timer_1 = after_decrements ((s.phase + n) / 4) s.timer_1 }
by_decrements zero s h =
    let d : 0 ≡ (s.phase + 0) / 4 = omega arith in
    let p : s.phase ≡ (s.phase + 0) % 4 = omega arith in
    ap (λ (k : ℕ). at s 0 k) p ∙ ap (λ (k : ℕ). at s k ((s.phase + 0) % 4)) d
by_decrements (suc n) s h =
    elim (cases_lt ((s.phase + n) % 4) 3) [
      | inl k ↦
          let d : (s.phase + n) / 4 ≡ (s.phase + suc n) / 4 = omega arith in
          let p : (s.phase + n) % 4 + 1 ≡ (s.phase + suc n) % 4 = omega arith in
          ap tick (by_decrements n s h) ∙ tick_more (at s ((s.phase + n) / 4) ((s.phase + n) % 4)) k
          ∙ ap (λ (k : ℕ). at s ((s.phase + n) / 4) k) p ∙ ap (λ (k : ℕ). at s k ((s.phase + suc n) % 4)) d
      | inr k ↦
          let d : suc ((s.phase + n) / 4) ≡ (s.phase + suc n) / 4 = omega arith in
          let p : 0 ≡ (s.phase + suc n) % 4 = omega arith in
          ap tick (by_decrements n s h) ∙ tick_last (at s ((s.phase + n) / 4) ((s.phase + n) % 4)) (omega arith)
          ∙ ap (λ (k : ℕ). at s (suc ((s.phase + n) / 4)) k) p ∙ ap (λ (k : ℕ). at s k ((s.phase + suc n) % 4)) d
    ]

-- no request rises before either timer has run out
pub same_requests : (s : Timers) (counts ticks : ℕ) → s.phase < 4 → ticks < 4 * counts - s.phase
    → ((d : ℕ) → d < counts → (after_decrements d s.timer_0).request ≡ s.timer_0.request)
    → ((d : ℕ) → d < counts → (after_decrements d s.timer_1).request ≡ s.timer_1.request) → SameRequests s ticks
same_requests s counts ticks phase below first second =
    let few : (s.phase + ticks) / 4 < counts = omega arith in
    let is = by_decrements ticks s phase in
    record {
      first = ap (λ (t : Timers). t.timer_0.request) is ∙ first ((s.phase + ticks) / 4) few;
      second = ap (λ (t : Timers). t.timer_1.request) is ∙ second ((s.phase + ticks) / 4) few;
    }

-- the law
pub ticked-add : (a b : ℕ) (s : Timers) → ticked (a + b) s ≡ ticked b (ticked a s)
ticked-add a zero s =
    let e : a + 0 ≡ a = omega arith in
    ap (λ (n : ℕ). ticked n s) e
ticked-add a (suc b) s =
    let e : a + suc b ≡ suc (a + b) = omega arith in
    ap (λ (n : ℕ). ticked n s) e ∙ ap tick (ticked-add a b s)

pub ticks_add_up : TicksAddUp
ticks_add_up a b c = ap (λ (t : Timers). let d : Controller = record c { timers = t } in d) (ticked-add a b c.timers)

-- Where there is no flyback, and that one advance is two that take as many ticks together.
use Rattle.std.proofs.Common.{◌≡◌, ℕ, ◌+◌, ◌*◌, ◌<◌, ◌≤◌, Bool, true, false, cond, refl, ◌∙◌, ap, arith}
use Rattle.std.proofs.Math.Nat.{mul-le-mul_left}
use Rattle.vidc.specs.Frame.{arrivals, position_after}
use Rattle.vidc.specs.Video.{Video, raster_of, frame, flyback, runs, flybacks, advanced}
use Rattle.vidc.specs.Law.{TicksAddUp}
use Rattle.vidc.proofs.FrameLemmas.{arrivals_none, arrivals-add, position-add}

-- no flyback where the display ends with the frame or after it
pub never : (ticks : ℕ) (v : Video) → v.position < frame v → v.vertical_cycle ≤ v.display_end → flybacks ticks v ≡ 0
never ticks v h past = by_running (runs v) (arrivals_none (ticks * 6) (frame v) (flyback v) v.position h (mul-le-mul_left (raster_of v.horizontal_cycle v.rate) (omega arith)))
  where
    by_running : {x : ℕ} (b : Bool) → x ≡ 0 → cond {A = ℕ} b x 0 ≡ 0
    by_running true e = e
    by_running false e = refl

sixths : (a b : ℕ) → (a + b) * 6 ≡ a * 6 + b * 6
sixths a b = omega arith

advanced-add : (a b : ℕ) (v : Video) (x : Bool) → runs v ≡ x → advanced (a + b) v ≡ advanced b (advanced a v)
advanced-add a b v true on =
    rw on (rw on (ap (λ (k : ℕ). let w : Video = record v { position = k } in w)
    (ap (λ (n : ℕ). position_after n (frame v) v.position) (sixths a b) ∙ position-add (a * 6) (b * 6) (frame v) v.position)))
advanced-add a b v false off = rw off (rw off refl)

flybacks-add : (a b : ℕ) (v : Video) (x : Bool) → runs v ≡ x → flybacks (a + b) v ≡ flybacks a v + flybacks b (advanced a v)
flybacks-add a b v true on =
    rw on (rw on (ap (λ (n : ℕ). arrivals n (frame v) (flyback v) v.position) (sixths a b) ∙ arrivals-add (a * 6) (b * 6) (frame v) (flyback v) v.position))
flybacks-add a b v false off = rw off (rw off refl)

pub ticks_add_up : TicksAddUp
ticks_add_up a b v = (advanced-add a b v (runs v) refl, flybacks-add a b v (runs v) refl)

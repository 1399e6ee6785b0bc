-- When a condition holds (VL86C010 data sheet, the condition field).
use Rattle.std.specs.Prelude.{Bool, true, false, not, ◌&&◌, ◌||◌, if◌then◌else◌}
use Rattle.arm2_decode.specs.declared.names.Cond.{Cond}
use Rattle.arm2_decode.specs.declared.names.Cond.TheVariants.{Eq, Ne, Cs, Cc, Mi, Pl, Vs, Vc, Hi, Ls, Ge, Lt}
use Rattle.arm2_decode.specs.declared.names.Cond.TheVariants.{Gt, Le, Al, Nv}
use Rattle.arm2_decode.specs.declared.flags.Flags.{Flags}

-- two flags are both set or both clear
abbrev pub same : Bool → Bool → Bool
same x y = if x then y else not y

abbrev pub condition_holds : Cond → Flags → Bool
condition_holds Eq f = f.zero
condition_holds Ne f = not f.zero
condition_holds Cs f = f.carry
condition_holds Cc f = not f.carry
condition_holds Mi f = f.negative
condition_holds Pl f = not f.negative
condition_holds Vs f = f.overflow
condition_holds Vc f = not f.overflow
condition_holds Hi f = f.carry && not f.zero
condition_holds Ls f = not f.carry || f.zero
condition_holds Ge f = same f.negative f.overflow
condition_holds Lt f = not (same f.negative f.overflow)
condition_holds Gt f = not f.zero && same f.negative f.overflow
condition_holds Le f = f.zero || not (same f.negative f.overflow)
condition_holds Al f = true
condition_holds Nv f = false

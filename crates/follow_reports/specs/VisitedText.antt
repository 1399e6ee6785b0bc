-- What is printed of a run of a handler that FIQ interrupts, judged by the statements of both.
use Rattle.std.specs.Prelude.{ℕ, List, ◌++◌, codes, decimal, nat_eq, if◌then◌else◌}
use Rattle.asm_text.specs.Hex.{hex}
use Rattle.statement.specs.Stated.{Stated}
use Rattle.kept_runs.specs.declared.visited.VisitUnkept.{VisitUnkept}
use Rattle.kept_runs.specs.declared.visited.VisitUnkept.TheVariants.{InMain, InVisit, NotBack}
use Rattle.follow_reports.specs.FollowText.{less_text, why_text}

abbrev pub visits_text : ℕ → List ℕ
visits_text n = if nat_eq n 1 then codes "1 visit" else decimal n ++ codes " visits"

-- its ticks, how many visits it has, and how much less than the total for so many the ticks are
abbrev pub kept_visits_text : (ticks visits total : ℕ) → List ℕ
kept_visits_text ticks visits total =
    codes "kept: "
    ++ (decimal ticks
    ++ (codes " ticks with "
    ++ (visits_text visits ++ (codes ", " ++ (less_text (codes "total") ticks total ++ codes "\n")))))

-- why the step at the address does not keep the statement of the interrupted handler, or of FIQ's
abbrev pub visit_why_text : (irq fiq : Stated) → (at : ℕ) → VisitUnkept → List ℕ
visit_why_text irq fiq at (InMain why) = why_text irq at why
visit_why_text irq fiq at (InVisit why) = codes "in FIQ's handler: " ++ why_text fiq at why
visit_why_text irq fiq at (NotBack address) =
    codes "FIQ's handler left to " ++ (hex at ++ (codes ", and interrupted " ++ hex address))

-- of a run that never comes to the entry
abbrev pub never_text : (entry : ℕ) → List ℕ
never_text entry = codes "never at the entry, which is " ++ (hex entry ++ codes "\n")

-- Conditional lines: of those between `[` and `]`, where `|` begins the other part, one part stands.
use Rattle.std.specs.Prelude.{◌==◌, ◌||◌, not, nat_lt, ℕ, Bool, true, false, List, [], ◌∷◌, codes, length}
use Rattle.std.specs.Prelude.{map, reverse, Option, Some, None, is_some, option_map, Result, Ok, Err}
use Rattle.std.specs.Prelude.{if◌then◌else◌}
use Rattle.std.specs.Str.{bytes_eq}
use Rattle.objasm.specs.Names.{Meanings, and_then}
use Rattle.objasm.specs.Parts.{Part, Run, Byte, after_blanks, is_over, part_of}
use Rattle.objasm.specs.Settings.{truth_of}
use Rattle.objasm.specs.declared.conditions.Branch.{Branch}
use Rattle.objasm.specs.declared.conditions.Branch.TheVariants.{Taken, Waiting, Over}
use Rattle.objasm.specs.declared.conditions.Condition.{Condition}
use Rattle.objasm.specs.declared.conditions.Conditions.{Conditions as CodeConditions}
use Rattle.objasm.specs.declared.conditions.ConditionLine.{ConditionLine as CodeConditionLine}
use Rattle.objasm.specs.declared.conditions.ConditionLine.TheVariants as code
use Rattle.objasm.specs.declared.faults.LineFault.{LineFault}
use Rattle.objasm.specs.declared.faults.LineFault.TheVariants.{BadOperand, ConditionMissing, ConditionOpen}
use Rattle.objasm.specs.declared.faults.LineFault.TheVariants.{ConditionTooDeep, ElseTwice, UnknownDirective}

-- ## The lines

-- one that opens a condition, begins its other part, closes it, or is none that we know
pub data ConditionLine : Type 0 where
  If : (expression : List Part) → ConditionLine
  Else : (behind : List Part) → ConditionLine
  EndIf : (behind : List Part) → ConditionLine
  Unknown : ConditionLine

abbrev pub condition_view : CodeConditionLine → ConditionLine
condition_view (code.If ps) = If (map part_of ps.now)
condition_view (code.Else ps) = Else (map part_of ps.now)
condition_view (code.EndIf ps) = EndIf (map part_of ps.now)
condition_view code.Unknown = Unknown

-- `[`, `|` and `]`
abbrev pub sign_line : ℕ → List Part → Option ConditionLine
sign_line b ps =
    if b == 91 then Some (If ps)
    else if b == 124 then Some (Else ps)
    else if b == 93 then Some (EndIf ps)
    else None

abbrev pub word_line : List ℕ → List Part → Option ConditionLine
word_line word ps =
    if bytes_eq word (codes "IF") then Some (If ps)
    else if bytes_eq word (codes "ELSE") then Some (Else ps)
    else if bytes_eq word (codes "ENDIF") then Some (EndIf ps)
    else if bytes_eq word (codes "ELIF") then Some Unknown
    else None

abbrev pub condition_at : List Part → Option ConditionLine
condition_at (Byte b ∷ ps) = sign_line b ps
condition_at (Run word ∷ ps) = word_line word ps
condition_at [] = None

-- no label stands in front
abbrev pub condition_line_of : List Part → Option ConditionLine
condition_line_of (Run label ∷ ps) = option_map (λ line. Unknown) (condition_at (after_blanks ps))
condition_line_of ps = condition_at (after_blanks ps)

-- ## What is open

-- the innermost condition comes first: which of its parts the lines are in, whether that is its last, and the
-- number of the line that opened it
abbrev pub Conditions : Type 0
Conditions = List Condition

abbrev pub open_in : CodeConditions → Conditions
open_in conditions = reverse conditions.stack.items

abbrev pub innermost : Conditions → Option Condition
innermost [] = None
innermost (c ∷ cs) = Some c

abbrev pub is_taken_branch : Branch → Bool
is_taken_branch Taken = true
is_taken_branch _ = false

abbrev pub is_taken_in : Option Condition → Bool
is_taken_in None = true
is_taken_in (Some c) = is_taken_branch c.branch

-- lines are assembled: else they are left out
abbrev pub is_taken : Conditions → Bool
is_taken cs = is_taken_in (innermost cs)

-- ## What a line opens, turns and closes

-- 64 may be open at once
abbrev pub has_room : Conditions → Bool
has_room cs = nat_lt (length cs) 64

abbrev pub opened : ℕ → Conditions → Branch → Result Conditions LineFault
opened n cs branch =
    if has_room cs then Ok (record { branch = branch; is_last = false; line = n } ∷ cs)
    else Err ConditionTooDeep

abbrev pub branch_for : Bool → Branch
branch_for holds = if holds then Taken else Waiting

-- by the names that are known at the line: of those that lines below set, none when lines are first read. In
-- lines that are left out no condition is judged, and none of its parts is taken
abbrev pub opened_by : Meanings → ℕ → Conditions → List Part → Result Conditions LineFault
opened_by m n cs ps =
    if is_taken cs then and_then (λ holds. opened n cs (branch_for holds)) (truth_of m ps)
    else opened n cs Over

-- the other part is taken where the first was not and the lines around are
abbrev pub other_branch : Branch → Branch
other_branch Waiting = Taken
other_branch _ = Over

abbrev pub turned_once : Condition → Conditions → Result Conditions LineFault
turned_once c cs =
    if c.is_last then Err ElseTwice
    else Ok (record { branch = other_branch c.branch; is_last = true; line = c.line } ∷ cs)

abbrev pub turned : Conditions → Result Conditions LineFault
turned [] = Err ConditionMissing
turned (c ∷ cs) = turned_once c cs

abbrev pub closed : Conditions → Result Conditions LineFault
closed [] = Err ConditionMissing
closed (c ∷ cs) = Ok cs

-- nothing may stand behind `|` and `]`
abbrev pub if_alone : List Part → Result Conditions LineFault → Result Conditions LineFault
if_alone ps r = if is_over (after_blanks ps) then r else Err BadOperand

abbrev pub stepped : Meanings → ℕ → Conditions → Option ConditionLine → Result Conditions LineFault
stepped m n cs None = Ok cs
stepped m n cs (Some (If ps)) = opened_by m n cs ps
stepped m n cs (Some (Else ps)) = if_alone ps (turned cs)
stepped m n cs (Some (EndIf ps)) = if_alone ps (closed cs)
stepped m n cs (Some Unknown) = Err UnknownDirective

-- what is open after the line of this number
abbrev pub conditions_after : Meanings → ℕ → Conditions → List Part → Result Conditions LineFault
conditions_after m n cs ps = stepped m n cs (condition_line_of ps)

abbrev pub is_condition : List Part → Bool
is_condition ps = is_some (condition_line_of ps)

-- the line is left out, or opens, turns or closes a condition
abbrev pub is_hidden : Conditions → List Part → Bool
is_hidden cs ps = not (is_taken cs) || is_condition ps

-- nothing is open at the end; else the innermost condition is at fault, at its line
abbrev pub all_closed_in : {A : Type 0} → Option Condition → A → Result A (LineFault × ℕ)
all_closed_in None a = Ok a
all_closed_in (Some c) a = Err (ConditionOpen, c.line)

abbrev pub all_closed : {A : Type 0} → Conditions → A → Result A (LineFault × ℕ)
all_closed cs a = all_closed_in (innermost cs) a

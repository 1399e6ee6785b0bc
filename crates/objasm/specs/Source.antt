-- A whole source: the names that its lines set, and what stands for each of its lines.
use Rattle.std.specs.Prelude.{◌≡◌, ◌==◌, ◌&&◌, ◌||◌, ◌+◌, ◌-◌, not, ℕ, Bool, true, false, List, [], ◌∷◌, ◌++◌}
use Rattle.std.specs.Prelude.{codes, length, take, drop, map, Option, Some, None}
use Rattle.std.specs.Prelude.{Result, Ok, Err, if◌then◌else◌}
use Rattle.std.specs.Char.{is_ascii_whitespace}
use Rattle.std.specs.List.{prefix_len, suffix_len}
use Rattle.std.specs.Str.{bytes_eq}
use Rattle.asm_text.specs.Pieces.{first_blank}
use Rattle.asm_text.specs.Source.{lines_of}
use Rattle.objasm.specs.Conditions.{Conditions, all_closed, conditions_after, is_hidden, is_taken}
use Rattle.objasm.specs.Literals.{Pool, line_text, no_pool}
use Rattle.objasm.specs.Maps.{set_in}
use Rattle.objasm.specs.Names.{Meanings, and_then, mapped, no_meanings}
use Rattle.objasm.specs.Parts.{Part, Run, after_blanks, parts}
use Rattle.objasm.specs.Words.{is_ltorg}
use Rattle.objasm.specs.declared.faults.LineFault.{LineFault}
use Rattle.objasm.specs.declared.faults.LineFault.TheVariants as line
use Rattle.objasm.specs.declared.maps.Pass.{Pass}
use Rattle.objasm.specs.declared.maps.Pass.TheVariants.{First, Second}
use Rattle.objasm.specs.declared.source.DialectFault.{DialectFault}
use Rattle.objasm.specs.declared.source.DialectFault.TheVariants.{Memory, Line}
use Rattle.objasm.specs.declared.source.PlainSource.{PlainSource}

-- ## A line

-- a comment begins at the first `;`, also inside of quotes
abbrev pub body_len : List ℕ → ℕ
body_len text = prefix_len (λ b. not (b == 59)) text

abbrev pub body : List ℕ → List ℕ
body text = take (body_len text) text

-- what the names mean at a line, and which conditions are open there
pub record Flow : Type 0 where
  pub names : Meanings
  pub conditions : Conditions

abbrev pub flow_in : Meanings → Conditions → Flow
flow_in m cs = record { names = m; conditions = cs }

-- lines that are left out set nothing
abbrev pub set_if : Bool → Pass → Meanings → List Part → Result Meanings LineFault
set_if taken pass m ps = if taken then set_in pass m ps else Ok m

abbrev pub parts_settled : Pass → Flow → ℕ → List Part → Result Flow LineFault
parts_settled pass f n ps =
    and_then (λ next. mapped (λ m. flow_in m next) (set_if (is_taken f.conditions) pass f.names ps))
    (conditions_after f.names n f.conditions ps)

-- the flow after the line of this number
abbrev pub line_settled : Pass → Flow → ℕ → List ℕ → Result Flow LineFault
line_settled pass f n text = parts_settled pass f n (parts (body text))

-- without the white space at its end
abbrev pub trimmed : List ℕ → List ℕ
trimmed text = take (length text - suffix_len is_ascii_whitespace text) text

-- without the white space round it
abbrev pub stripped : List ℕ → List ℕ
stripped text = trimmed (drop (prefix_len is_ascii_whitespace text) text)

-- `END` alone, behind a blank: the lines below it are comments
abbrev pub is_end : List ℕ → Bool
is_end text = first_blank text && bytes_eq (stripped (body text)) (codes "END")

-- such a line among those that are assembled
abbrev pub ends : Conditions → List ℕ → Bool
ends cs text = is_taken cs && is_end text

-- the line itself, where but for blanks that is what stands for it, else that, and the line as a comment
-- behind it
abbrev pub shown_line : (plain text : List ℕ) → List ℕ
shown_line plain text =
    if bytes_eq (trimmed plain) (trimmed (body text)) then text else trimmed plain ++ (codes " ; " ++ text)

-- ## Lines of our grammar

-- lines of our grammar, each ended by LF, and the number of the author's line that each comes from
pub record Plain : Type 0 where
  pub text : List ℕ
  pub origins : List ℕ

abbrev pub plain_of : PlainSource → Plain
plain_of p = record { text = p.text.items; origins = p.origins.items }

abbrev pub no_lines : Plain
no_lines = record { text = []; origins = [] }

-- lines, and others behind them
abbrev pub with_lines : Plain → Plain → Plain
with_lines done more = record { text = done.text ++ more.text; origins = done.origins ++ more.origins }

-- what is shown of the line of this number
abbrev pub shown : ℕ → (plain text : List ℕ) → Plain
shown n plain text = record { text = shown_line plain text ++ 10 ∷ []; origins = n ∷ [] }

-- the words of a pool, which come from the line of this number
abbrev pub pool_lines : ℕ → Pool → Plain
pool_lines n p = record { text = p.lines; origins = map (λ _. n) (lines_of p.lines) }

-- behind lines that come from the line of this number the words of the pool, if it gives them
abbrev pub given_if : Bool → ℕ → Pool → Plain → Pool × Plain
given_if gives n p plain = if gives then (no_pool, with_lines plain (pool_lines n p)) else (p, plain)

abbrev pub is_ltorg_at : List Part → Bool
is_ltorg_at (Run word ∷ ps) = is_ltorg word
is_ltorg_at _ = false

-- LTORG, and a label in front of it or none
abbrev pub is_ltorg_line : List Part → Bool
is_ltorg_line (Run label ∷ ps) = is_ltorg_at (after_blanks ps)
is_ltorg_line ps = is_ltorg_at (after_blanks ps)

-- which conditions are open at a line, and which words wait
pub record State : Type 0 where
  pub conditions : Conditions
  pub pool : Pool

abbrev pub state_in : Conditions → Pool → State
state_in cs p = record { conditions = cs; pool = p }

-- the pool behind a line, or the state, and what stands for the line
abbrev pub Given : Type 0
Given = Result (Pool × Plain) LineFault

abbrev pub Shown : Type 0
Shown = Result (State × Plain) LineFault

-- what stands for a line behind lines that are there
abbrev pub lines_behind : {A : Type 0} → Plain → Result (A × Plain) LineFault → Result (A × Plain) LineFault
lines_behind done r = mapped (λ g. (g.0, with_lines done g.1)) r

-- a line that is assembled
abbrev pub assembled_line : Meanings → ℕ → Pool → List Part → List ℕ → Given
assembled_line m n p ps text =
    mapped (λ r. given_if (is_ltorg_line ps) n r.0 (shown n r.1 text)) (line_text m n p ps)

-- for one that is left out or is of conditions nothing stands
abbrev pub line_given : Bool → Meanings → ℕ → Pool → List Part → List ℕ → Given
line_given hidden m n p ps text =
    if hidden then Ok (p, shown n [] text) else assembled_line m n p ps text

abbrev pub with_conditions : Conditions → Given → Shown
with_conditions cs r = mapped (λ g. (state_in cs g.0, g.1)) r

abbrev pub taken_line : Meanings → State → ℕ → List Part → List ℕ → Shown
taken_line m s n ps text =
    and_then (λ next. with_conditions next (line_given (is_hidden s.conditions ps) m n s.pool ps text))
    (conditions_after m n s.conditions ps)

-- at the end the words stand that wait; below it none does
abbrev pub end_given : ℕ → Pool → List ℕ → Given
end_given n p text = Ok (given_if true n p (shown n [] text))

-- conditions below the end are none
abbrev pub line_shown : Bool → Meanings → State → ℕ → List ℕ → Shown
line_shown ended m s n text =
    if ended then with_conditions s.conditions (end_given n s.pool text)
    else taken_line m s n (parts (body text)) text

-- ## All lines

-- the fault of a line with its number
abbrev pub at_line : {A B : Type 0} → ℕ → Result A LineFault → (A → Result B (LineFault × ℕ))
    → Result B (LineFault × ℕ)
at_line n (Ok a) f = f a
at_line n (Err fault) f = Err (fault, n)

-- the meanings after lines, of which the first has this number; at the end no condition is open
unfoldable pub settings : Pass → Flow → ℕ → List (List ℕ) → Result Meanings (LineFault × ℕ)
settings pass f n [] = all_closed f.conditions f.names
settings pass f n (l ∷ ls) =
    if ends f.conditions l then all_closed f.conditions f.names
    else at_line n (line_settled pass f n l) (λ more. settings pass more (n + 1) ls)

-- what the names of all lines mean: a name may be used above the line that sets it, also by a line that sets
-- another, which is then read again
abbrev pub meanings_in : List (List ℕ) → Result Meanings (LineFault × ℕ)
meanings_in ls =
    and_then (λ m. settings Second (flow_in m []) 1 ls) (settings First (flow_in no_meanings []) 1 ls)

-- no word waits; else the line is at fault that loads the first
abbrev pub nothing_waits : {A : Type 0} → Option ℕ → A → Result A (LineFault × ℕ)
nothing_waits None a = Ok a
nothing_waits (Some n) a = Err (line.PoolMissing, n)

-- what stands for lines, of which the first has this number, at the end of the source or before it
unfoldable pub plain_lines : Bool → Meanings → State → ℕ → List (List ℕ) → Result Plain (LineFault × ℕ)
plain_lines ended m s n [] = nothing_waits s.pool.first no_lines
plain_lines ended m s n (l ∷ ls) =
    let below = ended || ends s.conditions l in
    at_line n (line_shown below m s n l)
    (λ r. mapped (with_lines r.1) (plain_lines below m r.0 (n + 1) ls))

abbrev pub then_lines : Result Meanings (LineFault × ℕ) → List (List ℕ) → Result Plain (LineFault × ℕ)
then_lines (Ok m) ls = plain_lines false m (state_in [] no_pool) 1 ls
then_lines (Err fault) ls = Err fault

-- what all lines set is known in each that sets nothing
abbrev pub translated : List ℕ → Result Plain (LineFault × ℕ)
translated source = then_lines (meanings_in (lines_of source)) (lines_of source)

-- ## Refusals

abbrev pub fault_at : LineFault → ℕ → DialectFault
fault_at line.Memory n = Memory
fault_at fault n = Line fault n

-- a refusal for memory, or a fault and its line
abbrev pub FaultedAt : {A : Type 0} → DialectFault → Result A (LineFault × ℕ) → Type 0
FaultedAt Memory r = Unit {0}
FaultedAt (Line fault n) r = r ≡ Err (fault, n)

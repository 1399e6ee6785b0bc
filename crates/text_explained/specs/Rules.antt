-- How many words each rule of a statement for a base register covers.
use Rattle.std.specs.Prelude.{◌≡◌, ◌↔◌, ℕ, ◌<◌, true, List, ◌++◌, codes, decimal, length, nat_eq}
use Rattle.std.specs.Prelude.{AllPairs, Contains, Some, None}
use Rattle.std.specs.Map.{lookup}
use Rattle.arm2_decode.specs.Names.{register_number}
use Rattle.arm2_decode.specs.declared.instr.Instr.{Instr}
use Rattle.arm2_decode.specs.declared.names.Register.{Register}
use Rattle.asm_text.specs.Hex.{hex8}
use Rattle.control_flow.specs.Flow.{Flow}
use Rattle.control_flow.specs.Kinds.{base_of}
use Rattle.image.specs.Image.{Words}
use Rattle.statement.specs.Stated.{Stated, is_ruled}
use Rattle.statement.specs.Statement.{class_name}
use Rattle.statement.specs.declared.stated.BaseRule.{BaseRule}
use Rattle.text_rows.specs.Columns.{in_columns}
use Rattle.text_rows.specs.Rows.{AreRows, section}
use Rattle.word_shapes.specs.Words.{HasInstr}
use Rattle.text_explained.specs.Leaving.{is_carried_out}

-- ## Words

-- the word at the address loads or stores by that base
abbrev pub UsesBase : Words → ℕ → Register → Type 0
UsesBase words a base = (i : Instr) × HasInstr words a i × (base_of i.operation ≡ Some base)

-- the class of what it transfers is that of the rule: it has no access of its own
pub record IsCovered (words : Words) (st : Stated) (r : BaseRule) (a : ℕ) : Type 0 where
  pub base : Register
  pub uses : UsesBase words a base
  pub ruled : is_ruled base a r ≡ true
  pub no_access : lookup (nat_eq a) st.accesses ≡ None

-- of the words at some addresses the rule covers so many
pub record IsCoverage (words : Words) (st : Stated) (IsOne : ℕ → Type 0) (r : BaseRule)
    (count : ℕ) : Type 0 where
  pub covered : List ℕ
  pub ascending : AllPairs (λ x y. x < y) covered
  pub each : (a : ℕ) → Contains covered a ↔ (IsOne a × IsCovered words st r a)
  pub count_is : count ≡ length covered

-- of those that the graph carries out
abbrev pub IsDoneCoverage : Words → Stated → Flow → BaseRule → ℕ → Type 0
IsDoneCoverage words st flow = IsCoverage words st (λ a. is_carried_out flow.edges a ≡ true)

-- ## Rows

abbrev pub register_text : Register → List ℕ
register_text register = codes "R" ++ decimal (register_number register)

-- the part of the handler for which it is
abbrev pub part_text : BaseRule → List ℕ
part_text r = hex8 r.first ++ (codes " to " ++ hex8 r.last)

-- the register, the class, the part, and the number of words
abbrev pub coverage_row : BaseRule → ℕ → List ℕ
coverage_row r count =
    in_columns 5 (register_text r.register)
    ++ (in_columns 13 (class_name r.class)
    ++ (codes "  " ++ (part_text r ++ (in_columns 8 (decimal count) ++ codes "\n"))))

abbrev pub IsCoverageRow : Words → Stated → Flow → BaseRule → List ℕ → Type 0
IsCoverageRow words st flow r row =
    (count : ℕ) × IsDoneCoverage words st flow r count × (row ≡ coverage_row r count)

-- ## The text

abbrev pub rules_heading : List ℕ
rules_heading = codes "\nRules for base registers ([[base]]), and how many words each covers:\n"

-- a row for each rule, in the statement's order, under the heading; nothing where there are none
abbrev pub AreRuleLines : Words → Stated → Flow → List ℕ → Type 0
AreRuleLines words st flow text =
    (rows : List ℕ) × AreRows (IsCoverageRow words st flow) st.rules rows
    × (text ≡ section rules_heading rows)

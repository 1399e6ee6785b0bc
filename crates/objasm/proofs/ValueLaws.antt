-- The value of operands is that of the expression that they are.
use Rattle.std.proofs.Common.{◌≡◌, ℕ, List, Option, Some, None, Result, Ok, Err, refl, ap, ◌∙◌}
use Rattle.asm_text.proofs.WordLaws.{same_Ok}
use Rattle.objasm.specs.Evaluation.{evaluated}
use Rattle.objasm.specs.Laws.{Evaluates}
use Rattle.objasm.specs.Names.{Meanings, and_then}
use Rattle.objasm.specs.Parts.{Part}
use Rattle.objasm.specs.Settings.{outcome, value_of}
use Rattle.objasm.specs.Symbols.{symbols_in}
use Rattle.objasm.specs.declared.faults.LineFault.{LineFault}
use Rattle.objasm.specs.declared.operators.Value.{Value}
use Rattle.objasm.specs.declared.operators.Value.TheVariants.{Number, Logical}
use Rattle.objasm.specs.declared.symbols.Reading.TheVariants.{Ready}
use Rattle.objasm.specs.declared.symbols.Symbol.{Symbol}
use Rattle.objasm.proofs.ExpressionLaws.{spelled}
use Rattle.objasm.proofs.ReadingLaws.{read_so}

-- only a number is an outcome
number_read : (o : Option (Option Value)) (n : ℕ) → outcome o ≡ Ok n → o ≡ Some (Some (Number n))
number_read (Some (Some (Number k))) n is = ap (λ (x : ℕ). Some (Some (Number x))) (same_Ok k n is)
number_read (Some (Some (Logical b))) n is = absurd cc
number_read (Some None) n is = absurd cc
number_read None n is = absurd cc

pub value_spelled : (m : Meanings) (ps : List Part) (n : ℕ) → value_of m ps ≡ Ok n → Evaluates m ps (Number n)
value_spelled m ps n is = by_symbols (symbols_in m Ready ps) refl is
  where
    by_symbols : (r : Result (List Symbol) LineFault) → symbols_in m Ready ps ≡ r → and_then (λ ss. outcome (evaluated ss)) r ≡ Ok n → Evaluates m ps (Number n)
    by_symbols (Ok ss) these is =
        let f = read_so ss (Some (Number n)) (number_read (evaluated ss) n is) in
        (ss, f.0, these, f.1, f.2)
    by_symbols (Err fault) these is = absurd cc

pub spelled_value : (m : Meanings) (ps : List Part) (n : ℕ) → Evaluates m ps (Number n) → value_of m ps ≡ Ok n
spelled_value m ps n h =
    ap (and_then (λ (ss : List Symbol). outcome (evaluated ss))) h.2
    ∙ ap outcome (spelled h.0 h.1 h.3 ∙ ap (λ (v : Option Value). Some v) h.4)

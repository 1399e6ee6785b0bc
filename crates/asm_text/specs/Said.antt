-- What a line says, its labels by their bytes.
use Rattle.std.specs.Prelude.{ℕ, List, map}
use Rattle.asm_text.specs.declared.syntax.Code.{Code}
use Rattle.asm_text.specs.declared.syntax.Reference.{Reference}
use Rattle.asm_text.specs.declared.syntax.Value.{Value}
use Rattle.asm_text.specs.declared.syntax.Value.TheVariants as value
use Rattle.asm_text.specs.declared.syntax.SourceStatement.{SourceStatement}
use Rattle.asm_text.specs.declared.syntax.SourceStatement.TheVariants as statement

-- a number, or the name of an address
pub data Target : Type 0 where
  Number : ℕ → Target
  Label : List ℕ → Target

-- a word, a word with a target, the address of the next word, or words
pub data Said : Type 0 where
  Codes : Code → Said
  Refers : Reference → Target → Said
  Orgs : ℕ → Said
  Lists : List Target → Said

abbrev pub target_of : Value → Target
target_of (value.Number n) = Number n
target_of (value.Label name) = Label name.now

abbrev pub said : SourceStatement → Said
said (statement.Code c) = Codes c
said (statement.Refer r v) = Refers r (target_of v)
said (statement.Org n) = Orgs n
said (statement.Dcd vs) = Lists (map target_of vs.items)

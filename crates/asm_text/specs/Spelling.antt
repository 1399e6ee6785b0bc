-- How a line is spelled, from what it says to its text (over the VL86C010 data sheet's assembler syntax).
use Rattle.std.specs.Prelude.{◌≡◌, ◌⊎◌, ℕ, Bool, true, false, List, [], ◌∷◌, ◌++◌, Option, Some}
use Rattle.std.specs.Prelude.{None}
use Rattle.std.specs.List.{list_all}
use Rattle.arm2_decode.specs.declared.names.Register.{Register}
use Rattle.asm_text.specs.Pieces.{Piece, Run, Comma, Sign, Gap}
use Rattle.asm_text.specs.Lines.{Written, WellSpaced}
use Rattle.asm_text.specs.Words.{IsSpelling}
use Rattle.asm_text.specs.Said.{Target, Number, Label, Said, Codes, Refers, Orgs, Lists}
use Rattle.asm_text.specs.Operands.{is_byte, is_user}
use Rattle.asm_text.specs.SpelledOperands.{IsRegister, Listed, SpellsAddress, SpellsBlock, SpellsData}
use Rattle.asm_text.specs.SpelledOperands.{SpellsMultiply, SpellsNumber}
use Rattle.asm_text.specs.Statements.{Parsed, is_comment_text, is_in_body, is_label, is_text}
use Rattle.asm_text.specs.declared.token.Mark.TheVariants.{OpenBracket}
use Rattle.asm_text.specs.declared.names.Head.{Head}
use Rattle.asm_text.specs.declared.names.Head.TheVariants as head
use Rattle.asm_text.specs.declared.names.Suffix.{Suffix}
use Rattle.asm_text.specs.declared.word.Word.{Word}
use Rattle.asm_text.specs.declared.word.Word.TheVariants.{Plain, Branch, Org, Dcd}
use Rattle.asm_text.specs.declared.syntax.WordAction.{WordAction}
use Rattle.asm_text.specs.declared.syntax.WordAction.TheVariants as action
use Rattle.asm_text.specs.declared.syntax.Address.{Address}
use Rattle.asm_text.specs.declared.syntax.SingleTransfer.{SingleTransfer}
use Rattle.asm_text.specs.declared.syntax.Use.{Use}
use Rattle.asm_text.specs.declared.syntax.Use.TheVariants as use_of

-- a number, or a label by its name
abbrev pub SpellsTarget : Target → List Piece → Type 0
SpellsTarget (Number n) ps = SpellsNumber n ps
SpellsTarget (Label name) ps = (ps ≡ Run name ∷ []) × (is_label name ≡ true)

-- Rd,[address of LDR and STR
pub record SpellsTransfer (load : Bool) (s : Suffix) (x : SingleTransfer) (ps : List Piece) : Type 0 where
  pub rd : Register
  pub at : Address
  pub means : x ≡ record { load = load; byte = is_byte s; rd = rd; address = at }
  pub d : List ℕ
  pub rest : List Piece
  pub spelled : ps ≡ Run d ∷ Comma ∷ Sign OpenBracket ∷ rest
  pub d-is : IsRegister d rd
  pub address : SpellsAddress (is_user s) at rest

-- Rd,target
pub record SpellsAt (rd : Register) (t : Target) (ps : List Piece) : Type 0 where
  pub d : List ℕ
  pub rest : List Piece
  pub spelled : ps ≡ Run d ∷ Comma ∷ rest
  pub d-is : IsRegister d rd
  pub target : SpellsTarget t rest

-- ## What follows a word

-- an action whose operands are all numbers and registers
abbrev pub SpellsAction : WordAction → Head → Suffix → List Piece → Type 0
SpellsAction (action.Data x) (head.Data op) s ps = SpellsData op s x ps
SpellsAction (action.Multiply x) (head.Multiply accumulate) s ps = SpellsMultiply accumulate s x ps
SpellsAction (action.Single x) (head.Single load) s ps = SpellsTransfer load s x ps
SpellsAction (action.Block x) (head.Block load) s ps = SpellsBlock load s x ps
SpellsAction (action.Swi n) head.Swi s ps = SpellsNumber n ps
SpellsAction _ _ s ps = ⊥

-- a word with a target, after Rd; with user rights there is none
abbrev pub SpellsUse : Use → Head → Suffix → Target → List Piece → Type 0
SpellsUse (use_of.Adr d) head.Adr s t ps = SpellsAt d t ps
SpellsUse (use_of.Transfer load byte d) (head.Single l) s t ps =
    (load ≡ l) × (byte ≡ is_byte s) × (is_user s ≡ false) × SpellsAt d t ps
SpellsUse _ _ s t ps = ⊥

-- what a statement of this word says, and its operands
abbrev pub SpellsOperands : Said → Word → List Piece → Type 0
SpellsOperands (Codes x) (Plain h c s) ps = (x.cond ≡ c) × SpellsAction x.action h s ps
SpellsOperands (Refers r t) (Plain h c s) ps = (r.cond ≡ c) × SpellsUse r.how h s t ps
SpellsOperands (Refers r t) (Branch link c) ps =
    (r ≡ record { cond = c; how = use_of.Branch link }) × SpellsTarget t ps
SpellsOperands (Orgs n) Org ps = SpellsNumber n ps
SpellsOperands (Lists values) Dcd ps = Listed SpellsTarget values ps
SpellsOperands _ _ ps = ⊥

-- a word, a blank and its operands
pub record SpellsSaid (x : Said) (ps : List Piece) : Type 0 where
  pub name : List ℕ
  pub word : Word
  pub rest : List Piece
  pub spelled : ps ≡ Run name ∷ Gap ∷ rest
  pub word-is : IsSpelling name word
  pub operands : SpellsOperands x word rest

-- ## Lines

-- [label] [blank word operands]
abbrev pub SpellsParts : Option (List ℕ) → Option Said → List Piece → Type 0
SpellsParts None None ps = ps ≡ []
SpellsParts None (Some x) ps = (rest : List Piece) × (ps ≡ Gap ∷ rest) × SpellsSaid x rest
SpellsParts (Some name) None ps = (ps ≡ Run name ∷ []) × (is_label name ≡ true)
SpellsParts (Some name) (Some x) ps =
    (rest : List Piece) × (ps ≡ Run name ∷ Gap ∷ rest) × (is_label name ≡ true) × SpellsSaid x rest

-- nothing, or a `;` and text
abbrev pub IsComment : List ℕ → Type 0
IsComment text = (text ≡ []) ⊎ ((rest : List ℕ) × (text ≡ 59 ∷ rest) × (list_all is_comment_text rest ≡ true))

-- the line's pieces as text, without a `;`, and a comment
pub record Spells (p : Parsed) (line : List ℕ) : Type 0 where
  pub body : List ℕ
  pub comment : List ℕ
  pub parts : line ≡ body ++ comment
  pub text : list_all is_text body ≡ true
  pub no_semicolon : list_all is_in_body body ≡ true
  pub comment-is : IsComment comment
  pub pieces : List Piece
  pub written : Written pieces body
  pub spaced : WellSpaced pieces
  pub spelled : SpellsParts p.label p.said pieces

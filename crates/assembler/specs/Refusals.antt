-- Which fault a source that is refused gets, and of which line.
use Rattle.std.specs.Prelude.{◌≡◌, ◌⊎◌, ◌+◌, ◌<◌, ◌≤◌, ℕ, true, false, List, [], ◌∷◌, ◌++◌, length}
use Rattle.std.specs.Prelude.{flat_map, Option, Some, Err}
use Rattle.std.specs.List.{AllByRecursion, Contains, list_all}
use Rattle.image.specs.Image.{may_hold}
use Rattle.image.specs.declared.places.TheConstants.{MOST_SEGMENTS, MOST_WORDS}
use Rattle.asm_text.specs.Lines.{IsBlanks}
use Rattle.asm_text.specs.Pieces.{is_name}
use Rattle.asm_text.specs.Words.{IsSpelling}
use Rattle.asm_text.specs.declared.word.Word.{Word}
use Rattle.asm_text.specs.Said.{Number, Label, Said, Codes, Refers, Orgs, Lists}
use Rattle.asm_text.specs.Source.{lines_of}
use Rattle.asm_text.specs.Spelling.{Spells}
use Rattle.asm_text.specs.Statements.{Parsed, begins_blank_or_ends, body, is_comment_text, is_in_body}
use Rattle.asm_text.specs.Statements.{is_label, is_text}
use Rattle.assembler.specs.Assembles.{Laid, address_after, labels_of, laid, places, addresses_from, segments}
use Rattle.assembler.specs.Assembles.{word_count}
use Rattle.assembler.specs.Codes.{encoded, refer, use_fault}
use Rattle.assembler.specs.Faults.{number}
use Rattle.assembler.specs.declared.fault.LineFault.{LineFault}
use Rattle.assembler.specs.declared.fault.LineFault.TheVariants.{NotText, UnknownWord, BadOperand, LabelTwice}
use Rattle.assembler.specs.declared.fault.LineFault.TheVariants.{LabelMissing, OutOfRange, TooLong}
use Rattle.assembler.specs.declared.sweep.TheConstants.{FIRST_ADDRESS}

-- ## A line that cannot be read

-- a byte that no line may have, or, with no `;` in front of it, one that only a comment may have
abbrev pub HasStrayByte : List ℕ → Type 0
HasStrayByte line =
    (front rest : List ℕ) × (b : ℕ) × (line ≡ front ++ (b ∷ rest))
    × ((is_comment_text b ≡ false) ⊎ ((is_text b ≡ false) × (list_all is_in_body front ≡ true)))

-- blanks, and a word, which ends at a blank or with the text
pub record BeginsStatement (text : List ℕ) : Type 0 where
  pub blanks : List ℕ
  pub name : List ℕ
  pub rest : List ℕ
  pub parts : text ≡ blanks ++ (name ++ rest)
  pub blank : IsBlanks blanks
  pub some : 0 < length blanks
  pub letters : list_all is_name name ≡ true
  pub word : Word
  pub word-is : IsSpelling name word
  pub ends : begins_blank_or_ends rest ≡ true

-- a label or nothing; after it blanks alone, or blanks and a word
pub record BeginsLine (text : List ℕ) : Type 0 where
  pub label : List ℕ
  pub after : List ℕ
  pub parts : text ≡ label ++ after
  pub label-is : (label ≡ []) ⊎ (is_label label ≡ true)
  pub statement : IsBlanks after ⊎ BeginsStatement after

-- why a line cannot be read: it has such a byte; what begins in its first column is no label, or what comes
-- next is no word; or it means nothing
abbrev pub IsUnreadable : List ℕ → LineFault → Type 0
IsUnreadable line NotText = HasStrayByte line
IsUnreadable line UnknownWord = BeginsLine (body line) → ⊥
IsUnreadable line BadOperand = (p : Parsed) → Spells p line → ⊥
IsUnreadable line _ = ⊥

-- ## A line that can be read, after others

-- the address after lines
abbrev pub address_after_all : ℕ → List Parsed → ℕ
address_after_all at [] = at
address_after_all at (p ∷ ps) = address_after_all (address_after at p.said) ps

-- the address of a line after others
abbrev pub address_of_next : List Parsed → ℕ
address_of_next before = address_after_all FIRST_ADDRESS before

-- its word has no code, whatever address a label has
abbrev pub HasCodeFault : ℕ → Option Said → LineFault → Type 0
HasCodeFault at (Some (Codes c)) fault = encoded c at ≡ Err fault
HasCodeFault at (Some (Refers r (Number n))) fault = encoded (refer r at n) at ≡ Err fault
HasCodeFault at (Some (Refers r (Label name))) fault = use_fault r.how ≡ Some fault
HasCodeFault at _ fault = ⊥

-- a line before it has its label
abbrev pub IsRepeated : List Parsed → Option (List ℕ) → Type 0
IsRepeated before label =
    (name : List ℕ) × (at : ℕ) × (label ≡ Some name) × Contains (labels_of (laid before)) (name, at)

-- the addresses that a line asks for: those of its words, or its ORG's
abbrev pub asked : ℕ → Option Said → List ℕ
asked at (Some (Orgs n)) = n ∷ []
asked at said = addresses_from at (word_count said)

-- one of them may hold no word, or a line before it has a word there
abbrev pub IsMisplaced : List Parsed → Option Said → Type 0
IsMisplaced before said =
    (a : ℕ) × Contains (asked (address_of_next before) said) a
    × ((may_hold a ≡ false) ⊎ Contains (flat_map places (laid before)) a)

-- lines have more than 65,536 words, or their words more than 16 segments
abbrev pub AreTooLong : List Parsed → Type 0
AreTooLong lines =
    (MOST_WORDS < length (flat_map places (laid lines))) ⊎ (MOST_SEGMENTS < segments false (laid lines))

-- a label that an earlier line has, an address that it cannot have, or too many words or segments
abbrev pub Clashes : List Parsed → Parsed → LineFault → Type 0
Clashes before p LabelTwice = IsRepeated before p.label
Clashes before p OutOfRange = IsMisplaced before p.said
Clashes before p TooLong = AreTooLong (before ++ p ∷ [])
Clashes before p _ = ⊥

-- what is wrong with a line that says this
abbrev pub IsWrong : List Parsed → Parsed → LineFault → Type 0
IsWrong before p fault = HasCodeFault (address_of_next before) p.said fault ⊎ Clashes before p fault

-- what is wrong with a line, by the lines before it, where no label's address is needed
abbrev pub HasFault : List Parsed → List ℕ → LineFault → Type 0
HasFault before line fault = IsUnreadable line fault ⊎ ((p : Parsed) × Spells p line × IsWrong before p fault)

-- ## What needs a label's address

-- no line has the label
abbrev pub IsMissing : List (List ℕ × ℕ) → List ℕ → Type 0
IsMissing labels name = (at : ℕ) → Contains labels (name, at) → ⊥

-- a line names a label that no line has, or its word has no code with the label's address
abbrev pub HasLabelFault : List (List ℕ × ℕ) → ℕ → Option Said → LineFault → Type 0
HasLabelFault labels at (Some (Refers r (Label name))) fault =
    ((fault ≡ LabelMissing) × IsMissing labels name)
    ⊎ ((target : ℕ) × Contains labels (name, target) × (encoded (refer r at target) at ≡ Err fault))
HasLabelFault labels at (Some (Lists values)) fault =
    (name : List ℕ) × (fault ≡ LabelMissing) × Contains values (Label name) × IsMissing labels name
HasLabelFault labels at _ fault = ⊥

abbrev pub IsFaultless : List (List ℕ × ℕ) → Laid → Type 0
IsFaultless labels line = (fault : LineFault) → HasLabelFault labels line.at line.said fault → ⊥

-- ## The whole

-- a fault that holds, and of those that hold the one of the lowest number
pub record IsLowest (Has : LineFault → Type 0) (fault : LineFault) : Type 0 where
  pub holds : Has fault
  pub lowest : (other : LineFault) → Has other → number fault ≤ number other

-- lines after others, and what each says; none has a fault that needs no label's address
abbrev pub ArePassed : List Parsed → List (List ℕ) → List Parsed → Type 0
ArePassed before [] [] = Unit {0}
ArePassed before (line ∷ lines) (p ∷ ps) =
    Spells p line × ((fault : LineFault) → HasFault before line fault → ⊥)
    × ArePassed (before ++ p ∷ []) lines ps
ArePassed before _ _ = ⊥

-- the line of a number is the first with a fault that needs no label's address, and this is its lowest
pub record IsRefusedAtOnce (source : List ℕ) (fault : LineFault) (line_number : ℕ) : Type 0 where
  pub front : List (List ℕ)
  pub line : List ℕ
  pub after : List (List ℕ)
  pub parts : lines_of source ≡ front ++ (line ∷ after)
  pub number-is : line_number ≡ length front + 1
  pub said : List Parsed
  pub passed : ArePassed [] front said
  pub fault-is : IsLowest (HasFault said line) fault

-- no line has such a fault, and that of the number is the first with one that needs a label's address
pub record IsRefusedForLabels (source : List ℕ) (fault : LineFault) (line_number : ℕ) : Type 0 where
  pub said : List Parsed
  pub passed : ArePassed [] (lines_of source) said
  pub front : List Laid
  pub line : Laid
  pub after : List Laid
  pub parts : laid said ≡ front ++ (line ∷ after)
  pub number-is : line_number ≡ length front + 1
  pub none : AllByRecursion (IsFaultless (labels_of (laid said))) front
  pub fault-is : IsLowest (HasLabelFault (labels_of (laid said)) line.at line.said) fault

abbrev pub IsRefusal : List ℕ → LineFault → ℕ → Type 0
IsRefusal source fault line_number =
    IsRefusedAtOnce source fault line_number ⊎ IsRefusedForLabels source fault line_number

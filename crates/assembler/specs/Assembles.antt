-- What it is for an image and names to be those of a source.
use Rattle.std.specs.Prelude.{◌≡◌, ◌≢◌, ◌↔◌, ◌+◌, ◌*◌, ◌≤◌, ◌==◌, ◌||◌, not, ℕ, zero, suc, Bool, true, false}
use Rattle.std.specs.Prelude.{List, [], ◌∷◌, ◌++◌, length, map, flat_map, Option, Some, None, Ok}
use Rattle.std.specs.Prelude.{if◌then◌else◌}
use Rattle.std.specs.List.{AllByRecursion, AllZip, Contains, fold}
use Rattle.image.specs.Image.{Words, may_hold, with_word}
use Rattle.image.specs.declared.places.TheConstants.{MOST_SEGMENTS, MOST_WORDS}
use Rattle.asm_text.specs.Said.{Target, Number, Label, Said, Codes, Refers, Orgs, Lists}
use Rattle.asm_text.specs.Source.{lines_of}
use Rattle.asm_text.specs.Spelling.{Spells}
use Rattle.asm_text.specs.Statements.{Parsed}
use Rattle.assembler.specs.Codes.{encoded, refer}
use Rattle.image.specs.Labels.{Names}
use Rattle.assembler.specs.declared.sweep.TheConstants.{FIRST_ADDRESS}

-- ## Where each line is placed

-- what a line says, and its address
pub record Laid : Type 0 where
  pub at : ℕ
  pub label : Option (List ℕ)
  pub said : Option Said

abbrev pub word_count : Option Said → ℕ
word_count (Some (Codes c)) = 1
word_count (Some (Refers r t)) = 1
word_count (Some (Lists values)) = length values
word_count _ = 0

-- the address of an ORG, or that after the line's words
abbrev pub address_after : ℕ → Option Said → ℕ
address_after at (Some (Orgs n)) = n
address_after at said = at + 4 * word_count said

-- lines one after the other, from an address on
abbrev pub laid_from : ℕ → List Parsed → List Laid
laid_from at [] = []
laid_from at (p ∷ ps) =
    record { at = at; label = p.label; said = p.said } ∷ laid_from (address_after at p.said) ps

-- the addresses of so many words side by side, the first at this one
abbrev pub addresses_from : (at count : ℕ) → List ℕ
addresses_from at zero = []
addresses_from at (suc n) = at ∷ addresses_from (at + 4) n

-- the addresses of a line's words
abbrev pub places : Laid → List ℕ
places line = addresses_from line.at (word_count line.said)

-- ## Labels

-- a line's label, with its address
abbrev pub label_at : ℕ → Option (List ℕ) → List (List ℕ × ℕ)
label_at at None = []
label_at at (Some name) = (name, at) ∷ []

abbrev pub labels_of : List Laid → List (List ℕ × ℕ)
labels_of lines = flat_map (λ line. label_at line.at line.label) lines

-- nothing appears twice
abbrev pub Once : {A : Type 0} → List A → Type 0
Once [] = Unit {0}
Once (x ∷ xs) = AllByRecursion (λ y. x ≢ y) xs × Once xs

-- ## Words

abbrev pub IsTarget : Names → Target → ℕ → Type 0
IsTarget names (Number n) address = address ≡ n
IsTarget names (Label name) address = names name ≡ Some address

-- the words of a line at an address
abbrev pub AreWords : Names → Option Said → ℕ → List ℕ → Type 0
AreWords names (Some (Codes c)) at words = (w : ℕ) × (words ≡ w ∷ []) × (encoded c at ≡ Ok w)
AreWords names (Some (Refers r t)) at words =
    (w target : ℕ) × (words ≡ w ∷ []) × IsTarget names t target × (encoded (refer r at target) at ≡ Ok w)
AreWords names (Some (Lists values)) at words = AllZip (IsTarget names) values words
AreWords names _ at words = words ≡ []

-- words side by side, with their addresses
abbrev pub words_from : ℕ → List ℕ → Words
words_from at [] = []
words_from at (w ∷ words) = (at, w) ∷ words_from (at + 4) words

-- the words of all lines, with their addresses
abbrev pub words_at : List Laid → List (List ℕ) → Words
words_at [] words = []
words_at (line ∷ lines) [] = []
words_at (line ∷ lines) (words ∷ more) = words_from line.at words ++ words_at lines more

-- the words in the order of their addresses
abbrev pub image_of : Words → Words
image_of words = fold (λ image e. with_word image e.0 e.1) [] words

-- ## Limits

-- an ORG's address may hold a word, and there is no word there already
abbrev pub IsFree : List ℕ → Option Said → Type 0
IsFree taken (Some (Orgs n)) = (may_hold n ≡ true) × AllByRecursion (λ a. a ≢ n) taken
IsFree taken _ = Unit {0}

-- the same of each line, where some places are taken before the first
abbrev pub AreFree : List ℕ → List Laid → Type 0
AreFree taken [] = Unit {0}
AreFree taken (line ∷ lines) = IsFree taken line.said × AreFree (taken ++ places line) lines

-- whether a word follows the last ORG
abbrev pub is_open : Bool → Option Said → Bool
is_open begun (Some (Orgs n)) = false
is_open begun said = begun || not (word_count said == 0)

-- the segments that begin in some lines: each with the first word after an ORG, or with the first of all
abbrev pub segments : Bool → List Laid → ℕ
segments begun [] = 0
segments begun (line ∷ lines) =
    (if begun || word_count line.said == 0 then 0 else 1) + segments (is_open begun line.said) lines

-- ## The whole

-- where each line lies
abbrev pub laid : List Parsed → List Laid
laid lines = laid_from FIRST_ADDRESS lines

pub record IsAssembly (source : List ℕ) (image : Words) (names : Names) : Type 0 where
  -- what each line says
  pub lines : List Parsed
  pub read : AllZip (λ line p. Spells p line) (lines_of source) lines
  -- each label appears once, and names the address of its line; nothing else is a name
  pub once : Once (map (λ e. e.0) (labels_of (laid lines)))
  pub named : (name : List ℕ) → (at : ℕ) → (names name ≡ Some at)
      ↔ Contains (labels_of (laid lines)) (name, at)
  -- the words of each line, each at its address, and no others
  pub words : List (List ℕ)
  pub coded : AllZip (λ line ws. AreWords names line.said line.at ws) (laid lines) words
  pub image-is : image ≡ image_of (words_at (laid lines) words)
  -- each word is where one may be, and none in another's place
  pub held : AllByRecursion (λ a. may_hold a ≡ true) (flat_map places (laid lines))
  pub apart : Once (flat_map places (laid lines))
  -- an ORG's address may hold a word, and no line before the ORG has one there
  pub free : AreFree [] (laid lines)
  -- 65,536 words and 16 segments at most
  pub few : length (flat_map places (laid lines)) ≤ MOST_WORDS
  pub few_segments : segments false (laid lines) ≤ MOST_SEGMENTS

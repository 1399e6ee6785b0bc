-- The words of the source: a head, a condition or none, and a suffix.
use Rattle.std.specs.Prelude.{◌≡◌, ◌||◌, ℕ, List, [], ◌∷◌, ◌++◌, codes, Bool, true, false, Option, Some, None}
use Rattle.std.specs.Prelude.{◌⊎◌, map, take, drop, if◌then◌else◌, option_map}
use Rattle.std.specs.Char.{to_ascii_uppercase, to_ascii_lowercase}
use Rattle.std.specs.Str.{bytes_eq}
use Rattle.arm2_decode.specs.declared.names.Cond.{Cond}
use Rattle.arm2_decode.specs.declared.names.Cond.TheVariants.{Al}
use Rattle.asm_text.specs.declared.names.Head.{Head}
use Rattle.asm_text.specs.declared.names.Suffix.{Suffix}
use Rattle.asm_text.specs.declared.word.Word.{Word}
use Rattle.asm_text.specs.declared.word.Word.TheVariants.{Plain, Branch, Org, Dcd}
use Rattle.asm_text.specs.Names.{cond_name, cond_of, head_name, head_of, suffix_name, suffix_of, may_have}

-- ## What a word is

-- a condition is spelled by its name, and AL also by nothing
abbrev pub IsCond : List ℕ → Cond → Type 0
IsCond text c = (text ≡ cond_name c) ⊎ ((text ≡ []) × (c ≡ Al))

abbrev pub branch_name : Bool → List ℕ
branch_name false = codes "B"
branch_name true = codes "BL"

-- the text, in upper case, spells the word
abbrev pub IsWord : List ℕ → Word → Type 0
IsWord text (Plain h c s) =
    (cond : List ℕ) × IsCond cond c × (may_have h s ≡ true) × (text ≡ head_name h ++ (cond ++ suffix_name s))
IsWord text (Branch link c) = (cond : List ℕ) × IsCond cond c × (text ≡ branch_name link ++ cond)
IsWord text Org = text ≡ codes "ORG"
IsWord text Dcd = text ≡ codes "DCD"

abbrev pub upper : List ℕ → List ℕ
upper text = map to_ascii_uppercase text

-- wholly in upper or in lower case
abbrev pub is_one_case : List ℕ → Bool
is_one_case text = bytes_eq text (upper text) || bytes_eq text (map to_ascii_lowercase text)

-- the text spells the word, in either case
abbrev pub IsSpelling : List ℕ → Word → Type 0
IsSpelling text w = (is_one_case text ≡ true) × IsWord (upper text) w

-- ## Reading one

-- a condition that is all of the text
abbrev pub whole_cond : List ℕ → Option Cond
whole_cond [] = Some Al
whole_cond (c ∷ cs) = cond_of (c ∷ cs)

abbrev pub branch_link : List ℕ → Option Word
branch_link [] = None
branch_link (c ∷ rest) =
    if bytes_eq (c ∷ []) (codes "L") then option_map (Branch true) (whole_cond rest) else None

abbrev pub branch_rest : Option Cond → List ℕ → Option Word
branch_rest (Some c) rest = Some (Branch false c)
branch_rest None rest = branch_link rest

abbrev pub branch_of : List ℕ → Option Word
branch_of [] = None
branch_of (c ∷ rest) = if bytes_eq (c ∷ []) (codes "B") then branch_rest (whole_cond rest) rest else None

abbrev pub allowed : Head → Cond → Suffix → Option Word
allowed h c s = if may_have h s then Some (Plain h c s) else None

abbrev pub with_suffix : Head → Cond → Option Suffix → Option Word
with_suffix h c None = None
with_suffix h c (Some s) = allowed h c s

abbrev pub head_cond : Head → Option Cond → List ℕ → Option Word
head_cond h (Some c) rest = with_suffix h c (suffix_of (drop 2 rest))
head_cond h None rest = with_suffix h Al (suffix_of rest)

abbrev pub head_rest : Option Head → List ℕ → Option Word
head_rest None rest = None
head_rest (Some h) rest = head_cond h (cond_of (take 2 rest)) rest

abbrev pub plain_of : List ℕ → Option Word
plain_of text = head_rest (head_of (take 3 text)) (drop 3 text)

abbrev pub plain_unless : Option Word → List ℕ → Option Word
plain_unless (Some w) text = Some w
plain_unless None text = plain_of text

-- the word that a text in upper case spells
unfoldable pub word_of : List ℕ → Option Word
word_of text =
    if bytes_eq text (codes "ORG") then Some Org
    else if bytes_eq text (codes "DCD") then Some Dcd
    else plain_unless (branch_of text) text

-- the word that a text in either case spells
abbrev pub spelled_word_of : List ℕ → Option Word
spelled_word_of text = if is_one_case text then word_of (upper text) else None

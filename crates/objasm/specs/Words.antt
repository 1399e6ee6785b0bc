-- The words of ObjAsm that have a meaning of their own.
use Rattle.std.specs.Prelude.{ℕ, ◌+◌, ◌==◌, ◌&&◌, ◌||◌, not, nat_lt, Bool, false, List, [], ◌∷◌, ◌++◌, codes}
use Rattle.std.specs.Prelude.{length, take, drop}
use Rattle.std.specs.Prelude.{if◌then◌else◌}
use Rattle.std.specs.List.{list_any}
use Rattle.std.specs.Str.{bytes_eq}
use Rattle.objasm.specs.declared.words.Operands.{Operands}
use Rattle.objasm.specs.declared.words.Operands.TheVariants.{Values, Offsets, Others}

abbrev pub is_one_of : List (List ℕ) → List ℕ → Bool
is_one_of words word = list_any (λ known. bytes_eq known word) words

-- directives that stand for nothing here: they name areas, entries and symbols for a linker, and print
abbrev pub silent : List (List ℕ)
silent =
    codes "AREA" ∷ codes "ENTRY" ∷ codes "EXPORT" ∷ codes "KEEP" ∷ codes "OPT" ∷ codes "SUBT" ∷ codes "TTL"
    ∷ []

abbrev pub is_silent : List ℕ → Bool
is_silent word = is_one_of silent word

abbrev pub is_assert : List ℕ → Bool
is_assert word = bytes_eq word (codes "ASSERT")

-- the words that are loaded stand here
abbrev pub is_ltorg : List ℕ → Bool
is_ltorg word = bytes_eq word (codes "LTORG")

-- directives that are not translated
abbrev pub directives : List (List ℕ)
directives =
    codes "ADRL" ∷ codes "ALIGN" ∷ codes "AOF" ∷ codes "AOUT" ∷ codes "BIN" ∷ codes "CN" ∷ codes "CP"
    ∷ codes "DATA" ∷ codes "DCB" ∷ codes "DCFD" ∷ codes "DCFS" ∷ codes "DCW" ∷ codes "ELSE" ∷ codes "END"
    ∷ codes "ENDIF" ∷ codes "EQU" ∷ codes "FIELD" ∷ codes "FN" ∷ codes "GBLA" ∷ codes "GBLL"
    ∷ codes "GBLS" ∷ codes "GET"
    ∷ codes "GLOBAL" ∷ codes "IF" ∷ codes "IMPORT" ∷ codes "INCBIN" ∷ codes "INCLUDE" ∷ codes "INFO"
    ∷ codes "LCLA" ∷ codes "LCLL" ∷ codes "LCLS" ∷ codes "LEAF" ∷ codes "LIB" ∷ codes "LNK"
    ∷ codes "MACRO" ∷ codes "MAP" ∷ codes "MEND" ∷ codes "MEXIT" ∷ codes "NOFP" ∷ codes "RLIST" ∷ codes "RN"
    ∷ codes "ROUT" ∷ codes "SETA" ∷ codes "SETL" ∷ codes "SETS" ∷ codes "SPACE" ∷ codes "STRONG"
    ∷ codes "WEND" ∷ codes "WHILE" ∷ []

abbrev pub is_directive : List ℕ → Bool
is_directive word = is_one_of directives word

abbrev pub is_adr : List ℕ → Bool
is_adr word =
    if nat_lt (length word) 3 then false
    else bytes_eq (take 3 word) (codes "ADR") || bytes_eq (take 3 word) (codes "adr")

-- ADD for ADR, and add for adr
abbrev pub sum_word : List ℕ → List ℕ
sum_word word =
    if nat_lt (length word) 3 then word
    else if bytes_eq (take 3 word) (codes "ADR") then codes "ADD" ++ drop 3 word
    else codes "add" ++ drop 3 word

abbrev pub load_heads : List (List ℕ)
load_heads = codes "LDR" ∷ codes "ldr" ∷ []

abbrev pub byte_ends : List (List ℕ)
byte_ends = codes "BT" ∷ codes "bt" ∷ []

-- nothing, or the two letters of a condition
abbrev pub may_end_load : List ℕ → Bool
may_end_load end = length end == 0 || (length end == 2 && not (is_one_of byte_ends end))

-- LDR of a word, with a condition or none
abbrev pub is_load : List ℕ → Bool
is_load word =
    if nat_lt (length word) 3 then false else is_one_of load_heads (take 3 word) && may_end_load (drop 3 word)

-- MOV for LDR, and mov for ldr
abbrev pub moved_word : List ℕ → List ℕ
moved_word word =
    if nat_lt (length word) 3 then word
    else if bytes_eq (take 3 word) (codes "LDR") then codes "MOV" ++ drop 3 word
    else codes "mov" ++ drop 3 word

abbrev pub is_nop : List ℕ → Bool
is_nop word = bytes_eq word (codes "NOP") || bytes_eq word (codes "nop")

abbrev pub value_words : List (List ℕ)
value_words =
    codes "DCD" ∷ codes "ORG" ∷ codes "SWI" ∷ codes "dcd" ∷ codes "org" ∷ codes "swi" ∷ []

abbrev pub offset_words : List (List ℕ)
offset_words = codes "LDR" ∷ codes "STR" ∷ codes "ldr" ∷ codes "str" ∷ []

-- what the operands of a word are, by its first three letters
abbrev pub kind_of : List ℕ → Operands
kind_of word =
    if nat_lt (length word) 3 then Others
    else if is_one_of value_words (take 3 word) then Values
    else if is_one_of offset_words (take 3 word) then Offsets
    else Others

-- HS is another name of CS, and LO of CC
abbrev pub known_cond : List ℕ → List ℕ
known_cond cond =
    if bytes_eq cond (codes "HS") then codes "CS"
    else if bytes_eq cond (codes "LO") then codes "CC"
    else if bytes_eq cond (codes "hs") then codes "cs"
    else if bytes_eq cond (codes "lo") then codes "cc"
    else cond

-- where the condition of a word stands: B and three letters, BL and four, or else after three
abbrev pub cond_place : ℕ → ℕ
cond_place len = if len == 3 then 1 else if len == 4 then 2 else 3

-- the word as our grammar has it
abbrev pub word_text : List ℕ → List ℕ
word_text word =
    let place = cond_place (length word) in
    if nat_lt (length word) (place + 2) then word
    else take place word ++ (known_cond (take 2 (drop place word)) ++ drop 2 (drop place word))

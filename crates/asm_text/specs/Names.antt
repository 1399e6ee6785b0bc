-- The parts of a word and their names, in upper case (over the VL86C010 data sheet's assembler syntax).
use Rattle.std.specs.Prelude.{ℕ, List, [], ◌∷◌, codes, Bool, true, false, Option}
use Rattle.std.specs.List.{find}
use Rattle.std.specs.Str.{bytes_eq}
use Rattle.arm2_decode.specs.Names.{is_compare}
use Rattle.arm2_decode.specs.declared.names.Cond.{Cond}
use Rattle.arm2_decode.specs.declared.names.Cond.TheVariants.{Eq, Ne, Cs, Cc, Mi, Pl, Vs, Vc, Hi, Ls, Ge, Lt}
use Rattle.arm2_decode.specs.declared.names.Cond.TheVariants.{Gt, Le, Al, Nv}
use Rattle.arm2_decode.specs.declared.names.Opcode.{Opcode}
use Rattle.arm2_decode.specs.declared.names.Opcode.TheVariants.{And, Eor, Sub, Rsb, Add, Adc, Sbc, Rsc, Tst}
use Rattle.arm2_decode.specs.declared.names.Opcode.TheVariants.{Teq, Cmp, Cmn, Orr, Mov, Bic, Mvn}
use Rattle.asm_text.specs.declared.names.Head.{Head}
use Rattle.asm_text.specs.declared.names.Head.TheVariants.{Data, Multiply, Single, Block, Swi, Adr}
use Rattle.asm_text.specs.declared.names.Suffix.{Suffix}
use Rattle.asm_text.specs.declared.names.Suffix.TheVariants.{Bare, S, P, B, T, Bt, Ia, Ib, Da, Db, Fd, Ed, Fa}
use Rattle.asm_text.specs.declared.names.Suffix.TheVariants.{Ea}

abbrev pub cond_name : Cond → List ℕ
cond_name Eq = codes "EQ"
cond_name Ne = codes "NE"
cond_name Cs = codes "CS"
cond_name Cc = codes "CC"
cond_name Mi = codes "MI"
cond_name Pl = codes "PL"
cond_name Vs = codes "VS"
cond_name Vc = codes "VC"
cond_name Hi = codes "HI"
cond_name Ls = codes "LS"
cond_name Ge = codes "GE"
cond_name Lt = codes "LT"
cond_name Gt = codes "GT"
cond_name Le = codes "LE"
cond_name Al = codes "AL"
cond_name Nv = codes "NV"

abbrev pub opcode_name : Opcode → List ℕ
opcode_name And = codes "AND"
opcode_name Eor = codes "EOR"
opcode_name Sub = codes "SUB"
opcode_name Rsb = codes "RSB"
opcode_name Add = codes "ADD"
opcode_name Adc = codes "ADC"
opcode_name Sbc = codes "SBC"
opcode_name Rsc = codes "RSC"
opcode_name Tst = codes "TST"
opcode_name Teq = codes "TEQ"
opcode_name Cmp = codes "CMP"
opcode_name Cmn = codes "CMN"
opcode_name Orr = codes "ORR"
opcode_name Mov = codes "MOV"
opcode_name Bic = codes "BIC"
opcode_name Mvn = codes "MVN"

-- the first three letters of a word
abbrev pub head_name : Head → List ℕ
head_name (Data op) = opcode_name op
head_name (Multiply false) = codes "MUL"
head_name (Multiply true) = codes "MLA"
head_name (Single true) = codes "LDR"
head_name (Single false) = codes "STR"
head_name (Block true) = codes "LDM"
head_name (Block false) = codes "STM"
head_name Swi = codes "SWI"
head_name Adr = codes "ADR"

-- what follows the condition
abbrev pub suffix_name : Suffix → List ℕ
suffix_name Bare = []
suffix_name S = codes "S"
suffix_name P = codes "P"
suffix_name B = codes "B"
suffix_name T = codes "T"
suffix_name Bt = codes "BT"
suffix_name Ia = codes "IA"
suffix_name Ib = codes "IB"
suffix_name Da = codes "DA"
suffix_name Db = codes "DB"
suffix_name Fd = codes "FD"
suffix_name Ed = codes "ED"
suffix_name Fa = codes "FA"
suffix_name Ea = codes "EA"

abbrev pub conds : List Cond
conds = Eq ∷ Ne ∷ Cs ∷ Cc ∷ Mi ∷ Pl ∷ Vs ∷ Vc ∷ Hi ∷ Ls ∷ Ge ∷ Lt ∷ Gt ∷ Le ∷ Al ∷ Nv ∷ []

abbrev pub heads : List Head
heads =
    Data And
    ∷ Data Eor
    ∷ Data Sub
    ∷ Data Rsb
    ∷ Data Add
    ∷ Data Adc
    ∷ Data Sbc
    ∷ Data Rsc
    ∷ Data Tst
    ∷ Data Teq
    ∷ Data Cmp
    ∷ Data Cmn
    ∷ Data Orr
    ∷ Data Mov
    ∷ Data Bic
    ∷ Data Mvn
    ∷ Multiply false
    ∷ Multiply true
    ∷ Single true
    ∷ Single false
    ∷ Block true
    ∷ Block false
    ∷ Swi
    ∷ Adr
    ∷ []

abbrev pub suffixes : List Suffix
suffixes = Bare ∷ S ∷ P ∷ B ∷ T ∷ Bt ∷ Ia ∷ Ib ∷ Da ∷ Db ∷ Fd ∷ Ed ∷ Fa ∷ Ea ∷ []

-- the first of the list that the text names
abbrev pub named : {A : Type 0} → (A → List ℕ) → List A → List ℕ → Option A
named name list text = find (λ a. bytes_eq text (name a)) list

unfoldable pub cond_of : List ℕ → Option Cond
cond_of text = named cond_name conds text

unfoldable pub head_of : List ℕ → Option Head
head_of text = named head_name heads text

unfoldable pub suffix_of : List ℕ → Option Suffix
suffix_of text = named suffix_name suffixes text

abbrev pub is_block_suffix : Suffix → Bool
is_block_suffix Ia = true
is_block_suffix Ib = true
is_block_suffix Da = true
is_block_suffix Db = true
is_block_suffix Fd = true
is_block_suffix Ed = true
is_block_suffix Fa = true
is_block_suffix Ea = true
is_block_suffix _ = false

-- which suffixes a word may have: data words S, compares P too; MUL and MLA S; LDR and STR B, T or both; LDM
-- and STM one of eight, always
abbrev pub may_have : Head → Suffix → Bool
may_have (Data op) Bare = true
may_have (Data op) S = true
may_have (Data op) P = is_compare op
may_have (Data op) _ = false
may_have (Multiply a) Bare = true
may_have (Multiply a) S = true
may_have (Multiply a) _ = false
may_have (Single l) Bare = true
may_have (Single l) B = true
may_have (Single l) T = true
may_have (Single l) Bt = true
may_have (Single l) _ = false
may_have (Block l) s = is_block_suffix s
may_have Swi Bare = true
may_have Swi _ = false
may_have Adr Bare = true
may_have Adr _ = false

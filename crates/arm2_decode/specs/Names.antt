-- The numbers of conditions, opcodes, shifts and registers in a word, and those of them that rules name
-- (VL86C010 data sheet, instruction formats).
use Rattle.std.specs.Prelude.{ℕ, ◌/◌, Bool, true, false, ◌==◌}
use Rattle.arm2_decode.specs.declared.names.Cond.{Cond}
use Rattle.arm2_decode.specs.declared.names.Cond.TheVariants.{Eq, Ne, Cs, Cc, Mi, Pl, Vs, Vc, Hi, Ls, Ge, Lt}
use Rattle.arm2_decode.specs.declared.names.Cond.TheVariants.{Gt, Le, Al, Nv}
use Rattle.arm2_decode.specs.declared.names.Opcode.{Opcode}
use Rattle.arm2_decode.specs.declared.names.Opcode.TheVariants.{And, Eor, Sub, Rsb, Add, Adc, Sbc, Rsc, Tst}
use Rattle.arm2_decode.specs.declared.names.Opcode.TheVariants.{Teq, Cmp, Cmn, Orr, Mov, Bic, Mvn}
use Rattle.arm2_decode.specs.declared.names.Shift.{Shift}
use Rattle.arm2_decode.specs.declared.names.Shift.TheVariants.{Lsl, Lsr, Asr, Ror}
use Rattle.arm2_decode.specs.declared.names.Register.{Register}
use Rattle.arm2_decode.specs.declared.names.Register.TheVariants.{R0, R1, R2, R3, R4, R5, R6, R7, R8, R9, R10}
use Rattle.arm2_decode.specs.declared.names.Register.TheVariants.{R11, R12, R13, R14, R15}

abbrev pub cond_number : Cond → ℕ
cond_number Eq = 0
cond_number Ne = 1
cond_number Cs = 2
cond_number Cc = 3
cond_number Mi = 4
cond_number Pl = 5
cond_number Vs = 6
cond_number Vc = 7
cond_number Hi = 8
cond_number Ls = 9
cond_number Ge = 10
cond_number Lt = 11
cond_number Gt = 12
cond_number Le = 13
cond_number Al = 14
cond_number Nv = 15

abbrev pub opcode_number : Opcode → ℕ
opcode_number And = 0
opcode_number Eor = 1
opcode_number Sub = 2
opcode_number Rsb = 3
opcode_number Add = 4
opcode_number Adc = 5
opcode_number Sbc = 6
opcode_number Rsc = 7
opcode_number Tst = 8
opcode_number Teq = 9
opcode_number Cmp = 10
opcode_number Cmn = 11
opcode_number Orr = 12
opcode_number Mov = 13
opcode_number Bic = 14
opcode_number Mvn = 15

-- the condition that always holds, and the one that never does
abbrev pub is_always : Cond → Bool
is_always Al = true
is_always _ = false

abbrev pub is_never : Cond → Bool
is_never Nv = true
is_never _ = false

abbrev pub is_add : Opcode → Bool
is_add Add = true
is_add _ = false

abbrev pub is_sub : Opcode → Bool
is_sub Sub = true
is_sub _ = false

abbrev pub is_mov : Opcode → Bool
is_mov Mov = true
is_mov _ = false

-- it leaves no result in Rd
abbrev pub is_compare : Opcode → Bool
is_compare Tst = true
is_compare Teq = true
is_compare Cmp = true
is_compare Cmn = true
is_compare _ = false

-- the numbers of these four, 8 to 11
abbrev pub is_compare_number : ℕ → Bool
is_compare_number number = number / 4 == 2

abbrev pub is_lsl : Shift → Bool
is_lsl Lsl = true
is_lsl _ = false

abbrev pub shift_number : Shift → ℕ
shift_number Lsl = 0
shift_number Lsr = 1
shift_number Asr = 2
shift_number Ror = 3

abbrev pub register_number : Register → ℕ
register_number R0 = 0
register_number R1 = 1
register_number R2 = 2
register_number R3 = 3
register_number R4 = 4
register_number R5 = 5
register_number R6 = 6
register_number R7 = 7
register_number R8 = 8
register_number R9 = 9
register_number R10 = 10
register_number R11 = 11
register_number R12 = 12
register_number R13 = 13
register_number R14 = 14
register_number R15 = 15

abbrev pub is_same : (register other : Register) → Bool
is_same register other = register_number register == register_number other

-- R13 points to the stack
abbrev pub is_stack : Register → Bool
is_stack register = register_number register == 13

-- R14 is the link register, which holds the return address
abbrev pub is_link : Register → Bool
is_link register = register_number register == 14

-- R15 is the program counter
abbrev pub is_pc_number : ℕ → Bool
is_pc_number number = number == 15

abbrev pub is_pc : Register → Bool
is_pc register = is_pc_number (register_number register)

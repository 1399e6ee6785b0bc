-- The word of a statement at an address (VL86C010 data sheet, instruction formats), and why it has none.
use Rattle.std.specs.Prelude.{ℕ, ◌+◌, ◌-◌, ◌*◌, ◌/◌, ◌%◌, ◌^◌, ◌==◌, ◌&&◌, ◌||◌, nat_le, nat_lt, Bool, true}
use Rattle.std.specs.Prelude.{false, [], ◌∷◌, Option, Some, None, Result, Ok, Err, if◌then◌else◌}
use Rattle.std.specs.Int.{w32, rotate_left}
use Rattle.std.specs.List.{find, range_with_len}
use Rattle.arm2_decode.specs.declared.names.Opcode.TheVariants as opcode
use Rattle.arm2_decode.specs.declared.names.Register.{Register}
use Rattle.arm2_decode.specs.declared.names.Register.TheVariants.{R15}
use Rattle.arm2_decode.specs.declared.names.Shift.{Shift}
use Rattle.arm2_decode.specs.declared.names.Shift.TheVariants.{Lsl, Lsr, Asr, Ror}
use Rattle.arm2_decode.specs.Names.{cond_number, opcode_number, register_number, shift_number}
use Rattle.arm2_decode.specs.Allowed.{bit_of, block_clash, data_clash, data_shift_clash, multiply_clash}
use Rattle.arm2_decode.specs.Allowed.{single_clash, single_register_clash}
use Rattle.arm2_decode.specs.Table.{multiply_row, data_register_row, data_register_shift_row}
use Rattle.arm2_decode.specs.Table.{data_immediate_row, single_immediate_row, single_register_row, block_row}
use Rattle.arm2_decode.specs.Table.{branch_row, swi_row, word_in}
use Rattle.bus_ticks.specs.Prices.{is_word_address}
use Rattle.asm_text.specs.declared.syntax.Amount.{Amount}
use Rattle.asm_text.specs.declared.syntax.Amount.TheVariants.{By, Rrx}
use Rattle.asm_text.specs.declared.syntax.Shifting.{Shifting}
use Rattle.asm_text.specs.declared.syntax.Shifting.TheVariants as shifting
use Rattle.asm_text.specs.declared.syntax.Operand.{Operand}
use Rattle.asm_text.specs.declared.syntax.Operand.TheVariants as operand
use Rattle.asm_text.specs.declared.syntax.Data.{Data}
use Rattle.asm_text.specs.declared.syntax.Product.{Product}
use Rattle.asm_text.specs.declared.syntax.Distance.{Distance}
use Rattle.asm_text.specs.declared.syntax.Distance.TheVariants as distance
use Rattle.asm_text.specs.declared.syntax.SingleTransfer.{SingleTransfer}
use Rattle.asm_text.specs.declared.syntax.BlockTransfer.{BlockTransfer}
use Rattle.asm_text.specs.declared.syntax.WordAction.{WordAction}
use Rattle.asm_text.specs.declared.syntax.WordAction.TheVariants as action
use Rattle.asm_text.specs.declared.syntax.Code.{Code}
use Rattle.asm_text.specs.declared.syntax.Use.{Use}
use Rattle.asm_text.specs.declared.syntax.Use.TheVariants as use_of
use Rattle.asm_text.specs.declared.syntax.Reference.{Reference}
use Rattle.assembler.specs.declared.fault.LineFault.{LineFault}
use Rattle.assembler.specs.declared.fault.LineFault.TheVariants.{ImmediateNotRotated, BranchTooFar}
use Rattle.assembler.specs.declared.fault.LineFault.TheVariants.{OutOfRange}
use Rattle.assembler.specs.declared.fault.LineFault.TheVariants.{Unallocated}

-- a word that no bar holds
abbrev pub allowed : ℕ → ℕ → Result ℕ LineFault
allowed why word = if why == 0 then Ok word else Err Unallocated

-- a word whose numbers fit
abbrev pub in_range : Bool → Result ℕ LineFault → Result ℕ LineFault
in_range fits word = if fits then word else Err OutOfRange

-- ## Data processing

-- to the left by twice as many places a number is a byte
abbrev pub is_byte_by : ℕ → ℕ → Bool
is_byte_by n k = nat_lt (rotate_left w32 n (2 * k)) 256

-- the lowest rotation from 0 to 15 that yields a number
abbrev pub rotation_of : ℕ → Option ℕ
rotation_of n = find (is_byte_by n) (range_with_len 0 16)

abbrev pub rotated_word : ℕ → Data → ℕ → Option ℕ → Result ℕ LineFault
rotated_word c d n None = Err ImmediateNotRotated
rotated_word c d n (Some k) =
    allowed (data_clash (opcode_number d.opcode) (bit_of d.sets_flags))
    (word_in data_immediate_row
    (c ∷ opcode_number d.opcode ∷ bit_of d.sets_flags ∷ register_number d.rn ∷ register_number d.rd ∷ k
    ∷ rotate_left w32 n (2 * k) ∷ []))

abbrev pub immediate_word : ℕ → Data → ℕ → Result ℕ LineFault
immediate_word c d n = rotated_word c d n (rotation_of n)

-- LSL #0..31, LSR #1..32, ASR #1..32, ROR #1..31
abbrev pub amount_fits : Amount → Bool
amount_fits (By Lsl n) = nat_lt n 32
amount_fits (By Lsr n) = nat_le 1 n && nat_le n 32
amount_fits (By Asr n) = nat_le 1 n && nat_le n 32
amount_fits (By Ror n) = nat_le 1 n && nat_lt n 32
amount_fits Rrx = true

-- 32 is written as 0
abbrev pub amount_field : Amount → ℕ
amount_field (By s n) = n % 32
amount_field Rrx = 0

-- RRX is written as ROR
abbrev pub amount_shift : Amount → Shift
amount_shift (By s n) = s
amount_shift Rrx = Ror

abbrev pub register_word : ℕ → Data → Register → Amount → Result ℕ LineFault
register_word c d m a =
    in_range (amount_fits a) (allowed (data_clash (opcode_number d.opcode) (bit_of d.sets_flags))
    (word_in data_register_row
    (c ∷ opcode_number d.opcode ∷ bit_of d.sets_flags ∷ register_number d.rn ∷ register_number d.rd
    ∷ amount_field a ∷ shift_number (amount_shift a) ∷ register_number m ∷ [])))

abbrev pub register_shift_word : ℕ → Data → Register → Shift → Register → Result ℕ LineFault
register_shift_word c d m s r =
    allowed (data_shift_clash (opcode_number d.opcode) (bit_of d.sets_flags) (register_number r))
    (word_in data_register_shift_row
    (c ∷ opcode_number d.opcode ∷ bit_of d.sets_flags ∷ register_number d.rn ∷ register_number d.rd
    ∷ register_number r ∷ shift_number s ∷ register_number m ∷ []))

abbrev pub shifted_word : ℕ → Data → Register → Shifting → Result ℕ LineFault
shifted_word c d m (shifting.Amount a) = register_word c d m a
shifted_word c d m (shifting.Register s r) = register_shift_word c d m s r

abbrev pub operand_word : ℕ → Data → Operand → Result ℕ LineFault
operand_word c d (operand.Immediate n) = immediate_word c d n
operand_word c d (operand.Shifted m s) = shifted_word c d m s

-- ## Multiplies

abbrev pub product_word : ℕ → Product → Result ℕ LineFault
product_word c p =
    allowed
    (multiply_clash (bit_of p.accumulate) (register_number p.rd) (register_number p.rn)
    (register_number p.rs) (register_number p.rm))
    (word_in multiply_row
    (c ∷ bit_of p.accumulate ∷ bit_of p.sets_flags ∷ register_number p.rd ∷ register_number p.rn
    ∷ register_number p.rs ∷ register_number p.rm ∷ []))

-- ## Transfers

abbrev pub number_transfer : ℕ → SingleTransfer → ℕ → Result ℕ LineFault
number_transfer c t n =
    in_range (nat_lt n 4096)
    (allowed
    (single_clash (bit_of t.address.before) (bit_of t.byte) (bit_of t.address.write_back) (bit_of t.load)
    (register_number t.address.rn) (register_number t.rd))
    (word_in single_immediate_row
    (c ∷ bit_of t.address.before ∷ bit_of t.address.up ∷ bit_of t.byte ∷ bit_of t.address.write_back
    ∷ bit_of t.load ∷ register_number t.address.rn ∷ register_number t.rd ∷ n ∷ [])))

abbrev pub register_transfer : ℕ → SingleTransfer → Register → Amount → Result ℕ LineFault
register_transfer c t m a =
    in_range (amount_fits a)
    (allowed
    (single_register_clash (bit_of t.address.before) (bit_of t.byte) (bit_of t.address.write_back)
    (bit_of t.load) (register_number t.address.rn) (register_number t.rd) (register_number m))
    (word_in single_register_row
    (c ∷ bit_of t.address.before ∷ bit_of t.address.up ∷ bit_of t.byte ∷ bit_of t.address.write_back
    ∷ bit_of t.load ∷ register_number t.address.rn ∷ register_number t.rd ∷ amount_field a
    ∷ shift_number (amount_shift a) ∷ register_number m ∷ [])))

abbrev pub transfer_word : ℕ → SingleTransfer → Distance → Result ℕ LineFault
transfer_word c t (distance.Number n) = number_transfer c t n
transfer_word c t (distance.Register m a) = register_transfer c t m a

abbrev pub block_word : ℕ → BlockTransfer → Result ℕ LineFault
block_word c b =
    in_range (nat_lt b.list (2 ^ 16)) (allowed (block_clash (register_number b.rn) b.list)
    (word_in block_row
    (c ∷ bit_of b.before ∷ bit_of b.up ∷ bit_of b.user ∷ bit_of b.write_back ∷ bit_of b.load
    ∷ register_number b.rn ∷ b.list ∷ [])))

-- ## Branches

-- the target is less than -2^25 or more than 2^25 - 4 bytes from the address two words on
abbrev pub is_far : ℕ → ℕ → Bool
is_far at target = nat_lt (at + 8 + (2 ^ 25 - 4)) target || nat_lt (target + 2 ^ 25) (at + 8)

-- the words from the address two words on to the target, as 24 bits of two's complement
abbrev pub branch_offset : ℕ → ℕ → ℕ
branch_offset at target = (target + 2 ^ 33 - (at + 8)) / 4 % 2 ^ 24

abbrev pub branch_word : ℕ → ℕ → Bool → ℕ → Result ℕ LineFault
branch_word c at link target =
    if is_far at target then Err BranchTooFar
    else in_range (is_word_address target)
    (Ok (word_in branch_row (c ∷ bit_of link ∷ branch_offset at target ∷ [])))

abbrev pub swi_word : ℕ → ℕ → Result ℕ LineFault
swi_word c n = in_range (nat_lt n (2 ^ 24)) (Ok (word_in swi_row (c ∷ n ∷ [])))

-- ## Any

-- the word, or the lowest fault
abbrev pub action_word : ℕ → ℕ → WordAction → Result ℕ LineFault
action_word c at (action.Data d) = operand_word c d d.operand
action_word c at (action.Multiply p) = product_word c p
action_word c at (action.Single t) = transfer_word c t t.address.distance
action_word c at (action.Block b) = block_word c b
action_word c at (action.Branch link target) = branch_word c at link target
action_word c at (action.Swi n) = swi_word c n

abbrev pub encoded : Code → ℕ → Result ℕ LineFault
encoded code at = action_word (cond_number code.cond) at code.action

-- ## Targets

-- whether a target is at the address two words on or above, and how far from it
abbrev pub is_ahead : ℕ → ℕ → Bool
is_ahead at target = nat_le (at + 8) target

abbrev pub apart : ℕ → ℕ → ℕ
apart at target = if is_ahead at target then target - (at + 8) else at + 8 - target

-- what a word with a target does
abbrev pub use_action : Use → ℕ → ℕ → WordAction
use_action (use_of.Branch link) at target = action.Branch link target
use_action (use_of.Adr d) at target =
    action.Data
    (record {
      opcode = if is_ahead at target then opcode.Add
          else opcode.Sub;
      sets_flags = false;
      rn = R15;
      rd = d;
      operand = operand.Immediate (apart at target);
    })
use_action (use_of.Transfer load byte d) at target =
    action.Single
    (record {
      load = load;
      byte = byte;
      rd = d;
      address = record {
        rn = R15;
        before = true;
        up = is_ahead at target;
        write_back = false;
        distance = distance.Number (apart at target);
      };
    })

abbrev pub refer : Reference → ℕ → ℕ → Code
refer r at target = record { cond = r.cond; action = use_action r.how at target }

-- a fault that does not wait for the target: a byte of R15
abbrev pub use_fault : Use → Option LineFault
use_fault (use_of.Transfer load true R15) = Some Unallocated
use_fault _ = None

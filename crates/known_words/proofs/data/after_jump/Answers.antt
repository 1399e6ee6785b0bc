use Rattle.std.proofs.Common.{◌&&◌, ap}
use Rattle.arm2_decode.specs.Names.{is_pc}
use Rattle.known_words.proofs.data.after_jump.Goals as goal
use Rattle.known_words.proofs.HoldLemmas.{jump_holds}

pub returns : goal.returns
returns c = λ entry turns regs after shifted at known left holds.
    let fields = c.args.fields in
    jump_holds fields.opcode fields.sets_flags fields.rn fields.rd fields.bytes shifted regs after
    (ap (λ b. b && is_pc fields.rd) c.requires.stays) left entry turns c.args.before.now c.requires.jumps
    c.requires.stays holds

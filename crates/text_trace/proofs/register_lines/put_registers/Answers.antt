use Rattle.std.proofs.Common.{rules, ◌≡◌, ◌++◌, string_bytes}
use Rattle.arm2_effect.specs.ProgramCounter.{mode_of}
use Rattle.arm2_effect.specs.Modes.{r15_in}
use Rattle.text_trace.specs.TraceText.{four_text}
use Rattle.text_trace.proofs.TextLaws.{four_done}
use Rattle.text_trace.proofs.register_lines.put_registers.Goals as goal

pub returns : goal.returns
returns c =
    let regs = c.args.machine.now.regs in
    let mode = c.mode_of-mode.result in
    let one : string_bytes c.put_four.new.out ≡ string_bytes c.args.out.now ++ four_text mode regs 0 =
    search rules in
    let two : string_bytes c.put_four-2.new.out ≡ string_bytes c.put_four.new.out ++ four_text mode regs 4 =
    search rules in
    let three : string_bytes c.put_four-3.new.out
    ≡ string_bytes c.put_four-2.new.out ++ four_text mode regs 8 = search rules in
    let is : mode ≡ mode_of (r15_in regs) = search rules in
    rw (← is) (four_done c.put_four-4.result _ _ _ _ _ _ _ _ _ one two three c.put_four-4.ensures)

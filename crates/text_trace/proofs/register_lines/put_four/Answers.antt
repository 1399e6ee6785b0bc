use Rattle.std.proofs.Common.{rules, ◌≡◌, ◌++◌, ◌+◌, codes, string_bytes}
use Rattle.text_trace.specs.TraceText.{register_text}
use Rattle.text_trace.proofs.TextLaws.{four_done}
use Rattle.text_trace.proofs.register_lines.put_four.Goals as goal

pub returns : goal.returns
returns c =
    let regs = c.args.machine.now.regs in
    let first = c.args.first in
    let one : string_bytes c.put_register.new.out
    ≡ string_bytes c.args.out.now ++ (register_text c.args.mode regs first ++ codes " ") = search rules in
    let two : string_bytes c.put_register-2.new.out
    ≡ string_bytes c.put_register.new.out ++ (register_text c.args.mode regs (first + 1) ++ codes " ") =
    search rules in
    let three : string_bytes c.put_register-3.new.out
    ≡ string_bytes c.put_register-2.new.out ++ (register_text c.args.mode regs (first + 2) ++ codes " ") =
    search rules in
    four_done c.put_register-4.result _ _ _ _ _ _ _ _ _ one two three c.put_register-4.ensures

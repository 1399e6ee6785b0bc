use Rattle.assembler.proofs.SayLaws.{spelling_back}
use Rattle.std.proofs.Common.{◌≡◌, ◌<◌, ◌^◌, ◌∙◌, ℕ, true, List, subst, sym, rules}
use Rattle.asm_text.specs.Shown.{is_shown_text}
use Rattle.assembler.specs.ShownLines.{AssemblesBack}
use Rattle.assembler.proofs.ByteLaws.{spelling_shown}
use Rattle.assembler.proofs.ShownLaws.{hex_shown, same_spelling, spelled_shown}
use Rattle.assembler.proofs.disassembly.disassemble.Goals as goal
use Rattle.assembler.proofs.disassembly.disassemble.Goals.{in-Ok+else-assembles_back, in_default}

pub returns-then-assembles_back : goal.returns-then-assembles_back
returns-then-assembles_back c =
    spelled_shown c.args.word c.args.at c.shown_line-line.result c.in-Ok.instr
    (λ i m. same_spelling c.in-Ok.instr i c.args.at _ c.in-Ok.is (c.decode.ensures.only i m))
    c.in-Ok.ensures.found
    c.shown_line-line.ensures
    (subst (λ (t : List ℕ). AssemblesBack t c.args.at c.args.word) c.items.ensures.bytes (c.assembles_back.ensures.yes c.if-assembles_back.true))

pub returns : goal.returns
returns c =
    let below : c.args.word < 2 ^ 32 = search rules in
    hex_shown c.args.word c.args.at c.hex_line.result below c.hex_line.ensures
    (elim c.match-decode.branch [
      | in-Ok+else-assembles_back w ↦ λ i m b.
          let same = sym (same_spelling w.in-Ok.instr i c.args.at _ w.in-Ok.is (c.decode.ensures.only i m)) ∙ sym (w.items.ensures.bytes ∙ w.shown_line-line.ensures) in
          let may = spelling_shown w.items.result.now w.in-Ok.instr c.args.at (w.items.ensures.bytes ∙ w.shown_line-line.ensures) w.items.ensures.short in
          let may-spelled = subst (λ (t : List ℕ). is_shown_text t ≡ true) (sym same) may in
          let back = spelling_back i c.args.at c.args.word may-spelled b in
          let yes = w.assembles_back.ensures.no may (subst (λ (t : List ℕ). AssemblesBack t c.args.at c.args.word) same back) in
          let no = w.if-assembles_back.false in
          absurd cc
      | in_default w ↦ λ i m b. w.in_default.not-Ok i (c.decode.ensures.only i m)
    ])

use Rattle.std.proofs.Common.{◌≤◌, ◌&&◌, ◌∙◌, ℕ, Bool, not, sym, ap, subst, arith}
use Rattle.arm2_decode.specs.Names.{is_pc, is_same}
use Rattle.arm2_effect.specs.Operands.{current_in, first_of}
use Rattle.arm2_transfer.specs.Registers.{moved_by}
use Rattle.known_words.specs.Known.{IsKnown}
use Rattle.known_words.specs.declared.transfers.Single.{Single}
use Rattle.known_words.proofs.transfers.after_single.Goals as goal
use Rattle.known_words.proofs.ForgetLemmas.{forgotten_holds}
use Rattle.known_words.proofs.TransferLemmas.{single_base, single_byte, single_flags}

pub returns : goal.returns
returns c = λ entry turns regs port bus x m same keeps stays left offset at holds.
    let fields = c.args.fields in
    let kept =
    forgotten_holds c.args.operation.now entry turns regs m.regs keeps stays c.args.before.now c.forgotten-kept.result
    c.forgotten-kept.ensures.registers holds c.forgotten-kept.ensures.compared
    (single_flags x port regs bus m left) in
    let known =
    c.moved.ensures entry turns (first_of 8 fields.rn regs) x.offset (c.first_of-base.ensures entry turns regs at holds)
    offset in
    let based =
    c.with_word-based.ensures entry turns m.regs kept
    (λ is no_pc.
    let moves =
    sym (ap (λ (f : Single). f.writes_base && not (f.load && is_same f.rd f.rn)) same)
    ∙ ap (λ (b : Bool). fields.writes_base && not (fields.load && b)) (sym c.is_same.ensures)
    ∙ sym c.leaves_base-is_moved.ensures ∙ is in
    let other = sym (ap (λ (f : Single). is_pc f.rn) same) ∙ no_pc in
    let word =
    ap (λ (f : Single). current_in f.rn m.regs) same
    ∙ single_base x port regs bus m left moves other
    ∙ sym (ap (λ (f : Single). moved_by f.up (first_of 8 f.rn regs) x.offset) same) in
    subst (IsKnown entry turns c.moved.result) (sym word) known) in
    c.with_word.ensures entry turns m.regs based
    (λ is no_pc.
    let loads = sym (ap (λ (f : Single). f.load && f.byte) same) ∙ is in
    let other = sym (ap (λ (f : Single). is_pc f.rd) same) ∙ no_pc in
    let few =
    subst (λ (n : ℕ). n ≤ 255) (sym (ap (λ (f : Single). current_in f.rd m.regs) same))
    (single_byte x port regs bus m left loads other) in
    c.between.ensures entry turns (current_in fields.rd m.regs) (omega arith) few)

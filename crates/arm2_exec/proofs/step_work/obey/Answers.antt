use Rattle.std.proofs.Common.{◌≡◌, ◌∙◌, ap, refl, subst, inl, inr}
use Rattle.arm2_decode.specs.Table.{IsUnallocated, Means}
use Rattle.arm2_exec.specs.Step.{instruction_moved, unallocated_moved}
use Rattle.arm2_exec.specs.declared.decoded.Row.{Row}
use Rattle.arm2_exec.proofs.WorkLemmas.{obeyed_none}
use Rattle.arm2_exec.proofs.step_work.obey.Goals as goal

pub returns-in_default : goal.returns-in_default
returns-in_default c =
    obeyed_none c.args.processor.now c.take.result c.take.new.self c.args.word c.in_default.is c.take.ensures.effect

pub returns-in-Ok : goal.returns-in-Ok
returns-in-Ok c =
    let row = c.row.result.now in
    let of : row.word ≡ c.in-Some.word = ap (λ (r : Row). r.word) (c.row.ensures row) ∙ c.keep.ensures row in
    let means = subst (λ w. Means w c.in-Ok.instr) of (row.found c.in-Ok.instr c.in-Ok.is) in
    rw c.in-Some.is (record { moved = instruction_moved c.in-Ok.instr c.args.processor.now.port c.args.processor.now.registers c.args.processor.now.bus; obeys = inl (c.in-Ok.instr, means, refl); is = c.obey_instruction.ensures })

pub returns-in-Err : goal.returns-in-Err
returns-in-Err c =
    let row = c.row.result.now in
    let of : row.word ≡ c.in-Some.word = ap (λ (r : Row). r.word) (c.row.ensures row) ∙ c.keep.ensures row in
    let unallocated = subst (λ w. IsUnallocated w c.in-Err.unallocated) of (row.unallocated c.in-Err.unallocated c.in-Err.is) in
    rw c.in-Some.is (record { moved = unallocated_moved c.in-Err.unallocated c.args.processor.now.registers c.args.processor.now.bus; obeys = inr (c.in-Err.unallocated, unallocated, refl); is = c.obey_unallocated.ensures })

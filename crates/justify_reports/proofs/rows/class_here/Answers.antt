use Rattle.std.proofs.Common.{◌≡◌, ◌∙◌, None, Some, ap}
use Rattle.arm2_decode.specs.declared.instr.Instr.{Instr}
use Rattle.control_flow.specs.Kinds.{base_of}
use Rattle.statement.specs.Stated.{class_at}
use Rattle.justify_reports.proofs.rows.class_here.Goals as goal

pub returns-in-Some : goal.returns-in-Some
returns-in-Some c = λ i has.
    let st = c.args.statement.now in
    let at = c.args.at in
    let both : Some c.in-Some.instr ≡ Some i = c.in-Some.ensures.only i has in
    let same : c.in-Some.instr ≡ i = cc in
    c.class_at.ensures ∙ ap (class_at st at) c.base_of.ensures ∙ ap (λ (x : Instr). class_at st at (base_of x.operation)) same

pub returns-in-None : goal.returns-in-None
returns-in-None c = λ i has. absurd (let both : None ≡ Some i = c.in-None.ensures.only i has in cc)

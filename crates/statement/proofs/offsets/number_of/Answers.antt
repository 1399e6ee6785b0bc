use Rattle.std.proofs.Common.{subst}
use Rattle.std.specs.Str.Parse.{ParsesUnsigned}
use Rattle.statement.proofs.OffsetLemmas.{digits_are_text, parsed}
use Rattle.statement.proofs.offsets.number_of.Goals as goal

pub returns-in-Ok : goal.returns-in-Ok
returns-in-Ok c =
    let read = subst (λ bs. ParsesUnsigned 32 10 bs c.parse.result) c.in-Ok.ensures.cases.0 c.parse.ensures.value.0 in
    rw (c.ok.ensures.value) (parsed c.args.digits.now c.parse.result c.requires read)

pub returns-in-Err : goal.returns-in-Err
returns-in-Err c = absurd (c.in-Err.ensures.cases.0 (digits_are_text c.args.digits.now c.requires))

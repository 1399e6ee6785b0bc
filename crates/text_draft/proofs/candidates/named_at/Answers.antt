use Rattle.text_draft.proofs.CandidateLaws.{named_only, named_some}
use Rattle.text_draft.proofs.candidates.named_at.Goals as goal

pub returns-in_err-instr-clause-only : goal.returns-in_err-instr-clause-only
returns-in_err-instr-clause-only c = λ to h. absurd (cc (c.in_err-instr.ensures.only h.0 h.1))

pub returns-clause-some : goal.returns-clause-some
returns-clause-some c =
    named_some c.args.image.now c.args.at c.in_ok-instr.instr c.named_in.result c.in_ok-instr.ensures.some c.named_in.ensures

pub returns-clause-only : goal.returns-clause-only
returns-clause-only c =
    named_only c.args.image.now c.args.at c.in_ok-instr.instr c.named_in.result c.in_ok-instr.ensures.only c.named_in.ensures

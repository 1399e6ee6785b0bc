use Rattle.text_draft.proofs.TargetLaws.{both_tests}
use Rattle.text_draft.proofs.pc_writers.is_return_at.Goals as goal

pub returns : goal.returns
returns c = λ addresses trusted.
    both_tests _ _ c.args.trusted c.is_odd_writer_at.result trusted c.is_odd_writer_at.ensures

use Rattle.std.proofs.Common.{◌∙◌, ap}
use Rattle.json_trace.specs.StepLine.{mode_name}
use Rattle.test_vectors.proofs.TextLaws.{r15_put}
use Rattle.test_vectors.proofs.ChainLaws.{as_text}
use Rattle.test_vectors.proofs.states.put_r15.Goals as goal

pub returns : goal.returns
returns g c =
    as_text g.O.Output.taken g.O.Output.failures c.put_pieces.ensures
    (r15_put _ _ _ _ _ _ (c.as_bytes.ensures.value ∙ c.format.ensures.text)
    (c.as_bytes-2.ensures.value ∙ c.mode_name.ensures ∙ ap mode_name c.mode_of.ensures)
    (c.as_bytes-3.ensures.value ∙ c.deref.ensures.0 ∙ c.flags_text.ensures))

use Rattle.std.proofs.Common.{IsTrue, sym, ap, ◌∙◌, subst}
use Rattle.arm2_decode.proofs.Unique.{one_instr}
use Rattle.control_flow.specs.Free.{is_free_operation}
use Rattle.control_flow.proofs.free_edges.is_free_word.Goals as goal

pub returns-in-Ok : goal.returns-in-Ok
returns-in-Ok c = (
  (λ yes. (c.in-Ok.instr, c.in-Ok.ensures.found, subst IsTrue c.is_free_operation.ensures yes)),
  λ h.
      let same = one_instr c.args.word h.0 c.in-Ok.instr h.1 c.in-Ok.ensures.found in
      let free = ap (λ i. is_free_operation i.operation) same ∙ sym c.is_free_operation.ensures in
      subst IsTrue free h.2,
)

-- What the verdict Yes means of an answer.
use Rattle.std.proofs.Common.{◌≡◌, Result, Ok, subst}
use Rattle.walks.specs.Greatest.{IsGreatest}
use Rattle.control_flow.specs.declared.places.Place.TheVariants.{Exit}
use Rattle.control_flow.specs.Flow.{Flow, HasEdge, IsWellFormed, edge_shape}
use Rattle.loop_bounds.specs.Tree.{IsTree, Tree}
use Rattle.longest_walk.specs.Longest.{KeepsTree}
use Rattle.certificate.specs.declared.cert.Cert.{Cert}
use Rattle.cert_check.specs.declared.verdict.Verdict.{Verdict}
use Rattle.cert_check.specs.declared.verdict.Verdict.TheVariants.{Yes}
use Rattle.cert_check.specs.Verdict.{IsVerdict}
use Rattle.cert_check.proofs.YesLemmas.{yes_is_greatest}

module _ (flow : Flow) (tree : Tree) (cert : Cert) where
  pub greatest_from : {E : Type 0} (v : Verdict) → IsWellFormed flow → IsTree flow tree → IsVerdict flow tree cert v → ◌≡◌ {A = Result Verdict E} (Ok v) (Ok Yes) → IsGreatest edge_shape (HasEdge flow) (KeepsTree tree) flow.entry Exit cert.bound
  greatest_from v well t verdict is = let yes : v ≡ Yes = cc in yes_is_greatest flow tree cert well t (subst (IsVerdict flow tree cert) yes verdict)

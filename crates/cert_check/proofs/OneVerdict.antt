-- A certificate has one verdict.
use Rattle.std.proofs.Common.{◌≡◌, ◌∙◌, List, [], ◌∷◌, inl, inr, sym}
use Rattle.control_flow.specs.Flow.{Flow}
use Rattle.loop_bounds.specs.Tree.{Tree}
use Rattle.certificate.specs.declared.cert.Cert.{Cert}
use Rattle.cert_check.specs.Verdict.{IsFirstOf, IsVerdict, objections}
use Rattle.cert_check.specs.declared.verdict.Objection.{Objection}
use Rattle.cert_check.specs.declared.verdict.Verdict.{Verdict}

module _ (flow : Flow) (tree : Tree) (cert : Cert) where
  one_first : (xs : List Objection) (v w : Verdict) → IsFirstOf flow tree cert xs v → IsFirstOf flow tree cert xs w → v ≡ w
  one_first [] v w h k = h ∙ sym k
  one_first (x ∷ xs) v w (inl no_) (inl nor) = no_.0 ∙ sym nor.0
  one_first (x ∷ xs) v w (inl no_) (inr passes) = absurd (no_.1 passes.0)
  one_first (x ∷ xs) v w (inr passes) (inl no_) = absurd (no_.1 passes.0)
  one_first (x ∷ xs) v w (inr h) (inr k) = one_first xs v w h.1 k.1

  pub one_verdict : (v w : Verdict) → IsVerdict flow tree cert v → IsVerdict flow tree cert w → v ≡ w
  one_verdict v w h k = one_first objections v w h k

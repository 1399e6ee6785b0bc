-- What is found of a certificate.
use Rattle.std.specs.Prelude.{◌≡◌, ℕ, List, Option}
use Rattle.bus_ticks.specs.declared.profile.Profile.{Profile}
use Rattle.walks.specs.Greatest.{IsGreatest}
use Rattle.control_flow.specs.Flow.{Flow, HasEdge, IsWellFormed, edge_shape}
use Rattle.control_flow.specs.declared.places.Place.TheVariants.{Exit}
use Rattle.statement.specs.Stated.{Stated}
use Rattle.loop_bounds.specs.Handler.{IsTreeOf}
use Rattle.loop_bounds.specs.Tree.{Tree}
use Rattle.longest_walk.specs.Longest.{KeepsTree}
use Rattle.certificate.specs.Lines.{CanSpell, cert_text, said_by}
use Rattle.certificate.specs.declared.cert.Cert.{Cert}
use Rattle.cert_check.specs.Failing.{IsFirstFailing}
use Rattle.cert_check.specs.Verdict.{IsVerdict, objections}
use Rattle.cert_check.specs.declared.failing.FailingRow.{FailingRow}
use Rattle.cert_check.specs.declared.verdict.Verdict.{Verdict}
use Rattle.cert_check.specs.declared.verdict.Verdict.TheVariants.{Yes}
use Rattle.handlers.specs.Report.{HasLoops}
use Rattle.sources.specs.File.{File}

-- a finding on a graph, the tree of its loops and a certificate
abbrev pub Finds : Type 0 → Type 1
Finds T = Flow → Tree → Cert → T → Type 0

-- the verdict, and what Yes means
pub record FindsVerdict (flow : Flow) (tree : Tree) (cert : Cert) (verdict : Verdict) : Type 0 where
  pub verdict_is : IsVerdict flow tree cert verdict
  pub greatest : verdict ≡ Yes
      → IsGreatest edge_shape (HasEdge flow) (KeepsTree tree) flow.entry Exit cert.bound

-- what fails first, if anything does
abbrev pub FindsRow : Finds (Option FailingRow)
FindsRow flow tree cert row = IsFirstFailing flow tree cert objections row

-- the finding on the certificate that the text spells, by a source and a statement that have a tree of loops
pub record IsFound {T : Type 0} (Says : Finds T) (source : File) (statement text : List ℕ) (profile : Profile)
    (found : T) : Type 0 where
  pub stated : Stated
  pub flow : Flow
  pub tree : Tree
  pub cert : Cert
  pub loops : HasLoops source statement profile stated flow
  pub formed : IsWellFormed flow
  pub tree_of : IsTreeOf flow stated.loops tree
  pub can_spell : CanSpell (said_by cert)
  pub spelled : text ≡ cert_text (said_by cert)
  pub says : Says flow tree cert found

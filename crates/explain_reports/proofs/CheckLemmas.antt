-- A verdict and the refusals of a check, from what is found of the three texts.
use Rattle.std.proofs.Common.{◌≡◌, ◌⊎◌, ◌∙◌, ℕ, List, Option, Result, Err, refl, sym, ap, subst, inl}
use Rattle.std.specs.Prelude.{IsErrOf}
use Rattle.std.specs.Result.{IsErrAnd}
use Rattle.bus_ticks.specs.declared.profile.Profile.{Profile}
use Rattle.control_flow.specs.Flow.{Flow}
use Rattle.statement.specs.Stated.{Stated}
use Rattle.certificate.specs.Faults.{EndsEarly, GoesOn, HasBadLine, Reads}
use Rattle.certificate.specs.Lines.{CanSpell, Said, cert_text, said_by, said_of}
use Rattle.certificate.specs.declared.cert.Cert.{Cert}
use Rattle.certificate.specs.declared.fault.CertFault.{CertFault}
use Rattle.certificate.specs.declared.fault.CertFault.TheVariants as cert_fault
use Rattle.certificate.proofs.FaultLaws.{one_cert}
use Rattle.cert_check.specs.Columns.{Ascends}
use Rattle.cert_check.specs.Verdict.{IsVerdict}
use Rattle.cert_check.specs.declared.verdict.Verdict.{Verdict}
use Rattle.cert_check.specs.declared.verdict.Verdict.TheVariants.{Yes}
use Rattle.cert_check.proofs.OneVerdict.{one_verdict}
use Rattle.loop_bounds.specs.Handler.{IsTreeOf}
use Rattle.explain_reports.specs.Found.{FindsVerdict, IsFound}
use Rattle.explain_reports.specs.Check.{IsCheckRefused, IsCheckable, IsJudged}
use Rattle.handlers.specs.Answers.{Answers}
use Rattle.handlers.specs.Faults.{of_cert}
use Rattle.handlers.specs.Refusal.{refusal_fault, fault_only}
use Rattle.handlers.specs.declared.refusal.Refusal.{Refusal}
use Rattle.handlers.proofs.RefusalLemmas.{ends_refused, only_err}
use Rattle.handlers.specs.Report.{BeforeOutput, HasLoops, IsHandlerRefused, IsReport}
use Rattle.handlers.specs.declared.fault.ReportFault.{ReportFault}
use Rattle.handlers.specs.declared.fault.ReportFault.TheVariants.{Memory, Device}
use Rattle.handlers.specs.declared.fault.ReportFault.TheVariants as report_fault
use Rattle.handlers.proofs.HandlerLemmas.{handler_refusals, one_graph, refused_as}
use Rattle.handlers.proofs.ReportLemmas.{tree_is_greatest}
use Rattle.sources.specs.File.{File}

-- ## Refusals

-- what refuses a source and a statement up to the loops refuses their check, ..
pub handler_unchecked : (source : File) (statement text : List ℕ) (profile : Profile) (e : ReportFault) → IsHandlerRefused source statement profile e → BeforeOutput (IsCheckRefused source statement text profile) e
handler_unchecked source statement text profile Memory h = (λ e. cc e, tt)
handler_unchecked source statement text profile Device h = absurd h
handler_unchecked source statement text profile (report_fault.Cert f) h = absurd h
handler_unchecked source statement text profile e h = (λ e. cc e, h)

-- .. but not where the three texts can be checked
pub checkable_refusal : (source : File) (statement text : List ℕ) (profile : Profile) (e : ReportFault) → IsHandlerRefused source statement profile e → IsCheckable source statement text profile → e ≡ Memory
checkable_refusal source statement text profile e h a = handler_refusals source statement profile a.stated a.flow e a.loops h

-- a fault of the text
pub cert_refusal : (source : File) (statement text : List ℕ) (profile : Profile) (st : Stated) (flow : Flow) (f : CertFault) → HasLoops source statement profile st flow
    → ((n : ℕ) → IsErrOf {T = Cert} (Err f) (cert_fault.BadLine n) → HasBadLine text n) → (IsErrOf {T = Cert} (Err f) cert_fault.Truncated → EndsEarly text) → (IsErrOf {T = Cert} (Err f) cert_fault.TrailingBytes → GoesOn text)
    → BeforeOutput (IsCheckRefused source statement text profile) (of_cert f)
cert_refusal source statement text profile st flow cert_fault.Memory loops bad early on = (λ e. cc e, tt)
cert_refusal source statement text profile st flow (cert_fault.BadLine n) loops bad early on = (λ e. cc e, record { stated = st; flow = flow; loops = loops; not_memory = λ e. cc e; holds = bad n refl })
cert_refusal source statement text profile st flow cert_fault.Truncated loops bad early on = (λ e. cc e, record { stated = st; flow = flow; loops = loops; not_memory = λ e. cc e; holds = early refl })
cert_refusal source statement text profile st flow cert_fault.TrailingBytes loops bad early on = (λ e. cc e, record { stated = st; flow = flow; loops = loops; not_memory = λ e. cc e; holds = on refl })

-- .. but not where it is a certificate
pub readable_refusal : (source : File) (statement text : List ℕ) (profile : Profile) (f : CertFault) → ((said : Said) → CanSpell said → text ≡ cert_text said → Reads said (Err f)) → IsCheckable source statement text profile → of_cert f ≡ Memory
readable_refusal source statement text profile f only a = ap of_cert (only a.said a.can_spell a.spelled)

-- ## The verdict

pub ascends : (cert : Cert) → CanSpell (said_by cert) → Ascends cert
ascends cert spell = record { places = spell.places_ascend; instances = spell.instances_ascend }

unfoldable pub judged : (source : File) (statement text : List ℕ) (profile : Profile) (v : Verdict) → IsFound FindsVerdict source statement text profile v → IsJudged source statement text profile v
judged source statement text profile v f = record {
  stated = f.stated;
  flow = f.flow;
  tree = f.tree;
  cert = f.cert;
  loops = f.loops;
  tree_of = f.tree_of;
  can_spell = f.can_spell;
  spelled = f.spelled;
  verdict_is = f.says.verdict_is;
  greatest = λ yes. tree_is_greatest f.flow f.stated.loops f.tree f.tree_of.instances f.cert.bound (f.says.greatest yes);
}

-- what is judged can be checked
pub checkable : (source : File) (statement text : List ℕ) (profile : Profile) (v : Verdict) → IsJudged source statement text profile v → IsCheckable source statement text profile
checkable source statement text profile v j = record { stated = j.stated; flow = j.flow; said = said_by j.cert; loops = j.loops; can_spell = j.can_spell; spelled = j.spelled }

-- the text of a report can be checked, ..
pub report_is_checkable : (source : File) (statement text : List ℕ) (profile : Profile) → IsReport source statement profile text → IsCheckable source statement text profile
report_is_checkable source statement text profile r =
    let a = r.bounded.accepted in
    record { stated = a.stated; flow = a.flow; said = said_of r.bounded.longest; loops = a.loops; can_spell = r.can_spell; spelled = r.spelled }

-- .. and is judged Yes: both speak of the same graph, the text says one thing, and there is one verdict
pub report_gets_yes : (source : File) (statement text : List ℕ) (profile : Profile) (v : Verdict) → IsReport source statement profile text → IsJudged source statement text profile v → v ≡ Yes
report_gets_yes source statement text profile v r j =
    let a = r.bounded.accepted in
    let same = one_graph source statement profile j.stated a.stated j.flow a.flow j.loops.graph a.loops.graph in
    let said : said_by j.cert ≡ said_of r.bounded.longest = one_cert (said_by j.cert) (said_of r.bounded.longest) j.can_spell r.can_spell (sym j.spelled ∙ r.spelled) in
    let of : IsTreeOf a.flow a.stated.loops j.tree = subst (λ (s : Stated). IsTreeOf a.flow s.loops j.tree) same.same_stated (subst (λ (w : Flow). IsTreeOf w j.stated.loops j.tree) same.same_flow j.tree_of) in
    let verdict : IsVerdict a.flow j.tree j.cert v = subst (λ (w : Flow). IsVerdict w j.tree j.cert v) same.same_flow j.verdict_is in
    one_verdict a.flow j.tree j.cert v Yes verdict (r.judged j.tree of j.cert said)

-- ## The answer

-- where nothing is found, before anything was written
pub ends_unfound : {O T : Type 0} (taken : O → Option (List ℕ)) (failures : O → ℕ) (IsText : T → List ℕ → Type 0) (IsFine : Type 0) (IsFault : ReportFault → Type 0) (old : O) (q : Result T Refusal) (e : Refusal)
    → IsErrAnd q (λ x. x ≡ e) → BeforeOutput IsFault (refusal_fault e) → (IsFine → refusal_fault e ≡ Memory) → Answers taken failures IsText IsFine IsFault old old (fault_only q)
ends_unfound taken failures IsText IsFine IsFault old q e is h only =
    ends_refused taken failures IsText IsFine IsFault old q e is h
    (λ refused fine. refused_as (fault_only q) (refusal_fault e) (λ x. (x ≡ Memory) ⊎ (x ≡ Device)) (only_err q e is) (inl (only fine)))

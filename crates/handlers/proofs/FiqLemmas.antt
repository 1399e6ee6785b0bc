-- When FIQ's handler is refused.
use Rattle.std.proofs.Common.{◌≡◌, ◌∙◌, ◌⊎◌, ℕ, List, Result, Ok, Err, refl, sym, ap, subst, inl, inr}
use Rattle.std.specs.Prelude.{IfErr}
use Rattle.bus_ticks.specs.declared.profile.Profile.{Profile}
use Rattle.image.specs.Image.{Words}
use Rattle.image.specs.Labels.{Names}
use Rattle.statement.specs.Stated.{Stated}
use Rattle.statement.specs.Statement.{IsStatement}
use Rattle.statement.specs.declared.faults.StatementFault.{StatementFault}
use Rattle.handlers.specs.declared.fault.ReportFault.{ReportFault}
use Rattle.handlers.specs.declared.fault.ReportFault.TheVariants.{Memory, Device, NotFiqEntry}
use Rattle.handlers.specs.declared.fault.ReportFault.TheVariants as report_fault
use Rattle.handlers.specs.FiqHandler.{EntersElsewhere, IsFiqRefused}
use Rattle.handlers.specs.Report.{BeforeOutput, IsAccepted, IsRefused}
use Rattle.sources.specs.Source.{Said, source_of}
use Rattle.image.specs.Labels.{address_of}
use Rattle.sources.specs.Source.{Says}
use Rattle.sources.specs.declared.read.Source.{Source}
use Rattle.handlers.specs.Refusal.{HasNoHandler, HasNoStatement, stop_fault}
use Rattle.handlers.specs.declared.refusal.Stop.{Stop}
use Rattle.handlers.specs.declared.refusal.Stop.TheVariants as stop
use Rattle.handlers.proofs.HandlerLemmas.{one_ok, same_statement}
use Rattle.handlers.proofs.RefusalLemmas.{refused}
use Rattle.handlers.proofs.ReportLemmas.{accepted_refusals, report_refusal}
use Rattle.sources.specs.File.{File}

module _ (source : File) (fiq : List ℕ) (profile : Profile) where
  -- where its entry is right, or not read, the refusals are those of any handler
  pub fiq_refusal : (e : ReportFault) → (EntersElsewhere source fiq → ⊥)
      → BeforeOutput (IsRefused source fiq profile) e → BeforeOutput (IsFiqRefused source fiq profile) e
  fiq_refusal Memory right r = (λ e. cc e, tt)
  fiq_refusal NotFiqEntry right r = absurd r.1
  fiq_refusal report_fault.NoSuchEdge right r = absurd r.1
  fiq_refusal report_fault.NoSuchEntry right r = absurd r.1
  fiq_refusal report_fault.NotVector right r = absurd r.1
  fiq_refusal report_fault.NotReached right r = absurd r.1
  fiq_refusal (report_fault.NotFree at) right r = absurd r.1
  fiq_refusal (report_fault.WordsMeet at) right r = absurd r.1
  fiq_refusal Device right r = absurd (r.0 refl)
  fiq_refusal e right r = (λ e. cc e, (r.1, right))

  -- the same of an answer
  pub fiq_answer : {T : Type 0} (r : Result T ReportFault) → (EntersElsewhere source fiq → ⊥)
      → IfErr r (BeforeOutput (IsRefused source fiq profile))
      → IfErr r (BeforeOutput (IsFiqRefused source fiq profile))
  fiq_answer (Ok x) right h = tt
  fiq_answer (Err e) right h = fiq_refusal e right h

  module _ (words : Words) (names : Names) (said : source_of source ≡ Ok (words, names)) where
    -- a statement that was read has one entry
    pub enters_there : (st : Stated) → IsStatement fiq names (Ok st) → st.entry ≡ 0x1C
        → EntersElsewhere source fiq → ⊥
    enters_there st is there other =
        let same_said : (other.words, other.names) ≡ (words, names) =
        one_ok (other.words, other.names) (words, names) (source_of source) other.source_is said in
        let ok : Ok other.stated ≡ Ok st = same_statement fiq other.names names (Ok other.stated) (Ok st)
        (ap (λ (s : Said). s.1) same_said) other.statement_is is in
        let same : other.stated ≡ st = cc ok in
        other.elsewhere (ap (λ (s : Stated). s.entry) same ∙ there)

    -- one that cannot be read has none
    enters_nowhere : (f : StatementFault) → IsStatement fiq names (Err f) → EntersElsewhere source fiq → ⊥
    enters_nowhere f is other =
        let same_said : (other.words, other.names) ≡ (words, names) =
        one_ok (other.words, other.names) (words, names) (source_of source) other.source_is said in
        let both : Ok other.stated ≡ Err f = same_statement fiq other.names names (Ok other.stated) (Err f)
        (ap (λ (s : Said). s.1) same_said) other.statement_is is in
        absurd (cc both)

  -- what an accepted handler that begins at FIQ's vector is refused for
  module _ (a : IsAccepted source fiq profile) (there : a.stated.entry ≡ 0x1C) where
    own_entry : EntersElsewhere source fiq → ⊥
    own_entry other =
        let g = a.loops.graph in enters_there g.words g.names g.source_is a.stated g.statement_is there other

    pub fiq_accepted : (e : ReportFault) → IsFiqRefused source fiq profile e → (e ≡ Memory) ⊎ (e ≡ Device)
    fiq_accepted Memory r = inl refl
    fiq_accepted NotFiqEntry r = absurd (own_entry r)
    fiq_accepted report_fault.NoSuchEdge r = absurd r.0
    fiq_accepted report_fault.NoSuchEntry r = absurd r.0
    fiq_accepted report_fault.NotVector r = absurd r.0
    fiq_accepted report_fault.NotReached r = absurd r.0
    fiq_accepted (report_fault.NotFree at) r = absurd r.0
    fiq_accepted (report_fault.WordsMeet at) r = absurd r.0
    fiq_accepted Device r = inr refl
    fiq_accepted e r = accepted_refusals source fiq profile e a r.0

-- ## Where work on a source stops

module _ (source : Source) (fiq : List ℕ) (profile : Profile) (bytes : File) (is : Says bytes source) where
  -- after a statement that enters there
  pub fiq_stopped : (s : Stop) → (EntersElsewhere bytes fiq → ⊥) → HasNoHandler source fiq profile s
      → BeforeOutput (IsFiqRefused bytes fiq profile) (stop_fault s)
  fiq_stopped s right h =
      fiq_refusal bytes fiq profile (stop_fault s) right
      (report_refusal bytes fiq profile (stop_fault s) (refused source fiq profile s h bytes is))

  -- in its text
  pub fiq_unstated : (s : Stop) → HasNoStatement source fiq s
      → BeforeOutput (IsFiqRefused bytes fiq profile) (stop_fault s)
  fiq_unstated (stop.Alone fault) h = subst (BeforeOutput (IsFiqRefused bytes fiq profile)) (sym h)
      (λ e. cc e, tt)
  fiq_unstated (stop.Statement own fault) h =
      fiq_stopped (stop.Statement own fault)
      (enters_nowhere bytes fiq profile source.image (address_of source.labels) is fault h.fault_is) h
  fiq_unstated (stop.Graph stated prices fault) h = absurd h
  fiq_unstated (stop.Loops stated flow fault) h = absurd h

-- The clauses of a report's call, of what it answers by the profile that was read.
use Rattle.std.proofs.Common.{◌≡◌, ◌≢◌, ◌∙◌, ◌⊎◌, ℕ, List, Option, None, Some, Result, Ok, Err, IfErr, IfOk, OnOk, sym, subst, inl, inr}
use Rattle.bus_ticks.specs.declared.profile.Profile.{Profile}
use Rattle.handlers.specs.Answers.{FailsWithin, OfSome, Prints}
use Rattle.handlers.specs.Priced.{HasNoProfile, IsProfile, Priced}
use Rattle.handlers.proofs.PricedLemmas.{by_profile}
use Rattle.handlers.specs.Report.{IsAccepted, IsRefused, IsReport}
use Rattle.handlers.specs.declared.fault.ReportFault.{ReportFault}
use Rattle.handlers.specs.declared.fault.ReportFault.TheVariants.{Memory, Device}
use Rattle.bound_reports.specs.Bound.{AreAcceptedBy, AreRefusedBy, IsReportBy, Reports}
use Rattle.sources.specs.File.{File}

module _ (file : Option (List ℕ)) (source : File) (statement : List ℕ) (p : Profile) (is : IsProfile file p) where
  report_by : (text : List ℕ) → IsReport source statement p text → IsReportBy file source statement text
  report_by text report = record { profile = p; is = is; holds = report }

  printed_by : {T : Type 0} (result : Result T ReportFault) (old new : Option (List ℕ))
      → IfOk result (λ _. Prints (IsReport source statement p) old new) → OnOk result (Prints (IsReportBy file source statement) old new)
  printed_by (Ok x) old new h = record { text = h.text; is_text = report_by h.text h.is_text; printed = h.printed }
  printed_by (Err e) old new h = tt

  accepted_by : {T : Type 0} (result : Result T ReportFault) → OnOk result (IsAccepted source statement p) → OnOk result (AreAcceptedBy file source statement)
  accepted_by (Ok x) h = record { profile = p; is = is; holds = h }
  accepted_by (Err e) h = tt

  refused_by : {T : Type 0} (result : Result T ReportFault) → IfErr result (IsRefused source statement p) → IfErr result (AreRefusedBy file source statement)
  refused_by (Ok x) h = tt
  refused_by (Err e) h = inl (record { profile = p; is = is; holds = h })

  cut_by : {T : Type 0} (old new : Option (List ℕ)) (before after : ℕ)
      → FailsWithin (OfSome (λ (x : T) text. IsReport source statement p text)) old new before after → FailsWithin (IsReportBy file source statement) old new before after
  cut_by old new before after h = record { text = h.text; is_text = report_by h.text h.is_text.1; taken = h.taken; failed = h.failed }

module _ {O T : Type 0} (taken : O → Option (List ℕ)) (failures : O → ℕ) (file : Option (List ℕ)) (source : File) (statement : List ℕ) (old new : O) (result : Result T ReportFault)
    (answers : Priced file (λ p. Reports taken failures source statement p old new result) old new result) where
  pub prints : OnOk result (Prints (IsReportBy file source statement) (taken old) (taken new))
  prints = elim answers [
    | inl by ↦ printed_by file source statement by.profile by.is result (taken old) (taken new) by.holds.output.printed
    | inr none ↦ subst (λ (r : Result T ReportFault). OnOk r (Prints (IsReportBy file source statement) (taken old) (taken new))) (sym none.answered) tt
  ]

  pub accepts : OnOk result (AreAcceptedBy file source statement)
  accepts = elim answers [
    | inl by ↦ accepted_by file source statement by.profile by.is result by.holds.accepted
    | inr none ↦ subst (λ (r : Result T ReportFault). OnOk r (AreAcceptedBy file source statement)) (sym none.answered) tt
  ]

  pub refuses : IfErr result (AreRefusedBy file source statement)
  refuses = elim answers [
    | inl by ↦ refused_by file source statement by.profile by.is result by.holds.output.fault
    | inr none ↦ subst (λ (r : Result T ReportFault). IfErr r (AreRefusedBy file source statement)) (sym none.answered) (inr none.no_profile)
  ]

  pub only : Priced file (λ p. IsAccepted source statement p → IfErr result (λ e. (e ≡ Memory) ⊎ (e ≡ Device))) old new result
  only = elim answers [
    | inl by ↦ by_profile by.profile by.is by.holds.only
    | inr none ↦ inr none
  ]

  pub quiet : IfErr result (λ e. e ≢ Device → new ≡ old)
  quiet = elim answers [
    | inl by ↦ by.holds.output.quiet
    | inr none ↦ subst (λ (r : Result T ReportFault). IfErr r (λ e. e ≢ Device → new ≡ old)) (sym none.answered) (λ other. none.same)
  ]

  pub cut : result ≡ Err Device → FailsWithin (IsReportBy file source statement) (taken old) (taken new) (failures old) (failures new)
  cut device = elim answers [
    | inl by ↦ cut_by file source statement by.profile by.is (taken old) (taken new) (failures old) (failures new) (by.holds.output.device device)
    | inr none ↦
        let both : Err none.fault ≡ Err Device = sym none.answered ∙ device in
        let same : none.fault ≡ Device = cc both in
        absurd (no_device file (subst (HasNoProfile file) same none.no_profile))
  ]
    where
      no_device : (file : Option (List ℕ)) → HasNoProfile file Device → ⊥
      no_device None h = h
      no_device (Some text) h = h

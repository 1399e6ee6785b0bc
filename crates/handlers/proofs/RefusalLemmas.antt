-- What work on a source says where it stops, and what the refusal of the whole says then.
use Rattle.std.proofs.Common.{◌≡◌, ◌⊎◌, ℕ, List, [], ◌∷◌, Option, Result, Ok, Err, refl, sym, subst, inl, inr}
use Rattle.std.specs.Prelude.{IfErr, IfOk, OnOk}
use Rattle.std.specs.Result.{IsErrAnd}
use Rattle.std.specs.Io.KnownBytes.{Appends}
use Rattle.std.proofs.lemmas.Result.{IfErr-weaker}
use Rattle.bus_ticks.specs.declared.profile.Profile.{Profile}
use Rattle.image.specs.Labels.{address_of}
use Rattle.outputs.specs.Output.{FailsSince, TakesFront}
use Rattle.sources.specs.Source.{IsSource, Says}
use Rattle.sources.specs.declared.read.Source.{Source}
use Rattle.handlers.specs.Answers.{Answers}
use Rattle.handlers.specs.Placing.{IsRunRefused}
use Rattle.handlers.specs.Priced.{HasNoProfile, IsProfile}
use Rattle.handlers.specs.Refusal.{Carries, CarriesBy, CarriesGraph, CarriesOneOf, CarriesRead, CarriesReadBy}
use Rattle.handlers.specs.Refusal.{CarriesReadOf, ComesAlone, ComesWithoutSource, HasNoHandler}
use Rattle.handlers.specs.Refusal.{HasNoStatement, StatedSource, fault_only, refusal_fault, stop_fault}
use Rattle.handlers.specs.Refusal.{with_source}
use Rattle.handlers.specs.Report.{BeforeOutput, HasGraph, IsAccepted, IsHandlerRefused}
use Rattle.control_flow.specs.Flow.{Flow}
use Rattle.statement.specs.Stated.{Stated}
use Rattle.loop_bounds.specs.declared.fault.NestFault.{NestFault}
use Rattle.handlers.specs.Source.{IsSourceFault}
use Rattle.handlers.specs.declared.fault.ReportFault.{ReportFault}
use Rattle.handlers.specs.declared.fault.ReportFault.TheVariants as report_fault
use Rattle.handlers.specs.declared.refusal.Refusal.{Refusal}
use Rattle.handlers.specs.declared.refusal.Refusal.TheVariants as refusal
use Rattle.handlers.specs.declared.refusal.Stop.{Stop}
use Rattle.handlers.specs.declared.refusal.Stop.TheVariants as stop
use Rattle.handlers.proofs.AnswerLemmas.{ends_early, ends_printed}
use Rattle.handlers.proofs.HandlerLemmas.{refused_as}
use Rattle.sources.specs.File.{File}

-- ## Where there is no handler

module _ (source : Source) (text : List ℕ) (profile : Profile) where
  pub carried : (s : Stop) → HasNoHandler source text profile s → Carries source text profile s
  carried (stop.Alone fault) h = subst ComesAlone (sym h) tt
  carried (stop.Statement own fault) h = h
  carried (stop.Graph stated prices fault) h = h
  carried (stop.Loops stated flow fault) h = h

  -- loops that are refused have a graph
  pub has_graph : (stated : Stated) (flow : Flow) (fault : NestFault)
      → CarriesGraph source text profile stated flow fault → (bytes : File) → Says bytes source
      → HasGraph bytes text profile stated flow
  has_graph stated flow fault h bytes is =
      record {
        words = source.image;
        names = address_of source.labels;
        source_is = is;
        statement_is = h.stated_is;
        no_fault = h.no_fault;
        graph_is = h.graph_is;
      }

  pub refused : (s : Stop) → HasNoHandler source text profile s → (bytes : File) → Says bytes source
      → IsHandlerRefused bytes text profile (stop_fault s)
  refused (stop.Alone fault) h bytes is = subst (IsHandlerRefused bytes text profile) (sym h) tt
  refused (stop.Statement own fault) h bytes is =
      record {
        words = source.image;
        names = address_of source.labels;
        source_is = is;
        not_memory = h.not_memory;
        statement_is = h.fault_is;
      }
  refused (stop.Graph stated prices fault) h bytes is =
      record {
        words = source.image;
        names = address_of source.labels;
        stated = stated;
        source_is = is;
        statement_is = h.stated_is;
        not_memory = h.not_memory;
        holds = h.holds;
      }
  refused (stop.Loops stated flow fault) h bytes is =
      record {
        stated = stated;
        flow = flow;
        graph = has_graph stated flow fault h bytes is;
        not_memory = h.not_memory;
        holds = h.holds;
      }

  -- where there is no statement, there is no handler
  pub unstated : (s : Stop) → HasNoStatement source text s → HasNoHandler source text profile s
  unstated (stop.Alone fault) h = h
  unstated (stop.Statement own fault) h = h
  unstated (stop.Graph stated prices fault) h = absurd h
  unstated (stop.Loops stated flow fault) h = absurd h

-- ## Answers without what was read

pub only_ok : {T : Type 0} (q : Result T Refusal) (P : T → Type 0) → IfOk q P → IfOk (fault_only q) P
only_ok (Ok x) P h = h
only_ok (Err e) P h = tt

pub only_err : {T : Type 0} (q : Result T Refusal) (e : Refusal) → IsErrAnd q (λ x. x ≡ e)
    → IsErrAnd (fault_only q) (λ x. x ≡ refusal_fault e)
only_err (Ok x) e h = h
only_err (Err x) e h = λ i. refusal_fault (h i)

pub only_device : {T : Type 0} (q : Result T Refusal) (P : Type 0)
    → IfErr q (λ e. (e ≡ refusal.Alone report_fault.Device) × P)
    → IfErr (fault_only q) (λ e. (e ≡ report_fault.Device) × P)
only_device (Ok x) P h = tt
only_device (Err e) P h = (λ i. refusal_fault (h.0 i), h.1)

-- by a `?` on a fault that comes alone
module _ {T : Type 0} (q : Result T Refusal) (fault : ReportFault)
    (is : IsErrAnd q (λ x. x ≡ refusal.Alone fault)) where
  pub alone_err : (P : ReportFault → Type 0) → P fault → IfErr (fault_only q) P
  alone_err P h = refused_as (fault_only q) fault P (only_err q (refusal.Alone fault) is) h

  pub alone_carries : (bytes : File) (texts : List (List ℕ)) (profile : Profile) → ComesWithoutSource fault
      → IfErr q (CarriesRead bytes texts profile)
  alone_carries bytes texts profile h =
      refused_as q (refusal.Alone fault) (CarriesRead bytes texts profile) is h

-- ## Answers of work on a source

-- by a `?` on a fault that comes alone
pub stop_err : {T : Type 0} (r : Result T Stop) (fault : ReportFault) (P : ReportFault → Type 0)
    → IsErrAnd r (λ x. x ≡ stop.Alone fault) → P fault → IfErr r (λ s. P (stop_fault s))
stop_err r fault P is h = refused_as r (stop.Alone fault) (λ s. P (stop_fault s)) is h

module _ (source : Source) (text : List ℕ) (profile : Profile) where
  pub stop_carries : {T : Type 0} (r : Result T Stop) (fault : ReportFault)
      → IsErrAnd r (λ x. x ≡ stop.Alone fault) → ComesAlone fault → IfErr r (Carries source text profile)
  stop_carries r fault is h = refused_as r (stop.Alone fault) (Carries source text profile) is h

  pub first_carries : (bytes : File) (rest : List (List ℕ)) (s : Stop) → Carries source text profile s
      → CarriesOneOf bytes source (text ∷ rest) profile s
  first_carries bytes rest s h = inl h

  pub second_carries : (bytes : File) (first : List ℕ) → IsAccepted bytes first profile → (s : Stop)
      → Carries source text profile s → CarriesOneOf bytes source (first ∷ text ∷ []) profile s
  second_carries bytes first accepted s h = inr (accepted, inl h)

module _ {T : Type 0} (source : Source) (r : Result T Stop) (q : Result T Refusal)
    (e : q ≡ with_source source r) where
  pub told_ok : (P : T → Type 0) → IfOk r P → IfOk q P
  told_ok P h = subst (λ (x : Result T Refusal). IfOk x P) (sym e) (ok r h)
    where
      ok : (r : Result T Stop) → IfOk r P → IfOk (with_source source r) P
      ok (Ok x) h = h
      ok (Err s) h = tt

  pub told_on : (P : Type 0) → OnOk r P → OnOk q P
  told_on P h = subst (λ (x : Result T Refusal). OnOk x P) (sym e) (on r h)
    where
      on : (r : Result T Stop) → OnOk r P → OnOk (with_source source r) P
      on (Ok x) h = h
      on (Err s) h = tt

  pub told_err : (P : ReportFault → Type 0) → IfErr r (λ s. P (stop_fault s)) → IfErr (fault_only q) P
  told_err P h = subst (λ (x : Result T Refusal). IfErr (fault_only x) P) (sym e) (err r h)
    where
      err : (r : Result T Stop) → IfErr r (λ s. P (stop_fault s))
          → IfErr (fault_only (with_source source r)) P
      err (Ok x) h = tt
      err (Err s) h = h

  pub told_carries : (bytes : File) (texts : List (List ℕ)) (profile : Profile) → IsSource bytes source
      → IfErr r (CarriesOneOf bytes source texts profile) → IfErr q (CarriesRead bytes texts profile)
  told_carries bytes texts profile is h =
      subst (λ (x : Result T Refusal). IfErr x (CarriesRead bytes texts profile)) (sym e) (shows r h)
    where
      shows : (r : Result T Stop) → IfErr r (CarriesOneOf bytes source texts profile)
          → IfErr (with_source source r) (CarriesRead bytes texts profile)
      shows (Ok x) h = tt
      shows (Err s) h = (is, h)

-- a fault of the source comes without it
pub source_alone : (bytes : File) (fault : ReportFault) → IsSourceFault bytes fault
    → ComesWithoutSource fault
source_alone bytes report_fault.Memory h = tt
source_alone bytes (report_fault.Source fault) h = tt
source_alone bytes (report_fault.Image fault) h = tt
source_alone bytes (report_fault.Dialect fault) h = tt
source_alone bytes fault h = absurd h

-- one of a machine comes alone
pub run_alone : (bytes : File) (machine : List ℕ) (profile : Profile) (fault : ReportFault)
    → IsRunRefused bytes machine profile fault → ComesAlone fault
run_alone bytes machine profile (report_fault.Statement fault) h = h
run_alone bytes machine profile (report_fault.Graph fault) h = h
run_alone bytes machine profile (report_fault.Loops fault) h = h
run_alone bytes machine profile fault h = tt

-- ## Of several sources

module _ {T : Type 0} (profile : Profile) where
  -- a fault that comes alone
  pub alone_of : (parts : List StatedSource) (q : Result T Refusal) (fault : ReportFault)
      → IsErrAnd q (λ x. x ≡ refusal.Alone fault) → ComesWithoutSource fault
      → IfErr q (CarriesReadOf parts profile)
  alone_of parts q fault is h = refused_as q (refusal.Alone fault) (CarriesReadOf parts profile) is h

  -- where work on one source stopped
  pub told_of : (source : Source) (r : Result T Stop) (q : Result T Refusal) → q ≡ with_source source r
      → (bytes : File) (text : List ℕ) → IsSource bytes source → IfErr r (Carries source text profile)
      → IfErr q (CarriesReadOf ((bytes, text) ∷ []) profile)
  told_of source r q e bytes text is h =
      subst (λ (x : Result T Refusal). IfErr x (CarriesReadOf ((bytes, text) ∷ []) profile)) (sym e)
      (shows r h)
    where
      shows : (r : Result T Stop) → IfErr r (Carries source text profile)
          → IfErr (with_source source r) (CarriesReadOf ((bytes, text) ∷ []) profile)
      shows (Ok x) h = tt
      shows (Err s) h = inl (is, h)

-- after work on another source, which is accepted
pub then_of : (profile : Profile) (bytes : File) (text : List ℕ) (parts : List StatedSource)
    → IsAccepted bytes text profile → (e : Refusal) → CarriesReadOf parts profile e
    → CarriesReadOf ((bytes, text) ∷ parts) profile e
then_of profile bytes text parts accepted (refusal.Alone fault) h = h
then_of profile bytes text parts accepted (refusal.OnSource source stopped) h = inr (accepted, h)

-- ## Answers by the profile of a file, or of none

module _ {T : Type 0} (file : Option (List ℕ)) (Shows : Profile → Refusal → Type 0)
    (q : Result T Refusal) where
  pub unpriced_by : (fault : ReportFault) → IsErrAnd q (λ x. x ≡ refusal.Alone fault)
      → HasNoProfile file fault → IfErr q (CarriesBy file Shows)
  unpriced_by fault is none = refused_as q (refusal.Alone fault) (CarriesBy file Shows) is
      (inr (fault, refl, none))

  module _ (profile : Profile) (is_profile : IsProfile file profile) where
    pub refused_by : (e : Refusal) → IsErrAnd q (λ x. x ≡ e) → Shows profile e
        → IfErr q (CarriesBy file Shows)
    refused_by e is h =
        refused_as q e (CarriesBy file Shows) is
        (inl (record { profile = profile; is = is_profile; holds = h }))

    pub device_by : (P : Type 0) → Shows profile (refusal.Alone report_fault.Device)
        → IfErr q (λ e. (e ≡ refusal.Alone report_fault.Device) × P) → IfErr q (CarriesBy file Shows)
    device_by P alone h =
        IfErr-weaker q _ _ (λ e d. subst (CarriesBy file Shows) (sym d.0)
        (inl (record { profile = profile; is = is_profile; holds = alone }))) h

pub carries_by : (file : Option (List ℕ)) (bytes : File) (texts : List (List ℕ)) (profile : Profile)
    → IsProfile file profile → (e : Refusal) → CarriesRead bytes texts profile e
    → CarriesReadBy file bytes texts e
carries_by file bytes texts profile is e h = inl (record { profile = profile; is = is; holds = h })

module _ {T : Type 0} (file : Option (List ℕ)) (bytes : File) (texts : List (List ℕ))
    (q : Result T Refusal) where
  pub no_profile_carries : (fault : ReportFault) → IsErrAnd q (λ x. x ≡ refusal.Alone fault)
      → HasNoProfile file fault → IfErr q (CarriesReadBy file bytes texts)
  no_profile_carries = unpriced_by file (CarriesRead bytes texts) q

  module _ (profile : Profile) (is_profile : IsProfile file profile) where
    pub profile_carries : (e : Refusal) → IsErrAnd q (λ x. x ≡ e) → CarriesRead bytes texts profile e
        → IfErr q (CarriesReadBy file bytes texts)
    profile_carries = refused_by file (CarriesRead bytes texts) q profile is_profile

    pub device_carries : (P : Type 0) → IfErr q (λ e. (e ≡ refusal.Alone report_fault.Device) × P)
        → IfErr q (CarriesReadBy file bytes texts)
    device_carries P h = device_by file (CarriesRead bytes texts) q profile is_profile P tt h

-- ## How a report that comes with what was read ends

module _ {O T : Type 0} (taken : O → Option (List ℕ)) (failures : O → ℕ) (IsText : T → List ℕ → Type 0)
    (IsFine : Type 0) (IsFault : ReportFault → Type 0) where
  -- by a `?` before anything was written
  pub ends_refused : (old : O) (q : Result T Refusal) (e : Refusal) → IsErrAnd q (λ x. x ≡ e)
      → BeforeOutput IsFault (refusal_fault e)
      → (IfErr (fault_only q) (BeforeOutput IsFault) → IsFine
      → IfErr (fault_only q) (λ x. (x ≡ report_fault.Memory) ⊎ (x ≡ report_fault.Device)))
      → Answers taken failures IsText IsFine IsFault old old (fault_only q)
  ends_refused old q e is h only = ends_early taken failures IsText IsFine IsFault old (fault_only q)
      (refusal_fault e) (only_err q e is) h only

  -- by what the output answered
  pub ends_told : (old new : O) (x : T) (text : List ℕ) (q : Result T Refusal) → IsText x text → IsFine
      → IsFault report_fault.Device → IfOk q (λ y. (y ≡ x) × Appends (taken old) (taken new) text)
      → IfErr q (λ e. (e ≡ refusal.Alone report_fault.Device)
      × (TakesFront (taken old) (taken new) text × FailsSince (failures old) (failures new)))
      → Answers taken failures IsText IsFine IsFault old new (fault_only q)
  ends_told old new x text q is fine fails ok err =
      ends_printed taken failures IsText IsFine IsFault old new x text (fault_only q) is fine fails
      (only_ok q _ ok) (only_device q _ err)

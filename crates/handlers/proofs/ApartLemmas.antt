-- FIQ's handler of its own source, and where the work on both sources stops.
use Rattle.std.proofs.Common.{◌≡◌, ◌∙◌, ◌⊎◌, ℕ, ◌≤◌, List, [], ◌∷◌, Option, Some, None, Result, Ok, Err, refl}
use Rattle.std.proofs.Common.{sym, ap, subst, inl, inr}
use Rattle.std.specs.Prelude.{IfErr, IfOk, OnOk}
use Rattle.bus_ticks.specs.declared.profile.Profile.{Profile}
use Rattle.image.specs.Image.{Words}
use Rattle.image.specs.Labels.{address_of}
use Rattle.sources.specs.Source.{Said, Says, source_of}
use Rattle.sources.specs.declared.fault.SourceFault.TheVariants as source_fault
use Rattle.sources.specs.declared.read.Source.{Source}
use Rattle.handlers.specs.FiqHandler.{AreApart, IsFiqRefused, IsFiqsRefused, fiq_bytes}
use Rattle.handlers.specs.Meeting.{IsFirstShared, MeetAt, SourcesShare}
use Rattle.handlers.specs.Refusal.{fault_only, refusal_fault}
use Rattle.handlers.specs.Report.{BeforeOutput, IsAccepted}
use Rattle.handlers.specs.Source.{IsSourceFault}
use Rattle.handlers.specs.VisitStops.{refusal_on, refused_on}
use Rattle.handlers.specs.declared.apart.VisitStop.{VisitStop}
use Rattle.handlers.specs.declared.fault.ReportFault.{ReportFault}
use Rattle.handlers.specs.declared.fault.ReportFault.TheVariants.{Memory, Device, WordsMeet}
use Rattle.handlers.specs.declared.fault.ReportFault.TheVariants as report_fault
use Rattle.handlers.specs.declared.refusal.Refusal.{Refusal}
use Rattle.handlers.proofs.FiqLemmas.{fiq_accepted}
use Rattle.handlers.proofs.HandlerLemmas.{never_both, one_ok}
use Rattle.sources.specs.File.{File}

-- ## Two sources

-- two sources that were read share what their words share
pub shares : (source bytes : File) (said own : Source) → Says source said → Says bytes own
    → (shared : Option ℕ) → IsFirstShared said.image own.image shared → SourcesShare source bytes shared
shares source bytes said own is own_is shared h =
    record {
      words = said.image;
      names = address_of said.labels;
      others = own.image;
      other_names = address_of own.labels;
      source_is = is;
      other_is = own_is;
      shared_is = h;
    }

never_share : (source other : File) → SourcesShare source other None → (address : ℕ)
    → SourcesShare source other (Some address) → ⊥
never_share source other none address some =
    let said : (some.words, some.names) ≡ (none.words, none.names) =
    one_ok (some.words, some.names) (none.words, none.names) (source_of source) some.source_is
    none.source_is in
    let others : (some.others, some.other_names) ≡ (none.others, none.other_names) =
    one_ok (some.others, some.other_names) (none.others, none.other_names) (source_of other) some.other_is
    none.other_is in
    let here : MeetAt none.words some.others address =
    subst (λ (w : Words). MeetAt w some.others address) (ap (λ (s : Said). s.0) said) some.shared_is.0 in
    none.shared_is address (subst (λ (w : Words). MeetAt none.words w address) (ap (λ (s : Said). s.0) others)
    here)

module _ (source own : File) (fiq : List ℕ) (profile : Profile) where
  pub meets : (address : ℕ) → SourcesShare source own (Some address)
      → BeforeOutput (IsFiqsRefused source (Some own) fiq profile) (WordsMeet address)
  meets address share = (λ e. cc e, share)

  -- where they share no address, the refusals are those of FIQ's handler
  pub apart_refusal : SourcesShare source own None → (e : ReportFault)
      → BeforeOutput (IsFiqRefused own fiq profile) e
      → BeforeOutput (IsFiqsRefused source (Some own) fiq profile) e
  apart_refusal none Memory r = (r.0, tt)
  apart_refusal none (WordsMeet address) r = absurd r.1.0
  apart_refusal none e r = (r.0, (r.1, never_share source own none))

  pub own_unread : (e : ReportFault) → IsSourceFault own e
      → BeforeOutput (IsFiqsRefused source (Some own) fiq profile) e
  own_unread Memory h = (λ e. cc e, tt)
  own_unread (report_fault.Source f) h = (
    λ e. cc e,
    (
      (
        h,
        λ other. never_both (other.words, other.names) (source_fault.Text f) (source_of own) other.source_is
            h,
      ),
      λ address share. never_both (share.others, share.other_names) (source_fault.Text f)
          (source_of own) share.other_is h,
    ),
  )
  own_unread (report_fault.Image f) h = (
    λ e. cc e,
    (
      (
        h,
        λ other. never_both (other.words, other.names) (source_fault.Image f)
            (source_of own) other.source_is h,
      ),
      λ address share. never_both (share.others, share.other_names) (source_fault.Image f)
          (source_of own) share.other_is h,
    ),
  )
  own_unread (report_fault.Dialect f) h = (
    λ e. cc e,
    (
      (
        h,
        λ other. never_both (other.words, other.names) (source_fault.Dialect f)
            (source_of own) other.source_is h,
      ),
      λ address share. never_both (share.others, share.other_names) (source_fault.Dialect f)
          (source_of own) share.other_is h,
    ),
  )
  own_unread e h = absurd h

-- what FIQ's accepted handler is refused for
pub fiqs_refusals : (source : File) (own : Option File) (fiq : List ℕ) (profile : Profile)
    → AreApart source own → (a : IsAccepted (fiq_bytes source own) fiq profile) → a.stated.entry ≡ 0x1C
    → (e : ReportFault) → IsFiqsRefused source own fiq profile e → (e ≡ Memory) ⊎ (e ≡ Device)
fiqs_refusals source None fiq profile apart a there e r = fiq_accepted source fiq profile a there e r
fiqs_refusals source (Some own) fiq profile apart a there Memory r = inl refl
fiqs_refusals source (Some own) fiq profile apart a there (WordsMeet address) r =
    absurd (never_share source own apart address r)
fiqs_refusals source (Some own) fiq profile apart a there e r = fiq_accepted own fiq profile a there e r.0

-- ## Where the work stopped

module _ {T : Type 0} (said : Source) (r : Result T VisitStop) (q : Result T Refusal)
    (e : q ≡ refused_on said r) where
  pub placed_ok : (P : T → Type 0) → IfOk r P → IfOk q P
  placed_ok P h = subst (λ (x : Result T Refusal). IfOk x P) (sym e) (ok r h)
    where
      ok : (r : Result T VisitStop) → IfOk r P → IfOk (refused_on said r) P
      ok (Ok x) h = h
      ok (Err s) h = tt

  pub placed_err : (P : Refusal → Type 0) → IfErr r (λ s. P (refusal_on said s)) → IfErr q P
  placed_err P h = subst (λ (x : Result T Refusal). IfErr x P) (sym e) (err r h)
    where
      err : (r : Result T VisitStop) → IfErr r (λ s. P (refusal_on said s)) → IfErr (refused_on said r) P
      err (Ok x) h = tt
      err (Err s) h = h

-- what holds of each refusal's fault holds of the fault alone
pub fault_of : {T : Type 0} (q : Result T Refusal) (P : ReportFault → Type 0)
    → IfErr q (λ x. P (refusal_fault x)) → IfErr (fault_only q) P
fault_of (Ok x) P h = tt
fault_of (Err x) P h = h

-- what holds anyway holds where there is a value
pub on_any : {T E : Type 0} (r : Result T E) (P : Type 0) → P → OnOk r P
on_any (Ok x) P h = h
on_any (Err e) P h = tt

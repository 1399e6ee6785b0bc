-- The report of a run that ends before the instruction at an address, and its refusals.
use Rattle.std.proofs.Common.{◌≡◌, ◌∙◌, ℕ, Bool, List, Some, None, sym, ap}
use Rattle.bus_ticks.specs.declared.profile.Profile.{Profile}
use Rattle.image.specs.Labels.{Names}
use Rattle.handlers.proofs.PlacingLemmas.{runnable_memory}
use Rattle.handlers.specs.Placing.{IsRunRefused}
use Rattle.handlers.specs.Report.{BeforeOutput}
use Rattle.handlers.specs.declared.fault.ReportFault.{ReportFault}
use Rattle.handlers.specs.declared.fault.ReportFault.TheVariants as report_fault
use Rattle.machine_reports.specs.Machine.{End, Front}
use Rattle.machine_reports.specs.RunTo.{HasEnd, HasNoEnd, IsRunToRefused, IsRunToReport, IsRunnableTo, end_of}
use Rattle.machine_reports.proofs.MachineLemmas.{same_names}
use Rattle.sources.specs.File.{File}

-- what is shown could be run
pub runnable_to : (Shows : Front) (ends : End) (source : File) (machine word : List ℕ) (profile : Profile) (done : Bool)
    (text : List ℕ) → IsRunToReport Shows ends source machine word profile done text
    → IsRunnableTo source machine word profile
runnable_to Shows ends source machine word profile done text h =
    let placed = h.loaded.placed in
    record {
      end = record {
        words = placed.words;
        names = placed.stated.names;
        source_is = placed.stated.source_is;
        to = h.to;
        to_is = h.to_is;
      };
      runnable = record { file = h.loaded.file; state = h.state; placed = placed };
    }

module _ (source : File) (machine word : List ℕ) (profile : Profile) where
  -- a machine is refused where the word is an address
  pub refused_to : HasEnd source word → (e : ReportFault)
      → BeforeOutput (IsRunRefused source machine profile) e
      → BeforeOutput (IsRunToRefused source machine word profile) e
  refused_to end (report_fault.MachineFile f) h = (h.0, (end, h.1))
  refused_to end (report_fault.Load f) h = (h.0, (end, h.1))
  refused_to end report_fault.NoSuchEntry h = absurd h.1
  refused_to end e h = h

  -- .. and a source in any case
  no_end : HasEnd source word → ¬ HasNoEnd source word
  no_end end none =
      let names = same_names source end.words none.words end.names none.names end.source_is none.source_is in
      let both : Some end.to ≡ None =
      sym end.to_is ∙ ap (λ (n : Names). end_of n word) names ∙ none.to_is in
      cc both

  -- a run that can be made is refused for lack of memory alone, as long as the output has not failed
  pub runnable_to_memory : (e : ReportFault) → BeforeOutput (IsRunToRefused source machine word profile) e
      → IsRunnableTo source machine word profile → e ≡ report_fault.Memory
  runnable_to_memory (report_fault.MachineFile f) h able =
      runnable_memory source machine profile (report_fault.MachineFile f) (h.0, h.1.1) able.runnable
  runnable_to_memory (report_fault.Load f) h able =
      runnable_memory source machine profile (report_fault.Load f) (h.0, h.1.1) able.runnable
  runnable_to_memory report_fault.NoSuchEntry h able = absurd (no_end able.end h.1)
  runnable_to_memory e h able = runnable_memory source machine profile e h able.runnable

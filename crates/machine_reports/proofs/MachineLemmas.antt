-- What is shown of a run.
use Rattle.std.proofs.Common.{◌≡◌, ◌∙◌, ℕ, Bool, true, false, List, Option, Some, None, Ok, refl, sym, ap}
use Rattle.std.specs.Prelude.{◌↔◌, IsTrue, is_some, not}
use Rattle.arm2_effect.specs.declared.step_end.Why.{Why}
use Rattle.bus_ticks.specs.declared.profile.Profile.{Profile}
use Rattle.image.specs.Image.{Words}
use Rattle.image.specs.Labels.{Names}
use Rattle.sources.specs.Source.{Said, source_of}
use Rattle.handlers.specs.Placing.{IsRunnable}
use Rattle.machine_reports.specs.Machine.{End, Front, IsMachineReport}
use Rattle.sources.specs.File.{File}

-- what is shown could be run
pub runnable : (Shows : Front) (ends : End) (source : File) (machine : List ℕ) (profile : Profile) (done : Bool) (text : List ℕ) → IsMachineReport Shows ends source machine profile done text → IsRunnable source machine profile
runnable Shows ends source machine profile done text h =
    record { file = h.loaded.file; state = h.state; placed = h.loaded.placed }

pub none_is : (stopped : Option Why) (done : Bool) → is_some stopped ≡ not done → IsTrue done ↔ (stopped ≡ None)
none_is None true is = (λ t. refl, λ e. refl)
none_is None false is = absurd (cc is)
none_is (Some why) true is = absurd (cc is)
none_is (Some why) false is = (λ t. absurd (cc t), λ e. absurd (cc e))

-- a source has one set of labels
pub same_names : (source : File) (words others : Words) (names own : Names)
    → source_of source ≡ Ok (words, names) → source_of source ≡ Ok (others, own) → names ≡ own
same_names source words others names own h k =
    let said : Ok (words, names) ≡ Ok (others, own) = sym h ∙ k in
    let pairs : (words, names) ≡ (others, own) = cc said in
    ap (λ (s : Said). s.1) pairs

-- What a word is to do, against what is stated of it: its way, the class of its words, and its cycles.
use Rattle.std.specs.Prelude.{◌≡◌, ℕ, ◌≤◌, ◌<◌, true, false, Some, IfSome}
use Rattle.bus_ticks.specs.declared.profile.Class.{Class}
use Rattle.statement.specs.Stated.{Stated, class_at, cycles_at, taken_at}
use Rattle.statement.specs.declared.stated.Taken.{Taken}
use Rattle.control_flow.specs.Edges.{may_go}
use Rattle.kept_runs.specs.declared.judging.Stray.{Stray}
use Rattle.kept_runs.specs.declared.judging.Stray.TheVariants as stray
use Rattle.kept_runs.specs.declared.reading.Reading.{Reading}
use Rattle.kept_runs.specs.declared.transfers.Access.{Access}
use Rattle.kept_runs.specs.Judging.{label_if}
use Rattle.kept_runs.specs.Transfers.{HasNoOther, HasOther}

module _ (st : Stated) (address : ℕ) (r : Reading) where
  abbrev pub GoesAsStated : Type 0
  GoesAsStated = may_go (label_if r.holds) r.cond (taken_at st address) ≡ true

  abbrev pub TransfersAsStated : Type 0
  TransfersAsStated = HasNoOther (class_at st address r.base) r.transfer

  abbrev pub TakesAsStated : Type 0
  TakesAsStated = IfSome r.cycles (λ cycles. cycles ≤ cycles_at st address)

  pub record IsAsStated : Type 0 where
    pub goes : GoesAsStated
    pub transfers : TransfersAsStated
    pub takes : TakesAsStated

  -- it has a condition, and does not go the stated way
  pub record GoesOther (taken : Taken) : Type 0 where
    pub stated : taken_at st address ≡ Some taken
    pub other : may_go (label_if r.holds) r.cond (Some taken) ≡ false

  -- the word is the first that it transfers of another class than the one stated
  pub record TransfersUnstated (access : Access) (stated : Class) : Type 0 where
    pub stated_is : stated ≡ class_at st address r.base
    pub other : HasOther stated r.transfer access

  -- it multiplies, for so many cycles, which are more than are stated
  pub record TakesOver (cycles : ℕ) : Type 0 where
    pub takes : r.cycles ≡ Some cycles
    pub more : cycles_at st address < cycles

  -- of its way, its words and its cycles, the first that is not as stated
  abbrev pub Departs : Stray → Type 0
  Departs stray.OtherWord = ⊥
  Departs (stray.Exception vector) = ⊥
  Departs (stray.Stopped why) = ⊥
  Departs (stray.OtherWay taken) = GoesOther taken
  Departs (stray.OtherClass access stated) = GoesAsStated × TransfersUnstated access stated
  Departs (stray.MoreCycles cycles) = GoesAsStated × TransfersAsStated × TakesOver cycles
  Departs (stray.Elsewhere to) = ⊥

-- What a step must do to take an edge at its price.
use Rattle.std.proofs.Common.{◌≡◌, ℕ, ◌<◌, ◌≤◌, Bool, true, List, length}
use Rattle.bus_ticks.specs.Dearest.{AreDearest}
use Rattle.bus_ticks.specs.declared.profile.Class.{Class}
use Rattle.bus_ticks.specs.declared.profile.Profile.{Profile}
use Rattle.bus_ticks.specs.declared.profile.RomTimes.{RomTimes}
use Rattle.arm2_effect.specs.declared.modes.Mode.{Mode}
use Rattle.arm2_effect.specs.declared.step_end.Kind.TheVariants as ended
use Rattle.arm2_effect.specs.Effects.{Access, Effect}
use Rattle.arm2_effect.specs.Modes.{r15_in}
use Rattle.arm2_effect.specs.ProgramCounter.{address_of, mode_of}
use Rattle.arm2_transfer.specs.declared.bus.Bus.{Bus}
use Rattle.arm2_transfer.specs.Moved.{Moved, on_bus}
use Rattle.control_flow.specs.Kinds.{is_writer}
use Rattle.flow_graph.specs.TightWork.{IsDearestTarget}
use Rattle.control_flow.specs.declared.actions.Kind.{Kind}
use Rattle.control_flow.specs.declared.actions.Work.{Work}
use Rattle.control_flow.specs.declared.places.Place.{Place}
use Rattle.statement.specs.Stated.{Stated}
use Rattle.flow_graph.proofs.TightTicks.{AreDear, Pays}

-- the prices, the class of the words, the most cycles of a multiply and the place where the edge leads; the
-- machine before the step
pub record Setting : Type 0 where
  pub st : Stated
  pub profile : Profile
  pub rom : RomTimes
  pub class : Class
  pub limit : ℕ
  pub to : Place
  pub regs : List ℕ
  pub bus : Bus
  pub port : ℕ
  pub dear : AreDearest profile rom
  pub long : 26 < length regs
  pub some : 1 ≤ limit

module _ (c : Setting) where
  abbrev pub start : ℕ
  start = address_of (r15_in c.regs)

  abbrev pub mode : Mode
  mode = mode_of (r15_in c.regs)

  -- the address in a word is one of the place, to which a jump costs the most
  abbrev pub IsTarget : ℕ → Type 0
  IsTarget word = IsDearestTarget c.st c.profile c.to (address_of word)

  abbrev pub IsDear : (words lowest : ℕ) → Bool → Type 0
  IsDear = AreDear c.profile c.rom c.class

  -- accesses pay that start there
  abbrev pub PaysFrom : Kind → Work → List Access → ℕ → Type 0
  PaysFrom = Pays c.profile c.rom c.class c.limit start c.dear c.some

  -- what is done ends as other instructions do, and pays; where it writes R15 as its word does, the address
  -- there is such a target
  pub record MovedPays (k : Kind) (w : Work) (m : Moved) : Type 0 where
    pub plain : m.kind ≡ ended.Plain
    pub pays : PaysFrom k w m.accesses (address_of (r15_in m.regs))
    pub lands : is_writer k ≡ true → IsTarget (r15_in m.regs)

  abbrev pub EffectPays : Kind → Work → Effect → Type 0
  EffectPays k w e = MovedPays k w (on_bus c.bus e)

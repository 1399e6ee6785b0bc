-- Where control goes from the words of a handler, as far as they show it (VL86C010 data sheet, but for the
-- choice of shapes), or as is stated.
use Rattle.std.specs.Prelude.{◌≡◌, ◌≢◌, ◌⊎◌, ◌↔◌, ℕ, ◌-◌, ◌<◌, ◌≤◌, true, false, List, length, Contains}
use Rattle.std.specs.Prelude.{Option, Some}
use Rattle.arm2_decode.specs.Names.{is_always, is_never}
use Rattle.arm2_effect.specs.ProgramCounter.{branch_target}
use Rattle.bus_ticks.specs.declared.space.TheConstants.{SPACE_END}
use Rattle.bus_ticks.specs.Prices.{ahead_of}
use Rattle.control_flow.specs.Edges.{HasAction}
use Rattle.control_flow.specs.declared.actions.Action.{Action}
use Rattle.control_flow.specs.declared.actions.Kind.{Kind}
use Rattle.control_flow.specs.declared.actions.Kind.TheVariants as kind
use Rattle.control_flow.specs.declared.search.TheConstants.{MOST_PLACES}
use Rattle.image.specs.Image.{Words}
use Rattle.statement.specs.Stated.{Stated, Target}
use Rattle.statement.specs.declared.entries.TheConstants.{MOST_DESTINATIONS}
use Rattle.statement.specs.declared.stated.TargetKind.{TargetKind}
use Rattle.statement.specs.declared.stated.TargetKind.TheVariants as target_kind
use Rattle.text_draft.specs.Begun.{is_unsettled, target_in}
use Rattle.word_shapes.specs.Shapes.{is_table_jump, keeps_return_address}
use Rattle.word_shapes.specs.Words.{HasShape, MayDo}

-- ## Places

-- the word after and the word before
abbrev pub next_of : ℕ → ℕ
next_of at = ahead_of at 4

abbrev pub before : ℕ → ℕ
before at = ahead_of at (SPACE_END - 4)

-- ## Words of an image

module _ (words : Words) where
  -- a branch without link is there, which is always carried out
  pub record IsBranchAt (at : ℕ) : Type 0 where
    pub action : Action
    pub has : HasAction words at action
    pub always : is_always action.cond ≡ true
    pub offset : ℕ
    pub branches : action.kind ≡ kind.Branch offset

  -- a jump into a table of branches is there
  abbrev pub JumpsIntoTable : ℕ → Type 0
  JumpsIntoTable at = HasShape is_table_jump words at

  -- the word before may put the address of the word after this one into R14: it is not under NV
  abbrev pub HasReturnAddress : ℕ → Type 0
  HasReturnAddress at = MayDo keeps_return_address words (before at)

  -- a place of the table after a jump, from 0 on: so many words on from the jump's address plus 8, where a
  -- branch with that offset would lead. Up to it all are branches, and a table has no more places than a
  -- target may have destinations
  pub record IsTablePlace (at n : ℕ) : Type 0 where
    pub jumps : JumpsIntoTable at
    pub few : n < MOST_DESTINATIONS
    pub branches : (m : ℕ) → m ≤ n → IsBranchAt (branch_target at m)

  -- so many places the table has
  abbrev pub HasPlaces : ℕ → ℕ → Type 0
  HasPlaces at count = (n : ℕ) → (n < count) ↔ IsTablePlace at n

  -- the word jumps into a table of branches, of which this is one
  abbrev pub LeadsByTable : ℕ → ℕ → Type 0
  LeadsByTable at to = (n : ℕ) × IsTablePlace at n × (to ≡ branch_target at n)

-- ## What is stated so far

module _ (given : Option Stated) where
  -- where the words show that the word at an address leads counts: no target is stated for it, or an open one
  abbrev pub IsUnsettled : ℕ → Type 0
  IsUnsettled at = is_unsettled (target_in given at) ≡ true

  -- a target of that kind is stated for the word, and the other address is one of its destinations; 0 is none
  pub record IsStatedTo (kind : TargetKind) (at to : ℕ) : Type 0 where
    pub target : Target
    pub stated : target_in given at ≡ Some target
    pub kind_is : target.kind ≡ kind
    pub goes : Contains target.to to
    pub known : to ≢ 0

  -- the word is stated to call
  abbrev pub IsStatedCall : ℕ → Type 0
  IsStatedCall at = (t : Target) × (target_in given at ≡ Some t) × (t.kind ≡ target_kind.Call)

  -- the routine that a word calls that is carried out
  abbrev pub Calls : ℕ → Kind → ℕ → Type 0
  Calls at (kind.Call offset) to = to ≡ branch_target at offset
  Calls at kind.Writer to = IsStatedTo target_kind.Call at to
  Calls at _ to = ⊥

module _ (words : Words) (given : Option Stated) where
  -- control reaches the next word past one that is carried out: at once; or back from where that one leads,
  -- as it does from a stated call, and from any other writer of R15 that has the return address in R14,
  -- whatever it looks like, and of which it is left open where it leads
  abbrev pub ComesPast : ℕ → Kind → Type 0
  ComesPast at kind.Plain = Unit {0}
  ComesPast at (kind.Call offset) = Unit {0}
  ComesPast at kind.Writer = IsStatedCall given at ⊎ (IsUnsettled given at × HasReturnAddress words at)
  ComesPast at _ = ⊥

  -- it comes past that, or the word may be passed over
  abbrev pub GoesOn : ℕ → Action → Type 0
  GoesOn at a = (is_always a.cond ≡ false) ⊎ ComesPast at a.kind

  -- where else inside its routine a word leads that is carried out: a branch and a stated jump; and through
  -- its table a word of which it is left open
  abbrev pub LeadsAway : ℕ → Kind → ℕ → Type 0
  LeadsAway at (kind.Branch offset) to = to ≡ branch_target at offset
  LeadsAway at kind.Writer to = IsStatedTo given target_kind.Jump at to ⊎ (IsUnsettled given at × LeadsByTable words at to)
  LeadsAway at _ to = ⊥

  -- a step inside a routine
  abbrev pub Steps : ℕ → Action → ℕ → Type 0
  Steps at a to = (GoesOn at a × (to ≡ next_of at)) ⊎ ((is_never a.cond ≡ false) × LeadsAway at a.kind to)

  abbrev pub StepsTo : ℕ → ℕ → Type 0
  StepsTo at to = (a : Action) × HasAction words at a × Steps at a to

  abbrev pub CallsTo : ℕ → ℕ → Type 0
  CallsTo at to = (a : Action) × HasAction words at a × (is_never a.cond ≡ false) × Calls given at a.kind to

  -- a word is there, and by it control may go to the other address
  abbrev pub LeadsTo : ℕ → ℕ → Type 0
  LeadsTo at to = StepsTo at to ⊎ CallsTo at to

  -- control comes there from an entry: it is the entry, or a word to which control comes leads there
  pub data Reaches (entry : ℕ) : ℕ → Type 0 where
    begins : Reaches entry entry
    leads_on : (at to : ℕ) → Reaches entry at → LeadsTo at to → Reaches entry to

  -- of the addresses that are reached from the entry these: all, or as many as a graph may have places
  pub record AreReached (entry : ℕ) (addresses : List ℕ) : Type 0 where
    pub few : length addresses ≤ MOST_PLACES
    pub begun : Contains addresses entry
    pub reached : (at : ℕ) → Contains addresses at → Reaches entry at
    pub all : length addresses < MOST_PLACES → (at : ℕ) → Reaches entry at → Contains addresses at

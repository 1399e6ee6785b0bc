-- The words of which is to be stated where they lead.
use Rattle.std.specs.Prelude.{◌≡◌, ◌⊎◌, ◌||◌, ℕ, Bool, false, true, not, List, All, Contains, Option}
use Rattle.std.specs.List.{list_any}
use Rattle.arm2_decode.specs.Names.{is_never}
use Rattle.statement.specs.Stated.{Stated}
use Rattle.text_draft.specs.Begun.{any_stated_open, has_target}
use Rattle.text_draft.specs.Found.{addresses_of}
use Rattle.text_draft.specs.Picks.{Picks}
use Rattle.text_draft.specs.Reach.{HasPlaces, HasReturnAddress, next_of}
use Rattle.text_draft.specs.declared.pc_writers.FoundTarget.{FoundTarget}
use Rattle.text_draft.specs.declared.pc_writers.Way.{Way}
use Rattle.text_draft.specs.declared.pc_writers.Way.TheVariants as way
use Rattle.control_flow.specs.Edges.{HasAction}
use Rattle.control_flow.specs.declared.actions.Action.{Action}
use Rattle.control_flow.specs.declared.actions.Kind.TheVariants as kind
use Rattle.image.specs.Image.{Words}
use Rattle.word_shapes.specs.Shapes.{is_odd_writer, keeps_return_address, sets_link_by_pc}
use Rattle.word_shapes.specs.Words.{HasShape, MayDo}

-- ## What is left to the author

abbrev pub is_return : Way → Bool
is_return way.Return = true
is_return _ = false

-- where it leads is left open
abbrev pub is_open : FoundTarget → Bool
is_open t = not (is_return t.way)

abbrev pub any_open : List FoundTarget → Bool
any_open targets = list_any is_open targets

-- it is left open where a word leads, by what is stated or among these
abbrev pub any_left : Option Stated → List FoundTarget → Bool
any_left begun targets = any_stated_open begun || any_open targets

-- that is so, or something may be left out of what was looked at
abbrev pub leaves_open : (full : Bool) → Option Stated → List FoundTarget → Bool
leaves_open full begun targets = full || any_left begun targets

-- those for which no target is stated, in their order
abbrev pub ArePending : Option Stated → List FoundTarget → List FoundTarget → Type 0
ArePending begun = Picks (λ t. has_target begun t ≡ false)

-- ## What the words show

module _ (words : Words) where
  -- a word is there that writes R15, other than a branch or a call, and that is not under NV
  pub record WritesPc (at : ℕ) : Type 0 where
    pub action : Action
    pub has : HasAction words at action
    pub writes : action.kind ≡ kind.Writer
    pub carried : is_never action.cond ≡ false

  -- it does, and does not look like a return
  abbrev pub LeadsOddly : ℕ → Type 0
  LeadsOddly at = WritesPc at × HasShape is_odd_writer words at

  -- the word may put an address of its own into R14: by PC, or by MOV R14,PC where no word follows that may
  -- call; one under NV does not
  abbrev pub SetsLink : ℕ → Type 0
  SetsLink at =
      MayDo sets_link_by_pc words at
      ⊎ (MayDo keeps_return_address words at × (LeadsOddly (next_of at) → ⊥))

  module _ (addresses : List ℕ) where
    -- at one of the addresses is a word that puts an address of its own into R14
    abbrev pub AnySetsLink : Type 0
    AnySetsLink = (at : ℕ) × Contains addresses at × SetsLink at

    -- the word looks like a return, and nothing speaks against it
    abbrev pub Returns : ℕ → Type 0
    Returns at = (HasShape is_odd_writer words at → ⊥) × (AnySetsLink → ⊥)

    -- what the words show of where it leads: back; else into a routine, where the word before puts the
    -- return address into R14; else elsewhere inside its routine
    abbrev pub IsWay : ℕ → Way → Type 0
    IsWay at way.Return = Returns at
    IsWay at way.Call = (Returns at → ⊥) × HasReturnAddress words at
    IsWay at way.Jump = (Returns at → ⊥) × (HasReturnAddress words at → ⊥)

    -- the branches are those of its table
    pub record IsTarget (t : FoundTarget) : Type 0 where
      pub way_is : IsWay t.at t.way
      pub table : HasPlaces words t.at t.branches

    -- exactly those of the addresses whose words write R15, and what is shown of each
    pub record AreTargets (targets : List FoundTarget) : Type 0 where
      pub at : Picks WritesPc addresses (addresses_of targets)
      pub shown : All IsTarget targets

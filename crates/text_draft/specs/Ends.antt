-- Where a handler cannot go on.
use Rattle.std.specs.Prelude.{◌≡◌, ◌⊎◌, ℕ, if◌then◌else◌, List, Option, Some, None, All}
use Rattle.std.specs.Map.{keys_of}
use Rattle.arm2_decode.specs.Names.{is_never}
use Rattle.text_draft.specs.Picks.{Picks}
use Rattle.text_draft.specs.declared.ends.End.{End}
use Rattle.text_draft.specs.declared.ends.End.TheVariants as end
use Rattle.control_flow.specs.Edges.{HasAction}
use Rattle.control_flow.specs.declared.actions.Action.{Action}
use Rattle.control_flow.specs.declared.actions.Kind.{Kind}
use Rattle.control_flow.specs.declared.actions.Kind.TheVariants as kind
use Rattle.image.specs.Image.{Words, word_of}

-- why control does not come past a word that is carried out
abbrev pub kind_end : Kind → Option End
kind_end kind.Trap = Some end.Trap
kind_end kind.Unallocated = Some end.Unallocated
kind_end _ = None

-- a word under NV is passed over
abbrev pub action_end : Action → Option End
action_end a = if is_never a.cond then None else kind_end a.kind

module _ (words : Words) where
  -- why a handler cannot go on at an address
  abbrev pub IsEnd : ℕ → End → Type 0
  IsEnd at e =
      ((word_of words at ≡ None) × (e ≡ end.NoWord))
      ⊎ ((a : Action) × HasAction words at a × (action_end a ≡ Some e))

  -- it cannot
  abbrev pub Ends : ℕ → Type 0
  Ends at = (e : End) × IsEnd at e

  -- exactly those of the addresses at which it cannot, each with why
  pub record AreEnds (addresses : List ℕ) (ends : List (ℕ × End)) : Type 0 where
    pub at : Picks Ends addresses (keys_of ends)
    pub why : All (λ e. IsEnd e.0 e.1) ends

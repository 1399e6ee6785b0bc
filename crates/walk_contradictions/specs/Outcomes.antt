-- What a walk tells of the flags, word by word (VL86C010 data sheet, the condition field and the table of
-- instruction words).
use Rattle.std.specs.Prelude.{◌≡◌, Bool, true, false, ◌&&◌, List, All}
use Rattle.arm2_decode.specs.Conditions.{condition_holds}
use Rattle.arm2_decode.specs.Writers.{writes_pc}
use Rattle.arm2_decode.specs.declared.flags.Flags.{Flags}
use Rattle.arm2_decode.specs.declared.instr.Instr.{Instr}
use Rattle.arm2_decode.specs.declared.instr.Operation.{Operation}
use Rattle.arm2_decode.specs.declared.instr.Operation.TheVariants as operation
use Rattle.control_flow.specs.Edges.{HasAction}
use Rattle.control_flow.specs.Places.{place_address}
use Rattle.control_flow.specs.declared.actions.Action.{Action}
use Rattle.control_flow.specs.declared.edges.Edge.{Edge}
use Rattle.image.specs.Image.{Words}
use Rattle.text_explained.specs.Leaving.{is_done}
use Rattle.word_shapes.specs.Words.{HasInstr}
use Rattle.walk_contradictions.specs.declared.outcomes.Outcome.{Outcome}

-- the flags give the outcome
abbrev pub Gives : Flags → Outcome → Type 0
Gives flags outcome = condition_holds outcome.cond flags ≡ outcome.holds

-- no flags give both
abbrev pub Exclude : (one other : Outcome) → Type 0
Exclude one other = (flags : Flags) → Gives flags one → Gives flags other → ⊥

-- the operation may change a condition flag: with S, or where it loads R15 with the PSR
abbrev pub may_set_flags : Operation → Bool
may_set_flags (operation.Multiply x) = x.sets_flags
may_set_flags (operation.DataRegister x) = x.sets_flags
may_set_flags (operation.DataRegisterShift x) = x.sets_flags
may_set_flags (operation.DataImmediate x) = x.sets_flags
may_set_flags (operation.SingleImmediate x) = false
may_set_flags (operation.SingleRegister x) = false
may_set_flags (operation.Block x) = x.user && writes_pc (operation.Block x)
may_set_flags (operation.Branch x) = false
may_set_flags (operation.Swi x) = false
may_set_flags (operation.UndefinedTransfer x) = false
may_set_flags (operation.CoprocessorTransfer x) = false
may_set_flags (operation.Coprocessor x) = false

module _ (words : Words) where
  -- On the edge the condition of the image's word holds, where the word is carried out, or fails.
  pub record Tells (e : Edge) (outcome : Outcome) : Type 0 where
    pub action : Action
    pub has : HasAction words (place_address e.from) action
    pub cond : outcome.cond ≡ action.cond
    pub holds : outcome.holds ≡ is_done e.label

  -- on the edge the word is carried out and may set the flags
  pub record MaySet (e : Edge) : Type 0 where
    pub done : is_done e.label ≡ true
    pub instr : Instr
    pub has : HasInstr words (place_address e.from) instr
    pub sets : may_set_flags instr.operation ≡ true

  -- on none of the edges
  abbrev pub NoneSets : List Edge → Type 0
  NoneSets edges = All (λ (e : Edge). MaySet e → ⊥) edges

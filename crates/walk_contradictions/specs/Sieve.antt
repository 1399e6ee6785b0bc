-- Edges of a walk that take part in no contradiction, and what is left without them. No part of what is
-- reported: clauses of private functions cite these.
use Rattle.std.specs.Prelude.{◌≡◌, ◌⊎◌, true, List, [], ◌∷◌, ◌++◌, All}
use Rattle.arm2_decode.specs.declared.flags.Flags.{Flags}
use Rattle.arm2_decode.specs.declared.names.Cond.TheVariants.{Al}
use Rattle.control_flow.specs.declared.edges.Edge.{Edge}
use Rattle.image.specs.Image.{Words}
use Rattle.longest_walk.specs.Folded.{unfolded}
use Rattle.walk_contradictions.specs.Outcomes.{Gives, MaySet, Tells}
use Rattle.walk_contradictions.specs.declared.outcomes.Outcome.{Outcome}
use Rattle.walk_contradictions.specs.declared.sieve.Sieve.{Sieve}

module _ (words : Words) where
  -- its word is under AL and carried out, and does not set the flags
  pub record IsIdle (e : Edge) : Type 0 where
    pub tells : Tells words e (record { cond = Al; holds = true })
    pub leaves : MaySet words e → ⊥

  -- some flags give what it tells
  abbrev pub IsPossible : Edge → Type 0
  IsPossible e = (o : Outcome) → Tells words e o → (flags : Flags) × Gives flags o

  -- a walk without some of its idle edges
  abbrev pub IsLeft : (walk left : List Edge) → Type 0
  IsLeft [] left = left ≡ []
  IsLeft (e ∷ walk) left = (IsIdle e × IsLeft walk left) ⊎ ((rest : List Edge) × (left ≡ e ∷ rest) × IsLeft walk rest)

  -- of a walk
  pub record IsSieve (walk : List Edge) (sieve : Sieve) : Type 0 where
    pub left : IsLeft walk (unfolded sieve.items.items)
    pub possible : sieve.possible ≡ true → All IsPossible (unfolded sieve.items.items)

  -- with a walk more
  pub record Sifts (walk : List Edge) (old new : Sieve) : Type 0 where
    pub kept : List Edge
    pub left : IsLeft walk kept
    pub items : unfolded new.items.items ≡ unfolded old.items.items ++ kept
    pub possible : new.possible ≡ true → (old.possible ≡ true) × All IsPossible kept

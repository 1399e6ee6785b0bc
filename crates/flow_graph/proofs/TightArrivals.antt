-- Where a step arrives that takes an edge at its price, and what the jump there costs.
use Rattle.std.proofs.Common.{◌≡◌, ℕ, ◌+◌, Bool, true, false, cond, List, [], ◌∷◌, ◌++◌, length, nat_lt}
use Rattle.std.proofs.Common.{refl, sym, ap, subst, ◌∙◌, arith}
use Rattle.std.specs.Prelude.{Contains}
use Rattle.bus_ticks.specs.Dearest.{AreDearest}
use Rattle.bus_ticks.specs.declared.profile.Class.{Class}
use Rattle.bus_ticks.specs.declared.profile.Profile.{Profile}
use Rattle.bus_ticks.specs.declared.profile.RomTimes.{RomTimes}
use Rattle.bus_ticks.specs.Prices.{ahead_of, fetch_n, fetch_s}
use Rattle.arm2_effect.specs.ProgramCounter.{branch_target}
use Rattle.control_flow.specs.Edges.{arrival_ticks, jump_ticks, landings}
use Rattle.control_flow.specs.Kinds.{is_writer}
use Rattle.flow_graph.specs.StepLaw.{IsPlaceOf}
use Rattle.flow_graph.specs.TightWork.{IsDearestTarget}
use Rattle.control_flow.specs.declared.actions.Kind.{Kind}
use Rattle.control_flow.specs.declared.actions.Kind.TheVariants as kind
use Rattle.control_flow.specs.declared.places.Place.{Place}
use Rattle.control_flow.specs.declared.places.Place.TheVariants.{At}
use Rattle.statement.specs.Stated.{Stated}
use Rattle.control_flow.proofs.SortedLemmas.{no_member}
use Rattle.control_flow.proofs.LabelLemmas.{only_one}
use Rattle.flow_graph.proofs.StepTicks.{Reaches, jump_price}
use Rattle.flow_graph.proofs.TightTicks.{n_worst, s_worst}

called_place : (few : Bool) (p to : Place) → Contains (cond few (p ∷ []) []) to → p ≡ to
called_place true p to h = only_one p to h
called_place false p to h = absurd (no_member to h)

module _ (st : Stated) (p : Profile) (rom : RomTimes) (class : Class) (dear : AreDearest p rom)
    (calls : List ℕ) (a : ℕ) where
  -- the address is that of the place, and the jump there costs what the edge says
  pub record Arrives (k : Kind) (t : ℕ) (to : Place) : Type 0 where
    pub is_place : IsPlaceOf st.leave t to
    pub price : jump_price p rom class a k t ≡ arrival_ticks p st.leave k to

  jump_at : (inside : List ℕ) (x t : ℕ) → t ≡ x
      → fetch_n p t rom + fetch_s p (ahead_of t 4) rom ≡ jump_ticks p st.leave (At inside x)
  jump_at inside x t e =
      ap (λ y. fetch_n p y rom + fetch_s p (ahead_of y 4) rom) e
      ∙ omega (arith, n_worst p rom class a dear x, s_worst p rom class a dear (ahead_of x 4))

  pub arrives_exactly : (k : Kind) (t : ℕ) (to : Place) → Reaches p rom class a k t
      → (is_writer k ≡ true → IsDearestTarget st p to t) → Contains (landings st calls a k) to
      → Arrives k t to
  arrives_exactly kind.Plain t to e target lands =
      subst (Arrives kind.Plain t) (only_one _ to lands) (record { is_place = sym e; price = refl })
  arrives_exactly (kind.Branch offset) t to e target lands =
      subst (Arrives (kind.Branch offset) t) (only_one _ to lands)
      (record { is_place = sym e; price = jump_at calls (branch_target a offset) t e })
  arrives_exactly (kind.Call offset) t to e target lands =
      subst (Arrives (kind.Call offset) t) (called_place (nat_lt (length calls) 8) _ to lands)
      (record { is_place = sym e; price = jump_at (calls ++ a ∷ []) (branch_target a offset) t e })
  arrives_exactly kind.Writer t to e target lands =
      let is = target refl in
      record { is_place = is.is_place; price = is.price rom dear }
  arrives_exactly kind.Trap t to e target lands = absurd e
  arrives_exactly kind.Unallocated t to e target lands = absurd e

-- When words begin for the first time.
use Rattle.std.proofs.Common.{◌≡◌, ◌∙◌, ℕ, Bool, true, false, ◌||◌, List, [], ◌∷◌, ◌++◌, Option, Some, None, ⊎_elim, refl, sym, ap, subst}
use Rattle.std.specs.Prelude.{IfSome, ◌==◌, if◌then◌else◌, is_some}
use Rattle.std.specs.Borrow.{Bor}
use Rattle.std.specs.BTreeMap.{BTreeMap}
use Rattle.std.specs.List.{list_any}
use Rattle.std.specs.Option.{option_copied}
use Rattle.std.proofs.lemmas.Bool.{both_ways, cases_Bool, eq-eqb, eqb-true, false≢true}
use Rattle.std.proofs.lemmas.List.Folds.{list_any-append}
use Rattle.image.specs.Image.{Words}
use Rattle.statement.specs.Stated.{Stated, StatedLoops}
use Rattle.control_flow.specs.Flow.{Flow}
use Rattle.control_flow.specs.declared.edges.Edge.{Edge}
use Rattle.control_flow.specs.declared.places.Place.{Place}
use Rattle.control_flow.specs.declared.places.Place.TheVariants.{At, Exit}
use Rattle.flow_graph.specs.StepLaw.{RunLaw}
use Rattle.loop_bounds.specs.Bounds.{KeepsTheBounds}
use Rattle.loop_bounds.specs.Tree.{Tree}
use Rattle.longest_walk.specs.Longest.{KeepsTree}
use Rattle.responses.specs.Response.{IsWorstArrival}
use Rattle.text_explained.specs.Costing.{first_of}
use Rattle.text_explained.specs.Taken.{is_at, is_reached}
use Rattle.explain_reports.specs.FirstStarts.{AreAskedFirst, AreFirstStarts, map_of}
use Rattle.explain_reports.specs.RunTimes.{FirstBeginsWithin}
use Rattle.explain_reports.proofs.RunTimeLemmas.{first_within}

-- ## Runs

module _ (words : Words) (st : Stated) (flow : Flow) (tree : Tree) (law : RunLaw) (bounds : (walk : List Edge) → KeepsTree tree walk → KeepsTheBounds flow st.loops walk) where
  pub first_begins_within : (asked : Bool) (first : Option (ℕ → Option ℕ)) → AreAskedFirst flow st.loops asked first
      → IfSome first (λ starts. (a : ℕ) → is_reached flow.places a ≡ true → FirstBeginsWithin words st flow tree a (starts a))
  first_begins_within false None are = tt
  first_begins_within false (Some first) are = absurd (cc are)
  first_begins_within true None are = absurd are
  first_begins_within true (Some first) are = λ a known. first_within words st flow tree law bounds a (first a) (are.there a known)

-- ## By their map

pub by_ref : (first : Option (Bor (BTreeMap ℕ ℕ))) (starts : Option (BTreeMap ℕ ℕ)) → option_copied first ≡ starts → first_of first ≡ map_of starts
by_ref None starts is = ap map_of is
by_ref (Some first) starts is = ap map_of is

-- ## A place more

none_of : (o : Option ℕ) → is_some o ≡ false → o ≡ None
none_of None none = refl
none_of (Some n) none = absurd (false≢true (sym none))

module _ (flow : Flow) (loops : StatedLoops) (places : List Place) where
  module _ (place : Place) (a : ℕ) where
    apart_reached : is_at a place ≡ false → is_reached (places ++ place ∷ []) a ≡ is_reached places a
    apart_reached apart =
        list_any-append (is_at a) places (place ∷ [])
        ∙ ⊎_elim
        (λ (known : is_reached places a ≡ true). ap (λ b. b || list_any (is_at a) (place ∷ [])) known ∙ sym known)
        (λ (never : is_reached places a ≡ false). ap (λ b. b || list_any (is_at a) (place ∷ [])) never ∙ ap (λ b. b || false) apart ∙ sym never)
        (cases_Bool (is_reached places a))

    here_reached : is_at a place ≡ true → is_reached (places ++ place ∷ []) a ≡ true
    here_reached at =
        list_any-append (is_at a) places (place ∷ [])
        ∙ ⊎_elim
        (λ (known : is_reached places a ≡ true). ap (λ b. b || list_any (is_at a) (place ∷ [])) known)
        (λ (never : is_reached places a ≡ false). ap (λ b. b || list_any (is_at a) (place ∷ [])) never ∙ ap (λ b. b || false) at)
        (cases_Bool (is_reached places a))

  one_more : (place : Place) (old new : ℕ → Option ℕ) → AreFirstStarts flow loops places old → ((a : ℕ) → is_at a place ≡ true → IsWorstArrival flow loops a (new a))
      → ((a : ℕ) → is_at a place ≡ false → new a ≡ old a) → AreFirstStarts flow loops (places ++ place ∷ []) new
  one_more place old new before at_it kept = record {
    there = λ a known. ⊎_elim
        (λ at. at_it a at)
        (λ apart. subst (IsWorstArrival flow loops a) (sym (kept a apart)) (before.there a (sym (apart_reached place a apart) ∙ known)))
        (cases_Bool (is_at a place));
    elsewhere = λ a never. ⊎_elim
        (λ at. absurd (both_ways (is_reached (places ++ place ∷ []) a) never (here_reached place a at)))
        (λ apart. kept a apart ∙ before.elsewhere a (sym (apart_reached place a apart) ∙ never))
        (cases_Bool (is_at a place));
  }

  -- of a place at no address
  pub none_more : (place : Place) (first : ℕ → Option ℕ) → place ≡ Exit → AreFirstStarts flow loops places first → AreFirstStarts flow loops (places ++ place ∷ []) first
  none_more place first is before = one_more place first first before (λ a at. absurd (false≢true (sym (ap (is_at a) is) ∙ at))) (λ a apart. refl)

  module _ (calls : List ℕ) (b : ℕ) where
    by_address : (first : ℕ → Option ℕ) → IsWorstArrival flow loops b (first b) → (a : ℕ) → (b == a) ≡ true → IsWorstArrival flow loops a (first a)
    by_address first worst a at = subst (λ x. IsWorstArrival flow loops x (first x)) (eqb-true b a at) worst

    -- where another is at its address
    pub known_more : (first : ℕ → Option ℕ) → is_some (first b) ≡ true → AreFirstStarts flow loops places first → AreFirstStarts flow loops (places ++ At calls b ∷ []) first
    known_more first some before =
        let worst : IsWorstArrival flow loops b (first b) = ⊎_elim
        (λ known. before.there b known)
        (λ never. absurd (both_ways (is_some (first b)) (ap is_some (before.elsewhere b never)) some))
        (cases_Bool (is_reached places b)) in
        one_more (At calls b) first first before (by_address first worst) (λ a apart. refl)

    -- where no walk comes
    pub never_more : (first : ℕ → Option ℕ) → is_some (first b) ≡ false → IsWorstArrival flow loops b None → AreFirstStarts flow loops places first
        → AreFirstStarts flow loops (places ++ At calls b ∷ []) first
    never_more first none never before =
        one_more (At calls b) first first before (by_address first (subst (IsWorstArrival flow loops b) (sym (none_of (first b) none)) never)) (λ a apart. refl)

    pub start_more : (old new : ℕ → Option ℕ) (ticks : ℕ) → IsWorstArrival flow loops b (Some ticks) → ((a : ℕ) → new a ≡ (if b == a then Some ticks else old a))
        → AreFirstStarts flow loops places old → AreFirstStarts flow loops (places ++ At calls b ∷ []) new
    start_more old new ticks worst sets before =
        let own : new b ≡ Some ticks = sets b ∙ ap (λ c. if c then Some ticks else old b) (eq-eqb b b refl) in
        one_more (At calls b) old new before (by_address new (subst (IsWorstArrival flow loops b) (sym own) worst))
        (λ a apart. sets a ∙ ap (λ c. if c then Some ticks else old a) apart)

  -- the same of a place that is at the address
  module _ (calls : List ℕ) (b : ℕ) (place : Place) (is : place ≡ At calls b) where
    pub known_at : (first : ℕ → Option ℕ) → is_some (first b) ≡ true → AreFirstStarts flow loops places first → AreFirstStarts flow loops (places ++ place ∷ []) first
    known_at first some before = subst (λ (p : Place). AreFirstStarts flow loops (places ++ p ∷ []) first) (sym is) (known_more calls b first some before)

    pub never_at : (first : ℕ → Option ℕ) → is_some (first b) ≡ false → IsWorstArrival flow loops b None → AreFirstStarts flow loops places first
        → AreFirstStarts flow loops (places ++ place ∷ []) first
    never_at first none never before = subst (λ (p : Place). AreFirstStarts flow loops (places ++ p ∷ []) first) (sym is) (never_more calls b first none never before)

    pub start_at : (old new : ℕ → Option ℕ) (ticks : ℕ) → IsWorstArrival flow loops b (Some ticks) → ((a : ℕ) → new a ≡ (if b == a then Some ticks else old a))
        → AreFirstStarts flow loops places old → AreFirstStarts flow loops (places ++ place ∷ []) new
    start_at old new ticks worst sets before = subst (λ (p : Place). AreFirstStarts flow loops (places ++ p ∷ []) new) (sym is) (start_more calls b old new ticks worst sets before)

-- before any place
pub no_starts : (flow : Flow) (loops : StatedLoops) (first : ℕ → Option ℕ) → ((a : ℕ) → first a ≡ None) → AreFirstStarts flow loops [] first
no_starts flow loops first none = record { there = λ a known. absurd (false≢true known); elsewhere = λ a never. none a }

-- What prices take for granted.
use Rattle.std.proofs.Common.{◌≡◌, ◌∙◌, ℕ, ◌+◌, ◌<◌, ◌≤◌, Bool, true, false, ◌||◌, List, [], length, get_or, take, Option, Some, None, ⊎_elim, sym, ap}
use Rattle.std.specs.Prelude.{if◌then◌else◌}
use Rattle.std.proofs.lemmas.Bool.{cases_Bool, false≢true, or_parts}
use Rattle.std.proofs.lemmas.List.{take_all}
use Rattle.std.proofs.lemmas.List.Folds.{list_any_more}
use Rattle.control_flow.specs.Flow.{Flow}
use Rattle.control_flow.specs.declared.places.Place.{Place}
use Rattle.image.specs.Image.{Words}
use Rattle.statement.specs.Stated.{Stated}
use Rattle.text_explained.specs.Leaving.{is_left_on}
use Rattle.text_explained.specs.Pricing.{ArePriced}
use Rattle.text_explained.specs.PricingParts.{IsPricedBy, Prices}
use Rattle.text_explained.specs.Taken.{is_at, is_reached}
use Rattle.text_explained.specs.declared.leaving.EdgeKind.TheVariants.{LeadsOut}
use Rattle.text_explained.specs.declared.pricing.Pricing.{Pricing}

module _ (words : Words) (st : Stated) (leaving : ℕ → Bool) where
  -- it is said of the first places
  pub record ArePricedSoFar (places : List Place) (priced : ℕ → Option Pricing) : Type 0 where
    pub reached : (a : ℕ) → is_reached places a ≡ true → (p : Pricing) × (priced a ≡ Some p) × IsPricedBy words st leaving a p
    pub other : (a : ℕ) → is_reached places a ≡ false → priced a ≡ None

  pub none_priced : (priced : ℕ → Option Pricing) → ((a : ℕ) → priced a ≡ None) → ArePricedSoFar [] priced
  none_priced priced none = record { reached = λ a e. absurd (false≢true e); other = λ a e. none a }

  -- of one place more
  pub more_priced : (places : List Place) (k : ℕ) (d : Place) (old new : ℕ → Option Pricing) → k < length places → ArePricedSoFar (take k places) old
      → Prices words st leaving (get_or places k d) old new → ArePricedSoFar (take (k + 1) places) new
  more_priced places k d old new lt before one = record {
    reached = λ a known. ⊎_elim (one.here a)
        (λ apart.
        let w = before.reached a (or_first (is_reached (take k places) a) (is_at a (get_or places k d)) apart (sym (step a) ∙ known)) in
        (w.0, one.others a apart ∙ w.1, w.2))
        (cases_Bool (is_at a (get_or places k d)));
    other = λ a never.
        let parts = or_parts (is_reached (take k places) a) (is_at a (get_or places k d)) (sym (step a) ∙ never) in
        one.others a parts.1 ∙ before.other a parts.0;
  }
    where
      step : (a : ℕ) → is_reached (take (k + 1) places) a ≡ (is_reached (take k places) a || is_at a (get_or places k d))
      step a = list_any_more (is_at a) places k d lt

      or_first : (b c : Bool) → c ≡ false → (b || c) ≡ true → b ≡ true
      or_first true c apart e = e
      or_first false c apart e = absurd (false≢true (sym apart ∙ e))

  pub all_priced : (flow : Flow) (places : List Place) (k : ℕ) (priced : ℕ → Option Pricing) → places ≡ flow.places → length places ≤ k
      → ((a : ℕ) → leaving a ≡ is_left_on LeadsOut flow.edges a) → ArePricedSoFar (take k places) priced → ArePriced words st flow priced
  all_priced flow places k priced are le left so_far = record {
    reached = λ a known.
        let w = so_far.reached a (same a ∙ known) in
        (w.0, w.1, record { granted = w.2.granted; leave = w.2.leave ∙ ap (λ b. if b then Some st.leave else None) (left a) });
    other = λ a never. so_far.other a (same a ∙ never);
  }
    where
      same : (a : ℕ) → is_reached (take k places) a ≡ is_reached flow.places a
      same a = ap (λ (ps : List Place). is_reached ps a) (take_all k places le ∙ are)

-- How the words are counted that each rule covers. No part of what is reported: it is here since clauses of
-- private functions cite it.
use Rattle.std.specs.Prelude.{◌≡◌, ℕ, ◌+◌, ◌<◌, true, List, length, set, slice_index_or, Option, Some, None}
use Rattle.control_flow.specs.Flow.{Flow}
use Rattle.image.specs.Image.{Words}
use Rattle.statement.specs.Stated.{Stated}
use Rattle.statement.specs.declared.stated.BaseRule.{BaseRule}
use Rattle.text_explained.specs.Leaving.{is_carried_out}
use Rattle.text_explained.specs.Rules.{IsCovered, IsCoverage}

-- exactly the rule of that number covers the word at the address; none does where there is no number
pub record IsRuleOver (words : Words) (st : Stated) (a : ℕ) (rule : Option ℕ) : Type 0 where
  pub covers : (k : ℕ) → rule ≡ Some k
      → (k < length st.rules) × ((d : BaseRule) → IsCovered words st (slice_index_or st.rules k d) a)
  pub only : (k : ℕ) (d : BaseRule) → k < length st.rules
      → IsCovered words st (slice_index_or st.rules k d) a → rule ≡ Some k

-- one more at the number, if there is one
abbrev pub counted : List ℕ → Option ℕ → List ℕ
counted counts None = counts
counted counts (Some k) = set counts k (slice_index_or counts k 0 + 1)

-- of such words each rule covers as many as the list says
pub record AreCoverages (words : Words) (st : Stated) (IsOne : ℕ → Type 0) (counts : List ℕ) : Type 0 where
  pub each_has : length counts ≡ length st.rules
  pub each : (k : ℕ) (d : BaseRule) → k < length st.rules
      → IsCoverage words st IsOne (slice_index_or st.rules k d) (slice_index_or counts k 0)

-- of those that the graph carries out
abbrev pub AreDoneCoverages : Words → Stated → Flow → List ℕ → Type 0
AreDoneCoverages words st flow = AreCoverages words st (λ a. is_carried_out flow.edges a ≡ true)

-- Fifteen numbers one by one.
use Rattle.std.proofs.Common.{ℕ, ◌≡◌, ◌<◌, refl, subst, arith, List, [], ◌∷◌, length, take}
use Rattle.std.proofs.lemmas.List.{get_or-take, length-take}
use Rattle.std.proofs.lemmas.List.Elements.{All-get_or}
use Rattle.std.specs.Prelude.{slice_index}
use Rattle.bus_ticks.specs.Ranges.{IsPrice, AreInRange}

pub price_at : (numbers : List ℕ) (i : ℕ) → i < 14 → length numbers ≡ 15 → AreInRange numbers → IsPrice (slice_index numbers i)
price_at numbers i h whole in_range =
    let room : i < length (take 14 numbers) = omega (arith, length-take 14 numbers) in
    subst IsPrice (get_or-take 14 numbers i 0 h) (All-get_or IsPrice (take 14 numbers) i 0 room in_range.prices)

pub one_by_one : (xs : List ℕ) → length xs ≡ 15 → slice_index xs 0 ∷ slice_index xs 1 ∷ slice_index xs 2 ∷ slice_index xs 3 ∷ slice_index xs 4 ∷ slice_index xs 5 ∷ slice_index xs 6 ∷ slice_index xs 7 ∷ slice_index xs 8 ∷ slice_index xs 9 ∷ slice_index xs 10 ∷ slice_index xs 11 ∷ slice_index xs 12 ∷ slice_index xs 13 ∷ slice_index xs 14 ∷ [] ≡ xs
one_by_one (a ∷ b ∷ c ∷ d ∷ e ∷ f ∷ g ∷ h ∷ i ∷ j ∷ k ∷ l ∷ m ∷ n ∷ o ∷ []) whole = refl
one_by_one xs whole = absurd (omega (arith, whole))

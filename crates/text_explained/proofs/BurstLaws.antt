-- Bursts that come every so many ticks.
use Rattle.std.proofs.Common.{◌≡◌, ℕ, ◌+◌, ◌-◌, ◌*◌, ◌/◌, ◌%◌, ◌<◌, ◌≤◌, min, Some, None, arith, subst, ap, ⊎_elim}
use Rattle.std.proofs.lemmas.Bool.{cases_lt}
use Rattle.std.proofs.lemmas.Nat.{mul-le}
use Rattle.std.proofs.lemmas.Grind.{div_ceil_times}
use Rattle.std.specs.Int.{div_ceil}
use Rattle.text_explained.specs.Bursts.{AreEnough, AreFewest, IsBurstTime, with_bursts}

-- what is left of the ticks from one burst to the next, as often as the bursts come
left_over : (price left count : ℕ) → count * (price + left) ≡ count * price + count * left
left_over price left count = grind arith

-- as many as are left ticks for the bound, and not one fewer
enough_of : (price bound left count : ℕ) → bound ≤ count * left → count * left < bound + left
    → AreFewest price bound (price + left) (Some count)
enough_of price bound left count all few = (
  (let e = left_over price left count in let s : bound + count * price ≤ count * (price + left) = omega (arith, e, all) in s),
  λ other enough.
      let e = left_over price left other in
      let most : bound ≤ other * left = omega (arith, e, enough) in
      ⊎_elim
      (λ (lt : other < count).
      let more : (other + 1) * left ≤ count * left = mul-le (other + 1) left count left (omega (arith, lt)) (omega arith) in
      let one : (other + 1) * left ≡ other * left + left = grind arith in
      absurd (omega (arith, more, one, most, few)))
      (λ (le : count ≤ other). le)
      (cases_lt other count),
)

pub fewest : (price bound every : ℕ) → price < every
    → AreFewest price bound every (Some (bound / (every - price) + min 1 (bound % (every - price))))
fewest price bound every often =
    let left = every - price in
    let some = div_ceil_times bound left (omega (arith, often)) in
    let whole : price + left ≡ every = omega (arith, often) in
    subst (λ (n : ℕ). AreFewest price bound n (Some (bound / left + min 1 (bound % left)))) whole
    (enough_of price bound left (bound / left + min 1 (bound % left)) some.0 some.1)

-- each time that answers the equation has enough bursts
of_time : (price bound every ticks : ℕ) → 0 < every → IsBurstTime price bound every ticks
    → AreEnough price bound every (div_ceil ticks every)
of_time price bound every ticks some is =
    let all = (div_ceil_times ticks every some).0 in
    omega (arith, all, is)

pub least_time : (price bound every count : ℕ) → 0 < every → AreFewest price bound every (Some count)
    → IsBurstTime price bound every (with_bursts price bound count)
    × ((ticks : ℕ) → IsBurstTime price bound every ticks → with_bursts price bound count ≤ ticks)
least_time price bound every count some are = (
  (let ticks = with_bursts price bound count in
      let n = div_ceil ticks every in
      let ends = div_ceil_times ticks every some in
      let enough : bound + count * price ≤ count * every = are.0 in
      let one : (count + 1) * every ≡ count * every + every = grind arith in
      let below : n * every < (count + 1) * every = omega (arith, ends.1, one, enough) in
      let most : n ≤ count = ⊎_elim
      (λ (lt : n < count + 1). let le : n ≤ count = omega (arith, lt) in le)
      (λ (le : count + 1 ≤ n).
      let more : (count + 1) * every ≤ n * every = mul-le (count + 1) every n every le (omega arith) in
      absurd (omega (arith, more, below)))
      (cases_lt n (count + 1)) in
      let dear : n * price ≤ count * price = mul-le n price count price most (omega arith) in
      let few : AreEnough price bound every n = omega (arith, dear, ends.0) in
      let same : count ≡ n = omega (arith, most, are.1 n few) in
      ap (with_bursts price bound) same),
  λ ticks is.
      let n = div_ceil ticks every in
      let most = are.1 n (of_time price bound every ticks some is) in
      let dear : count * price ≤ n * price = mul-le count price n price most (omega arith) in
      omega (arith, dear, is),
)

pub no_time : (price bound every : ℕ) → 0 < every → AreFewest price bound every None
    → (ticks : ℕ) → IsBurstTime price bound every ticks → ⊥
no_time price bound every some none ticks is = none (div_ceil ticks every) (of_time price bound every ticks some is)

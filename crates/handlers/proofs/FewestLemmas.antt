-- The fewest visits that are enough, by the ticks that each leaves.
use Rattle.std.proofs.Common.{◌≡◌, ℕ, ◌+◌, ◌-◌, ◌*◌, ◌<◌, ◌≤◌, suc, Option, Some, None, ap, subst, arith}
use Rattle.std.proofs.Common.{⊎_elim}
use Rattle.std.proofs.lemmas.Bool.{cases_lt}
use Rattle.std.proofs.lemmas.Nat.{mul-le}
use Rattle.std.proofs.lemmas.Grind.{div_ceil_times}
use Rattle.std.specs.Int.{div_ceil}
use Rattle.bus_ticks.specs.Worst.{fiq_entry}
use Rattle.bus_ticks.specs.declared.profile.Profile.{Profile}
use Rattle.handlers.specs.Visits.{AreFewestVisits}

left_over : (price left count : ℕ) → count * (price + left) ≡ count * price + count * left
left_over price left count = grind arith

-- so many and more are enough
enough_more : (price bound every few more : ℕ) → 1 ≤ bound → bound + few * price ≤ few * every
    → bound + (few + more) * price ≤ (few + more) * every
enough_more price bound every few more some enough =
    let seldom : price ≤ every = ⊎_elim
    (λ (lt : every < price). let dear = mul-le few every few price (omega arith) (omega (arith, lt)) in absurd
    (omega (arith, some, enough, dear)))
    (λ (le : price ≤ every). le)
    (cases_lt every price) in
    let each : more * price ≤ more * every = mul-le more price more every (omega arith) seldom in
    let left : (few + more) * price ≡ few * price + more * price = grind arith in
    let right : (few + more) * every ≡ few * every + more * every = grind arith in
    omega (arith, enough, each, left, right)

-- where so many are not enough, more are
pub not_enough : (price bound every fewest n : ℕ) → 1 ≤ bound → bound + fewest * price ≤ fewest * every
    → n * every < bound + n * price → suc n ≤ fewest
not_enough price bound every fewest n some enough short = ⊎_elim
    (λ (lt : n < fewest). let le : suc n ≤ fewest = omega (arith, lt) in le)
    (λ (le : fewest ≤ n).
    let more = n - fewest in
    let whole : fewest + more ≡ n = omega (arith, le) in
    let all : bound + n * price ≤ n * every =
    subst (λ k. bound + k * price ≤ k * every) whole
    (enough_more price bound every fewest more some enough) in
    absurd (omega (arith, all, short)))
    (cases_lt n fewest)

module _ (profile : Profile) (irq fiq waited : ℕ) where
  abbrev price : ℕ
  price = fiq + fiq_entry profile

  -- as many as leave ticks for the bound, and not one fewer
  are_fewest : (left count : ℕ) → irq + waited ≤ count * left → count * left < irq + waited + left
      → AreFewestVisits profile irq fiq (price + left) waited (Some count)
  are_fewest left count all few = (
    (let e = left_over price left count in let s :
        irq + count * price + waited ≤ count * (price + left) = omega (arith, e, all) in s),
    λ other enough.
        let e = left_over price left other in
        let most : irq + waited ≤ other * left = omega (arith, e, enough) in
        ⊎_elim
        (λ (lt : other < count).
        let more : (other + 1) * left ≤ count * left =
        mul-le (other + 1) left count left (omega (arith, lt)) (omega arith) in
        let one : (other + 1) * left ≡ other * left + left = grind arith in
        absurd (omega (arith, more, one, most, few)))
        (λ (le : count ≤ other). le)
        (cases_lt other count),
  )

  pub fewest : (every left : ℕ) → price < every → left ≡ every - price
      → AreFewestVisits profile irq fiq every waited (Some (div_ceil (irq + waited) left))
  fewest every left often is =
      let some = div_ceil_times (irq + waited) left (omega (arith, often, is)) in
      let whole : price + left ≡ every = omega (arith, often, is) in
      subst (λ (n : ℕ). AreFewestVisits profile irq fiq n waited (Some (div_ceil (irq + waited) left))) whole
      (are_fewest left (div_ceil (irq + waited) left) some.0 some.1)

-- there is one least number
pub one_fewest : (profile : Profile) (irq fiq every waited : ℕ) (visits : Option ℕ) (k : ℕ)
    → AreFewestVisits profile irq fiq every waited visits
    → AreFewestVisits profile irq fiq every waited (Some k) → visits ≡ Some k
one_fewest profile irq fiq every waited None k are is = absurd (are k is.0)
one_fewest profile irq fiq every waited (Some n) k are is =
    let le = are.1 k is.0 in
    let ge = is.1 n are.0 in
    let same : n ≡ k = omega (arith, le, ge) in
    ap Some same

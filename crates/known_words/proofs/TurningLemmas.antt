-- What the turns of loops add to sums.
use Rattle.std.proofs.Common.{◌≡◌, ℕ, ◌+◌, ◌*◌, ◌%◌, ◌^◌, List, sym, ap, ◌∙◌, arith}
use Rattle.std.proofs.Math.Nat.{mul-add}
use Rattle.std.specs.Prelude.{slice_index}
use Rattle.known_words.specs.Known.{IsSum, start_in, turned}
use Rattle.known_words.specs.declared.words.Start.{Start}
use Rattle.known_words.specs.declared.words.Start.TheVariants.{Zero}
use Rattle.known_words.specs.declared.words.Steps.{Steps}
use Rattle.known_words.specs.declared.words.Sum.{Sum}

pub stays_added : (step before after : ℕ) → after ≡ before → 0 + step * before ≡ step * after
stays_added step before after is =
    let same : step * before ≡ step * after = ap (λ n. step * n) (sym is) in
    omega (arith, same)

pub again_added : (step before after : ℕ) → after ≡ before + 1 → step + step * before ≡ step * after
again_added step before after is =
    let same : step * after ≡ step * (before + 1) = ap (λ n. step * n) is in
    let more : step * (before + 1) ≡ step * before + step * 1 = mul-add step before 1 in
    omega (arith, same, more)

pub begins_added : (step before after : ℕ) → after ≡ 0 → 0 + 0 * before ≡ step * after
begins_added step before after is =
    let same : step * after ≡ step * 0 = ap (λ n. step * n) is in
    omega (arith, same)

pub sum_becomes : (entry before after : List ℕ) (sum next : Sum) (word a b c d : ℕ) → sum.start ≡ next.start
    → sum.width ≡ next.width → sum.least ≡ (next.least + a + b + c + d) % 2 ^ 32
    → a + sum.steps.outermost * slice_index before 0 ≡ next.steps.outermost * slice_index after 0
    → b + sum.steps.second * slice_index before 1 ≡ next.steps.second * slice_index after 1
    → c + sum.steps.third * slice_index before 2 ≡ next.steps.third * slice_index after 2
    → d + sum.steps.fourth * slice_index before 3 ≡ next.steps.fourth * slice_index after 3
    → IsSum entry before sum word → IsSum entry after next word
sum_becomes entry before after sum next word a b c d start width least first second third fourth p =
    let own = p.is in
    let few = p.within in
    let starts : start_in sum.start entry ≡ start_in next.start entry = ap (λ (s : Start). start_in s entry) start in
    record {
      more = p.more;
      within = omega (arith, few, width);
      is = omega (arith, own, starts, least, first, second, third, fourth);
    }

none_of : (step turns : ℕ) → step ≡ 0 → step * turns ≡ 0
none_of step turns is =
    let none : step * turns ≡ 0 * turns = ap (λ k. k * turns) is in
    omega (arith, none)

pub outermost_moves : (steps : Steps) (turns : List ℕ) → (steps.second ≡ 0) × (steps.third ≡ 0) × (steps.fourth ≡ 0)
    → turned steps turns ≡ steps.outermost * slice_index turns 0
outermost_moves steps turns zero =
    let a = none_of steps.second (slice_index turns 1) zero.0 in
    let b = none_of steps.third (slice_index turns 2) zero.1 in
    let c = none_of steps.fourth (slice_index turns 3) zero.2 in
    omega (arith, a, b, c)

pub second_moves : (steps : Steps) (turns : List ℕ) → (steps.outermost ≡ 0) × (steps.third ≡ 0) × (steps.fourth ≡ 0)
    → turned steps turns ≡ steps.second * slice_index turns 1
second_moves steps turns zero =
    let a = none_of steps.outermost (slice_index turns 0) zero.0 in
    let b = none_of steps.third (slice_index turns 2) zero.1 in
    let c = none_of steps.fourth (slice_index turns 3) zero.2 in
    omega (arith, a, b, c)

pub third_moves : (steps : Steps) (turns : List ℕ) → (steps.outermost ≡ 0) × (steps.second ≡ 0) × (steps.fourth ≡ 0)
    → turned steps turns ≡ steps.third * slice_index turns 2
third_moves steps turns zero =
    let a = none_of steps.outermost (slice_index turns 0) zero.0 in
    let b = none_of steps.second (slice_index turns 1) zero.1 in
    let c = none_of steps.fourth (slice_index turns 3) zero.2 in
    omega (arith, a, b, c)

pub fourth_moves : (steps : Steps) (turns : List ℕ) → (steps.outermost ≡ 0) × (steps.second ≡ 0) × (steps.third ≡ 0)
    → turned steps turns ≡ steps.fourth * slice_index turns 3
fourth_moves steps turns zero =
    let a = none_of steps.outermost (slice_index turns 0) zero.0 in
    let b = none_of steps.second (slice_index turns 1) zero.1 in
    let c = none_of steps.third (slice_index turns 2) zero.2 in
    omega (arith, a, b, c)

-- the word of a sum that is counted from 0, where only one loop moves it
pub word_at : (entry turns : List ℕ) (sum : Sum) (word step times count least : ℕ) → sum.start ≡ Zero
    → turned sum.steps turns ≡ step * times → times ≡ count → least ≡ (sum.least + step * count) % 2 ^ 32
    → (p : IsSum entry turns sum word) → word ≡ (least + p.more) % 2 ^ 32
word_at entry turns sum word step times count least start moves at is p =
    let own = p.is in
    let starts : start_in sum.start entry ≡ 0 = ap (λ (s : Start). start_in s entry) start in
    let same : step * times ≡ step * count = ap (λ n. step * n) at in
    omega (arith, own, starts, moves, same, is)

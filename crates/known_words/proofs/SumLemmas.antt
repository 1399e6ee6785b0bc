-- Sums of what is known, on 32 bits.
use Rattle.std.proofs.Common.{◌≡◌, ℕ, ◌+◌, ◌*◌, ◌/◌, ◌%◌, ◌^◌, ◌<◌, ◌-◌, List, sym, ap, ◌∙◌, arith}
use Rattle.std.proofs.Math.Nat.{add-mul, mul_assoc}
use Rattle.std.specs.Prelude.{slice_index}
use Rattle.known_words.specs.Known.{IsSum, start_in}
use Rattle.known_words.specs.Sums.{AddsSteps, SubtractsSteps}
use Rattle.known_words.specs.declared.words.Steps.{Steps}
use Rattle.known_words.specs.declared.words.Sum.{Sum}

-- a number times another, and the word that is its rest
rest_times : (n k : ℕ) → n * k ≡ 2 ^ 32 * (n / 2 ^ 32 * k) + n % 2 ^ 32 * k
rest_times n k =
    let split : n ≡ 2 ^ 32 * (n / 2 ^ 32) + n % 2 ^ 32 = omega arith in
    ap (λ m. m * k) split ∙ add-mul (2 ^ 32 * (n / 2 ^ 32)) (n % 2 ^ 32) k
    ∙ ap (λ m. m + n % 2 ^ 32 * k) (mul_assoc (2 ^ 32) (n / 2 ^ 32) k)

step_added : (a b t : ℕ) → a * t + b * t ≡ 2 ^ 32 * ((a + b) / 2 ^ 32 * t) + (a + b) % 2 ^ 32 * t
step_added a b t = sym (add-mul a b t) ∙ rest_times (a + b) t

pub steps_added : (a b c : Steps) → c.outermost ≡ (a.outermost + b.outermost) % 2 ^ 32
    → c.second ≡ (a.second + b.second) % 2 ^ 32 → c.third ≡ (a.third + b.third) % 2 ^ 32
    → c.fourth ≡ (a.fourth + b.fourth) % 2 ^ 32 → AddsSteps a b c
steps_added a b c e f g h turns =
    let first = step_added a.outermost b.outermost (slice_index turns 0) in
    let second = step_added a.second b.second (slice_index turns 1) in
    let third = step_added a.third b.third (slice_index turns 2) in
    let fourth = step_added a.fourth b.fourth (slice_index turns 3) in
    rw (e, f, g, h) (omega (arith, first, second, third, fourth))

pub difference_times : (first second times : ℕ) → second < 2 ^ 32
    → ((first + (2 ^ 32 - second)) % 2 ^ 32 * times + second * times) % 2 ^ 32 ≡ first * times % 2 ^ 32
difference_times first second times below =
    let all : first + (2 ^ 32 - second) + second ≡ first + 2 ^ 32 = omega (arith, below) in
    let product = ap (λ m. m * times) all in
    let left = add-mul (first + (2 ^ 32 - second)) second times in
    let right = add-mul first (2 ^ 32) times in
    let rest = rest_times (first + (2 ^ 32 - second)) times in
    omega (arith, product, left, right, rest)

module _ (entry turns : List ℕ) (a b c : Sum) (x y : ℕ) where
  pub sums : (start_in c.start entry ≡ start_in a.start entry + start_in b.start entry)
      → c.least ≡ (a.least + b.least) % 2 ^ 32 → c.width ≡ a.width + b.width → AddsSteps a.steps b.steps c.steps
      → IsSum entry turns a x → IsSum entry turns b y → IsSum entry turns c ((x + y) % 2 ^ 32)
  sums starts least width steps p q =
      let same = steps turns in
      let few = p.within in
      let less = q.within in
      let left = p.is in
      let right = q.is in
      record {
        more = p.more + q.more;
        within = omega (arith, few, less, width);
        is = omega (arith, left, right, same, starts, least);
      }

  pub differences : (start_in c.start entry ≡ start_in a.start entry) → (start_in b.start entry ≡ 0)
      → (c.least + b.width + b.least) % 2 ^ 32 ≡ a.least % 2 ^ 32 → c.width ≡ a.width + b.width
      → SubtractsSteps a.steps b.steps c.steps
      → IsSum entry turns a x → IsSum entry turns b y → IsSum entry turns c ((x + 2 ^ 32 - y) % 2 ^ 32)
  differences starts zero least width steps p q =
      let same = steps turns in
      let few = p.within in
      let less = q.within in
      let left = p.is in
      let right = q.is in
      record {
        more = p.more + (b.width - q.more);
        within = omega (arith, few, less, width);
        is = omega (arith, left, right, same, starts, zero, least, less);
      }

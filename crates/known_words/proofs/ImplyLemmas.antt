-- Sums and ranges that hold what others hold.
use Rattle.std.proofs.Common.{◌≡◌, ℕ, ◌+◌, ◌-◌, ◌%◌, ◌^◌, ◌<◌, ◌≤◌, List, ap, ◌∙◌, arith}
use Rattle.known_words.specs.Implying.{IsCounted, IsSumOf}
use Rattle.known_words.specs.Known.{start_in, turned}
use Rattle.known_words.specs.declared.words.Range.{Range}
use Rattle.known_words.specs.declared.words.Start.TheVariants.{Zero}
use Rattle.known_words.specs.declared.words.Steps.{Steps}
use Rattle.known_words.specs.declared.words.Sum.{Sum}

abbrev no_steps : Steps
no_steps = record { outermost = 0; second = 0; third = 0; fourth = 0 }

pub counted : (range : Range) (sum : Sum) → sum.start ≡ Zero → sum.steps ≡ no_steps → sum.least + sum.width < 2 ^ 32
    → sum.least ≤ range.low → range.high ≤ sum.least + sum.width → IsCounted range sum
counted range sum start steps fits low high entry turns word (from, upto) =
    record {
      more = word - sum.least;
      within = omega (arith, from, upto, low, high);
      is = rw (start, steps) (omega (arith, from, upto, fits, low, high));
    }

moved : (a b c m n t : ℕ) → b ≡ c + n → a + b + m + t ≡ a + c + (n + m) + t
moved a b c m n t e = omega (arith, e)

pub sum_within : (sum other : Sum) (more : ℕ) → other.start ≡ sum.start → other.steps ≡ sum.steps
    → sum.least ≡ other.least + more → more + sum.width ≤ other.width → IsSumOf sum other
sum_within sum other more start steps least fits entry turns word p =
    record {
      more = more + p.more;
      within = let own = p.within in omega (arith, own, fits);
      is = rw (start, steps)
          (p.is ∙ ap (λ n. n % 2 ^ 32) (moved (start_in sum.start entry) sum.least other.least p.more more (turned sum.steps turns) least));
    }

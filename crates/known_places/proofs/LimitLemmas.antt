-- What the bounds of loops say of known words.
use Rattle.std.proofs.Common.{◌≡◌, ℕ, ◌+◌, ◌*◌, ◌%◌, ◌^◌, ◌≤◌, ◌<◌, ⊎_elim, List, length, Option, Some, None, sym, ap, subst, arith}
use Rattle.std.proofs.Math.Nat.{add-mul}
use Rattle.std.specs.Option.{SomeIff}
use Rattle.std.specs.Prelude.{Contains, IfSome, slice_index}
use Rattle.std.proofs.lemmas.List.{get_or_default}
use Rattle.std.proofs.lemmas.Bool.{cases_lt}
use Rattle.std.proofs.lemmas.Nat.{mul-le}
use Rattle.walks.proofs.Segments.{tail-le-most}
use Rattle.numbered_walks.specs.Index.{span_at}
use Rattle.numbered_walks.specs.Ordered.{ends_at_header, is_inside}
use Rattle.numbered_walks.specs.Reach.{most_in}
use Rattle.numbered_walks.specs.declared.span.NumberedEdge.{NumberedEdge}
use Rattle.numbered_walks.specs.declared.span.Span.{Span}
use Rattle.numbered_walks.proofs.Members.{no_span}
use Rattle.walk_counts.specs.Spans.{turns_at_end}
use Rattle.known_words.specs.Known.{turned}
use Rattle.known_words.specs.declared.words.Steps.{Steps}
use Rattle.known_places.specs.Around.{turns_of}
use Rattle.known_places.specs.Limits.{AreWithin, KeepsSpans, Lowers}
use Rattle.known_places.specs.declared.limits.Limits.{Limits}

-- the last stay in a span turns no more often than any
pub within_bound : (spans : List Span) (counted : Option ℕ) (number : ℕ) (walk : List NumberedEdge) → counted ≡ Some number
    → number < length spans → KeepsSpans spans walk → turns_of spans counted walk ≤ (span_at spans number).bound
within_bound spans counted number walk is low keeps =
    let s : Span = span_at spans number in
    let kept : most_in s walk ≤ s.bound = keeps s (number, low, get_or_default spans number s no_span low) in
    let few : turns_at_end s walk ≤ most_in s walk = tail-le-most (is_inside s) (ends_at_header s) walk in
    let all : turns_of spans (Some number) walk ≤ s.bound = omega (arith, kept, few) in
    subst (λ o. turns_of spans o walk ≤ (span_at spans number).bound) (sym is) all

pub turned_most : (steps : Steps) (limits : Limits) (turns : List ℕ) (a b c d most : ℕ) → a ≡ steps.outermost * limits.outermost
    → b ≡ steps.second * limits.second → c ≡ steps.third * limits.third → d ≡ steps.fourth * limits.fourth → most ≡ a + b + c + d
    → AreWithin limits turns → turned steps turns ≤ most
turned_most steps limits turns a b c d most first second third fourth sum w =
    let p = mul-le steps.outermost (slice_index turns 0) steps.outermost limits.outermost (omega arith) w.outermost in
    let q = mul-le steps.second (slice_index turns 1) steps.second limits.second (omega arith) w.second in
    let r = mul-le steps.third (slice_index turns 2) steps.third limits.third (omega arith) w.third in
    let s = mul-le steps.fourth (slice_index turns 3) steps.fourth limits.fourth (omega arith) w.fourth in
    omega (arith, p, q, r, s, first, second, third, fourth, sum)

-- ## Words that fall

lowered : (step k limit turn : ℕ) → step < 2 ^ 32 → k < 2 ^ 32 → (k + step) % 2 ^ 32 ≡ 0 → turn ≤ limit → Lowers (step * turn) (k * limit)
lowered step k limit turn fits k_fits is few =
    let less : k * turn ≤ k * limit = mul-le k turn k limit (omega arith) few in
    let both : (k + step) * turn ≡ k * turn + step * turn = add-mul k step turn in
    ⊎_elim
    (λ (none : k + step < 1).
    let zero : (k + step) * turn ≡ 0 * turn = ap (λ n. n * turn) (omega (arith, none)) in
    record { down = k * turn; times = 0; within = less; is = omega (arith, both, zero) })
    (λ (some : 1 ≤ k + step).
    let full : (k + step) * turn ≡ 2 ^ 32 * turn = ap (λ n. n * turn) (omega (arith, some, is, fits, k_fits)) in
    record { down = k * turn; times = turn; within = less; is = omega (arith, both, full) })
    (cases_lt (k + step) 1)

-- the most, where it is a word
pub lowered_most : (step k limit : ℕ) (found : Option ℕ) → step < 2 ^ 32 → k < 2 ^ 32 → (k + step) % 2 ^ 32 ≡ 0
    → SomeIff found (k * limit < 2 ^ 32) (k * limit) → IfSome found (λ most. (turn : ℕ) → turn ≤ limit → Lowers (step * turn) most)
lowered_most step k limit None fits k_fits is found = tt
lowered_most step k limit (Some most) fits k_fits is found =
    λ turn few. subst (Lowers (step * turn)) (sym found.1) (lowered step k limit turn fits k_fits is few)

pub four_lowered : (steps : Steps) (limits : Limits) (turns : List ℕ) (a b c d most : ℕ)
    → ((turn : ℕ) → turn ≤ limits.outermost → Lowers (steps.outermost * turn) a)
    → ((turn : ℕ) → turn ≤ limits.second → Lowers (steps.second * turn) b)
    → ((turn : ℕ) → turn ≤ limits.third → Lowers (steps.third * turn) c)
    → ((turn : ℕ) → turn ≤ limits.fourth → Lowers (steps.fourth * turn) d)
    → most ≡ a + b + c + d → AreWithin limits turns → Lowers (turned steps turns) most
four_lowered steps limits turns a b c d most first second third fourth sum w =
    let p = first (slice_index turns 0) w.outermost in
    let q = second (slice_index turns 1) w.second in
    let r = third (slice_index turns 2) w.third in
    let s = fourth (slice_index turns 3) w.fourth in
    let p_in = p.within in
    let q_in = q.within in
    let r_in = r.within in
    let s_in = s.within in
    let p_is = p.is in
    let q_is = q.is in
    let r_is = r.is in
    let s_is = s.is in
    record {
      down = p.down + q.down + r.down + s.down;
      times = p.times + q.times + r.times + s.times;
      within = omega (arith, p_in, q_in, r_in, s_in, sum);
      is = omega (arith, p_is, q_is, r_is, s_is);
    }

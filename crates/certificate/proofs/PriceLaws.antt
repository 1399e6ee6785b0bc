-- The numbers of a profile, spelled word by word.
use Rattle.std.proofs.Common.{◌≡◌, ◌∙◌, ℕ, suc, ◌+◌, ◌<◌, ◌↔◌, List, [], ◌∷◌, ◌++◌, length, map, take, set, get_or, All, Result, Err, refl, sym, ap, subst, arith, length-append, length-take, length-set, take_all, take-suc, take-suc-set}
use Rattle.std.specs.Fmt.{decimal}
use Rattle.std.specs.List.{AllByRecursion, join_with_byte}
use Rattle.std.proofs.lemmas.List.Elements.{All-push, All-weaker, recursion_from_All}
use Rattle.std.specs.Str.Iter.{LacksByte}
use Rattle.bus_ticks.specs.declared.profile.Profile.{Profile}
use Rattle.bus_ticks.specs.declared.profile.NumbersFault.{NumbersFault}
use Rattle.bus_ticks.specs.declared.profile.NumbersFault.TheVariants.{Disordered, OutOfRange}
use Rattle.bus_ticks.specs.Ranges.{AreInRange, AreOrdered, IsPrice}
use Rattle.certificate.specs.Words.{IsProfile}
use Rattle.certificate.proofs.CallLaws.{Ahead, last_word}
use Rattle.certificate.proofs.FieldLaws.{decimal-blank}
use Rattle.certificate.proofs.JoinLaws.{map_one, one_join}
use Rattle.certificate.proofs.NumberLaws.{decimal_is_one}

abbrev pub AreSmall : List ℕ → Type 0
AreSmall numbers = All (λ n. n < 256) numbers

pub prices_start : (words numbers : List ℕ) → length numbers ≡ 15 → words ≡ join_with_byte 32 (map decimal numbers) → Ahead 32 decimal numbers [] words
prices_start words [] n e = absurd (omega (arith, n))
prices_start words (x ∷ numbers) n e = record { first = x; left = numbers; all_are = refl; words_are = e }

inside : (before : List ℕ) (x : ℕ) (left : List ℕ) → AllByRecursion (λ n. n < 256) (before ++ x ∷ left) → x < 256
inside [] x left small = small.0
inside (b ∷ before) x left small = inside before x left small.1

pub first_small : (all read words : List ℕ) (ahead : Ahead 32 decimal all read words) → AreSmall all → ahead.first < 256
first_small all read words ahead small = inside read ahead.first ahead.left (subst (AllByRecursion (λ n. n < 256)) ahead.all_are (recursion_from_All _ all small))

count : (all read words : List ℕ) (ahead : Ahead 32 decimal all read words) → length all ≡ length read + suc (length ahead.left)
count all read words ahead = ap length ahead.all_are ∙ length-append read (ahead.first ∷ ahead.left)

-- before the last there is a blank
pub some_blank : (all prices words : List ℕ) (i : ℕ) → Ahead 32 decimal all (take i prices) words → length all ≡ 15 → i < 14 → LacksByte 32 words → ⊥
some_blank all prices words i ahead whole few lacks =
    let last = (last_word 32 decimal all (take i prices) words ahead lacks).1 in
    let long : length all ≡ length (take i prices) + 1 = ap length last ∙ length-append (take i prices) (ahead.first ∷ []) in
    absurd (omega (arith, long, whole, few, length-take i prices))

-- the fifteenth is the last
pub last_price : (all prices words : List ℕ) (i : ℕ) (ahead : Ahead 32 decimal all (take i prices) words) → length all ≡ 15 → length prices ≡ 15 → i ≡ 14 → words ≡ decimal ahead.first
last_price all prices words i ahead whole full is =
    let none : length ahead.left ≡ 0 = omega (arith, count all (take i prices) words ahead, whole, full, is, length-take i prices) in
    by ahead.left none ahead.words_are
  where
    by : (left : List ℕ) → length left ≡ 0 → words ≡ join_with_byte 32 (decimal ahead.first ∷ map decimal left) → words ≡ decimal ahead.first
    by [] n e = e
    by (x ∷ left) n e = absurd (omega (arith, n))

-- a number more
pub price_put : (prices : List ℕ) (i v : ℕ) → i < length prices → take (i + 1) (set prices i v) ≡ take i prices ++ v ∷ []
price_put prices i v lt = ap (λ (k : ℕ). take k (set prices i v)) {x = i + 1} {y = suc i} (omega arith) ∙ take-suc-set prices i v lt

pub price_last : (prices : List ℕ) (v : ℕ) → length prices ≡ 15 → set prices 14 v ≡ take 14 prices ++ v ∷ []
price_last prices v full =
    sym (take_all 15 (set prices 14 v) (omega (arith, full, length-set prices 14 v))) ∙ price_put prices 14 v (omega (arith, full))

-- ## One reading

all_lack : (ns : List ℕ) → AllByRecursion (λ n. n < 256) ns → AllByRecursion (LacksByte 32) (map decimal ns)
all_lack [] small = tt
all_lack (n ∷ ns) small = (decimal-blank n (omega (arith, small.0)), all_lack ns small.1)

pub one_prices : (ms ns : List ℕ) → length ms ≡ 15 → length ns ≡ 15 → AreSmall ms → AreSmall ns → join_with_byte 32 (map decimal ms) ≡ join_with_byte 32 (map decimal ns) → ms ≡ ns
one_prices [] ns p q f g e = absurd (omega (arith, p))
one_prices (m ∷ ms) [] p q f g e = absurd (omega (arith, q))
one_prices (m ∷ ms) (n ∷ ns) p q f g e =
    let a = recursion_from_All _ (m ∷ ms) f in
    let b = recursion_from_All _ (n ∷ ns) g in
    map_one (λ k. k < 256) decimal (λ k j f g. decimal_is_one k j (omega (arith, f)) (omega (arith, g))) (m ∷ ms) (n ∷ ns) a b (one_join 32 (decimal m) (decimal n) (map decimal ms) (map decimal ns) (all_lack (m ∷ ms) a) (all_lack (n ∷ ns) b) e)

-- the numbers of a profile are small
pub profile_small : (ns : List ℕ) → IsProfile ns → AreSmall ns
profile_small ns is =
    let put : ns ≡ take 14 ns ++ get_or ns 14 0 ∷ [] = sym (take_all 15 ns (omega (arith, is.whole))) ∙ take-suc ns 14 0 (omega (arith, is.whole)) in
    subst AreSmall (sym put) (All-push (λ n. n < 256) (take 14 ns) (get_or ns 14 0) (All-weaker IsPrice (λ n. n < 256) (λ n p. p.1) (take 14 ns) is.ranges.prices) is.ranges.burst)

-- a profile is made of them
pub profile_made : (r : Result Profile NumbersFault) (f : NumbersFault) (ns : List ℕ) → r ≡ Err f → ((r ≡ Err OutOfRange) ↔ (AreInRange ns → ⊥)) → ((r ≡ Err Disordered) ↔ (AreInRange ns × (AreOrdered ns → ⊥))) → IsProfile ns → ⊥
profile_made r OutOfRange ns is out dis made = out.0 is made.ranges
profile_made r Disordered ns is out dis made = (dis.0 is).1 made.ordered

-- How the accesses of a base and a class are counted.
use Rattle.std.proofs.Common.{◌≡◌, ◌≢◌, ◌∙◌, ℕ, zero, suc, ◌+◌, ◌*◌, ◌<◌, ◌≤◌, ◌^◌, Bool, true, false, List, [], ◌∷◌, ◌++◌, length, length-append, get_or, set, take, replicate, ◌⊎◌, cond, Option, Some, None, inl, inr, ⊎_elim, refl, sym, ap, subst, arith}
use Rattle.std.specs.Prelude.{◌&&◌, ◌==◌, filter, if◌then◌else◌}
use Rattle.std.specs.List.{slice_get}
use Rattle.std.proofs.lemmas.Bool.{cases_Bool, cases_eq, cases_lt, false≢true}
use Rattle.std.proofs.lemmas.List.{get_or-replicate, get_or-set_other, get_or-set_same, get_or_past, length-replicate, length-set, length-take-le, take_all}
use Rattle.std.proofs.lemmas.List.Elements.{filter_more}
use Rattle.std.proofs.lemmas.List.Sums.{count_by-le-length, length-filter}
use Rattle.arm2_decode.specs.Names.{is_same, register_number}
use Rattle.arm2_decode.specs.declared.names.Register.{Register}
use Rattle.bus_ticks.specs.declared.profile.Class.{Class}
use Rattle.bus_ticks.specs.declared.profile.Class.TheVariants.{Ram, Rom, Io, Any, Slow, Medium, Fast, Synchronous}
use Rattle.text_draft.specs.Rules.{class_number, count, has_both, is_same_class, of_both, IsMostFrequent}
use Rattle.text_draft.specs.Tallies.{AreTallies, Leads, counted, none, place_of, tally_of}
use Rattle.text_draft.specs.declared.accesses.FoundAccess.{FoundAccess}
use Rattle.text_draft.specs.declared.tallies.Tally.{Tally}

-- ## Places

pub class_small : (class : Class) → class_number class < 8
class_small Ram = omega arith
class_small Rom = omega arith
class_small Io = omega arith
class_small Any = omega arith
class_small Slow = omega arith
class_small Medium = omega arith
class_small Fast = omega arith
class_small Synchronous = omega arith

tests : (p q : Bool) → (p && q) ≡ true → (p ≡ true) × (q ≡ true)
tests true true is = (refl, refl)
tests true false is = absurd (false≢true is)
tests false q is = absurd (false≢true is)

both_tests : (p q : Bool) → p ≡ true → q ≡ true → (p && q) ≡ true
both_tests p q h k = rw (h, k) refl

same : (m n : ℕ) → (m == n) ≡ true → m ≡ n
same m n is = grind arith

test : (m n : ℕ) → m ≡ n → (m == n) ≡ true
test m n is = grind arith

-- an access has a base and a class exactly where its place is theirs
pub at_place : (register : Register) (class : Class) (e : FoundAccess) → has_both register class e ≡ true → place_of register class ≡ place_of e.base e.class
at_place register class e is =
    let parts = tests (is_same register e.base) (is_same_class class e.class) is in
    let r = same (register_number register) (register_number e.base) parts.0 in
    let k = same (class_number class) (class_number e.class) parts.1 in
    omega (arith, r, k)

pub beside_place : (register : Register) (class : Class) (e : FoundAccess) → has_both register class e ≡ false → place_of e.base e.class ≢ place_of register class
beside_place register class e is = λ at.
    let a = class_small class in
    let b = class_small e.class in
    let r : register_number register ≡ register_number e.base = omega (arith, a, b, at) in
    let k : class_number class ≡ class_number e.class = omega (arith, a, b, at) in
    false≢true (sym is ∙ both_tests (is_same register e.base) (is_same_class class e.class) (test (register_number register) (register_number e.base) r) (test (class_number class) (class_number e.class) k))

-- ## Tallies

pub tally_count : (es : List FoundAccess) → (tally_of es).count ≡ length es
tally_count [] = refl
tally_count (e ∷ es) = omega arith

pub tally_first : (es : List FoundAccess) (e : FoundAccess) → slice_get es 0 ≡ Some e → (tally_of es).first ≡ e.at
tally_first [] e is = absurd (let no : None ≡ Some e = is in cc)
tally_first (x ∷ es) e is = let same_one : Some x ≡ Some e = is in cc

pub tally_push : (es : List FoundAccess) (e : FoundAccess) → tally_of (es ++ e ∷ []) ≡ counted (tally_of es) e.at
tally_push [] e = refl
tally_push (x ∷ es) e =
    let longer : 1 + length (es ++ e ∷ []) ≡ (1 + length es) + 1 = let l = length-append es (e ∷ []) in omega (arith, l) in
    let some : ((1 + length es) == 0) ≡ false = grind arith in
    ap (λ (n : ℕ). let t : Tally = record { count = n; first = x.at } in t) longer
    ∙ ap (λ (b : Bool). let t : Tally = record { count = (1 + length es) + 1; first = if b then e.at else x.at } in t) (sym some)

none_at : (k : ℕ) → get_or (replicate 128 none) k none ≡ none
none_at k =
    let many : List Tally = replicate 128 none in
    ⊎_elim (λ lt. get_or-replicate 128 k none none lt)
    (λ (ge : 128 ≤ k). get_or_past many k none (let l : length many ≡ 128 = length-replicate 128 none in omega (arith, l, ge))) (cases_lt k 128)

pub no_tallies : (accesses : List FoundAccess) (table : List Tally) → accesses ≡ [] → table ≡ replicate 128 none → AreTallies accesses table
no_tallies accesses table empty zeros = record {
  whole = ap length zeros ∙ length-replicate 128 none;
  each = λ register class.
      ap (λ t. get_or t (place_of register class) none) zeros ∙ none_at (place_of register class)
      ∙ ap (λ es. tally_of (of_both es register class)) (sym empty);
}

pub one_tally : (accesses : List FoundAccess) (i : ℕ) (d e : FoundAccess) (table new : List Tally) → i < length accesses → get_or accesses i d ≡ e
    → new ≡ set table (place_of e.base e.class) (counted (get_or table (place_of e.base e.class) none) e.at)
    → place_of e.base e.class < 128 → AreTallies (take i accesses) table → AreTallies (take (i + 1) accesses) new
one_tally accesses i d e table new lt is set_is within before = record {
  whole = ap length set_is ∙ length-set table place more ∙ before.whole;
  each = λ register class.
      let p = has_both register class in
      let old = of_both (take i accesses) register class in
      let grown : of_both (take (i + 1) accesses) register class ≡ old ++ cond (p e) (e ∷ []) [] =
      filter_more p accesses i d lt ∙ ap (λ x. old ++ cond (p x) (x ∷ []) []) is in
      ⊎_elim
      (λ yes.
      let at = at_place register class e yes in
      ap (λ t. get_or t (place_of register class) none) set_is ∙ ap (λ k. get_or (set table place more) k none) at
      ∙ get_or-set_same table place more none (let w : length table ≡ 128 = before.whole in omega (arith, w, within))
      ∙ ap (λ k. counted (get_or table k none) e.at) (sym at)
      ∙ ap (λ t. counted t e.at) (before.each register class)
      ∙ sym (tally_push old e)
      ∙ ap tally_of (ap (λ b. old ++ cond b (e ∷ []) []) (sym yes) ∙ sym grown))
      (λ no.
      ap (λ t. get_or t (place_of register class) none) set_is
      ∙ get_or-set_other table place (place_of register class) more none (λ same_place. beside_place register class e no (sym same_place))
      ∙ before.each register class
      ∙ ap tally_of (sym (append-none old) ∙ ap (λ b. old ++ cond b (e ∷ []) []) (sym no) ∙ sym grown))
      (cases_Bool (p e));
}
  where
    place : ℕ
    place = place_of e.base e.class

    more : Tally
    more = counted (get_or table place none) e.at

    append-none : (es : List FoundAccess) → es ++ [] ≡ es
    append-none [] = refl
    append-none (x ∷ es) = ap (λ t. x ∷ t) (append-none es)

-- there is room for one more
pub room : (accesses : List FoundAccess) (i : ℕ) (register : Register) (class : Class) (table : List Tally) → i < length accesses → length accesses < 2 ^ 64
    → AreTallies (take i accesses) table → (get_or table (place_of register class) none).count + 1 < 2 ^ 64
room accesses i register class table lt few before =
    let es = of_both (take i accesses) register class in
    let is : (get_or table (place_of register class) none).count ≡ length es = ap (λ t. t.count) (before.each register class) ∙ tally_count es in
    let most : length es ≤ length (take i accesses) = let l = length-filter (has_both register class) (take i accesses) in let m = count_by-le-length (has_both register class) (take i accesses) in omega (arith, l, m) in
    let taken : length (take i accesses) ≡ i = length-take-le i accesses (omega (arith, lt)) in
    omega (arith, is, most, taken, lt, few)

pub all_tallies : (accesses : List FoundAccess) (i : ℕ) (table : List Tally) → length accesses ≤ i → AreTallies (take i accesses) table → AreTallies accesses table
all_tallies accesses i table le h = subst (λ es. AreTallies es table) (take_all i accesses le) h

-- ## The most frequent class

abbrev numbered : ℕ → Class
numbered zero = Ram
numbered (suc zero) = Rom
numbered (suc (suc zero)) = Io
numbered (suc (suc (suc zero))) = Any
numbered (suc (suc (suc (suc zero)))) = Slow
numbered (suc (suc (suc (suc (suc zero))))) = Medium
numbered (suc (suc (suc (suc (suc (suc zero)))))) = Fast
numbered _ = Synchronous

of_number : (class : Class) → numbered (class_number class) ≡ class
of_number Ram = refl
of_number Rom = refl
of_number Io = refl
of_number Any = refl
of_number Slow = refl
of_number Medium = refl
of_number Fast = refl
of_number Synchronous = refl

pub one_class : (class other : Class) → class_number class ≡ class_number other → class ≡ other
one_class class other is = sym (of_number class) ∙ ap numbered is ∙ of_number other

pub same_class : (class other : Class) → is_same_class class other ≡ true → class ≡ other
same_class class other is = one_class class other (same (class_number class) (class_number other) is)

pub own_class : (class : Class) → is_same_class class class ≡ true
own_class class = test (class_number class) (class_number class) refl

module _ (accesses : List FoundAccess) (register : Register) where
  pub leads_first : Leads accesses register 0 Ram
  leads_first = record {
    within = omega arith;
    most = λ other le. let is : other ≡ Ram = one_class other Ram (omega (arith, le)) in subst (λ c. count accesses register c ≤ count accesses register Ram) (sym is) (omega arith);
    first = λ other lt. absurd (omega (arith, lt));
  }

  -- the next class has more
  pub leads_more : (last : ℕ) (best class : Class) → class_number class ≡ last + 1 → count accesses register best < count accesses register class
      → Leads accesses register last best → Leads accesses register (last + 1) class
  leads_more last best class is more h = record {
    within = omega (arith, is);
    most = λ other le.
        ⊎_elim
        (λ (low : class_number other < last + 1). let m = h.most other (omega (arith, low)) in omega (arith, m, more))
        (λ (high : last + 1 ≤ class_number other).
        let it : other ≡ class = one_class other class (omega (arith, is, le, high)) in
        subst (λ c. count accesses register c ≤ count accesses register class) (sym it) (omega arith))
        (cases_lt (class_number other) (last + 1));
    first = λ other lt. let m = h.most other (omega (arith, is, lt)) in omega (arith, m, more);
  }

  -- or it has not
  pub leads_still : (last : ℕ) (best class : Class) → class_number class ≡ last + 1 → count accesses register class ≤ count accesses register best
      → Leads accesses register last best → Leads accesses register (last + 1) best
  leads_still last best class is less h = record {
    within = let w : class_number best ≤ last = h.within in omega (arith, w);
    most = λ other le.
        ⊎_elim
        (λ (low : class_number other < last + 1). h.most other (omega (arith, low)))
        (λ (high : last + 1 ≤ class_number other).
        let it : other ≡ class = one_class other class (omega (arith, is, le, high)) in
        subst (λ c. count accesses register c ≤ count accesses register best) (sym it) less)
        (cases_lt (class_number other) (last + 1));
    first = h.first;
  }

  pub leads_all : (class : Class) → Leads accesses register 7 class → IsMostFrequent accesses register class
  leads_all class h = record {
    most = λ other. h.most other (let s = class_small other in omega (arith, s));
    first = h.first;
  }

  -- there is one at most
  pub one_most : (class other : Class) → IsMostFrequent accesses register class → IsMostFrequent accesses register other → class ≡ other
  one_most class other a b =
      ⊎_elim
      (λ lt. absurd (let f : count accesses register class < count accesses register other = b.first class lt in let m : count accesses register other ≤ count accesses register class = a.most other in omega (arith, f, m)))
      (λ (ge : class_number other ≤ class_number class). ⊎_elim
      (λ lt. absurd (let f : count accesses register other < count accesses register class = a.first other lt in let m : count accesses register class ≤ count accesses register other = b.most class in omega (arith, f, m)))
      (λ (le : class_number class ≤ class_number other). one_class class other (omega (arith, ge, le)))
      (cases_lt (class_number other) (class_number class)))
      (cases_lt (class_number class) (class_number other))

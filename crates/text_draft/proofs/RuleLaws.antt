-- The rules for base registers.
use Rattle.std.proofs.Common.{◌≡◌, ◌∙◌, ℕ, zero, suc, ◌+◌, ◌<◌, ◌≤◌, Bool, true, false, List, [], ◌∷◌, ◌++◌, length, get_or, ◌⊎◌, AllPairs, Option, Some, None, inl, inr, ⊎_elim, refl, sym, ap, subst, arith}
use Rattle.std.specs.Prelude.{◌↔◌, ◌==◌, Contains, IfSome, IsTrue, if◌then◌else◌, map}
use Rattle.std.specs.List.{slice_get}
use Rattle.std.proofs.lemmas.Bool.{cases_lt, false≢true}
use Rattle.std.proofs.lemmas.List.Elements.{Contains-append_left, Contains-push, Contains-push_cases}
use Rattle.std.proofs.lemmas.List.Quantifiers.{all_pairs_push}
use Rattle.std.proofs.lemmas.List.{get_or_default}
use Rattle.control_flow.proofs.SortedLemmas.{no_member}
use Rattle.arm2_decode.specs.Names.{is_pc, register_number}
use Rattle.arm2_decode.specs.declared.instr.Instr.{Instr}
use Rattle.arm2_decode.specs.declared.names.Register.{Register}
use Rattle.arm2_decode.specs.declared.names.Register.TheVariants.{R0, R1, R2, R3, R4, R5, R6, R7, R8, R9, R10, R11, R12, R13, R14, R15}
use Rattle.bus_ticks.specs.declared.profile.Class.{Class}
use Rattle.image.specs.Image.{Words, word_of}
use Rattle.statement.specs.Stated.{Stated}
use Rattle.text_draft.specs.Accesses.{IsByPc, base_used}
use Rattle.text_draft.specs.Begun.{has_rule}
use Rattle.text_draft.specs.Rules.{is_same_class, AreRules, IsMostFrequent, IsNewRule, IsRule, MayRule, Shows, count, of_both}
use Rattle.text_draft.specs.Tallies.{ShowsNth, tally_of, with_rule}
use Rattle.text_draft.specs.declared.accesses.FoundAccess.{FoundAccess}
use Rattle.text_draft.specs.declared.grounds.Ground.{Ground}
use Rattle.text_draft.specs.declared.grounds.Ground.TheVariants.{Pattern}
use Rattle.text_draft.specs.declared.rules.FoundRule.{FoundRule}
use Rattle.text_draft.specs.declared.tallies.Tally.{Tally}
use Rattle.word_shapes.specs.Words.{HasInstr}
use Rattle.text_draft.proofs.TallyLaws.{one_most, own_class, same_class, tally_count, tally_first}

-- ## Registers

register_small : (register : Register) → register_number register < 16
register_small R0 = omega arith
register_small R1 = omega arith
register_small R2 = omega arith
register_small R3 = omega arith
register_small R4 = omega arith
register_small R5 = omega arith
register_small R6 = omega arith
register_small R7 = omega arith
register_small R8 = omega arith
register_small R9 = omega arith
register_small R10 = omega arith
register_small R11 = omega arith
register_small R12 = omega arith
register_small R13 = omega arith
register_small R14 = omega arith
register_small R15 = omega arith

abbrev registered : ℕ → Register
registered zero = R0
registered (suc zero) = R1
registered (suc (suc zero)) = R2
registered (suc (suc (suc zero))) = R3
registered (suc (suc (suc (suc zero)))) = R4
registered (suc (suc (suc (suc (suc zero))))) = R5
registered (suc (suc (suc (suc (suc (suc zero)))))) = R6
registered (suc (suc (suc (suc (suc (suc (suc zero))))))) = R7
registered (suc (suc (suc (suc (suc (suc (suc (suc zero)))))))) = R8
registered (suc (suc (suc (suc (suc (suc (suc (suc (suc zero))))))))) = R9
registered (suc (suc (suc (suc (suc (suc (suc (suc (suc (suc zero)))))))))) = R10
registered (suc (suc (suc (suc (suc (suc (suc (suc (suc (suc (suc zero))))))))))) = R11
registered (suc (suc (suc (suc (suc (suc (suc (suc (suc (suc (suc (suc zero)))))))))))) = R12
registered (suc (suc (suc (suc (suc (suc (suc (suc (suc (suc (suc (suc (suc zero))))))))))))) = R13
registered (suc (suc (suc (suc (suc (suc (suc (suc (suc (suc (suc (suc (suc (suc zero)))))))))))))) = R14
registered _ = R15

of_number : (register : Register) → registered (register_number register) ≡ register
of_number R0 = refl
of_number R1 = refl
of_number R2 = refl
of_number R3 = refl
of_number R4 = refl
of_number R5 = refl
of_number R6 = refl
of_number R7 = refl
of_number R8 = refl
of_number R9 = refl
of_number R10 = refl
of_number R11 = refl
of_number R12 = refl
of_number R13 = refl
of_number R14 = refl
of_number R15 = refl

one_register : (register other : Register) → register_number register ≡ register_number other → register ≡ other
one_register register other is = sym (of_number register) ∙ ap registered is ∙ of_number other

-- ## What the words show

-- each word of an image is one of its words by their numbers
word_listed : (words : Words) (at word : ℕ) → word_of words at ≡ Some word → (k : ℕ) × ((k < length words) × (slice_get (map (λ e. e.0) words) k ≡ Some at))
word_listed [] at word is = absurd (let no : None ≡ Some word = is in cc)
word_listed (e ∷ words) at word is = by (e.0 == at) refl (word_listed words at word)
  where
    by : (b : Bool) → (e.0 == at) ≡ b
        → (word_of words at ≡ Some word → (k : ℕ) × ((k < length words) × (slice_get (map (λ e. e.0) words) k ≡ Some at)))
        → (k : ℕ) × ((k < length (e ∷ words)) × (slice_get (map (λ x. x.0) (e ∷ words)) k ≡ Some at))
    by true here later = let it : e.0 ≡ at = grind arith in (0, (omega arith, ap Some it))
    by false past later =
        let rest = later (ap (λ (b : Bool). if b then Some e.1 else word_of words at) (sym past) ∙ is) in
        let lt = rest.1.0 in
        (suc rest.0, (omega arith, rest.1.1))

-- the one instruction at an address shows it
pub shows_at : (words : Words) (at : ℕ) (class : Class) (i : Instr) → ((j : Instr) → HasInstr words at j → Some i ≡ Some j)
    → ((register : Register) → base_used i ≡ Some register → is_pc register ≡ true → IsByPc at i.operation class) → Shows words at class
shows_at words at class i only h j has register used pc =
    let both : Some i ≡ Some j = only j has in
    let same : i ≡ j = cc in
    subst (λ (k : Instr). IsByPc at k.operation class) same (h register (ap base_used same ∙ used) pc)

pub one_base : (used : Option Register) (register other : Register) → used ≡ Some register → used ≡ Some other → is_pc register ≡ false → is_pc other ≡ true → ⊥
one_base used register other a b fails holds =
    let both : Some register ≡ Some other = sym a ∙ b in
    let same : register ≡ other = cc in
    false≢true (sym fails ∙ ap is_pc same ∙ holds)

-- the class that is shown is that class
pub is_shown : (words : Words) (at : ℕ) (class shown : Class) (i : Instr) (register : Register) → HasInstr words at i → ((j : Instr) → HasInstr words at j → Some i ≡ Some j)
    → base_used i ≡ Some register → is_pc register ≡ true → IsByPc at i.operation shown → ((other : Class) → IsByPc at i.operation other → Some shown ≡ Some other)
    → (b : Bool) → b ≡ is_same_class shown class → IsTrue b ↔ Shows words at class
is_shown words at class shown i register has only used pc some one b is = (
  λ yes. let it = same_class shown class (sym is ∙ yes) in shows_at words at class i only (λ r u p. subst (IsByPc at i.operation) it some),
  λ s. let both : Some shown ≡ Some class = one class (s i has register used pc) in let it : shown ≡ class = cc in is ∙ ap (is_same_class shown) (sym it) ∙ own_class shown,
)

-- where something is left open, a rule of R15 may be of a class that all show
pub may_by : (words : Words) (open_left : Bool) (register : Register) (class : Class) (all : Bool) → open_left ≡ true → is_pc register ≡ true
    → IsTrue all ↔ ((at : ℕ) → Shows words at class) → IsTrue all ↔ MayRule words open_left register class
may_by words open_left register class all left pc iff = (λ yes. inr (pc, iff.0 yes), back)
  where
    back : MayRule words open_left register class → IsTrue all
    back (inl none) = absurd (false≢true (sym none ∙ left))
    back (inr shown) = iff.1 shown.1

-- the words in front of a number show the class
pub record ShownBelow (words : Words) (class : Class) (n : ℕ) : Type 0 where
  pub each : (k : ℕ) → k < n → ShowsNth words k class

pub none_shown : (words : Words) (class : Class) → ShownBelow words class 0
none_shown words class = record { each = λ k lt. absurd (omega (arith, lt)) }

pub one_shown : (words : Words) (class : Class) (n : ℕ) → ShowsNth words n class → ShownBelow words class n → ShownBelow words class (n + 1)
one_shown words class n shows before = record {
  each = λ k lt. ⊎_elim (λ low. before.each k low) (λ (high : n ≤ k). let is : n ≡ k = omega (arith, lt, high) in subst (λ m. ShowsNth words m class) is shows) (cases_lt k n);
}

pub all_shown : (words : Words) (class : Class) (n : ℕ) → length words ≤ n → ShownBelow words class n → (at : ℕ) → Shows words at class
all_shown words class n le h at i has =
    let listed = word_listed words at has.word has.has_word in
    h.each listed.0 (let lt = listed.1.0 in omega (arith, le, lt)) at listed.1.1 i has

-- ## The rule of a register

module _ (words : Words) (open_left : Bool) (accesses : List FoundAccess) where
  first_of : (es : List FoundAccess) → 2 ≤ length es → (e : FoundAccess) × (slice_get es 0 ≡ Some e)
  first_of [] le = absurd (omega (arith, le))
  first_of (e ∷ es) le = (e, refl)

  abbrev grounded : Register → Class → ℕ → ℕ → Ground → FoundRule
  grounded register class n at basis = record { register = register; class = class; count = n; first = at; basis = basis }

  abbrev made : Register → Class → ℕ → ℕ → FoundRule
  made register class n at = grounded register class n at Pattern

  module _ (register : Register) (class : Class) (is_most : IsMostFrequent accesses register class) (t : Tally) (tally : t ≡ tally_of (of_both accesses register class)) where
    counts : t.count ≡ count accesses register class
    counts = ap (λ (u : Tally). u.count) tally ∙ tally_count (of_both accesses register class)

    its_class : (r : FoundRule) → IsRule words open_left accesses r → r.register ≡ register → class ≡ r.class
    its_class r is at = one_most accesses register class r.class is_most (subst (λ g. IsMostFrequent accesses g r.class) at is.has.0)

    pub may_not : (MayRule words open_left register class → ⊥) → (r : FoundRule) → IsRule words open_left accesses r → r.register ≡ register → ⊥
    may_not refused r is at = refused (subst (λ g. MayRule words open_left g class) at (subst (λ x. MayRule words open_left r.register x) (sym (its_class r is at)) is.has.1.0))

    pub too_few : t.count < 2 → (r : FoundRule) → IsRule words open_left accesses r → r.register ≡ register → ⊥
    too_few few r is at =
        let k = its_class r is at in
        let some : 2 ≤ count accesses r.register r.class = is.has.1.1 in
        let here : count accesses r.register r.class ≡ t.count = ap (λ g. count accesses g r.class) at ∙ ap (count accesses register) (sym k) ∙ sym counts in
        omega (arith, few, some, here)

    pub rule_made : MayRule words open_left register class → 2 ≤ t.count → IsRule words open_left accesses (record { register = register; class = class; count = t.count; first = t.first; basis = Pattern })
    rule_made may enough =
        let many : 2 ≤ count accesses register class = omega (arith, enough, counts) in
        let one = first_of (of_both accesses register class) many in
        record {
          has = (is_most, (may, many));
          count_is = counts;
          first = one.0;
          first_is = one.1;
          at_first = ap (λ (u : Tally). u.first) tally ∙ tally_first (of_both accesses register class) one.0 one.1;
          ground_is = refl;
        }

    pub rule_only : (r : FoundRule) → IsRule words open_left accesses r → r.register ≡ register
        → Some (let x : FoundRule = record { register = register; class = class; count = t.count; first = t.first; basis = Pattern } in x) ≡ Some r
    rule_only r is at =
        let k = its_class r is at in
        let same : of_both accesses r.register r.class ≡ of_both accesses register class = ap (λ g. of_both accesses g r.class) at ∙ ap (of_both accesses register) (sym k) in
        let n : t.count ≡ r.count = counts ∙ ap length (sym same) ∙ sym is.count_is in
        let f : t.first ≡ r.first =
        ap (λ (u : Tally). u.first) tally ∙ ap (λ es. (tally_of es).first) (sym same) ∙ tally_first (of_both accesses r.register r.class) is.first is.first_is ∙ sym is.at_first in
        ap Some (ap (λ g. made g class t.count t.first) (sym at) ∙ ap (λ x. made r.register x t.count t.first) k
        ∙ ap (λ x. made r.register r.class x t.first) n ∙ ap (made r.register r.class r.count) f
        ∙ ap (grounded r.register r.class r.count r.first) (sym is.ground_is))

-- ## All registers

module _ (words : Words) (open_left : Bool) (accesses : List FoundAccess) (begun : Option Stated) where
  pub record RulesBelow (n : ℕ) (rules : List FoundRule) : Type 0 where
    pub ascend : AllPairs (λ r q. register_number r.register < register_number q.register) rules
    pub each : (r : FoundRule) → Contains rules r ↔ (IsNewRule words open_left accesses begun r × (register_number r.register < n))

  pub no_rules : (rules : List FoundRule) → rules ≡ [] → RulesBelow 0 rules
  no_rules rules empty = record {
    ascend = λ i j d lt within. absurd (let none : length rules ≡ 0 = ap length empty in omega (arith, within, none));
    each = λ r. (λ h. absurd (no_member r (subst (λ xs. Contains xs r) empty h)), λ h. absurd (let lt : register_number r.register < 0 = h.1 in omega (arith, lt)));
  }

  module _ (n : ℕ) (register : Register) (at : register_number register ≡ n) (old : List FoundRule) (before : RulesBelow n old) where
    -- a rule up to this register is one in front of it, or its own
    parts : (r : FoundRule) → register_number r.register < n + 1 → (register_number r.register < n) ⊎ (r.register ≡ register)
    parts r lt = ⊎_elim (λ low. inl low) (λ (high : n ≤ register_number r.register). inr (one_register r.register register (omega (arith, at, lt, high)))) (cases_lt (register_number r.register) n)

    pub rules_more : (rule : Option FoundRule) (new : List FoundRule) → IfSome rule (λ r. IsNewRule words open_left accesses begun r × (r.register ≡ register))
        → ((r : FoundRule) → IsNewRule words open_left accesses begun r → r.register ≡ register → rule ≡ Some r) → new ≡ with_rule old rule → RulesBelow (n + 1) new
    rules_more None new some only is = record {
      ascend = subst (AllPairs (λ r q. register_number r.register < register_number q.register)) (sym is) before.ascend;
      each = λ r. (
        λ h. let was = (before.each r).0 (subst (λ xs. Contains xs r) is h) in (was.0, let lt : register_number r.register < n = was.1 in omega (arith, lt)),
        λ h. subst (λ xs. Contains xs r) (sym is) (⊎_elim (λ low. (before.each r).1 (h.0, low)) (λ own. absurd (let no : None ≡ Some r = only r h.0 own in cc)) (parts r h.1)),
      );
    }
    rules_more (Some x) new some only is = record {
      ascend =
          subst (AllPairs (λ r q. register_number r.register < register_number q.register)) (sym is)
          (all_pairs_push (λ r q. register_number r.register < register_number q.register) old x before.ascend
          (λ k d lt.
          let low : register_number (get_or old k d).register < n = ((before.each (get_or old k d)).0 (k, lt, get_or_default old k (get_or old k d) d lt)).1 in
          let mine : register_number x.register ≡ n = ap register_number some.1 ∙ at in
          omega (arith, low, mine)));
      each = λ r. (
        λ h. ⊎_elim
            (λ was0. let was = (before.each r).0 was0 in (was.0, let lt : register_number r.register < n = was.1 in omega (arith, lt)))
            (λ (same : x ≡ r). (subst (IsNewRule words open_left accesses begun) same some.0, let mine : register_number r.register ≡ n = ap (λ (q : FoundRule). register_number q.register) (sym same) ∙ ap register_number some.1 ∙ at in omega (arith, mine)))
            (Contains-push_cases old x r (subst (λ xs. Contains xs r) is h)),
        λ h. subst (λ xs. Contains xs r) (sym is)
            (⊎_elim
            (λ low. Contains-append_left old (x ∷ []) r ((before.each r).1 (h.0, low)))
            (λ own. let both : Some x ≡ Some r = only r h.0 own in let same : x ≡ r = cc in subst (Contains (old ++ x ∷ [])) same (Contains-push old x))
            (parts r h.1)),
      );
    }

  pub all_rules : (n : ℕ) (rules : List FoundRule) → 16 ≤ n → RulesBelow n rules → AreRules words open_left accesses begun rules
  all_rules n rules le h = record {
    ascend = h.ascend;
    each = λ r. (λ there. ((h.each r).0 there).0, λ is. (h.each r).1 (is, let s = register_small r.register in omega (arith, s, le)));
  }

-- a rule that is found where none is stated
pub new_some : (words : Words) (open_left : Bool) (accesses : List FoundAccess) (begun : Option Stated) (register : Register) (found : Option FoundRule)
    → IfSome found (λ r. IsRule words open_left accesses r × (r.register ≡ register)) → has_rule begun register ≡ false
    → IfSome found (λ r. IsNewRule words open_left accesses begun r × (r.register ≡ register))
new_some words open_left accesses begun register None h lacks = tt
new_some words open_left accesses begun register (Some r) h lacks = ((h.0, ap (has_rule begun) h.1 ∙ lacks), h.1)

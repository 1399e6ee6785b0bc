use Rattle.std.proofs.Common.{◌≡◌, ◌∙◌, ◌+◌, ◌-◌, ◌++◌, ◌<◌, ◌≤◌, arith, None, sym, length}
use Rattle.std.specs.Prelude.{IsTrue, is_some, nat_le, nat_lt}
use Rattle.std.proofs.lemmas.Bool.{lt-ltb, le-ltb}
use Rattle.std.proofs.lemmas.Bool.Decides.{nat_tests}
use Rattle.image.specs.Image.{Words, may_hold, runs_of, with_word, word_of}
use Rattle.image.proofs.WordLemmas.{runs_of-with_word, has_counted, has, no_fault, none_held, quads, quad, too_long}
use Rattle.image.proofs.image.Image.runs_with.Goals as goal

-- the runs with the word, and the two that it may join
whole : (c : goal.After-from-2) → runs_of (with_word (c.self.inside.below.items ++ c.self.inside.above.items) c.args.address c.args.word) + (c.from.result + c.from-2.result) ≡ c.self.inside.runs + 1
whole c =
    let words : Words = c.self.inside.below.items ++ c.self.inside.above.items in
    let a = c.args.address in
    let place : IsTrue (may_hold a) = sym c.may_hold.ensures ∙ c.if-not-may_hold.false in
    let free : word_of words a ≡ None = none_held _ (rw c.self.view_is (sym c.beside-beside.ensures.at ∙ c.if-beside.false)) in
    let before : c.from.result ≡ has words (a - 4) = has_counted words (a - 4) c.beside-beside.result.before _ (rw c.self.view_is c.beside-beside.ensures.before) c.from.ensures in
    let after : c.from-2.result ≡ has words (a + 4) = has_counted words (a + 4) c.beside-beside.result.after _ (rw c.self.view_is c.beside-beside.ensures.after) c.from-2.ensures in
    let counted = runs_of-with_word words a c.args.word (quad a place) (quads words c.self.invariant.allowed) c.self.invariant.ascends free in
    omega (arith, before, after, counted, c.self.invariant.counted)

pub overflow_sub-runs-2 : goal.overflow_sub-runs-2
overflow_sub-runs-2 c = omega (arith, whole c)

pub returns-clause-runs : goal.returns-clause-runs
returns-clause-runs c = rw (← c.self.view_is) (omega (arith, whole c.before))

pub returns-then-runs-gt-MOST_SEGMENTS-clause-fault : goal.returns-then-runs-gt-MOST_SEGMENTS-clause-fault
returns-then-runs-gt-MOST_SEGMENTS-clause-fault c =
    let many : 16 < runs_of (with_word (c.self.inside.below.items ++ c.self.inside.above.items) c.args.address c.args.word) = omega (arith, whole c.before, c.if-runs-gt-MOST_SEGMENTS.true) in
    too_long (may_hold c.args.address) (is_some (word_of c.args.self.now c.args.address)) (nat_le 65536 (length c.args.self.now)) (nat_lt 16 (runs_of (with_word c.args.self.now c.args.address c.args.word)))
    (sym c.may_hold.ensures ∙ c.if-not-may_hold.false) (sym c.beside-beside.ensures.at ∙ c.if-beside.false) (rw (← c.self.view_is) (lt-ltb 16 _ many))

pub returns-clause-allowed : goal.returns-clause-allowed
returns-clause-allowed c =
    let few : runs_of (with_word (c.self.inside.below.items ++ c.self.inside.above.items) c.args.address c.args.word) ≤ 16 = omega (arith, whole c.before, c.if-runs-gt-MOST_SEGMENTS.false) in
    no_fault (may_hold c.args.address) (is_some (word_of c.args.self.now c.args.address)) (nat_le 65536 (length c.args.self.now)) (nat_lt 16 (runs_of (with_word c.args.self.now c.args.address c.args.word)))
    (sym c.may_hold.ensures ∙ c.if-not-may_hold.false) (sym c.beside-beside.ensures.at ∙ c.if-beside.false) (grind (arith, nat_tests, c.held.ensures.held, c.if-held-ge-MOST_WORDS.false))
    (rw (← c.self.view_is) (le-ltb 16 _ few))

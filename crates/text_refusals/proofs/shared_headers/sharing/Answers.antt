use Rattle.std.proofs.Common.{ℕ, ◌<◌, length, sym, arith}
use Rattle.text_refusals.specs.SharedHeaders.{SharesWith}
use Rattle.text_refusals.proofs.shared_headers.sharing.Goals as goal
use borrow.Author.Count.{below_more}

pub loop-other-preserved : goal.loop-other-preserved
loop-other-preserved c = below_more (λ (k : ℕ). SharesWith c.args.loops.now c.args.one k → ⊥) c.loop-other.other c.loop-other.invariant (λ s. c.if-loops-other.false (sym (s.same _)))

pub returns-clause-none : goal.returns-clause-none
returns-clause-none c = λ other s.
    let inside : other < length c.args.loops.now = s.inside in
    c.loop-other.invariant other (omega arith) s

use Rattle.std.proofs.Common.{◌≡◌, ◌∙◌, ℕ, List, ◌++◌, ap, subst, sym, length, length-append, append_assoc, arith}
use Rattle.assembler.specs.ShownLines.{listed, listed_below}
use Rattle.assembler.proofs.ListedLaws.{below_room, listed_next, listed_room}
use Rattle.assembler.proofs.text.Line.push_registers.Goals as goal

pub push_listed-requires-clause-room : goal.push_listed-requires-clause-room
push_listed-requires-clause-room c =
    omega (arith, c.requires, ap length c.loop-n.invariant ∙ length-append c.args.self.now (listed_below c.args.list c.loop-n.n), listed_room c.args.list c.loop-n.n c.loop-n-test.true)

pub loop-n-preserved : goal.loop-n-preserved
loop-n-preserved c =
    c.push_listed.ensures
    ∙ ap (λ (l : List ℕ). l ++ listed c.args.list c.loop-n.n) c.loop-n.invariant
    ∙ append_assoc c.args.self.now (listed_below c.args.list c.loop-n.n) (listed c.args.list c.loop-n.n)
    ∙ ap (λ (l : List ℕ). c.args.self.now ++ l) (sym (listed_next c.args.list c.loop-n.n))

pub returns-clause-text : goal.returns-clause-text
returns-clause-text c =
    let last : c.loop-n.n ≡ 16 = omega arith in
    subst (λ (n : ℕ). c.loop-n.self ≡ c.args.self.now ++ listed_below c.args.list n) last c.loop-n.invariant

pub returns-clause-room : goal.returns-clause-room
returns-clause-room c =
    omega (arith, ap length c.loop-n.invariant ∙ length-append c.args.self.now (listed_below c.args.list c.loop-n.n), below_room c.args.list c.loop-n.n (omega arith))

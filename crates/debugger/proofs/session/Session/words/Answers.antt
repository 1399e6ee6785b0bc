use Rattle.std.proofs.Common.{◌≡◌, ◌∙◌, ◌+◌, ◌*◌, Some, length, sym, ap, subst, arith}
use Rattle.debugger.specs.Answers.{AreSeen, seen}
use Rattle.debugger.proofs.RowLaws.{seen_more}
use Rattle.debugger.proofs.session.Session.words.Goals as goal

pub loop-k-preserved : goal.loop-k-preserved
loop-k-preserved c =
    let memory = c.args.self.now.machine.bus.memc in
    let a = c.args.address in
    let words = c.loop-k.words.items in
    let found : seen memory (a + 4 * c.loop-k.k) ≡ Some c.in_ok-word.word = sym c.in_ok-word.ensures in
    let here : a + 4 * length words ≡ a + 4 * c.loop-k.k = omega (arith, c.loop-k.invariant.1) in
    let more =
    seen_more memory a words c.in_ok-word.word c.loop-k.invariant.0 (ap (seen memory) here ∙ found) in
    let seen = subst (AreSeen memory a) (sym c.push.ensures.items) more in
    (seen, c.push.ensures.len ∙ omega (arith, c.loop-k.invariant.1))

use Rattle.std.proofs.Common.{◌≡◌, length}
use Rattle.debugger.specs.Answers.{AreSeen}
use Rattle.debugger.proofs.session.Session.words.Given as goal

abbrev pub invariant-loop-k : goal.invariant-loop-k
invariant-loop-k l = AreSeen l.self.machine.bus.memc l.address l.words.items × (length l.words.items ≡ l.k)

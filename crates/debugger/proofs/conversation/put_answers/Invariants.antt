use Rattle.std.proofs.Common.{length}
use Rattle.asm_text.specs.Source.{lines_of}
use Rattle.image.specs.Labels.{address_of}
use Rattle.debugger.proofs.TalkLaws.{TalkSoFar}
use Rattle.debugger.proofs.conversation.put_answers.Given as goal

abbrev pub invariant-loop-line : goal.invariant-loop-line
invariant-loop-line l = TalkSoFar (address_of l.labels) l.fn.session (lines_of l.lines) l.session (lines_of l.rest) l.out.items

abbrev pub decreases-loop-line : goal.decreases-loop-line
decreases-loop-line l = length l.rest

use Rattle.std.proofs.Common.{sym}
use Rattle.asm_text.specs.Source.{lines_of}
use Rattle.image.specs.Labels.{address_of}
use Rattle.debugger.proofs.TalkLaws.{talk_ends, talk_goes, talk_quits}
use Rattle.debugger.proofs.conversation.put_answers.Goals as goal

pub returns-then-is_quit-clause-ok : goal.returns-then-is_quit-clause-ok
returns-then-is_quit-clause-ok c =
    talk_quits (address_of c.args.labels.now) c.args.session.now (lines_of c.args.lines.now) c.loop-line.session
    (lines_of c.loop-line.rest.now) c.loop-line.out.items c.in-Some.line.now
    (lines_of c.in-Some.after.now)
    c.loop-line.invariant c.in-Some.ensures.0 (sym c.if-is_quit.ensures)

pub loop-line-preserved : goal.loop-line-preserved
loop-line-preserved c =
    talk_goes (address_of c.args.labels.now) c.args.session.now (lines_of c.args.lines.now) c.loop-line.session c.put_answer.new.session
    (lines_of c.loop-line.rest.now) c.loop-line.out.items c.put_answer.new.out.items c.in-Some.line.now
    (lines_of c.in-Some.after.now)
    c.loop-line.invariant c.in-Some.ensures.0 (sym c.if-is_quit.ensures) c.in_ok-put_answer.ensures.ok

pub returns-clause-ok : goal.returns-clause-ok
returns-clause-ok c =
    talk_ends (address_of c.args.labels.now) c.args.session.now (lines_of c.args.lines.now) c.loop-line.session
    (lines_of c.loop-line.rest.now) c.loop-line.out.items c.loop-line.invariant c.in_default.ensures

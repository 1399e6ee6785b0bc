use Rattle.std.proofs.Common.{◌≡◌, ◌<◌, ◌++◌, ◌∷◌, rules, arith}
use Rattle.text_refusals.specs.Refused.{row_text}
use Rattle.text_refusals.proofs.RefusedLemmas.{full, put_one}
use Rattle.text_refusals.proofs.report.Report.put_row.Goals as goal

pub returns-then-self-eq0 : goal.returns-then-self-eq0
returns-then-self-eq0 c = record {
  same = λ more. full c.args.self.now.text.items c.args.self.now.left more (record { line = c.args.line; text = c.args.text.now } ∷ more) c.if-self-eq0.true;
}

pub returns : goal.returns
returns c =
    let some : 0 < c.args.self.now.left = grind arith in
    let put : c.put_line.new.out.items ≡ c.args.self.now.text.items ++ row_text (record { line = c.args.line; text = c.args.text.now }) = search rules in
    record {
      same = λ more. put_one c.args.self.now.text.items c.put_line.new.out.items c.args.self.now.left (record { line = c.args.line; text = c.args.text.now }) more some put;
    }

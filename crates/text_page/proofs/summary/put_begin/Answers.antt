use Rattle.std.proofs.Common.{◌++◌, codes}
use Rattle.std.proofs.lemmas.Result.{on_ok_weaker}
use Rattle.assembler.proofs.PutLaws.{joined}
use Rattle.text_page.specs.Noting.{noted_in}
use Rattle.text_page.specs.Rows.{summary}
use Rattle.text_page.proofs.summary.put_begin.Goals as goal

pub returns : goal.returns
returns c =
    let told = summary (noted_in c.args.notes.now) c.args.bound c.args.fold c.args.ticks in
    on_ok_weaker c.put-2.result
    (λ last. joined c.args.out.now.items c.put.new.out.items c.put-2.new.out.items (codes "<details open><summary>") (told ++ codes "</summary>\n") c.in_ok-put.ensures
    (joined c.put.new.out.items c.put_summary.new.out.items c.put-2.new.out.items told (codes "</summary>\n") c.in_ok-put_summary.ensures last))
    c.put-2.ensures

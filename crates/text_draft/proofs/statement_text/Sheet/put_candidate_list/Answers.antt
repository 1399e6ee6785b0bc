use Rattle.std.proofs.Common.{◌++◌, codes}
use Rattle.std.proofs.lemmas.Result.{on_ok_weaker}
use Rattle.std.specs.List.{flat_map}
use Rattle.assembler.proofs.PutLaws.{joined, three}
use Rattle.text_draft.specs.DraftText.{candidate_text}
use Rattle.text_draft.proofs.statement_text.Sheet.put_candidate_list.Goals as goal

pub returns : goal.returns
returns c =
    let rows = flat_map (candidate_text c.args.self.now.lines.now) c.args.candidates.now in
    on_ok_weaker c.put_each_candidate.result
    (λ last. three c.args.out.now.items
    (codes "\n# The words name these addresses of the source, to which a \"?\" ") c.args.side.now
    (codes " may lead:\n" ++ rows) c.in_ok-put.ensures c.in_ok-put-2.ensures
    (joined c.put-2.new.out.items c.put-3.new.out.items c.put_each_candidate.new.out.items (codes " may lead:\n") rows
    c.in_ok-put-3.ensures last))
    c.put_each_candidate.ensures

use Rattle.std.proofs.Common.{◌∙◌, ◌++◌, ℕ, ap}
use Rattle.std.proofs.lemmas.Result.{on_ok_weaker}
use Rattle.response_reports.specs.RespondText.{heading_text, part_lines, response_line, response_of}
use Rattle.response_reports.proofs.TextLemmas.{three}
use Rattle.response_reports.proofs.texts.put_parts.Goals as goal

pub returns : goal.returns
returns c =
    let parts = c.args.parts in
    let profile = c.args.profile.now in
    on_ok_weaker c.put_response.result
    (λ last. three c.args.out.now.items (heading_text parts.interrupt c.args.label.now) (part_lines profile parts) (response_line (response_of profile parts))
    c.put_heading.new.out.items c.put_part_lines.new.out.items c.put_response.new.out.items
    c.in_ok-put_heading.ensures c.in_ok-put_part_lines.ensures (last ∙ ap (λ (n : ℕ). c.put_part_lines.new.out.items ++ response_line n) c.requires))
    c.put_response.ensures

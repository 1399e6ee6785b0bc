use Rattle.std.proofs.Common.{◌∙◌, [], ◌∷◌, ◌++◌, ap}
use Rattle.text_explained.specs.declared.folding.TableLine.TheVariants.{Names}
use Rattle.text_explained.proofs.FoldingLaws.{lines_whole}
use Rattle.text_explained.proofs.table.table_lines.Goals as goal

pub returns : goal.returns
returns c =
    lines_whole c.args.all c.args.rows.now c.args.total c.push.new.self.items c.put_shown.new.lines.items c.push-2.new.self.items
    (c.in_ok-push.ensures.items ∙ ap (λ ls. ls ++ Names ∷ []) c.new-lines.ensures.items) c.in_ok-put_shown.ensures c.in_ok-push-2.ensures.items

use Rattle.std.proofs.Common.{◌∙◌, ◌++◌, ap, codes}
use Rattle.std.specs.Prelude.{decimal}
use Rattle.std.proofs.lemmas.Result.{on_ok_weaker}
use Rattle.text_rows.specs.Addresses.{name_text}
use Rattle.text_rows.specs.Columns.{in_columns}
use Rattle.text_rows.specs.WordLines.{label_at}
use Rattle.text_explained.specs.Columns.{share_text}
use Rattle.text_explained.proofs.PartLaws.{six_parts}
use Rattle.text_explained.proofs.sums.put_sum.Goals as goal

pub returns : goal.returns
returns c =
    let s = c.args.sum in
    on_ok_weaker c.put-2.result
    (six_parts c.args.out.now.items (in_columns 8 (decimal s.times)) (in_columns 10 (decimal s.ticks)) (in_columns 8 (share_text s.ticks c.args.bound)) (codes "  ")
    (name_text (label_at c.args.lines.now c.args.at) c.args.at) (codes "\n") c.put_number.new.out.items c.put_number-2.new.out.items c.put_ending.new.out.items c.put.new.out.items
    c.put_name.new.out.items c.put-2.new.out.items c.in_ok-put_number.ensures c.in_ok-put_number-2.ensures
    (c.in_ok-put_ending.ensures ∙ ap (λ xs. c.put_number-2.new.out.items ++ in_columns 8 xs) (c.as_bytes.ensures.value ∙ c.in_ok-share.ensures)) c.in_ok-put.ensures c.in_ok-put_name.ensures)
    c.put-2.ensures

use Rattle.std.proofs.Common.{◌∙◌, ◌++◌, ap, codes, decimal}
use Rattle.std.proofs.lemmas.Result.{on_ok_weaker}
use Rattle.assembler.proofs.PutLaws.{joined}
use Rattle.text_page.proofs.hover.put_loop_bound.Goals as goal

pub returns : goal.returns
returns c =
    on_ok_weaker c.put_decimal.result
    (λ is. joined c.args.out.now.items c.put.new.out.items c.put_decimal.new.out.items (codes ", loop bound ") (decimal c.args.bound) c.in_ok-put.ensures
    (is ∙ ap (λ n. c.put.new.out.items ++ decimal n) c.from.ensures))
    c.put_decimal.ensures

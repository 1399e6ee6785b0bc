use Rattle.std.proofs.Common.{◌∙◌, ◌++◌, ℕ, List, ap, codes}
use Rattle.std.proofs.lemmas.Result.{on_ok_weaker}
use Rattle.asm_text.specs.Hex.{hex8}
use Rattle.text_rows.specs.Rows.{address_column}
use Rattle.explain_reports.proofs.EachLemmas.{after}
use Rattle.explain_reports.proofs.each.put_way.Goals as goal

pub returns : goal.returns
returns c =
    let a = c.put_address.new.out.items in
    let b = c.put.new.out.items in
    on_ok_weaker c.put-2.result
    (λ is. after c.args.out.now.items (address_column c.args.at) (codes " to " ++ hex8 c.args.to) a c.put-2.new.out.items c.in_ok-put_address.ensures
    (after a (codes " to ") (hex8 c.args.to) b c.put-2.new.out.items c.in_ok-put.ensures (is ∙ ap (λ (xs : List ℕ). b ++ xs) c.hex8.ensures)))
    c.put-2.ensures

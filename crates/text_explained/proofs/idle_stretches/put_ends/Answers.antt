use Rattle.std.proofs.Common.{◌∙◌, ◌++◌, ℕ, List, ap, codes}
use Rattle.std.proofs.lemmas.Result.{on_ok_weaker}
use Rattle.asm_text.specs.Hex.{hex8}
use Rattle.text_explained.proofs.RuleLaws.{after}
use Rattle.text_explained.proofs.idle_stretches.put_ends.Goals as goal

pub returns : goal.returns
returns c =
    let stretch = c.args.stretch.now in
    let a = c.put.new.out.items in
    let b = c.put-2.new.out.items in
    let d = c.put-3.new.out.items in
    on_ok_weaker c.put-3.result
    (λ is. after c.args.out.now.items (hex8 stretch.first) (codes " to " ++ hex8 stretch.last) a d (c.in_ok-put.ensures ∙ ap (λ (xs : List ℕ). c.args.out.now.items ++ xs) c.hex8.ensures)
    (after a (codes " to ") (hex8 stretch.last) b d c.in_ok-put-2.ensures (is ∙ ap (λ (xs : List ℕ). b ++ xs) c.hex8-2.ensures)))
    c.put-3.ensures

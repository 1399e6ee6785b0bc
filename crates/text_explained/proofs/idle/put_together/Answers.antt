use Rattle.std.proofs.Common.{◌∙◌, ◌++◌, ap, codes, sym, arith}
use Rattle.std.specs.Prelude.{List, ℕ, decimal}
use Rattle.std.proofs.lemmas.Result.{on_ok_weaker}
use Rattle.text_explained.specs.Idle.{together_words}
use Rattle.text_explained.proofs.IdleLaws.{together_is}
use Rattle.text_explained.proofs.RuleLaws.{after}
use Rattle.text_explained.proofs.idle.put_together.Goals as goal

pub returns : goal.returns
returns c =
    let old = c.args.out.now.items in
    let number = decimal c.args.count in
    let a = c.put.new.out.items in
    let b = c.put_decimal.new.out.items in
    let d = c.put-2.new.out.items in
    on_ok_weaker c.put-2.result
    (λ is. after old (codes "  ") (number ++ together_words) a d c.in_ok-put.ensures (after a number together_words b d c.in_ok-put_decimal.ensures is)
    ∙ ap (λ (t : List ℕ). old ++ t) (sym (together_is c.args.count (omega (arith, c.if-count-lt-TOGETHER.false)))))
    c.put-2.ensures

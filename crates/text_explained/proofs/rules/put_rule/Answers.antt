use Rattle.std.proofs.Common.{◌∙◌, ◌++◌, ℕ, List, ap, codes, decimal}
use Rattle.std.proofs.lemmas.Result.{on_ok_weaker}
use Rattle.statement.specs.Statement.{class_name}
use Rattle.text_rows.specs.Columns.{in_columns}
use Rattle.text_explained.specs.Rules.{part_text, register_text}
use Rattle.text_explained.proofs.RuleLaws.{after}
use Rattle.text_explained.proofs.rules.put_rule.Goals as goal

pub returns : goal.returns
returns c =
    let rule = c.args.rule.now in
    let old = c.args.out.now.items in
    let a = c.put_right.new.out.items in
    let b = c.put_right-2.new.out.items in
    let d = c.put.new.out.items in
    let e = c.put_part.new.out.items in
    let f = c.put_number.new.out.items in
    let g = c.put-2.new.out.items in
    let end : List ℕ = codes "\n" in
    let count = in_columns 8 (decimal c.args.words) ++ end in
    let part = part_text rule ++ count in
    let name = c.deref.ensures.value ∙ c.in_ok-put_register.ensures ∙ ap (λ (xs : List ℕ). xs ++ register_text rule.register) c.new-register.ensures.items in
    let class = c.as_bytes.ensures.value ∙ c.class_name.ensures in
    on_ok_weaker c.put-2.result
    (λ is. after old (in_columns 5 (register_text rule.register)) (in_columns 13 (class_name rule.class) ++ (codes "  " ++ part)) a g
    (c.in_ok-put_right.ensures ∙ ap (λ (xs : List ℕ). old ++ in_columns 5 xs) name)
    (after a (in_columns 13 (class_name rule.class)) (codes "  " ++ part) b g (c.in_ok-put_right-2.ensures ∙ ap (λ (xs : List ℕ). a ++ in_columns 13 xs) class)
    (after b (codes "  ") part d g c.in_ok-put.ensures (after d (part_text rule) count e g c.in_ok-put_part.ensures
    (after e (in_columns 8 (decimal c.args.words)) end f g c.in_ok-put_number.ensures is)))))
    c.put-2.ensures

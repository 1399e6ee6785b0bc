use Rattle.std.proofs.Common.{rules, ◌≡◌, ◌∙◌, ◌++◌, ap, sym, true, take, drop, codes}
use Rattle.std.specs.Fmt.{decimal}
use Rattle.longest_walk.specs.declared.folded.Item.TheVariants.{Repeat}
use Rattle.outputs.proofs.PageLaws.{adds_both, adds_none, adds_same}
use Rattle.certificate.specs.Walk.{item_lines, walk_lines}
use Rattle.certificate.specs.Words.{ended}
use Rattle.certificate.specs.Written.{walk_text}
use Rattle.certificate.proofs.WriteLaws.{text-repeat, walk_parts}
use Rattle.certificate.proofs.writing.+walk.Goals as goal

pub put_items-returns-then-has_failed : goal.put_items-returns-then-has_failed
put_items-returns-then-has_failed g t c =
    let taken = g.O.Output.taken in
    let failures = g.O.Output.failures in
    let out = c.loop-item.out in
    let page = c.loop-item.page in
    let first = walk_text (walk_lines (take c.loop-item.item-index c.args.items.now)) in
    let others = walk_text (walk_lines (drop c.loop-item.item-index c.args.items.now)) in
    let failed : page.failed ≡ true = search rules in
    adds_same taken failures c.args.out.now out c.args.page.now page _ _ (walk_parts c.args.items.now c.loop-item.item-index)
    (adds_both taken failures c.args.out.now out out c.args.page.now page page first others c.loop-item.invariant
    (adds_none taken failures out page page others failed failed))

pub put_item-returns-in-Repeat : goal.put_item-returns-in-Repeat
put_item-returns-in-Repeat g t c =
    let taken = g.O.Output.taken in
    let failures = g.O.Output.failures in
    let head = ended (codes "repeat " ++ decimal c.in-Repeat.count) in
    let body = walk_text (walk_lines c.in-Repeat.body.value.items) in
    let end = codes "end\n" in
    let is_body : walk_text (walk_lines c.deref-in-Repeat.result.now) ≡ body = ap (λ xs. walk_text (walk_lines xs)) (search rules) in
    let is : c.args.item.now ≡ Repeat c.in-Repeat.count c.in-Repeat.body = search rules in
    let is_head : ended (codes "repeat " ++ decimal c.from.result) ≡ head = ap (λ n. ended (codes "repeat " ++ decimal n)) (search rules) in
    let first = adds_same taken failures c.args.out.now c.put_number.new.out c.args.page.now c.put_number.new.page _ head is_head c.put_number.ensures in
    let inner = adds_same taken failures c.put_number.new.out c.put_items.new.out c.put_number.new.page c.put_items.new.page _ body is_body c.put_items.ensures in
    adds_same taken failures c.args.out.now c.put-in-Repeat.new.out c.args.page.now c.put-in-Repeat.new.self _ _
    (sym (text-repeat c.in-Repeat.count c.in-Repeat.body) ∙ ap (λ i. walk_text (item_lines i)) (sym is))
    (adds_both taken failures c.args.out.now c.put_number.new.out c.put-in-Repeat.new.out c.args.page.now c.put_number.new.page c.put-in-Repeat.new.self head (body ++ end) first
    (adds_both taken failures c.put_number.new.out c.put_items.new.out c.put-in-Repeat.new.out c.put_number.new.page c.put_items.new.page c.put-in-Repeat.new.self body end inner c.put-in-Repeat.ensures))

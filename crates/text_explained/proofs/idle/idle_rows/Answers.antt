use Rattle.std.specs.BTreeSet.{contains}
use Rattle.std.specs.Ordering.{nat_cmp}
use Rattle.std.proofs.Common.{◌∙◌, ap, refl}
use Rattle.std.specs.Map.{keys_of}
use Rattle.statement.specs.Stated.{StatedLoops}
use Rattle.text_explained.specs.Idle.{are_together, count_unreached}
use Rattle.text_explained.proofs.IdleLaws.{HasSeen, all_idle}
use Rattle.text_explained.proofs.idle.idle_rows.Goals as goal

pub returns : goal.returns
returns c =
    let st = c.args.handler.now.statement in
    let flow = c.args.handler.now.graph in
    let done = contains nat_cmp c.in_ok-done.done in
    let reached = contains nat_cmp c.in_ok-reached.reached in
    let count = c.count_unreached-count.result in
    let seen : HasSeen st flow done reached (are_together count) count =
    record {
      is_done = c.in_ok-done.ensures;
      is_there = c.in_ok-reached.ensures;
      count_is = c.count_unreached-count.ensures ∙ ap (count_unreached reached) (c.deref.ensures.value ∙ c.in_ok-addresses.ensures);
      together_is = refl;
    } in
    all_idle st flow done reached (are_together count) count seen c.args.handler.now.image.now
    c.list.result.now c.apart.result.now c.list-2.result.now c.stretches.result.now (keys_of c.targets.result.now.entries) (keys_of c.accesses.result.now.entries) (keys_of c.multiplies.result.now.entries) (keys_of c.branches.result.now.entries)
    c.new-rows.result.items c.put_loops.new.out.items c.put_stretches.new.out.items c.put_stated.new.out.items c.put_stated-2.new.out.items c.put_rules.new.out.items c.put_stated-3.new.out.items c.put_stated-4.new.out.items c.put_together.new.out.items
    (c.list.ensures.value ∙ ap (λ (ls : StatedLoops). ls.list) c.loops-loops.ensures) (c.apart.ensures ∙ ap (λ (ls : StatedLoops). ls.apart) c.loops-loops.ensures)
    (c.list-2.ensures.value ∙ ap (λ (ls : StatedLoops). ls.list) c.loops-loops.ensures) (c.stretches.ensures ∙ c.apart-2.ensures ∙ ap (λ (ls : StatedLoops). ls.apart) c.loops-loops.ensures) (ap keys_of c.targets.ensures) (ap keys_of c.accesses.ensures) (ap keys_of c.multiplies.ensures) (ap keys_of c.branches.ensures)
    c.new-rows.ensures.items c.in_ok-put_loops.ensures c.in_ok-put_stretches.ensures c.in_ok-put_stated.ensures c.in_ok-put_stated-2.ensures c.in_ok-put_rules.ensures c.in_ok-put_stated-3.ensures c.in_ok-put_stated-4.ensures c.in_ok-put_together.ensures

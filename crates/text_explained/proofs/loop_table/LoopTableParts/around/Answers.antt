use Rattle.std.proofs.Common.{◌∙◌, ap}
use Rattle.std.specs.Prelude.{◌||◌}
use Rattle.std.specs.BTreeSet.{contains}
use Rattle.std.specs.List.{list_any}
use Rattle.std.specs.Ordering.{nat_cmp}
use Rattle.statement.specs.Stated.{lies_within}
use Rattle.statement.specs.declared.stated.Loop.{Loop}
use Rattle.text_explained.specs.PartSums.{passes_at}
use Rattle.text_explained.proofs.LoopPartLaws.{around_place}
use Rattle.text_explained.proofs.SetLaws.{has}
use Rattle.text_explained.proofs.loop_table.LoopTableParts.around.Goals as goal

pub returns : goal.returns
returns c = λ n.
    let t = c.args.self.now in
    let shown = c.items.result.now in
    let among = list_any (λ call. passes_at t.loops.now (λ (l : Loop). lies_within t.apart.now l.first call l.last) n) shown in
    around_place t.apart.now t.loops.now n c.args.edge.now.from _ shown _ (contains nat_cmp c.add_calls.new.parts n) (contains nat_cmp c.add_to.new.parts n) c.in-At.is c.items.ensures.value
    (c.in_ok-add_calls.ensures n ∙ ap (λ ks. has ks n || among) c.new-parts.ensures.empty) (c.in_ok-add_to.ensures n)

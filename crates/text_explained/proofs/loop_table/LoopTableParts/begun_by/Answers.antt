use Rattle.std.proofs.Common.{◌∙◌, ap, ℕ}
use Rattle.std.specs.Prelude.{◌||◌, ◌&&◌}
use Rattle.std.specs.BTreeSet.{contains}
use Rattle.std.specs.Ordering.{nat_cmp}
use Rattle.loop_bounds.specs.Instance.{is_back_edge_of}
use Rattle.statement.specs.declared.stated.Loop.{Loop}
use Rattle.text_explained.specs.PartSums.{passes_at}
use Rattle.text_explained.specs.Sums.{is_in_loop}
use Rattle.text_explained.proofs.LoopPartLaws.{begun_inside}
use Rattle.text_explained.proofs.SetLaws.{all_put, has, test_next}
use Rattle.text_explained.proofs.loop_table.LoopTableParts.begun_by.Goals as goal

pub loop-number-init : goal.loop-number-init
loop-number-init c = λ n.
    let t = c.args.self.now in
    let back = passes_at t.loops.now (λ (x : Loop). is_back_edge_of t.apart.now x c.args.edge.now) n in
    ap (λ ks. has ks n || (has c.into_iter-number-iterator.result n && back)) c.new-begun.ensures.empty
    ∙ ap (λ ks. has ks n && back) c.into_iter-number-iterator.ensures.into_iter_gives.0 ∙ ap (λ b. b && back) (c.in_ok-around.ensures n)

pub loop-number-preserved : goal.loop-number-preserved
loop-number-preserved c =
    let t = c.args.self.now in
    let back = passes_at t.loops.now (λ (x : Loop). is_back_edge_of t.apart.now x c.args.edge.now) in
    let inside = passes_at t.loops.now (λ (x : Loop). is_in_loop t.apart.now x c.args.edge.now.from) in
    test_next (contains nat_cmp c.loop-number.begun) (contains nat_cmp c.insert_if.new.parts) (λ (n : ℕ). inside n && back n) c.in-Some.number.now c.loop-number.number-iterator c.next.new.self
    c.in-Some.ensures.steps back c.loop-number.invariant c.is_back_edge-is_begun.result c.is_back_edge-is_begun.ensures c.in_ok-insert_if.ensures

pub returns : goal.returns
returns c = λ n.
    let t = c.args.self.now in
    let back = passes_at t.loops.now (λ (x : Loop). is_back_edge_of t.apart.now x c.args.edge.now) n in
    let inside = passes_at t.loops.now (λ (x : Loop). is_in_loop t.apart.now x c.args.edge.now.from) n in
    all_put (contains nat_cmp c.loop-number.begun n) (inside && back) (has c.loop-number.number-iterator n && back) (ap (λ ks. has ks n && back) c.in-None.ensures.steps.0)
    (c.loop-number.invariant n)
    ∙ begun_inside t.apart.now t.loops.now n c.args.edge.now

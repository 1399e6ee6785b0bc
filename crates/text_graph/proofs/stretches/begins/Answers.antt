use Rattle.std.proofs.Common.{rules, ◌≡◌, ◌∙◌, ◌<◌, Bool, List, None, Vec, ap, false, get_or, length, subst, sym}
use Rattle.std.specs.Global.{Global}
use Rattle.std.proofs.Math.ListN.{length-set, set}
use Rattle.text_graph.specs.Stretches.{end_of, leads_on, next_of}
use Rattle.text_graph.proofs.ChainLaws.{begins_same, begins_set}
use Rattle.text_graph.proofs.NodeLaws.{way}
use Rattle.text_graph.proofs.StraightLaws.{next_none, next_parts}
use Rattle.text_graph.proofs.stretches.begins.Goals.{in-Some, in_default}
use Rattle.text_graph.proofs.stretches.begins.Goals as goal

pub loop-number-preserved : goal.loop-number-preserved
loop-number-preserved c =
    let flow = c.args.drawn.graph.now in
    let tree = c.args.drawn.tree.now in
    let old = c.loop-number.begins.items in
    let i = c.loop-number.number in
    elim c.match-next_of.branch [
      | in-Some w ↦
          let next = w.in-Some.next in
          let parts = next_parts flow tree i next (sym c.next_of.ensures ∙ w.in-Some.is) in
          let end_in : end_of flow tree i < length flow.places = (way flow tree i parts.0).inside in
          let is : c.match-next_of.begins.items ≡ set old next false = ap (λ (v : Vec Bool Global). v.items) w.begins-is in
          record {
            whole = ap (λ (bs : List Bool). length bs) is ∙ length-set old next false ∙ c.loop-number.invariant.whole;
            each = λ n few.
                ap (λ (bs : List Bool). get_or bs n false) is
                ∙ begins_set (leads_on flow tree) (end_of flow tree) (length flow.places) i next old c.loop-number.invariant.whole (subst (λ k. k < length flow.places) parts.1 end_in) parts.0 parts.1
                c.loop-number.invariant.each n few;
          }
      | in_default w ↦
          let none : next_of flow tree i ≡ None = search rules in
          let is : c.match-next_of.begins.items ≡ old = ap (λ (v : Vec Bool Global). v.items) w.begins-is in
          record {
            whole = ap (λ (bs : List Bool). length bs) is ∙ c.loop-number.invariant.whole;
            each = λ n few.
                ap (λ (bs : List Bool). get_or bs n false) is ∙ c.loop-number.invariant.each n few
                ∙ sym (begins_same (leads_on flow tree) (end_of flow tree) i n (next_none flow tree i none));
          }
    ]

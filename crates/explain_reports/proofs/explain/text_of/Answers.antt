use Rattle.std.proofs.Common.{rules, subst}
use Rattle.image.specs.Image.{Words}
use Rattle.longest_walk.specs.Folded.{unfolded}
use Rattle.text_explained.specs.Assumed.{AreAssumptions}
use Rattle.text_explained.specs.Idle.{AreIdleEntries}
use Rattle.text_explained.specs.Rules.{AreRuleLines}
use Rattle.text_explained.specs.Costing.{first_of}
use Rattle.text_explained.specs.Printed.{IsTable}
use Rattle.text_explained.specs.Table.{starts_of}
use Rattle.text_explained.specs.Sums.{AreRoutineSums}
use Rattle.text_masked.specs.Sections.{AreMaskSections}
use Rattle.text_savings.specs.Sections.{IsSavingsText}
use Rattle.walk_contradictions.specs.Contradictions.{IsContradictionSection}
use Rattle.explain_reports.proofs.explain.text_of.Goals as goal

-- the handler's image is the source's
pub returns : goal.returns
returns c =
    let walk = c.args.walk in
    let h = walk.counted.handler.now in
    let read = c.args.read.now in
    let longest = walk.counted.longest.now in
    record {
      table = c.in_ok-text.text.items;
      burst_lines = c.in_ok-rest.rest.items;
      loop_sums = c.in_ok-loops.loops.items;
      routine_sums = c.in_ok-routines.routines.items;
      contradictions = c.in_ok-contradictions.contradictions.items;
      assumptions = c.in_ok-assumptions.assumptions.items;
      rules = c.in_ok-rules.rules.items;
      idle = c.in_ok-idle.idle.items;
      masks = c.in_ok-masks.masks.items;
      savings = c.in_ok-saved.saved.items;
      is_table = subst (λ (w : Words). IsTable read w h.statement h.graph (unfolded longest.walk) (starts_of h.graph.places walk.starts.latest.now (first_of walk.starts.first)) longest.bound walk.rows c.in_ok-text.text.items) c.requires.image c.in_ok-text.ensures;
      are_burst_lines = c.in_ok-rest.ensures;
      are_loop_sums = c.in_ok-loops.ensures read c.requires.lines;
      are_routine_sums = subst (λ (w : Words). AreRoutineSums read w h.graph (unfolded longest.walk) longest.bound c.in_ok-routines.routines.items) c.requires.image (c.in_ok-routines.ensures read c.requires.lines);
      are_contradictions = subst (λ (w : Words). IsContradictionSection read w (unfolded longest.walk) c.in_ok-contradictions.contradictions.items) c.requires.image c.in_ok-contradictions.ensures;
      are_assumptions = subst (λ (w : Words). AreAssumptions read w h.statement h.graph c.in_ok-assumptions.assumptions.items) c.requires.image c.in_ok-assumptions.ensures;
      are_rules = subst (λ (w : Words). AreRuleLines w h.statement h.graph c.in_ok-rules.rules.items) c.requires.image c.in_ok-rules.ensures;
      are_idle = subst (λ (w : Words). AreIdleEntries w h.statement h.graph c.in_ok-idle.idle.items) c.requires.image c.in_ok-idle.ensures;
      are_masks = subst (λ (w : Words). AreMaskSections read w h.statement.loops h.graph c.in_ok-masks.masks.items) c.requires.image c.in_ok-masks.ensures;
      are_savings = subst (λ (w : Words). IsSavingsText read w h.statement h.graph (unfolded longest.walk) c.in_ok-saved.saved.items) c.requires.image (c.in_ok-saved.ensures c.requires.lines);
      text_is = search rules;
    }

use Rattle.std.proofs.Common.{◌≡◌, ◌∙◌, List, ℕ, ap, subst}
use Rattle.std.proofs.lemmas.Result.{IfOk-weaker}
use Rattle.control_flow.specs.declared.edges.Edge.{Edge}
use Rattle.text_explained.specs.Assumed.{AreNamedRows}
use Rattle.text_rows.specs.Rows.{section}
use Rattle.text_masked.specs.Sections.{step_heading}
use Rattle.text_masked.specs.Steps.{AreLeftAtCost, longest_ticks}
use Rattle.text_masked.proofs.sections.step_section.Goals as goal

pub returns : goal.returns
returns c =
    let named = c.in_ok-named.named.items in
    let edges = c.args.graph.now.edges in
    let ticks_are : c.longest_ticks-ticks.result ≡ longest_ticks edges = c.longest_ticks-ticks.ensures ∙ ap (λ (es : List Edge). longest_ticks es) c.edges.ensures.value in
    let heading_is : c.deref-2.result.now ≡ step_heading (longest_ticks edges) = c.deref-2.ensures.value ∙ c.in_ok-heading.ensures ∙ ap (λ (n : ℕ). step_heading n) ticks_are in
    IfOk-weaker c.section.result _ _
    (λ text is. record {
      named = named;
      rows = c.in_ok-rows.rows.items;
      are_named = subst (λ (n : ℕ). AreLeftAtCost edges n named) ticks_are (subst (λ (es : List Edge). AreLeftAtCost es c.longest_ticks-ticks.result named) c.edges-2.ensures.value c.in_ok-named.ensures);
      are_rows = subst (λ (v : List ℕ). AreNamedRows c.args.source.now v c.in_ok-rows.rows.items) c.deref.ensures.value c.in_ok-rows.ensures;
      text_is = is ∙ (λ j. section (heading_is j) (c.deref-3.ensures.value j));
    })
    c.section.ensures

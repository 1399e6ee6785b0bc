use Rattle.std.proofs.Common.{ℕ, List, Option, refl, subst}
use Rattle.handlers.specs.Refusal.{fault_only}
use Rattle.handlers.proofs.RefusalLemmas.{only_err}
use Rattle.known_words.specs.declared.given.Given.{Given}
use Rattle.handlers.specs.declared.refusal.Refusal.TheVariants as refusal
use Rattle.arcwcet.specs.Facts.{AreFacts, HasNoFacts, facts_file}
use Rattle.arcwcet.specs.Kept.{inputs_lent}
use Rattle.arcwcet.specs.Reports.{justified}
use Rattle.arcwcet.specs.Run.{PrintsReport}
use Rattle.arcwcet.proofs.RunLemmas.{with_facts, without_facts}
use Rattle.arcwcet.proofs.reports.print_given.Goals as goal

pub returns-in_err-facts : goal.returns-in_err-facts
returns-in_err-facts g c =
    let i = inputs_lent c.args.inputs in
    let fault = c.in_err-facts.field-0.0 in
    let q = c.from_residual.result in
    without_facts g.O.Output.taken g.O.Output.failures c.args.out.now c.args.out.now (facts_file i) (justified i c.args.all) refl fault
    (subst (λ (file : Option (List ℕ)). HasNoFacts file fault) c.facts_file.ensures c.in_err-facts.ensures.none)
    (fault_only q) (only_err q (refusal.Alone fault) c.from_residual.ensures.1)

pub returns : goal.returns
returns g c =
    let i = inputs_lent c.args.inputs in
    let facts = c.in_ok-facts.facts.items in
    with_facts g.O.Output.taken g.O.Output.failures c.args.out.now c.print_justified.new.out (facts_file i) (justified i c.args.all) facts
    (subst (λ (file : Option (List ℕ)). AreFacts file facts) c.facts_file.ensures c.in_ok-facts.ensures.are)
    (fault_only c.print_justified.result)
    (subst (λ (l : List Given). PrintsReport g.O.Output.taken g.O.Output.failures (justified i c.args.all l) c.args.out.now c.print_justified.new.out (fault_only c.print_justified.result)) c.deref.ensures.value c.print_justified.ensures)

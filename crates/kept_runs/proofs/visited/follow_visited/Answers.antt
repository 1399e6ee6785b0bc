use Rattle.std.proofs.Common.{◌∙◌, ◌+◌, ap, length, sym}
use Rattle.walk_counts.proofs.StayLemmas.{spans_end}
use Rattle.std.proofs.lemmas.List.{length-replicate}
use Rattle.kept_runs.specs.Visited.{handled}
use Rattle.kept_runs.proofs.SoFar.{can_begin}
use Rattle.kept_runs.proofs.SoFarBoth.{not_at_entry}
use Rattle.kept_runs.proofs.visited.follow_visited.Goals as goal

pub headers-requires-clause-ended : goal.headers-requires-clause-ended
headers-requires-clause-ended c =
    spans_end c.args.handlers.irq.now.graph c.args.handlers.irq.now.tree c.requires.irq.tree_is c.spans.result.now (length c.places-irq_exit.result.now) c.spans.ensures (ap length c.places-irq_exit.ensures.value)

pub headers-requires-2-clause-ended : goal.headers-requires-2-clause-ended
headers-requires-2-clause-ended c =
    spans_end c.args.handlers.fiq.now.graph c.args.handlers.fiq.now.tree c.requires.fiq.tree_is c.spans-2.result.now (length c.places-fiq_exit.result.now) c.spans-2.ensures (ap length c.places-fiq_exit.ensures.value)

pub returns-then-at-entry-clause-followed : goal.returns-then-at-entry-clause-followed
returns-then-at-entry-clause-followed c =
    not_at_entry (handled c.args.handlers.irq.now) (handled c.args.handlers.fiq.now) c.places-irq_exit.ensures.well_formed c.requires.irq c.args.machine.now c.args.inputs.now
    c.address-at.result c.address-at.ensures.address (λ is. c.if-at-entry.true (c.address-at.ensures.address ∙ is ∙ sym c.entry.ensures.value))

pub follow_both-requires-clause-can : goal.follow_both-requires-clause-can
follow_both-requires-clause-can c =
    let fresh = c.in_ok-start-2.ensures in
    record {
      can =
          can_begin c.args.handlers.irq.now.image.now c.args.handlers.irq.now.statement c.args.handlers.irq.now.graph c.args.handlers.irq.now.tree c.places-irq_exit.ensures.well_formed c.requires.irq c.args.machine.now c.args.inputs.now
          c.in_ok-start.field-0 c.requires.machine (sym c.address-at.ensures.address ∙ c.if-at-entry.false ∙ c.entry.ensures.value)
          c.in_ok-start.ensures (ap length c.places-irq_exit.ensures.value);
      room = record {
        turns = ap length fresh.turns_are ∙ length-replicate _ 0 ∙ ap (λ n. n + 1) (ap length c.places-fiq_exit.ensures.value);
        places = ap length fresh.tally_is ∙ length-replicate _ _ ∙ ap length c.places-fiq_exit.ensures.value;
      };
    }

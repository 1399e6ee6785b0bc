use Rattle.std.proofs.Common.{ap, map, ◌∙◌}
use Rattle.std.specs.Result.{result_ok}
use Rattle.toml.specs.View.{view}
use Rattle.image.specs.Labels.{address_of}
use Rattle.statement.specs.PlaceTests.{destination_repeats, entry_repeats, rule_meetings}
use Rattle.statement.proofs.RepeatLemmas.{map_twice}
use Rattle.statement.proofs.places.Document.new.Goals as goal

pub invariant_of-result : goal.invariant_of-result
invariant_of-result c =
    let names = address_of c.args.labels.now in
    record {
      stored = record {
        targets_known = c.in_ok-entry_repeats.ensures ∙ ap (entry_repeats names) c.entries_at-targets.ensures;
        accesses_known = c.in_ok-entry_repeats-2.ensures ∙ ap (entry_repeats names) c.entries_at-accesses.ensures;
        rules_known = c.in_ok-rule_meetings.ensures ∙ ap (rule_meetings names) c.entries_at-3.ensures;
        multiplies_known = c.in_ok-entry_repeats-3.ensures ∙ ap (entry_repeats names) c.entries_at.ensures;
        branches_known = c.in_ok-entry_repeats-4.ensures ∙ ap (entry_repeats names) c.entries_at-2.ensures;
        destinations_known =
            c.in_ok-all_destination_repeats.ensures
            ∙ map_twice (destination_repeats names) view c.entries_at-targets.result.now
            ∙ ap (map (destination_repeats names)) c.entries_at-targets.ensures;
        apart_known = c.ok.ensures.value ∙ ap result_ok c.in_ok-apart_in.ensures;
      };
    }

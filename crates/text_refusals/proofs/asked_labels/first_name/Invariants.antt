use Rattle.std.proofs.Common.{◌≡◌, drop, map}
use Rattle.text_refusals.specs.AskedLabels.{first_name}
use Rattle.text_refusals.specs.Courses.{at_front}
use Rattle.text_refusals.specs.FaultyItems.{has_in}
use Rattle.text_refusals.specs.Outline.{item_of}
use Rattle.text_refusals.proofs.CourseLemmas.{IsUpTo}
use Rattle.text_refusals.proofs.asked_labels.first_name.Given as goal

abbrev pub invariant-loop-index : goal.invariant-loop-index
invariant-loop-index l = record {
  within : IsUpTo l.index l.course;
  same : first_name l.labels (has_in l.asked) l.course (map item_of (drop l.index l.items))
      ≡ first_name l.labels (has_in l.asked) at_front (map item_of l.items);
}

use Rattle.std.proofs.Common.{refl}
use Rattle.std.specs.Prelude.{slice_index}
use Rattle.known_words.proofs.TurningLemmas.{sum_becomes}
use Rattle.known_words.proofs.turning.sum_before.Goals as goal

pub returns : goal.returns
returns c = λ entry before after word t p.
    let o = c.added_before-outermost.result in
    let s = c.added_before-second.result in
    let h = c.added_before-third.result in
    let f = c.added_before-fourth.result in
    sum_becomes entry before after
    (record {
      start = c.args.next.start;
      least = c.least_before-least.result;
      width = c.args.next.width;
      steps = record { outermost = o.step; second = s.step; third = h.step; fourth = f.step };
    })
    c.args.next word o.once s.once h.once f.once refl refl c.least_before-least.ensures
    (c.added_before-outermost.ensures (slice_index before 0) (slice_index after 0) t.outermost)
    (c.added_before-second.ensures (slice_index before 1) (slice_index after 1) t.second)
    (c.added_before-third.ensures (slice_index before 2) (slice_index after 2) t.third)
    (c.added_before-fourth.ensures (slice_index before 3) (slice_index after 3) t.fourth) p

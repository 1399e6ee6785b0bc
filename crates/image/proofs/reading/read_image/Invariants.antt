use Rattle.std.proofs.Common.{◌≡◌, ◌-◌, ◌≤◌}
use Rattle.image.specs.Image.{runs_of}
use Rattle.image.specs.ImageBytes.{image_read, segments_read}
use Rattle.image.proofs.reading.read_image.Given as goal

abbrev pub invariant-loop-done : goal.invariant-loop-done
invariant-loop-done l = (image_read l.bytes ≡ segments_read (l.count - l.done) l.image l.rest) × (runs_of l.image ≤ l.done) × (l.done ≤ l.count)

use Rattle.std.proofs.Common.{◌≡◌, drop, map}
use Rattle.std.specs.Prelude.{find}
use Rattle.text_refusals.specs.Nearest.{is_changed}
use Rattle.text_refusals.proofs.nearest.changed_name.Given as goal

abbrev pub invariant-loop-name : goal.invariant-loop-name
invariant-loop-name l =
    find (is_changed l.changes l.word) (map (λ n. n.now) (drop l.name-index l.names))
    ≡ find (is_changed l.changes l.word) (map (λ n. n.now) l.names)

use Rattle.std.proofs.Common.{◌++◌, [], ◌∷◌, List, ℕ, map, rules}
use Rattle.std.proofs.lemmas.List.Sorted.{IsPartitionPoint-from_clause}
use Rattle.control_flow.specs.declared.places.Place.{Place}
use Rattle.statement.specs.Stated.{lies_at}
use Rattle.loop_bounds.specs.Keys.{is_before, key_of}
use Rattle.loop_bounds.proofs.KeyLemmas.{parted, point_from}
use Rattle.loop_bounds.proofs.numbering.point.Goals as goal

pub returns : goal.returns
returns c =
    let apart = c.args.apart.now in
    let bound : List ℕ = map (lies_at apart) c.args.calls ++ c.args.number ∷ [] in
    let parts = IsPartitionPoint-from_clause (λ (p : Place). is_before (key_of apart p) bound) _ _ c.partition_point.ensures.partitioned (parted apart c.args.listed.now bound c.requires) (λ a r q k. search rules) in
    point_from apart c.args.listed.now bound c.partition_point.result c.partition_point.ensures.bound parts

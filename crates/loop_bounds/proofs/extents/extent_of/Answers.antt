use Rattle.std.proofs.Common.{◌≡◌, ◌+◌, ◌++◌, [], ◌∷◌, ℕ, map, subst}
use Rattle.statement.specs.Stated.{lies_at}
use Rattle.loop_bounds.specs.Extents.{found_instance}
use Rattle.loop_bounds.specs.Keys.{IsPoint}
use Rattle.loop_bounds.proofs.ExtentOf.{extent_is, extent_some}
use Rattle.loop_bounds.proofs.extents.extent_of.Goals as goal

pub returns-clause-is : goal.returns-clause-is
returns-clause-is c =
    let apart = c.args.apart.now in
    let key = map (lies_at apart) c.args.found.now.list in
    let first_at : IsPoint apart c.args.listed.now (key ++ lies_at apart c.args.found.now.stated.first ∷ []) c.point.result = rw c.lies_at.ensures at c.point.ensures in
    let end_at : IsPoint apart c.args.listed.now (key ++ (lies_at apart c.args.found.now.stated.last + 1) ∷ []) c.point-2.result = rw c.lies_at-2.ensures at c.point-2.ensures in
    let header_at : IsPoint apart c.args.listed.now (key ++ lies_at apart c.args.found.now.stated.header ∷ []) c.point-3.result = rw c.lies_at-3.ensures at c.point-3.ensures in
    extent_is c.args.listed.now (found_instance apart c.args.found.now) c.requires.listed c.point.result c.point-2.result c.point-3.result c.args.instance first_at end_at header_at c.requires.reached c.requires.stated.within.0 c.requires.stated.within.1

pub returns-clause-some : goal.returns-clause-some
returns-clause-some c =
    let apart = c.args.apart.now in
    let key = map (lies_at apart) c.args.found.now.list in
    let first_at : IsPoint apart c.args.listed.now (key ++ lies_at apart c.args.found.now.stated.first ∷ []) c.point.result = rw c.lies_at.ensures at c.point.ensures in
    let end_at : IsPoint apart c.args.listed.now (key ++ (lies_at apart c.args.found.now.stated.last + 1) ∷ []) c.point-2.result = rw c.lies_at-2.ensures at c.point-2.ensures in
    let header_at : IsPoint apart c.args.listed.now (key ++ lies_at apart c.args.found.now.stated.header ∷ []) c.point-3.result = rw c.lies_at-3.ensures at c.point-3.ensures in
    extent_some c.args.listed.now (found_instance apart c.args.found.now) c.requires.listed c.point.result c.point-2.result c.point-3.result c.args.instance first_at end_at header_at c.requires.reached c.requires.stated.within.0 c.requires.stated.within.1

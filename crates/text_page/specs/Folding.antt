-- What can be folded, by the record that private functions are handed.
use Rattle.std.specs.BTreeMap.{get}
use Rattle.std.specs.BTreeSet.{contains}
use Rattle.std.specs.Ordering.{nat_cmp}
use Rattle.text_page.specs.Folds.{Parts}
use Rattle.text_page.specs.declared.folds.Foldable.{Foldable}

abbrev pub parts_in : Foldable → Parts
parts_in f =
    record { entry = f.entry; called = contains nat_cmp f.called; loop_from = get nat_cmp f.loops }

use Rattle.std.proofs.Common.{◌≡◌, map, take}
use Rattle.toml.specs.View.{view}
use Rattle.machine_file.specs.Written.{page_data}
use Rattle.machine_file.proofs.writing.page_values.Given as goal

abbrev pub invariant-loop-page : goal.invariant-loop-page
invariant-loop-page l = map view l.values.items ≡ map page_data (take l.page-index l.pages)

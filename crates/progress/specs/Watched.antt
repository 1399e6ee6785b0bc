-- Of a watched output: what is said of the output in it.
use Rattle.progress.specs.declared.watched.WatchedOutput.{WatchedOutput}

abbrev pub inner : {O L T : Type 0} → (O → T) → WatchedOutput O L → T
inner f watched = f watched.out

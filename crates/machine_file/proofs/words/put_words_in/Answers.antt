use Rattle.std.proofs.Common.{◌∙◌, ap, sym}
use Rattle.toml.specs.View.{table_view}
use Rattle.toml_reading.specs.Documents.{tables_at}
use Rattle.toml_reading.specs.Readings.{items_in}
use Rattle.machine_file.specs.MachineFaults.{machine_faults}
use Rattle.machine_file.specs.MachineFile.{put_word_at}
use Rattle.machine_file.proofs.PutWordLemmas.{words_held}
use Rattle.machine_file.proofs.words.put_words_in.Goals as goal

pub each_once-requires : goal.each_once-requires
each_once-requires c =
    words_held
    (table_view c.args.table.now)
    c.in-Ok.words.items
    (ap (tables_at machine_faults put_word_at) (sym c.value_at.ensures) ∙ sym c.in_ok-words.ensures ∙ ap items_in c.in-Ok.is)

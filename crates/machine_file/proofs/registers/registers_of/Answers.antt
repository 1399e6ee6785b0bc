use Rattle.std.proofs.Common.{◌≡◌, length, sym, subst}
use Rattle.std.specs.Prelude.{IfOk}
use Rattle.toml.specs.View.{table_view}
use Rattle.toml_reading.proofs.ReadingLemmas.{all_length}
use Rattle.machine_file.specs.MachineFaults.{machine_faults}
use Rattle.machine_file.specs.MachineFile.{register_in}
use Rattle.machine_file.specs.Names.{named_registers}
use Rattle.machine_file.proofs.registers.registers_of.Goals as goal

pub as_bank-reading-requires : goal.as_bank-reading-requires
as_bank-reading-requires c =
    subst (λ r. IfOk r (λ list. length list ≡ 26)) (sym c.in_ok-words.ensures) (all_length machine_faults (register_in (table_view c.args.table.now)) named_registers)

use Rattle.std.proofs.Common.{inl}
use Rattle.std.proofs.lemmas.Option.{MatchOption-at_some}
use Rattle.std.proofs.lemmas.Result.{IfOk-weaker}
use Rattle.toml.specs.View.{table_view}
use Rattle.toml_reading.specs.Documents.{IsDocument, IsNoDocument}
use Rattle.machine_file.specs.MachinePlaceTests.{found}
use Rattle.machine_file.specs.MachinePlaces.{IsMachineFaultAt}
use Rattle.text_refusals.specs.FileTexts.{machine_rows}
use Rattle.text_refusals.specs.MachineSpots.{machine_tables}
use Rattle.text_refusals.specs.Refused.{IsRowsText}
use Rattle.text_refusals.proofs.FileLemmas.{machine_tells}
use Rattle.text_refusals.proofs.file_texts.faulty_machine.Goals as goal

pub returns : goal.returns
returns c =
    let d = c.in_ok-document.document in
    let text = c.args.text.now in
    let table = c.in-Some.table in
    IfOk-weaker c.file_text.result _ (λ out. IsRowsText IsMachineFaultAt machine_rows machine_tables text c.args.fault out.items)
    (λ out is. inl (record {
      members = table_view table;
      document = MatchOption-at_some (IsNoDocument text) (λ t. IsDocument text (table_view t)) table c.in-Some.is c.in_ok-table.ensures;
      has = λ s. found (table_view d.table.now) s c.args.fault;
      tells = machine_tells d.table.now table c.args.fault c.in_ok-document.ensures;
      out_is = is;
    }))
    c.file_text.ensures

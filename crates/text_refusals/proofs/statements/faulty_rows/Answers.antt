use Rattle.std.proofs.Common.{inl}
use Rattle.std.proofs.lemmas.Option.{MatchOption-at_some}
use Rattle.std.proofs.lemmas.Result.{IfOk-weaker}
use Rattle.toml.specs.View.{table_view}
use Rattle.toml_reading.specs.Documents.{IsDocument, IsNoDocument}
use Rattle.image.specs.Labels.{address_of}
use Rattle.statement.specs.PlaceTests.{found}
use Rattle.statement.specs.Places.{IsFaultAt}
use Rattle.text_refusals.specs.Refused.{IsRowsText, all_rows, statement_tables}
use Rattle.text_refusals.proofs.AskedLemmas.{tells_of}
use Rattle.text_refusals.proofs.statements.faulty_rows.Goals as goal

pub returns : goal.returns
returns c =
    let d = c.in_ok-document.document in
    let text = c.args.text.now in
    let table = c.in-Some.table in
    IfOk-weaker c.rows_text.result _ (λ out. IsRowsText (IsFaultAt (address_of c.args.labels.now)) all_rows statement_tables text c.args.fault out.items)
    (λ out is. inl (record {
      members = table_view table;
      document = MatchOption-at_some (IsNoDocument text) (λ t. IsDocument text (table_view t)) table c.in-Some.is c.in_ok-table.ensures;
      has = λ s. found (address_of d.labels.now) (table_view d.table.now) s c.args.fault;
      tells = tells_of d.labels.now c.args.labels.now d.table.now table c.args.fault c.in_ok-document.ensures.labels c.in_ok-document.ensures.table;
      out_is = is;
    }))
    c.rows_text.ensures

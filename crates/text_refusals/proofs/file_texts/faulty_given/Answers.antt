use Rattle.std.proofs.Common.{inl}
use Rattle.std.proofs.lemmas.Option.{MatchOption-at_some}
use Rattle.std.proofs.lemmas.Result.{IfOk-weaker}
use Rattle.toml.specs.View.{table_view}
use Rattle.toml_reading.specs.Documents.{IsDocument, IsNoDocument}
use Rattle.given_facts.specs.GivenPlaceTests.{found}
use Rattle.given_facts.specs.GivenPlaces.{IsGivenFaultAt}
use Rattle.text_refusals.specs.FileTexts.{given_rows}
use Rattle.text_refusals.specs.GivenSpots.{given_tables}
use Rattle.text_refusals.specs.Refused.{IsRowsText}
use Rattle.text_refusals.proofs.FileLemmas.{given_tells}
use Rattle.text_refusals.proofs.file_texts.faulty_given.Goals as goal

pub returns : goal.returns
returns c =
    let d = c.in_ok-document.document in
    let text = c.args.text.now in
    let table = c.in-Some.table in
    IfOk-weaker c.file_text.result _ (λ out. IsRowsText IsGivenFaultAt given_rows given_tables text c.args.fault out.items)
    (λ out is. inl (record {
      members = table_view table;
      document = MatchOption-at_some (IsNoDocument text) (λ t. IsDocument text (table_view t)) table c.in-Some.is c.in_ok-table.ensures;
      has = λ s. found (table_view d.table.now) s c.args.fault;
      tells = given_tells d.table.now table c.args.fault c.in_ok-document.ensures;
      out_is = is;
    }))
    c.file_text.ensures

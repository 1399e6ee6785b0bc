use Rattle.std.proofs.Common.{inl}
use Rattle.std.proofs.lemmas.Option.{MatchOption-at_some}
use Rattle.std.proofs.lemmas.Result.{IfOk-weaker}
use Rattle.toml.specs.View.{table_view}
use Rattle.toml_reading.specs.Documents.{IsDocument, IsNoDocument}
use Rattle.machine_file.specs.ProfilePlaceTests.{found}
use Rattle.machine_file.specs.ProfilePlaces.{IsProfileFaultAt}
use Rattle.text_refusals.specs.FileTexts.{profile_rows}
use Rattle.text_refusals.specs.ProfileSpots.{profile_tables}
use Rattle.text_refusals.specs.Refused.{IsRowsText}
use Rattle.text_refusals.proofs.FileLemmas.{profile_tells}
use Rattle.text_refusals.proofs.file_texts.faulty_profile.Goals as goal

pub returns : goal.returns
returns c =
    let text = c.args.text.now in
    let table = c.in-Some.table in
    IfOk-weaker c.file_text.result _ (λ out. IsRowsText IsProfileFaultAt profile_rows profile_tables text c.args.fault out.items)
    (λ out is. inl (record {
      members = table_view table;
      document = MatchOption-at_some (IsNoDocument text) (λ t. IsDocument text (table_view t)) table c.in-Some.is c.in_ok-table.ensures;
      has = λ s. found (table_view table) s c.args.fault;
      tells = profile_tells table c.args.fault;
      out_is = is;
    }))
    c.file_text.ensures

use Rattle.std.proofs.Common.{inl}
use Rattle.std.proofs.lemmas.Option.{MatchOption-at_some}
use Rattle.std.proofs.lemmas.Result.{IfOk-weaker}
use Rattle.toml.specs.View.{table_view}
use Rattle.toml_reading.specs.Documents.{IsDocument, IsNoDocument}
use Rattle.image.specs.Labels.{address_of}
use Rattle.statement.specs.PlaceTests.{found}
use Rattle.statement.specs.declared.faults.StatementFault.TheVariants.{UnknownLabel}
use Rattle.text_refusals.specs.AskedLabels.{IsQuestion}
use Rattle.text_refusals.proofs.AskedLemmas.{tells_of}
use Rattle.text_refusals.proofs.asked_labels.unknown_label_question.Goals as goal

pub returns : goal.returns
returns c =
    let d = c.in_ok-document.document in
    let text = c.args.text.now in
    let table = c.in-Some.table in
    IfOk-weaker c.asked_question.result _ (λ out. IsQuestion c.args.source.now text UnknownLabel out.items)
    (λ out is. inl (record {
      members = table_view table;
      document = MatchOption-at_some (IsNoDocument text) (λ t. IsDocument text (table_view t)) table c.in-Some.is c.in_ok-table.ensures;
      has = λ s. found (address_of d.labels.now) (table_view d.table.now) s UnknownLabel;
      tells = tells_of d.labels.now c.args.source.now.labels d.table.now table UnknownLabel c.in_ok-document.ensures.labels c.in_ok-document.ensures.table;
      asks = is;
    }))
    c.asked_question.ensures

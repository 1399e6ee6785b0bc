use Rattle.std.proofs.Common.{◌≡◌, ◌++◌, List, sym, ap, ◌∙◌, subst}
use Rattle.std.specs.Prelude.{String}
use Rattle.std.specs.declared.alloc.Global.{Global}
use Rattle.toml.specs.Data.{Members}
use Rattle.toml.specs.View.{members_view, table_view}
use Rattle.toml.specs.declared.value.Value.{Value}
use Rattle.machine_file.specs.Stated.{Stated}
use Rattle.machine_file.specs.Written.{controller_rows, device_rows, document_of, processor_rows, schedule_rows, with_rows, word_list_rows}
use Rattle.machine_file.proofs.writing.document.Goals as goal

-- the parts' rows one after another
pub returns-clause-document : goal.returns-clause-document
returns-clause-document c =
    let inside = c.file.inside in
    let file : Stated = record { processor = inside.processor; controller = inside.controller; schedule = inside.schedule; words = inside.words; ioc = inside.ioc; vidc = inside.vidc } in
    let same : file ≡ c.args.file.now = c.file.view_is in
    subst
    (λ (f : Stated). table_view c.set_placed.new.table ≡ document_of f)
    same
    (c.in_ok-set_placed.ensures.rows
    ∙ ap (λ (f : Stated). with_rows (table_view c.set_schedule.new.table) (word_list_rows f.words ++ device_rows f.ioc f.vidc)) (sym same)
    ∙ ap (λ (ms : Members). with_rows ms (word_list_rows file.words ++ device_rows file.ioc file.vidc))
    (c.in_ok-set_schedule.ensures
    ∙ ap (λ (ms : Members). with_rows ms (schedule_rows file.schedule))
    (c.in_ok-set_controller.ensures
    ∙ ap (λ (ms : Members). with_rows ms (controller_rows file.controller))
    (c.in_ok-set_processor.ensures
    ∙ ap (λ (es : List (String Global × Value)). with_rows (members_view es) (processor_rows file.processor)) c.new-table.ensures.empty))))

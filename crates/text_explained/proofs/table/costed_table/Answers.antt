use Rattle.std.proofs.Common.{◌∙◌, ℕ, List, ap, refl, subst}
use Rattle.sources.proofs.RowLaws.{all_appended}
use Rattle.text_rows.specs.Rows.{AreRows}
use Rattle.text_explained.specs.Columns.{other_columns}
use Rattle.text_explained.specs.Dearest.{is_unfolded}
use Rattle.text_explained.specs.Printed.{AreLines, IsLineText, widths_of}
use Rattle.text_explained.specs.declared.folding.TableLine.{TableLine}
use Rattle.text_explained.specs.declared.folding.Total.{Total}
use Rattle.text_explained.specs.declared.printed_rows.Layout.{Layout}
use Rattle.text_explained.specs.declared.table_rows.TableRow.{TableRow}
use Rattle.text_explained.proofs.table.costed_table.Goals as goal

pub returns : goal.returns
returns c =
    let rows = c.keep_dearest.new.rows.items in
    let lines = c.in_ok-lines.lines.items in
    let total : ℕ → Total = λ n. record { ticks = n; bound = c.args.costing.now.bound } in
    let layout : Layout = record { widths = c.in_ok-widths_of.field-0; columns = c.deref-3.result; width = c.args.form.width } in
    record {
      all = c.in_ok-rows.rows.items;
      all_are = c.in_ok-rows.ensures;
      rows = rows;
      rows_are = c.in_ok-keep_dearest.ensures;
      lines = lines;
      lines_are = subst (λ n. AreLines (is_unfolded c.args.form) rows (total n) lines) c.in_ok-all_ticks.ensures
          (subst (λ b. AreLines b rows (total c.in_ok-all_ticks.field-0) lines) c.is_unfolded.ensures
          (subst (λ (rs : List TableRow). AreLines c.is_unfolded.result rs (total c.in_ok-all_ticks.field-0) lines) c.deref.ensures.value c.in_ok-lines.ensures));
      layout = layout;
      layout_is = record {
        widths = c.in_ok-widths_of.ensures ∙ ap widths_of c.deref-2.ensures.value;
        columns = c.deref-3.ensures.value ∙ c.in_ok-columns.ensures ∙ (λ i. other_columns (c.has_first.ensures i) (c.has_lines.ensures i));
        width = refl;
      };
      table = c.put_lines.new.out.items;
      table_is = subst (λ (ls : List TableLine). AreRows (IsLineText layout) ls c.put_lines.new.out.items) c.deref-4.ensures.value
          (all_appended (AreRows (IsLineText layout) c.deref-4.result.now) c.new-out.result.items c.put_lines.new.out.items c.new-out.ensures.items c.in_ok-put_lines.ensures);
      text_is = c.in_ok-put_bound.ensures;
    }

use Rattle.std.proofs.Common.{◌≡◌, ◌∙◌, List, [], ◌++◌, ap, subst, codes, filter}
use Rattle.sources.specs.Lines.{line_of}
use Rattle.text_rows.specs.Rows.{AreRows}
use Rattle.text_explained.specs.declared.table_rows.TableRow.{TableRow}
use Rattle.text_page.specs.Folds.{lines_from, parts_of}
use Rattle.text_page.specs.Noted.{Noted, label_of, noted}
use Rattle.text_page.specs.Noting.{noted_in}
use Rattle.text_page.specs.Page.{heading, is_shown, names}
use Rattle.text_page.specs.Rows.{IsLine}
use Rattle.text_page.specs.declared.page_lines.PageLine.{PageLine}
use Rattle.text_page.proofs.RowLaws.{page_put}
use Rattle.text_page.proofs.document.page.Goals as goal

pub returns : goal.returns
returns c =
    let source = c.args.source.now in
    let image = c.args.walk.handler.now.image.now in
    let st = c.args.walk.handler.now.statement in
    let flow = c.args.walk.handler.now.graph in
    let entry = st.entry in
    let bound = c.args.walk.longest.now.bound in
    let put = c.in_ok-put_lines.ensures in
    let shown : List TableRow = filter (is_shown c.args.extent) c.in_ok-rows.rows.items in
    let noted_there = c.in_ok-notes.ensures source c.in_ok-lines.ensures in
    let noted_is : noted_in c.in_ok-notes.notes ≡ noted source image st shown = noted_there ∙ ap (noted source image st) (c.deref.ensures.value ∙ c.keep_shown.ensures) in
    let rows_are : c.deref-2.result.now ≡ shown = c.deref-2.ensures.value ∙ c.keep_shown.ensures in
    let lines_are : c.deref-3.result.now ≡ lines_from (parts_of st flow) [] shown =
    c.deref-3.ensures.value ∙ c.in_ok-shown.ensures ∙ (λ i. lines_from (c.in_ok-foldable.ensures i) [] (rows_are i)) in
    let entry_is : c.entry-entry.result ≡ entry = c.entry-entry.ensures.value in
    let label_is : c.label_at.result.now ≡ label_of (line_of source entry) =
    c.label_at.ensures ∙ ap (λ (n : Noted). n.label c.entry-entry.result) noted_there ∙ ap (λ a. label_of (line_of source a)) entry_is in
    let head : c.put_heading.new.out.items ≡ heading bound entry (label_of (line_of source entry)) =
    c.in_ok-put_heading.ensures ∙ ap (λ xs. xs ++ heading bound c.entry-entry.result c.label_at.result.now) c.new-out.ensures.items ∙ (λ i. heading bound (entry_is i) (label_is i)) in
    record {
      rows = c.in_ok-rows.rows.items;
      rows_are = c.in_ok-rows.ensures;
      listing = put.0;
      listing_is = subst (λ (n : Noted). AreRows (IsLine n bound) (lines_from (parts_of st flow) [] shown) put.0) noted_is
          (subst (λ (ls : List PageLine). AreRows (IsLine (noted_in c.in_ok-notes.notes) bound) ls put.0) lines_are put.1);
      text_is = page_put (heading bound entry (label_of (line_of source entry))) names put.0 (codes "</body>\n</html>\n")
          c.put_heading.new.out.items c.put_names.new.out.items c.put_lines.new.out.items c.put.new.out.items head c.in_ok-put_names.ensures put.2 c.in_ok-put.ensures;
    }

use Rattle.std.proofs.Common.{OnOk, ℕ, Option, subst, sym}
use Rattle.asm_text.specs.Appended.{Appends}
use Rattle.justify_reports.specs.RowTexts.{IsWordEnd}
use Rattle.justify_reports.proofs.row_texts.put_word_end.Goals as goal

pub returns-in-Some : goal.returns-in-Some
returns-in-Some c =
    subst (λ (w : Option ℕ). OnOk c.put_shown_row.result (Appends (IsWordEnd c.args.used c.args.at w) c.args.out.now.items c.put_shown_row.new.out.items)) (sym c.in-Some.is)
    c.put_shown_row.ensures

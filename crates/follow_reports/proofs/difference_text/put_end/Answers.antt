use Rattle.std.proofs.Common.{subst, sym}
use Rattle.std.specs.Prelude.{option_map}
use Rattle.std.proofs.lemmas.Result.{on_ok_weaker}
use Rattle.asm_text.specs.Appended.{Appends}
use Rattle.text_rows.specs.WordLines.{numbered_at}
use Rattle.follow_reports.specs.DifferenceText.{IsEnd}
use Rattle.follow_reports.proofs.difference_text.put_end.Goals as goal

pub returns-in-None : goal.returns-in-None
returns-in-None c =
    on_ok_weaker c.put_shown_row.result
    (λ adds. subst (λ l. Appends (IsEnd (option_map (λ m. numbered_at m.now) l) c.args.used c.args.difference.now) c.args.out.now.items c.put_shown_row.new.out.items) (sym c.in-None.is) adds)
    c.put_shown_row.ensures

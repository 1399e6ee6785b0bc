use Rattle.std.proofs.Common.{◌≡◌, ◌∙◌, ◌-◌, ◌+◌, ◌++◌, ℕ, List, ap, append_assoc, arith, length, refl, subst}
use Rattle.std.specs.Prelude.{option_map}
use Rattle.std.proofs.lemmas.List.{length-append}
use Rattle.std.proofs.lemmas.Result.{on_ok_weaker}
use Rattle.text_rows.specs.WordLines.{numbered_at}
use Rattle.follow_reports.specs.DifferenceText.{IsEnd, compared_text}
use Rattle.follow_reports.proofs.DifferenceLemmas.{whole_row}
use Rattle.follow_reports.proofs.difference_text.put_row.Goals as goal

pub returns : goal.returns
returns c =
    let old = c.args.out.now in
    let mid = c.put_compared.new.out in
    let used : c.len.result - c.len-begun.result ≡ length mid.items - length old.items = omega (arith, c.len.ensures, c.len-begun.ensures, mid.ok, old.ok) in
    on_ok_weaker c.put_end.result
    (whole_row (option_map (λ l. numbered_at l.now) c.args.lines) c.args.difference.now (c.len.result - c.len-begun.result) old.items mid.items c.put_end.new.out.items
    c.in_ok-put_compared.ensures used)
    c.put_end.ensures

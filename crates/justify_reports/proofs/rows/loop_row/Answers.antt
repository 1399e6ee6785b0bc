use Rattle.std.proofs.Common.{◌≡◌, ◌∙◌, ap, subst, sym, true}
use Rattle.std.specs.Prelude.{◌↔◌}
use Rattle.std.specs.BTreeMap.{get}
use Rattle.std.specs.Ordering.{nat_cmp}
use Rattle.justify_reports.specs.Endless.{IsEndlessAt}
use Rattle.justify_reports.specs.Rows.{loop_entry, loop_verdict}
use Rattle.justify_reports.specs.Trust.{trusts_loop}
use Rattle.justify_reports.proofs.EndlessLemmas.{endless_found}
use Rattle.justify_reports.proofs.rows.loop_row.Goals as goal

pub returns : goal.returns
returns c =
    let tree = c.args.handler.now.tree in
    let left = c.args.left in
    let stated = c.args.stated.now in
    let at = stated.header in
    let endless = c.is_found-endless.result in
    let trusted : c.has_loop-trusted.result ≡ trusts_loop left.trusted.now at = c.has_loop-trusted.ensures ∙ c.requires.sets.loops at in
    let entry : c.loop_entry.result ≡ loop_entry stated.bound (trusts_loop left.trusted.now at) endless =
    c.loop_entry.ensures ∙ ap (λ t. loop_entry stated.bound t endless) trusted in
    let verdict : c.loop_verdict.result ≡ loop_verdict (trusts_loop left.trusted.now at) endless =
    c.loop_verdict.ensures ∙ ap (λ t. loop_verdict t endless) trusted in
    record {
      is_endless = endless;
      endless_is =
          subst (λ b. (b ≡ true) ↔ IsEndlessAt tree left.endless.now at) (sym c.is_found-endless.ensures)
          (endless_found tree left.endless.now at (get nat_cmp left.headers.now at) (c.requires.headers at));
      row_is = λ i. record { entry = entry i; at = at; verdict = verdict i };
    }

use Rattle.std.proofs.Common.{◌⊎◌, [], Result, Ok, Err, inl, inr}
use Rattle.std.specs.Prelude.{MatchResult}
use Rattle.outputs.proofs.PageLaws.{on_from_start}
use Rattle.arcwcet.specs.Refusals.{unread_line}
use Rattle.arcwcet.proofs.status.print_unread_line.Goals as goal

either : {T E : Type 0} (r : Result T E) (P Q : Type 0) → MatchResult r (λ _. P) (λ _. Q) → P ⊎ Q
either (Ok x) P Q h = inl h
either (Err e) P Q h = inr h

pub returns : goal.returns
returns g c =
    let start = on_from_start g.E.Output.taken g.E.Output.failures c.args.err.now c.new-page.result c.new-page.ensures.bytes c.new-page.ensures.failed in
    let line = unread_line c.args.name.now c.args.why.now in
    either c.finish.result _ _ (c.finish.ensures c.args.err.now line (c.put_unread_line.ensures c.args.err.now [] start))

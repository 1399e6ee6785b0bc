use Rattle.std.proofs.Common.{◌++◌, ◌⊎◌, [], Result, Ok, Err, inl, inr}
use Rattle.std.specs.Prelude.{MatchResult}
use Rattle.outputs.proofs.PageLaws.{on_from_start}
use Rattle.handlers.specs.FaultText.{place_text, refusal_line}
use Rattle.handlers.proofs.refusal_line.print_refusal_line.Goals as goal

either : {T E : Type 0} (r : Result T E) (P Q : Type 0) → MatchResult r (λ _. P) (λ _. Q) → P ⊎ Q
either (Ok x) P Q h = inl h
either (Err e) P Q h = inr h

pub returns : goal.returns
returns g c =
    let start =
    on_from_start g.O.Output.taken g.O.Output.failures c.args.out.now c.new-page.result
    c.new-page.ensures.bytes c.new-page.ensures.failed in
    let line = refusal_line (c.args.name.now ++ place_text c.args.place) in
    either c.finish.result _ _
    (c.finish.ensures c.args.out.now line (c.put_refusal_line.ensures c.args.out.now [] start))

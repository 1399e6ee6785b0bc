use Rattle.std.proofs.Common.{◌∙◌, [], subst, sym}
use Rattle.std.specs.Prelude.{IfSome}
use Rattle.known_places.specs.OnTrust.{Justifies}
use Rattle.source_reports.proofs.ProvedLaws.{all_follow}
use Rattle.source_reports.proofs.proof.judged_by.Goals as goal

pub returns-then-all_stands : goal.returns-then-all_stands
returns-then-all_stands c = λ none.
    let h = c.args.handler.now in
    let justifies = subst (λ o. IfSome o (Justifies h.image.now h.statement h.graph [])) c.in-Some.is c.in_ok-left.ensures in
    let all = all_follow h.statement c.in-Some.left c.in_ok-trusted.trusted c.in_ok-trusted.ensures c.args.found.now
    (sym c.all_stands.ensures ∙ c.if-all_stands.true) in
    (c.in-Some.left, justifies, all.0, all.1)

use Rattle.std.proofs.Common.{◌≡◌, ◌∙◌, ap, arith}
use Rattle.text_draft.specs.Rules.{count, of_both}
use Rattle.text_draft.specs.declared.tallies.Tally.{Tally}
use Rattle.text_draft.proofs.TallyLaws.{leads_more, leads_still, tally_count}
use Rattle.text_draft.proofs.rules.more_frequent.Goals as goal

pub returns-then-tally_at : goal.returns-then-tally_at
returns-then-tally_at c = λ accesses are last is h.
    let r = c.args.register in
    let a : c.tally_at.result.count ≡ count accesses r c.args.class = ap (λ (t : Tally). t.count) (c.tally_at.ensures accesses are) ∙ tally_count (of_both accesses r c.args.class) in
    let b : c.tally_at-2.result.count ≡ count accesses r c.args.best = ap (λ (t : Tally). t.count) (c.tally_at-2.ensures accesses are) ∙ tally_count (of_both accesses r c.args.best) in
    leads_more accesses r last c.args.best c.args.class is (omega (arith, a, b, c.if-tally_at.true)) h

pub returns-else-tally_at : goal.returns-else-tally_at
returns-else-tally_at c = λ accesses are last is h.
    let r = c.args.register in
    let a : c.tally_at.result.count ≡ count accesses r c.args.class = ap (λ (t : Tally). t.count) (c.tally_at.ensures accesses are) ∙ tally_count (of_both accesses r c.args.class) in
    let b : c.tally_at-2.result.count ≡ count accesses r c.args.best = ap (λ (t : Tally). t.count) (c.tally_at-2.ensures accesses are) ∙ tally_count (of_both accesses r c.args.best) in
    leads_still accesses r last c.args.best c.args.class is (omega (arith, a, b, c.if-tally_at.false)) h

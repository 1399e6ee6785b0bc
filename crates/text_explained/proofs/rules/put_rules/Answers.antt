use Rattle.std.proofs.Common.{◌≡◌, ℕ, length, subst, sym, rules}
use Rattle.std.specs.Iterator.Adapters.{zip_first, zip_second}
use Rattle.std.specs.Slice.Iter.{iter_rest}
use Rattle.std.proofs.lemmas.List.{length_push}
use Rattle.std.proofs.lemmas.Slice.Zip.{zip_end, zip_turn}
use Rattle.text_explained.specs.Rules.{IsCoverageRow}
use Rattle.text_rows.proofs.RowLaws.{SoFar, so_far_all, so_far_one}
use Rattle.text_explained.proofs.RuleLaws.{coverage_shown, zip_whole}
use Rattle.text_explained.proofs.rules.put_rules.Goals as goal

pub loop-rule-preserved : goal.loop-rule-preserved
loop-rule-preserved c =
    let words = c.args.handler.now.image.now in
    let st = c.args.handler.now.statement in
    let flow = c.args.handler.now.graph in
    let counts = c.args.counts.now in
    let done = length c.loop-rule.yielded in
    let first : iter_rest (zip_first c.into_iter-rule-iterator.result) ≡ st.rules = search rules in
    let second : iter_rest (zip_second c.into_iter-rule-iterator.result) ≡ counts = search rules in
    let turn = zip_turn st.rules counts c.loop-rule.yielded c.into_iter-rule-iterator.result c.loop-rule.rule-iterator c.next.new.self c.next.result first second c.loop-rule.yielded_by
    (c.in-Some.rule, c.in-Some.words) c.in-Some.is c.next.ensures.steps in
    subst (λ (k : ℕ). SoFar (IsCoverageRow words st flow) st.rules k c.args.out.now.items c.put_rule.new.out.items) (sym (length_push c.loop-rule.yielded (c.in-Some.rule, c.in-Some.words)))
    (so_far_one (IsCoverageRow words st flow) st.rules done c.in-Some.rule.now c.args.out.now.items c.loop-rule.out.items c.put_rule.new.out.items c.loop-rule.invariant turn.0
    (coverage_shown words st flow counts c.loop-rule.out.items c.put_rule.new.out.items done c.in-Some.rule.now c.in-Some.rule.now c.in-Some.words.now c.requires turn.0
    (turn.2 c.in-Some.rule.now) (turn.3 0) c.in_ok-put_rule.ensures))

pub returns : goal.returns
returns c =
    let st = c.args.handler.now.statement in
    let counts = c.args.counts.now in
    let first : iter_rest (zip_first c.into_iter-rule-iterator.result) ≡ st.rules = search rules in
    let second : iter_rest (zip_second c.into_iter-rule-iterator.result) ≡ counts = search rules in
    so_far_all (IsCoverageRow c.args.handler.now.image.now st c.args.handler.now.graph) st.rules (length c.loop-rule.yielded) c.args.out.now.items c.loop-rule.out.items c.loop-rule.invariant
    (zip_whole (length st.rules) (length counts) (length c.loop-rule.yielded) c.requires.each_has
    (zip_end st.rules counts c.loop-rule.yielded c.into_iter-rule-iterator.result c.loop-rule.rule-iterator c.next.new.self c.next.result first second c.loop-rule.yielded_by c.in-None.is c.next.ensures.steps))

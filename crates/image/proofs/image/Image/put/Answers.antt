use Rattle.std.proofs.Common.{◌≡◌, ◌≤◌, ◌<◌, ◌^◌, ◌++◌, ◌∙◌, None, length, sym, subst, arith, ap}
use Rattle.image.specs.Image.{Words, put_fault, runs_of, with_word}
use Rattle.image.specs.Inside.{Ascends, HasNumbers, AreAllowed}
use Rattle.image.proofs.GapLemmas.{put_between}
use Rattle.image.proofs.WordLemmas.{Ascends-with_word, AreAllowed-with_word, all_with_word, may_put}
use Rattle.image.proofs.image.Image.put.Goals as goal

pub invariant_of-self-2 : goal.invariant_of-self-2
invariant_of-self-2 c =
    let a = c.args.address in
    let w = c.args.word in
    let words : Words = c.self.inside.below.items ++ c.self.inside.above.items in
    let allowed : put_fault words a w ≡ None = rw c.self.view_is c.in_ok-runs.ensures.allowed in
    let may = may_put words a w allowed in
    let new : c.push.new.self.items ++ c.move_down.new.above.items ≡ with_word words a w =
    put_between words _ _ _ a w (c.in_ok-move_down.ensures.same ∙ c.in_ok-move_up.ensures.same) c.in_ok-move_down.ensures.below
    c.in_ok-move_down.ensures.above allowed c.in_ok-push.ensures.items in
    let counted : c.in_ok-runs.runs ≡ runs_of (with_word words a w) = rw c.self.view_is c.in_ok-runs.ensures.runs in
    record {
      ascends = subst Ascends (sym new) (Ascends-with_word words _ _ c.self.invariant.ascends may.free);
      allowed = subst AreAllowed (sym new) (AreAllowed-with_word words _ _ c.self.invariant.allowed may.may);
      numbers = subst HasNumbers (sym new) (all_with_word (λ e. e.1 < 2 ^ 32) words a w c.self.invariant.numbers c.ranges.word.fits);
      counted = counted ∙ ap runs_of (sym new);
      few_runs = omega (arith, counted, may.few);
      few_words = subst (λ (ws : Words). length ws ≤ 65536) (sym new) may.short;
    }

pub returns-clause-ok : goal.returns-clause-ok
returns-clause-ok c =
    let words : Words = c.self.inside.below.items ++ c.self.inside.above.items in
    let allowed : put_fault words c.args.address c.args.word ≡ None = rw c.self.view_is c.in_ok-runs.ensures.allowed in
    let new =
    put_between words _ _ _ _ _ (c.in_ok-move_down.ensures.same ∙ c.in_ok-move_up.ensures.same) c.in_ok-move_down.ensures.below
    c.in_ok-move_down.ensures.above allowed c.in_ok-push.ensures.items in
    rw (← c.self.view_is) (new, allowed)

use Rattle.std.proofs.Common.{◌∙◌, ap, length, refl, sym, subst, eqb-true, arith}
use Rattle.std.proofs.lemmas.Bool.{eqb-false}
use Rattle.debugger.specs.SessionState.{Ascending}
use Rattle.debugger.proofs.BreakLaws.{ascending_toggled, toggled_longer, toggled_new, toggled_there}
use Rattle.debugger.proofs.session.toggle_break.Goals as goal

pub returns-then-is_set : goal.returns-then-is_set
returns-then-is_set c =
    let there = c.has_at-is_set.ensures.yes c.if-is_set.true in
    let same =
    c.remove.ensures.items ∙ sym (toggled_there c.args.address c.below-at.result c.args.breaks.now.items
    c.below-at.ensures.len there.0 there.1) in
    record {
      ok = same;
      few = omega (arith, ap length same, c.remove.ensures.len, c.below-at.ensures.fits);
      ascending =
          subst Ascending (sym same) (ascending_toggled c.args.address c.args.breaks.now.items c.requires);
      fault = tt;
      unchanged = tt;
    }

pub returns-then-is_full-clause-fault : goal.returns-then-is_full-clause-fault
returns-then-is_full-clause-fault c =
    let longer =
    toggled_longer c.args.address c.below-at.result c.args.breaks.now.items c.below-at.ensures.len
    c.below-at.ensures.within (c.has_at-is_set.ensures.no c.if-is_set.false) in
    (refl, omega (arith, longer, eqb-true _ 16 (sym c.if-is_full.ensures.value)))

pub returns : goal.returns
returns c =
    let other = c.has_at-is_set.ensures.no c.if-is_set.false in
    let address = c.args.address in
    let breaks = c.args.breaks.now.items in
    let longer =
    toggled_longer address c.below-at.result breaks c.below-at.ensures.len c.below-at.ensures.within other in
    let same =
    c.insert.ensures.items
    ∙ sym (toggled_new address c.below-at.result breaks c.below-at.ensures.len other) in
    record {
      ok = same;
      few = omega (arith, longer, c.below-at.ensures.fits, eqb-false _ 16 (sym c.if-is_full.ensures.value));
      ascending = subst Ascending (sym same) (ascending_toggled address breaks c.requires);
      fault = tt;
      unchanged = tt;
    }

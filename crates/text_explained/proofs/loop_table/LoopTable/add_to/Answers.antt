use Rattle.std.specs.BTreeSet.{contains}
use Rattle.std.specs.Ordering.{nat_cmp}
use Rattle.std.proofs.lemmas.Result.{on_ok_weaker}
use Rattle.text_explained.proofs.LoopTableLaws.{under_cut, under_none}
use Rattle.text_explained.proofs.loop_table.LoopTable.add_to.Goals as goal

pub returns-in-Some : goal.returns-in-Some
returns-in-Some c =
    let t = c.args.self.now in
    on_ok_weaker c.add_to.result
    (under_cut t.apart.now t.loops.now t.cuts t.from_cuts.by_key t.is_table c.args.address c.lies_at-word.result c.lies_at-word.ensures c.range.result (c.range.ensures.in_range tt) c.in-Some.cut.now
    c.next_back.new.self c.in-Some.ensures.steps (contains nat_cmp c.args.parts.now) (contains nat_cmp c.add_to.new.parts))
    c.add_to.ensures

pub returns-in-None : goal.returns-in-None
returns-in-None c =
    let t = c.args.self.now in
    under_none t.apart.now t.loops.now t.cuts t.from_cuts.by_key t.is_table c.args.address c.lies_at-word.result c.lies_at-word.ensures c.range.result (c.range.ensures.in_range tt)
    c.in-None.ensures.steps.0 (contains nat_cmp c.args.parts.now)

use Rattle.std.proofs.Common.{rules, ◌≡◌, ◌+◌, ◌*◌, ◌%◌, ◌^◌, length, arith}
use Rattle.memc.proofs.Fresh.{partly_none, partly_more, partly_all, words_long}
use Rattle.memc.proofs.pages.Pages.new.Goals as goal

pub loop-i-init : goal.loop-i-init
loop-i-init c = partly_none c.args.shift c.in_ok-table.table.items c.in_ok-held.held.items (omega arith) (c.in_ok-table.ensures.items_if_clones_equal (search rules)) (c.in_ok-held.ensures.items_if_clones_equal (search rules))

pub loop-i-preserved : goal.loop-i-preserved
loop-i-preserved c = partly_more c.args.shift c.loop-i.i c.loop-i.table.items c.loop-i.held.items (omega arith) c.loop-i-test.true c.loop-i.invariant

pub invariant_of-result : goal.invariant_of-result
invariant_of-result c =
    let n : length c.in_ok-words.words.items ≡ 1 * 2 ^ (c.args.shift + 5) % 2 ^ 64 = omega (arith, c.in_ok-words.words.ok, c.in_ok-words.ensures.len) in
    let i : c.loop-i.i ≡ 128 = omega arith in
    partly_all c.args.shift c.in_ok-words.words.items c.loop-i.table.items c.loop-i.held.items (omega arith) (omega arith) (words_long c.args.shift (length c.in_ok-words.words.items) (omega arith) n) (rw i at c.loop-i.invariant)

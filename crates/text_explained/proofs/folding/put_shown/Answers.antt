use Rattle.std.proofs.Common.{◌≡◌, ◌∙◌, ◌+◌, ◌-◌, ◌≤◌, [], arith, drop, length, subst, sym, take}
use Rattle.std.proofs.Math.ListN.{drop_of_length-le}
use Rattle.std.proofs.lemmas.List.{drop-drop, length-drop, take_all}
use Rattle.text_explained.specs.Folding.{IsFirstShown}
use Rattle.text_explained.proofs.FoldingLaws.{shown_all, shown_one}
use Rattle.text_explained.proofs.folding.put_shown.Goals as goal

pub loop-preserved : goal.loop-preserved
loop-preserved c =
    let rows = c.args.rows.now in
    let rest = drop c.loop.begun rows in
    let others = drop (c.loop.begun + c.in-Some.count) rows in
    let long : length rest ≤ length rows - c.loop.begun = omega (arith, length-drop c.loop.begun rows) in
    let whole : take (length rows - c.loop.begun) rest ≡ rest = take_all (length rows - c.loop.begun) rest long in
    let its : IsFirstShown c.args.all rest c.in-Some.line (drop c.in-Some.count rest) =
    subst (λ rs. IsFirstShown c.args.all rs c.in-Some.line (drop c.in-Some.count rs)) whole c.in-Some.ensures.0 in
    let first : IsFirstShown c.args.all rest c.in-Some.line others = subst (IsFirstShown c.args.all rest c.in-Some.line) (drop-drop c.in-Some.count c.loop.begun rows) its in
    let few : c.in-Some.count ≤ length rest = subst (λ rs. c.in-Some.count ≤ length rs) whole c.in-Some.ensures.2 in
    record {
      within = omega (arith, c.loop.invariant.within, few, length-drop c.loop.begun rows);
      count = omega (arith, c.loop.invariant.count, c.in-Some.ensures.1);
      so_far = shown_one c.args.all rows rest others c.args.lines.now.items c.loop.lines.items c.push.new.self.items c.in-Some.line c.loop.invariant.so_far first
          c.in_ok-push.ensures.items;
    }

pub returns-in_default : goal.returns-in_default
returns-in_default c =
    let rows = c.args.rows.now in
    let rest = drop c.loop.begun rows in
    let long : length rest ≤ length rows - c.loop.begun = omega (arith, length-drop c.loop.begun rows) in
    let none : rest ≡ [] = sym (take_all (length rows - c.loop.begun) rest long) ∙ c.in_default.ensures in
    shown_all c.args.all rows rest c.args.lines.now.items c.loop.lines.items c.loop.invariant.so_far none

pub returns : goal.returns
returns c =
    let rows = c.args.rows.now in
    let past : length rows ≤ c.loop.begun = omega (arith, c.loop-test.false, c.loop.invariant.count) in
    shown_all c.args.all rows (drop c.loop.begun rows) c.args.lines.now.items c.loop.lines.items c.loop.invariant.so_far (drop_of_length-le rows past)

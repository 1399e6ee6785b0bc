use Rattle.std.proofs.Common.{◌≡◌, ◌∙◌, ℕ, ◌+◌, ◌-◌, List, map, refl, sym, ap, subst, arith}
use Rattle.std.specs.List.{range_with_len}
use Rattle.std.proofs.lemmas.List.FromFn.{map-range_with_len_more}
use Rattle.progress.specs.Shown.{Shows, writing_line}
use Rattle.progress.proofs.ShownLemmas.{ends, shows_more}
use Rattle.progress.proofs.lines.show_stretches.Goals as goal

pub loop-stretch-init : goal.loop-stretch-init
loop-stretch-init g c =
    let none : 0 ≡ c.args.first - c.args.first = omega arith in
    record {
      shown = subst (λ (n : ℕ). Shows g.E.Output.taken g.E.Output.failures c.args.err.now c.args.err.now (map writing_line (range_with_len c.args.first n))) none refl;
      none = λ few. refl;
    }

pub loop-stretch-preserved : goal.loop-stretch-preserved
loop-stretch-preserved g c =
    let l = c.loop-stretch in
    let first = c.args.first in
    let count : l.stretch + 1 - first ≡ l.stretch - first + 1 = omega (arith, l.auto.stretch) in
    let more = map-range_with_len_more writing_line first (l.stretch - first) l.stretch (omega (arith, l.auto.stretch)) in
    record {
      shown =
          subst (λ (lines : List (List ℕ)). Shows g.E.Output.taken g.E.Output.failures c.args.err.now c.show_writing.new.err lines)
          (sym (ap (λ (n : ℕ). map writing_line (range_with_len first n)) count ∙ more))
          (shows_more g.E.Output.taken g.E.Output.failures c.args.err.now l.err c.show_writing.new.err (map writing_line (range_with_len first (l.stretch - first))) (writing_line l.stretch) l.invariant.shown c.show_writing.ensures);
      none = λ few. absurd (omega (arith, few, l.auto.stretch, c.loop-stretch-test.true));
    }

pub returns : goal.returns
returns g c =
    let l = c.loop-stretch in
    let all : l.stretch - c.args.first ≡ c.args.last - c.args.first = ends c.args.first c.args.last l.stretch l.auto.stretch-end l.invariant.none c.loop-stretch-test.false in
    subst (λ (n : ℕ). Shows g.E.Output.taken g.E.Output.failures c.args.err.now l.err (map writing_line (range_with_len c.args.first n))) all l.invariant.shown

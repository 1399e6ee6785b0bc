use Rattle.std.proofs.Common.{◌∙◌, ℕ, List, [], sym}
use Rattle.std.specs.Borrow.{Bor}
use Rattle.text_refusals.specs.Nearest.{is_changed}
use Rattle.text_refusals.proofs.FirstLemmas.{found, not_found}
use Rattle.text_refusals.proofs.nearest.changed_name.Goals as goal

pub returns-then-branch : goal.returns-then-branch
returns-then-branch c =
    let none : Bor (List ℕ) = record { ref_ptr = (0, 0); now = [] } in
    found (λ n. n.now) (is_changed c.args.changes c.args.word.now) c.args.names.now c.loop-name.name-index none c.loop-name-test.true
    (sym c.in_ok-is_changed.ensures ∙ c.if-branch.true) c.loop-name.invariant

pub loop-name-preserved : goal.loop-name-preserved
loop-name-preserved c =
    let none : Bor (List ℕ) = record { ref_ptr = (0, 0); now = [] } in
    not_found (λ n. n.now) (is_changed c.args.changes c.args.word.now) c.args.names.now c.loop-name.name-index none c.loop-name-test.true
    (sym c.in_ok-is_changed.ensures ∙ c.if-branch.false) c.loop-name.invariant

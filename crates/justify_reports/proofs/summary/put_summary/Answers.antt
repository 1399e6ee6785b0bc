use Rattle.std.proofs.Common.{◌∙◌, ◌++◌, ℕ, List, ap, codes}
use Rattle.std.proofs.lemmas.Result.{on_ok_weaker}
use Rattle.justify_reports.specs.Summary.{counts_text, others_text, theorem_text, unseen_text}
use Rattle.justify_reports.proofs.TextLemmas.{after}
use Rattle.justify_reports.proofs.summary.put_summary.Goals as goal

pub returns : goal.returns
returns c =
    let s = c.args.summary in
    let unseen = unseen_text s.left.now in
    let counts = counts_text s.rows.now s.given.now in
    let theorem = theorem_text s.given.now s.bound s.price in
    let old = c.args.out.now.items in
    let a = c.put.new.out.items in
    let b = c.put-2.new.out.items in
    let d = c.put-3.new.out.items in
    let e = c.put_counts.new.out.items in
    let f = c.put_theorem.new.out.items in
    on_ok_weaker c.put_theorem.result
    (λ is. after old (codes "\n") (unseen ++ (others_text ++ (counts ++ theorem))) a f c.in_ok-put.ensures
    (after a unseen (others_text ++ (counts ++ theorem)) b f (c.in_ok-put-2.ensures ∙ ap (λ (xs : List ℕ). a ++ xs) c.unseen_text.ensures)
    (after b others_text (counts ++ theorem) d f c.in_ok-put-3.ensures (after d counts theorem e f c.in_ok-put_counts.ensures is))))
    c.put_theorem.ensures

use Rattle.std.proofs.Common.{◌≡◌, ℕ, List, get_or, refl}
use Rattle.arm2_decode.specs.declared.names.Register.TheVariants.{R0}
use Rattle.known_words.specs.declared.given.Given.{Given}
use Rattle.justify_reports.specs.Summary.{fact_row}
use Rattle.text_rows.proofs.RowLaws.{so_far_all, so_far_one}
use Rattle.justify_reports.proofs.summary.put_facts.Goals as goal

pub loop-fact-preserved : goal.loop-fact-preserved
loop-fact-preserved c =
    let none : Given = record { register = R0; low = 0; high = 0 } in
    so_far_one (λ (g : Given) (row : List ℕ). row ≡ fact_row g) c.args.given.now c.loop-fact.fact-index none c.args.out.now.items c.loop-fact.out.items
    c.put_fact.new.out.items c.loop-fact.invariant c.loop-fact-test.true (fact_row (get_or c.args.given.now c.loop-fact.fact-index none), refl, c.in_ok-put_fact.ensures)

pub returns : goal.returns
returns c =
    so_far_all (λ (g : Given) (row : List ℕ). row ≡ fact_row g) c.args.given.now c.loop-fact.fact-index c.args.out.now.items c.loop-fact.out.items
    c.loop-fact.invariant c.loop-fact-test.false

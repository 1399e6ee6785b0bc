use Rattle.std.proofs.Common.{◌∙◌, ℕ, Err, ap, map, sym}
use Rattle.std.proofs.lemmas.Bool.{eq-eqb}
use Rattle.objasm.specs.declared.faults.LineFault.TheVariants.{Scattered}
use Rattle.std.proofs.lemmas.List.{map-append}
use Rattle.sources.specs.Origins.{end_of, stretch_of}
use Rattle.sources.proofs.OriginLaws.{differ, put_alone, put_nowhere, put_together}
use Rattle.sources.proofs.origins.put_before.Goals as goal

pub returns-then-not-have_one_origin-clause-ok : goal.returns-then-not-have_one_origin-clause-ok
returns-then-not-have_one_origin-clause-ok c = λ rest.
    put_alone c.args.origins.now (stretch_of c.args.line) (stretch_of c.args.next) (map stretch_of c.args.out.now.items) (map stretch_of c.push.new.self.items) rest (sym c.have_one_origin.ensures ∙ c.if-not-have_one_origin.true) (ap (map stretch_of) c.in_ok-push.ensures.items ∙ map-append stretch_of c.args.out.now.items _)

pub returns-then-next-end_of-clause-fault : goal.returns-then-next-end_of-clause-fault
returns-then-next-end_of-clause-fault c = λ rest.
    put_nowhere c.args.origins.now (stretch_of c.args.line) (stretch_of c.args.next) rest (sym c.have_one_origin.ensures ∙ c.if-not-have_one_origin.false)
    (differ c.args.next.at (end_of (stretch_of c.args.line)) (λ same. c.if-next-end_of.true (same ∙ sym c.end_of.ensures))) ∙ ap (λ (n : ℕ). Err (Scattered, n)) (sym c.first_origin.ensures)

pub returns-clause-ok : goal.returns-clause-ok
returns-clause-ok c = λ rest.
    put_together c.args.origins.now (stretch_of c.args.line) (stretch_of c.args.next) (stretch_of c.together.result) (map stretch_of c.args.out.now.items) rest (sym c.have_one_origin.ensures ∙ c.if-not-have_one_origin.false)
    (eq-eqb c.args.next.at (end_of (stretch_of c.args.line)) (c.if-next-end_of.false ∙ c.end_of.ensures)) c.together.ensures

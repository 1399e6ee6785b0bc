use Rattle.std.proofs.Common.{◌∙◌, List, ap, refl, subst, sym}
use Rattle.image.specs.Labels.{address_of}
use Rattle.sources.specs.Dialect.{places_by, plain_view}
use Rattle.sources.specs.File.{file_of}
use Rattle.objasm.specs.Source.{FaultedAt}
use Rattle.sources.specs.Origins.{Stretch, scattered_at}
use Rattle.sources.proofs.SourceLaws.{places_refused, text_refused, text_said}
use Rattle.sources.proofs.read.read_plain.Goals as goal

pub returns-in_err-placed-clause-fault : goal.returns-in_err-placed-clause-fault
returns-in_err-placed-clause-fault c =
    text_refused (file_of c.args.file) (plain_view c.args.plain.now) c.in_err-placed.field-0.0 c.from_residual.result c.from_residual.ensures.1 c.requires.text c.requires.plain c.in_err-placed.ensures.fault

pub returns-in_err-assembly-clause-fault : goal.returns-in_err-assembly-clause-fault
returns-in_err-assembly-clause-fault c =
    text_refused (file_of c.args.file) (plain_view c.args.plain.now) c.in_err-assembly.field-0.0 c.from_residual-in_err-assembly.result c.from_residual-in_err-assembly.ensures.1 c.requires.text c.requires.plain
    c.in_err-assembly.ensures.fault

pub returns-in_err-places-clause-fault : goal.returns-in_err-places-clause-fault
returns-in_err-places-clause-fault c =
    places_refused (file_of c.args.file) (plain_view c.args.plain.now) (c.in_ok-assembly.assembly.image, address_of c.in_ok-assembly.assembly.labels) c.in_err-places.field-0.0 c.from_residual-in_err-places.result
    c.from_residual-in_err-places.ensures.1 c.requires.text c.requires.plain c.in_ok-assembly.ensures.ok
    (subst (λ (ss : List Stretch). FaultedAt c.in_err-places.field-0.0 (scattered_at (places_by (plain_view c.args.plain.now) ss))) (sym c.in_ok-placed.ensures.ok) c.in_err-places.ensures.fault)

pub returns-clause-is : goal.returns-clause-is
returns-clause-is c =
    let assembly = c.in_ok-assembly.assembly in
    let there = ap (places_by (plain_view c.args.plain.now)) c.in_ok-placed.ensures.ok ∙ c.in_ok-places.ensures.ok in
    record {
      said = text_said (file_of c.args.file) (plain_view c.args.plain.now) assembly.image (address_of assembly.labels) _ c.requires.text c.requires.plain c.in_ok-assembly.ensures.ok there;
      text = (c.requires.text, refl, record { text = plain_view c.args.plain.now; is = c.requires.plain; places = there });
    }

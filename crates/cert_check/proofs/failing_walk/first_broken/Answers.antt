use Rattle.std.proofs.Common.{List, length, subst, sym}
use Rattle.std.specs.Prelude.{MatchOption}
use Rattle.control_flow.specs.declared.places.Place.{Place}
use Rattle.certificate.specs.declared.walk.CertItem.{CertItem}
use Rattle.cert_check.specs.Followed.{followed}
use Rattle.cert_check.specs.Straying.{StraysAt}
use Rattle.cert_check.specs.Walking.{CanFollow, IsTaken}
use Rattle.cert_check.proofs.WalkVerdict.{ready}
use Rattle.cert_check.proofs.failing_walk.first_broken.Goals as goal

pub first_not_followed-requires : goal.first_not_followed-requires
first_not_followed-requires c =
    subst (λ (ps : List Place). CanFollow c.args.indexed.graph.now c.args.indexed.tree.now c.args.indexed.index.now (record { header = 0; last = length ps; bound = 0 }) c.args.walker.now) (sym c.places.ensures.value)
    (ready c.args.indexed.graph.now c.args.indexed.tree.now c.args.indexed.index.now c.places.ensures.well_formed c.requires.indexed.tree c.requires.indexed.index c.args.walker.now c.requires.fresh)

pub returns : goal.returns
returns c =
    let flow = c.args.indexed.graph.now in
    let tree = c.args.indexed.tree.now in
    let index = c.args.indexed.index.now in
    let old = c.args.walker.now in
    let new = c.first_not_followed.new.walker in
    let found = c.first_not_followed.result in
    subst (λ (ps : List Place). MatchOption found (IsTaken flow tree index (record { header = 0; last = length ps; bound = 0 }) 16 (length c.args.cert.now.walk) (followed flow c.args.cert.now.walk) old new) (StraysAt flow tree index (record { header = 0; last = length ps; bound = 0 }) 16 c.args.cert.now.walk old)) c.places.ensures.value
    (subst (λ (lines : List CertItem). MatchOption found (IsTaken flow tree index (record { header = 0; last = length c.places.result.now; bound = 0 }) 16 (length lines) (followed flow lines) old new) (StraysAt flow tree index (record { header = 0; last = length c.places.result.now; bound = 0 }) 16 lines old)) c.items.ensures
    c.first_not_followed.ensures)

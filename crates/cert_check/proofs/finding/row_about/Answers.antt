use Rattle.std.proofs.Common.{rules}
use Rattle.std.proofs.lemmas.Fn.{always_returns_same}
use Rattle.control_flow.specs.declared.places.Place.TheVariants.{At}
use Rattle.control_flow.specs.Places.{place_cmp}
use Rattle.cert_check.proofs.FindLemmas.{row_found, row_missed}
use Rattle.cert_check.proofs.finding.row_about.Goals as goal

pub returns-in-Ok : goal.returns-in-Ok
returns-in-Ok g c =
    let about = g.R.AboutPlace in
    let p = c.args.place.now in
    row_found about.calls about.address c.args.rows.now p c.requires.ascending c.in-Ok.index c.index-rows-index.result c.in-Ok.ensures.bound c.index-rows-index.is
    (c.in-Ok.ensures.position (λ r. place_cmp (At (about.calls r) (about.address r)) p) (always_returns_same _ _ _ (λ a r f called. search rules)))

pub returns-in-Err : goal.returns-in-Err
returns-in-Err g c =
    let about = g.R.AboutPlace in
    let p = c.args.place.now in
    row_missed about.calls about.address c.args.rows.now p c.requires.ascending c.in-Err.field-0
    (c.in-Err.ensures.position (λ r. place_cmp (At (about.calls r) (about.address r)) p) (always_returns_same _ _ _ (λ a r f called. search rules)))

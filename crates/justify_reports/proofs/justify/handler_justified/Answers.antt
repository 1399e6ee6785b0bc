use Rattle.std.proofs.Common.{◌∙◌, Bool, List, Option, ap, subst, sym}
use Rattle.std.specs.Prelude.{IfSome}
use Rattle.control_flow.specs.Graph.{IsFlowGraph}
use Rattle.image.specs.Image.{Words}
use Rattle.handlers.specs.Report.{BeforeOutput, IsRefused}
use Rattle.handlers.proofs.HandlerLemmas.{refused_as}
use Rattle.known_places.specs.Destinations.{AreDestinations}
use Rattle.known_places.specs.Endless.{AreEndless}
use Rattle.known_places.specs.OnTrust.{Justifies}
use Rattle.known_places.specs.Outside.{AreOutside}
use Rattle.known_words.specs.declared.words.Range.{Range}
use Rattle.known_places.specs.declared.destination.Destination.{Destination}
use Rattle.justify_reports.specs.JustifyReport.{IsJustifyText, is_enough}
use Rattle.justify_reports.specs.Rows.{AreStatedRows}
use Rattle.justify_reports.specs.declared.rows.Row.{Row}
use Rattle.justify_reports.proofs.TrustLemmas.{justified, own_graph}
use Rattle.justify_reports.proofs.justify.handler_justified.Goals as goal
use Rattle.sources.specs.File.{file_of}

pub returns-in_err-found-clause-fault : goal.returns-in_err-found-clause-fault
returns-in_err-found-clause-fault c =
    let j = c.args.justified in
    refused_as c.from_residual.result c.in_err-found.field-0.0 (BeforeOutput (IsRefused (file_of j.source) j.statement.now c.args.profile.now)) c.from_residual.ensures.1
    (c.in_err-found.ensures.fault (file_of j.source) j.statement.now c.args.profile.now c.requires.loops)

pub seen_of-requires-clause-graph : goal.seen_of-requires-clause-graph
seen_of-requires-clause-graph c =
    let j = c.args.justified in
    let h = c.args.handler.now in
    subst (λ (w : Words). IsFlowGraph w h.statement h.graph.profile h.graph) (sym c.requires.image)
    (own_graph (file_of j.source) j.statement.now c.args.profile.now c.args.said.now c.requires.said h.statement h.graph h.tree c.requires.loops)

pub returns-clause-shows : goal.returns-clause-shows
returns-clause-shows c =
    let j = c.args.justified in
    let h = c.args.handler.now in
    let found = c.in_ok-found.found in
    let read = c.args.said.now in
    let seen = c.in_ok-seen.seen in
    let left = seen.left in
    let goes = seen.destinations.items in
    let outside = seen.outside.items in
    let endless = seen.endless.items in
    let rows = c.in_ok-rows.rows.items in
    justified (file_of j.source) j.statement.now c.args.profile.now read c.requires.said h.statement h.graph h.tree c.requires.loops c.requires.tree c.run_law.ensures
    j.given.now j.all c.is_enough.result left goes outside endless rows found c.in_ok-text.text.items c.in_ok-found.ensures.longest c.in_ok-found.ensures.allowed
    (subst (λ (w : Words). IfSome left (Justifies w h.statement h.graph j.given.now)) c.requires.image c.in_ok-seen.ensures.left)
    (subst (λ (w : Words). AreDestinations w h.statement h.graph h.tree j.given.now goes) c.requires.image c.in_ok-seen.ensures.goes)
    (subst (λ (w : Words). AreOutside w h.statement h.graph h.tree j.given.now outside) c.requires.image c.in_ok-seen.ensures.outside)
    (subst (λ (w : Words). AreEndless w h.statement h.graph h.tree j.given.now endless) c.requires.image c.in_ok-seen.ensures.endless)
    (subst (λ (w : Words). AreStatedRows w h.statement h.graph h.tree left goes outside endless rows) c.requires.image
    (subst (λ (ds : List Destination). AreStatedRows h.image.now h.statement h.graph h.tree left ds outside endless rows) c.deref.ensures.value
    (subst (λ (os : List (Option Range)). AreStatedRows h.image.now h.statement h.graph h.tree left c.deref.result.now os endless rows) c.deref-2.ensures.value
    (subst (λ (bs : List Bool). AreStatedRows h.image.now h.statement h.graph h.tree left c.deref.result.now c.deref-2.result.now bs rows) c.deref-3.ensures.value c.in_ok-rows.ensures))))
    (subst (λ (rs : List Row). IsJustifyText read j.given.now left rs found.bound c.args.profile.now.burst c.in_ok-text.text.items) c.deref-4.ensures.value c.in_ok-text.ensures)
    (c.is_enough.ensures ∙ ap (is_enough j.all) c.deref-5.ensures.value)

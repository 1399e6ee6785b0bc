use Rattle.std.proofs.Common.{None, subst, sym}
use Rattle.text_explained.specs.Table.{starts_of}
use Rattle.text_explained.specs.Taken.{AreOnWords}
use Rattle.text_page.specs.Page.{IsPage}
use Rattle.image.specs.Image.{Words}
use Rattle.image.specs.Labels.{address_of}
use Rattle.longest_walk.specs.Folded.{unfolded}
use Rattle.longest_walk.specs.Starts.{AreWorstStarts}
use Rattle.handlers.specs.Faults.{of_walk}
use Rattle.explain_reports.specs.ExplainReport.{IsTotal}
use Rattle.handlers.specs.Report.{BeforeOutput, IsRefused}
use Rattle.explain_reports.proofs.PageLemmas.{shown}
use Rattle.handlers.proofs.HandlerLemmas.{refused_as, same_words}
use Rattle.handlers.proofs.ReportLemmas.{bound_fits, walk_refusal}
use Rattle.explain_reports.proofs.html.page_of.Goals as goal

pub returns-in_err-found-clause-fault : goal.returns-in_err-found-clause-fault
returns-in_err-found-clause-fault c = λ source statement profile loops.
    refused_as c.from_residual.result c.in_err-found.field-0.0 (BeforeOutput (IsRefused source statement profile)) c.from_residual.ensures.1
    (c.in_err-found.ensures.fault source statement profile loops)

pub returns-in_err-starts-clause-fault : goal.returns-in_err-starts-clause-fault
returns-in_err-starts-clause-fault c = λ source statement profile loops.
    let h = c.args.handler.now in
    let f = c.in_err-starts.field-0.0 in
    refused_as c.from_residual-in_err-starts.result (of_walk f) (BeforeOutput (IsRefused source statement profile)) c.from_residual-in_err-starts.ensures.1
    (walk_refusal source statement profile h.statement h.graph h.tree loops c.requires.tree f c.in_err-starts.ensures.fault)

pub returns-clause-shows : goal.returns-clause-shows
returns-clause-shows c = λ source statement profile is_read loops.
    let read = c.args.read.now in
    let h = c.args.handler.now in
    let found = c.in_ok-found.found in
    let words = loops.graph.words in
    let walk = c.in_ok-found.ensures.longest.walk_is in
    let formed = c.graphs_are_well_formed.ensures in
    let fits = bound_fits h.graph h.tree found c.in_ok-found.ensures.longest in
    let own = same_words source statement profile read.image (address_of read.labels) h.statement h.graph is_read.said loops in
    let on = subst (λ (w : Words). AreOnWords w h.graph.places) (sym own) (c.places_are_listed_once.ensures.words words h.statement profile h.graph loops.graph.graph_is loops.graph.no_fault) in
    let total : IsTotal read h.graph found =
    c.totals_are_the_bound.ensures h.graph h.tree found.bound found.walk read.image read.text formed walk fits (c.places_are_listed_once.ensures.source source read h.graph formed is_read on) in
    let starts = subst (AreWorstStarts h.graph h.tree) (sym c.deref.ensures.value) c.in_ok-starts.ensures.starts in
    let begins = starts_of h.graph.places c.deref.result.now None in
    let shows = subst (λ (w : Words). IsPage read w h.statement h.graph (unfolded found.walk) begins found.bound c.args.extent c.in_ok-text.text.items) c.requires.image c.in_ok-text.ensures in
    shown source statement profile read is_read h.statement h.graph h.tree loops c.requires.tree
    found begins c.args.extent c.in_ok-text.text.items c.in_ok-found.ensures.longest
    (λ a. c.latest_starts_are_of_walks.ensures h.graph h.tree c.deref.result.now a formed starts) c.in_ok-found.ensures.allowed shows total

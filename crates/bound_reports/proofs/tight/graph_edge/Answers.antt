use Rattle.std.proofs.lemmas.Result.{IfErr-weaker, IfOk-weaker}
use Rattle.std.specs.Prelude.{string_bytes}
use Rattle.bound_reports.proofs.TightLemmas.{edge_alone, edge_reported, edge_unreported, own_flow}
use Rattle.bound_reports.proofs.tight.graph_edge.Goals as goal
use Rattle.sources.specs.File.{file_of}

pub edge_text-requires : goal.edge_text-requires
edge_text-requires c = own_flow (file_of c.args.asked.source) c.args.asked.statement.now c.args.stated.source.now c.requires.said c.args.stated.statement.now c.args.stated.graph.now c.requires.graph

pub returns-clause-report : goal.returns-clause-report
returns-clause-report c =
    IfOk-weaker c.edge_text.result _ _
    (λ text. edge_reported (file_of c.args.asked.source) c.args.asked.statement.now c.args.stated.source.now c.requires.said c.args.stated.statement.now c.args.stated.graph.now c.requires.graph c.args.asked.number (string_bytes text))
    c.edge_text.ensures.text

pub returns-clause-fault : goal.returns-clause-fault
returns-clause-fault c =
    IfErr-weaker c.edge_text.result _ _
    (edge_unreported (file_of c.args.asked.source) c.args.asked.statement.now c.args.stated.source.now c.requires.said c.args.stated.statement.now c.args.stated.graph.now c.requires.graph c.args.asked.number)
    c.edge_text.ensures.fault

pub returns-clause-alone : goal.returns-clause-alone
returns-clause-alone c =
    IfErr-weaker c.edge_text.result _ _ (edge_alone c.args.stated.source.now.image c.args.stated.graph.now c.args.asked.number) c.edge_text.ensures.fault

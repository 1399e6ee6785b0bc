use Rattle.std.proofs.Common.{◌∙◌, ◌++◌, ℕ, List, ap, length, replicate}
use Rattle.numbered_walks.specs.declared.span.Span.{Span}
use Rattle.std.proofs.lemmas.List.{replicate-append-replicate}
use Rattle.std.proofs.lemmas.Result.{on_ok_weaker}
use Rattle.assembler.proofs.PutLaws.{joined}
use Rattle.text_graph.specs.Stretches.{calls_in, loops_of}
use Rattle.text_graph.proofs.clusters.put_closed.Goals as goal

pub returns : goal.returns
returns c =
    let d = c.args.drawn in
    let calls = length (calls_in d.graph.now d.tree.now c.args.number) in
    let loops = length (loops_of d.graph.now d.tree.now c.args.number) in
    let old = c.args.out.now.items in
    let mid = c.put_ends.new.out.items in
    on_ok_weaker c.put_ends-2.result
    (λ last. joined old mid c.put_ends-2.new.out.items (replicate calls 125) (replicate loops 125)
    (c.in_ok-put_ends.ensures ∙ ap (λ (xs : List ℕ). old ++ replicate (length xs) 125) (c.items.ensures.value ∙ c.calls_in.ensures))
    (last ∙ ap (λ (ss : List Span). mid ++ replicate (length ss) 125) c.loops_of.ensures)
    ∙ ap (λ xs. old ++ xs) (replicate-append-replicate calls loops 125))
    c.put_ends-2.ensures

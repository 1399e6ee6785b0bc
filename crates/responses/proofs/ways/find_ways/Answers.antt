use Rattle.std.proofs.Common.{◌≡◌, ◌+◌, ◌∙◌, ℕ, List, [], ◌∷◌, ◌++◌, length, sym, ap, subst}
use Rattle.numbered_walks.specs.declared.span.NumberedEdge.{NumberedEdge}
use Rattle.responses.specs.declared.ways.Way.{Way}
use Rattle.responses.specs.Arriving.{AreWays, is_number_at}
use Rattle.responses.specs.Response.{is_at}
use Rattle.responses.proofs.ways.find_ways.Goals as goal

pub loop-number-preserved : goal.loop-number-preserved
loop-number-preserved c =
    let tree = c.args.tree.now in
    let at = is_number_at c.args.graph.now tree c.args.address in
    let ways = c.loop-number.ways.items in
    let i = c.loop-number.number in
    let slice = c.deref.result.now in
    let edges = c.edges.result.now in
    let way = c.next_way-way.result in
    let slice_is : slice ≡ ways = c.deref.ensures.value in
    let whole : length ways ≡ i = c.loop-number.invariant.whole in
    let number : length slice ≡ i = ap (λ (v : List Way). length v) slice_is ∙ whole in
    let here : at (length slice) ≡ c.is_at-there.result = ap at number
    ∙ ap (is_at c.args.address) (sym c.place_in.ensures) ∙ sym c.is_at-there.ensures in
    let before : AreWays tree.edges at (length ways) ways =
    subst (λ (n : ℕ). AreWays tree.edges at n ways) (sym whole) c.loop-number.invariant in
    let known : AreWays edges at (length slice) slice =
    subst (λ (es : List NumberedEdge). AreWays es at (length slice) slice) (sym c.edges.ensures)
    (subst (λ (v : List Way). AreWays tree.edges at (length v) v) (sym slice_is) before) in
    let grown : AreWays edges at (length slice + 1) (slice ++ way ∷ []) =
    c.next_way-way.ensures at here known in
    let there : AreWays tree.edges at (length slice + 1) (slice ++ way ∷ []) =
    subst (λ (es : List NumberedEdge). AreWays es at (length slice + 1) (slice ++ way ∷ []))
    c.edges.ensures grown in
    let moved : AreWays tree.edges at (i + 1) (slice ++ way ∷ []) =
    subst (λ (n : ℕ). AreWays tree.edges at (n + 1) (slice ++ way ∷ [])) number there in
    subst (λ (v : List Way). AreWays tree.edges at (i + 1) v) (sym c.in_ok-push.ensures.items)
    (subst (λ (v : List Way). AreWays tree.edges at (i + 1) (v ++ way ∷ [])) slice_is moved)

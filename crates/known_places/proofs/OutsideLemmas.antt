-- Runs that come to a word that goes outside of its class.
use Rattle.std.proofs.Common.{◌≡◌, ◌∙◌, ℕ, ◌<◌, List, [], ◌∷◌, length, refl, sym, ap, subst, arith}
use Rattle.std.proofs.lemmas.List.Elements.{All-nil}
use Rattle.walks.specs.Walk.{Leads}
use Rattle.walks.proofs.Joins.{most_from_keeps}
use Rattle.image.specs.Image.{Words}
use Rattle.statement.specs.Stated.{Stated}
use Rattle.arm2_exec.specs.Step.{address_in, with_lines}
use Rattle.control_flow.specs.Flow.{Flow, HasEdge, IsWellFormed, edge_shape}
use Rattle.control_flow.specs.declared.places.Place.{Place}
use Rattle.loop_bounds.specs.Handler.{IsTreeOf}
use Rattle.loop_bounds.specs.Tree.{IsTree, Tree, place_in}
use Rattle.longest_walk.specs.Longest.{KeepsTree}
use Rattle.longest_walk.proofs.CarryWalks.{keeps_down, number_is}
use Rattle.numbered_walks.specs.Index.{edges_of}
use Rattle.numbered_walks.specs.Ordered as O
use Rattle.known_words.specs.Knowledge.{Holds}
use Rattle.known_words.specs.declared.given.Given.{Given}
use Rattle.known_words.specs.declared.knowledge.Knowledge.{Knowledge}
use Rattle.known_words.specs.declared.words.Range.{Range}
use Rattle.known_places.specs.Around.{around_at, known_at, turns_in}
use Rattle.known_places.specs.Limits.{KeepsSpans}
use Rattle.known_places.specs.Outside.{GoesOutside, PlaceGoesOutside}
use Rattle.known_places.specs.Table.{HoldsAlong}
use Rattle.known_places.specs.declared.around.Around.{Around}
use Rattle.known_places.proofs.ArriveLemmas.{ends_there, obeys, plain_is}

pub gone_outside : (words : Words) (st : Stated) (flow : Flow) (tree : Tree) → IsWellFormed flow → IsTreeOf flow st.loops tree → (given : List Given) (around : List Around)
    (table : List Knowledge) → HoldsAlong words flow tree given around table → (number : ℕ) → number < length flow.places → (range : Range)
    → PlaceGoesOutside words st flow tree around table number range → GoesOutside words st flow given (place_in flow tree number) range
gone_outside words st flow tree well its given around table p number low range goes s now after inputs walk calls action i stepped fit are leads keeps comes at x done =
    let t : IsTree flow tree = its.tree_is in
    let e = ends_there words st flow tree well t given around table p [] s.regs inputs walk s now 0 (place_in flow tree number) [] (omega arith) (All-nil (λ j. j < length flow.edges))
    (λ inside. p.begins s.regs fit are) (subst (λ (v : Place). Leads edge_shape (HasEdge flow) v walk (place_in flow tree number)) (sym t.entry_first) leads) comes in
    let w = edges_of tree.edges e.edges in
    let same : e.number ≡ number = number_is flow tree well t e.number number e.within (omega (arith, low)) e.place in
    let known : Holds s.regs (turns_in tree.spans (around_at around number) w) (known_at table number) now.regs =
    subst (λ n. Holds s.regs (turns_in tree.spans (around_at around n) w) (known_at table n) now.regs) same (e.there (omega (arith, low, same))) in
    let kept : KeepsSpans tree.spans w = λ y has.
    most_from_keeps (O.is_inside y) (O.ends_at_header y) y.bound w
    (keeps_down flow tree well t e.edges e.inside (subst (KeepsTree tree) (sym e.steps) (λ j in_tree. keeps j ((its.instances j).0 in_tree))) y has) in
    let plain = plain_is words st flow.profile [] now i stepped after action x in
    goes calls (address_in now.regs) x.has.word action at x.has.word_is x.has.is s.regs now.regs w i.port (with_lines i.lines.0 now.bus) x.step.moved kept x.registers refl done
    (obeys words st flow.profile [] now i stepped after action x) plain.kind known

-- A handler has one flow graph.
use Rattle.std.proofs.Common.{◌≡◌, sym, ap, ◌∙◌, subst}
use Rattle.std.specs.List.{AllZip}
use Rattle.bus_ticks.specs.declared.profile.Profile.{Profile}
use Rattle.image.specs.Image.{Words}
use Rattle.image.proofs.ZipLemmas.{AllZip-one}
use Rattle.control_flow.specs.Edges.{AreEdgesOf}
use Rattle.control_flow.specs.Flow.{Flow}
use Rattle.control_flow.specs.Graph.{IsFlowGraph, starts_from}
use Rattle.statement.specs.Stated.{Stated}
use Rattle.control_flow.proofs.EdgeLemmas.{one_list}
use Rattle.control_flow.proofs.PlaceLemmas.{place_total}
use Rattle.control_flow.proofs.SortedLemmas.{same_members}
use Rattle.control_flow.proofs.TurnLemmas.{joined}

same_flow : (f g : Flow) → f.entry ≡ g.entry → f.places ≡ g.places → f.edges ≡ g.edges → f.firsts ≡ g.firsts → f.profile ≡ g.profile → f ≡ g
same_flow f g entry places edges firsts profile = λ i. record { entry = entry i; places = places i; edges = edges i; firsts = firsts i; profile = profile i }

module _ (words : Words) (st : Stated) (profile : Profile) where
  pub one_flow : (f g : Flow) → IsFlowGraph words st profile f → IsFlowGraph words st profile g → f ≡ g
  one_flow f g h k =
      let places : f.places ≡ g.places = same_members place_total f.places g.places h.ordered k.ordered
      (λ p w. (k.exact p).1 ((h.exact p).0 w))
      (λ p w. (h.exact p).1 ((k.exact p).0 w)) in
      let parts : h.parts ≡ k.parts = AllZip-one (AreEdgesOf words st profile) (one_list words st profile) g.places h.parts k.parts
      (subst (λ ps. AllZip (AreEdgesOf words st profile) ps h.parts) places h.parts_are) k.parts_are in
      same_flow f g
      (h.entry_is ∙ sym k.entry_is)
      places
      (h.edges_are ∙ ap joined parts ∙ sym k.edges_are)
      (h.firsts_are ∙ ap (starts_from 0) parts ∙ sym k.firsts_are)
      (h.profile_is ∙ sym k.profile_is)

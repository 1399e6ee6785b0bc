-- The certificate of a greatest walk passes each test.
use Rattle.std.proofs.Common.{◌≡◌, ◌∙◌, List, [], ◌∷◌, map, Some, inr, refl, sym, ap, subst}
use Rattle.std.specs.Prelude.{Contains}
use Rattle.std.specs.List.{AllByRecursion}
use Rattle.std.proofs.lemmas.List.Elements.{All-contains, All-contains_itself, All-weaker}
use Rattle.bus_ticks.specs.declared.profile.Profile.{Profile}
use Rattle.image.specs.Image.{Words}
use Rattle.statement.specs.Stated.{Stated}
use Rattle.walks.specs.Walk.{cost_of}
use Rattle.control_flow.specs.declared.places.Place.{Place}
use Rattle.control_flow.specs.declared.places.Place.TheVariants.{Exit}
use Rattle.control_flow.specs.declared.edges.Edge.{Edge}
use Rattle.control_flow.specs.Flow.{Flow, HasEdge, IsWellFormed, edge_shape}
use Rattle.control_flow.specs.Graph.{IsFlowGraph}
use Rattle.loop_bounds.specs.Tree.{IsTree, Tree}
use Rattle.longest_walk.specs.declared.folded.Longest.{Longest}
use Rattle.longest_walk.specs.Folded.{IsCount, open_items}
use Rattle.longest_walk.specs.Longest.{IsBody, IsLongest, KeepsTree}
use Rattle.longest_walk.specs.Rows.{RowsFit, RowsHold, header_of, header_of_row, place_of_row, potentials_of}
use Rattle.certificate.specs.Lines.{said_by, said_of}
use Rattle.certificate.specs.Walk.{step_of}
use Rattle.certificate.specs.declared.cert.Cert.{Cert}
use Rattle.cert_check.specs.Followed.{Followed, edge_named, followed}
use Rattle.cert_check.specs.Verdict.{HasAll, HasNoMore, IsFirstOf, IsFollowed, IsFull, IsVerdict, Passes, objections, potentials}
use Rattle.cert_check.specs.declared.verdict.Objection.{Objection}
use Rattle.cert_check.specs.declared.verdict.Verdict.TheVariants.{Yes}
use Rattle.cert_check.proofs.FollowLemmas.{IsSound, arrived}
use Rattle.cert_check.proofs.LineLemmas.{followed_along}
use Rattle.cert_check.proofs.NamedEdges.{edge_found}
use Rattle.cert_check.proofs.ProfileLemmas.{one_profile}

-- what passes each test gets Yes
pub yes_from_all : (flow : Flow) (tree : Tree) (cert : Cert) (xs : List Objection) → AllByRecursion (Passes flow tree cert) xs → IsFirstOf flow tree cert xs Yes
yes_from_all flow tree cert [] h = refl
yes_from_all flow tree cert (x ∷ xs) h = inr (h.0, yes_from_all flow tree cert xs h.1)

covers : (wanted given : List Place) → ((p : Place) → Contains wanted p → Contains given p) → HasAll wanted given
covers wanted given f = All-weaker (Contains wanted) (Contains given) f wanted (All-contains_itself wanted)

module _ (flow : Flow) (tree : Tree) (l : Longest) (cert : Cert) (is : IsLongest flow tree l) (said : said_by cert ≡ said_of l) where
  -- ## Rows

  same_places : cert.places ≡ l.potentials.places
  same_places = ap (λ s. s.places) said

  same_instances : cert.instances ≡ l.potentials.instances
  same_instances = ap (λ s. s.instances) said

  same_bound : cert.bound ≡ l.bound
  same_bound = ap (λ s. s.bound) said

  places_are : map place_of_row cert.places ≡ flow.places
  places_are = ap (map place_of_row) same_places ∙ is.rows_are.places_are

  headers_are : map header_of_row cert.instances ≡ map header_of_row l.potentials.instances
  headers_are = ap (map header_of_row) same_instances

  is_full : IsFull flow tree cert
  is_full = record {
    places = covers flow.places (map place_of_row cert.places) (λ p h. subst (λ ps. Contains ps p) (sym places_are) h);
    instances = covers (map header_of tree.instances) (map header_of_row cert.instances) (λ p h. subst (λ ps. Contains ps p) (sym headers_are) ((is.rows_are.instances_are p).1 h));
  }

  has_no_more : HasNoMore flow tree cert
  has_no_more = record {
    places = covers (map place_of_row cert.places) flow.places (λ p h. subst (λ ps. Contains ps p) places_are h);
    instances = covers (map header_of_row cert.instances) (map header_of tree.instances) (λ p h. (is.rows_are.instances_are p).0 (subst (λ ps. Contains ps p) headers_are h));
  }

  same_potentials : potentials cert ≡ potentials_of l.bound l.potentials.places l.potentials.instances
  same_potentials = λ i. potentials_of (same_bound i) (same_places i) (same_instances i)

  rows_fit : RowsFit flow tree (potentials cert)
  rows_fit = subst (RowsFit flow tree) (sym same_potentials) is.rows_fit

  rows_hold : RowsHold flow tree (potentials cert)
  rows_hold = subst (RowsHold flow tree) (sym same_potentials) is.rows_hold

  -- ## The walk

  module _ (named : (e : Edge) → HasEdge flow e → edge_named flow e.from (step_of e) ≡ Some e) where
    abbrev walked : Followed
    walked = arrived Exit (open_items l.walk)

    sound : IsSound flow tree (open_items l.walk)
    sound = record {
      bodies = λ b h. All-contains (IsBody flow tree) (open_items l.walk).bodies b is.walk_is.repeats.bodies h;
      counts = λ k h. (All-contains IsCount (open_items l.walk).counts k is.walk_is.repeats.counts h).0;
    }

    followed_is : followed flow cert.walk flow.entry ≡ Some walked
    followed_is = followed_along flow tree named cert.walk l.walk flow.entry Exit (ap (λ s. s.walk) said) sound is.walk_is.complete

    is_followed : IsFollowed flow tree cert.walk walked
    is_followed = record {
      followed_is = followed_is;
      complete = is.walk_is.complete;
      repeats = is.walk_is.repeats;
    }

    -- whatever is followed is that walk
    same_walk : (f : Followed) → IsFollowed flow tree cert.walk f → walked ≡ f
    same_walk f other = let both : Some walked ≡ Some f = sym followed_is ∙ other.followed_is in cc

    passes : AllByRecursion (Passes flow tree cert) objections
    passes = (
      one_profile cert.profile l.profile (ap (λ s. s.numbers) said) ∙ is.profile,
      (
        is_full,
        (
          has_no_more,
          (
            rows_fit,
            (
              (λ e h back out. rows_hold e h),
              (
                (λ e h back. rows_hold e h),
                (
                  (λ e h back out. rows_hold e h),
                  (
                    (walked, is_followed),
                    (
                      (λ f other. subst (λ x. KeepsTree tree x.opened.walk) (same_walk f other) is.walk_is.kept),
                      (
                        (λ f other. ap (λ x. cost_of edge_shape x.opened.walk) (sym (same_walk f other)) ∙ is.walk_is.costs ∙ sym same_bound),
                        tt,
                      ),
                    ),
                  ),
                ),
              ),
            ),
          ),
        ),
      ),
    )

pub longest_is_yes : (words : Words) (stated : Stated) (profile : Profile) (flow : Flow) (tree : Tree) (l : Longest) (cert : Cert) → IsFlowGraph words stated profile flow → IsWellFormed flow → IsTree flow tree → IsLongest flow tree l → said_by cert ≡ said_of l → IsVerdict flow tree cert Yes
longest_is_yes words stated profile flow tree l cert g formed t is said = yes_from_all flow tree cert objections (passes flow tree l cert is said (edge_found words stated profile flow g formed))

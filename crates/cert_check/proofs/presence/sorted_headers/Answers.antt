use Rattle.std.proofs.Common.{◌∙◌, List, ap, map, subst}
use Rattle.control_flow.specs.declared.places.Place.{Place}
use Rattle.longest_walk.specs.Rows.{header_of}
use Rattle.cert_check.specs.Presence.{Lists}
use Rattle.cert_check.proofs.PresenceLemmas.{lists_sorted, map_found}
use Rattle.cert_check.proofs.presence.sorted_headers.Goals as goal

pub returns : goal.returns
returns c =
    let listed = c.sort_unstable.new.self.items in
    subst (λ (xs : List Place). Lists xs listed) (c.in_ok-headers.ensures ∙ map_found c.args.tree.now.apart c.instances.result.now ∙ ap (map header_of) c.instances.ensures)
    (lists_sorted c.in_ok-headers.headers.items listed c.sort_unstable.ensures.permutation c.sort_unstable.ensures.sorted)

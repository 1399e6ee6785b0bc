use Rattle.std.proofs.Common.{◌⊎◌, eqb}
use Rattle.std.proofs.lemmas.List.Filters.{dedup_is}
use Rattle.text_draft.specs.Candidates.{HasWord, IsLiteral, IsNamedAt}
use Rattle.text_draft.proofs.CandidateLaws.{candidates_are}
use Rattle.text_draft.proofs.WayLaws.{gains_from_none}
use Rattle.text_draft.proofs.candidates.find_candidates.Goals as goal

pub returns : goal.returns
returns c =
    let words = c.args.image.now in
    let found = c.push_candidates.new.out.items in
    candidates_are words c.args.addresses.now found c.sort.new.self.items c.dedup.new.self.items
    (gains_from_none (λ a. HasWord words a × (IsNamedAt words c.args.addresses.now a ⊎ IsLiteral words a))
    c.new-found.result.items found c.new-found.ensures.items c.in_ok-push_candidates.ensures)
    c.in_ok-sort.ensures.permutation c.in_ok-sort.ensures.sorted
    (dedup_is eqb c.sort.new.self.items c.dedup.new.self.items c.dedup.ensures.filtered)

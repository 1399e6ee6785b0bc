use Rattle.std.proofs.Common.{◌≡◌, ◌∙◌, ◌∷◌, [], ◌<◌, All, ℕ, List, ap, subst, sym, rules}
use Rattle.bus_ticks.specs.declared.space.TheConstants.{SPACE_END}
use Rattle.statement.specs.Stated.{with_destinations}
use Rattle.explain_reports.proofs.EachLemmas.{swapped_back, swapped_small}
use Rattle.explain_reports.proofs.each.answer_of.Goals as goal

pub swap_destinations-requires-2 : goal.swap_destinations-requires-2
swap_destinations-requires-2 c =
    let only : c.in_ok-only.only.items ≡ c.args.to ∷ [] = search rules in
    let own : All (λ a. a < SPACE_END) c.in_ok-only.only.items = search rules in
    swapped_small c.args.at _ c.args.statement.now c.swap_destinations.new.to.items (λ same. subst (All (λ a. a < SPACE_END)) (sym (ap (λ v. v.items) same)) own) c.statements_are_stated.ensures.destinations
    c.swap_destinations.ensures.back

pub returns-clause-same : goal.returns-clause-same
returns-clause-same c =
    let st = c.args.statement.now in
    let new = c.swap_destinations.new.to.items in
    c.swap_destinations-2.ensures.value
    ∙ ap (λ s. with_destinations s c.args.at new) c.swap_destinations.ensures.value
    ∙ swapped_back c.args.at _ st c.in_ok-only.only.items new c.swap_destinations.ensures.back

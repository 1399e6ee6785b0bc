use Rattle.std.proofs.Common.{◌≡◌, ◌∙◌, ℕ, List, arith, ap}
use Rattle.loader.specs.PagePlan.{free_pages}
use Rattle.loader.proofs.PlanLemmas.{pages_on, plan_is, spare_within}
use Rattle.loader.proofs.plan.page_plan.Goals as goal

-- the pages and the free ones, by the lists that were lent
are_placed : (pages : List _) (held held2 free free2 : List ℕ) → pages ≡ pages_on held2 free2 → held2 ≡ held → free2 ≡ free → pages ≡ pages_on held free
are_placed pages held held2 free free2 is h f = is ∙ ap (λ (hs : List ℕ). pages_on hs free2) h ∙ ap (pages_on held) f

are_free : (held held1 free : List ℕ) → free ≡ free_pages held1 → held1 ≡ held → free ≡ free_pages held
are_free held held1 free is h = is ∙ ap free_pages h

pub index-spare-requires : goal.index-spare-requires
index-spare-requires c =
    let pages = are_placed _ _ _ _ _ c.in_ok-pages.ensures c.deref-2.ensures.value c.deref-3.ensures.value in
    let free = are_free _ _ _ c.in_ok-free.ensures c.deref.ensures.value in
    let within = spare_within c.in_ok-held.held.items c.in_ok-free.free.items c.in_ok-pages.pages.items c.in_ok-held.ensures.few free pages in
    omega (arith, within, c.in_ok-pages.pages.ok, c.in_ok-free.free.ok)

pub returns-clause-plan : goal.returns-clause-plan
returns-clause-plan c =
    let pages = are_placed _ _ _ _ _ c.in_ok-pages.ensures c.deref-2.ensures.value c.deref-3.ensures.value in
    let free = are_free _ _ _ c.in_ok-free.ensures c.deref.ensures.value in
    plan_is _ _ _ _ c.len.result c.index-spare.result.now c.in_ok-held.ensures free pages (c.len.ensures ∙ c.in_ok-pages.pages.ok.0) c.index-spare.ensures

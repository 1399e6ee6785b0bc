-- A planned image's pages, as a machine file maps them.
use Rattle.std.proofs.Common.{◌≡◌, ℕ, ◌*◌, ◌^◌, ◌<◌, ◌==◌, ◌||◌, ◌⊎◌, inl, inr, Bool, true, false, cond, Some, None, List, [], ◌∷◌, length, map, refl, sym, ap, ◌∙◌, arith}
use Rattle.std.specs.Prelude.{All, Contains, nat_eq}
use Rattle.std.specs.List.{list_all, list_any}
use Rattle.std.proofs.lemmas.Bool.{cases_lt, eqb-false, eq-eqb, eqb-true, lt-ltb, ne_eqb, or_parts}
use Rattle.std.proofs.lemmas.List.Elements.{All-contains, All-contains_itself, All-from_recursion, All-tail, All-weaker}
use Rattle.std.proofs.lemmas.Option.{same_Some}
use Rattle.image.specs.Image.{Words}
use Rattle.image.specs.Pages.{Ascend}
use Rattle.loader.specs.PagePlan.{IsFree, IsPagePlan}
use Rattle.loader.specs.Planned.{IsMapped}
use Rattle.loader.specs.declared.plan.PlacedPage.{PlacedPage}
use Rattle.loader.proofs.PlanLemmas.{first_apart, rest_ascend}
use Rattle.memc.specs.Memory.{Memory}
use Rattle.memc.specs.Paged.{IsWhole, Paged, page_at}
use Rattle.memc.specs.declared.pages.Entry.{Entry}
use Rattle.memc.specs.declared.spots.PageSize.TheVariants.{K32}
use Rattle.toml_reading.specs.Documents.{are_distinct}
use Rattle.machine_file.specs.MachineFile.{are_single, is_mappable}
use Rattle.machine_file.specs.Started.{IsController, IsResetMap, stated_at}
use Rattle.machine_file.specs.declared.pages.MappedPage.{MappedPage}
use Rattle.flow_graph.specs.TightFile.{open_page}
use Rattle.control_flow.proofs.SortedLemmas.{cons_cases, here, no_member, there}
use Rattle.control_flow.proofs.LabelLemmas.{into_map}

-- ## Numbers that ascend

not_any : (x : ℕ) (xs : List ℕ) (y : ℕ) → list_any (nat_eq x) xs ≡ false → Contains xs y → x ≡ y → ⊥
not_any x [] y none h e = no_member y h
not_any x (z ∷ zs) y none h e = by_test (λ more. not_any x zs y (or_parts (x == z) (list_any (nat_eq x) zs) none).1 more e) (x == z) (list_any (nat_eq x) zs) refl none (cons_cases z zs y h)
  where
    by_test : (Contains zs y → ⊥) → (b rest : Bool) → (x == z) ≡ b → (b || rest) ≡ false → (z ≡ y) ⊎ Contains zs y → ⊥
    by_test later true rest is either at = cc
    by_test later false rest is either (inl same) = eqb-false x z is (e ∙ sym same)
    by_test later false rest is either (inr more) = later more

pub distinct : (xs : List ℕ) → Ascend xs → are_distinct xs ≡ true
distinct [] h = refl
distinct (x ∷ xs) h = rw (first_apart x xs h, distinct xs (rest_ascend x xs h)) refl

-- pages of one number are one page
pub one_page : (number : PlacedPage → ℕ) (pages : List PlacedPage) → Ascend (map number pages) → (p q : PlacedPage) → Contains pages p → Contains pages q → number p ≡ number q → p ≡ q
one_page number [] h p q hp hq e = absurd (no_member p hp)
one_page number (x ∷ xs) h p q hp hq e = by_place (λ a b. one_page number xs (rest_ascend (number x) (map number xs) h) p q a b e) (cons_cases x xs p hp) (cons_cases x xs q hq)
  where
    apart : (y : PlacedPage) → Contains xs y → number x ≡ number y → ⊥
    apart y more same = not_any (number x) (map number xs) (number y) (first_apart (number x) (map number xs) h) (into_map number xs y more) same

    by_place : (Contains xs p → Contains xs q → p ≡ q) → (x ≡ p) ⊎ Contains xs p → (x ≡ q) ⊎ Contains xs q → p ≡ q
    by_place later (inl a) (inl b) = sym a ∙ b
    by_place later (inl a) (inr b) = absurd (apart q b (ap number a ∙ e))
    by_place later (inr a) (inl b) = absurd (apart p a (ap number b ∙ sym e))
    by_place later (inr a) (inr b) = later a b

-- ## The map of a file

pub stated_page : (pages : List PlacedPage) (l : ℕ) (e : Entry) → stated_at (map open_page pages) l ≡ Some e → (p : PlacedPage) × Contains pages p × (p.logical ≡ l) × (e ≡ record { physical = p.physical; level = 0 })
stated_page [] l e h = absurd (cc)
stated_page (p ∷ ps) l e h = by_test (stated_page ps l e) (p.logical == l) refl h
  where
    by_test : (stated_at (map open_page ps) l ≡ Some e → (q : PlacedPage) × Contains ps q × (q.logical ≡ l) × (e ≡ record { physical = q.physical; level = 0 }))
        → (b : Bool) → (p.logical == l) ≡ b → cond b (Some (record { physical = p.physical; level = 0 })) (stated_at (map open_page ps) l) ≡ Some e
        → (q : PlacedPage) × Contains (p ∷ ps) q × (q.logical ≡ l) × (e ≡ record { physical = q.physical; level = 0 })
    by_test later true is at = (p, here p ps, eqb-true p.logical l is, sym (same_Some _ _ at))
    by_test later false is at = (let w = later at in (w.0, there p ps w.0 w.1, w.2, w.3))

pub page_stated : (pages : List PlacedPage) → Ascend (map (λ p. p.logical) pages) → (p : PlacedPage) → Contains pages p → stated_at (map open_page pages) p.logical ≡ Some (record { physical = p.physical; level = 0 })
page_stated [] h p c = absurd (no_member p c)
page_stated (q ∷ ps) h p c = by_place (page_stated ps (rest_ascend q.logical (map (λ x. x.logical) ps) h) p) (cons_cases q ps p c)
  where
    by_place : (Contains ps p → stated_at (map open_page ps) p.logical ≡ Some (record { physical = p.physical; level = 0 }))
        → (q ≡ p) ⊎ Contains ps p → cond (q.logical == p.logical) (Some (record { physical = q.physical; level = 0 })) (stated_at (map open_page ps) p.logical) ≡ Some (record { physical = p.physical; level = 0 })
    by_place later (inl same) = rw (ap (λ (x : PlacedPage). x.logical) same, eq-eqb p.logical p.logical refl) (ap (λ (x : PlacedPage). Some (record { physical = x.physical; level = 0 })) same)
    by_place later (inr more) =
        let apart = not_any q.logical (map (λ x. x.logical) ps) p.logical (first_apart q.logical (map (λ x. x.logical) ps) h) (into_map (λ x. x.logical) ps p more) in
        rw (ne_eqb q.logical p.logical apart) (later more)

physical_is : (e : Entry) (physical level : ℕ) → e ≡ record { physical = physical; level = level } → e.physical ≡ physical
physical_is e physical level h = ap (λ (x : Entry). x.physical) h

level_is : (e : Entry) (physical level : ℕ) → e ≡ record { physical = physical; level = level } → e.level ≡ level
level_is e physical level h = ap (λ (x : Entry). x.level) h

-- the map after a reset is whole
module _ (p : Paged) (words : length p.words ≡ 2 ^ 20) (count : length p.pages * 2 ^ 15 ≡ 2 ^ 25) (h : IsResetMap p) where
  reset_entry : (l : ℕ) (e : Entry) → page_at p l ≡ Some e → (l < 128) × (e ≡ record { physical = l; level = 0 })
  reset_entry l e at = elim (cases_lt l 128) [
    | inl low ↦ (low, same_Some _ _ (sym at ∙ h.low l low))
    | inr high ↦ absurd (none (sym at ∙ h.high l high))
  ]
    where
      none : Some e ≡ None → ⊥
      none x = cc

  reset_whole : IsWhole 15 p
  reset_whole = record {
    size = (omega arith, omega arith);
    words = words;
    count = count;
    physical_below = λ l e at. let r = reset_entry l e at in omega (arith, r.0, physical_is e l 0 r.1);
    level_below = λ l e at. let r = reset_entry l e at in omega (arith, level_is e l 0 r.1);
    alone = λ k l e f hk hl same.
        let a = reset_entry k e hk in
        let b = reset_entry l f hl in
        omega (arith, same, physical_is e k 0 a.1, physical_is f l 0 b.1);
  }

-- and so is that of a plan
module _ (image : Words) (pages : List PlacedPage) (spare : ℕ) (plan : IsPagePlan image pages spare) (p : Paged) (words : length p.words ≡ 2 ^ 20) (count : length p.pages * 2 ^ 15 ≡ 2 ^ 25)
    (h : (l : ℕ) → page_at p l ≡ stated_at (map open_page pages) l) where
  planned_entry : (l : ℕ) (e : Entry) → page_at p l ≡ Some e → (q : PlacedPage) × Contains pages q × (q.logical ≡ l) × (e ≡ record { physical = q.physical; level = 0 })
  planned_entry l e at = stated_page pages l e (sym (h l) ∙ at)

  planned_whole : IsWhole 15 p
  planned_whole = record {
    size = (omega arith, omega arith);
    words = words;
    count = count;
    physical_below = λ l e at.
        let r = planned_entry l e at in
        let below = (All-contains (λ (q : PlacedPage). IsFree image q.physical) pages r.0 plan.free r.1).below in
        omega (arith, below, physical_is e (r.0).physical 0 r.3);
    level_below = λ l e at. let r = planned_entry l e at in omega (arith, level_is e (r.0).physical 0 r.3);
    alone = λ k l e f hk hl same.
        let a = planned_entry k e hk in
        let b = planned_entry l f hl in
        let physical : (a.0).physical ≡ (b.0).physical = sym (physical_is e (a.0).physical 0 a.3) ∙ same ∙ physical_is f (b.0).physical 0 b.3 in
        let one : a.0 ≡ b.0 = one_page (λ q. q.physical) pages plan.physical_ascend a.0 b.0 a.1 b.1 physical in
        sym a.2 ∙ ap (λ (q : PlacedPage). q.logical) one ∙ b.2;
  }

  planned_placed : All (λ q. page_at p q.logical ≡ Some (record { physical = q.physical; level = 0 })) pages
  planned_placed =
      All-weaker (Contains pages) (λ q. page_at p q.logical ≡ Some (record { physical = q.physical; level = 0 }))
      (λ q c. h q.logical ∙ page_stated pages plan.logical_ascend q c) pages (All-contains_itself pages)

-- a machine that a file with these pages states is mapped as planned
pub is_mapped : (image : Words) (pages : List PlacedPage) (spare low high : ℕ) → IsPagePlan image pages spare → (m : Memory) → IsController (record { size = K32; low_rom = low; high_rom = high; pages = map open_page pages }) m → IsMapped pages m
is_mapped image [] spare low high plan m c = record {
  size = c.size;
  whole = reset_whole m.paged c.words c.count c.map;
  placed = All-from_recursion _ [] tt;
}
is_mapped image (p ∷ ps) spare low high plan m c = record {
  size = c.size;
  whole = planned_whole image (p ∷ ps) spare plan m.paged c.words c.count c.map;
  placed = planned_placed image (p ∷ ps) spare plan m.paged c.words c.count c.map;
}

-- ## What the file's pages meet

pub all_mappable : (image : Words) (pages : List PlacedPage) (spare : ℕ) → IsPagePlan image pages spare → list_all (is_mappable 15) (map open_page pages) ≡ true
all_mappable image pages spare plan = by_each pages (All-weaker (Contains pages) Fits fits pages (All-contains_itself pages))
  where
    Fits : PlacedPage → Type 0
    Fits q = (q.logical < 1024) × (q.physical < 128)

    fits : (q : PlacedPage) → Contains pages q → Fits q
    fits q c = (((plan.logical q.logical).0 (into_map (λ x. x.logical) pages q c)).0, (All-contains (λ (x : PlacedPage). IsFree image x.physical) pages q plan.free c).below)

    by_each : (ps : List PlacedPage) → All Fits ps → list_all (is_mappable 15) (map open_page ps) ≡ true
    by_each [] all = refl
    by_each (q ∷ ps) all =
        let first = All-contains Fits (q ∷ ps) q all (here q ps) in
        rw (lt-ltb q.logical 1024 first.0, lt-ltb q.physical 128 first.1) (by_each ps (All-tail Fits q ps all))

numbers_kept : (number : PlacedPage → ℕ) (mapped : MappedPage → ℕ) → ((q : PlacedPage) → mapped (open_page q) ≡ number q) → (pages : List PlacedPage) → map mapped (map open_page pages) ≡ map number pages
numbers_kept number mapped same [] = refl
numbers_kept number mapped same (q ∷ ps) = rw (same q, numbers_kept number mapped same ps) refl

pub all_single : (image : Words) (pages : List PlacedPage) (spare : ℕ) → IsPagePlan image pages spare → are_single (map open_page pages) ≡ true
all_single image pages spare plan =
    rw (
      numbers_kept (λ q. q.logical) (λ q. q.logical) (λ q. refl) pages,
      numbers_kept (λ q. q.physical) (λ q. q.physical) (λ q. refl) pages,
      distinct (map (λ q. q.logical) pages) plan.logical_ascend,
      distinct (map (λ q. q.physical) pages) plan.physical_ascend,
    ) refl

-- The page table and its inverse stay in step when a page is taken off the map and put on it.
use Rattle.std.proofs.Common.{◌≡◌, ℕ, zero, suc, ◌<◌, ◌⊎◌, inl, inr, refl, subst, sym, ◌∙◌, ap, arith, List, [], ◌∷◌, length, map, slice_index_or, slice_set, Option, Some, None}
use Rattle.std.proofs.lemmas.Bool.{cases_eq, cases_lt}
use Rattle.std.proofs.lemmas.Bool.Decides.{nat_tests}
use Rattle.std.proofs.lemmas.List.{get_or-set_same, get_or-set_other, ext_get_or, length-set, length-map, get_or_past}
use Rattle.std.proofs.lemmas.Option.{none-some, same_Some}
use Rattle.memc.specs.declared.pages.Entry.{Entry}
use Rattle.memc.specs.Paged.{Paged, off, unmapped}
use Rattle.memc.specs.Table.{IsPaged}

-- what is on the map once a physical page is off it
pub off-at : (physical : ℕ) (pages : List (Option Entry)) (l : ℕ) → slice_index_or (map (off physical) pages) l None ≡ off physical (slice_index_or pages l None)
off-at physical [] l = refl
off-at physical (e ∷ es) zero = refl
off-at physical (e ∷ es) (suc l) = off-at physical es l

-- no logical page lies on the physical page
pub record IsOff (physical : ℕ) (pages : List (Option Entry)) : Type 0 where
  pub none : (l : ℕ) (e : Entry) → slice_index_or pages l None ≡ Some e → e.physical ≡ physical → ⊥

-- an entry on another page stays
off_other : (physical : ℕ) (e : Entry) → (e.physical ≡ physical → ⊥) → off physical (Some e) ≡ Some e
off_other physical e h = grind (arith, nat_tests)

off_same : (physical : ℕ) (e : Entry) → e.physical ≡ physical → off physical (Some e) ≡ None
off_same physical e h = grind (arith, nat_tests)

off_apart : (physical : ℕ) (o : Option Entry) → ((e : Entry) → o ≡ Some e → e.physical ≡ physical → ⊥) → off physical o ≡ o
off_apart physical None h = refl
off_apart physical (Some e) h = off_other physical e (h e refl)

off_none : (physical : ℕ) (o : Option Entry) (e : Entry) → off physical o ≡ Some e → e.physical ≡ physical → ⊥
off_none physical None e h on = none-some e h
off_none physical (Some f) e h on =
    elim (cases_eq f.physical physical) [
      | inl same ↦ none-some e (sym (off_same physical f same) ∙ h)
      | inr other ↦ other (ap (λ (e : Entry). e.physical) (same_Some f e (sym (off_other physical f other) ∙ h)) ∙ on)
    ]

-- where nothing lies on the page
pub map_off_none : (physical : ℕ) (pages : List (Option Entry)) → IsOff physical pages → map (off physical) pages ≡ pages
map_off_none physical pages h =
    ext_get_or None (map (off physical) pages) pages (length-map pages (off physical)) (λ l _. off-at physical pages l ∙ off_apart physical (slice_index_or pages l None) (h.none l))

-- where one logical page lies on it
pub map_off_one : (physical : ℕ) (pages : List (Option Entry)) (at : ℕ) (e : Entry) → slice_index_or pages at None ≡ Some e → e.physical ≡ physical → ((l : ℕ) (f : Entry) → slice_index_or pages l None ≡ Some f → f.physical ≡ physical → l ≡ at) → map (off physical) pages ≡ slice_set pages at None
map_off_one physical pages at e is on only =
    ext_get_or None (map (off physical) pages) (slice_set pages at None) (length-map pages (off physical) ∙ sym (length-set pages at None)) (λ l within.
    off-at physical pages l ∙ elim (cases_eq l at) as (λ _. off physical (slice_index_or pages l None) ≡ slice_index_or (slice_set pages at None) l None) [
      | inl same ↦
          let le : l < length pages = omega (arith, length-map pages (off physical)) in
          grind (arith, nat_tests, same, le, off_same physical e on, get_or-set_same pages at None None)
      | inr other ↦ off_apart physical (slice_index_or pages l None) (λ f g on'. other (only l f g on')) ∙ sym (get_or-set_other pages at l None None other)
    ])

none_set : {X : Type 0} (xs : List (Option X)) (i k : ℕ) (x : X) → k ≡ i → slice_index_or (slice_set xs i None) k None ≡ Some x → ⊥
none_set [] i k x same h = none-some x h
none_set (y ∷ ys) zero zero x same h = none-some x h
none_set (y ∷ ys) zero (suc k) x same h = absurd (omega arith)
none_set (y ∷ ys) (suc i) zero x same h = absurd (omega arith)
none_set (y ∷ ys) (suc i) (suc k) x same h = none_set ys i k x (omega arith) h

-- an element that is there after another was taken away was there before, elsewhere
kept : {X : Type 0} (xs : List (Option X)) (i k : ℕ) (x : X) → slice_index_or (slice_set xs i None) k None ≡ Some x → (k ≡ i → ⊥) × (slice_index_or xs k None ≡ Some x)
kept xs i k x h =
    elim (cases_eq k i) [
      | inl same ↦ absurd (none_set xs i k x same h)
      | inr other ↦ (other, sym (get_or-set_other xs i k None None other) ∙ h)
    ]

-- a table and its inverse, once a physical page is off the map
pub unmap_keeps : (shift : ℕ) (words : List ℕ) (pages : List (Option Entry)) (held : List (Option ℕ)) → IsPaged shift words pages held → (physical l : ℕ) → slice_index_or held physical None ≡ Some l →
    IsPaged shift words (slice_set pages l None) (slice_set held physical None)
unmap_keeps shift words pages held h physical l is = record {
  shift_least = h.shift_least;
  shift_most = h.shift_most;
  size = h.size;
  count = rw length-set h.count;
  places = length-set held physical None ∙ h.places;
  held_by = λ k e g.
      let old : (k ≡ l → ⊥) × (slice_index_or pages k None ≡ Some e) = kept pages l k e g in
      let was : slice_index_or held e.physical None ≡ Some k = h.held_by k e old.1 in
      let other : e.physical ≡ physical → ⊥ = λ same. old.0 (same_Some k l (sym was ∙ ap (λ (p : ℕ). slice_index_or held p None) same ∙ is)) in
      get_or-set_other held physical e.physical None None other ∙ was;
  holds = λ p k g.
      let old : (p ≡ physical → ⊥) × (slice_index_or held p None ≡ Some k) = kept held physical p k g in
      let was : (e : Entry) × (slice_index_or pages k None ≡ Some e) × (e.physical ≡ p) = h.holds p k old.1 in
      let first : (e : Entry) × (slice_index_or pages l None ≡ Some e) × (e.physical ≡ physical) = h.holds physical l is in
      let other : k ≡ l → ⊥ = λ same. old.0 (sym was.2 ∙ ap (λ (e : Entry). e.physical) (same_Some was.0 first.0 (sym was.1 ∙ ap (λ (i : ℕ). slice_index_or pages i None) same ∙ first.1)) ∙ first.2) in
      (was.0, get_or-set_other pages l k None None other ∙ was.1, was.2);
  physical_below = λ k e g. h.physical_below k e (kept pages l k e g).1;
  level_below = λ k e g. h.level_below k e (kept pages l k e g).1;
}

-- the page whose place a logical page took is free
abbrev pub freed : Option Entry → List (Option ℕ) → List (Option ℕ)
freed None held = held
freed (Some e) held = slice_set held e.physical None

-- an element after a write
written : {X : Type 0} (xs : List (Option X)) (i k : ℕ) (v : Option X) (x : X) → slice_index_or (slice_set xs i v) k None ≡ Some x → ((k ≡ i) × (v ≡ Some x)) ⊎ ((k ≡ i → ⊥) × (slice_index_or xs k None ≡ Some x))
written [] i k v x h = absurd (none-some x h)
written (y ∷ ys) zero zero v x h = inl (refl, h)
written (y ∷ ys) zero (suc k) v x h = inr ((λ e. omega arith), h)
written (y ∷ ys) (suc i) zero v x h = inr ((λ e. omega arith), h)
written (y ∷ ys) (suc i) (suc k) v x h =
    elim (written ys i k v x h) [
      | inl p ↦ inl (ap suc p.0, p.1)
      | inr p ↦ inr ((λ e. p.0 (omega arith)), p.1)
    ]

-- what the freed inverse still has
freed_holds : (shift : ℕ) (words : List ℕ) (pages : List (Option Entry)) (held : List (Option ℕ)) → IsPaged shift words pages held → (l : ℕ) (o : Option Entry) → slice_index_or pages l None ≡ o →
    (p k : ℕ) → slice_index_or (freed o held) p None ≡ Some k → (k ≡ l → ⊥) × (slice_index_or held p None ≡ Some k)
freed_holds shift words pages held h l None is p k g =
    let f : (e : Entry) × (slice_index_or pages k None ≡ Some e) × (e.physical ≡ p) = h.holds p k g in
    ((λ same. none-some f.0 (sym is ∙ ap (λ (i : ℕ). slice_index_or pages i None) (sym same) ∙ f.1)), g)
freed_holds shift words pages held h l (Some e) is p k g =
    let old : (p ≡ e.physical → ⊥) × (slice_index_or held p None ≡ Some k) = kept held e.physical p k g in
    let f : (e : Entry) × (slice_index_or pages k None ≡ Some e) × (e.physical ≡ p) = h.holds p k old.1 in
    ((λ same. old.0 (sym f.2 ∙ ap (λ (e : Entry). e.physical) (same_Some f.0 e (sym f.1 ∙ ap (λ (i : ℕ). slice_index_or pages i None) same ∙ is)))), old.1)

freed_keeps : (shift : ℕ) (words : List ℕ) (pages : List (Option Entry)) (held : List (Option ℕ)) → IsPaged shift words pages held → (l : ℕ) (o : Option Entry) → slice_index_or pages l None ≡ o →
    (k : ℕ) (f : Entry) → (k ≡ l → ⊥) → slice_index_or pages k None ≡ Some f → slice_index_or (freed o held) f.physical None ≡ Some k
freed_keeps shift words pages held h l None is k f other on = h.held_by k f on
freed_keeps shift words pages held h l (Some e) is k f other on =
    let was : slice_index_or held f.physical None ≡ Some k = h.held_by k f on in
    let apart : f.physical ≡ e.physical → ⊥ = λ same. other (same_Some k l (sym was ∙ ap (λ (p : ℕ). slice_index_or held p None) same ∙ h.held_by l e is)) in
    get_or-set_other held e.physical f.physical None None apart ∙ was

length-freed : (o : Option Entry) (held : List (Option ℕ)) → length (freed o held) ≡ length held
length-freed None held = refl
length-freed (Some e) held = length-set held e.physical None

-- a table and its inverse, once the logical page lies on a physical page that was off the map
pub map_keeps : (shift : ℕ) (words : List ℕ) (pages : List (Option Entry)) (held : List (Option ℕ)) → IsPaged shift words pages held → (e : Entry) (l : ℕ) → IsOff e.physical pages → e.physical < 128 → e.level < 4 → l < length pages →
    (o : Option Entry) → slice_index_or pages l None ≡ o →
    IsPaged shift words (slice_set pages l (Some e)) (slice_set (freed o held) e.physical (Some l))
map_keeps shift words pages held h e l out within level below o is =
    let long : e.physical < length (freed o held) = omega (arith, length-freed o held, h.places) in
    record {
      shift_least = h.shift_least;
      shift_most = h.shift_most;
      size = h.size;
      count = rw length-set h.count;
      places = length-set (freed o held) e.physical (Some l) ∙ length-freed o held ∙ h.places;
      held_by = λ k f g. elim (written pages l k (Some e) f g) [
        | inl p ↦
            let same : f.physical ≡ e.physical = ap (λ (e : Entry). e.physical) (sym (same_Some e f p.1)) in
            ap (λ (i : ℕ). slice_index_or (slice_set (freed o held) e.physical (Some l)) i None) same ∙ get_or-set_same (freed o held) e.physical (Some l) None long ∙ ap (λ (i : ℕ). Some i) (sym p.0)
        | inr p ↦
            get_or-set_other (freed o held) e.physical f.physical (Some l) None (out.none k f p.1) ∙ freed_keeps shift words pages held h l o is k f p.0 p.1
      ];
      holds = λ p k g. elim (written (freed o held) e.physical p (Some l) k g) [
        | inl q ↦ (e, ap (λ (i : ℕ). slice_index_or (slice_set pages l (Some e)) i None) (sym (same_Some l k q.1)) ∙ get_or-set_same pages l (Some e) None below, sym q.0)
        | inr q ↦
            let old : (k ≡ l → ⊥) × (slice_index_or held p None ≡ Some k) = freed_holds shift words pages held h l o is p k q.1 in
            let f : (e : Entry) × (slice_index_or pages k None ≡ Some e) × (e.physical ≡ p) = h.holds p k old.1 in
            (f.0, get_or-set_other pages l k (Some e) None old.0 ∙ f.1, f.2)
      ];
      physical_below = λ k f g. elim (written pages l k (Some e) f g) [
        | inl p ↦ (let same : f.physical ≡ e.physical = ap (λ (e : Entry). e.physical) (sym (same_Some e f p.1)) in omega arith)
        | inr p ↦ h.physical_below k f p.1
      ];
      level_below = λ k f g. elim (written pages l k (Some e) f g) [
        | inl p ↦ (let same : f.level ≡ e.level = ap (λ (e : Entry). e.level) (sym (same_Some e f p.1)) in omega arith)
        | inr p ↦ h.level_below k f p.1
      ];
    }

-- nothing lies on a page that was just taken off
pub is_off : (physical : ℕ) (pages : List (Option Entry)) → IsOff physical (map (off physical) pages)
is_off physical pages = record { none = λ l e is on. off_none physical (slice_index_or pages l None) e (sym (off-at physical pages l) ∙ is) on }

-- an element that is there is within the list
pub there : {X : Type 0} (xs : List (Option X)) (i : ℕ) (x : X) → slice_index_or xs i None ≡ Some x → i < length xs
there xs i x h =
    elim (cases_lt i (length xs)) [
      | inl p ↦ p
      | inr p ↦ absurd (none-some x (sym (get_or_past xs i None p) ∙ h))
    ]

-- the map once a physical page is off it, by what changed
pub taken : (words : List ℕ) (pages : List (Option Entry)) (physical at : ℕ) (e : Entry) → slice_index_or pages at None ≡ Some e → e.physical ≡ physical → ((l : ℕ) (f : Entry) → slice_index_or pages l None ≡ Some f → f.physical ≡ physical → l ≡ at) →
    ◌≡◌ {A = Paged} (record { words = words; pages = slice_set pages at None }) (unmapped physical (record { words = words; pages = pages }))
taken words pages physical at e is on only =
    ap (λ (ps : List (Option Entry)). let p : Paged = record { words = words; pages = ps } in p) (sym (map_off_one physical pages at e is on only))

pub not_taken : (words : List ℕ) (pages : List (Option Entry)) (physical : ℕ) → IsOff physical pages →
    ◌≡◌ {A = Paged} (record { words = words; pages = pages }) (unmapped physical (record { words = words; pages = pages }))
not_taken words pages physical h =
    ap (λ (ps : List (Option Entry)). let p : Paged = record { words = words; pages = ps } in p) (sym (map_off_none physical pages h))

pub off_by : (physical : ℕ) (pages before : List (Option Entry)) → pages ≡ map (off physical) before → IsOff physical pages
off_by physical pages before e = subst (IsOff physical) (sym e) (is_off physical before)

-- Pages that are taken off the map and put onto it.
use Rattle.std.proofs.Common.{◌≡◌, ℕ, zero, suc, ◌+◌, ◌<◌, ◌≤◌, cond, eqb, eq-eqb, Bool, true, false, nat_eq, List, [], ◌∷◌, ◌++◌, length, map, take, drop, Some, None, Result, Ok, Err, refl, sym, ap, ◌∙◌, subst, arith, inl, inr}
use Rattle.std.specs.Prelude.{◌⊎◌, ◌↔◌, OnOk, slice_index_or}
use Rattle.std.specs.List.{list_all, list_any}
use Rattle.std.proofs.lemmas.Bool.{and_parts, cases_Bool, cases_eq, cases_lt, false≢true, ne_eqb}
use Rattle.std.proofs.lemmas.List.{drop_more, get_or-set_other, get_or-set_same, length-map, length-set, map-append, take-append-drop, take_more}
use Rattle.memc.specs.Memory.{Memory, with_map, without_page}
use Rattle.memc.specs.Paged.{mapped, off, page_at}
use Rattle.memc.specs.declared.pages.Entry.{Entry}
use Rattle.memc.specs.declared.spots.MapFault.{MapFault}
use Rattle.memc.specs.declared.spots.MapFault.TheVariants.{OutOfRange}
use Rattle.memc.proofs.Inverse.{off-at}
use Rattle.toml_reading.specs.Documents.{are_distinct}
use Rattle.toml_reading.proofs.DistinctLemmas.{repeats}
use Rattle.machine_file.specs.MachineFile.{is_mappable}
use Rattle.machine_file.specs.Started.{stated_at}
use Rattle.machine_file.specs.StartWork.{AreMapped, CanMap, IsSameRest}
use Rattle.machine_file.specs.declared.pages.MappedPage.{MappedPage}

-- the physical pages below a number are off the map, and those from it on are where they were after a reset
pub record ClearedSoFar (i : ℕ) (m n : Memory) : Type 0 where
  pub below : (l : ℕ) → l < i → page_at n.paged l ≡ None
  pub from : (l : ℕ) → i ≤ l → l < 128 → page_at n.paged l ≡ Some (record { physical = l; level = 0 })
  pub high : (l : ℕ) → 128 ≤ l → page_at n.paged l ≡ None
  pub rest : IsSameRest m n

pub record MappedSoFar (pages : List MappedPage) (m n : Memory) : Type 0 where
  pub map : AreMapped pages n.paged
  pub rest : IsSameRest m n

-- ## Off the map

off_here : (i l : ℕ) → l ≡ i → off i (Some (record { physical = l; level = 0 })) ≡ None
off_here i l same = let e : Entry = record { physical = l; level = 0 } in ap (λ b. cond b None (Some e)) (eq-eqb l i same)

off_else : (i l : ℕ) → (l ≡ i → ⊥) → off i (Some (record { physical = l; level = 0 })) ≡ Some (record { physical = l; level = 0 })
off_else i l other = let e : Entry = record { physical = l; level = 0 } in ap (λ b. cond b None (Some e)) (ne_eqb l i other)

done : (r : Result (Unit {0}) MapFault) (P Q : Type 0) → OnOk r P → (r ≡ Err OutOfRange ↔ Q) → (Q → ⊥) → P
done (Ok u) P Q h k never = h
done (Err OutOfRange) P Q h k never = absurd (never (k.0 refl))

module _ (i : ℕ) (m n : Memory) (before : ClearedSoFar i m n) (lt : i < 128) where
  cleared : ClearedSoFar (i + 1) m (without_page i n)
  cleared =
      record {
        below = λ (l : ℕ) h. off-at i n.paged.pages l ∙ gone l h (cases_lt l i);
        from = λ (l : ℕ) h k. off-at i n.paged.pages l ∙ ap (off i) (before.from l (omega (arith, h)) k) ∙ off_else i l (λ e. absurd (omega (arith, h, e)));
        high = λ (l : ℕ) h. off-at i n.paged.pages l ∙ ap (off i) (before.high l h);
        rest = record { size = before.rest.size; words = before.rest.words; count = length-map n.paged.pages (off i) ∙ before.rest.count; control = before.rest.control; rom = before.rest.rom };
      }
    where
      gone : (l : ℕ) → l < i + 1 → (l < i) ⊎ (i ≤ l) → off i (page_at n.paged l) ≡ None
      gone l h (inl below) = ap (off i) (before.below l below)
      gone l h (inr above) =
          let same : l ≡ i = omega arith in
          let small : l < 128 = omega arith in
          ap (off i) (before.from l above small) ∙ off_here i l same

pub cleared_next : (i : ℕ) (m n o : Memory) (r : Result (Unit {0}) MapFault) → ClearedSoFar i m n → i < 128 → OnOk r (o ≡ without_page i n) → (r ≡ Err OutOfRange ↔ (128 ≤ i)) → ClearedSoFar (i + 1) m o
cleared_next i m n o r before lt ok refused =
    subst (ClearedSoFar (i + 1) m) (sym (done r (o ≡ without_page i n) (128 ≤ i) ok refused (λ h. absurd (omega (arith, h, lt))))) (cleared i m n before lt)

-- ## Onto the map

all_at : (p : MappedPage → Bool) (xs : List MappedPage) (k : ℕ) (d : MappedPage) → list_all p xs ≡ true → k < length xs → p (slice_index_or xs k d) ≡ true
all_at p [] k d h lt = absurd (omega arith)
all_at p (x ∷ xs) zero d h lt = (and_parts (p x) (list_all p xs) h).0
all_at p (x ∷ xs) (suc k) d h lt = all_at p xs k d (and_parts (p x) (list_all p xs) h).1 (omega arith)

-- a number of a page that occurs once is that of no earlier page
once_before : (f : MappedPage → ℕ) (xs : List MappedPage) (k : ℕ) (d : MappedPage) → k < length xs → are_distinct (map f xs) ≡ true → list_any (nat_eq (f (slice_index_or xs k d))) (map f (take k xs)) ≡ false
once_before f xs k d lt once = by_case (cases_Bool (list_any (nat_eq x) (map f (take k xs))))
  where
    x : ℕ
    x = f (slice_index_or xs k d)

    split : map f xs ≡ map f (take k xs) ++ f (slice_index_or xs k d) ∷ map f (drop (k + 1) xs)
    split = ap (map f) (sym (take-append-drop k xs) ∙ ap (λ ys. take k xs ++ ys) (drop_more xs k d lt)) ∙ map-append f (take k xs) (slice_index_or xs k d ∷ drop (k + 1) xs)

    by_case : (list_any (nat_eq (f (slice_index_or xs k d))) (map f (take k xs)) ≡ true) ⊎ (list_any (nat_eq (f (slice_index_or xs k d))) (map f (take k xs)) ≡ false) → list_any (nat_eq (f (slice_index_or xs k d))) (map f (take k xs)) ≡ false
    by_case (inl there) = absurd (false≢true (sym (repeats (map f (take k xs)) (map f (drop (k + 1) xs)) (f (slice_index_or xs k d)) there) ∙ ap are_distinct (sym split) ∙ once))
    by_case (inr absent) = absent

abbrev entry_of : MappedPage → Entry
entry_of x = record { physical = x.physical; level = x.level }

eqb_other : (x y : ℕ) → eqb x y ≡ false → eqb y x ≡ false
eqb_other x y h = ne_eqb y x (λ e. false≢true (sym h ∙ eq-eqb x y (sym e)))

stated_push_same : (xs : List MappedPage) (x : MappedPage) → list_any (nat_eq x.logical) (map (λ p. p.logical) xs) ≡ false → stated_at (xs ++ x ∷ []) x.logical ≡ Some (entry_of x)
stated_push_same [] x absent = ap (λ b. cond b (Some (entry_of x)) None) (eq-eqb x.logical x.logical refl)
stated_push_same (y ∷ ys) x absent = elim (cases_Bool (eqb x.logical y.logical)) [
  | inl same ↦ absurd (false≢true (sym absent ∙ rw same refl))
  | inr other ↦ rw (eqb_other x.logical y.logical other) (stated_push_same ys x (rw other at absent))
]

stated_push_other : (xs : List MappedPage) (x : MappedPage) (l : ℕ) → (l ≡ x.logical → ⊥) → stated_at (xs ++ x ∷ []) l ≡ stated_at xs l
stated_push_other [] x l other = ap (λ b. cond b (Some (entry_of x)) None) (ne_eqb x.logical l (λ e. other (sym e)))
stated_push_other (y ∷ ys) x l other = ap (λ o. cond (eqb y.logical l) (Some (entry_of y)) o) (stated_push_other ys x l other)

off_stated : (xs : List MappedPage) (ph l : ℕ) → list_any (nat_eq ph) (map (λ p. p.physical) xs) ≡ false → off ph (stated_at xs l) ≡ stated_at xs l
off_stated [] ph l absent = refl
off_stated (y ∷ ys) ph l absent = elim (cases_Bool (eqb ph y.physical)) [
  | inl same ↦ absurd (false≢true (sym absent ∙ rw same refl))
  | inr other ↦ by_logical (eqb y.logical l) (eqb_other ph y.physical other) (off_stated ys ph l (rw other at absent))
]
  where
    by_logical : (b : Bool) → eqb y.physical ph ≡ false → off ph (stated_at ys l) ≡ stated_at ys l → off ph (cond b (Some (entry_of y)) (stated_at ys l)) ≡ cond b (Some (entry_of y)) (stated_at ys l)
    by_logical true differs rest = ap (λ b. cond b None (Some (entry_of y))) differs
    by_logical false differs rest = rest

module _ (xs : List MappedPage) (x : MappedPage) (m n : Memory) (before : MappedSoFar xs m n) where
  put_at : x.logical < length m.paged.pages → list_any (nat_eq x.logical) (map (λ p. p.logical) xs) ≡ false → list_any (nat_eq x.physical) (map (λ p. p.physical) xs) ≡ false → (l : ℕ) → (l ≡ x.logical) ⊎ (l ≡ x.logical → ⊥) → page_at (mapped x.physical x.logical x.level n.paged) l ≡ stated_at (xs ++ x ∷ []) l
  put_at room logical physical l (inl same) =
      let fits : x.logical < length (map (off x.physical) n.paged.pages) = omega (arith, room, length-map n.paged.pages (off x.physical), before.rest.count) in
      ap (λ (k : ℕ). page_at (mapped x.physical x.logical x.level n.paged) k) same
      ∙ get_or-set_same (map (off x.physical) n.paged.pages) x.logical (Some (entry_of x)) None fits
      ∙ sym (stated_push_same xs x logical)
      ∙ ap (stated_at (xs ++ x ∷ [])) (sym same)
  put_at room logical physical l (inr other) =
      get_or-set_other (map (off x.physical) n.paged.pages) x.logical l (Some (entry_of x)) None other
      ∙ off-at x.physical n.paged.pages l
      ∙ ap (off x.physical) (before.map.at l)
      ∙ off_stated xs x.physical l physical
      ∙ sym (stated_push_other xs x l other)

  put : x.logical < length m.paged.pages → list_any (nat_eq x.logical) (map (λ p. p.logical) xs) ≡ false → list_any (nat_eq x.physical) (map (λ p. p.physical) xs) ≡ false → MappedSoFar (xs ++ x ∷ []) m (with_map x.physical x.logical x.level n)
  put room logical physical = record {
    map = record { at = λ (l : ℕ). put_at room logical physical l (cases_eq l x.logical) };
    rest = record {
      size = before.rest.size;
      words = before.rest.words;
      count = length-set (map (off x.physical) n.paged.pages) x.logical (Some (entry_of x)) ∙ length-map n.paged.pages (off x.physical) ∙ before.rest.count;
      control = before.rest.control;
      rom = before.rest.rom;
    };
  }

pub mapped_next : (pages : List MappedPage) (k : ℕ) (d : MappedPage) (m n o : Memory) (r : Result (Unit {0}) MapFault) → CanMap m pages → MappedSoFar (take k pages) m n → k < length pages → OnOk r (o ≡ with_map (slice_index_or pages k d).physical (slice_index_or pages k d).logical (slice_index_or pages k d).level n) → (r ≡ Err OutOfRange ↔ is_mappable n.shift (slice_index_or pages k d) ≡ false) → MappedSoFar (take (k + 1) pages) m o
mapped_next pages k d m n o r can before lt ok refused =
    let x : MappedPage = slice_index_or pages k d in
    let valid : is_mappable m.shift x ≡ true = all_at (is_mappable m.shift) pages k d can.mappable lt in
    let here : is_mappable n.shift x ≡ true = ap (λ (s : ℕ). is_mappable s x) before.rest.size ∙ valid in
    let singles = and_parts (are_distinct (map (λ (p : MappedPage). p.logical) pages)) (are_distinct (map (λ (p : MappedPage). p.physical) pages)) can.single in
    let next : MappedSoFar (take k pages ++ x ∷ []) m (with_map x.physical x.logical x.level n) =
    put (take k pages) x m n before (can.room x valid) (once_before (λ p. p.logical) pages k d lt singles.0) (once_before (λ p. p.physical) pages k d lt singles.1) in
    let is : o ≡ with_map x.physical x.logical x.level n = done r (o ≡ with_map x.physical x.logical x.level n) (is_mappable n.shift x ≡ false) ok refused (λ out. false≢true (sym out ∙ here)) in
    subst (MappedSoFar (take (k + 1) pages) m) (sym is) (subst (λ ps. MappedSoFar ps m (with_map x.physical x.logical x.level n)) (sym (take_more pages k d lt)) next)

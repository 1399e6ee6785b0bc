-- A new page table and its inverse: the first 128 pages lie in order, and no others.
use Rattle.std.proofs.Common.{◌≡◌, ℕ, zero, suc, ◌+◌, ◌-◌, ◌*◌, ◌%◌, ◌^◌, ◌<◌, ◌≤◌, inl, inr, refl, sym, ◌∙◌, ap, arith, List, length, replicate, slice_index_or, slice_set, Option, Some, None}
use Rattle.std.proofs.lemmas.Bool.{cases_eq, cases_lt}
use Rattle.std.proofs.lemmas.List.{get_or-set_same, get_or-set_other, length-set, length-replicate}
use Rattle.std.proofs.lemmas.Option.{none-some, same_Some}
use Rattle.std.proofs.lemmas.Nat.{one_shl, pow-add}
use Rattle.memc.specs.declared.pages.Entry.{Entry}
use Rattle.memc.specs.Table.{IsPaged}
use Rattle.memc.proofs.Places.{pages_long}

-- a table whose first pages lie in order, and its inverse
pub record IsPartly (shift : ℕ) (n : ℕ) (pages : List (Option Entry)) (held : List (Option ℕ)) : Type 0 where
  pub count : length pages * 2 ^ shift ≡ 2 ^ 25
  pub places : length held ≡ 128
  pub low : (i : ℕ) → i < n → slice_index_or pages i None ≡ Some (record { physical = i; level = 0 })
  pub high : (i : ℕ) → n ≤ i → slice_index_or pages i None ≡ None
  pub held_low : (i : ℕ) → i < n → slice_index_or held i None ≡ Some i
  pub held_high : (i : ℕ) → n ≤ i → slice_index_or held i None ≡ None

none_replicate : {X : Type 0} (n i : ℕ) → slice_index_or (replicate n (let o : Option X = None in o)) i None ≡ None
none_replicate zero i = refl
none_replicate (suc n) zero = refl
none_replicate (suc n) (suc i) = none_replicate n i

length_none : (X : Type 0) (n : ℕ) → length (replicate n (let o : Option X = None in o)) ≡ n
length_none X n = length-replicate n (let o : Option X = None in o)

pub words_long : (shift n : ℕ) → shift ≤ 15 → n ≡ 1 * 2 ^ (shift + 5) % 2 ^ 64 → n ≡ 2 ^ (shift + 5)
words_long shift n s h = h ∙ one_shl (shift + 5) 64 (omega arith)

-- a table as long as it is made
table_long : (shift : ℕ) → shift ≤ 15 → (1 * 2 ^ (25 - shift) % 2 ^ 64) * 2 ^ shift ≡ 2 ^ 25
table_long shift s =
    let e : 25 - shift + shift ≡ 25 = omega arith in
    rw (one_shl (25 - shift) 64 (omega arith)) (sym (pow-add 2 (25 - shift) shift) ∙ ap (λ (k : ℕ). 2 ^ k) e)

pub partly_none : (shift : ℕ) (pages : List (Option Entry)) (held : List (Option ℕ)) → shift ≤ 15 → pages ≡ replicate (1 * 2 ^ (25 - shift) % 2 ^ 64) None → held ≡ replicate 128 None → IsPartly shift 0 pages held
partly_none shift pages held s p h = record {
  count = rw p (rw (length_none Entry) (table_long shift s));
  places = rw h (length_none ℕ 128);
  low = λ i l. absurd (omega arith);
  high = λ i l. rw p (none_replicate (1 * 2 ^ (25 - shift) % 2 ^ 64) i);
  held_low = λ i l. absurd (omega arith);
  held_high = λ i l. rw h (none_replicate 128 i);
}

pub partly_more : (shift n : ℕ) (pages : List (Option Entry)) (held : List (Option ℕ)) → shift ≤ 15 → n < 128 → IsPartly shift n pages held → IsPartly shift (n + 1) (slice_set pages n (Some (record { physical = n; level = 0 }))) (slice_set held n (Some n))
partly_more shift n pages held s below h =
    let e : Entry = record { physical = n; level = 0 } in
    let long : n < length pages = omega (arith, pages_long shift (length pages) s h.count) in
    let held_long : n < length held = omega (arith, h.places) in
    record {
      count = rw length-set h.count;
      places = length-set held n (Some n) ∙ h.places;
      low = λ i l. elim (cases_eq i n) [
        | inl same ↦ (rw same (get_or-set_same pages n (Some e) None long))
        | inr other ↦ get_or-set_other pages n i (Some e) None other ∙ h.low i (omega (arith, other))
      ];
      high = λ i l. (let other : i ≡ n → ⊥ = λ q. omega arith in get_or-set_other pages n i (Some e) None other ∙ h.high i (omega arith));
      held_low = λ i l. elim (cases_eq i n) [
        | inl same ↦ (rw same (get_or-set_same held n (Some n) None held_long))
        | inr other ↦ get_or-set_other held n i (Some n) None other ∙ h.held_low i (omega (arith, other))
      ];
      held_high = λ i l. (let other : i ≡ n → ⊥ = λ q. omega arith in get_or-set_other held n i (Some n) None other ∙ h.held_high i (omega arith));
    }

pub partly_all : (shift : ℕ) (words : List ℕ) (pages : List (Option Entry)) (held : List (Option ℕ)) → 12 ≤ shift → shift ≤ 15 → length words ≡ 2 ^ (shift + 5) → IsPartly shift 128 pages held → IsPaged shift words pages held
partly_all shift words pages held least most size h =
    record {
      shift_least = least;
      shift_most = most;
      size = size;
      count = h.count;
      places = h.places;
      held_by = λ l e is. elim (cases_lt l 128) [
        | inl p ↦ (let same : e.physical ≡ l = ap (λ (e : Entry). e.physical) (same_Some e (record { physical = l; level = 0 }) (sym is ∙ h.low l p)) in rw same (h.held_low l p))
        | inr p ↦ absurd (none-some e (sym (h.high l p) ∙ is))
      ];
      holds = λ p l is. elim (cases_lt p 128) [
        | inl q ↦
            let same : l ≡ p = same_Some l p (sym is ∙ h.held_low p q) in
            (record { physical = p; level = 0 }, rw same (h.low p q), refl)
        | inr q ↦ absurd (none-some l (sym (h.held_high p q) ∙ is))
      ];
      physical_below = λ l e is. elim (cases_lt l 128) [
        | inl p ↦ (let same : e.physical ≡ l = ap (λ (e : Entry). e.physical) (same_Some e (record { physical = l; level = 0 }) (sym is ∙ h.low l p)) in omega arith)
        | inr p ↦ absurd (none-some e (sym (h.high l p) ∙ is))
      ];
      level_below = λ l e is. elim (cases_lt l 128) [
        | inl p ↦ (let same : e.level ≡ 0 = ap (λ (e : Entry). e.level) (same_Some e (record { physical = l; level = 0 }) (sym is ∙ h.low l p)) in omega arith)
        | inr p ↦ absurd (none-some e (sym (h.high l p) ∙ is))
      ];
    }

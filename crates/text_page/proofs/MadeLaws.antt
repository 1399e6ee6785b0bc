-- Tables of loops by an address of each, and sets of addresses.
use Rattle.std.proofs.Common.{◌≡◌, ◌∙◌, ℕ, ◌+◌, ◌<◌, ◌≤◌, Bool, cond, eqb, List, [], ◌∷◌, Option, Some, None, get_or, length, map, take, sym, ap}
use Rattle.std.specs.BTreeMap.{BTreeMap, Updates, get}
use Rattle.std.specs.Cmp.{unsigned_tied}
use Rattle.std.specs.Map.{update_all}
use Rattle.std.specs.Ordering.{nat_cmp}
use Rattle.std.proofs.lemmas.List.{map-append, take_all, take_more}
use Rattle.std.proofs.lemmas.Map.{update_all_push}
use Rattle.std.specs.Prelude.{◌||◌, ◌==◌}
use Rattle.std.proofs.lemmas.List.Folds.{list_any_more}
use Rattle.statement.specs.declared.stated.Loop.{Loop}
use Rattle.text_explained.specs.declared.table_rows.TableRow.{TableRow}
use Rattle.text_page.specs.Noted.{has_row}

module _ {X : Type 0} (f : Loop → ℕ × X) where
  abbrev pub made : List Loop → ℕ → Option X
  made loops = update_all eqb (λ a. None) (map f loops)

  -- a loop more
  pub made_more : (loops : List Loop) (i : ℕ) (d : Loop) (old new : BTreeMap ℕ X) → i < length loops → ((q : ℕ) → get nat_cmp old q ≡ made (take i loops) q)
      → Updates nat_cmp old new (f (get_or loops i d)).0 (Some (f (get_or loops i d)).1) → (q : ℕ) → get nat_cmp new q ≡ made (take (i + 1) loops) q
  made_more loops i d old new lt before updates q =
      let l = get_or loops i d in
      updates.0 q ∙ ap (λ (b : Bool). cond b (Some (f l).1) (get nat_cmp old q)) (unsigned_tied (f l).0 q)
      ∙ update_all_push eqb (λ a. None) (get nat_cmp old) (map f (take i loops)) (f l) q (before q)
      ∙ ap (λ (ps : List (ℕ × X)). update_all eqb (λ a. None) ps q) (sym (ap (map f) (take_more loops i d lt) ∙ map-append f (take i loops) (l ∷ [])))

  pub made_all : (loops : List Loop) (i : ℕ) (now : BTreeMap ℕ X) → length loops ≤ i → ((q : ℕ) → get nat_cmp now q ≡ made (take i loops) q) → (q : ℕ) → get nat_cmp now q ≡ made loops q
  made_all loops i now le is q = is q ∙ ap (λ ls. made ls q) (take_all i loops le)

-- a row more
pub rows_more : (rows : List TableRow) (i : ℕ) (d : TableRow) (a : ℕ) (old new : Bool) → i < length rows → old ≡ has_row (take i rows) a → new ≡ (old || a == (get_or rows i d).at) → new ≡ has_row (take (i + 1) rows) a
rows_more rows i d a old new lt before is = is ∙ ap (λ b. b || a == (get_or rows i d).at) before ∙ sym (list_any_more (λ (r : TableRow). a == r.at) rows i d lt)

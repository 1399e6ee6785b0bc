-- Where returns go: over one more place, and over all.
use Rattle.std.proofs.Common.{◌≡◌, ◌∙◌, ℕ, ◌+◌, ◌<◌, ◌≤◌, ◌==◌, Bool, true, false, cond, List, [], ◌∷◌, ◌++◌, length, Option, Some, None, ⊎_elim, refl, sym, ap, subst, arith}
use Rattle.std.specs.Prelude.{◌↔◌, Contains, nat_lt, slice_index, slice_index_or, unwrap_or}
use Rattle.std.specs.BTreeSet.{BTreeSet, contains}
use Rattle.std.specs.List.Sorted.{IsStrictlySortedBy}
use Rattle.std.specs.Ordering.{nat_cmp}
use Rattle.std.proofs.lemmas.Bool.{cases_Bool, cases_eq, cases_lt, cond-false, cond-true, eqb-true, eq-eqb, false≢true, le-ltb, lt-ltb}
use Rattle.std.proofs.lemmas.Cmp.{nat_cmp_total}
use Rattle.std.proofs.lemmas.List.{get_or_default}
use Rattle.std.proofs.lemmas.List.Folds.{Any-from_list_any}
use Rattle.std.proofs.lemmas.Map.Lookups.{exact_unsigned}
use Rattle.std.proofs.lemmas.Map.Views.{btree_set_contains_iff}
use Rattle.control_flow.proofs.SortedLemmas.{here, there}
use Rattle.control_flow.specs.Flow.{Flow}
use Rattle.control_flow.specs.Places.{place_address, place_at}
use Rattle.control_flow.specs.declared.places.Place.{Place}
use Rattle.control_flow.specs.declared.places.Place.TheVariants.{At, Exit}
use Rattle.image.specs.Image.{Words}
use Rattle.loop_bounds.specs.Tree.{IsTree, Tree, place_in}
use Rattle.statement.specs.Stated.{Stated, target_of}
use Rattle.text_explained.specs.Taken.{is_at, is_reached}
use Rattle.text_rows.specs.Rows.{AreRows}
use Rattle.known_places.specs.Destinations.{destination_at}
use Rattle.known_places.specs.declared.destination.Destination.{Destination}
use Rattle.justify_reports.specs.Returns.{AreFound, AreReturns, GoesFrom, HasReturn, IsFound, IsGoing, IsGravest, going_of, graver, gravity}
use Rattle.justify_reports.specs.Rows.{AreFoundRows, AreReturnRows, IsReturnRow, return_row}
use Rattle.justify_reports.specs.declared.returns.Going.{Going}
use Rattle.justify_reports.specs.declared.returns.Going.TheVariants.{Unseen}
use Rattle.justify_reports.specs.declared.rows.Row.{Row}

-- ## One address

module _ (Goes : ℕ → Going → Type 0) (end : ℕ) where
  -- a place from which it does not go
  pub found_none : (found : Option Going) → ((g : Going) → Goes end g → ⊥) → IsFound Goes end found → IsFound Goes (end + 1) found
  found_none None never none = λ k g lt goes.
      ⊎_elim (λ (less : k < end). none k g less goes)
      (λ (more : end ≤ k). never g (let same : k ≡ end = omega (arith, lt, more) in subst (λ n. Goes n g) same goes)) (cases_lt k end)
  found_none (Some going) never found = record {
    number = found.number;
    inside = let lt = found.inside in omega (arith, lt);
    is = found.is;
    most = λ k g lt goes. ⊎_elim (λ (less : k < end). found.most k g less goes)
        (λ (more : end ≤ k). absurd (never g (let same : k ≡ end = omega (arith, lt, more) in subst (λ n. Goes n g) same goes))) (cases_lt k end);
    first = found.first;
  }

  module _ (going : Going) (goes_there : Goes end going) (only : (g : Going) → Goes end g → g ≡ going) where
    -- the old one, where this is not graver
    stays : (old : Going) → IsGravest Goes end old → gravity going ≤ gravity old → IsGravest Goes (end + 1) old
    stays old found le = record {
      number = found.number;
      inside = let lt = found.inside in omega (arith, lt);
      is = found.is;
      most = λ k g lt goes. ⊎_elim (λ (less : k < end). found.most k g less goes)
          (λ (more : end ≤ k).
          let same : k ≡ end = omega (arith, lt, more) in
          let one : g ≡ going = only g (subst (λ n. Goes n g) same goes) in
          subst (λ (h : Going). gravity h ≤ gravity old) (sym one) le) (cases_lt k end);
      first = found.first;
    }

    comes : ((k : ℕ) (g : Going) → k < end → Goes k g → gravity g < gravity going) → IsGravest Goes (end + 1) going
    comes less_grave = record {
      number = end;
      inside = omega arith;
      is = goes_there;
      most = λ k g lt goes. ⊎_elim (λ (less : k < end). let l = less_grave k g less goes in omega (arith, l))
          (λ (more : end ≤ k).
          let same : k ≡ end = omega (arith, lt, more) in
          let one : g ≡ going = only g (subst (λ n. Goes n g) same goes) in
          subst (λ (h : Going). gravity h ≤ gravity going) (sym one) (omega arith)) (cases_lt k end);
      first = less_grave;
    }

    pub found_one : (found : Option Going) → IsFound Goes end found → IsFound Goes (end + 1) (Some (graver found going))
    found_one None none = comes (λ k g lt goes. absurd (none k g lt goes))
    found_one (Some old) found =
        ⊎_elim
        (λ (less : gravity old < gravity going).
        let is : graver (Some old) going ≡ going = cond-true (nat_lt (gravity old) (gravity going)) going old (lt-ltb (gravity old) (gravity going) less) in
        subst (IsGravest Goes (end + 1)) (sym is) (comes (λ k g lt goes. let most = found.most k g lt goes in omega (arith, most, less))))
        (λ (more : gravity going ≤ gravity old).
        let is : graver (Some old) going ≡ old = cond-false (nat_lt (gravity old) (gravity going)) going old (le-ltb (gravity old) (gravity going) more) in
        subst (IsGravest Goes (end + 1)) (sym is) (stays old found more))
        (cases_lt (gravity old) (gravity going))

-- ## All addresses

module _ (words : Words) (st : Stated) (flow : Flow) (tree : Tree) (destinations : List Destination) where
  module _ (number : ℕ) (old : ℕ → Option Going) where
    -- the place has no return
    pub passed : ((a : ℕ) (g : Going) → GoesFrom words st flow tree destinations a number g → ⊥)
        → AreFound words st flow tree destinations number old → AreFound words st flow tree destinations (number + 1) old
    passed none found a = found_none (GoesFrom words st flow tree destinations a) number (old a) (none a) (found a)

    pub none_at_exit : place_in flow tree number ≡ Exit → (a : ℕ) (g : Going) → GoesFrom words st flow tree destinations a number g → ⊥
    none_at_exit exit a g goes = let both : Exit ≡ At goes.calls a = sym exit ∙ goes.place in absurd (cc)

    module _ (calls : List ℕ) (at : ℕ) (place : place_in flow tree number ≡ At calls at) where
      same_place : (a : ℕ) (g : Going) → (goes : GoesFrom words st flow tree destinations a number g) → At calls at ≡ At goes.calls a
      same_place a g goes = sym place ∙ goes.place

      same_address : (a : ℕ) (g : Going) → GoesFrom words st flow tree destinations a number g → at ≡ a
      same_address a g goes = ap place_address (same_place a g goes)

      pub none_without : (HasReturn words st at → ⊥) → (a : ℕ) (g : Going) → GoesFrom words st flow tree destinations a number g → ⊥
      none_without none a g goes = none (subst (HasReturn words st) (sym (same_address a g goes)) goes.returns)

      module _ (has : HasReturn words st at) (going : Going) (is : going ≡ going_of words st.leave (target_of st at) calls (destination_at destinations number)) where
        goes_there : GoesFrom words st flow tree destinations at number going
        goes_there = record { calls = calls; place = place; returns = has; going_is = is }

        only : (g : Going) → GoesFrom words st flow tree destinations at number g → g ≡ going
        only g goes =
            let same : At calls at ≡ At goes.calls at = same_place at g goes in
            let one : goes.calls ≡ calls = cc in
            goes.going_is ∙ ap (λ (cs : List ℕ). going_of words st.leave (target_of st at) cs (destination_at destinations number)) one ∙ sym is

        pub put : (new : ℕ → Option Going) → ((a : ℕ) → new a ≡ cond (at == a) (Some (graver (old at) going)) (old a))
            → AreFound words st flow tree destinations number old → AreFound words st flow tree destinations (number + 1) new
        put new puts found a = ⊎_elim
            (λ (own : (at == a) ≡ true).
            let same : at ≡ a = eqb-true at a own in
            subst (λ b. IsFound (GoesFrom words st flow tree destinations b) (number + 1) (new b)) same
            (subst (IsFound (GoesFrom words st flow tree destinations at) (number + 1))
            (sym (puts at ∙ cond-true (at == at) (Some (graver (old at) going)) (old at) (eq-eqb at at refl)))
            (found_one (GoesFrom words st flow tree destinations at) number going goes_there only (old at) (found at))))
            (λ (apart : (at == a) ≡ false).
            subst (IsFound (GoesFrom words st flow tree destinations a) (number + 1))
            (sym (puts a ∙ cond-false (at == a) (Some (graver (old at) going)) (old a) apart))
            (found_none (GoesFrom words st flow tree destinations a) number (old a)
            (λ g goes. false≢true (sym apart ∙ eq-eqb at a (same_address a g goes))) (found a)))
            (cases_Bool (at == a))

  -- ## Rows

  module _ (found : ℕ → Option Going) (are : AreFound words st flow tree destinations (length flow.places) found) where
    is_going : (a number : ℕ) (calls : List ℕ) → number < length flow.places → place_in flow tree number ≡ At calls a → HasReturn words st a
        → (o : Option Going) → IsFound (GoesFrom words st flow tree destinations a) (length flow.places) o
        → IsGoing words st flow tree destinations a (unwrap_or o Unseen)
    is_going a number calls low place has None none =
        absurd (none number (going_of words st.leave (target_of st a) calls (destination_at destinations number)) low
        (record { calls = calls; place = place; returns = has; going_is = refl }))
    is_going a number calls low place has (Some going) is = is

    -- the number of a place at the address
    record HasPlace (a : ℕ) : Type 0 where
      pub number : ℕ
      pub inside : number < length flow.places
      pub calls : List ℕ
      pub place : place_in flow tree number ≡ At calls a

    at_address : (a : ℕ) (p : Place) → is_at a p ≡ true → (calls : List ℕ) × (p ≡ At calls a)
    at_address a (At calls b) is = (calls, ap (λ (n : ℕ). At calls n) (eqb-true b a is))
    at_address a Exit is = absurd (false≢true is)

    has_place : IsTree flow tree → (a : ℕ) → is_reached flow.places a ≡ true → HasPlace a
    has_place t a reached =
        let v = Any-from_list_any (is_at a) flow.places reached in
        let n = t.all v.0 v.2 in
        let at : slice_index_or tree.order n.0 (length flow.places) ≡ v.0 =
        get_or_default tree.order n.0 (length flow.places) 0 (let whole = t.whole in let lt = n.1 in omega (arith, whole, lt)) ∙ n.2 in
        let p = at_address a v.1 v.4 in
        record {
          number = n.0;
          inside = n.1;
          calls = p.0;
          place = ap (place_at flow.places) at ∙ get_or_default flow.places v.0 Exit v.1 v.2 ∙ v.3 ∙ p.1;
        }

    row_of : IsTree flow tree → (a : ℕ) → is_reached flow.places a ≡ true → HasReturn words st a
        → IsReturnRow words st flow tree destinations a (return_row (unwrap_or (found a) Unseen) a)
    row_of t a reached has =
        let h = has_place t a reached in
        record { going = unwrap_or (found a) Unseen; is_going = is_going a h.number h.calls h.inside h.place has (found a) (are a); row_is = refl }

    rows_of : IsTree flow tree → (named : List ℕ) (rows : List Row)
        → ((a : ℕ) → Contains named a → (is_reached flow.places a ≡ true) × HasReturn words st a) → AreFoundRows found named rows
        → AreRows (λ (a : ℕ) (part : List Row). (row : Row) × IsReturnRow words st flow tree destinations a row × (part ≡ row ∷ [])) named rows
    rows_of t [] rows each is = is
    rows_of t (a ∷ named) rows each (row, rest, row_is, rest_are, is) =
        let h = each a (here a named) in (
          row,
          rest,
          (return_row (unwrap_or (found a) Unseen) a, row_of t a h.0 h.1, row_is),
          rows_of t named rest (λ b has. each b (there a named b has)) rest_are,
          is,
        )

    pub return_rows : IsTree flow tree → (named : List ℕ) (rows : List Row) → AreReturns words st flow named → AreFoundRows found named rows
        → AreReturnRows words st flow tree destinations rows
    return_rows t named rows returns is =
        record { named = named; are_returns = returns; are_rows = rows_of t named rows (λ a has. (returns.each a).0 has) is }

module _ (words : Words) (st : Stated) (flow : Flow) (set : BTreeSet ℕ) where
  pub are_returns : (items : List ℕ) → ((a : ℕ) → (contains nat_cmp set a ≡ true) ↔ ((is_reached flow.places a ≡ true) × HasReturn words st a))
      → items ≡ set.keys → IsStrictlySortedBy nat_cmp items → AreReturns words st flow items
  are_returns items known is ascending = record {
    ascending = ascending;
    each = λ a.
        let iff = btree_set_contains_iff nat_cmp_total exact_unsigned set a in (
          λ h. (known a).0 (iff.1 (subst (λ xs. Contains xs a) is h)),
          λ h. subst (λ xs. Contains xs a) (sym is) (iff.0 ((known a).1 h)),
        );
  }

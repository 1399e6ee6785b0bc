-- The search for addresses goes on.
use Rattle.std.proofs.Common.{◌≡◌, ℕ, ◌+◌, ◌<◌, ◌≤◌, inl, inr, List, [], ◌∷◌, ◌++◌, length, take, get_or, ⊎_elim, sym, ap, ◌∙◌, subst, arith}
use Rattle.std.specs.Prelude.{Contains, ◌↔◌, Option}
use Rattle.statement.specs.Stated.{Stated}
use Rattle.std.specs.BTreeSet.{BTreeSet}
use Rattle.std.specs.Cmp.{nat_cmp_total}
use Rattle.std.proofs.lemmas.List.{get_or_append_left, get_or_read, take_more}
use Rattle.std.proofs.lemmas.List.Elements.{Contains-append_left, Contains-push, Contains-push_cases, Contains-get_or}
use Rattle.std.proofs.lemmas.Map.Lookups.{exact_unsigned}
use borrow.Author.Count.{below_more}
use Rattle.text_draft.specs.Exploring.{Gains, HasRoom, IsFound}
use Rattle.control_flow.specs.declared.search.TheConstants.{MOST_PLACES}
use Rattle.text_draft.specs.Reach.{AreReached, LeadsTo, Reaches, begins, leads_on}
use Rattle.image.specs.Image.{Words}
use Rattle.word_shapes.specs.Growing.{Adds, Grows}
use Rattle.text_draft.proofs.WayLaws.{gains_from_none}
use Rattle.word_shapes.proofs.GrowLaws.{grows_on, grows_one, kept, keys_listed, no_shorter}

-- ## Lists that grow

-- one of some addresses after the other
pub grows_more : (ways : List ℕ) (i to : ℕ) (old mid new : List ℕ) → i < length ways → get_or ways i 0 ≡ to
    → Grows HasRoom (Contains (take i ways)) old mid → Adds HasRoom mid to new → Grows HasRoom (Contains (take (i + 1) ways)) old new
grows_more ways i to old mid new lt is g adds =
    let left : take (i + 1) ways ≡ take i ways ++ to ∷ [] = take_more ways i 0 lt ∙ ap (λ x. take i ways ++ x ∷ []) is in
    grows_on (Contains (take i ways)) (λ a. to ≡ a) (Contains (take (i + 1) ways)) old mid new
    (λ a. (
      (λ h. Contains-push_cases (take i ways) to a (subst (λ t. Contains t a) left h)),
      (λ h. subst (λ t. Contains t a) (sym left)
          (⊎_elim (λ w. Contains-append_left (take i ways) (to ∷ []) a w)
          (λ e. subst (Contains (take i ways ++ to ∷ [])) e (Contains-push (take i ways) to)) h)),
    ))
    (λ longer room. omega (arith, longer, room)) g (grows_one (λ a. to ≡ a) mid to new (λ a. ((λ e. e), (λ e. e))) adds)

-- the addresses of a list that was empty before it gained them
pub grows_gained : (P : ℕ → Type 0) (none ways old new : List ℕ) → none ≡ [] → Gains P none ways
    → Grows HasRoom (Contains ways) old new → Grows HasRoom P old new
grows_gained P none ways old new empty gained g =
    let are = gains_from_none P none ways empty gained in
    record {
      more = g.more;
      from = λ a h. ⊎_elim (λ w. inl w) (λ w. inr ((are a).0 w)) (g.from a h);
      to = λ room a p. g.to room a ((are a).1 p);
    }

-- ## Addresses that were looked at

module _ (words : Words) (given : Option Stated) where
  -- all to which an address leads are in the list, if that is not full
  abbrev pub IsFollowed : List ℕ → ℕ → Type 0
  IsFollowed order at = HasRoom order → (to : ℕ) → LeadsTo words given at to → Contains order to

  -- the search goes on: from the entry, where all is reached, and what the addresses before the next one lead to is there
  pub record IsSearch (entry : ℕ) (order : List ℕ) (next : ℕ) : Type 0 where
    pub begun : Contains order entry
    pub reached : (at : ℕ) → Contains order at → Reaches words given entry at
    pub bound : next ≤ length order
    pub followed : (k : ℕ) (d : ℕ) → k < next → IsFollowed order (get_or order k d)

  pub search_begun : (entry : ℕ) (order : List ℕ) → Adds HasRoom [] entry order → IsSearch entry order 0
  search_begun entry order (inl (same, there)) = absurd (omega (arith, (there (omega arith)).1))
  search_begun entry order (inr new) = record {
    begun = subst (λ t. Contains t entry) (sym new) (Contains-push [] entry);
    reached = λ at h. ⊎_elim (λ w. absurd (omega (arith, w.1))) (λ e. subst (Reaches words given entry) e begins)
        (Contains-push_cases [] entry at (subst (λ t. Contains t at) new h));
    bound = omega arith;
    followed = λ k d h. absurd (omega arith);
  }

  pub search_more : (entry : ℕ) (order new : List ℕ) (next at : ℕ) → IsSearch entry order next → next < length order
      → at ≡ get_or order next at → Grows HasRoom (LeadsTo words given at) order new → IsSearch entry new (next + 1)
  search_more entry order new next at s lt is g =
      let longer = no_shorter order new g in
      let here : Reaches words given entry at =
      s.reached at (subst (Contains order) (sym is) (Contains-get_or order next at lt)) in
      let each : (k : ℕ) → k < next + 1 → (d : ℕ) → IsFollowed new (get_or order k d) =
      below_more (λ (j : ℕ). (d : ℕ) → IsFollowed new (get_or order j d)) next
      (λ j l d. λ room to w. kept order new to g (s.followed j d l (omega (arith, room, longer)) to w))
      (λ d. subst (IsFollowed new) (get_or_read order next at lt is d) (λ room to w. g.to room to w)) in
      record {
        begun = kept order new entry g s.begun;
        reached = λ a h. ⊎_elim (λ w. s.reached a w) (λ w. leads_on at a here w) (g.from a h);
        bound = omega (arith, longer);
        followed = λ k d l. subst (IsFollowed new)
            (sym (ap (λ t. get_or t k d) g.more.1 ∙ get_or_append_left order g.more.0 d k (omega (arith, l, lt))))
            (each k l d);
      }

  -- what holds all to which it leads holds all that is reached
  pub closed : (entry : ℕ) (order : List ℕ) → Contains order entry
      → ((at to : ℕ) → Contains order at → LeadsTo words given at to → Contains order to) → (at : ℕ) → Reaches words given entry at
      → Contains order at
  closed entry order begun next at begins = begun
  closed entry order begun next at (leads_on from to r leads) = next from to (closed entry order begun next from r) leads

  pub search_done : (entry : ℕ) (seen : BTreeSet ℕ) (order : List ℕ) (next : ℕ) → IsFound seen order
      → IsSearch entry order next → length order ≤ next → AreReached words given entry order
  search_done entry seen order next found s all = record {
    few = found.few;
    begun = s.begun;
    reached = s.reached;
    all = λ room. closed entry order s.begun
        (λ at to h leads. s.followed h.0 at (omega (arith, h.1, all)) room to (subst (λ x. LeadsTo words given x to) (sym h.2) leads));
  }

  -- the same addresses in another order
  pub reached_keys : (entry : ℕ) (seen : BTreeSet ℕ) (order addresses : List ℕ) → IsFound seen order
      → AreReached words given entry order → addresses ≡ seen.keys → AreReached words given entry addresses
  reached_keys entry seen order addresses found r is =
      let listed : (a : ℕ) → Contains seen.keys a ↔ Contains order a =
      keys_listed nat_cmp_total exact_unsigned seen order found.members in
      let inside : (a : ℕ) → Contains order a → Contains addresses a = λ a h.
      subst (λ t. Contains t a) (sym is) ((listed a).1 h) in
      let back : (a : ℕ) → Contains addresses a → Contains order a = λ a h.
      (listed a).0 (subst (λ t. Contains t a) is h) in
      let same : length addresses ≡ length order = ap length is ∙ sym found.members.count in
      record {
        few = subst (λ n. n ≤ MOST_PLACES) (sym same) r.few;
        begun = inside entry r.begun;
        reached = λ at h. r.reached at (back at h);
        all = λ room at h. inside at (r.all (subst (λ n. n < MOST_PLACES) same room) at h);
      }

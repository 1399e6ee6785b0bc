-- Which loops no run leaves: over one more instance, and over all.
use Rattle.std.proofs.Common.{◌≡◌, ◌∙◌, ℕ, ◌+◌, ◌<◌, ◌≤◌, ◌==◌, Bool, true, false, cond, List, [], length, Option, Some, None, ⊎_elim, refl, sym, ap, subst, arith}
use Rattle.std.specs.Prelude.{◌↔◌, map, slice_index_or, unwrap_or}
use Rattle.std.proofs.lemmas.Bool.{cases_Bool, cases_lt, cond-false, cond-true, eq-eqb, eqb-true, false≢true}
use Rattle.std.proofs.lemmas.List.{get_or-map}
use Rattle.loop_bounds.specs.Extents.{found_instance}
use Rattle.loop_bounds.specs.Instance.{Instance}
use Rattle.loop_bounds.specs.Tree.{Tree}
use Rattle.loop_bounds.specs.declared.loop_instances.LoopInstance.{LoopInstance}
use Rattle.statement.specs.declared.apart.ApartStretch.{ApartStretch}
use Rattle.known_places.specs.Endless.{endless_at}
use Rattle.justify_reports.specs.Endless.{AreAllEndless, AreFoundEndless, IsEndlessAt, IsFoundEndless, IsLoopAt, with_instance}

-- ## One address

module _ (IsThere : ℕ → Type 0) (endless : List Bool) (end : ℕ) where
  -- of a number below the next the answer is that of one below this, or this one's
  below : (k : ℕ) → k < end + 1 → (P : ℕ → Type 0) → (k < end → P k) → P end → P k
  below k lt P before here = ⊎_elim
      (λ (less : k < end). before less)
      (λ (more : end ≤ k). let same : end ≡ k = omega (arith, lt, more) in subst P same here)
      (cases_lt k end)

  -- an instance that is another loop's
  pub passed_by : (found : Option Bool) → (IsThere end → ⊥) → IsFoundEndless IsThere endless end found → IsFoundEndless IsThere endless (end + 1) found
  passed_by None out none = λ k lt there. below k lt (λ n. IsThere n → ⊥) (λ less. none k less) out there
  passed_by (Some false) out (k, inside, there, is) = (k, omega (arith, inside), there, is)
  passed_by (Some true) out h = record {
    one = h.one;
    inside = let lt = h.inside in omega (arith, lt);
    there = h.there;
    each = λ k lt there. below k lt (λ n. IsThere n → endless_at endless n ≡ true) (λ less. h.each k less) (λ here. absurd (out here)) there;
  }

  module _ (there : IsThere end) where
    -- the first one
    first : (said : Bool) → endless_at endless end ≡ said → ((k : ℕ) → k < end → IsThere k → ⊥) → IsFoundEndless IsThere endless (end + 1) (Some said)
    first false is none = (end, omega arith, there, is)
    first true is none = record {
      one = end;
      inside = omega arith;
      there = there;
      each = λ k lt at. below k lt (λ n. IsThere n → endless_at endless n ≡ true) (λ less so. absurd (none k less so)) (λ here. is) at;
    }

    -- one more where all before are endless
    more : (said : Bool) → endless_at endless end ≡ said → AreAllEndless IsThere endless end → IsFoundEndless IsThere endless (end + 1) (Some said)
    more false is h = (end, omega arith, there, is)
    more true is h = record {
      one = end;
      inside = omega arith;
      there = there;
      each = λ k lt at. below k lt (λ n. IsThere n → endless_at endless n ≡ true) (λ less. h.each k less) (λ here. is) at;
    }

    pub one_there : (found : Option Bool) (said : Bool) → endless_at endless end ≡ said → IsFoundEndless IsThere endless end found
        → IsFoundEndless IsThere endless (end + 1) (Some (with_instance found said))
    one_there None said is none = first said is none
    one_there (Some true) said is h = more said is h
    one_there (Some false) said is (k, inside, at, left) = (k, omega (arith, inside), at, left)

-- ## All addresses

pub put : (tree : Tree) (endless : List Bool) (number : ℕ) (old new : ℕ → Option Bool) (at : ℕ) (said : Bool) → IsLoopAt tree at number → endless_at endless number ≡ said
    → ((a : ℕ) → new a ≡ cond (at == a) (Some (with_instance (old at) said)) (old a))
    → AreFoundEndless tree endless number old → AreFoundEndless tree endless (number + 1) new
put tree endless number old new at said here is puts found a = ⊎_elim
    (λ (own : (at == a) ≡ true).
    let same : at ≡ a = eqb-true at a own in
    subst (λ b. IsFoundEndless (IsLoopAt tree b) endless (number + 1) (new b)) same
    (subst (IsFoundEndless (IsLoopAt tree at) endless (number + 1))
    (sym (puts at ∙ cond-true (at == at) (Some (with_instance (old at) said)) (old at) (eq-eqb at at refl)))
    (one_there (IsLoopAt tree at) endless number here (old at) said is (found at))))
    (λ (apart : (at == a) ≡ false).
    subst (IsFoundEndless (IsLoopAt tree a) endless (number + 1))
    (sym (puts a ∙ cond-false (at == a) (Some (with_instance (old at) said)) (old a) apart))
    (passed_by (IsLoopAt tree a) endless number (old a)
    (λ there. false≢true (sym apart ∙ eq-eqb at a (sym (here no_instance) ∙ there no_instance))) (found a)))
    (cases_Bool (at == a))
  where
    no_instance : Instance
    no_instance = record { list = []; header = 0; first = 0; last = 0; bound = 0; apart = [] }

-- the header of an instance that was found
pub header_at : (tree : Tree) (apart : List ApartStretch) (found : List LoopInstance) (number : ℕ) (instance : LoopInstance) → map (found_instance apart) found ≡ tree.instances
    → number < length found → instance ≡ slice_index_or found number instance → IsLoopAt tree instance.stated.header number
header_at tree apart found number instance are lt is = λ i.
    ap (λ (x : Instance). x.header)
    (sym (ap (λ (is : List Instance). slice_index_or is number i) are) ∙ get_or-map (found_instance apart) found number instance i lt)
    ∙ ap (λ (x : LoopInstance). x.stated.header) (sym is)

-- ## Rows

pub endless_found : (tree : Tree) (endless : List Bool) (a : ℕ) (found : Option Bool) → IsFoundEndless (IsLoopAt tree a) endless (length tree.instances) found
    → (unwrap_or found false ≡ true) ↔ IsEndlessAt tree endless a
endless_found tree endless a None none = (λ e. absurd (false≢true e), λ h. absurd (none h.one h.inside h.there))
endless_found tree endless a (Some false) (k, inside, there, left) =
    (λ e. absurd (false≢true e), λ h. absurd (false≢true (sym left ∙ h.each k inside there)))
endless_found tree endless a (Some true) h = (λ e. h, λ other. refl)

-- The search for a stated target where no word writes R15.
use Rattle.std.proofs.Common.{◌≡◌, ℕ, List, [], ◌∷◌, ◌⊎◌, inl, inr, ⊎_elim, subst}
use Rattle.std.specs.Prelude.{Contains}
use Rattle.std.specs.Map.{keys_of}
use Rattle.image.specs.Image.{Words}
use Rattle.control_flow.specs.Graph.{IsStray, IsWriterAt}
use Rattle.statement.specs.Stated.{Stated}
use Rattle.control_flow.proofs.SortedLemmas.{cons_cases, no_member, there}

module _ (words : Words) (st : Stated) where
  -- the addresses that are left; at each other a word writes R15
  pub record IsSought (rest : List ℕ) : Type 0 where
    pub among : (a : ℕ) → Contains rest a → Contains (keys_of st.targets) a
    pub writers : (a : ℕ) → Contains (keys_of st.targets) a → Contains rest a ⊎ IsWriterAt words a

  pub sought_more : (rest next : List ℕ) (a : ℕ) → rest ≡ a ∷ next → IsSought rest → IsWriterAt words a → IsSought next
  sought_more rest next a is s writer =
      let t : IsSought (a ∷ next) = subst IsSought is s in
      record {
        among = λ b h. t.among b (there a next b h);
        writers = λ b h. ⊎_elim
            (λ w. ⊎_elim (λ (e : a ≡ b). inr (subst (IsWriterAt words) e writer)) (λ v. inl v) (cons_cases a next b w))
            (λ w. inr w)
            (t.writers b h);
      }

  pub sought_all : (rest : List ℕ) → rest ≡ [] → IsSought rest → (address : ℕ) → IsStray words st address → ⊥
  sought_all rest is s address stray =
      ⊎_elim (λ w. no_member address (subst (λ (xs : List ℕ). Contains xs address) is w)) (λ w. stray.no_writer w) (s.writers address stray.is_stated)

-- The addresses of a step's accesses, and the words that are looked up at them.
use Rattle.std.proofs.Common.{◌≡◌, ◌∙◌, ℕ, zero, suc, ◌+◌, Bool, true, false, cond, List, [], ◌∷◌, ◌++◌, Option, Some, None, map, refl, sym, ap, append_assoc, arith}
use Rattle.std.proofs.lemmas.List.{append-nil, map-append}
use Rattle.bus_ticks.specs.Prices.{ahead_of, word_address}
use Rattle.arm2_effect.specs.Effects.{Access, FetchN, FetchS, Word, Internal, refill, straight}
use Rattle.arm2_transfer.specs.Moved.{words_at}
use Rattle.json_trace.specs.declared.moved_words.Transfers.{Transfers}
use Rattle.test_vectors.specs.Shape.{shape}
use Rattle.test_vectors.specs.Vector.{addresses_of}
use Rattle.test_vectors.specs.Writing.{moved_addresses, refill_addresses}
use Rattle.test_vectors.specs.declared.bus_use.BusUse.TheVariants.{Fetches, Loads, Stores}
use Rattle.test_vectors.specs.declared.shown_words.ShownWord.{ShownWord}

addresses_append : (xs ys : List Access) → addresses_of (xs ++ ys) ≡ addresses_of xs ++ addresses_of ys
addresses_append [] ys = refl
addresses_append (FetchN a ∷ xs) ys = ap (λ (t : List ℕ). a ∷ t) (addresses_append xs ys)
addresses_append (FetchS a ∷ xs) ys = ap (λ (t : List ℕ). a ∷ t) (addresses_append xs ys)
addresses_append (Word store first a ∷ xs) ys = ap (λ (t : List ℕ). a ∷ t) (addresses_append xs ys)
addresses_append (Internal cycles ∷ xs) ys = addresses_append xs ys

addresses_words : (store : Bool) (address k : ℕ) → addresses_of (words_at store address k) ≡ moved_addresses address k
unfolding words_at
addresses_words store address zero = refl
addresses_words store address (suc k) =
    addresses_append (words_at store address k) _
    ∙ ap (λ (t : List ℕ). t ++ word_address address k ∷ []) (addresses_words store address k)

addresses_refill : (jumps : Bool) (to : ℕ) → addresses_of (cond jumps (refill to) []) ≡ refill_addresses jumps to
addresses_refill true to = refl
addresses_refill false to = refl

pub addresses_fetches : (delay : Option ℕ) (jumps : Bool) (at to : ℕ)
    → addresses_of (shape (Fetches delay jumps) at to) ≡ ahead_of at 8 ∷ refill_addresses jumps to
addresses_fetches None jumps at to = ap (λ (t : List ℕ). ahead_of at 8 ∷ t) (addresses_refill jumps to)
addresses_fetches (Some n) jumps at to = ap (λ (t : List ℕ). ahead_of at 8 ∷ t) (addresses_refill jumps to)

pub addresses_loads : (w : Transfers) (jumps : Bool) (at to : ℕ)
    → addresses_of (shape (Loads w jumps) at to)
    ≡ ahead_of at 8 ∷ (moved_addresses w.address w.words ++ refill_addresses jumps to)
addresses_loads w jumps at to =
    let rest = cond jumps (refill to) [] in
    ap (λ (t : List ℕ). ahead_of at 8 ∷ t)
    (addresses_append (words_at w.store w.address w.words) (Internal 1 ∷ rest)
    ∙ ap (λ (t : List ℕ). t ++ addresses_of rest) (addresses_words w.store w.address w.words)
    ∙ ap (λ (t : List ℕ). moved_addresses w.address w.words ++ t) (addresses_refill jumps to))

pub addresses_stores : (w : Transfers) (at to : ℕ)
    → addresses_of (shape (Stores w) at to) ≡ ahead_of at 8 ∷ moved_addresses w.address w.words
addresses_stores w at to = ap (λ (t : List ℕ). ahead_of at 8 ∷ t) (addresses_words w.store w.address w.words)

-- ## What is added to words

module _ (f : ℕ → ShownWord) where
  pub add_one : (old new : List ShownWord) (x y : ℕ) → x ≡ y → new ≡ old ++ f x ∷ [] → new ≡ old ++ map f (y ∷ [])
  add_one old new x y e h = h ∙ ap (λ (a : ℕ). old ++ f a ∷ []) e

  pub add_two : (old o1 new : List ShownWord) (x y : ℕ) (ys : List ℕ) → x ≡ y → o1 ≡ old ++ f x ∷ []
      → new ≡ o1 ++ map f ys → new ≡ old ++ map f (y ∷ ys)
  add_two old o1 new x y ys e h g =
      g ∙ ap (λ (t : List ShownWord). t ++ map f ys) (h ∙ ap (λ (a : ℕ). old ++ f a ∷ []) e)
      ∙ append_assoc old (f y ∷ []) (map f ys)

  pub add_both : (old o1 new : List ShownWord) (xs ys : List ℕ) → o1 ≡ old ++ map f xs → new ≡ o1 ++ map f ys
      → new ≡ old ++ map f (xs ++ ys)
  add_both old o1 new xs ys h g =
      g ∙ ap (λ (t : List ShownWord). t ++ map f ys) h ∙ append_assoc old (map f xs) (map f ys)
      ∙ ap (λ (t : List ShownWord). old ++ t) (sym (map-append f xs ys))

  pub add_as : (old new : List ShownWord) (xs ys : List ℕ) → xs ≡ ys → new ≡ old ++ map f xs → new ≡ old ++ map f ys
  add_as old new xs ys e h = h ∙ ap (λ (t : List ℕ). old ++ map f t) e

-- one word of a transfer more
pub moved_next : (address k : ℕ) → moved_addresses address k ++ word_address address k ∷ [] ≡ moved_addresses address (k + 1)
moved_next address k =
    let next : suc k ≡ k + 1 = omega arith in
    ap (λ (n : ℕ). moved_addresses address n) next

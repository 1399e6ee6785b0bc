-- The ticks of a transfer's accesses.
use Rattle.std.proofs.Common.{◌≡◌, ℕ, zero, suc, ◌+◌, ◌*◌, ◌/◌, Bool, true, false, ◌==◌, List, [], ◌∷◌, ◌++◌, refl, ◌∙◌, ap, arith}
use Rattle.std.proofs.lemmas.List.Sums.{sum-map, sum_by-append}
use Rattle.bus_ticks.specs.Prices.{ahead_of, transfer, fetch_n, word_address, word_price}
use Rattle.arm2_effect.specs.declared.prices.Prices.{Prices}
use Rattle.arm2_effect.specs.Effects.{Access, FetchN, Word, Internal, price_of, ticks_of, straight, refill}
use Rattle.arm2_transfer.specs.Moved.{words_at, load_accesses, store_accesses}

pub ticks_of-append : (prices : Prices) (xs ys : List Access) → ticks_of prices (xs ++ ys) ≡ ticks_of prices xs + ticks_of prices ys
ticks_of-append prices xs ys =
    let f : Access → ℕ = price_of prices in
    let parts = sum_by-append f xs ys in
    omega (arith, sum-map f (xs ++ ys), parts, sum-map f xs, sum-map f ys)

-- a word of a block is at a multiple of 4
word_address-aligned : (address i : ℕ) → word_address address i / 4 * 4 ≡ word_address address i
word_address-aligned address i = omega arith

pub ticks_of-words_at : (prices : Prices) (store : Bool) (address k : ℕ) → ticks_of prices (words_at store address k) ≡ transfer prices.profile address k store prices.rom
unfolding words_at transfer
ticks_of-words_at prices store address zero = refl
ticks_of-words_at prices store address (suc k) =
    let rounded : price_of prices (Word store (k == 0) (word_address address k)) ≡ word_price prices.profile (word_address address k) (k == 0) store prices.rom
    = ap (λ (x : ℕ). word_price prices.profile x (k == 0) store prices.rom) (word_address-aligned address k) in
    let split = ticks_of-append prices (words_at store address k) (Word store (k == 0) (word_address address k) ∷ []) in
    omega (arith, split, rounded, ticks_of-words_at prices store address k)

-- what a load costs, where it jumps and where it does not
pub end_of_load-jumps : (prices : Prices) (a address k t : ℕ) →
    ticks_of prices (load_accesses a address k true t)
    ≡ ticks_of prices (straight a) + transfer prices.profile address k false prices.rom + (ticks_of prices (Internal 1 ∷ []) + ticks_of prices (refill t))
end_of_load-jumps prices a address k t =
    let all = ticks_of-append prices (straight a ++ words_at false address k) (Internal 1 ∷ refill t) in
    let first = ticks_of-append prices (straight a) (words_at false address k) in
    let last = ticks_of-append prices (Internal 1 ∷ []) (refill t) in
    omega (arith, all, first, last, ticks_of-words_at prices false address k)

pub end_of_load-passes : (prices : Prices) (a address k t : ℕ) →
    ticks_of prices (load_accesses a address k false t)
    ≡ ticks_of prices (straight a) + transfer prices.profile address k false prices.rom + ticks_of prices (Internal 1 ∷ [])
end_of_load-passes prices a address k t =
    let all = ticks_of-append prices (straight a ++ words_at false address k) (Internal 1 ∷ []) in
    let first = ticks_of-append prices (straight a) (words_at false address k) in
    omega (arith, all, first, ticks_of-words_at prices false address k)

-- what a store costs
pub end_of_store-are : (prices : Prices) (a next address k fetch words : ℕ) →
    next ≡ ahead_of a 8 → fetch ≡ fetch_n prices.profile next prices.rom → words ≡ transfer prices.profile address k true prices.rom →
    fetch + words ≡ ticks_of prices (store_accesses a address k)
end_of_store-are prices a next address k fetch words ahead fetched moved =
    let all = ticks_of-append prices (FetchN (ahead_of a 8) ∷ []) (words_at true address k) in
    let price : fetch ≡ fetch_n prices.profile (ahead_of a 8) prices.rom = fetched ∙ ap (λ (x : ℕ). fetch_n prices.profile x prices.rom) ahead in
    omega (arith, all, price, moved, ticks_of-words_at prices true address k)

-- A cycle profile's file has one answer.
use Rattle.std.proofs.Common.{◌≡◌, ◌⊎◌, ℕ, List, Ok, Err, inl, inr, ⊎_elim}
use Rattle.bus_ticks.specs.Ranges.{AreInRange, AreOrdered}
use Rattle.toml_reading.specs.Documents.{IsAnswer}
use Rattle.toml_reading.proofs.Unique.{one_answer}
use Rattle.machine_file.specs.ProfileFile.{IsPriced, IsProfileFile, Read, numbers_in}
use Rattle.machine_file.specs.declared.profile_faults.ProfileFileFault.TheVariants.{Disordered, NotToml, OutOfRange}
use Rattle.machine_file.proofs.ProfileRuleLemmas.{order_decides, range_decides}

-- the answer for numbers that are in range and in order, or are not
abbrev priced_by : (ns : List ℕ) → AreInRange ns ⊎ ¬ AreInRange ns → AreOrdered ns ⊎ ¬ AreOrdered ns → Read (List ℕ)
priced_by ns (inl in_range) (inl ordered) = Ok ns
priced_by ns (inl in_range) (inr other) = Err Disordered
priced_by ns (inr other) order = Err OutOfRange

-- and for what is read
abbrev priced : Read (List ℕ) → Read (List ℕ)
priced (Err fault) = Err fault
priced (Ok ns) = priced_by ns (range_decides ns) (order_decides ns)

is_priced_by : (ns : List ℕ) (range : AreInRange ns ⊎ ¬ AreInRange ns) (order : AreOrdered ns ⊎ ¬ AreOrdered ns) (answer : Read (List ℕ))
    → IsPriced (Ok ns) answer → answer ≡ priced_by ns range order
is_priced_by ns (inl in_range) (inl ordered) answer h = h.0 in_range ordered
is_priced_by ns (inl in_range) (inr other) answer h = h.2 in_range other
is_priced_by ns (inr other) order answer h = h.1 other

is_priced : (read answer : Read (List ℕ)) → IsPriced read answer → answer ≡ priced read
is_priced (Err fault) answer h = h
is_priced (Ok ns) answer h = is_priced_by ns (range_decides ns) (order_decides ns) answer h

answers : (text : List ℕ) (answer : Read (List ℕ)) → IsProfileFile text answer → IsAnswer NotToml (λ ms. priced (numbers_in ms)) text answer
answers text answer h = ⊎_elim (λ m. inl (m.0, m.1, is_priced (numbers_in m.0) answer m.2)) (λ none. inr none) h

pub one_profile : (text : List ℕ) (answer other : Read (List ℕ)) → IsProfileFile text answer → IsProfileFile text other → answer ≡ other
one_profile text answer other h k =
    one_answer NotToml (λ ms. priced (numbers_in ms)) text answer other (answers text answer h) (answers text other k)

-- What is read of addresses, against what they state and their faults.
use Rattle.std.proofs.Common.{◌≡◌, ℕ, ◌↔◌, ℤ, pos, negsuc, Bool, true, if◌then◌else◌, Ok, Err, refl, sym, ap, subst, le_of_eq, IsTrue}
use Rattle.toml_reading.specs.Documents.{in_space}
use Rattle.bus_ticks.specs.Prices.{is_word_address}
use Rattle.toml_reading.specs.Lowest.{IsNoAddress}
use Rattle.toml_reading.specs.Readings.{Faults, Reading}
use Rattle.toml_reading.proofs.Following.{test_judged}
use Rattle.toml_reading.proofs.LowestLemmas.{Judges, judged_as}
use Rattle.toml_reading.proofs.LowestParts.{not_whole, whole_same}

module _ {F : Type 0} (fs : Faults F) where
  pub natural_judged :
      (n : ℕ)
      → Judges
      fs
      (λ a. IsTrue (is_word_address n) × (a ≡ n))
      (λ f. (¬ IsTrue (is_word_address n)) × (f ≡ fs.out_of_range))
      (in_space fs (pos n))
  natural_judged n =
      test_judged
      fs
      (IsTrue (is_word_address n))
      n
      fs.out_of_range
      (is_word_address n)
      (λ h. h, λ h. h)

  -- a number that is read where a test of it holds, and is out of range else
  module _
      (Holds : ℕ → Type 0)
      (test : ℕ → Bool)
      (same : (n : ℕ) → test n ≡ true ↔ Holds n)
      (read : ℤ → Reading F ℕ)
      (whole : (n : ℕ) → read (pos n) ≡ (if test n then Ok n else Err fs.out_of_range))
      (negative : (n : ℕ) → read (negsuc n) ≡ Err fs.out_of_range) where
    abbrev Held : ℤ → ℕ → Type 0
    Held z a = (z ≡ pos a) × Holds a

    abbrev Refused : ℤ → F → Type 0
    Refused z f = ((a : ℕ) → z ≡ pos a → ¬ Holds a) × (f ≡ fs.out_of_range)

    pub tested_judged : (z : ℤ) → Judges fs (Held z) (Refused z) (read z)
    tested_judged (pos n) =
        rw (whole n) (judged_as
        fs
        (λ a. Holds n × (a ≡ n))
        (Held (pos n))
        (λ f. (¬ Holds n) × (f ≡ fs.out_of_range))
        (Refused (pos n))
        (λ a. (
          λ s. (ap (λ (m : ℕ). pos m) (sym s.1), subst Holds (sym s.1) s.0),
          λ s. (subst Holds (sym (whole_same n a s.0)) s.1, sym (whole_same n a s.0)),
        ))
        (λ f. (λ h. (λ a e i. h.0 (subst Holds (sym (whole_same n a e)) i), h.1), λ h. (h.0 n refl, h.1)))
        (if test n then Ok n else Err fs.out_of_range)
        (test_judged fs (Holds n) n fs.out_of_range (test n) (same n)))
    tested_judged (negsuc n) = rw (negative n) (record {
      answers = (
        λ a s. not_whole n a s.0,
        record { has = (λ a e i. not_whole n a e, refl); least = λ o e. le_of_eq (ap fs.rank (sym e.1)) },
      );
    })

  pub integer_judged :
      (z : ℤ)
      → Judges
      fs
      (λ a. (z ≡ pos a) × IsTrue (is_word_address a))
      (λ f. IsNoAddress z × (f ≡ fs.out_of_range))
      (in_space fs z)
  integer_judged = tested_judged (λ n. IsTrue (is_word_address n)) is_word_address (λ n. (λ h. h, λ h. h)) (in_space fs) (λ n. refl) (λ n. refl)

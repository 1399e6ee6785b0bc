-- Lists of four numbers.
use Rattle.std.proofs.Common.{◌≡◌, ◌≢◌, ◌<◌, ◌≤◌, List, [], ◌∷◌, length, Err, refl, sym, arith}
use Rattle.std.specs.Prelude.{slice_index_or}
use Rattle.toml.specs.Data.{Data}
use Rattle.machine_file.specs.ProfileFile.{four_of}
use Rattle.machine_file.specs.declared.profile_faults.ProfileFileFault.TheVariants.{WrongKind}

-- a list of another length
pub not_four : (ds : List Data) → length ds ≢ 4 → four_of ds ≡ Err WrongKind
not_four (a ∷ b ∷ c ∷ d ∷ []) h = absurd (h refl)
not_four ds h = refl

pub has_four : {A : Type 0} (xs : List A) (a b c d : A) → 4 ≤ length xs → length xs < 5 → a ≡ slice_index_or xs 0 a → b ≡ slice_index_or xs 1 b → c ≡ slice_index_or xs 2 c → d ≡ slice_index_or xs 3 d → xs ≡ a ∷ b ∷ c ∷ d ∷ []
has_four (w ∷ x ∷ y ∷ z ∷ []) a b c d low high ia ib ic id = λ i. sym ia i ∷ sym ib i ∷ sym ic i ∷ sym id i ∷ []
has_four xs a b c d low high ia ib ic id = absurd (omega arith)

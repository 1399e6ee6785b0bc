-- Reading an image's bytes.
use Rattle.std.proofs.Common.{◌≡◌, ◌∙◌, ℕ, suc, ◌+◌, ◌-◌, ◌⊎◌, inl, inr, Ok, Err, ◌<◌, ◌≤◌, true, false, List, [], ◌∷◌, length, refl, ap, arith}
use Rattle.std.specs.Prelude.{◌==◌}
use Rattle.std.proofs.lemmas.Bool.Decides.{nat_tests}
use Rattle.image.specs.Image.{Words}
use Rattle.image.specs.ImageBytes.{image_read, segments_read}
use Rattle.image.specs.declared.reading.ReadFault.{ReadFault}
use Rattle.image.specs.declared.reading.ReadFault.TheVariants.{Memory, TrailingBytes}

-- ## From the first segment to the last

next_left : (count done others : ℕ) → others ≡ count - (done + 1) → done < count → count - done ≡ suc others
next_left count done others is lt = omega (arith, is, lt)

-- what is read after one segment more
pub read_rest : (bytes rest next : List ℕ) (words new : Words) (count done : ℕ) → image_read bytes ≡ segments_read (count - done) words rest → done < count
    → (others : ℕ) → others ≡ count - (done + 1) → segments_read (suc others) words rest ≡ segments_read others new next → image_read bytes ≡ segments_read (count - (done + 1)) new next
read_rest bytes rest next words new count done same lt others is more =
    same ∙ ap (λ (n : ℕ). segments_read n words rest) (next_left count done others is lt) ∙ more ∙ ap (λ (n : ℕ). segments_read n new next) is

-- its fault is the image's
pub read_fault : (bytes rest : List ℕ) (words : Words) (count done : ℕ) (fault : ReadFault) → image_read bytes ≡ segments_read (count - done) words rest → done < count
    → (others : ℕ) → others ≡ count - (done + 1) → (fault ≡ Memory) ⊎ (segments_read (suc others) words rest ≡ Err fault) → (fault ≡ Memory) ⊎ (image_read bytes ≡ Err fault)
read_fault bytes rest words count done fault same lt others is (inl memory) = inl memory
read_fault bytes rest words count done fault same lt others is (inr refused) = inr (same ∙ ap (λ (n : ℕ). segments_read n words rest) (next_left count done others is lt) ∙ refused)

-- after the last segment
pub read_end : (bytes rest : List ℕ) (words : Words) (count done : ℕ) → image_read bytes ≡ segments_read (count - done) words rest → done ≤ count → count ≤ done → image_read bytes ≡ segments_read 0 words rest
read_end bytes rest words count done same most all = let none : count - done ≡ 0 = omega (arith, most, all) in same ∙ ap (λ (n : ℕ). segments_read n words rest) none

pub read_trailing : (words : Words) (rest : List ℕ) → (length rest == 0) ≡ false → segments_read 0 words rest ≡ Err TrailingBytes
read_trailing words [] more = absurd (cc)
read_trailing words (b ∷ rest) more = refl

pub read_whole : (words : Words) (rest : List ℕ) → (length rest == 0) ≡ true → segments_read 0 words rest ≡ Ok words
read_whole words [] none = refl
read_whole words (b ∷ rest) none = absurd (grind (arith, nat_tests, none))

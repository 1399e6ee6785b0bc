-- The words of an assembly pass the second sweep.
use Rattle.std.proofs.Common.{◌≡◌, ◌+◌, ℕ, List, [], ◌∷◌, ◌++◌, length, map, Option, Some, None, Ok, refl, sym, ap, subst, ◌∙◌}
use Rattle.std.specs.Prelude.{flat_map}
use Rattle.std.specs.List.{AllZip}
use Rattle.image.specs.Image.{Words, with_word}
use Rattle.asm_text.specs.Said.{Target, Number, Label, Said, Codes, Refers, Orgs, Lists}
use Rattle.asm_text.specs.Statements.{Parsed}
use Rattle.assembler.specs.Assembles.{AreWords, IsTarget, address_after, laid_from, places, addresses_from, word_count, words_at, words_from}
use Rattle.assembler.specs.Codes.{encoded, refer}
use Rattle.image.specs.Labels.{Names}
use Rattle.assembler.specs.Sweeps.{Item, Pending, filled, value_pending}
use Rattle.assembler.proofs.AssembleSteps.{Pends, items_at}
use Rattle.assembler.proofs.AssembleSweep.{NewItems, flat}
use Rattle.assembler.proofs.AssembleFill.{Resolved, put_words, fold_append}
use Rattle.assembler.proofs.AssembleFits.{Fits}

-- ## By what a line says

values_resolved : (names : Names) (at : ℕ) (vs : List Target) (ws : List ℕ) → AllZip (IsTarget names) vs ws → Resolved names at (map value_pending vs) ws
unfolding Resolved
values_resolved names at [] [] h = tt
values_resolved names at [] (w ∷ ws) h = absurd h
values_resolved names at (v ∷ vs) [] h = absurd h
values_resolved names at (Number n ∷ vs) (w ∷ ws) h = (ap Ok (sym h.0), values_resolved names (at + 4) vs ws h.1)
values_resolved names at (Label name ∷ vs) (w ∷ ws) h = (rw h.0 refl, values_resolved names (at + 4) vs ws h.1)

resolved_are : (names : Names) (said : Option Said) (at : ℕ) (ps : List Pending) (ws : List ℕ) → Pends said at ps → AreWords names said at ws → Resolved names at ps ws
unfolding Pends Resolved
resolved_are names (Some (Codes c)) at ps ws p a = rw (p.1, a.1) (sym p.2 ∙ a.2, tt)
resolved_are names (Some (Refers r (Number n))) at ps ws p a =
    let code : encoded (refer r at n) at ≡ Ok a.0 = subst (λ t. encoded (refer r at t) at ≡ Ok a.0) a.3 a.4 in
    rw (p.1, a.2) (sym p.2 ∙ code, tt)
resolved_are names (Some (Refers r (Label name))) at ps ws p a = rw (p, a.2) (rw a.3 a.4, tt)
resolved_are names (Some (Lists vs)) at ps ws p a = rw p (values_resolved names at vs ws a)
resolved_are names (Some (Orgs n)) at ps ws p a = rw (p, a) tt
resolved_are names None at ps ws p a = rw (p, a) tt

-- ## The words of a line

filled_line : (names : Names) (k at : ℕ) (ps : List Pending) (ws : List ℕ) (image : Words) (rest : List Item) (ats : List ℕ)
    → Resolved names at ps ws → Fits image (addresses_from at (length ps) ++ ats)
    → (filled names image (items_at k at ps ++ rest) ≡ filled names (put_words image (words_from at ws)) rest) × Fits (put_words image (words_from at ws)) ats
unfolding Resolved put_words items_at Fits filled
filled_line names k at [] [] image rest ats r h = (refl, h)
filled_line names k at [] (w ∷ ws) image rest ats r h = absurd r
filled_line names k at (p ∷ ps) [] image rest ats r h = absurd r
filled_line names k at (p ∷ ps) (w ∷ ws) image rest ats r h =
    let more = filled_line names k (at + 4) ps ws (with_word image at w) rest ats r.1 (h w).1 in
    (rw (r.0, (h w).0) more.0, more.1)

-- ## All lines

pub filled_ok : (names : Names) (said : List Parsed) (at : ℕ) (new : List (List Item)) (words : List (List ℕ)) (image : Words)
    → AllZip NewItems (laid_from at said) new → AllZip (λ line ws. AreWords names line.said line.at ws) (laid_from at said) words
    → Fits image (flat_map places (laid_from at said))
    → filled names image (flat new) ≡ Ok (put_words image (words_at (laid_from at said) words))
unfolding flat NewItems filled put_words
filled_ok names [] at [] words image n a h = refl
filled_ok names [] at (x ∷ new) words image n a h = absurd n
filled_ok names (p ∷ said) at [] words image n a h = absurd n
filled_ok names (p ∷ said) at (x ∷ new) [] image n a h = absurd a
filled_ok names (p ∷ said) at (x ∷ new) (ws ∷ words) image n a h =
    let m = n.0 in
    let lines = laid_from (address_after at p.said) said in
    let there = flat_map places lines in
    let count : word_count p.said ≡ length m.1 = sym m.4 in
    let fit : Fits image (addresses_from at (length m.1) ++ there) = subst (λ c. Fits image (addresses_from at c ++ there)) count h in
    let one = filled_line names m.0 at m.1 ws image (flat new) there (resolved_are names p.said at m.1 ws m.3 a.0) fit in
    let more = filled_ok names said (address_after at p.said) new words (put_words image (words_from at ws)) n.1 a.1 one.1 in
    ap (λ (is : List Item). filled names image (is ++ flat new)) m.2 ∙ one.0 ∙ more
    ∙ ap (λ (i : Words). Ok i) (sym (fold_append image (words_from at ws) (words_at lines words)))

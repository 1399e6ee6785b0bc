-- The symbols of parts, from an index on.
use Rattle.std.proofs.Common.{◌≡◌, ◌+◌, ◌<◌, ◌≤◌, ℕ, List, [], ◌∷◌, ◌++◌, length, drop, map, get_or, Option, Some, None, Result, Ok, Err, refl, sym, ap, ◌∙◌, append_assoc, arith}
use Rattle.std.specs.List.{cons_option}
use Rattle.std.proofs.lemmas.List.{append-nil, drop_all, drop_more}
use Rattle.objasm.specs.Names.{Meanings, and_then, mapped}
use Rattle.objasm.specs.Parts.{part_of}
use Rattle.objasm.specs.Symbols.{no_more, reading_step, symbols_in}
use Rattle.objasm.specs.declared.faults.LineFault.{LineFault}
use Rattle.objasm.specs.declared.faults.LineFault.TheVariants.{BadExpression}
use Rattle.objasm.specs.declared.symbols.Reading.{Reading}
use Rattle.objasm.specs.declared.symbols.Reading.TheVariants.{Ready}
use Rattle.objasm.specs.declared.symbols.Symbol.{Symbol}
use Rattle.objasm.specs.declared.token.Token.{Token}

read_more : (m : Meanings) (r : Reading) (ts : List Token) (i : ℕ) → i < length ts
    → symbols_in m r (map part_of (drop i ts)) ≡ and_then (λ f. mapped (λ ss. cons_option f.0 ss) (symbols_in m f.1 (map part_of (drop (i + 1) ts)))) (reading_step m r (map part_of (drop i ts)))
unfolding symbols_in
read_more m r [] i lt = absurd (omega arith)
read_more m r (t ∷ ts) i lt = at_drop (drop i (t ∷ ts)) (drop (i + 1) (t ∷ ts)) (get_or (t ∷ ts) i t) (drop_more (t ∷ ts) i t lt)
  where
    at_drop : (here after : List Token) (d : Token) → here ≡ d ∷ after
        → symbols_in m r (map part_of here) ≡ and_then (λ f. mapped (λ ss. cons_option f.0 ss) (symbols_in m f.1 (map part_of after))) (reading_step m r (map part_of here))
    at_drop here after d is = rw is refl

put_more : (found : List Symbol) (o : Option Symbol) (r : Result (List Symbol) LineFault)
    → mapped (λ ss. found ++ ss) (mapped (λ ss. cons_option o ss) r) ≡ mapped (λ ss. (found ++ cons_option o []) ++ ss) r
put_more found None (Ok ss) = rw (append-nil found) refl
put_more found (Some s) (Ok ss) = ap Ok (sym (append_assoc found (s ∷ []) ss))
put_more found o (Err fault) = refl

pub symbols_go : (m : Meanings) (r next : Reading) (old new : List Symbol) (o : Option Symbol) (ts : List Token) (i : ℕ) (whole : Result (List Symbol) LineFault) → i < length ts
    → reading_step m r (map part_of (drop i ts)) ≡ Ok (o, next) → new ≡ old ++ cons_option o []
    → mapped (λ ss. old ++ ss) (symbols_in m r (map part_of (drop i ts))) ≡ whole
    → mapped (λ ss. new ++ ss) (symbols_in m next (map part_of (drop (i + 1) ts))) ≡ whole
symbols_go m r next old new o ts i whole lt is put before =
    let rest = symbols_in m next (map part_of (drop (i + 1) ts)) in
    let more : symbols_in m r (map part_of (drop i ts)) ≡ mapped (λ ss. cons_option o ss) rest =
    read_more m r ts i lt ∙ ap (and_then (λ (f : Option Symbol × Reading). mapped (λ ss. cons_option f.0 ss) (symbols_in m f.1 (map part_of (drop (i + 1) ts))))) is in
    ap (λ (n : List Symbol). mapped (λ ss. n ++ ss) rest) put ∙ sym (put_more old o rest) ∙ ap (mapped (λ (ss : List Symbol). old ++ ss)) (sym more) ∙ before

pub symbols_stop : (m : Meanings) (r : Reading) (old : List Symbol) (fault : LineFault) (ts : List Token) (i : ℕ) (whole : Result (List Symbol) LineFault) → i < length ts
    → reading_step m r (map part_of (drop i ts)) ≡ Err fault → mapped (λ ss. old ++ ss) (symbols_in m r (map part_of (drop i ts))) ≡ whole → whole ≡ Err fault
symbols_stop m r old fault ts i whole lt is before =
    let more : symbols_in m r (map part_of (drop i ts)) ≡ Err fault =
    read_more m r ts i lt ∙ ap (and_then (λ (f : Option Symbol × Reading). mapped (λ ss. cons_option f.0 ss) (symbols_in m f.1 (map part_of (drop (i + 1) ts))))) is in
    sym before ∙ ap (mapped (λ (ss : List Symbol). old ++ ss)) more

pub symbols_end : (m : Meanings) (r : Reading) (found : List Symbol) (ts : List Token) (i : ℕ) (whole : Result (List Symbol) LineFault) → length ts ≤ i
    → mapped (λ ss. found ++ ss) (symbols_in m r (map part_of (drop i ts))) ≡ whole → whole ≡ mapped (λ ss. found ++ ss) (no_more r)
unfolding symbols_in
symbols_end m r found ts i whole le before = sym before ∙ ap (λ (rest : List Token). mapped (λ ss. found ++ ss) (symbols_in m r (map part_of rest))) (drop_all i ts le)

pub all_found : (found : List Symbol) (r : Reading) → r ≡ Ready → mapped (λ ss. found ++ ss) (no_more r) ≡ Ok found
all_found found r is = rw (is, append-nil found) refl

pub not_all_found : (found : List Symbol) (r : Reading) → (r ≡ Ready → ⊥) → mapped (λ ss. found ++ ss) (no_more r) ≡ Err BadExpression
not_all_found found Ready other = absurd (other refl)
not_all_found found _ other = refl

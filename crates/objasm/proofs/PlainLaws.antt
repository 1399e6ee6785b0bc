-- Parts and stops, from an index on.
use Rattle.std.proofs.Common.{◌≡◌, ◌+◌, ◌<◌, ◌≤◌, inl, inr, ℕ, List, [], ◌∷◌, ◌++◌, length, drop, map, get_or, arith, Ok, Err, refl, sym, ap, ◌∙◌, append_assoc}
use Rattle.std.proofs.lemmas.List.{append-nil, drop_all, drop_more}
use Rattle.objasm.specs.Names.{Meanings, Told}
use Rattle.objasm.specs.Parts.{part_of}
use Rattle.objasm.specs.PlainLines.{Text, behind, joined, part_text, parts_text, stop_text, stops_text}
use Rattle.objasm.specs.declared.faults.LineFault.{LineFault}
use Rattle.objasm.specs.declared.token.Token.{Token}
use Rattle.objasm.specs.declared.words.Operands.{Operands}
use Rattle.objasm.proofs.TextLaws.{fault_behind, joined_behind, nothing_behind}

pub parts_go : (m : Meanings) (ts : List Token) (i : ℕ) (d : Token) (old new whole : List ℕ) → i < length ts → new ≡ old ++ part_text m (part_of (get_or ts i d))
    → old ++ parts_text m (map part_of (drop i ts)) ≡ whole → new ++ parts_text m (map part_of (drop (i + 1) ts)) ≡ whole
unfolding parts_text
parts_go m ts i d old new whole lt put before =
    ap (λ (t : List ℕ). t ++ parts_text m (map part_of (drop (i + 1) ts))) put
    ∙ append_assoc old (part_text m (part_of (get_or ts i d))) (parts_text m (map part_of (drop (i + 1) ts)))
    ∙ sym (ap (λ (l : List Token). old ++ parts_text m (map part_of l)) (drop_more ts i d lt))
    ∙ before

pub parts_end : (m : Meanings) (ts : List Token) (i : ℕ) (old whole : List ℕ) → length ts ≤ i → old ++ parts_text m (map part_of (drop i ts)) ≡ whole → old ≡ whole
unfolding parts_text
parts_end m ts i old whole le before = sym (append-nil old) ∙ sym (ap (λ (l : List Token). old ++ parts_text m (map part_of l)) (drop_all i ts le)) ∙ before

stops_more : (m : Meanings) (kind : Operands) (ts : List Token) (i : ℕ) → i < length ts
    → stops_text m kind (map part_of (drop i ts)) ≡ joined (stop_text m kind (map part_of (drop i ts))) (stops_text m kind (map part_of (drop (i + 1) ts)))
unfolding stops_text
stops_more m kind [] i lt = absurd (omega arith)
stops_more m kind (t ∷ ts) i lt = at_drop (drop i (t ∷ ts)) (drop (i + 1) (t ∷ ts)) (get_or (t ∷ ts) i t) (drop_more (t ∷ ts) i t lt)
  where
    at_drop : (here after : List Token) (d : Token) → here ≡ d ∷ after
        → stops_text m kind (map part_of here) ≡ joined (stop_text m kind (map part_of here)) (stops_text m kind (map part_of after))
    at_drop here after d is = rw is refl

pub stops_go : (m : Meanings) (kind : Operands) (ts : List Token) (i : ℕ) (old new : List ℕ) (whole : Text) → i < length ts
    → behind old (stop_text m kind (map part_of (drop i ts))) ≡ Ok new → behind old (stops_text m kind (map part_of (drop i ts))) ≡ whole
    → behind new (stops_text m kind (map part_of (drop (i + 1) ts))) ≡ whole
stops_go m kind ts i old new whole lt put before =
    sym (joined_behind old new (stop_text m kind (map part_of (drop i ts))) (stops_text m kind (map part_of (drop (i + 1) ts))) put)
    ∙ sym (ap (behind old) (stops_more m kind ts i lt))
    ∙ before

pub stops_stop : (m : Meanings) (kind : Operands) (ts : List Token) (i : ℕ) (old first : List ℕ) (fault : LineFault) (whole : Text) → i < length ts
    → Told fault (stop_text m kind (map part_of (drop i ts))) → behind old (stops_text m kind (map part_of (drop i ts))) ≡ behind first whole → Told fault whole
stops_stop m kind ts i old first fault whole lt (inl is) before = inl is
stops_stop m kind ts i old first fault whole lt (inr put) before =
    let here : stops_text m kind (map part_of (drop i ts)) ≡ Err fault =
    stops_more m kind ts i lt ∙ ap (λ (r : Text). joined r (stops_text m kind (map part_of (drop (i + 1) ts)))) put in
    inr (fault_behind first fault whole (sym before ∙ ap (behind old) here))

pub stops_end : (m : Meanings) (kind : Operands) (ts : List Token) (i : ℕ) (old : List ℕ) (whole : Text) → length ts ≤ i
    → behind old (stops_text m kind (map part_of (drop i ts))) ≡ whole → whole ≡ Ok old
unfolding stops_text
stops_end m kind ts i old whole le before = sym before ∙ ap (λ (l : List Token). behind old (stops_text m kind (map part_of l))) (drop_all i ts le) ∙ nothing_behind old

-- Words put into memory in turn.
use Rattle.std.proofs.Common.{◌≡◌, ◌∙◌, ℕ, zero, suc, ◌+◌, ◌/◌, ◌<◌, ◌≤◌, Bool, cond, List, [], ◌∷◌, length, drop, get_or, set, drop-cons, Result, Ok, Err, refl, sym, ap, arith}
use Rattle.std.proofs.lemmas.Bool.{ne_eqb, eq-eqb}
use Rattle.std.proofs.lemmas.List.{drop_all}
use Rattle.image.specs.Image.{Words}
use Rattle.loader.specs.Loading.{put_at, ram_before, ram_words, spot_of, with_places, with_ram}
use Rattle.memc.specs.Memory.{Memory, last_word}
use Rattle.memc.specs.declared.spots.Refused.{Refused}
use Rattle.memc.specs.declared.spots.Spot.{Spot}
use Rattle.memc.specs.declared.spots.Spot.TheVariants.{Ram, Rom, Io, Vidc, Control, Translator, Ignored}

-- ## Places

-- a word whose place lies before all of them
place_past : (words : List (ℕ × ℕ)) (k v place : ℕ) (ws : List ℕ) → k < place → with_places ((k, v) ∷ words) place ws ≡ with_places words place ws
place_past words k v place [] lt = refl
place_past words k v place (w ∷ rest) lt =
    ap (λ (b : Bool). last_word words place (cond b v w) ∷ with_places ((k, v) ∷ words) (suc place) rest) (ne_eqb k place (λ same. omega (arith, same, lt)))
    ∙ ap (λ (r : List ℕ). last_word words place w ∷ r) (place_past words k v (suc place) rest (omega (arith, lt)))

-- the first word of the list is put, and then the others
place_first : (words : List (ℕ × ℕ)) (n v place : ℕ) (ws : List ℕ) → with_places ((place + n, v) ∷ words) place ws ≡ with_places words place (set ws n v)
place_first words n v place [] = refl
place_first words zero v place (w ∷ rest) =
    ap (λ (k : ℕ). with_places ((k, v) ∷ words) place (w ∷ rest)) (let here : place + 0 ≡ place = omega arith in here)
    ∙ ap (λ (b : Bool). last_word words place (cond b v w) ∷ with_places ((place, v) ∷ words) (suc place) rest) (eq-eqb place place refl)
    ∙ ap (λ (r : List ℕ). last_word words place v ∷ r) (place_past words place v (suc place) rest (omega arith))
place_first words (suc n) v place (w ∷ rest) =
    ap (λ (b : Bool). last_word words place (cond b v w) ∷ with_places ((place + suc n, v) ∷ words) (suc place) rest) (ne_eqb (place + suc n) place (λ same. omega (arith, same)))
    ∙ ap (λ (k : ℕ). last_word words place w ∷ with_places ((k, v) ∷ words) (suc place) rest) (let next : place + suc n ≡ suc place + n = omega arith in next)
    ∙ ap (λ (r : List ℕ). last_word words place w ∷ r) (place_first words n v (suc place) rest)

no_places : (place : ℕ) (ws : List ℕ) → with_places [] place ws ≡ ws
no_places place [] = refl
no_places place (w ∷ rest) = ap (λ (r : List ℕ). w ∷ r) (no_places (suc place) rest)

-- ## Words in turn

abbrev pub put_places : List (ℕ × ℕ) → Memory → Memory
put_places places m = record m { paged = record m.paged { words = with_places places 0 m.paged.words } }

put_first : (spot : Result Spot Refused) (m : Memory) (word : ℕ) (rest : Words) → put_places (ram_before spot word (ram_words m rest)) m ≡ with_ram rest (put_at spot word m)
put_first (Ok (Ram place)) m word rest =
    ap (λ (ws : List ℕ). record m { paged = record m.paged { words = ws } }) (
    ap (λ (k : ℕ). with_places ((k, word) ∷ ram_words m rest) 0 m.paged.words) (let here : place / 4 ≡ 0 + place / 4 = omega arith in here)
    ∙ place_first (ram_words m rest) (place / 4) word 0 m.paged.words)
put_first (Ok (Rom address)) m word rest = refl
put_first (Ok (Io address)) m word rest = refl
put_first (Ok (Vidc address)) m word rest = refl
put_first (Ok (Control address)) m word rest = refl
put_first (Ok (Translator address)) m word rest = refl
put_first (Ok (Ignored address)) m word rest = refl
put_first (Err refused) m word rest = refl

pub put_next : (m new all : Memory) (words : Words) (i : ℕ) → i < length words → with_ram (drop i words) m ≡ all → new ≡ put_at (spot_of m (get_or words i (0, 0)).0) (get_or words i (0, 0)).1 m
    → with_ram (drop (i + 1) words) new ≡ all
put_next m new all words i lt same is =
    let e = get_or words i (0, 0) in
    let next : suc i ≡ i + 1 = omega arith in
    let first : drop i words ≡ e ∷ drop (i + 1) words = drop-cons words i (0, 0) lt ∙ ap (λ (n : ℕ). e ∷ drop n words) next in
    ap (λ (n : Memory). with_ram (drop (i + 1) words) n) is
    ∙ sym (put_first (spot_of m e.0) m e.1 (drop (i + 1) words))
    ∙ ap (λ (ws : Words). with_ram ws m) (sym first)
    ∙ same

pub put_all : (m all : Memory) (words : Words) (i : ℕ) → length words ≤ i → with_ram (drop i words) m ≡ all → m ≡ all
put_all m all words i most same =
    let end = drop_all i words most in
    sym (ap (λ (ws : Words). with_ram ws m) end ∙ ap (λ (ws : List ℕ). record m { paged = record m.paged { words = ws } }) (no_places 0 m.paged.words)) ∙ same

-- The parts of a text, from its front.
use Rattle.std.proofs.Common.{◌≡◌, ◌<◌, ℕ, Bool, true, false, cond, ◌+◌, ◌-◌, map, length-drop, List, [], ◌∷◌, ◌++◌, length, take, drop, get_or, refl, sym, ap, ◌∙◌, arith, length-take}
use Rattle.std.specs.List.{prefix_len, list_all}
use Rattle.std.proofs.lemmas.Bool.{and_parts}
use Rattle.std.proofs.lemmas.List.{drop-map, take-append-drop, take-map, take_all}
use Rattle.std.proofs.lemmas.List.Sums.{prefix_len-le-length}
use Rattle.asm_text.specs.Pieces.{is_name}
use Rattle.asm_text.proofs.PieceLaws.{first_passes, prefix_all, prefix_stop}
use Rattle.objasm.specs.Parts.{Part, Run, Byte, parts, run_before}

pub no_parts : (text : List ℕ) → length text < 1 → parts text ≡ []
unfolding parts
no_parts [] lt = refl
no_parts (b ∷ bs) lt = absurd (omega arith)

name_step : (b : ℕ) (bs : List ℕ) → is_name b ≡ true → parts (b ∷ bs) ≡ run_before b (parts bs)
unfolding parts
name_step b bs h = rw h refl

byte_step : (b : ℕ) (bs : List ℕ) → is_name b ≡ false → parts (b ∷ bs) ≡ Byte b ∷ parts bs
unfolding parts
byte_step b bs h = rw h refl

abbrev starts_run : List Part → Bool
starts_run (Run r ∷ ps) = true
starts_run _ = false

joins : (b : ℕ) (ps : List Part) → starts_run ps ≡ false → run_before b ps ≡ Run (b ∷ []) ∷ ps
joins b (Run r ∷ ps) h = absurd cc
joins b ps h = refl

no_run : (bs : List ℕ) → first_passes is_name bs ≡ false → starts_run (parts bs) ≡ false
unfolding parts
no_run [] h = refl
no_run (b ∷ bs) h = rw (byte_step b bs h) refl

run_parts : (r rest : List ℕ) → list_all is_name r ≡ true → 0 < length r → first_passes is_name rest ≡ false → parts (r ++ rest) ≡ Run r ∷ parts rest
run_parts [] rest h lt ends = absurd (omega arith)
run_parts (b ∷ []) rest h lt ends = name_step b rest (and_parts (is_name b) true h).0 ∙ joins b (parts rest) (no_run rest ends)
run_parts (b ∷ c ∷ r) rest h lt ends =
    let k = and_parts (is_name b) (list_all is_name (c ∷ r)) h in
    name_step b ((c ∷ r) ++ rest) k.0 ∙ ap (run_before b) (run_parts (c ∷ r) rest k.1 (omega arith) ends)

some_name : (text : List ℕ) → 0 < length text → is_name (get_or text 0 0) ≡ true → 0 < prefix_len is_name text
some_name [] lt h = absurd (omega arith)
some_name (b ∷ bs) lt h = rw h (omega arith)

-- a run at the front
pub run_first : (text : List ℕ) (n : ℕ) → n ≡ prefix_len is_name text → 0 < length text → is_name (get_or text 0 0) ≡ true
    → (parts text ≡ Run (take n text) ∷ parts (drop n text)) × (0 < n)
run_first text n is lt h =
    let some : 0 < n = rw is (some_name text lt h) in
    let all : list_all is_name (take n text) ≡ true = rw is (prefix_all is_name text) in
    let stops : first_passes is_name (drop n text) ≡ false = rw is (prefix_stop is_name text) in
    let long : 0 < length (take n text) = omega (arith, length-take n text, is, prefix_len-le-length is_name text) in
    (ap parts (sym (take-append-drop n text)) ∙ run_parts (take n text) (drop n text) all long stops, some)

-- another byte at the front
pub byte_first : (text : List ℕ) → 0 < length text → is_name (get_or text 0 0) ≡ false → parts text ≡ Byte (get_or text 0 0) ∷ parts (drop 1 text)
byte_first [] lt h = absurd (omega arith)
byte_first (b ∷ bs) lt h = byte_step b bs h

-- how many items of a list a test passes, by what it tests of each
pub prefix_of_map : {X Y : Type 0} (p : Y → Bool) (f : X → Y) (xs : List X) → prefix_len (λ x. p (f x)) xs ≡ prefix_len p (map f xs)
prefix_of_map p f [] = refl
prefix_of_map p f (x ∷ xs) = ap (λ (n : ℕ). cond (p (f x)) (1 + n) 0) (prefix_of_map p f xs)

-- what a slice from n on stands for
pub rest_mapped : {X Y : Type 0} (f : X → Y) (xs : List X) (n m : ℕ) → n ≡ m → map f (take (length xs - n) (drop n xs)) ≡ drop m (map f xs)
rest_mapped f xs n m is =
    ap (map f) (take_all (length xs - n) (drop n xs) (omega (arith, length-drop n xs))) ∙ sym (drop-map f n xs) ∙ ap (λ (k : ℕ). drop k (map f xs)) is

pub front_mapped : {X Y : Type 0} (f : X → Y) (xs : List X) (n m : ℕ) → n ≡ m → map f (take n xs) ≡ take m (map f xs)
front_mapped f xs n m is = sym (take-map f n xs) ∙ ap (λ (k : ℕ). take k (map f xs)) is

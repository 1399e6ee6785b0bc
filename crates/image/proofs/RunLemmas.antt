-- Maximal runs of words, as they are found and written.
use Rattle.std.proofs.Common.{◌≡◌, ◌∙◌, ℕ, suc, ◌+◌, ◌-◌, ◌≤◌, Bool, true, false, cond, List, [], ◌∷◌, ◌++◌, length, take, drop, map, flat_map, get_or, Some, refl, sym, ap, arith, append_assoc}
use Rattle.std.proofs.lemmas.List.{take_all}
use Rattle.image.specs.Image.{Words, runs_after, runs_of}
use Rattle.image.specs.ImageBytes.{Segment, joined, segment_bytes, segments_of}
use Rattle.image.specs.Writing.{is_next, run_after, segment_in}

-- ## The first run

-- a word before a run that is known
first_run : (b : Bool) (e f : ℕ × ℕ) (more : Words) (n : ℕ) → segments_of (f ∷ more) ≡ segment_in f.0 (f ∷ take n more) ∷ segments_of (drop n more)
    → cond b (record { address = e.0; words = e.1 ∷ f.1 ∷ map (λ x. x.1) (take n more) } ∷ segments_of (drop n more)) (record { address = e.0; words = e.1 ∷ [] } ∷ segment_in f.0 (f ∷ take n more) ∷ segments_of (drop n more))
    ≡ segment_in e.0 (e ∷ take (cond {A = ℕ} b (suc n) 0) (f ∷ more)) ∷ segments_of (drop (cond {A = ℕ} b (suc n) 0) (f ∷ more))
first_run true e f more n deeper = refl
first_run false e f more n deeper = ap (λ (s : List Segment). record { address = e.0; words = e.1 ∷ [] } ∷ s) (sym deeper)

-- the first segment is the first run
pub segments_split : (e : ℕ × ℕ) (rest : Words) → segments_of (e ∷ rest) ≡ segment_in e.0 (e ∷ take (run_after e.0 rest) rest) ∷ segments_of (drop (run_after e.0 rest) rest)
segments_split e [] = refl
segments_split e (f ∷ more) =
    let deeper = segments_split f more in
    ap (λ (s : List Segment). joined e.0 e.1 s) deeper ∙ first_run (is_next e.0 f) e f more (run_after f.0 more) deeper

-- as many segments as runs
length_joined : (b : Bool) (s t : Segment) (u v : List Segment) (n : ℕ) → length u ≡ n → length v ≡ suc n → length (cond b (s ∷ u) (t ∷ v)) ≡ suc (cond {A = ℕ} b 0 1 + n)
length_joined true s t u v n short long = omega (arith, short)
length_joined false s t u v n short long = omega (arith, long)

pub length_segments : (e : ℕ × ℕ) (rest : Words) → length (segments_of (e ∷ rest)) ≡ suc (runs_after (Some e.0) rest)
length_segments e [] = refl
length_segments e (f ∷ more) =
    let split = segments_split f more in
    let deeper : suc (length (segments_of (drop (run_after f.0 more) more))) ≡ suc (runs_after (Some f.0) more) = sym (ap length split) ∙ length_segments f more in
    let short : length (segments_of (drop (run_after f.0 more) more)) ≡ runs_after (Some f.0) more = omega (arith, deeper) in
    ap (λ (s : List Segment). length (joined e.0 e.1 s)) split
    ∙ length_joined (is_next e.0 f) _ _ (segments_of (drop (run_after f.0 more) more)) (segment_in f.0 (f ∷ take (run_after f.0 more) more) ∷ segments_of (drop (run_after f.0 more) more)) (runs_after (Some f.0) more) short (ap suc short)

pub counted : (words : Words) → runs_of words ≡ length (segments_of words)
counted [] = refl
counted (e ∷ rest) = let more = length_segments e rest in omega (arith, more)

-- ## Its length

pub run_within : (address : ℕ) (words : Words) → run_after address words ≤ length words
run_within address [] = omega arith
run_within address (e ∷ rest) = within (is_next address e) (run_within e.0 rest)
  where
    within : (b : Bool) → run_after e.0 rest ≤ length rest → cond {A = ℕ} b (suc (run_after e.0 rest)) 0 ≤ suc (length rest)
    within true deeper = omega (arith, deeper)
    within false deeper = omega arith

-- ## The runs in turn

-- after one segment more, what is left of the words is written as before
pub written_turn : (old new all : List ℕ) (rest run others : Words) (length_run : ℕ) → 1 ≤ length rest → old ++ flat_map segment_bytes (segments_of rest) ≡ all
    → length_run ≡ run_after (get_or rest 0 (0, 0)).0 (take (length rest - 1) (drop 1 rest)) → run ≡ take (1 + length_run) rest → others ≡ drop (1 + length_run) rest
    → new ≡ old ++ segment_bytes (segment_in (get_or rest 0 (0, 0)).0 run) → new ++ flat_map segment_bytes (segments_of others) ≡ all
written_turn old new all [] run others length_run some same is_run front back written = absurd (omega (arith, some))
written_turn old new all (e ∷ rest) run others length_run some same is_run front back written =
    let whole : take (suc (length rest) - 1) rest ≡ rest = take_all (suc (length rest) - 1) rest (omega arith) in
    let is : length_run ≡ run_after e.0 rest = is_run ∙ ap (λ (r : Words). run_after e.0 r) whole in
    let next : 1 + length_run ≡ suc (run_after e.0 rest) = omega (arith, is) in
    let first = segment_in e.0 (e ∷ take (run_after e.0 rest) rest) in
    let after = segments_of (drop (run_after e.0 rest) rest) in
    ap (λ (ws : Words). new ++ flat_map segment_bytes (segments_of ws)) (back ∙ ap (λ (n : ℕ). drop n (e ∷ rest)) next)
    ∙ ap (λ (bs : List ℕ). bs ++ flat_map segment_bytes after) (written ∙ ap (λ (ws : Words). old ++ segment_bytes (segment_in e.0 ws)) (front ∙ ap (λ (n : ℕ). take n (e ∷ rest)) next))
    ∙ append_assoc old (segment_bytes first) (flat_map segment_bytes after)
    ∙ ap (λ (ss : List Segment). old ++ flat_map segment_bytes ss) (sym (segments_split e rest))
    ∙ same

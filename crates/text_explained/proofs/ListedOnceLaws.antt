-- Each place of a graph is at one word of its source.
use Rattle.std.proofs.Common.{◌≡◌, ◌≢◌, ◌∙◌, ℕ, zero, suc, ◌+◌, ◌*◌, ◌<◌, ◌≤◌, Bool, true, false, cond, List, [], ◌∷◌, ◌++◌, drop, take, length, flat_map, map, Option, Some, None, Ok, Err, inl, inr, refl, sym, ap, subst, arith}
use Rattle.std.specs.Prelude.{◌==◌, ◌&&◌, ◌||◌, nat_le, nat_lt, Contains, count_by, is_some}
use Rattle.std.specs.List.{AllByRecursion, AllZip, fold}
use Rattle.std.proofs.lemmas.Bool.{cases_Bool, eq-eqb, eqb-true}
use Rattle.std.proofs.lemmas.Bool.Decides.{nat_tests}
use Rattle.std.proofs.lemmas.List.{map-append}
use Rattle.std.proofs.lemmas.List.Sums.{sum_by-append, sum_by-cons}
use Rattle.std.proofs.lemmas.Slice.Zip.{AllZip-long}
use Rattle.std.specs.Str.{bytes_eq}
use Rattle.bus_ticks.specs.declared.profile.Profile.{Profile}
use Rattle.asm_text.specs.Said.{Said, Codes, Refers, Orgs, Lists}
use Rattle.assembler.specs.Assembles.{AreWords, IsAssembly, IsTarget, Laid, Once, image_of, laid, places, addresses_from, word_count, words_at, words_from}
use Rattle.image.specs.Labels.{Names}
use Rattle.assembler.specs.declared.placed_line.PlacedLine.{PlacedLine}
use Rattle.image.specs.Image.{Words, with_word, word_of}
use Rattle.image.specs.ImageBytes.{count_read, cut_fault, head_address, head_count, image_read, magic, numbers, overlaps, segment_fault, segments_read, with_words}
use Rattle.image.specs.declared.places.TheConstants.{MOST_SEGMENTS}
use Rattle.image.specs.declared.reading.ReadFault.TheVariants.{OutOfRange, Truncated}
use Rattle.image.proofs.AcceptLemmas.{count_parts, magic_parts, ok_parts, whole_part}
use Rattle.image.proofs.SegmentLemmas.{can_stand, length_numbers}
use Rattle.control_flow.specs.Flow.{Flow}
use Rattle.control_flow.specs.Graph.{IsBuildFault, IsFlowGraph}
use Rattle.control_flow.specs.declared.faults.BuildFault.{BuildFault}
use Rattle.control_flow.specs.declared.faults.BuildFault.TheVariants as build_fault
use Rattle.control_flow.specs.declared.places.Place.{Place}
use Rattle.control_flow.specs.declared.places.Place.TheVariants.{At, Exit}
use Rattle.statement.specs.Stated.{Stated}
use Rattle.text_explained.specs.Table.{words_of}
use Rattle.text_explained.specs.Taken.{AreOnWords, AreListedOnce, is_at}

-- how often an address is in a list
abbrev times : ℕ → List ℕ → ℕ
times b all = count_by (λ a. b == a) all

abbrev one : ℕ → ℕ → ℕ
one b a = cond (b == a) 1 0

-- the addresses of words
abbrev ats : Words → List ℕ
ats words = map (λ e. e.0) words

first : (b x : ℕ) (xs : List ℕ) → times b (x ∷ xs) ≡ one b x + times b xs
first b x xs = sum_by-cons (λ a. cond (b == a) 1 0) x xs

both : (b : ℕ) (xs ys : List ℕ) → times b (xs ++ ys) ≡ times b xs + times b ys
both b xs ys = sum_by-append (λ a. cond (b == a) 1 0) xs ys

one_here : (b x : ℕ) → (b == x) ≡ true → one b x ≡ 1
one_here b x is = ap (λ t. cond {A = ℕ} t 1 0) is

one_else : (b x : ℕ) → (b == x) ≡ false → one b x ≡ 0
one_else b x is = ap (λ t. cond {A = ℕ} t 1 0) is

-- ## Words

-- a word that is added is there once more
put_once : (b : ℕ) (words : Words) (a w : ℕ) → times b (ats (with_word words a w)) ≡ one b a + times b (ats words)
put_once b [] a w = first b a []
put_once b (e ∷ rest) a w =
    elim (cases_Bool (nat_lt a e.0)) [
      | inl low ↦ rw low (first b a (ats (e ∷ rest)))
      | inr high ↦ rw high (omega (arith, first b e.0 (ats (with_word rest a w)), first b e.0 (ats rest), put_once b rest a w))
    ]

held : (b : ℕ) (words : Words) → is_some (word_of words b) ≡ true → 1 ≤ times b (ats words)
held b [] h = absurd cc
held b (e ∷ rest) h =
    elim (cases_Bool (e.0 == b)) [
      | inl same ↦ omega (arith, first b e.0 (ats rest), one_here b e.0 (eq-eqb b e.0 (sym (eqb-true e.0 b same))))
      | inr other ↦
          let k : is_some (word_of rest b) ≡ true = rw other at h in
          omega (arith, first b e.0 (ats rest), held b rest k)
    ]

-- ## Sources

side_by_side : (at : ℕ) (ws : List ℕ) → ats (words_from at ws) ≡ addresses_from at (length ws)
side_by_side at [] = refl
side_by_side at (w ∷ ws) = ap (λ xs. at ∷ xs) (side_by_side (at + 4) ws)

word_number : (names : Names) (said : Option Said) (at : ℕ) (ws : List ℕ) → AreWords names said at ws → length ws ≡ word_count said
word_number names (Some (Codes c)) at ws h = ap length h.1
word_number names (Some (Refers r t)) at ws h = ap length h.2
word_number names (Some (Lists values)) at ws h = AllZip-long (IsTarget names) values ws h
word_number names (Some (Orgs n)) at ws h = ap length h
word_number names None at ws h = ap length h

all_words : (names : Names) (lines : List Laid) (words : List (List ℕ)) → AllZip (λ line ws. AreWords names line.said line.at ws) lines words → ats (words_at lines words) ≡ flat_map places lines
all_words names [] words h = refl
all_words names (line ∷ lines) [] h = absurd h
all_words names (line ∷ lines) (ws ∷ more) h =
    map-append (λ e. e.0) (words_from line.at ws) (words_at lines more)
    ∙ ap (λ xs. xs ++ ats (words_at lines more)) (side_by_side line.at ws ∙ ap (addresses_from line.at) (word_number names line.said line.at ws h.0))
    ∙ ap (λ xs. places line ++ xs) (all_words names lines more h.1)

put_all : (b : ℕ) (image words : Words) → times b (ats (fold (λ i e. with_word i e.0 e.1) image words)) ≡ times b (ats image) + times b (ats words)
put_all b image [] = omega arith
put_all b image (e ∷ words) = omega (arith, put_all b (with_word image e.0 e.1) words, put_once b image e.0 e.1, first b e.0 (ats words))

filled_from : (b : ℕ) (words : Words) → times b (ats (image_of words)) ≡ times b (ats words)
filled_from b words = omega (arith, put_all b [] words)

none_there : (b : ℕ) (xs : List ℕ) → AllByRecursion (λ y. b ≢ y) xs → times b xs ≡ 0
none_there b [] h = refl
none_there b (x ∷ xs) h =
    elim (cases_Bool (b == x)) [
      | inl same ↦ absurd (h.0 (eqb-true b x same))
      | inr other ↦ omega (arith, first b x xs, one_else b x other, none_there b xs h.1)
    ]

at_most_once : (b : ℕ) (xs : List ℕ) → Once xs → times b xs ≤ 1
at_most_once b [] h = omega arith
at_most_once b (x ∷ xs) h =
    elim (cases_Bool (b == x)) [
      | inl same ↦
          let is = eqb-true b x same in
          let none = none_there b xs (subst (λ (y : ℕ). AllByRecursion (λ z. y ≢ z) xs) (sym is) h.0) in
          omega (arith, first b x xs, one_here b x same, none)
      | inr other ↦ omega (arith, first b x xs, one_else b x other, at_most_once b xs h.1)
    ]

exactly : (n m : ℕ) → 1 ≤ n → n ≡ m → m ≤ 1 → m ≡ 1
exactly n m some same few = omega (arith, some, same, few)

-- what is once at each word holds each place once
stand : (words : Words) (flow_places : List Place) (all : List ℕ) → AreOnWords words flow_places → ((b : ℕ) → times b (ats words) ≡ times b all) → ((b : ℕ) → times b all ≤ 1)
    → (p : Place) → (p ≡ Exit → ⊥) → Contains flow_places p → count_by (λ a. is_at a p) all ≡ 1
stand words flow_places all on same few Exit not_exit has = absurd (not_exit refl)
stand words flow_places all on same few (At calls b) not_exit has = exactly (times b (ats words)) (times b all) (held b words (on calls b has)) (same b) (few b)

pub source_stands : (source : List ℕ) (image : Words) (names : Names) (flow_places : List Place) (placed : List PlacedLine) (a : IsAssembly source image names) → flat_map places (laid a.lines) ≡ flat_map words_of placed
    → (Contains flow_places Exit → ⊥) → AreOnWords image flow_places → AreListedOnce flow_places (flat_map words_of placed)
source_stands source image names flow_places placed a there no_exit on =
    let all = all_words names (laid a.lines) a.words a.coded in
    λ p has. stand image flow_places (flat_map words_of placed) on
    (λ b. ap (λ (i : Words). times b (ats i)) a.image-is ∙ filled_from b (words_at (laid a.lines) a.words) ∙ ap (times b) (all ∙ there))
    (λ b. subst (λ (xs : List ℕ). times b xs ≤ 1) there (at_most_once b (flat_map places (laid a.lines)) a.apart))
    p (λ exit. no_exit (subst (Contains flow_places) exit has)) has

-- ## Images

put_words : (b : ℕ) (words : Words) (a : ℕ) (ws : List ℕ) → times b (ats (with_words words a ws)) ≡ times b (ats words) + times b (addresses_from a (length ws))
put_words b words a [] = omega arith
put_words b words a (w ∷ ws) = omega (arith, put_words b (with_word words a w) (a + 4) ws, put_once b words a w, first b a (addresses_from (a + 4) (length ws)))

apart : (b x : ℕ) → (b ≡ x → ⊥) → (b == x) ≡ false
apart b x differs = elim (cases_Bool (b == x)) [ inl same ↦ absurd (differs (eqb-true b x same)) | inr other ↦ other ]

below : (b a n : ℕ) → b < a → times b (addresses_from a n) ≡ 0
below b a zero lt = refl
below b a (suc n) lt = omega (arith, first b a (addresses_from (a + 4) n), one_else b a (apart b a (λ same. omega (arith, same, lt))), below b (a + 4) n (omega (arith, lt)))

above : (b a n : ℕ) → a + 4 * n ≤ b → times b (addresses_from a n) ≡ 0
above b a zero le = refl
above b a (suc n) le = omega (arith, first b a (addresses_from (a + 4) n), one_else b a (apart b a (λ same. omega (arith, same, le))), above b (a + 4) n (omega (arith, le)))

once_in : (b a n : ℕ) → times b (addresses_from a n) ≤ 1
once_in b a zero = omega arith
once_in b a (suc n) =
    elim (cases_Bool (b == a)) [
      | inl same ↦ omega (arith, first b a (addresses_from (a + 4) n), one_here b a same, below b (a + 4) n (omega (arith, eqb-true b a same)))
      | inr other ↦ omega (arith, first b a (addresses_from (a + 4) n), one_else b a other, once_in b (a + 4) n)
    ]

any_else : {A : Type 0} (x y : Bool) → y ≡ true → (x || y) ≡ false → A
any_else true y some e = absurd cc
any_else false y some e = let no : true ≡ false = sym some ∙ e in absurd cc

none_in : (b : ℕ) (words : Words) (a n : ℕ) → overlaps words a n ≡ false → a ≤ b → b < a + 4 * n → times b (ats words) ≡ 0
none_in b [] a n h low high = refl
none_in b (e ∷ rest) a n h low high =
    let test : ((nat_le a e.0 && nat_lt e.0 (a + 4 * n)) || overlaps rest a n) ≡ false = h in
    elim (cases_Bool (b == e.0)) [
      | inl same ↦
          let is = eqb-true b e.0 same in
          let inside : (nat_le a e.0 && nat_lt e.0 (a + 4 * n)) ≡ true = grind (arith, nat_tests, is, low, high) in
          let no : true ≡ false = rw inside at test in
          absurd cc
      | inr other ↦
          let later : overlaps rest a n ≡ false = elim (cases_Bool (overlaps rest a n)) [
            | inl some ↦ any_else (nat_le a e.0 && nat_lt e.0 (a + 4 * n)) (overlaps rest a n) some test
            | inr none ↦ none
          ] in
          omega (arith, first b e.0 (ats rest), one_else b e.0 other, none_in b rest a n later low high)
    ]

-- a segment that does not overlap
segment_once : (words : Words) (a : ℕ) (ws : List ℕ) → overlaps words a (length ws) ≡ false → ((b : ℕ) → times b (ats words) ≤ 1) → (b : ℕ) → times b (ats (with_words words a ws)) ≤ 1
segment_once words a ws free few b =
    let n = length ws in
    elim (cases_Bool (nat_lt b a)) [
      | inl low ↦
          let lt : b < a = grind (arith, nat_tests, low) in
          omega (arith, put_words b words a ws, below b a n lt, few b)
      | inr not_low ↦
          let le : a ≤ b = grind (arith, nat_tests, not_low) in
          elim (cases_Bool (nat_lt b (a + 4 * n))) [
            | inl high ↦
                let lt : b < a + 4 * n = grind (arith, nat_tests, high) in
                omega (arith, put_words b words a ws, none_in b words a n free le lt, once_in b a n)
            | inr past ↦
                let ge : a + 4 * n ≤ b = grind (arith, nat_tests, past) in
                omega (arith, put_words b words a ws, above b a n ge, few b)
          ]
    ]

segments_once : (left : ℕ) (words : Words) (bytes : List ℕ) (new : Words) → segments_read left words bytes ≡ Ok new → ((b : ℕ) → times b (ats words) ≤ 1) → (b : ℕ) → times b (ats new) ≤ 1
segments_once zero words [] new e few b = let same : words ≡ new = cc in subst (λ (ws : Words). times b (ats ws) ≤ 1) same (few b)
segments_once zero words (x ∷ bytes) new e few b = absurd cc
segments_once (suc left) words bytes new e few b =
    let a = head_address bytes in
    let n = head_count bytes in
    let ws = numbers n (drop 8 bytes) in
    let parts = ok_parts (segment_fault words a n) (nat_lt (length bytes) (8 + 4 * n)) _ _ new (whole_part (nat_lt (length bytes) 4) (cut_fault words left bytes) _ new e) in
    let free = subst (λ m. overlaps words a m ≡ false) (sym (length_numbers n (drop 8 bytes))) (can_stand words a n parts.0).apart in
    segments_once left (with_words words a ws) (drop (8 + 4 * n) bytes) new parts.2 (segment_once words a ws free few) b

counted : (left : ℕ) (bytes : List ℕ) (words : Words)
    → cond (nat_lt MOST_SEGMENTS left) (Err OutOfRange) (cond (nat_lt (length bytes) 4) (Err Truncated) (segments_read left [] (drop 4 bytes))) ≡ Ok words
    → (b : ℕ) → times b (ats words) ≤ 1
counted left bytes words e b =
    segments_once left [] (drop 4 bytes) words (count_parts (nat_lt MOST_SEGMENTS left) (nat_lt (length bytes) 4) _ words e).2 (λ x. omega arith) b

count_once : (bytes : List ℕ) (words : Words) → count_read bytes ≡ Ok words → (b : ℕ) → times b (ats words) ≤ 1
count_once bytes words e b = counted _ bytes words e b

image_once : (bytes : List ℕ) (words : Words) → image_read bytes ≡ Ok words → (b : ℕ) → times b (ats words) ≤ 1
image_once bytes words e b =
    count_once (drop 8 bytes) words (magic_parts (bytes_eq (take 8 bytes) (take (length bytes) magic)) (nat_lt (length bytes) 8) _ words e).2 b

pub image_stands : (bytes : List ℕ) (words : Words) (flow_places : List Place) → image_read bytes ≡ Ok words → (Contains flow_places Exit → ⊥) → AreOnWords words flow_places → AreListedOnce flow_places (ats words)
image_stands bytes words flow_places read no_exit on = λ p has.
    stand words flow_places (ats words) on (λ b. refl) (image_once bytes words read) p (λ exit. no_exit (subst (Contains flow_places) exit has)) has

-- ## Graphs

is_held : (o : Option ℕ) → (o ≡ None → ⊥) → is_some o ≡ true
is_held None some = absurd (some refl)
is_held (Some w) some = refl

-- an address without a word would have been refused
pub on_words : (words : Words) (st : Stated) (profile : Profile) (flow : Flow) → IsFlowGraph words st profile flow → ((f : BuildFault) → f ≢ build_fault.Memory → IsBuildFault words st profile f → ⊥)
    → AreOnWords words flow.places
on_words words st profile flow is allowed = λ calls a has.
    let reached = (is.exact (At calls a)).0 has in
    is_held (word_of words a) (λ none. allowed (build_fault.OutsideImage a) (λ e. absurd cc) ((calls, reached.0), none))

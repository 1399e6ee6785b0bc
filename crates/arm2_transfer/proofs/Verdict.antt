-- The verdict over the words of a block, on the way.
use Rattle.std.proofs.Common.{◌≡◌, ℕ, ◌+◌, ◌<◌, Bool, true, false, ◌||◌, if◌then◌else◌, List, [], ◌∷◌, ◌++◌, length, drop, filter, cond, get_or, Result, Ok, Err, refl, sym, ◌∙◌, ap, append_assoc}
use Rattle.std.proofs.lemmas.List.{at_drop_more}
use Rattle.std.proofs.lemmas.List.Elements.{All-push}
use Rattle.std.specs.List.{list_any}
use Rattle.arm2_decode.specs.declared.names.Register.{Register}
use Rattle.arm2_decode.specs.Transfers.{is_listed}
use Rattle.memc.specs.Memory.{Memory, located, Fits}
use Rattle.memc.specs.declared.spots.Spot.{Spot}
use Rattle.memc.specs.declared.spots.Refused.{Refused}
use Rattle.memc.specs.declared.spots.Refused.TheVariants.{NoPage, Protected, UnsupportedWrite}
use Rattle.arm2_transfer.specs.declared.words.Move.{Move}
use Rattle.arm2_transfer.specs.declared.words.TransferFault.{TransferFault}
use Rattle.arm2_transfer.specs.declared.words.TransferFault.TheVariants as fault
use Rattle.bus_ticks.specs.Prices.{word_address}
use Rattle.arm2_transfer.specs.Words.{Word, words_from, is_abort, is_unsupported, moves_of, or_fault, AllFit}

-- the verdict where some words before these were moves, or were unsupported
abbrev pub verdict_after : Bool → List Move → List Word → Result (List Move) TransferFault
verdict_after unsupported moves words =
    if list_any (λ (word : Word). is_abort word.1) words then Err fault.DataAbort
    else (if unsupported || list_any (λ (word : Word). is_unsupported word.1) words then Err fault.UnsupportedWrite
    else Ok (moves ++ moves_of words))

-- one word on: it was located, it aborts, or it is unsupported
after-ok : (unsupported : Bool) (moves : List Move) (register : Register) (spot : Spot) (found : Result Spot Refused) (words : List Word) → or_fault found ≡ Ok spot →
    verdict_after unsupported (moves ++ record { register = register; spot = spot } ∷ []) words ≡ verdict_after unsupported moves ((register, found) ∷ words)
after-ok unsupported moves register spot (Ok other) words e =
    let same : other ≡ spot = cc in
    rw same
    (ap
    (λ (all : List Move).
    if list_any (λ (word : Word). is_abort word.1) words then Err fault.DataAbort
    else (if unsupported || list_any (λ (word : Word). is_unsupported word.1) words then Err fault.UnsupportedWrite else Ok all))
    (append_assoc moves (record { register = register; spot = spot } ∷ []) (moves_of words)))
after-ok unsupported moves register spot (Err NoPage) words e = cc
after-ok unsupported moves register spot (Err Protected) words e = cc
after-ok unsupported moves register spot (Err UnsupportedWrite) words e = cc

after-abort : (unsupported : Bool) (moves : List Move) (register : Register) (found : Result Spot Refused) (words : List Word) → or_fault found ≡ Err fault.DataAbort →
    Err fault.DataAbort ≡ verdict_after unsupported moves ((register, found) ∷ words)
after-abort unsupported moves register (Ok spot) words e = cc
after-abort unsupported moves register (Err NoPage) words e = refl
after-abort unsupported moves register (Err Protected) words e = refl
after-abort unsupported moves register (Err UnsupportedWrite) words e = cc

after-unsupported : (unsupported : Bool) (moves : List Move) (register : Register) (found : Result Spot Refused) (words : List Word) → or_fault found ≡ Err fault.UnsupportedWrite →
    verdict_after true moves words ≡ verdict_after unsupported moves ((register, found) ∷ words)
after-unsupported unsupported moves register (Ok spot) words e = cc
after-unsupported unsupported moves register (Err NoPage) words e = cc
after-unsupported unsupported moves register (Err Protected) words e = cc
after-unsupported true moves register (Err UnsupportedWrite) words e = refl
after-unsupported false moves register (Err UnsupportedWrite) words e = refl

-- the words of the registers of a list among some, from word number n on
abbrev pub words_among : Memory → (user store : Bool) → (lowest list n : ℕ) → List Register → List Word
words_among m user store lowest list n registers = words_from m user store lowest n (filter (is_listed list) registers)

-- one register on
among-more : (m : Memory) (user store : Bool) (lowest list n : ℕ) (registers : List Register) (i : ℕ) (d : Register) (b : Bool) → i < length registers → is_listed list (get_or registers i d) ≡ b →
    words_among m user store lowest list n (drop i registers)
    ≡ words_from m user store lowest n (cond b (get_or registers i d ∷ filter (is_listed list) (drop (i + 1) registers)) (filter (is_listed list) (drop (i + 1) registers)))
among-more m user store lowest list n registers i d b h listed =
    at_drop_more (words_among m user store lowest list n) registers i d h
    ∙ ap (λ (b : Bool). words_from m user store lowest n (cond b (get_or registers i d ∷ filter (is_listed list) (drop (i + 1) registers)) (filter (is_listed list) (drop (i + 1) registers)))) listed

pub verdict-ok : (m : Memory) (user store unsupported : Bool) (lowest at list n : ℕ) (registers : List Register) (i : ℕ) (d : Register) (moves new : List Move) (spot : Spot) →
    i < length registers → is_listed list (get_or registers i d) ≡ true → at ≡ word_address lowest n → or_fault (located m at user store) ≡ Ok spot → new ≡ moves ++ record { register = get_or registers i d; spot = spot } ∷ [] →
    verdict_after unsupported new (words_among m user store lowest list (n + 1) (drop (i + 1) registers)) ≡ verdict_after unsupported moves (words_among m user store lowest list n (drop i registers))
verdict-ok m user store unsupported lowest at list n registers i d moves new spot h listed here ok pushed =
    let found : or_fault (located m (word_address lowest n) user store) ≡ Ok spot = ap (λ (x : ℕ). or_fault (located m x user store)) (sym here) ∙ ok in
    ap (λ (all : List Move). verdict_after unsupported all (words_among m user store lowest list (n + 1) (drop (i + 1) registers))) pushed
    ∙ after-ok unsupported moves (get_or registers i d) spot (located m (word_address lowest n) user store) (words_among m user store lowest list (n + 1) (drop (i + 1) registers)) found
    ∙ ap (λ (words : List Word). verdict_after unsupported moves words) (sym (among-more m user store lowest list n registers i d true h listed))

pub verdict-abort : (m : Memory) (user store unsupported : Bool) (lowest at list n : ℕ) (registers : List Register) (i : ℕ) (d : Register) (moves : List Move) →
    i < length registers → is_listed list (get_or registers i d) ≡ true → at ≡ word_address lowest n → or_fault (located m at user store) ≡ Err fault.DataAbort →
    Err fault.DataAbort ≡ verdict_after unsupported moves (words_among m user store lowest list n (drop i registers))
verdict-abort m user store unsupported lowest at list n registers i d moves h listed here err =
    let found : or_fault (located m (word_address lowest n) user store) ≡ Err fault.DataAbort = ap (λ (x : ℕ). or_fault (located m x user store)) (sym here) ∙ err in
    after-abort unsupported moves (get_or registers i d) (located m (word_address lowest n) user store) (words_among m user store lowest list (n + 1) (drop (i + 1) registers)) found
    ∙ ap (λ (words : List Word). verdict_after unsupported moves words) (sym (among-more m user store lowest list n registers i d true h listed))

pub verdict-unsupported : (m : Memory) (user store unsupported : Bool) (lowest at list n : ℕ) (registers : List Register) (i : ℕ) (d : Register) (moves : List Move) →
    i < length registers → is_listed list (get_or registers i d) ≡ true → at ≡ word_address lowest n → or_fault (located m at user store) ≡ Err fault.UnsupportedWrite →
    verdict_after true moves (words_among m user store lowest list (n + 1) (drop (i + 1) registers)) ≡ verdict_after unsupported moves (words_among m user store lowest list n (drop i registers))
verdict-unsupported m user store unsupported lowest at list n registers i d moves h listed here err =
    let found : or_fault (located m (word_address lowest n) user store) ≡ Err fault.UnsupportedWrite = ap (λ (x : ℕ). or_fault (located m x user store)) (sym here) ∙ err in
    after-unsupported unsupported moves (get_or registers i d) (located m (word_address lowest n) user store) (words_among m user store lowest list (n + 1) (drop (i + 1) registers)) found
    ∙ ap (λ (words : List Word). verdict_after unsupported moves words) (sym (among-more m user store lowest list n registers i d true h listed))

pub fit_push : (shift : ℕ) (moves new : List Move) (register : Register) (spot : Spot) → Fits shift spot → AllFit shift moves → new ≡ moves ++ record { register = register; spot = spot } ∷ [] → AllFit shift new
fit_push shift moves new register spot fits all pushed =
    rw pushed (All-push (λ (move : Move). Fits shift move.spot) moves (record { register = register; spot = spot }) all fits)

-- What memory holds after words are put into it.
use Rattle.std.proofs.Common.{◌≡◌, ◌∙◌, ℕ, zero, suc, ◌+◌, ◌*◌, ◌/◌, ◌%◌, ◌^◌, ◌<◌, inl, inr, Bool, false, cond, eqb, List, [], ◌∷◌, length, get_or, Option, Some, None, Result, Ok, refl, ap, arith}
use Rattle.std.specs.List.{AllByRecursion}
use Rattle.std.proofs.lemmas.Bool.{cases_eq, cases_lt, eq-eqb, le-ltb, lt-ltb, ne_eqb}
use Rattle.std.proofs.lemmas.Option.{same_Some}
use Rattle.image.specs.Image.{Words}
use Rattle.loader.specs.Loading.{HasWord, loaded, ram_before, ram_words, rom_before, rom_words, spot_of, with_places}
use Rattle.memc.proofs.Rom.{rom_word-with_words}
use Rattle.memc.specs.Memory.{Memory, last_word, on_page, rom_word, word_at}
use Rattle.memc.specs.Paged.{IsWhole, page_at, place_of}
use Rattle.memc.specs.declared.pages.Entry.{Entry}
use Rattle.memc.specs.declared.spots.Refused.{Refused}
use Rattle.memc.specs.declared.spots.Spot.{Spot}
use Rattle.memc.specs.declared.spots.Spot.TheVariants.{Ram, Rom}

-- ## The words of a list by their places

-- the number of a word of RAM, and the address of one of ROM
abbrev pub ram_number : Result Spot Refused → Option ℕ
ram_number (Ok (Ram place)) = Some (place / 4)
ram_number _ = None

abbrev pub rom_number : Result Spot Refused → Option ℕ
rom_number (Ok (Rom address)) = Some address
rom_number _ = None

abbrev pub entry : Option ℕ → ℕ → List (ℕ × ℕ) → List (ℕ × ℕ)
entry None word rest = rest
entry (Some k) word rest = (k, word) ∷ rest

abbrev pub entries : (ℕ → Option ℕ) → Words → List (ℕ × ℕ)
entries number [] = []
entries number (e ∷ rest) = entry (number e.0) e.1 (entries number rest)

ram_entry : (spot : Result Spot Refused) (word : ℕ) (rest : List (ℕ × ℕ)) → ram_before spot word rest ≡ entry (ram_number spot) word rest
ram_entry (Ok (Ram place)) word rest = refl
ram_entry _ word rest = refl

rom_entry : (spot : Result Spot Refused) (word : ℕ) (rest : List (ℕ × ℕ)) → rom_before spot word rest ≡ entry (rom_number spot) word rest
rom_entry (Ok (Rom address)) word rest = refl
rom_entry _ word rest = refl

pub ram_entries : (m : Memory) (words : Words) → ram_words m words ≡ entries (λ a. ram_number (spot_of m a)) words
ram_entries m [] = refl
ram_entries m (e ∷ rest) = ram_entry (spot_of m e.0) e.1 (ram_words m rest) ∙ ap (λ (es : List (ℕ × ℕ)). entry (ram_number (spot_of m e.0)) e.1 es) (ram_entries m rest)

pub rom_entries : (m : Memory) (words : Words) → rom_words m words ≡ entries (λ a. rom_number (spot_of m a)) words
rom_entries m [] = refl
rom_entries m (e ∷ rest) = rom_entry (spot_of m e.0) e.1 (rom_words m rest) ∙ ap (λ (es : List (ℕ × ℕ)). entry (rom_number (spot_of m e.0)) e.1 es) (rom_entries m rest)

-- ## The last word for a place

-- the words of a list that go to a place are all this one
abbrev pub AreSame : (ℕ → Option ℕ) → ℕ → ℕ → Words → Type 0
AreSame number k word words = AllByRecursion (λ e. number e.0 ≡ Some k → e.1 ≡ word) words

entry_kept : (o : Option ℕ) (k v w before : ℕ) (rest : List (ℕ × ℕ)) → (o ≡ Some k → v ≡ w) → before ≡ w → ((b : ℕ) → b ≡ w → last_word rest k b ≡ w) → last_word (entry o v rest) k before ≡ w
entry_kept None k v w before rest same is more = more before is
entry_kept (Some j) k v w before rest same is more = elim (cases_eq j k) [
  | inl here ↦ ap (λ (c : Bool). last_word rest k (cond c v before)) (eq-eqb j k here) ∙ more v (same (ap (λ (x : ℕ). Some x) here))
  | inr other ↦ ap (λ (c : Bool). last_word rest k (cond c v before)) (ne_eqb j k other) ∙ more before is
]

pub last_kept : (number : ℕ → Option ℕ) (words : Words) (k w before : ℕ) → AreSame number k w words → before ≡ w → last_word (entries number words) k before ≡ w
last_kept number [] k w before same is = is
last_kept number (e ∷ rest) k w before same is = entry_kept (number e.0) k e.1 w before (entries number rest) same.0 is (λ b now. last_kept number rest k w b same.1 now)

entry_there : (o : Option ℕ) (k v w before : ℕ) (rest : List (ℕ × ℕ)) → o ≡ Some k → v ≡ w → ((b : ℕ) → b ≡ w → last_word rest k b ≡ w) → last_word (entry o v rest) k before ≡ w
entry_there None k v w before rest here is more = absurd (cc)
entry_there (Some j) k v w before rest here is more = ap (λ (c : Bool). last_word rest k (cond c v before)) (eq-eqb j k (same_Some j k here)) ∙ more v is

entry_before : (o : Option ℕ) (k v w before : ℕ) (rest : List (ℕ × ℕ)) → ((b : ℕ) → last_word rest k b ≡ w) → last_word (entry o v rest) k before ≡ w
entry_before None k v w before rest more = more before
entry_before (Some j) k v w before rest more = more (cond (eqb j k) v before)

pub last_there : (number : ℕ → Option ℕ) (words : Words) (i k a w before : ℕ) → AreSame number k w words → i < length words → get_or words i (a, w) ≡ (a, w) → number a ≡ Some k → last_word (entries number words) k before ≡ w
last_there number [] i k a w before same lt is here = absurd (omega (arith, lt))
last_there number (e ∷ rest) zero k a w before same lt is here =
    entry_there (number e.0) k e.1 w before (entries number rest) (ap (λ (p : ℕ × ℕ). number p.0) is ∙ here) (ap (λ (p : ℕ × ℕ). p.1) is) (λ b now. last_kept number rest k w b same.1 now)
last_there number (e ∷ rest) (suc i) k a w before same lt is here =
    entry_before (number e.0) k e.1 w before (entries number rest) (λ b. last_there number rest i k a w b same.1 (omega (arith, lt)) is here)

placed_at : (words : List (ℕ × ℕ)) (place : ℕ) (ws : List ℕ) (i : ℕ) → i < length ws → get_or (with_places words place ws) i 0 ≡ last_word words (place + i) (get_or ws i 0)
placed_at words place [] i lt = absurd (omega (arith, lt))
placed_at words place (w ∷ rest) zero lt = ap (λ (k : ℕ). last_word words k w) (let here : place ≡ place + 0 = omega arith in here)
placed_at words place (w ∷ rest) (suc i) lt =
    placed_at words (suc place) rest i (omega (arith, lt)) ∙ ap (λ (k : ℕ). last_word words k (get_or rest i 0)) (let next : suc place + i ≡ place + suc i = omega arith in next)

places_long : (words : List (ℕ × ℕ)) (place : ℕ) (ws : List ℕ) → length (with_places words place ws) ≡ length ws
places_long words place [] = refl
places_long words place (w ∷ rest) = ap suc (places_long words (suc place) rest)

-- ## Where an access goes

same_on : (m n : Memory) (a : ℕ) (o : Option Entry) → n.shift ≡ m.shift → on_page n a false false o ≡ on_page m a false false o
same_on m n a None size = refl
same_on m n a (Some e) size = ap (λ (s : ℕ). let spot : Result Spot Refused = Ok (Ram (place_of s e.physical a)) in spot) size

-- all words go where they went
pub same_spot : (words : Words) (m : Memory) (a : ℕ) → spot_of (loaded words m) a ≡ spot_of m a
same_spot words m a = elim (cases_lt a 0x2000000) [
  | inl low ↦ rw (lt-ltb a 0x2000000 low) (same_on m (loaded words m) a (page_at m.paged (a / 2 ^ m.shift)) refl)
  | inr high ↦ rw (le-ltb a 0x2000000 high) refl
]

pub same_whole : (s : ℕ) (words : Words) (m : Memory) → IsWhole s m.paged → IsWhole s (loaded words m).paged
same_whole s words m w = record {
  size = w.size;
  words = places_long (ram_words m words) 0 m.paged.words ∙ w.words;
  count = w.count;
  physical_below = w.physical_below;
  level_below = w.level_below;
  alone = w.alone;
}

-- ## One word

pub ram_gives : (words : Words) (m : Memory) (a w place : ℕ) → length m.paged.words ≡ 2 ^ 20 → place < 2 ^ 22 → spot_of m a ≡ Ok (Ram place) → last_word (ram_words m words) (place / 4) (word_at m (Ram place)) ≡ w → HasWord (loaded words m) a w
ram_gives words m a w place long lt at is = record {
  spot = Ram place;
  leads = same_spot words m a ∙ at;
  has = placed_at (ram_words m words) 0 m.paged.words (place / 4) (omega (arith, long, lt))
      ∙ ap (λ (k : ℕ). last_word (ram_words m words) k (word_at m (Ram place))) (let here : 0 + place / 4 ≡ place / 4 = omega arith in here)
      ∙ is;
}

pub rom_gives : (words : Words) (m : Memory) (a w : ℕ) → a % 4 ≡ 0 → spot_of m a ≡ Ok (Rom a) → last_word (rom_words m words) a (rom_word m.rom a) ≡ w → HasWord (loaded words m) a w
rom_gives words m a w four at is =
    let here : a / 4 * 4 ≡ a = omega (arith, four) in
    record {
      spot = Rom a;
      leads = same_spot words m a ∙ at;
      has = ap (λ (b : ℕ). rom_word (loaded words m).rom b) here ∙ rom_word-with_words (rom_words m words) m.rom a ∙ is;
    }

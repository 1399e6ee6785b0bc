-- The memory controller as plain maps: what answers at an address, who may use it, and what each call
-- leaves. Its memory map, levels, control fields and translator write with pages of 4 KB are shaped on the
-- data sheet of the VL86C110 (MEMC); what is refused, ROM without words and loads of physical RAM are ours
-- alone.
use Rattle.std.specs.Prelude.{◌≡◌, ℕ, ◌+◌, ◌-◌, ◌*◌, ◌/◌, ◌%◌, ◌^◌, ◌<◌, ◌≤◌, ◌⊎◌, Bool, ◌==◌, ◌&&◌, ◌||◌}
use Rattle.std.specs.Prelude.{not, nat_lt, nat_le, if◌then◌else◌, Option, Some, None, Result, Ok, Err, List}
use Rattle.std.specs.Prelude.{[], ◌∷◌, slice_index, slice_set}
use Rattle.std.proofs.Common.{lit<}
use Rattle.std.proofs.lemmas.Nat.{mod_below}
use Rattle.memc.specs.declared.pages.Entry.{Entry}
use Rattle.memc.specs.declared.memory.ControlFields.{ControlFields}
use Rattle.memc.specs.declared.memory.TheConstants.{DMA_AND_CONTROL, TRANSLATOR}
use Rattle.memc.specs.declared.pages.TheConstants.{PHYSICAL_PAGES}
use Rattle.memc.specs.declared.spots.PageSize.{PageSize}
use Rattle.memc.specs.declared.spots.PageSize.TheVariants.{K4, K8, K16, K32}
use Rattle.memc.specs.declared.spots.Spot.{Spot}
use Rattle.memc.specs.declared.spots.Spot.TheVariants.{Ram, Rom, Io, Vidc, Control, Translator, Ignored}
use Rattle.bus_ticks.specs.Prices.{word_address}
use Rattle.bus_ticks.specs.declared.space.TheConstants.{IO_START, PHYSICAL_START, ROM_START}
use Rattle.memc.specs.declared.spots.Refused.{Refused}
use Rattle.memc.specs.declared.spots.Refused.TheVariants.{NoPage, Protected, UnsupportedWrite}
use Rattle.memc.specs.Paged.{Paged, fitted_bytes, page_at, place_of, mapped, unmapped, IsFresh}

-- a page is 2 ^ shift bytes; ROM's words come with their addresses, which ascend
pub record Memory : Type 0 where
  pub shift : ℕ
  pub paged : Paged
  pub control : ControlFields
  pub rom : List (ℕ × ℕ)

-- 4, 8, 16 and 32 KB
abbrev pub shift_of_size : PageSize → ℕ
shift_of_size K4 = 12
shift_of_size K8 = 13
shift_of_size K16 = 14
shift_of_size K32 = 15

-- ## Where an access goes

-- rights by level: privileged modes read and write at all; User with the operating system field set writes at
-- 0 and 1 and reads at all; User otherwise writes at 0 and reads at 0 and 1
abbrev pub allowed : Bool → ℕ → Bool → Bool → Bool
allowed system level user store =
    not user || level == 0 || (if store then (system && level == 1) else (system || level == 1))

-- an access to logical RAM, on the page where it lies
abbrev pub on_page : Memory → ℕ → Bool → Bool → Option Entry → Result Spot Refused
on_page m address user store None = Err NoPage
on_page m address user store (Some e) =
    if allowed m.control.system e.level user store then Ok (Ram (place_of m.shift e.physical address))
    else Err Protected

abbrev pub logical_at : Memory → ℕ → Bool → Bool → Result Spot Refused
logical_at m address user store = on_page m address user store (page_at m.paged (address / 2 ^ m.shift))

-- an access to physical RAM, of which so many bytes are fitted
abbrev pub physical_at : ℕ → ℕ → Bool → Result Spot Refused
physical_at limit place user =
    if nat_le limit place then Err NoPage else (if user then Err Protected else Ok (Ram (place / 4 * 4)))

-- a store where loads read ROM: bits 19 to 17 all set make a control write, whose bits 3 and 2 are the page
-- size
abbrev pub written_at : ℕ → ℕ → Result Spot Refused
written_at shift address =
    if nat_lt address DMA_AND_CONTROL then Ok (Vidc address)
    else (if nat_lt address TRANSLATOR then
    (if address / 2 ^ 17 % 2 ^ 3 == 7
    then (if address / 2 ^ 2 % 2 ^ 2 + 12 == shift then Ok (Control address) else Err UnsupportedWrite)
    else Ok (Ignored address))
    else (if shift == 12 then Ok (Translator address) else Err UnsupportedWrite))

-- logical RAM 0000000 to 1FFFFFF, physical RAM 2000000 to 2FFFFFF, I/O 3000000 to 33FFFFF, and then ROM for
-- loads
abbrev pub located : Memory → ℕ → Bool → Bool → Result Spot Refused
located m address user store =
    if nat_lt address PHYSICAL_START then logical_at m address user store
    else (if nat_lt address IO_START then physical_at (fitted_bytes m.shift) (address - PHYSICAL_START) user
    else (if user && (store || nat_lt address ROM_START) then Err Protected
    else (if nat_lt address ROM_START then Ok (Io address)
    else (if store then written_at m.shift address else Ok (Rom address)))))

-- whether so many words, from the one that an address names on, are on one page of 2 ^ shift bytes
abbrev pub IsOnOnePage : ℕ → (address words : ℕ) → Type 0
IsOnOnePage shift address words = address % 2 ^ shift / 4 * 4 + 4 * words ≤ 2 ^ shift

-- a run: words on one page of logical RAM. Where the first is at a place, word i is at the place + 4 i
pub record IsRun (m : Memory) (address words : ℕ) (user store : Bool) (place : ℕ) : Type 0 where
  pub logical : address < PHYSICAL_START
  pub on_one_page : IsOnOnePage m.shift address words
  pub fitted : place + 4 * words ≤ fitted_bytes m.shift
  pub each : (i : ℕ) → i < words → located m (word_address address i) user store ≡ Ok (Ram (place + 4 * i))

-- why words are no run: the first lies past logical RAM, or they reach past its page, or its access is
-- refused
abbrev pub HasNoRun : Memory → (address words : ℕ) → (user store : Bool) → Type 0
HasNoRun m address words user store =
    (PHYSICAL_START ≤ address)
    ⊎ ((2 ^ m.shift < address % 2 ^ m.shift / 4 * 4 + 4 * words)
    ⊎ ((refused : Refused) × (located m address user store ≡ Err refused)))

-- what is true of every spot that an access reaches: a word of RAM is fitted, and the translator has pages of
-- 4 KB
abbrev pub Fits : ℕ → Spot → Type 0
Fits shift (Ram place) = place < fitted_bytes shift
Fits shift (Translator address) = shift ≡ 12
Fits shift _ = Unit {0}

-- what a store takes, and what a load takes
abbrev pub IsRamSpot : ℕ → Spot → Type 0
IsRamSpot shift (Ram place) = place < fitted_bytes shift
IsRamSpot shift _ = ⊥

abbrev pub IsMemorySpot : ℕ → Spot → Type 0
IsMemorySpot shift (Ram place) = place < fitted_bytes shift
IsMemorySpot shift (Rom address) = Unit {0}
IsMemorySpot shift _ = ⊥

-- ## Words

-- the word of ROM at an address: 0 where there is none
abbrev pub rom_word : List (ℕ × ℕ) → ℕ → ℕ
rom_word [] address = 0
rom_word (e ∷ rest) address = if e.0 == address then e.1 else rom_word rest address

-- the word that a load returns; an address names the word that it lies in
abbrev pub word_at : Memory → Spot → ℕ
word_at m (Ram place) = slice_index m.paged.words (place / 4)
word_at m (Rom address) = rom_word m.rom (address / 4 * 4)
word_at m _ = 0

-- what a store of a word leaves
abbrev pub stored : Spot → ℕ → Memory → Memory
stored (Ram place) word m =
    record m { paged = record m.paged { words = slice_set m.paged.words (place / 4) word } }
stored _ word m = m

-- one word more in ROM, in place of the one that is there
abbrev pub with_word : List (ℕ × ℕ) → ℕ → ℕ → List (ℕ × ℕ)
with_word [] address word = (address, word) ∷ []
with_word (e ∷ rest) address word =
    if nat_lt address e.0 then (address, word) ∷ e ∷ rest
    else (if e.0 == address then (address, word) ∷ rest else e ∷ with_word rest address word)

-- the words of a list, one after another
abbrev pub with_words : List (ℕ × ℕ) → List (ℕ × ℕ) → List (ℕ × ℕ)
with_words rom [] = rom
with_words rom (e ∷ rest) = with_words (with_word rom e.0 e.1) rest

abbrev pub with_rom : List (ℕ × ℕ) → Memory → Memory
with_rom words m = record m { rom = with_words m.rom words }

-- the last word that a list has for an address, or else the word before
abbrev pub last_word : List (ℕ × ℕ) → ℕ → ℕ → ℕ
last_word [] address before = before
last_word (e ∷ rest) address before = last_word rest address (if e.0 == address then e.1 else before)

-- ## Pages and control fields

-- no words move with a page
abbrev pub without_page : ℕ → Memory → Memory
without_page physical m = record m { paged = unmapped physical m.paged }

abbrev pub with_map : ℕ → ℕ → ℕ → Memory → Memory
with_map physical logical level m = record m { paged = mapped physical logical level m.paged }

-- what can be mapped: logical pages of 2 ^ 25 bytes in all, the physical pages, levels 0 to 3
abbrev pub can_map : (shift physical logical level : ℕ) → Bool
can_map shift physical logical level =
    nat_lt logical (2 ^ (25 - shift)) && nat_lt physical PHYSICAL_PAGES && nat_lt level 4

-- a translator write with pages of 4 KB: the physical page in bits 6 to 0, the level in 9 and 8, and of the
-- logical page bits 12 and 11 in 11 and 10, and bits 10 to 0 in 22 to 12
abbrev pub translated : ℕ → Memory → Memory
translated address m =
    with_map (address % 2 ^ 7) (address / 2 ^ 10 % 2 ^ 2 * 2 ^ 11 + address / 2 ^ 12 % 2 ^ 11)
    (address / 2 ^ 8 % 2 ^ 2) m

-- the fields in the address of a control write: low ROM time in bits 5 and 4, high ROM time in 7 and 6, video
-- DMA in 10, sound DMA in 11, operating system in 12
abbrev pub control_of : ℕ → ControlFields
control_of address = record {
  rom_times =
      record {
        low = address / 2 ^ 4 % 2 ^ 2;
        high = address / 2 ^ 6 % 2 ^ 2;
        low_in_range = mod_below (address / 2 ^ 4) 4 (lit< tt);
        high_in_range = mod_below (address / 2 ^ 6) 4 (lit< tt);
      };
  video_dma = address / 2 ^ 10 % 2 == 1;
  sound_dma = address / 2 ^ 11 % 2 == 1;
  system = address / 2 ^ 12 % 2 == 1;
}

abbrev pub with_control : ℕ → Memory → Memory
with_control address m = record m { control = control_of address }

-- as a machine starts
pub record IsStart (shift : ℕ) (m : Memory) : Type 0 where
  pub size : m.shift ≡ shift
  pub fresh : IsFresh shift m.paged
  pub control : m.control ≡ control_of 0
  pub no_rom : m.rom ≡ []

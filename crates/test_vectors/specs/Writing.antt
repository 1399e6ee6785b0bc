-- How vectors are put on their way. It is here since clauses of private functions cite it.
use Rattle.std.specs.Prelude.{◌==◌, ◌≤◌, ℕ, zero, suc, Bool, true, false, List, [], ◌∷◌, ◌++◌, codes, decimal}
use Rattle.std.specs.Prelude.{map}
use Rattle.std.specs.Prelude.{Option, Some, None}
use Rattle.bus_ticks.specs.Prices.{ahead_of, word_address}
use Rattle.arm2_effect.specs.Effects.{FetchN, FetchS, Word}
use Rattle.memc.specs.Memory.{Memory}
use Rattle.arm2_exec.specs.State.{State}
use Rattle.json_trace.specs.Json.{array, ended, member}
use Rattle.json_trace.specs.StepLine.{memory_word}
use Rattle.test_vectors.specs.Shape.{shape}
use Rattle.test_vectors.specs.Vector.{access_object, access_value, addresses_of, internal_object}
use Rattle.test_vectors.specs.Vector.{number_or_null, register_members, state_value}
use Rattle.test_vectors.specs.declared.bus_use.BusUse.{BusUse}
use Rattle.test_vectors.specs.declared.bus_use.BusUse.TheVariants.{Nothing, Fetches, Loads, Stores}
use Rattle.test_vectors.specs.declared.place.Place.{Place}
use Rattle.test_vectors.specs.declared.shown_words.ShownWord.{ShownWord}

-- a block moves 16 words at most
abbrev pub FewWords : BusUse → Type 0
FewWords Nothing = Unit {0}
FewWords (Fetches delay jumps) = Unit {0}
FewWords (Loads words jumps) = words.words ≤ 16
FewWords (Stores words) = words.words ≤ 16

abbrev pub shown_at : Memory → (address : ℕ) → ShownWord
shown_at m address = record { address = address; word = memory_word m false address }

-- the pair of a word that was looked up
abbrev pub pair_of : ShownWord → List ℕ
pair_of w = array (decimal w.address ∷ number_or_null w.word ∷ [])

-- the addresses of the words that are moved, and of those that are fetched after a jump
abbrev pub moved_addresses : (address count : ℕ) → List ℕ
moved_addresses address zero = []
moved_addresses address (suc k) = moved_addresses address k ++ word_address address k ∷ []

abbrev pub refill_addresses : (jumps : Bool) → (to : ℕ) → List ℕ
refill_addresses true to = to ∷ ahead_of to 4 ∷ []
refill_addresses false to = []

-- a word of a transfer, and each of them after a comma
abbrev pub moved_object : Memory → (store : Bool) → (address number : ℕ) → List ℕ
moved_object m store address number =
    access_value m m (Word store (number == 0) (word_address address number))

abbrev pub moved_objects : Memory → (store : Bool) → (address count : ℕ) → List ℕ
moved_objects m store address zero = []
moved_objects m store address (suc k) =
    moved_objects m store address k ++ (codes "," ++ moved_object m store address k)

-- what is fetched after a jump, each after a comma
abbrev pub refill_objects : Memory → (jumps : Bool) → (to : ℕ) → List ℕ
refill_objects m true to =
    codes "," ++ (access_value m m (FetchN to) ++ (codes "," ++ access_value m m (FetchS (ahead_of to 4))))
refill_objects m false to = []

-- internal cycles, if there are any, before a comma
abbrev pub delay_objects : Option ℕ → List ℕ
delay_objects None = []
delay_objects (Some cycles) = internal_object cycles ++ codes ","

-- the fetch of the word that is eight bytes on
abbrev pub ahead_object : (at : ℕ) → Option ℕ → (follows : Bool) → List ℕ
ahead_object at ahead follows = access_object (codes "fetch") follows (ahead_of at 8) ahead

-- the accesses of a step, with commas between them, by memory after it
abbrev pub accesses_text : Memory → BusUse → (at : ℕ) → Option ℕ → (to : ℕ) → List ℕ
accesses_text m Nothing at ahead to = []
accesses_text m (Fetches delay jumps) at ahead to =
    delay_objects delay ++ (ahead_object at ahead true ++ refill_objects m jumps to)
accesses_text m (Loads words jumps) at ahead to =
    ahead_object at ahead true
    ++ (moved_objects m words.store words.address words.words
    ++ (codes "," ++ (internal_object 1 ++ refill_objects m jumps to)))
accesses_text m (Stores words) at ahead to =
    ahead_object at ahead false ++ moved_objects m words.store words.address words.words

-- the end of a state
abbrev pub ram_text : List ShownWord → List ℕ
ram_text words = member (codes "ram") (array (map pair_of words)) ++ codes "}"

-- the front of a vector, up to the registers before its step
abbrev pub front_text : (name : List ℕ) → (regs : List ℕ) → List ℕ
front_text name regs =
    codes "{\"name\":\"" ++ (name ++ (codes "\",\"initial\":" ++ (codes "{" ++ ended (register_members regs))))

-- the addresses of a step's vector
abbrev pub place_addresses : Place → List ℕ
place_addresses place = place.at ∷ addresses_of (shape place.done place.at place.to)

-- the end of a vector, by memory before its step and the state after it
abbrev pub end_text : Memory → (after : State) → Place → List ℕ
end_text m after place =
    ram_text (map (shown_at m) (place_addresses place))
    ++ (codes ",\"final\":"
    ++ (state_value after.regs after.bus.memc (place_addresses place)
    ++ (codes ",\"cycles\":"
    ++ (array (map (access_value m after.bus.memc) (shape place.done place.at place.to)) ++ codes "}"))))

-- What a step does, and what it costs (a cycle profile shaped on the N, S and I cycles of the VL86C010 data
-- sheet).
use Rattle.std.specs.Prelude.{◌≡◌, ℕ, ◌*◌, ◌/◌, Bool, true, false, List, [], ◌∷◌, map, sum}
use Rattle.bus_ticks.specs.Prices.{ahead_of, fetch_n, fetch_s, word_price}
use Rattle.arm2_effect.specs.declared.prices.Prices.{Prices}
use Rattle.arm2_effect.specs.declared.step_end.Kind.{Kind}
use Rattle.arm2_effect.specs.declared.step_end.Kind.TheVariants.{Plain, Stopped, Taken}
use Rattle.arm2_effect.specs.declared.step_end.Why.{Why}
use Rattle.arm2_effect.specs.declared.step_end.Done.{Done}
use Rattle.arm2_effect.specs.Modes.{r15_in, with_r15}
use Rattle.arm2_effect.specs.ProgramCounter.{address_of, r15_ahead}

-- What a step does on the bus: a fetch that does not follow the access before it (N), one that does (S), a
-- word of a transfer (a store or not, the first of its transfer or not), or cycles without an access.
pub data Access : Type 0 where
  FetchN : ℕ → Access
  FetchS : ℕ → Access
  Word : Bool → Bool → ℕ → Access
  Internal : ℕ → Access

abbrev pub price_of : Prices → Access → ℕ
price_of prices (FetchN a) = fetch_n prices.profile a prices.rom
price_of prices (FetchS a) = fetch_s prices.profile a prices.rom
price_of prices (Word store first a) = word_price prices.profile (a / 4 * 4) first store prices.rom
price_of prices (Internal cycles) = cycles * prices.profile.internal

-- the ticks of a step are the prices of its accesses, added up
abbrev pub ticks_of : Prices → List Access → ℕ
ticks_of prices accesses = sum (map (price_of prices) accesses)

-- whether a step stops the machine
abbrev pub is_stopped : Kind → Bool
is_stopped Plain = false
is_stopped (Taken vector) = false
is_stopped (Stopped why) = true

-- how a step ends, what it does on the bus, and the registers after it
pub record Effect : Type 0 where
  pub kind : Kind
  pub accesses : List Access
  pub regs : List ℕ

-- the code's answer and the registers after it are those of an effect
pub record IsEffect (prices : Prices) (done : Done) (new : List ℕ) (e : Effect) : Type 0 where
  pub kind : done.kind ≡ e.kind
  pub ticks : done.ticks ≡ ticks_of prices e.accesses
  pub regs : new ≡ e.regs

-- the instruction at a is followed by the next one
abbrev pub straight : ℕ → List Access
straight a = FetchS (ahead_of a 8) ∷ []

-- a jump to t: two fetches, to fill the pipeline again
abbrev pub refill : ℕ → List Access
refill t = FetchN t ∷ FetchS (ahead_of t 4) ∷ []

-- the instruction at a is followed by the one at t
abbrev pub onward : ℕ → ℕ → List Access
onward a t = FetchS (ahead_of a 8) ∷ refill t

-- a failed condition: R15 goes on, and nothing else happens
unfoldable pub skipped : List ℕ → Effect
skipped regs =
    record {
      kind = Plain;
      accesses = straight (address_of (r15_in regs));
      regs = with_r15 (r15_ahead (r15_in regs) 4) regs;
    }

-- a stopped step takes no ticks and changes nothing
unfoldable pub stopped : Why → List ℕ → Effect
stopped why regs = record { kind = Stopped why; accesses = []; regs = regs }

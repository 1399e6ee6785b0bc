-- Lists of call addresses: MOST_CALLS at most, as deep as calls may nest in a handler.
use Rattle.std.specs.Prelude.{◌≡◌, ℕ, ◌-◌, ◌≤◌, ◌<◌, List, ◌++◌, length, take, replicate, All}
use Rattle.bus_ticks.specs.declared.space.TheConstants.{SPACE_END}
use Rattle.control_flow.specs.declared.call_list.Calls.TheInside.{Inside}
use Rattle.control_flow.specs.declared.call_list.TheConstants.{MOST_CALLS}

-- the first `len` slots are the addresses, and the others are 0
pub record IsCalls (calls : Inside) : Type 0 where
  pub few : calls.len ≤ MOST_CALLS
  pub whole : length calls.slots ≡ MOST_CALLS
  pub padded : calls.slots ≡ take calls.len calls.slots ++ replicate (MOST_CALLS - calls.len) 0
  pub small : All (λ a. a < SPACE_END) (take calls.len calls.slots)

abbrev pub addresses_of : Inside → List ℕ
addresses_of calls = take calls.len calls.slots

abbrev pub calls_of : List ℕ → Inside
calls_of addresses =
    record {
      len = length addresses;
      slots = addresses ++ replicate (MOST_CALLS - length addresses) 0;
    }

-- What is stated so far: nothing where no statement is begun.
use Rattle.std.specs.Prelude.{◌≡◌, ℕ, ◌==◌, ◌||◌, Bool, true, false, List, nat_eq, Option, Some, None}
use Rattle.std.specs.List.{list_any, position}
use Rattle.std.specs.Map.{lookup, values_of}
use Rattle.std.specs.Option.{is_some}
use Rattle.arm2_decode.specs.Names.{is_same}
use Rattle.arm2_decode.specs.declared.names.Register.{Register}
use Rattle.statement.specs.Stated.{Stated, Target, is_ruled, target_of}
use Rattle.text_draft.specs.declared.accesses.FoundAccess.{FoundAccess}
use Rattle.text_draft.specs.declared.found_loop.FoundLoop.{FoundLoop}
use Rattle.text_draft.specs.declared.pc_writers.FoundTarget.{FoundTarget}

-- ## Targets

-- the target stated for the word at an address
abbrev pub target_in : Option Stated → ℕ → Option Target
target_in None at = None
target_in (Some st) at = target_of st at

-- a destination of 0 stands for what is left open
abbrev pub is_open_target : Target → Bool
is_open_target t = list_any (λ to. to == 0) t.to

abbrev pub any_open_target : List Target → Bool
any_open_target targets = list_any is_open_target targets

-- where the word leads is left open: no target is stated for it, or an open one
abbrev pub is_unsettled : Option Target → Bool
is_unsettled None = true
is_unsettled (Some t) = is_open_target t

-- an open target is stated for some word
abbrev pub any_stated_open : Option Stated → Bool
any_stated_open None = false
any_stated_open (Some st) = any_open_target (values_of st.targets)

-- a target is stated for the word
abbrev pub has_target : Option Stated → FoundTarget → Bool
has_target begun t = is_some (target_in begun t.at)

-- ## Classes

-- a class is stated for what the word at an address transfers by that base: its own, or that of a rule
abbrev pub is_classed_at : Stated → ℕ → Register → Bool
is_classed_at st at base =
    is_some (lookup (nat_eq at) st.accesses) || is_some (position (is_ruled base at) st.rules)

abbrev pub has_class : Option Stated → FoundAccess → Bool
has_class None e = false
has_class (Some st) e = is_classed_at st e.at e.base

-- a rule is stated for the register, if only for a part of the handler
abbrev pub has_rule : Option Stated → Register → Bool
has_rule None register = false
has_rule (Some st) register = list_any (λ r. is_same r.register register) st.rules

-- ## Loops

-- a loop with that header is stated
abbrev pub has_header : Option Stated → ℕ → Bool
has_header None header = false
has_header (Some st) header = list_any (λ l. l.header == header) st.loops.list

abbrev pub has_loop : Option Stated → FoundLoop → Bool
has_loop begun l = has_header begun l.header

-- Symbols that are read to a value spell an expression of that value.
use Rattle.std.proofs.Common.{◌≡◌, ℕ, Bool, true, false, List, [], ◌∷◌, ◌++◌, map, Option, Some, refl, sym, ap, ◌∙◌, append_assoc, inl, inr, arith}
use Rattle.std.specs.Prelude.{nat_le, nat_lt}
use Rattle.std.specs.Option.{option_and_then}
use Rattle.std.proofs.lemmas.Bool.{cases_Bool}
use Rattle.std.proofs.lemmas.Bool.Decides.{nat_tests}
use Rattle.std.proofs.lemmas.List.{append-nil}
use Rattle.std.proofs.lemmas.Option.{same_Some}
use Rattle.objasm.specs.Evaluation.{closed, evaluated, ended, reduced, run}
use Rattle.objasm.specs.Expressions.{Expression, Lone, Group, Applied, Between, IsGrouped, Spells, outer_level, symbols_of, unary_symbol, value}
use Rattle.objasm.specs.Operators.{level}
use Rattle.objasm.specs.declared.evaluation.Place.{Place}
use Rattle.objasm.specs.declared.evaluation.Place.TheVariants.{Expects, Has}
use Rattle.objasm.specs.declared.evaluation.Waiting.{Waiting}
use Rattle.objasm.specs.declared.evaluation.Waiting.TheVariants as waits
use Rattle.objasm.specs.declared.operators.Binary.{Binary}
use Rattle.objasm.specs.declared.operators.Binary.TheVariants.{Times, Over, Mod, Shl, Shr, Rol, Ror, Plus, Minus, And, Or, Eor, Equal, Unequal, Less, AtMost, Greater, AtLeast, Both, Either, OneAlone}
use Rattle.objasm.specs.declared.operators.Unary.{Unary}
use Rattle.objasm.specs.declared.operators.Unary.TheVariants.{Keep, Negate, Invert, Deny}
use Rattle.objasm.specs.declared.operators.Value.{Value}
use Rattle.objasm.specs.declared.operators.Value.TheVariants as values
use Rattle.objasm.specs.declared.symbols.Symbol.{Symbol}
use Rattle.objasm.specs.declared.symbols.Symbol.TheVariants.{Number, Operator, Not, LogicalNot, Open, Close}
use Rattle.objasm.proofs.ExpressionLaws.{group_opens, level_below, reduced_kept, reduced_ready, room, some_room}

-- what waits, with expressions in place of values
data Held : Type 0 where
  Before : Unary → Held
  Left : Expression → Binary → Held
  Opened : Held

abbrev waiting_of : Held → Waiting
waiting_of (Before u) = waits.Before u
waiting_of (Left e b) = waits.Between (value e) b
waiting_of Opened = waits.Opened

abbrev all_waiting : List Held → List Waiting
all_waiting hs = map waiting_of hs

abbrev held_symbols : List Held → List Symbol
held_symbols [] = []
held_symbols (Before u ∷ hs) = held_symbols hs ++ unary_symbol u ∷ []
held_symbols (Left e b ∷ hs) = held_symbols hs ++ (symbols_of e ++ Operator b ∷ [])
held_symbols (Opened ∷ hs) = held_symbols hs ++ Open ∷ []

abbrev IsHeld : List Held → Type 0
IsHeld [] = Unit {0}
IsHeld (Before u ∷ hs) = IsHeld hs
IsHeld (Opened ∷ hs) = IsHeld hs
IsHeld (Left e b ∷ hs) = IsGrouped e × (nat_le (outer_level e) (level b) ≡ true) × (nat_lt (level b) (room (all_waiting hs)) ≡ true) × IsHeld hs

-- nothing that is ready at the level waits last
abbrev is_stopped : ℕ → List Held → Bool
is_stopped k [] = true
is_stopped k (Before u ∷ hs) = false
is_stopped k (Opened ∷ hs) = true
is_stopped k (Left e b ∷ hs) = nat_lt k (level b)

record Sunk (k : ℕ) (hs : List Held) (e : Expression) : Type 0 where
  rest : List Held
  inner : Expression
  same : reduced k (all_waiting hs) (value e) ≡ (all_waiting rest, value inner)
  symbols : held_symbols hs ++ symbols_of e ≡ held_symbols rest ++ symbols_of inner
  held : IsHeld rest
  grouped : IsGrouped inner
  low : nat_le (outer_level inner) k ≡ true
  stopped : is_stopped k rest ≡ true

nothing_waits : (k : ℕ) (v : Option Value) → reduced k [] v ≡ ([], v)
unfolding reduced
nothing_waits k v = refl

zero_below : (k : ℕ) → nat_le 0 k ≡ true
zero_below k = grind (arith, nat_tests)

is_zero : (n : ℕ) → nat_lt n 1 ≡ true → n ≡ 0
is_zero n lt = grind (arith, nat_tests)

sinks : (k : ℕ) (hs : List Held) (e : Expression) → IsHeld hs → IsGrouped e → nat_lt (outer_level e) (room (all_waiting hs)) ≡ true → nat_le (outer_level e) k ≡ true → Sunk k hs e
sinks k [] e h g inside low =
    record { rest = []; inner = e; same = nothing_waits k (value e); symbols = refl; held = tt; grouped = g; low = low; stopped = refl }
sinks k (Opened ∷ hs) e h g inside low =
    record { rest = Opened ∷ hs; inner = e; same = reduced_kept k waits.Opened (all_waiting hs) (value e) refl; symbols = refl; held = h; grouped = g; low = low; stopped = refl }
sinks k (Before u ∷ hs) e h g inside low =
    let s = sinks k hs (Applied u e) h (is_zero (outer_level e) inside, g) (some_room (all_waiting hs)) (zero_below k) in
    record {
      rest = s.rest;
      inner = s.inner;
      same = reduced_ready k (waits.Before u) (all_waiting hs) (value e) refl ∙ s.same;
      symbols = append_assoc (held_symbols hs) (unary_symbol u ∷ []) (symbols_of e) ∙ s.symbols;
      held = s.held;
      grouped = s.grouped;
      low = s.low;
      stopped = s.stopped;
    }
sinks k (Left x b ∷ hs) e h g inside low =
    elim (cases_Bool (nat_le (level b) k)) [
      | inl ready ↦
          let s = sinks k hs (Between b x e) h.3 (h.1, inside, h.0, g) h.2 ready in
          record {
            rest = s.rest;
            inner = s.inner;
            same = reduced_ready k (waits.Between (value x) b) (all_waiting hs) (value e) ready ∙ s.same;
            symbols =
                append_assoc (held_symbols hs) (symbols_of x ++ Operator b ∷ []) (symbols_of e)
                ∙ ap (λ (ss : List Symbol). held_symbols hs ++ ss) (append_assoc (symbols_of x) (Operator b ∷ []) (symbols_of e))
                ∙ s.symbols;
            held = s.held;
            grouped = s.grouped;
            low = s.low;
            stopped = s.stopped;
          }
      | inr tight ↦
          record {
            rest = Left x b ∷ hs;
            inner = e;
            same = reduced_kept k (waits.Between (value x) b) (all_waiting hs) (value e) tight;
            symbols = refl;
            held = h;
            grouped = g;
            low = low;
            stopped = above (level b) tight;
          }
    ]
  where
    above : (n : ℕ) → nat_le n k ≡ false → nat_lt k n ≡ true
    above n no_less = grind (arith, nat_tests)

-- ## The symbols

data Spot : Type 0 where
  Free : Spot
  Full : Expression → Spot

abbrev place_of : Spot → Place
place_of Free = Expects
place_of (Full e) = Has (value e)

abbrev spot_symbols : Spot → List Symbol
spot_symbols Free = []
spot_symbols (Full e) = symbols_of e

abbrev IsSpot : Spot → Type 0
IsSpot Free = Unit {0}
IsSpot (Full e) = IsGrouped e × (outer_level e ≡ 0)

abbrev pub Found : List Symbol → Option Value → Type 0
Found ss v = (e : Expression) × Spells ss e × (value e ≡ v)

as_symbols : (ss ts : List Symbol) (v : Option Value) → ss ≡ ts → Found ss v → Found ts v
as_symbols ss ts v is f = (f.0, record { written = f.1.written ∙ is; grouped = f.1.grouped }, f.2)

inside_of : (e : Expression) (ws : List Waiting) → outer_level e ≡ 0 → nat_lt (outer_level e) (room ws) ≡ true
inside_of e ws is = rw is (some_room ws)

low_of : (e : Expression) (k : ℕ) → outer_level e ≡ 0 → nat_le (outer_level e) k ≡ true
low_of e k is = rw is (zero_below k)

sunk_of : (k : ℕ) (hs : List Held) (e : Expression) → IsHeld hs → IsSpot (Full e) → Sunk k hs e
sunk_of k hs e h s = sinks k hs e h s.0 (inside_of e (all_waiting hs) s.1) (low_of e k s.1)

-- at the end
ends : (hs : List Held) (e : Expression) (s : Sunk 5 hs e) (v : Option Value) → ended (reduced 5 (all_waiting hs) (value e)) ≡ Some v → Found (held_symbols hs ++ (symbols_of e ++ [])) v
ends hs e s v is = by_rest s.rest s.symbols (sym (ap ended s.same) ∙ is)
  where
    by_rest : (rest : List Held) → held_symbols hs ++ symbols_of e ≡ held_symbols rest ++ symbols_of s.inner → ended (all_waiting rest, value s.inner) ≡ Some v → Found (held_symbols hs ++ (symbols_of e ++ [])) v
    by_rest [] symbols is = (s.inner, record { written = sym symbols ∙ ap (λ (ss : List Symbol). held_symbols hs ++ ss) (sym (append-nil (symbols_of e))); grouped = s.grouped }, same_Some (value s.inner) v is)
    by_rest (h ∷ hs) symbols is = absurd cc

step_number : (ws : List Waiting) (n : ℕ) (ss : List Symbol) → run ws Expects (Number n ∷ ss) ≡ run ws (Has (Some (values.Number n))) ss
unfolding run
step_number ws n ss = refl

step_unary : (ws : List Waiting) (u : Unary) (ss : List Symbol) → run ws Expects (unary_symbol u ∷ ss) ≡ run (waits.Before u ∷ ws) Expects ss
unfolding run
step_unary ws Keep ss = refl
step_unary ws Negate ss = refl
step_unary ws Invert ss = refl
step_unary ws Deny ss = refl

step_operator : (ws : List Waiting) (v : Option Value) (b : Binary) (ss : List Symbol) (rest : List Waiting) (inner : Option Value) → reduced (level b) ws v ≡ (rest, inner)
    → run ws (Has v) (Operator b ∷ ss) ≡ run (waits.Between inner b ∷ rest) Expects ss
unfolding run
step_operator ws v b ss rest inner is = ap (λ (r : List Waiting × Option Value). run (waits.Between r.1 b ∷ r.0) Expects ss) is

step_close : (ws : List Waiting) (v : Option Value) (ss : List Symbol) (rest : List Waiting) (inner : Option Value) → reduced 5 ws v ≡ (rest, inner)
    → run ws (Has v) (Close ∷ ss) ≡ option_and_then (λ next. run next.0 next.1 ss) (closed (rest, inner))
unfolding run
step_close ws v ss rest inner is = ap (λ (r : List Waiting × Option Value). option_and_then (λ next. run next.0 next.1 ss) (closed r)) is

stopped_room : (b : Binary) (hs : List Held) → is_stopped (level b) hs ≡ true → nat_lt (level b) (room (all_waiting hs)) ≡ true
stopped_room b [] s = level_below b
stopped_room b (Before u ∷ hs) s = absurd cc
stopped_room b (Opened ∷ hs) s = level_below b
stopped_room b (Left e c ∷ hs) s = s

at_end : (ws : List Waiting) (v : Option Value) → ended (reduced 5 ws v) ≡ run ws (Has v) []
unfolding run
at_end ws v = refl

-- what does not follow

no_end : (ws : List Waiting) (v : Option Value) → run ws Expects [] ≡ Some v → ⊥
unfolding run
no_end ws v is = absurd cc

no_operator : (ws : List Waiting) (b : Binary) (ss : List Symbol) (v : Option Value) → (b ≡ Plus → ⊥) → (b ≡ Minus → ⊥) → run ws Expects (Operator b ∷ ss) ≡ Some v → ⊥
unfolding run
no_operator ws Plus ss v plus minus is = plus refl
no_operator ws Minus ss v plus minus is = minus refl
no_operator ws _ ss v plus minus is = absurd cc

no_close : (ws : List Waiting) (ss : List Symbol) (v : Option Value) → run ws Expects (Close ∷ ss) ≡ Some v → ⊥
unfolding run
no_close ws ss v is = absurd cc

no_number : (ws : List Waiting) (x : Option Value) (n : ℕ) (ss : List Symbol) (v : Option Value) → run ws (Has x) (Number n ∷ ss) ≡ Some v → ⊥
unfolding run
no_number ws x n ss v is = absurd cc

no_open : (ws : List Waiting) (x : Option Value) (ss : List Symbol) (v : Option Value) → run ws (Has x) (Open ∷ ss) ≡ Some v → ⊥
unfolding run
no_open ws x ss v is = absurd cc

no_not : (ws : List Waiting) (x : Option Value) (ss : List Symbol) (v : Option Value) → run ws (Has x) (Not ∷ ss) ≡ Some v → ⊥
unfolding run
no_not ws x ss v is = absurd cc

no_logical_not : (ws : List Waiting) (x : Option Value) (ss : List Symbol) (v : Option Value) → run ws (Has x) (LogicalNot ∷ ss) ≡ Some v → ⊥
unfolding run
no_logical_not ws x ss v is = absurd cc

sound : (ss : List Symbol) (hs : List Held) (p : Spot) (v : Option Value) → IsHeld hs → IsSpot p → run (all_waiting hs) (place_of p) ss ≡ Some v
    → Found (held_symbols hs ++ (spot_symbols p ++ ss)) v
sound [] hs Free v h q is = absurd (no_end (all_waiting hs) v is)
sound [] hs (Full e) v h q is = ends hs e (sunk_of 5 hs e h q) v (at_end (all_waiting hs) (value e) ∙ is)
sound (Number n ∷ ss) hs Free v h q is = sound ss hs (Full (Lone n)) v h (tt, refl) (sym (step_number (all_waiting hs) n ss) ∙ is)
sound (Open ∷ ss) hs Free v h q is =
    as_symbols _ _ v (append_assoc (held_symbols hs) (Open ∷ []) ss) (sound ss (Opened ∷ hs) Free v h tt (sym (group_opens (all_waiting hs) ss) ∙ is))
sound (Not ∷ ss) hs Free v h q is =
    as_symbols _ _ v (append_assoc (held_symbols hs) (Not ∷ []) ss) (sound ss (Before Invert ∷ hs) Free v h tt (sym (step_unary (all_waiting hs) Invert ss) ∙ is))
sound (LogicalNot ∷ ss) hs Free v h q is =
    as_symbols _ _ v (append_assoc (held_symbols hs) (LogicalNot ∷ []) ss) (sound ss (Before Deny ∷ hs) Free v h tt (sym (step_unary (all_waiting hs) Deny ss) ∙ is))
sound (Operator Plus ∷ ss) hs Free v h q is =
    as_symbols _ _ v (append_assoc (held_symbols hs) (Operator Plus ∷ []) ss) (sound ss (Before Keep ∷ hs) Free v h tt (sym (step_unary (all_waiting hs) Keep ss) ∙ is))
sound (Operator Minus ∷ ss) hs Free v h q is =
    as_symbols _ _ v (append_assoc (held_symbols hs) (Operator Minus ∷ []) ss) (sound ss (Before Negate ∷ hs) Free v h tt (sym (step_unary (all_waiting hs) Negate ss) ∙ is))
sound (Operator Times ∷ ss) hs Free v h q is = absurd (no_operator (all_waiting hs) Times ss v (λ k. cc) (λ k. cc) is)
sound (Operator Over ∷ ss) hs Free v h q is = absurd (no_operator (all_waiting hs) Over ss v (λ k. cc) (λ k. cc) is)
sound (Operator Mod ∷ ss) hs Free v h q is = absurd (no_operator (all_waiting hs) Mod ss v (λ k. cc) (λ k. cc) is)
sound (Operator Shl ∷ ss) hs Free v h q is = absurd (no_operator (all_waiting hs) Shl ss v (λ k. cc) (λ k. cc) is)
sound (Operator Shr ∷ ss) hs Free v h q is = absurd (no_operator (all_waiting hs) Shr ss v (λ k. cc) (λ k. cc) is)
sound (Operator Rol ∷ ss) hs Free v h q is = absurd (no_operator (all_waiting hs) Rol ss v (λ k. cc) (λ k. cc) is)
sound (Operator Ror ∷ ss) hs Free v h q is = absurd (no_operator (all_waiting hs) Ror ss v (λ k. cc) (λ k. cc) is)
sound (Operator And ∷ ss) hs Free v h q is = absurd (no_operator (all_waiting hs) And ss v (λ k. cc) (λ k. cc) is)
sound (Operator Or ∷ ss) hs Free v h q is = absurd (no_operator (all_waiting hs) Or ss v (λ k. cc) (λ k. cc) is)
sound (Operator Eor ∷ ss) hs Free v h q is = absurd (no_operator (all_waiting hs) Eor ss v (λ k. cc) (λ k. cc) is)
sound (Operator Equal ∷ ss) hs Free v h q is = absurd (no_operator (all_waiting hs) Equal ss v (λ k. cc) (λ k. cc) is)
sound (Operator Unequal ∷ ss) hs Free v h q is = absurd (no_operator (all_waiting hs) Unequal ss v (λ k. cc) (λ k. cc) is)
sound (Operator Less ∷ ss) hs Free v h q is = absurd (no_operator (all_waiting hs) Less ss v (λ k. cc) (λ k. cc) is)
sound (Operator AtMost ∷ ss) hs Free v h q is = absurd (no_operator (all_waiting hs) AtMost ss v (λ k. cc) (λ k. cc) is)
sound (Operator Greater ∷ ss) hs Free v h q is = absurd (no_operator (all_waiting hs) Greater ss v (λ k. cc) (λ k. cc) is)
sound (Operator AtLeast ∷ ss) hs Free v h q is = absurd (no_operator (all_waiting hs) AtLeast ss v (λ k. cc) (λ k. cc) is)
sound (Operator Both ∷ ss) hs Free v h q is = absurd (no_operator (all_waiting hs) Both ss v (λ k. cc) (λ k. cc) is)
sound (Operator Either ∷ ss) hs Free v h q is = absurd (no_operator (all_waiting hs) Either ss v (λ k. cc) (λ k. cc) is)
sound (Operator OneAlone ∷ ss) hs Free v h q is = absurd (no_operator (all_waiting hs) OneAlone ss v (λ k. cc) (λ k. cc) is)
sound (Close ∷ ss) hs Free v h q is = absurd (no_close (all_waiting hs) ss v is)
sound (Number n ∷ ss) hs (Full e) v h q is = absurd (no_number (all_waiting hs) (value e) n ss v is)
sound (Open ∷ ss) hs (Full e) v h q is = absurd (no_open (all_waiting hs) (value e) ss v is)
sound (Not ∷ ss) hs (Full e) v h q is = absurd (no_not (all_waiting hs) (value e) ss v is)
sound (LogicalNot ∷ ss) hs (Full e) v h q is = absurd (no_logical_not (all_waiting hs) (value e) ss v is)
sound (Operator b ∷ ss) hs (Full e) v h q is =
    let s = sunk_of (level b) hs e h q in
    as_symbols _ _ v (
    append_assoc (held_symbols s.rest) (symbols_of s.inner ++ Operator b ∷ []) ss
    ∙ ap (λ (ts : List Symbol). held_symbols s.rest ++ ts) (append_assoc (symbols_of s.inner) (Operator b ∷ []) ss)
    ∙ sym (append_assoc (held_symbols s.rest) (symbols_of s.inner) (Operator b ∷ ss))
    ∙ ap (λ (ts : List Symbol). ts ++ Operator b ∷ ss) (sym s.symbols)
    ∙ append_assoc (held_symbols hs) (symbols_of e) (Operator b ∷ ss)
    ) (
    sound ss (Left s.inner b ∷ s.rest) Free v (s.grouped, s.low, stopped_room b s.rest s.stopped, s.held) tt
    (sym (step_operator (all_waiting hs) (value e) b ss (all_waiting s.rest) (value s.inner) s.same) ∙ is)
    )
sound (Close ∷ ss) hs (Full e) v h q is =
    let s = sunk_of 5 hs e h q in
    closes s.rest (λ rest held is. sound ss rest (Full (Group s.inner)) v held (s.grouped, refl) is) s.symbols s.held (sym (step_close (all_waiting hs) (value e) ss (all_waiting s.rest) (value s.inner) s.same) ∙ is)
  where
    closes : (rest : List Held)
        → ((under : List Held) → IsHeld under → run (all_waiting under) (Has (value (sunk_of 5 hs e h q).inner)) ss ≡ Some v → Found (held_symbols under ++ ((Open ∷ (symbols_of (sunk_of 5 hs e h q).inner ++ Close ∷ [])) ++ ss)) v)
        → held_symbols hs ++ symbols_of e ≡ held_symbols rest ++ symbols_of (sunk_of 5 hs e h q).inner → IsHeld rest
        → option_and_then (λ next. run next.0 next.1 ss) (closed (all_waiting rest, value (sunk_of 5 hs e h q).inner)) ≡ Some v
        → Found (held_symbols hs ++ (symbols_of e ++ Close ∷ ss)) v
    closes [] next symbols held is = absurd cc
    closes (Before u ∷ rest) next symbols held is = absurd cc
    closes (Left x b ∷ rest) next symbols held is = absurd cc
    closes (Opened ∷ rest) next symbols held is =
        let inner = (sunk_of 5 hs e h q).inner in
        as_symbols _ _ v (
        ap (λ (ts : List Symbol). held_symbols rest ++ Open ∷ ts) (append_assoc (symbols_of inner) (Close ∷ []) ss)
        ∙ sym (append_assoc (held_symbols rest) (Open ∷ []) (symbols_of inner ++ Close ∷ ss))
        ∙ sym (append_assoc (held_symbols rest ++ Open ∷ []) (symbols_of inner) (Close ∷ ss))
        ∙ ap (λ (ts : List Symbol). ts ++ Close ∷ ss) (sym symbols)
        ∙ append_assoc (held_symbols hs) (symbols_of e) (Close ∷ ss)
        ) (next rest held is)

pub read_so : (ss : List Symbol) (v : Option Value) → evaluated ss ≡ Some v → Found ss v
read_so ss v is = sound ss [] Free v tt tt is

-- The symbols of an expression are read to its value.
use Rattle.std.proofs.Common.{◌≡◌, ℕ, true, false, List, [], ◌∷◌, ◌++◌, Option, Some, refl, sym, ap, ◌∙◌, append_assoc, arith}
use Rattle.std.specs.Prelude.{nat_le, nat_lt}
use Rattle.std.specs.Option.{option_and_then}
use Rattle.std.proofs.lemmas.Bool.Decides.{nat_tests}
use Rattle.std.proofs.lemmas.List.{append-nil}
use Rattle.objasm.specs.Evaluation.{closed, evaluated, ended, is_ready, reduced, released, run}
use Rattle.objasm.specs.Expressions.{Expression, Lone, Group, Applied, Between, IsGrouped, Spells, outer_level, symbols_of, unary_symbol, value}
use Rattle.objasm.specs.Operators.{level}
use Rattle.objasm.specs.declared.evaluation.Place.{Place}
use Rattle.objasm.specs.declared.evaluation.Place.TheVariants.{Expects, Has}
use Rattle.objasm.specs.declared.evaluation.Waiting.{Waiting}
use Rattle.objasm.specs.declared.evaluation.Waiting.TheVariants as waits
use Rattle.objasm.specs.declared.operators.Binary.{Binary}
use Rattle.objasm.specs.declared.operators.Binary.TheVariants.{Times}
use Rattle.objasm.specs.declared.operators.Unary.{Unary}
use Rattle.objasm.specs.declared.operators.Unary.TheVariants.{Keep, Negate, Invert, Deny}
use Rattle.objasm.specs.declared.operators.Value.{Value}
use Rattle.objasm.specs.declared.symbols.Symbol.{Symbol}
use Rattle.objasm.specs.declared.symbols.Symbol.TheVariants.{Number, Operator, Not, LogicalNot, Open, Close}

abbrev State : Type 0
State = List Waiting × Place

-- above this level nothing that is between two values may stand on what waits
abbrev pub room : List Waiting → ℕ
room [] = 6
room (waits.Opened ∷ ws) = 6
room (waits.Before u ∷ ws) = 1
room (waits.Between x b ∷ ws) = level b

-- what may follow an expression of the level
abbrev pub Follows : ℕ → List Symbol → Type 0
Follows k (Operator b ∷ ss) = nat_le k (level b) ≡ true
Follows k _ = Unit {0}

level_some : (b : Binary) → nat_lt 0 (level b) ≡ true
level_some Times = refl
level_some _ = refl

pub level_below : (b : Binary) → nat_lt (level b) 6 ≡ true
level_below Times = refl
level_below _ = refl

level_all : (b : Binary) → nat_le (level b) 5 ≡ true
level_all Times = refl
level_all _ = refl

pub reduced_ready : (k : ℕ) (w : Waiting) (ws : List Waiting) (v : Option Value) → is_ready k w ≡ true → reduced k (w ∷ ws) v ≡ reduced k ws (released w v)
unfolding reduced
reduced_ready k w ws v h = rw h refl

pub reduced_kept : (k : ℕ) (w : Waiting) (ws : List Waiting) (v : Option Value) → is_ready k w ≡ false → reduced k (w ∷ ws) v ≡ (w ∷ ws, v)
unfolding reduced
reduced_kept k w ws v h = rw h refl

-- what waits is applied at the end, at a `)` and at an operator that binds no tighter
releases : (w : Waiting) (ws : List Waiting) (v : Option Value) (rest : List Symbol) → ((b : Binary) (ss : List Symbol) → rest ≡ Operator b ∷ ss → is_ready (level b) w ≡ true) → is_ready 5 w ≡ true
    → run (w ∷ ws) (Has v) rest ≡ run ws (Has (released w v)) rest
unfolding run
releases w ws v [] tight all = ap ended (reduced_ready 5 w ws v all)
releases w ws v (Number n ∷ ss) tight all = refl
releases w ws v (Not ∷ ss) tight all = refl
releases w ws v (LogicalNot ∷ ss) tight all = refl
releases w ws v (Open ∷ ss) tight all = refl
releases w ws v (Close ∷ ss) tight all =
    ap (λ (r : List Waiting × Option Value). option_and_then (λ (n : State). run n.0 n.1 ss) (closed r)) (reduced_ready 5 w ws v all)
releases w ws v (Operator b ∷ ss) tight all =
    ap (λ (r : List Waiting × Option Value). run (waits.Between r.1 b ∷ r.0) Expects ss) (reduced_ready (level b) w ws v (tight b ss refl))

-- what waits stays at an operator that binds tighter
stays : (ws : List Waiting) (v : Option Value) (b : Binary) → nat_lt (level b) (room ws) ≡ true → reduced (level b) ws v ≡ (ws, v)
unfolding reduced
stays [] v b h = refl
stays (waits.Opened ∷ ws) v b h = refl
stays (waits.Before u ∷ ws) v Times h = absurd cc
stays (waits.Before u ∷ ws) v _ h = absurd cc
stays (waits.Between x c ∷ ws) v b h =
    let kept : nat_le (level c) (level b) ≡ false = grind (arith, nat_tests) in
    rw kept refl

opens : (ws : List Waiting) (u : Unary) (ss : List Symbol) → run ws Expects (unary_symbol u ∷ ss) ≡ run (waits.Before u ∷ ws) Expects ss
unfolding run
opens ws Keep ss = refl
opens ws Negate ss = refl
opens ws Invert ss = refl
opens ws Deny ss = refl

pub group_opens : (ws : List Waiting) (ss : List Symbol) → run ws Expects (Open ∷ ss) ≡ run (waits.Opened ∷ ws) Expects ss
unfolding run
group_opens ws ss = refl

group_closes : (ws : List Waiting) (v : Option Value) (ss : List Symbol) → run (waits.Opened ∷ ws) (Has v) (Close ∷ ss) ≡ run ws (Has v) ss
unfolding run reduced
group_closes ws v ss = refl

between_goes : (ws : List Waiting) (v : Option Value) (b : Binary) (ss : List Symbol) → nat_lt (level b) (room ws) ≡ true
    → run ws (Has v) (Operator b ∷ ss) ≡ run (waits.Between v b ∷ ws) Expects ss
unfolding run
between_goes ws v b ss h = ap (λ (r : List Waiting × Option Value). run (waits.Between r.1 b ∷ r.0) Expects ss) (stays ws v b h)

less_follows : (j k : ℕ) (rest : List Symbol) → nat_lt j k ≡ true → Follows k rest → Follows j rest
less_follows j k [] lt f = tt
less_follows j k (Operator b ∷ ss) lt f = grind (arith, nat_tests)
less_follows j k (Number n ∷ ss) lt f = tt
less_follows j k (Not ∷ ss) lt f = tt
less_follows j k (LogicalNot ∷ ss) lt f = tt
less_follows j k (Open ∷ ss) lt f = tt
less_follows j k (Close ∷ ss) lt f = tt

pub some_room : (ws : List Waiting) → nat_lt 0 (room ws) ≡ true
some_room [] = refl
some_room (waits.Opened ∷ ws) = refl
some_room (waits.Before u ∷ ws) = refl
some_room (waits.Between x b ∷ ws) = level_some b

outer_below : (e : Expression) → nat_lt (outer_level e) 6 ≡ true
outer_below (Between b left right) = level_below b
outer_below (Lone n) = refl
outer_below (Group e) = refl
outer_below (Applied u e) = refl

same_operator : (d c : Binary) (ts ss : List Symbol) → ◌≡◌ {A = List Symbol} (Operator c ∷ ss) (Operator d ∷ ts) → c ≡ d
same_operator d c ts ss is = cc

pub reads : (e : Expression) (ws : List Waiting) (rest : List Symbol) → IsGrouped e → nat_lt (outer_level e) (room ws) ≡ true → Follows (outer_level e) rest
    → run ws Expects (symbols_of e ++ rest) ≡ run ws (Has (value e)) rest
unfolding run
reads (Lone n) ws rest g room_for f = refl
reads (Group e) ws rest g room_for f =
    ap (λ (ss : List Symbol). run ws Expects (Open ∷ ss)) (append_assoc (symbols_of e) (Close ∷ []) rest)
    ∙ group_opens ws (symbols_of e ++ Close ∷ rest)
    ∙ reads e (waits.Opened ∷ ws) (Close ∷ rest) g (outer_below e) tt
    ∙ group_closes ws (value e) rest
reads (Applied u e) ws rest g room_for f =
    let low : nat_lt (outer_level e) 1 ≡ true = rw g.0 refl in
    opens ws u (symbols_of e ++ rest)
    ∙ reads e (waits.Before u ∷ ws) rest g.1 low (none_follows rest)
    ∙ releases (waits.Before u) ws (value e) rest (λ b ss is. refl) refl
  where
    none_follows : (rest : List Symbol) → Follows (outer_level e) rest
    none_follows [] = tt
    none_follows (Operator b ∷ ss) = grind (arith, nat_tests, g.0)
    none_follows (Number n ∷ ss) = tt
    none_follows (Not ∷ ss) = tt
    none_follows (LogicalNot ∷ ss) = tt
    none_follows (Open ∷ ss) = tt
    none_follows (Close ∷ ss) = tt
reads (Between b left right) ws rest g room_for f =
    let low : nat_lt (outer_level left) (room ws) ≡ true = grind (arith, nat_tests, g.0, room_for) in
    ap (run ws Expects) (append_assoc (symbols_of left) (Operator b ∷ symbols_of right) rest)
    ∙ reads left ws (Operator b ∷ (symbols_of right ++ rest)) g.2 low g.0
    ∙ between_goes ws (value left) b (symbols_of right ++ rest) room_for
    ∙ reads right (waits.Between (value left) b ∷ ws) rest g.3 g.1 (less_follows (outer_level right) (level b) rest g.1 f)
    ∙ releases (waits.Between (value left) b) ws (value right) rest (tight rest f) (level_all b)
  where
    tight : (rest : List Symbol) → Follows (level b) rest → (c : Binary) (ss : List Symbol) → rest ≡ Operator c ∷ ss → nat_le (level b) (level c) ≡ true
    tight [] f c ss is = absurd cc
    tight (Operator d ∷ ts) f c ss is = ap (λ (n : ℕ). nat_le (level b) n) (ap level (same_operator d c ts ss (sym is))) ∙ f
    tight (Number n ∷ ts) f c ss is = absurd cc
    tight (Not ∷ ts) f c ss is = absurd cc
    tight (LogicalNot ∷ ts) f c ss is = absurd cc
    tight (Open ∷ ts) f c ss is = absurd cc
    tight (Close ∷ ts) f c ss is = absurd cc

-- an expression's symbols are read to its value
pub spelled : (ss : List Symbol) (e : Expression) → Spells ss e → evaluated ss ≡ Some (value e)
unfolding run reduced
spelled ss e s =
    ap (run [] Expects) (sym s.written ∙ sym (append-nil (symbols_of e)))
    ∙ reads e [] [] s.grouped (outer_below e) tt

-- What waits on a stack, and the symbols from an index on.
use Rattle.std.proofs.Common.{◌≡◌, ◌+◌, ◌<◌, ◌≤◌, ℕ, true, false, List, [], ◌∷◌, ◌++◌, length, drop, get_or, reverse, Option, Some, None, refl, sym, ap, ◌∙◌, arith}
use Rattle.std.specs.Prelude.{IsSome, option_to_list}
use Rattle.std.specs.Option.{option_and_then, option_map}
use Rattle.std.proofs.lemmas.List.{drop_all, drop_more, reverse-append}
use Rattle.std.proofs.lemmas.Option.{same_Some}
use Rattle.objasm.specs.Evaluation.{finished, first, is_ready, reduced, released, run, step}
use Rattle.objasm.specs.declared.evaluation.Waiting.{Waiting}
use Rattle.objasm.specs.declared.evaluation.Place.{Place}
use Rattle.objasm.specs.declared.operators.Value.{Value}
use Rattle.objasm.specs.declared.symbols.Symbol.{Symbol}

pub kept : (k : ℕ) (ws : List Waiting) (v : Option Value) (w : Waiting) → first ws ≡ Some w → is_ready k w ≡ false → reduced k ws v ≡ (ws, v)
unfolding reduced
kept k [] v w e h = absurd cc
kept k (x ∷ ws) v w e h =
    let is : is_ready k x ≡ false = ap (is_ready k) (same_Some x w e) ∙ h in
    rw is refl

pub none_waits : (k : ℕ) (ws : List Waiting) (v : Option Value) → first ws ≡ None → reduced k ws v ≡ (ws, v)
unfolding reduced
none_waits k [] v e = refl
none_waits k (x ∷ ws) v e = absurd cc

reduced_more : (k : ℕ) (w : Waiting) (ws : List Waiting) (v : Option Value) → is_ready k w ≡ true → reduced k (w ∷ ws) v ≡ reduced k ws (released w v)
unfolding reduced
reduced_more k w ws v h = rw h refl

some_items : (items : List Waiting) (w : Waiting) → first (reverse items) ≡ Some w → 0 < length items
some_items [] w e = absurd cc
some_items (x ∷ items) w e = omega arith

pub taken : (k : ℕ) (items rest : List Waiting) (r : Option Waiting) (v : Option Value) (w : Waiting) → items ≡ rest ++ option_to_list r → (0 < length items → IsSome r)
    → first (reverse items) ≡ Some w → is_ready k w ≡ true → reduced k (reverse rest) (released w v) ≡ reduced k (reverse items) v
taken k items rest None v w e some is h = absurd (let f : IsSome {T = Waiting} None = some (some_items items w is) in cc)
taken k items rest (Some x) v w e some is h =
    let whole : reverse items ≡ x ∷ reverse rest = ap reverse e ∙ reverse-append rest (x ∷ []) in
    let same : x ≡ w = same_Some x w (sym (ap first whole) ∙ is) in
    sym (ap (λ (ws : List Waiting). reduced k ws v) (whole ∙ ap (λ (y : Waiting). y ∷ reverse rest) same) ∙ reduced_more k w (reverse rest) v h)

run_more : (ws : List Waiting) (p : Place) (ss : List Symbol) (i : ℕ) (d : Symbol) → i < length ss
    → run ws p (drop i ss) ≡ option_and_then (λ next. run next.0 next.1 (drop (i + 1) ss)) (step ws p (get_or ss i d))
unfolding run
run_more ws p ss i d lt = rw (drop_more ss i d lt) refl

pub run_stops : (ws next : List Waiting) (p : Place) (ss : List Symbol) (i : ℕ) (d : Symbol) (r : Option Place) (whole : Option (Option Value)) → i < length ss
    → step ws p (get_or ss i d) ≡ option_map (λ q. (next, q)) r → r ≡ None → run ws p (drop i ss) ≡ whole → None ≡ whole
run_stops ws next p ss i d r whole lt is none before =
    let there = is ∙ ap (option_map (λ (q : Place). (next, q))) none in
    ap (option_and_then (λ (n : List Waiting × Place). run n.0 n.1 (drop (i + 1) ss))) (sym there) ∙ sym (run_more ws p ss i d lt) ∙ before

pub run_goes : (ws next : List Waiting) (p q : Place) (ss : List Symbol) (i : ℕ) (d : Symbol) (r : Option Place) (whole : Option (Option Value)) → i < length ss
    → step ws p (get_or ss i d) ≡ option_map (λ q. (next, q)) r → r ≡ Some q → run ws p (drop i ss) ≡ whole → run next q (drop (i + 1) ss) ≡ whole
run_goes ws next p q ss i d r whole lt is some before =
    let there = is ∙ ap (option_map (λ (q : Place). (next, q))) some in
    ap (option_and_then (λ (n : List Waiting × Place). run n.0 n.1 (drop (i + 1) ss))) (sym there) ∙ sym (run_more ws p ss i d lt) ∙ before

pub run_ends : (ws : List Waiting) (p : Place) (ss : List Symbol) (i : ℕ) (whole : Option (Option Value)) → length ss ≤ i → run ws p (drop i ss) ≡ whole → finished ws p ≡ whole
unfolding run
run_ends ws p ss i whole le before = ap (λ (rest : List Symbol). run ws p rest) (sym (drop_all i ss le)) ∙ before

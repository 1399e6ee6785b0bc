-- Spans put down at the places that they hold.
use Rattle.std.proofs.Common.{◌≡◌, ◌≢◌, ℕ, ◌+◌, ◌<◌, ◌≤◌, Bool, true, false, cond, leb, ltb, ◌&&◌, List, [], ◌∷◌, ◌++◌, ⊎_elim, length, get_or, take, All, Vec, refl, sym, ap, ◌∙◌, subst, arith, append-nil}
use Rattle.std.specs.Global.{Global}
use Rattle.std.specs.List.{filter}
use Rattle.std.proofs.lemmas.Bool.{cases_lt, le-leb, lt-ltb, le-ltb, lt-leb, and_right}
use Rattle.std.proofs.lemmas.List.{take_more, take_all}
use Rattle.numbered_walks.specs.declared.span.Span.{Span}
use Rattle.numbered_walks.specs.Ordered.{is_in}
use Rattle.numbered_walks.specs.Index.{AreHolders, AreHeldTo}

last_here : (h q : ℕ) (i : Span) → h ≤ q → cond {A = List Span} (leb h q && ltb q q) (i ∷ []) [] ++ i ∷ [] ≡ cond {A = List Span} (leb h q && ltb q (q + 1)) (i ∷ []) []
last_here h q i low = rw (le-leb h q low, le-ltb q q (omega arith), lt-ltb q (q + 1) (omega arith)) refl

same_side : (p q : ℕ) → p ≢ q → ltb p q ≡ ltb p (q + 1)
same_side p q other = ⊎_elim
    (λ less. lt-ltb p q less ∙ sym (lt-ltb p (q + 1) (omega arith)))
    (λ more. le-ltb p q more ∙ sym (le-ltb p (q + 1) (omega arith)))
    (cases_lt p q)

nothing_yet : (h p : ℕ) (i : Span) → cond {A = List Span} (leb h p && ltb p h) (i ∷ []) [] ≡ []
nothing_yet h p i = ⊎_elim
    (λ less. rw (lt-leb h p less) refl)
    (λ more. rw (le-ltb p h more, and_right (leb h p) false refl) refl)
    (cases_lt p h)

pub hold_none : (seen : List Span) (i : Span) (held : List (Vec Span Global)) → AreHolders seen held → AreHeldTo seen i i.header held
hold_none seen i held all = λ p d small. all p d small ∙ sym (ap (λ (l : List Span). filter (λ j. is_in j p) seen ++ l) (nothing_yet i.header p i) ∙ append-nil (filter (λ j. is_in j p) seen))

filter_push : (q : Span → Bool) (seen : List Span) (i : Span) → filter q (seen ++ i ∷ []) ≡ filter q seen ++ cond (q i) (i ∷ []) []
filter_push q [] i = refl
filter_push q (x ∷ seen) i = elim (q x) as (λ v. cond v (x ∷ filter q (seen ++ i ∷ [])) (filter q (seen ++ i ∷ [])) ≡ cond v (x ∷ filter q seen) (filter q seen) ++ cond (q i) (i ∷ []) []) [
  | true ↦ ap (λ (l : List Span). x ∷ l) (filter_push q seen i)
  | false ↦ filter_push q seen i
]

same_end : (p n : ℕ) → ltb p (n + 1) ≡ leb p n
same_end p n = ⊎_elim
    (λ less. lt-ltb p (n + 1) less ∙ sym (le-leb p n (omega arith)))
    (λ more. le-ltb p (n + 1) more ∙ sym (lt-leb p n (omega arith)))
    (cases_lt p (n + 1))

pub hold_all : (seen : List Span) (i : Span) (held : List (Vec Span Global)) → AreHeldTo seen i (i.last + 1) held → AreHolders (seen ++ i ∷ []) held
hold_all seen i held all = λ p d small. all p d small
    ∙ ap (λ (b : Bool). filter (λ j. is_in j p) seen ++ cond (leb i.header p && b) (i ∷ []) []) (same_end p i.last)
    ∙ sym (filter_push (λ j. is_in j p) seen i)

pub hold_next : (tree : List Span) (k : ℕ) (d : Span) (held : List (Vec Span Global)) → k < length tree → AreHolders (take k tree ++ get_or tree k d ∷ []) held → AreHolders (take (k + 1) tree) held
hold_next tree k d held inside all = subst (λ (l : List Span). AreHolders l held) (sym (take_more tree k d inside)) all

pub hold_done : (tree : List Span) (k : ℕ) (held : List (Vec Span Global)) → length tree ≤ k → AreHolders (take k tree) held → AreHolders tree held
hold_done tree k held past all = subst (λ (l : List Span). AreHolders l held) (take_all k tree past) all

pub none_held : (held : List (Vec Span Global)) → All (λ v. v.items ≡ []) held → AreHolders [] held
none_held held all = λ p d small. all p d small

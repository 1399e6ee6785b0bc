-- Which spans begin at which numbers.
use Rattle.std.proofs.Common.{◌≡◌, ℕ, ◌+◌, ◌<◌, true, false, List, [], ◌∷◌, ◌++◌, ⊎_elim, length, get_or, set, take, Contains, Option, Some, None, sym, ap, ◌∙◌, subst}
use Rattle.std.proofs.lemmas.Bool.{cases_eq, cases_Bool}
use Rattle.std.proofs.lemmas.List.{get_or-set_same, get_or-set_other, take_more}
use Rattle.std.proofs.lemmas.List.Elements.{Contains-push, Contains-push_cases, Contains-append_left}
use Rattle.std.specs.Option.{is_some}
use Rattle.numbered_walks.specs.declared.span.Span.{Span}
use Rattle.numbered_walks.specs.Index.{AreHeaders}
use Rattle.numbered_walks.specs.Tables.{is_header_in}
use Rattle.numbered_walks.proofs.Passing.{header_found, header_there}

headers_more : (seen : List Span) (s : Span) (headers : List (Option Span)) → s.header < length headers → AreHeaders seen headers → AreHeaders (seen ++ s ∷ []) (set headers s.header (Some s))
headers_more seen s headers inside all =
    let here : get_or (set headers s.header (Some s)) s.header None ≡ Some s = get_or-set_same headers s.header (Some s) None inside in
    record {
      known = λ p t is. ⊎_elim
          (λ same.
          let both : Some s ≡ Some t = sym here ∙ ap (λ (n : ℕ). get_or (set headers s.header (Some s)) n None) (sym same) ∙ is in
          let it : s ≡ t = cc in
          subst (λ (x : Span). Contains (seen ++ s ∷ []) x × (x.header ≡ p)) it (Contains-push seen s, sym same))
          (λ other.
          let before = all.known p t (sym (get_or-set_other headers s.header p (Some s) None other) ∙ is) in
          (Contains-append_left seen (s ∷ []) t before.0, before.1))
          (cases_eq p s.header);
      all = λ t t_in. ⊎_elim
          (λ same. (s, ap (λ (n : ℕ). get_or (set headers s.header (Some s)) n None) same ∙ here))
          (λ other. ⊎_elim
          (λ earlier. let before = all.all t earlier in (before.0, get_or-set_other headers s.header t.header (Some s) None other ∙ before.1))
          (λ is. absurd (other (ap (λ (x : Span). x.header) (sym is))))
          (Contains-push_cases seen s t t_in))
          (cases_eq t.header s.header);
    }

pub headers_next : (spans : List Span) (k : ℕ) (d : Span) (headers : List (Option Span)) → k < length spans → (get_or spans k d).header < length headers → AreHeaders (take k spans) headers → AreHeaders (take (k + 1) spans) (set headers (get_or spans k d).header (Some (get_or spans k d)))
headers_next spans k d headers below inside all =
    subst (λ (l : List Span). AreHeaders l (set headers (get_or spans k d).header (Some (get_or spans k d)))) (sym (take_more spans k d below)) (headers_more (take k spans) (get_or spans k d) headers inside all)

pub header_known : (spans : List Span) (headers : List (Option Span)) → AreHeaders spans headers → (p : ℕ) (s : Span) → get_or headers p None ≡ Some s → is_header_in spans p ≡ true
header_known spans headers all p s is = let known = all.known p s is in header_there spans p s known.0 (sym known.1)

pub header_none : (spans : List Span) (headers : List (Option Span)) → AreHeaders spans headers → (p : ℕ) → get_or headers p None ≡ None → is_header_in spans p ≡ false
header_none spans headers all p is = ⊎_elim
    (λ header.
    let found = header_found spans p header in
    let there = all.all found.0 found.1 in
    let both : Some there.0 ≡ None = sym there.1 ∙ ap (λ (n : ℕ). get_or headers n None) (sym found.2) ∙ is in
    absurd cc)
    (λ plain. plain)
    (cases_Bool (is_header_in spans p))

pub header_is : (spans : List Span) (headers : List (Option Span)) → AreHeaders spans headers → (p : ℕ) (o : Option Span) → get_or headers p None ≡ o → is_some o ≡ is_header_in spans p
header_is spans headers all p None is = sym (header_none spans headers all p is)
header_is spans headers all p (Some s) is = sym (header_known spans headers all p s is)

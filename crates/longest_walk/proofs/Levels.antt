-- How deep the headers of instances lie in one another, and which are found before which.
use Rattle.std.proofs.Common.{◌≡◌, ◌∙◌, ℕ, ◌+◌, ◌<◌, ◌≤◌, true, false, cond, List, ⊎_elim, Option, Some, None, All, Contains, length, get_or, sum_by, sym, ap, subst, arith}
use Rattle.std.proofs.lemmas.Bool.{cases_Bool, cases_lt}
use Rattle.std.proofs.lemmas.List.{get_or_default}
use Rattle.std.proofs.lemmas.List.Elements.{Contains-get_or}
use Rattle.walks.proofs.SumLe.{sum_by-le_contains}
use Rattle.numbered_walks.specs.declared.span.NumberedEdge.{NumberedEdge}
use Rattle.numbered_walks.specs.declared.span.Span.{Span}
use Rattle.numbered_walks.specs.Ordered.{IsOrdered, is_in}
use Rattle.numbered_walks.specs.Index.{span_at}
use Rattle.numbered_walks.proofs.Members.{header_in, member_from, member_header, member_last, no_span}
use Rattle.numbered_walks.proofs.Nesting.{cond_le, same_header}
use Rattle.numbered_walks.specs.Reach.{InTree, holds_in, start_of}
use Rattle.longest_walk.specs.Ways.{depth_at, level_in}

module _ (exit : ℕ) (edges : List NumberedEdge) (spans : List Span) (order : IsOrdered exit edges spans) where
  -- what holds the header of an instance holds that of an instance inside it
  holds_inner : (s t j : Span) → Contains spans s → Contains spans j → is_in s t.header ≡ true → is_in j s.header ≡ true → is_in j t.header ≡ true
  holds_inner s t j s_in j_in inside holds_it =
      ⊎_elim
      (λ all. all t.header inside)
      (λ other.
      let low = member_header s j.header (other j.header (header_in exit edges spans order j j_in)) in
      let high = member_header j s.header holds_it in
      let is : j ≡ s = same_header spans order.headers_differ j s j_in s_in (omega (arith, low, high)) in
      subst (λ (x : Span). is_in x t.header ≡ true) (sym is) inside)
      (order.nested s j s_in j_in s.header (header_in exit edges spans order s s_in) holds_it)

  -- it lies in more instances by one at least, itself
  pub deeper : (s t : Span) → Contains spans s → Contains spans t → is_in s t.header ≡ true → s.header < t.header → depth_at spans s.header + 1 ≤ depth_at spans t.header
  deeper s t s_in t_in inside later =
      let up : All (λ j. cond {A = ℕ} (is_in j s.header) 1 0 ≤ cond {A = ℕ} (is_in j t.header) 1 0) spans =
      λ k d lt. cond_le (is_in (get_or spans k d) s.header) (is_in (get_or spans k d) t.header) (holds_inner s t (get_or spans k d) s_in (Contains-get_or spans k d lt) inside) in
      let outside : is_in t s.header ≡ false = ⊎_elim (λ yes. absurd (omega (arith, member_header t s.header yes))) (λ out. out) (cases_Bool (is_in t s.header)) in
      let here : cond {A = ℕ} (is_in t s.header) 1 0 + 1 ≤ cond {A = ℕ} (is_in t t.header) 1 0 = rw (outside, header_in exit edges spans order t t_in) (omega arith) in
      sum_by-le_contains (λ j. cond (is_in j s.header) 1 0) (λ j. cond (is_in j t.header) 1 0) 1 spans t t_in up here

  pub deep_some : (s : Span) → Contains spans s → 1 ≤ depth_at spans s.header
  deep_some s s_in =
      let here : 0 + 1 ≤ cond {A = ℕ} (is_in s s.header) 1 0 = rw (header_in exit edges spans order s s_in) (omega arith) in
      let more : sum_by (λ (j : Span). 0) spans + 1 ≤ depth_at spans s.header = sum_by-le_contains (λ j. 0) (λ j. cond (is_in j s.header) 1 0) 1 spans s s_in (λ k d lt. omega arith) here in
      omega arith

  -- an instance inside a context is below it
  pub level_below : (context : Option Span) → InTree spans context → (s : Span) → Contains spans s → holds_in context s.header ≡ true → start_of context < s.header → level_in spans context ≤ depth_at spans s.header
  level_below None here s s_in inside later = deep_some s s_in
  level_below (Some t) here s s_in inside later = deeper t s here s_in inside later

  -- the instances inside another come before it
  pub before : (n : ℕ) → n < length spans → (t : Span) → Contains spans t → is_in (span_at spans n) t.header ≡ true → (span_at spans n).header < t.header → (m : ℕ) × (m < n) × (span_at spans m ≡ t)
  before n lt t t_in inside later =
      let s = span_at spans n in
      let s_in : Contains spans s = Contains-get_or spans n no_span lt in
      let m = t_in.0 in
      let at : span_at spans m ≡ t = get_or_default spans m no_span t t_in.1 ∙ t_in.2 in
      let differ : m ≡ n → ⊥ = λ same. let e : t.header ≡ s.header = ap (λ (x : Span). x.header) (sym at ∙ ap (span_at spans) same) in omega arith in
      ⊎_elim
      (λ below. (m, below, at))
      (λ above. absurd (⊎_elim
      (λ more. ⊎_elim
      (λ t_all. let low = member_header t s.header (t_all s.header (header_in exit edges spans order s s_in)) in omega arith)
      (λ s_all. let high = member_last s t.last (s_all t.last (member_from t t.last (order.shape t t_in).0 (omega arith))) in let lasts : (span_at spans m).last ≡ t.last = ap (λ (x : Span). x.last) at in omega arith)
      (order.nested s t s_in t_in t.header inside (header_in exit edges spans order t t_in)))
      (λ same. let headers : (span_at spans m).header ≡ t.header = ap (λ (x : Span). x.header) at in omega (arith, same.1))
      (order.closing n m no_span (omega (arith, differ)) t_in.1)))
      (cases_lt m n)

-- What the row of a line tells, by the word of which it tells.
use Rattle.std.proofs.Common.{◌≡◌, ◌∙◌, ℕ, ◌<◌, Bool, true, false, List, Contains, Option, Some, None, refl, sym, ap, subst, arith}
use Rattle.std.specs.Prelude.{find, if◌then◌else◌, is_some, nat_lt, option_map, unwrap_or}
use Rattle.std.specs.List.{list_any}
use Rattle.std.specs.Option.{option_or}
use Rattle.walks.proofs.RowLemmas.{find_some}
use Rattle.longest_walk.proofs.CarryFind.{find_known}
use Rattle.assembler.specs.declared.placed_line.PlacedLine.{PlacedLine}
use Rattle.text_explained.specs.Table.{costs_of, done_of, is_any_reached, is_passed, line_taken, passes_of, prices_of, taken_on, ticks_in, told_at, told_word, words_of}
use Rattle.text_explained.specs.declared.walk_tally.Taken.{Taken}
use Rattle.text_explained.proofs.TableLaws.{some_found}

-- what passes has a place
passed_some : (t : Option Taken) → nat_lt 0 (passes_of t) ≡ true → is_some t ≡ true
passed_some None is = is
passed_some (Some t) is = refl

known : (t : Option Taken) → is_some t ≡ true → (x : Taken) × (t ≡ Some x)
known None is = absurd (let e : false ≡ true = is in cc)
known (Some x) is = (x, refl)

module _ (taken : ℕ → Option Taken) (line : PlacedLine) where
  abbrev reached : ℕ → Bool
  reached a = is_some (taken a)

  -- a word of the line at which a place is
  record IsReached (a : ℕ) : Type 0 where
    here : is_some (taken a) ≡ true
    any : is_any_reached taken line.at line.words ≡ true

  any_by : (a : ℕ) → Contains (words_of line) a → is_some (taken a) ≡ true → IsReached a
  any_by a has here =
      let f = find_known reached (words_of line) a has here in
      record { here = here; any = sym (some_found reached (words_of line)) ∙ ap is_some f.1 }

  by_passed : (p : Option ℕ) → find (is_passed taken) (words_of line) ≡ p → (a : ℕ) → option_or p (find reached (words_of line)) ≡ Some a → IsReached a
  by_passed None none a is =
      let f = find_some reached (words_of line) a is in
      any_by a f.0 f.1
  by_passed (Some x) found a is =
      let same : x ≡ a = cc in
      let f = find_some (is_passed taken) (words_of line) x found in
      subst IsReached same (any_by x f.0 (passed_some (taken x) f.1))

  told : (a : ℕ) → told_word taken line ≡ Some a → IsReached a
  told a is = by_passed (find (is_passed taken) (words_of line)) refl a is

  abbrev of_word : Option Taken → Taken
  of_word t = record { passes = passes_of t; done = done_of t; ticks = ticks_in taken line.at line.words; costs = costs_of t; prices = prices_of t }

  pub told_some : (a : ℕ) → told_word taken line ≡ Some a → taken_on taken line a ≡ line_taken taken line
  told_some a is =
      let w = told a is in
      let k = known (taken a) w.here in
      let at : told_at taken line ≡ a = ap (λ o. unwrap_or o line.at) is in
      let left : taken_on taken line a ≡ Some (of_word (Some k.0)) = ap (λ o. option_map (λ (t : Taken). record t { ticks = ticks_in taken line.at line.words }) o) k.1 in
      let right : line_taken taken line ≡ Some (of_word (taken (told_at taken line))) = ap (λ b. if b then Some (of_word (taken (told_at taken line))) else None) w.any in
      left ∙ sym (right ∙ ap (λ x. Some (of_word (taken x))) at ∙ ap (λ t. Some (of_word t)) k.1)

  none_reached : (p : Option ℕ) → option_or p (find reached (words_of line)) ≡ None → find reached (words_of line) ≡ None
  none_reached None is = is
  none_reached (Some x) is = absurd (let e : Some x ≡ None = is in cc)

  pub told_none : told_word taken line ≡ None → None ≡ line_taken taken line
  told_none is =
      let none = none_reached (find (is_passed taken) (words_of line)) is in
      let any : is_any_reached taken line.at line.words ≡ false = sym (some_found reached (words_of line)) ∙ ap is_some none in
      sym (ap (λ b. if b then Some (of_word (taken (told_at taken line))) else None) any)

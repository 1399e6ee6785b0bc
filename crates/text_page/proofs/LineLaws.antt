-- The lines of a page, put one after another.
use Rattle.std.proofs.Common.{◌≡◌, ◌∙◌, ℕ, ◌+◌, ◌-◌, ◌<◌, ◌≤◌, suc, List, [], ◌∷◌, ◌++◌, Option, append-nil, append_assoc, drop, get_or, length, replicate, take, sym, ap, arith}
use Rattle.std.proofs.Math.ListN.{drop_of_length-le}
use Rattle.std.proofs.lemmas.List.{drop_more, length-drop, take_all}
use Rattle.text_explained.specs.declared.table_rows.TableRow.{TableRow}
use Rattle.text_page.specs.Folds.{Parts, begun, borders, in_loop, in_routine, kept, kept_count, lines_from, loop_at, opened, routine_at}
use Rattle.text_page.specs.declared.folds.Fold.{Fold}
use Rattle.text_page.specs.declared.page_lines.PageLine.{PageLine}
use Rattle.text_page.specs.declared.page_lines.PageLine.TheVariants.{Row, Ended}

-- an end more
pub ends_more : (lines whole new : List PageLine) (count i : ℕ) → i < count → lines ++ replicate (count - i) Ended ≡ whole → new ≡ lines ++ Ended ∷ [] → new ++ replicate (count - (i + 1)) Ended ≡ whole
ends_more lines whole new count i lt is new_is =
    let left : count - i ≡ suc (count - (i + 1)) = omega (arith, lt) in
    ap (λ xs. xs ++ replicate (count - (i + 1)) Ended) new_is ∙ append_assoc lines (Ended ∷ []) (replicate (count - (i + 1)) Ended)
    ∙ ap (λ n. lines ++ replicate n Ended) (sym left) ∙ is

pub ends_all : (lines whole : List PageLine) (count i : ℕ) → count ≤ i → lines ++ replicate (count - i) Ended ≡ whole → lines ≡ whole
ends_all lines whole count i le is =
    let none : count - i ≡ 0 = omega (arith, le) in
    sym (append-nil lines) ∙ ap (λ n. lines ++ replicate n Ended) (sym none) ∙ is

module _ (parts : Parts) (at count : ℕ) (nest nest1 nest2 : List Fold) (r p : Option Fold) (count_is : count ≡ kept_count parts at nest) (nest1_is : nest1 ≡ take count nest) (r_is : r ≡ routine_at parts at)
    (nest2_is : nest2 ≡ opened nest1 r) (p_is : p ≡ loop_at parts at) where
  kept_is : nest1 ≡ kept parts at nest
  kept_is = nest1_is ∙ ap (λ n. take n nest) count_is

  routine_is : nest2 ≡ in_routine parts at nest
  routine_is = nest2_is ∙ (λ i. opened (kept_is i) (r_is i))

  pub loop_is : (nest3 : List Fold) → nest3 ≡ opened nest2 p → nest3 ≡ in_loop parts at nest
  loop_is nest3 is = is ∙ (λ i. opened (routine_is i) (p_is i))

  pub borders_put : (rows : List TableRow) (old a b new : List PageLine) → a ≡ old ++ replicate (length nest - count) Ended → b ≡ a ++ begun parts nest1 r rows → new ≡ b ++ begun parts nest2 p rows
      → new ≡ old ++ borders parts at nest rows
  borders_put rows old a b new a_is b_is new_is =
      let ends = replicate (length nest - count) Ended in
      let first = begun parts nest1 r rows in
      let second = begun parts nest2 p rows in
      new_is ∙ ap (λ xs. xs ++ second) (b_is ∙ ap (λ xs. xs ++ first) a_is) ∙ append_assoc (old ++ ends) first second ∙ append_assoc old ends (first ++ second)
      ∙ (λ i. old ++ (replicate (length nest - count_is i) Ended ++ (begun parts (kept_is i) (r_is i) rows ++ begun parts (routine_is i) (p_is i) rows)))

module _ (parts : Parts) (rows : List TableRow) where
  -- a row more
  pub lines_more : (i : ℕ) (d : TableRow) (nest after : List Fold) (lines a new whole : List PageLine) → i < length rows → lines ++ lines_from parts nest (drop i rows) ≡ whole
      → a ≡ lines ++ borders parts (get_or rows i d).at nest (take (length rows - i) (drop i rows)) → after ≡ in_loop parts (get_or rows i d).at nest → new ≡ a ++ Row (get_or rows i d) ∷ []
      → new ++ lines_from parts after (drop (i + 1) rows) ≡ whole
  lines_more i d nest after lines a new whole lt is a_is after_is new_is =
      let r = get_or rows i d in
      let rest = drop (i + 1) rows in
      let here : drop i rows ≡ r ∷ rest = drop_more rows i d lt in
      let all : take (length rows - i) (drop i rows) ≡ r ∷ rest = take_all (length rows - i) (drop i rows) (omega (arith, length-drop i rows)) ∙ here in
      let sides = borders parts r.at nest (r ∷ rest) in
      let others = lines_from parts (in_loop parts r.at nest) rest in
      (λ k. (new_is ∙ ap (λ xs. xs ++ Row r ∷ []) (a_is ∙ ap (λ rs. lines ++ borders parts r.at nest rs) all)) k ++ lines_from parts (after_is k) rest)
      ∙ append_assoc (lines ++ sides) (Row r ∷ []) others ∙ append_assoc lines sides (Row r ∷ others) ∙ ap (λ rs. lines ++ lines_from parts nest rs) (sym here) ∙ is

  pub lines_all : (i : ℕ) (nest : List Fold) (lines new whole : List PageLine) → length rows ≤ i → lines ++ lines_from parts nest (drop i rows) ≡ whole → new ≡ lines ++ replicate (length nest) Ended → new ≡ whole
  lines_all i nest lines new whole le is new_is = new_is ∙ ap (λ rs. lines ++ lines_from parts nest rs) (sym (drop_of_length-le rows le)) ∙ is

-- The ticks of a stretch are those of the rows that are shown inside of it.
use Rattle.std.proofs.Common.{◌≡◌, ◌∙◌, ℕ, ◌+◌, ◌-◌, ◌<◌, ◌≤◌, zero, suc, Bool, true, false, List, [], ◌∷◌, ◌++◌, Option, Some, None, append-nil, append_assoc, length, replicate, take, refl, sym, ap, subst, length-append, length-take-le, arith}
use Rattle.std.specs.List.{list_all, prefix_len}
use Rattle.std.proofs.lemmas.List.Sums.{prefix_len-le-length}
use Rattle.text_explained.specs.declared.table_rows.TableRow.{TableRow}
use Rattle.text_page.specs.Folds.{Parts, begun, fits, folded, holds, in_loop, in_routine, kept, kept_count, lines_from, loop_at, opened, routine_at, rows_inside, rows_ticks}
use Rattle.text_page.specs.declared.folds.Fold.{Fold}
use Rattle.text_page.specs.declared.page_lines.PageLine.{PageLine}
use Rattle.text_page.specs.declared.page_lines.PageLine.TheVariants.{Begun, Row, Ended}

module _ {X : Type 0} (p : X → Bool) where
  all_step : (front back : List X) (x : X) (b : Bool) → p x ≡ b → (list_all p front ≡ true → prefix_len p (front ++ back) ≡ length front + prefix_len p back)
      → list_all p (x ∷ front) ≡ true → prefix_len p (x ∷ front ++ back) ≡ length (x ∷ front) + prefix_len p back
  all_step front back x true e more all = let rest = more (rw e at all) in let n : 1 + prefix_len p (front ++ back) ≡ suc (length front) + prefix_len p back = omega (arith, rest) in rw e n
  all_step front back x false e more all = let no : false ≡ true = rw e at all in absurd cc

  -- of items that all pass the test, and others
  all_pass : (front back : List X) → list_all p front ≡ true → prefix_len p (front ++ back) ≡ length front + prefix_len p back
  all_pass [] back all = omega arith
  all_pass (x ∷ front) back all = all_step front back x (p x) refl (all_pass front back) all

  one_step : (front back : List X) (x : X) (b : Bool) → p x ≡ b → (list_all p front ≡ false → prefix_len p (front ++ back) < length front)
      → list_all p (x ∷ front) ≡ false → prefix_len p (x ∷ front ++ back) < length (x ∷ front)
  one_step front back x true e more none = let rest = more (rw e at none) in let n : 1 + prefix_len p (front ++ back) < suc (length front) = omega (arith, rest) in rw e n
  one_step front back x false e more none = let n : 0 < suc (length front) = omega arith in rw e n

  -- of items of which one does not pass it
  one_fails : (front back : List X) → list_all p front ≡ false → prefix_len p (front ++ back) < length front
  one_fails [] back none = let no : true ≡ false = none in absurd cc
  one_fails (x ∷ front) back none = one_step front back x (p x) refl (one_fails front back) none

  -- the items up to the first that does not pass
  abbrev until : List X → List X
  until xs = take (prefix_len p xs) xs

  until_more : (x : X) (xs : List X) → p x ≡ true → until (x ∷ xs) ≡ x ∷ until xs
  until_more x xs e = let n : 1 + prefix_len p xs ≡ suc (prefix_len p xs) = omega arith in rw (e, n) refl

  until_none : (x : X) (xs : List X) → p x ≡ false → until (x ∷ xs) ≡ []
  until_none x xs e = rw e refl

take_front : {X : Type 0} (front back : List X) (n : ℕ) → take (length front + n) (front ++ back) ≡ front ++ take n back
take_front [] back n = let is : 0 + n ≡ n = omega arith in rw is refl
take_front (x ∷ front) back n = let is : suc (length front) + n ≡ suc (length front + n) = omega arith in rw is (ap (λ xs. x ∷ xs) (take_front front back n))

-- ## Ends

-- so many ends are more than are open
ends_past : (more n : ℕ) (lines : List PageLine) → more < n → rows_inside more (replicate n Ended ++ lines) ≡ []
ends_past more zero lines lt = absurd (omega (arith, lt))
ends_past zero (suc n) lines lt = refl
ends_past (suc more) (suc n) lines lt = ends_past more n lines (omega (arith, lt))

ends_in : (more n : ℕ) (lines : List PageLine) → rows_inside (n + more) (replicate n Ended ++ lines) ≡ rows_inside more lines
ends_in more zero lines = let is : 0 + more ≡ more = omega arith in rw is refl
ends_in more (suc n) lines = let is : suc n + more ≡ suc (n + more) = omega arith in rw is (ends_in more n lines)

ends_alone : (more n : ℕ) → rows_inside more (replicate n Ended) ≡ []
ends_alone more zero = refl
ends_alone zero (suc n) = refl
ends_alone (suc more) (suc n) = ends_alone more n

-- ## What lines say

-- each beginning has the ticks of the rows inside
abbrev AreRight : List PageLine → Type 0
AreRight [] = Unit {0}
AreRight (Begun f ticks ∷ lines) = (ticks ≡ rows_ticks (rows_inside 0 lines)) × AreRight lines
AreRight (Row r ∷ lines) = AreRight lines
AreRight (Ended ∷ lines) = AreRight lines

right_ends : (n : ℕ) (lines : List PageLine) → AreRight lines → AreRight (replicate n Ended ++ lines)
right_ends zero lines right = right
right_ends (suc n) lines right = right_ends n lines right

ends_right : (n : ℕ) → AreRight (replicate n Ended)
ends_right zero = tt
ends_right (suc n) = ends_right n

right_at : (before behind : List PageLine) (f : Fold) (ticks : ℕ) → AreRight (before ++ Begun f ticks ∷ behind) → ticks ≡ rows_ticks (rows_inside 0 behind)
right_at [] behind f ticks right = right.0
right_at (Begun g n ∷ before) behind f ticks right = right_at before behind f ticks right.1
right_at (Row r ∷ before) behind f ticks right = right_at before behind f ticks right
right_at (Ended ∷ before) behind f ticks right = right_at before behind f ticks right

module _ (parts : Parts) where
  -- what begins before rows: the stretches that it opens, and how the lines go on
  record Opens (nest : List Fold) (f : Option Fold) : Type 0 where
    pub new : List Fold
    pub opened_is : opened nest f ≡ nest ++ new
    pub inside : (more : ℕ) (rows : List TableRow) (lines : List PageLine) → rows_inside more (begun parts nest f rows ++ lines) ≡ rows_inside (length new + more) lines
    pub right : (rows : List TableRow) (lines : List PageLine) → AreRight lines → rows_inside 0 lines ≡ folded parts (nest ++ new) rows → AreRight (begun parts nest f rows ++ lines)

  opens_fit : (nest : List Fold) (f : Fold) (b : Bool) → fits f nest ≡ b → Opens nest (Some f)
  opens_fit nest f true e = record {
    new = f ∷ [];
    opened_is = rw e refl;
    inside = λ more rows lines. let is : 1 + more ≡ suc more = omega arith in rw (e, is) refl;
    right = λ rows lines right inside. rw e (ap rows_ticks (sym inside), right);
  }
  opens_fit nest f false e = record {
    new = [];
    opened_is = rw e (sym (append-nil nest));
    inside = λ more rows lines. let is : 0 + more ≡ more = omega arith in rw (e, is) refl;
    right = λ rows lines right inside. rw e right;
  }

  opens : (nest : List Fold) (f : Option Fold) → Opens nest f
  opens nest None = record {
    new = [];
    opened_is = sym (append-nil nest);
    inside = λ more rows lines. let is : 0 + more ≡ more = omega arith in rw is refl;
    right = λ rows lines right inside. right;
  }
  opens nest (Some f) = opens_fit nest f (fits f nest) refl

  -- the test of a row, whether all stretches hold it
  abbrev held_by : List Fold → TableRow → Bool
  held_by nest r = list_all (holds parts r.at) nest

  module _ (r : TableRow) (rows : List TableRow) where
    abbrev at : ℕ
    at = r.at

    -- what begins at the row, where some are open
    abbrev first : (nest : List Fold) → Opens (kept parts at nest) (routine_at parts at)
    first nest = opens (kept parts at nest) (routine_at parts at)

    abbrev second : (nest : List Fold) → Opens (in_routine parts at nest) (loop_at parts at)
    second nest = opens (in_routine parts at nest) (loop_at parts at)

    abbrev behind : List Fold → List PageLine
    behind nest = Row r ∷ lines_from parts (in_loop parts at nest) rows

    -- the lines, one part behind another
    parted : (nest : List Fold) → lines_from parts nest (r ∷ rows) ≡ replicate (length nest - kept_count parts at nest) Ended
        ++ (begun parts (kept parts at nest) (routine_at parts at) (r ∷ rows) ++ (begun parts (in_routine parts at nest) (loop_at parts at) (r ∷ rows) ++ behind nest))
    parted nest =
        let ends = replicate (length nest - kept_count parts at nest) Ended in
        let one = begun parts (kept parts at nest) (routine_at parts at) (r ∷ rows) in
        let other = begun parts (in_routine parts at nest) (loop_at parts at) (r ∷ rows) in
        append_assoc ends (one ++ other) (behind nest) ∙ ap (λ ls. ends ++ ls) (append_assoc one other (behind nest))

    -- those that are then open
    all_open : (nest : List Fold) → in_loop parts at nest ≡ kept parts at nest ++ ((first nest).new ++ (second nest).new)
    all_open nest =
        (second nest).opened_is ∙ ap (λ xs. xs ++ (second nest).new) (first nest).opened_is ∙ append_assoc (kept parts at nest) (first nest).new (second nest).new

    -- those of the rows behind
    abbrev Later : Type 0
    Later = (front back : List Fold) → rows_inside (length back) (lines_from parts (front ++ back) rows) ≡ until (held_by front) rows

    module _ (later : Later) (front back : List Fold) where
      abbrev nest : List Fold
      nest = front ++ back

      abbrev left : ℕ
      left = kept_count parts at back

      -- those that hold the row, in front of others that do or do not
      inside_more : held_by front r ≡ true → rows_inside (length back) (lines_from parts nest (r ∷ rows)) ≡ until (held_by front) (r ∷ rows)
      inside_more all =
          let count : kept_count parts at nest ≡ length front + left = all_pass (holds parts at) front back all in
          let within : left ≤ length back = prefix_len-le-length (holds parts at) back in
          let gone = length nest - kept_count parts at nest in
          let lengths : length nest ≡ length front + length back = length-append front back in
          let open_is : length back ≡ gone + left = omega (arith, count, within, lengths) in
          let kept_is : kept parts at nest ≡ front ++ take left back = ap (λ m. take m nest) count ∙ take_front front back left in
          let new = (first nest).new ++ (second nest).new in
          let more = take left back ++ new in
          let now_is : in_loop parts at nest ≡ front ++ more = all_open nest ∙ ap (λ xs. xs ++ new) kept_is ∙ append_assoc front (take left back) new in
          let more_is : length (second nest).new + (length (first nest).new + left) ≡ length more =
          omega (arith, length-append (take left back) new, length-append (first nest).new (second nest).new, length-take-le left back within) in
          let one = begun parts (kept parts at nest) (routine_at parts at) (r ∷ rows) in
          let other = begun parts (in_routine parts at nest) (loop_at parts at) (r ∷ rows) in
          ap (rows_inside (length back)) (parted nest) ∙ ap (λ n. rows_inside n (replicate gone Ended ++ (one ++ (other ++ behind nest)))) open_is
          ∙ ends_in left gone (one ++ (other ++ behind nest)) ∙ (first nest).inside left (r ∷ rows) (other ++ behind nest)
          ∙ (second nest).inside (length (first nest).new + left) (r ∷ rows) (behind nest)
          ∙ (λ i. r ∷ rows_inside (more_is i) (lines_from parts (now_is i) rows)) ∙ ap (λ rs. r ∷ rs) (later front more) ∙ sym (until_more (held_by front) r rows all)

      -- where one does not hold the row, the others end there
      inside_none : held_by front r ≡ false → rows_inside (length back) (lines_from parts nest (r ∷ rows)) ≡ until (held_by front) (r ∷ rows)
      inside_none none =
          let count : kept_count parts at nest < length front = one_fails (holds parts at) front back none in
          let lengths : length nest ≡ length front + length back = length-append front back in
          ap (rows_inside (length back)) (parted nest) ∙ ends_past (length back) (length nest - kept_count parts at nest) _ (omega (arith, count, lengths)) ∙ sym (until_none (held_by front) r rows none)

      inside_row : (b : Bool) → held_by front r ≡ b → rows_inside (length back) (lines_from parts nest (r ∷ rows)) ≡ until (held_by front) (r ∷ rows)
      inside_row true all = inside_more all
      inside_row false none = inside_none none

  -- the rows up to the end of the innermost of some stretches that are open, with others open inside of it
  inside_of : (rows : List TableRow) (front back : List Fold) → rows_inside (length back) (lines_from parts (front ++ back) rows) ≡ until (held_by front) rows
  inside_of [] front back = ends_alone (length back) (length (front ++ back))
  inside_of (r ∷ rows) front back = inside_row r rows (inside_of rows) front back (held_by front r) refl

  right_row : (r : TableRow) (rows : List TableRow) (nest : List Fold) → AreRight (lines_from parts (in_loop parts r.at nest) rows) → AreRight (lines_from parts nest (r ∷ rows))
  right_row r rows nest right =
      let at = r.at in
      let gone = length nest - kept_count parts at nest in
      let other = begun parts (in_routine parts at nest) (loop_at parts at) (r ∷ rows) in
      let one_new = (first r rows nest).new in
      let two_new = (second r rows nest).new in
      let routines : List Fold = kept parts at nest ++ one_new in
      let loops : List Fold = in_routine parts at nest ++ two_new in
      let in_second : rows_inside 0 (behind r rows nest) ≡ folded parts loops (r ∷ rows) =
      ap (λ (ns : List Fold). r ∷ rows_inside 0 (lines_from parts ns rows)) ((second r rows nest).opened_is ∙ sym (append-nil loops)) ∙ ap (λ rs. r ∷ rs) (inside_of rows loops []) in
      let plus : length two_new + 0 ≡ length two_new = omega arith in
      let in_first : rows_inside 0 (other ++ behind r rows nest) ≡ folded parts routines (r ∷ rows) =
      (second r rows nest).inside 0 (r ∷ rows) (behind r rows nest)
      ∙ (λ i. r ∷ rows_inside (plus i) (lines_from parts (((second r rows nest).opened_is ∙ ap (λ xs. xs ++ two_new) (first r rows nest).opened_is) i) rows))
      ∙ ap (λ rs. r ∷ rs) (inside_of rows routines two_new) in
      let rights = (first r rows nest).right (r ∷ rows) (other ++ behind r rows nest) ((second r rows nest).right (r ∷ rows) (behind r rows nest) right in_second) in_first in
      subst AreRight (sym (parted r rows nest)) (right_ends gone _ rights)

  lines_right : (rows : List TableRow) (nest : List Fold) → AreRight (lines_from parts nest rows)
  lines_right [] nest = ends_right (length nest)
  lines_right (r ∷ rows) nest = right_row r rows nest (lines_right rows (in_loop parts r.at nest))

  pub fold_ticks_are : (rows : List TableRow) (before behind : List PageLine) (f : Fold) (ticks : ℕ) → lines_from parts [] rows ≡ before ++ Begun f ticks ∷ behind → ticks ≡ rows_ticks (rows_inside 0 behind)
  fold_ticks_are rows before behind f ticks is = right_at before behind f ticks (subst AreRight is (lines_right rows []))

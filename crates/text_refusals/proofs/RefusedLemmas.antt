-- Rows one after another.
use Rattle.std.proofs.Common.{◌≡◌, ◌<◌, ◌-◌, ◌+◌, ◌++◌, zero, suc, ℕ, Bool, List, [], ◌∷◌, length, get_or, drop, map, refl, sym, ap, ◌∙◌, append_assoc, append-nil, arith}
use Rattle.std.proofs.lemmas.List.{drop_more}
use Rattle.statement.specs.declared.spots.Spot.{Spot}
use Rattle.text_refusals.specs.Courses.{after}
use Rattle.text_refusals.specs.Outline.{Item, item_of}
use Rattle.text_refusals.specs.Refused.{Adds, Row, item_rows, row_text, rows, shown}
use Rattle.text_refusals.specs.declared.course.Course.{Course}
use Rattle.text_refusals.specs.declared.outline.OutlineItem.{OutlineItem as CodeItem}
use Rattle.text_refusals.specs.declared.report.Report.{Report}

shown_more : (n : ℕ) (row : Row) (more : List Row) → shown (suc n) (row ∷ more) ≡ row_text row ++ shown n more
unfolding shown
shown_more n row more = refl

pub no_room : (rows : List Row) → shown 0 rows ≡ []
unfolding shown
no_room rows = refl

pub no_rows : (left : ℕ) → shown left [] ≡ []
unfolding shown
no_rows zero = refl
no_rows (suc n) = refl

pub put_one : (old new : List ℕ) (left : ℕ) (row : Row) (more : List Row) → 0 < left → new ≡ old ++ row_text row
    → new ++ shown (left - 1) more ≡ old ++ shown left (row ∷ more)
put_one old new left row more some is =
    let n : left ≡ suc (left - 1) = omega (arith, some) in
    ap (λ t. t ++ shown (left - 1) more) is
    ∙ (append_assoc old (row_text row) (shown (left - 1) more)
    ∙ ap (λ t. old ++ t) (sym (shown_more (left - 1) row more) ∙ ap (λ m. shown m (row ∷ more)) (sym n)))

pub adds_none : (r : Report) → Adds [] r r
adds_none r = record { same = λ more. refl }

pub adds_both : (xs ys : List Row) (a b c : Report) → Adds xs a b → Adds ys b c → Adds (xs ++ ys) a c
adds_both xs ys a b c first then_rest = record {
  same = λ more.
      then_rest.same more
      ∙ (first.same (ys ++ more)
      ∙ ap (λ rows. a.text.items ++ shown a.left rows) (sym (append_assoc xs ys more)));
}

pub all_added : (rows : List Row) (a b : Report) → Adds rows a b → b.text.items ≡ a.text.items ++ shown a.left rows
all_added rows a b adds =
    sym (append-nil b.text.items) ∙ (ap (λ t. b.text.items ++ t) (sym (no_rows b.left))
    ∙ (adds.same [] ∙ ap (λ r. a.text.items ++ shown a.left r) (append-nil rows)))

pub full : (old : List ℕ) (left : ℕ) (xs ys : List Row) → left ≡ 0 → old ++ shown left xs ≡ old ++ shown left ys
full old left xs ys is = ap (λ t. old ++ t) (ap (λ n. shown n xs) is ∙ (no_room xs ∙ (sym (no_room ys) ∙ ap (λ n. shown n ys) (sym is))))

-- rows are added that come first
pub adds_first : (rows rest whole : List Row) (a b : Report) → Adds rows a b → whole ≡ rows ++ rest → (more : List Row) → b.text.items ++ shown b.left (rest ++ more) ≡ a.text.items ++ shown a.left (whole ++ more)
adds_first rows rest whole a b adds is more = adds.same (rest ++ more) ∙ ap (λ r. a.text.items ++ shown a.left r) (sym (append_assoc rows rest more) ∙ ap (λ w. w ++ more) (sym is))

pub one_row : (has : Spot → Bool) (c : Course) (i : Item) (items : List Item) → rows has c (i ∷ items) ≡ item_rows has c i items ++ rows has (after c i) items
unfolding rows
one_row has c i items = refl

-- the rows of the item at an index, and of those that follow
pub rows_more : (has : Spot → Bool) (c : Course) (items : List CodeItem) (k : ℕ) (d : CodeItem) → k < length items
    → rows has c (map item_of (drop k items)) ≡ item_rows has c (item_of (get_or items k d)) (map item_of (drop (k + 1) items)) ++ rows has (after c (item_of (get_or items k d))) (map item_of (drop (k + 1) items))
rows_more has c items k d inside =
    ap (λ (es : List CodeItem). rows has c (map item_of es)) (drop_more items k d inside)
    ∙ one_row has c (item_of (get_or items k d)) (map item_of (drop (k + 1) items))

pub no_items : (has : Spot → Bool) (c : Course) → rows has c [] ≡ []
unfolding rows
no_items has c = refl

-- Tables and values past a limit, which is counted down.
use Rattle.std.proofs.Common.{◌≡◌, ◌<◌, ◌-◌, ◌+◌, zero, suc, not, true, false, ℕ, Bool, List, ◌∷◌, length, get_or, drop, map, if◌then◌else◌, sym, ap, ◌∙◌, arith}
use Rattle.std.specs.Str.{bytes_eq}
use Rattle.std.proofs.lemmas.Bool.{not-false}
use Rattle.std.proofs.lemmas.List.{drop_more}
use Rattle.text_refusals.specs.Outline.{Begins, Item, KeyValue, States, Table, item_of}
use Rattle.text_refusals.specs.Courses.{is_at_key}
use Rattle.text_refusals.specs.Refused.{first_after, is_stretch_item, stated_at, stretches_in, tables_in}
use Rattle.text_refusals.specs.declared.outline.OutlineItem.{OutlineItem as CodeItem}

-- the first after one fewer of the rest
first_after_more : {A : Type 0} (n : ℕ) (x : A) (xs : List A) → 0 < n → first_after n (x ∷ xs) ≡ first_after (n - 1) xs
first_after_more zero x xs some = absurd (omega (arith, some))
first_after_more (suc n) x xs some = ap (λ k. first_after k xs) (omega arith)

-- where the front item is listed, one fewer is wanted of the rest
pub counted : {A : Type 0} (listed : List Item → List A) (items : List CodeItem) (k n : ℕ) (d e : CodeItem) (x : A) → k < length items → get_or items k d ≡ e → ((items : List Item) → listed (item_of e ∷ items) ≡ x ∷ listed items) → 0 < n
    → first_after (n - 1) (listed (map item_of (drop (k + 1) items))) ≡ first_after n (listed (map item_of (drop k items)))
counted listed items k n d e x inside is one some =
    let rest = map item_of (drop (k + 1) items) in
    let here : listed (map item_of (drop k items)) ≡ x ∷ listed rest =
    ap (λ (es : List CodeItem). listed (map item_of es)) (drop_more items k d inside) ∙ (ap (λ (f : CodeItem). listed (item_of f ∷ rest)) is ∙ one rest) in
    sym (ap (first_after n) here ∙ first_after_more n x (listed rest) some)

-- what the front item lists, where it is one of those that are counted
pub listed_table : (list : List ℕ) (t : Table) (items : List Item) → false ≡ not (bytes_eq t.name list) → tables_in list (Begins t ∷ items) ≡ t ∷ tables_in list items
unfolding tables_in
listed_table list t items same = ap (λ (b : Bool). if b then t ∷ tables_in list items else tables_in list items) (not-false (bytes_eq t.name list) (sym same))

pub listed_value : (depth : ℕ) (key : List ℕ) (p : KeyValue) (items : List Item) → is_at_key depth key p ≡ true → stated_at depth key (States p ∷ items) ≡ p ∷ stated_at depth key items
unfolding stated_at
listed_value depth key p items same = ap (λ (b : Bool). if b then p ∷ stated_at depth key items else stated_at depth key items) same

pub listed_stretch : (i : Item) (items : List Item) → is_stretch_item i ≡ true → stretches_in (i ∷ items) ≡ i ∷ stretches_in items
unfolding stretches_in
listed_stretch i items is = ap (λ (b : Bool). if b then i ∷ stretches_in items else stretches_in items) is

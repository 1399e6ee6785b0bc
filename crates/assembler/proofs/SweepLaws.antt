-- NamedAddresses as a function, segments as pairs, and one value more.
use Rattle.std.proofs.Common.{◌≡◌, ◌∙◌, ℕ, ◌+◌, ◌<◌, ◌≤◌, Result, Ok, sym, ◌&&◌, ◌||◌, Bool, List, [], ◌∷◌, Some, cond, map, refl, ap, get_or, drop, length}
use Rattle.std.specs.Prelude.{nat_lt}
use Rattle.std.specs.List.{list_any}
use Rattle.std.proofs.lemmas.List.{drop_all, drop_more}
use Rattle.std.specs.Str.{bytes_eq}
use Rattle.image.specs.Labels.{NamedAddresses, Names, address_of}
use Rattle.assembler.specs.Sweeps.{State, all_placed, filled, after_line, item_step, line_step, overlaps, placed, swept, value_pending, with_name}
use Rattle.assembler.specs.Views.{item_of, span_of}
use Rattle.assembler.specs.declared.fault.LineFault.{LineFault}
use Rattle.assembler.specs.declared.item.Item.{Item as CodeItem}
use Rattle.image.specs.Image.{Words}
use Rattle.asm_text.specs.Source.{lines_of}
use Rattle.asm_text.specs.Statements.{line_of}
use Rattle.assembler.specs.declared.sweep.Span.{Span}
use Rattle.asm_text.specs.Said.{target_of}
use Rattle.asm_text.specs.declared.syntax.Value.{Value}

-- a name more
pub named_more : (old new : NamedAddresses) (name : List ℕ) (at : ℕ) → ((other : List ℕ) → address_of new other ≡ cond (bytes_eq other name) (Some at) (address_of old other)) → address_of new ≡ with_name name at (address_of old)
named_more old new name at h = λ i other. h other i

pub any_spans : (spans : List Span) (from to : ℕ) → list_any (λ s. nat_lt s.from to && nat_lt from s.to) spans ≡ overlaps (map span_of spans) from to
any_spans [] from to = refl
any_spans (s ∷ spans) from to = ap (λ (b : Bool). (nat_lt s.from to && nat_lt from s.to) || b) (any_spans spans from to)

pub placed_more : (s : State) (k : ℕ) (values : List Value) (i : ℕ) (d : Value) → i < length values
    → all_placed s k (map target_of (drop i values)) ≡ all_placed (placed s k (value_pending (target_of (get_or values i d)))) k (map target_of (drop (i + 1) values))
placed_more s k values i d lt = rw (drop_more values i d lt) refl

pub filled_more : (names : Names) (image : Words) (items : List CodeItem) (i : ℕ) (d : CodeItem) → i < length items
    → filled names image (map item_of (drop i items)) ≡ after_line (get_or items i d).line (item_step names image (item_of (get_or items i d))) (λ more. filled names more (map item_of (drop (i + 1) items)))
unfolding filled
filled_more names image items i d lt = rw (drop_more items i d lt) refl

pub swept_more : (s : State) (k : ℕ) (text line : List ℕ) (rest : List ℕ) → lines_of text ≡ line ∷ lines_of rest
    → swept s k (lines_of text) ≡ after_line k (line_step s k (line_of line)) (λ t. swept t (k + 1) (lines_of rest))
unfolding swept
swept_more s k text line rest e = rw e refl

-- one item more is put
pub filled_step : (names : Names) (old new : Words) (items : List CodeItem) (i : ℕ) (item : CodeItem) (whole : Result Words (LineFault × ℕ)) → i < length items → item ≡ get_or items i item
    → item_step names old (item_of item) ≡ Ok new → filled names old (map item_of (drop i items)) ≡ whole → filled names new (map item_of (drop (i + 1) items)) ≡ whole
filled_step names old new items i item whole lt is put before =
    let there = ap (λ (x : CodeItem). item_step names old (item_of x)) (sym is) ∙ put in
    let more = ap (λ (r : Result Words LineFault). after_line (get_or items i item).line r (λ image. filled names image (map item_of (drop (i + 1) items)))) there in
    sym (filled_more names old items i item lt ∙ more) ∙ before

pub filled_end : (names : Names) (image : Words) (items : List CodeItem) (i : ℕ) (whole : Result Words (LineFault × ℕ)) → length items ≤ i
    → filled names image (map item_of (drop i items)) ≡ whole → whole ≡ Ok image
unfolding filled
filled_end names image items i whole le before =
    sym before ∙ ap (λ (l : List CodeItem). filled names image (map item_of l)) (drop_all i items le)

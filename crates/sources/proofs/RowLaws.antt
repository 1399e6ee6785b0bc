-- Rows from an empty text on.
use Rattle.std.proofs.Common.{◌≡◌, ◌∙◌, List, [], ◌++◌, ap, subst, sym}
use Rattle.asm_text.specs.Appended.{Appends}

pub all_appended : {B : Type 0} (Is : List B → Type 0) (old new : List B) → old ≡ [] → Appends Is old new → Is new
all_appended {B} Is old new none adds = subst Is (sym (adds.2 ∙ ap (λ (xs : List B). xs ++ adds.0) none)) adds.1

-- A text, or another list, to which a part is added.
use Rattle.std.specs.Prelude.{◌≡◌, List, ◌++◌}

-- the new list is the old one and, after it, a part of this kind
abbrev pub Appends : {B : Type 0} → (List B → Type 0) → (old new : List B) → Type 0
Appends {B} Is old new = (part : List B) × Is part × (new ≡ old ++ part)

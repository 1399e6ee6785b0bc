-- The sections of a certificate's text.
use Rattle.std.specs.Prelude.{ℕ, List, ◌∷◌}
use Rattle.std.specs.Fmt.{decimal}
use Rattle.std.specs.List.{flat_map}
use Rattle.longest_walk.specs.declared.rows.PlaceRow.{PlaceRow}
use Rattle.longest_walk.specs.declared.rows.InstanceRow.{InstanceRow}
use Rattle.certificate.specs.declared.line.WalkLine.{WalkLine}
use Rattle.certificate.specs.Lines.{head_lines}
use Rattle.certificate.specs.Words.{ended, instance_words, place_words, text_of, walk_words}

abbrev pub head_text : List ℕ → List ℕ
head_text numbers = text_of (head_lines numbers)

-- the numbers of a profile, each after a blank
abbrev pub prices_text : List ℕ → List ℕ
prices_text numbers = flat_map (λ n. 32 ∷ decimal n) numbers

abbrev pub walk_text : List WalkLine → List ℕ
walk_text lines = flat_map (λ w. ended (walk_words w)) lines

abbrev pub places_text : List PlaceRow → List ℕ
places_text rows = flat_map (λ r. ended (place_words r)) rows

abbrev pub instances_text : List InstanceRow → List ℕ
instances_text rows = flat_map (λ r. ended (instance_words r)) rows

-- The fills of nodes: the larger a node's share of the ticks, the darker it is, also in black and white.
use Rattle.std.specs.Prelude.{ℕ, List, codes, nat_le, if◌then◌else◌}

-- of a share in thousandths
abbrev pub fill : (share : ℕ) → List ℕ
fill share =
    if nat_le 400 share then codes "#f07818"
    else if nat_le 200 share then codes "#fb9a4b"
    else if nat_le 100 share then codes "#fdb97d"
    else if nat_le 50 share then codes "#fdd9b4"
    else codes "#fff5eb"

-- What reading from a store returns.
use Rattle.std.specs.Prelude.{ℕ, List, Vec, Result, Ok, Err}
use Rattle.std.specs.declared.alloc.Global.{Global}
use Rattle.arcwcet.specs.declared.fault.StoreFault.{StoreFault}

-- the bytes in place of the vector
abbrev pub bytes_read : Result (Vec ℕ Global) StoreFault → Result (List ℕ) StoreFault
bytes_read (Ok v) = Ok v.items
bytes_read (Err e) = Err e

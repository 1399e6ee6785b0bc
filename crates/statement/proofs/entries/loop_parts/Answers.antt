use Rattle.std.proofs.Common.{refl}
use Rattle.statement.proofs.entries.loop_parts.Goals as goal

pub returns : goal.returns
returns c =
    rw (c.pair.ensures, c.pair-ends.ensures, c.pair-rest.ensures, c.address_in.ensures, c.address_in-2.ensures, c.address_in-3.ensures, c.number_in.ensures) refl

use Rattle.assembler.proofs.RefuseLaws.{refused_built, refused_is}
use Rattle.assembler.proofs.RefuseText.{read_least}
use Rattle.assembler.proofs.law.sources_are_refused.Goals as goal

pub returns-clause-is_one : goal.returns-clause-is_one
returns-clause-is_one c =
    let spells = c.lines_are_spelled.ensures.read in
    let reads = c.lines_are_spelled.ensures.spelled in
    refused_is (record { spells = spells; reads = reads; least = read_least spells reads })

pub returns-clause-given : goal.returns-clause-given
returns-clause-given c =
    let spells = c.lines_are_spelled.ensures.read in
    let reads = c.lines_are_spelled.ensures.spelled in
    refused_built (record { spells = spells; reads = reads; least = read_least spells reads })

use Rattle.std.proofs.Common.{map}
use Rattle.objasm.specs.Literals.{pool_of}
use Rattle.objasm.specs.Names.{meanings_of}
use Rattle.objasm.specs.Parts.{part_of}
use Rattle.objasm.specs.Source.{plain_of}
use Rattle.objasm.proofs.SourceLaws.{assembled}
use Rattle.objasm.proofs.source.put_assembled.Goals as goal

pub returns-clause-ok : goal.returns-clause-ok
returns-clause-ok c =
    assembled (meanings_of c.args.names.now) c.args.place.number (pool_of c.args.out.now.pool) _ _ (map part_of c.args.parts.now) c.args.place.line.now _ _ (plain_of c.args.out.now.plain) _ _ _
    c.in_ok-text.ensures.ok c.deref.ensures.value c.in_ok-put_shown_line.ensures c.is_ltorg_line.ensures c.in_ok-give_if.ensures

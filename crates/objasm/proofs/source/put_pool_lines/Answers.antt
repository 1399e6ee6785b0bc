use Rattle.objasm.specs.Literals.{pool_of}
use Rattle.objasm.specs.Source.{plain_of}
use Rattle.objasm.proofs.SourceLaws.{pool_put}
use Rattle.objasm.proofs.source.put_pool_lines.Goals as goal

pub returns : goal.returns
returns c =
    pool_put c.put_origins.result c.args.number (pool_of c.args.pool.now) (plain_of c.args.out.now) c.extend_from_slice.new.self.items c.put_origins.new.origins.items c.deref.result.now c.deref-2.result.now
    c.deref.ensures.value c.deref-2.ensures.value c.in_ok-extend_from_slice.ensures.items c.put_origins.ensures

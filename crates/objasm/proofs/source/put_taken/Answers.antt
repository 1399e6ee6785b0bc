use Rattle.std.proofs.Common.{◌≡◌, ℕ, ap, map, sym, take, ◌∙◌}
use Rattle.objasm.specs.Conditions.{open_in}
use Rattle.objasm.specs.Literals.{pool_of}
use Rattle.objasm.specs.Names.{meanings_of}
use Rattle.objasm.specs.Parts.{part_of, parts}
use Rattle.objasm.specs.Source.{body, plain_of, state_in}
use Rattle.objasm.proofs.SourceLaws.{taken_ok}
use Rattle.objasm.proofs.source.put_taken.Goals as goal

pub returns-clause-ok : goal.returns-clause-ok
returns-clause-ok c =
    let line = c.args.place.line.now in
    let read : map part_of c.in_ok-parts.parts.items ≡ parts (body line) = c.in_ok-parts.ensures ∙ ap (λ (k : ℕ). parts (take k line)) c.body_len.ensures.len in
    taken_ok c.put_assembled.result (meanings_of c.args.names.now) (state_in (open_in c.args.conditions.now) (pool_of c.args.out.now.pool)) c.args.place.number (parts (body line))
    (map part_of c.deref.result.now) (map part_of c.deref-2.result.now) (map part_of c.deref-3.result.now) line (plain_of c.args.out.now.plain) (plain_of c.put_assembled.new.out.plain)
    (open_in c.step_conditions.new.conditions) (pool_of c.put_assembled.new.out.pool)
    (ap (map part_of) c.deref.ensures.value ∙ read) (ap (map part_of) c.deref-2.ensures.value ∙ read) (ap (map part_of) c.deref-3.ensures.value ∙ read)
    (sym c.if-is_hidden.false ∙ c.is_hidden-is_hidden.ensures) c.in_ok-step_conditions.ensures.ok c.put_assembled.ensures.ok

use Rattle.std.proofs.Common.{◌∙◌, Some, cond, ap, ℕ}
use Rattle.std.specs.Prelude.{List}
use Rattle.std.specs.Str.{bytes_eq}
use Rattle.image.specs.Labels.{address_of}
use Rattle.image.proofs.LabelLemmas.{names_in, put_one}
use Rattle.image.proofs.labels.Labels.put.Goals as goal

pub returns-clause-ok : goal.returns-clause-ok
returns-clause-ok c = λ other.
    rw (← c.self.view_is) (
    ap (λ entries. address_of (names_in entries) other) c.in_ok-insert.ensures.entries
    ∙ put_one c.self.inside.addresses.entries c.in_ok-key.key c.args.address other
    ∙ ap (λ (name : List ℕ). cond (bytes_eq other name) (Some c.args.address) (address_of (names_in c.self.inside.addresses.entries) other)) c.in_ok-key.ensures.items)

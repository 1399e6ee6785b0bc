use Rattle.std.proofs.Common.{ℕ, subst}
use Rattle.std.specs.Prelude.{◌↔◌, IsTrue}
use Rattle.word_shapes.specs.Shapes.{keeps_return_address}
use Rattle.word_shapes.specs.Words.{MayDo}
use Rattle.text_draft.proofs.ways.has_return_address.Goals as goal

pub returns : goal.returns
returns c =
    subst (λ (at : ℕ). IsTrue c.may_keep_return_address_at.result ↔ MayDo keeps_return_address c.args.image.now at) c.before-2.ensures
    c.may_keep_return_address_at.ensures

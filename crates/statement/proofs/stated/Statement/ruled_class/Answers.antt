use Rattle.std.proofs.Common.{Some, ap, get_or, sym, ◌∙◌}
use Rattle.statement.specs.Stated.{ruled_class}
use Rattle.statement.proofs.StretchLemmas.{ruled_none, ruled_some}
use Rattle.statement.proofs.stated.Statement.ruled_class.Goals as goal

pub returns-in_err-number : goal.returns-in_err-number
returns-in_err-number c =
    c.from_residual-in_err-number.ensures
    ∙ sym (ap (ruled_class c.args.self.now.rules c.args.address) c.in_ok-base.was
    ∙ ruled_none c.args.self.now.rules c.args.address c.in_ok-base.field-0 (sym c.rule_at.ensures ∙ c.in_err-number.was))

pub returns : goal.returns
returns c =
    let n = c.in_ok-number.number in
    let d = c.index.result.now in
    ap (λ r. Some r.class) c.index.ensures
    ∙ ap (λ st. Some (get_or st.rules n d).class) c.self.view_is
    ∙ sym (ap (ruled_class c.args.self.now.rules c.args.address) c.in_ok-base.was
    ∙ ruled_some c.args.self.now.rules c.args.address c.in_ok-base.field-0 n d (sym c.rule_at.ensures ∙ c.in_ok-number.was))

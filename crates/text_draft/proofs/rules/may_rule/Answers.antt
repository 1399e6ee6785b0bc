use Rattle.std.proofs.Common.{◌≡◌, ◌∙◌, true, sym, rules}
use Rattle.text_draft.proofs.RuleLaws.{may_by}
use Rattle.text_draft.proofs.rules.may_rule.Goals as goal

pub returns-then-is_pc : goal.returns-then-is_pc
returns-then-is_pc c =
    may_by c.args.image.now c.args.open_left c.args.register c.args.class c.all_show.result
    (let left : c.args.open_left ≡ true = search rules in left) (sym c.is_pc.ensures ∙ c.if-is_pc.true) c.all_show.ensures

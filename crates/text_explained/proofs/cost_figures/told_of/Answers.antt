use Rattle.std.proofs.Common.{◌∙◌, sym}
use Rattle.std.specs.BTreeMap.{get}
use Rattle.std.specs.Ordering.{nat_cmp}
use Rattle.text_explained.proofs.TellingLaws.{told_none, told_some}
use Rattle.text_explained.proofs.cost_figures.told_of.Goals as goal

pub returns-in-Some-clause-taken : goal.returns-in-Some-clause-taken
returns-in-Some-clause-taken c =
    c.taken_on.ensures
    ∙ told_some (get nat_cmp c.args.tally.now.by_address) c.args.line c.in-Some.at (sym c.told_word.ensures ∙ c.in-Some.is)

pub returns-in-None-clause-taken : goal.returns-in-None-clause-taken
returns-in-None-clause-taken c = told_none (get nat_cmp c.args.tally.now.by_address) c.args.line (sym c.told_word.ensures ∙ c.in-None.is)

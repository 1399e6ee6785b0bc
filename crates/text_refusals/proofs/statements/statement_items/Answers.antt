use Rattle.text_refusals.proofs.statements.statement_items.Goals as goal

pub returns : goal.returns
returns c = c.items_of.ensures

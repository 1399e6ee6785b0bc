use Rattle.text_page.proofs.HtmlLaws.{clean, piece}
use Rattle.text_page.proofs.law.escaped_texts_have_no_marks.Goals as goal

pub returns-clause-pieces : goal.returns-clause-pieces
returns-clause-pieces c = piece

pub returns-clause-brackets : goal.returns-clause-brackets
returns-clause-brackets c = clean

use Rattle.explain_reports.proofs.CheckLemmas.{report_gets_yes, report_is_checkable}
use Rattle.explain_reports.proofs.law.certificates_are_accepted.Goals as goal

pub returns-clause-checkable : goal.returns-clause-checkable
returns-clause-checkable c = report_is_checkable

pub returns-clause-yes : goal.returns-clause-yes
returns-clause-yes c = report_gets_yes

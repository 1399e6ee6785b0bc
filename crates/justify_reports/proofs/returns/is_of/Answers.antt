use Rattle.justify_reports.proofs.ClassLemmas.{decides}
use Rattle.justify_reports.proofs.returns.is_of.Goals as goal

pub returns : goal.returns
returns c = decides c.args.class c.args.address c.is_of.result c.is_of.ensures

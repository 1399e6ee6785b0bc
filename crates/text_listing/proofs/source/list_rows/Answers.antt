use Rattle.sources.proofs.RowLaws.{all_appended}
use Rattle.text_listing.specs.Listing.{AreListed}
use Rattle.text_listing.proofs.source.list_rows.Goals as goal

pub returns : goal.returns
returns c = all_appended (AreListed c.args.source.now) c.new-out.result.items c.put_rows.new.out.items c.new-out.ensures.items c.in_ok-put_rows.ensures

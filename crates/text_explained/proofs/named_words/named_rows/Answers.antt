use Rattle.sources.proofs.RowLaws.{all_appended}
use Rattle.text_explained.specs.Assumed.{AreNamedRows}
use Rattle.text_explained.proofs.named_words.named_rows.Goals as goal

pub returns : goal.returns
returns c = all_appended (AreNamedRows c.args.source.now c.args.named.now) c.new-out.result.items c.put_word_rows.new.out.items c.new-out.ensures.items c.in_ok-put_word_rows.ensures

use Rattle.text_explained.proofs.ListedOnceLaws.{on_words}
use Rattle.text_explained.proofs.SourceLaws.{listed_once}
use Rattle.text_explained.proofs.law.places_are_listed_once.Goals as goal

pub returns : goal.returns
returns c =
    record {
      words = on_words;
      source = listed_once c.lines_are_spelled.ensures.spelled c.sources_are_assembled.ensures.is_one;
    }

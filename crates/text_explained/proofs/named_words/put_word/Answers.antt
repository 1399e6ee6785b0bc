use Rattle.std.proofs.Common.{◌≡◌, rules, true}
use Rattle.std.specs.Prelude.{◌==◌}
use Rattle.std.specs.List.{list_any}
use Rattle.std.proofs.lemmas.Result.{on_ok_weaker}
use Rattle.text_explained.proofs.RowLaws.{its_row}
use Rattle.text_explained.proofs.named_words.put_word.Goals as goal

pub returns : goal.returns
returns c =
    let one : list_any (λ a. a == c.args.at) c.args.named.now ≡ true = search rules in
    on_ok_weaker c.put_shown_row.result (its_row c.args.named.now (c.args.at, c.args.word) c.args.out.now.items c.put_shown_row.new.out.items one)
    c.put_shown_row.ensures

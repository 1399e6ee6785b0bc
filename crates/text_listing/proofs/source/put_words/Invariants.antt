use Rattle.std.proofs.Common.{◌≡◌, ◌≤◌, ◌+◌, ◌-◌, ◌*◌, ◌^◌, ◌++◌}
use Rattle.text_listing.specs.Listing.{word_rows}
use Rattle.text_listing.proofs.source.put_words.Given as goal

abbrev pub invariant-loop : goal.invariant-loop
invariant-loop l = record {
  room : l.at + 4 * (l.count - l.counter) ≤ 2 ^ 26;
  same : l.out.items ++ word_rows l.image l.at (l.count - l.counter) ≡ l.fn.out.items ++ word_rows l.image l.from l.count;
}

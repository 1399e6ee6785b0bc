use Rattle.std.proofs.Common.{rules}
use Rattle.std.proofs.lemmas.Fn.{always_returns_same}
use Rattle.text_explained.specs.Dearest.{AreDearest, ticks_at}
use Rattle.text_explained.specs.declared.table_rows.TableRow.{TableRow}
use Rattle.text_explained.proofs.dearest.keep_dearest.Goals as goal

pub returns : goal.returns
returns c =
    let dearest : AreDearest c.in-Some.most c.args.rows.now.items c.truncate.new.self.items = record {
      sorted = c.sort_by_key.new.self.items;
      same = c.sort_by_key.ensures.permutation;
      ordered = c.in_ok-sort_by_key.ensures.sorted (λ (r : TableRow). record { 0 = ticks_at r }) (always_returns_same _ _ _ (λ a r g called. search rules));
      stable = c.sort_by_key.ensures.stable (λ (r : TableRow). record { 0 = ticks_at r }) (always_returns_same _ _ _ (λ a r g called. search rules));
      front = c.truncate.ensures.items;
    } in
    rw c.in-Some.is dearest

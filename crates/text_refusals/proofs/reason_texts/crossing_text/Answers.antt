use Rattle.std.proofs.Common.{[], codes}
use Rattle.text_refusals.specs.Texts.{two_loops}
use Rattle.text_rows.proofs.ColumnLaws.{four_parts}
use Rattle.text_refusals.proofs.reason_texts.crossing_text.Goals as goal

pub returns : goal.returns
returns c =
    let crossing = c.args.crossing.now in
    let both = c.in_ok-put_under.ensures in
    let first = c.in_ok-put_under-2.ensures in
    let second = c.in_ok-put_under-3.ensures in
    record {
      shared = both.0;
      one_has = first.0;
      other_has = second.0;
      is_shared = both.1;
      is_one = first.1;
      is_other = second.1;
      text_is = four_parts [] (two_loops c.args.words.now.lines (codes "These two loops cross:\n") (crossing.one).stated (crossing.other).stated) both.0 first.0 second.0
          c.in_ok-out.out.items c.put_under.new.out.items c.put_under-2.new.out.items c.put_under-3.new.out.items c.in_ok-out.ensures both.2 first.2 second.2;
    }

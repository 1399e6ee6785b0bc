use Rattle.std.proofs.Common.{rules}
use Rattle.follow_reports.specs.FollowText.{kept_text}
use Rattle.follow_reports.proofs.FollowLemmas.{told_in_pieces}
use Rattle.follow_reports.proofs.follow.kept_run.Goals as goal
use Rattle.sources.specs.File.{file_of}

pub returns : goal.returns
returns c =
    let source = (file_of c.args.bounded.source) in
    record {
      left = c.in_ok-rest.rest.items;
      left_is = c.in_ok-rest.ensures source c.requires.read;
      table = c.in_ok-table.table.items;
      table_is = λ passes tally. c.in_ok-table.ensures source passes c.requires.read tally;
      warnings = c.in_ok-warned.warned.items;
      are_warnings = λ passes tally. c.in_ok-warned.ensures source passes c.requires.read tally;
      text_is =
          told_in_pieces (kept_text c.args.ticks c.args.bounded.longest.now.bound) c.in_ok-rest.rest.items c.in_ok-table.table.items c.in_ok-warned.warned.items
          c.extend_from_slice.new.self.items c.extend_from_slice-2.new.self.items c.in_ok-text.text.items c.extend_from_slice-3.new.self.items (search rules) (search rules) (search rules) (search rules);
    }

-- The code's rows and requests, as the definitions have them.
use Rattle.std.specs.Prelude.{map, option_map}
use Rattle.command_line.specs.Line.{Argument, Asked, Usage}
use Rattle.command_line.specs.declared.line.Request.{Request}
use Rattle.command_line.specs.declared.command_rows.ArgumentRow.{ArgumentRow}
use Rattle.command_line.specs.declared.command_rows.CommandRow.{CommandRow}

-- without what the help says of it
abbrev pub argument_of : ArgumentRow → Argument
argument_of row = record { id = row.id.now; form = row.form; instead = row.instead }

abbrev pub usage_of : CommandRow → Usage
usage_of row =
    record { name = row.name.now; command = row.command; arguments = map argument_of row.arguments.now }

abbrev pub asked_of : Request → Asked
asked_of q =
    record {
      command = q.command;
      why = q.why;
      progress = q.progress;
      each = q.each;
      first = q.first;
      all = q.all;
      fiq_statement = q.fiq_statement;
      fiq_source = q.fiq_source;
      path = q.path;
      html = q.html;
      json = q.json;
      dialect = option_map (λ s. s.now) q.dialect;
      profile = option_map (λ s. s.now) q.profile;
      files = map (λ s. s.now) q.files.items;
      places = q.places.items;
      at = option_map (λ s. s.now) q.at;
      word = q.word.now;
      numbers = q.numbers;
    }

use Rattle.std.proofs.Common.{rules, string_bytes}
use Rattle.std.proofs.lemmas.Str.{IsUtf8-string_bytes}
use Rattle.bound_reports.proofs.TightLemmas.{edge_file}
use Rattle.bound_reports.proofs.tight.file_text.Goals as goal

pub returns : goal.returns
returns c =
    edge_file c.args.edge.now (string_bytes c.in_ok-document.document) (string_bytes c.push_str.new.self) c.args.file.now (search rules) (IsUtf8-string_bytes c.push_str.new.self)
    c.in_ok-document.ensures.text c.in_ok-document.ensures.reads_back

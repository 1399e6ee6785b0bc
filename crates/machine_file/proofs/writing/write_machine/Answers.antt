use Rattle.std.proofs.Common.{◌≡◌, ◌≤◌, Some, string_bytes, subst}
use Rattle.std.proofs.lemmas.Str.{IsUtf8-string_bytes}
use Rattle.toml.specs.Data.{members_depth}
use Rattle.toml.specs.Parse.{parse_document}
use Rattle.machine_file.proofs.WrittenLemmas.{text_reads}
use Rattle.machine_file.proofs.writing.write_machine.Goals as goal

pub returns-in-Ok-clause-reads_back : goal.returns-in-Ok-clause-reads_back
returns-in-Ok-clause-reads_back c =
    text_reads
    (string_bytes c.in-Ok.text)
    c.args.file.now
    (IsUtf8-string_bytes c.in-Ok.text)
    (subst (λ ms. members_depth ms ≤ 80 → parse_document (string_bytes c.in-Ok.text) ≡ Some ms) c.in_ok-table.ensures.document c.in-Ok.ensures.reads_back)
    c.requires
    c.keeps_rules.ensures.in_range
    c.keeps_rules.ensures.once
    c.keeps_rules.ensures.words
    c.in_ok-table.ensures.bound
    c.keeps_rules.ensures.ioc
    c.keeps_rules.ensures.vidc

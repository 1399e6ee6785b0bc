use Rattle.std.proofs.Common.{◌∙◌, Some, ap, map, option_map, string_bytes, sym}
use Rattle.clap.specs.Simple.{app_of}
use Rattle.clap.specs.Words.{subcommand_rows_of}
use Rattle.command_line.specs.Rows.{asked_of}
use Rattle.command_line.proofs.LineLaws.{asked_of_matches, asked_of_error, version_asked}
use Rattle.command_line.proofs.requests.request.Goals as goal

pub returns-then-asks_version-clause-read : goal.returns-then-asks_version-clause-read
returns-then-asks_version-clause-read c =
    version_asked (map (λ s. string_bytes s) c.args.words.now) (sym c.asks_version.ensures ∙ c.if-asks_version.true)
    ∙ ap (λ q. Some q) (sym c.version.ensures)

pub returns-in-Ok-Some-clause-read : goal.returns-in-Ok-Some-clause-read
returns-in-Ok-Some-clause-read c =
    let m = c.in-Ok-try_get_matches_from.matches in
    let h = c.in-Ok-try_get_matches_from.ensures in
    asked_of_matches (map (λ s. string_bytes s) c.args.words.now) (sym c.asks_version.ensures ∙ c.if-asks_version.false) (app_of c.in-Ok.command) (subcommand_rows_of m) c.in-Ok.ensures
    h.kinds (λ simple. (h.matches simple).1) ∙ sym c.in-Ok-Some.ensures ∙ ap (option_map asked_of) c.in-Ok-Some.field-0-is

pub returns-in-Ok-None-clause-refused : goal.returns-in-Ok-None-clause-refused
returns-in-Ok-None-clause-refused c = λ _.
    let m = c.in-Ok-try_get_matches_from.matches in
    let h = c.in-Ok-try_get_matches_from.ensures in
    asked_of_matches (map (λ s. string_bytes s) c.args.words.now) (sym c.asks_version.ensures ∙ c.if-asks_version.false) (app_of c.in-Ok.command) (subcommand_rows_of m) c.in-Ok.ensures
    h.kinds (λ simple. (h.matches simple).1) ∙ sym c.in-Ok-None.ensures ∙ ap (option_map asked_of) c.in-Ok-None.field-0-is

pub returns-clause-refused : goal.returns-clause-refused
returns-clause-refused c = λ is_refused.
    asked_of_error (map (λ s. string_bytes s) c.args.words.now) (sym c.asks_version.ensures ∙ c.if-asks_version.false) (app_of c.in-Ok.command) c.in-Err-try_get_matches_from.error c.in-Ok.ensures
    c.in-Err-try_get_matches_from.ensures.kinds (c.line_fault.ensures is_refused)

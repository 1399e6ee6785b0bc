use Rattle.std.proofs.Common.{[], true, refl}
use Rattle.outputs.proofs.PageLaws.{on_from_start}
use Rattle.arcwcet.specs.Reports.{version_line}
use Rattle.arcwcet.proofs.reports.print_version.Goals as goal

pub returns-in-Ok : goal.returns-in-Ok
returns-in-Ok g c =
    let start = on_from_start g.O.Output.taken g.O.Output.failures c.args.out.now c.new-page.result c.new-page.ensures.bytes c.new-page.ensures.failed in
    let sent = c.in-Ok.ensures c.args.out.now version_line (c.put_version.ensures c.args.out.now [] start) in
    record { printed = record { text = version_line; is_text = refl; printed = sent.0 }; fault = tt; quiet = tt; device = λ e. cc e }

pub returns-in-Err : goal.returns-in-Err
returns-in-Err g c =
    let start = on_from_start g.O.Output.taken g.O.Output.failures c.args.out.now c.new-page.result c.new-page.ensures.bytes c.new-page.ensures.failed in
    let failed = c.in-Err.ensures c.args.out.now version_line (c.put_version.ensures c.args.out.now [] start) in
    record {
      printed = tt;
      fault = refl;
      quiet = λ other. absurd (other refl);
      device = λ e. record { text = version_line; is_text = (true, refl); taken = failed.0; failed = failed.1 };
    }

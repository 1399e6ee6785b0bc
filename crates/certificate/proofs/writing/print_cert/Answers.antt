use Rattle.std.proofs.Common.{[]}
use Rattle.outputs.proofs.PageLaws.{on_from_start}
use Rattle.certificate.specs.Lines.{cert_text, said_of}
use Rattle.certificate.proofs.WriteLaws.{err_first, err_second, ok_first, ok_second}
use Rattle.certificate.proofs.writing.print_cert.Goals as goal

pub returns : goal.returns
returns g c =
    let start = on_from_start g.O.Output.taken g.O.Output.failures c.args.out.now c.new-page.result c.new-page.ensures.bytes c.new-page.ensures.failed in
    let sent = c.finish.ensures c.args.out.now (cert_text (said_of c.args.longest.now)) (c.put_cert.ensures c.args.out.now [] start) in
    record {
      ok = ok_first c.finish.result _ _ _ _ sent;
      quiet = ok_second c.finish.result _ _ _ _ sent;
      front = err_first c.finish.result _ _ _ _ sent;
      failed = err_second c.finish.result _ _ _ _ sent;
    }

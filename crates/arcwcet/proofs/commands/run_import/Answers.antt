use Rattle.std.proofs.Common.{List, ℕ, Ok, Err, codes, refl, subst}
use Rattle.std.specs.Io.KnownBytes.{Appends}
use Rattle.std.specs.Prelude.{string_bytes}
use Rattle.outputs.specs.Output.{TakesFront}
use Rattle.command_line.specs.Rows.{asked_of}
use Rattle.arcwcet.specs.Refusals.{Says, store_fault_name}
use Rattle.arcwcet.proofs.RunLemmas.{import_done, import_of, import_refused, import_refused_of, import_unprinted, import_unwritten, says_line}
use Rattle.arcwcet.proofs.commands.run_import.Goals as goal

pub returns-in-Err-clause-ran : goal.returns-in-Err-clause-ran
returns-in-Err-clause-ran g c = λ old files read split.
    let asked = asked_of c.args.job.request.now in
    let fault = c.in-Err.fault in
    import_refused g.S.Store.read_gives g.S.Store.write_gives g.O.Output.taken g.O.Output.failures (Says g.E.Output.taken g.E.Output.failures asked c.args.err.now c.refused_status.new.err) asked old c.args.store.now files c.args.out.now read fault
    (import_refused_of asked files _ _ c.deref.ensures.value split fault c.in-Err.ensures.fault) c.refused_status.ensures.says c.refused_status.result c.refused_status.ensures.status

pub returns-in-Err-write-clause-ran : goal.returns-in-Err-write-clause-ran
returns-in-Err-write-clause-ran g c = λ old files read split.
    let writes = g.S.Store.write_gives in
    let asked = asked_of c.args.job.request.now in
    let fault = c.in-Err-write.fault in
    let written = c.in-Ok.made in
    import_unwritten g.S.Store.read_gives writes g.O.Output.taken g.O.Output.failures (Says g.E.Output.taken g.E.Output.failures asked c.args.err.now c.store_status.new.err) asked old c.write.new.self files c.args.store.now read
    written.bytes.items (string_bytes written.line) (import_of asked files _ _ c.deref.ensures.value split written.bytes.items (string_bytes written.line) c.in-Ok.ensures.is) c.args.out.now fault c.in-Err-write.ensures.device
    (subst (λ (b : List ℕ). writes c.args.store.now asked.word b (Err fault) c.write.new.self) c.deref-2.ensures.value c.in-Err-write.ensures.gives)
    (says_line g.E.Output.taken g.E.Output.failures c.args.err.now c.store_status.new.err asked (store_fault_name fault) c.store_status.ensures.says) c.store_status.result c.store_status.ensures.status

pub returns-in-Ok-write_whole-clause-ran : goal.returns-in-Ok-write_whole-clause-ran
returns-in-Ok-write_whole-clause-ran g c = λ old files read split.
    let writes = g.S.Store.write_gives in
    let asked = asked_of c.args.job.request.now in
    let written = c.in-Ok.made in
    let report = string_bytes written.line in
    import_done g.S.Store.read_gives writes g.O.Output.taken g.O.Output.failures (Says g.E.Output.taken g.E.Output.failures asked c.args.err.now c.args.err.now) asked old c.write.new.self files c.args.store.now read written.bytes.items report
    (import_of asked files _ _ c.deref.ensures.value split written.bytes.items report c.in-Ok.ensures.is)
    (subst (λ (b : List ℕ). writes c.args.store.now asked.word b (Ok tt) c.write.new.self) c.deref-2.ensures.value c.in_default.ensures.gives) c.args.out.now c.write_whole.new.out
    (subst (λ (t : List ℕ). Appends (g.O.Output.taken c.args.out.now) (g.O.Output.taken c.write_whole.new.out) t) c.as_bytes.ensures.value c.in-Ok-write_whole.ensures.ok) refl

pub returns-clause-ran : goal.returns-clause-ran
returns-clause-ran g c = λ old files read split.
    let writes = g.S.Store.write_gives in
    let asked = asked_of c.args.job.request.now in
    let written = c.in-Ok.made in
    let report = string_bytes written.line in
    import_unprinted g.S.Store.read_gives writes g.O.Output.taken g.O.Output.failures (Says g.E.Output.taken g.E.Output.failures asked c.args.err.now c.report_status.new.err) asked old c.write.new.self files c.args.store.now read
    written.bytes.items report (import_of asked files _ _ c.deref.ensures.value split written.bytes.items report c.in-Ok.ensures.is)
    (subst (λ (b : List ℕ). writes c.args.store.now asked.word b (Ok tt) c.write.new.self) c.deref-2.ensures.value c.in_default.ensures.gives) c.args.out.now c.write_whole.new.out
    (subst (λ (t : List ℕ). TakesFront (g.O.Output.taken c.args.out.now) (g.O.Output.taken c.write_whole.new.out) t) c.as_bytes.ensures.value c.in-Err-write_whole.ensures.front)
    c.in-Err-write_whole.ensures.failed (says_line g.E.Output.taken g.E.Output.failures c.args.err.now c.report_status.new.err asked (codes "Device") c.report_status.ensures.says) c.report_status.result c.report_status.ensures.status

use Rattle.std.proofs.Common.{◌≤◌, ◌∙◌, [], List, ℕ, ap, inl, inr, length, refl, rules, subst, sym}
use Rattle.std.specs.Io.KnownBytes.{Consumes}
use Rattle.command_line.specs.Rows.{asked_of}
use Rattle.command_line.specs.declared.line.Command.{Command}
use Rattle.arcwcet.specs.Files.{dialect_of}
use Rattle.arcwcet.specs.Kept.{inputs_kept, inputs_lent, kept_of}
use Rattle.sources.specs.declared.file.Dialect.{Dialect}
use Rattle.arcwcet.specs.Refusals.{Says, store_fault_name}
use Rattle.arcwcet.proofs.FileLemmas.{bytes_kept, inputs_split, others_split}
use Rattle.arcwcet.proofs.RunLemmas.{RunsAs, by_form, ran_of, says_line}
use Rattle.arcwcet.proofs.commands.obey.Goals as goal

pub returns-in-Import-clause-done : goal.returns-in-Import-clause-done
returns-in-Import-clause-done g c =
    let asked = asked_of c.args.asked in
    let files = c.in-Ok.files in
    let ran = c.run_import in
    let says = Says g.E.Output.taken g.E.Output.failures asked c.args.err.now ran.new.err in
    subst (λ (k : Command). RunsAs g.S.Store.read_gives g.S.Store.write_gives g.I.Input.remaining g.I.Input.failures g.O.Output.taken g.O.Output.failures says asked c.args.store.now ran.new.store c.args.input.now c.args.input.now c.args.out.now ran.new.out ran.result k)
    (sym c.in-Import.is) (
      ran.ensures.ran c.args.store.now (kept_of files) c.in-Ok.ensures.read
          (c.others.ensures ∙ others_split (λ n. n.now) (λ v. v.items) c.args.asked.profile files.profile (bytes_kept files.others.items) c.in-Ok.ensures.named),
      refl,
    )

pub returns-in-Ok-read_limited-clause-done : goal.returns-in-Ok-read_limited-clause-done
returns-in-Ok-read_limited-clause-done g c =
    let asked = asked_of c.args.asked in
    let files = c.in-Ok.files in
    let typed = c.deref.result.now in
    let input_read = c.in-Ok-read_limited.ensures in
    let says = Says g.E.Output.taken g.E.Output.failures asked c.args.err.now c.run_report.new.err in
    let split = c.inputs.ensures ∙ ap (λ (d : Dialect). inputs_kept d files) c.dialect_of.ensures
    ∙ inputs_split (λ n. n.now) (λ v. v.items) c.args.asked.profile files.profile (bytes_kept files.others.items) c.in-Ok.ensures.named (dialect_of asked.dialect) in
    let limit : length c.in-Ok-read_limited.typed.items ≤ 16777216 = search (rules, input_read.limit, c.in-Ok-read_limited.typed.ok) in
    subst (λ (k : Command). RunsAs g.S.Store.read_gives g.S.Store.write_gives g.I.Input.remaining g.I.Input.failures g.O.Output.taken g.O.Output.failures says asked c.args.store.now c.read_files.new.store c.args.input.now c.read_limited.new.input c.args.out.now c.run_report.new.out c.run_report.result k)
    (sym c.in-Debug.is)
    (inl (
      typed,
      record {
        files = kept_of files;
        read = c.in-Ok.ensures.read;
        consumed = subst (λ (xs : List ℕ). Consumes (g.I.Input.remaining c.args.input.now) (g.I.Input.remaining c.read_limited.new.input) xs) (sym c.deref.ensures.value) input_read.consumed;
        at_end = input_read.at_end;
        few = subst (λ (xs : List ℕ). length xs ≤ 16777216) (sym c.deref.ensures.value) limit;
      },
      ran_of g.S.Store.read_gives g.O.Output.taken g.O.Output.failures says asked typed c.args.store.now c.read_files.new.store c.args.out.now c.run_report.new.out (kept_of files) (inputs_lent c.inputs.result) split c.in-Ok.ensures.read c.run_report.result c.run_report.ensures.ran,
    ))

pub returns-in-Debug-clause-done : goal.returns-in-Debug-clause-done
returns-in-Debug-clause-done g c =
    let asked = asked_of c.args.asked in
    let fault = c.in-Err-read_limited.fault in
    let says = Says g.E.Output.taken g.E.Output.failures asked c.args.err.now c.store_status.new.err in
    subst (λ (k : Command). RunsAs g.S.Store.read_gives g.S.Store.write_gives g.I.Input.remaining g.I.Input.failures g.O.Output.taken g.O.Output.failures says asked c.args.store.now c.read_files.new.store c.args.input.now c.read_limited.new.input c.args.out.now c.args.out.now c.store_status.result k)
    (sym c.in-Debug.is)
    (inr (
      inr (inl (record {
        files = kept_of c.in-Ok.files;
        read = c.in-Ok.ensures.read;
        fault = fault;
        status_is = c.store_status.ensures.status;
        stops = c.in-Err-read_limited.ensures.stops;
        said = says_line g.E.Output.taken g.E.Output.failures c.args.err.now c.store_status.new.err asked (store_fault_name fault) c.store_status.ensures.says;
      })),
      refl,
    ))

pub returns : goal.returns
returns g c =
    let asked = asked_of c.args.asked in
    let files = c.in-Ok.files in
    let ran = c.run_report-in_default in
    let says = Says g.E.Output.taken g.E.Output.failures asked c.args.err.now ran.new.err in
    let split = c.inputs.ensures ∙ ap (λ (d : Dialect). inputs_kept d files) c.dialect_of.ensures
    ∙ inputs_split (λ n. n.now) (λ v. v.items) c.args.asked.profile files.profile (bytes_kept files.others.items) c.in-Ok.ensures.named (dialect_of asked.dialect) in
    record {
      done = by_form g.S.Store.read_gives g.S.Store.write_gives g.I.Input.remaining g.I.Input.failures g.O.Output.taken g.O.Output.failures says asked c.args.store.now c.read_files.new.store c.args.input.now c.args.input.now c.args.out.now ran.new.out ran.result asked.command
          (λ e. absurd (c.in_default.not-Asm e)) (λ e. absurd (c.in_default.not-Import e)) (λ e. absurd (c.in_default.not-Debug e))
          (ran_of g.S.Store.read_gives g.O.Output.taken g.O.Output.failures says asked [] c.args.store.now c.read_files.new.store c.args.out.now ran.new.out (kept_of files) (inputs_lent c.inputs.result) split c.in-Ok.ensures.read ran.result ran.ensures.ran, refl);
      silent = ran.ensures.silent;
    }

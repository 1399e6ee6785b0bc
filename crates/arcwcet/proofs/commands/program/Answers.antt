use Rattle.std.proofs.Common.{◌≡◌, ◌∙◌, ℕ, codes, Some, None, sym, subst, inl, inr}
use Rattle.command_line.specs.Line.{Asked}
use Rattle.command_line.specs.Rows.{asked_of}
use Rattle.arcwcet.specs.Refusals.{Says}
use Rattle.arcwcet.specs.Run.{RunsAsked}
use Rattle.arcwcet.proofs.RunLemmas.{asked_out_of_memory, says_line}
use Rattle.arcwcet.proofs.commands.program.Goals as goal

pub returns-in-Err-clause-done : goal.returns-in-Err-clause-done
returns-in-Err-clause-done g c = λ asked wanted.
    elim c.line_status.ensures [
      | inl two ↦ absurd (let both : None ≡ Some asked = sym (c.in-Err.ensures.refused two.1) ∙ wanted in cc both)
      | inr three ↦
          let says = Says g.E.Output.taken g.E.Output.failures asked c.args.err.now c.line_status.new.err in
          subst (λ (s : ℕ). RunsAsked g.S.Store.read_gives g.S.Store.write_gives g.I.Input.remaining g.I.Input.failures g.O.Output.taken g.O.Output.failures says asked c.args.store.now c.args.store.now c.args.input.now c.args.input.now c.args.out.now c.args.out.now s) (sym three.0)
          (asked_out_of_memory g.S.Store.read_gives g.S.Store.write_gives g.I.Input.remaining g.I.Input.failures g.O.Output.taken g.O.Output.failures says asked
          (says_line g.E.Output.taken g.E.Output.failures c.args.err.now c.line_status.new.err asked (codes "Memory") three.2) c.args.store.now c.args.input.now c.args.out.now)
    ]

pub returns-clause-done : goal.returns-clause-done
returns-clause-done g c = λ asked wanted.
    let both : Some (asked_of c.in-Ok.asked) ≡ Some asked = sym c.in-Ok.ensures.read ∙ wanted in
    let same : asked_of c.in-Ok.asked ≡ asked = cc both in
    subst (λ (a : Asked). RunsAsked g.S.Store.read_gives g.S.Store.write_gives g.I.Input.remaining g.I.Input.failures g.O.Output.taken g.O.Output.failures (Says g.E.Output.taken g.E.Output.failures a c.args.err.now c.obey.new.err) a c.args.store.now c.obey.new.store c.args.input.now c.obey.new.input c.args.out.now c.obey.new.out c.obey.result) same c.obey.ensures.done

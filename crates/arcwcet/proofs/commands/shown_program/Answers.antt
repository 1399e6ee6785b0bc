use Rattle.std.proofs.Common.{◌≡◌, ◌∙◌, ℕ, true, false, true≢false, codes, Some, None, ap, sym, subst, refl, inl, inr}
use Rattle.command_line.specs.Line.{Asked}
use Rattle.command_line.specs.Rows.{asked_of}
use Rattle.progress.specs.Watched.{inner}
use Rattle.arcwcet.specs.Announced.{reads_announced, shows_lines, writes_announced}
use Rattle.arcwcet.specs.Refusals.{Says}
use Rattle.arcwcet.specs.Run.{RunsAsked}
use Rattle.arcwcet.proofs.RunLemmas.{asked_out_of_memory, says_line}
use Rattle.arcwcet.proofs.commands.shown_program.Goals as goal

pub returns-in-Err-clause-shown : goal.returns-in-Err-clause-shown
returns-in-Err-clause-shown g c = λ asked wanted shown.
    elim c.line_status.ensures [
      | inl two ↦ absurd (let both : None ≡ Some asked = sym (c.in-Err.ensures.refused two.1) ∙ wanted in cc both)
      | inr three ↦
          let reads = reads_announced g.L.Output.taken g.L.Output.failures g.S.Store.read_gives in
          let writes = writes_announced g.S.Store.write_gives in
          let says = Says g.E.Output.taken g.E.Output.failures asked c.args.err.now c.line_status.new.err in
          subst (λ (s : ℕ). RunsAsked reads writes g.I.Input.remaining g.I.Input.failures (inner g.O.Output.taken) (inner g.O.Output.failures) says asked c.args.store.now c.args.store.now c.args.input.now c.args.input.now c.args.out.now c.args.out.now s) (sym three.0)
          (asked_out_of_memory reads writes g.I.Input.remaining g.I.Input.failures (inner g.O.Output.taken) (inner g.O.Output.failures) says asked
          (says_line g.E.Output.taken g.E.Output.failures c.args.err.now c.line_status.new.err asked (codes "Memory") three.2) c.args.store.now c.args.input.now c.args.out.now)
    ]

pub returns-in-Err-clause-unshown : goal.returns-in-Err-clause-unshown
returns-in-Err-clause-unshown g c = λ asked wanted unshown.
    elim c.line_status.ensures [
      | inl two ↦ absurd (let both : None ≡ Some asked = sym (c.in-Err.ensures.refused two.1) ∙ wanted in cc both)
      | inr three ↦
          let says = Says g.E.Output.taken g.E.Output.failures asked c.args.err.now c.line_status.new.err in (
            subst (λ (s : ℕ). RunsAsked g.S.Store.read_gives g.S.Store.write_gives g.I.Input.remaining g.I.Input.failures g.O.Output.taken g.O.Output.failures says asked c.args.store.now.store c.args.store.now.store c.args.input.now c.args.input.now c.args.out.now.out c.args.out.now.out s) (sym three.0)
                (asked_out_of_memory g.S.Store.read_gives g.S.Store.write_gives g.I.Input.remaining g.I.Input.failures g.O.Output.taken g.O.Output.failures says asked
                (says_line g.E.Output.taken g.E.Output.failures c.args.err.now c.line_status.new.err asked (codes "Memory") three.2) c.args.store.now.store c.args.input.now c.args.out.now.out),
            refl,
            refl,
          )
    ]

pub returns-then-shown-clause-shown : goal.returns-then-shown-clause-shown
returns-then-shown-clause-shown g c = λ asked wanted shown.
    let both : Some (asked_of c.in-Ok.asked) ≡ Some asked = sym c.in-Ok.ensures.read ∙ wanted in
    let same : asked_of c.in-Ok.asked ≡ asked = cc both in
    let reads = reads_announced g.L.Output.taken g.L.Output.failures g.S.Store.read_gives in
    let writes = writes_announced g.S.Store.write_gives in
    subst (λ (a : Asked). RunsAsked reads writes g.I.Input.remaining g.I.Input.failures (inner g.O.Output.taken) (inner g.O.Output.failures) (Says g.E.Output.taken g.E.Output.failures a c.args.err.now c.obey.new.err) a c.args.store.now c.obey.new.store c.args.input.now c.obey.new.input c.args.out.now c.obey.new.out c.obey.result) same c.obey.ensures.done

pub returns-then-shown-clause-unshown : goal.returns-then-shown-clause-unshown
returns-then-shown-clause-unshown g c = λ asked wanted unshown.
    let both : Some (asked_of c.in-Ok.asked) ≡ Some asked = sym c.in-Ok.ensures.read ∙ wanted in
    let same : asked_of c.in-Ok.asked ≡ asked = cc both in
    absurd (true≢false (sym c.if-shown.true ∙ c.shows_lines-shown.ensures ∙ ap (λ (a : Asked). shows_lines a c.args.store.now) same ∙ unshown))

pub returns-clause-shown : goal.returns-clause-shown
returns-clause-shown g c = λ asked wanted shown.
    let both : Some (asked_of c.in-Ok.asked) ≡ Some asked = sym c.in-Ok.ensures.read ∙ wanted in
    let same : asked_of c.in-Ok.asked ≡ asked = cc both in
    absurd (true≢false (sym shown ∙ sym (ap (λ (a : Asked). shows_lines a c.args.store.now) same) ∙ sym c.shows_lines-shown.ensures ∙ c.if-shown.false))

pub returns-clause-unshown : goal.returns-clause-unshown
returns-clause-unshown g c = λ asked wanted unshown.
    let both : Some (asked_of c.in-Ok.asked) ≡ Some asked = sym c.in-Ok.ensures.read ∙ wanted in
    let same : asked_of c.in-Ok.asked ≡ asked = cc both in
    let ran = subst (λ (a : Asked). RunsAsked g.S.Store.read_gives g.S.Store.write_gives g.I.Input.remaining g.I.Input.failures g.O.Output.taken g.O.Output.failures (Says g.E.Output.taken g.E.Output.failures a c.args.err.now c.obey-2.new.err) a c.args.store.now.store c.obey-2.new.store c.args.input.now c.obey-2.new.input c.args.out.now.out c.obey-2.new.out c.obey-2.result) same c.obey-2.ensures.done in
    (ran, refl, refl)

use Rattle.std.proofs.Common.{subst, rules, ◌∙◌}
use Rattle.std.proofs.KnownBytes.{Appends-trans}
use Rattle.std.specs.Io.KnownBytes.{Appends}
use Rattle.outputs.proofs.Fronts.{take-rest, no_failure}
use Rattle.outputs.proofs.output.write_whole.Goals as goal

pub loop-at-preserved : goal.loop-at-preserved
loop-at-preserved g c =
    let text = c.args.text.now in
    record {
      within = search rules;
      so_far = subst (λ bs. Appends (g.O.Output.taken c.args.out.now) (g.O.Output.taken c.write.new.self) bs)
          (take-rest text c.loop-at.at c.in_ok-n.n c.loop-at.invariant.within)
          (Appends-trans _ _ _ _ _ c.loop-at.invariant.so_far c.in_ok-n.ensures.bytes);
      quiet = no_failure c.write.result c.in_ok-n.n _ _ _ c.in_ok-n.was c.if-n-eq0.false c.write.ensures.failures ∙ c.loop-at.invariant.quiet;
    }

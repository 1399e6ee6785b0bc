use Rattle.std.proofs.Common.{◌∙◌, ap, sym, arith}
use Rattle.asm_text.specs.Source.{lines_of}
use Rattle.assembler.specs.Placed.{IsPlaceFault}
use Rattle.assembler.specs.Sweeps.{at_first, swept}
use Rattle.assembler.specs.Views.{state_of}
use Rattle.assembler.proofs.PlaceLemmas.{fault_at_once, placed_all, refused_as, so_far_all, so_far_one, sweep_fault, swept_next}
use Rattle.assembler.proofs.RefuseSweep.{Texts}
use Rattle.assembler.proofs.RefuseText.{read_least}
use Rattle.assembler.proofs.placed.placed_lines.Goals as goal

pub returns-in_err-place_line-clause-refused : goal.returns-in_err-place_line-clause-refused
returns-in_err-place_line-clause-refused c =
    let spells = c.lines_are_spelled.ensures.read in
    let reads = c.lines_are_spelled.ensures.spelled in
    let texts : Texts = record { spells = spells; reads = reads; least = read_least spells reads } in
    refused_as c.from_residual.result c.in_err-place_line.field-0.0 (IsPlaceFault c.args.source.now) c.from_residual.ensures.1
    (fault_at_once texts c.args.source.now c.in_err-place_line.field-0.0
    (sweep_fault c.args.source.now c.in-Some.text.now (lines_of c.loop-text.rest.now) (lines_of c.in-Some.after.now)
    (state_of c.loop-text.sweep) c.loop-text.number c.in_err-place_line.field-0.0 c.loop-text.invariant.same
    c.in-Some.ensures.0 c.in_err-place_line.ensures.fault))

pub loop-text-preserved : goal.loop-text-preserved
loop-text-preserved c =
    let source = lines_of c.args.source.now in
    let line = c.in-Some.text.now in
    let rest = lines_of c.in-Some.after.now in
    record {
      within = c.in_ok-place_line.ensures.within;
      count = omega (arith, c.loop-text.invariant.count, c.in-Some.ensures.1);
      same =
          swept_next (state_of c.loop-text.sweep) c.loop-text.number (lines_of c.loop-text.rest.now) line rest
          (state_of c.place_line.new.sweep) (swept at_first 1 source) c.loop-text.invariant.same c.in-Some.ensures.0
          c.in_ok-place_line.ensures.ok;
      places =
          rw c.in_ok-push.ensures.items
          (so_far_one source (lines_of c.loop-text.rest.now) line rest c.loop-text.sweep c.loop-text.number
          c.place_line.new.sweep c.loop-text.placed.items c.in_ok-place_line.field-0 c.loop-text.invariant.places
          c.in-Some.ensures.0 c.in_ok-place_line.ensures.ok c.in_ok-place_line.ensures.at c.in_ok-place_line.ensures.words);
    }

pub returns-clause-ok : goal.returns-clause-ok
unfolding swept
returns-clause-ok c =
    let spells = c.lines_are_spelled.ensures.read in
    let reads = c.lines_are_spelled.ensures.spelled in
    let texts : Texts = record { spells = spells; reads = reads; least = read_least spells reads } in
    placed_all texts c.args.source.now (state_of c.loop-text.sweep) c.loop-text.placed.items
    (sym c.loop-text.invariant.same ∙ ap (swept (state_of c.loop-text.sweep) c.loop-text.number) c.in_default.ensures)
    (so_far_all (lines_of c.args.source.now) (lines_of c.loop-text.rest.now) c.loop-text.sweep.at c.loop-text.placed.items
    c.loop-text.invariant.places c.in_default.ensures)

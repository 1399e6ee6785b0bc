use Rattle.std.proofs.Common.{◌≡◌, ◌∙◌, ◌-◌, ◌++◌, ap, arith, flat_map, length}
use Rattle.std.specs.List.{range_with_len}
use Rattle.text_graph.specs.Stretches.{between}
use Rattle.text_graph.specs.Parts.{scene_of}
use Rattle.text_graph.specs.Text.{begun}
use Rattle.text_graph.proofs.DrawLaws.{number_more, numbers_end}
use Rattle.text_graph.proofs.document.put_stretches.Goals as goal

pub loop-number-preserved : goal.loop-number-preserved
loop-number-preserved c =
    let d = c.args.drawn in
    let f = begun (scene_of d) in
    let exit = length d.graph.now.places in
    number_more f c.loop-number.number exit c.loop-number.out.items c.put_begun.new.out.items (c.args.out.now.items ++ flat_map f (between 0 exit))
    c.loop-number.invariant (omega (arith, c.loop-number-test.true, ap length c.places-number-end.ensures.value)) c.in_ok-put_begun.ensures

pub returns : goal.returns
returns c =
    let d = c.args.drawn in
    let f = begun (scene_of d) in
    let exit = length d.graph.now.places in
    let whole : exit - 0 ≡ exit = omega arith in
    numbers_end f c.loop-number.number exit c.loop-number.out.items (c.args.out.now.items ++ flat_map f (between 0 exit)) c.loop-number.invariant
    (omega (arith, c.loop-number-test.false, ap length c.places-number-end.ensures.value))
    ∙ ap (λ n. c.args.out.now.items ++ flat_map f (range_with_len 0 n)) whole

use Rattle.std.proofs.lemmas.Result.{IfErr-weaker}
use Rattle.handlers.proofs.PlacingLemmas.{runnable_memory}
use Rattle.handlers.proofs.placing.place.Goals as goal
use Rattle.sources.specs.File.{file_of}

pub returns : goal.returns
returns c =
    let source = (file_of c.args.source) in
    let said = c.in_ok-said.ensures.is.said in
    record {
      placed = c.place_image.ensures.placed source said;
      fault = c.place_image.ensures.fault source said;
      only = λ able. IfErr-weaker c.place_image.result _ _
          (λ e h. runnable_memory source c.args.machine.now c.args.profile e h able)
          (c.place_image.ensures.fault source said);
    }

use Rattle.std.proofs.Common.{ap}
use Rattle.image.specs.Labels.{address_of}
use Rattle.sources.specs.File.{file_of}
use Rattle.sources.proofs.SourceLaws.{image_refused, image_said}
use Rattle.sources.proofs.read.read_words.Goals as goal

pub returns-in_err-image-clause-fault : goal.returns-in_err-image-clause-fault
returns-in_err-image-clause-fault c =
    image_refused (file_of c.args.file) c.in_err-image.field-0.0 c.from_residual.result c.from_residual.ensures.1 c.requires c.in_err-image.ensures.fault

pub returns-clause-is : goal.returns-clause-is
returns-clause-is c = record {
  said = image_said (file_of c.args.file) c.in_ok-image.image (address_of c.new.result) c.requires c.in_ok-image.ensures.image (ap address_of c.new.ensures);
  text = c.requires;
}

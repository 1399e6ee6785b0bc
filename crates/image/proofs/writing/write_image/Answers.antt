use Rattle.std.proofs.Common.{◌≡◌, ◌∙◌, ℕ, List, ap, rules}
use Rattle.image.specs.ImageBytes.{image_bytes, image_read, segments_of}
use Rattle.image.proofs.SpellLemmas.{spelled_read}
use Rattle.image.proofs.WrittenLemmas.{segments_spell}
use Rattle.image.proofs.writing.write_image.Goals as goal

pub returns-clause-back : goal.returns-clause-back
returns-clause-back c =
    let words = c.args.image.now in
    let is : c.push_segments.new.bytes.items ≡ image_bytes (segments_of words) = search rules in
    ap (λ (bytes : List ℕ). image_read bytes) is ∙ spelled_read (segments_of words) words (segments_spell words c.whole.ensures)

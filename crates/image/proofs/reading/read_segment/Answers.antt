use Rattle.std.proofs.Common.{◌≡◌, ◌∙◌, ◌+◌, ◌*◌, ◌-◌, ℕ, List, ap, drop, length, length-drop, sym, arith, rules}
use Rattle.std.proofs.lemmas.List.{take_all}
use Rattle.image.specs.ImageBytes.{numbers, with_words}
use Rattle.image.proofs.SpellLemmas.{read_step}
use Rattle.image.proofs.reading.read_segment.Goals as goal

pub returns-clause-rest : goal.returns-clause-rest
returns-clause-rest c =
    let bytes = c.args.bytes.now in
    let address = c.of-head.result.address in
    let count = c.of-head.result.count in
    let len = length-drop 8 bytes in
    let words : with_words c.args.image.now address (numbers count (drop 8 bytes)) ≡ c.put_segment.new.self =
    ap (λ (bs : List ℕ). with_words c.args.image.now address (numbers count bs)) (sym (take_all (length bytes - 8) (drop 8 bytes) (omega (arith, len)))) ∙ sym c.in_ok-put_segment.ensures.ok in
    let long = length-drop (8 + 4 * count) bytes in
    let rest = sym (take_all (length bytes - (8 + 4 * count)) (drop (8 + 4 * count) bytes) (omega (arith, long))) in
    read_step c.args.others c.args.image.now c.put_segment.new.self bytes _ address count (sym c.of-head.ensures.address) (sym c.of-head.ensures.count) (search rules) (search rules) words rest

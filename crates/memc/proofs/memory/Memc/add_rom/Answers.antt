use Rattle.std.proofs.Common.{◌≡◌, ◌∙◌, ℕ, List, ap, sym}
use Rattle.memc.specs.Memory.{with_words, rom_word}
use Rattle.memc.proofs.Rom.{insert-with_word, rom_word-with_words, with_next, with_rest}
use Rattle.memc.proofs.memory.Memc.add_rom.Goals as goal

pub loop-address-preserved : goal.loop-address-preserved
loop-address-preserved c =
    rw (c.in_ok-insert.ensures.entries ∙ insert-with_word c.loop-address.rom.entries _ _)
    (with_next c.loop-address.rom.entries c.args.words.now c.loop-address.address-index (0, 0) c.loop-address-test.true ∙ c.loop-address.invariant)

pub returns-clause-words : goal.returns-clause-words
returns-clause-words c address =
    let all : c.loop-address.rom.entries ≡ with_words c.args.self.now.rom c.args.words.now = sym (with_rest c.loop-address.rom.entries c.args.words.now c.loop-address.address-index c.loop-address-test.false) ∙ c.loop-address.invariant in
    ap (λ (rom : List (ℕ × ℕ)). rom_word rom address) all ∙ rom_word-with_words c.args.words.now c.args.self.now.rom address

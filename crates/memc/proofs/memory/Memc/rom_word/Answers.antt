use Rattle.std.proofs.Common.{◌∙◌, ◌*◌, ◌/◌, ap, Option, ℕ}
use Rattle.std.specs.Option.{unwrap_or}
use Rattle.memc.proofs.Rom.{lookup-rom_word}
use Rattle.memc.proofs.memory.Memc.rom_word.Goals as goal

pub returns : goal.returns
returns c =
    rw (← c.self.view_is)
    (c.unwrap_or.ensures ∙ ap (λ (o : Option ℕ). unwrap_or o 0) (c.copied.ensures ∙ c.get.ensures.value) ∙ lookup-rom_word c.self.inside.rom.entries (c.args.address / 4 * 4))

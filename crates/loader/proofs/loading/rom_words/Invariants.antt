use Rattle.std.proofs.Common.{◌≡◌, ◌++◌, drop}
use Rattle.loader.specs.Loading.{lacks_page, rom_words}
use Rattle.loader.proofs.loading.rom_words.Given as goal

abbrev pub invariant-loop-address : goal.invariant-loop-address
invariant-loop-address l = record {
  rom : l.rom.items ++ rom_words l.memc (drop l.address-index l.words) ≡ rom_words l.memc l.words;
  fits : lacks_page l.memc l.words ≡ lacks_page l.memc (drop l.address-index l.words);
}

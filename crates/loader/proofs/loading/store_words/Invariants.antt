use Rattle.std.proofs.Common.{◌≡◌, drop}
use Rattle.loader.specs.Loading.{with_ram}
use Rattle.loader.proofs.loading.store_words.Given as goal

abbrev pub invariant-loop-address : goal.invariant-loop-address
invariant-loop-address l = with_ram (drop l.address-index l.words) l.memc ≡ with_ram l.words l.fn.memc

use Rattle.loader.proofs.LoadLemmas.{put_all, put_next}
use Rattle.loader.proofs.loading.store_words.Goals as goal

pub loop-address-preserved : goal.loop-address-preserved
loop-address-preserved c = put_next c.loop-address.memc c.store_word.new.memc _ c.args.words.now c.loop-address.address-index c.loop-address-test.true c.loop-address.invariant c.store_word.ensures

pub returns : goal.returns
returns c = put_all c.loop-address.memc _ c.args.words.now c.loop-address.address-index c.loop-address-test.false c.loop-address.invariant

use Rattle.flow_graph.proofs.SettingSets.{block_sets}
use Rattle.flow_graph.proofs.tight_setting.of_block.Goals as goal

pub returns : goal.returns
returns c =
    let words = c.word_count-words.ensures.count in
    rw (c.transfer_setting.ensures, c.word_address-last.ensures.address, words, c.is_listed.ensures)
    (block_sets c.args.aim.now c.args.x.now c.start-first.result c.base_of_block.result (rw words at c.start-first.ensures) (rw words at c.base_of_block.ensures))

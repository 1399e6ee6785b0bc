use Rattle.arm2_transfer.proofs.BaseLemmas.{block_base, single_base}
use Rattle.arm2_transfer.proofs.law.bases_after_transfers.Goals as goal

pub returns-clause-single : goal.returns-clause-single
returns-clause-single c = single_base

pub returns-clause-block : goal.returns-clause-block
returns-clause-block c = block_base

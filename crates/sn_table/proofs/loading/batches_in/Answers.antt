use Rattle.sn_table.specs.Facts.{counted_store}
use Rattle.sn_table.proofs.loading.batches_in.Goals as goal

pub returns : goal.returns
returns c = λ batches store. counted_store c.args.owner c.args.bytes.now batches c.batches_in.result store c.batches_in.ensures.counted c.batches_in.ensures.refused

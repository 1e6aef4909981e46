use Rattle.sn_items.specs.ItemRefusals.{BothRead}
use Rattle.sn_items.proofs.ItemLemmas.{content_cause}
use Rattle.sn_string.specs.Parts.{reading_of}
use Rattle.sn_items.proofs.items.open_item.Goals as goal

pub returns-clause-err : goal.returns-clause-err
returns-clause-err c =
    let sealed = c.args.sealed.now in
    let read : BothRead sealed (reading_of c.in_ok-enc.enc) (reading_of c.in_ok-enc.content) = c.in_ok-enc.ensures.read in
    content_cause sealed c.args.uuid c.in-Ok.key c.args.set.now c.in-Err-item_content.error c.in_ok-enc.ensures.carries
    (c.in-Ok.ensures.ok sealed.enc read.enc_reads) (c.in-Err-item_content.ensures.err sealed.content read.content_reads)

use Rattle.std.proofs.Common.{refl, rules}
use Rattle.sn_sending.proofs.SendLemmas.{takes_one}
use Rattle.sn_sending.proofs.sending.Chosen.take.Goals as goal

pub returns : goal.returns
returns c =
    takes_one c.args.number c.args.item.now c.args.self.now c.post.new.self _ c.in_ok-message.message c.in_ok-post.ensures.posts c.in_ok-post.ensures.items
    c.in_ok-post.ensures.bytes c.in_ok-message.ensures refl refl (search rules) (search rules)

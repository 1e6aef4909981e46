use Rattle.std.proofs.Common.{Some}
use Rattle.std.specs.BTreeMap.{get_by}
use Rattle.std.specs.Cmp.Lexicographic.{slice_cmp}
use Rattle.std.specs.Ordering.{nat_cmp}
use Rattle.std.proofs.lemmas.Map.Text.{btree_map_updates_str}
use Rattle.sn_account.specs.Lookups.{Bytes}
use Rattle.sn_account.proofs.MetLemmas.{text_added}
use Rattle.sn_account.proofs.apart.is_first.Goals as goal

pub returns-in-Ok-clause-seen : goal.returns-in-Ok-clause-seen
returns-in-Ok-clause-seen c = λ (other : Bytes).
    text_added c.args.text.now other (get_by (λ k. slice_cmp nat_cmp other k.now) c.args.seen.now) (get_by (λ k. slice_cmp nat_cmp other k.now) c.insert.new.self)
    (btree_map_updates_str c.args.text.now c.args.seen.now c.insert.new.self (Some tt) c.in-Ok.ensures.updates other)

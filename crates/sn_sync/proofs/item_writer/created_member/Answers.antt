use Rattle.std.proofs.Common.{refl}
use Rattle.std.proofs.lemmas.Result.{on_ok_weaker}
use Rattle.serde_json.specs.Data.{null, string}
use Rattle.sn_sync.proofs.item_writer.created_member.Goals as goal

pub returns-in-Some : goal.returns-in-Some
returns-in-Some c =
    on_ok_weaker c.stamp_member.result (λ w. (string w.0, rw c.in-Some.is (w.0, w.1, refl), w.2)) c.stamp_member.ensures

pub returns-in-None : goal.returns-in-None
returns-in-None c = on_ok_weaker c.null_member.result (λ w. (null, rw c.in-None.is refl, w)) c.null_member.ensures

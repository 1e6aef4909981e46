use Rattle.std.proofs.Common.{codes, refl}
use Rattle.std.proofs.lemmas.Result.{on_ok_weaker}
use Rattle.serde_json.specs.Data.{Data, member, no_members, object, string}
use Rattle.sn_sync.specs.Answers.{content_error, sync_conflict, uuid_conflict}
use Rattle.sn_sync.specs.Members.{Bytes}
use Rattle.sn_sync.proofs.answer_writer.write_conflict.Goals as goal

abbrev server_data : Data → Data
server_data inner = object (member (codes "server_item") inner (member (codes "type") (string sync_conflict) no_members))

abbrev unsaved_data : Bytes → Data → Data
unsaved_data conflict inner = object (member (codes "type") (string conflict) (member (codes "unsaved_item") inner no_members))

pub returns-in-Sync : goal.returns-in-Sync
returns-in-Sync c =
    on_ok_weaker c.write_sync_conflict.result (λ w. (server_data w.0, rw c.in-Sync.is (w.0, w.1, refl), w.2)) c.write_sync_conflict.ensures

pub returns-in-Uuid : goal.returns-in-Uuid
returns-in-Uuid c =
    on_ok_weaker c.write_unsaved.result (λ w. (unsaved_data uuid_conflict w.0, rw c.in-Uuid.is (w.0, w.1, refl), w.2)) c.write_unsaved.ensures

pub returns-in-Content : goal.returns-in-Content
returns-in-Content c =
    on_ok_weaker c.write_unsaved-in-Content.result
    (λ w. (unsaved_data content_error w.0, rw c.in-Content.is (w.0, w.1, refl), w.2)) c.write_unsaved-in-Content.ensures

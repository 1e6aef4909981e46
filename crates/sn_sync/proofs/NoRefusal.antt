-- What is an answer is not refused.
use Rattle.std.proofs.Common.{rules, ◌≡◌, ◌∙◌, sym, subst, inl, inr, ℕ, List, [], ◌∷◌, Option, Some, None, codes}
use Rattle.serde_json.specs.Data.{Data, Items, array, item, no_items}
use Rattle.serde_json.specs.Find.{get}
use Rattle.serde_json.specs.Read.{read}
use Rattle.sn_string.specs.declared.params.Params.{Params}
use Rattle.sn_sync.specs.Answers.{AreConflicts, IsAnswer, IsAccount, IsConflict, IsConflictType, IsParams, IsSynced, IsUser, RefusesAccount, RefusesAnswer, RefusesConflict, RefusesConflictList, RefusesConflicts, RefusesMember, RefusesOn, RefusesParams, RefusesRefused, RefusesSynced, RefusesTyped, RefusesUser, RefusesUserOf, SaysConflict, SaysConflicts, SaysItem, SaysOn, SaysRefused, SaysUser, sync_conflict, uuid_conflict, content_error}
use Rattle.sn_sync.specs.Items.{IsItem, Standing, sent, stored}
use Rattle.sn_sync.specs.Members.{Bytes}
use Rattle.sn_sync.specs.Requests.{HasBody}
use Rattle.sn_sync.specs.declared.answer.Answer.{Answer}
use Rattle.sn_sync.specs.declared.answer.Answer.TheVariants as answer
use Rattle.sn_sync.specs.declared.answer.Conflict.{Conflict}
use Rattle.sn_sync.specs.declared.answer.Conflict.TheVariants as conflict
use Rattle.sn_sync.specs.declared.error.SyncError.{SyncError}
use Rattle.sn_sync.specs.declared.item.Item.{Item}
use Rattle.sn_sync.specs.declared.request.Route.{Route}
use Rattle.sn_sync.specs.declared.request.Route.TheVariants as route
use Rattle.sn_sync.proofs.NotRefused.{item_fits, list_fits}
use Rattle.sn_sync.proofs.OneValue.{one_text}

-- a member is one list
pub same_list : (m : Option Data) (ds es : Items) → m ≡ Some (array ds) → m ≡ Some (array es) → ds ≡ es
same_list m ds es x y = let e = sym x ∙ y in cc

-- ---- conflicts

pub same_data : (m : Option Data) (d f : Data) → m ≡ Some d → m ≡ Some f → d ≡ f
same_data m d f x y = let e = sym x ∙ y in cc

no_member : (s : Standing) (name : Bytes) (m : Option Data) (i : Item) (e : SyncError) → SaysItem s m i → RefusesMember s name m e → ⊥
no_member s name None i e (d, at, right) wrong = cc
no_member s name (Some f) i e (d, at, right) wrong =
    let same : d ≡ f = cc in
    let P : Data → Type 0 = λ x. IsItem s x i in
    item_fits s name f i e (subst P same right) wrong

pub sync_not_uuid : sync_conflict ≡ uuid_conflict → ⊥
sync_not_uuid e = search (rules, e)

pub sync_not_content : sync_conflict ≡ content_error → ⊥
sync_not_content e = search (rules, e)

pub uuid_not_content : uuid_conflict ≡ content_error → ⊥
uuid_not_content e = search (rules, e)

no_typed : (d : Data) (c : Conflict) (e : SyncError) → SaysConflict d c → RefusesTyped d e → ⊥
no_typed d (conflict.Sync server) e (kind, right) (inl (_, wrong)) = no_member stored (codes "server_item") (get (codes "server_item") d) server e right wrong
no_typed d (conflict.Sync server) e (kind, right) (inr (inl (other, _))) = sync_not_uuid (one_text (get (codes "type") d) sync_conflict uuid_conflict kind other)
no_typed d (conflict.Sync server) e (kind, right) (inr (inr (other, _))) = sync_not_content (one_text (get (codes "type") d) sync_conflict content_error kind other)
no_typed d (conflict.Uuid unsaved) e (kind, right) (inl (other, _)) = sync_not_uuid (one_text (get (codes "type") d) sync_conflict uuid_conflict other kind)
no_typed d (conflict.Uuid unsaved) e (kind, right) (inr (inl (_, wrong))) = no_member sent (codes "unsaved_item") (get (codes "unsaved_item") d) unsaved e right wrong
no_typed d (conflict.Uuid unsaved) e (kind, right) (inr (inr (other, _))) = uuid_not_content (one_text (get (codes "type") d) uuid_conflict content_error kind other)
no_typed d (conflict.Content unsaved) e (kind, right) (inl (other, _)) = sync_not_content (one_text (get (codes "type") d) sync_conflict content_error other kind)
no_typed d (conflict.Content unsaved) e (kind, right) (inr (inl (other, _))) = uuid_not_content (one_text (get (codes "type") d) uuid_conflict content_error other kind)
no_typed d (conflict.Content unsaved) e (kind, right) (inr (inr (_, wrong))) = no_member sent (codes "unsaved_item") (get (codes "unsaved_item") d) unsaved e right wrong

has_type : (d : Data) (c : Conflict) → SaysConflict d c → IsConflictType (get (codes "type") d)
has_type d (conflict.Sync server) (kind, _) = inl kind
has_type d (conflict.Uuid unsaved) (kind, _) = inr (inl kind)
has_type d (conflict.Content unsaved) (kind, _) = inr (inr kind)

pub no_conflict : (d : Data) (c : Conflict) (e : SyncError) → IsConflict d c → RefusesConflict d e → ⊥
no_conflict d c e (object, says) (inl (none, _)) = none object
no_conflict d c e (object, says) (inr (inl (_, other, _))) = other (has_type d c says)
no_conflict d c e (object, says) (inr (inr (_, wrong))) = no_typed d c e says wrong

no_conflicts_wrong : (ds : Items) (cs : List Conflict) (e : SyncError) → AreConflicts ds cs → RefusesConflicts ds e → ⊥
no_conflicts_wrong no_items cs e are wrong = wrong
no_conflicts_wrong (item d ds) [] e are wrong = are
no_conflicts_wrong (item d ds) (c ∷ cs) e are (inl wrong) = no_conflict d c e are.0 wrong
no_conflicts_wrong (item d ds) (c ∷ cs) e are (inr (_, wrong)) = no_conflicts_wrong ds cs e are.1 wrong

pub no_conflict_list : (m : Option Data) (cs : List Conflict) (e : SyncError) → SaysConflicts m cs → RefusesConflictList m e → ⊥
no_conflict_list m cs e (ds, at, are) (inl (never, _)) = never ds at
no_conflict_list m cs e (ds, at, are) (inr (es, there, wrong)) =
    let P : Items → Type 0 = λ x. AreConflicts x cs in
    no_conflicts_wrong es cs e (subst P (same_list m ds es at there) are) wrong

-- ---- each route

no_synced : (d : Data) (cs : List Conflict) (cursor : Option Bytes) (gs ss : List Item) (token : Bytes) (e : SyncError)
    → IsSynced d cs cursor gs ss token → RefusesSynced d e → ⊥
no_synced d cs cursor gs ss token e right (inl wrong) = no_conflict_list (get (codes "conflicts") d) cs e right.refused wrong
no_synced d cs cursor gs ss token e right (inr (_, inl l)) = l.0 cursor right.cursor
no_synced d cs cursor gs ss token e right (inr (_, inr (_, inl wrong))) = list_fits stored (codes "retrieved_items") (get (codes "retrieved_items") d) gs e right.given wrong
no_synced d cs cursor gs ss token e right (inr (_, inr (_, inr (_, inl wrong)))) = list_fits stored (codes "saved_items") (get (codes "saved_items") d) ss e right.kept wrong
no_synced d cs cursor gs ss token e right (inr (_, inr (_, inr (_, inr (_, inl l))))) = l.0 token right.token
no_synced d cs cursor gs ss token e right (inr (_, inr (_, inr (_, inr (_, inr (_, l)))))) = l

no_params : (d : Data) (p : Params) (e : SyncError) → IsParams d p → RefusesParams d e → ⊥
no_params d p e right (inl l) = l.0 p.identifier right.identifier
no_params d p e right (inr (_, inl l)) = l.0 p.pw_cost right.pw_cost
no_params d p e right (inr (_, inr (_, inl l))) = l.0 p.pw_nonce right.pw_nonce
no_params d p e right (inr (_, inr (_, inr (_, inl l)))) = l.0 (codes "003") right.version
no_params d p e right (inr (_, inr (_, inr (_, inr (_, l))))) = l

no_user_of : (d : Data) (identifier uuid : Bytes) (e : SyncError) → IsUser d identifier uuid → RefusesUserOf d e → ⊥
no_user_of d identifier uuid e right (inl l) = l.0 identifier right.email
no_user_of d identifier uuid e right (inr (_, inl l)) = l.0 uuid right.named
no_user_of d identifier uuid e right (inr (_, inr (_, l))) = l

no_user : (m : Option Data) (identifier uuid : Bytes) (e : SyncError) → SaysUser m identifier uuid → RefusesUser m e → ⊥
no_user m identifier uuid e (d, at, right) (inl (never, _)) = never d at right.object
no_user m identifier uuid e (d, at, right) (inr (f, there, _, wrong)) =
    let P : Data → Type 0 = λ x. IsUser x identifier uuid in
    no_user_of f identifier uuid e (subst P (same_data m d f at there) right) wrong

no_account : (d : Data) (token identifier uuid : Bytes) (e : SyncError) → IsAccount d token identifier uuid → RefusesAccount d e → ⊥
no_account d token identifier uuid e right (inl l) = l.0 token right.session
no_account d token identifier uuid e right (inr (_, wrong)) = no_user (get (codes "user") d) identifier uuid e right.user wrong

no_refused : (status : ℕ) (d : Data) (a : Answer) (e : SyncError) → SaysRefused status d a → RefusesRefused d e → ⊥
no_refused status d (answer.Refused s tag further) e (_, (inner, at, text, _)) (never, _) = never inner tag at text
no_refused status d (answer.Params params) e says wrong = says
no_refused status d (answer.Sync cs cursor gs ss token) e says wrong = says
no_refused status d (answer.Account token identifier uuid) e says wrong = says

no_accepted : (r : Route) (d : Data) (a : Answer) (e : SyncError) → SaysOn r d a → RefusesOn r d e → ⊥
no_accepted route.Params d (answer.Params params) e says wrong = no_params d params e says wrong
no_accepted route.Sync d (answer.Sync cs cursor gs ss token) e says wrong = no_synced d cs cursor gs ss token e says wrong
no_accepted route.Register d (answer.Account token identifier uuid) e says wrong = no_account d token identifier uuid e says wrong
no_accepted route.SignIn d (answer.Account token identifier uuid) e says wrong = no_account d token identifier uuid e says wrong
no_accepted route.ChangePw d (answer.Account token identifier uuid) e says wrong = no_account d token identifier uuid e says wrong
no_accepted r d a e says wrong = absurd says

-- a text is the body of one value
pub same_body : (text : Bytes) (d f : Data) → HasBody text d → HasBody text f → d ≡ f
same_body text d f x y = same_data (read text) d f x.1 y.1

pub answers_not_refused : (on : Route) (status : ℕ) (text : Bytes) (a : Answer) (e : SyncError) → IsAnswer on status text a → ¬ (RefusesAnswer on status text e)
answers_not_refused on status text a e (d, body, says) (inl (_, inl (never, _))) = never d body
answers_not_refused on status text a e (d, body, inl (_, says)) (inl (_, inr (f, other, wrong))) =
    let P : Data → Type 0 = λ x. SaysOn on x a in
    no_accepted on f a e (subst P (same_body text d f body other) says) wrong
answers_not_refused on status text a e (d, body, inr (not, says)) (inl (ok, inr wrong)) = not ok
answers_not_refused on status text a e (d, body, says) (inr (_, inl (never, _))) = never d body
answers_not_refused on status text a e (d, body, inl (ok, says)) (inr (not, inr wrong)) = not ok
answers_not_refused on status text a e (d, body, inr (_, says)) (inr (_, inr (f, other, wrong))) =
    let P : Data → Type 0 = λ x. SaysRefused status x a in
    no_refused status f a e (subst P (same_body text d f body other) says) wrong

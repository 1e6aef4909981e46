-- A text has one refusal.
use Rattle.std.proofs.Common.{◌≡◌, ◌∙◌, sym, subst, inl, inr, ℕ, List, codes, Option, Some, None}
use Rattle.serde_json.specs.Data.{Data, Items, item, no_items}
use Rattle.serde_json.specs.Find.{get}
use Rattle.sn_sync.specs.Answers.{IsConflict, IsConflictType, RefusesAccount, RefusesAnswer, RefusesConflict, RefusesConflictList, RefusesConflicts, RefusesMember, RefusesOn, RefusesParams, RefusesRefused, RefusesSynced, RefusesTyped, RefusesUser, RefusesUserOf, SaysConflicts, content_error, sync_conflict, uuid_conflict}
use Rattle.sn_sync.specs.Items.{IsItem, RefusesCreated, RefusesDeleted, RefusesItem, RefusesItems, RefusesKept, RefusesList, RefusesPlace, SaysCreated, SaysItems, SaysKind, SaysUpdated, Standing, sent, stored}
use Rattle.sn_sync.specs.Members.{Bytes, SaysCost, SaysFlag, SaysHash, SaysIdentifier, SaysNonce, SaysNullable, SaysOptional, SaysSessionToken, SaysText, SaysTextOrEmpty, SaysUuid, SaysWord}
use Rattle.sn_sync.specs.Refusals.{Done, Lacks, Next, Then}
use Rattle.sn_sync.specs.Requests.{RefusesBody, RefusesChange, RefusesCostOn, RefusesLimit, RefusesRegistration, RefusesRequest, RefusesSignIn, RefusesSync, SaysLimit, api_version}
use Rattle.sn_sync.specs.declared.answer.Conflict.{Conflict}
use Rattle.sn_sync.specs.declared.error.SyncError.{SyncError}
use Rattle.sn_sync.specs.declared.error.SyncError.TheVariants as error
use Rattle.sn_sync.specs.declared.item.Item.{Item}
use Rattle.sn_sync.specs.declared.request.Route.{Route}
use Rattle.sn_sync.specs.declared.request.Route.TheVariants as route
use Rattle.sn_sync.proofs.NoRefusal.{no_conflict, no_conflict_list, same_data, same_list, sync_not_content, sync_not_uuid, uuid_not_content}
use Rattle.sn_sync.proofs.NotRefused.{item_fits, limit_fits, list_fits}
use Rattle.sn_sync.proofs.OneRequest.{one_body}
use Rattle.sn_sync.proofs.OneValue.{one_number, one_text}

-- two refusals by these rules are one
abbrev OneOf : (SyncError → Type 0) → Type 0
OneOf refuses = (e f : SyncError) → refuses e → refuses f → e ≡ f

-- ---- chains

one_next : (right : Type 0) (refused later : SyncError → Type 0) → ((e : SyncError) → refused e → right → ⊥) → OneOf refused → OneOf later
    → OneOf (Next right refused later)
one_next right refused later apart one others e f (inl x) (inl y) = one e f x y
one_next right refused later apart one others e f (inl x) (inr y) = absurd (apart e x y.0)
one_next right refused later apart one others e f (inr x) (inl y) = absurd (apart f y x.0)
one_next right refused later apart one others e f (inr x) (inr y) = others e f x.1 y.1

one_lacks : {A : Type 0} (says : A → Type 0) (name : Bytes) → OneOf (Lacks says name)
one_lacks says name e f x y = x.1 ∙ sym y.1

one_then : {A : Type 0} (says : A → Type 0) (name : Bytes) (later : SyncError → Type 0) → OneOf later → OneOf (Then says name later)
one_then {A = A} says name later others =
    one_next ((a : A) × says a) (Lacks says name) later (λ e lacks right. lacks.0 right.0 right.1) (one_lacks says name) others

one_done : OneOf Done
one_done e f x y = absurd x

-- ---- items

one_place : (standing : Standing) (d : Data) → OneOf (RefusesPlace standing d)
one_place standing d = one_then (SaysUpdated standing (get (codes "updated_at") d)) (codes "updated_at") (Then (SaysUuid (get (codes "uuid") d)) (codes "uuid") Done)
    (one_then (SaysUuid (get (codes "uuid") d)) (codes "uuid") Done one_done)

one_created : (standing : Standing) (d : Data) (later : SyncError → Type 0) → OneOf later → OneOf (RefusesCreated standing d later)
one_created standing d later others = one_then (SaysCreated standing (get (codes "created_at") d)) (codes "created_at") later others

one_deleted : (standing : Standing) (d : Data) → OneOf (RefusesDeleted standing d)
one_deleted standing d = one_then (SaysKind 0 (get (codes "content_type") d)) (codes "content_type") (RefusesCreated standing d (RefusesPlace standing d))
    (one_created standing d (RefusesPlace standing d) (one_place standing d))

abbrev KeyOn : Standing → Data → SyncError → Type 0
KeyOn standing d = Then (SaysTextOrEmpty (get (codes "enc_item_key") d)) (codes "enc_item_key") (RefusesPlace standing d)

abbrev FlagOn : Standing → Data → SyncError → Type 0
FlagOn standing d = Then (SaysFlag (get (codes "deleted") d)) (codes "deleted") (KeyOn standing d)

abbrev KindOn : Standing → Data → SyncError → Type 0
KindOn standing d = Then (SaysKind 1 (get (codes "content_type") d)) (codes "content_type") (RefusesCreated standing d (FlagOn standing d))

one_kept : (standing : Standing) (d : Data) → OneOf (RefusesKept standing d)
one_kept standing d =
    let key = one_then (SaysTextOrEmpty (get (codes "enc_item_key") d)) (codes "enc_item_key") (RefusesPlace standing d) (one_place standing d) in
    let flag = one_then (SaysFlag (get (codes "deleted") d)) (codes "deleted") (KeyOn standing d) key in
    let created = one_created standing d (FlagOn standing d) flag in
    let kind = one_then (SaysKind 1 (get (codes "content_type") d)) (codes "content_type") (RefusesCreated standing d (FlagOn standing d)) created in
    one_then (SaysTextOrEmpty (get (codes "content") d)) (codes "content") (KindOn standing d) kind

one_item : (standing : Standing) (outer : Bytes) (d : Data) → OneOf (RefusesItem standing outer d)
one_item standing outer d e f (inl x) (inl y) = x.1 ∙ sym y.1
one_item standing outer d e f (inl x) (inr (inl y)) = absurd (x.0 y.0)
one_item standing outer d e f (inl x) (inr (inr y)) = absurd (x.0 y.0)
one_item standing outer d e f (inr (inl x)) (inl y) = absurd (y.0 x.0)
one_item standing outer d e f (inr (inl x)) (inr (inl y)) = one_deleted standing d e f x.2 y.2
one_item standing outer d e f (inr (inl x)) (inr (inr y)) = absurd (y.1 x.1)
one_item standing outer d e f (inr (inr x)) (inl y) = absurd (y.0 x.0)
one_item standing outer d e f (inr (inr x)) (inr (inl y)) = absurd (x.1 y.1)
one_item standing outer d e f (inr (inr x)) (inr (inr y)) = one_kept standing d e f x.2 y.2

one_items : (standing : Standing) (outer : Bytes) (ds : Items) → OneOf (RefusesItems standing outer ds)
one_items standing outer no_items e f x y = absurd x
one_items standing outer (item d ds) e f x y = one_next ((i : Item) × IsItem standing d i) (RefusesItem standing outer d) (RefusesItems standing outer ds)
    (λ g wrong right. item_fits standing outer d right.0 g right.1 wrong) (one_item standing outer d) (one_items standing outer ds) e f x y

one_list : (standing : Standing) (name : Bytes) (m : Option Data) → OneOf (RefusesList standing name m)
one_list standing name m e f (inl x) (inl y) = x.1 ∙ sym y.1
one_list standing name m e f (inl x) (inr (ds, at, y)) = absurd (x.0 ds at)
one_list standing name m e f (inr (ds, at, x)) (inl y) = absurd (y.0 ds at)
one_list standing name m e f (inr (ds, at, x)) (inr (es, there, y)) =
    let P : Items → Type 0 = λ z. RefusesItems standing name z e in
    one_items standing name es e f (subst P (same_list m ds es at there) x) y

-- a list of items, before what stands behind it
one_list_next : (standing : Standing) (name : Bytes) (m : Option Data) (later : SyncError → Type 0) → OneOf later
    → OneOf (Next ((is : List Item) × SaysItems standing m is) (RefusesList standing name m) later)
one_list_next standing name m later others = one_next ((is : List Item) × SaysItems standing m is) (RefusesList standing name m) later
    (λ e wrong right. list_fits standing name m right.0 e right.1 wrong) (one_list standing name m) others

-- ---- requests

one_body_refusal : (refuses : Data → SyncError → Type 0) (text : Bytes) → ((d : Data) → OneOf (refuses d)) → OneOf (RefusesBody refuses text)
one_body_refusal refuses text one e f (inl x) (inl y) = x.1 ∙ sym y.1
one_body_refusal refuses text one e f (inl x) (inr (d, has, y)) = absurd (x.0 d has)
one_body_refusal refuses text one e f (inr (d, has, x)) (inl y) = absurd (y.0 d has)
one_body_refusal refuses text one e f (inr (d, has, x)) (inr (c, also, y)) =
    let P : Data → Type 0 = λ z. refuses z e in
    one c e f (subst P (one_body text d c has also) x) y

abbrev VersionOf : Data → SyncError → Type 0
VersionOf d = Then (SaysWord (codes "003") (get (codes "version") d)) (codes "version") Done

abbrev NonceOn : Data → SyncError → Type 0
NonceOn d = Then (SaysNonce (get (codes "pw_nonce") d)) (codes "pw_nonce") (VersionOf d)

one_version : (d : Data) → OneOf (VersionOf d)
one_version d = one_then (SaysWord (codes "003") (get (codes "version") d)) (codes "version") Done one_done

one_nonce_on : (d : Data) → OneOf (NonceOn d)
one_nonce_on d = one_then (SaysNonce (get (codes "pw_nonce") d)) (codes "pw_nonce") (VersionOf d) (one_version d)

one_cost_on : (d : Data) → OneOf (RefusesCostOn d)
one_cost_on d = one_then (SaysCost (get (codes "pw_cost") d)) (codes "pw_cost") (NonceOn d) (one_nonce_on d)

one_hash_on : (name : Bytes) (d : Data) (later : SyncError → Type 0) → OneOf later → OneOf (Then (SaysHash (get name d)) name later)
one_hash_on name d later others = one_then (SaysHash (get name d)) name later others

one_registration : (d : Data) → OneOf (RefusesRegistration d)
one_registration d = one_then (SaysIdentifier (get (codes "email") d)) (codes "email") (Then (SaysHash (get (codes "password") d)) (codes "password") (RefusesCostOn d))
    (one_hash_on (codes "password") d (RefusesCostOn d) (one_cost_on d))

one_sign_in : (d : Data) → OneOf (RefusesSignIn d)
one_sign_in d = one_then (SaysIdentifier (get (codes "email") d)) (codes "email") (Then (SaysHash (get (codes "password") d)) (codes "password") Done)
    (one_hash_on (codes "password") d Done one_done)

one_change : (d : Data) → OneOf (RefusesChange d)
one_change d = one_hash_on (codes "current_password") d (Then (SaysHash (get (codes "new_password") d)) (codes "new_password") (RefusesCostOn d))
    (one_hash_on (codes "new_password") d (RefusesCostOn d) (one_cost_on d))

one_limit : (m : Option Data) → OneOf (RefusesLimit m)
one_limit m error.NotJson f x y = absurd x
one_limit m error.Memory f x y = absurd x
one_limit m (error.Member name) error.NotJson x y = absurd y
one_limit m (error.Member name) error.Memory x y = absurd y
one_limit m (error.Member name) (error.Member other) x y = let same : name ≡ other = x.0 ∙ sym y.0 in cc
one_limit m (error.Member name) (error.Limit other n) x y = absurd (x.2 n y.1)
one_limit m (error.Limit name n) error.NotJson x y = absurd y
one_limit m (error.Limit name n) error.Memory x y = absurd y
one_limit m (error.Limit name n) (error.Member other) x y = absurd (y.2 n x.1)
one_limit m (error.Limit name n) (error.Limit other k) x y =
    let same : name ≡ other = x.0 ∙ sym y.0 in
    let number : n ≡ k = one_number m n k x.1 y.1 in
    cc

abbrev TokenOf : Data → SyncError → Type 0
TokenOf d = Then (SaysOptional (get (codes "sync_token") d)) (codes "sync_token") Done

abbrev LimitOn : Data → SyncError → Type 0
LimitOn d = Next ((n : ℕ) × SaysLimit (get (codes "limit") d) n) (RefusesLimit (get (codes "limit") d)) (TokenOf d)

abbrev ItemsOn : Data → SyncError → Type 0
ItemsOn d = Next ((items : List Item) × SaysItems sent (get (codes "items") d) items) (RefusesList sent (codes "items") (get (codes "items") d)) (LimitOn d)

abbrev CursorOn : Data → SyncError → Type 0
CursorOn d = Then (SaysOptional (get (codes "cursor_token") d)) (codes "cursor_token") (ItemsOn d)

one_sync : (d : Data) → OneOf (RefusesSync d)
one_sync d =
    let token = one_then (SaysOptional (get (codes "sync_token") d)) (codes "sync_token") Done one_done in
    let bound = one_next ((n : ℕ) × SaysLimit (get (codes "limit") d) n) (RefusesLimit (get (codes "limit") d)) (TokenOf d)
    (λ e wrong right. limit_fits (get (codes "limit") d) right.0 e right.1 wrong) (one_limit (get (codes "limit") d)) token in
    let incoming = one_list_next sent (codes "items") (get (codes "items") d) (LimitOn d) bound in
    let cursor = one_then (SaysOptional (get (codes "cursor_token") d)) (codes "cursor_token") (ItemsOn d) incoming in
    one_then (SaysWord api_version (get (codes "api") d)) (codes "api") (CursorOn d) cursor

pub one_request_refusal : (on : Route) (text : Bytes) (e f : SyncError) → RefusesRequest on text e → RefusesRequest on text f → e ≡ f
one_request_refusal route.Params text e f x y = x.1 ∙ sym y.1
one_request_refusal route.Register text e f x y = one_body_refusal RefusesRegistration text one_registration e f x y
one_request_refusal route.SignIn text e f x y = one_body_refusal RefusesSignIn text one_sign_in e f x y
one_request_refusal route.ChangePw text e f x y = one_body_refusal RefusesChange text one_change e f x y
one_request_refusal route.Sync text e f x y = one_body_refusal RefusesSync text one_sync e f x y

-- ---- answers

one_user_of : (d : Data) → OneOf (RefusesUserOf d)
one_user_of d = one_then (SaysIdentifier (get (codes "email") d)) (codes "email") (Then (SaysUuid (get (codes "uuid") d)) (codes "uuid") Done)
    (one_then (SaysUuid (get (codes "uuid") d)) (codes "uuid") Done one_done)

one_user : (m : Option Data) → OneOf (RefusesUser m)
one_user m e f (inl x) (inl y) = x.1 ∙ sym y.1
one_user m e f (inl x) (inr (d, at, object, y)) = absurd (x.0 d at object)
one_user m e f (inr (d, at, object, x)) (inl y) = absurd (y.0 d at object)
one_user m e f (inr (d, at, object, x)) (inr (c, there, also, y)) =
    let P : Data → Type 0 = λ z. RefusesUserOf z e in
    one_user_of c e f (subst P (same_data m d c at there) x) y

one_account : (d : Data) → OneOf (RefusesAccount d)
one_account d = one_then (SaysSessionToken (get (codes "token") d)) (codes "token") (RefusesUser (get (codes "user") d)) (one_user (get (codes "user") d))

one_params : (d : Data) → OneOf (RefusesParams d)
one_params d = one_then (SaysIdentifier (get (codes "identifier") d)) (codes "identifier") (RefusesCostOn d) (one_cost_on d)

one_member : (standing : Standing) (name : Bytes) (m : Option Data) → OneOf (RefusesMember standing name m)
one_member standing name None e f x y = x ∙ sym y
one_member standing name (Some d) e f x y = one_item standing name d e f x y

one_typed : (d : Data) → OneOf (RefusesTyped d)
one_typed d e f (inl (kind, x)) (inl (_, y)) = one_member stored (codes "server_item") (get (codes "server_item") d) e f x y
one_typed d e f (inl (kind, x)) (inr (inl (other, y))) = absurd (sync_not_uuid (one_text (get (codes "type") d) sync_conflict uuid_conflict kind other))
one_typed d e f (inl (kind, x)) (inr (inr (other, y))) = absurd (sync_not_content (one_text (get (codes "type") d) sync_conflict content_error kind other))
one_typed d e f (inr (inl (kind, x))) (inl (other, y)) = absurd (sync_not_uuid (one_text (get (codes "type") d) sync_conflict uuid_conflict other kind))
one_typed d e f (inr (inl (kind, x))) (inr (inl (_, y))) = one_member sent (codes "unsaved_item") (get (codes "unsaved_item") d) e f x y
one_typed d e f (inr (inl (kind, x))) (inr (inr (other, y))) = absurd (uuid_not_content (one_text (get (codes "type") d) uuid_conflict content_error kind other))
one_typed d e f (inr (inr (kind, x))) (inl (other, y)) = absurd (sync_not_content (one_text (get (codes "type") d) sync_conflict content_error other kind))
one_typed d e f (inr (inr (kind, x))) (inr (inl (other, y))) = absurd (uuid_not_content (one_text (get (codes "type") d) uuid_conflict content_error other kind))
one_typed d e f (inr (inr (kind, x))) (inr (inr (_, y))) = one_member sent (codes "unsaved_item") (get (codes "unsaved_item") d) e f x y

typed : (d : Data) (e : SyncError) → RefusesTyped d e → IsConflictType (get (codes "type") d)
typed d e (inl (kind, _)) = inl kind
typed d e (inr (inl (kind, _))) = inr (inl kind)
typed d e (inr (inr (kind, _))) = inr (inr kind)

one_conflict : (d : Data) → OneOf (RefusesConflict d)
one_conflict d e f (inl x) (inl y) = x.1 ∙ sym y.1
one_conflict d e f (inl x) (inr (inl y)) = absurd (x.0 y.0)
one_conflict d e f (inl x) (inr (inr y)) = absurd (x.0 y.0)
one_conflict d e f (inr (inl x)) (inl y) = absurd (y.0 x.0)
one_conflict d e f (inr (inl x)) (inr (inl y)) = x.2 ∙ sym y.2
one_conflict d e f (inr (inl x)) (inr (inr y)) = absurd (x.1 (typed d f y.1))
one_conflict d e f (inr (inr x)) (inl y) = absurd (y.0 x.0)
one_conflict d e f (inr (inr x)) (inr (inl y)) = absurd (y.1 (typed d e x.1))
one_conflict d e f (inr (inr x)) (inr (inr y)) = one_typed d e f x.1 y.1

one_conflicts : (ds : Items) → OneOf (RefusesConflicts ds)
one_conflicts no_items e f x y = absurd x
one_conflicts (item d ds) e f x y = one_next ((c : Conflict) × IsConflict d c) (RefusesConflict d) (RefusesConflicts ds)
    (λ g wrong right. no_conflict d right.0 g right.1 wrong) (one_conflict d) (one_conflicts ds) e f x y

one_conflict_list : (m : Option Data) → OneOf (RefusesConflictList m)
one_conflict_list m e f (inl x) (inl y) = x.1 ∙ sym y.1
one_conflict_list m e f (inl x) (inr (ds, at, y)) = absurd (x.0 ds at)
one_conflict_list m e f (inr (ds, at, x)) (inl y) = absurd (y.0 ds at)
one_conflict_list m e f (inr (ds, at, x)) (inr (es, there, y)) =
    let P : Items → Type 0 = λ z. RefusesConflicts z e in
    one_conflicts es e f (subst P (same_list m ds es at there) x) y

abbrev LastTokenOf : Data → SyncError → Type 0
LastTokenOf d = Then (SaysText (get (codes "sync_token") d)) (codes "sync_token") Done

abbrev SavedOn : Data → SyncError → Type 0
SavedOn d = Next ((is : List Item) × SaysItems stored (get (codes "saved_items") d) is) (RefusesList stored (codes "saved_items") (get (codes "saved_items") d)) (LastTokenOf d)

abbrev RetrievedOn : Data → SyncError → Type 0
RetrievedOn d = Next ((is : List Item) × SaysItems stored (get (codes "retrieved_items") d) is) (RefusesList stored (codes "retrieved_items") (get (codes "retrieved_items") d)) (SavedOn d)

abbrev LastCursorOn : Data → SyncError → Type 0
LastCursorOn d = Then (SaysNullable (get (codes "cursor_token") d)) (codes "cursor_token") (RetrievedOn d)

one_synced : (d : Data) → OneOf (RefusesSynced d)
one_synced d =
    let m : Option Data = get (codes "conflicts") d in
    let token = one_then (SaysText (get (codes "sync_token") d)) (codes "sync_token") Done one_done in
    let saved = one_list_next stored (codes "saved_items") (get (codes "saved_items") d) (LastTokenOf d) token in
    let retrieved = one_list_next stored (codes "retrieved_items") (get (codes "retrieved_items") d) (SavedOn d) saved in
    let cursor = one_then (SaysNullable (get (codes "cursor_token") d)) (codes "cursor_token") (RetrievedOn d) retrieved in
    one_next ((cs : List Conflict) × SaysConflicts m cs) (RefusesConflictList m) (LastCursorOn d)
    (λ e wrong right. no_conflict_list m right.0 e right.1 wrong) (one_conflict_list m) cursor

one_refused : (d : Data) → OneOf (RefusesRefused d)
one_refused d e f x y = x.1 ∙ sym y.1

one_on : (on : Route) (d : Data) → OneOf (RefusesOn on d)
one_on route.Params d = one_params d
one_on route.Sync d = one_synced d
one_on route.Register d = one_account d
one_on route.SignIn d = one_account d
one_on route.ChangePw d = one_account d

pub one_answer_refusal : (on : Route) (status : ℕ) (text : Bytes) (e f : SyncError) → RefusesAnswer on status text e → RefusesAnswer on status text f → e ≡ f
one_answer_refusal on status text e f (inl x) (inl y) = one_body_refusal (RefusesOn on) text (one_on on) e f x.1 y.1
one_answer_refusal on status text e f (inl x) (inr y) = absurd (y.0 x.0)
one_answer_refusal on status text e f (inr x) (inl y) = absurd (x.0 y.0)
one_answer_refusal on status text e f (inr x) (inr y) = one_body_refusal RefusesRefused text one_refused e f x.1 y.1

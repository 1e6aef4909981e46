-- The text of an answer that is within its bounds says that answer.
use Rattle.std.proofs.Common.{rules, ◌≡◌, ◌≢◌, ◌⊎◌, sym, subst, ℕ, List, [], ◌∷◌, codes, Some, None, inl, inr, refl}
use Rattle.std.specs.List.{All}
use Rattle.std.proofs.lemmas.List.Elements.{All-head, All-tail}
use Rattle.serde_json.specs.Data.{Data, Items, item, no_items, string}
use Rattle.serde_json.specs.Find.{get}
use Rattle.sn_sync.specs.Answers.{AreConflicts, HasNoNumber, HasNoUuid, IsAccount, IsAnswer, IsConflict, IsParams, IsSynced, SaysError, SaysMore, SaysOn, SaysRefused}
use Rattle.sn_sync.specs.Fits.{FitsAnswer, FitsConflict, FitsMore}
use Rattle.sn_sync.specs.Members.{Bytes, IsObject}
use Rattle.sn_sync.specs.Written.{AreConflictsData, IsAnswerData, IsConflictData, WritesAnswer, error_data}
use Rattle.sn_sync.specs.declared.answer.Answer.{Answer}
use Rattle.sn_sync.specs.declared.answer.Answer.TheVariants as answer
use Rattle.sn_sync.specs.declared.answer.Conflict.{Conflict}
use Rattle.sn_sync.specs.declared.answer.Conflict.TheVariants as conflict
use Rattle.sn_sync.specs.declared.answer.More.{More}
use Rattle.sn_sync.specs.declared.answer.More.TheVariants as more
use Rattle.sn_sync.specs.declared.request.Route.{Route}
use Rattle.sn_sync.specs.declared.request.Route.TheVariants as route
use Rattle.sn_sync.proofs.ItemsBack.{AreItems-stored, IsItem-sent, IsItem-stored, SaysNullable-data, SaysUuid-data}
use Rattle.sn_sync.proofs.RequestsBack.{HasBody-json}

-- ---- conflicts

one_conflict : (c : Conflict) (d : Data) → FitsConflict c → IsConflictData c d → IsConflict d c
one_conflict (conflict.Sync server) d fits h =
    let P : Data → Type 0 = λ x. IsConflict x (conflict.Sync server) in
    subst P (sym h.2) (search rules, (refl, (h.0, refl, IsItem-stored server h.0 fits h.1)))
one_conflict (conflict.Uuid unsaved) d fits h =
    let P : Data → Type 0 = λ x. IsConflict x (conflict.Uuid unsaved) in
    subst P (sym h.2) (search rules, (refl, (h.0, refl, IsItem-sent unsaved h.0 fits h.1)))
one_conflict (conflict.Content unsaved) d fits h =
    let P : Data → Type 0 = λ x. IsConflict x (conflict.Content unsaved) in
    subst P (sym h.2) (search rules, (refl, (h.0, refl, IsItem-sent unsaved h.0 fits h.1)))

conflicts-data : (cs : List Conflict) (ds : Items) → All FitsConflict cs → AreConflictsData cs ds → AreConflicts ds cs
conflicts-data [] no_items fits h = tt
conflicts-data [] (item d ds) fits h = absurd h
conflicts-data (c ∷ cs) no_items fits h = absurd h
conflicts-data (c ∷ cs) (item d ds) fits h =
    (one_conflict c d (All-head FitsConflict c cs fits) h.0, conflicts-data cs ds (All-tail FitsConflict c cs fits) h.1)

-- ---- a refusal

no_number : (d : Data) → get (codes "number") d ≡ None → HasNoNumber d
no_number d none n says = let impossible : ⊥ = cc in impossible

no_uuid : (d : Data) → get (codes "uuid") d ≡ None → HasNoUuid d
no_uuid d none u (text, says, is) = let impossible : ⊥ = cc in impossible

more-data : (tag : Bytes) (further : More) → FitsMore further → SaysMore (error_data tag further) further
more-data tag more.Nothing fits =
    let d : Data = error_data tag more.Nothing in
    (no_number d refl, no_uuid d refl, λ name says. let impossible : ⊥ = cc in impossible)
more-data tag (more.Name name) fits =
    let d : Data = error_data tag (more.Name name) in (refl, no_number d refl, no_uuid d refl)
more-data tag (more.Number n) fits = (refl, no_uuid (error_data tag (more.Number n)) refl)
more-data tag (more.Uuid uuid) fits = (SaysUuid-data _ uuid fits refl, no_number (error_data tag (more.Uuid uuid)) refl)
more-data tag (more.Both n uuid) fits = (refl, SaysUuid-data _ uuid fits refl)

tag-data : (tag : Bytes) (further : More) → get (codes "tag") (error_data tag further) ≡ Some (string tag)
tag-data tag more.Nothing = refl
tag-data tag (more.Name name) = refl
tag-data tag (more.Number n) = refl
tag-data tag (more.Uuid uuid) = refl
tag-data tag (more.Both n uuid) = refl

-- ---- an answer

-- at the status 200, and at another
abbrev SaysAnswer : Route → ℕ → Data → Answer → Type 0
SaysAnswer on status d a = ((status ≡ 200) × SaysOn on d a) ⊎ ((status ≢ 200) × SaysRefused status d a)

account-data : (on : Route) (token identifier uuid : Bytes) (d : Data) → on ≢ route.Params → on ≢ route.Sync
    → IsAccount d token identifier uuid → SaysOn on d (answer.Account token identifier uuid)
account-data route.Register token identifier uuid d np ns h = h
account-data route.Params token identifier uuid d np ns h = absurd (np refl)
account-data route.SignIn token identifier uuid d np ns h = h
account-data route.ChangePw token identifier uuid d np ns h = h
account-data route.Sync token identifier uuid d np ns h = absurd (ns refl)

says-data : (on : Route) (status : ℕ) (a : Answer) (d : Data) → FitsAnswer on status a → IsAnswerData a d → SaysAnswer on status d a
says-data on status (answer.Account token identifier uuid) d fits is =
    let P : Data → Type 0 = λ x. IsAccount x token identifier uuid in
    inl (
      fits.2,
      account-data on token identifier uuid d fits.0 fits.1 (subst P (sym is) (record {
        session = (refl, fits.3);
        user = (_, refl, record { object = search rules; email = (refl, fits.4); named = SaysUuid-data _ uuid fits.5 refl });
      })),
    )
says-data on status (answer.Params params) d fits is =
    let P : Data → Type 0 = λ x. IsParams x params in
    let Q : Route → Type 0 = λ r. SaysOn r d (answer.Params params) in
    inl (
      fits.1,
      subst Q (sym fits.0) (subst P (sym is) (record {
        identifier = (refl, params.identifier_fits);
        pw_cost = (refl, params.cost_fits);
        pw_nonce = (refl, params.nonce_fits);
        version = (refl, refl);
      })),
    )
says-data on status (answer.Sync conflicts cursor_token retrieved saved sync_token) d fits is =
    let P : Data → Type 0 = λ x. IsSynced x conflicts cursor_token retrieved saved sync_token in
    let Q : Route → Type 0 = λ r. SaysOn r d (answer.Sync conflicts cursor_token retrieved saved sync_token) in
    inl (
      fits.1,
      subst Q (sym fits.0) (subst P (sym is.6) (record {
        refused = (is.0, refl, conflicts-data conflicts is.0 fits.2 is.3);
        cursor = SaysNullable-data _ cursor_token refl;
        given = (is.1, refl, AreItems-stored retrieved is.1 fits.3 is.4);
        kept = (is.2, refl, AreItems-stored saved is.2 fits.4 is.5);
        token = refl;
      })),
    )
says-data on status (answer.Refused s tag further) d fits is =
    let P : Data → Type 0 = λ x. SaysError (get (codes "error") x) tag further in
    inr (fits.1, (fits.0, subst P (sym is) (error_data tag further, refl, tag-data tag further, more-data tag further fits.2)))

object-data : (a : Answer) (d : Data) → IsAnswerData a d → IsObject d
object-data (answer.Account token identifier uuid) d is = subst IsObject (sym is) (search rules)
object-data (answer.Params params) d is = subst IsObject (sym is) (search rules)
object-data (answer.Sync conflicts cursor_token retrieved saved sync_token) d is = subst IsObject (sym is.6) (search rules)
object-data (answer.Refused status tag further) d is = subst IsObject (sym is) (search rules)

pub answers_read_back : (on : Route) (status : ℕ) (a : Answer) (text : Bytes) → FitsAnswer on status a → WritesAnswer a text → IsAnswer on status text a
answers_read_back on status a text fits (d, is, h) = (d, HasBody-json d text (object-data a d is) h, says-data on status a d fits is)

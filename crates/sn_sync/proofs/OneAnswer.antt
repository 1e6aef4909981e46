-- A text says one answer, since a stamp's text is that of one stamp.
use Rattle.std.proofs.Common.{◌≡◌, ◌∙◌, sym, ap, subst, inl, inr, refl, ℕ, List, [], ◌∷◌, Option, Some, None, codes}
use Rattle.serde_json.specs.Data.{Data, Items, item, no_items}
use Rattle.serde_json.specs.Find.{get}
use Rattle.sn_string.specs.declared.params.Params.{Params}
use Rattle.sn_string.proofs.Facts.{same_params}
use Rattle.sn_sync.specs.Answers.{AreConflicts, IsAnswer, IsAccount, IsParams, IsSynced, IsUser, SaysConflict, SaysConflicts, SaysError, SaysItem, SaysMore, SaysOn, SaysRefused, SaysUser, sync_conflict, uuid_conflict, content_error}
use Rattle.sn_sync.specs.Items.{IsItem, SaysItems, Standing, sent, stored}
use Rattle.sn_sync.specs.Laws.{HasOneStamp}
use Rattle.sn_sync.specs.Members.{Bytes, SaysNullable, SaysText}
use Rattle.sn_sync.specs.Stamps.{IsStampText}
use Rattle.sn_sync.specs.declared.answer.Answer.{Answer}
use Rattle.sn_sync.specs.declared.answer.Answer.TheVariants as answer
use Rattle.sn_sync.specs.declared.answer.Conflict.{Conflict}
use Rattle.sn_sync.specs.declared.answer.Conflict.TheVariants as conflict
use Rattle.sn_sync.specs.declared.answer.More.{More}
use Rattle.sn_sync.specs.declared.answer.More.TheVariants as more
use Rattle.sn_sync.specs.declared.item.Item.{Item}
use Rattle.sn_sync.specs.declared.request.Route.{Route}
use Rattle.sn_sync.specs.declared.request.Route.TheVariants as route
use Rattle.sn_sync.proofs.OneRequest.{HasOneCreated, one_created-sent, one_item, one_list}
use Rattle.sn_sync.proofs.OneValue.{one_number, one_text, one_uuid}
use Rattle.sn_sync.proofs.NoRefusal.{same_body, same_data, same_list, sync_not_content, sync_not_uuid, uuid_not_content}

-- ---- members

one_nullable : (m : Option Data) (a b : Option Bytes) → SaysNullable m a → SaysNullable m b → a ≡ b
one_nullable m None None x y = refl
one_nullable m None (Some b) x y = let e = sym x ∙ y in cc
one_nullable m (Some a) None x y = let e = sym x ∙ y in cc
one_nullable m (Some a) (Some b) x y = ap Some (one_text m a b x y)

-- ---- items

one_created : HasOneStamp → (s : Standing) → HasOneCreated s
one_created stamps sent m a b x y = one_created-sent m a b x y
one_created stamps stored m None b x y = absurd x
one_created stamps stored m (Some a) None x y = absurd y
one_created stamps stored m (Some a) (Some b) (t, x, f) (u, y, g) =
    let P : Bytes → Type 0 = λ z. IsStampText z a in
    ap Some (stamps u a b (subst P (one_text m t u x y) f) g)

one_items : HasOneStamp → (s : Standing) (m : Option Data) (is js : List Item) → SaysItems s m is → SaysItems s m js → is ≡ js
one_items stamps s m is js x y = one_list s (one_created stamps s) m is js x y

-- ---- conflicts

one_inner : HasOneStamp → (s : Standing) (m : Option Data) (i j : Item) → SaysItem s m i → SaysItem s m j → i ≡ j
one_inner stamps s m i j (d, at, x) (f, there, y) =
    let P : Data → Type 0 = λ z. IsItem s z i in
    one_item s (one_created stamps s) f i j (subst P (same_data m d f at there) x) y

one_conflict : HasOneStamp → (d : Data) (a b : Conflict) → SaysConflict d a → SaysConflict d b → a ≡ b
one_conflict stamps d (conflict.Sync i) (conflict.Sync j) (_, x) (_, y) = ap conflict.Sync (one_inner stamps stored (get (codes "server_item") d) i j x y)
one_conflict stamps d (conflict.Sync i) (conflict.Uuid j) (t, x) (u, y) = absurd (sync_not_uuid (one_text (get (codes "type") d) sync_conflict uuid_conflict t u))
one_conflict stamps d (conflict.Sync i) (conflict.Content j) (t, x) (u, y) = absurd (sync_not_content (one_text (get (codes "type") d) sync_conflict content_error t u))
one_conflict stamps d (conflict.Uuid i) (conflict.Sync j) (t, x) (u, y) = absurd (sync_not_uuid (one_text (get (codes "type") d) sync_conflict uuid_conflict u t))
one_conflict stamps d (conflict.Uuid i) (conflict.Uuid j) (_, x) (_, y) = ap conflict.Uuid (one_inner stamps sent (get (codes "unsaved_item") d) i j x y)
one_conflict stamps d (conflict.Uuid i) (conflict.Content j) (t, x) (u, y) = absurd (uuid_not_content (one_text (get (codes "type") d) uuid_conflict content_error t u))
one_conflict stamps d (conflict.Content i) (conflict.Sync j) (t, x) (u, y) = absurd (sync_not_content (one_text (get (codes "type") d) sync_conflict content_error u t))
one_conflict stamps d (conflict.Content i) (conflict.Uuid j) (t, x) (u, y) = absurd (uuid_not_content (one_text (get (codes "type") d) uuid_conflict content_error u t))
one_conflict stamps d (conflict.Content i) (conflict.Content j) (_, x) (_, y) = ap conflict.Content (one_inner stamps sent (get (codes "unsaved_item") d) i j x y)

one_conflicts : HasOneStamp → (ds : Items) (cs es : List Conflict) → AreConflicts ds cs → AreConflicts ds es → cs ≡ es
one_conflicts stamps no_items [] [] x y = refl
one_conflicts stamps no_items [] (b ∷ es) x y = absurd y
one_conflicts stamps no_items (a ∷ cs) es x y = absurd x
one_conflicts stamps (item d ds) [] es x y = absurd x
one_conflicts stamps (item d ds) (a ∷ cs) [] x y = absurd y
one_conflicts stamps (item d ds) (a ∷ cs) (b ∷ es) x y =
    let first : a ≡ b = one_conflict stamps d a b x.0.1 y.0.1 in
    let rest : cs ≡ es = one_conflicts stamps ds cs es x.1 y.1 in
    cc

one_conflict_list : HasOneStamp → (m : Option Data) (cs es : List Conflict) → SaysConflicts m cs → SaysConflicts m es → cs ≡ es
one_conflict_list stamps m cs es (ds, at, x) (fs, there, y) =
    let P : Items → Type 0 = λ z. AreConflicts z cs in
    one_conflicts stamps fs cs es (subst P (same_list m ds fs at there) x) y

-- ---- each route

one_params : (d : Data) (p q : Params) → IsParams d p → IsParams d q → p ≡ q
one_params d p q x y =
    same_params p q (one_text (get (codes "identifier") d) p.identifier q.identifier x.identifier.0 y.identifier.0)
    (one_number (get (codes "pw_cost") d) p.pw_cost q.pw_cost x.pw_cost.0 y.pw_cost.0)
    (one_text (get (codes "pw_nonce") d) p.pw_nonce q.pw_nonce x.pw_nonce.0 y.pw_nonce.0)

one_user : (m : Option Data) (a b u v : Bytes) → SaysUser m a u → SaysUser m b v → (a ≡ b) × (u ≡ v)
one_user m a b u v (d, at, x) (f, there, y) =
    let P : Data → Type 0 = λ z. IsUser z a u in
    let z : IsUser f a u = subst P (same_data m d f at there) x in
    (one_text (get (codes "email") f) a b z.email.0 y.email.0, one_uuid (get (codes "uuid") f) u v z.named y.named)

one_account : (d : Data) (t t' a b u v : Bytes) → IsAccount d t a u → IsAccount d t' b v → answer.Account t a u ≡ answer.Account t' b v
one_account d t t' a b u v x y =
    let token : t ≡ t' = one_text (get (codes "token") d) t t' x.session.0 y.session.0 in
    let user = one_user (get (codes "user") d) a b u v x.user y.user in
    let named : a ≡ b = user.0 in
    let known : u ≡ v = user.1 in
    cc

one_synced : HasOneStamp → (d : Data) (cs cs' : List Conflict) (c c' : Option Bytes) (gs gs' ss ss' : List Item) (t t' : Bytes)
    → IsSynced d cs c gs ss t → IsSynced d cs' c' gs' ss' t' → answer.Sync cs c gs ss t ≡ answer.Sync cs' c' gs' ss' t'
one_synced stamps d cs cs' c c' gs gs' ss ss' t t' x y =
    let conflicts : cs ≡ cs' = one_conflict_list stamps (get (codes "conflicts") d) cs cs' x.refused y.refused in
    let cursor : c ≡ c' = one_nullable (get (codes "cursor_token") d) c c' x.cursor y.cursor in
    let given : gs ≡ gs' = one_items stamps stored (get (codes "retrieved_items") d) gs gs' x.given y.given in
    let kept : ss ≡ ss' = one_items stamps stored (get (codes "saved_items") d) ss ss' x.kept y.kept in
    let token : t ≡ t' = one_text (get (codes "sync_token") d) t t' x.token y.token in
    cc

one_accepted : HasOneStamp → (r : Route) (d : Data) (a b : Answer) → SaysOn r d a → SaysOn r d b → a ≡ b
one_accepted stamps route.Params d (answer.Params p) (answer.Params q) x y = ap answer.Params (one_params d p q x y)
one_accepted stamps route.Sync d (answer.Sync cs c gs ss t) (answer.Sync cs' c' gs' ss' t') x y = one_synced stamps d cs cs' c c' gs gs' ss ss' t t' x y
one_accepted stamps route.Register d (answer.Account t a u) (answer.Account t' b v) x y = one_account d t t' a b u v x y
one_accepted stamps route.SignIn d (answer.Account t a u) (answer.Account t' b v) x y = one_account d t t' a b u v x y
one_accepted stamps route.ChangePw d (answer.Account t a u) (answer.Account t' b v) x y = one_account d t t' a b u v x y
one_accepted stamps route.Params d (answer.Params p) b x y = absurd y
one_accepted stamps route.Sync d (answer.Sync cs c gs ss t) b x y = absurd y
one_accepted stamps route.Register d (answer.Account t a u) b x y = absurd y
one_accepted stamps route.SignIn d (answer.Account t a u) b x y = absurd y
one_accepted stamps route.ChangePw d (answer.Account t a u) b x y = absurd y
one_accepted stamps r d a b x y = absurd x

-- ---- a refusal

one_more : (d : Data) (a b : More) → SaysMore d a → SaysMore d b → a ≡ b
one_more d (more.Both n u) (more.Both m v) x y =
    let number : n ≡ m = one_number (get (codes "number") d) n m x.0 y.0 in
    let uuid : u ≡ v = one_uuid (get (codes "uuid") d) u v x.1 y.1 in
    cc
one_more d (more.Both n u) (more.Number m) x y = absurd (y.1 u x.1)
one_more d (more.Both n u) (more.Uuid v) x y = absurd (y.1 n x.0)
one_more d (more.Both n u) (more.Name b) x y = absurd (y.1 n x.0)
one_more d (more.Both n u) more.Nothing x y = absurd (y.0 n x.0)
one_more d (more.Number n) (more.Both m v) x y = absurd (x.1 v y.1)
one_more d (more.Number n) (more.Number m) x y = ap more.Number (one_number (get (codes "number") d) n m x.0 y.0)
one_more d (more.Number n) (more.Uuid v) x y = absurd (y.1 n x.0)
one_more d (more.Number n) (more.Name b) x y = absurd (y.1 n x.0)
one_more d (more.Number n) more.Nothing x y = absurd (y.0 n x.0)
one_more d (more.Uuid u) (more.Both m v) x y = absurd (x.1 m y.0)
one_more d (more.Uuid u) (more.Number m) x y = absurd (x.1 m y.0)
one_more d (more.Uuid u) (more.Uuid v) x y = ap more.Uuid (one_uuid (get (codes "uuid") d) u v x.0 y.0)
one_more d (more.Uuid u) (more.Name b) x y = absurd (y.2 u x.0)
one_more d (more.Uuid u) more.Nothing x y = absurd (y.1 u x.0)
one_more d (more.Name a) (more.Both m v) x y = absurd (x.1 m y.0)
one_more d (more.Name a) (more.Number m) x y = absurd (x.1 m y.0)
one_more d (more.Name a) (more.Uuid v) x y = absurd (x.2 v y.0)
one_more d (more.Name a) (more.Name b) x y = ap more.Name (one_text (get (codes "name") d) a b x.0 y.0)
one_more d (more.Name a) more.Nothing x y = absurd (y.2 a x.0)
one_more d more.Nothing (more.Both m v) x y = absurd (x.0 m y.0)
one_more d more.Nothing (more.Number m) x y = absurd (x.0 m y.0)
one_more d more.Nothing (more.Uuid v) x y = absurd (x.1 v y.0)
one_more d more.Nothing (more.Name b) x y = absurd (x.2 b y.0)
one_more d more.Nothing more.Nothing x y = refl

one_error : (m : Option Data) (t t' : Bytes) (a b : More) → SaysError m t a → SaysError m t' b → (t ≡ t') × (a ≡ b)
one_error m t t' a b (d, at, tag, further) (f, there, tag', further') =
    let same = same_data m d f at there in
    let P : Data → Type 0 = λ z. SaysText (get (codes "tag") z) t in
    let Q : Data → Type 0 = λ z. SaysMore z a in
    (one_text (get (codes "tag") f) t t' (subst P same tag) tag', one_more f a b (subst Q same further) further')

one_refused : (status : ℕ) (d : Data) (a b : Answer) → SaysRefused status d a → SaysRefused status d b → a ≡ b
one_refused status d (answer.Refused s t m) (answer.Refused s' t' m') x y =
    let same : s ≡ s' = x.0 ∙ sym y.0 in
    let both = one_error (get (codes "error") d) t t' m m' x.1 y.1 in
    let tag : t ≡ t' = both.0 in
    let further : m ≡ m' = both.1 in
    cc
one_refused status d (answer.Refused s t m) b x y = absurd y
one_refused status d a b x y = absurd x

-- a text says one answer at most
pub one_answer : HasOneStamp → (on : Route) (status : ℕ) (text : Bytes) (a b : Answer) → IsAnswer on status text a → IsAnswer on status text b → a ≡ b
one_answer stamps on status text a b (d, body, inl (_, x)) (f, other, inl (_, y)) =
    let P : Data → Type 0 = λ z. SaysOn on z a in
    one_accepted stamps on f a b (subst P (same_body text d f body other) x) y
one_answer stamps on status text a b (d, body, inl (ok, _)) (f, other, inr (not, _)) = absurd (not ok)
one_answer stamps on status text a b (d, body, inr (not, _)) (f, other, inl (ok, _)) = absurd (not ok)
one_answer stamps on status text a b (d, body, inr (_, x)) (f, other, inr (_, y)) =
    let P : Data → Type 0 = λ z. SaysRefused status z a in
    one_refused status f a b (subst P (same_body text d f body other) x) y

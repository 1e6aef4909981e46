-- Each step says some moves.
use Rattle.std.proofs.Common.{◌≡◌, ℕ, List, [], ◌∷◌, Option, Some, true, false, refl, sym, subst, inl, inr, ⊎_elim}
use Rattle.std.specs.List.{AllZip}
use Rattle.rand_chacha.specs.ChaCha.{ChaCha}
use Rattle.sn_laws.specs.Lookups.{Bytes, account_named}
use Rattle.sn_laws.specs.declared.ideal.Ideal.{Ideal}
use Rattle.sn_laws.specs.declared.moves.Move.{Move}
use Rattle.sn_laws.specs.declared.ideal.Content.TheVariants as content
use Rattle.sn_laws.specs.declared.moves.Move.TheVariants.{Drop, Edit}
use Rattle.sn_rows.specs.Table.{Removes, Rows}
use Rattle.sn_rows.specs.declared.body.RowBody.TheVariants as row
use Rattle.sn_rows.specs.declared.key.Key.TheVariants as key
use Rattle.sn_rows.specs.declared.change.Change.{Change}
use Rattle.sn_shows.specs.Laws.{AccountsApart}
use Rattle.sn_string.specs.declared.params.KeySet.{KeySet}
use Rattle.sn_sync.specs.declared.request.Request.{Request}
use Rattle.sn_sync.specs.declared.request.Request.TheVariants as request
use Rattle.sn_world.proofs.AnswerSaid.{answer_said}
use Rattle.sn_world.proofs.Begun.{at_named}
use Rattle.sn_world.proofs.Deciding.{changes_say_some}
use Rattle.sn_world.proofs.Reposted.{reposted_of}
use Rattle.sn_world.proofs.Tokens.{apart_of, device_account}
use Rattle.sn_world.specs.Committing.{IsPostOf, MayAdopt, MayBegin, MayCommit, SaysAdoption, SaysCommit, SaysDeletion, SaysJoin}
use Rattle.sn_world.specs.Happens.{commits, makes, serves, starts}
use Rattle.sn_world.specs.Holds.{Holds}
use Rattle.sn_world.specs.Laws.{SaysSome}
use Rattle.sn_device.specs.Sending.{PostsAll, PutsColumns}
use Rattle.sn_device.specs.States.{IsSound, columns}
use Rattle.sn_device.specs.Steps.{Adopts, Deletes, IsUnknown, Step, What, adopts, applies, asks, begins, deletes, drafted, edits, forgets, posts, puts, renews}
use Rattle.sn_world.specs.Serving.{SaysRoute, SaysServed}
use Rattle.sn_world.specs.World.{Made, World}

pub posts_say : (rows : Rows) (name : Bytes) (numbers : List ℕ) (changes : List Change) → PostsAll rows numbers changes
    → (moves : List Move) × AllZip (IsPostOf rows name) numbers moves
posts_say rows name [] changes all = ([], tt)
posts_say rows name (n ∷ ns) [] all = absurd all
posts_say rows name (n ∷ ns) (c ∷ cs) (one, rest) =
    let behind = posts_say rows name ns cs rest in
    (_ ∷ behind.0, ((one.local, one.stands, refl), behind.1))

join_said : AccountsApart → (secret : Bytes) (w : World) (s : Ideal) → Holds secret w s → (name : Bytes) (set : KeySet) (uuid token : Bytes)
    → MayBegin secret s set uuid token → (moves : List Move) × SaysJoin s name set.params.identifier moves
join_said apart secret w s h name set uuid token may =
    let own = ((h.server.all.each may.number may.account may.at).generations _ set may.last).identifier in
    let named : account_named s set.params.identifier ≡ Some may.account =
    subst (λ (t : Bytes). account_named s t ≡ Some may.account) (sym own) (at_named s may.number may.account (apart_of apart s h.reached) may.at) in
    (_, (may.account, named, refl))

deletion_said : (rows : Rows) (name uuid : Bytes) (changes : List Change) → Deletes rows uuid changes → (moves : List Move) × SaysDeletion rows name uuid moves
deletion_said rows name uuid changes x =
    ⊎_elim
    (λ (gone : IsUnknown x.local × Removes x.change (key.Local x.number)). (Drop name x.local.uuid ∷ [], (x.number, x.local, x.stands, inl (gone.0, refl))))
    (λ (kept : ¬ (IsUnknown x.local) × PutsColumns x.change x.number (drafted (Some row.Deleted) (columns x.local))).
    (Edit name uuid x.local.kind x.local.base content.Deleted ∷ [], (x.number, x.local, x.stands, inr (kept.0, refl)))) x.change_is

-- what was sent is sent again of just the items of which that is so
adoption_said : AccountsApart → (secret : Bytes) (w : World) (s : Ideal) → Holds secret w s → (name : Bytes) (words left : ChaCha) (set : KeySet) (token : Bytes)
    (changes : List Change) → Adopts (w.devices name) words set token changes left → MayAdopt secret s name set token
    → (moves : List Move) × SaysAdoption (w.devices name) s name moves
adoption_said apart secret w s h name words left set token changes x may =
    let has = device_account apart secret w s h name may.number may.account may.device may.at may.named may.own in
    let again = reposted_of may.account x.items in (
      _,
      record {
        device = may.device;
        account = may.account;
        has = has;
        items = x.items;
        items_are = x.items_are;
        uuids = again.0;
        reposted = again.1;
        moves_are = refl;
      },
    )

commit_said : AccountsApart → (secret : Bytes) (w : World) (s : Ideal) → Holds secret w s → (name : Bytes) (what : What) (words left : ChaCha) (changes : List Change)
    → Step (w.devices name) words what changes left → MayCommit secret w.server (w.devices name) s name what
    → (moves : List Move) × SaysCommit (w.devices name) s name what changes moves
commit_said apart secret w s h name (begins set uuid token) words left changes step may = join_said apart secret w s h name set uuid token may
commit_said apart secret w s h name (renews token) words left changes step may = ([], refl)
commit_said apart secret w s h name (puts uuid kind text) words left changes step may = (_, refl)
commit_said apart secret w s h name (edits uuid text) words left changes step may = (_, (step.number, step.local, step.stands, refl))
commit_said apart secret w s h name (deletes uuid) words left changes step may = deletion_said (w.devices name) name uuid changes step.0
commit_said apart secret w s h name (posts numbers) words left changes step may = posts_say (w.devices name) name numbers changes step.0
commit_said apart secret w s h name (applies request given) words left changes step may =
    answer_said apart secret w s h name words left request given changes step may
commit_said apart secret w s h name (asks set) words left changes step may = ([], refl)
commit_said apart secret w s h name (adopts set token) words left changes step may =
    adoption_said apart secret w s h name words left set token changes step may
commit_said apart secret w s h name forgets words left changes step may = ([], refl)

-- ---- requests that are served

route_said : (server device : Rows) (name : Bytes) (first : Option KeySet) (r : Request) (changes : List Change) → IsSound device
    → (moves : List Move) × SaysRoute server device name first r changes moves
route_said server device name first (request.Register params pw) changes sound = (_, refl)
route_said server device name first (request.Params identifier) changes sound = (_, refl)
route_said server device name first (request.SignIn identifier pw) changes sound = (_, refl)
route_said server device name first (request.ChangePw token current pw cost nonce) changes sound = (_, refl)
route_said server device name first (request.Sync token items limit sync_token cursor_token) changes sound = changes_say_some server device name changes sound

served_said : (server device : Rows) (m : Made) (changes : List Change) → IsSound device → (moves : List Move) × SaysServed server device m changes moves
served_said server device m changes sound = route_said server device m.device m.begins m.request changes sound

-- ---- each step

pub says_some : AccountsApart → SaysSome
says_some apart secret w next s (starts changes stands) h does = ([], refl)
says_some apart secret w next s (makes m) h does = ([], refl)
says_some apart secret w next s (serves m now changes given true) h does = served_said w.server (w.devices m.device) m changes (h.sound m.device)
says_some apart secret w next s (serves m now changes given false) h does = ([], refl)
says_some apart secret w next s (commits name what changes true) h (x, may) = commit_said apart secret w s h name what x.words x.left changes x.step may
says_some apart secret w next s (commits name what changes false) h does = ([], refl)

-- Where a served sync seals a version again, the device that made it holds the last set of the version's account.
use Rattle.std.proofs.Common.{◌≡◌, ◌≢◌, ◌⊎◌, ℕ, List, [], ◌∷◌, ◌++◌, length, Option, Some, Bool, true, false, refl, sym, ap, ◌∙◌, subst, inl, inr, ⊎_elim, arith}
use mathlib.Core.Path.{fun_ext}
use Rattle.std.specs.Prelude.{IsTrue, if◌then◌else◌}
use Rattle.sn_account.specs.Incoming.{Progress, Takes, TakesAll}
use Rattle.sn_account.specs.Sessions.{IsSession}
use Rattle.sn_account.specs.Syncs.{Serves as ServesSync, ServesBounded, ServesFrom, Synced, Syncs, start}
use Rattle.sn_laws.proofs.Facts.{Gains, accept_gains, allowed_from, each_changed, last_item, more, one_front, one_there, rewrap_gains, sealed_again}
use Rattle.sn_laws.specs.Each.{Each, One}
use Rattle.sn_laws.specs.Lookups.{Bytes, account_for, account_of, account_with, device_named, greatest, is_account}
use Rattle.sn_laws.specs.Moves.{after, allows, changed_where, version_of}
use Rattle.sn_laws.specs.Reached.{DevicesHold, HasItem, HoldsSets, IsOneOrTwo}
use Rattle.sn_laws.specs.Relation.{MayAccept, MayRewrap}
use Rattle.sn_laws.specs.Runs.{LegalFrom, end_from}
use Rattle.sn_laws.specs.declared.ideal.Account.{Account}
use Rattle.sn_laws.specs.declared.ideal.Device.{Device}
use Rattle.sn_laws.specs.declared.ideal.Ideal.{Ideal}
use Rattle.sn_laws.specs.declared.ideal.Version.{Version}
use Rattle.sn_laws.specs.declared.moves.Move.{Move}
use Rattle.sn_laws.specs.declared.moves.Move.TheVariants.{Accept, Rewrap}
use Rattle.sn_rows.specs.Facts.{put_here}
use Rattle.sn_rows.specs.Table.{Puts, Rows, changed, key_of, row_after, rows_after, same_key, value_of}
use Rattle.sn_rows.specs.declared.change.Change.{Change}
use Rattle.sn_rows.specs.declared.change.Change.TheVariants.{Put, Remove}
use Rattle.sn_rows.specs.declared.key.Key.{Key}
use Rattle.sn_rows.specs.declared.key.Key.TheVariants as key
use Rattle.sn_rows.specs.declared.server_rows.ItemRow.{ItemRow}
use Rattle.sn_rows.specs.declared.server_rows.StoreRow.{StoreRow}
use Rattle.sn_rows.specs.declared.value.Value.{Value}
use Rattle.sn_rows.specs.declared.value.Value.TheVariants as value
use Rattle.sn_shows.specs.Laws.{AccountsApart, HasAccount}
use Rattle.sn_shows.specs.Servers.{ShowsAccounts, ShowsItem, account_at}
use Rattle.sn_string.specs.declared.params.Params.{Params}
use Rattle.sn_sync.specs.declared.answer.Answer.{Answer}
use Rattle.sn_sync.specs.declared.item.Item.{Item}
use Rattle.sn_world.proofs.HoldersMoves.{IsHeld, SealHeld, SealsHeld, greatest_held, hold_at}
use Rattle.sn_world.proofs.Lasts.{each_at_number, has_last}
use Rattle.sn_world.proofs.Lists.{each_both}
use Rattle.sn_world.proofs.Tokens.{alive_last, apart_of, device_account, few_numbers, same_owner, token_session}
use Rattle.sn_world.specs.Holds.{HasToken, Holds, IsSync, TokensDiffer}
use Rattle.sn_world.specs.Laws.{KeptBy}
use Rattle.sn_world.specs.Serving.{SaysChange, SaysChanges, SaysItem, SaysRow}
use Rattle.sn_world.specs.World.{IsMade, Made, OnServer, World}

-- ---- lists

-- one of which this holds, and what holds of each
one_with : {A : Type 0} (P Q : A → Type 0) (xs : List A) → One P xs → Each Q xs → (x : A) × P x × Q x
one_with P Q [] one each = absurd one
one_with P Q (x ∷ xs) one each = ⊎_elim (λ (h : P x). (x, h, each.0)) (λ h. one_with P Q xs h each.1) one

one_found : {A : Type 0} (P : A → Type 0) (xs : List A) → One P xs → (x : A) × One (λ y. y ≡ x) xs × P x
one_found P [] one = absurd one
one_found P (x ∷ xs) one = ⊎_elim (λ (h : P x). (x, inl refl, h)) (λ h. let rest = one_found P xs h in (rest.0, inr rest.1, rest.2)) one

one_such : {A : Type 0} (P : A → Type 0) (xs : List A) (a : A) → One (λ x. x ≡ a) xs → P a → One P xs
one_such P [] a one h = absurd one
one_such P (x ∷ xs) a one h = ⊎_elim (λ (e : x ≡ a). inl (subst P (sym e) h)) (λ k. inr (one_such P xs a k h)) one

one_kept : {A : Type 0} (P : A → Type 0) (q : A → Bool) (f : A → A) (xs : List A) → ((x : A) → P x → P (f x)) → One P xs → One P (changed_where q f xs)
one_kept P q f [] keep one = absurd one
one_kept P q f (x ∷ xs) keep one = ⊎_elim (λ (h : P x). inl (at (q x) h)) (λ h. inr (one_kept P q f xs keep h)) one
  where
    at : (b : Bool) → P x → P (if b then f x else x)
    at true h = keep x h
    at false h = h

-- ---- the rows of a batch

-- the change puts the row of an item of the account of this number, or the store's
abbrev pub IsServed : ℕ → Change → Type 0
IsServed n c =
    ((uuid : Bytes) × (row : ItemRow) × Puts c (key.Item uuid) (value.Item row) × (row.account ≡ n)) ⊎ ((row : StoreRow) × Puts c key.Store (value.Store row))

-- an item of that account stands there
abbrev pub StandsOf : ℕ → Option Value → Type 0
StandsOf n found = (row : ItemRow) × (found ≡ Some (value.Item row)) × (row.account ≡ n)

changed_stands : (n : ℕ) (uuid : Bytes) (found : Option Value) (c : Change) → IsServed n c → StandsOf n found → StandsOf n (changed found (key.Item uuid) c)
changed_stands n uuid found c (inl (other, row, puts, own)) h = at (same_key (key_of c) (key.Item uuid))
  where
    at : (b : Bool) → StandsOf n (if b then value_of c else found)
    at true = (row, puts.value_is, own)
    at false = h
changed_stands n uuid found c (inr (row, puts)) h =
    subst (λ (k : Key). StandsOf n (if same_key k (key.Item uuid) then value_of c else found)) (sym puts.key_is) h

-- and stays, whatever else a batch puts
stands_after : (n : ℕ) (uuid : Bytes) (cs : List Change) (found : Option Value) → Each (IsServed n) cs → StandsOf n found
    → StandsOf n (row_after found (key.Item uuid) cs)
stands_after n uuid [] found served h = h
stands_after n uuid (c ∷ cs) found served h =
    stands_after n uuid cs (changed found (key.Item uuid) c) served.1 (changed_stands n uuid found c served.0 h)

-- each item of a sync changes nothing, or puts a row of the session's account
takes_served : (present : Params) (now n : ℕ) (p q : Progress) (i : Item) → Takes present now n p i q → Each (IsServed n) p.changes
    → Each (IsServed n) q.changes
takes_served present now n p q i (inl (foreign, is)) h = subst (λ (x : Progress). Each (IsServed n) x.changes) (sym is) h
takes_served present now n p q i (inr (inl (row, given, held, alike, gives, is))) h = subst (λ (x : Progress). Each (IsServed n) x.changes) (sym is) h
takes_served present now n p q i (inr (inr (inl (row, given, held, other, unnamed, gives, is)))) h =
    subst (λ (x : Progress). Each (IsServed n) x.changes) (sym is) h
takes_served present now n p q i (inr (inr (inr (inl (news, bad, is))))) h = subst (λ (x : Progress). Each (IsServed n) x.changes) (sym is) h
takes_served present now n p q i (inr (inr (inr (inr (free, within, (row, change, given, puts, gives, is)))))) h =
    subst (λ (x : Progress). Each (IsServed n) x.changes) (sym is)
    (each_both (IsServed n) p.changes (change ∷ []) h (inl (i.uuid, row, puts.puts, puts.account), tt))

all_served : (present : Params) (now n : ℕ) (p q : Progress) (items : List Item) → TakesAll present now n p items q → Each (IsServed n) p.changes
    → Each (IsServed n) q.changes
all_served present now n p q [] is h = subst (λ (x : Progress). Each (IsServed n) x.changes) (sym is) h
all_served present now n p q (i ∷ items) (inl (full, is)) h = subst (λ (x : Progress). Each (IsServed n) x.changes) (sym is) h
all_served present now n p q (i ∷ items) (inr (room, (r, first, rest))) h =
    all_served present now n r q items rest (takes_served present now n p r i first h)

-- ---- the moves that it says

-- an accept; or a version is sealed again, and the rows behind the batch have one of the account's item there
abbrev pub SealsIn : Rows → ℕ → Move → Type 0
SealsIn rows n (Accept name uuid stamp under) = Unit {0}
SealsIn rows n (Rewrap uuid stamp under) = StandsOf n (rows (key.Item uuid))
SealsIn rows n m = ⊥

none_said : (rows : Rows) (n : ℕ) (moves : List Move) → moves ≡ [] → Each (SealsIn rows n) moves
none_said rows n moves is = subst (Each (SealsIn rows n)) (sym is) tt

item_said : (server device rows : Rows) (name uuid : Bytes) (row : ItemRow) (n : ℕ) (moves : List Move) → SaysItem server device name uuid row moves
    → StandsOf n (rows (key.Item uuid)) → Each (SealsIn rows n) moves
item_said server device rows name uuid row n moves (inl (sent, is)) stands = subst (Each (SealsIn rows n)) (sym is) (tt, tt)
item_said server device rows name uuid row n moves (inr (none, is)) stands = subst (Each (SealsIn rows n)) (sym is) (stands, tt)

change_said : (server device : Rows) (name : Bytes) (n : ℕ) (c : Change) (cs : List Change) (moves : List Move) → IsServed n c → Each (IsServed n) cs
    → SaysChange server device name c moves → Each (SealsIn (rows_after server (c ∷ cs)) n) moves
change_said server device name n (Remove at) cs moves (inl (uuid, row, puts, own)) served says = absurd (let no = puts.value_is in cc)
change_said server device name n (Remove at) cs moves (inr (row, puts)) served says = absurd (let no = puts.value_is in cc)
change_said server device name n (Put put) cs moves (inl (uuid, row, puts, own)) served says =
    let v : put.value ≡ value.Item row = let whole : Some put.value ≡ Some (value.Item row) = puts.value_is in cc in
    item_said server device (rows_after server (Put put ∷ cs)) name uuid row n moves
    (subst (λ (x : Value). SaysRow server device name (key.Item uuid) x moves) v
    (subst (λ (k : Key). SaysRow server device name k put.value moves) puts.key_is says))
    (stands_after n uuid cs (changed (server (key.Item uuid)) (key.Item uuid) (Put put)) served
    (row, put_here server (Put put) (key.Item uuid) (value.Item row) puts, own))
change_said server device name n (Put put) cs moves (inr (row, puts)) served says =
    none_said (rows_after server (Put put ∷ cs)) n moves
    (subst (λ (k : Key). SaysRow server device name k put.value moves) puts.key_is says)

all_said : (server device : Rows) (name : Bytes) (n : ℕ) (changes : List Change) (moves : List Move) → Each (IsServed n) changes
    → SaysChanges server device name changes moves → Each (SealsIn (rows_after server changes) n) moves
all_said server device name n [] moves served says = none_said (rows_after server []) n moves says
all_said server device name n (c ∷ cs) moves served (first, later, says, rest, is) =
    let alike : rows_after (rows_after server (c ∷ [])) cs ≡ rows_after server (c ∷ cs) = fun_ext (λ k. refl) in
    subst (Each (SealsIn (rows_after server (c ∷ cs)) n)) (sym is)
    (each_both (SealsIn (rows_after server (c ∷ cs)) n) first later (change_said server device name n c cs first served.0 served.1 says)
    (subst (λ (r : Rows). Each (SealsIn r n) later) alike (all_said (rows_after server (c ∷ [])) device name n cs later served.1 rest)))

-- they leave the devices
devices_stay : (rows : Rows) (n : ℕ) (moves : List Move) (s : Ideal) → Each (SealsIn rows n) moves → (end_from s moves).devices ≡ s.devices
devices_stay rows n [] s h = refl
devices_stay rows n (Accept name uuid stamp under ∷ ms) s h = devices_stay rows n ms (after s (Accept name uuid stamp under)) h.1
devices_stay rows n (Rewrap uuid stamp under ∷ ms) s h = devices_stay rows n ms (after s (Rewrap uuid stamp under)) h.1
devices_stay rows n (m ∷ ms) s h = absurd h.0

-- ---- the account of an item

-- an account of this identifier has the item
abbrev pub IsOwned : Ideal → Bytes → Bytes → Type 0
IsOwned s identifier uuid = One (λ (a : Account). (a.identifier ≡ identifier) × HasItem uuid a) s.accounts

gains_owned : (s t : Ideal) (item identifier uuid : Bytes) (a : Account) (w : Version) → Gains s item a w t.accounts → IsOwned s identifier uuid
    → IsOwned t identifier uuid
gains_owned s t item identifier uuid a w g h =
    subst (λ (xs : List Account). One (λ (x : Account). (x.identifier ≡ identifier) × HasItem uuid x) xs) (sym g.next_is)
    (one_kept (λ (x : Account). (x.identifier ≡ identifier) × HasItem uuid x) (is_account a.identifier) (more w) s.accounts
    (λ x k. (k.0, one_front (λ (v : Version). v.uuid ≡ uuid) x.versions (w ∷ []) k.1)) h)

owned_along : (rows : Rows) (n : ℕ) (moves : List Move) (s : Ideal) (identifier uuid : Bytes) → LegalFrom s moves → Each (SealsIn rows n) moves
    → IsOwned s identifier uuid → IsOwned (end_from s moves) identifier uuid
owned_along rows n [] s identifier uuid legal each h = h
owned_along rows n (Accept name item stamp under ∷ ms) s identifier uuid legal each h =
    let may : MayAccept s name item stamp under = allowed_from s (Accept name item stamp under) legal.0 in
    owned_along rows n ms (after s (Accept name item stamp under)) identifier uuid legal.1 each.1
    (gains_owned s (after s (Accept name item stamp under)) item identifier uuid may.account (version_of stamp (length may.account.sets) may.draft)
    (accept_gains s name item stamp under may) h)
owned_along rows n (Rewrap item stamp under ∷ ms) s identifier uuid legal each h =
    let may : MayRewrap s item stamp under = allowed_from s (Rewrap item stamp under) legal.0 in
    owned_along rows n ms (after s (Rewrap item stamp under)) identifier uuid legal.1 each.1
    (gains_owned s (after s (Rewrap item stamp under)) item identifier uuid may.account (sealed_again stamp (length may.account.sets) may.version)
    (rewrap_gains s item stamp under may) h)
owned_along rows n (m ∷ ms) s identifier uuid legal each h = absurd each.0

one_row : (r q : ItemRow) (found : Option Value) → found ≡ Some (value.Item r) → found ≡ Some (value.Item q) → r ≡ q
one_row r q found e k = cc

-- the account whose item stands in rows that show the accounts is the one that has it
owner_is : (rows : Rows) (late : Ideal) (n : ℕ) (own : Account) (identifier uuid : Bytes) → ShowsAccounts rows late.accounts
    → account_at n late.accounts ≡ Some own → StandsOf n (rows (key.Item uuid)) → IsOwned late identifier uuid → own.identifier ≡ identifier
owner_is rows late n own identifier uuid shown at (row, stands, of) owned =
    let got = one_with (λ (x : Account). (x.identifier ≡ identifier) × HasItem uuid x) (λ (x : Account). HasItem uuid x → x ≡ own) late.accounts owned
    (each_at_number (λ (x : Account). HasItem uuid x → x ≡ own) late.accounts is) in
    ap (λ (x : Account). x.identifier) (sym (got.2 got.1.1)) ∙ got.1.0
  where
    is : (k : ℕ) (x : Account) → account_at k late.accounts ≡ Some x → HasItem uuid x → x ≡ own
    is k x there has =
        let v = one_found (λ (w : Version). w.uuid ≡ uuid) x.versions has in
        let last = has_last uuid x.versions v.0 v.1 v.2 in
        let its : ShowsItem rows k x uuid last.0 = (shown.each k x there).items uuid last.0 last.1 in
        let alike : row ≡ its.row = one_row row its.row (rows (key.Item uuid)) stands its.stands in
        let number : k ≡ n = sym its.account ∙ ap (λ (r : ItemRow). r.account) (sym alike) ∙ of in
        one_there x own (account_at n late.accounts) (subst (λ (j : ℕ). account_at j late.accounts ≡ Some x) number there) at

-- ---- before each of the moves

-- the device holds the set of this number, which is its account's last one
module _ (name : Bytes) (d : Device) (number : ℕ) (holds : One (λ m. m ≡ number) d.held) (rows : Rows) (late : Ideal) (n : ℕ) (own : Account)
    (shown : ShowsAccounts rows late.accounts) (at : account_at n late.accounts ≡ Some own) (of : own.identifier ≡ d.account) where
  abbrev pub LastIs : Account → Type 0
  LastIs a = a.identifier ≡ d.account → length a.sets ≡ number

  gains_last : (s t : Ideal) (item : Bytes) (a : Account) (w : Version) → Gains s item a w t.accounts → Each LastIs s.accounts → Each LastIs t.accounts
  gains_last s t item a w g h =
      subst (Each LastIs) (sym g.next_is) (each_changed LastIs (is_account a.identifier) (more w) s.accounts h (λ x there is k. k))

  rewrap_held : (s : Ideal) (uuid : Bytes) (stamp under : ℕ) (ms : List Move) → IsTrue (allows s (Rewrap uuid stamp under)) → device_named s name ≡ Some d
      → Each LastIs s.accounts → LegalFrom (after s (Rewrap uuid stamp under)) ms → StandsOf n (rows (key.Item uuid)) → Each (SealsIn rows n) ms
      → end_from (after s (Rewrap uuid stamp under)) ms ≡ late → SealsHeld s (Rewrap uuid stamp under)
  rewrap_held s uuid stamp under ms allowed named last legal stands each ends a has =
      let may : MayRewrap s uuid stamp under = allowed_from s (Rewrap uuid stamp under) allowed in
      let g = rewrap_gains s uuid stamp under may in
      let b : Account = may.account in
      let t : Ideal = after s (Rewrap uuid stamp under) in
      let first : IsOwned s b.identifier uuid =
      one_such (λ (x : Account). (x.identifier ≡ b.identifier) × HasItem uuid x) s.accounts b g.among
      (refl, last_item uuid b.versions may.version may.last) in
      let next : IsOwned t b.identifier uuid =
      gains_owned s t uuid b.identifier uuid b (sealed_again stamp (length b.sets) may.version) g first in
      let lastly : IsOwned late b.identifier uuid =
      subst (λ (x : Ideal). IsOwned x b.identifier uuid) ends (owned_along rows n ms t b.identifier uuid legal each next) in
      let is : own.identifier ≡ b.identifier = owner_is rows late n own b.identifier uuid shown at stands lastly in
      let its : b.identifier ≡ d.account = sym is ∙ of in
      let sets = one_with (λ (x : Account). x ≡ b) LastIs s.accounts g.among last in
      let length_is : length b.sets ≡ number = subst LastIs sets.1 sets.2 its in
      subst (λ (x : Account). IsHeld s x.identifier (length x.sets)) (one_there b a (account_with s.accounts uuid) may.has has)
      (record { name = name; device = d; named = named; own = sym its; holds = subst (λ (k : ℕ). One (λ m. m ≡ k) d.held) (sym length_is) holds })

  pub seals_along : (moves : List Move) (s : Ideal) → device_named s name ≡ Some d → Each LastIs s.accounts → LegalFrom s moves → Each (SealsIn rows n) moves
      → end_from s moves ≡ late → SealHeld s moves
  seals_along [] s named last legal each ends = tt
  seals_along (Accept other uuid stamp under ∷ ms) s named last legal each ends =
      let may : MayAccept s other uuid stamp under = allowed_from s (Accept other uuid stamp under) legal.0 in (
        tt,
        seals_along ms (after s (Accept other uuid stamp under)) named
            (gains_last s (after s (Accept other uuid stamp under)) uuid may.account (version_of stamp (length may.account.sets) may.draft)
            (accept_gains s other uuid stamp under may) last) legal.1 each.1 ends,
      )
  seals_along (Rewrap uuid stamp under ∷ ms) s named last legal each ends =
      let may : MayRewrap s uuid stamp under = allowed_from s (Rewrap uuid stamp under) legal.0 in (
        rewrap_held s uuid stamp under ms legal.0 named last legal.1 each.0 each.1 ends,
        seals_along ms (after s (Rewrap uuid stamp under)) named
            (gains_last s (after s (Rewrap uuid stamp under)) uuid may.account (sealed_again stamp (length may.account.sets) may.version)
            (rewrap_gains s uuid stamp under may) last) legal.1 each.1 ends,
      )
  seals_along (m ∷ ms) s named last legal each ends = absurd each.0

-- ---- a served sync

module _ (apart : AccountsApart) (hold : DevicesHold) (secret : Bytes) (w next : World) (s : Ideal) (differ : TokensDiffer secret) (h : Holds secret w s)
    (m : Made) (made : IsMade w m) (token : Bytes) (items : List Item) (sync : IsSync m token items) (changes : List Change) (moves : List Move)
    (on : OnServer w next changes) (says : SaysChanges w.server (w.devices m.device) m.device changes moves) (kept : KeptBy secret next s moves) where
  abbrev late : Ideal
  late = end_from s moves

  abbrev tok : HasToken secret s.accounts (device_named s m.device) token
  tok = (h.syncs m token items made sync).of_device

  abbrev tok_late : HasToken secret late.accounts (device_named late m.device) token
  tok_late = (kept.1.syncs m token items (subst (λ (ms : List Made). One (λ x. x ≡ m) ms) (sym on.made) made) sync).of_device

  idle : changes ≡ [] → SealHeld s moves
  idle none =
      let no : moves ≡ [] = subst (λ (cs : List Change). SaysChanges w.server (w.devices m.device) m.device cs moves) none says in
      subst (SealHeld s) (sym no) tt

  module _ (n : ℕ) (session : IsSession w.server token n) (served : Each (IsServed n) changes) where
    abbrev d : Device
    d = tok.device

    abbrev a : Account
    a = tok.account

    number_is : tok.number ≡ n
    number_is = (token_session apart secret w s h differ m.device token tok n session).0

    at : account_at n s.accounts ≡ Some a
    at = subst (λ (k : ℕ). account_at k s.accounts ≡ Some a) number_is tok.at

    has : HasAccount s m.device d a
    has = device_account apart secret w s h m.device n a d at tok.named tok.own

    alive : greatest 0 d.held ≡ length a.sets
    alive = alive_last apart secret w s h differ m.device token tok n session

    holds : One (λ k. k ≡ length a.sets) d.held
    holds =
        let its : HoldsSets (account_of s m.device) d = hold_at hold s h.reached m.device d tok.named in
        let account_is : account_of s m.device ≡ Some a = ap (account_for s.accounts) has.device ∙ has.account in
        let is : its.account ≡ a = one_there its.account a (account_of s m.device) its.has account_is in
        greatest_held (length a.sets) d.held (subst (λ (x : Account). IsOneOrTwo (length x.sets) d.held) is its.held) (omega (arith, alive))

    last_is : Each (λ (x : Account). x.identifier ≡ d.account → length x.sets ≡ length a.sets) s.accounts
    last_is =
        each_at_number (λ (x : Account). x.identifier ≡ d.account → length x.sets ≡ length a.sets) s.accounts
        (λ k x there e.
        let number : k ≡ n = apart_of apart s h.reached k n x a there at (e ∙ sym tok.own) in
        let is : x ≡ a = one_there x a (account_at n s.accounts) (subst (λ (j : ℕ). account_at j s.accounts ≡ Some x) number there) at in
        ap (λ (y : Account). length y.sets) is)

    seals_in : Each (SealsIn next.server n) moves
    seals_in =
        subst (λ (r : Rows). Each (SealsIn r n) moves) (sym on.server) (all_said w.server (w.devices m.device) m.device n changes moves served says)

    -- the account of that number has the same identifier behind the batch
    late_number : tok_late.number ≡ n
    late_number =
        same_owner secret token tok_late.number tok.number tok_late.generation tok.generation
        (few_numbers apart secret next late kept.1 tok_late.number tok_late.account tok_late.at) (few_numbers apart secret w s h tok.number a tok.at)
        tok_late.is tok.is
        ∙ number_is

    late_at : account_at n late.accounts ≡ Some tok_late.account
    late_at = subst (λ (k : ℕ). account_at k late.accounts ≡ Some tok_late.account) late_number tok_late.at

    late_own : tok_late.account.identifier ≡ d.account
    late_own =
        let there : device_named late m.device ≡ Some d =
        ap (λ (ds : List Device). device_named (record s { devices = ds }) m.device) (devices_stay next.server n moves s seals_in) ∙ tok.named in
        let is : tok_late.device ≡ d = let both = sym tok_late.named ∙ there in cc in
        tok_late.own ∙ ap (λ (x : Device). x.account) is

    seals : SealHeld s moves
    seals =
        seals_along m.device d (length a.sets) holds next.server late n tok_late.account kept.1.server.all late_at late_own moves s tok.named last_is kept.0
        seals_in refl

  synced : (store : StoreRow) (n now limit : ℕ) (present : Params) (sync_at cursor_at : Option ℕ) (given : Answer) → IsSession w.server token n
      → Synced w.server store n present items limit sync_at cursor_at now changes given → SealHeld s moves
  synced store n now limit present sync_at cursor_at given session y =
      ⊎_elim (λ (none : (y.end.changes ≡ []) × (changes ≡ [])). idle none.1)
      (λ (some : (y.end.changes ≢ []) × ((end : Change) × (row : StoreRow) × Puts end key.Store (value.Store row)
      × (row.secret ≡ store.secret) × (row.accounts ≡ store.accounts) × (row.last ≡ y.end.last) × (changes ≡ y.end.changes ++ end ∷ []))).
      let e = some.1 in
      seals n session
      (subst (Each (IsServed n)) (sym e.6)
      (each_both (IsServed n) y.end.changes (e.0 ∷ []) (all_served present now n (start w.server store) y.end items y.taken tt) (inr (e.1, e.2), tt))))
      y.changes_are

  pub sync_seals : (store : StoreRow) (limit now : ℕ) (sync_token cursor_token : Option Bytes) (given : Answer)
      → Syncs w.server store token items limit sync_token cursor_token now changes given → SealHeld s moves
  sync_seals store limit now sync_token cursor_token given (inl (none, refused)) = idle refused.0
  sync_seals store limit now sync_token cursor_token given (inr (n, session, from)) = serves from
    where
      within : (sync_at cursor_at : Option ℕ) → ServesSync w.server store n items limit sync_at cursor_at now changes given → SealHeld s moves
      within sync_at cursor_at (p, is, inl (out, refused)) = idle refused.0
      within sync_at cursor_at (p, is, inr y) = synced store n now limit p sync_at cursor_at given session y

      bounded : (sync_at cursor_at : Option ℕ) → ServesBounded w.server store n items limit sync_at cursor_at now changes given → SealHeld s moves
      bounded sync_at cursor_at (inl (wide, refused)) = idle refused.0
      bounded sync_at cursor_at (inr (inl (few, uuid, size, long, refused))) = idle refused.0
      bounded sync_at cursor_at (inr (inr (few, short, y))) = within sync_at cursor_at y

      serves : ServesFrom w.server store n items limit sync_token cursor_token now changes given → SealHeld s moves
      serves (inl (bad, refused)) = idle refused.0
      serves (inr (inl (sync_at, is_sync, bad, refused))) = idle refused.0
      serves (inr (inr (sync_at, cursor_at, is_sync, is_cursor, y))) = bounded sync_at cursor_at y

-- Where each account has one set, what is said of a request that is served are accepts and registrations alone.
use Rattle.std.proofs.Common.{◌≡◌, ℕ, List, [], ◌∷◌, ◌++◌, Option, None, Some, false, refl, sym, ap, ◌∙◌, subst, inl, inr}
use Rattle.std.proofs.lemmas.List.Concat.{flat_map-cons}
use Rattle.sn_account.specs.Incoming.{Progress, Takes, TakesAll}
use Rattle.sn_account.specs.Rule.{RuleOf}
use Rattle.sn_account.specs.Syncs.{AreChanges, Serves, ServesBounded, Syncs, start}
use Rattle.sn_laws.proofs.Facts.{legal_after, legal_before}
use Rattle.sn_laws.specs.Each.{Each}
use Rattle.sn_laws.specs.Lookups.{Bytes}
use Rattle.sn_laws.specs.Runs.{LegalFrom, end_from}
use Rattle.sn_laws.specs.declared.ideal.Ideal.{Ideal}
use Rattle.sn_laws.specs.declared.moves.Move.{Move}
use Rattle.sn_laws.specs.declared.moves.Move.TheVariants.{Accept}
use Rattle.sn_rows.specs.Facts.{spared_stays}
use Rattle.sn_rows.specs.Table.{Rows, Spares, key_of, rows_after, same_key}
use Rattle.sn_rows.specs.declared.change.Change.{Change}
use Rattle.sn_rows.specs.declared.change.Change.TheVariants.{Put, Remove}
use Rattle.sn_rows.specs.declared.key.Key.{Key}
use Rattle.sn_rows.specs.declared.key.Key.TheVariants as key
use Rattle.sn_rows.specs.declared.server_rows.ItemRow.{ItemRow}
use Rattle.sn_rows.specs.declared.server_rows.StoreRow.{StoreRow}
use Rattle.sn_rows.specs.declared.value.Value.{Value}
use Rattle.sn_rows.specs.declared.value.Value.TheVariants as value
use Rattle.sn_string.specs.declared.params.KeySet.{KeySet}
use Rattle.sn_string.specs.declared.params.Params.{Params}
use Rattle.sn_sync.specs.declared.answer.Answer.{Answer}
use Rattle.sn_sync.specs.declared.item.Item.{Item}
use Rattle.sn_sync.specs.declared.request.Request.{Request}
use Rattle.sn_sync.specs.declared.request.Request.TheVariants as request
use Rattle.sn_world.proofs.Lists.{each_both}
use Rattle.sn_world.proofs.LegalMoves.{reached_after}
use Rattle.sn_world.proofs.PlainSets.{KeepsSets, no_rewrap, one_set_after}
use Rattle.sn_world.specs.Holds.{Reached}
use Rattle.sn_world.specs.Laws.{KeepsServing}
use Rattle.sn_world.specs.Plain.{HaveOneSet, KeepsSet, PlainSays, accept_of, accepts_in, move_of, moves_for}
use Rattle.sn_world.specs.Serving.{SaysChange, SaysChanges, SaysItem, SaysRoute, SaysRow, generation_of, number_of, registers_in}

-- ---- a sync leaves the rows of accounts

abbrev Spare : ℕ → List Change → Type 0
Spare k changes = Spares (key.Account k) changes

spared_more : (k : ℕ) (front : List Change) (c : Change) → Spare k front → same_key (key_of c) (key.Account k) ≡ false → Spare k (front ++ c ∷ [])
spared_more k [] c spared apart = (apart, tt)
spared_more k (x ∷ front) c spared apart = (spared.0, spared_more k front c spared.1 apart)

spared_none : (k : ℕ) (changes : List Change) → changes ≡ [] → Spare k changes
spared_none k changes none = subst (Spare k) (sym none) tt

spared_still : (k : ℕ) (p q : Progress) → q.changes ≡ p.changes → Spare k p.changes → Spare k q.changes
spared_still k p q is spared = subst (Spare k) (sym is) spared

takes_spare : (k : ℕ) (present : Params) (now n : ℕ) (p : Progress) (i : Item) (q : Progress) → Takes present now n p i q → Spare k p.changes → Spare k q.changes
takes_spare k present now n p i q (inl (foreign, is)) spared = spared_still k p q (ap (λ (x : Progress). x.changes) is) spared
takes_spare k present now n p i q (inr (inl (row, given, held, same, gives, is))) spared = spared_still k p q (ap (λ (x : Progress). x.changes) is) spared
takes_spare k present now n p i q (inr (inr (inl (row, given, held, other, not_named, gives, is)))) spared =
    spared_still k p q (ap (λ (x : Progress). x.changes) is) spared
takes_spare k present now n p i q (inr (inr (inr (inl (stands, bad, is))))) spared = spared_still k p q (ap (λ (x : Progress). x.changes) is) spared
takes_spare k present now n p i q (inr (inr (inr (inr (free, within, (row, change, given, puts, gives, is)))))) spared =
    subst (Spare k) (sym (ap (λ (x : Progress). x.changes) is))
    (spared_more k p.changes change spared (ap (λ (at : Key). same_key at (key.Account k)) puts.puts.key_is))

all_spare : (k : ℕ) (present : Params) (now n : ℕ) (items : List Item) (p q : Progress) → TakesAll present now n p items q → Spare k p.changes → Spare k q.changes
all_spare k present now n [] p q is spared = spared_still k p q (ap (λ (x : Progress). x.changes) is) spared
all_spare k present now n (i ∷ items) p q (inl (full, is)) spared = spared_still k p q (ap (λ (x : Progress). x.changes) is) spared
all_spare k present now n (i ∷ items) p q (inr (room, (r, first, rest))) spared =
    all_spare k present now n items r q rest (takes_spare k present now n p i r first spared)

changes_spare : (k : ℕ) (store : StoreRow) (made : List Change) (last : ℕ) (changes : List Change) → AreChanges store made last changes → Spare k made
    → Spare k changes
changes_spare k store made last changes (inl (none, is)) spared = spared_none k changes is
changes_spare k store made last changes (inr (some, (end, row, puts, secret, accounts, last_is, is))) spared =
    subst (Spare k) (sym is) (spared_more k made end spared (ap (λ (at : Key). same_key at (key.Account k)) puts.key_is))

module _ (k : ℕ) (server : Rows) (store : StoreRow) where
  served_spare : (n : ℕ) (items : List Item) (limit : ℕ) (sync cursor : Option ℕ) (now : ℕ) (changes : List Change) (given : Answer)
      → Serves server store n items limit sync cursor now changes given → Spare k changes
  served_spare n items limit sync cursor now changes given (present, is, inl (out, (none, refused))) = spared_none k changes none
  served_spare n items limit sync cursor now changes given (present, is, inr x) =
      changes_spare k store x.end.changes x.end.last changes x.changes_are
      (all_spare k present now n items (start server store) x.end x.taken tt)

  bounded_spare : (n : ℕ) (items : List Item) (limit : ℕ) (sync cursor : Option ℕ) (now : ℕ) (changes : List Change) (given : Answer)
      → ServesBounded server store n items limit sync cursor now changes given → Spare k changes
  bounded_spare n items limit sync cursor now changes given (inl (many, (none, refused))) = spared_none k changes none
  bounded_spare n items limit sync cursor now changes given (inr (inl (few, uuid, size, long, (none, refused)))) = spared_none k changes none
  bounded_spare n items limit sync cursor now changes given (inr (inr (few, short, serves))) =
      served_spare n items limit sync cursor now changes given serves

  sync_spares : (token : Bytes) (items : List Item) (limit : ℕ) (sync_token cursor_token : Option Bytes) (now : ℕ) (changes : List Change) (given : Answer)
      → Syncs server store token items limit sync_token cursor_token now changes given → Spare k changes
  sync_spares token items limit sync_token cursor_token now changes given (inl (dead, (none, refused))) = spared_none k changes none
  sync_spares token items limit sync_token cursor_token now changes given (inr (n, session, inl (bad, (none, refused)))) = spared_none k changes none
  sync_spares token items limit sync_token cursor_token now changes given (inr (n, session, inr (inl (sync, is, bad, (none, refused))))) =
      spared_none k changes none
  sync_spares token items limit sync_token cursor_token now changes given (inr (n, session, inr (inr (sync, cursor, is, is_too, bounded)))) =
      bounded_spare n items limit sync cursor now changes given bounded

-- ---- the moves of a batch that leaves them

move_keeps_at : (server : Rows) (name : Bytes) (at : Key) (v : Value) → Each KeepsSets (accept_of server name at v)
move_keeps_at server name (key.Item uuid) (value.Item row) = (tt, tt)
move_keeps_at server name (key.Item uuid) (value.Store row) = tt
move_keeps_at server name (key.Item uuid) (value.Account row) = tt
move_keeps_at server name (key.Item uuid) (value.Generation row) = tt
move_keeps_at server name (key.Item uuid) (value.Owner row) = tt
move_keeps_at server name (key.Item uuid) (value.Set row) = tt
move_keeps_at server name (key.Item uuid) (value.Local row) = tt
move_keeps_at server name key.Store v = tt
move_keeps_at server name (key.Account number) v = tt
move_keeps_at server name (key.Generation number generation) v = tt
move_keeps_at server name key.Owner v = tt
move_keeps_at server name (key.Set slot) v = tt
move_keeps_at server name (key.Local number) v = tt

move_keeps : (server : Rows) (name : Bytes) (change : Change) → Each KeepsSets (move_of server name change)
move_keeps server name (Put row) = move_keeps_at server name row.key row.value
move_keeps server name (Remove at) = tt

accepts_keep : (server : Rows) (name : Bytes) (changes : List Change) → Each KeepsSets (accepts_in server name changes)
accepts_keep server name [] = tt
accepts_keep server name (c ∷ changes) =
    subst (λ (ms : List Move). Each KeepsSets ms) (sym (flat_map-cons (move_of server name) c changes))
    (each_both KeepsSets (move_of server name c) (accepts_in server name changes) (move_keeps server name c) (accepts_keep server name changes))

-- rows that have the accounts' rows of these
abbrev HasAccounts : Rows → Rows → Type 0
HasAccounts server rows = (n : ℕ) → rows (key.Account n) ≡ server (key.Account n)

module _ (server device : Rows) (name : Bytes) where
  accepted_at : (rows : Rows) (uuid : Bytes) (row : ItemRow) (moves : List Move) → HasAccounts server rows
      → moves ≡ Accept name uuid row.updated (number_of row.deleted (generation_of (rows (key.Account row.account)))) ∷ []
      → moves ≡ accept_of server name (key.Item uuid) (value.Item row)
  accepted_at rows uuid row moves alike is =
      is ∙ ap (λ (found : Option Value). Accept name uuid row.updated (number_of row.deleted (generation_of found)) ∷ []) (alike row.account)

  module _ (s : Ideal) (r : Reached s) (one : HaveOneSet s.accounts) (rows : Rows) (alike : HasAccounts server rows) where
    item_said : (uuid : Bytes) (row : ItemRow) (moves : List Move) → LegalFrom s moves → SaysItem rows device name uuid row moves
        → moves ≡ accept_of server name (key.Item uuid) (value.Item row)
    item_said uuid row moves legal (inl (sent, is)) = accepted_at rows uuid row moves alike is
    item_said uuid row moves legal (inr (not_sent, is)) =
        absurd (no_rewrap s r one uuid row.updated (generation_of (rows (key.Account row.account))) (subst (λ (ms : List Move). LegalFrom s ms) is legal).0)

    row_said : (at : Key) (v : Value) (moves : List Move) → LegalFrom s moves → SaysRow rows device name at v moves → moves ≡ accept_of server name at v
    row_said (key.Item uuid) (value.Item row) moves legal says = item_said uuid row moves legal says
    row_said (key.Item uuid) (value.Store row) moves legal says = says
    row_said (key.Item uuid) (value.Account row) moves legal says = says
    row_said (key.Item uuid) (value.Generation row) moves legal says = says
    row_said (key.Item uuid) (value.Owner row) moves legal says = says
    row_said (key.Item uuid) (value.Set row) moves legal says = says
    row_said (key.Item uuid) (value.Local row) moves legal says = says
    row_said key.Store v moves legal says = says
    row_said (key.Account number) v moves legal says = says
    row_said (key.Generation number generation) v moves legal says = says
    row_said key.Owner v moves legal says = says
    row_said (key.Set slot) v moves legal says = says
    row_said (key.Local number) v moves legal says = says

    change_said : (change : Change) (moves : List Move) → LegalFrom s moves → SaysChange rows device name change moves → moves ≡ move_of server name change
    change_said (Put row) moves legal says = row_said row.key row.value moves legal says
    change_said (Remove at) moves legal says = says

  accepts_said : (changes : List Change) (moves : List Move) (s : Ideal) (rows : Rows) → Reached s → HaveOneSet s.accounts → HasAccounts server rows
      → ((n : ℕ) → Spare n changes) → LegalFrom s moves → SaysChanges rows device name changes moves → moves ≡ accepts_in server name changes
  accepts_said [] moves s rows r one alike spared legal says = says
  accepts_said (change ∷ changes) moves s rows r one alike spared legal (first, later, says, rest, is) =
      let legal_all : LegalFrom s (first ++ later) = subst (λ (ms : List Move). LegalFrom s ms) is legal in
      let legal_first : LegalFrom s first = legal_before s first later legal_all in
      let said : first ≡ move_of server name change = change_said s r one rows alike change first legal_first says in
      let kept : Each KeepsSets first = subst (λ (ms : List Move). Each KeepsSets ms) (sym said) (move_keeps server name change) in
      let behind : later ≡ accepts_in server name changes =
      accepts_said changes later (end_from s first) (rows_after rows (change ∷ [])) (reached_after s first r legal_first) (one_set_after s first kept one)
      (λ n. spared_stays (rows (key.Account n)) (key.Account n) (change ∷ []) ((spared n).0, tt) ∙ alike n) (λ n. (spared n).1)
      (legal_after s first later legal_all) rest in
      is ∙ ap (λ (ms : List Move). ms ++ later) said ∙ ap (λ (ms : List Move). move_of server name change ++ ms) behind
      ∙ sym (flat_map-cons (move_of server name) change changes)

-- ---- any request that changes no password

registers_keep : (identifier : Bytes) (begins : Option KeySet) (changes : List Change) → Each KeepsSets (registers_in identifier begins changes)
registers_keep identifier None changes = tt
registers_keep identifier (Some set) [] = tt
registers_keep identifier (Some set) (change ∷ changes) = (tt, tt)

pub moves_keep : (server : Rows) (name : Bytes) (begins : Option KeySet) (r : Request) (changes : List Change)
    → Each KeepsSets (moves_for server name begins r changes)
moves_keep server name begins (request.Register params pw) changes = registers_keep params.identifier begins changes
moves_keep server name begins (request.Params identifier) changes = tt
moves_keep server name begins (request.SignIn identifier pw) changes = tt
moves_keep server name begins (request.ChangePw token current pw cost nonce) changes = tt
moves_keep server name begins (request.Sync token items limit sync_token cursor_token) changes = accepts_keep server name changes

-- a sync's
abbrev SparesIn : ℕ → List Change → Request → Type 0
SparesIn k changes (request.Sync token items limit sync_token cursor_token) = Spare k changes
SparesIn k changes r = Unit {0}

pub plain_says : KeepsServing → PlainSays
plain_says keeps secret w next s m now changes given moves differ h serves says =
    by m.request (h.plain.no_change m serves.made) (λ k. spares k m.request serves.rule.2) says
  where
    legal : LegalFrom s moves
    legal = (keeps secret w next s m now changes given moves differ h.holds serves says).0

    spares : (k : ℕ) (r : Request) → RuleOf w.server serves.rule.0 r now changes given → SparesIn k changes r
    spares k (request.Sync token items limit sync_token cursor_token) rule =
        sync_spares k w.server serves.rule.0 token items limit sync_token cursor_token now changes given rule
    spares k (request.Register params pw) rule = tt
    spares k (request.Params identifier) rule = tt
    spares k (request.SignIn identifier pw) rule = tt
    spares k (request.ChangePw token current pw cost nonce) rule = tt

    by : (r : Request) → KeepsSet r → ((k : ℕ) → SparesIn k changes r) → SaysRoute w.server (w.devices m.device) m.device m.begins r changes moves
        → moves ≡ moves_for w.server m.device m.begins r changes
    by (request.Register params pw) keeps_set spared is = is
    by (request.Params identifier) keeps_set spared is = is
    by (request.SignIn identifier pw) keeps_set spared is = is
    by (request.ChangePw token current pw cost nonce) keeps_set spared is = absurd keeps_set
    by (request.Sync token items limit sync_token cursor_token) keeps_set spared is =
        accepts_said w.server (w.devices m.device) m.device changes moves s w.server h.holds.reached h.plain.one_set (λ n. refl) spared legal is

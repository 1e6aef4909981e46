-- An exchange over a server that answers by its rule: what it leaves of the accounts, of the account's items, and of the device's own row.
use Rattle.std.proofs.Common.{◌≡◌, ◌≢◌, ◌<◌, ◌≤◌, ℕ, List, [], ◌∷◌, ◌++◌, Option, Some, None, refl, sym, ap, ◌∙◌, subst, inl, inr, arith}
use Rattle.std.proofs.lemmas.List.Elements.{Contains-append_left, Contains-push}
use Rattle.std.specs.List.{Contains}
use Rattle.rand_chacha.specs.ChaCha.{ChaCha}
use Rattle.sn_account.specs.Incoming.{Progress, Takes, TakesAll}
use Rattle.sn_account.specs.Laws.{HasOneAccount}
use Rattle.sn_account.specs.Lookups.{HasStore}
use Rattle.sn_account.specs.Pages.{AreGiven, Found, IsGreatest}
use Rattle.sn_account.specs.Rule.{Rule}
use Rattle.sn_account.specs.Sessions.{IsSession, session_token}
use Rattle.sn_account.specs.Sound.{IsSound as IsSoundServer}
use Rattle.sn_account.specs.Syncs.{AreChanges, AreTokens, IsStampOf, Synced, Syncs, above_of, start as before_first}
use Rattle.sn_bound.specs.Whole.{HasWhole, IsLastPage, RetrievesNothing, WholeBegins, WholeStays}
use Rattle.sn_device.proofs.Facts.{RetiresOlder, after_append, beside, one_owner, posts_items, retires_older}
use Rattle.sn_device.specs.Runs.{IsRound, Round, Standing}
use Rattle.sn_device.specs.States.{Bytes, HasOwner, OwnerColumns, owner_columns, text_of_token, token_of}
use Rattle.sn_device.specs.Steps.{Applies, AppliesAnswer, AppliesTo, with_tokens}
use Rattle.sn_conflict.specs.Checks.{most_retrieved}
use Rattle.sn_rows.specs.Facts.{put_elsewhere, put_here, removed_elsewhere}
use Rattle.sn_rows.specs.Table.{Rows, rows_after}
use Rattle.sn_rows.specs.declared.change.Change.{Change}
use Rattle.sn_rows.specs.declared.device_rows.OwnerRow.{OwnerRow}
use Rattle.sn_rows.specs.declared.key.Key.{Key}
use Rattle.sn_rows.specs.declared.key.Key.TheVariants as key
use Rattle.sn_rows.specs.declared.key.Slot.TheVariants.{Older}
use Rattle.sn_rows.specs.declared.server_rows.StoreRow.{StoreRow}
use Rattle.sn_rows.specs.declared.value.Value.TheVariants as value
use Rattle.sn_string.specs.declared.params.Params.{Params}
use Rattle.sn_sync.specs.Laws.{HasOneToken}
use Rattle.sn_sync.specs.Tokens.{IsToken}
use Rattle.sn_sync.specs.declared.answer.Answer.{Answer}
use Rattle.sn_sync.specs.declared.answer.Answer.TheVariants as answer
use Rattle.sn_sync.specs.declared.answer.Conflict.{Conflict}
use Rattle.sn_sync.specs.declared.answer.More.{More}
use Rattle.sn_sync.specs.declared.item.Item.{Item}
use Rattle.sn_sync.specs.declared.request.Request.{Request}
use Rattle.sn_sync.specs.declared.request.Request.TheVariants as request
use Rattle.sn_world.proofs.AppliedPulled.{token_some}

-- ---- the server's rows

-- the rows are those that the changes leave, and no account's row is another
record TakenSoFar (rows : Rows) (p : Progress) : Type 0 where
  rows_are : p.rows ≡ rows_after rows p.changes
  accounts : (n : ℕ) → p.rows (key.Account n) ≡ rows (key.Account n)

went_takes : (rows : Rows) (present : Params) (now n : ℕ) (p q : Progress) (i : Item) → TakenSoFar rows p → Takes present now n p i q → TakenSoFar rows q
went_takes rows present now n p q i w (inl c) =
    subst (λ (x : Progress). TakenSoFar rows x) (sym c.1) (record { rows_are = w.rows_are; accounts = w.accounts })
went_takes rows present now n p q i w (inr (inl c)) =
    subst (λ (x : Progress). TakenSoFar rows x) (sym c.5) (record { rows_are = w.rows_are; accounts = w.accounts })
went_takes rows present now n p q i w (inr (inr (inl c))) =
    subst (λ (x : Progress). TakenSoFar rows x) (sym c.6) (record { rows_are = w.rows_are; accounts = w.accounts })
went_takes rows present now n p q i w (inr (inr (inr (inl c)))) =
    subst (λ (x : Progress). TakenSoFar rows x) (sym c.2) (record { rows_are = w.rows_are; accounts = w.accounts })
went_takes rows present now n p q i w (inr (inr (inr (inr c)))) =
    subst (λ (x : Progress). TakenSoFar rows x) (sym c.2.5) (record {
      rows_are = ap (λ (r : Rows). rows_after r (c.2.1 ∷ [])) w.rows_are ∙ sym (after_append rows p.changes (c.2.1 ∷ []));
      accounts = λ m. put_elsewhere p.rows c.2.1 (key.Item i.uuid) (key.Account m) (value.Item c.2.0) c.2.3.puts (λ e. cc) ∙ w.accounts m;
    })

went_all : (rows : Rows) (present : Params) (now n : ℕ) (p q : Progress) (items : List Item) → TakenSoFar rows p → TakesAll present now n p items q → TakenSoFar rows q
went_all rows present now n p q [] w is = subst (λ (x : Progress). TakenSoFar rows x) (sym is) w
went_all rows present now n p q (i ∷ is) w (inl c) = subst (λ (x : Progress). TakenSoFar rows x) (sym c.1) w
went_all rows present now n p q (i ∷ is) w (inr c) = went_all rows present now n c.1.0 q is (went_takes rows present now n p c.1.0 i w c.1.1) c.1.2

-- behind the changes each row but the store's own is that behind the last item
row_then : (rows : Rows) (store : StoreRow) (q : Progress) (changes : List Change) → TakenSoFar rows q → AreChanges store q.changes q.last changes → (k : Key)
    → key.Store ≢ k → rows_after rows changes k ≡ q.rows k
row_then rows store q changes w (inl none) k off =
    ap (λ (cs : List Change). rows_after rows cs k) (none.1 ∙ sym none.0) ∙ ap (λ (r : Rows). r k) (sym w.rows_are)
row_then rows store q changes w (inr some) k off =
    let m = some.1 in
    ap (λ (cs : List Change). rows_after rows cs k) m.6 ∙ ap (λ (r : Rows). r k) (after_append rows q.changes (m.0 ∷ []))
    ∙ put_elsewhere (rows_after rows q.changes) m.0 key.Store k (value.Store m.1) m.2 off ∙ ap (λ (r : Rows). r k) (sym w.rows_are)

-- and the store keeps its secret
store_then : (rows : Rows) (store : StoreRow) (q : Progress) (changes : List Change) → HasStore rows store → AreChanges store q.changes q.last changes
    → (st : StoreRow) × HasStore (rows_after rows changes) st × (st.secret ≡ store.secret)
store_then rows store q changes has (inl none) = (store, ap (λ (cs : List Change). rows_after rows cs key.Store) none.1 ∙ has, refl)
store_then rows store q changes has (inr some) =
    let m = some.1 in (
      m.1,
      ap (λ (cs : List Change). rows_after rows cs key.Store) m.6 ∙ ap (λ (r : Rows). r key.Store) (after_append rows q.changes (m.0 ∷ []))
          ∙ put_here (rows_after rows q.changes) m.0 key.Store (value.Store m.1) m.2,
      m.3,
    )

one_store : (rows : Rows) (a b : StoreRow) → HasStore rows a → HasStore rows b → a ≡ b
one_store rows a b x y = cc

-- ---- lists and stamps

both_empty : {A : Type 0} (xs ys : List A) → ((x : A) → Contains (xs ++ ys) x → ⊥) → (xs ≡ []) × (ys ≡ [])
both_empty [] [] none = (refl, refl)
both_empty [] (y ∷ ys) none = absurd (none y (Contains-append_left (y ∷ []) ys y (Contains-push [] y)))
both_empty (x ∷ xs) ys none = absurd (none x (Contains-append_left (x ∷ []) (xs ++ ys) x (Contains-push [] x)))

none_given : (items : List Item) → AreGiven [] items → items ≡ []
none_given [] are = refl
none_given (i ∷ items) are = absurd are

stamp_is : HasOneToken → (text : Bytes) (stamp : ℕ) (found : Option ℕ) → IsToken text stamp → IsStampOf (Some text) found → found ≡ Some stamp
stamp_is one text stamp None is of = absurd of
stamp_is one text stamp (Some other) is of = ap (λ (n : ℕ). Some n) (one text other stamp of is)

-- ---- a sync that isn't refused

pub record IsServed (server : Rows) (store : StoreRow) (token : Bytes) (items : List Item) (limit : ℕ) (sync_token cursor_token : Option Bytes) (now : ℕ)
    (changes : List Change) (given : Answer) : Type 0 where
  pub number : ℕ
  pub session : IsSession server token number
  pub sync : Option ℕ
  pub cursor : Option ℕ
  pub sync_is : IsStampOf sync_token sync
  pub cursor_is : IsStampOf cursor_token cursor
  pub present : Params
  pub synced : Synced server store number present items limit sync cursor now changes given

pub is_served : (server : Rows) (store : StoreRow) (token : Bytes) (items : List Item) (limit : ℕ) (st ct : Option Bytes) (now : ℕ) (changes : List Change)
    (given : Answer) → ((status : ℕ) (tag : Bytes) (further : More) → ¬ (given ≡ answer.Refused status tag further))
    → Syncs server store token items limit st ct now changes given → IsServed server store token items limit st ct now changes given
is_served server store token items limit st ct now changes given never (inl (none, refused)) = absurd (never _ _ _ refused.1)
is_served server store token items limit st ct now changes given never (inr (n, session, inl (bad, refused))) = absurd (never _ _ _ refused.1)
is_served server store token items limit st ct now changes given never (inr (n, session, inr (inl (sync, is, bad, refused)))) =
    absurd (never _ _ _ refused.1)
is_served server store token items limit st ct now changes given never (inr (n, session, inr (inr (sync, at, is, at_is, inl (wide, refused))))) =
    absurd (never _ _ _ refused.1)
is_served server store token items limit st ct now changes given never
    (inr (n, session, inr (inr (sync, at, is, at_is, inr (inl (few, uuid, size, long, refused)))))) =
    absurd (never _ _ _ refused.1)
is_served server store token items limit st ct now changes given never
    (inr (n, session, inr (inr (sync, at, is, at_is, inr (inr (few, short, (present, stands, inl (out, refused)))))))) =
    absurd (never _ _ _ refused.1)
is_served server store token items limit st ct now changes given never
    (inr (n, session, inr (inr (sync, at, is, at_is, inr (inr (few, short, (present, stands, inr synced))))))) = record {
      number = n;
      session = session;
      sync = sync;
      cursor = at;
      sync_is = is;
      cursor_is = at_is;
      present = present;
      synced = synced;
    }

-- ---- the device's own row

past_retired : (mid : Rows) (counted : Change) (retired : List Change) → RetiresOlder retired
    → rows_after mid (counted ∷ retired) key.Owner ≡ rows_after mid (counted ∷ []) key.Owner
past_retired mid counted retired (inl none) = ap (λ (cs : List Change). rows_after mid (counted ∷ cs) key.Owner) none
past_retired mid counted retired (inr (c, removes, is)) =
    ap (λ (cs : List Change). rows_after mid (counted ∷ cs) key.Owner) is
    ∙ removed_elsewhere (rows_after mid (counted ∷ [])) c (key.Set Older) key.Owner removes (λ e. cc)

owner_then : (rows : Rows) (words : ChaCha) (sent : List Item) (conflicts : List Conflict) (cursor : Option Bytes) (retrieved saved : List Item) (token : Bytes)
    (changes : List Change) (left : ChaCha) → (a : Applies rows words sent conflicts cursor retrieved saved token changes left)
    → HasOwner (rows_after rows changes) a.counted_is.owner
owner_then rows words sent conflicts cursor retrieved saved token changes left a =
    let mid : Rows = rows_after rows a.end.changes in
    ap (λ (cs : List Change). rows_after rows cs key.Owner) a.changes_are
    ∙ ap (λ (r : Rows). r key.Owner) (after_append rows a.end.changes (a.counted ∷ a.retired))
    ∙ past_retired mid a.counted a.retired (retires_older a.end.rows cursor a.sets.older a.retired a.retires)
    ∙ put_here mid a.counted key.Owner (value.Owner a.counted_is.owner) a.counted_is.puts_it

-- ---- an exchange

module _ (server : Rows) (at after : Standing) (round : Round) (now : ℕ) (changes : List Change) (is : IsRound at round after)
    (rule : Rule server round.request now changes round.given) where
  abbrev owner : OwnerRow
  owner = is.sends.owner

  abbrev items : List Item
  items = is.sends.request_is.items

  step_so : AppliesAnswer is.ready at.words items round.given round.applied is.left
  step_so = subst (λ (r : Request). AppliesTo is.ready at.words r round.given round.applied is.left) is.sends.request_is.request_is is.step

  rule_then : Rule server (request.Sync owner.token items most_retrieved (token_of owner.sync_token) (token_of owner.cursor_token)) now changes round.given
  rule_then = subst (λ (r : Request). Rule server r now changes round.given) is.sends.request_is.request_is rule

  abbrev store : StoreRow
  store = rule_then.0

  served : IsServed server store owner.token items most_retrieved (token_of owner.sync_token) (token_of owner.cursor_token) now changes round.given
  served =
      is_served server store owner.token items most_retrieved (token_of owner.sync_token) (token_of owner.cursor_token) now changes round.given
      (λ status tag further e. subst (λ (g : Answer). AppliesAnswer is.ready at.words items g round.applied is.left) e step_so) rule_then.2

  abbrev x : Synced server store served.number served.present items most_retrieved served.sync served.cursor now changes round.given
  x = served.synced

  applies : Applies is.ready at.words items x.end.conflicts x.cursor_token x.retrieved x.end.saved x.sync_token round.applied is.left
  applies = subst (λ (g : Answer). AppliesAnswer is.ready at.words items g round.applied is.left) x.answers step_so

  -- the server's rows behind it
  went : TakenSoFar server x.end
  went = went_all server served.present now served.number (before_first server store) x.end items (record { rows_are = refl; accounts = λ n. refl }) x.taken

  session_then : IsSession (rows_after server changes) owner.token served.number
  session_then =
      let s = served.session in
      let st = store_then server s.store x.end changes s.stands
      (subst (λ (z : StoreRow). AreChanges z x.end.changes x.end.last changes) (one_store server store s.store rule_then.1 s.stands) x.changes_are) in
      record {
        store = st.0;
        stands = st.1;
        account = s.account;
        there = row_then server store x.end changes went x.changes_are (key.Account served.number) (λ e. cc) ∙ went.accounts served.number ∙ s.there;
        is = s.is ∙ ap (λ (secret : Bytes). session_token secret served.number s.account.generation) (sym st.2);
      }

  item_then : (uuid : Bytes) → rows_after server changes (key.Item uuid) ≡ x.end.rows (key.Item uuid)
  item_then uuid = row_then server store x.end changes went x.changes_are (key.Item uuid) (λ e. cc)

  -- the device's row behind it
  abbrev later : OwnerRow
  later = applies.counted_is.owner

  later_has : HasOwner after.rows later
  later_has =
      ap (λ (z : Standing). z.rows key.Owner) is.after_is
      ∙ owner_then is.ready at.words items x.end.conflicts x.cursor_token x.retrieved x.end.saved x.sync_token round.applied is.left applies

  same_owner : applies.owner ≡ owner
  same_owner =
      let before : is.ready key.Owner ≡ at.rows key.Owner =
      ap (λ (r : Rows). r key.Owner) is.sends.ready_is
      ∙ beside at.rows round.posted key.Owner (posts_items at.rows round.numbers round.posted is.sends.posts_them) (λ e. cc) in
      one_owner at.rows applies.owner owner (sym before ∙ applies.holds.owned) is.sends.owned

  later_columns : owner_columns later ≡ with_tokens applies.end.next x.sync_token x.cursor_token (owner_columns owner)
  later_columns = applies.counted_is.columns_are
      ∙ ap (λ (o : OwnerRow). with_tokens applies.end.next x.sync_token x.cursor_token (owner_columns o)) same_owner

  -- where no page is left
  stamp_of : (left : List Found) → x.left ≡ left → x.cursor_token ≡ None
      → (stamp : ℕ) × IsGreatest x.end.rows served.number stamp × IsToken x.sync_token stamp
  stamp_of [] none no_more = (subst (λ (fs : List Found). AreTokens x.end.rows served.number x.page fs x.cursor_token x.sync_token) none x.tokens).1
  stamp_of (f ∷ left) some no_more =
      let t = subst (λ (fs : List Found). AreTokens x.end.rows served.number x.page fs x.cursor_token x.sync_token) some x.tokens in
      let e : x.cursor_token ≡ Some x.sync_token = t.0 in
      absurd (cc)

  whole_behind : x.cursor_token ≡ None → HasWhole (rows_after server changes) after.rows
  whole_behind none =
      let g = stamp_of x.left refl none in
      let sync_is : later.sync_token ≡ x.sync_token = ap (λ (c : OwnerColumns). c.sync_token) later_columns in
      let cursor_is : later.cursor_token ≡ [] = ap (λ (c : OwnerColumns). c.cursor_token) later_columns ∙ ap text_of_token none in
      let token_is : later.token ≡ owner.token = ap (λ (c : OwnerColumns). c.token) later_columns in
      record {
        owner = later;
        owned = later_has;
        number = served.number;
        session = subst (λ (t : Bytes). IsSession (rows_after server changes) t served.number) (sym token_is) session_then;
        no_cursor = ap token_of cursor_is;
        text = x.sync_token;
        token_is = ap token_of sync_is ∙ token_some x.sync_token g.0 g.2;
        stamp = g.0;
        stamped = g.2;
        all = λ uuid row has own. g.1.0 uuid row (sym (item_then uuid) ∙ has) own;
      }

  pub whole_begins : IsLastPage round.given → HasWhole (rows_after server changes) after.rows
  whole_begins last = whole_behind (subst IsLastPage x.answers last)

  -- where the device had all before it
  module _ (one_account : HasOneAccount) (one_token : HasOneToken) (sound : IsSoundServer server) (whole : HasWhole server at.rows) where
    same : whole.owner ≡ owner
    same = one_owner at.rows whole.owner owner whole.owned is.sends.owned

    same_number : served.number ≡ whole.number
    same_number =
        one_account server owner.token served.number whole.number sound served.session
        (subst (λ (o : OwnerRow). IsSession server o.token whole.number) same whole.session)

    sync_so : served.sync ≡ Some whole.stamp
    sync_so =
        stamp_is one_token whole.text whole.stamp served.sync whole.stamped
        (subst (λ (t : Option Bytes). IsStampOf t served.sync) (ap (λ (o : OwnerRow). token_of o.sync_token) (sym same) ∙ whole.token_is) served.sync_is)

    cursor_so : served.cursor ≡ None
    cursor_so =
        subst (λ (t : Option Bytes). IsStampOf t served.cursor) (ap (λ (o : OwnerRow). token_of o.cursor_token) (sym same) ∙ whole.no_cursor) served.cursor_is

    above_so : above_of served.sync served.cursor ≡ whole.stamp
    above_so = ap (λ (c : Option ℕ). above_of served.sync c) cursor_so ∙ ap (λ (y : Option ℕ). above_of y None) sync_so

    none_above : (f : Found) → Contains (x.page ++ x.left) f → ⊥
    none_above f has =
        let c = (x.is_page.all.whole f.0 f.1).0 has in
        let within : f.1.updated ≤ whole.stamp = whole.all f.0 f.1 c.0 (c.1.0 ∙ same_number) in
        let past : above_of served.sync served.cursor < f.1.updated = c.1.1 in
        let is : above_of served.sync served.cursor ≡ whole.stamp = above_so in
        omega arith

    empty : (x.page ≡ []) × (x.left ≡ [])
    empty = both_empty x.page x.left none_above

    no_cursor_then : x.cursor_token ≡ None
    no_cursor_then = (subst (λ (fs : List Found). AreTokens x.end.rows served.number x.page fs x.cursor_token x.sync_token) empty.1 x.tokens).0

    nothing_then : x.retrieved ≡ []
    nothing_then = none_given x.retrieved (subst (λ (fs : List Found). AreGiven fs x.retrieved) empty.0 x.retrieved_are)

    pub whole_stays : RetrievesNothing round.given × HasWhole (rows_after server changes) after.rows
    whole_stays = (subst RetrievesNothing (sym x.answers) (no_cursor_then, nothing_then), whole_behind no_cursor_then)

-- ---- the laws

pub exchange_begins : WholeBegins
exchange_begins server at after round now changes is rule last = whole_begins server at after round now changes is rule last

pub exchange_stays : HasOneAccount → HasOneToken → WholeStays
exchange_stays one_account one_token server at after round now changes sound whole is rule =
    whole_stays server at after round now changes is rule one_account one_token sound whole

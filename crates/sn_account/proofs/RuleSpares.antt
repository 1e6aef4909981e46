-- A request leaves the rows of every account that it doesn't act for as they are.
use Rattle.std.proofs.Common.{◌≡◌, ◌≢◌, ◌⊎◌, ℕ, suc, List, [], ◌∷◌, ◌++◌, All, refl, sym, ap, ◌∙◌, subst, inl, inr}
use Rattle.sn_rows.specs.Facts.{put_elsewhere}
use Rattle.sn_rows.specs.Kinds.{key_kind}
use Rattle.sn_rows.specs.Table.{Puts, Rows, rows_after}
use Rattle.sn_rows.specs.declared.change.Change.{Change}
use Rattle.sn_rows.specs.declared.key.Key.{Key}
use Rattle.sn_rows.specs.declared.key.Key.TheVariants as key
use Rattle.sn_rows.specs.declared.kind.RowKind.TheVariants as kind
use Rattle.sn_rows.specs.declared.server_rows.ItemRow.{ItemRow}
use Rattle.sn_rows.specs.declared.server_rows.StoreRow.{StoreRow}
use Rattle.sn_rows.specs.declared.value.Value.TheVariants as value
use Rattle.sn_string.specs.declared.params.Params.{Params}
use Rattle.sn_sync.specs.Laws.{FitsSent}
use Rattle.sn_sync.specs.declared.answer.Answer.{Answer}
use Rattle.sn_sync.specs.declared.item.Item.{Item}
use Rattle.sn_sync.specs.declared.request.Request.TheVariants as request
use Rattle.sn_account.specs.Lookups.{Bytes, HasItem, HasStore}
use Rattle.sn_account.specs.RuleLaws.{SparesAccount, SparesEveryOther}
use Rattle.sn_account.specs.Rules.{BeginsAccount, ChangesPassword, Registers}
use Rattle.sn_account.specs.Sessions.{IsSession}
use Rattle.sn_account.specs.Sound.{IsSound}
use Rattle.sn_account.specs.Syncs.{AreChanges, Synced, start}
use Rattle.sn_account.proofs.RuleSound.{Served, own_synced, served_or_not}
use Rattle.sn_account.proofs.SessionTokens.{one_account}
use Rattle.sn_account.proofs.SoundRegistering.{begins_steps, one_store}
use Rattle.sn_account.proofs.SoundSteps.{Steps, item_was, other_account, other_generation}
use Rattle.sn_account.proofs.SoundSync.{ran, rows_behind}
use Rattle.sn_account.proofs.SparedRows.{spares_others}
use Rattle.sn_account.proofs.SyncSteps.{Ran}

spared_none : (rows : Rows) (changes : List Change) (m : ℕ) → changes ≡ [] → SparesAccount rows (rows_after rows changes) m
spared_none rows changes m e =
    subst (λ (cs : List Change). SparesAccount rows (rows_after rows cs) m) (sym e)
    (record { account = refl; generations = λ g. refl; items = λ u i of. (λ x. x, λ x. x) })

-- ---- registration

begun_spares : (rows : Rows) (s : IsSound rows) (params : Params) (pw : Bytes) (changes : List Change) (given : Answer) (b : BeginsAccount s.store params pw changes given)
    (m : ℕ) → m ≢ suc s.store.accounts → SparesAccount rows (rows_after rows changes) m
begun_spares rows s params pw changes given b m apart =
    let after : Rows = rows_after rows (b.account ∷ b.generation ∷ b.count ∷ []) in
    let t : Steps rows after b.count_puts.row (suc s.store.accounts) b.account_puts.row b.generation_puts.row = begins_steps rows s params pw changes given b in
    subst (λ (cs : List Change). SparesAccount rows (rows_after rows cs) m) (sym b.changes_are)
    (record {
      account = other_account rows after b.count_puts.row (suc s.store.accounts) b.account_puts.row b.generation_puts.row t m apart;
      generations = λ g. other_generation rows after b.count_puts.row (suc s.store.accounts) b.account_puts.row b.generation_puts.row t m g apart;
      items = λ u i of.
          let same = item_was rows after b.count_puts.row (suc s.store.accounts) b.account_puts.row b.generation_puts.row t u in
          (λ x. sym same ∙ x, λ x. same ∙ x);
    })

registers_spares : (rows : Rows) (s : IsSound rows) (store : StoreRow) → HasStore rows store → (params : Params) (pw : Bytes) (changes : List Change) (given : Answer)
    → Registers rows store params pw changes given → (m : ℕ) → m ≢ suc store.accounts → SparesAccount rows (rows_after rows changes) m
registers_spares rows s store has params pw changes given (inl (taken, refused)) m apart = spared_none rows changes m refused.0
registers_spares rows s store has params pw changes given (inr (inl (unknown, full, refused))) m apart = spared_none rows changes m refused.0
registers_spares rows s store has params pw changes given (inr (inr (unknown, less, begun))) m apart =
    let same : store ≡ s.store = one_store rows store s.store has s.stands in
    begun_spares rows s params pw changes given (subst (λ (x : StoreRow). BeginsAccount x params pw changes given) same begun) m
    (subst (λ (x : StoreRow). m ≢ suc x.accounts) same apart)

-- ---- sync

-- the store's row is put behind the items
module _ (rows mid : Rows) (n m : ℕ) (apart : m ≢ n) (spares : (k : Key) → key_kind k ≢ kind.Item → mid k ≡ rows k)
    (others : (u : Bytes) (j : ItemRow) → j.account ≢ n → (HasItem mid u j → HasItem rows u j) × (HasItem rows u j → HasItem mid u j))
    (end : Change) (row : StoreRow) (puts : Puts end key.Store (value.Store row)) where
  past : (k : Key) → key.Store ≢ k → rows_after mid (end ∷ []) k ≡ mid k
  past k off = put_elsewhere mid end key.Store k (value.Store row) puts off

  stored_spares : SparesAccount rows (rows_after mid (end ∷ [])) m
  stored_spares = record {
    account = past (key.Account m) (λ e. cc) ∙ spares (key.Account m) (λ e. cc);
    generations = λ g. past (key.Generation m g) (λ e. cc) ∙ spares (key.Generation m g) (λ e. cc);
    items = λ u i of.
        let both = others u i (λ e. apart (sym of ∙ e)) in
        (λ x. both.0 (sym (past (key.Item u) (λ e. cc)) ∙ x), λ x. past (key.Item u) (λ e. cc) ∙ both.1 x);
  }

served_spares : (rows : Rows) (s : IsSound rows) (store : StoreRow) → HasStore rows store → (token : Bytes) (items : List Item) (limit now : ℕ) (changes : List Change) (given : Answer)
    → All FitsSent items → (v : Served rows store token items limit now changes given) → (m : ℕ) → m ≢ v.n → SparesAccount rows (rows_after rows changes) m
served_spares rows s store has token items limit now changes given sized v m apart = by_changes y.changes_are
  where
    y : Synced rows s.store v.n v.present items limit v.sync v.cursor now changes given
    y = own_synced rows s store has token items limit now changes given v

    went : Ran v.n (start rows s.store) y.end
    went = ran rows s v.n (v.session.account, v.session.there) v.present items limit v.sync v.cursor now changes given sized y

    by_changes : AreChanges s.store y.end.changes y.end.last changes → SparesAccount rows (rows_after rows changes) m
    by_changes (inl (none, e)) = spared_none rows changes m e
    by_changes (inr (some, (end, row, puts, secret, accounts, last_is, e))) =
        subst (λ (r : Rows). SparesAccount rows r m)
        (sym (rows_behind rows y.end.rows went.made changes end went.rows (e ∙ ap (λ (cs : List Change). cs ++ end ∷ []) went.changes)))
        (stored_spares rows y.end.rows v.n m apart went.spares went.others end row puts)

syncs_spares : (rows : Rows) (s : IsSound rows) (store : StoreRow) → HasStore rows store → (token : Bytes) (items : List Item) (limit now : ℕ) (changes : List Change) (given : Answer)
    → All FitsSent items → (changes ≡ []) ⊎ Served rows store token items limit now changes given
    → (m : ℕ) → ((n : ℕ) → IsSession rows token n → m ≢ n) → SparesAccount rows (rows_after rows changes) m
syncs_spares rows s store has token items limit now changes given sized (inl none) m apart = spared_none rows changes m none
syncs_spares rows s store has token items limit now changes given sized (inr v) m apart =
    served_spares rows s store has token items limit now changes given sized v m (apart v.n v.session)

-- ---- a change of password

session_spares : (rows : Rows) (s : IsSound rows) (store : StoreRow) (token current pw : Bytes) (cost : ℕ) (nonce : Bytes) (changes : List Change) (given : Answer)
    → ChangesPassword rows store token current pw cost nonce changes given → (n m : ℕ) → IsSession rows token n → m ≢ n → SparesAccount rows (rows_after rows changes) m
session_spares rows s store token current pw cost nonce changes given ruled n m session apart =
    let spared = spares_others one_account rows store token current pw cost nonce changes given s ruled in
    let its = spared.1 n m session apart in
    record { account = its.0; generations = its.1; items = λ u i of. (λ x. sym (spared.0 u) ∙ x, λ x. spared.0 u ∙ x) }

changes_spares : (rows : Rows) (s : IsSound rows) (store : StoreRow) (token current pw : Bytes) (cost : ℕ) (nonce : Bytes) (changes : List Change) (given : Answer)
    → ChangesPassword rows store token current pw cost nonce changes given → ChangesPassword rows store token current pw cost nonce changes given
    → (m : ℕ) → ((n : ℕ) → IsSession rows token n → m ≢ n) → SparesAccount rows (rows_after rows changes) m
changes_spares rows s store token current pw cost nonce changes given ruled (inl (bad, refused)) m apart = spared_none rows changes m refused.0
changes_spares rows s store token current pw cost nonce changes given ruled (inr (inl (n, a, session, there, wrong, refused))) m apart = spared_none rows changes m refused.0
changes_spares rows s store token current pw cost nonce changes given ruled (inr (inr (n, a, present, session, there, right, is, keys))) m apart =
    session_spares rows s store token current pw cost nonce changes given ruled n m session (apart n session)

pub spares_every_other : SparesEveryOther
spares_every_other rows (request.Register params pw) now changes given s fits (store, has, ruled) m apart =
    registers_spares rows s store has params pw changes given ruled m (apart (suc store.accounts) (store, has, refl))
spares_every_other rows (request.Params identifier) now changes given s fits (store, has, ruled) m apart = spared_none rows changes m ruled.0
spares_every_other rows (request.SignIn identifier pw) now changes given s fits (store, has, ruled) m apart = spared_none rows changes m ruled.0
spares_every_other rows (request.ChangePw token current pw cost nonce) now changes given s fits (store, has, ruled) m apart =
    changes_spares rows s store token current pw cost nonce changes given ruled ruled m apart
spares_every_other rows (request.Sync token items limit sync_token cursor_token) now changes given s (sized, low, high) (store, has, ruled) m apart =
    syncs_spares rows s store has token items limit now changes given sized
    (served_or_not rows store token items limit now changes given sync_token cursor_token ruled) m apart

-- How the server answers a change of password of a device that holds its account's last set: with the account's next session, or with a conflict.
use Rattle.std.proofs.Common.{◌≡◌, ℕ, suc, List, [], ◌∷◌, refl, sym, ap, ◌∙◌, subst, inl, inr}
use Rattle.sn_account.specs.Lookups.{HasAccount as HasAccountRow, HasStore}
use Rattle.sn_account.specs.Rules.{ChangesKeys, ChangesPassword, IsPresent, Replaces}
use Rattle.sn_account.specs.Sessions.{IsSession, session_token}
use Rattle.sn_asked.proofs.Accounts.{behind_not, number, one_present, session_is}
use Rattle.sn_device.specs.States.{HasSets}
use Rattle.sn_laws.specs.Lookups.{Bytes}
use Rattle.sn_laws.specs.declared.ideal.Ideal.{Ideal}
use Rattle.sn_passwd.proofs.NotDenied.{not_denied}
use Rattle.sn_ready.specs.Passwds.{IsConflict, IsFinished}
use Rattle.sn_ready.specs.Ready.{HoldsLast}
use Rattle.sn_rows.specs.Facts.{put_apart, put_here}
use Rattle.sn_rows.specs.Table.{Rows, rows_after}
use Rattle.sn_rows.specs.declared.change.Change.{Change}
use Rattle.sn_rows.specs.declared.device_rows.OwnerRow.{OwnerRow}
use Rattle.sn_rows.specs.declared.key.Key.TheVariants as key
use Rattle.sn_rows.specs.declared.server_rows.AccountRow.{AccountRow}
use Rattle.sn_rows.specs.declared.server_rows.StoreRow.{StoreRow}
use Rattle.sn_rows.specs.declared.value.Value.TheVariants as value
use Rattle.sn_sets.specs.declared.sets.Sets.{Sets}
use Rattle.sn_shows.specs.Laws.{AccountsApart}
use Rattle.sn_string.specs.declared.params.Params.{Params}
use Rattle.sn_sync.specs.declared.answer.Answer.TheVariants as answer
use Rattle.sn_sync.specs.declared.answer.More.{More}
use Rattle.sn_world.specs.Holds.{Holds}
use Rattle.sn_world.specs.World.{World}

-- the session token of the next keys is the account's session behind the change
replaced : (server : Rows) (store : StoreRow) (n : ℕ) (a : AccountRow) (pw : Bytes) (cost : ℕ) (nonce : Bytes) (changes : List Change)
    (token identifier uuid : Bytes) → HasStore server store → Replaces store n a pw cost nonce changes (answer.Account token identifier uuid)
    → IsSession (rows_after server changes) token n
replaced server store n a pw cost nonce changes token identifier uuid stands x =
    let account = x.account_puts in
    let generation = x.generation_puts in
    let answers = x.answers in
    let is : token ≡ session_token store.secret n (suc a.generation) = cc in
    subst (λ (cs : List Change). IsSession (rows_after server cs) token n) (sym x.changes_are)
    (record {
      store = store;
      stands = put_apart (rows_after server (x.account ∷ [])) x.generation (key.Generation n (suc a.generation)) key.Store (value.Generation generation.row)
          generation.puts refl ∙ put_apart server x.account (key.Account n) key.Store (value.Account account.row) account.puts refl ∙ stands;
      account = account.row;
      there = put_apart (rows_after server (x.account ∷ [])) x.generation (key.Generation n (suc a.generation)) (key.Account n)
          (value.Generation generation.row) generation.puts refl ∙ put_here server x.account (key.Account n) (value.Account account.row) account.puts;
      is = is ∙ ap (session_token store.secret n) (sym account.generation_is);
    })

module _ (apart : AccountsApart) (secret : Bytes) (v : World) (t : Ideal) (h : Holds secret v t) (name : Bytes) (owner : OwnerRow) (sets : Sets)
    (holds : HasSets (v.devices name) owner sets) (last : HoldsLast t name) (params : Params)
    (is : IsPresent v.server (number apart secret v t h name owner sets holds) params) (store : StoreRow) (stands : HasStore v.server store)
    (pw : Bytes) (cost : ℕ) (nonce : Bytes) (changes : List Change) where
  abbrev n : ℕ
  n = number apart secret v t h name owner sets holds

  -- ---- it is made

  pub made_session : (token identifier uuid : Bytes)
      → ChangesPassword v.server store owner.token sets.present.pw pw cost nonce changes (answer.Account token identifier uuid)
      → IsSession (rows_after v.server changes) token n
  made_session token identifier uuid (inl (nobody, (none, bad))) = absurd (cc)
  made_session token identifier uuid (inr (inl (m, row, session, there, differs, (none, bad)))) = absurd (cc)
  made_session token identifier uuid (inr (inr (m, row, present, session, there, check, is_present, keys))) =
      subst (λ (k : ℕ). IsSession (rows_after v.server changes) token k) (session_is apart secret v t h name owner sets holds m session) (by keys)
    where
      by : ChangesKeys v.server store m row present pw cost nonce changes (answer.Account token identifier uuid)
          → IsSession (rows_after v.server changes) token m
      by (inl (uuid, least, (none, bad))) = absurd (cc)
      by (inr (inl (nobody, used, (none, bad)))) = absurd (cc)
      by (inr (inr (inl (nobody, unused, full, (none, bad))))) = absurd (cc)
      by (inr (inr (inr (nobody, unused, room, x)))) =
          replaced v.server store m row pw cost nonce changes token identifier uuid stands x

  -- ---- it is refused

  pub record Conflicts (status : ℕ) (tag : Bytes) (further : More) : Type 0 where
    pub session : IsSession v.server owner.token n
    pub account : AccountRow
    pub there : HasAccountRow v.server n account
    pub conflict : IsConflict (¬ (IsFinished t name)) v.server n account params nonce tag further
    pub status_is : status ≡ 409
    pub none : changes ≡ []

  keys_so : (row : AccountRow) (status : ℕ) (tag : Bytes) (further : More)
      → ChangesKeys v.server store n row params pw cost nonce changes (answer.Refused status tag further)
      → (status ≡ 409) × (changes ≡ []) × IsConflict (¬ (IsFinished t name)) v.server n row params nonce tag further
  keys_so row status tag further (inl (uuid, least, (none, bad))) = (
    cc,
    none,
    inl (uuid, (λ finished. behind_not apart secret v t h name owner sets holds finished params is uuid least.behind), least, cc, cc),
  )
  keys_so row status tag further (inr (inl (nobody, used, (none, bad)))) = (cc, none, inr (inl (used, cc, cc)))
  keys_so row status tag further (inr (inr (inl (nobody, unused, full, (none, bad))))) = (cc, none, inr (inr (full, cc, cc)))
  keys_so row status tag further (inr (inr (inr (nobody, unused, room, x)))) = absurd (let bad = x.answers in cc)

  pub conflicts : (status : ℕ) (tag : Bytes) (further : More)
      → ChangesPassword v.server store owner.token sets.present.pw pw cost nonce changes (answer.Refused status tag further) → Conflicts status tag further
  conflicts status tag further rule = by rule
    where
      denied_not : status ≡ 401 → ⊥
      denied_not denied =
          not_denied apart secret v t h name owner sets holds last store stands pw cost nonce changes (answer.Refused status tag further) status tag
          further refl
          rule denied

      by : ChangesPassword v.server store owner.token sets.present.pw pw cost nonce changes (answer.Refused status tag further) → Conflicts status tag further
      by (inl (nobody, (none, bad))) = absurd (denied_not (cc))
      by (inr (inl (m, row, session, there, differs, (none, bad)))) = absurd (denied_not (cc))
      by (inr (inr (m, row, present, session, there, check, is_present, keys))) =
          let same : m ≡ n = session_is apart secret v t h name owner sets holds m session in
          let alike : present ≡ params =
          one_present apart secret v t h name owner sets holds present params
          (subst (λ (k : ℕ). IsPresent v.server k present) same is_present) is in
          let so =
          keys_so row status tag further
          (subst (λ (p : Params). ChangesKeys v.server store n row p pw cost nonce changes (answer.Refused status tag further)) alike
          (subst (λ (k : ℕ). ChangesKeys v.server store k row present pw cost nonce changes (answer.Refused status tag further)) same keys)) in
          record {
            session = subst (λ (k : ℕ). IsSession v.server owner.token k) same session;
            account = row;
            there = subst (λ (k : ℕ). HasAccountRow v.server k row) same there;
            conflict = so.2;
            status_is = so.0;
            none = so.1;
          }

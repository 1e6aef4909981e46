-- A change of password of a device that holds its account's last set has the account's session and its password: it is refused for neither.
use Rattle.std.proofs.Common.{◌≡◌, ℕ, List, length, Some, sym, ap, ◌∙◌, subst, inl, inr, arith}
use Rattle.sn_account.specs.Lookups.{HasAccount as HasAccountRow, HasStore}
use Rattle.sn_account.specs.Rules.{ChangesKeys, ChangesPassword}
use Rattle.sn_account.specs.Sessions.{IsSession, session_token}
use Rattle.sn_device.specs.States.{HasSets}
use Rattle.sn_keys.specs.Keys.{check_value}
use Rattle.sn_laws.proofs.Facts.{one_there}
use Rattle.sn_laws.specs.Lookups.{Bytes}
use Rattle.sn_laws.specs.declared.ideal.Account.{Account}
use Rattle.sn_laws.specs.declared.ideal.Device.{Device}
use Rattle.sn_laws.specs.declared.ideal.Ideal.{Ideal}
use Rattle.sn_passwd.proofs.Points.{HoldsLast}
use Rattle.sn_rows.specs.Table.{Rows}
use Rattle.sn_rows.specs.declared.change.Change.{Change}
use Rattle.sn_rows.specs.declared.device_rows.OwnerRow.{OwnerRow}
use Rattle.sn_rows.specs.declared.key.Key.TheVariants as key
use Rattle.sn_rows.specs.declared.server_rows.AccountRow.{AccountRow}
use Rattle.sn_rows.specs.declared.server_rows.StoreRow.{StoreRow}
use Rattle.sn_rows.specs.declared.value.Value.TheVariants as value
use Rattle.sn_sets.specs.declared.sets.Sets.{Sets}
use Rattle.sn_shows.proofs.Facts.{holder_from, holder_of}
use Rattle.sn_shows.specs.Devices.{ShowsHolder}
use Rattle.sn_shows.specs.Laws.{AccountsApart, HasAccount}
use Rattle.sn_shows.specs.Servers.{ShowsIdentity}
use Rattle.sn_shows.specs.Sets.{set_at}
use Rattle.sn_string.specs.declared.params.KeySet.{KeySet}
use Rattle.sn_string.specs.declared.params.Params.{Params}
use Rattle.sn_sync.specs.declared.answer.Answer.{Answer}
use Rattle.sn_sync.specs.declared.answer.Answer.TheVariants as answer
use Rattle.sn_sync.specs.declared.answer.More.{More}
use Rattle.sn_world.proofs.Facts.{device_account, few_numbers, one_account, one_owner, present_at, same_owner, session_account}
use Rattle.sn_world.specs.Holds.{DeviceToken, Holds}
use Rattle.sn_world.specs.World.{World}

-- a refusal has one status
one_status : (status other : ℕ) (tag name : Bytes) (more further : More) (given : Answer) → given ≡ answer.Refused status tag more
    → given ≡ answer.Refused other name further → status ≡ other
one_status status other tag name more further given e k = cc

-- an account is no refusal
no_account : (status : ℕ) (tag token identifier uuid : Bytes) (more : More) (given : Answer) → given ≡ answer.Refused status tag more
    → given ≡ answer.Account token identifier uuid → ⊥
no_account status tag token identifier uuid more given e k = cc

not_both : (status : ℕ) → status ≡ 401 → status ≡ 409 → ⊥
not_both status e k = absurd (omega arith)

-- behind session and password, a refusal is a conflict
is_conflict : (rows : Rows) (store : StoreRow) (n : ℕ) (row : AccountRow) (present : Params) (pw : Bytes) (cost : ℕ) (nonce : Bytes) (changes : List Change)
    (given : Answer) (status : ℕ) (tag : Bytes) (more : More) → given ≡ answer.Refused status tag more
    → ChangesKeys rows store n row present pw cost nonce changes given → status ≡ 409
is_conflict rows store n row present pw cost nonce changes given status tag more is (inl (uuid, least, refused)) =
    one_status status _ tag _ more _ given is refused.1
is_conflict rows store n row present pw cost nonce changes given status tag more is (inr (inl (none, used, refused))) =
    one_status status _ tag _ more _ given is refused.1
is_conflict rows store n row present pw cost nonce changes given status tag more is (inr (inr (inl (none, unused, full, refused)))) =
    one_status status _ tag _ more _ given is refused.1
is_conflict rows store n row present pw cost nonce changes given status tag more is (inr (inr (inr (none, unused, room, x)))) =
    absurd (no_account status tag _ _ _ more given is x.answers)

module _ (apart : AccountsApart) (secret : Bytes) (v : World) (t : Ideal) (h : Holds secret v t) (name : Bytes) (owner : OwnerRow) (sets : Sets)
    (holds : HasSets (v.devices name) owner sets) (last : HoldsLast t name) where
  found : (d : Device) × (a : Account) × HasAccount t name d a
  found = holder_from (v.devices name) t name key.Owner (value.Owner owner) (h.devices name) holds.owned

  abbrev d : Device
  d = found.0

  own : DeviceToken secret (v.devices name) t.accounts d
  own = h.own_tokens name d found.2.device

  abbrev a : Account
  a = own.account

  has : HasAccount t name d a
  has = device_account apart secret v t h name own.number a d own.at found.2.device own.own

  its : ShowsIdentity v.server own.number a
  its = (h.server.all.each own.number a own.at).identity

  -- the present set is the account's last
  present_is : sets.present ≡ its.last
  present_is =
      let holder : ShowsHolder (v.devices name) t name d a = holder_of (v.devices name) t name d a (h.devices name) has in
      one_there sets.present its.last (set_at (length a.sets) a.sets)
      (subst (λ (k : ℕ). set_at k a.sets ≡ Some sets.present) (last d a has) (present_at (v.devices name) t name d a owner sets holder holds)) its.last_is

  token_is : owner.token ≡ session_token secret own.number (length a.sets)
  token_is =
      ap (λ (o : OwnerRow). o.token) (one_owner owner own.owner (v.devices name key.Owner) holds.owned own.has) ∙ own.is
      ∙ ap (session_token secret own.number) (last d a has)

  -- its token is the account's session
  session : (store : StoreRow) → HasStore v.server store → IsSession v.server owner.token own.number
  session store stands = record {
    store = store;
    stands = stands;
    account = its.row;
    there = its.stands;
    is = token_is ∙ ap (session_token secret own.number) (sym its.generation)
        ∙ ap (λ (c : Bytes). session_token c own.number its.row.generation) (sym (h.keeps_secret store stands));
  }

  -- the account whose session it is has the present set's check value
  check_is : (n : ℕ) (row : AccountRow) → IsSession v.server owner.token n → HasAccountRow v.server n row → row.check ≡ check_value sets.present.pw
  check_is n row session there =
      let b = session_account apart secret v t h owner.token n session in
      let spelled : owner.token ≡ session_token secret n session.account.generation =
      session.is ∙ ap (λ (c : Bytes). session_token c n session.account.generation) (h.keeps_secret session.store session.stands) in
      let same : own.number ≡ n =
      same_owner secret owner.token own.number n (length a.sets) session.account.generation (few_numbers apart secret v t h own.number a own.at)
      (few_numbers apart secret v t h n b.0 b.1) token_is spelled in
      let row_is : row ≡ its.row =
      one_account row its.row (v.server (key.Account n)) there (ap (λ (k : ℕ). v.server (key.Account k)) (sym same) ∙ its.stands) in
      ap (λ (z : AccountRow). z.check) row_is ∙ its.check ∙ ap (λ (z : KeySet). check_value z.pw) (sym present_is)

  -- a refusal has another status than that of a wrong token or password
  pub not_denied : (store : StoreRow) → HasStore v.server store → (pw : Bytes) (cost : ℕ) (nonce : Bytes) (changes : List Change) (given : Answer)
      (status : ℕ) (tag : Bytes) (more : More) → given ≡ answer.Refused status tag more
      → ChangesPassword v.server store owner.token sets.present.pw pw cost nonce changes given → status ≡ 401 → ⊥
  not_denied store stands pw cost nonce changes given status tag more is (inl (none, bad)) denied = none own.number (session store stands)
  not_denied store stands pw cost nonce changes given status tag more is (inr (inl (n, row, session, there, differs, bad))) denied =
      differs (check_is n row session there)
  not_denied store stands pw cost nonce changes given status tag more is (inr (inr (n, row, present, session, there, check, params, keys))) denied =
      not_both status denied (is_conflict v.server store n row present pw cost nonce changes given status tag more is keys)

-- A device that has applied an answer has pulled up to the stamp of its token.
use Rattle.std.proofs.Common.{◌≡◌, ◌⊎◌, ◌<◌, ◌≤◌, ℕ, List, length, [], ◌∷◌, ◌++◌, Option, Some, None, Bool, true, false, refl, sym, ap, ◌∙◌, subst, inl, inr, ⊎_elim, arith}
use Rattle.std.proofs.lemmas.Bool.Decides.{Decides-ltb}
use Rattle.std.specs.Fmt.{decimal}
use Rattle.std.specs.List.{Contains}
use Rattle.std.specs.Prelude.{codes, nat_lt}
use Rattle.sn_account.specs.Lookups.{HasStore}
use Rattle.sn_account.specs.Syncs.{IsStampOf, above_of, is_first}
use Rattle.sn_device.specs.States.{HasOwner, token_of}
use Rattle.sn_laws.specs.Each.{Each}
use Rattle.sn_laws.specs.Lookups.{Bytes, last_of}
use Rattle.sn_laws.specs.Relation.{IsLive}
use Rattle.sn_laws.specs.declared.ideal.Account.{Account}
use Rattle.sn_laws.specs.declared.ideal.Body.{Body as Versions}
use Rattle.sn_laws.specs.declared.ideal.Ideal.{Ideal}
use Rattle.sn_laws.specs.declared.ideal.Version.{Version}
use Rattle.sn_laws.proofs.Facts.{one_there}
use Rattle.sn_rows.specs.Table.{Rows}
use Rattle.sn_rows.specs.declared.device_rows.OwnerRow.{OwnerRow}
use Rattle.sn_rows.specs.declared.key.Key.TheVariants as key
use Rattle.sn_rows.specs.declared.server_rows.StoreRow.{StoreRow}
use Rattle.sn_rows.specs.declared.value.Value.{Value}
use Rattle.sn_shows.specs.Servers.{ShowsItem, ShowsStore}
use Rattle.sn_string.proofs.Facts.{length-base64_text}
use Rattle.sn_string.specs.Base64.{base64_text}
use Rattle.sn_sync.specs.Tokens.{IsToken}
use Rattle.sn_sync.specs.Versions.{uuids}
use Rattle.sn_sync.specs.declared.answer.Conflict.{Conflict}
use Rattle.sn_sync.specs.declared.item.Item.{Item}
use Rattle.sn_world.proofs.AtLast.{IsAtLast}
use Rattle.sn_world.proofs.Based.{gone_version}
use Rattle.sn_world.proofs.Lists.{each_map, of_each}
use Rattle.sn_world.proofs.PulledAll.{IsPassed, Keeps}
use Rattle.sn_world.proofs.Started.{nobody}
use Rattle.sn_world.specs.Applying.{Tells}
use Rattle.sn_world.specs.Holds.{Holds}
use Rattle.sn_world.specs.Pulled.{HasBase, HasNoBase, PulledAt}
use Rattle.sn_world.specs.World.{World}

-- ---- tokens

no_text : (digits : List ℕ) → [] ≡ base64_text (codes "2:" ++ digits) → ⊥
no_text digits e =
    let none : 0 ≡ length (base64_text (codes "2:" ++ digits)) = ap length e in
    let long = length-base64_text (codes "2:" ++ digits) in
    omega arith

-- no token is empty
pub token_some : (text : Bytes) (stamp : ℕ) → IsToken text stamp → token_of text ≡ Some text
token_some [] stamp is = absurd (no_text (decimal stamp) is.spelled)
token_some (byte ∷ bytes) stamp is = refl

-- a token that is of a stamp is there
stamped : (found : Option Bytes) (stamp : ℕ) → IsStampOf found (Some stamp) → (text : Bytes) × (found ≡ Some text) × IsToken text stamp
stamped None stamp is = absurd (cc)
stamped (Some text) stamp is = (text, refl, is)

unstamped : (found : Option Bytes) → IsStampOf found None → found ≡ None
unstamped None is = refl
unstamped (Some text) is = absurd is

-- a first page is told to a device without a sync token
first_none : (found : Option Bytes) (sync from : Option ℕ) → is_first sync from ≡ true → IsStampOf found sync → found ≡ None
first_none found None None first is = unstamped found is
first_none found None (Some stamp) first is = absurd (cc)
first_none found (Some stamp) None first is = absurd (cc)
first_none found (Some stamp) (Some other) first is = absurd (cc)

module _ (secret : Bytes) (w : World) (s : Ideal) (h : Holds secret w s) (name : Bytes) (sent : List Item) (conflicts : List Conflict) (cursor : Option Bytes)
    (retrieved saved : List Item) (token : Bytes) (may : Tells w.server (w.devices name) s name sent conflicts cursor retrieved saved token) (owner : OwnerRow)
    (owned : HasOwner (w.devices name) owner) (mid : Rows) (keeps : Keeps may.account (w.devices name) mid)
    (saved_met : Each (λ (i : Item). IsAtLast mid may.account i.uuid) saved) (retrieved_met : Each (IsPassed mid may.account saved) retrieved) where
  abbrev rows : Rows
  rows = w.devices name

  abbrev a : Account
  a = may.account

  abbrev above : ℕ
  above = above_of may.sync may.from

  -- ---- what is dealt with

  saved_at : (uuid : Bytes) → Contains (uuids saved) uuid → IsAtLast mid a uuid
  saved_at uuid among = of_each (λ (u : Bytes). IsAtLast mid a u) (uuids saved) (each_map (λ (i : Item). i.uuid) (λ (u : Bytes). IsAtLast mid a u) saved saved_met) uuid among

  retrieved_at : (i : Item) → Contains retrieved i → IsAtLast mid a i.uuid
  retrieved_at i among =
      ⊎_elim (λ (has : Contains (uuids saved) i.uuid). saved_at i.uuid has) (λ (met : IsAtLast mid a i.uuid). met)
      (of_each (IsPassed mid a saved) retrieved retrieved_met i among)

  -- ---- what was pulled before

  before : (uuid : Bytes) → (above ≡ 0) ⊎ PulledAt rows a above uuid
  before uuid = by may.sync may.from (may.since owner owned).0 (may.since owner owned).1
    where
      at : (text : Bytes) (stamp : ℕ) → token_of owner.sync_token ≡ Some text → IsToken text stamp → PulledAt rows a stamp uuid
      at text stamp is spelled = h.pulled name may.device may.number a owner text stamp may.named may.at may.own owned is spelled uuid

      by : (sync from : Option ℕ) → IsStampOf (token_of owner.sync_token) sync → IsStampOf (token_of owner.cursor_token) from
          → (above_of sync from ≡ 0) ⊎ PulledAt rows a (above_of sync from) uuid
      by None None x y = inl refl
      by (Some stamp) None x y = let t = stamped (token_of owner.sync_token) stamp x in inr (at t.0 stamp t.1 t.2)
      by sync (Some stamp) x y =
          let t = stamped (token_of owner.cursor_token) stamp y in
          ⊎_elim (λ (none : token_of owner.cursor_token ≡ None). let some : token_of owner.cursor_token ≡ Some t.0 = t.1 in absurd (cc))
          (λ (same : token_of owner.cursor_token ≡ token_of owner.sync_token). inr (at t.0 stamp (sym same ∙ t.1) t.2)) (h.sync_tokens name owner owned).1

  -- ---- the server's rows

  store : (store : StoreRow) × HasStore w.server store
  store = by (w.server key.Store) refl h.server.store
    where
      by : (found : Option Value) → w.server key.Store ≡ found → ShowsStore found s.accounts → (st : StoreRow) × HasStore w.server st
      by None e none = absurd (nobody may.number s.accounts a none may.at)
      by (Some v) e shown = (shown.0, e ∙ ap Some shown.1)

  -- ---- each item

  abbrev Stands : Bytes → Version → Type 0
  Stands uuid v = (IsLive v.body → HasBase mid uuid v.stamp) × (¬ (IsLive v.body) → HasNoBase mid uuid)

  stands_by : (uuid : Bytes) (upto : ℕ) (v : Version) → last_of uuid a.versions ≡ Some v → v.stamp ≤ upto → PulledAt mid a upto uuid → Stands uuid v
  stands_by uuid upto v last within x = (x.live v last within, x.gone v last within)

  module _ (uuid : Bytes) (v : Version) (last : last_of uuid a.versions ≡ Some v) (within : v.stamp ≤ may.tells.stamp) where
    its : ShowsItem w.server may.number a uuid v
    its = (h.server.all.each may.number a may.at).items uuid v last

    positive : 1 ≤ v.stamp
    positive =
        let item = (h.server_sound store.0 store.1).items uuid its.row its.stands in
        let first : 1 ≤ its.row.created = item.first in
        let later : its.row.created ≤ its.row.updated = item.later in
        let is : its.row.updated ≡ v.stamp = its.updated in
        omega arith

    old : v.stamp ≤ above → Stands uuid v
    old low =
        ⊎_elim (λ (none : above ≡ 0). let some : 1 ≤ v.stamp = positive in absurd (omega arith))
        (λ (pulled : PulledAt rows a above uuid). stands_by uuid above v last low (keeps uuid above pulled)) (before uuid)

    at_last : IsAtLast mid a uuid → Stands uuid v
    at_last met = stands_by uuid may.tells.stamp v last within (met may.tells.stamp)

    -- a deletion that a first page leaves out: the device had no base
    left_out : its.row.deleted ≡ true → is_first may.sync may.from ≡ true → Stands uuid v
    left_out deleted first =
        let none : HasNoBase rows uuid =
        h.bases_pulled name owner owned (first_none (token_of owner.sync_token) may.sync may.from first (may.since owner owned).0) uuid in
        stands_by uuid may.tells.stamp v last within
        (keeps uuid may.tells.stamp
        (record {
          live = λ w last_w low alive.
              absurd (subst (λ (b : Versions). IsLive b) (gone_version a.sets uuid its.row v.body its.strings deleted)
              (subst (λ (x : Version). IsLive x.body) (one_there w v (last_of uuid a.versions) last_w last) alive));
          gone = λ w last_w low dead. none;
        }))

    new : above < v.stamp → Stands uuid v
    new up =
        let is : its.row.updated ≡ v.stamp = its.updated in
        ⊎_elim (λ (among : Contains (uuids saved) uuid). at_last (saved_at uuid among))
        (λ rest.
        ⊎_elim (λ got. at_last (subst (λ (u : Bytes). IsAtLast mid a u) got.2.uuid_is (retrieved_at got.0 got.1))) (λ out. left_out out.0 out.1) rest)
        (may.tells.told uuid its.row its.stands its.account (subst (λ (k : ℕ). above < k) (sym is) up) (subst (λ (k : ℕ). k ≤ may.tells.stamp) (sym is) within))

    stands : Stands uuid v
    stands = by (nat_lt above v.stamp) refl
      where
        by : (b : Bool) → nat_lt above v.stamp ≡ b → Stands uuid v
        by true e = new ((Decides-ltb above v.stamp).0 e)
        by false e =
            let not_less : ¬ (above < v.stamp) = λ less. let yes : nat_lt above v.stamp ≡ true = (Decides-ltb above v.stamp).1 less in cc in
            old (omega arith)

  pub pulled_up : (uuid : Bytes) → PulledAt mid a may.tells.stamp uuid
  pulled_up uuid = record {
    live = λ v last within alive. (stands uuid v last within).0 alive;
    gone = λ v last within dead. (stands uuid v last within).1 dead;
  }

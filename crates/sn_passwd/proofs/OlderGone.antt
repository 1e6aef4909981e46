-- Behind an answer that leaves nothing the older set is gone: the device holds its account's last set alone.
use Rattle.std.proofs.Common.{◌≡◌, ◌⊎◌, ℕ, List, [], ◌∷◌, length, Option, Some, None, Bool, true, false, refl, sym, ap, ◌∙◌, subst, inl, inr}
use Rattle.rand_chacha.specs.ChaCha.{ChaCha}
use Rattle.sn_adopted.specs.Moves.{OlderStale}
use Rattle.sn_device.proofs.Facts.{after_append, apply_parts}
use Rattle.sn_device.specs.Sending.{NoneWaits}
use Rattle.sn_device.specs.States.{HasLocal, IsInSlot}
use Rattle.sn_device.specs.Steps.{AllFinished, Applies, Retires, Step, applies}
use Rattle.sn_items.specs.Items.{Carries, CarriesParams}
use Rattle.sn_laws.proofs.Facts.{devices_all_hold, one_there}
use Rattle.sn_laws.specs.Lookups.{Bytes, account_of, device_named, greatest}
use Rattle.sn_laws.specs.Reached.{HoldsSets, IsOneOrTwo, NoncesApart}
use Rattle.sn_laws.specs.declared.ideal.Account.{Account}
use Rattle.sn_laws.specs.declared.ideal.Device.{Device}
use Rattle.sn_laws.specs.declared.ideal.Draft.{Draft}
use Rattle.sn_laws.specs.declared.ideal.Ideal.{Ideal}
use Rattle.sn_passwd.proofs.Points.{HoldsAlone, HoldsLast}
use Rattle.sn_passwd.proofs.RoundKeys.{KeepsKeys, sync_keeps}
use Rattle.sn_passwd.proofs.Taken.{end_rows}
use Rattle.sn_rekey.specs.Carrying.{CarriesSet}
use Rattle.sn_rows.specs.Facts.{removed_here}
use Rattle.sn_rows.specs.Table.{Rows, rows_after}
use Rattle.sn_rows.specs.declared.body.RowBody.{RowBody}
use Rattle.sn_rows.specs.declared.change.Change.{Change}
use Rattle.sn_rows.specs.declared.device_rows.LocalItem.{LocalItem}
use Rattle.sn_rows.specs.declared.device_rows.SetRow.{SetRow}
use Rattle.sn_rows.specs.declared.key.Key.TheVariants as key
use Rattle.sn_rows.specs.declared.key.Slot.TheVariants.{Older}
use Rattle.sn_rows.specs.declared.value.Value.{Value}
use Rattle.sn_rows.specs.declared.value.Value.TheVariants as value
use Rattle.sn_sets.specs.Sets.{sealed_of}
use Rattle.sn_shows.proofs.Facts.{greatest_of_one, holder_of, one_number}
use Rattle.sn_shows.specs.Devices.{IsBase, IsSetRow, OpensBase, ShowsBase, ShowsDrafted, ShowsHolder, ShowsOlder}
use Rattle.sn_shows.specs.Laws.{HasAccount}
use Rattle.sn_shows.specs.Sets.{OpensUnder, set_at}
use Rattle.sn_string.proofs.Facts.{one_reading}
use Rattle.sn_string.specs.Grammar.{Reading}
use Rattle.sn_string.specs.declared.params.KeySet.{KeySet}
use Rattle.sn_string.specs.declared.params.Params.{Params}
use Rattle.sn_sync.specs.declared.answer.Answer.TheVariants as answer
use Rattle.sn_sync.specs.declared.answer.Conflict.{Conflict}
use Rattle.sn_sync.specs.declared.item.Item.{Item}
use Rattle.sn_sync.specs.declared.request.Request.{Request}
use Rattle.sn_sync.specs.declared.request.Request.TheVariants as request
use Rattle.sn_world.proofs.Facts.{account_is, identifier_of, named_at, no_draft, nonces_apart, one_set_row, set_of_row}
use Rattle.sn_world.specs.Holds.{Holds}
use Rattle.sn_world.specs.World.{World}

-- a text carries the parameters of one set
one_carried : (text : Bytes) (p q : Params) → CarriesParams text p → CarriesParams text q → p ≡ q
one_carried text p q h k =
    let same : h.reading ≡ k.reading = one_reading text h.reading k.reading h.reads k.reads in
    sym h.params_are ∙ ap (λ (r : Reading). r.params) same ∙ k.params_are

-- of two sets that are held the older one is the account's set in that slot
older_is : (a : Account) (found : Option Value) (held : List ℕ) (v : Value) → ShowsOlder a found held → found ≡ Some v
    → (older : ℕ) × (present : ℕ) × (held ≡ older ∷ present ∷ []) × ShowsOlder a found (older ∷ present ∷ [])
older_is a found [] v shows is = absurd (cc)
older_is a found (one ∷ []) v shows is = absurd (cc)
older_is a found (older ∷ present ∷ []) v shows is = (older, present, refl, shows)
older_is a found (one ∷ two ∷ three ∷ more) v shows is = absurd (cc)

-- ---- a device of which nothing waits

module _ (secret : Bytes) (w : World) (t : Ideal) (h : Holds secret w t) (name : Bytes) (none_waits : NoneWaits (w.devices name)) (d : Device) (a : Account)
    (has : HasAccount t name d a) where
  abbrev device : Rows
  device = w.devices name

  abbrev g : ℕ
  g = greatest 0 d.held

  holder : ShowsHolder device t name d a
  holder = holder_of device t name d a (h.devices name) has

  apart : NoncesApart a
  apart = let there = named_at t d.account a has.account in nonces_apart t h.reached there.0 a there.1

  -- no row of it carries the older of two sets
  module _ (older present : ℕ) (two : d.held ≡ older ∷ present ∷ []) (set : KeySet) (at : set_at older a.sets ≡ Some set) where
    stale : OlderStale device a (older ∷ present ∷ [])
    stale = subst (λ (held : List ℕ). OlderStale device a held) two (h.older_stale name d a has)

    module _ (n : ℕ) (local : LocalItem) (stands : HasLocal device n local) where
      undrafted : (local.latest ≡ None) × (local.posted ≡ None)
      undrafted =
          subst (λ (found : Option Draft). ShowsDrafted a.sets g local found) (no_draft device t name d a holder none_waits local.uuid)
          (holder.locals n local stands).draft

      -- its strings open under its version's set, which is no other than the one that they carry
      opened : (stamp : ℕ) (base : IsBase a g local stamp) (flag : Bool) → local.stale ≡ flag
          → OpensBase a.sets g base.listed.number local.uuid base.listed.strings base.listed.text flag → Carries (sealed_of base.listed.strings) set.params
          → local.stale ≡ true
      opened stamp base true is opens carries = is
      opened stamp base false is opens carries =
          let params : opens.set.params ≡ set.params =
          one_carried (sealed_of base.listed.strings).enc opens.set.params set.params opens.opens.carries.enc carries.enc in
          let number : base.listed.number ≡ older =
          one_number a.sets base.listed.number older opens.set set apart opens.at at (ap (λ (p : Params). p.pw_nonce) params) in
          stale n local base.listed.strings base.listed.text stands base.listed.body_is
          (subst (λ (k : ℕ). OpensUnder a.sets k local.uuid (sealed_of base.listed.strings) base.listed.text) number opens)

      body_not : (found : Option ℕ) → ShowsBase a g local found → ¬ (CarriesSet set local.body)
      body_not None (none, some) carries = subst (λ (b : Option RowBody). CarriesSet set b) none carries
      body_not (Some stamp) base carries =
          none_waits n local stands
          (inr (opened stamp base local.stale refl base.opens (subst (λ (b : Option RowBody). CarriesSet set b) base.listed.body_is carries)))

    all_finished : AllFinished device set
    all_finished n local stands =
        let none = undrafted n local stands in
        record {
          current = λ is. none_waits n local stands (inr is);
          body = body_not n local stands local.base (holder.locals n local stands).base;
          latest = λ carries. subst (λ (b : Option RowBody). CarriesSet set b) none.0 carries;
          posted = λ carries. subst (λ (b : Option RowBody). CarriesSet set b) none.1 carries;
        }

  -- without an older set one is held
  held_one : (held : List ℕ) → ShowsOlder a (device (key.Set Older)) held → IsOneOrTwo (length a.sets) held → device (key.Set Older) ≡ None
      → held ≡ greatest 0 held ∷ []
  held_one [] shows few none = absurd few
  held_one (one ∷ []) shows few none = ap (λ (n : ℕ). n ∷ []) (sym (greatest_of_one one))
  held_one (older ∷ present ∷ []) (keys, is, of) few none = absurd (cc)
  held_one (one ∷ two ∷ three ∷ more) shows few none = absurd few

  few_held : IsOneOrTwo (length a.sets) d.held
  few_held =
      let x : HoldsSets (account_of t name) d =
      subst (λ (u : Ideal). HoldsSets (account_of u name) d) (sym h.reached.is)
      (devices_all_hold h.reached.moves name d h.reached.legal (subst (λ (u : Ideal). device_named u name ≡ Some d) h.reached.is has.device)) in
      let same : x.account ≡ a = one_there x.account a (account_of t name) x.has (account_is t name d a has) in
      subst (λ (b : Account). IsOneOrTwo (length b.sets) d.held) same x.held

  alone : device (key.Set Older) ≡ None → g ≡ length a.sets → d.held ≡ length a.sets ∷ []
  alone none last = held_one d.held holder.older few_held none ∙ ap (λ (n : ℕ). n ∷ []) last

-- ---- the last page

module _ (rows : Rows) (words left : ChaCha) (sent : List Item) (conflicts : List Conflict) (retrieved saved : List Item) (token : Bytes)
    (changes : List Change) (s : Applies rows words sent conflicts None retrieved saved token changes left) where
  abbrev behind : Rows
  behind = rows_after rows changes

  abbrev mid : Rows
  mid = rows_after rows s.end.changes

  whole : behind ≡ rows_after mid (s.counted ∷ s.retired)
  whole = ap (rows_after rows) s.changes_are ∙ after_append rows s.end.changes (s.counted ∷ s.retired)

  -- what it leaves of an item stands behind it
  stands_behind : (n : ℕ) (local : LocalItem) → HasLocal s.end.rows n local → HasLocal behind n local
  stands_behind n local has =
      ap (λ (r : Rows). r (key.Local n)) whole ∙ (apply_parts rows words left sent conflicts None retrieved saved token changes s).ends.items n
      ∙ ap (λ (r : Rows). r (key.Local n)) (sym (end_rows rows words left sent conflicts None retrieved saved token changes s)) ∙ has

  -- the older set goes where no item needs it
  goes : (set : KeySet) → AllFinished behind set → Retires s.end.rows None (Some set) s.retired → behind (key.Set Older) ≡ None
  goes set finished (inl (may, (change, removes, is))) =
      ap (λ (r : Rows). r (key.Set Older)) whole ∙ ap (λ (cs : List Change). rows_after mid (s.counted ∷ cs) (key.Set Older)) is
      ∙ removed_here (rows_after mid (s.counted ∷ [])) change (key.Set Older) removes
  goes set finished (inr (not, none)) = absurd (not (refl, λ n local has. finished n local (stands_behind n local has)))

  kept : KeepsKeys rows behind
  kept = sync_keeps rows words left sent conflicts None retrieved saved token changes s

  module _ (secret : Bytes) (w : World) (t : Ideal) (h : Holds secret w t) (name : Bytes) (is : w.devices name ≡ behind)
      (none_waits : NoneWaits (w.devices name)) (d : Device) (a : Account) (has : HasAccount t name d a) where
    -- one that stays is the account's, and no item needs it
    stays : (set : KeySet) → s.sets.older ≡ Some set → behind (key.Set Older) ≡ rows (key.Set Older) → behind (key.Set Older) ≡ None
    stays set older same =
        let slot : IsInSlot rows s.owner.identifier Older (Some set) =
        subst (λ (o : Option KeySet). IsInSlot rows s.owner.identifier Older o) older s.holds.before in
        let there : w.devices name (key.Set Older) ≡ Some (value.Set slot.0) = ap (λ (r : Rows). r (key.Set Older)) is ∙ same ∙ slot.1 in
        let shows : ShowsHolder (w.devices name) t name d a = holder_of (w.devices name) t name d a (h.devices name) has in
        let two = older_is a (w.devices name (key.Set Older)) d.held (value.Set slot.0) shows.older there in
        let now = kept.owner s.owner s.holds.owned in
        let own : s.owner.identifier ≡ a.identifier =
        sym now.2 ∙ identifier_of (w.devices name) t name d a now.0 shows (ap (λ (r : Rows). r key.Owner) is ∙ now.1) in
        let keys : two.3.0 ≡ slot.0 = one_set_row two.3.0 slot.0 (w.devices name (key.Set Older)) two.3.1 there in
        let at : set_at two.0 a.sets ≡ Some set =
        set_of_row a two.0 slot.0 s.owner.identifier set own (subst (λ (k : SetRow). IsSetRow a two.0 k) keys two.3.2) slot.2 in
        goes set (subst (λ (r : Rows). AllFinished r set) is (all_finished secret w t h name none_waits d a has two.0 two.1 two.2 set at))
        (subst (λ (o : Option KeySet). Retires s.end.rows None o s.retired) older s.retires)

    none_older : behind (key.Set Older) ≡ None
    none_older = by s.sets.older refl kept.older
      where
        by : (found : Option KeySet) → s.sets.older ≡ found
            → ((behind (key.Set Older) ≡ rows (key.Set Older)) ⊎ (behind (key.Set Older) ≡ None)) → behind (key.Set Older) ≡ None
        by found older (inr none) = none
        by None older (inl same) = same ∙ subst (λ (o : Option KeySet). IsInSlot rows s.owner.identifier Older o) older s.holds.before
        by (Some set) older (inl same) = stays set older same

    held_alone : greatest 0 d.held ≡ length a.sets → d.held ≡ length a.sets ∷ []
    held_alone last = alone secret w t h name none_waits d a has (ap (λ (r : Rows). r (key.Set Older)) is ∙ none_older) last

-- whatever the request was
pub applied_alone : (rows : Rows) (words left : ChaCha) (r : Request) (conflicts : List Conflict) (retrieved saved : List Item) (token : Bytes)
    (changes : List Change) → Step rows words (applies r (answer.Sync conflicts None retrieved saved token)) changes left → (secret : Bytes) (w : World)
    (t : Ideal) → Holds secret w t → (name : Bytes) → w.devices name ≡ rows_after rows changes → NoneWaits (w.devices name) → HoldsLast t name
    → HoldsAlone t name
applied_alone rows words left (request.Sync other items limit sync_token cursor_token) conflicts retrieved saved token changes step secret w t h name is
    none_waits last d a has =
    held_alone rows words left items conflicts retrieved saved token changes step secret w t h name is none_waits d a has (last d a has)
applied_alone rows words left (request.Register params pw) conflicts retrieved saved token changes step secret w t h name is none_waits last d a has =
    absurd step
applied_alone rows words left (request.Params identifier) conflicts retrieved saved token changes step secret w t h name is none_waits last d a has =
    absurd step
applied_alone rows words left (request.SignIn identifier pw) conflicts retrieved saved token changes step secret w t h name is none_waits last d a has =
    absurd step
applied_alone rows words left (request.ChangePw other current pw cost nonce) conflicts retrieved saved token changes step secret w t h name is none_waits last
    d a has = absurd step

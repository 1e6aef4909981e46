-- What a device sends of a draft is of its account's present set.
use Rattle.std.proofs.Common.{◌≡◌, ℕ, Option, Some, None, Bool, true, sym, ap, ◌∙◌, subst, inl, inr}
use Rattle.sn_account.specs.Incoming.{IsOwnBody, IsOwnString}
use Rattle.sn_device.specs.Sending.{first_some, message_body}
use Rattle.sn_device.specs.States.{HasLocal}
use Rattle.sn_items.specs.Items.{CarriesParams, OpensItem}
use Rattle.sn_items.specs.Opens.{NamesItem}
use Rattle.sn_items.specs.declared.sealed.Sealed.{Sealed}
use Rattle.sn_laws.proofs.Facts.{one_there}
use Rattle.sn_laws.specs.Lookups.{Bytes, draft_at, greatest}
use Rattle.sn_laws.specs.declared.ideal.Account.{Account}
use Rattle.sn_laws.specs.declared.ideal.Content.{Content}
use Rattle.sn_laws.specs.declared.ideal.Content.TheVariants as content
use Rattle.sn_laws.specs.declared.ideal.Device.{Device}
use Rattle.sn_laws.specs.declared.ideal.Draft.{Draft}
use Rattle.sn_laws.specs.declared.ideal.Ideal.{Ideal}
use Rattle.sn_laws.specs.declared.ideal.Posted.{Posted}
use Rattle.sn_rows.specs.Table.{Rows}
use Rattle.sn_rows.specs.declared.body.RowBody.{RowBody}
use Rattle.sn_rows.specs.declared.body.RowBody.TheVariants as row
use Rattle.sn_rows.specs.declared.body.RowStrings.{RowStrings}
use Rattle.sn_rows.specs.declared.device_rows.LocalItem.{LocalItem}
use Rattle.sn_sets.specs.Sets.{sealed_of}
use Rattle.sn_shows.specs.Devices.{OpensBase, ShowsBase, ShowsContent, ShowsDrafted, ShowsHolder, ShowsPosted}
use Rattle.sn_shows.specs.Sets.{OpensUnder, set_at}
use Rattle.sn_string.proofs.Facts.{one_reading}
use Rattle.sn_string.specs.Grammar.{Reading}
use Rattle.sn_string.specs.declared.params.KeySet.{KeySet}
use Rattle.sn_string.specs.declared.params.Params.{Params}
use Rattle.sn_sync.specs.declared.item.Body.{Body}
use Rattle.sn_sync.specs.declared.item.Body.TheVariants as body
use Rattle.sn_sync.specs.declared.item.Item.{Item}
use Rattle.sn_world.proofs.Making.{sends_it}
use Rattle.sn_world.specs.Making.{IsSentBy, SendsAgain, SendsPosted}

own_string : (text uuid : Bytes) (params : Params) → CarriesParams text params → (reading : Reading) → NamesItem text reading uuid → IsOwnString uuid params text
own_string text uuid params carries reading names = (
  reading,
  names.reads,
  names.uuid_is.spelled,
  ap (λ (r : Reading). r.params) (one_reading text reading carries.reading names.reads carries.reads) ∙ carries.params_are,
)

-- strings that are an item name it, and carry the set's parameters
pub own_item : (sealed : Sealed) (uuid : Bytes) (set : KeySet) (text : Bytes) → OpensItem sealed uuid set text
    → IsOwnBody uuid set.params (body.Strings sealed.content sealed.enc)
own_item sealed uuid set text o = (
  own_string sealed.content uuid set.params o.carries.content o.opens.reading o.opens.authentic.names,
  own_string sealed.enc uuid set.params o.carries.enc o.enc.opens.reading o.enc.opens.authentic.names,
)

only : (posted latest body : Option RowBody) (version : RowBody) → posted ≡ None → latest ≡ None → first_some posted (first_some latest body) ≡ Some version
    → body ≡ Some version
only None None body version e k is = is
only None (Some b) body version e k is = absurd (cc)
only (Some b) latest body version e k is = absurd (cc)

module _ (rows : Rows) (s : Ideal) (name : Bytes) (d : Device) (a : Account) (holder : ShowsHolder rows s name d a) (present : KeySet)
    (at : set_at (greatest 0 d.held) a.sets ≡ Some present) where
  abbrev g : ℕ
  g = greatest 0 d.held

  of_content : (uuid : Bytes) (b : RowBody) (c : Content) → ShowsContent a.sets g uuid b c → IsOwnBody uuid present.params (message_body b)
  of_content uuid row.Deleted c h = tt
  of_content uuid (row.Sealed strings) content.Deleted h = absurd h
  of_content uuid (row.Sealed strings) (content.Plain text) h =
      own_item (sealed_of strings) uuid present text
      (subst (λ (k : KeySet). OpensItem (sealed_of strings) uuid k text) (one_there h.set present (set_at g a.sets) h.at at) h.opens)

  of_posted : (uuid : Bytes) (found : Option RowBody) (o : Option Posted) (b : RowBody) → found ≡ Some b → ShowsPosted a.sets g uuid found o
      → IsOwnBody uuid present.params (message_body b)
  of_posted uuid None o b e h = absurd (cc)
  of_posted uuid (Some c) None b e h = absurd h
  of_posted uuid (Some c) (Some p) b e h =
      let same : c ≡ b = cc in
      of_content uuid b p.content (subst (λ (z : RowBody). ShowsContent a.sets g uuid z p.content) same h)

  of_drafted : (local : LocalItem) (found : Option Draft) (b : RowBody) → local.posted ≡ Some b → ShowsDrafted a.sets g local found
      → IsOwnBody local.uuid present.params (message_body b)
  of_drafted local None b e h = let none : local.posted ≡ None = h.1 in absurd (cc)
  of_drafted local (Some draft) b e h = of_posted local.uuid local.posted draft.posted b e h.posted

  pub sent_own : (number : ℕ) (local : LocalItem) (i : Item) → HasLocal rows number local → SendsPosted local i → IsOwnBody i.uuid present.params i.body
  sent_own number local i stands sends =
      let posted : local.posted ≡ Some sends.0.version = sends_it local.posted (first_some local.latest local.body) sends.0.version sends.1 sends.0.sent in
      subst (λ (u : Bytes). IsOwnBody u present.params i.body) (sym sends.0.uuid_is)
      (subst (λ (z : Body). IsOwnBody local.uuid present.params z) (sym sends.0.body_is)
      (of_drafted local (draft_at s name local.uuid) sends.0.version posted (holder.locals number local stands).draft))

  -- what is sent again of a row without a draft opens under that set too
  again_own : (number : ℕ) (local : LocalItem) (i : Item) → HasLocal rows number local → SendsAgain local i → IsOwnBody i.uuid present.params i.body
  again_own number local i stands again = by local.base (holder.locals number local stands).base
    where
      body_is : local.body ≡ Some again.0.version
      body_is = only local.posted local.latest local.body again.0.version again.3 again.2 again.0.sent

      of_strings : (strings : RowStrings) → local.body ≡ Some (row.Sealed strings) → (text : Bytes) → OpensUnder a.sets g local.uuid (sealed_of strings) text
          → IsOwnBody i.uuid present.params i.body
      of_strings strings is text opens =
          let same : again.0.version ≡ row.Sealed strings = one_there again.0.version (row.Sealed strings) local.body body_is is in
          subst (λ (u : Bytes). IsOwnBody u present.params i.body) (sym again.0.uuid_is)
          (subst (λ (z : Body). IsOwnBody local.uuid present.params z) (sym (again.0.body_is ∙ ap message_body same))
          (of_content local.uuid (row.Sealed strings) (content.Plain text) opens))

      by : (base : Option ℕ) → ShowsBase a g local base → IsOwnBody i.uuid present.params i.body
      by None shown = let none : local.body ≡ None = shown.0 in let some : local.body ≡ Some again.0.version = body_is in absurd (cc)
      by (Some stamp) shown =
          let stale : local.stale ≡ true = again.1 in
          let opens = subst (λ (b : Bool). OpensBase a.sets g shown.listed.number local.uuid shown.listed.strings shown.listed.text b) stale shown.opens in
          of_strings shown.listed.strings shown.listed.body_is shown.listed.text opens.1

  -- so is whatever is sent of a row
  pub sent_by_own : (number : ℕ) (local : LocalItem) (i : Item) → HasLocal rows number local → IsSentBy local i → IsOwnBody i.uuid present.params i.body
  sent_by_own number local i stands (inl posted) = sent_own number local i stands posted
  sent_by_own number local i stands (inr again) = again_own number local i stands again

-- What a device's rows show opens under the greatest of two sets, but for versions that aren't stale, which open under no older one: so nothing opens
-- under that alone.
use Rattle.std.proofs.Common.{◌≡◌, ℕ, Bool, true, false, [], ◌∷◌, Option, Some, None, refl, subst}
use Rattle.sn_device.specs.States.{HasLocal}
use Rattle.sn_items.specs.Items.{OpensItem}
use Rattle.sn_laws.proofs.Facts.{one_there}
use Rattle.sn_laws.specs.Lookups.{Bytes, draft_at}
use Rattle.sn_laws.specs.declared.ideal.Account.{Account}
use Rattle.sn_laws.specs.declared.ideal.Content.{Content}
use Rattle.sn_laws.specs.declared.ideal.Content.TheVariants.{Plain, Deleted}
use Rattle.sn_laws.specs.declared.ideal.Draft.{Draft}
use Rattle.sn_laws.specs.declared.ideal.Ideal.{Ideal}
use Rattle.sn_laws.specs.declared.ideal.Posted.{Posted}
use Rattle.sn_rows.specs.Table.{Rows}
use Rattle.sn_rows.specs.declared.body.RowBody.{RowBody}
use Rattle.sn_rows.specs.declared.body.RowBody.TheVariants as body
use Rattle.sn_rows.specs.declared.body.RowStrings.{RowStrings}
use Rattle.sn_rows.specs.declared.device_rows.LocalItem.{LocalItem}
use Rattle.sn_sets.specs.Sets.{OpensOlder, sealed_of}
use Rattle.sn_sets.specs.declared.sets.Sets.{Sets}
use Rattle.sn_shows.specs.Devices.{IsBase, OpensBase, ShowsBase, ShowsContent, ShowsDrafted, ShowsLocal, ShowsPosted}
use Rattle.sn_shows.specs.Sets.{OpensUnder, set_at}
use Rattle.sn_string.specs.declared.params.KeySet.{KeySet}
use Rattle.sn_adopted.proofs.Places.{NoneOlder}
use Rattle.sn_adopted.specs.Moves.{OlderStale}

pub same_strings : (x y : RowStrings) (found : Option RowBody) → found ≡ Some (body.Sealed x) → found ≡ Some (body.Sealed y) → x ≡ y
same_strings x y found e k = cc

-- the sets that are held are the account's of these two numbers; and a row of which the version opens under the older one is stale
module _ (rows : Rows) (s : Ideal) (name : Bytes) (a : Account) (sets : Sets) (older present : ℕ) (at_present : set_at present a.sets ≡ Some sets.present)
    (at_older : (set : KeySet) → sets.older ≡ Some set → set_at older a.sets ≡ Some set) (only : OlderStale rows a (older ∷ present ∷ [])) where
  -- what opens under the present set doesn't open under the older one alone
  not_older : (uuid : Bytes) (strings : RowStrings) (text other : Bytes) → OpensUnder a.sets present uuid (sealed_of strings) text
      → OpensOlder sets uuid (sealed_of strings) other → ⊥
  not_older uuid strings text other h opens =
      let same : h.set ≡ sets.present = one_there h.set sets.present (set_at present a.sets) h.at at_present in
      opens.not_present text (subst (λ (k : KeySet). OpensItem (sealed_of strings) uuid k text) same h.opens)

  content_not : (uuid : Bytes) (b : RowBody) (content : Content) (strings : RowStrings) (text : Bytes) → ShowsContent a.sets present uuid b content
      → b ≡ body.Sealed strings → OpensOlder sets uuid (sealed_of strings) text → ⊥
  content_not uuid (body.Sealed x) (Plain shown) strings text h e opens =
      let same : x ≡ strings = cc in
      not_older uuid strings shown text (subst (λ (y : RowStrings). OpensUnder a.sets present uuid (sealed_of y) shown) same h) opens
  content_not uuid (body.Sealed x) Deleted strings text h e opens = h
  content_not uuid body.Deleted content strings text h e opens = absurd (cc)

  -- a draft, and what was sent of it

  latest_not : (item : LocalItem) → ShowsLocal s name present a item → NoneOlder sets item.uuid item.latest
  latest_not item shown strings text is opens = by (draft_at s name item.uuid) shown.draft
    where
      by : (found : Option Draft) → ShowsDrafted a.sets present item found → ⊥
      by None k = let none : item.latest ≡ None = k.0 in absurd (cc)
      by (Some draft) k =
          let same : k.latest ≡ body.Sealed strings = one_there k.latest (body.Sealed strings) item.latest k.latest_is is in
          content_not item.uuid k.latest draft.latest strings text k.content same opens

  sent_not : (uuid : Bytes) (found : Option RowBody) (p : Option Posted) (strings : RowStrings) (text : Bytes) → ShowsPosted a.sets present uuid found p
      → found ≡ Some (body.Sealed strings) → OpensOlder sets uuid (sealed_of strings) text → ⊥
  sent_not uuid None p strings text k e opens = absurd (cc)
  sent_not uuid (Some b) None strings text k e opens = k
  sent_not uuid (Some b) (Some p) strings text k e opens =
      let same : b ≡ body.Sealed strings = cc in content_not uuid b p.content strings text k same opens

  posted_not : (item : LocalItem) → ShowsLocal s name present a item → NoneOlder sets item.uuid item.posted
  posted_not item shown strings text is opens = by (draft_at s name item.uuid) shown.draft
    where
      by : (found : Option Draft) → ShowsDrafted a.sets present item found → ⊥
      by None k = let none : item.posted ≡ None = k.1 in absurd (cc)
      by (Some draft) k = sent_not item.uuid item.posted draft.posted strings text k.posted is opens

  -- what the row stands on

  base_not : (local : ℕ) (item : LocalItem) (stamp : ℕ) (strings : RowStrings) (text : Bytes) → HasLocal rows local item
      → (k : IsBase a present item stamp) → item.body ≡ Some (body.Sealed strings) → OpensOlder sets item.uuid (sealed_of strings) text → (stale : Bool)
      → item.stale ≡ stale → OpensBase a.sets present k.listed.number item.uuid k.listed.strings k.listed.text stale → ⊥
  base_not local item stamp strings text stands k is opens true stale under =
      let same : k.listed.strings ≡ strings = same_strings k.listed.strings strings item.body k.listed.body_is is in
      not_older item.uuid strings k.listed.text text
      (subst (λ (x : RowStrings). OpensUnder a.sets present item.uuid (sealed_of x) k.listed.text) same under.1) opens
  base_not local item stamp strings text stands k is opens false fresh under =
      let old : OpensUnder a.sets older item.uuid (sealed_of strings) text =
      record { set = opens.set; at = at_older opens.set opens.held; opens = opens.opens } in
      let stale : item.stale ≡ true = only local item strings text stands is old in
      absurd (cc)

  body_not : (local : ℕ) (item : LocalItem) → HasLocal rows local item → ShowsLocal s name present a item → NoneOlder sets item.uuid item.body
  body_not local item stands shown strings text is opens = by item.base shown.base
    where
      by : (base : Option ℕ) → ShowsBase a present item base → ⊥
      by None k = let none : item.body ≡ None = k.0 in absurd (cc)
      by (Some stamp) k = base_not local item stamp strings text stands k is opens item.stale refl k.opens

  pub places_not : (local : ℕ) (item : LocalItem) → HasLocal rows local item → ShowsLocal s name present a item
      → NoneOlder sets item.uuid item.body × NoneOlder sets item.uuid item.latest × NoneOlder sets item.uuid item.posted
  places_not local item stands shown = (body_not local item stands shown, latest_not item shown, posted_not item shown)

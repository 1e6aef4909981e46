-- A version that has the content of the row's draft: the draft may be settled, and the rows show the state after it.
use Rattle.std.proofs.Common.{◌≡◌, ℕ, [], ◌∷◌, Some, None, true, refl, sym, ap, ◌∙◌, subst, inl, inr}
use Rattle.std.specs.Prelude.{IsTrue}
use Rattle.sn_account.specs.Stored.{IsGiven}
use Rattle.sn_conflict.specs.Meetings.{HasContent, HasContentOf, SameStrings}
use Rattle.sn_items.specs.ItemLaws.{OneContent}
use Rattle.sn_items.specs.declared.sealed.Sealed.{Sealed}
use Rattle.sn_laws.proofs.Facts.{allowed_to}
use Rattle.sn_laws.specs.Lookups.{Bytes, draft_at, greatest, last_of}
use Rattle.sn_laws.specs.Moves.{after, allows}
use Rattle.sn_laws.specs.Relation.{IsContentOf}
use Rattle.sn_laws.specs.declared.ideal.Account.{Account}
use Rattle.sn_laws.specs.declared.ideal.Body.{Body}
use Rattle.sn_laws.specs.declared.ideal.Content.{Content}
use Rattle.sn_laws.specs.declared.ideal.Content.TheVariants as content
use Rattle.sn_laws.specs.declared.ideal.Device.{Device}
use Rattle.sn_laws.specs.declared.ideal.Draft.{Draft}
use Rattle.sn_laws.specs.declared.ideal.Ideal.{Ideal}
use Rattle.sn_laws.specs.declared.ideal.Version.{Version}
use Rattle.sn_laws.specs.declared.moves.Move.TheVariants.{Settle}
use Rattle.sn_rows.specs.Facts.{put_here}
use Rattle.sn_rows.specs.Table.{Rows, rows_after}
use Rattle.sn_rows.specs.declared.body.RowBody.{RowBody}
use Rattle.sn_rows.specs.declared.body.RowBody.TheVariants as row_body
use Rattle.sn_rows.specs.declared.change.Change.{Change}
use Rattle.sn_rows.specs.declared.device_rows.LocalItem.{LocalItem}
use Rattle.sn_rows.specs.declared.key.Key.TheVariants as key
use Rattle.sn_rows.specs.declared.server_rows.ItemRow.{ItemRow}
use Rattle.sn_rows.specs.declared.value.Value.TheVariants as value
use Rattle.sn_sets.specs.Sets.{sealed_of}
use Rattle.sn_shows.proofs.Facts.{holder_of, removed_shows}
use Rattle.sn_shows.specs.Devices.{ShowsContent, ShowsDevice, ShowsDraft, ShowsHolder}
use Rattle.sn_shows.specs.Laws.{PutsSettled, SettledShows}
use Rattle.sn_shows.specs.Servers.{ShowsStrings}
use Rattle.sn_shows.specs.Sets.{OpensUnder}
use Rattle.sn_sync.specs.Laws.{HasOneStamp}
use Rattle.sn_sync.specs.declared.item.Body.{Body as Sent}
use Rattle.sn_sync.specs.declared.item.Body.TheVariants as body
use Rattle.sn_sync.specs.declared.item.Item.{Item}
use Rattle.sn_world.proofs.AtLast.{IsAtLast, LastTold, at_gone, at_live, last_told}
use Rattle.sn_world.proofs.Based.{Based, based_on, given_gone, given_strings, gone_version, live_version, sealed_same}
use Rattle.sn_world.proofs.DeviceSets.{account_is, row_draft}
use Rattle.sn_world.proofs.NumberedSets.{are_held}
use Rattle.sn_world.proofs.HeldStrings.{held_text, one_open}
use Rattle.sn_world.proofs.Removing.{no_row}
use Rattle.sn_world.proofs.Standing.{its_last}
use Rattle.sn_world.specs.Pulled.{HasNoBase}
use Rattle.sn_world.specs.Settling.{MeetsStored, SettlesGone, SettlesOwn, TakesLast}
use Rattle.sn_device.specs.States.{Columns}

module _ (server device : Rows) (s : Ideal) (name : Bytes) (n number : ℕ) (a : Account) (d : Device) (local : LocalItem) (i : Item)
    (one_stamp : HasOneStamp) (one_text : OneContent) (x : MeetsStored server device s name n number a d local i) where
  abbrev g : ℕ
  g = greatest 0 d.held

  abbrev row : ItemRow
  row = x.stored.0

  abbrev gives : IsGiven i.uuid row i
  gives = x.stored.3

  holder : ShowsHolder device s name d a
  holder = holder_of device s name d a x.shows x.has

  pub version : (v : Version) × (last_of i.uuid a.versions ≡ Some v) × ShowsStrings a.sets i.uuid row v.body × (row.updated ≡ v.stamp) × (row.kind ≡ v.kind)
  version = its_last server s.accounts n a i.uuid row x.accounts x.at x.stored.1 x.stored.2

  told : LastTold a i
  told = last_told one_stamp server s.accounts n a i x.accounts x.at x.stored

  -- the row's draft in the ideal state, and what is shown of it
  pub drafted : (draft : Draft) × (draft_at s name i.uuid ≡ Some draft) × ShowsDraft a.sets g local draft × ShowsContent a.sets g i.uuid x.latest draft.latest
  drafted =
      subst (λ (u : Bytes). (draft : Draft) × (draft_at s name u ≡ Some draft) × ShowsDraft a.sets g local draft × ShowsContent a.sets g u x.latest draft.latest)
      x.stands.1 (row_draft device s name d a holder number local x.stands.0 x.latest x.latest_is)

  texts : (sealed other : Sealed) (text told : Bytes) (k : ℕ) → OpensUnder a.sets g i.uuid sealed text → OpensUnder a.sets k i.uuid other told
      → SameStrings x.sets i.uuid sealed i.uuid other → text ≡ told
  texts sealed other text told k ours theirs (inl is) =
      one_open a.sets i.uuid sealed g k text told one_text x.one_set ours (subst (λ (z : Sealed). OpensUnder a.sets k i.uuid z told) (sym is) theirs)
  texts sealed other text told k ours theirs (inr (t, first, second)) =
      held_text device s name d a x.owner x.sets holder x.holds one_text x.one_set i.uuid sealed g text t ours first
      ∙ sym (held_text device s name d a x.owner x.sets holder x.holds one_text x.one_set i.uuid other k told t theirs second)

  -- the draft's content is the version's
  pub content_is : (b : RowBody) (c : Content) (given : Sent) → i.body ≡ given → ShowsContent a.sets g i.uuid b c → HasContentOf x.sets local b i given
      → IsContentOf local.kind c version.0.kind version.0.body
  content_is row_body.Deleted (content.Plain text) given e h k = absurd h
  content_is (row_body.Sealed strings) content.Deleted given e h k = absurd h
  content_is row_body.Deleted content.Deleted (body.Strings c enc) e h k = absurd k
  content_is (row_body.Sealed strings) (content.Plain text) body.Deleted e h k = absurd k
  content_is row_body.Deleted content.Deleted body.Deleted e h k =
      let gone : row.deleted ≡ true = given_gone row row.deleted (sym gives.body ∙ e) in
      subst (λ (z : Body). IsContentOf local.kind content.Deleted version.0.kind z) (sym (gone_version a.sets i.uuid row version.0.body version.2 gone)) tt
  content_is (row_body.Sealed strings) (content.Plain text) (body.Strings c enc) e h (kind, same) =
      let parts = given_strings row row.deleted c enc (sym gives.body ∙ e) in
      let live = live_version a.sets i.uuid row version.0.body version.2 parts.0 in
      let theirs : OpensUnder a.sets live.1 i.uuid (record { content = c; enc = enc }) live.0 =
      subst (λ (z : Sealed). OpensUnder a.sets live.1 i.uuid z live.0) (sealed_same row.content row.enc c enc parts.1 parts.2) live.3 in
      let alike : SameStrings x.sets i.uuid (sealed_of strings) i.uuid (record { content = c; enc = enc }) =
      subst (λ (u : Bytes). SameStrings x.sets u (sealed_of strings) i.uuid (record { content = c; enc = enc })) x.stands.1 same in
      subst (λ (z : Body). IsContentOf local.kind (content.Plain text) version.0.kind z) (sym live.2)
      (kind ∙ gives.kind ∙ version.4, texts (sealed_of strings) (record { content = c; enc = enc }) text live.0 live.1 h theirs alike)

  pub legal : HasContent x.sets local x.latest i → IsTrue (allows s (Settle name i.uuid))
  legal same =
      allowed_to s (Settle name i.uuid)
      (record {
        account = a;
        draft = drafted.0;
        is = record { has = account_is s name d a x.has; at = drafted.1 };
        version = version.0;
        last = version.1;
        content = subst (λ (k : Bytes). IsContentOf k drafted.0.latest version.0.kind version.0.body) drafted.2.kind
            (content_is x.latest drafted.0.latest i.body refl drafted.3 same);
      })

  module _ (change : Change) (p : TakesLast x.sets change number i None) where
    abbrev new : LocalItem
    new = p.puts.local

    based : Based a g x.sets change number i None p version.0
    unfolding version
    based =
        based_on one_stamp server s.accounts n a d.held x.sets
        (are_held device s name d a x.owner x.sets holder x.holds x.one_set) i x.accounts x.at x.stored change
        number None p

    -- the row that is put has the version as its base
    puts_settled : PutsSettled change number a g local.uuid p.stands_on.stamp
    puts_settled =
        record {
          item = new;
          puts = p.puts.puts;
          uuid_is = based.uuid_is ∙ sym x.stands.1;
          base = based.base_is;
          on = based.on;
          latest = ap (λ (c : Columns). c.latest) p.puts.columns_are ∙ p.stands_on.latest_is;
          posted = ap (λ (c : Columns). c.posted) p.puts.columns_are ∙ p.stands_on.posted_is;
        }

    pub shown : SettledShows → ShowsDevice (rows_after device (change ∷ [])) (after s (Settle name i.uuid)) name
    shown law =
        subst (λ (u : Bytes). ShowsDevice (rows_after device (change ∷ [])) (after s (Settle name u)) name) x.stands.1
        (law device s name number local p.stands_on.stamp d a change x.shows x.has x.stands.0 puts_settled)

    -- and up to any stamp this row is the last version
    pub pulled : IsAtLast (rows_after device (change ∷ [])) a i.uuid
    pulled =
        at_live (rows_after device (change ∷ [])) a i told (told.alive p.content p.enc p.body_is) (
          number,
          new,
          (put_here device change (key.Local number) (value.Local new) p.puts.puts, based.uuid_is),
          based.base_is ∙ ap Some (sym (told.stamp_is p.stands_on.stamp p.stands_on.stamped)),
        )

  -- of a deletion the row goes
  pub gone_pulled : i.body ≡ body.Deleted → (rows : Rows) → HasNoBase rows i.uuid → IsAtLast rows a i.uuid
  gone_pulled deleted rows none = at_gone rows a i told (told.dead deleted) none

pub settles_own : HasOneStamp → OneContent → SettledShows → SettlesOwn
settles_own one_stamp one_text law server device s name n number a d local i change x p = (
  legal server device s name n number a d local i one_stamp one_text x.meets x.same,
  shown server device s name n number a d local i one_stamp one_text x.meets change p law,
  pulled server device s name n number a d local i one_stamp one_text x.meets change p,
)

pub settles_gone : HasOneStamp → OneContent → SettlesGone
settles_gone one_stamp one_text server device s name n number a d local i change x deleted gone = (
  legal server device s name n number a d local i one_stamp one_text x.meets x.same,
  subst (λ (u : Bytes). ShowsDevice (rows_after device (change ∷ [])) (after s (Settle name u)) name) x.meets.stands.1
      (removed_shows device s name number local d a change x.meets.shows x.meets.has x.meets.stands.0 gone),
  gone_pulled server device s name n number a d local i one_stamp one_text x.meets deleted (rows_after device (change ∷ []))
      (subst (λ (u : Bytes). HasNoBase (rows_after device (change ∷ [])) u) x.meets.stands.1
      (no_row device s name number local d a change x.meets.shows x.meets.has x.meets.stands.0 gone)),
)

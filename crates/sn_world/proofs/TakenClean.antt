-- What one version of an answer makes of a row without a draft, or of an item without a row: it has no move.
use Rattle.std.proofs.Common.{◌≡◌, ◌<◌, ℕ, [], ◌∷◌, Option, None, refl, sym, ap, ◌∙◌, subst, arith}
use Rattle.sn_account.specs.Tells.{IsStored}
use Rattle.sn_device.specs.Laws.{AreStanding}
use Rattle.sn_device.specs.States.{Columns, HasItem, IsFree, columns}
use Rattle.sn_device.specs.Taking.{MakesRow, Progress, TakesBody}
use Rattle.sn_laws.specs.Lookups.{Bytes, draft_at, greatest}
use Rattle.sn_laws.specs.declared.ideal.Account.{Account}
use Rattle.sn_laws.specs.declared.ideal.Device.{Device}
use Rattle.sn_laws.specs.declared.ideal.Draft.{Draft}
use Rattle.sn_laws.specs.declared.ideal.Ideal.{Ideal}
use Rattle.sn_rows.specs.Table.{Rows, rows_after}
use Rattle.sn_rows.specs.declared.change.Change.{Change}
use Rattle.sn_rows.specs.declared.device_rows.LocalItem.{LocalItem}
use Rattle.sn_rows.specs.declared.device_rows.OwnerRow.{OwnerRow}
use Rattle.sn_rows.specs.declared.key.Key.TheVariants as key
use Rattle.sn_sets.specs.declared.sets.Sets.{Sets}
use Rattle.sn_shows.proofs.Facts.{holder_of, removed_clean}
use Rattle.sn_shows.specs.Devices.{ShowsBase, ShowsDevice, ShowsDrafted, ShowsHolder, ShowsLocal}
use Rattle.sn_sync.specs.Laws.{HasOneStamp}
use Rattle.sn_sync.specs.declared.item.Body.{Body}
use Rattle.sn_sync.specs.declared.item.Body.TheVariants as body
use Rattle.sn_sync.specs.declared.item.Item.{Item}
use Rattle.sn_world.proofs.Based.{Based, based_on}
use Rattle.sn_world.proofs.DeviceRows.{one_local, posted_put}
use Rattle.sn_world.proofs.DeviceSets.{free_undrafted}
use Rattle.sn_world.proofs.Frames.{live_kept}
use Rattle.sn_world.proofs.ShowsLemmas.{IsPut, put_holder, shows_of}
use Rattle.sn_world.proofs.Standing.{its_last}
use Rattle.sn_world.proofs.TakenFrames.{Along, Past, Took, number_free, past_put, past_removed, posted_removed, took_clean, took_nothing, undrafted, unsent}
use Rattle.sn_world.proofs.TakenMet.{held, own_uuid, past_so, takes_last}
use Rattle.sn_world.specs.Settling.{TakesLast}

module _ (one_stamp : HasOneStamp) (server : Rows) (name : Bytes) (n : ℕ) (a : Account) (d : Device) (owner : OwnerRow) (sets : Sets)
    (p : Progress) (s : Ideal) (h : Along server name n a d owner sets p s) (i : Item) (stored : IsStored server n i) where
  abbrev TookSo : Progress → Type 0
  TookSo q = Took server name n a d owner sets p q s []

  abbrev g : ℕ
  g = greatest 0 d.held

  holder : ShowsHolder p.rows s name d a
  holder = holder_of p.rows s name d a h.shows h.has

  -- ---- a row without a draft

  module _ (change : Change) (number : ℕ) (t : TakesLast sets change number i None) (none : draft_at s name i.uuid ≡ None) where
    based : Based a g sets change number i None t (its_last server s.accounts n a i.uuid stored.0 h.accounts h.at stored.1 stored.2).0
    based =
        based_on one_stamp server s.accounts n a d.held sets (held server name n a d owner sets p s h) i h.accounts h.at stored change number None t

    abbrev new : LocalItem
    new = t.puts.local

    shown : ShowsLocal s name g a new
    shown = record {
      draft = subst (λ (o : Option Draft). ShowsDrafted a.sets g new o) (sym (ap (draft_at s name) based.uuid_is ∙ none))
          (ap (λ (c : Columns). c.latest) t.puts.columns_are ∙ t.stands_on.latest_is, ap (λ (c : Columns). c.posted) t.puts.columns_are ∙ t.stands_on.posted_is);
      base = subst (λ (b : Option ℕ). ShowsBase a g new b) (sym based.base_is) based.on;
    }

    put_shows : IsPut p.rows s s name g a change number new → ShowsDevice (rows_after p.rows (change ∷ [])) s name
    put_shows put =
        shows_of (rows_after p.rows (change ∷ [])) s name d a h.has (put_holder p.rows s s name d a change number new put holder)

    -- in the row that the item has
    again_shows : (local : LocalItem) → HasItem p.rows i.uuid number local → ShowsDevice (rows_after p.rows (change ∷ [])) s name
    again_shows local stands = put_shows (record {
      puts = t.puts.puts;
      shown = shown;
      own = λ was e. ap (λ (l : LocalItem). l.uuid) (one_local was local (p.rows (key.Local number)) e stands.0) ∙ stands.1 ∙ sym based.uuid_is;
      apart = λ other it e differs same. differs (holder.once number other local it stands.0 e (stands.1 ∙ sym (same ∙ based.uuid_is)));
      others = λ uuid apart. refl;
    })

    -- in a new one
    new_shows : p.rows (key.Local number) ≡ None → IsFree p.rows i.uuid → ShowsDevice (rows_after p.rows (change ∷ [])) s name
    new_shows nothing free = put_shows (record {
      puts = t.puts.puts;
      shown = shown;
      own = λ was e. absurd (cc);
      apart = λ other it e differs same. free other it (e, same ∙ based.uuid_is);
      others = λ uuid apart. refl;
    })

  abbrev TookPast : Progress → Type 0
  TookPast q = TookSo q × Past p.rows q.rows i.uuid

  took_past : (q : Progress) (rows : Rows) → q.rows ≡ rows → TookSo q → Past p.rows rows i.uuid → TookPast q
  took_past q rows same took past = (took, past_so p.rows rows q.rows i.uuid same past)

  -- a draft of the item, or none
  draft_of : (number : ℕ) (local : LocalItem) → HasItem p.rows i.uuid number local → local.latest ≡ None → draft_at s name i.uuid ≡ None
  draft_of number local stands none =
      ap (draft_at s name) (sym stands.1) ∙ undrafted a.sets g local (draft_at s name local.uuid) none (holder.locals number local stands.0).draft

  pub takes_clean : (number : ℕ) (local : LocalItem) (q : Progress) → HasItem p.rows i.uuid number local → local.latest ≡ None → AreStanding q.next q.rows
      → (b : Body) → i.body ≡ b → TakesBody sets p number i b None None q → TookPast q
  takes_clean number local q stands none standing body.Deleted is (change, gone, same) =
      took_past q (rows_after p.rows (change ∷ [])) (ap (λ (r : Progress). r.rows) same)
      (took_clean server name n a d owner sets p q s change number h gone.key_is (ap (λ (r : Progress). r.rows) same) (ap (λ (r : Progress). r.changes) same) standing
      (removed_clean p.rows s name number local d a change h.shows h.has stands.0 gone
      (ap (draft_at s name) stands.1 ∙ draft_of number local stands none))
      (λ j k. live_kept p.rows (rows_after p.rows (change ∷ []))
      (posted_removed p.rows change number local stands.0 (unsent (columns local) (h.standing.items number local stands.0) none) gone)
      (server (key.Item j.uuid)) s.accounts n j k))
      (past_removed p.rows change number i.uuid gone)
  takes_clean number local q stands none standing (body.Strings content enc) is (c, left, change, stands_on, puts, same) =
      took_past q (rows_after p.rows (change ∷ [])) (ap (λ (r : Progress). r.rows) same)
      (took_clean server name n a d owner sets p q s change number h puts.puts.key_is (ap (λ (r : Progress). r.rows) same) (ap (λ (r : Progress). r.changes) same) standing
      (again_shows change number (takes_last sets p.words i content enc is None c left change number stands_on puts)
      (draft_of number local stands none) local stands)
      (λ j k. live_kept p.rows (rows_after p.rows (change ∷ []))
      (posted_put p.rows change number puts.local puts.puts
      (λ was there some.
      let same_row : was ≡ local = one_local was local (p.rows (key.Local number)) there stands.0 in
      absurd (some (ap (λ (l : LocalItem). l.posted) same_row ∙ unsent (columns local) (h.standing.items number local stands.0) none))))
      (server (key.Item j.uuid)) s.accounts n j k))
      (past_put p.rows change number puts.local i.uuid puts.puts (own_uuid sets p.words i content enc None c left change number stands_on puts))

  -- ---- an item without a row

  pub makes_row : (q : Progress) → IsFree p.rows i.uuid → AreStanding q.next q.rows → (b : Body) → i.body ≡ b → MakesRow sets p i b q → TookPast q
  makes_row q free standing body.Deleted is same =
      (took_nothing server name n a d owner sets p q s h same, subst (λ (r : Progress). Past p.rows r.rows i.uuid) (sym same) (λ v number local apart there. there))
  makes_row q free standing (body.Strings content enc) is (room, c, left, change, stands_on, puts, same) =
      took_past q (rows_after p.rows (change ∷ [])) (ap (λ (r : Progress). r.rows) same)
      (took_clean server name n a d owner sets p q s change p.next h puts.puts.key_is (ap (λ (r : Progress). r.rows) same) (ap (λ (r : Progress). r.changes) same) standing
      (new_shows change p.next (takes_last sets p.words i content enc is None c left change p.next stands_on puts)
      (free_undrafted p.rows s name d a i.uuid holder free) nothing free)
      (λ j k. live_kept p.rows (rows_after p.rows (change ∷ []))
      (posted_put p.rows change p.next puts.local puts.puts (λ was there some. let none : p.rows (key.Local p.next) ≡ None = nothing in absurd (cc)))
      (server (key.Item j.uuid)) s.accounts n j k))
      (past_put p.rows change p.next puts.local i.uuid puts.puts (own_uuid sets p.words i content enc None c left change p.next stands_on puts))
    where
      nothing : p.rows (key.Local p.next) ≡ None
      nothing = number_free p.rows p.next h.kinds (λ local there. let below : p.next < p.next = h.standing.numbered p.next local there in omega arith)

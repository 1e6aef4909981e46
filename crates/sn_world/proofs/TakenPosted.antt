-- What was sent of a draft is answered by a version that has its content: the draft stays, and stands on the version.
use Rattle.std.proofs.Common.{◌≡◌, ◌≢◌, ℕ, [], ◌∷◌, Some, None, Bool, true, refl, sym, ap, ◌∙◌, subst}
use Rattle.std.specs.Prelude.{IsTrue}
use Rattle.rand_chacha.specs.ChaCha.{ChaCha}
use Rattle.sn_account.specs.Tells.{IsStored}
use Rattle.sn_device.specs.Laws.{AreStanding}
use Rattle.sn_device.specs.Sending.{PutsColumns}
use Rattle.sn_device.specs.States.{Columns, HasItem}
use Rattle.sn_device.specs.Taking.{Progress, StandsOn, TakesBody}
use Rattle.sn_conflict.specs.Meetings.{HasContentOf, MeetsPosted}
use Rattle.sn_laws.proofs.Facts.{one_there}
use Rattle.sn_laws.specs.Lookups.{Bytes, draft_at, greatest, is_draft}
use Rattle.sn_laws.specs.Moves.{after, allows, settled_at}
use Rattle.sn_laws.specs.declared.ideal.Account.{Account}
use Rattle.sn_laws.specs.declared.ideal.Device.{Device}
use Rattle.sn_laws.specs.declared.ideal.Draft.{Draft}
use Rattle.sn_laws.specs.declared.ideal.Ideal.{Ideal}
use Rattle.sn_laws.specs.declared.moves.Move.TheVariants.{SettlePosted}
use Rattle.sn_rows.specs.Table.{Rows, key_of, rows_after}
use Rattle.sn_rows.specs.declared.body.RowBody.{RowBody}
use Rattle.sn_rows.specs.declared.body.RowBody.TheVariants as row
use Rattle.sn_rows.specs.declared.change.Change.{Change}
use Rattle.sn_rows.specs.declared.device_rows.LocalItem.{LocalItem}
use Rattle.sn_rows.specs.declared.device_rows.OwnerRow.{OwnerRow}
use Rattle.sn_rows.specs.declared.key.Key.TheVariants as key
use Rattle.sn_sets.specs.declared.sets.Sets.{Sets}
use Rattle.sn_shows.proofs.Facts.{answered_shows}
use Rattle.sn_shows.specs.Devices.{IsBase, ShowsContent, ShowsDevice, ShowsDraft}
use Rattle.sn_shows.specs.Meetings.{PutsAnswered}
use Rattle.sn_sync.specs.Laws.{HasOneStamp}
use Rattle.sn_sync.specs.Stamps.{IsStampText}
use Rattle.sn_sync.specs.Versions.{NamesStamp}
use Rattle.sn_sync.specs.declared.item.Body.{Body}
use Rattle.sn_sync.specs.declared.item.Body.TheVariants as body
use Rattle.sn_sync.specs.declared.item.Item.{Item}
use Rattle.sn_world.proofs.Based.{Based, based_on}
use Rattle.sn_world.proofs.DraftMet.{not_deleted, posted_legal}
use Rattle.sn_world.proofs.DraftMoves.{moved, moved_keeps, moved_numbers}
use Rattle.sn_world.proofs.Settling.{drafted}
use Rattle.sn_world.proofs.ShowsLemmas.{draft_is, find_changed}
use Rattle.sn_world.proofs.Standing.{its_last}
use Rattle.sn_world.proofs.Steps.{reached_more}
use Rattle.sn_world.proofs.TakenFrames.{Along, Past, Took, past_put, took_one}
use Rattle.sn_world.proofs.TakenMet.{TakingLaws, held, met_of, own_uuid, past_so, takes_last}
use Rattle.sn_world.specs.Live.{LiveItem}
use Rattle.sn_world.specs.Settling.{MeetsStored, TakesLast}

one_named : HasOneStamp → (i : Item) (stamp other : ℕ) → NamesStamp i stamp → NamesStamp i other → stamp ≡ other
one_named one_stamp i stamp other (text, is, named) (twin, says, told) =
    one_stamp text stamp other is (subst (λ (t : Bytes). IsStampText t other) (one_there twin text i.updated_at told named) says)

-- a sealed version that was sent is of the row's type
kind_of : (sets : Sets) (local : LocalItem) (i : Item) (b : RowBody) (content enc : Bytes) → HasContentOf sets local b i (body.Strings content enc) → local.kind ≡ i.kind
kind_of sets local i row.Deleted content enc h = absurd h
kind_of sets local i (row.Sealed strings) content enc h = h.0

module _ (laws : TakingLaws) (server : Rows) (name : Bytes) (n : ℕ) (a : Account) (d : Device) (owner : OwnerRow) (sets : Sets)
    (p : Progress) (s : Ideal) (h : Along server name n a d owner sets p s) (i : Item) (stored : IsStored server n i) (number : ℕ) (local : LocalItem)
    (stands : HasItem p.rows i.uuid number local) (flag : Bool) (x : MeetsPosted sets local i flag) (stamp : ℕ) (named : NamesStamp i stamp) where
  abbrev TookSo : Progress → Type 0
  TookSo q = Took server name n a d owner sets p q s (SettlePosted name i.uuid stamp ∷ [])

  abbrev later : Ideal
  later = after s (SettlePosted name i.uuid stamp)

  abbrev met : MeetsStored server p.rows s name n number a d local i
  met = met_of server name n a d owner sets p s h i stored number local stands x.latest x.meets.drafted

  abbrev own : (draft : Draft) × (draft_at s name i.uuid ≡ Some draft) × ShowsDraft a.sets (greatest 0 d.held) local draft
      × ShowsContent a.sets (greatest 0 d.held) i.uuid x.latest draft.latest
  own = drafted server p.rows s name n number a d local i laws.one_stamp laws.one_text met

  legal : IsTrue (allows s (SettlePosted name i.uuid stamp))
  legal = posted_legal server p.rows s name n number a d local i laws.one_stamp laws.one_text met stamp named x.same

  its_own : (y : Draft) → is_draft name i.uuid y ≡ true → (settled_at stamp y).uuid ≡ i.uuid
  its_own y passes = (draft_is name i.uuid y passes).1

  unsent : (e : Draft) → draft_at (moved s name i.uuid (settled_at stamp)) name i.uuid ≡ Some e → e.posted ≡ None
  unsent e at =
      let is : e ≡ settled_at stamp own.0 =
      one_there e (settled_at stamp own.0) (draft_at (moved s name i.uuid (settled_at stamp)) name i.uuid) at
      (find_changed (is_draft name i.uuid) (settled_at stamp) (λ y. refl) s.drafts own.0 own.1) in
      ap (λ (y : Draft). y.posted) is

  -- the row that is put
  module _ (content enc : Bytes) (is : i.body ≡ body.Strings content enc) (c : Columns) (left : ChaCha) (change : Change)
      (stands_on : StandsOn sets p.words i content enc local.latest None c left) (puts : PutsColumns change number c) where
    abbrev takes : TakesLast sets change number i local.latest
    takes = takes_last sets p.words i content enc is local.latest c left change number stands_on puts

    based : Based a (greatest 0 d.held) sets change number i local.latest takes
        (its_last server s.accounts n a i.uuid stored.0 h.accounts h.at stored.1 stored.2).0
    based =
        based_on laws.one_stamp server s.accounts n a d.held sets
        (held server name n a d owner sets p s h) i h.accounts h.at stored change number local.latest takes

    same_stamp : stands_on.stamp ≡ stamp
    same_stamp = one_named laws.one_stamp i stands_on.stamp stamp stands_on.stamped named

    kind_is : local.kind ≡ i.kind
    kind_is = kind_of sets local i x.same.0 content enc (subst (λ (z : Body). HasContentOf sets local x.same.0 i z) is x.same.2)

    answered : PutsAnswered change number a (greatest 0 d.held) local stamp
    answered = record {
      again = puts.local;
      puts = puts.puts;
      uuid_is = based.uuid_is ∙ sym stands.1;
      kind_is = ap (λ (k : Columns). k.kind) puts.columns_are ∙ stands_on.kind_is ∙ sym kind_is;
      base = based.base_is ∙ ap Some same_stamp;
      on = subst (λ (k : ℕ). IsBase a (greatest 0 d.held) puts.local k) same_stamp based.on;
      latest = ap (λ (k : Columns). k.latest) puts.columns_are ∙ stands_on.latest_is;
      posted = ap (λ (k : Columns). k.posted) puts.columns_are ∙ stands_on.posted_is;
    }

    drafted_so : local.latest ≢ None
    drafted_so none = let some : local.latest ≡ Some x.latest = x.meets.drafted in cc

    shows : ShowsDevice (rows_after p.rows (change ∷ [])) later name
    shows =
        subst (λ (u : Bytes). ShowsDevice (rows_after p.rows (change ∷ [])) (after s (SettlePosted name u stamp)) name) stands.1
        (answered_shows p.rows s name number local stamp d a change h.shows h.has stands.0 drafted_so answered)

  pub takes_posted : (q : Progress) → AreStanding q.next q.rows
      → ((change : Change) → key_of change ≡ key.Local number → (j : Item) → LiveItem (server (key.Item j.uuid)) p.rows s.accounts n j
      → LiveItem (server (key.Item j.uuid)) (rows_after p.rows (change ∷ [])) s.accounts n j)
      → (b : Body) → i.body ≡ b → TakesBody sets p number i b local.latest None q → TookSo q × Past p.rows q.rows i.uuid
  takes_posted q standing live body.Deleted is _ =
      absurd (not_deleted server p.rows s name n number a d local i laws.one_stamp laws.one_text met laws.deletions h.reached x.differs x.same is)
  takes_posted q standing live (body.Strings content enc) is (c, left, change, stands_on, puts, so) =
      let rows : q.rows ≡ rows_after p.rows (change ∷ []) = ap (λ (r : Progress). r.rows) so in (
        took_one server name n a d owner sets p q s (SettlePosted name i.uuid stamp ∷ []) change number h puts.puts.key_is rows (ap (λ (r : Progress). r.changes) so)
            standing (legal, tt) (reached_more s (SettlePosted name i.uuid stamp) h.reached legal) refl refl
            (shows content enc is c left change stands_on puts)
            (λ at other off k. moved_keeps s name i.uuid i.uuid (settled_at stamp) (λ y. refl) its_own unsent at other off k)
            (moved_numbers s name i.uuid i.uuid (settled_at stamp) (λ y. refl) its_own unsent h.numbers) (live change puts.puts.key_is),
        past_so p.rows (rows_after p.rows (change ∷ [])) q.rows i.uuid rows
            (past_put p.rows change number puts.local i.uuid puts.puts (own_uuid sets p.words i content enc local.latest c left change number stands_on puts)),
      )

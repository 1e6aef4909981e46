-- What one version of an answer leaves of how far a device has pulled.
use Rattle.std.proofs.Common.{◌≡◌, ◌≢◌, ◌<◌, ◌≤◌, ℕ, [], ◌∷◌, map, Option, Some, None, Bool, true, false, refl, sym, ap, ◌∙◌, subst, inl, inr, ⊎_elim, ◌⊎◌, arith}
use Rattle.std.specs.Str.{bytes_eq}
use Rattle.sn_account.specs.Tells.{IsStored}
use Rattle.sn_device.specs.Sending.{PutsColumns}
use Rattle.sn_device.specs.States.{Columns, HasItem, HasLocal, IsFree}
use Rattle.sn_device.specs.Taking.{Copies, MakesRow, Progress, TakesBody, TakesServer}
use Rattle.sn_conflict.specs.Meetings.{IsKnown, MeetsClosed}
use Rattle.sn_conflict.specs.declared.meeting.Meeting.TheVariants as meeting
use Rattle.sn_laws.proofs.Facts.{clash, one_there, same_text, text_same}
use Rattle.sn_laws.specs.Each.{Each}
use Rattle.sn_laws.specs.Laws.{Rises}
use Rattle.sn_laws.specs.Lookups.{Bytes, draft_at, greatest}
use Rattle.sn_laws.specs.Relation.{IsLive}
use Rattle.sn_laws.specs.declared.ideal.Account.{Account}
use Rattle.sn_laws.specs.declared.ideal.Body.{Body as Versions}
use Rattle.sn_laws.specs.declared.ideal.Content.{Content}
use Rattle.sn_laws.specs.declared.ideal.Content.TheVariants as content
use Rattle.sn_laws.specs.declared.ideal.Device.{Device}
use Rattle.sn_laws.specs.declared.ideal.Draft.{Draft}
use Rattle.sn_laws.specs.declared.ideal.Ideal.{Ideal}
use Rattle.sn_laws.specs.declared.ideal.Version.{Version}
use Rattle.sn_items.specs.Items.{OpensItem}
use Rattle.sn_rows.specs.Facts.{put_here, put_or_not, removed_elsewhere, removed_here}
use Rattle.sn_rows.specs.Table.{Rows, rows_after}
use Rattle.sn_rows.specs.declared.body.RowBody.{RowBody}
use Rattle.sn_rows.specs.declared.body.RowBody.TheVariants as row
use Rattle.sn_rows.specs.declared.body.RowStrings.{RowStrings}
use Rattle.sn_rows.specs.declared.change.Change.{Change}
use Rattle.sn_rows.specs.declared.device_rows.LocalItem.{LocalItem}
use Rattle.sn_rows.specs.declared.device_rows.OwnerRow.{OwnerRow}
use Rattle.sn_rows.specs.declared.key.Key.TheVariants as key
use Rattle.sn_rows.specs.declared.value.Value.TheVariants as value
use Rattle.sn_sets.specs.Sets.{sealed_of}
use Rattle.sn_sets.specs.declared.sets.Sets.{Sets}
use Rattle.sn_shows.proofs.Facts.{holder_of}
use Rattle.sn_shows.specs.Devices.{IsBase, ShowsBase, ShowsContent, ShowsDrafted, ShowsLocal}
use Rattle.sn_string.specs.declared.params.KeySet.{KeySet}
use Rattle.sn_sync.specs.Versions.{NamesStamp}
use Rattle.sn_sync.specs.declared.item.Body.{Body}
use Rattle.sn_sync.specs.declared.item.Body.TheVariants as body
use Rattle.sn_sync.specs.declared.item.Item.{Item}
use Rattle.sn_world.proofs.AtLast.{IsAtLast, LastTold, at_gone, at_live, last_told, rises_last}
use Rattle.sn_world.proofs.DeviceRows.{one_local}
use Rattle.sn_world.proofs.Pulls.{StaysAt, stays_both, stays_on, stays_put, stays_removed, stays_same}
use Rattle.sn_world.proofs.ShowsLemmas.{each_at}
use Rattle.sn_world.proofs.TakenFrames.{Along}
use Rattle.sn_world.proofs.TakenMet.{TakingLaws, present_set}
use Rattle.sn_world.specs.Pulled.{PulledAt}

-- ---- one item

-- the row of this item does, and what the others stand on is as it was
pub record PullsOne (rows later : Rows) (a : Account) (uuid : Bytes) : Type 0 where
  pub at : IsAtLast later a uuid
  pub others : (v : Bytes) → v ≢ uuid → StaysAt rows later v

pub one_keeps : (rows later : Rows) (a : Account) (uuid : Bytes) → PullsOne rows later a uuid → (v : Bytes) (upto : ℕ) → PulledAt rows a upto v → PulledAt later a upto v
one_keeps rows later a uuid x v upto h = by (bytes_eq v uuid) refl
  where
    by : (b : Bool) → bytes_eq v uuid ≡ b → PulledAt later a upto v
    by true same = subst (λ (u : Bytes). PulledAt later a upto u) (sym (same_text v uuid same)) (x.at upto)
    by false off = stays_on rows later a upto v (x.others v (λ e. clash (bytes_eq v uuid) (text_same v uuid e) off)) h

-- the row of this number is put on the version, and was the item's or nobody's
puts_pulled : (rows : Rows) (change : Change) (number : ℕ) (a : Account) (i : Item) (t : LastTold a i) (stamp : ℕ) (content enc : Bytes)
    → ((local : LocalItem) → HasLocal rows number local → local.uuid ≡ i.uuid) → i.body ≡ body.Strings content enc → (c : Columns) → PutsColumns change number c
    → c.uuid ≡ i.uuid → c.base ≡ Some stamp → NamesStamp i stamp → PullsOne rows (rows_after rows (change ∷ [])) a i.uuid
puts_pulled rows change number a i t stamp content enc own is c puts uuid_is base_is named = record {
  at = at_live (rows_after rows (change ∷ [])) a i t (t.alive content enc is) (
    number,
    puts.local,
    (put_here rows change (key.Local number) (value.Local puts.local) puts.puts, ap (λ (k : Columns). k.uuid) puts.columns_are ∙ uuid_is),
    ap (λ (k : Columns). k.base) puts.columns_are ∙ base_is ∙ ap Some (sym (t.stamp_is stamp named)),
  );
  others = λ v off.
      stays_put rows change number puts.local v puts.puts (λ local there is_v. absurd (off (sym is_v ∙ own local there)))
      (λ is_v. absurd (off (sym is_v ∙ ap (λ (k : Columns). k.uuid) puts.columns_are ∙ uuid_is)));
}

-- the row of the item takes the version
takes_pulled : (sets : Sets) (p q : Progress) (number : ℕ) (a : Account) (i : Item) (t : LastTold a i)
    → ((m : ℕ) (local : LocalItem) → HasItem p.rows i.uuid m local → m ≡ number) → ((local : LocalItem) → HasLocal p.rows number local → local.uuid ≡ i.uuid)
    → (latest posted : Option RowBody) (b : Body) → i.body ≡ b → TakesBody sets p number i b latest posted q → PullsOne p.rows q.rows a i.uuid
takes_pulled sets p q number a i t only own latest posted body.Deleted is (change, gone, so) =
    subst (λ (r : Progress). PullsOne p.rows r.rows a i.uuid) (sym so)
    (record {
      at = at_gone (rows_after p.rows (change ∷ [])) a i t (t.dead is) (λ m local there. absurd (none_left m local there.0 there.1));
      others = λ v off. stays_removed p.rows change number v gone (λ local there is_v. absurd (off (sym is_v ∙ own local there)));
    })
  where
    none_left : (m : ℕ) (local : LocalItem) → HasLocal (rows_after p.rows (change ∷ [])) m local → local.uuid ≡ i.uuid → ⊥
    none_left m local there uuid_is =
        let off : key.Local number ≢ key.Local m =
        λ e. let none : rows_after p.rows (change ∷ []) (key.Local m) ≡ None = ap (rows_after p.rows (change ∷ [])) (sym e) ∙ removed_here p.rows change (key.Local number) gone in
        let some : rows_after p.rows (change ∷ []) (key.Local m) ≡ Some (value.Local local) = there in cc in
        off (ap (λ (k : ℕ). key.Local k) (sym (only m local (sym (removed_elsewhere p.rows change (key.Local number) (key.Local m) gone off) ∙ there, uuid_is))))
takes_pulled sets p q number a i t only own latest posted (body.Strings content enc) is (c, left, change, stands_on, puts, so) =
    subst (λ (r : Progress). PullsOne p.rows r.rows a i.uuid) (sym so)
    (puts_pulled p.rows change number a i t stands_on.stamp content enc own is c puts stands_on.uuid_is stands_on.base_is stands_on.stamped)

module _ (laws : TakingLaws) (server : Rows) (name : Bytes) (n : ℕ) (a : Account) (d : Device) (owner : OwnerRow) (sets : Sets) (p : Progress) (s : Ideal)
    (h : Along server name n a d owner sets p s) where
  abbrev g : ℕ
  g = greatest 0 d.held

  shown : (number : ℕ) (local : LocalItem) → HasLocal p.rows number local → ShowsLocal s name g a local
  shown number local stands = (holder_of p.rows s name d a h.shows h.has).locals number local stands

  -- no row has the next number
  next_free : (local : LocalItem) → HasLocal p.rows p.next local → ⊥
  next_free local there = let low : p.next < p.next = h.standing.numbered p.next local there in omega arith

  module _ (i : Item) (stored : IsStored server n i) where
    told : LastTold a i
    told = last_told laws.one_stamp server s.accounts n a i h.accounts h.at stored

    -- ---- an item without a row

    makes_pulled : (q : Progress) → IsFree p.rows i.uuid → (b : Body) → i.body ≡ b → MakesRow sets p i b q → PullsOne p.rows q.rows a i.uuid
    makes_pulled q free body.Deleted is so =
        subst (λ (r : Progress). PullsOne p.rows r.rows a i.uuid) (sym so)
        (record {
          at = at_gone p.rows a i told (told.dead is) (λ number local there. absurd (free number local there));
          others = λ v off. stays_same p.rows p.rows (λ number. refl) v;
        })
    makes_pulled q free (body.Strings content enc) is (room, c, left, change, stands_on, puts, so) =
        subst (λ (r : Progress). PullsOne p.rows r.rows a i.uuid) (sym so)
        (puts_pulled p.rows change p.next a i told stands_on.stamp content enc (λ local there. absurd (next_free local there)) is c puts
        stands_on.uuid_is stands_on.base_is stands_on.stamped)

    -- ---- one that has a row

    module _ (number : ℕ) (local : LocalItem) (stands : HasItem p.rows i.uuid number local) where
      only : (m : ℕ) (it : LocalItem) → HasItem p.rows i.uuid m it → m ≡ number
      only m it there = h.standing.apart m number it local there.0 stands.0 (there.1 ∙ sym stands.1)

      own : (it : LocalItem) → HasLocal p.rows number it → it.uuid ≡ i.uuid
      own it there = ap (λ (l : LocalItem). l.uuid) (one_local it local (p.rows (key.Local number)) there stands.0) ∙ stands.1

      -- the version isn't above what the row stands on: it is that
      known : (flag : Bool) → IsKnown local i flag → IsAtLast p.rows a i.uuid
      known flag k =
          let base : IsBase a g local k.base = subst (λ (o : Option ℕ). ShowsBase a g local o) k.stands_on (shown number local stands.0).base in
          let w : Version = base.listed.version in
          let rising : Rises (map (λ (v : Version). v.stamp) a.versions) =
          each_at (λ (b : Account). Rises (map (λ (v : Version). v.stamp) b.versions)) s.accounts n a
          (subst (λ (t : Ideal). Each (λ (b : Account). Rises (map (λ (v : Version). v.stamp) b.versions)) t.accounts) (sym h.reached.is) (laws.rise h.reached.moves h.reached.legal)) h.at in
          ⊎_elim
          (λ (same : w ≡ told.version).
          at_live p.rows a i told (subst (λ (v : Version). IsLive v.body) same (subst (λ (b : Versions). IsLive b) (sym base.listed.live) tt))
          (number, local, stands, k.stands_on ∙ ap Some (sym base.listed.stamp_is ∙ ap (λ (v : Version). v.stamp) same)))
          (λ (less : w.stamp < told.version.stamp).
          let old : k.stamp ≤ k.base = k.old in
          let stamp_is : told.version.stamp ≡ k.stamp = told.stamp_is k.stamp k.stamped in
          let base_is : w.stamp ≡ k.base = base.listed.stamp_is in
          absurd (omega arith))
          (rises_last i.uuid a.versions w told.version rising base.listed.among (base.listed.item_is ∙ stands.1) told.last)

      -- and its draft opens
      not_closed : (flag : Bool) → ¬ (MeetsClosed sets local i flag)
      not_closed flag k = by (draft_at s name local.uuid) (shown number local stands.0).draft
        where
          nowhere : (b : RowBody) (c : Content) → b ≡ row.Sealed k.strings → ShowsContent a.sets g local.uuid b c → ⊥
          nowhere row.Deleted c e x = cc
          nowhere (row.Sealed strings) content.Deleted e x = x
          nowhere (row.Sealed strings) (content.Plain text) e x =
              let same : strings ≡ k.strings = cc in
              k.closed text
              (inl (subst (λ (z : KeySet). OpensItem (sealed_of k.strings) local.uuid z text) (present_set server name n a d owner sets p s h x.set x.at)
              (subst (λ (r : RowStrings). OpensItem (sealed_of r) local.uuid x.set text) same x.opens)))

          by : (found : Option Draft) → ShowsDrafted a.sets g local found → ⊥
          by None x = let none : local.latest ≡ None = x.0 in let some : local.latest ≡ Some (row.Sealed k.strings) = k.other.meets.drafted in cc
          by (Some draft) x = nowhere x.latest draft.latest (one_there x.latest (row.Sealed k.strings) local.latest x.latest_is k.other.meets.drafted) x.content

      unchanged : (q : Progress) (flag : Bool) → q ≡ p → IsKnown local i flag ⊎ MeetsClosed sets local i flag → PullsOne p.rows q.rows a i.uuid
      unchanged q flag so met =
          subst (λ (r : Progress). PullsOne p.rows r.rows a i.uuid) (sym so)
          (record {
            at = ⊎_elim (λ (k : IsKnown local i flag). known flag k) (λ (k : MeetsClosed sets local i flag). absurd (not_closed flag k)) met;
            others = λ v off. stays_same p.rows p.rows (λ m. refl) v;
          })

      -- the draft goes on in a row of its own, and then the row takes the version
      forks_pulled : (r q : Progress) → Copies sets p local r → TakesBody sets r number i i.body None None q → PullsOne p.rows q.rows a i.uuid
      forks_pulled r q copies takes =
          let one : PullsOne r.rows q.rows a i.uuid = takes_pulled sets r q number a i told only_then own_then None None i.body refl takes in
          record { at = one.at; others = λ v off. stays_both p.rows r.rows q.rows v (copied v) (one.others v off) }
        where
          rows_are : r.rows ≡ rows_after p.rows (copies.change ∷ [])
          rows_are = ap (λ (z : Progress). z.rows) copies.gives

          copied : (v : Bytes) → StaysAt p.rows r.rows v
          copied v =
              subst (λ (z : Rows). StaysAt p.rows z v) (sym rows_are)
              (stays_put p.rows copies.change p.next copies.puts.local v copies.puts.puts (λ it there is. absurd (next_free it there))
              (λ is none. ap (λ (c : Columns). c.base) copies.puts.columns_are))

          -- a row of the item is that of before
          before : (m : ℕ) (it : LocalItem) → HasItem r.rows i.uuid m it → HasItem p.rows i.uuid m it
          before m it there =
              ⊎_elim
              (λ (same : key.Local p.next ≡ key.Local m).
              let copy : rows_after p.rows (copies.change ∷ []) (key.Local m) ≡ Some (value.Local copies.puts.local) =
              ap (rows_after p.rows (copies.change ∷ [])) (sym same) ∙ put_here p.rows copies.change (key.Local p.next) (value.Local copies.puts.local) copies.puts.puts in
              let is : it ≡ copies.puts.local =
              one_local it copies.puts.local (rows_after p.rows (copies.change ∷ []) (key.Local m)) (ap (λ (z : Rows). z (key.Local m)) (sym rows_are) ∙ there.0) copy in
              let uuid : i.uuid ≡ copies.uuid = sym there.1 ∙ ap (λ (l : LocalItem). l.uuid) is ∙ ap (λ (c : Columns). c.uuid) copies.puts.columns_are in
              absurd (copies.fresh.fresh number local (stands.0, stands.1 ∙ uuid)))
              (λ (past : rows_after p.rows (copies.change ∷ []) (key.Local m) ≡ p.rows (key.Local m)).
              (sym past ∙ ap (λ (z : Rows). z (key.Local m)) (sym rows_are) ∙ there.0, there.1))
              (put_or_not p.rows copies.change (key.Local p.next) (value.Local copies.puts.local) copies.puts.puts (key.Local m))

          only_then : (m : ℕ) (it : LocalItem) → HasItem r.rows i.uuid m it → m ≡ number
          only_then m it there = only m it (before m it there)

          own_then : (it : LocalItem) → HasLocal r.rows number it → it.uuid ≡ i.uuid
          own_then it there =
              ⊎_elim
              (λ (same : key.Local p.next ≡ key.Local number). absurd (next_free local (ap p.rows same ∙ stands.0)))
              (λ (past : rows_after p.rows (copies.change ∷ []) (key.Local number) ≡ p.rows (key.Local number)).
              own it (sym past ∙ ap (λ (z : Rows). z (key.Local number)) (sym rows_are) ∙ there))
              (put_or_not p.rows copies.change (key.Local p.next) (value.Local copies.puts.local) copies.puts.puts (key.Local number))

    pub server_pulled : (q : Progress) (flag : Bool) → TakesServer sets p i flag q → PullsOne p.rows q.rows a i.uuid
    server_pulled q flag (inr (free, makes)) = makes_pulled q free i.body refl makes
    server_pulled q flag (inl (number, local, meeting.Same, stands, met, so)) = unchanged number local stands q flag so met
    server_pulled q flag (inl (number, local, meeting.Take, stands, met, takes)) =
        takes_pulled sets p q number a i told (only number local stands) (own number local stands) None None i.body refl takes
    server_pulled q flag (inl (number, local, meeting.Own true, stands, met, takes)) =
        takes_pulled sets p q number a i told (only number local stands) (own number local stands) None None i.body refl takes
    server_pulled q flag (inl (number, local, meeting.Own false, stands, met, takes)) =
        takes_pulled sets p q number a i told (only number local stands) (own number local stands) local.latest None i.body refl takes
    server_pulled q flag (inl (number, local, meeting.GiveWay, stands, met, takes)) =
        takes_pulled sets p q number a i told (only number local stands) (own number local stands) None None i.body refl takes
    server_pulled q flag (inl (number, local, meeting.Fork, stands, met, (r, copies, takes))) = forks_pulled number local stands r q copies takes

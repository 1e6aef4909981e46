-- Another account has the uuid of a device's new item: a deletion of it ends, and a text goes on under another uuid.
use Rattle.std.proofs.Common.{◌≡◌, ◌≢◌, ℕ, List, [], ◌∷◌, ◌++◌, Option, Some, None, true, refl, sym, ap, ◌∙◌, subst, inl, inr, ⊎_elim}
use Rattle.std.specs.Prelude.{IsTrue}
use Rattle.rand_chacha.specs.ChaCha.{ChaCha}
use Rattle.sn_account.specs.Tells.{IsOthers}
use Rattle.sn_device.specs.Draws.{DrawsFresh}
use Rattle.sn_device.specs.Laws.{AreStanding}
use Rattle.sn_device.specs.Sending.{PutsColumns}
use Rattle.sn_device.specs.States.{HasLocal}
use Rattle.sn_device.specs.Taking.{Progress, Renames, new_columns}
use Rattle.sn_laws.proofs.Facts.{allowed_to, last_among, one_there}
use Rattle.sn_laws.specs.Each.{One}
use Rattle.sn_laws.specs.Lookups.{Bytes, draft_at, greatest, is_draft}
use Rattle.sn_laws.specs.Moves.{after, allows, renamed}
use Rattle.sn_laws.specs.Relation.{IsElsewhere}
use Rattle.sn_laws.specs.declared.ideal.Account.{Account}
use Rattle.sn_laws.specs.declared.ideal.Content.{Content}
use Rattle.sn_laws.specs.declared.ideal.Content.TheVariants as content
use Rattle.sn_laws.specs.declared.ideal.Device.{Device}
use Rattle.sn_laws.specs.declared.ideal.Draft.{Draft}
use Rattle.sn_laws.specs.declared.ideal.Ideal.{Ideal}
use Rattle.sn_laws.specs.declared.ideal.Version.{Version}
use Rattle.sn_laws.specs.declared.moves.Move.{Move}
use Rattle.sn_laws.specs.declared.moves.Move.TheVariants.{Drop, Rename}
use Rattle.sn_rows.specs.Table.{Rows, key_of, rows_after}
use Rattle.sn_rows.specs.declared.body.RowBody.{RowBody}
use Rattle.sn_rows.specs.declared.body.RowBody.TheVariants as row
use Rattle.sn_rows.specs.declared.body.RowStrings.{RowStrings}
use Rattle.sn_rows.specs.declared.change.Change.{Change}
use Rattle.sn_rows.specs.declared.device_rows.LocalItem.{LocalItem}
use Rattle.sn_rows.specs.declared.device_rows.OwnerRow.{OwnerRow}
use Rattle.sn_rows.specs.declared.key.Key.TheVariants as key
use Rattle.sn_rows.specs.declared.server_rows.ItemRow.{ItemRow}
use Rattle.sn_rows.specs.declared.value.Value.{Value}
use Rattle.sn_rows.specs.declared.value.Value.TheVariants as value
use Rattle.sn_sets.specs.Seals.{Seals}
use Rattle.sn_sets.specs.Sets.{OpensHeld, sealed_of}
use Rattle.sn_sets.specs.declared.sets.Sets.{Sets}
use Rattle.sn_shows.proofs.Facts.{holder_of, one_at, renamed_shows}
use Rattle.sn_shows.specs.Devices.{ShowsBase, ShowsContent, ShowsDevice, ShowsDraft, ShowsHolder, ShowsLocal}
use Rattle.sn_shows.specs.Laws.{PutsItem}
use Rattle.sn_sync.specs.declared.item.Item.{Item}
use Rattle.sn_world.proofs.AccountSets.{one_set}
use Rattle.sn_world.proofs.DeviceRows.{one_local, posted_elsewhere, puts_new}
use Rattle.sn_world.proofs.DeviceSets.{account_is, free_undrafted, present_at, row_draft}
use Rattle.sn_world.proofs.DraftMoves.{moved, moved_keeps, moved_numbers}
use Rattle.sn_world.proofs.HeldStrings.{held_text}
use Rattle.sn_world.proofs.Items.{apart_numbers}
use Rattle.sn_world.proofs.Lasts.{has_last}
use Rattle.sn_world.proofs.ShowsLemmas.{draft_is, draft_passes, find_moved}
use Rattle.sn_world.proofs.Standing.{StandsFor, stands_for}
use Rattle.sn_world.proofs.Steps.{reached_more}
use Rattle.sn_world.proofs.TakenEnded.{ends_gone}
use Rattle.sn_world.proofs.TakenFrames.{Along, Took, took_nothing, took_one}
use Rattle.sn_world.proofs.TakenMet.{TakingLaws}
use Rattle.sn_world.proofs.Tokens.{apart_of}
use Rattle.sn_world.specs.Applying.{SaysForeign, renaming}
use Rattle.sn_world.specs.Live.{LiveItem}

same_item : (x y : ItemRow) (found : Option Value) → found ≡ Some (value.Item x) → found ≡ Some (value.Item y) → x ≡ y
same_item x y found e k = cc

one_of : {A : Type 0} (P : A → Type 0) (xs : List A) (y : A) → One (λ (x : A). x ≡ y) xs → P y → One P xs
one_of P [] y one h = absurd one
one_of P (x ∷ xs) y one h = ⊎_elim (λ (e : x ≡ y). inl (subst P (sym e) h)) (λ rest. inr (one_of P xs y rest h)) one

module _ (laws : TakingLaws) (server : Rows) (name : Bytes) (n : ℕ) (a : Account) (d : Device) (owner : OwnerRow) (sets : Sets)
    (p : Progress) (s : Ideal) (h : Along server name n a d owner sets p s) (number : ℕ) (local : LocalItem) (stands : HasLocal p.rows number local)
    (theirs : IsOthers server n local.uuid) where
  abbrev g : ℕ
  g = greatest 0 d.held

  holder : ShowsHolder p.rows s name d a
  holder = holder_of p.rows s name d a h.shows h.has

  shown : ShowsLocal s name g a local
  shown = holder.locals number local stands

  -- the row stands on no version
  pub no_base : local.base ≡ None
  no_base = by local.base refl shown.base
    where
      by : (base : Option ℕ) → local.base ≡ base → ShowsBase a g local base → local.base ≡ None
      by None e k = e
      by (Some stamp) e k =
          let last = has_last local.uuid a.versions k.listed.version k.listed.among k.listed.item_is in
          let its = (h.accounts.each n a h.at).items local.uuid last.0 last.1 in
          absurd (theirs.2 (ap (λ (r : ItemRow). r.account) (same_item theirs.0 its.row (server (key.Item local.uuid)) theirs.1 its.stands) ∙ its.account))

  elsewhere : IsElsewhere s a local.uuid
  elsewhere =
      let st : StandsFor server s.accounts local.uuid theirs.0 = stands_for server s.accounts local.uuid theirs.0 h.accounts theirs.1 in
      let among = last_among local.uuid st.account.versions st.version st.last in
      one_of (λ (b : Account). (b.identifier ≢ a.identifier) × One (λ (v : Version). v.uuid ≡ local.uuid) b.versions) s.accounts st.account
      (one_at s.accounts theirs.0.account st.account st.at) (
        λ same. theirs.2 (apart_of laws.apart s h.reached theirs.0.account n st.account a st.at h.at same),
        one_of (λ (v : Version). v.uuid ≡ local.uuid) st.account.versions st.version among.0 among.1,
      )

  -- the row's draft
  drafted : (latest : RowBody) → local.latest ≡ Some latest
      → (draft : Draft) × (draft_at s name local.uuid ≡ Some draft) × ShowsDraft a.sets g local draft × ShowsContent a.sets g local.uuid latest draft.latest
  drafted latest is = row_draft p.rows s name d a holder number local stands latest is

  -- what was sent of the row changes nothing
  live : (change : Change) → key_of change ≡ key.Local number → (j : Item) → LiveItem (server (key.Item j.uuid)) p.rows s.accounts n j
      → LiveItem (server (key.Item j.uuid)) (rows_after p.rows (change ∷ [])) s.accounts n j
  live change of j (inl x) = inl x
  live change of j (inr (inl x)) = inr (inl x)
  live change of j (inr (inr (inl x))) = inr (inr (inl x))
  live change of j (inr (inr (inr (inr x)))) = inr (inr (inr (inr x)))
  live change of j (inr (inr (inr (inl x)))) =
      ⊎_elim
      (λ (same : x.number ≡ number).
      let row : x.local ≡ local = one_local x.local local (p.rows (key.Local number)) (ap (λ (k : ℕ). p.rows (key.Local k)) (sym same) ∙ x.stands) stands in
      let uuid : local.uuid ≡ j.uuid = ap (λ (l : LocalItem). l.uuid) (sym row) ∙ x.uuid_is in
      inl (theirs.0, ap (λ (u : Bytes). server (key.Item u)) (sym uuid) ∙ theirs.1, theirs.2))
      (λ (differs : x.number ≢ number).
      inr (inr (inr (inl (posted_elsewhere p.rows change number j of x differs)))))
      (apart_numbers x.number number)

  -- ---- a deletion

  drop_legal : local.latest ≡ Some row.Deleted → IsTrue (allows s (Drop name local.uuid))
  drop_legal is =
      let own = drafted row.Deleted is in
      allowed_to s (Drop name local.uuid)
      (record {
        account = a;
        draft = own.0;
        is = record { has = account_is s name d a h.has; at = own.1 };
        new = sym own.2.base ∙ no_base;
        unsent = inr (gone own.0.latest own.3, elsewhere);
      })
    where
      gone : (c : Content) → ShowsContent a.sets g local.uuid row.Deleted c → c ≡ content.Deleted
      gone (content.Plain text) k = absurd k
      gone content.Deleted k = refl

  -- ---- a text

  module _ (strings : RowStrings) (is : local.latest ≡ Some (row.Sealed strings)) (text other : Bytes) (rest : ChaCha) (again : RowStrings) (left : ChaCha)
      (change : Change) (opens : OpensHeld sets local.uuid (sealed_of strings) text) (fresh : DrawsFresh p.rows p.words other rest)
      (seals : Seals rest sets.present other text again left) (puts : PutsColumns change number (new_columns other local.kind again)) where
    abbrev own : (draft : Draft) × (draft_at s name local.uuid ≡ Some draft) × ShowsDraft a.sets g local draft × ShowsContent a.sets g local.uuid (row.Sealed strings) draft.latest
    own = drafted (row.Sealed strings) is

    free : draft_at s name other ≡ None
    free = free_undrafted p.rows s name d a other holder fresh.fresh

    plain : own.0.latest ≡ content.Plain text
    plain = by own.0.latest own.3
      where
        by : (c : Content) → ShowsContent a.sets g local.uuid (row.Sealed strings) c → c ≡ content.Plain text
        by content.Deleted k = absurd k
        by (content.Plain t) k =
            ap content.Plain (held_text p.rows s name d a owner sets holder h.holds laws.one_text (one_set s h.reached n a h.at) local.uuid (sealed_of strings) g t
            text k opens)

    legal : IsTrue (allows s (Rename name local.uuid other))
    legal =
        allowed_to s (Rename name local.uuid other)
        (record {
          account = a;
          draft = own.0;
          is = record { has = account_is s name d a h.has; at = own.1 };
          new = sym own.2.base ∙ no_base;
          elsewhere = elsewhere;
          free = free;
        })

    put_so : PutsItem change number a.sets g other local.kind text
    put_so =
        puts_new change number a.sets g other local.kind text again puts
        (record { set = sets.present; at = present_at p.rows s name d a owner sets holder h.holds; opens = seals.opens })

    shows : ShowsDevice (rows_after p.rows (change ∷ [])) (after s (Rename name local.uuid other)) name
    shows =
        renamed_shows p.rows s name other text number local own.0 d a change h.shows h.has stands own.1 (sym own.2.base ∙ no_base) plain
        (λ at it there same. fresh.fresh at it (there, same)) put_so

    its_other : (y : Draft) → is_draft name local.uuid y ≡ true → (renamed other y).uuid ≡ other
    its_other y passes = refl

    unsent : (e : Draft) → draft_at (moved s name local.uuid (renamed other)) name other ≡ Some e → e.posted ≡ None
    unsent e at =
        let same : e ≡ renamed other own.0 =
        one_there e (renamed other own.0) (draft_at (moved s name local.uuid (renamed other)) name other) at
        (find_moved (is_draft name other) (is_draft name local.uuid) (renamed other)
        (λ y t. draft_passes name other (renamed other y) (draft_is name local.uuid y t).0 refl) s.drafts own.0 free own.1) in
        ap (λ (y : Draft). y.posted) same

    renames : (q : Progress) → q.rows ≡ rows_after p.rows (change ∷ []) → q.changes ≡ p.changes ++ change ∷ [] → AreStanding q.next q.rows
        → Took server name n a d owner sets p q s (Rename name local.uuid other ∷ [])
    renames q rows changes standing =
        took_one server name n a d owner sets p q s (Rename name local.uuid other ∷ []) change number h puts.puts.key_is rows changes standing
        (legal, tt) (reached_more s (Rename name local.uuid other) h.reached legal) refl refl shows
        (λ at o off k. moved_keeps s name local.uuid other (renamed other) (λ y. refl) its_other unsent at o off k)
        (moved_numbers s name local.uuid other (renamed other) (λ y. refl) its_other unsent h.numbers) (live change puts.puts.key_is)

  -- ---- each

  pub takes_renames : (q : Progress) → AreStanding q.next q.rows → (latest : Option RowBody) → local.latest ≡ latest
      → (how : Renames sets p number local latest q) → Took server name n a d owner sets p q s (renaming name sets p number local latest q how)
  takes_renames q standing None is same = took_nothing server name n a d owner sets p q s h same
  takes_renames q standing (Some row.Deleted) is (change, gone, so) =
      (ends_gone laws server name n a d owner sets p s h local.uuid number local (stands, refl) (Drop name local.uuid) refl (drop_legal is) q change gone
      (ap (λ (z : Progress). z.rows) so) (ap (λ (z : Progress). z.changes) so) standing (live change gone.key_is)).0
  takes_renames q standing (Some (row.Sealed strings)) is (inl closed) = took_nothing server name n a d owner sets p q s h closed.1
  takes_renames q standing (Some (row.Sealed strings)) is (inr (text, uuid, rest, again, left, change, opens, fresh, seals, puts, so)) =
      renames strings is text uuid rest again left change opens fresh seals puts q (ap (λ (z : Progress). z.rows) so) (ap (λ (z : Progress). z.changes) so) standing

-- another account's uuid, whether a row has it or not
pub takes_foreign : (laws : TakingLaws) (server : Rows) (name : Bytes) (n : ℕ) (a : Account) (d : Device) (owner : OwnerRow) (sets : Sets)
    (p q : Progress) (s : Ideal) (h : Along server name n a d owner sets p s) (uuid : Bytes) (moves : List Move) → IsOthers server n uuid → AreStanding q.next q.rows
    → SaysForeign name sets p uuid q moves → Took server name n a d owner sets p q s moves
takes_foreign laws server name n a d owner sets p q s h uuid moves theirs standing (inl (number, local, stands, how, said)) =
    subst (λ (ms : List Move). Took server name n a d owner sets p q s ms) (sym said)
    (takes_renames laws server name n a d owner sets p s h number local stands.0 (subst (λ (u : Bytes). IsOthers server n u) (sym stands.1) theirs)
    q standing local.latest refl how)
takes_foreign laws server name n a d owner sets p q s h uuid moves theirs standing (inr (nobody, same, none)) =
    subst (λ (ms : List Move). Took server name n a d owner sets p q s ms) (sym none) (took_nothing server name n a d owner sets p q s h same)

-- A draft's text meets another version: it goes on as a copy of its own, in a row of its own, and its row takes the version.
use Rattle.std.proofs.Common.{◌≡◌, ◌≢◌, ◌<◌, ℕ, List, [], ◌∷◌, ◌++◌, Some, None, true, false, refl, sym, ap, ◌∙◌, subst, append_assoc, arith}
use Rattle.std.specs.Prelude.{IsTrue}
use Rattle.sn_account.specs.Tells.{IsStored}
use Rattle.sn_device.specs.Laws.{AreStanding}
use Rattle.sn_device.specs.States.{HasItem}
use Rattle.sn_device.specs.Taking.{Copies, Progress, TakesBody}
use Rattle.sn_conflict.specs.Meetings.{MeetsText}
use Rattle.sn_laws.proofs.Facts.{found_passes, one_there}
use Rattle.sn_laws.specs.Lookups.{Bytes, draft_at, greatest, is_draft}
use Rattle.sn_laws.specs.Moves.{after, allows, copied, forked}
use Rattle.sn_laws.specs.declared.ideal.Account.{Account}
use Rattle.sn_laws.specs.declared.ideal.Content.{Content}
use Rattle.sn_laws.specs.declared.ideal.Content.TheVariants.{Plain, Deleted}
use Rattle.sn_laws.specs.declared.ideal.Device.{Device}
use Rattle.sn_laws.specs.declared.ideal.Draft.{Draft}
use Rattle.sn_laws.specs.declared.ideal.Ideal.{Ideal}
use Rattle.sn_laws.specs.declared.moves.Move.TheVariants.{Fork, Settle}
use Rattle.sn_rows.specs.Table.{Rows, key_of, rows_after}
use Rattle.sn_rows.specs.declared.body.RowBody.TheVariants as row
use Rattle.sn_rows.specs.declared.body.RowStrings.{RowStrings}
use Rattle.sn_rows.specs.declared.change.Change.{Change}
use Rattle.sn_rows.specs.declared.device_rows.LocalItem.{LocalItem}
use Rattle.sn_rows.specs.declared.device_rows.OwnerRow.{OwnerRow}
use Rattle.sn_rows.specs.declared.key.Key.TheVariants as key
use Rattle.sn_sets.specs.Sets.{OpensHeld, sealed_of}
use Rattle.sn_sets.specs.declared.sets.Sets.{Sets}
use Rattle.sn_shows.proofs.Facts.{forked_shows, holder_of, removed_shows}
use Rattle.sn_shows.specs.Devices.{ShowsContent, ShowsDevice, ShowsDraft, ShowsHolder}
use Rattle.sn_shows.specs.Laws.{PutsItem}
use Rattle.sn_shows.specs.Sets.{OpensUnder}
use Rattle.sn_sync.specs.declared.item.Body.{Body}
use Rattle.sn_sync.specs.declared.item.Body.TheVariants as body
use Rattle.sn_sync.specs.declared.item.Item.{Item}
use Rattle.sn_world.proofs.DeviceRows.{number_of_key, past_key, posted_put, puts_new}
use Rattle.sn_world.proofs.DeviceSets.{free_undrafted, present_at}
use Rattle.sn_world.proofs.DraftMet.{fork_legal, text_of}
use Rattle.sn_world.proofs.DraftMoves.{moved, moved_keeps, moved_numbers}
use Rattle.sn_world.proofs.Frames.{live_kept}
use Rattle.sn_world.proofs.HeldStrings.{held_text}
use Rattle.sn_world.proofs.Settling.{drafted, shown}
use Rattle.sn_world.proofs.ShowsLemmas.{draft_is, draft_passes, find_moved}
use Rattle.sn_world.proofs.Steps.{reached_more}
use Rattle.sn_world.proofs.TakenFrames.{Along, Past, Took, changes_commute, number_free, past_put, past_removed, sets_after, took_changes}
use Rattle.sn_world.proofs.TakenLive.{live_past}
use Rattle.sn_world.proofs.TakenMet.{TakingLaws, each_held, held, met_of, own_uuid, takes_last}
use Rattle.sn_world.specs.Live.{LiveItem}
use Rattle.sn_world.specs.Settling.{MeetsStored}

abbrev text_in : Content → Bytes
text_in (Plain text) = text
text_in Deleted = []

module _ (laws : TakingLaws) (server : Rows) (name : Bytes) (n : ℕ) (a : Account) (d : Device) (owner : OwnerRow) (sets : Sets)
    (p : Progress) (s : Ideal) (h : Along server name n a d owner sets p s) (i : Item) (stored : IsStored server n i) (number : ℕ) (local : LocalItem)
    (stands : HasItem p.rows i.uuid number local) (x : MeetsText sets local i false) (r : Progress) (copies : Copies sets p local r) where
  abbrev g : ℕ
  g = greatest 0 d.held

  abbrev other : Bytes
  other = copies.uuid

  abbrev kept : Rows
  kept = rows_after p.rows (copies.change ∷ [])

  abbrev later : Ideal
  later = after s (Fork name i.uuid other)

  abbrev text : Bytes
  text = text_in (copied (Plain copies.text) local.uuid)

  holder : ShowsHolder p.rows s name d a
  holder = holder_of p.rows s name d a h.shows h.has

  abbrev met : MeetsStored server p.rows s name n number a d local i
  met = met_of server name n a d owner sets p s h i stored number local stands (row.Sealed x.strings) x.other.meets.drafted

  abbrev own : (draft : Draft) × (draft_at s name i.uuid ≡ Some draft) × ShowsDraft a.sets g local draft × ShowsContent a.sets g i.uuid (row.Sealed x.strings) draft.latest
  own = drafted server p.rows s name n number a d local i laws.one_stamp laws.one_text met

  free : draft_at s name other ≡ None
  free = free_undrafted p.rows s name d a other holder copies.fresh.fresh

  legal : IsTrue (allows s (Fork name i.uuid other))
  legal =
      fork_legal server p.rows s name n number a d local i laws.one_stamp laws.one_text met (held server name n a d owner sets p s h)
      (each_held server name n a d owner sets p s h) x.strings other refl
      x.other.meets.news x.other.differs x.other.differed free

  -- ---- the copy is the draft's

  shown_text : (text : Bytes) × (own.0.latest ≡ Plain text) × OpensUnder a.sets g i.uuid (sealed_of x.strings) text
  shown_text = text_of server p.rows s name n number a d local i laws.one_stamp laws.one_text met x.strings refl

  same_text : shown_text.0 ≡ copies.text
  same_text =
      let drafted_so : local.latest ≡ Some (row.Sealed x.strings) = x.other.meets.drafted in
      let copied_so : local.latest ≡ Some (row.Sealed copies.strings) = copies.drafted in
      let strings : copies.strings ≡ x.strings = cc in
      let held : OpensHeld sets i.uuid (sealed_of x.strings) copies.text =
      subst (λ (u : Bytes). OpensHeld sets u (sealed_of x.strings) copies.text) stands.1
      (subst (λ (z : RowStrings). OpensHeld sets local.uuid (sealed_of z) copies.text) strings copies.opens) in
      held_text p.rows s name d a owner sets holder h.holds laws.one_text met.one_set i.uuid (sealed_of x.strings) g shown_text.0 copies.text shown_text.2 held

  copy_is : copied own.0.latest own.0.uuid ≡ Plain text
  copy_is =
      let uuid : own.0.uuid ≡ local.uuid = (draft_is name i.uuid own.0 (found_passes (is_draft name i.uuid) s.drafts own.0 own.1).0).1 ∙ sym stands.1 in
      ap (λ (c : Content). copied c own.0.uuid) shown_text.1 ∙ ap (λ (t : Bytes). copied (Plain t) own.0.uuid) same_text
      ∙ ap (λ (u : Bytes). copied (Plain copies.text) u) uuid

  copy_put : PutsItem copies.change p.next a.sets g other local.kind text
  copy_put =
      puts_new copies.change p.next a.sets g other local.kind text copies.copy copies.puts
      (record { set = sets.present; at = present_at p.rows s name d a owner sets holder h.holds; opens = copies.seals.opens })

  -- ---- and the row takes the version

  nothing : p.rows (key.Local p.next) ≡ None
  nothing = number_free p.rows p.next h.kinds (λ it there. let below : p.next < p.next = h.standing.numbered p.next it there in omega arith)

  apart : p.next ≢ number
  apart e = let below : number < p.next = h.standing.numbered number local stands.0 in omega (arith, e)

  shows : (change : Change) → key_of change ≡ key.Local number → ShowsDevice (rows_after p.rows (change ∷ [])) (after s (Settle name i.uuid)) name
      → Past p.rows (rows_after p.rows (change ∷ [])) i.uuid → ShowsDevice (rows_after kept (change ∷ [])) later name
  shows change of taken past =
      subst (λ (z : Rows). ShowsDevice z later name)
      (changes_commute p.rows change copies.change (λ e. apart (number_of_key (sym of ∙ e ∙ copies.puts.puts.key_is))))
      (forked_shows (rows_after p.rows (change ∷ [])) s name i.uuid other local.kind text p.next own.0 d a copies.change taken h.has own.1 (sym own.2.kind) copy_is free
      (record {
        free = past_key p.rows change (key.Local number) (key.Local p.next) of (λ e. apart (number_of_key e)) ∙ nothing;
        other = λ at it there same.
            copies.fresh.fresh at it
            (past other at it (λ e. copies.fresh.fresh number local (stands.0, stands.1 ∙ sym e)) (there, same));
      }) copy_put)

  its_other : (y : Draft) → is_draft name i.uuid y ≡ true → (forked other y).uuid ≡ other
  its_other y passes = refl

  unsent : (e : Draft) → draft_at (moved s name i.uuid (forked other)) name other ≡ Some e → e.posted ≡ None
  unsent e at =
      let is : e ≡ forked other own.0 =
      one_there e (forked other own.0) (draft_at (moved s name i.uuid (forked other)) name other) at
      (find_moved (is_draft name other) (is_draft name i.uuid) (forked other)
      (λ y t. draft_passes name other (forked other y) (draft_is name i.uuid y t).0 refl) s.drafts own.0 free own.1) in
      ap (λ (y : Draft). y.posted) is

  live : (change : Change) → key_of change ≡ key.Local number → (j : Item) → LiveItem (server (key.Item j.uuid)) p.rows s.accounts n j
      → LiveItem (server (key.Item j.uuid)) (rows_after kept (change ∷ [])) s.accounts n j
  live change of j was =
      live_past laws.one_stamp server kept s.accounts n i stored number local
      (past_key p.rows copies.change (key.Local p.next) (key.Local number) copies.puts.puts.key_is (λ e. apart (sym (number_of_key e))) ∙ stands.0, stands.1)
      x.other.meets.news change of j
      (live_kept p.rows kept (posted_put p.rows copies.change p.next copies.puts.local copies.puts.puts
      (λ it there some. let none : p.rows (key.Local p.next) ≡ None = nothing in absurd (cc))) (server (key.Item j.uuid)) s.accounts n j was)

  forks_so : (q : Progress) (change : Change) → key_of change ≡ key.Local number → q.rows ≡ rows_after r.rows (change ∷ []) → q.changes ≡ r.changes ++ change ∷ []
      → AreStanding q.next q.rows → ShowsDevice (rows_after p.rows (change ∷ [])) (after s (Settle name i.uuid)) name
      → Past p.rows (rows_after p.rows (change ∷ [])) i.uuid → Took server name n a d owner sets p q s (Fork name i.uuid other ∷ [])
  forks_so q change of rows changes standing taken past =
      let first : r.rows ≡ kept = ap (λ (z : Progress). z.rows) copies.gives in
      let front : r.changes ≡ p.changes ++ copies.change ∷ [] = ap (λ (z : Progress). z.changes) copies.gives in
      took_changes server name n a d owner sets p q s (Fork name i.uuid other ∷ []) (copies.change ∷ change ∷ []) h
      (rows ∙ ap (λ (z : Rows). rows_after z (change ∷ [])) first)
      (changes ∙ ap (λ (z : List Change). z ++ change ∷ []) front ∙ append_assoc p.changes (copies.change ∷ []) (change ∷ [])) standing
      (sets_after server name n a d owner sets kept change number of
      (sets_after server name n a d owner sets p.rows copies.change p.next copies.puts.puts.key_is h.holds))
      (legal, tt) (reached_more s (Fork name i.uuid other) h.reached legal) refl refl (shows change of taken past)
      (λ at o off k. moved_keeps s name i.uuid other (forked other) (λ y. refl) its_other unsent at o off k)
      (moved_numbers s name i.uuid other (forked other) (λ y. refl) its_other unsent h.numbers) (live change of)

  pub takes_fork : (q : Progress) → AreStanding q.next q.rows → (b : Body) → i.body ≡ b → TakesBody sets r number i b None None q
      → Took server name n a d owner sets p q s (Fork name i.uuid other ∷ [])
  takes_fork q standing body.Deleted is (change, gone, so) =
      forks_so q change gone.key_is (ap (λ (z : Progress). z.rows) so) (ap (λ (z : Progress). z.changes) so) standing
      (subst (λ (u : Bytes). ShowsDevice (rows_after p.rows (change ∷ [])) (after s (Settle name u)) name) stands.1
      (removed_shows p.rows s name number local d a change h.shows h.has stands.0 gone)) (past_removed p.rows change number i.uuid gone)
  takes_fork q standing (body.Strings content enc) is (c, left, change, stands_on, puts, so) =
      let takes = takes_last sets r.words i content enc is None c left change number stands_on puts in
      forks_so q change puts.puts.key_is (ap (λ (z : Progress). z.rows) so) (ap (λ (z : Progress). z.changes) so) standing
      (shown server p.rows s name n number a d local i laws.one_stamp laws.one_text met change takes laws.settled)
      (past_put p.rows change number puts.local i.uuid puts.puts (own_uuid sets r.words i content enc None c left change number stands_on puts))

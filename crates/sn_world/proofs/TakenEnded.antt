-- A draft ends where its row meets the server's version of its item, or goes: what is left of the rows and of the ideal state.
use Rattle.std.proofs.Common.{◌≡◌, ℕ, [], ◌∷◌, ◌++◌, Some, None, sym, ap, subst}
use Rattle.std.specs.Prelude.{IsTrue}
use Rattle.sn_account.specs.Tells.{IsStored}
use Rattle.sn_device.specs.Laws.{AreStanding}
use Rattle.sn_device.specs.States.{HasItem}
use Rattle.sn_device.specs.Taking.{Progress, TakesBody}
use Rattle.sn_laws.specs.Lookups.{Bytes}
use Rattle.sn_laws.specs.Moves.{after, allows}
use Rattle.sn_laws.specs.declared.ideal.Account.{Account}
use Rattle.sn_laws.specs.declared.ideal.Device.{Device}
use Rattle.sn_laws.specs.declared.ideal.Ideal.{Ideal}
use Rattle.sn_laws.specs.declared.moves.Move.{Move}
use Rattle.sn_laws.specs.declared.moves.Move.TheVariants.{Settle}
use Rattle.sn_rows.specs.Table.{Removes, Rows, key_of, rows_after}
use Rattle.sn_rows.specs.declared.body.RowBody.{RowBody}
use Rattle.sn_rows.specs.declared.change.Change.{Change}
use Rattle.sn_rows.specs.declared.device_rows.LocalItem.{LocalItem}
use Rattle.sn_rows.specs.declared.device_rows.OwnerRow.{OwnerRow}
use Rattle.sn_rows.specs.declared.key.Key.TheVariants as key
use Rattle.sn_sets.specs.declared.sets.Sets.{Sets}
use Rattle.sn_shows.proofs.Facts.{removed_shows}
use Rattle.sn_shows.specs.Devices.{ShowsDevice}
use Rattle.sn_sync.specs.declared.item.Body.{Body}
use Rattle.sn_sync.specs.declared.item.Body.TheVariants as body
use Rattle.sn_sync.specs.declared.item.Item.{Item}
use Rattle.sn_world.proofs.DraftMoves.{numbers_kept}
use Rattle.sn_world.proofs.Settled.{draft_before}
use Rattle.sn_world.proofs.Settling.{shown}
use Rattle.sn_world.proofs.Steps.{reached_more}
use Rattle.sn_world.proofs.TakenFrames.{Along, Past, Took, past_put, past_removed, took_one}
use Rattle.sn_world.proofs.TakenMet.{TakingLaws, met_of, own_uuid, past_so, takes_last}
use Rattle.sn_world.specs.Holds.{NumbersOf}
use Rattle.sn_world.specs.Live.{LiveItem}

-- the move is one that ends the draft of this item
module _ (laws : TakingLaws) (server : Rows) (name : Bytes) (n : ℕ) (a : Account) (d : Device) (owner : OwnerRow) (sets : Sets) (p : Progress) (s : Ideal)
    (h : Along server name n a d owner sets p s) (uuid : Bytes) (number : ℕ) (local : LocalItem) (stands : HasItem p.rows uuid number local) (move : Move)
    (effect : after s move ≡ after s (Settle name uuid)) (legal : IsTrue (allows s move)) where
  abbrev TookSo : Progress → Type 0
  TookSo q = Took server name n a d owner sets p q s (move ∷ [])

  abbrev later : Ideal
  later = after s (Settle name uuid)

  abbrev StaysLive : Change → Type 0
  StaysLive change = (j : Item) → LiveItem (server (key.Item j.uuid)) p.rows s.accounts n j → LiveItem (server (key.Item j.uuid))
      (rows_after p.rows (change ∷ [])) s.accounts n j

  pub ended : (q : Progress) (change : Change) → key_of change ≡ key.Local number → q.rows ≡ rows_after p.rows (change ∷ []) → q.changes ≡ p.changes ++ change ∷ []
      → AreStanding q.next q.rows → ShowsDevice (rows_after p.rows (change ∷ [])) later name → StaysLive change → TookSo q
  ended q change of rows changes standing shows live =
      took_one server name n a d owner sets p q s (move ∷ []) change number h of rows changes standing (legal, tt) (reached_more s move h.reached legal)
      (ap (λ (t : Ideal). t.accounts) effect) (ap (λ (t : Ideal). t.devices) effect)
      (subst (λ (t : Ideal). ShowsDevice (rows_after p.rows (change ∷ [])) t name) (sym effect) shows)
      (λ at other off k. subst (λ (t : Ideal). ShowsDevice at t other) (sym effect) (laws.keeps at s name other uuid off k))
      (subst (λ (t : Ideal). (other : Bytes) → NumbersOf t other) (sym effect)
      (numbers_kept s later.drafts (λ other item draft at some. draft_before s name uuid other item draft at) h.numbers)) live

  -- the row goes with it
  pub ends_gone : (q : Progress) (change : Change) → Removes change (key.Local number) → q.rows ≡ rows_after p.rows (change ∷ []) → q.changes ≡ p.changes ++ change ∷ []
      → AreStanding q.next q.rows → StaysLive change → TookSo q × Past p.rows q.rows uuid
  ends_gone q change gone rows changes standing live = (
    ended q change gone.key_is rows changes standing
        (subst (λ (u : Bytes). ShowsDevice (rows_after p.rows (change ∷ [])) (after s (Settle name u)) name) stands.1
        (removed_shows p.rows s name number local d a change h.shows h.has stands.0 gone)) live,
    past_so p.rows (rows_after p.rows (change ∷ [])) q.rows uuid rows (past_removed p.rows change number uuid gone),
  )

-- of an item whose row meets the server's version
module _ (laws : TakingLaws) (server : Rows) (name : Bytes) (n : ℕ) (a : Account) (d : Device) (owner : OwnerRow) (sets : Sets)
    (p : Progress) (s : Ideal) (h : Along server name n a d owner sets p s) (i : Item) (stored : IsStored server n i) (number : ℕ) (local : LocalItem)
    (stands : HasItem p.rows i.uuid number local) (latest : RowBody) (latest_is : local.latest ≡ Some latest) (move : Move)
    (effect : after s move ≡ after s (Settle name i.uuid)) (legal : IsTrue (allows s move)) where
  -- the row takes it
  pub takes_ended : (q : Progress) → AreStanding q.next q.rows
      → ((change : Change) → key_of change ≡ key.Local number → (j : Item) → LiveItem (server (key.Item j.uuid)) p.rows s.accounts n j
      → LiveItem (server (key.Item j.uuid)) (rows_after p.rows (change ∷ [])) s.accounts n j)
      → (b : Body) → i.body ≡ b → TakesBody sets p number i b None None q → Took server name n a d owner sets p q s (move ∷ []) × Past p.rows q.rows i.uuid
  takes_ended q standing live body.Deleted is (change, gone, so) =
      ends_gone laws server name n a d owner sets p s h i.uuid number local stands move effect legal q change gone
      (ap (λ (r : Progress). r.rows) so) (ap (λ (r : Progress). r.changes) so) standing (live change gone.key_is)
  takes_ended q standing live (body.Strings content enc) is (c, left, change, stands_on, puts, so) =
      let takes = takes_last sets p.words i content enc is None c left change number stands_on puts in
      let rows : q.rows ≡ rows_after p.rows (change ∷ []) = ap (λ (r : Progress). r.rows) so in (
        ended laws server name n a d owner sets p s h i.uuid number local stands move effect legal q change puts.puts.key_is rows
            (ap (λ (r : Progress). r.changes) so) standing
            (shown server p.rows s name n number a d local i laws.one_stamp laws.one_text
            (met_of server name n a d owner sets p s h i stored number local stands latest latest_is) change takes laws.settled) (live change puts.puts.key_is),
        past_so p.rows (rows_after p.rows (change ∷ [])) q.rows i.uuid rows
            (past_put p.rows change number puts.local i.uuid puts.puts (own_uuid sets p.words i content enc None c left change number stands_on puts)),
      )

-- A new item of which no server knows goes: its draft is dropped.
use Rattle.std.proofs.Common.{◌≡◌, ℕ, List, [], ◌∷◌, Option, Some, None, refl, sym, ◌∙◌, subst, inl, ⊎_elim}
use Rattle.std.specs.Prelude.{IsSome, IsTrue}
use Rattle.sn_device.specs.States.{HasLocal, IsSound}
use Rattle.sn_device.specs.Steps.{IsUnknown}
use Rattle.sn_laws.proofs.Facts.{allowed_to}
use Rattle.sn_laws.specs.Lookups.{Bytes, device_named, draft_at, greatest}
use Rattle.sn_laws.specs.Moves.{after, allows}
use Rattle.sn_laws.specs.declared.ideal.Account.{Account}
use Rattle.sn_laws.specs.declared.ideal.Device.{Device}
use Rattle.sn_laws.specs.declared.ideal.Draft.{Draft}
use Rattle.sn_laws.specs.declared.ideal.Ideal.{Ideal}
use Rattle.sn_laws.specs.declared.ideal.Posted.{Posted}
use Rattle.sn_laws.specs.declared.moves.Move.TheVariants.{Drop}
use Rattle.sn_rows.specs.Facts.{removed_elsewhere}
use Rattle.sn_rows.specs.Table.{Removes, Rows, rows_after}
use Rattle.sn_rows.specs.declared.body.RowBody.{RowBody}
use Rattle.sn_rows.specs.declared.change.Change.{Change}
use Rattle.sn_rows.specs.declared.device_rows.LocalItem.{LocalItem}
use Rattle.sn_rows.specs.declared.key.Key.TheVariants as key
use Rattle.sn_rows.specs.declared.value.Value.TheVariants as value
use Rattle.sn_shows.proofs.Facts.{holder_of, removed_shows}
use Rattle.sn_shows.specs.Devices.{ShowsDraft, ShowsHolder, ShowsPosted}
use Rattle.sn_shows.specs.Laws.{HasAccount, SettleKeeps}
use Rattle.sn_shows.specs.Servers.{stamps_in}
use Rattle.sn_string.specs.declared.params.KeySet.{KeySet}
use Rattle.sn_world.proofs.DeviceRows.{sync_tokens_same, token_same}
use Rattle.sn_world.proofs.DeviceSets.{account_is, row_draft}
use Rattle.sn_world.proofs.DraftMoves.{numbers_kept}
use Rattle.sn_world.proofs.Frames.{DeviceFrame, device_kept, live_kept}
use Rattle.sn_world.proofs.Pulls.{alike_removed, pulls_kept}
use Rattle.sn_world.proofs.Settled.{draft_before}
use Rattle.sn_world.proofs.ShowsLemmas.{holder_from}
use Rattle.sn_world.proofs.Steps.{reached_more}
use Rattle.sn_world.proofs.TakenFrames.{posted_removed}
use Rattle.sn_world.specs.Holds.{Holds, StaleOf}
use Rattle.sn_world.specs.Laws.{KeptBy}
use Rattle.sn_world.specs.World.{OnDevice, World}

-- a draft of which the row has sent nothing
unsent_of : (sets : List KeySet) (number : ℕ) (uuid : Bytes) (o : Option Posted) → ShowsPosted sets number uuid None o → o ≡ None
unsent_of sets number uuid None h = refl
unsent_of sets number uuid (Some p) h = absurd h

module _ (keeps : SettleKeeps) (secret : Bytes) (w next : World) (s : Ideal) (h : Holds secret w s) (name : Bytes) (number : ℕ) (local : LocalItem)
    (stands : HasLocal (w.devices name) number local) (unknown : IsUnknown local) (change : Change) (gone : Removes change (key.Local number))
    (sound : IsSound (rows_after (w.devices name) (change ∷ []))) (older : StaleOf (rows_after (w.devices name) (change ∷ [])) s name)
    (on : OnDevice w next name (change ∷ [])) where
  abbrev was : Rows
  was = w.devices name

  abbrev rows : Rows
  rows = rows_after was (change ∷ [])

  abbrev later : Ideal
  later = after s (Drop name local.uuid)

  account : (d : Device) × (a : Account) × HasAccount s name d a
  account = holder_from was s name (key.Local number) (value.Local local) (h.devices name) stands

  abbrev d : Device
  d = account.0

  abbrev a : Account
  a = account.1

  holder : ShowsHolder was s name d a
  holder = holder_of was s name d a (h.devices name) account.2

  -- an item that stands on nothing has a draft
  latest_some : IsSome local.latest
  latest_some =
      ⊎_elim (λ (base : IsSome local.base). absurd (none_some (subst (λ (o : Option ℕ). IsSome o) unknown.0 base))) (λ latest. latest)
      ((h.sound name).locals.items number local stands).some
    where
      none_some : IsSome {T = ℕ} None → ⊥
      none_some e = absurd (cc)

  draft : (x : Draft) × (draft_at s name local.uuid ≡ Some x) × ShowsDraft a.sets (greatest 0 d.held) local x
  draft = by local.latest refl latest_some
    where
      by : (found : Option RowBody) → local.latest ≡ found → IsSome found
          → (x : Draft) × (draft_at s name local.uuid ≡ Some x) × ShowsDraft a.sets (greatest 0 d.held) local x
      by None e some = absurd (cc)
      by (Some b) e some = let own = row_draft was s name d a holder number local stands b e in (own.0, own.1, own.2)

  legal : IsTrue (allows s (Drop name local.uuid))
  legal =
      allowed_to s (Drop name local.uuid)
      (record {
        account = a;
        draft = draft.0;
        is = record { has = account_is s name d a account.2; at = draft.1 };
        new = sym draft.2.base ∙ unknown.0;
        unsent = inl (unsent_of a.sets (greatest 0 d.held) local.uuid draft.0.posted
            (subst (λ (o : Option RowBody). ShowsPosted a.sets (greatest 0 d.held) local.uuid o draft.0.posted) unknown.1 draft.2.posted));
      })

  owner_past : rows key.Owner ≡ was key.Owner
  owner_past = removed_elsewhere was change (key.Local number) key.Owner gone (λ e. cc)

  frame : DeviceFrame secret w rows s later name
  frame = record {
    pulls = pulls_kept was rows s.accounts (device_named s name) (alike_removed was change number local stands gone unknown.0) (h.bases_pulled name) (h.pulled name);
    reached = reached_more s (Drop name local.uuid) h.reached legal;
    accounts = refl;
    others = λ other off. refl;
    shows = removed_shows was s name number local d a change (h.devices name) account.2 stands gone;
    shows_others = λ at other off k. keeps at s name other local.uuid off k;
    sound = sound;
    older_stale = λ e b of. older e b (record { device = of.device; account = of.account });
    numbers = numbers_kept s later.drafts (λ other item e at some. draft_before s name local.uuid other item e at) h.numbers;
    own_token = λ e named. token_same secret was rows s.accounts e owner_past (h.own_tokens name e named);
    sync_tokens = sync_tokens_same was rows (greatest 0 (stamps_in s.accounts)) owner_past (h.sync_tokens name);
    tokens = λ t k. k;
    live = λ t n tok session i k. live_kept was rows (posted_removed was change number local stands unknown.1 gone) (w.server (key.Item i.uuid)) s.accounts n i k;
  }

  pub dropped_so : KeptBy secret next s (Drop name local.uuid ∷ [])
  dropped_so = ((legal, tt), device_kept secret w next s later name (change ∷ []) h on frame)

-- A set that is asked for, or dropped, keeps the invariant: of a device's rows only that of the asked set changes.
use Rattle.std.proofs.Common.{◌≡◌, ◌≢◌, [], ◌∷◌, List, refl, ap, ◌∙◌}
use Rattle.sn_adopted.proofs.Facts.{ask_shows, forget_shows}
use Rattle.sn_device.specs.States.{IsSound}
use Rattle.sn_device.specs.Steps.{Asks, Forgets}
use Rattle.sn_laws.specs.Lookups.{Bytes, device_named, greatest}
use Rattle.sn_laws.specs.declared.ideal.Ideal.{Ideal}
use Rattle.sn_rows.specs.Table.{Rows, key_of, rows_after}
use Rattle.sn_rows.specs.declared.change.Change.{Change}
use Rattle.sn_rows.specs.declared.key.Key.{Key}
use Rattle.sn_rows.specs.declared.key.Key.TheVariants as key
use Rattle.sn_rows.specs.declared.key.Slot.TheVariants.{Asked}
use Rattle.sn_shows.specs.Devices.{ShowsDevice}
use Rattle.sn_shows.specs.Servers.{stamps_in}
use Rattle.sn_string.specs.declared.params.KeySet.{KeySet}
use Rattle.sn_world.proofs.DeviceRows.{past_key, posted_same, sync_tokens_same, token_same}
use Rattle.sn_world.proofs.Frames.{DeviceFrame, device_kept, live_kept}
use Rattle.sn_world.proofs.Pulls.{alike_token, pulls_kept, stays_same}
use Rattle.sn_world.specs.Holds.{Holds, StaleOf}
use Rattle.sn_world.specs.Laws.{KeptBy}
use Rattle.sn_world.specs.World.{OnDevice, World}

module _ (secret : Bytes) (w next : World) (s : Ideal) (h : Holds secret w s) (name : Bytes) (changes : List Change)
    (sound : IsSound (rows_after (w.devices name) changes)) (older : StaleOf (rows_after (w.devices name) changes) s name) (on : OnDevice w next name changes) where
  abbrev before : Rows
  before = w.devices name

  abbrev rows : Rows
  rows = rows_after (w.devices name) changes

  module _ (change : Change) (of : key_of change ≡ key.Set Asked) (changes_are : changes ≡ change ∷ []) (shows : ShowsDevice rows s name) where
    same : (k : Key) → key.Set Asked ≢ k → rows k ≡ before k
    same k off = ap (λ (cs : List Change). rows_after before cs k) changes_are ∙ past_key before change (key.Set Asked) k of off

    frame : DeviceFrame secret w rows s s name
    frame = record {
      reached = h.reached;
      accounts = refl;
      others = λ other off. refl;
      shows = shows;
      shows_others = λ at other off k. k;
      sound = sound;
      older_stale = older;
      numbers = h.numbers;
      sync_tokens = sync_tokens_same before rows (greatest 0 (stamps_in s.accounts)) (same key.Owner (λ e. cc)) (h.sync_tokens name);
      pulls = pulls_kept before rows s.accounts (device_named s name)
          (record {
            stays = stays_same before rows (λ number. same (key.Local number) (λ e. cc));
            token = alike_token before rows (same key.Owner (λ e. cc));
          }) (h.bases_pulled name) (h.pulled name);
      own_token = λ d named. token_same secret before rows s.accounts d (same key.Owner (λ e. cc)) (h.own_tokens name d named);
      tokens = λ t k. k;
      live = λ t n tok session i k.
          live_kept before rows (posted_same before rows (λ number. same (key.Local number) (λ e. cc))) (w.server (key.Item i.uuid)) s.accounts n i k;
    }

    kept : KeptBy secret next s []
    kept = (tt, device_kept secret w next s s name changes h on frame)

  pub asked_so : (set : KeySet) → Asks before set changes → KeptBy secret next s []
  asked_so set x = kept x.change x.put.puts.key_is x.changes_are (ask_shows before set changes s name (h.devices name) x).0

  pub forgot_so : Forgets before changes → KeptBy secret next s []
  forgot_so x = kept x.change x.removes.key_is x.changes_are (forget_shows before changes s name (h.devices name) x).0

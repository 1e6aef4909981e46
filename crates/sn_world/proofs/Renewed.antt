-- A session token that is renewed keeps the invariant.
use Rattle.std.proofs.Common.{◌≡◌, ℕ, List, [], ◌∷◌, Some, refl, sym, ap, ◌∙◌, subst}
use Rattle.sn_account.specs.Sessions.{session_token}
use Rattle.sn_laws.proofs.Facts.{one_there}
use Rattle.sn_laws.specs.Lookups.{Bytes, device_named, greatest}
use Rattle.sn_laws.specs.declared.ideal.Account.{Account}
use Rattle.sn_laws.specs.declared.ideal.Device.{Device}
use Rattle.sn_laws.specs.declared.ideal.Ideal.{Ideal}
use Rattle.sn_rows.specs.Facts.{put_here}
use Rattle.sn_rows.specs.Table.{Rows, rows_after}
use Rattle.sn_rows.specs.declared.change.Change.{Change}
use Rattle.sn_rows.specs.declared.device_rows.OwnerRow.{OwnerRow}
use Rattle.sn_rows.specs.declared.key.Key.TheVariants as key
use Rattle.sn_rows.specs.declared.value.Value.TheVariants as value
use Rattle.sn_shows.proofs.Facts.{holder_of}
use Rattle.sn_shows.specs.Devices.{ShowsHolder}
use Rattle.sn_shows.specs.Laws.{AccountsApart, HasAccount, TokensShow}
use Rattle.sn_shows.specs.Servers.{stamps_in}
use Rattle.sn_world.proofs.DeviceRows.{local_past, one_owner, posted_same, sync_tokens_kept}
use Rattle.sn_world.proofs.Frames.{DeviceFrame, device_kept, live_kept}
use Rattle.sn_world.proofs.Pulls.{alike_put, pulls_kept, stays_same}
use Rattle.sn_world.proofs.ShowsLemmas.{holder_from}
use Rattle.sn_world.proofs.Tokens.{apart_of}
use Rattle.sn_world.specs.Committing.{MayRenew}
use Rattle.sn_world.specs.Holds.{DeviceToken, Holds, StaleOf}
use Rattle.sn_world.specs.Laws.{KeptBy}
use Rattle.sn_device.specs.States.{IsSound, OwnerColumns}
use Rattle.sn_device.specs.Steps.{Renews}
use Rattle.sn_world.specs.World.{OnDevice, World}

module _ (apart : AccountsApart) (law : TokensShow) (secret : Bytes) (w next : World) (s : Ideal) (h : Holds secret w s) (name token : Bytes)
    (changes : List Change) (x : Renews (w.devices name) token changes) (may : MayRenew secret s name token)
    (sound : IsSound (rows_after (w.devices name) (x.change ∷ []))) (older : StaleOf (rows_after (w.devices name) (x.change ∷ [])) s name)
    (on : OnDevice w next name changes) where
  abbrev rows : Rows
  rows = rows_after (w.devices name) (x.change ∷ [])

  abbrev new : OwnerRow
  new = x.renewed.owner

  own : (d : Device) × (a : Account) × HasAccount s name d a
  own = holder_from (w.devices name) s name key.Owner (value.Owner x.owner) (h.devices name) x.owned

  here : rows key.Owner ≡ Some (value.Owner new)
  here = put_here (w.devices name) x.change key.Owner (value.Owner new) x.renewed.puts_it

  token_after : (d : Device) → device_named s name ≡ Some d → DeviceToken secret rows s.accounts d
  token_after d named =
      let was = h.own_tokens name d named in
      let same : may.device ≡ d = one_there may.device d (device_named s name) may.named named in
      let own_too : may.account.identifier ≡ d.account = may.own ∙ ap (λ (e : Device). e.account) same in
      let number : may.number ≡ was.number = apart_of apart s h.reached may.number was.number may.account was.account may.at was.at (own_too ∙ sym was.own) in
      record {
        owner = new;
        has = here;
        number = was.number;
        account = was.account;
        at = was.at;
        own = was.own;
        uuid_is = ap (λ (c : OwnerColumns). c.account) x.renewed.columns_are
            ∙ ap (λ (o : OwnerRow). o.account) (one_owner x.owner was.owner (w.devices name key.Owner) x.owned was.has) ∙ was.uuid_is;
        is = ap (λ (c : OwnerColumns). c.token) x.renewed.columns_are ∙ may.token_is
            ∙ ap (λ (e : Device). session_token secret may.number (greatest 0 e.held)) same ∙ ap (λ (k : ℕ). session_token secret k (greatest 0 d.held)) number;
      }

  frame : DeviceFrame secret w rows s s name
  frame =
      let holder : ShowsHolder (w.devices name) s name own.0 own.1 = holder_of (w.devices name) s name own.0 own.1 (h.devices name) own.2 in
      record {
        reached = h.reached;
        accounts = refl;
        others = λ other off. refl;
        shows = law (w.devices name) s name own.0 own.1 x.change (h.devices name) own.2 (record {
          row = new;
          puts = x.renewed.puts_it;
          identifier = ap (λ (c : OwnerColumns). c.identifier) x.renewed.columns_are
              ∙ ap (λ (o : OwnerRow). o.identifier) (one_owner x.owner holder.owner.owner (w.devices name key.Owner) x.owned holder.owner.stands)
              ∙ holder.owner.identifier;
        });
        shows_others = λ at other off k. k;
        sound = sound;
        pulls = pulls_kept (w.devices name) rows s.accounts (device_named s name)
            (record {
              stays = stays_same (w.devices name) rows (local_past (w.devices name) x.change (value.Owner new) x.renewed.puts_it);
              token = alike_put (w.devices name) rows x.owner new x.owned here (ap (λ (c : OwnerColumns). c.sync_token) x.renewed.columns_are);
            }) (h.bases_pulled name) (h.pulled name);
        older_stale = older;
        numbers = h.numbers;
        own_token = token_after;
        sync_tokens = sync_tokens_kept (w.devices name) rows (greatest 0 (stamps_in s.accounts)) x.owner new x.owned here
            (ap (λ (c : OwnerColumns). c.sync_token) x.renewed.columns_are) (ap (λ (c : OwnerColumns). c.cursor_token) x.renewed.columns_are) (h.sync_tokens name);
        tokens = λ t k. k;
        live = λ t n tok session i k.
            live_kept (w.devices name) rows (posted_same (w.devices name) rows (local_past (w.devices name) x.change (value.Owner new) x.renewed.puts_it))
            (w.server (key.Item i.uuid)) s.accounts n i k;
      }

  pub renewed : KeptBy secret next s []
  renewed = (
    tt,
    device_kept secret w next s s name (x.change ∷ []) h (subst (λ (c : List Change). OnDevice w next name c) x.changes_are on) frame,
  )

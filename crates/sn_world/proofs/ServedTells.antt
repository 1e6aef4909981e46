-- What a sync is answered with is what its device may apply.
use Rattle.std.proofs.Common.{◌≡◌, ℕ, List, length, Option, Some, sym, ap, ◌∙◌, subst}
use Rattle.std.specs.Prelude.{find}
use Rattle.sn_account.specs.Rule.{Rule}
use Rattle.sn_account.specs.Sessions.{IsSession, session_token}
use Rattle.sn_account.specs.Syncs.{IsStampOf, above_of, is_first}
use Rattle.sn_account.specs.Tells.{SyncsTell, TellsRows}
use Rattle.sn_laws.proofs.Facts.{one_there}
use Rattle.sn_laws.specs.Each.{Each}
use Rattle.sn_laws.specs.Lookups.{Bytes, device_named, greatest, is_device}
use Rattle.sn_laws.specs.Runs.{end_from}
use Rattle.sn_laws.specs.declared.ideal.Account.{Account}
use Rattle.sn_laws.specs.declared.ideal.Device.{Device}
use Rattle.sn_rows.specs.Table.{Rows}
use Rattle.sn_rows.specs.declared.key.Key.TheVariants as key
use Rattle.sn_shows.specs.Laws.{AccountsApart}
use Rattle.sn_shows.specs.Servers.{account_at}
use Rattle.sn_string.specs.declared.params.KeySet.{KeySet}
use Rattle.sn_sync.specs.declared.answer.Answer.TheVariants as answer
use Rattle.sn_sync.specs.declared.request.Request.{Request}
use Rattle.sn_sync.specs.declared.request.Request.TheVariants as request
use Rattle.sn_world.proofs.SetsKept.{IsOfItem, changes_say, devices_before, params_after, sets_before}
use Rattle.sn_world.proofs.Tokens.{alive_last, few_numbers, same_owner, session_account, token_session}
use Rattle.sn_world.specs.Holds.{HasToken, Holds}
use Rattle.sn_world.specs.Laws.{KeepsServing, ServedTells}
use Rattle.sn_world.specs.Making.{IsSentOf}
use Rattle.sn_world.specs.Serving.{SaysChanges, SaysRoute}
use Rattle.sn_world.specs.World.{IsMade, Made}

one_device : (x y : Device) (found : Option Device) → found ≡ Some x → found ≡ Some y → x ≡ y
one_device x y found e k = cc

-- the device holds its account's last set, whatever versions that got meanwhile
still_last : (d e : Device) (a b c : Account) → d ≡ e → greatest 0 d.held ≡ length a.sets → a ≡ b → c.sets ≡ b.sets → greatest 0 e.held ≡ length c.sets
still_last d e a b c device_is last account_is sets_are =
    ap (λ (x : Device). greatest 0 x.held) (sym device_is) ∙ last ∙ ap (λ (x : Account). length x.sets) account_is
    ∙ ap (λ (sets : List KeySet). length sets) (sym sets_are)

pub served_tells : AccountsApart → SyncsTell → KeepsServing → ServedTells
served_tells apart tell keeps secret w next s m token items now changes moves conflicts cursor retrieved saved next_token differ h is sent from_tokens items_apart x says =
    let holds_next : Holds secret next (end_from s moves) =
    (keeps secret w next s m now changes (answer.Sync conflicts cursor retrieved saved next_token) moves differ h x says).1 in
    let made_next : IsMade next m = subst (λ (xs : List Made). IsMade (record { server = next.server; devices = next.devices; made = xs }) m) (sym x.on.made) x.made in
    let tok : HasToken secret (end_from s moves).accounts (device_named (end_from s moves) m.device) token = (holds_next.syncs m token items made_next is).of_device in
    let was : HasToken secret s.accounts (device_named s m.device) token = (h.syncs m token items x.made is).of_device in
    let rule : Rule w.server (request.Sync token items is.limit is.sync_token is.cursor_token) now changes (answer.Sync conflicts cursor retrieved saved next_token) =
    subst (λ (r : Request). Rule w.server r now changes (answer.Sync conflicts cursor retrieved saved next_token)) is.is x.rule in
    let told = tell w.server token items is.limit is.sync_token is.cursor_token now changes conflicts cursor retrieved saved next_token (h.server_sound rule.0 rule.1) items_apart rule in
    let session : IsSession w.server token told.0 = told.4 in
    let b = session_account apart secret w s h token told.0 session in
    let spelled : token ≡ session_token secret told.0 session.account.generation =
    session.is ∙ ap (λ (z : Bytes). session_token z told.0 session.account.generation) (h.keeps_secret session.store session.stands) in
    let number : tok.number ≡ told.0 =
    same_owner secret token tok.number told.0 tok.generation session.account.generation
    (few_numbers apart secret next (end_from s moves) holds_next tok.number tok.account tok.at) (few_numbers apart secret w s h told.0 b.0 b.1) tok.is spelled in
    let at_now : account_at told.0 (end_from s moves).accounts ≡ Some tok.account =
    subst (λ (k : ℕ). account_at k (end_from s moves).accounts ≡ Some tok.account) number tok.at in
    let said : SaysChanges w.server (w.devices m.device) m.device changes moves =
    subst (λ (r : Request). SaysRoute w.server (w.devices m.device) m.device m.begins r changes moves) is.is says in
    let items_only : Each IsOfItem moves = changes_say w.server (w.devices m.device) m.device changes moves said in
    let before = sets_before s moves items_only told.0 tok.account at_now in
    let alike = token_session apart secret w s h differ m.device token was told.0 session in
    let account_is : was.account ≡ before.0 =
    one_there was.account before.0 (account_at told.0 s.accounts) (subst (λ (k : ℕ). account_at k s.accounts ≡ Some was.account) alike.0 was.at) before.1 in
    let device_is : was.device ≡ tok.device =
    one_device was.device tok.device (device_named s m.device) was.named (ap (find (is_device m.device)) (sym (devices_before s moves items_only)) ∙ tok.named) in
    let greatest_is : greatest 0 tok.device.held ≡ length tok.account.sets =
    still_last was.device tok.device was.account before.0 tok.account device_is (alive_last apart secret w s h differ m.device token was told.0 session) account_is
    before.2 in
    record {
      number = told.0;
      account = tok.account;
      at = at_now;
      device = tok.device;
      named = tok.named;
      own = tok.own;
      greatest_is = greatest_is;
      sent_of = subst (λ (f : Bytes → Rows). Each (IsSentOf (f m.device)) items) (sym x.on.devices) sent;
      present = told.1;
      params_are = params_after w.server s moves told.0 tok.account told.1 h.server.all items_only at_now told.5;
      sync = told.2;
      from = told.3;
      since = λ owner has.
          let tokens = from_tokens owner (ap (λ (f : Bytes → Rows). f m.device key.Owner) (sym x.on.devices) ∙ has) in
          (subst (λ (o : Option Bytes). IsStampOf o told.2) (sym tokens.0) told.6, subst (λ (o : Option Bytes). IsStampOf o told.3) (sym tokens.1) told.7);
      tells = subst (λ (r : Rows). TellsRows r told.0 told.1 items (above_of told.2 told.3) (is_first told.2 told.3) conflicts cursor retrieved saved next_token) (sym x.on.server) told.8;
    }

-- The serving of any request keeps the invariant.
use Rattle.std.proofs.Common.{◌≡◌, ℕ, List, [], refl, sym, subst}
use Rattle.sn_account.specs.Lookups.{HasStore}
use Rattle.sn_account.specs.Rule.{RuleOf}
use Rattle.sn_account.specs.RuleLaws.{StaysSound}
use Rattle.sn_account.specs.Sound.{IsSound as IsSoundServer}
use Rattle.sn_rows.specs.Table.{rows_after}
use Rattle.sn_laws.specs.Lookups.{Bytes}
use Rattle.sn_laws.specs.declared.ideal.Ideal.{Ideal}
use Rattle.sn_laws.specs.declared.moves.Move.{Move}
use Rattle.sn_rows.specs.declared.change.Change.{Change}
use Rattle.sn_rows.specs.declared.server_rows.StoreRow.{StoreRow}
use Rattle.sn_shows.specs.Laws.{RegisterKeeps, RegisteredShows}
use Rattle.sn_sync.specs.declared.answer.Answer.{Answer}
use Rattle.sn_sync.specs.declared.request.Request.{Request}
use Rattle.sn_sync.specs.declared.request.Request.TheVariants as request
use Rattle.sn_world.proofs.ServedChange.{changes_password}
use Rattle.sn_world.proofs.ServedRegister.{registers}
use Rattle.sn_world.proofs.ServedSync.{syncs, unchanged}
use Rattle.sn_world.proofs.Steps.{Below}
use Rattle.sn_world.specs.Holds.{Holds, TokensDiffer}
use Rattle.sn_world.specs.Laws.{KeepsServing, KeptBy}
use Rattle.sn_world.specs.Serving.{SaysRoute, SaysServed, Serves}
use Rattle.sn_world.specs.World.{Made, World}

module _ (low : Below) (stays : StaysSound) (register_law : RegisteredShows) (keeps_law : RegisterKeeps) (secret : Bytes) (w next : World) (s : Ideal) (differ : TokensDiffer secret)
    (h : Holds secret w s) (m : Made) (now : ℕ) (changes : List Change) (given : Answer) (moves : List Move) (x : Serves w next m now changes given) where
  abbrev Kept : Type 0
  Kept = KeptBy secret next s moves

  none : moves ≡ [] → changes ≡ [] → Kept
  none said is = subst (λ (ms : List Move). KeptBy secret next s ms) (sym said) (unchanged secret w next s changes h x.on is)

  -- the rows are sound then
  sound : IsSoundServer (rows_after w.server changes)
  sound = stays w.server m.request now changes given (h.server_sound x.rule.0 x.rule.1) x.fits x.rule

  by_route : (r : Request) → m.request ≡ r → (store : StoreRow) → HasStore w.server store → RuleOf w.server store r now changes given
      → SaysRoute w.server (w.devices m.device) m.device m.begins r changes moves → Kept
  by_route (request.Register params pw) is store stands rule says =
      subst (λ (ms : List Move). KeptBy secret next s ms) (sym says)
      (registers low.one_token low.store register_law keeps_law secret w next s h store stands params pw changes given m.begins (h.registers m params pw x.made is) x.on sound rule)
  by_route (request.Params identifier) is store stands rule says = none says rule.0
  by_route (request.SignIn identifier pw) is store stands rule says = none says rule.0
  by_route (request.ChangePw token current pw cost nonce) is store stands rule says =
      subst (λ (ms : List Move). KeptBy secret next s ms) (sym says)
      (changes_password low secret w next s differ h m.begins token current pw cost nonce changes given
      (h.changes m token current pw cost nonce x.made is) x.on store stands rule)
  by_route (request.Sync token items limit sync_token cursor_token) is store stands rule says =
      syncs low secret w next s differ h m.device token items changes moves
      (h.syncs m token items x.made (record { limit = limit; sync_token = sync_token; cursor_token = cursor_token; is = is })) x.on sound says store stands limit now sync_token
      cursor_token given rule

  pub served : SaysServed w.server (w.devices m.device) m changes moves → Kept
  served says = by_route m.request refl x.rule.0 x.rule.1 x.rule.2 says

pub keeps_serving : Below → StaysSound → RegisteredShows → RegisterKeeps → KeepsServing
keeps_serving low stays register_law keeps_law secret w next s m now changes given moves differ h x says =
    served low stays register_law keeps_law secret w next s differ h m now changes given moves x says

-- Each step keeps that each set which a live last version carries is held.
use Rattle.std.proofs.Common.{◌≡◌, ℕ, zero, suc, List, [], ◌∷◌, Some, true, false, refl, sym, ap, subst}
use Rattle.sn_account.specs.Lookups.{HasStore}
use Rattle.sn_account.specs.Rule.{RuleOf}
use Rattle.sn_laws.proofs.Facts.{end_from-append, found_passes, same_text}
use Rattle.sn_laws.specs.Lookups.{Bytes, empty, is_account}
use Rattle.sn_laws.specs.Reached.{DevicesHold, NumbersHeld}
use Rattle.sn_laws.specs.Relation.{IsUnder}
use Rattle.sn_laws.specs.Runs.{end_from}
use Rattle.sn_laws.specs.declared.ideal.Account.{Account}
use Rattle.sn_laws.specs.declared.ideal.Body.{Body}
use Rattle.sn_laws.specs.declared.ideal.Body.TheVariants.{Gone, Under}
use Rattle.sn_laws.specs.declared.ideal.Ideal.{Ideal}
use Rattle.sn_laws.specs.declared.moves.Move.{Move}
use Rattle.sn_rows.specs.declared.change.Change.{Change}
use Rattle.sn_rows.specs.declared.server_rows.StoreRow.{StoreRow}
use Rattle.sn_shows.proofs.Facts.{each_at}
use Rattle.sn_shows.specs.Laws.{AccountsApart}
use Rattle.sn_shows.specs.Servers.{account_at}
use Rattle.sn_sync.specs.declared.answer.Answer.{Answer}
use Rattle.sn_sync.specs.declared.request.Request.{Request}
use Rattle.sn_sync.specs.declared.request.Request.TheVariants as request
use Rattle.sn_world.proofs.HoldersCommits.{changes_none, commit_none, registers_none, seal_none}
use Rattle.sn_world.proofs.HoldersMoves.{AllHeld, IsHeld, LastsHeld, SealHeld, held_along}
use Rattle.sn_world.proofs.HoldersSyncs.{sync_seals}
use Rattle.sn_world.proofs.Lasts.{each_at_number}
use Rattle.sn_world.proofs.Tokens.{device_account}
use Rattle.sn_world.specs.Happens.{Does, Happens, Says, Trace, commits, makes, serves, starts}
use Rattle.sn_world.specs.Holders.{AreHeld, IsHeldBySome, KeepsHeld, TracesHeld}
use Rattle.sn_world.specs.Holds.{Holds, TokensDiffer}
use Rattle.sn_world.specs.Laws.{HoldsFirst, Keeps, KeptBy}
use Rattle.sn_world.specs.Serving.{SaysRoute, SaysServed, Serves}
use Rattle.sn_world.specs.World.{Made, World, at_first}

-- ---- by accounts, and by their numbers

text_under : (b : Body) (k : ℕ) → IsUnder k b → (text : Bytes) × (b ≡ Under text k)
text_under (Under text set) k h = (text, ap (Under text) h)
text_under Gone k h = absurd h

all_held : (s : Ideal) → AreHeld s → AllHeld s
all_held s h = each_at_number (LastsHeld s) s.accounts held
  where
    held : (n : ℕ) (a : Account) → account_at n s.accounts ≡ Some a → LastsHeld s a
    held n a at uuid v k last under =
        let text = text_under v.body k under in
        let is : IsHeldBySome s a k = h n a uuid v text.0 k at last text.1 in
        record {
          name = is.name;
          device = is.device;
          named = is.has.device;
          own = sym (same_text a.identifier is.device.account (found_passes (is_account is.device.account) s.accounts a is.has.account).0);
          holds = is.holds;
        }

are_held : AccountsApart → (secret : Bytes) (w : World) (s : Ideal) → Holds secret w s → AllHeld s → AreHeld s
are_held apart secret w s h all n a uuid v text number at last body =
    let is : IsHeld s a.identifier number =
    each_at (LastsHeld s) s.accounts n a all at uuid v number last (subst (IsUnder number) (sym body) refl) in
    record {
      name = is.name;
      device = is.device;
      has = device_account apart secret w s h is.name n a is.device at is.named (sym is.own);
      holds = is.holds;
    }

-- ---- each step

none_seal : (s : Ideal) (moves : List Move) → moves ≡ [] → SealHeld s moves
none_seal s moves is = subst (SealHeld s) (sym is) tt

module _ (apart : AccountsApart) (hold : DevicesHold) (secret : Bytes) (w next : World) (s : Ideal) (differ : TokensDiffer secret) (h : Holds secret w s) where
  served : (m : Made) (now : ℕ) (changes : List Change) (given : Answer) (moves : List Move) → Serves w next m now changes given
      → SaysServed w.server (w.devices m.device) m changes moves → KeptBy secret next s moves → SealHeld s moves
  served m now changes given moves x says kept = by_route m.request refl x.rule.0 x.rule.1 x.rule.2 says
    where
      by_route : (r : Request) → m.request ≡ r → (store : StoreRow) → HasStore w.server store → RuleOf w.server store r now changes given
          → SaysRoute w.server (w.devices m.device) m.device m.begins r changes moves → SealHeld s moves
      by_route (request.Register params pw) is store stands rule said =
          subst (SealHeld s) (sym said) (seal_none _ s (registers_none params.identifier m.begins changes))
      by_route (request.Params identifier) is store stands rule said = none_seal s moves said
      by_route (request.SignIn identifier pw) is store stands rule said = none_seal s moves said
      by_route (request.ChangePw token current pw cost nonce) is store stands rule said =
          subst (SealHeld s) (sym said) (seal_none _ s (changes_none m.begins changes))
      by_route (request.Sync token items limit sync_token cursor_token) is store stands rule said =
          sync_seals apart hold secret w next s differ h m x.made token items
          (record { limit = limit; sync_token = sync_token; cursor_token = cursor_token; is = is }) changes moves x.on said kept store limit now sync_token
          cursor_token given rule

  seals : (step : Happens) (moves : List Move) → Does secret w s step next → Says w s step moves → KeptBy secret next s moves → SealHeld s moves
  seals (starts changes true) moves does says kept = none_seal s moves says
  seals (starts changes false) moves does says kept = none_seal s moves says
  seals (makes m) moves does says kept = none_seal s moves says
  seals (serves m now changes given true) moves does says kept = served m now changes given moves does says kept
  seals (serves m now changes given false) moves does says kept = none_seal s moves says
  seals (commits name what changes true) moves does says kept =
      seal_none moves s (commit_none (w.devices name) s name what changes moves says)
  seals (commits name what changes false) moves does says kept = none_seal s moves says

pub keeps_held : AccountsApart → DevicesHold → NumbersHeld → Keeps → KeepsHeld
keeps_held apart hold numbers keeps secret w next s step moves differ h held does says =
    let kept : KeptBy secret next s moves = keeps secret w next s step moves differ h does says in
    are_held apart secret next (end_from s moves) kept.1
    (held_along hold numbers moves s h.reached kept.0 (seals apart hold secret w next s differ h step moves does says kept) (all_held s held))

-- ---- from the beginning on

trace_from : Keeps → KeepsHeld → (secret : Bytes) → TokensDiffer secret → (steps : List Happens) (moves : List Move) (w next : World) (s : Ideal)
    → Holds secret w s → AreHeld s → Trace secret w s steps moves next → AreHeld (end_from s moves)
trace_from keeps keep secret differ [] moves w next s h held t = subst (λ (ms : List Move). AreHeld (end_from s ms)) (sym t.0) held
trace_from keeps keep secret differ (step ∷ steps) moves w next s h held (mid, first, later, does, says, rest, is) =
    let one : KeptBy secret mid s first = keeps secret w mid s step first differ h does says in
    let behind : AreHeld (end_from s first) = keep secret w mid s step first differ h held does says in
    subst (λ (ms : List Move). AreHeld (end_from s ms)) (sym is)
    (subst AreHeld (sym (end_from-append s first later)) (trace_from keeps keep secret differ steps later mid next (end_from s first) one.1 behind rest))

none_held : AreHeld empty
none_held zero a uuid v text number at last body = absurd (cc)
none_held (suc n) a uuid v text number at last body = absurd (cc)

pub traces_held : HoldsFirst → Keeps → KeepsHeld → TracesHeld
traces_held first keeps keep secret steps moves next differ t = trace_from keeps keep secret differ steps moves at_first next empty (first secret) none_held t

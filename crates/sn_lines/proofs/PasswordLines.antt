-- Where all passwords that are given are among some, all sets are of these: along each line.
use Rattle.std.proofs.Common.{◌≡◌, ◌⊎◌, ℕ, zero, suc, List, [], ◌∷◌, ◌++◌, length, Bool, true, false, Option, Some, None, sym, ap, subst, inl, inr}
use Rattle.std.proofs.lemmas.Bool.{cases_Bool}
use Rattle.std.proofs.lemmas.Option.{none-some, same_Some}
use Rattle.std.specs.Prelude.{if◌then◌else◌, slice_get}
use Rattle.std.specs.Str.{bytes_eq}
use Rattle.sn_device.specs.Laws.{StepsStaySound}
use Rattle.sn_device.specs.Runs.{Act, Call, Halt, answered, asked, broken, commits as committed, content, delete, edit, list, passwd, put, refused, register, sign_in, sync}
use Rattle.sn_device.specs.States.{IsSound}
use Rattle.sn_device.specs.Steps.{What, adopts, applies, asks, begins as begun, deletes, edits, forgets, posts, puts, renews}
use Rattle.sn_keys.specs.Keys.{AreKeysOf}
use Rattle.sn_laws.proofs.Facts.{clash, each_front, end_from-append, same_text, text_same}
use Rattle.sn_laws.specs.Each.{Each, One}
use Rattle.sn_laws.specs.Lookups.{Bytes, account_of, account_with, draft_at, is_account, last_of}
use Rattle.sn_laws.specs.Moves.{accepted, after, again as sealed_again, changed_where, rewrapped, version_of}
use Rattle.sn_laws.specs.Runs.{end_from}
use Rattle.sn_laws.specs.declared.ideal.Account.{Account}
use Rattle.sn_laws.specs.declared.ideal.Draft.{Draft}
use Rattle.sn_laws.specs.declared.ideal.Ideal.{Ideal}
use Rattle.sn_laws.specs.declared.moves.Move.{Move}
use Rattle.sn_laws.specs.declared.moves.Move.TheVariants.{Accept, Change as Changed, Register, Rewrap}
use Rattle.sn_lines.proofs.AskedKept.{IsAskOf, asked_after}
use Rattle.sn_lines.proofs.LineSteps.{IsDoneOf, IsLineOf, IsStepOf, steps_of}
use Rattle.sn_lines.proofs.ParamsLemmas.{params_at}
use Rattle.sn_lines.proofs.RunCalls.{IsNewBy, IsWhatBy, run_by}
use Rattle.sn_lines.proofs.RunSets.{IsActOf, IsHaltOf}
use Rattle.sn_lines.proofs.SetMoves.{IsMoveOf, commit_of, nothing_of, route_of}
use Rattle.sn_lines.specs.Fits.{IsRunOf}
use Rattle.sn_lines.specs.Passwords.{ApartMayCall, AreApart, EachHoldsOf, FirstHoldsOf, GivesIn, GivesOf, HoldsOf, IsOfPasswords, IsParamsIn}
use Rattle.sn_rows.specs.Table.{Rows}
use Rattle.sn_rows.specs.declared.change.Change.{Change}
use Rattle.sn_rows.specs.declared.value.Value.TheVariants as value
use Rattle.sn_shows.proofs.Facts.{each_at}
use Rattle.sn_shows.specs.Sets.{set_at}
use Rattle.sn_string.specs.declared.params.KeySet.{KeySet}
use Rattle.sn_string.specs.declared.params.Params.{Params}
use Rattle.sn_sync.specs.declared.request.Request.{Request}
use Rattle.sn_world.specs.Calls.{IsAskedFor, IsNoneOr, MayBeginBy}
use Rattle.sn_world.specs.Committing.{Commits}
use Rattle.sn_world.specs.Happens.{Does, Happens, Says, Trace, commits, makes, serves, starts}
use Rattle.sn_world.specs.Laws.{IsOnlySet}
use Rattle.sn_world.specs.Sessions.{BeginsLine, Line, again, calls, line_steps, opens, stops}
use Rattle.sn_world.specs.World.{IsMade, Made, World}

module _ (known : Bytes → Type 0) where
  abbrev Of : KeySet → Type 0
  Of set = IsOfPasswords known set

  abbrev HasSets : Account → Type 0
  HasSets a = Each Of a.sets

  -- ---- the accounts' sets, along moves

  each_beside : {A : Type 0} (P : A → Type 0) (xs : List A) (x : A) → Each P xs → P x → Each P (xs ++ x ∷ [])
  each_beside P [] x h here = (here, tt)
  each_beside P (y ∷ ys) x h here = (h.0, each_beside P ys x h.1 here)

  -- some accounts change, and none but to such sets
  sets_changed : (q : Account → Bool) (f : Account → Account) → ((a : Account) → HasSets a → HasSets (f a)) → (accounts : List Account)
      → Each HasSets accounts → Each HasSets (changed_where q f accounts)
  sets_changed q f so [] h = tt
  sets_changed q f so (a ∷ accounts) h = (at (q a), sets_changed q f so accounts h.1)
    where
      at : (b : Bool) → HasSets (if b then f a else a)
      at true = so a h.0
      at false = h.0

  sets_accepted : (accounts : List Account) (a : Option Account) (d : Option Draft) (stamp : ℕ) → Each HasSets accounts
      → Each HasSets (accepted accounts a d stamp)
  sets_accepted accounts None d stamp h = h
  sets_accepted accounts (Some a) None stamp h = h
  sets_accepted accounts (Some a) (Some d) stamp h =
      sets_changed (is_account a.identifier) (λ (b : Account). record b { versions = b.versions ++ version_of stamp (length a.sets) d ∷ [] })
      (λ b has. has) accounts h

  sets_rewrapped : (accounts : List Account) (a : Option Account) (uuid : Bytes) (stamp : ℕ) → Each HasSets accounts
      → Each HasSets (rewrapped accounts a uuid stamp)
  sets_rewrapped accounts None uuid stamp h = h
  sets_rewrapped accounts (Some a) uuid stamp h =
      sets_changed (is_account a.identifier)
      (λ (b : Account). record b { versions = b.versions ++ sealed_again stamp (length a.sets) (last_of uuid a.versions) }) (λ b has. has) accounts h

  sets_after : (s : Ideal) (m : Move) → Each HasSets s.accounts → IsMoveOf known m → Each HasSets (after s m).accounts
  sets_after s (Register identifier set) h of =
      each_beside HasSets s.accounts (record { identifier = identifier; sets = set ∷ []; versions = [] }) h (of, tt)
  sets_after s (Changed identifier number set) h of =
      sets_changed (is_account identifier) (λ (a : Account). record a { sets = a.sets ++ set ∷ [] }) (λ a has. each_beside Of a.sets set has of) s.accounts h
  sets_after s (Accept device uuid stamp under) h of = sets_accepted s.accounts (account_of s device) (draft_at s device uuid) stamp h
  sets_after s (Rewrap uuid stamp under) h of = sets_rewrapped s.accounts (account_with s.accounts uuid) uuid stamp h
  sets_after s m h of = h

  sets_stay : (s : Ideal) (moves : List Move) → Each HasSets s.accounts → Each (IsMoveOf known) moves → Each HasSets (end_from s moves).accounts
  sets_stay s [] h each = h
  sets_stay s (m ∷ moves) h each = sets_stay (after s m) moves (sets_after s m h each.0) each.1

  -- ---- check values

  set_has : (P : KeySet → Type 0) (sets : List KeySet) (n : ℕ) (set : KeySet) → Each P sets → set_at n sets ≡ Some set → P set
  set_has P sets zero set h at = absurd (none-some set at)
  set_has P sets (suc n) set h at = got sets n h at
    where
      got : (xs : List KeySet) (k : ℕ) → Each P xs → slice_get xs k ≡ Some set → P set
      got [] k each there = absurd (none-some set there)
      got (x ∷ xs) zero each there = subst P (same_Some x set there) each.0
      got (x ∷ xs) (suc k) each there = got xs k each.1 there

  -- the account's last set is no other with the parameters and the check value of such a set
  only_set : (w : World) (s : Ideal) → AreApart known (IsParamsIn s) → HoldsOf known w s → (set : KeySet) → Of set → IsOnlySet s set
  only_set w s apart h set (password, is, keys) n a last at_account at_set same checks =
      let of_account : HasSets a = each_at HasSets s.accounts n a h.accounts at_account in
      let of_set : Of last = set_has Of a.sets (length a.sets) last of_account at_set in
      apart of_set.0 password last.params last set of_set.1 is (params_at s n (length a.sets) a last at_account at_set) of_set.2
      (subst (λ (p : Params). AreKeysOf password p set) (sym same) keys) checks

  pub apart_may_call : ApartMayCall known
  apart_may_call w s name (register identifier password cost) apart h gives = tt
  apart_may_call w s name (sign_in identifier password) apart h gives = λ set keys named. only_set w s apart h set (password, gives, keys)
  apart_may_call w s name (put kind text) apart h gives = tt
  apart_may_call w s name (edit uuid text) apart h gives = tt
  apart_may_call w s name (delete uuid) apart h gives = tt
  apart_may_call w s name list apart h gives = tt
  apart_may_call w s name (content uuid) apart h gives = tt
  apart_may_call w s name sync apart h gives = λ set was. only_set w s apart h set (h.asked name set was)
  apart_may_call w s name (passwd password cost) apart h gives = λ set was. only_set w s apart h set (h.asked name set was)

  -- ---- the steps of a line

  abbrev Asking : What → Type 0
  Asking what = IsAskOf Of what

  abbrev Making : Made → Type 0
  Making m = IsNoneOr Of m.begins

  new_of : (call : Call) (set : KeySet) → GivesOf known call → IsNewBy call set → Of set
  new_of (register identifier password cost) set gives none = absurd none
  new_of (sign_in identifier password) set gives none = absurd none
  new_of (put kind text) set gives none = absurd none
  new_of (edit uuid text) set gives none = absurd none
  new_of (delete uuid) set gives none = absurd none
  new_of list set gives none = absurd none
  new_of (content uuid) set gives none = absurd none
  new_of sync set gives none = absurd none
  new_of (passwd password cost) set gives keys = (password, gives, keys)

  what_of : (device : Rows) (call : Call) (what : What) → GivesOf known call → IsWhatBy device call what → Asking what
  what_of device call (begun set account token) gives of = tt
  what_of device call (renews token) gives of = tt
  what_of device call (puts uuid kind text) gives of = tt
  what_of device call (edits uuid text) gives of = tt
  what_of device call (deletes uuid) gives of = tt
  what_of device call (posts numbers) gives of = tt
  what_of device call (applies r given) gives of = tt
  what_of device call (asks set) gives of = new_of call set gives of
  what_of device call (adopts set token) gives of = tt
  what_of device call forgets gives of = tt

  halt_of : (device : Rows) (call : Call) (halt : Halt) → GivesOf known call → IsHaltOf (IsWhatBy device call) halt → IsHaltOf Asking halt
  halt_of device call (answered given left) gives of = tt
  halt_of device call (refused why) gives of = tt
  halt_of device call (broken what changes) gives of = what_of device call what gives of

  begins_of : (device : Rows) (call : Call) (set : KeySet) → GivesOf known call → ((set : KeySet) → IsAskedFor device set → Of set) → MayBeginBy device call set
      → Of set
  begins_of device (register identifier password cost) set gives was keys = (password, gives, keys)
  begins_of device (sign_in identifier password) set gives was none = absurd none
  begins_of device (put kind text) set gives was none = absurd none
  begins_of device (edit uuid text) set gives was none = absurd none
  begins_of device (delete uuid) set gives was none = absurd none
  begins_of device list set gives was none = absurd none
  begins_of device (content uuid) set gives was none = absurd none
  begins_of device sync set gives was before = was set before
  begins_of device (passwd password cost) set gives was (inl keys) = (password, gives, keys)
  begins_of device (passwd password cost) set gives was (inr before) = was set before

  none_or : (P : KeySet → Type 0) (found : Option KeySet) → ((set : KeySet) → P set → Of set) → IsNoneOr P found → IsNoneOr Of found
  none_or P None so of = tt
  none_or P (Some set) so of = so set of

  acts_of : (device : Rows) (name : Bytes) (call : Call) (begins : Request → Option KeySet) (acts : List Act) → GivesOf known call
      → ((set : KeySet) → IsAskedFor device set → Of set) → ((r : Request) → IsNoneOr (MayBeginBy device call) (begins r))
      → Each (IsActOf (IsWhatBy device call)) acts → Each (IsDoneOf Asking Making name begins) acts
  acts_of device name call begins [] gives was by each = tt
  acts_of device name call begins (committed what changes ∷ acts) gives was by (one, each) =
      (what_of device call what gives one, acts_of device name call begins acts gives was by each)
  acts_of device name call begins (asked r reply ∷ acts) gives was by (one, each) = (
    none_or (MayBeginBy device call) (begins r) (λ set may. begins_of device call set gives was may) (by r),
    acts_of device name call begins acts gives was by each,
  )

  line_of : (w : World) (s : Ideal) (line : Line) (begins : Request → Option KeySet) → HoldsOf known w s → GivesIn known line → IsRunOf w line
      → BeginsLine w line begins → IsLineOf Asking Making begins line
  line_of w s (opens changes stands) begins h gives run by = tt
  line_of w s (calls name least call words acts fates halt stands) begins h gives run by =
      let all = run_by (w.devices name) least call words acts halt run in
      (acts_of (w.devices name) name call begins acts gives (h.asked name) by all.0, halt_of (w.devices name) call halt gives all.1)
  line_of w s (stops name least call words front met) begins h gives (later, halt, run) by =
      acts_of (w.devices name) name call begins front gives (h.asked name) by
      (each_front (IsActOf (IsWhatBy (w.devices name) call)) front later (run_by (w.devices name) least call words (front ++ later) halt run).0)
  line_of w s (again name r fate) begins h gives run by = tt

  -- ---- along them

  abbrev AreSound : World → Type 0
  AreSound w = (name : Bytes) → IsSound (w.devices name)

  -- its own rows, or another's, of which something holds
  at_device : (P : Rows → Type 0) (w next : World) (name : Bytes) (what : What) (changes : List Change) → Commits w next name what changes
      → ((other : Bytes) → P (w.devices other)) → P (next.devices name) → (other : Bytes)
      → ((bytes_eq other name ≡ true) ⊎ (bytes_eq other name ≡ false)) → P (next.devices other)
  at_device P w next name what changes does before own other (inl same) = subst (λ (n : Bytes). P (next.devices n)) (sym (same_text other name same)) own
  at_device P w next name what changes does before own other (inr off) =
      subst P (sym (does.on.others other (λ e. clash (bytes_eq other name) (text_same other name e) off))) (before other)

  same_devices : (P : Rows → Type 0) (w next : World) → next.devices ≡ w.devices → ((name : Bytes) → P (w.devices name)) → (name : Bytes) → P (next.devices name)
  same_devices P w next same before name = subst P (sym (ap (λ (d : Bytes → Rows). d name) same)) (before name)

  sound_step : StepsStaySound → (secret : Bytes) (w next : World) (s : Ideal) (step : Happens) → AreSound w → Does secret w s step next → AreSound next
  sound_step stay secret w next s (starts changes true) sound does = same_devices IsSound w next does.on.devices sound
  sound_step stay secret w next s (starts changes false) sound does = subst AreSound (sym does) sound
  sound_step stay secret w next s (makes m) sound does = same_devices IsSound w next does.devices sound
  sound_step stay secret w next s (serves m now changes given true) sound does = same_devices IsSound w next does.on.devices sound
  sound_step stay secret w next s (serves m now changes given false) sound does = subst AreSound (sym does) sound
  sound_step stay secret w next s (commits name what changes true) sound does =
      let own : IsSound (next.devices name) =
      subst IsSound (sym does.0.on.own) (stay (w.devices name) does.0.words does.0.left what changes (sound name) does.0.step) in
      λ other. at_device IsSound w next name what changes does.0 sound own other (cases_Bool (bytes_eq other name))
  sound_step stay secret w next s (commits name what changes false) sound does = subst AreSound (sym does) sound

  abbrev AskedOf : Rows → Type 0
  AskedOf rows = (set : KeySet) → IsAskedFor rows set → Of set

  -- a step of the server, or none
  same_of : (w next : World) (s : Ideal) (moves : List Move) → HoldsOf known w s → Each (IsMoveOf known) moves → next.devices ≡ w.devices → next.made ≡ w.made
      → HoldsOf known next (end_from s moves)
  same_of w next s moves h each devices made = record {
    accounts = sets_stay s moves h.accounts each;
    asked = same_devices AskedOf w next devices h.asked;
    made = λ m among. h.made m (subst (λ (ms : List Made). One (λ x. x ≡ m) ms) made among);
  }

  idle_of : (w next : World) (s : Ideal) (moves : List Move) → HoldsOf known w s → next ≡ w → moves ≡ [] → HoldsOf known next (end_from s moves)
  idle_of w next s moves h same none =
      same_of w next s moves h (nothing_of known moves none) (ap (λ (x : World). x.devices) same) (ap (λ (x : World). x.made) same)

  made_of : (w next : World) (m : Made) → ((x : Made) → IsMade w x → Making x) → Making m → next.made ≡ m ∷ w.made → (x : Made) → IsMade next x → Making x
  made_of w next m before of is x among = by (subst (λ (ms : List Made). One (λ y. y ≡ x) ms) is among)
    where
      by : (m ≡ x) ⊎ IsMade w x → Making x
      by (inl here) = subst (λ (y : Made). Making y) here of
      by (inr behind) = before x behind

  step_of : (secret : Bytes) (w next : World) (s : Ideal) (step : Happens) (moves : List Move) → AreSound w → HoldsOf known w s → IsStepOf Asking Making step
      → Does secret w s step next → Says w s step moves → HoldsOf known next (end_from s moves)
  step_of secret w next s (starts changes true) moves sound h of does says = same_of w next s moves h (nothing_of known moves says) does.on.devices does.on.made
  step_of secret w next s (starts changes false) moves sound h of does says = idle_of w next s moves h does says
  step_of secret w next s (makes m) moves sound h of does says = record {
    accounts = sets_stay s moves h.accounts (nothing_of known moves says);
    asked = same_devices AskedOf w next does.devices h.asked;
    made = made_of w next m h.made of does.made;
  }
  step_of secret w next s (serves m now changes given true) moves sound h of does says =
      same_of w next s moves h (route_of known w.server (w.devices m.device) m.device m.begins m.request changes moves (h.made m does.made) says) does.on.devices
      does.on.made
  step_of secret w next s (serves m now changes given false) moves sound h of does says = idle_of w next s moves h does says
  step_of secret w next s (commits name what changes true) moves sound h of does says =
      let own : AskedOf (next.devices name) =
      subst AskedOf (sym does.0.on.own) (asked_after Of (w.devices name) does.0.words does.0.left what changes (sound name) (h.asked name) of does.0.step) in
      record {
        accounts = sets_stay s moves h.accounts (commit_of known (w.devices name) s name what changes moves says);
        asked = λ other. at_device AskedOf w next name what changes does.0 h.asked own other (cases_Bool (bytes_eq other name));
        made = λ m among. h.made m (subst (λ (ms : List Made). One (λ x. x ≡ m) ms) does.0.on.made among);
      }
  step_of secret w next s (commits name what changes false) moves sound h of does says = idle_of w next s moves h does says

  holds_along : StepsStaySound → (secret : Bytes) (steps : List Happens) (moves : List Move) (w next : World) (s : Ideal) → AreSound w → HoldsOf known w s
      → Each (IsStepOf Asking Making) steps → Trace secret w s steps moves next → HoldsOf known next (end_from s moves)
  holds_along stay secret [] moves w next s sound h each (none, same) = idle_of w next s moves h same none
  holds_along stay secret (step ∷ steps) moves w next s sound h each (mid, first, later, does, says, rest, is) =
      let behind : HoldsOf known next (end_from (end_from s first) later) =
      holds_along stay secret steps later mid next (end_from s first) (sound_step stay secret w mid s step sound does)
      (step_of secret w mid s step first sound h each.0 does says) each.1 rest in
      subst (λ (ms : List Move). HoldsOf known next (end_from s ms)) (sym is)
      (subst (HoldsOf known next) (sym (end_from-append s first later)) behind)

  pub each_holds_of : StepsStaySound → EachHoldsOf known
  each_holds_of stay secret w s line holds h gives run x =
      holds_along stay secret (line_steps x.begins line) x.moves w x.next s holds.sound h
      (steps_of Asking Making x.begins line (line_of w s line x.begins h gives run x.of_line)) x.goes

  pub first_holds_of : FirstHoldsOf known
  first_holds_of = record {
    accounts = tt;
    asked = λ name set was. absurd (none-some (value.Owner was.0) was.1);
    made = λ m among. absurd among;
  }

-- A sync that is answered leaves its device with just the items of its account.
use Rattle.std.proofs.Common.{◌≡◌, ℕ, List, [], ◌∷◌, ◌++◌, Option, Some, None, true, refl, sym, ap, ◌∙◌, subst, inl, inr, append_assoc}
use Rattle.std.specs.Prelude.{IsSome}
use Rattle.std.specs.List.{flat_map}
use Rattle.std.proofs.lemmas.List.{append-nil}
use Rattle.rand_chacha.specs.ChaCha.{ChaCha}
use Rattle.sn_device.specs.Asking.{Reply, said}
use Rattle.sn_device.specs.Runs.{Act, AreRounds, EndsBehind, EndsExchange, Given, IsDone, IsRound, Round, Run, StopsAt, Standing, acts_of, answered, asked, commits as committed, posting, refused, rows_done, sync}
use Rattle.sn_device.proofs.Facts.{EndsAlone, ExchangesAlone, synced_alone}
use Rattle.sn_device.specs.Sending.{NoneWaits}
use Rattle.sn_device.specs.States.{HasSets}
use Rattle.sn_device.specs.Steps.{What, applies}
use Rattle.sn_device.specs.declared.error.ClientError.{ClientError}
use Rattle.sn_laws.proofs.Facts.{end_from-append, one_there}
use Rattle.sn_laws.specs.Lookups.{Bytes, device_named, draft_at, greatest}
use Rattle.sn_laws.specs.Runs.{end_from}
use Rattle.sn_laws.specs.declared.ideal.Account.{Account}
use Rattle.sn_laws.specs.declared.ideal.Device.{Device}
use Rattle.sn_laws.specs.declared.ideal.Draft.{Draft}
use Rattle.sn_laws.specs.declared.ideal.Ideal.{Ideal}
use Rattle.sn_laws.specs.declared.moves.Move.{Move}
use Rattle.sn_rows.specs.Table.{Rows}
use Rattle.sn_rows.specs.declared.body.RowBody.{RowBody}
use Rattle.sn_rows.specs.declared.change.Change.{Change}
use Rattle.sn_rows.specs.declared.device_rows.OwnerRow.{OwnerRow}
use Rattle.sn_rows.specs.declared.key.Key.TheVariants as key
use Rattle.sn_rows.specs.declared.key.Slot.TheVariants.{Asked}
use Rattle.sn_sets.specs.declared.sets.Sets.{Sets}
use Rattle.sn_shows.specs.Devices.{ShowsDeviceAs, ShowsDraft, ShowsDrafted, ShowsHolder}
use Rattle.sn_shows.specs.Laws.{HasAccount}
use Rattle.sn_string.specs.declared.params.KeySet.{KeySet}
use Rattle.sn_sync.specs.declared.answer.Answer.{Answer}
use Rattle.sn_sync.specs.declared.answer.Answer.TheVariants as answer
use Rattle.sn_sync.specs.declared.answer.Conflict.{Conflict}
use Rattle.sn_sync.specs.declared.item.Item.{Item}
use Rattle.sn_sync.specs.declared.request.Request.{Request}
use Rattle.sn_world.proofs.AskLemmas.{made_of}
use Rattle.sn_world.proofs.PresentSets.{none_in, unasked}
use Rattle.sn_world.proofs.SyncCalls.{rows_over}
use Rattle.sn_world.proofs.Traced.{trace_from}
use Rattle.sn_world.specs.Calls.{AreServed, Fate, IsNoneOr, Leads, MayBeginBy, SyncsGo, begins_none, call_steps, fate_steps, rows_behind, rows_served}
use Rattle.sn_world.specs.Happens.{Happens, Trace, commits, makes}
use Rattle.sn_world.specs.Holds.{Holds, TokensDiffer}
use Rattle.sn_world.specs.Laws.{AppliedWhole, Keeps, SyncedRows}
use Rattle.sn_world.specs.Plain.{AsksNoSet}
use Rattle.sn_world.specs.Pulled.{HasAll}
use Rattle.sn_world.specs.Synced.{IsSynced, SyncsEnd}
use Rattle.sn_world.specs.World.{Made, World}

-- ---- steps whose last one applies an answer without a cursor

module _ (whole : AppliedWhole) (keeps : Keeps) (secret : Bytes) (differ : TokensDiffer secret) (name : Bytes) (r : Request) (conflicts : List Conflict)
    (retrieved saved : List Item) (token : Bytes) (applied : List Change) where
  abbrev pub applying : Happens
  applying = commits name (applies r (answer.Sync conflicts None retrieved saved token)) applied true

  pub has_all : (steps : List Happens) (moves : List Move) (w next : World) (s : Ideal) → Holds secret w s → Trace secret w s (steps ++ applying ∷ []) moves next
      → HasAll (next.devices name) (end_from s moves) name
  has_all [] moves w next s h (mid, first, later, does, says, (none, same), is) =
      let all : HasAll (mid.devices name) (end_from s first) name =
      whole secret w mid s name r conflicts retrieved saved token applied first h does.0 does.1 says in
      let moves_are : moves ≡ first = is ∙ ap (λ (ms : List Move). first ++ ms) none ∙ append-nil first in
      subst (λ (ms : List Move). HasAll (next.devices name) (end_from s ms) name) (sym moves_are)
      (subst (λ (x : World). HasAll (x.devices name) (end_from s first) name) (sym same) all)
  has_all (step ∷ steps) moves w next s h (mid, first, later, does, says, rest, is) =
      let one = keeps secret w mid s step first differ h does says in
      let all : HasAll (next.devices name) (end_from (end_from s first) later) name = has_all steps later mid next (end_from s first) one.1 rest in
      subst (λ (t : Ideal). HasAll (next.devices name) t name)
      (sym (end_from-append s first later) ∙ ap (λ (ms : List Move). end_from s ms) (sym is)) all

-- the steps of acts whose last one is a commit
pub commit_last : (name : Bytes) (begins : Request → Option KeySet) (what : What) (changes : List Change) (acts : List Act) (server : Rows)
    (fates : List Fate)
    → AreServed server (acts ++ committed what changes ∷ []) fates
    → (before : List Happens) × (call_steps name begins (acts ++ committed what changes ∷ []) fates ≡ before ++ commits name what changes true ∷ [])
commit_last name begins what changes [] server fates over = ([], refl)
commit_last name begins what changes (committed other done ∷ acts) server fates over =
    let rest = commit_last name begins what changes acts server fates over in
    (commits name other done true ∷ rest.0, ap (λ (xs : List Happens). commits name other done true ∷ xs) rest.1)
commit_last name begins what changes (asked r reply ∷ acts) server [] over = absurd over
commit_last name begins what changes (asked r reply ∷ acts) server (fate ∷ fates) (one, others) =
    let rest = commit_last name begins what changes acts (rows_behind server fate) fates others in
    let m : Made = made_of name (begins r) r in (
      makes m ∷ fate_steps m fate ++ rest.0,
      ap (λ (xs : List Happens). makes m ∷ fate_steps m fate ++ xs) rest.1
          ∙ ap (λ (xs : List Happens). makes m ∷ xs) (sym (append_assoc (fate_steps m fate) rest.0 (commits name what changes true ∷ []))),
    )

-- ---- rounds

pub rounds_rows : (rounds : List Round) (at after : Standing) → AreRounds at rounds after → after.rows ≡ rows_done at.rows (flat_map acts_of rounds)
rounds_rows [] at after same = ap (λ (z : Standing). z.rows) same
rounds_rows (round ∷ rounds) at after (between, is, later) =
    rounds_rows rounds between after later ∙ rows_over at round between (flat_map acts_of rounds) is

-- the last act applies this answer
pub record LastApplies (acts : List Act) (given : Answer) : Type 0 where
  pub before : List Act
  pub request : Request
  pub applied : List Change
  pub is : acts ≡ before ++ committed (applies request given) applied ∷ []

pub behind_round : (rounds : List Round) (round : Round) (at between after : Standing) (given : Answer) → IsRound at round between → AreRounds between rounds after
    → after.last ≡ Some given → LastApplies (acts_of round ++ flat_map acts_of rounds) given
behind_round [] round at between after given is same last =
    let given_is : round.given ≡ given = one_there round.given given after.last (ap (λ (z : Standing). z.last) (same ∙ is.after_is)) last in
    let before : List Act = posting round.numbers round.posted ++ asked round.request (said round.given) ∷ [] in
    record {
      before = before;
      request = round.request;
      applied = round.applied;
      is = append-nil (acts_of round)
          ∙ sym (append_assoc (posting round.numbers round.posted) (asked round.request (said round.given) ∷ [])
          (committed (applies round.request round.given) round.applied ∷ []))
          ∙ ap (λ (g : Answer). before ++ committed (applies round.request g) round.applied ∷ []) given_is;
    }
behind_round (second ∷ rounds) round at between after given is (mid, next_is, later) last =
    let l = behind_round rounds second between mid after given next_is later last in
    record {
      before = acts_of round ++ l.before;
      request = l.request;
      applied = l.applied;
      is = ap (λ (xs : List Act). acts_of round ++ xs) l.is
          ∙ sym (append_assoc (acts_of round) l.before (committed (applies l.request given) l.applied ∷ []));
    }

pub last_applies : (rounds : List Round) (at after : Standing) (given : Answer) → AreRounds at rounds after → at.last ≡ None → after.last ≡ Some given
    → LastApplies (flat_map acts_of rounds) given
last_applies [] at after given same none last =
    let no : after.last ≡ None = ap (λ (z : Standing). z.last) same ∙ none in
    absurd (cc)
last_applies (round ∷ rounds) at after given (between, is, later) none last = behind_round rounds round at between after given is later last

-- ---- a sync that is answered

pub unrefused : (given : Given) (left : ChaCha) (why : ClientError) → answered given left ≡ refused why → ⊥
unrefused given left why is = absurd (cc)

pub stops_not : (given : Given) (left : ChaCha) (what : What) (changes : List Change) → StopsAt what changes (answered given left) → ⊥
stops_not given left what changes (inl (batch, is)) = absurd (cc)
stops_not given left what changes (inr (inl (large, is))) = absurd (cc)
stops_not given left what changes (inr (inr is)) = absurd (cc)

pub behind_not : (given : Given) (left : ChaCha) (rows : Rows) (words : ChaCha) (r : Request) (reply : Reply) → EndsBehind rows words r reply (answered given left) → ⊥
behind_not given left rows words r reply (inl (why, fails, is)) = unrefused given left why is
behind_not given left rows words r reply (inr (inl is)) = absurd (cc)
behind_not given left rows words r reply (inr (inr (g, said_so, inl (why, unapplied, is)))) = unrefused given left why is
behind_not given left rows words r reply (inr (inr (g, said_so, inr (changes, rest, step, stops)))) = stops_not given left (applies r g) changes stops

pub exchange_not : (given : Given) (left words : ChaCha) (numbers : List ℕ) (posted : List Change) (r : Request) (ready : Rows) (acts : List Act)
    → EndsExchange words numbers posted r ready acts (answered given left) → ⊥
exchange_not given left words numbers posted r ready acts (inl (some, none, stops)) = stops_not given left _ posted stops
exchange_not given left words numbers posted r ready acts (inr (batch, inl (is, ends))) = absurd (cc)
exchange_not given left words numbers posted r ready acts (inr (batch, inr (reply, is, ends))) = behind_not given left ready words r reply ends

pub all_done : (given : Given) (left : ChaCha) (count : ℕ) (at : Standing) (acts : List Act) → EndsAlone count at acts (answered given left)
    → IsDone at.rows at.last × (acts ≡ [])
all_done given left count at acts (inl (done, none, is)) = (done, none)
all_done given left count at acts (inr (inl (all, due, (none, is)))) = absurd (unrefused given left _ is)
all_done given left count at acts (inr (inr (inl (few, ends)))) =
    absurd (exchange_not given left at.words ends.numbers ends.posted ends.request ends.ready acts ends.ends_so)
all_done given left count at acts (inr (inr (inr (none, is)))) = absurd (unrefused given left _ is)

pub exchanges_of : (least : ℕ) (rows : Rows) (words left : ChaCha) (acts : List Act) (given : Given)
    → ((owner : OwnerRow) (sets : Sets) → HasSets rows owner sets → sets.asked ≡ None) → Run least sync rows words acts (answered given left)
    → ExchangesAlone rows words acts (answered given left)
exchanges_of least rows words left acts given unasked_so (inl (none, is)) = absurd (unrefused given left _ is)
exchanges_of least rows words left acts given unasked_so (inr (inl (no_account, (none, is)))) = absurd (unrefused given left _ is)
exchanges_of least rows words left acts given unasked_so (inr (inr (owner, sets, has, syncs))) =
    synced_alone rows words owner sets acts (answered given left) (unasked_so owner sets has) syncs

-- its last answer has no cursor, and nothing waits
pub record IsWhole (rows : Rows) (last : Option Answer) : Type 0 where
  pub conflicts : List Conflict
  pub retrieved : List Item
  pub saved : List Item
  pub token : Bytes
  pub is : last ≡ Some (answer.Sync conflicts None retrieved saved token)
  pub none_waits : NoneWaits rows

pub is_whole : (rows : Rows) (last : Option Answer) → IsDone rows last → IsWhole rows last
is_whole rows None done = absurd done
is_whole rows (Some (answer.Sync conflicts cursor retrieved saved token)) (none, none_waits) = record {
  conflicts = conflicts;
  retrieved = retrieved;
  saved = saved;
  token = token;
  is = ap (λ (c : Option Bytes). Some (answer.Sync conflicts c retrieved saved token)) none;
  none_waits = none_waits;
}
is_whole rows (Some (answer.Account token identifier uuid)) done = absurd done
is_whole rows (Some (answer.Params params)) done = absurd done
is_whole rows (Some (answer.Refused status tag more)) done = absurd done

-- ---- the device's rows

pub no_draft : (rows : Rows) (s : Ideal) (name : Bytes) (d : Device) (a : Account) → ShowsHolder rows s name d a → NoneWaits rows
    → (uuid : Bytes) → draft_at s name uuid ≡ None
no_draft rows s name d a holder none_waits uuid = by (draft_at s name uuid) refl
  where
    by : (found : Option Draft) → draft_at s name uuid ≡ found → draft_at s name uuid ≡ None
    by None is = is
    by (Some draft) is =
        let row = holder.drafts uuid draft is in
        let shown : ShowsDrafted a.sets (greatest 0 d.held) row.item (draft_at s name row.item.uuid) = (holder.locals row.number row.item row.stands).draft in
        let drafted : ShowsDraft a.sets (greatest 0 d.held) row.item draft =
        subst (λ (o : Option Draft). ShowsDrafted a.sets (greatest 0 d.held) row.item o) (ap (λ (u : Bytes). draft_at s name u) row.item_is ∙ is) shown in
        let waits : IsSome row.item.latest = subst (λ (o : Option RowBody). IsSome o) (sym drafted.latest_is) refl in
        absurd (none_waits row.number row.item row.stands (inl waits))

module _ (synced : SyncedRows) (secret : Bytes) (w : World) (s : Ideal) (h : Holds secret w s) (name : Bytes) (none_waits : NoneWaits (w.devices name))
    (all : HasAll (w.devices name) s name) where
  by_device : (found : Option Device) → device_named s name ≡ found → ShowsDeviceAs (w.devices name) s name found → IsSynced (w.devices name) s name
  by_device None is nothing =
      let there = all.has in
      let none : w.devices name key.Owner ≡ None = nothing.none key.Owner in
      absurd (cc)
  by_device (Some d) is (a, account, holder) =
      let has : HasAccount s name d a = record { device = is; account = account } in
      let undrafted = no_draft (w.devices name) s name d a holder none_waits in
      record {
        device = d;
        account = a;
        has = has;
        undrafted = undrafted;
        whole = all;
        stand = synced secret w s name d a h has undrafted all;
      }

  pub is_synced : IsSynced (w.devices name) s name
  is_synced = by_device (device_named s name) refl (h.devices name)

-- ---- the call

module _ (whole : AppliedWhole) (synced : SyncedRows) (keeps : Keeps) (secret : Bytes) (differ : TokensDiffer secret) (w : World) (s : Ideal) (h : Holds secret w s)
    (name : Bytes) (begins : Request → Option KeySet) (words left : ChaCha) (acts : List Act) (fates : List Fate) (given : Given)
    (over : AreServed w.server acts fates)
    (x : ExchangesAlone (w.devices name) words acts (answered given left))
    (leads : Leads secret w s name (call_steps name begins acts fates) (rows_served w.server fates) (rows_done (w.devices name) acts)) where
  done : IsDone x.at.rows x.at.last × (x.later ≡ [])
  done = all_done given left _ x.at x.later x.ends

  last : IsWhole x.at.rows x.at.last
  last = is_whole x.at.rows x.at.last done.0

  acts_are : acts ≡ flat_map acts_of x.rounds
  acts_are = x.acts_are ∙ ap (λ (xs : List Act). flat_map acts_of x.rounds ++ xs) done.1 ∙ append-nil (flat_map acts_of x.rounds)

  rows_are : leads.next.devices name ≡ x.at.rows
  rows_are =
      leads.device_is ∙ ap (λ (xs : List Act). rows_done (w.devices name) xs) acts_are
      ∙ sym (rounds_rows x.rounds (record { rows = w.devices name; words = words; last = None }) x.at x.went)

  abbrev given_last : Answer
  given_last = answer.Sync last.conflicts None last.retrieved last.saved last.token

  ends : LastApplies (flat_map acts_of x.rounds) given_last
  ends = last_applies x.rounds (record { rows = w.devices name; words = words; last = None }) x.at given_last x.went refl last.is

  all : HasAll (leads.next.devices name) (end_from s leads.moves) name
  all =
      let as_ends : acts ≡ ends.before ++ committed (applies ends.request given_last) ends.applied ∷ [] = acts_are ∙ ends.is in
      let steps = commit_last name begins (applies ends.request given_last) ends.applied ends.before w.server fates
      (subst (λ (xs : List Act). AreServed w.server xs fates) as_ends over) in
      let steps_are = ap (λ (xs : List Act). call_steps name begins xs fates) as_ends ∙ steps.1 in
      has_all whole keeps secret differ name ends.request last.conflicts last.retrieved last.saved last.token ends.applied steps.0 leads.moves w leads.next s h
      (subst (λ (xs : List Happens). Trace secret w s xs leads.moves leads.next) steps_are leads.goes)

  pub synced_there : IsSynced (leads.next.devices name) (end_from s leads.moves) name
  synced_there =
      is_synced synced secret leads.next (end_from s leads.moves)
      (trace_from keeps secret differ (call_steps name begins acts fates) leads.moves w leads.next s h leads.goes).1 name
      (subst (λ (r : Rows). NoneWaits r) (sym rows_are) last.none_waits) all

-- where no request begins a set, the steps are of none
pub none_steps : (name : Bytes) (begins : Request → Option KeySet) (acts : List Act) (fates : List Fate) → ((r : Request) → begins r ≡ None)
    → call_steps name begins acts fates ≡ call_steps name begins_none acts fates
none_steps name begins [] fates none = refl
none_steps name begins (committed what changes ∷ acts) fates none =
    ap (λ (xs : List Happens). commits name what changes true ∷ xs) (none_steps name begins acts fates none)
none_steps name begins (asked r reply ∷ acts) [] none = refl
none_steps name begins (asked r reply ∷ acts) (fate ∷ fates) none =
    ap (λ (set : Option KeySet). makes (made_of name set r) ∷ fate_steps (made_of name set r) fate ++ call_steps name begins acts fates) (none r)
    ∙ ap (λ (xs : List Happens). makes (made_of name None r) ∷ fate_steps (made_of name None r) fate ++ xs) (none_steps name begins acts fates none)

-- a sync of a device that asks for no set begins none
pub sync_begins : (device : Rows) (found : Option KeySet) → AsksNoSet device → IsNoneOr (MayBeginBy device sync) found → found ≡ None
sync_begins device None none may = refl
sync_begins device (Some set) none (owner, has, in_slot) = none_in device owner.identifier Asked (Some set) none in_slot

pub syncs_end : AppliedWhole → SyncedRows → Keeps → SyncsGo → SyncsEnd
syncs_end whole synced keeps go secret w s name least words left acts fates given differ h none runs over =
    let g = go secret w s name least words acts fates (answered given left) differ h none runs over in
    let leads : Leads secret w s name (call_steps name begins_none acts fates) (rows_served w.server fates) (rows_done (w.devices name) acts) =
    subst (λ (steps : List Happens). Leads secret w s name steps (rows_served w.server fates) (rows_done (w.devices name) acts))
    (none_steps name g.begins acts fates (λ r. sync_begins (w.devices name) (g.begins r) none (g.of_call r))) g.leads in
    record {
      leads = leads;
      synced = synced_there whole synced keeps secret differ w s h name begins_none words left acts fates given over
          (exchanges_of least (w.devices name) words left acts given (λ owner sets has. unasked (w.devices name) owner sets none has) runs) leads;
    }

-- Steps of the world one after another; and the calls that ask a server for nothing.
use Rattle.std.proofs.Common.{◌≡◌, ℕ, List, [], ◌∷◌, ◌++◌, length, Option, true, false, refl, sym, ap, ◌∙◌, subst, inl, inr, append_assoc}
use Rattle.rand_chacha.specs.ChaCha.{ChaCha}
use Rattle.sn_device.specs.Runs.{Act, Call, CommitsOnce, DeletesItem, Given, GivesText, Halt, ListsItems, PutsItem, Refuses, Run, RunsCall, StopsAt, WithAccount, WithContent, WithItem, a_text, a_uuid, answered, broken, commits as committed, content, delete, edit, lines, list, nothing, passwd, put, refused, register, rows_done, sign_in, sync}
use Rattle.sn_device.specs.States.{Bytes}
use Rattle.sn_device.specs.Steps.{Step, What, deletes, edits, puts}
use Rattle.sn_device.specs.declared.error.ClientError.{ClientError}
use Rattle.sn_device.specs.declared.error.ClientError.TheVariants as refusal
use Rattle.sn_laws.proofs.Facts.{end_from-append}
use Rattle.sn_laws.specs.Runs.{end_from}
use Rattle.sn_laws.specs.declared.ideal.Ideal.{Ideal}
use Rattle.sn_laws.specs.declared.moves.Move.{Move}
use Rattle.sn_rows.specs.Table.{Rows, rows_after}
use Rattle.sn_rows.specs.declared.change.Change.{Change}
use Rattle.sn_rows.specs.declared.device_rows.OwnerRow.{OwnerRow}
use Rattle.sn_sets.specs.declared.sets.Sets.{Sets}
use Rattle.sn_string.specs.declared.params.KeySet.{KeySet}
use Rattle.sn_sync.specs.declared.request.Request.{Request}
use Rattle.sn_world.proofs.DeviceRows.{with_device, with_own}
use Rattle.sn_world.proofs.RoundLemmas.{changed_device}
use Rattle.sn_world.proofs.Traced.{trace_from}
use Rattle.sn_world.specs.Calls.{AreServed, AsksNothing, CallsGo, Fate, Leads, LeadsKeep, LeadsTo, begins_none, call_steps, rows_served}
use Rattle.sn_world.specs.Committing.{Commits, MayCommit}
use Rattle.sn_world.specs.Happens.{Does, Happens, Trace, commits}
use Rattle.sn_world.specs.Holds.{Holds, TokensDiffer}
use Rattle.sn_world.specs.Laws.{Keeps, SaysSome}
use Rattle.sn_world.specs.World.{World}

-- ---- one after another

pub trace_append : (secret : Bytes) (a b : List Happens) (ms ns : List Move) (w v x : World) (s : Ideal) → Trace secret w s a ms v
    → Trace secret v (end_from s ms) b ns x → Trace secret w s (a ++ b) (ms ++ ns) x
trace_append secret [] b ms ns w v x s (none, same) t =
    subst (λ (ks : List Move). Trace secret w s b (ks ++ ns) x) (sym none)
    (subst (λ (y : World). Trace secret y s b ns x) same (subst (λ (ks : List Move). Trace secret v (end_from s ks) b ns x) none t))
trace_append secret (step ∷ a) b ms ns w v x s (mid, first, later, does, says, rest, is) t =
    let on : Trace secret v (end_from (end_from s first) later) b ns x =
    subst (λ (u : Ideal). Trace secret v u b ns x) (ap (λ (ks : List Move). end_from s ks) is ∙ end_from-append s first later) t in (
      mid,
      first,
      later ++ ns,
      does,
      says,
      trace_append secret a b later ns mid v x (end_from s first) rest on,
      ap (λ (ks : List Move). ks ++ ns) is ∙ append_assoc first later ns,
    )

-- a world that holds with a state, and has these rows
pub record Stands (secret name : Bytes) (v : World) (t : Ideal) (server rows : Rows) : Type 0 where
  pub holds : Holds secret v t
  pub server_is : v.server ≡ server
  pub device_is : v.devices name ≡ rows

-- acts of a device over a server, with these fates, from these rows
abbrev pub Goes : (secret name : Bytes) → (Request → Option KeySet) → World → Ideal → Rows → Rows → List Act → List Fate → Halt → Type 0
Goes secret name begins v t server rows acts fates halt =
    LeadsTo secret v t name (call_steps name begins acts fates) (rows_served server fates) (rows_done rows acts) halt

module _ (keeps : Keeps) (says : SaysSome) (secret : Bytes) (differ : TokensDiffer secret) (name : Bytes) where
  -- from where the first steps lead
  pub leads_on : (w : World) (s : Ideal) (a b : List Happens) (server rows server_after rows_left : Rows) → (one : Leads secret w s name a server rows)
      → Leads secret one.next (end_from s one.moves) name b server_after rows_left → Leads secret w s name (a ++ b) server_after rows_left
  leads_on w s a b server rows server_after rows_left one two = record {
    moves = one.moves ++ two.moves;
    next = two.next;
    goes = trace_append secret a b one.moves two.moves w one.next two.next s one.goes two.goes;
    server_is = two.server_is;
    device_is = two.device_is;
  }

  leads_before : (w : World) (s : Ideal) (a b c : List Happens) (server rows server_after rows_left : Rows) → (one : Leads secret w s name a server rows)
      → Leads secret one.next (end_from s one.moves) name (b ++ c) server_after rows_left → Leads secret w s name ((a ++ b) ++ c) server_after rows_left
  leads_before w s a b c server rows server_after rows_left one two =
      subst (λ (steps : List Happens). Leads secret w s name steps server_after rows_left) (sym (append_assoc a b c))
      (leads_on w s a (b ++ c) server rows server_after rows_left one two)

  pub leads_to_on : (w : World) (s : Ideal) (a b : List Happens) (server rows server_after rows_left : Rows) (halt : Halt)
      → (one : Leads secret w s name a server rows) → LeadsTo secret one.next (end_from s one.moves) name b server_after rows_left halt
      → LeadsTo secret w s name (a ++ b) server_after rows_left halt
  leads_to_on w s a b server rows server_after rows_left (answered given left) one two = leads_on w s a b server rows server_after rows_left one two
  leads_to_on w s a b server rows server_after rows_left (refused why) one two = leads_on w s a b server rows server_after rows_left one two
  leads_to_on w s a b server rows server_after rows_left (broken what changes) one two = (
    leads_before w s a b (commits name what changes true ∷ []) server rows server_after (rows_after rows_left changes) one two.0,
    leads_before w s a b (commits name what changes false ∷ []) server rows server_after rows_left one two.1,
  )

  -- the invariant holds there
  pub stands_then : (w : World) (s : Ideal) (a : List Happens) (server rows : Rows) → Holds secret w s → (one : Leads secret w s name a server rows)
      → Stands secret name one.next (end_from s one.moves) server rows
  stands_then w s a server rows h one = record {
    holds = (trace_from keeps secret differ a one.moves w one.next s h one.goes).1;
    server_is = one.server_is;
    device_is = one.device_is;
  }

  -- ---- one step

  pub none_leads : (v : World) (t : Ideal) (server rows : Rows) → Stands secret name v t server rows → Leads secret v t name [] server rows
  none_leads v t server rows k = record { moves = []; next = v; goes = (refl, refl); server_is = k.server_is; device_is = k.device_is }

  pub step_leads : (v next : World) (t : Ideal) (step : Happens) (server rows : Rows) → Holds secret v t → Does secret v t step next → next.server ≡ server
      → next.devices name ≡ rows → Leads secret v t name (step ∷ []) server rows
  step_leads v next t step server rows h does server_is device_is =
      let said = says secret v next t step h does in
      record {
        moves = said.0 ++ [];
        next = next;
        goes = (next, said.0, [], does, said.1, (refl, refl), refl);
        server_is = server_is;
        device_is = device_is;
      }

  pub commit_leads : (v : World) (t : Ideal) (server rows : Rows) (words left : ChaCha) (what : What) (changes : List Change) → Stands secret name v t server rows
      → Step rows words what changes left → MayCommit secret server rows t name what
      → Leads secret v t name (commits name what changes true ∷ []) server (rows_after rows changes)
  commit_leads v t server rows words left what changes k step may =
      let next : World = with_device v name (rows_after (v.devices name) changes) in
      let step_so : Step (v.devices name) words what changes left = subst (λ (r : Rows). Step r words what changes left) (sym k.device_is) step in
      let commits_so : Commits v next name what changes = record { words = words; left = left; step = step_so; on = changed_device v name changes } in
      let may_so : MayCommit secret v.server (v.devices name) t name what =
      subst (λ (r : Rows). MayCommit secret r (v.devices name) t name what) (sym k.server_is)
      (subst (λ (r : Rows). MayCommit secret server r t name what) (sym k.device_is) may) in
      step_leads v next t (commits name what changes true) server (rows_after rows changes) k.holds (commits_so, may_so) k.server_is
      (with_own v name (rows_after (v.devices name) changes) ∙ ap (λ (r : Rows). rows_after r changes) k.device_is)

  pub broken_leads : (v : World) (t : Ideal) (server rows : Rows) (what : What) (changes : List Change) → Stands secret name v t server rows
      → Leads secret v t name (commits name what changes false ∷ []) server rows
  broken_leads v t server rows what changes k = step_leads v v t (commits name what changes false) server rows k.holds refl k.server_is k.device_is

  -- ---- acts

  -- none is made, and the call is refused
  pub refuses_goes : (begins : Request → Option KeySet) (v : World) (t : Ideal) (server rows : Rows) (acts : List Act) (fates : List Fate) (halt : Halt) (why : ClientError)
      → Stands secret name v t server rows → Refuses acts halt why → AreServed server acts fates → Goes secret name begins v t server rows acts fates halt
  refuses_goes begins v t server rows acts fates halt why k (none, is) over =
      let no_fates : fates ≡ [] = subst (λ (xs : List Act). AreServed server xs fates) none over in
      subst (λ (xs : List Act). Goes secret name begins v t server rows xs fates halt) (sym none)
      (subst (λ (fs : List Fate). Goes secret name begins v t server rows [] fs halt) (sym no_fates)
      (subst (λ (z : Halt). Goes secret name begins v t server rows [] [] z) (sym is) (none_leads v t server rows k)))

  -- none is made, and the call is answered
  pub answers_goes : (begins : Request → Option KeySet) (v : World) (t : Ideal) (server rows : Rows) (acts : List Act) (fates : List Fate) (halt : Halt) (given : Given)
      (left : ChaCha) → Stands secret name v t server rows → acts ≡ [] → halt ≡ answered given left → AreServed server acts fates
      → Goes secret name begins v t server rows acts fates halt
  answers_goes begins v t server rows acts fates halt given left k none is over =
      let no_fates : fates ≡ [] = subst (λ (xs : List Act). AreServed server xs fates) none over in
      subst (λ (xs : List Act). Goes secret name begins v t server rows xs fates halt) (sym none)
      (subst (λ (fs : List Fate). Goes secret name begins v t server rows [] fs halt) (sym no_fates)
      (subst (λ (z : Halt). Goes secret name begins v t server rows [] [] z) (sym is) (none_leads v t server rows k)))

  -- a commit isn't made
  pub stops_to : (v : World) (t : Ideal) (server rows : Rows) (halt : Halt) (words left : ChaCha) (what : What) (changes : List Change)
      → Stands secret name v t server rows → Step rows words what changes left → MayCommit secret server rows t name what → StopsAt what changes halt
      → LeadsTo secret v t name [] server rows halt
  stops_to v t server rows halt words left what changes k step may (inl (batch, is)) =
      subst (λ (z : Halt). LeadsTo secret v t name [] server rows z) (sym is)
      (commit_leads v t server rows words left what changes k step may, broken_leads v t server rows what changes k)
  stops_to v t server rows halt words left what changes k step may (inr (inl (large, is))) =
      subst (λ (z : Halt). LeadsTo secret v t name [] server rows z) (sym is) (none_leads v t server rows k)
  stops_to v t server rows halt words left what changes k step may (inr (inr is)) =
      subst (λ (z : Halt). LeadsTo secret v t name [] server rows z) (sym is) (none_leads v t server rows k)

  pub stops_goes : (begins : Request → Option KeySet) (v : World) (t : Ideal) (server rows : Rows) (acts : List Act) (fates : List Fate) (halt : Halt)
      (words left : ChaCha) (what : What) (changes : List Change) → Stands secret name v t server rows → Step rows words what changes left
      → MayCommit secret server rows t name what → acts ≡ [] → StopsAt what changes halt → AreServed server acts fates
      → Goes secret name begins v t server rows acts fates halt
  stops_goes begins v t server rows acts fates halt words left what changes k step may none stops over =
      let no_fates : fates ≡ [] = subst (λ (xs : List Act). AreServed server xs fates) none over in
      subst (λ (xs : List Act). Goes secret name begins v t server rows xs fates halt) (sym none)
      (subst (λ (fs : List Fate). Goes secret name begins v t server rows [] fs halt) (sym no_fates)
      (stops_to v t server rows halt words left what changes k step may stops))

  -- one commit more
  pub once_goes : (begins : Request → Option KeySet) (v : World) (t : Ideal) (server rows : Rows) (acts : List Act) (fates : List Fate) (halt : Halt) (words : ChaCha)
      (what : What) (given : Given) → Stands secret name v t server rows → MayCommit secret server rows t name what
      → CommitsOnce rows words what given acts halt → AreServed server acts fates → Goes secret name begins v t server rows acts fates halt
  once_goes begins v t server rows acts fates halt words what given k may (changes, left, step, inl (batch, one, is)) over =
      let no_fates : fates ≡ [] = subst (λ (xs : List Act). AreServed server xs fates) one over in
      subst (λ (xs : List Act). Goes secret name begins v t server rows xs fates halt) (sym one)
      (subst (λ (fs : List Fate). Goes secret name begins v t server rows (committed what changes ∷ []) fs halt) (sym no_fates)
      (subst (λ (z : Halt). Goes secret name begins v t server rows (committed what changes ∷ []) [] z) (sym is)
      (commit_leads v t server rows words left what changes k step may)))
  once_goes begins v t server rows acts fates halt words what given k may (changes, left, step, inr (none, stops)) over =
      stops_goes begins v t server rows acts fates halt words left what changes k step may none stops over

  -- ---- calls that ask for nothing

  module _ (begins : Request → Option KeySet) (w : World) (s : Ideal) (h : Holds secret w s) (words : ChaCha) (acts : List Act) (fates : List Fate)
      (halt : Halt) (over : AreServed w.server acts fates) where
    abbrev here : Type 0
    here = Goes secret name begins w s w.server (w.devices name) acts fates halt

    stands : Stands secret name w s w.server (w.devices name)
    stands = record { holds = h; server_is = refl; device_is = refl }

    pub refused_here : (why : ClientError) → Refuses acts halt why → here
    refused_here why refuses = refuses_goes begins w s w.server (w.devices name) acts fates halt why stands refuses over

    pub answered_here : (given : Given) (left : ChaCha) → acts ≡ [] → halt ≡ answered given left → here
    answered_here given left none is = answers_goes begins w s w.server (w.devices name) acts fates halt given left stands none is over

    pub committed_here : (what : What) (given : Given) → MayCommit secret w.server (w.devices name) s name what
        → CommitsOnce (w.devices name) words what given acts halt → here
    committed_here what given may once = once_goes begins w s w.server (w.devices name) acts fates halt words what given stands may once over

    pub with_account : (P : OwnerRow → Sets → List Act → Halt → Type 0) → ((owner : OwnerRow) (sets : Sets) → P owner sets acts halt → here)
        → WithAccount (w.devices name) P acts halt → here
    with_account P so (inl (none, refuses)) = refused_here refusal.NoAccount refuses
    with_account P so (inr (owner, sets, holds, p)) = so owner sets p

    with_content : (text : Bytes) (P : List Act → Halt → Type 0) → (P acts halt → here) → WithContent text P acts halt → here
    with_content text P so (inl (long, refuses)) = refused_here (refusal.TooLong (length text)) refuses
    with_content text P so (inr (short, inl (other, refuses))) = refused_here refusal.NotObject refuses
    with_content text P so (inr (short, inr (object, p))) = so p

    with_item : (sets : Sets) (uuid : Bytes) (P : Bytes → List Act → Halt → Type 0) → ((shown : Bytes) → P shown acts halt → here)
        → WithItem (w.devices name) sets uuid P acts halt → here
    with_item sets uuid P so (inl (gone, refuses)) = refused_here (refusal.NoItem uuid) refuses
    with_item sets uuid P so (inr (number, local, stood, undeleted, inl (nonce, closed, refuses))) = refused_here (refusal.Closed nonce) refuses
    with_item sets uuid P so (inr (number, local, stood, undeleted, inr (shown, shows, p))) = so shown p

    puts_item : (owner : OwnerRow) (kind text : Bytes) → PutsItem (w.devices name) words owner kind text acts halt → here
    puts_item owner kind text (inl (used, refuses)) = refused_here (refusal.NumbersUsed owner.next) refuses
    puts_item owner kind text (inr (room, inl (drawn, none, refuses))) = refused_here (refusal.NoFreshUuid drawn) refuses
    puts_item owner kind text (inr (room, inr (uuid, once))) = committed_here (puts uuid kind text) (a_uuid uuid) tt once

    deletes_item : (uuid : Bytes) (owner : OwnerRow) (sets : Sets) → DeletesItem uuid (w.devices name) words owner sets acts halt → here
    deletes_item uuid owner sets (inl (free, refuses)) = refused_here (refusal.NoItem uuid) refuses
    deletes_item uuid owner sets (inr (used, once)) = committed_here (deletes uuid) nothing tt once

    pub goes : (least : ℕ) (call : Call) → AsksNothing call → RunsCall least call (w.devices name) words acts halt → here
    goes least (register identifier password cost) quiet runs = absurd quiet
    goes least (sign_in identifier password) quiet runs = absurd quiet
    goes least sync quiet runs = absurd quiet
    goes least (passwd password cost) quiet runs = absurd quiet
    goes least (put kind text) quiet runs =
        with_account (λ owner sets. WithContent text (PutsItem (w.devices name) words owner kind text))
        (λ owner sets p. with_content text (PutsItem (w.devices name) words owner kind text) (puts_item owner kind text) p) runs
    goes least (edit uuid text) quiet runs =
        with_account (λ owner sets. WithItem (w.devices name) sets uuid (λ shown. WithContent text (CommitsOnce (w.devices name) words (edits uuid text) nothing)))
        (λ owner sets p. with_item sets uuid (λ shown. WithContent text (CommitsOnce (w.devices name) words (edits uuid text) nothing))
        (λ shown q. with_content text (CommitsOnce (w.devices name) words (edits uuid text) nothing) (committed_here (edits uuid text) nothing tt) q) p) runs
    goes least (delete uuid) quiet runs = with_account (DeletesItem uuid (w.devices name) words) (deletes_item uuid) runs
    goes least list quiet runs = with_account (ListsItems (w.devices name) words) (λ owner sets p. answered_here (lines p.0) words p.2 p.3) runs
    goes least (content uuid) quiet runs =
        with_account (λ owner sets. WithItem (w.devices name) sets uuid (GivesText words))
        (λ owner sets p. with_item sets uuid (GivesText words) (λ shown q. answered_here (a_text shown) words q.0 q.1) p) runs

    pub runs_goes : (least : ℕ) (call : Call) → AsksNothing call → Run least call (w.devices name) words acts halt → here
    runs_goes least call quiet (inl wants) = refused_here refusal.Memory wants
    runs_goes least call quiet (inr runs) = goes least call quiet runs

pub leads_keep : Keeps → LeadsKeep
leads_keep keeps secret w s name steps server device differ h x = trace_from keeps secret differ steps x.moves w x.next s h x.goes

pub calls_go : Keeps → SaysSome → CallsGo
calls_go keeps says secret w s name least call words acts fates halt differ h quiet runs over = record {
  begins = begins_none;
  of_call = λ r. tt;
  leads = runs_goes keeps says secret differ name begins_none w s h words acts fates halt over least call quiet runs;
}

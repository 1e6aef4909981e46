-- Steps that ask for no set, and change no password, keep a world so.
use Rattle.std.proofs.Common.{◌≡◌, ◌⊎◌, ℕ, List, [], ◌∷◌, Option, true, false, refl, sym, ap, ◌∙◌, subst, inl, inr}
use Rattle.std.proofs.lemmas.Bool.{cases_Bool}
use Rattle.std.specs.Prelude.{IsSome}
use Rattle.std.specs.Str.{bytes_eq}
use Rattle.rand_chacha.specs.ChaCha.{ChaCha}
use Rattle.sn_device.proofs.Facts.{adopted, apply_parts, delete_parts, edit_parts, parts_keep, post_parts, put_parts, renew_parts}
use Rattle.sn_device.specs.States.{IsSound}
use Rattle.sn_device.specs.Steps.{AppliesTo, Deletes, Step, What, adopts, applies, asks, begins, deletes, edits, forgets, posts, puts, renews}
use Rattle.sn_device.specs.Sending.{PostsAll}
use Rattle.sn_laws.proofs.Facts.{clash, end_from-append, same_text, text_same}
use Rattle.sn_laws.specs.Each.{Each, One}
use Rattle.sn_laws.specs.Lookups.{Bytes}
use Rattle.sn_laws.specs.Runs.{end_from}
use Rattle.sn_laws.specs.declared.ideal.Account.{Account}
use Rattle.sn_laws.specs.declared.ideal.Ideal.{Ideal}
use Rattle.sn_laws.specs.declared.moves.Move.{Move}
use Rattle.sn_rows.specs.Facts.{neither_put, removed_here}
use Rattle.sn_rows.specs.Table.{Rows, rows_after}
use Rattle.sn_rows.specs.declared.change.Change.{Change}
use Rattle.sn_rows.specs.declared.key.Key.TheVariants as key
use Rattle.sn_rows.specs.declared.key.Slot.TheVariants.{Asked, Present}
use Rattle.sn_rows.specs.declared.server_rows.AccountRow.{AccountRow}
use Rattle.sn_rows.specs.declared.value.Value.{Value}
use Rattle.sn_rows.specs.declared.value.Value.TheVariants as value
use Rattle.sn_shows.specs.Servers.{ShowsServer, account_at}
use Rattle.sn_sync.specs.declared.answer.Answer.{Answer}
use Rattle.sn_sync.specs.declared.answer.Answer.TheVariants as answer
use Rattle.sn_sync.specs.declared.request.Request.{Request}
use Rattle.sn_sync.specs.declared.request.Request.TheVariants as request
use Rattle.sn_world.proofs.LegalMoves.{legal_joined}
use Rattle.sn_world.proofs.PlainSaid.{moves_keep}
use Rattle.sn_world.proofs.PlainSets.{KeepsSets, have_one_set, one_set_after}
use Rattle.sn_world.proofs.Tokens.{one_account, there_is}
use Rattle.sn_world.specs.Committing.{Commits}
use Rattle.sn_world.specs.Happens.{Does, Happens, Says, Trace, commits, makes, serves, starts}
use Rattle.sn_world.specs.Holds.{Holds, TokensDiffer}
use Rattle.sn_world.specs.Laws.{HoldsFirst, Keeps, KeptBy}
use Rattle.sn_world.specs.Plain.{AsksNoSet, HaveOneSet, HoldsPlain, IsPlainCommit, IsPlainStep, IsPlainWorld, KeepsPlain, KeepsSet, KeptPlain, PlainFirst, PlainSays, moves_for}
use Rattle.sn_world.specs.World.{IsMade, Made, World}

-- ---- a commit of a device asks for no set

none_changed : (rows : Rows) (changes : List Change) → changes ≡ [] → AsksNoSet rows → AsksNoSet (rows_after rows changes)
none_changed rows changes none unasked = subst (λ (cs : List Change). AsksNoSet (rows_after rows cs)) (sym none) unasked

module _ (rows : Rows) (words left : ChaCha) (changes : List Change) (sound : IsSound rows) (unasked : AsksNoSet rows) where
  deleted : (uuid : Bytes) → Deletes rows uuid changes → AsksNoSet (rows_after rows changes)
  deleted uuid x =
      let own = sound.owner (key.Local x.number) (value.Local x.local) x.stands.0 in
      (parts_keep rows changes (delete_parts rows own.0 uuid changes own.1 x)).asked ∙ unasked

  posted : (numbers : List ℕ) (now : List Change) → PostsAll rows numbers now → AsksNoSet (rows_after rows now)
  posted [] [] all = unasked
  posted [] (c ∷ now) all = absurd all
  posted (number ∷ numbers) [] all = absurd all
  posted (number ∷ numbers) (c ∷ now) (one, rest) =
      let own = sound.owner (key.Local number) (value.Local one.local) one.stands in
      (parts_keep rows (c ∷ now) (post_parts rows own.0 (number ∷ numbers) (c ∷ now) own.1 (one, rest))).asked ∙ unasked

  applied : (r : Request) (given : Answer) → AppliesTo rows words r given changes left → AsksNoSet (rows_after rows changes)
  applied (request.Sync token items limit sync_token cursor_token) (answer.Sync conflicts cursor retrieved saved next_token) x =
      (parts_keep rows changes (apply_parts rows words left items conflicts cursor retrieved saved next_token changes x)).asked ∙ unasked
  applied (request.Sync token items limit sync_token cursor_token) (answer.Account other identifier uuid) x = absurd x
  applied (request.Sync token items limit sync_token cursor_token) (answer.Params params) x = absurd x
  applied (request.Sync token items limit sync_token cursor_token) (answer.Refused status tag more) x = absurd x
  applied (request.Register params pw) given x = absurd x
  applied (request.Params identifier) given x = absurd x
  applied (request.SignIn identifier pw) given x = absurd x
  applied (request.ChangePw token current pw cost nonce) given x = absurd x

  pub stays_unasked : (what : What) → IsPlainCommit what → Step rows words what changes left → AsksNoSet (rows_after rows changes)
  stays_unasked (begins set account token) plain (fresh, x, same) =
      ap (λ (cs : List Change). rows_after rows cs (key.Set Asked)) x.changes_are
      ∙ neither_put rows x.owner x.present key.Owner (key.Set Present) (key.Set Asked) (value.Owner x.owner_is.owner) (value.Set x.keys) x.owner_is.puts_it
      x.present_is (λ e. cc) (λ e. cc)
      ∙ unasked
  stays_unasked (renews token) plain (x, same) = (parts_keep rows changes (renew_parts rows token changes x)).asked ∙ unasked
  stays_unasked (puts uuid kind text) plain x = (parts_keep rows changes (put_parts rows words left uuid kind text changes x)).asked ∙ unasked
  stays_unasked (edits uuid text) plain x = (parts_keep rows changes (edit_parts rows words left uuid text changes x)).asked ∙ unasked
  stays_unasked (deletes uuid) plain (x, same) = deleted uuid x
  stays_unasked (posts numbers) plain (x, same) = posted numbers changes x
  stays_unasked (applies r given) plain x = applied r given x
  stays_unasked (asks set) plain x = absurd plain
  stays_unasked (adopts set token) plain x = (adopted rows words left set token changes x).asked
  stays_unasked forgets plain (x, same) =
      ap (λ (cs : List Change). rows_after rows cs (key.Set Asked)) x.changes_are ∙ removed_here rows x.change (key.Set Asked) x.removes

-- ---- the accounts

-- where the server's rows stay, each account has as many sets as it had
stays_one : (server : Rows) (before later : List Account) → ShowsServer server before → ShowsServer server later → HaveOneSet before → HaveOneSet later
stays_one server before later x y one n b at =
    let its = (y.all.each n b at).identity in
    let was = there_is (account_at n before) (x.all.no_other (key.Account n) (subst (λ (o : Option Value). IsSome o) (sym its.stands) refl)) in
    let old = (x.all.each n was.0 was.1).identity in
    let row : its.row ≡ old.row = one_account its.row old.row (server (key.Account n)) its.stands old.stands in
    sym its.generation ∙ ap (λ (r : AccountRow). r.generation) row ∙ old.generation ∙ one n was.0 was.1

-- ---- each step

-- a step of the server, or none
same_devices : (w next : World) (s later : Ideal) → IsPlainWorld w s → HaveOneSet later.accounts → next.devices ≡ w.devices → next.made ≡ w.made
    → IsPlainWorld next later
same_devices w next s later plain one devices made = record {
  one_set = one;
  unasked = λ name. subst AsksNoSet (sym (ap (λ (d : Bytes → Rows). d name) devices)) (plain.unasked name);
  no_change = λ m among. plain.no_change m (subst (λ (ms : List Made). One (λ x. x ≡ m) ms) made among);
}

no_moves : (s : Ideal) (moves : List Move) → moves ≡ [] → HaveOneSet s.accounts → HaveOneSet (end_from s moves).accounts
no_moves s moves none one = subst (λ (ms : List Move). HaveOneSet (end_from s ms).accounts) (sym none) one

idle : (w next : World) (s : Ideal) (moves : List Move) → IsPlainWorld w s → next ≡ w → moves ≡ [] → IsPlainWorld next (end_from s moves)
idle w next s moves plain same none =
    same_devices w next s (end_from s moves) plain (no_moves s moves none plain.one_set) (ap (λ (x : World). x.devices) same) (ap (λ (x : World). x.made) same)

made_plain : (w next : World) (m : Made) → ((x : Made) → IsMade w x → KeepsSet x.request) → KeepsSet m.request → next.made ≡ m ∷ w.made → (x : Made)
    → IsMade next x → KeepsSet x.request
made_plain w next m before keeps is x among = by (subst (λ (ms : List Made). One (λ y. y ≡ x) ms) is among)
  where
    by : (m ≡ x) ⊎ IsMade w x → KeepsSet x.request
    by (inl here) = subst (λ (y : Made). KeepsSet y.request) here keeps
    by (inr behind) = before x behind

-- a commit of this device
module _ (w next : World) (name : Bytes) (what : What) (changes : List Change) (x : Commits w next name what changes) where
  committed : IsSound (w.devices name) → ((other : Bytes) → AsksNoSet (w.devices other)) → IsPlainCommit what → (other : Bytes)
      → ((bytes_eq other name ≡ true) ⊎ (bytes_eq other name ≡ false)) → AsksNoSet (next.devices other)
  committed sound before plain other (inl same) =
      subst (λ (n : Bytes). AsksNoSet (next.devices n)) (sym (same_text other name same))
      (subst AsksNoSet (sym x.on.own) (stays_unasked (w.devices name) x.words x.left changes sound (before name) what plain x.step))
  committed sound before plain other (inr off) =
      subst AsksNoSet (sym (x.on.others other (λ e. clash (bytes_eq other name) (text_same other name e) off))) (before other)

module _ (says : PlainSays) (secret : Bytes) (w next : World) (s : Ideal) (moves : List Move) (differ : TokensDiffer secret) (h : HoldsPlain secret w s)
    (kept : Holds secret next (end_from s moves)) where
  plain_after : (step : Happens) → IsPlainStep step → Does secret w s step next → Says w s step moves → IsPlainWorld next (end_from s moves)
  plain_after (starts changes true) plain does said =
      same_devices w next s (end_from s moves) h.plain (no_moves s moves said h.plain.one_set) does.on.devices does.on.made
  plain_after (starts changes false) plain does said = idle w next s moves h.plain does said
  plain_after (makes m) plain does said = record {
    one_set = no_moves s moves said h.plain.one_set;
    unasked = λ name. subst AsksNoSet (sym (ap (λ (d : Bytes → Rows). d name) does.devices)) (h.plain.unasked name);
    no_change = made_plain w next m h.plain.no_change plain does.made;
  }
  plain_after (serves m now changes given true) plain does said =
      let moves_are : moves ≡ moves_for w.server m.device m.begins m.request changes =
      says secret w next s m now changes given moves differ h does said in
      let keeps : Each KeepsSets moves =
      subst (λ (ms : List Move). Each KeepsSets ms) (sym moves_are) (moves_keep w.server m.device m.begins m.request changes) in
      same_devices w next s (end_from s moves) h.plain (one_set_after s moves keeps h.plain.one_set) does.on.devices does.on.made
  plain_after (serves m now changes given false) plain does said = idle w next s moves h.plain does said
  plain_after (commits name what changes true) plain (x, may) said = record {
    one_set = stays_one w.server s.accounts (end_from s moves).accounts h.holds.server
        (subst (λ (r : Rows). ShowsServer r (end_from s moves).accounts) x.on.server kept.server) h.plain.one_set;
    unasked = λ other.
        committed w next name what changes x (h.holds.sound name) h.plain.unasked plain other (cases_Bool (bytes_eq other name));
    no_change = λ m among. h.plain.no_change m (subst (λ (ms : List Made). One (λ y. y ≡ m) ms) x.on.made among);
  }
  plain_after (commits name what changes false) plain does said = idle w next s moves h.plain does said

pub keeps_plain : Keeps → PlainSays → KeepsPlain
keeps_plain keeps says secret w next s step moves differ h plain does said =
    let kept : KeptBy secret next s moves = keeps secret w next s step moves differ h.holds does said in
    (kept.0, record { holds = kept.1; plain = plain_after says secret w next s moves differ h kept.1 step plain does said })

pub plain_first : HoldsFirst → PlainFirst
plain_first first secret = record {
  holds = first secret;
  plain = record { one_set = have_one_set [] tt; unasked = λ name. refl; no_change = λ m among. absurd among };
}

-- ---- steps one after another

pub trace_plain : KeepsPlain → (secret : Bytes) → TokensDiffer secret → (steps : List Happens) (moves : List Move) (w next : World) (s : Ideal)
    → HoldsPlain secret w s → Each IsPlainStep steps → Trace secret w s steps moves next → KeptPlain secret next s moves
trace_plain keeps secret differ [] moves w next s h plain (none, same) =
    subst (λ (ms : List Move). KeptPlain secret next s ms) (sym none) (tt, subst (λ (x : World). HoldsPlain secret x s) (sym same) h)
trace_plain keeps secret differ (step ∷ steps) moves w next s h plain (mid, first, later, does, says, rest, is) =
    let one : KeptPlain secret mid s first = keeps secret w mid s step first differ h plain.0 does says in
    let others : KeptPlain secret next (end_from s first) later = trace_plain keeps secret differ steps later mid next (end_from s first) one.1 plain.1 rest in
    subst (λ (ms : List Move). KeptPlain secret next s ms) (sym is)
    (legal_joined s first later one.0 others.0, subst (λ (t : Ideal). HoldsPlain secret next t) (sym (end_from-append s first later)) others.1)

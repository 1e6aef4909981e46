-- A change of password that is answered makes at most as many requests as its first row has exchanges and there are portions behind its adoption, and two more.
use Rattle.std.proofs.Common.{◌≡◌, ◌+◌, ◌≤◌, ℕ, List, [], ◌∷◌, length, Option, Some, None, refl, sym, ap, ◌∙◌, subst, inl, inr, arith}
use Rattle.std.proofs.lemmas.List.{append-nil}
use Rattle.std.specs.List.{flat_map}
use Rattle.rand_chacha.specs.ChaCha.{ChaCha}
use Rattle.sn_bound.proofs.BehindChange.{IsBehindChange, behind_change}
use Rattle.sn_bound.proofs.OneExchange.{HasAllAt}
use Rattle.sn_bound.proofs.SecondRow.{all_rounds}
use Rattle.sn_bound.specs.Bound.{ChangesBounded, IsBounded, SendsPortions, exchanges_for}
use Rattle.sn_bound.specs.Whole.{HasWhole, IsLastPage, WholeBegins, WholeChanges, WholeStays}
use Rattle.sn_device.specs.Asking.{said}
use Rattle.sn_device.specs.Runs.{Act, AreRounds, Halt, IsDone, Point, Round, Standing, acts_of, answered, asked, begun, change_to, commits as committed, nothing, rows_done}
use Rattle.sn_device.specs.Sending.{NoneWaits}
use Rattle.sn_device.specs.States.{HasSets}
use Rattle.sn_device.specs.Steps.{adopts, asks}
use Rattle.sn_laws.specs.Lookups.{Bytes}
use Rattle.sn_laws.specs.Runs.{end_from}
use Rattle.sn_laws.specs.declared.ideal.Ideal.{Ideal}
use Rattle.sn_passwd.proofs.Exchanging.{brought}
use Rattle.sn_passwd.proofs.Points.{Brought, last_alone}
use Rattle.sn_passwd.proofs.Together.{CallLaws}
use Rattle.sn_ready.specs.Passwds.{BehindFirst, ChangeCounts, IsChanged, rows_made}
use Rattle.sn_ready.specs.Ready.{IsReady}
use Rattle.sn_rows.specs.Table.{Rows, rows_after}
use Rattle.sn_rows.specs.declared.body.RowBody.{RowBody}
use Rattle.sn_rows.specs.declared.device_rows.OwnerRow.{OwnerRow}
use Rattle.sn_sets.specs.declared.sets.Sets.{Sets}
use Rattle.sn_sync.specs.declared.answer.Answer.{Answer}
use Rattle.sn_sync.specs.declared.answer.Answer.TheVariants as answer
use Rattle.sn_world.proofs.CallFronts.{Split, split}
use Rattle.sn_world.proofs.CallLemmas.{Stands, stands_then}
use Rattle.sn_world.proofs.SyncCalls.{end_goes, over_round, rounds_on}
use Rattle.sn_world.proofs.SyncsEnd.{is_whole, rounds_rows}
use Rattle.sn_device.proofs.Facts.{EndsAlone}
use Rattle.sn_world.specs.Answering.{requests_in}
use Rattle.sn_world.specs.Calls.{AreServed, Fate, Leads, begins_none, call_steps, rows_served}
use Rattle.sn_world.specs.Holds.{Holds, TokensDiffer}
use Rattle.sn_world.specs.Laws.{SyncedRows}
use Rattle.sn_world.specs.World.{World}
use Rattle.std.specs.Prelude.{IsSome}

-- ---- a row that is brought to its end

last_page : (rows : Rows) (given : Answer) → IsDone rows (Some given) → IsLastPage given
last_page rows (answer.Sync conflicts cursor retrieved saved token) done = done.0
last_page rows (answer.Account token identifier uuid) done = absurd done
last_page rows (answer.Params params) done = absurd done
last_page rows (answer.Refused status tag more) done = absurd done

row_whole : WholeBegins → (rounds : List Round) (at after : Standing) (server : Rows) (fates : List Fate) → AreRounds at rounds after
    → AreServed server (flat_map acts_of rounds) fates → (IsDone at.rows at.last → HasWhole server at.rows) → IsDone after.rows after.last
    → HasWhole (rows_served server fates) after.rows
row_whole begins [] at after server fates same none whole done =
    subst (λ (fs : List Fate). HasWhole (rows_served server fs) after.rows) (sym none)
    (subst (λ (z : Standing). HasWhole server z.rows) (sym same) (whole (subst (λ (z : Standing). IsDone z.rows z.last) same done)))
row_whole begins (round ∷ rounds) at after server fates (between, is, rest) over whole done =
    let a = over_round server round.numbers round.posted round.request round.given round.applied (flat_map acts_of rounds) fates over in
    subst (λ (fs : List Fate). HasWhole (rows_served server fs) after.rows) (sym a.fates_are)
    (row_whole begins rounds between after (rows_after server a.changes) a.later rest a.over
    (λ done_there.
    begins server at between round a.now a.changes is a.rule
    (last_page between.rows round.given
    (subst (λ (o : Option Answer). IsDone between.rows o) (ap (λ (z : Standing). z.last) is.after_is) done_there))) done)

none_waits : (rows : Rows) (found : Option Answer) → IsDone rows found → NoneWaits rows
none_waits rows None done = absurd done
none_waits rows (Some (answer.Sync conflicts cursor retrieved saved token)) done = done.1
none_waits rows (Some (answer.Account token identifier uuid)) done = absurd done
none_waits rows (Some (answer.Params params)) done = absurd done
none_waits rows (Some (answer.Refused status tag more)) done = absurd done

none_of : (found : Option RowBody) → (IsSome found → ⊥) → found ≡ None
none_of None none = refl
none_of (Some b) none = absurd (none refl)

-- ---- numbers

most_exchanges_for : {A : Type 0} (portions : List A) → exchanges_for portions ≤ length portions + 1
most_exchanges_for [] = omega arith
most_exchanges_for (portion ∷ portions) = omega arith

-- ---- the call

module _ (laws : CallLaws) (begins_whole : WholeBegins) (stays : WholeStays) (changes_whole : WholeChanges) (synced : SyncedRows) (counts : ChangeCounts)
    (secret : Bytes) (differ : TokensDiffer secret) (w : World) (s : Ideal) (h : Holds secret w s) (name : Bytes) (ready : IsReady w s name)
    (password : Bytes) (cost : ℕ) (words : ChaCha) (acts : List Act) (fates : List Fate) (halt : Halt) (over : AreServed w.server acts fates)
    (x : BehindFirst w.server (w.devices name) words acts fates) (c : IsChanged password cost x.first.behind.at x.first.behind.later halt)
    (one : OwnerRow) (sets : Sets) (holds : HasSets (w.devices name) one sets) where
  abbrev rows : Rows
  rows = w.devices name

  abbrev at : Standing
  at = x.first.behind.at

  abbrev front : List Act
  front = flat_map acts_of x.first.behind.rounds

  abbrev first : Point
  first = begun rows words

  abbrev q : Point
  q = record { made = length x.first.behind.rounds; rows = at.rows; words = at.words }

  -- ---- the first row

  stands : Stands secret name w s w.server rows
  stands = record { holds = h; server_is = refl; device_is = refl }

  parts : Split name begins_none w.server front x.first.behind.later fates
  parts =
      split name begins_none w.server front x.first.behind.later fates
      (subst (λ (xs : List Act). AreServed w.server xs fates) x.first.behind.acts_are over)

  abbrev server : Rows
  server = rows_served w.server parts.met

  leads : Leads secret w s name (call_steps name begins_none front parts.met) server (rows_done rows front)
  leads =
      let ends : EndsAlone 0 at [] (answered nothing at.words) = inl (x.first.done, refl, refl) in
      subst (λ (xs : List Act). Leads secret w s name (call_steps name begins_none xs parts.met) server (rows_done rows xs)) (append-nil front)
      (rounds_on laws.rounds laws.resolving.keeps laws.resolving.says secret differ name begins_none x.first.behind.rounds
      (record { rows = rows; words = words; last = None }) at [] (answered nothing at.words) x.first.behind.went
      (λ y u other fs z o.
      end_goes laws.rounds laws.resolving.keeps laws.resolving.says secret differ name begins_none y u other 0 at [] fs (answered nothing at.words) z ends o)
      w s w.server parts.met stands (subst (λ (xs : List Act). AreServed w.server xs parts.met) (sym (append-nil front)) parts.over))

  left : Brought name one.identifier one.token sets.present leads.next (end_from s leads.moves) q
  left =
      brought laws.whole laws.rounds laws.resolving.keeps laws.resolving.says secret differ name begins_none w s w.server first front parts.met stands
      parts.over x.first.behind.rounds at x.first.behind.went refl leads (is_whole at.rows at.last x.first.done) one.identifier one.token sets.present q
      (ready.unasked, record { owner = one; sets = sets; holds = holds; identifier_is = refl; token_is = refl; present_is = refl }) refl

  stands_left : Stands secret name leads.next (end_from s leads.moves) server at.rows
  stands_left =
      subst (λ (r : Rows). Stands secret name leads.next (end_from s leads.moves) server r)
      (sym (rounds_rows x.first.behind.rounds (record { rows = rows; words = words; last = None }) at x.first.behind.went))
      (stands_then laws.resolving.keeps laws.resolving.says secret differ name w s (call_steps name begins_none front parts.met) server (rows_done rows front) h
      leads)

  whole_left : HasAllAt secret name leads.next (end_from s leads.moves) server at.rows
  whole_left = record {
    stands = stands_left;
    last = last_alone (end_from s leads.moves) name left.alone;
    clean = λ n local there. none_of local.latest (λ some. none_waits at.rows at.last x.first.done n local there (inl some));
    whole = row_whole begins_whole x.first.behind.rounds (record { rows = rows; words = words; last = None }) at w.server parts.met x.first.behind.went
        parts.over (λ none. absurd none) x.first.done;
  }

  -- ---- the change

  change_acts : x.first.behind.later
      ≡ committed (asks c.is_made.makes.change.set) c.is_made.makes.change.kept
      ∷ asked (change_to c.is_made.makes.change.owner c.is_made.makes.change.sets.present c.is_made.makes.change.set)
      (said (answer.Account c.is_made.makes.token c.is_made.makes.identifier c.is_made.makes.uuid))
      ∷ committed (adopts c.is_made.makes.change.set c.is_made.makes.token) c.is_made.makes.adopted ∷ c.is_made.later
  change_acts =
      let y = c.is_made.makes.change in
      let begins : Answer → List Act → List Act =
      λ given later. committed (asks y.set) y.kept ∷ asked (change_to y.owner y.sets.present y.set) (said given) ∷ later in
      y.acts_are ∙ ap (λ (g : Answer). begins g y.later) c.is_made.makes.given_is
      ∙ ap (λ (later : List Act). begins (answer.Account c.is_made.makes.token c.is_made.makes.identifier c.is_made.makes.uuid) later) c.is_made.later_is

  behind : IsBehindChange secret name c.is_made.later (rows_made at c.is_made) parts.others
  behind =
      let y = c.is_made.makes.change in
      behind_change laws.resolving changes_whole secret differ name leads.next (end_from s leads.moves) server at.rows whole_left left.alone y.owner y.sets
      y.holds y.set y.left y.kept y.keeps c.is_made.makes.token c.is_made.makes.identifier c.is_made.makes.uuid c.is_made.makes.adopted c.is_made.makes.left
      c.is_made.makes.step c.is_made.later parts.others
      (subst (λ (xs : List Act). AreServed server xs parts.others) change_acts parts.later_over)

  -- ---- the second row

  second : SendsPortions (rows_made at c.is_made) (length c.second.behind.rounds)
  second =
      all_rounds laws.rounds stays laws.resolving.keeps laws.resolving.says synced secret differ name c.second.behind.rounds
      (record { rows = rows_made at c.is_made; words = c.is_made.makes.left; last = None }) c.second.behind.at c.second.behind.later behind.world behind.ideal
      behind.server behind.others behind.has_all refl c.second.behind.went c.second.done
      (subst (λ (xs : List Act). AreServed behind.server xs behind.others) c.second.behind.acts_are behind.over)

  pub bounded : IsBounded w.server rows words password cost acts fates halt x c
  bounded =
      let count = counts password cost w.server rows words acts fates halt x c in
      let sent = second.sent in
      let most = most_exchanges_for second.portions in
      record { second = second; at_most = omega arith }

pub changes_bounded : CallLaws → WholeBegins → WholeStays → WholeChanges → SyncedRows → ChangeCounts → ChangesBounded
changes_bounded laws begins_whole stays changes_whole synced counts secret w s name owner least password cost words acts fates halt differ h ready owned
    (inl none) over x c =
    let count = counts password cost w.server (w.devices name) words acts fates halt x c in
    let no_acts : requests_in acts ≡ 0 = ap requests_in none.0 in
    absurd (omega arith)
changes_bounded laws begins_whole stays changes_whole synced counts secret w s name owner least password cost words acts fates halt differ h ready owned
    (inr (inl (nobody, refuses))) over x c =
    absurd (cc)
changes_bounded laws begins_whole stays changes_whole synced counts secret w s name owner least password cost words acts fates halt differ h ready owned
    (inr (inr (one, sets, holds, so))) over x c =
    bounded laws begins_whole stays changes_whole synced counts secret differ w s h name ready password cost words acts fates halt over x c one sets holds

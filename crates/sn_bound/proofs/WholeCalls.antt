-- A change of password over a server that answers by its rule: the device has all versions of its account behind its first row of exchanges, and from there on.
use Rattle.std.proofs.Common.{◌≡◌, ℕ, suc, List, [], ◌∷◌, ◌++◌, true, Option, Some, None, refl, sym, ap, ◌∙◌, subst, inl, inr}
use Rattle.std.specs.List.{flat_map}
use Rattle.std.proofs.lemmas.List.{append-nil}
use Rattle.sn_account.specs.Laws.{HasOneAccount}
use Rattle.sn_account.specs.Rule.{Rule}
use Rattle.sn_account.specs.RuleLaws.{StaysSound}
use Rattle.sn_account.specs.Rules.{Replaces}
use Rattle.sn_account.specs.Sessions.{IsSession, account_uuid, session_token}
use Rattle.sn_account.specs.Sound.{IsSound as IsSoundServer}
use Rattle.sn_bound.proofs.WholeLemmas.{exchange_begins, exchange_stays}
use Rattle.sn_bound.specs.Whole.{HasWhole, IsLastPage, RetrievesNothing, SecondWhole, WholeChanges}
use Rattle.sn_device.proofs.Facts.{adopted, one_owner}
use Rattle.sn_device.specs.Asking.{said}
use Rattle.sn_device.specs.Runs.{Act, AreRounds, IsDone, Round, Standing, acts_of, asked, change_to}
use Rattle.sn_device.specs.States.{Bytes, OwnerColumns, token_of}
use Rattle.sn_device.specs.Steps.{Asks}
use Rattle.sn_laws.specs.Each.{Each}
use Rattle.sn_ready.specs.Passwds.{MakesIt}
use Rattle.sn_rows.specs.Facts.{first_put, neither_put, put_elsewhere}
use Rattle.sn_rows.specs.Table.{Rows, rows_after}
use Rattle.sn_rows.specs.declared.change.Change.{Change}
use Rattle.sn_rows.specs.declared.device_rows.OwnerRow.{OwnerRow}
use Rattle.sn_rows.specs.declared.key.Key.TheVariants as key
use Rattle.sn_rows.specs.declared.key.Slot.TheVariants.{Asked}
use Rattle.sn_rows.specs.declared.server_rows.AccountRow.{AccountRow}
use Rattle.sn_rows.specs.declared.server_rows.StoreRow.{StoreRow}
use Rattle.sn_rows.specs.declared.value.Value.TheVariants as value
use Rattle.sn_string.specs.declared.params.KeySet.{KeySet}
use Rattle.sn_sync.specs.Laws.{HasOneToken}
use Rattle.sn_sync.specs.declared.answer.Answer.{Answer}
use Rattle.sn_sync.specs.declared.answer.Answer.TheVariants as answer
use Rattle.sn_sync.specs.declared.request.Request.{Request}
use Rattle.sn_world.proofs.Facts.{RoundServed, is_answered, over_round, split}
use Rattle.sn_world.specs.Calls.{AreServed, Fate, begins_none, rows_behind, rows_served, served}

-- ---- the change

-- the account's next set
module _ (server : Rows) (store : StoreRow) (n : ℕ) (a : AccountRow) (pw : Bytes) (cost : ℕ) (nonce : Bytes) (changes : List Change) (given : Answer)
    (has : server key.Store ≡ Some (value.Store store)) (r : Replaces store n a pw cost nonce changes given) where
  next_session : IsSession (rows_after server changes) (session_token store.secret n (suc a.generation)) n
  next_session = record {
    store = store;
    stands = ap (λ (cs : List Change). rows_after server cs key.Store) r.changes_are
        ∙ neither_put server r.account r.generation (key.Account n) (key.Generation n (suc a.generation)) key.Store (value.Account r.account_puts.row)
        (value.Generation r.generation_puts.row) r.account_puts.puts r.generation_puts.puts (λ e. cc) (λ e. cc)
        ∙ has;
    account = r.account_puts.row;
    there = ap (λ (cs : List Change). rows_after server cs (key.Account n)) r.changes_are
        ∙ first_put server r.account r.generation (key.Account n) (key.Generation n (suc a.generation)) (value.Account r.account_puts.row)
        (value.Generation r.generation_puts.row) r.account_puts.puts r.generation_puts.puts (λ e. cc);
    is = ap (λ (g : ℕ). session_token store.secret n g) (sym r.account_puts.generation_is);
  }

  item_stays : (uuid : Bytes) → rows_after server changes (key.Item uuid) ≡ server (key.Item uuid)
  item_stays uuid = ap (λ (cs : List Change). rows_after server cs (key.Item uuid)) r.changes_are
      ∙ neither_put server r.account r.generation (key.Account n) (key.Generation n (suc a.generation)) (key.Item uuid) (value.Account r.account_puts.row)
      (value.Generation r.generation_puts.row) r.account_puts.puts r.generation_puts.puts (λ e. cc) (λ e. cc)

-- a set that is asked for leaves the device's own row
owner_stays : (rows : Rows) (set : KeySet) (kept : List Change) → Asks rows set kept → rows_after rows kept key.Owner ≡ rows key.Owner
owner_stays rows set kept a =
    ap (λ (cs : List Change). rows_after rows cs key.Owner) a.changes_are
    ∙ put_elsewhere rows a.change (key.Set Asked) key.Owner (value.Set a.put.keys) a.put.puts (λ e. cc)

pub change_whole : HasOneAccount → WholeChanges
change_whole one server rows owner sets set words left rest kept adoption now changes token identifier uuid sound whole holds keeps
    (store, has, inl (none, refused)) adopts_it = absurd (let e = refused.1 in cc)
change_whole one server rows owner sets set words left rest kept adoption now changes token identifier uuid sound whole holds keeps
    (store, has, inr (inl (n, a, session, there, differs, refused))) adopts_it = absurd (let e = refused.1 in cc)
change_whole one server rows owner sets set words left rest kept adoption now changes token identifier uuid sound whole holds keeps
    (store, has, inr (inr (n, a, present, session, there, check, is_present, inl (other, least, refused)))) adopts_it = absurd (let e = refused.1 in cc)
change_whole one server rows owner sets set words left rest kept adoption now changes token identifier uuid sound whole holds keeps
    (store, has, inr (inr (n, a, present, session, there, check, is_present, inr (inl (none, used, refused))))) adopts_it =
    absurd (let e = refused.1 in cc)
change_whole one server rows owner sets set words left rest kept adoption now changes token identifier uuid sound whole holds keeps
    (store, has, inr (inr (n, a, present, session, there, check, is_present, inr (inr (inl (none, unused, all, refused)))))) adopts_it =
    absurd (let e = refused.1 in cc)
change_whole one server rows owner sets set words left rest kept adoption now changes token identifier uuid sound whole holds keeps
    (store, has, inr (inr (n, a, present, session, there, check, is_present, inr (inr (inr (none, unused, few, r)))))) adopts_it =
    let d = adopted (rows_after rows kept) left rest set token adoption adopts_it in
    let same : whole.owner ≡ owner = one_owner rows whole.owner owner whole.owned holds.owned in
    let own : adopts_it.owner ≡ whole.owner =
    one_owner rows adopts_it.owner whole.owner (sym (owner_stays rows set kept keeps.0) ∙ adopts_it.holds.owned) whole.owned in
    let columns = d.columns_are in
    let sync_is : d.later.sync_token ≡ whole.owner.sync_token =
    ap (λ (c : OwnerColumns). c.sync_token) columns ∙ ap (λ (o : OwnerRow). o.sync_token) own in
    let cursor_is : d.later.cursor_token ≡ whole.owner.cursor_token =
    ap (λ (c : OwnerColumns). c.cursor_token) columns ∙ ap (λ (o : OwnerRow). o.cursor_token) own in
    let answered : answer.Account token identifier uuid
    ≡ answer.Account (session_token store.secret n (suc a.generation)) a.identifier (account_uuid n) = r.answers in
    let token_is : d.later.token ≡ session_token store.secret n (suc a.generation) =
    ap (λ (c : OwnerColumns). c.token) columns ∙ (let e : token ≡ session_token store.secret n (suc a.generation) = cc in e) in
    let number : n ≡ whole.number =
    one server owner.token n whole.number sound session (subst (λ (o : OwnerRow). IsSession server o.token whole.number) same whole.session) in
    record {
      owner = d.later;
      owned = d.owned;
      number = n;
      session = subst (λ (t : Bytes). IsSession (rows_after server changes) t n) (sym token_is)
          (next_session server store n a set.pw set.params.pw_cost set.params.pw_nonce changes (answer.Account token identifier uuid) has r);
      no_cursor = ap token_of cursor_is ∙ whole.no_cursor;
      text = whole.text;
      token_is = ap token_of sync_is ∙ whole.token_is;
      stamp = whole.stamp;
      stamped = whole.stamped;
      all = λ u row found of. whole.all u row
          (sym (item_stays server store n a set.pw set.params.pw_cost set.params.pw_nonce changes (answer.Account token identifier uuid) has r u) ∙ found)
          (of ∙ number);
    }

-- ---- the last answer

-- the last answer, where there is one, leaves no page
abbrev pub LeavesNoPage : Option Answer → Type 0
LeavesNoPage None = ⊥
LeavesNoPage (Some given) = IsLastPage given

pub done_leaves : (rows : Rows) (last : Option Answer) → IsDone rows last → LeavesNoPage last
done_leaves rows None done = done
done_leaves rows (Some (answer.Sync conflicts cursor retrieved saved token)) done = done.0
done_leaves rows (Some (answer.Account token identifier uuid)) done = done
done_leaves rows (Some (answer.Params params)) done = done
done_leaves rows (Some (answer.Refused status tag more)) done = done

-- ---- a request that is heard

asked_served : (server : Rows) (r : Request) (given : Answer) (acts : List Act) (fates : List Fate) → AreServed server (asked r (said given) ∷ acts) fates
    → RoundServed server r given acts fates
asked_served server r given acts [] over = absurd over
asked_served server r given acts (fate ∷ fates) (one, others) =
    let a = is_answered server r given (said given) fate refl one in
    record {
      now = a.now;
      changes = a.changes;
      later = fates;
      fates_are = ap (λ (f : Fate). f ∷ fates) a.fate_is;
      fits = a.fits;
      rule = a.rule;
      over = subst (λ (f : Fate). AreServed (rows_behind server f) acts fates) a.fate_is others;
    }

-- the change is made and adopted: the device has all versions with what that leaves
pub record Makes (server rows : Rows) (later : List Act) (fates : List Fate) : Type 0 where
  pub now : ℕ
  pub changes : List Change
  pub given : Answer
  pub others : List Fate
  pub fates_are : fates ≡ served now changes given true ∷ others
  pub sound : IsSoundServer (rows_after server changes)
  pub whole : HasWhole (rows_after server changes) rows
  pub over : AreServed (rows_after server changes) later others

-- ---- a row of exchanges

module _ (one_account : HasOneAccount) (one_token : HasOneToken) (stays : StaysSound) where
  -- where its last answer leaves no page, the device has all versions behind it
  pub row_whole : (rounds : List Round) (at after : Standing) (server : Rows) (met : List Fate) → IsSoundServer server
      → (LeavesNoPage at.last → HasWhole server at.rows) → AreRounds at rounds after → AreServed server (flat_map acts_of rounds) met
      → IsSoundServer (rows_served server met) × (LeavesNoPage after.last → HasWhole (rows_served server met) after.rows)
  row_whole [] at after server met sound whole is over =
      subst (λ (fs : List Fate). IsSoundServer (rows_served server fs) × (LeavesNoPage after.last → HasWhole (rows_served server fs) after.rows)) (sym over)
      (sound, subst (λ (z : Standing). LeavesNoPage z.last → HasWhole server z.rows) (sym is) whole)
  row_whole (round ∷ rounds) at after server met sound whole (between, is, rest) over =
      let a : RoundServed server round.request round.given (flat_map acts_of rounds) met =
      over_round server round.numbers round.posted round.request round.given round.applied (flat_map acts_of rounds) met over in
      let begins : LeavesNoPage between.last → HasWhole (rows_after server a.changes) between.rows =
      λ last. exchange_begins server at between round a.now a.changes is a.rule
      (subst (λ (z : Standing). LeavesNoPage z.last) is.after_is last) in
      let x = row_whole rounds between after (rows_after server a.changes) a.later
      (stays server round.request a.now a.changes round.given sound a.fits a.rule) begins rest a.over in
      subst (λ (fs : List Fate). IsSoundServer (rows_served server fs) × (LeavesNoPage after.last → HasWhole (rows_served server fs) after.rows))
      (sym a.fates_are) x

  -- where it has them before, each exchange retrieves nothing, and it has them behind all
  pub row_retrieves : (rounds : List Round) (at after : Standing) (server : Rows) (met : List Fate) → IsSoundServer server → HasWhole server at.rows
      → AreRounds at rounds after → AreServed server (flat_map acts_of rounds) met
      → Each (λ (round : Round). RetrievesNothing round.given) rounds × IsSoundServer (rows_served server met) × HasWhole (rows_served server met) after.rows
  row_retrieves [] at after server met sound whole is over = (
    tt,
    subst (λ (fs : List Fate). IsSoundServer (rows_served server fs)) (sym over) sound,
    subst (λ (fs : List Fate). HasWhole (rows_served server fs) after.rows) (sym over) (subst (λ (z : Standing). HasWhole server z.rows) (sym is) whole),
  )
  row_retrieves (round ∷ rounds) at after server met sound whole (between, is, rest) over =
      let a : RoundServed server round.request round.given (flat_map acts_of rounds) met =
      over_round server round.numbers round.posted round.request round.given round.applied (flat_map acts_of rounds) met over in
      let one = exchange_stays one_account one_token server at between round a.now a.changes sound whole is a.rule in
      let x = row_retrieves rounds between after (rows_after server a.changes) a.later
      (stays server round.request a.now a.changes round.given sound a.fits a.rule) one.1 rest a.over in (
        (one.0, x.0),
        subst (λ (fs : List Fate). IsSoundServer (rows_served server fs)) (sym a.fates_are) x.1,
        subst (λ (fs : List Fate). HasWhole (rows_served server fs) after.rows) (sym a.fates_are) x.2,
      )

  -- ---- the change and the call

  pub change_makes : (password : Bytes) (cost : ℕ) (at : Standing) (acts : List Act) (m : MakesIt password cost at acts) (server : Rows) (fates : List Fate)
      → IsSoundServer server → HasWhole server at.rows → AreServed server acts fates
      → Makes server (rows_after (rows_after at.rows m.change.kept) m.adopted) m.change.later fates
  change_makes password cost at acts m server fates sound whole over =
      let c = m.change in
      let r : Request = change_to c.owner c.sets.present c.set in
      let a = asked_served server r c.given c.later fates (subst (λ (xs : List Act). AreServed server xs fates) c.acts_are over) in
      record {
        now = a.now;
        changes = a.changes;
        given = c.given;
        others = a.later;
        fates_are = a.fates_are;
        sound = stays server r a.now a.changes c.given sound a.fits a.rule;
        whole = change_whole one_account server at.rows c.owner c.sets c.set c.left c.left m.left c.kept m.adopted a.now a.changes m.token m.identifier m.uuid
            sound whole c.holds c.keeps
            (subst (λ (g : Answer). Rule server r a.now a.changes g) m.given_is a.rule) m.step;
        over = a.over;
      }

  pub second_whole : SecondWhole
  second_whole server rows words password cost acts fates halt sound over x c =
      let b = x.first.behind in
      let s = split [] begins_none server (flat_map acts_of b.rounds) b.later fates (subst (λ (xs : List Act). AreServed server xs fates) b.acts_are over) in
      let first = row_whole b.rounds (record { rows = rows; words = words; last = None }) b.at server s.met sound (λ none. absurd none) b.went s.over in
      let m = change_makes password cost b.at b.later c.is_made.makes (rows_served server s.met) s.others first.0
      (first.1 (done_leaves b.at.rows b.at.last x.first.done)) s.later_over in
      let d = c.second.behind in
      let later_over : AreServed (rows_after (rows_served server s.met) m.changes) (flat_map acts_of d.rounds) m.others =
      subst (λ (xs : List Act). AreServed (rows_after (rows_served server s.met) m.changes) xs m.others)
      (d.acts_are ∙ ap (λ (xs : List Act). flat_map acts_of d.rounds ++ xs) c.no_more ∙ append-nil (flat_map acts_of d.rounds))
      (subst (λ (xs : List Act). AreServed (rows_after (rows_served server s.met) m.changes) xs m.others) c.is_made.later_is m.over) in
      (row_retrieves d.rounds _ d.at (rows_after (rows_served server s.met) m.changes) m.others m.sound m.whole d.went later_over).0

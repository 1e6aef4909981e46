-- An exchange of a device that has all versions of its account and no draft, whose answer has no page: what it sent waits no more, all else waits still,
-- and the device has all versions again.
use Rattle.std.proofs.Common.{◌≡◌, ◌⊎◌, ◌<◌, ℕ, List, [], ◌∷◌, ◌++◌, map, Option, Some, None, refl, sym, ap, ◌∙◌, subst, inl, inr, ⊎_elim, arith}
use Rattle.std.proofs.lemmas.List.{append-nil}
use Rattle.std.proofs.lemmas.List.Elements.{Contains-append_cases, Contains-append_left, Contains-append_right}
use Rattle.std.specs.List.{AllZip, Contains}
use Rattle.std.specs.Prelude.{IsSome}
use Rattle.sn_account.specs.Rule.{Rule}
use Rattle.sn_account.specs.Rules.{IsPresent}
use Rattle.sn_account.specs.Sessions.{IsSession}
use Rattle.sn_account.specs.Syncs.{start as before_first}
use Rattle.sn_account.specs.Sound.{IsSound as IsSoundServer}
use Rattle.sn_account.specs.Tells.{AreApart}
use Rattle.sn_bound.proofs.AllSaved.{AreSaved, IsAsSent, NamesLast, all_saved}
use Rattle.sn_bound.proofs.SavedTaken.{AreTaken, HasClean, IsAnswered, all_taken}
use Rattle.sn_bound.proofs.SentNamed.{NoneDrafted, is_clean, names_last}
use Rattle.sn_bound.specs.Whole.{HasWhole, RetrievesNothing, WholeStays}
use Rattle.sn_bound.proofs.WaitingLists.{front_lower, later_rising, uuids_saved}
use Rattle.sn_device.proofs.Facts.{item_after, item_kept, applied_leads, apply_parts}
use Rattle.sn_device.specs.Runs.{IsRound, Round, Standing, items_of}
use Rattle.sn_device.specs.Sending.{AreSentAs, AreUnsent, AreWaiting, IsSentAs, IsWaiting, Numbered, PostsAll}
use Rattle.sn_device.specs.States.{Bytes, HasLocal, HasSets, IsSound, IsSoundItem, columns, token_of}
use Rattle.sn_device.specs.Steps.{Applies, AppliesAnswer, AppliesTo, start}
use Rattle.sn_device.specs.Taking.{TakesAll, Told, is_saved, told_by}
use Rattle.sn_conflict.specs.Checks.{most_retrieved}
use Rattle.sn_laws.specs.Each.{Each}
use Rattle.sn_laws.specs.Runs.{end_from}
use Rattle.sn_laws.specs.declared.ideal.Ideal.{Ideal}
use Rattle.sn_ready.proofs.LastKept.{round_last}
use Rattle.sn_ready.specs.Ready.{HoldsLast}
use Rattle.sn_rows.specs.Table.{Rows, rows_after}
use Rattle.sn_rows.specs.declared.body.RowBody.{RowBody}
use Rattle.sn_rows.specs.declared.change.Change.{Change}
use Rattle.sn_rows.specs.declared.device_rows.LocalItem.{LocalItem}
use Rattle.sn_rows.specs.declared.device_rows.OwnerRow.{OwnerRow}
use Rattle.sn_rows.specs.declared.key.Key.TheVariants as key
use Rattle.sn_string.specs.declared.params.Params.{Params}
use Rattle.sn_sync.specs.Fits.{FitsRequest}
use Rattle.sn_sync.specs.Versions.{uuids}
use Rattle.sn_sync.specs.declared.answer.Answer.{Answer}
use Rattle.sn_sync.specs.declared.answer.Answer.TheVariants as answer
use Rattle.sn_sync.specs.declared.answer.Conflict.{Conflict}
use Rattle.sn_sync.specs.declared.item.Item.{Item}
use Rattle.sn_sync.specs.declared.request.Request.{Request}
use Rattle.sn_sync.specs.declared.request.Request.TheVariants as request
use Rattle.sn_world.proofs.AnswerLists.{image, of_map}
use Rattle.sn_world.proofs.CallLemmas.{Stands, stands_then}
use Rattle.sn_world.proofs.DeviceRows.{one_owner}
use Rattle.sn_world.proofs.Lists.{each_contained}
use Rattle.sn_world.proofs.RoundLemmas.{RoundLaws, rounds_go, sent_of}
use Rattle.sn_world.specs.Calls.{Leads}
use Rattle.sn_world.specs.Holds.{TokensDiffer}
use Rattle.sn_world.specs.Laws.{Keeps, SaysSome, SyncedRows}
use Rattle.sn_world.specs.Making.{SendsAgain}
use Rattle.sn_world.specs.Rounds.{round_steps}
use Rattle.sn_world.specs.World.{World}

-- ---- the answer

-- whose account a sync is of that is answered by the rule, and what becomes of items that name its last versions
served_sync : (server : Rows) (token : Bytes) (items : List Item) (limit : ℕ) (st ct : Option Bytes) (now : ℕ) (changes : List Change)
    (conflicts : List Conflict) (cursor : Option Bytes) (retrieved saved : List Item) (next : Bytes)
    → Rule server (request.Sync token items limit st ct) now changes (answer.Sync conflicts cursor retrieved saved next)
    → (n : ℕ) × (present : Params) × IsSession server token n × IsPresent server n present
    × (AreApart (uuids items) → Each (NamesLast server n present) items → (conflicts ≡ []) × AllZip IsAsSent items saved)
served_sync server token items limit st ct now changes conflicts cursor retrieved saved next (store, stands, inl (none, refused)) =
    absurd (let e = refused.1 in cc)
served_sync server token items limit st ct now changes conflicts cursor retrieved saved next (store, stands, inr (n, own, inl (bad, refused))) =
    absurd (let e = refused.1 in cc)
served_sync server token items limit st ct now changes conflicts cursor retrieved saved next
    (store, stands, inr (n, own, inr (inl (sync, is, bad, refused)))) =
    absurd (let e = refused.1 in cc)
served_sync server token items limit st ct now changes conflicts cursor retrieved saved next
    (store, stands, inr (n, own, inr (inr (sync, from, is, at, inl (many, refused))))) =
    absurd (let e = refused.1 in cc)
served_sync server token items limit st ct now changes conflicts cursor retrieved saved next
    (store, stands, inr (n, own, inr (inr (sync, from, is, at, inr (inl (few, uuid, size, long, refused)))))) =
    absurd (let e = refused.1 in cc)
served_sync server token items limit st ct now changes conflicts cursor retrieved saved next
    (store, stands, inr (n, own, inr (inr (sync, from, is, at, inr (inr (few, none, (present, present_is, inl (out, refused)))))))) =
    absurd (let e = refused.1 in cc)
served_sync server token items limit st ct now changes conflicts cursor retrieved saved next
    (store, stands, inr (n, own, inr (inr (sync, from, is, at, inr (inr (few, none, (present, present_is, inr x))))))) = (
      n,
      present,
      own,
      present_is,
      λ apart named.
          let all : AreSaved (before_first server store) items x.end =
          all_saved present now n items (before_first server store) x.end apart named (omega arith) x.taken in
          let e = x.answers in
          let conflicts_are : x.end.conflicts ≡ conflicts = cc in
          let saved_are : x.end.saved ≡ saved = cc in
          (sym conflicts_are ∙ all.no_more, subst (λ (xs : List Item). AllZip IsAsSent items xs) (sym all.saved_is ∙ saved_are) all.as_sent),
    )

-- ---- what is posted and sent

posted_none : (rows : Rows) (posted : List Change) → PostsAll rows [] posted → posted ≡ []
posted_none rows [] all = refl
posted_none rows (c ∷ cs) all = absurd all

no_body : IsSome {T = RowBody} None → ⊥
no_body some = absurd (cc)

some_not : (found : Option RowBody) → IsSome found → found ≡ None → ⊥
some_not found some none = no_body (subst (λ (o : Option RowBody). IsSome o) none some)

none_unsent : (chosen : List Numbered) (numbers : List ℕ) → Each (λ (w : Numbered). w.1.latest ≡ None) chosen → AreUnsent chosen numbers → numbers ≡ []
none_unsent [] numbers clean none = none
none_unsent (w ∷ chosen) numbers clean (inl (unsent, rest)) = absurd (some_not w.1.latest unsent.0 clean.0)
none_unsent (w ∷ chosen) numbers clean (inr (sent, rest)) = none_unsent chosen numbers clean.1 rest

is_some : (found : Option RowBody) → (IsSome found → ⊥) → found ≡ None
is_some None none = refl
is_some (Some b) none = absurd (none refl)

-- of a row without a draft what waits is sent again
sends_again : (rows : Rows) → IsSound rows → NoneDrafted rows → (number : ℕ) (local : LocalItem) (i : Item) → HasLocal rows number local → IsWaiting local
    → IsSentAs local i → SendsAgain local i
sends_again rows sound clean number local i stands waits as_it =
    let none : local.latest ≡ None = clean number local stands in
    let item : IsSoundItem (columns local) = sound.locals.items number local stands in (
      as_it,
      ⊎_elim (λ some. absurd (some_not local.latest some none)) (λ stale. stale) waits,
      none,
      is_some local.posted (λ some. some_not local.latest (item.sent some) none),
    )

each_sent : (rows : Rows) (P : Item → Type 0) (chosen : List Numbered) (items : List Item)
    → ((w : Numbered) (i : Item) → HasLocal rows w.0 w.1 → IsWaiting w.1 → IsSentAs w.1 i → P i)
    → Each (λ (w : Numbered). HasLocal rows w.0 w.1 × IsWaiting w.1) chosen → AreSentAs chosen items → Each P items
each_sent rows P [] [] so waits sent = tt
each_sent rows P [] (i ∷ items) so waits sent = absurd sent
each_sent rows P (w ∷ chosen) [] so waits sent = absurd sent
each_sent rows P (w ∷ chosen) (i ∷ items) so waits sent =
    (so w i waits.0.0 waits.0.1 sent.0, each_sent rows P chosen items so waits.1 sent.1)

-- and what is saved of it
each_saved : (rows : Rows) (P : Item → Type 0) (chosen : List Numbered) (items saved : List Item)
    → ((w : Numbered) (i j : Item) → HasLocal rows w.0 w.1 → IsWaiting w.1 → IsSentAs w.1 i → IsAsSent i j → P j)
    → Each (λ (w : Numbered). HasLocal rows w.0 w.1 × IsWaiting w.1) chosen → AreSentAs chosen items → AllZip IsAsSent items saved → Each P saved
each_saved rows P [] [] [] so waits sent as_sent = tt
each_saved rows P [] [] (j ∷ saved) so waits sent as_sent = absurd as_sent
each_saved rows P [] (i ∷ items) saved so waits sent as_sent = absurd sent
each_saved rows P (w ∷ chosen) [] saved so waits sent as_sent = absurd sent
each_saved rows P (w ∷ chosen) (i ∷ items) [] so waits sent as_sent = absurd as_sent
each_saved rows P (w ∷ chosen) (i ∷ items) (j ∷ saved) so waits sent as_sent =
    (so w i j waits.0.0 waits.0.1 sent.0 as_sent.0, each_saved rows P chosen items saved so waits.1 sent.1 as_sent.1)

-- ---- what waits behind it

module _ (rows after : Rows) (sound : IsSound rows) (chosen later : List Numbered) (all : AreWaiting rows (chosen ++ later)) (saved : List Item)
    (uuids_are : map (λ (w : Numbered). w.1.uuid) chosen ≡ uuids saved) (taken : AreTaken rows saved after) where
  unsaved : (n : ℕ) (local : LocalItem) → Contains later (n, local) → HasLocal rows n local → ¬ (Contains (uuids saved) local.uuid)
  unsaved n local behind stands has =
      let w = of_map (λ (w : Numbered). w.1.uuid) chosen local.uuid (subst (λ (us : List Bytes). Contains us local.uuid) (sym uuids_are) has) in
      let there = (all.whole w.0.0 w.0.1).0 (Contains-append_left chosen later w.0 w.1) in
      let same : w.0.0 ≡ n = sound.locals.apart w.0.0 n w.0.1 local there.0 stands w.2 in
      let lower : w.0.0 < n = front_lower chosen later w.0 (n, local) all.rising w.1 behind in
      absurd (omega arith)

  answered_not : (local : LocalItem) → IsAnswered local → ¬ (IsWaiting local)
  answered_not local answered (inl some) = some_not local.latest some answered.0
  answered_not local answered (inr stale) = absurd (let fresh = answered.1 in cc)

  still : (n : ℕ) (local : LocalItem) → Contains later (n, local) → HasLocal after n local × IsWaiting local
  still n local behind =
      let there = (all.whole n local).0 (Contains-append_right chosen later (n, local) behind) in
      (taken.kept n local there.0 (unsaved n local behind there.0), there.1)

  waits_still : (n : ℕ) (local : LocalItem) → HasLocal after n local × IsWaiting local → Contains later (n, local)
  waits_still n local (stands, waits) = by (taken.from n local stands)
    where
      by : (HasLocal rows n local × ¬ (Contains (uuids saved) local.uuid)) ⊎ IsAnswered local → Contains later (n, local)
      by (inr answered) = absurd (answered_not local answered waits)
      by (inl (there, none)) =
          ⊎_elim
          (λ among. absurd (none (subst (λ (us : List Bytes). Contains us local.uuid) uuids_are (image (λ (w : Numbered). w.1.uuid) chosen (n, local) among))))
          (λ behind. behind) (Contains-append_cases chosen later (n, local) ((all.whole n local).1 (there, waits)))

  pub later_waits : AreWaiting after later
  later_waits = record { rising = later_rising chosen later all.rising; whole = λ n local. (still n local, waits_still n local) }

-- ---- the exchange

-- the device has all versions of its account and no draft, and holds the account's last set
pub record HasAllAt (secret : Bytes) (name : Bytes) (v : World) (t : Ideal) (server rows : Rows) : Type 0 where
  pub stands : Stands secret name v t server rows
  pub last : HoldsLast t name
  pub clean : NoneDrafted rows
  pub whole : HasWhole server rows

module _ (laws : RoundLaws) (stays : WholeStays) (keeps : Keeps) (says : SaysSome) (synced : SyncedRows) (secret : Bytes) (differ : TokensDiffer secret)
    (name : Bytes) where
  -- behind it so it is again, and of what waited only what wasn't chosen waits
  pub record IsBehindOne (server : Rows) (after : Standing) (later : List Numbered) : Type 0 where
    pub world : World
    pub ideal : Ideal
    pub has_all : HasAllAt secret name world ideal server after.rows
    pub wait : AreWaiting after.rows later

  module _ (v : World) (t : Ideal) (server : Rows) (at after : Standing) (round : Round) (k : HasAllAt secret name v t server at.rows)
      (x : IsRound at round after) (now : ℕ) (changes : List Change) (fits : FitsRequest round.request)
      (rule : Rule server round.request now changes round.given) where
    abbrev chosen : List Numbered
    chosen = x.sends.chosen

    abbrev items : List Item
    items = x.sends.request_is.items

    sound : IsSound at.rows
    sound = subst IsSound k.stands.device_is (k.stands.holds.sound name)

    waits : Each (λ (w : Numbered). HasLocal at.rows w.0 w.1 × IsWaiting w.1) chosen
    waits =
        each_contained (λ (w : Numbered). HasLocal at.rows w.0 w.1 × IsWaiting w.1) chosen
        (λ w has. (x.sends.chosen_are.all.whole w.0 w.1).0 (Contains-append_left chosen x.sends.later w has))

    ready_is : x.ready ≡ at.rows
    ready_is =
        let numbers : round.numbers ≡ [] =
        none_unsent chosen round.numbers
        (each_contained (λ (w : Numbered). w.1.latest ≡ None) chosen
        (λ w has. k.clean w.0 w.1 ((x.sends.chosen_are.all.whole w.0 w.1).0 (Contains-append_left chosen x.sends.later w has)).0)) x.sends.unsent in
        let posted : round.posted ≡ [] =
        posted_none at.rows round.posted (subst (λ (ns : List ℕ). PostsAll at.rows ns round.posted) numbers x.sends.posts_them) in
        x.sends.ready_is ∙ ap (rows_after at.rows) posted

    apart : AreApart (uuids items)
    apart =
        subst (λ (r : Request). AreApart (uuids (items_of r))) x.sends.request_is.request_is
        (sent_of laws.sends secret v t name at.rows k.stands.holds k.stands.device_is round.numbers round.posted round.request x.ready x.sends).2

    sound_server : IsSoundServer server
    sound_server =
        subst IsSoundServer k.stands.server_is
        (k.stands.holds.server_sound k.whole.session.store
        (ap (λ (rows : Rows). rows key.Store) k.stands.server_is ∙ k.whole.session.stands))

    pub still_whole : RetrievesNothing round.given × HasWhole (rows_after server changes) after.rows
    still_whole = stays server at after round now changes sound_server k.whole x rule

    abbrev sync : Request
    sync = request.Sync x.sends.owner.token items most_retrieved (token_of x.sends.owner.sync_token) (token_of x.sends.owner.cursor_token)

    module _ (conflicts : List Conflict) (saved : List Item) (token : Bytes) (given_is : round.given ≡ answer.Sync conflicts None [] saved token) where
      abbrev given : Answer
      given = answer.Sync conflicts None [] saved token

      told : (n : ℕ) × (present : Params) × IsSession server x.sends.owner.token n × IsPresent server n present
          × (AreApart (uuids items) → Each (NamesLast server n present) items → (conflicts ≡ []) × AllZip IsAsSent items saved)
      told =
          served_sync server x.sends.owner.token items most_retrieved (token_of x.sends.owner.sync_token) (token_of x.sends.owner.cursor_token) now changes
          conflicts None [] saved token
          (subst (λ (g : Answer). Rule server sync now changes g) given_is
          (subst (λ (r : Request). Rule server r now changes round.given) x.sends.request_is.request_is rule))

      z : Applies at.rows at.words items conflicts None [] saved token round.applied x.left
      z =
          subst (λ (rows : Rows). Applies rows at.words items conflicts None [] saved token round.applied x.left) ready_is
          (subst (λ (g : Answer). AppliesAnswer x.ready at.words items g round.applied x.left) given_is
          (subst (λ (r : Request). AppliesTo x.ready at.words r round.given round.applied x.left) x.sends.request_is.request_is x.step))

      holds : HasSets (v.devices name) x.sends.owner z.sets
      holds =
          subst (λ (rows : Rows). HasSets rows x.sends.owner z.sets) (sym k.stands.device_is)
          (subst (λ (o : OwnerRow). HasSets at.rows o z.sets)
          (one_owner z.owner x.sends.owner (at.rows key.Owner) z.holds.owned x.sends.owned) z.holds)

      there : (number : ℕ) (local : LocalItem) → HasLocal at.rows number local → HasLocal (v.devices name) number local
      there number local stands = ap (λ (rows : Rows). rows (key.Local number)) k.stands.device_is ∙ stands

      clean_there : NoneDrafted (v.devices name)
      clean_there = subst NoneDrafted (sym k.stands.device_is) k.clean

      whole_there : HasWhole v.server (v.devices name)
      whole_there =
          subst (λ (rows : Rows). HasWhole v.server rows) (sym k.stands.device_is)
          (subst (λ (rows : Rows). HasWhole rows at.rows) (sym k.stands.server_is) k.whole)

      again : (w : Numbered) (i : Item) → HasLocal at.rows w.0 w.1 → IsWaiting w.1 → IsSentAs w.1 i → SendsAgain w.1 i
      again w i stands waiting as_it = sends_again at.rows sound k.clean w.0 w.1 i stands waiting as_it

      done : (conflicts ≡ []) × AllZip IsAsSent items saved
      done =
          told.4 apart
          (each_sent at.rows (NamesLast server told.0 told.1) chosen items
          (λ w i stands waiting as_it.
          subst (λ (rows : Rows). NamesLast rows told.0 told.1 i) k.stands.server_is
          (names_last laws.apart synced secret v t k.stands.holds name x.sends.owner z.sets holds clean_there whole_there k.last w.0 w.1 i
          (there w.0 w.1 stands) (again w i stands waiting as_it) told.0
          (subst (λ (rows : Rows). IsSession rows x.sends.owner.token told.0) (sym k.stands.server_is) told.2) told.1
          (subst (λ (rows : Rows). IsPresent rows told.0 told.1) (sym k.stands.server_is) told.3))) waits x.sends.request_is.items_are)

      clean_saved : Each (HasClean z.sets at.rows) saved
      clean_saved =
          each_saved at.rows (HasClean z.sets at.rows) chosen items saved
          (λ w i j stands waiting as_it as_sent.
          subst (λ (rows : Rows). HasClean z.sets rows j) k.stands.device_is
          (is_clean laws.apart synced secret v t k.stands.holds name x.sends.owner z.sets holds clean_there whole_there k.last w.0 w.1 i
          (there w.0 w.1 stands) (again w i stands waiting as_it) j as_sent)) waits x.sends.request_is.items_are done.1

      taken : AreTaken at.rows saved z.end.rows
      taken =
          all_taken z.sets saved saved (start at.rows z.owner at.words) z.end sound.locals.apart clean_saved
          (subst (λ (ts : List Told). TakesAll z.sets saved (start at.rows z.owner at.words) ts z.end)
          (ap (λ (cs : List Conflict). told_by saved cs []) done.0 ∙ append-nil (map is_saved saved)) z.taken)

      -- the rows of items behind it
      after_is : after.rows ≡ rows_after at.rows round.applied
      after_is = ap (λ (s : Standing). s.rows) x.after_is ∙ ap (λ (rows : Rows). rows_after rows round.applied) ready_is

      end_is : z.end.rows ≡ rows_after at.rows z.end.changes
      end_is = (applied_leads at.rows at.words x.left items conflicts None [] saved token round.applied z).rows_are

      taken_after : AreTaken at.rows saved after.rows
      taken_after =
          subst (λ (rows : Rows). AreTaken at.rows saved rows) (sym after_is)
          (record {
            kept = λ n local stands none.
                item_kept at.rows round.applied (apply_parts at.rows at.words x.left items conflicts None [] saved token round.applied z) n local
                (ap (λ (rows : Rows). rows (key.Local n)) (sym end_is) ∙ taken.kept n local stands none);
            from = λ n local found.
                taken.from n local
                (ap (λ (rows : Rows). rows (key.Local n)) end_is
                ∙ item_after at.rows round.applied (apply_parts at.rows at.words x.left items conflicts None [] saved token round.applied z) n local found);
          })

      clean_after : NoneDrafted after.rows
      clean_after n local stands =
          ⊎_elim (λ (old : HasLocal at.rows n local × ¬ (Contains (uuids saved) local.uuid)). k.clean n local old.0)
          (λ (answered : IsAnswered local). answered.0) (taken_after.from n local stands)

      -- ---- the world behind it

      one : Leads secret v t name (round_steps name round now changes) (rows_after server changes) after.rows
      one =
          let g = rounds_go laws secret v t name at round after now changes differ k.stands.holds fits k.stands.device_is x
          (subst (λ (rows : Rows). Rule rows round.request now changes round.given) (sym k.stands.server_is) rule) in
          record {
            moves = g.moves;
            next = g.next;
            goes = g.goes;
            server_is = g.server ∙ ap (λ (rows : Rows). rows_after rows changes) k.stands.server_is;
            device_is = g.device;
          }

      behind_one : IsBehindOne (rows_after server changes) after x.sends.later
      behind_one = record {
        world = one.next;
        ideal = end_from t one.moves;
        has_all = record {
          stands = stands_then keeps says secret differ name v t (round_steps name round now changes) (rows_after server changes) after.rows k.stands.holds one;
          last = round_last keeps laws.apart secret differ name round now changes one.moves v one.next t k.stands.holds one.goes;
          clean = clean_after;
          whole = still_whole.1;
        };
        wait = later_waits at.rows after.rows sound chosen x.sends.later x.sends.chosen_are.all saved
            (uuids_saved chosen items saved x.sends.request_is.items_are done.1) taken_after;
      }

    pub one_exchange : IsBehindOne (rows_after server changes) after x.sends.later
    one_exchange = by round.given refl still_whole.0
      where
        by : (given : Answer) → round.given ≡ given → RetrievesNothing given → IsBehindOne (rows_after server changes) after x.sends.later
        by (answer.Sync conflicts cursor retrieved saved token) is (no_cursor, no_page) =
            behind_one conflicts saved token
            (is ∙ ap (λ (c : Option Bytes). answer.Sync conflicts c retrieved saved token) no_cursor
            ∙ ap (λ (r : List Item). answer.Sync conflicts None r saved token) no_page)
        by (answer.Account token identifier uuid) is none = absurd none
        by (answer.Params params) is none = absurd none
        by (answer.Refused status tag more) is none = absurd none

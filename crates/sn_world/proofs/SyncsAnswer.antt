-- A sync is answered, or ends by one of the causes that are named.
use Rattle.std.proofs.Common.{◌≡◌, ◌≤◌, ℕ, List, [], ◌∷◌, ◌++◌, length, Option, None, true, false, codes, refl, sym, ap, ◌∙◌, subst, inl, inr, ⊎_elim, arith}
use Rattle.rand_chacha.specs.ChaCha.{ChaCha}
use Rattle.sn_account.specs.Rule.{Rule}
use Rattle.sn_device.specs.Asking.{Fails, Reply, said}
use Rattle.sn_device.specs.Runs.{Act, EndsBehind, EndsExchange, EndsUnapplied, Halt, HasLongToken, IsBatch, IsUnapplied, Run, Sends, Standing, StopsAt, asked, most_exchanges, posting, refused, sync}
use Rattle.sn_device.proofs.Facts.{EndsAlone, ExchangesAlone, synced_alone}
use Rattle.sn_device.specs.Sending.{AreSentAs, AreUnsent, Numbered, PostsAll}
use Rattle.sn_device.specs.States.{HasOwner, token_of}
use Rattle.sn_device.specs.Steps.{Applies, AppliesAnswer, What, applies, posts}
use Rattle.sn_device.specs.declared.error.ClientError.{ClientError}
use Rattle.sn_device.specs.declared.error.ClientError.TheVariants as refusal
use Rattle.sn_conflict.specs.Checks.{Passes, most_retrieved}
use Rattle.sn_laws.specs.Each.{Each}
use Rattle.sn_laws.specs.Laws.{VersionsRise}
use Rattle.sn_laws.specs.Lookups.{Bytes, empty}
use Rattle.sn_laws.specs.Runs.{end}
use Rattle.sn_laws.specs.declared.ideal.Ideal.{Ideal}
use Rattle.sn_rows.specs.Table.{Rows, changed, row_after}
use Rattle.sn_rows.specs.declared.change.Change.{Change}
use Rattle.sn_rows.specs.declared.device_rows.OwnerRow.{OwnerRow}
use Rattle.sn_rows.specs.declared.key.Key.TheVariants as key
use Rattle.sn_rows.specs.declared.value.Value.{Value}
use Rattle.sn_string.specs.declared.params.KeySet.{KeySet}
use Rattle.sn_sync.specs.Fits.{FitsRequest}
use Rattle.sn_sync.specs.Laws.{HasOneStamp}
use Rattle.sn_sync.specs.declared.answer.Answer.{Answer}
use Rattle.sn_sync.specs.declared.answer.Answer.TheVariants as answer
use Rattle.sn_sync.specs.declared.answer.Conflict.{Conflict}
use Rattle.sn_sync.specs.declared.answer.More.TheVariants as more
use Rattle.sn_sync.specs.declared.item.Item.{Item}
use Rattle.sn_sync.specs.declared.request.Request.{Request}
use Rattle.sn_sync.specs.declared.request.Request.TheVariants as request
use Rattle.sn_account.specs.Tells.{AreApart, uuids}
use Rattle.sn_world.proofs.AnswerCounts.{IsSynced, OutOfStamps}
use Rattle.sn_world.proofs.AnswerPasses.{fails_not}
use Rattle.sn_world.proofs.Batches.{posted_fit}
use Rattle.sn_world.proofs.FittingRows.{steps_fit_uuids}
use Rattle.sn_world.proofs.Heard.{few_items, few_sent, heard_fits, heard_passes, heard_short, honest}
use Rattle.sn_world.proofs.PlainEnds.{IsPlainDevice, plain_device}
use Rattle.sn_world.proofs.PlainKept.{trace_plain}
use Rattle.sn_world.proofs.PresentSets.{unasked}
use Rattle.sn_world.proofs.Reaching.{Reaches, Ready, over_posting, ready_at, requests_of, rounds_reach, sound_at}
use Rattle.sn_world.proofs.RoundLemmas.{RoundLaws, sent_of}
use Rattle.sn_world.specs.Answering.{Arrives, AfterRounds, SyncEnds, SyncsAnswer, TracedSyncsAnswer, requests_in}
use Rattle.sn_world.specs.Calls.{AreServed, Fate, crashed, rows_served, served, undelivered}
use Rattle.sn_world.specs.Committing.{AreDifferent}
use Rattle.sn_world.specs.Delivered.{CallsFit, FirstFits, TracesFit}
use Rattle.sn_world.specs.Fitting.{FitsUuids}
use Rattle.sn_world.specs.Holds.{TokensDiffer}
use Rattle.sn_world.specs.Laws.{Keeps, SaysSome}
use Rattle.sn_world.specs.Making.{MakesOf, SendsTokens}
use Rattle.sn_world.specs.Plain.{HoldsPlain, KeepsPlain, PlainFirst, PlainRows}
use Rattle.sn_world.specs.World.{World, at_first}

-- ---- what is sent

abbrev request_of : OwnerRow → List Item → Request
request_of owner items = request.Sync owner.token items most_retrieved (token_of owner.sync_token) (token_of owner.cursor_token)

-- a posting leaves the device's own row
posted_owner : (rows : Rows) (numbers : List ℕ) (posted : List Change) (found : Option Value) → PostsAll rows numbers posted
    → row_after found key.Owner posted ≡ found
posted_owner rows [] [] found all = refl
posted_owner rows [] (c ∷ cs) found all = absurd all
posted_owner rows (n ∷ ns) [] found all = absurd all
posted_owner rows (n ∷ ns) (c ∷ cs) found (first, rest) =
    let one : changed found key.Owner c ≡ found = rw first.puts.puts.key_is refl in
    ap (λ (o : Option Value). row_after o key.Owner cs) one ∙ posted_owner rows ns cs found rest

-- ---- the last request

-- it is served, and its answer arrives
record LastServed (server : Rows) (r : Request) (reply : Reply) (fates : List Fate) : Type 0 where
  now : ℕ
  changes : List Change
  given : Answer
  fits : FitsRequest r
  rule : Rule server r now changes given
  said_is : reply ≡ said given
  fates_are : fates ≡ served now changes given true ∷ []

last_served : (server : Rows) (r : Request) (reply : Reply) (fates : List Fate) → AreServed server (asked r reply ∷ []) fates → Each Arrives fates
    → LastServed server r reply fates
last_served server r reply [] over arrive = absurd over
last_served server r reply (undelivered ∷ fates) over arrive = absurd arrive.0
last_served server r reply (crashed now changes given ∷ fates) over arrive = absurd arrive.0
last_served server r reply (served now changes given false ∷ fates) over arrive = absurd (let e = arrive.0 in cc)
last_served server r reply (served now changes given true ∷ fates) ((fits, rule, back), none) arrive = record {
  now = now;
  changes = changes;
  given = given;
  fits = fits;
  rule = rule;
  said_is = back;
  fates_are = ap (λ (fs : List Fate). served now changes given true ∷ fs) none;
}

one_said : (given g : Answer) → said given ≡ said g → g ≡ given
one_said given g is = cc

-- ---- how it ends

module _ (laws : RoundLaws) (keeps : Keeps) (says : SaysSome) (plainly : KeepsPlain) (plain_rows : PlainRows) (rise : VersionsRise) (one_stamp : HasOneStamp)
    (secret : Bytes) (differ : TokensDiffer secret) (name : Bytes) (first rows : Rows) (words : ChaCha) (acts : List Act) (fates : List Fate) where
  abbrev Ends : Halt → Type 0
  Ends halt = SyncEnds first rows words acts fates halt

  wants : (halt : Halt) → halt ≡ refused refusal.Memory → Ends halt
  wants halt is = inr (inr (inr (inr (inl is))))

  -- a commit that fits a batch isn't made
  stops : (what : What) (changes : List Change) (halt : Halt) → IsBatch changes → StopsAt what changes halt → Ends halt
  stops what changes halt fits (inl (batch, is)) = inr (inr (inr (inr (inr (what, changes, is)))))
  stops what changes halt fits (inr (inl (large, is))) = absurd (large fits)
  stops what changes halt fits (inr (inr is)) = wants halt is

  module _ (b : AfterRounds rows words acts) (x : Reaches laws keeps says plainly secret differ name first b.at b.later fates) where
    abbrev server : Rows
    server = rows_served first x.met

    module _ (numbers : List ℕ) (posted : List Change) (ready : Rows) (owner : OwnerRow) (owned : HasOwner b.at.rows owner) (items : List Item)
        (chosen : List Numbered) (items_are : AreSentAs chosen items) (few : length chosen ≤ 150) (unsent : AreUnsent chosen numbers)
        (sends : Sends b.at.rows numbers posted (request_of owner items) ready) (halt : Halt) where
      abbrev r : Request
      r = request_of owner items

      so : AreDifferent numbers × ((begins : Option KeySet) → MakesOf ready begins r) × AreApart (uuids items) × SendsTokens ready r
      so = sent_of laws.sends secret x.world x.ideal name b.at.rows x.stands.holds x.stands.device_is numbers posted r ready sends

      there : Ready laws keeps says plainly secret differ name server ready
      there =
          subst (λ (z : Rows). Ready laws keeps says plainly secret differ name server z) (sym sends.ready_is)
          (ready_at laws keeps says plainly secret differ name x.world x.ideal server b.at.rows b.at.words numbers posted x.stands x.plain
          sends.posts_them so.0)

      plain : IsPlainDevice there.world there.ideal name
      plain = plain_device plain_rows secret there.world there.ideal name (record { holds = there.stands.holds; plain = there.plain })

      have : FitsUuids ready
      have =
          subst FitsUuids (sym sends.ready_is)
          (steps_fit_uuids b.at.rows b.at.words b.at.words (posts numbers) posted
          (sound_at laws keeps says plainly secret differ name x.world x.ideal server b.at.rows x.stands) x.have (sends.posts_them, refl))

      owned_ready : HasOwner ready owner
      owned_ready = ap (λ (z : Rows). z key.Owner) sends.ready_is ∙ posted_owner b.at.rows numbers posted (b.at.rows key.Owner) sends.posts_them ∙ owned

      few_here : length items ≤ 150
      few_here = few_items chosen items items_are few

      module _ (reply : Reply) (later_is : b.later ≡ posting numbers posted ++ asked r reply ∷ []) (l : LastServed server r reply x.rest) where
        -- the stamps are used up
        refused_so : (given : Answer) → reply ≡ said given → (o : OutOfStamps server owner.token items l.now l.changes l.given)
            → given ≡ answer.Refused 409 (codes "stamps-used") (more.Number o.store.last) → EndsBehind ready b.at.words r (said given) halt → Ends halt
        refused_so given is o given_is (inl (why, fails, halt_is)) =
            let why_is : why ≡ refusal.Refused 409 (codes "stamps-used") = subst (λ (g : Answer). Fails (said g) why) given_is fails in
            inr (inr (inr (inl (record {
              behind = b;
              met = x.met;
              store = o.store;
              stands = o.stands;
              asks = record {
                numbers = numbers;
                posted = posted;
                request = r;
                ready = ready;
                sends = sends;
                later_is = later_is ∙ ap (λ (z : Reply). posting numbers posted ++ asked r z ∷ []) (is ∙ ap said given_is);
              };
              now = l.now;
              fates_are = x.fates_are ∙ ap (λ (fs : List Fate). x.met ++ fs)
                  (l.fates_are ∙ ap (λ (cs : List Change). served l.now cs l.given true ∷ []) o.none
                  ∙ ap (λ (g : Answer). served l.now [] g true ∷ []) o.given_is);
              number = o.n;
              session = o.session;
              present = o.present;
              present_is = o.present_is;
              out = o.out;
              is = halt_is ∙ ap refused why_is;
            }))))
        refused_so given is o given_is (inr (inl halt_is)) = wants halt halt_is
        refused_so given is o given_is (inr (inr (g, said_so, inl (why, unapplied, halt_is)))) =
            let same : g ≡ answer.Refused 409 (codes "stamps-used") (more.Number o.store.last) = one_said given g said_so ∙ given_is in
            absurd (subst (λ (z : Answer). IsUnapplied ready b.at.words items z why) same unapplied)
        refused_so given is o given_is (inr (inr (g, said_so, inr (changes, left, step, stopped)))) =
            let same : g ≡ answer.Refused 409 (codes "stamps-used") (more.Number o.store.last) = one_said given g said_so ∙ given_is in
            absurd (subst (λ (z : Answer). AppliesAnswer ready b.at.words items z changes left) same step)

        -- an answer is applied, or the device runs out of numbers or uuids
        module _ (conflicts : List Conflict) (cursor : Option Bytes) (retrieved saved : List Item) (token : Bytes) where
          abbrev given : Answer
          given = answer.Sync conflicts cursor retrieved saved token

          module _ (rule : Rule server r l.now l.changes given) (y : IsSynced server owner.token items most_retrieved l.now l.changes given) where
            passes : Passes items saved conflicts retrieved cursor
            passes =
                heard_passes laws rise one_stamp secret differ name there.world there.ideal server ready there.stands plain owner owned_ready items
                (so.1 None) few_here so.2 so.3 l.now l.changes l.fits conflicts cursor retrieved saved token rule y

            not_long : (word : Bytes) → HasLongToken cursor token word → ⊥
            not_long word long =
                heard_short laws rise one_stamp secret differ name there.world there.ideal server ready there.stands plain owner owned_ready items
                (so.1 None) few_here so.2 so.3 l.now l.changes l.fits conflicts cursor retrieved saved token rule y word long

            fits : (left : ChaCha) (applied : List Change) → Applies ready b.at.words items conflicts cursor retrieved saved token applied left → IsBatch applied
            fits left applied step =
                heard_fits laws rise one_stamp secret differ name there.world there.ideal server ready there.stands plain owner owned_ready items
                (so.1 None) few_here so.2 so.3 l.now l.changes l.fits conflicts cursor retrieved saved token rule y b.at.words left applied have step

            unapplied_so : reply ≡ said given → (why : ClientError) → IsUnapplied ready b.at.words items given why → halt ≡ refused why → Ends halt
            unapplied_so is why (inl (word, long, why_is)) halt_is = absurd (not_long word long)
            unapplied_so is why (inr (inl (e, at, fails, place, why_is))) halt_is =
                absurd (fails_not items saved conflicts retrieved cursor e at passes fails place)
            unapplied_so is why (inr (inr (one, sets, passed, holds, out))) halt_is = inr (inr (inl (record {
              behind = b;
              conflicts = conflicts;
              cursor = cursor;
              retrieved = retrieved;
              saved = saved;
              token = token;
              asks = record {
                numbers = numbers;
                posted = posted;
                request = r;
                ready = ready;
                sends = sends;
                later_is = later_is ∙ ap (λ (z : Reply). posting numbers posted ++ asked r z ∷ []) is;
              };
              passes = passed;
              owner = one;
              sets = sets;
              holds = holds;
              why = why;
              out = out;
              is = halt_is;
            })))

            synced_so : reply ≡ said given → EndsBehind ready b.at.words r (said given) halt → Ends halt
            synced_so is (inl (why, fails, halt_is)) = absurd fails
            synced_so is (inr (inl halt_is)) = wants halt halt_is
            synced_so is (inr (inr (g, said_so, inl (why, unapplied, halt_is)))) =
                unapplied_so is why (subst (λ (z : Answer). IsUnapplied ready b.at.words items z why) (one_said given g said_so) unapplied) halt_is
            synced_so is (inr (inr (g, said_so, inr (applied, left, step, stopped)))) =
                stops (applies r g) applied halt
                (fits left applied (subst (λ (z : Answer). AppliesAnswer ready b.at.words items z applied left) (one_said given g said_so) step)) stopped

        heard_ends : EndsBehind ready b.at.words r reply halt → Ends halt
        heard_ends ends =
            let here : EndsBehind ready b.at.words r (said l.given) halt = subst (λ (z : Reply). EndsBehind ready b.at.words r z halt) l.said_is ends in
            ⊎_elim
            (λ (o : OutOfStamps server owner.token items l.now l.changes l.given). refused_so l.given l.said_is o o.given_is here)
            (λ (y : IsSynced server owner.token items most_retrieved l.now l.changes l.given).
            let is = y.synced.answers in
            let end = y.synced.end in
            let exact : Answer = answer.Sync end.conflicts y.synced.cursor_token y.synced.retrieved end.saved y.synced.sync_token in
            synced_so end.conflicts y.synced.cursor_token y.synced.retrieved end.saved y.synced.sync_token
            (subst (λ (g : Answer). Rule server r l.now l.changes g) is l.rule)
            (subst (λ (g : Answer). IsSynced server owner.token items most_retrieved l.now l.changes g) is y) (l.said_is ∙ ap said is)
            (subst (λ (g : Answer). EndsBehind ready b.at.words r (said g) halt) is here))
            (honest laws rise one_stamp secret differ name there.world there.ideal server ready there.stands plain owner owned_ready items (so.1 None) few_here
            l.now l.changes l.given l.rule)

      exchange_ends : EndsExchange b.at.words numbers posted r ready b.later halt → Ends halt
      exchange_ends (inl (some, none, stopped)) =
          stops (posts numbers) posted halt (posted_fit b.at.rows chosen numbers posted x.have few unsent sends.posts_them) stopped
      exchange_ends (inr (batch, inl (none, is))) = wants halt is
      exchange_ends (inr (batch, inr (reply, later_is, ends))) =
          let beyond : AreServed server (asked r reply ∷ []) x.rest =
          over_posting server numbers posted (asked r reply ∷ []) x.rest (subst (λ (xs : List Act). AreServed server xs x.rest) later_is x.over) in
          heard_ends reply later_is (last_served server r reply x.rest beyond x.arrive) ends

    unapplied_ends : (halt : Halt) → EndsUnapplied b.at b.later halt → Ends halt
    unapplied_ends halt e =
        let of = e.sends.request_is in
        let both : Sends b.at.rows e.numbers e.posted (request_of e.sends.owner of.items) e.ready
        × EndsExchange b.at.words e.numbers e.posted (request_of e.sends.owner of.items) e.ready b.later halt =
        subst (λ (q : Request). Sends b.at.rows e.numbers e.posted q e.ready × EndsExchange b.at.words e.numbers e.posted q e.ready b.later halt) of.request_is
        (e.sends, e.ends_so) in
        exchange_ends e.numbers e.posted e.ready e.sends.owner e.sends.owned of.items e.sends.chosen of.items_are
        (few_sent b.at.rows e.numbers e.posted e.request e.ready e.sends) e.sends.unsent both.0 halt both.1

    all_requests : length b.rounds ≡ most_exchanges → b.later ≡ [] → requests_in acts ≡ most_exchanges
    all_requests count none =
        let whole = ap requests_in b.acts_are ∙ requests_of b.rounds b.later in
        let no_more : requests_in b.later ≡ 0 = ap requests_in none in
        omega arith

    alone_ends : (halt : Halt) → EndsAlone (length b.rounds) b.at b.later halt → Ends halt
    alone_ends halt (inl (done, none, is)) = inl (record { behind = b; no_more = none; done = done; is = is })
    alone_ends halt (inr (inl (count, due, (none, is)))) =
        inr (inl (record { behind = b; no_more = none; all = all_requests count none; due = due; is = is }))
    alone_ends halt (inr (inr (inl (few, e)))) = unapplied_ends halt e
    alone_ends halt (inr (inr (inr (none, is)))) = wants halt is

-- ---- the call

served_answers : RoundLaws → Keeps → SaysSome → KeepsPlain → PlainRows → VersionsRise → HasOneStamp → (secret : Bytes) (w : World) (s : Ideal)
    (name : Bytes) (owner : OwnerRow) (least : ℕ) (words : ChaCha) (acts : List Act) (fates : List Fate) (halt : Halt) → TokensDiffer secret
    → HoldsPlain secret w s → HasOwner (w.devices name) owner
    → FitsUuids (w.devices name) → Run least sync (w.devices name) words acts halt → AreServed w.server acts fates → Each Arrives fates
    → SyncEnds w.server (w.devices name) words acts fates halt
served_answers laws keeps says plainly plain_rows rise one_stamp secret w s name owner least words acts fates halt differ h owned have (inl none) over arrive =
    wants laws keeps says plainly plain_rows rise one_stamp secret differ name w.server (w.devices name) words acts fates halt none.1
served_answers laws keeps says plainly plain_rows rise one_stamp secret w s name owner least words acts fates halt differ h owned have (inr (inl (nobody, refuses)))
    over arrive =
    absurd (cc)
served_answers laws keeps says plainly plain_rows rise one_stamp secret w s name owner least words acts fates halt differ h owned have
    (inr (inr (one, sets, holds, syncs))) over arrive =
    let e : ExchangesAlone (w.devices name) words acts halt =
    synced_alone (w.devices name) words one sets acts halt (unasked (w.devices name) one sets (h.plain.unasked name) holds) syncs in
    let start : Standing = record { rows = w.devices name; words = words; last = None } in
    let b : AfterRounds (w.devices name) words acts = record { rounds = e.rounds; at = e.at; went = e.went; later = e.later; acts_are = e.acts_are } in
    let x = rounds_reach laws keeps says plainly secret differ name e.rounds start e.at e.later w s w.server fates
    (record { holds = h.holds; server_is = refl; device_is = refl }) h.plain have e.went
    (subst (λ (xs : List Act). AreServed w.server xs fates) e.acts_are over) arrive in
    alone_ends laws keeps says plainly plain_rows rise one_stamp secret differ name w.server (w.devices name) words acts fates b x halt e.ends

pub syncs_answer : CallsFit → RoundLaws → Keeps → SaysSome → KeepsPlain → PlainRows → VersionsRise → HasOneStamp → SyncsAnswer
syncs_answer fit laws keeps says plainly plain_rows rise one_stamp secret w s name owner least words acts fates halt differ h owned uuids run over arrive =
    served_answers laws keeps says plainly plain_rows rise one_stamp secret w s name owner least words acts fates halt differ h owned uuids run
    (fit secret w s name least sync words acts fates halt h.holds (h.plain.unasked name) uuids tt tt run over) arrive

pub traced_syncs_answer : PlainFirst → KeepsPlain → FirstFits → TracesFit → SyncsAnswer → TracedSyncsAnswer
traced_syncs_answer first keeps fresh traces syncs secret steps moves w name owner least words acts fates halt differ t plain owned run over arrive =
    syncs secret w (end moves) name owner least words acts fates halt differ
    (trace_plain keeps secret differ steps moves at_first w empty (first secret) plain t).1 owned
    (traces secret at_first w empty steps moves differ (first secret).holds fresh.devices t name) run over arrive

-- Why a row of exchanges isn't brought to its end, of a device that is ready: the causes that are named, and no other.
use Rattle.std.proofs.Common.{◌⊎◌, ◌≡◌, ◌≤◌, ℕ, List, [], ◌∷◌, ◌++◌, length, Option, None, true, false, codes, refl, sym, ap, ◌∙◌, subst, inl, inr, ⊎_elim}
use Rattle.rand_chacha.specs.ChaCha.{ChaCha}
use Rattle.sn_account.specs.Rule.{Rule}
use Rattle.sn_device.specs.Asking.{Fails, Reply, said}
use Rattle.sn_device.specs.Runs.{Act, EndsBehind, EndsExchange, EndsUnapplied, Halt, HasLongToken, IsBatch, IsUnapplied, Sends, StopsAt, asked, broken, posting, refused}
use Rattle.sn_device.specs.Sending.{AreSentAs, AreUnsent, Numbered, PostsAll}
use Rattle.sn_device.specs.States.{HasOwner, token_of}
use Rattle.sn_device.specs.Steps.{Applies, AppliesAnswer, What, applies, posts}
use Rattle.sn_device.specs.declared.error.ClientError.{ClientError}
use Rattle.sn_device.specs.declared.error.ClientError.TheVariants as refusal
use Rattle.sn_conflict.specs.Checks.{Passes, most_retrieved}
use Rattle.sn_laws.specs.Each.{Each}
use Rattle.sn_laws.specs.Laws.{VersionsRise}
use Rattle.sn_laws.specs.Lookups.{Bytes}
use Rattle.sn_rows.specs.Table.{Rows, changed, row_after}
use Rattle.sn_rows.specs.declared.change.Change.{Change}
use Rattle.sn_rows.specs.declared.device_rows.OwnerRow.{OwnerRow}
use Rattle.sn_rows.specs.declared.key.Key.TheVariants as key
use Rattle.sn_rows.specs.declared.value.Value.{Value}
use Rattle.sn_string.specs.declared.params.KeySet.{KeySet}
use Rattle.sn_sync.specs.Fits.{FitsRequest}
use Rattle.sn_sync.specs.Laws.{HasOneStamp}
use Rattle.sn_sync.specs.declared.answer.Answer.{Answer}
use Rattle.sn_sync.specs.declared.answer.Answer.TheVariants as answer
use Rattle.sn_sync.specs.declared.answer.Conflict.{Conflict}
use Rattle.sn_sync.specs.declared.answer.More.TheVariants as more
use Rattle.sn_sync.specs.declared.item.Item.{Item}
use Rattle.sn_sync.specs.declared.request.Request.{Request}
use Rattle.sn_sync.specs.declared.request.Request.TheVariants as request
use Rattle.sn_account.specs.Tells.{AreApart, uuids}
use Rattle.sn_world.proofs.AnswerCounts.{IsSynced, OutOfStamps}
use Rattle.sn_world.proofs.AnswerPasses.{fails_not}
use Rattle.sn_world.proofs.Batches.{posted_fit}
use Rattle.sn_world.proofs.FittingRows.{steps_fit_uuids}
use Rattle.sn_world.proofs.Heard.{few_items, few_sent}
use Rattle.sn_ready.proofs.Heard.{heard_fits, heard_passes, heard_short, honest}
use Rattle.sn_world.proofs.Reaching.{over_posting}
use Rattle.sn_ready.proofs.Reaching.{Reaches, Ready, ready_at, sound_at}
use Rattle.sn_world.proofs.RoundLemmas.{RoundLaws, sent_of}
use Rattle.sn_world.specs.Answering.{Arrives, AfterRounds, RanOut, StampsUsed}
use Rattle.sn_world.specs.Calls.{AreServed, Fate, crashed, rows_served, served, undelivered}
use Rattle.sn_world.specs.Committing.{AreDifferent}
use Rattle.sn_world.specs.Fitting.{FitsUuids}
use Rattle.sn_world.specs.Holds.{TokensDiffer}
use Rattle.sn_world.specs.Laws.{Keeps, SaysSome}
use Rattle.sn_world.specs.Making.{MakesOf, SendsTokens}

-- ---- what is sent

abbrev request_of : OwnerRow → List Item → Request
request_of owner items = request.Sync owner.token items most_retrieved (token_of owner.sync_token) (token_of owner.cursor_token)

-- a posting leaves the device's own row
posted_owner : (rows : Rows) (numbers : List ℕ) (posted : List Change) (found : Option Value) → PostsAll rows numbers posted
    → row_after found key.Owner posted ≡ found
posted_owner rows [] [] found all = refl
posted_owner rows [] (c ∷ cs) found all = absurd all
posted_owner rows (n ∷ ns) [] found all = absurd all
posted_owner rows (n ∷ ns) (c ∷ cs) found (first, rest) =
    let one : changed found key.Owner c ≡ found = rw first.puts.puts.key_is refl in
    ap (λ (o : Option Value). row_after o key.Owner cs) one ∙ posted_owner rows ns cs found rest

-- ---- the last request

-- it is served, and its answer arrives
record LastServed (server : Rows) (r : Request) (reply : Reply) (fates : List Fate) : Type 0 where
  now : ℕ
  changes : List Change
  given : Answer
  fits : FitsRequest r
  rule : Rule server r now changes given
  said_is : reply ≡ said given
  fates_are : fates ≡ served now changes given true ∷ []

last_served : (server : Rows) (r : Request) (reply : Reply) (fates : List Fate) → AreServed server (asked r reply ∷ []) fates → Each Arrives fates
    → LastServed server r reply fates
last_served server r reply [] over arrive = absurd over
last_served server r reply (undelivered ∷ fates) over arrive = absurd arrive.0
last_served server r reply (crashed now changes given ∷ fates) over arrive = absurd arrive.0
last_served server r reply (served now changes given false ∷ fates) over arrive = absurd (let e = arrive.0 in cc)
last_served server r reply (served now changes given true ∷ fates) ((fits, rule, back), none) arrive = record {
  now = now;
  changes = changes;
  given = given;
  fits = fits;
  rule = rule;
  said_is = back;
  fates_are = ap (λ (fs : List Fate). served now changes given true ∷ fs) none;
}

one_said : (given g : Answer) → said given ≡ said g → g ≡ given
one_said given g is = cc

-- ---- how it ends

-- at a version of the last answer, for want of stamps, for want of memory, or in a commit
abbrev pub Stops : Rows → Rows → ChaCha → List Act → List Fate → Halt → Type 0
Stops server rows words acts fates halt = RanOut rows words acts halt ⊎ (StampsUsed server rows words acts fates halt ⊎ ((halt ≡ refused refusal.Memory)
    ⊎ ((what : What) × (changes : List Change) × (halt ≡ broken what changes))))

module _ (laws : RoundLaws) (keeps : Keeps) (says : SaysSome) (rise : VersionsRise) (one_stamp : HasOneStamp)
    (secret : Bytes) (differ : TokensDiffer secret) (name : Bytes) (first rows : Rows) (words : ChaCha) (acts : List Act) (fates : List Fate) where
  abbrev pub Ends : Halt → Type 0
  Ends halt = Stops first rows words acts fates halt

  pub wants : (halt : Halt) → halt ≡ refused refusal.Memory → Ends halt
  wants halt is = inr (inr (inl is))

  -- a commit that fits a batch isn't made
  stops : (what : What) (changes : List Change) (halt : Halt) → IsBatch changes → StopsAt what changes halt → Ends halt
  stops what changes halt fits (inl (batch, is)) = inr (inr (inr (what, changes, is)))
  stops what changes halt fits (inr (inl (large, is))) = absurd (large fits)
  stops what changes halt fits (inr (inr is)) = wants halt is

  module _ (b : AfterRounds rows words acts) (x : Reaches laws keeps says secret differ name first b.at b.later fates) where
    abbrev server : Rows
    server = rows_served first x.met

    module _ (numbers : List ℕ) (posted : List Change) (ready : Rows) (owner : OwnerRow) (owned : HasOwner b.at.rows owner) (items : List Item)
        (chosen : List Numbered) (items_are : AreSentAs chosen items) (few : length chosen ≤ 150) (unsent : AreUnsent chosen numbers)
        (sends : Sends b.at.rows numbers posted (request_of owner items) ready) (halt : Halt) where
      abbrev r : Request
      r = request_of owner items

      so : AreDifferent numbers × ((begins : Option KeySet) → MakesOf ready begins r) × AreApart (uuids items) × SendsTokens ready r
      so = sent_of laws.sends secret x.world x.ideal name b.at.rows x.stands.holds x.stands.device_is numbers posted r ready sends

      there : Ready laws keeps says secret differ name server ready
      there =
          subst (λ (z : Rows). Ready laws keeps says secret differ name server z) (sym sends.ready_is)
          (ready_at laws keeps says secret differ name x.world x.ideal server b.at.rows b.at.words numbers posted x.stands x.last
          sends.posts_them so.0)

      have : FitsUuids ready
      have =
          subst FitsUuids (sym sends.ready_is)
          (steps_fit_uuids b.at.rows b.at.words b.at.words (posts numbers) posted
          (sound_at laws keeps says secret differ name x.world x.ideal server b.at.rows x.stands) x.have (sends.posts_them, refl))

      owned_ready : HasOwner ready owner
      owned_ready = ap (λ (z : Rows). z key.Owner) sends.ready_is ∙ posted_owner b.at.rows numbers posted (b.at.rows key.Owner) sends.posts_them ∙ owned

      few_here : length items ≤ 150
      few_here = few_items chosen items items_are few

      module _ (reply : Reply) (later_is : b.later ≡ posting numbers posted ++ asked r reply ∷ []) (l : LastServed server r reply x.rest) where
        -- the stamps are used up
        refused_so : (given : Answer) → reply ≡ said given → (o : OutOfStamps server owner.token items l.now l.changes l.given)
            → given ≡ answer.Refused 409 (codes "stamps-used") (more.Number o.store.last) → EndsBehind ready b.at.words r (said given) halt → Ends halt
        refused_so given is o given_is (inl (why, fails, halt_is)) =
            let why_is : why ≡ refusal.Refused 409 (codes "stamps-used") = subst (λ (g : Answer). Fails (said g) why) given_is fails in
            inr (inl (record {
              behind = b;
              met = x.met;
              store = o.store;
              stands = o.stands;
              asks = record {
                numbers = numbers;
                posted = posted;
                request = r;
                ready = ready;
                sends = sends;
                later_is = later_is ∙ ap (λ (z : Reply). posting numbers posted ++ asked r z ∷ []) (is ∙ ap said given_is);
              };
              now = l.now;
              fates_are = x.fates_are ∙ ap (λ (fs : List Fate). x.met ++ fs)
                  (l.fates_are ∙ ap (λ (cs : List Change). served l.now cs l.given true ∷ []) o.none
                  ∙ ap (λ (g : Answer). served l.now [] g true ∷ []) o.given_is);
              number = o.n;
              session = o.session;
              present = o.present;
              present_is = o.present_is;
              out = o.out;
              is = halt_is ∙ ap refused why_is;
            }))
        refused_so given is o given_is (inr (inl halt_is)) = wants halt halt_is
        refused_so given is o given_is (inr (inr (g, said_so, inl (why, unapplied, halt_is)))) =
            let same : g ≡ answer.Refused 409 (codes "stamps-used") (more.Number o.store.last) = one_said given g said_so ∙ given_is in
            absurd (subst (λ (z : Answer). IsUnapplied ready b.at.words items z why) same unapplied)
        refused_so given is o given_is (inr (inr (g, said_so, inr (changes, left, step, stopped)))) =
            let same : g ≡ answer.Refused 409 (codes "stamps-used") (more.Number o.store.last) = one_said given g said_so ∙ given_is in
            absurd (subst (λ (z : Answer). AppliesAnswer ready b.at.words items z changes left) same step)

        -- an answer is applied, or the device runs out of numbers or uuids
        module _ (conflicts : List Conflict) (cursor : Option Bytes) (retrieved saved : List Item) (token : Bytes) where
          abbrev given : Answer
          given = answer.Sync conflicts cursor retrieved saved token

          module _ (rule : Rule server r l.now l.changes given) (y : IsSynced server owner.token items most_retrieved l.now l.changes given) where
            passes : Passes items saved conflicts retrieved cursor
            passes =
                heard_passes laws rise one_stamp secret differ name there.world there.ideal server ready there.stands there.last owner owned_ready items
                (so.1 None) few_here so.2 so.3 l.now l.changes l.fits conflicts cursor retrieved saved token rule y

            not_long : (word : Bytes) → HasLongToken cursor token word → ⊥
            not_long word long =
                heard_short laws rise one_stamp secret differ name there.world there.ideal server ready there.stands there.last owner owned_ready items
                (so.1 None) few_here so.2 so.3 l.now l.changes l.fits conflicts cursor retrieved saved token rule y word long

            fits : (left : ChaCha) (applied : List Change) → Applies ready b.at.words items conflicts cursor retrieved saved token applied left → IsBatch applied
            fits left applied step =
                heard_fits laws rise one_stamp secret differ name there.world there.ideal server ready there.stands there.last owner owned_ready items
                (so.1 None) few_here so.2 so.3 l.now l.changes l.fits conflicts cursor retrieved saved token rule y b.at.words left applied have step

            unapplied_so : reply ≡ said given → (why : ClientError) → IsUnapplied ready b.at.words items given why → halt ≡ refused why → Ends halt
            unapplied_so is why (inl (word, long, why_is)) halt_is = absurd (not_long word long)
            unapplied_so is why (inr (inl (e, at, fails, place, why_is))) halt_is =
                absurd (fails_not items saved conflicts retrieved cursor e at passes fails place)
            unapplied_so is why (inr (inr (one, sets, passed, holds, out))) halt_is = inl (record {
              behind = b;
              conflicts = conflicts;
              cursor = cursor;
              retrieved = retrieved;
              saved = saved;
              token = token;
              asks = record {
                numbers = numbers;
                posted = posted;
                request = r;
                ready = ready;
                sends = sends;
                later_is = later_is ∙ ap (λ (z : Reply). posting numbers posted ++ asked r z ∷ []) is;
              };
              passes = passed;
              owner = one;
              sets = sets;
              holds = holds;
              why = why;
              out = out;
              is = halt_is;
            })

            synced_so : reply ≡ said given → EndsBehind ready b.at.words r (said given) halt → Ends halt
            synced_so is (inl (why, fails, halt_is)) = absurd fails
            synced_so is (inr (inl halt_is)) = wants halt halt_is
            synced_so is (inr (inr (g, said_so, inl (why, unapplied, halt_is)))) =
                unapplied_so is why (subst (λ (z : Answer). IsUnapplied ready b.at.words items z why) (one_said given g said_so) unapplied) halt_is
            synced_so is (inr (inr (g, said_so, inr (applied, left, step, stopped)))) =
                stops (applies r g) applied halt
                (fits left applied (subst (λ (z : Answer). AppliesAnswer ready b.at.words items z applied left) (one_said given g said_so) step)) stopped

        heard_ends : EndsBehind ready b.at.words r reply halt → Ends halt
        heard_ends ends =
            let here : EndsBehind ready b.at.words r (said l.given) halt = subst (λ (z : Reply). EndsBehind ready b.at.words r z halt) l.said_is ends in
            ⊎_elim
            (λ (o : OutOfStamps server owner.token items l.now l.changes l.given). refused_so l.given l.said_is o o.given_is here)
            (λ (y : IsSynced server owner.token items most_retrieved l.now l.changes l.given).
            let is = y.synced.answers in
            let end = y.synced.end in
            let exact : Answer = answer.Sync end.conflicts y.synced.cursor_token y.synced.retrieved end.saved y.synced.sync_token in
            synced_so end.conflicts y.synced.cursor_token y.synced.retrieved end.saved y.synced.sync_token
            (subst (λ (g : Answer). Rule server r l.now l.changes g) is l.rule)
            (subst (λ (g : Answer). IsSynced server owner.token items most_retrieved l.now l.changes g) is y) (l.said_is ∙ ap said is)
            (subst (λ (g : Answer). EndsBehind ready b.at.words r (said g) halt) is here))
            (honest laws rise one_stamp secret differ name there.world there.ideal server ready there.stands there.last owner owned_ready items (so.1 None) few_here
            l.now l.changes l.given l.rule)

      exchange_ends : EndsExchange b.at.words numbers posted r ready b.later halt → Ends halt
      exchange_ends (inl (some, none, stopped)) =
          stops (posts numbers) posted halt (posted_fit b.at.rows chosen numbers posted x.have few unsent sends.posts_them) stopped
      exchange_ends (inr (batch, inl (none, is))) = wants halt is
      exchange_ends (inr (batch, inr (reply, later_is, ends))) =
          let beyond : AreServed server (asked r reply ∷ []) x.rest =
          over_posting server numbers posted (asked r reply ∷ []) x.rest (subst (λ (xs : List Act). AreServed server xs x.rest) later_is x.over) in
          heard_ends reply later_is (last_served server r reply x.rest beyond x.arrive) ends

    pub unapplied_ends : (halt : Halt) → EndsUnapplied b.at b.later halt → Ends halt
    unapplied_ends halt e =
        let of = e.sends.request_is in
        let both : Sends b.at.rows e.numbers e.posted (request_of e.sends.owner of.items) e.ready
        × EndsExchange b.at.words e.numbers e.posted (request_of e.sends.owner of.items) e.ready b.later halt =
        subst (λ (q : Request). Sends b.at.rows e.numbers e.posted q e.ready × EndsExchange b.at.words e.numbers e.posted q e.ready b.later halt) of.request_is
        (e.sends, e.ends_so) in
        exchange_ends e.numbers e.posted e.ready e.sends.owner e.sends.owned of.items e.sends.chosen of.items_are
        (few_sent b.at.rows e.numbers e.posted e.request e.ready e.sends) e.sends.unsent both.0 halt both.1

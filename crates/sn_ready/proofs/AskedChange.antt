-- How the change of a password is asked for, over a server that answers it by its rule and whose answer arrives: for which causes that ends the call, or that
-- the new set is adopted.
use Rattle.std.proofs.Common.{◌≡◌, ◌≢◌, ◌<◌, ◌⊎◌, ℕ, suc, List, [], ◌∷◌, ◌++◌, true, false, refl, sym, ap, ◌∙◌, subst, inl, inr, arith}
use Rattle.rand_chacha.specs.ChaCha.{ChaCha}
use Rattle.sn_account.specs.Lookups.{HasAccount as HasAccountRow}
use Rattle.sn_account.specs.Rule.{Rule}
use Rattle.sn_account.specs.Rules.{ChangesKeys, ChangesPassword, IsPresent}
use Rattle.sn_account.specs.Sessions.{IsSession}
use Rattle.sn_device.specs.Asking.{Reply, said}
use Rattle.sn_device.specs.Runs.{Act, AnswersChange, AsksFor, AsksHost, CommitsStep, Drops, Halt, Hears, IsBatch, IsNewSet, Point, RefusesChange, Refuses, Standing, Then, Turn, asked, change_to, commits as committed, goes_on, is_over, most_exchanges, refused}
use Rattle.sn_device.specs.States.{HasSets}
use Rattle.sn_device.specs.Steps.{Step, What, adopts, asks, forgets}
use Rattle.sn_device.specs.declared.error.ClientError.{ClientError}
use Rattle.sn_device.specs.declared.error.ClientError.TheVariants as refusal
use Rattle.sn_laws.specs.Each.{Each}
use Rattle.sn_laws.specs.Lookups.{Bytes}
use Rattle.sn_laws.specs.declared.ideal.Ideal.{Ideal}
use Rattle.sn_passwd.proofs.NotDenied.{not_denied}
use Rattle.sn_ready.proofs.ChangeSizes.{asks_fit, forgets_fit}
use Rattle.sn_ready.proofs.RowEnds.{Fails}
use Rattle.sn_ready.specs.Passwds.{IsConflict, IsTooLarge, RefusesIt}
use Rattle.sn_ready.specs.Ready.{HoldsLast}
use Rattle.sn_rows.specs.Table.{Rows, rows_after}
use Rattle.sn_rows.specs.declared.change.Change.{Change}
use Rattle.sn_rows.specs.declared.device_rows.OwnerRow.{OwnerRow}
use Rattle.sn_rows.specs.declared.server_rows.AccountRow.{AccountRow}
use Rattle.sn_rows.specs.declared.server_rows.StoreRow.{StoreRow}
use Rattle.sn_sets.specs.declared.sets.Sets.{Sets}
use Rattle.sn_shows.specs.Laws.{AccountsApart}
use Rattle.sn_string.specs.declared.params.KeySet.{KeySet}
use Rattle.sn_string.specs.declared.params.Params.{Params}
use Rattle.sn_sync.specs.declared.answer.Answer.{Answer}
use Rattle.sn_sync.specs.declared.answer.Answer.TheVariants as answer
use Rattle.sn_sync.specs.declared.answer.More.{More}
use Rattle.sn_sync.specs.declared.request.Request.{Request}
use Rattle.sn_world.proofs.CallLemmas.{Stands}
use Rattle.sn_world.specs.Answering.{Arrives}
use Rattle.sn_world.specs.Calls.{AreServed, Fate, crashed, served, undelivered}
use Rattle.sn_world.specs.World.{World}

-- ---- a request whose answer arrives

record Heard (server : Rows) (r : Request) (reply : Reply) (later : List Act) (fates : List Fate) : Type 0 where
  now : ℕ
  changes : List Change
  given : Answer
  others : List Fate
  rule : Rule server r now changes given
  said_is : reply ≡ said given
  fates_are : fates ≡ served now changes given true ∷ others
  over : AreServed (rows_after server changes) later others

heard : (server : Rows) (r : Request) (reply : Reply) (later : List Act) (fates : List Fate) → AreServed server (asked r reply ∷ later) fates
    → Each Arrives fates → Heard server r reply later fates
heard server r reply later [] over arrive = absurd over
heard server r reply later (undelivered ∷ fates) over arrive = absurd arrive.0
heard server r reply later (crashed now changes given ∷ fates) over arrive = absurd arrive.0
heard server r reply later (served now changes given false ∷ fates) over arrive = absurd (let e = arrive.0 in cc)
heard server r reply later (served now changes given true ∷ fates) ((fits, rule, back), rest) arrive = record {
  now = now;
  changes = changes;
  given = given;
  others = fates;
  rule = rule;
  said_is = back;
  fates_are = refl;
  over = rest;
}

-- ---- a commit

-- one that is within a batch fails for want of memory or by the disk alone
commit_over : (what : What) (p : Point) (acts : List Act) (halt : Halt)
    → ((changes : List Change) (left : ChaCha) → Step p.rows p.words what changes left → IsBatch changes)
    → CommitsStep what p acts (is_over halt) → Fails halt
commit_over what p acts halt fits (inl (none, is)) = inl (let same : halt ≡ refused refusal.Memory = cc in same)
commit_over what p acts halt fits (inr (changes, left, step, inl (batch, one, is))) = absurd (cc)
commit_over what p acts halt fits (inr (changes, left, step, inr (h, none, inl (batch, stops), is))) =
    let same : halt ≡ h = cc in inr (what, changes, same ∙ stops)
commit_over what p acts halt fits (inr (changes, left, step, inr (h, none, inr (inl (large, stops)), is))) = absurd (large (fits changes left step))
commit_over what p acts halt fits (inr (changes, left, step, inr (h, none, inr (inr stops), is))) = let same : halt ≡ h = cc in inl (same ∙ stops)

-- one that is made
record Committed (what : What) (p : Point) (acts : List Act) (q : Point) : Type 0 where
  changes : List Change
  left : ChaCha
  step : Step p.rows p.words what changes left
  acts_are : acts ≡ committed what changes ∷ []
  q_is : q ≡ record { made = p.made; rows = rows_after p.rows changes; words = left }

commit_on : (what : What) (p : Point) (acts : List Act) (q : Point) → CommitsStep what p acts (goes_on q) → Committed what p acts q
commit_on what p acts q (inl (none, is)) = absurd (cc)
commit_on what p acts q (inr (changes, left, step, inl (batch, one, is))) =
    record { changes = changes; left = left; step = step; acts_are = one; q_is = cc }
commit_on what p acts q (inr (changes, left, step, inr (h, none, stops, is))) = absurd (cc)

-- ---- what it comes to

-- the call ends
abbrev pub EndsAsking : ℕ → Bytes → ℕ → Rows → Standing → List Act → List Fate → Halt → Type 0
EndsAsking made password cost server at acts fates halt =
    ((owner : OwnerRow) × (sets : Sets) × HasSets at.rows owner sets × (why : ClientError) × RefusesChange at.rows sets why × Refuses acts halt why)
    ⊎ (((made ≡ most_exchanges) × Refuses acts halt refusal.RoundsUsed)
    ⊎ (RefusesIt (Unit {0}) password cost server at acts fates halt ⊎ (IsTooLarge password cost at acts halt ⊎ Fails halt)))

-- the set is adopted
pub record IsAdopted (made : ℕ) (password : Bytes) (cost : ℕ) (at : Standing) (acts : List Act) (q : Point) : Type 0 where
  pub owner : OwnerRow
  pub sets : Sets
  pub holds : HasSets at.rows owner sets
  pub set : KeySet
  pub left : ChaCha
  pub new : IsNewSet at.words owner.identifier password cost set left
  pub kept : List Change
  pub keeps : Step at.rows left (asks set) kept left
  pub token : Bytes
  pub identifier : Bytes
  pub uuid : Bytes
  pub adopted : List Change
  pub rest : ChaCha
  pub step : Step (rows_after at.rows kept) left (adopts set token) adopted rest
  pub acts_are : acts ≡ committed (asks set) kept ∷ asked (change_to owner sets.present set) (said (answer.Account token identifier uuid))
      ∷ committed (adopts set token) adopted ∷ []
  pub q_is : q ≡ record { made = suc made; rows = rows_after (rows_after at.rows kept) adopted; words = rest }

abbrev pub point : ℕ → Standing → Point
point made at = record { made = made; rows = at.rows; words = at.words }

-- ---- the server's refusal

-- of a change that isn't denied
conflict_so : (server : Rows) (store : StoreRow) (n : ℕ) (a : AccountRow) (present : Params) (pw : Bytes) (cost : ℕ) (nonce : Bytes) (changes : List Change)
    (status : ℕ) (tag : Bytes) (further : More) → ChangesKeys server store n a present pw cost nonce changes (answer.Refused status tag further)
    → (status ≡ 409) × (changes ≡ []) × IsConflict (Unit {0}) server n a present nonce tag further
conflict_so server store n a present pw cost nonce changes status tag further (inl (uuid, least, (none, is))) =
    (cc, none, inl (uuid, tt, least, cc, cc))
conflict_so server store n a present pw cost nonce changes status tag further (inr (inl (nobody, used, (none, is)))) =
    (cc, none, inr (inl (used, cc, cc)))
conflict_so server store n a present pw cost nonce changes status tag further (inr (inr (inl (nobody, unused, full, (none, is))))) =
    (cc, none, inr (inr (full, cc, cc)))
conflict_so server store n a present pw cost nonce changes status tag further (inr (inr (inr (nobody, unused, room, x)))) =
    absurd (let is = x.answers in cc)

record Conflicts (server : Rows) (token nonce : Bytes) (changes : List Change) (status : ℕ) (tag : Bytes) (further : More) : Type 0 where
  number : ℕ
  session : IsSession server token number
  account : AccountRow
  there : HasAccountRow server number account
  present : Params
  present_is : IsPresent server number present
  conflict : IsConflict (Unit {0}) server number account present nonce tag further
  status_is : status ≡ 409
  none : changes ≡ []

conflicts : (server : Rows) (store : StoreRow) (token current pw : Bytes) (cost : ℕ) (nonce : Bytes) (changes : List Change) (status : ℕ) (tag : Bytes)
    (further : More) → status ≢ 401
    → ChangesPassword server store token current pw cost nonce changes (answer.Refused status tag further)
    → Conflicts server token nonce changes status tag further
conflicts server store token current pw cost nonce changes status tag further other (inl (nobody, (none, is))) = absurd (other (cc))
conflicts server store token current pw cost nonce changes status tag further other (inr (inl (n, a, session, there, differs, (none, is)))) =
    absurd (other (cc))
conflicts server store token current pw cost nonce changes status tag further other (inr (inr (n, a, present, session, there, check, is_present, keys))) =
    let so = conflict_so server store n a present pw cost nonce changes status tag further keys in
    record {
      number = n;
      session = session;
      account = a;
      there = there;
      present = present;
      present_is = is_present;
      conflict = so.2;
      status_is = so.0;
      none = so.1;
    }

-- ---- from where the device holds its account's last set

module _ (apart : AccountsApart) (secret name : Bytes) (v : World) (t : Ideal) (server : Rows) (made : ℕ) (at : Standing)
    (k : Stands secret name v t server at.rows) (last : HoldsLast t name) (password : Bytes) (cost : ℕ) (acts : List Act) (fates : List Fate)
    (over : AreServed server acts fates) (arrive : Each Arrives fates) where
  abbrev pub Comes : Turn → Type 0
  Comes turn = ((halt : Halt) × (turn ≡ is_over halt) × EndsAsking made password cost server at acts fates halt)
      ⊎ ((q : Point) × (turn ≡ goes_on q) × IsAdopted made password cost at acts q)

  fails : (turn : Turn) (halt : Halt) → turn ≡ is_over halt → Fails halt → Comes turn
  fails turn halt is so = inl (halt, is, inr (inr (inr (inr so))))

  module _ (turn : Turn) (few : made < most_exchanges) (owner : OwnerRow) (sets : Sets) (holds : HasSets at.rows owner sets) (set : KeySet) (left : ChaCha)
      (new : IsNewSet at.words owner.identifier password cost set left) (kept : List Change) (keeps : Step at.rows left (asks set) kept left) where
    abbrev change : Request
    change = change_to owner sets.present set

    abbrev there : Rows
    there = rows_after at.rows kept

    abbrev here : Point
    here = record { made = suc made; rows = there; words = left }

    module _ (later : List Act) (given : Answer) (h : Heard server change (said given) later fates)
        (given_is : h.given ≡ given) (are : acts ≡ committed (asks set) kept ∷ asked change (said given) ∷ later) where
      -- it is refused
      refused_so : (status : ℕ) (tag : Bytes) (further : More) → given ≡ answer.Refused status tag further → status ≢ 401
          → Drops (refusal.Refused status tag) here later turn → Comes turn
      refused_so status tag further is other (inl (z, first, over_is)) =
          fails turn z over_is (commit_over forgets here later z (λ changes rest step. forgets_fit there changes step.0) first)
      refused_so status tag further is other (inr (front, q, rest, first, (none, over_is), later_are)) =
          let c = commit_on forgets here front q first in
          let rule : Rule server change h.now h.changes (answer.Refused status tag further) =
          subst (λ (g : Answer). Rule server change h.now h.changes g) (given_is ∙ is) h.rule in
          let x = conflicts server rule.0 owner.token sets.present.pw set.pw set.params.pw_cost set.params.pw_nonce h.changes status tag further other rule.2 in
          let later_is : later ≡ committed forgets c.changes ∷ [] =
          later_are ∙ ap (λ (xs : List Act). front ++ xs) none ∙ ap (λ (xs : List Act). xs ++ []) c.acts_are in
          let no_others : h.others ≡ [] = subst (λ (xs : List Act). AreServed (rows_after server h.changes) xs h.others) later_is h.over in
          inl (
            refused (refusal.Refused status tag),
            over_is,
            inr (inr (inl (record {
              change = record {
                owner = owner;
                sets = sets;
                holds = holds;
                set = set;
                left = left;
                new = new;
                kept = kept;
                keeps = keeps;
                given = given;
                later = later;
                acts_are = are;
              };
              number = x.number;
              session = x.session;
              account = x.account;
              there = x.there;
              present = x.present;
              present_is = x.present_is;
              tag = tag;
              further = further;
              conflict = x.conflict;
              given_is = is ∙ ap (λ (n : ℕ). answer.Refused n tag further) x.status_is;
              now = h.now;
              fates_are = h.fates_are ∙ ap (λ (fs : List Fate). served h.now h.changes h.given true ∷ fs) no_others
                  ∙ ap (λ (cs : List Change). served h.now cs h.given true ∷ []) x.none
                  ∙ ap (λ (g : Answer). served h.now [] g true ∷ []) (given_is ∙ is ∙ ap (λ (n : ℕ). answer.Refused n tag further) x.status_is);
              dropped = c.changes;
              drops = c.step.0;
              later_is = later_is;
              is = ap (λ (n : ℕ). refused (refusal.Refused n tag)) x.status_is;
            }))),
          )

      -- it is made
      made_so : (token identifier uuid : Bytes) → given ≡ answer.Account token identifier uuid → CommitsStep (adopts set token) here later turn → Comes turn
      made_so token identifier uuid is (inl (none, over_is)) = fails turn (refused refusal.Memory) over_is (inl refl)
      made_so token identifier uuid is (inr (changes, rest, step, inl (batch, one, on_is))) =
          inr (
            record { made = suc made; rows = rows_after there changes; words = rest },
            on_is,
            record {
              owner = owner;
              sets = sets;
              holds = holds;
              set = set;
              left = left;
              new = new;
              kept = kept;
              keeps = keeps;
              token = token;
              identifier = identifier;
              uuid = uuid;
              adopted = changes;
              rest = rest;
              step = step;
              acts_are = are ∙ ap (λ (xs : List Act). committed (asks set) kept ∷ asked change (said given) ∷ xs) one
                  ∙ ap (λ (g : Answer). committed (asks set) kept ∷ asked change (said g) ∷ committed (adopts set token) changes ∷ []) is;
              q_is = refl;
            },
          )
      made_so token identifier uuid is (inr (changes, rest, step, inr (z, none, inl (batch, stops), over_is))) =
          fails turn z over_is (inr (adopts set token, changes, stops))
      made_so token identifier uuid is (inr (changes, rest, step, inr (z, none, inr (inl (large, stops)), over_is))) =
          inl (
            z,
            over_is,
            inr (inr (inr (inl (record {
              makes = record {
                change = record {
                  owner = owner;
                  sets = sets;
                  holds = holds;
                  set = set;
                  left = left;
                  new = new;
                  kept = kept;
                  keeps = keeps;
                  given = given;
                  later = later;
                  acts_are = are;
                };
                token = token;
                identifier = identifier;
                uuid = uuid;
                given_is = is;
                adopted = changes;
                left = rest;
                step = step;
              };
              large = large;
              no_more = none;
              is = stops;
            })))),
          )
      made_so token identifier uuid is (inr (changes, rest, step, inr (z, none, inr (inr stops), over_is))) = fails turn z over_is (inl stops)

      -- it isn't denied
      denied_not : (status : ℕ) (tag : Bytes) (further : More) → given ≡ answer.Refused status tag further → status ≡ 401 → ⊥
      denied_not status tag further is denied =
          let rule : Rule v.server change h.now h.changes (answer.Refused status tag further) =
          subst (λ (z : Rows). Rule z change h.now h.changes (answer.Refused status tag further)) (sym k.server_is)
          (subst (λ (g : Answer). Rule server change h.now h.changes g) (given_is ∙ is) h.rule) in
          not_denied apart secret v t k.holds name owner sets (subst (λ (z : Rows). HasSets z owner sets) (sym k.device_is) holds) last rule.0 rule.1 set.pw
          set.params.pw_cost set.params.pw_nonce h.changes (answer.Refused status tag further) status tag further refl rule.2 denied

      answered_so : (g : Answer) → given ≡ g → AnswersChange owner sets.present set g here later turn → Comes turn
      answered_so (answer.Account token identifier uuid) is so = made_so token identifier uuid is so
      answered_so (answer.Refused status tag further) is (inl (denied, so)) = absurd (denied_not status tag further is denied)
      answered_so (answer.Refused status tag further) is (inr (other, so)) = refused_so status tag further is other so
      answered_so (answer.Params params) is so = absurd so
      answered_so (answer.Sync conflicts cursor retrieved saved token) is so = absurd so

    hears_so : (reply : Reply) (later : List Act) → Heard server change reply later fates → acts ≡ committed (asks set) kept ∷ asked change reply ∷ later
        → Hears (AnswersChange owner sets.present set) reply here later turn → Comes turn
    hears_so reply later h are hears =
        with_answer (subst (λ (z : Reply). Hears (AnswersChange owner sets.present set) z here later turn) h.said_is hears)
      where
        with_answer : Hears (AnswersChange owner sets.present set) (said h.given) here later turn → Comes turn
        with_answer (inl (none, over_is)) = fails turn (refused refusal.Memory) over_is (inl refl)
        with_answer (inr so) =
            answered_so later h.given
            (record {
              now = h.now;
              changes = h.changes;
              given = h.given;
              others = h.others;
              rule = h.rule;
              said_is = refl;
              fates_are = h.fates_are;
              over = h.over;
            })
            refl (are ∙ ap (λ (z : Reply). committed (asks set) kept ∷ asked change z ∷ later) h.said_is) h.given refl so

    host_so : (rest : List Act) → acts ≡ committed (asks set) kept ∷ rest
        → AsksHost change (AnswersChange owner sets.present set) (record { made = made; rows = there; words = left }) rest turn → Comes turn
    host_so rest are (inl (none, over_is)) = fails turn (refused refusal.Memory) over_is (inl refl)
    host_so rest are (inr (inl (all, none))) = absurd (omega (arith, few, all))
    host_so rest are (inr (inr (less, (reply, later, is, hears)))) =
        let whole : acts ≡ committed (asks set) kept ∷ asked change reply ∷ later = are ∙ ap (λ (xs : List Act). committed (asks set) kept ∷ xs) is in
        hears_so reply later (heard server change reply later fates (subst (λ (xs : List Act). AreServed server xs fates) whole over) arrive) whole hears

  drawn_so : (turn : Turn) → made < most_exchanges → (owner : OwnerRow) (sets : Sets) → HasSets at.rows owner sets → (set : KeySet) (left : ChaCha)
      → IsNewSet at.words owner.identifier password cost set left
      → Then (CommitsStep (asks set)) (AsksHost (change_to owner sets.present set) (AnswersChange owner sets.present set))
      (record { made = made; rows = at.rows; words = left }) acts turn → Comes turn
  drawn_so turn few owner sets holds set left new (inl (z, first, over_is)) =
      fails turn z over_is
      (commit_over (asks set) (record { made = made; rows = at.rows; words = left }) acts z
      (λ changes rest step. asks_fit at.rows set changes password set.params new.keys step.0) first)
  drawn_so turn few owner sets holds set left new (inr (front, q, rest, first, next, are)) =
      let c = commit_on (asks set) (record { made = made; rows = at.rows; words = left }) front q first in
      let words_are : c.left ≡ left = c.step.1 in
      let q_is : q ≡ record { made = made; rows = rows_after at.rows c.changes; words = left } =
      c.q_is ∙ ap (λ (z : ChaCha). record { made = made; rows = rows_after at.rows c.changes; words = z }) words_are in
      host_so turn few owner sets holds set left new c.changes (c.step.0, refl) rest (are ∙ ap (λ (xs : List Act). xs ++ rest) c.acts_are)
      (subst (λ (z : Point). AsksHost (change_to owner sets.present set) (AnswersChange owner sets.present set) z rest turn) q_is next)

  pub asks_comes : (turn : Turn) → AsksFor password cost (point made at) acts turn → Comes turn
  asks_comes turn (inl (none, is)) = fails turn (refused refusal.Memory) is (inl refl)
  asks_comes turn (inr (owner, sets, holds, inl (why, refuses, (none, is)))) = inl (refused why, is, inl (owner, sets, holds, why, refuses, (none, refl)))
  asks_comes turn (inr (owner, sets, holds, inr (may, inl (all, (none, is))))) =
      inl (refused refusal.RoundsUsed, is, inr (inl (all, (none, refl))))
  asks_comes turn (inr (owner, sets, holds, inr (may, inr (few, (set, left, new, so))))) = drawn_so turn few owner sets holds set left new so

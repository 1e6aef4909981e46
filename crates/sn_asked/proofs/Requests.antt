-- A request whose answer arrives, and a commit: how each ends a call, or where the call goes on.
use Rattle.std.proofs.Common.{◌≡◌, ◌<◌, ◌⊎◌, ℕ, suc, List, [], ◌∷◌, ◌++◌, true, false, refl, ap, ◌∙◌, subst, inl, inr, arith}
use Rattle.rand_chacha.specs.ChaCha.{ChaCha}
use Rattle.sn_account.specs.Rule.{Rule}
use Rattle.sn_device.specs.Asking.{Reply, said}
use Rattle.sn_device.specs.Runs.{Act, AsksHost, CommitsStep, Drops, Halt, Hears, IsBatch, Point, Turn, asked, commits as committed, goes_on, is_over, most_exchanges, refused}
use Rattle.sn_device.specs.Steps.{Forgets, Step, What, forgets}
use Rattle.sn_device.specs.declared.error.ClientError.{ClientError}
use Rattle.sn_device.specs.declared.error.ClientError.TheVariants as refusal
use Rattle.sn_laws.specs.Each.{Each}
use Rattle.sn_ready.proofs.ChangeSizes.{forgets_fit}
use Rattle.sn_ready.proofs.RowEnds.{Fails}
use Rattle.sn_rows.specs.Spelling.{spelled}
use Rattle.sn_rows.specs.Table.{Rows, rows_after}
use Rattle.sn_rows.specs.declared.change.Change.{Change}
use Rattle.sn_sync.specs.Fits.{FitsRequest}
use Rattle.sn_sync.specs.declared.answer.Answer.{Answer}
use Rattle.sn_sync.specs.declared.request.Request.{Request}
use Rattle.sn_world.specs.Answering.{Arrives}
use Rattle.sn_world.specs.Calls.{AreServed, Fate, crashed, served, undelivered}
use Rattle.std.specs.Prelude.{length}

-- ---- a request

-- it is served, and its answer arrives
pub record Heard (server : Rows) (r : Request) (reply : Reply) (later : List Act) (fates : List Fate) : Type 0 where
  pub now : ℕ
  pub changes : List Change
  pub given : Answer
  pub others : List Fate
  pub fits : FitsRequest r
  pub rule : Rule server r now changes given
  pub said_is : reply ≡ said given
  pub fates_are : fates ≡ served now changes given true ∷ others
  pub over : AreServed (rows_after server changes) later others
  pub arrive : Each Arrives others

heard : (server : Rows) (r : Request) (reply : Reply) (later : List Act) (fates : List Fate) → AreServed server (asked r reply ∷ later) fates
    → Each Arrives fates → Heard server r reply later fates
heard server r reply later [] over arrive = absurd over
heard server r reply later (undelivered ∷ fates) over arrive = absurd arrive.0
heard server r reply later (crashed now changes given ∷ fates) over arrive = absurd arrive.0
heard server r reply later (served now changes given false ∷ fates) over arrive = absurd (let e = arrive.0 in cc)
heard server r reply later (served now changes given true ∷ fates) ((fits, rule, back), rest) arrive = record {
  now = now;
  changes = changes;
  given = given;
  others = fates;
  fits = fits;
  rule = rule;
  said_is = back;
  fates_are = refl;
  over = rest;
  arrive = arrive.1;
}

-- the call made one more
abbrev pub one_more : Point → Point
one_more p = record { made = suc p.made; rows = p.rows; words = p.words }

-- and the call goes on with it
pub record GoesOn (server : Rows) (r : Request) (next : Answer → Point → List Act → Turn → Type 0) (p : Point) (acts : List Act) (fates : List Fate)
    (turn : Turn) : Type 0 where
  pub given : Answer
  pub later : List Act
  pub acts_are : acts ≡ asked r (said given) ∷ later
  pub now : ℕ
  pub changes : List Change
  pub others : List Fate
  pub fits : FitsRequest r
  pub rule : Rule server r now changes given
  pub fates_are : fates ≡ served now changes given true ∷ others
  pub over : AreServed (rows_after server changes) later others
  pub arrive : Each Arrives others
  pub so : next given (one_more p) later turn

-- where fewer were made than may be, it ends the call for want of memory alone
pub host_goes : (server : Rows) (r : Request) (next : Answer → Point → List Act → Turn → Type 0) (p : Point) (acts : List Act) (fates : List Fate) (turn : Turn)
    → p.made < most_exchanges → AsksHost r next p acts turn → AreServed server acts fates → Each Arrives fates
    → (turn ≡ is_over (refused refusal.Memory)) ⊎ GoesOn server r next p acts fates turn
host_goes server r next p acts fates turn few (inl (none, is)) over arrive = inl is
host_goes server r next p acts fates turn few (inr (inl (all, none))) over arrive = absurd (omega (arith, few, all))
host_goes server r next p acts fates turn few (inr (inr (less, (reply, later, is, hears)))) over arrive =
    by (subst (λ (z : Reply). Hears next z (one_more p) later turn) h.said_is hears)
  where
    h : Heard server r reply later fates
    h = heard server r reply later fates (subst (λ (xs : List Act). AreServed server xs fates) is over) arrive

    by : Hears next (said h.given) (one_more p) later turn → (turn ≡ is_over (refused refusal.Memory)) ⊎ GoesOn server r next p acts fates turn
    by (inl (none, over_is)) = inl over_is
    by (inr so) = inr (record {
      given = h.given;
      later = later;
      acts_are = is ∙ ap (λ (z : Reply). asked r z ∷ later) h.said_is;
      now = h.now;
      changes = h.changes;
      others = h.others;
      fits = h.fits;
      rule = h.rule;
      fates_are = h.fates_are;
      over = h.over;
      arrive = h.arrive;
      so = so;
    })

-- ---- a commit

-- it is made
pub record Committed (what : What) (p : Point) (acts : List Act) (q : Point) : Type 0 where
  pub changes : List Change
  pub left : ChaCha
  pub step : Step p.rows p.words what changes left
  pub acts_are : acts ≡ committed what changes ∷ []
  pub q_is : q ≡ record { made = p.made; rows = rows_after p.rows changes; words = left }

-- it changes more than a batch
pub record TooLarge (what : What) (p : Point) (acts : List Act) (halt : Halt) : Type 0 where
  pub changes : List Change
  pub left : ChaCha
  pub step : Step p.rows p.words what changes left
  pub large : ¬ (IsBatch changes)
  pub none : acts ≡ []
  pub is : halt ≡ refused (refusal.TooLarge (length (spelled changes)))

-- one or the other, or it fails for want of memory or by the disk
pub commit_goes : (what : What) (p : Point) (acts : List Act) (turn : Turn) → CommitsStep what p acts turn
    → ((q : Point) × (turn ≡ goes_on q) × Committed what p acts q) ⊎ ((halt : Halt) × (turn ≡ is_over halt) × (TooLarge what p acts halt ⊎ Fails halt))
commit_goes what p acts turn (inl (none, is)) = inr (refused refusal.Memory, is, inr (inl refl))
commit_goes what p acts turn (inr (changes, left, step, inl (batch, one, is))) =
    inl (
      record { made = p.made; rows = rows_after p.rows changes; words = left },
      is,
      record { changes = changes; left = left; step = step; acts_are = one; q_is = refl },
    )
commit_goes what p acts turn (inr (changes, left, step, inr (h, none, inl (batch, stops), is))) = inr (h, is, inr (inr (what, changes, stops)))
commit_goes what p acts turn (inr (changes, left, step, inr (h, none, inr (inl (large, stops)), is))) =
    inr (h, is, inl (record { changes = changes; left = left; step = step; large = large; none = none; is = stops }))
commit_goes what p acts turn (inr (changes, left, step, inr (h, none, inr (inr stops), is))) = inr (h, is, inr (inl stops))

-- ---- the set that was asked for is dropped

pub record Dropped (why : ClientError) (p : Point) (acts : List Act) (turn : Turn) : Type 0 where
  pub dropped : List Change
  pub drops : Forgets p.rows dropped
  pub acts_are : acts ≡ committed forgets dropped ∷ []
  pub is : turn ≡ is_over (refused why)

pub drops_goes : (why : ClientError) (p : Point) (acts : List Act) (turn : Turn) → Drops why p acts turn
    → Dropped why p acts turn ⊎ ((halt : Halt) × (turn ≡ is_over halt) × Fails halt)
drops_goes why p acts turn (inl (halt, first, is)) = by (commit_goes forgets p acts (is_over halt) first)
  where
    by : ((q : Point) × (is_over halt ≡ goes_on q) × Committed forgets p acts q)
        ⊎ ((z : Halt) × (is_over halt ≡ is_over z) × (TooLarge forgets p acts z ⊎ Fails z))
        → Dropped why p acts turn ⊎ ((z : Halt) × (turn ≡ is_over z) × Fails z)
    by (inl (q, on, c)) = absurd (cc)
    by (inr (z, same, inl x)) = absurd (x.large (forgets_fit p.rows x.changes x.step.0))
    by (inr (z, same, inr fails)) = inr (z, is ∙ same, fails)
drops_goes why p acts turn (inr (front, q, later, first, (none, is), are)) = by (commit_goes forgets p front (goes_on q) first)
  where
    by : ((y : Point) × (goes_on q ≡ goes_on y) × Committed forgets p front y)
        ⊎ ((z : Halt) × (goes_on q ≡ is_over z) × (TooLarge forgets p front z ⊎ Fails z))
        → Dropped why p acts turn ⊎ ((z : Halt) × (turn ≡ is_over z) × Fails z)
    by (inl (y, on, c)) = inl (record {
      dropped = c.changes;
      drops = c.step.0;
      acts_are = are ∙ ap (λ (xs : List Act). front ++ xs) none ∙ ap (λ (xs : List Act). xs ++ []) c.acts_are;
      is = is;
    })
    by (inr (z, ended, x)) = absurd (cc)

-- A call piece by piece: each request of a piece is readable, and so are those behind it, where the call goes on from ready rows.
use Rattle.std.proofs.Common.{◌≡◌, ℕ, suc, List, [], ◌∷◌, ◌++◌, sym, ap, ◌∙◌, subst, inl, inr, append-nil, append_assoc}
use Rattle.sn_device.specs.Asking.{Reply, lost, said, unheard, unread}
use Rattle.sn_device.specs.Runs.{Act, AnswersNothing, AsksHost, CommitsStep, EndsBy, Halt, Hears, Point, Then, Turn, asked, goes_on, is_over, posting, refused}
use Rattle.sn_device.specs.States.{Bytes}
use Rattle.sn_device.specs.Steps.{What}
use Rattle.sn_device.specs.declared.error.ClientError.{ClientError}
use Rattle.sn_device.specs.declared.error.ClientError.TheVariants as refusal
use Rattle.sn_link.specs.Laws.{IsReadable}
use Rattle.sn_rows.specs.Table.{Rows}
use Rattle.sn_rows.specs.declared.change.Change.{Change}
use Rattle.sn_sync.specs.declared.answer.Answer.{Answer}
use Rattle.sn_sync.specs.declared.request.Request.{Request}
use Rattle.sn_world.specs.Calls.{rows_behind}
use Rattle.sn_readable.proofs.Ready.{IsReady, LeavesReady}
use Rattle.sn_readable.specs.Laws.{AreReadableBy}

-- ---- acts, over whatever rows the server has

abbrev pub AreReadableAnyhow : Bytes → List Act → Type 0
AreReadableAnyhow host acts = (server : Rows) → AreReadableBy host server acts

pub none_readable : (host : Bytes) (acts : List Act) → acts ≡ [] → AreReadableAnyhow host acts
none_readable host acts none = subst (AreReadableAnyhow host) (sym none) (λ server. tt)

-- a request, and what comes behind it whatever became of it
pub asked_readable : (host : Bytes) (r : Request) (reply : Reply) (later : List Act) → IsReadable host r → AreReadableAnyhow host later
    → AreReadableAnyhow host (asked r reply ∷ later)
asked_readable host r reply later one rest server = (one, λ fate answered. rest (rows_behind server fate))

pub posting_readable : (host : Bytes) (numbers : List ℕ) (posted : List Change) (later : List Act) → AreReadableAnyhow host later
    → AreReadableAnyhow host (posting numbers posted ++ later)
posting_readable host [] posted later rest = rest
posting_readable host (number ∷ numbers) posted later rest = rest

module _ (host : Bytes) where
  abbrev Good : List Act → Type 0
  Good acts = AreReadableAnyhow host acts

  -- ---- pieces

  -- what comes behind a piece is readable, of ready rows where the call goes on
  abbrev pub Follows : Turn → List Act → Type 0
  Follows (goes_on q) later = IsReady q.rows → Good later
  Follows (is_over halt) later = Good later

  -- then so is the piece with it, of ready rows
  abbrev pub Reads : (Point → List Act → Turn → Type 0) → Type 0
  Reads piece = (p : Point) (acts : List Act) (turn : Turn) (later : List Act) → IsReady p.rows → piece p acts turn → Follows turn later
      → Good (acts ++ later)

  pub over_reads : (acts : List Act) (turn : Turn) (halt : Halt) (later : List Act) → acts ≡ [] → turn ≡ is_over halt → Follows turn later
      → Good (acts ++ later)
  over_reads acts turn halt later none e follows =
      subst (λ (xs : List Act). Good (xs ++ later)) (sym none) (subst (λ (t : Turn). Follows t later) e follows)

  pub ends_read : (why : ClientError) → Reads (EndsBy why)
  ends_read why p acts turn later good (none, e) follows = over_reads acts turn (refused why) later none e follows

  pub then_read : (first next : Point → List Act → Turn → Type 0) → Reads first → Reads next → Reads (Then first next)
  then_read first next one two p acts turn later good (inl (halt, over, e)) follows =
      one p acts (is_over halt) later good over (subst (λ (t : Turn). Follows t later) e follows)
  then_read first next one two p acts turn later good (inr (front, q, behind, goes, so, e)) follows =
      subst Good (sym (ap (λ (xs : List Act). xs ++ later) e ∙ append_assoc front behind later))
      (one p front (goes_on q) (behind ++ later) good goes (λ there. two q behind turn later there so follows))

  pub commit_reads : (what : What) → LeavesReady what → Reads (CommitsStep what)
  commit_reads what leaves p acts turn later good (inl ends) follows = ends_read refusal.Memory p acts turn later good ends follows
  commit_reads what leaves p acts turn later good (inr (changes, left, step, inl (batch, e, goes))) follows =
      subst (λ (xs : List Act). Good (xs ++ later)) (sym e)
      ((subst (λ (t : Turn). Follows t later) goes follows) (leaves p.rows p.words left changes good step))
  commit_reads what leaves p acts turn later good (inr (changes, left, step, inr (halt, none, stops, e))) follows =
      over_reads acts turn halt later none e follows

  -- ---- requests

  -- each answer's piece is so
  abbrev pub ReadsEach : (Answer → Point → List Act → Turn → Type 0) → Type 0
  ReadsEach next = (given : Answer) → Reads (next given)

  hears_read : (next : Answer → Point → List Act → Turn → Type 0) → ReadsEach next → (reply : Reply) → Reads (Hears next reply)
  hears_read next so lost p acts turn later good (inl ends) follows = ends_read refusal.LinkFault p acts turn later good ends follows
  hears_read next so lost p acts turn later good (inr ends) follows = ends_read refusal.Memory p acts turn later good ends follows
  hears_read next so unheard p acts turn later good ends follows = ends_read refusal.Memory p acts turn later good ends follows
  hears_read next so (unread at) p acts turn later good (inl ends) follows = ends_read (refusal.BadAnswer at) p acts turn later good ends follows
  hears_read next so (unread at) p acts turn later good (inr ends) follows = ends_read refusal.Memory p acts turn later good ends follows
  hears_read next so (said given) p acts turn later good (inl ends) follows = ends_read refusal.Memory p acts turn later good ends follows
  hears_read next so (said given) p acts turn later good (inr goes) follows = so given p acts turn later good goes follows

  pub asks_read : (r : Request) (next : Answer → Point → List Act → Turn → Type 0) → IsReadable host r → ReadsEach next → Reads (AsksHost r next)
  asks_read r next one so p acts turn later good (inl ends) follows = ends_read refusal.Memory p acts turn later good ends follows
  asks_read r next one so p acts turn later good (inr (inl (most, ends))) follows = ends_read refusal.RoundsUsed p acts turn later good ends follows
  asks_read r next one so p acts turn later good (inr (inr (less, (reply, behind, e, hears)))) follows =
      subst (λ (xs : List Act). Good (xs ++ later)) (sym e)
      (asked_readable host r reply (behind ++ later) one
      (hears_read next so reply (record { made = suc p.made; rows = p.rows; words = p.words }) behind turn later good hears follows))

  -- ---- the end as a call's

  pub answers_readable : (piece : Point → List Act → Turn → Type 0) → Reads piece → (p : Point) (acts : List Act) (halt : Halt) → IsReady p.rows
      → AnswersNothing piece p acts halt → Good acts
  answers_readable piece so p acts halt good (inl over) = subst Good (append-nil acts) (so p acts (is_over halt) [] good over (λ server. tt))
  answers_readable piece so p acts halt good (inr (q, goes, e)) =
      subst Good (append-nil acts) (so p acts (goes_on q) [] good goes (λ there server. tt))

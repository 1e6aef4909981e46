-- Exchanges until nothing is left: each request is readable, where those before it were answered as the server answers.
use Rattle.std.proofs.Common.{ℕ, List, [], ◌∷◌, ◌++◌, None, refl, sym, ap, ◌∙◌, subst, inl, inr, append_assoc}
use Rattle.std.specs.List.{flat_map}
use Rattle.std.proofs.lemmas.List.Concat.{flat_map-cons}
use Rattle.rand_chacha.specs.ChaCha.{ChaCha}
use Rattle.sn_device.specs.Asking.{said}
use Rattle.sn_device.specs.Runs.{Act, AreRounds, EndsExchange, EndsSync, Exchanges, Halt, IsRound, Round, Sends, Standing, Turn, acts_of, asked, commits, posting}
use Rattle.sn_device.specs.States.{Bytes}
use Rattle.sn_device.specs.Steps.{applies}
use Rattle.sn_link.specs.Laws.{IsAnswered, IsReadable, ReadableWithin}
use Rattle.sn_rows.specs.Table.{Rows}
use Rattle.sn_rows.specs.declared.change.Change.{Change}
use Rattle.sn_sync.specs.declared.answer.Answer.{Answer}
use Rattle.sn_sync.specs.declared.request.Request.{Request}
use Rattle.sn_world.specs.Calls.{Fate, rows_behind}
use Rattle.sn_world.specs.Fitting.{StepsFit}
use Rattle.sn_readable.proofs.Pieces.{AreReadableAnyhow, Follows, Reads, asked_readable, over_reads, posting_readable}
use Rattle.sn_readable.proofs.Ready.{IsReady, applied_ready, posted_ready}
use Rattle.sn_readable.proofs.Sent.{sends_readable}
use Rattle.sn_readable.proofs.Tokens.{IsShortAnswer, answered_short}
use Rattle.sn_readable.specs.Laws.{IsHostName}

-- what is sent is a sync, so an answer to it has short tokens
heard_short : (rows ready server : Rows) (numbers : List ℕ) (posted : List Change) (r : Request) (given : Answer) (fate : Fate)
    → Sends rows numbers posted r ready → IsAnswered server r (said given) fate → IsShortAnswer given
heard_short rows ready server numbers posted r given fate sends answered =
    let sent = sends.request_is in
    answered_short server _ sent.items _ _ _ given fate (subst (λ (q : Request). IsAnswered server q (said given) fate) sent.request_is answered)

module _ (within : ReadableWithin) (steps : StepsFit) (host : Bytes) (named : IsHostName host) where
  abbrev Good : List Act → Type 0
  Good acts = AreReadableAnyhow host acts

  sent_readable : (rows ready : Rows) (numbers : List ℕ) (posted : List Change) (r : Request) → IsReady rows → Sends rows numbers posted r ready
      → IsReadable host r
  sent_readable rows ready numbers posted r good sends =
      sends_readable within host named rows numbers posted r ready good.fits.sound good.fits.uuids good.tokens sends

  -- ---- an exchange whose answer is applied

  round_ready : (at : Standing) (round : Round) (after : Standing) → IsReady at.rows → IsRound at round after → IsShortAnswer round.given → IsReady after.rows
  round_ready at round after good is short =
      let ready : IsReady is.ready =
      subst IsReady (sym is.sends.ready_is) (posted_ready steps round.numbers at.rows at.words at.words round.posted good (is.sends.posts_them, refl)) in
      subst (λ (z : Standing). IsReady z.rows) (sym is.after_is)
      (applied_ready steps round.request round.given short is.ready at.words is.left round.applied ready is.step)

  round_readable : (at : Standing) (round : Round) (after : Standing) (later : List Act) → IsReady at.rows → IsRound at round after
      → (IsReady after.rows → Good later) → Good (acts_of round ++ later)
  round_readable at round after later good is rest =
      subst Good
      (sym (append_assoc (posting round.numbers round.posted) (asked round.request (said round.given) ∷ commits (applies round.request round.given) round.applied ∷ []) later))
      (posting_readable host round.numbers round.posted (asked round.request (said round.given) ∷ commits (applies round.request round.given) round.applied ∷ later)
      (λ server. (
        sent_readable at.rows is.ready round.numbers round.posted round.request good is.sends,
        λ fate answered.
            rest (round_ready at round after good is
            (heard_short at.rows is.ready server round.numbers round.posted round.request round.given fate is.sends answered)) (rows_behind server fate),
      )))

  rounds_readable : (at : Standing) (rounds : List Round) (after : Standing) (later : List Act) → IsReady at.rows → AreRounds at rounds after
      → (IsReady after.rows → Good later) → Good (flat_map acts_of rounds ++ later)
  rounds_readable at [] after later good e rest = rest (subst (λ (z : Standing). IsReady z.rows) (sym e) good)
  rounds_readable at (round ∷ rounds) after later good (between, is, others) rest =
      subst Good
      (sym (ap (λ (xs : List Act). xs ++ later) (flat_map-cons acts_of round rounds) ∙ append_assoc (acts_of round) (flat_map acts_of rounds) later))
      (round_readable at round between (flat_map acts_of rounds ++ later) good is
      (λ there. rounds_readable between rounds after later there others rest))

  -- ---- the end

  exchange_readable : (words : ChaCha) (rows ready : Rows) (numbers : List ℕ) (posted : List Change) (r : Request) (acts : List Act) (halt : Halt)
      (later : List Act) → IsReady rows → Sends rows numbers posted r ready → EndsExchange words numbers posted r ready acts halt → Good later
      → Good (acts ++ later)
  exchange_readable words rows ready numbers posted r acts halt later good sends (inl (some, e, stops)) rest =
      subst (λ (xs : List Act). Good (xs ++ later)) (sym e) rest
  exchange_readable words rows ready numbers posted r acts halt later good sends (inr (batch, inl (e, ends))) rest =
      subst (λ (xs : List Act). Good (xs ++ later)) (sym e) (posting_readable host numbers posted later rest)
  exchange_readable words rows ready numbers posted r acts halt later good sends (inr (batch, inr (reply, e, ends))) rest =
      subst Good (sym (ap (λ (xs : List Act). xs ++ later) e ∙ append_assoc (posting numbers posted) (asked r reply ∷ []) later))
      (posting_readable host numbers posted (asked r reply ∷ later)
      (asked_readable host r reply later (sent_readable rows ready numbers posted r good sends) rest))

  end_reads : (count : ℕ) (at : Standing) (acts : List Act) (turn : Turn) (later : List Act) → IsReady at.rows → EndsSync count at acts turn
      → Follows host turn later → Good (acts ++ later)
  end_reads count at acts turn later good (inl (done, none, goes)) follows =
      subst (λ (xs : List Act). Good (xs ++ later)) (sym none) ((subst (λ (t : Turn). Follows host t later) goes follows) good)
  end_reads count at acts turn later good (inr (halt, e, inl (all, due, refuses))) follows = over_reads host acts turn halt later refuses.0 e follows
  end_reads count at acts turn later good (inr (halt, e, inr (inl (few, ends)))) follows =
      exchange_readable at.words at.rows ends.ready ends.numbers ends.posted ends.request acts halt later good ends.sends ends.ends_so
      (subst (λ (t : Turn). Follows host t later) e follows)
  end_reads count at acts turn later good (inr (halt, e, inr (inr wants))) follows = over_reads host acts turn halt later wants.0 e follows

  pub exchanges_read : Reads host Exchanges
  exchanges_read p acts turn later good x follows =
      subst Good (sym (ap (λ (xs : List Act). xs ++ later) x.acts_are ∙ append_assoc (flat_map acts_of x.rounds) x.later later))
      (rounds_readable (record { rows = p.rows; words = p.words; last = None }) x.rounds x.at (x.later ++ later) good x.went
      (λ there. end_reads _ x.at x.later turn later there x.ends follows))

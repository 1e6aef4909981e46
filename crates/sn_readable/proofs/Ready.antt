-- A device's rows of which what it sends is readable: what commits of a sync and of a change of password leave of them.
use Rattle.std.proofs.Common.{◌≡◌, ℕ, List, [], ◌∷◌, ◌≤◌, length, Option, sym, ap, ◌∙◌, subst, inl, inr}
use Rattle.rand_chacha.specs.ChaCha.{ChaCha}
use Rattle.sn_device.proofs.Facts.{RetiresOlder, adopted, after_append, beside, one_owner, past_asked, posts_items, retires_older}
use Rattle.sn_device.specs.Sending.{PostsAll}
use Rattle.sn_device.specs.States.{Bytes, HasOwner, OwnerColumns, text_of_token, token_of}
use Rattle.sn_device.specs.Steps.{Adopts, AppliesAnswer, AppliesTo, Asks, Forgets, Step, What, adopts, applies, asks, forgets, posts}
use Rattle.sn_rows.specs.Facts.{put_here, removed_elsewhere}
use Rattle.sn_rows.specs.Table.{Puts, Rows, rows_after}
use Rattle.sn_rows.specs.declared.change.Change.{Change}
use Rattle.sn_rows.specs.declared.device_rows.OwnerRow.{OwnerRow}
use Rattle.sn_rows.specs.declared.key.Key.TheVariants as key
use Rattle.sn_rows.specs.declared.key.Slot.TheVariants.{Older}
use Rattle.sn_rows.specs.declared.value.Value.TheVariants as value
use Rattle.sn_string.specs.declared.params.KeySet.{KeySet}
use Rattle.sn_sync.specs.Fits.{AreBytes}
use Rattle.sn_sync.specs.declared.answer.Answer.{Answer}
use Rattle.sn_sync.specs.declared.answer.Answer.TheVariants as answer
use Rattle.sn_sync.specs.declared.item.Item.{Item}
use Rattle.sn_sync.specs.declared.request.Request.{Request}
use Rattle.sn_sync.specs.declared.request.Request.TheVariants as request
use Rattle.sn_world.specs.Fitting.{FitsRows, StepsFit}
use Rattle.sn_readable.proofs.Tokens.{HasShortTokens, IsShortAnswer, IsShortToken, TokensAreShort, cursor_short, token_short}

-- they are within their bounds, and the tokens of a sync are short
pub record IsReady (rows : Rows) : Type 0 where
  pub fits : FitsRows rows
  pub tokens : TokensAreShort rows

-- ---- the device's own row

posted_tokens : (rows : Rows) (numbers : List ℕ) (changes : List Change) → PostsAll rows numbers changes → TokensAreShort rows
    → TokensAreShort (rows_after rows changes)
posted_tokens rows numbers changes all short owner has =
    short owner (sym (beside rows changes key.Owner (posts_items rows numbers changes all) (λ e. cc)) ∙ has)

-- it is put last, but for a set that goes
counted_here : (mid : Rows) (c : Change) (retired : List Change) (owner : OwnerRow) → Puts c key.Owner (value.Owner owner) → RetiresOlder retired
    → HasOwner (rows_after mid (c ∷ retired)) owner
counted_here mid c retired owner puts (inl none) =
    subst (λ (x : List Change). HasOwner (rows_after mid (c ∷ x)) owner) (sym none) (put_here mid c key.Owner (value.Owner owner) puts)
counted_here mid c retired owner puts (inr (d, removes, is)) =
    subst (λ (x : List Change). HasOwner (rows_after mid (c ∷ x)) owner) (sym is)
    (removed_elsewhere (rows_after mid (c ∷ [])) d (key.Set Older) key.Owner removes (λ e. cc) ∙ put_here mid c key.Owner (value.Owner owner) puts)

columns_short : (owner : OwnerRow) (token : Bytes) (cursor : Option Bytes) → owner.sync_token ≡ token → owner.cursor_token ≡ text_of_token cursor
    → IsShortToken cursor → length token ≤ 1024 → HasShortTokens owner
columns_short owner token cursor sync page one two = (
  subst (λ (t : Bytes). IsShortToken (token_of t)) (sym sync) (token_short token two),
  subst (λ (t : Bytes). IsShortToken (token_of t)) (sym page) (cursor_short cursor one),
)

answer_tokens : (rows : Rows) (words left : ChaCha) (sent : List Item) (given : Answer) (changes : List Change) → IsShortAnswer given
    → AppliesAnswer rows words sent given changes left → TokensAreShort (rows_after rows changes)
answer_tokens rows words left sent (answer.Sync conflicts cursor retrieved saved token) changes short s = λ owner has.
    (let put = s.counted_is in
    let here : HasOwner (rows_after (rows_after rows s.end.changes) (s.counted ∷ s.retired)) put.owner =
    counted_here (rows_after rows s.end.changes) s.counted s.retired put.owner put.puts_it
    (retires_older s.end.rows cursor s.sets.older s.retired s.retires) in
    let all : rows_after rows changes ≡ rows_after (rows_after rows s.end.changes) (s.counted ∷ s.retired) =
    ap (rows_after rows) s.changes_are ∙ after_append rows s.end.changes (s.counted ∷ s.retired) in
    let there : HasOwner (rows_after rows changes) put.owner = ap (λ (r : Rows). r key.Owner) all ∙ here in
    let same : put.owner ≡ owner = one_owner (rows_after rows changes) put.owner owner there has in
    subst HasShortTokens same
    (columns_short put.owner token cursor (ap (λ (c : OwnerColumns). c.sync_token) put.columns_are)
    (ap (λ (c : OwnerColumns). c.cursor_token) put.columns_are) short.0 short.1))
answer_tokens rows words left sent (answer.Account token identifier uuid) changes short s = absurd s
answer_tokens rows words left sent (answer.Params params) changes short s = absurd s
answer_tokens rows words left sent (answer.Refused status tag more) changes short s = absurd s

applied_tokens : (rows : Rows) (words left : ChaCha) (r : Request) (given : Answer) (changes : List Change) → IsShortAnswer given
    → AppliesTo rows words r given changes left → TokensAreShort (rows_after rows changes)
applied_tokens rows words left (request.Sync token items limit sync_token cursor_token) given changes short s =
    answer_tokens rows words left items given changes short s
applied_tokens rows words left (request.Register params pw) given changes short s = absurd s
applied_tokens rows words left (request.Params identifier) given changes short s = absurd s
applied_tokens rows words left (request.SignIn identifier pw) given changes short s = absurd s
applied_tokens rows words left (request.ChangePw token current pw cost nonce) given changes short s = absurd s

-- ---- the same row, where a set is asked for or dropped; with another session token, where one is adopted

same_tokens : (rows now : Rows) → now key.Owner ≡ rows key.Owner → TokensAreShort rows → TokensAreShort now
same_tokens rows now same short owner has = short owner (sym same ∙ has)

asked_tokens : (rows : Rows) (set : KeySet) (changes : List Change) → Asks rows set changes → TokensAreShort rows → TokensAreShort (rows_after rows changes)
asked_tokens rows set changes s short =
    subst (λ (cs : List Change). TokensAreShort (rows_after rows cs)) (sym s.changes_are)
    (same_tokens rows (rows_after rows (s.change ∷ [])) (past_asked rows s.change key.Owner s.put.puts.key_is (λ e. cc)) short)

forgotten_tokens : (rows : Rows) (changes : List Change) → Forgets rows changes → TokensAreShort rows → TokensAreShort (rows_after rows changes)
forgotten_tokens rows changes s short =
    subst (λ (cs : List Change). TokensAreShort (rows_after rows cs)) (sym s.changes_are)
    (same_tokens rows (rows_after rows (s.change ∷ [])) (past_asked rows s.change key.Owner s.removes.key_is (λ e. cc)) short)

same_short : (old new : OwnerRow) → new.sync_token ≡ old.sync_token → new.cursor_token ≡ old.cursor_token → HasShortTokens old → HasShortTokens new
same_short old new sync page short = (
  subst (λ (t : Bytes). IsShortToken (token_of t)) (sym sync) short.0,
  subst (λ (t : Bytes). IsShortToken (token_of t)) (sym page) short.1,
)

adopted_tokens : (rows : Rows) (words left : ChaCha) (set : KeySet) (token : Bytes) (changes : List Change) → Adopts rows words set token changes left
    → TokensAreShort rows → TokensAreShort (rows_after rows changes)
adopted_tokens rows words left set token changes a short owner has =
    let behind = adopted rows words left set token changes a in
    let same : behind.later ≡ owner = one_owner (rows_after rows changes) behind.later owner behind.owned has in
    subst HasShortTokens same
    (same_short a.owner behind.later (ap (λ (c : OwnerColumns). c.sync_token) behind.columns_are) (ap (λ (c : OwnerColumns). c.cursor_token) behind.columns_are)
    (short a.owner a.holds.owned))

-- ---- behind a commit

-- it leaves such rows
abbrev pub LeavesReady : What → Type 0
LeavesReady what = (rows : Rows) (words left : ChaCha) (changes : List Change) → IsReady rows → Step rows words what changes left → IsReady (rows_after rows changes)

module _ (steps : StepsFit) where
  pub posted_ready : (numbers : List ℕ) → LeavesReady (posts numbers)
  posted_ready numbers rows words left changes ready step = record {
    fits = steps rows words left (posts numbers) changes ready.fits tt step;
    tokens = posted_tokens rows numbers changes step.0 ready.tokens;
  }

  pub applied_ready : (r : Request) (given : Answer) → IsShortAnswer given → LeavesReady (applies r given)
  applied_ready r given short rows words left changes ready step = record {
    fits = steps rows words left (applies r given) changes ready.fits tt step;
    tokens = applied_tokens rows words left r given changes short step;
  }

  pub asked_ready : (set : KeySet) → AreBytes 32 set.pw → LeavesReady (asks set)
  asked_ready set pw rows words left changes ready step = record {
    fits = steps rows words left (asks set) changes ready.fits pw step;
    tokens = asked_tokens rows set changes step.0 ready.tokens;
  }

  pub forgotten_ready : LeavesReady forgets
  forgotten_ready rows words left changes ready step = record {
    fits = steps rows words left forgets changes ready.fits tt step;
    tokens = forgotten_tokens rows changes step.0 ready.tokens;
  }

  pub adopted_ready : (set : KeySet) (token : Bytes) → AreBytes 32 set.pw → LeavesReady (adopts set token)
  adopted_ready set token pw rows words left changes ready step = record {
    fits = steps rows words left (adopts set token) changes ready.fits pw step;
    tokens = adopted_tokens rows words left set token changes step ready.tokens;
  }

-- The tokens of a sync that a server gives by its rule, and that a device's row has of these, are short.
use Rattle.std.proofs.Common.{◌≡◌, ◌⊎◌, ℕ, ◌≤◌, Bool, true, false, List, [], ◌∷◌, length, Option, Some, None, sym, subst, inl, inr, arith}
use Rattle.sn_account.specs.Pages.{Found}
use Rattle.sn_account.specs.Rule.{Rule}
use Rattle.sn_account.specs.Syncs.{AreTokens, Serves, ServesBounded, ServesFrom, Syncs}
use Rattle.sn_device.specs.Asking.{said}
use Rattle.sn_device.specs.States.{HasOwner, text_of_token, token_of}
use Rattle.sn_link.specs.Laws.{IsAnswered}
use Rattle.sn_rows.specs.Table.{Rows}
use Rattle.sn_rows.specs.declared.change.Change.{Change}
use Rattle.sn_rows.specs.declared.device_rows.OwnerRow.{OwnerRow}
use Rattle.sn_rows.specs.declared.server_rows.StoreRow.{StoreRow}
use Rattle.sn_server.specs.Replies.{no_memory}
use Rattle.sn_sync.proofs.Facts.{length-token-le}
use Rattle.sn_sync.specs.Members.{Bytes}
use Rattle.sn_sync.specs.Tokens.{IsToken}
use Rattle.sn_sync.specs.declared.answer.Answer.{Answer}
use Rattle.sn_sync.specs.declared.answer.Answer.TheVariants as answer
use Rattle.sn_sync.specs.declared.answer.More.{More}
use Rattle.sn_sync.specs.declared.item.Item.{Item}
use Rattle.sn_sync.specs.declared.request.Request.TheVariants as request
use Rattle.sn_world.specs.Calls.{ComesBack, Fate, crashed, served, undelivered}
use Rattle.sn_world.specs.Holds.{IsTokenBelow, TokensBelow}

-- a token of a sync is none, or has at most 1,024 bytes
abbrev pub IsShortToken : Option Bytes → Type 0
IsShortToken None = Unit {0}
IsShortToken (Some text) = length text ≤ 1024

-- ---- in a device's row

-- both are
abbrev pub HasShortTokens : OwnerRow → Type 0
HasShortTokens owner = IsShortToken (token_of owner.sync_token) × IsShortToken (token_of owner.cursor_token)

abbrev pub TokensAreShort : Rows → Type 0
TokensAreShort rows = (owner : OwnerRow) → HasOwner rows owner → HasShortTokens owner

pub token_short : (text : Bytes) → length text ≤ 1024 → IsShortToken (token_of text)
token_short [] short = tt
token_short (byte ∷ bytes) short = short

pub cursor_short : (cursor : Option Bytes) → IsShortToken cursor → IsShortToken (token_of (text_of_token cursor))
cursor_short None short = tt
cursor_short (Some text) short = token_short text short

stamped_short : (text : Bytes) (stamp : ℕ) → IsToken text stamp → length text ≤ 1024
stamped_short text stamp is = (let few = length-token-le text stamp is in omega arith)

below_short : (o : Option Bytes) (last : ℕ) → IsTokenBelow o last → IsShortToken o
below_short None last below = tt
below_short (Some text) last (stamp, is, within) = stamped_short text stamp is

page_short : (cursor sync : Option Bytes) → IsShortToken sync → (cursor ≡ None) ⊎ (cursor ≡ sync) → IsShortToken cursor
page_short cursor sync short (inl none) = subst IsShortToken (sym none) tt
page_short cursor sync short (inr same) = subst IsShortToken (sym same) short

-- of a device of which the invariant holds
pub below_are_short : (rows : Rows) (last : ℕ) → TokensBelow rows last → TokensAreShort rows
below_are_short rows last below owner has =
    let b = below owner has in
    let sync = below_short (token_of owner.sync_token) last b.0 in
    (sync, page_short (token_of owner.cursor_token) (token_of owner.sync_token) sync b.1)

-- ---- in an answer

abbrev pub IsShortAnswer : Answer → Type 0
IsShortAnswer (answer.Sync conflicts cursor retrieved saved token) = IsShortToken cursor × (length token ≤ 1024)
IsShortAnswer (answer.Account token identifier uuid) = Unit {0}
IsShortAnswer (answer.Params params) = Unit {0}
IsShortAnswer (answer.Refused status tag further) = Unit {0}

refused_short : (status : ℕ) (tag : Bytes) (further : More) (given : Answer) → given ≡ answer.Refused status tag further → IsShortAnswer given
refused_short status tag further given e = subst IsShortAnswer (sym e) tt

record AreShort (cursor : Option Bytes) (token : Bytes) : Type 0 where
  both : IsShortToken cursor × (length token ≤ 1024)

tokens_short : (rows : Rows) (n : ℕ) (page left : List Found) (cursor : Option Bytes) (token : Bytes) → AreTokens rows n page left cursor token
    → AreShort cursor token
tokens_short rows n page [] cursor token (none, (stamp, is, spells)) =
    record { both = (subst IsShortToken (sym none) tt, stamped_short token stamp spells) }
tokens_short rows n page (f ∷ left) cursor token (some, (stamp, is, spells)) =
    let short = stamped_short token stamp spells in
    record { both = (subst IsShortToken (sym some) short, short) }

module _ (rows : Rows) (store : StoreRow) (items : List Item) (limit now : ℕ) (changes : List Change) (given : Answer) where
  serves_short : (n : ℕ) (sync cursor : Option ℕ) → Serves rows store n items limit sync cursor now changes given → IsShortAnswer given
  serves_short n sync cursor (present, is, inl (out, (none, e))) = refused_short _ _ _ given e
  serves_short n sync cursor (present, is, inr s) =
      subst IsShortAnswer (sym s.answers) (tokens_short s.end.rows n s.page s.left s.cursor_token s.sync_token s.tokens).both

  bounded_short : (n : ℕ) (sync cursor : Option ℕ) → ServesBounded rows store n items limit sync cursor now changes given → IsShortAnswer given
  bounded_short n sync cursor (inl (many, (none, e))) = refused_short _ _ _ given e
  bounded_short n sync cursor (inr (inl (few, uuid, size, first, (none, e)))) = refused_short _ _ _ given e
  bounded_short n sync cursor (inr (inr (few, short, serves))) = serves_short n sync cursor serves

  from_short : (n : ℕ) (sync_token cursor_token : Option Bytes) → ServesFrom rows store n items limit sync_token cursor_token now changes given
      → IsShortAnswer given
  from_short n sync_token cursor_token (inl (bad, (none, e))) = refused_short _ _ _ given e
  from_short n sync_token cursor_token (inr (inl (sync, is, bad, (none, e)))) = refused_short _ _ _ given e
  from_short n sync_token cursor_token (inr (inr (sync, cursor, is, of, bounded))) = bounded_short n sync cursor bounded

  syncs_short : (token : Bytes) (sync_token cursor_token : Option Bytes) → Syncs rows store token items limit sync_token cursor_token now changes given
      → IsShortAnswer given
  syncs_short token sync_token cursor_token (inl (nobody, (none, e))) = refused_short _ _ _ given e
  syncs_short token sync_token cursor_token (inr (n, session, from)) = from_short n sync_token cursor_token from

module _ (server : Rows) (token : Bytes) (items : List Item) (limit : ℕ) (sync_token cursor_token : Option Bytes) where
  rule_short : (now : ℕ) (changes : List Change) (given : Answer) → Rule server (request.Sync token items limit sync_token cursor_token) now changes given
      → IsShortAnswer given
  rule_short now changes given (store, has, syncs) = syncs_short server store items limit now changes given token sync_token cursor_token syncs

  comes_short : (arrives : Bool) (given heard : Answer) → ComesBack arrives given (said heard) → IsShortAnswer given → IsShortAnswer heard
  comes_short true given heard same short = (let e : given ≡ heard = cc in subst IsShortAnswer e short)
  comes_short false given heard none short = absurd none

  wanting_short : (heard : Answer) → said heard ≡ said no_memory → IsShortAnswer heard
  wanting_short heard same = (let e : no_memory ≡ heard = cc in subst IsShortAnswer e tt)

  -- what is heard of a sync, whatever became of it
  pub answered_short : (heard : Answer) (fate : Fate) → IsAnswered server (request.Sync token items limit sync_token cursor_token) (said heard) fate
      → IsShortAnswer heard
  answered_short heard fate (inr (wanting, is)) = wanting_short heard wanting
  answered_short heard undelivered (inl over) = absurd over
  answered_short heard (served now changes given arrives) (inl (fits, rule, comes)) = comes_short arrives given heard comes (rule_short now changes given rule)
  answered_short heard (crashed now changes given) (inl (fits, rule, none)) = absurd none

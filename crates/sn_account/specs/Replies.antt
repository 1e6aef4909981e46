-- What the code replies to items that were dealt with, with a page.
use Rattle.std.specs.Prelude.{◌≡◌, ℕ, List, [], ◌∷◌, Option, Some, None, if◌then◌else◌}
use Rattle.sn_rows.specs.declared.change.Change.{Change}
use Rattle.sn_rows.specs.declared.server_rows.StoreRow.{StoreRow}
use Rattle.sn_sync.specs.Tokens.{IsToken}
use Rattle.sn_sync.specs.declared.answer.Answer.TheVariants as answer
use Rattle.sn_account.specs.Lookups.{Bytes}
use Rattle.sn_account.specs.Syncs.{AreChanges}
use Rattle.sn_account.specs.declared.accounts.Ruled.{Ruled}
use Rattle.sn_account.specs.declared.page.Page.{Page}
use Rattle.sn_account.specs.declared.taken.Taken.{Taken}

-- the greatest stamp of the account: the last one given where something was changed, else the one before
abbrev pub greatest_after : List Change → ℕ → ℕ → ℕ
greatest_after [] before last = before
greatest_after (change ∷ changes) before last = last

-- the stamp that the answer's token tells
abbrev pub stamp_told : Taken → Page → ℕ
stamp_told t p = if p.more then p.last else greatest_after t.changes p.greatest t.last

pub record IsReply (store : StoreRow) (t : Taken) (p : Page) (r : Ruled) : Type 0 where
  pub changes : AreChanges store t.changes t.last r.changes
  pub sync_token : Bytes
  pub token : IsToken sync_token (stamp_told t p)
  pub cursor_token : Option Bytes
  pub cursor : cursor_token ≡ (if p.more then Some sync_token else None)
  pub answers : r.answer ≡ answer.Sync t.conflicts cursor_token p.items t.saved sync_token

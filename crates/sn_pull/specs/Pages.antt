-- One page: what a sync that sends nothing is answered.
use Rattle.std.specs.Prelude.{◌≡◌, ℕ, Bool, List, [], Option}
use Rattle.sn_account.specs.Pages.{AreGiven, Found, IsPage}
use Rattle.sn_account.specs.Syncs.{AreTokens}
use Rattle.sn_rows.specs.Table.{Rows}
use Rattle.sn_sync.specs.declared.answer.Answer.{Answer}
use Rattle.sn_sync.specs.declared.answer.Answer.TheVariants as answer
use Rattle.sn_sync.specs.declared.item.Item.{Item}
use Rattle.sn_device.specs.States.{Bytes}

-- the page of account n above a stamp: nothing is saved, nothing conflicts, and the page is retrieved, with the tokens that go with it
pub record IsPageAnswer (server : Rows) (n above : ℕ) (first : Bool) (limit : ℕ) (given : Answer) : Type 0 where
  pub page : List Found
  pub left : List Found
  pub is_page : IsPage server n above first limit page left
  pub retrieved : List Item
  pub retrieved_are : AreGiven page retrieved
  pub cursor : Option Bytes
  pub token : Bytes
  pub tokens : AreTokens server n page left cursor token
  pub answers : given ≡ answer.Sync [] cursor retrieved [] token

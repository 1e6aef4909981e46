-- How one request ends.
use Rattle.std.specs.Prelude.{◌≡◌, ◌⊎◌, ℕ, Bool, List, [], ⊤}
use Rattle.sn_http.specs.declared.message.Message.{Message}
use Rattle.sn_rows.specs.declared.change.Change.{Change}
use Rattle.sn_sync.specs.declared.answer.Answer.{Answer}
use Rattle.sn_sync.specs.declared.request.Request.{Request}
use Rattle.sn_account.specs.Rule.{Rule}
use Rattle.sn_server.specs.Replies.{Answers, IsSent, IsUnserved, Replies, RepliesByRule}
use Rattle.sn_server.specs.Stores.{Kept, after}
use Rattle.sn_server.specs.declared.handling.Handled.{Handled}
use Rattle.sn_server.specs.declared.handling.Handled.TheVariants as handled
use Rattle.sn_server.specs.declared.handling.Replied.{Replied}
use Rattle.sn_server.specs.declared.handling.Replied.TheVariants as replied
use Rattle.sn_server.specs.declared.reply.Reply.{Reply}

module _ {S D : Type 0} where
  abbrev pub IfHandled : Handled S D → (S → Answer → Type 0) → Type 0
  IfHandled (handled.Done server given) P = P server given
  IfHandled (handled.Broken disk) P = ⊤

  abbrev pub IfHandledBroken : Handled S D → (D → Type 0) → Type 0
  IfHandledBroken (handled.Done server given) P = ⊤
  IfHandledBroken (handled.Broken disk) P = P disk

  abbrev pub handled_disk : (S → D) → Handled S D → D
  handled_disk disk_of (handled.Done server given) = disk_of server
  handled_disk disk_of (handled.Broken disk) = disk

  abbrev pub IfReplied : Replied S D → (S → Reply → Type 0) → Type 0
  IfReplied (replied.Done server reply) P = P server reply
  IfReplied (replied.Broken disk) P = ⊤

  abbrev pub IfRepliedBroken : Replied S D → (D → Type 0) → Type 0
  IfRepliedBroken (replied.Done server reply) P = ⊤
  IfRepliedBroken (replied.Broken disk) P = P disk

  abbrev pub replied_disk : (S → D) → Replied S D → D
  replied_disk disk_of (replied.Done server reply) = disk_of server
  replied_disk disk_of (replied.Broken disk) = disk

module _ {S D : Type 0} (is_open : S → Kept → Type 0) (may_have : D → Kept → List Change → Type 0) (kept : Kept) where
  -- the server has what the request changes by the rule; where the disk failed, it has all of that or none
  abbrev pub IsHandled : Request → ℕ → Handled S D → Type 0
  IsHandled request now (handled.Done server given) = (made : List Change) × Answers kept.rows request now made given × is_open server (after kept made)
  IsHandled request now (handled.Broken disk) = (made : List Change) × (given : Answer) × Rule kept.rows request now made given × may_have disk kept made

  -- behind the reply the connection is to close or not
  abbrev pub IsServed : Request → ℕ → Bool → Replied S D → Type 0
  IsServed request now closing (replied.Done server reply) = (made : List Change)
      × (((given : Answer) × Rule kept.rows request now made given × IsSent given [] closing reply) ⊎ ((made ≡ []) × IsUnserved closing reply)) × is_open server (after kept made)
  IsServed request now closing (replied.Broken disk) = (made : List Change) × (given : Answer) × (reply : Reply) × Rule kept.rows request now made given
      × IsSent given [] closing reply × may_have disk kept made

  abbrev pub IsReplied : Message → ℕ → Replied S D → Type 0
  IsReplied message now (replied.Done server reply) = (made : List Change) × Replies kept.rows message now made reply × is_open server (after kept made)
  IsReplied message now (replied.Broken disk) = (made : List Change) × (reply : Reply) × RepliesByRule kept.rows message now made reply × may_have disk kept made

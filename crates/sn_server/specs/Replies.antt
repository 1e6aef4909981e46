-- What a message changes, and what is replied to it.
use Rattle.std.specs.Prelude.{◌≡◌, ◌⊎◌, ℕ, List, [], codes, Bool}
use Rattle.sn_http.specs.Answers.{answer}
use Rattle.sn_http.specs.declared.message.Message.{Message}
use Rattle.sn_rows.specs.Table.{Rows}
use Rattle.sn_rows.specs.declared.change.Change.{Change}
use Rattle.sn_sync.specs.Written.{WritesAnswer}
use Rattle.sn_sync.specs.declared.answer.Answer.{Answer}
use Rattle.sn_sync.specs.declared.answer.Answer.TheVariants.{Refused}
use Rattle.sn_sync.specs.declared.answer.More.TheVariants.{Nothing}
use Rattle.sn_sync.specs.declared.request.Request.{Request}
use Rattle.sn_account.specs.Rule.{Rule}
use Rattle.sn_account.specs.RuleLaws.{status_of}
use Rattle.sn_server.specs.Routing.{AsksFor, TurnsAway}
use Rattle.sn_server.specs.declared.reply.Reply.{Reply}

-- the bytes of a reply
abbrev pub reply_bytes : Reply → List ℕ
reply_bytes reply = answer reply.status reply.allow reply.closing reply.body

-- memory was wanting; no commit is refused for another cause
abbrev pub no_memory : Answer
no_memory = Refused 503 (codes "memory") Nothing

-- what a request changes, and its answer; where memory is wanting nothing changes
abbrev pub Answers : Rows → Request → ℕ → List Change → Answer → Type 0
Answers rows request now made given = Rule rows request now made given ⊎ ((made ≡ []) × (given ≡ no_memory))

-- the answer is sent so
pub record IsSent (given : Answer) (allow : List ℕ) (closing : Bool) (reply : Reply) : Type 0 where
  pub status : reply.status ≡ status_of given
  pub allow_is : reply.allow ≡ allow
  pub closing_is : reply.closing ≡ closing
  pub body : WritesAnswer given reply.body

-- the reply where memory is wanting
pub record IsUnserved (closing : Bool) (reply : Reply) : Type 0 where
  pub status : reply.status ≡ 503
  pub allow_is : reply.allow ≡ []
  pub closing_is : reply.closing ≡ closing
  pub body : reply.body ≡ codes "{\"error\":{\"tag\":\"memory\"}}"

-- a request that is ruled
abbrev pub RepliesByRule : Rows → Message → ℕ → List Change → Reply → Type 0
RepliesByRule rows message now made reply = (request : Request) × (given : Answer) × AsksFor message request × Rule rows request now made given
    × IsSent given [] message.closing reply

-- a message that is no request
abbrev pub RepliesAway : Message → List Change → Reply → Type 0
RepliesAway message made reply = (made ≡ []) × (given : Answer) × (allow : List ℕ) × TurnsAway message given allow × IsSent given allow message.closing reply

-- on these rows, at this moment
abbrev pub Replies : Rows → Message → ℕ → List Change → Reply → Type 0
Replies rows message now made reply =
    RepliesByRule rows message now made reply ⊎ (RepliesAway message made reply ⊎ ((made ≡ []) × IsUnserved message.closing reply))

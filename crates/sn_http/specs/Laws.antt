-- An input has one first message, or one first check that fails. What is written is read back.
use Rattle.std.specs.Prelude.{◌≡◌, ◌⊎◌, ◌<◌, ◌≤◌, ℕ, Bool, List, [], ◌++◌, length, true, IsUtf8, IsTrue}
use Rattle.httparse.specs.Grammar.{IsToken, AllPass, is_uri_byte}
use Rattle.sn_http.specs.Options.{is_visible, is_token_text}
use Rattle.sn_http.specs.Messages.{IsMessage, IsCheck}
use Rattle.sn_http.specs.Requests.{request_head, request}
use Rattle.sn_http.specs.Answers.{answer_head, answer, IsAnswer}
use Rattle.sn_http.specs.declared.message.Message.{Message}

-- two messages at the front of one input are the same
pub record SameMessage (one other : List ℕ) (first second : Message) : Type 0 where
  pub bytes : one ≡ other
  pub method : first.method ≡ second.method
  pub target : first.target ≡ second.target
  pub token : first.token ≡ second.token
  pub body : first.body ≡ second.body
  pub closing : first.closing ≡ second.closing

abbrev pub OneMessage : Type 0
OneMessage = (one other rest more : List ℕ) (first second : Message) → IsMessage one first → IsMessage other second → one ++ rest ≡ other ++ more → SameMessage one other first second

abbrev pub NoMessageWhereCheck : Type 0
NoMessageWhereCheck = (bytes rest : List ℕ) (message : Message) (status : ℕ) → IsMessage bytes message → ¬ (IsCheck status (bytes ++ rest))

abbrev pub OneStatus : Type 0
OneStatus = (input : List ℕ) (one other : ℕ) → IsCheck one input → IsCheck other input → one ≡ other

-- the parts of a request have their form, and are within the bounds
pub record IsWritable (method target host token body : List ℕ) : Type 0 where
  pub method_form : IsToken method
  pub target_form : (0 < length target) × AllPass is_uri_byte target
  pub target_text : IsUtf8 target
  pub host_form : AllPass is_visible host
  pub token_form : (token ≡ []) ⊎ IsTrue (is_token_text token)
  pub head_short : length (request_head method target host token (length body)) ≤ 16384
  pub body_short : length body ≤ 8388608

-- a message has these parts, and closes
pub record HasParts (message : Message) (method target token body : List ℕ) : Type 0 where
  pub method_is : message.method ≡ method
  pub target_is : message.target ≡ target
  pub token_is : message.token ≡ token
  pub body_is : message.body ≡ body
  pub closes : message.closing ≡ true

-- a request that is written is a message of its parts
abbrev pub RequestReadsBack : Type 0
RequestReadsBack = (method target host token body : List ℕ) (message : Message) → IsWritable method target host token body → HasParts message method target token body → IsMessage (request method target host token body) message

-- an answer that is written is one of its status and body
abbrev pub AnswerReadsBack : Type 0
AnswerReadsBack = (status : ℕ) (allow : List ℕ) (closing : Bool) (body : List ℕ) → 100 ≤ status → status ≤ 999 → AllPass is_visible allow → length (answer_head status allow closing (length body)) ≤ 16384 → length body ≤ 33554432
    → IsAnswer (answer status allow closing body) status body

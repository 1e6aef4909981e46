-- What holds of every message, by the definitions alone.
use Rattle.std.specs.Prelude.{◌≡◌, ℕ, []}
use Rattle.sn_sync.specs.Answers.{IsAnswer, RefusesAnswer}
pub use Rattle.sn_sync.specs.Fits.{AreBytes, FitsAnswer, FitsConflict, FitsKind, FitsMore, FitsRequest, FitsSent, FitsStored}
use Rattle.sn_sync.specs.Members.{Bytes}
use Rattle.sn_sync.specs.Requests.{IsRequest, RefusesRequest, route_of}
use Rattle.sn_sync.specs.Stamps.{IsStampText}
use Rattle.sn_sync.specs.Tokens.{IsToken}
use Rattle.sn_sync.specs.Written.{WritesAnswer, WritesRequest}
use Rattle.sn_sync.specs.declared.answer.Answer.{Answer}
use Rattle.sn_sync.specs.declared.error.SyncError.{SyncError}
use Rattle.sn_sync.specs.declared.request.Request.{Request}
use Rattle.sn_sync.specs.declared.request.Request.TheVariants as request
use Rattle.sn_sync.specs.declared.request.Route.{Route}

-- ---- stamps and tokens

-- a text is the spelling of one stamp at most
abbrev pub HasOneStamp : Type 0
HasOneStamp = (text : Bytes) (a b : ℕ) → IsStampText text a → IsStampText text b → a ≡ b

-- a stamp has one spelling at most
abbrev pub HasOneSpelling : Type 0
HasOneSpelling = (a b : Bytes) (stamp : ℕ) → IsStampText a stamp → IsStampText b stamp → a ≡ b

-- a text is the token of one stamp at most
abbrev pub HasOneToken : Type 0
HasOneToken = (text : Bytes) (a b : ℕ) → IsToken text a → IsToken text b → a ≡ b

-- ---- one reading

-- a text says one request at most
abbrev pub HasOneRequest : Type 0
HasOneRequest = (on : Route) (token text : Bytes) (a b : Request) → IsRequest on token text a → IsRequest on token text b → a ≡ b

-- what is a request is refused only in want of memory
abbrev pub RefusesNoRequest : Type 0
RefusesNoRequest = (on : Route) (token text : Bytes) (r : Request) (e : SyncError) → IsRequest on token text r → ¬ (RefusesRequest on text e)

-- a text that is no request has one refusal, if it isn't want of memory
abbrev pub HasOneRequestRefusal : Type 0
HasOneRequestRefusal = (on : Route) (text : Bytes) (e f : SyncError) → RefusesRequest on text e → RefusesRequest on text f → e ≡ f

-- a text says one answer at most
abbrev pub HasOneAnswer : Type 0
HasOneAnswer = (on : Route) (status : ℕ) (text : Bytes) (a b : Answer) → IsAnswer on status text a → IsAnswer on status text b → a ≡ b

-- what is an answer is refused only in want of memory
abbrev pub RefusesNoAnswer : Type 0
RefusesNoAnswer = (on : Route) (status : ℕ) (text : Bytes) (a : Answer) (e : SyncError) → IsAnswer on status text a → ¬ (RefusesAnswer on status text e)

-- a text that is no answer has one refusal, if it isn't want of memory
abbrev pub HasOneAnswerRefusal : Type 0
HasOneAnswerRefusal = (on : Route) (status : ℕ) (text : Bytes) (e f : SyncError)
    → RefusesAnswer on status text e → RefusesAnswer on status text f → e ≡ f

-- ---- what is written is read back

-- the session token that goes with a request, empty where none does
abbrev pub token_of : Request → Bytes
token_of (request.Register params pw) = []
token_of (request.Params identifier) = []
token_of (request.SignIn identifier pw) = []
token_of (request.ChangePw token current pw cost nonce) = token
token_of (request.Sync token items limit sync_token cursor_token) = token

-- a request that is within its bounds
abbrev pub RequestsReadBack : Type 0
RequestsReadBack = (r : Request) (text : Bytes) → FitsRequest r → WritesRequest r text → IsRequest (route_of r) (token_of r) text r

-- a request that was read: what is written for it, by whoever wants to, says it again
abbrev pub RequestsReadAgain : Type 0
RequestsReadAgain = (on : Route) (token text written : Bytes) (r : Request)
    → IsRequest on token text r → WritesRequest r written → IsRequest on token written r

-- an answer that is within its bounds
abbrev pub AnswersReadBack : Type 0
AnswersReadBack = (on : Route) (status : ℕ) (a : Answer) (text : Bytes) → FitsAnswer on status a → WritesAnswer a text → IsAnswer on status text a

-- an answer that was read
abbrev pub AnswersReadAgain : Type 0
AnswersReadAgain = (on : Route) (status : ℕ) (text written : Bytes) (a : Answer)
    → IsAnswer on status text a → WritesAnswer a written → IsAnswer on status written a

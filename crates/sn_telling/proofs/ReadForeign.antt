-- Some bytes are one answer at most.
use Rattle.std.proofs.Common.{◌≡◌, ℕ, List, Some, None, Result, Ok, Err, refl, sym, ap, ◌∙◌, subst}
use Rattle.std.specs.Prelude.{IfOk}
use Rattle.httparse.proofs.GrammarLemmas.{response_unique}
use Rattle.httparse.specs.Grammar.{ResponseHead, status_code}
use Rattle.sn_device.specs.Asking.{IsReply, said}
use Rattle.sn_http.specs.Answers.{IsAnswer as IsHttpAnswer}
use Rattle.sn_laws.specs.Lookups.{Bytes}
use Rattle.sn_moves.specs.Foreign.{foreign_in}
use Rattle.sn_sync.specs.Answers.{IsAnswer, RefusesAnswer}
use Rattle.sn_sync.specs.Laws.{HasOneAnswer, RefusesNoAnswer}
use Rattle.sn_sync.specs.Refusals.{Caused}
use Rattle.sn_sync.specs.declared.answer.Answer.{Answer}
use Rattle.sn_sync.specs.declared.error.SyncError.{SyncError}
use Rattle.sn_sync.specs.declared.error.SyncError.TheVariants as error
use Rattle.sn_sync.specs.declared.request.Route.TheVariants as route
use Rattle.sn_telling.specs.Walking.{HasForeign}

-- what holds of a result that came holds of what follows from that
pub if_ok : {A E : Type 0} (result : Result A E) (P Q : A → Type 0) → ((a : A) → P a → Q a) → IfOk result P → IfOk result Q
if_ok (Ok a) P Q so h = so a h
if_ok (Err e) P Q so h = h

one_http : (bytes : Bytes) (status other : ℕ) (body text : Bytes) → IsHttpAnswer bytes status body → IsHttpAnswer bytes other text
    → (other ≡ status) × (text ≡ body)
one_http bytes status other body text x y =
    let same = response_unique bytes y.head x.head text body y.begins.reads x.begins.reads in
    (y.status_is ∙ ap (λ (h : ResponseHead). status_code h) same.0 ∙ sym x.status_is, same.1)

-- the body says the answer that came
came_so : (bytes : Bytes) (status : ℕ) (body : Bytes) (given : Answer) → IsHttpAnswer bytes status body → IsReply route.Sync (Some bytes) (said given)
    → IsAnswer route.Sync status body given
came_so bytes status body given is (other, text, there, says) =
    let same = one_http bytes status other body text is there in
    subst (λ (n : ℕ). IsAnswer route.Sync n body given) same.0 (subst (λ (b : Bytes). IsAnswer route.Sync other b given) same.1 says)

pub told_by_read : HasOneAnswer → (bytes : Bytes) (status : ℕ) (body : Bytes) (read : Answer) (foreign : List Bytes) → IsHttpAnswer bytes status body
    → IsAnswer route.Sync status body read → foreign ≡ foreign_in read → HasForeign (Some bytes) foreign
told_by_read one bytes status body read foreign is says foreign_is given came =
    foreign_is ∙ ap foreign_in (one route.Sync status body read given says (came_so bytes status body given is came))

pub none_by_refused : RefusesNoAnswer → (bytes : Bytes) (status : ℕ) (body : Bytes) (e : SyncError) (foreign : List Bytes) → IsHttpAnswer bytes status body
    → (e ≡ error.Memory → ⊥) → Caused (RefusesAnswer route.Sync status body) e → HasForeign (Some bytes) foreign
none_by_refused never bytes status body e foreign is other caused given came =
    absurd (never route.Sync status body given e (came_so bytes status body given is came) (cause e other caused))
  where
    cause : (f : SyncError) → (f ≡ error.Memory → ⊥) → Caused (RefusesAnswer route.Sync status body) f → RefusesAnswer route.Sync status body f
    cause error.Memory not_memory h = absurd (not_memory refl)
    cause error.NotJson not_memory h = h
    cause (error.Member name) not_memory h = h
    cause (error.Limit name n) not_memory h = h

pub none_by_head : (bytes : Bytes) (foreign : List Bytes) → ((status : ℕ) (body : Bytes) → ¬ (IsHttpAnswer bytes status body)) → HasForeign (Some bytes) foreign
none_by_head bytes foreign never given (status, body, there, says) = absurd (never status body there)

pub none_by_nothing : (foreign : List Bytes) → HasForeign None foreign
none_by_nothing foreign given came = absurd (let impossible : ⊥ = cc in impossible)

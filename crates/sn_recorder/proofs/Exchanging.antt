-- An exchange with its record, by what the server's store gained.
use Rattle.std.specs.Prelude.{◌≡◌, ◌++◌, ℕ, List, [], ◌∷◌, IfOk, Option, Some, Result, Ok, Err, true}
use Rattle.std.proofs.Common.{refl, sym, ◌∙◌, ap, subst, append-nil}
use Rattle.sn_link.proofs.Facts.{is_failed}
use Rattle.sn_link.specs.Deliveries.{Reaches, Standing, failed, serves}
use Rattle.sn_link.specs.Holdings.{HoldsIn}
use Rattle.sn_link.specs.Links.{Asks, AsksAgain, Befalls, link_held, link_losses, link_now, link_number}
use Rattle.sn_link.specs.Losses.{lost_at}
use Rattle.sn_link.specs.declared.delivery.Held.{Held}
use Rattle.sn_link.specs.declared.link.ServingLink.{ServingLink}
use Rattle.sn_link.specs.declared.losses.Lost.{Lost}
use Rattle.sn_link.specs.declared.losses.Lost.TheVariants.{Nothing}
use Rattle.sn_net.specs.Exchanges.{Exchange}
use Rattle.sn_net.specs.declared.link.AskError.{AskError}
use Rattle.sn_net.specs.declared.link.AskError.TheVariants as ask
use Rattle.sn_rows.specs.declared.change.Change.{Change}
use Rattle.sn_recorder.specs.Recorded.{Gains, GainsAgain, HasCauseAgain, HasGained, IsPlaceOf, IsRecordOf, Records, RecordsThem}
use Rattle.sn_recorder.specs.declared.delivered.Delivered.{Delivered}
use Rattle.sn_recorder.specs.declared.exchanged.Exchanged.{Exchanged}
use Rattle.sn_recorder.specs.declared.recording.RecordingLink.{RecordingLink}
use Rattle.sn_recorder.proofs.Growing.{befalls_adds, never_serves}

-- what the store of a server has gained by an exchange is what was read behind its place
pub gains_so : (held : Option Held) (place gate : ℕ) (batches : List (List Change)) (lost : Lost) (now : ℕ) (x : Exchange) (was next : Standing) → HasGained held place batches gate
    → IsPlaceOf place was → HoldsIn held next → Befalls lost now was x next → Gains was batches next × IsPlaceOf gate next
gains_so held place gate batches lost now x (serves kept) (serves next) gained at holds befalls =
    let (later, is) = befalls_adds lost now kept next x befalls in
    let (are, gate_is) = gained next kept.batches later holds is at in
    (is ∙ ap (λ (l : List (List Change)). kept.batches ++ l) (sym are), gate_is)
gains_so held place gate batches lost now x (serves kept) (failed had made) gained at holds befalls = (tt, tt)
gains_so held place gate batches lost now x (failed had made) (serves next) gained at holds befalls = absurd (never_serves lost now had next made x befalls)
gains_so held place gate batches lost now x (failed had made) (failed other more) gained at holds befalls = (tt, tt)

-- ---- no exchange

pub none_recorded : (old new : RecordingLink) → Asks old.link new.link [] → new.place ≡ old.place → RecordsThem old new [] []
none_recorded old new asks place_is was holds place =
    let (next, holds_next, (count, same), fails) = asks.served was holds in (
      next,
      holds_next,
      subst (IsPlaceOf new.place) (sym same) (subst (λ (p : ℕ). IsPlaceOf p was) (sym place_is) place),
      (refl, count, same),
    )

pub records_none : (old new : RecordingLink) → Asks old.link new.link [] → new.place ≡ old.place → new.exchanged ≡ old.exchanged → new.whole ≡ old.whole → Records old new []
records_none old new asks place_is exchanged_is whole_is = record {
  asks = asks;
  whole_before = λ whole. sym whole_is ∙ whole;
  records = λ whole. ([], exchanged_is ∙ sym (append-nil old.exchanged), none_recorded old new asks place_is);
}

-- ---- one exchange

one_recorded : (old new : RecordingLink) (x : Exchange) (e : Exchanged) → Asks old.link new.link (x ∷ []) → IsRecordOf x e
    → HasGained (link_held new.link) old.place e.batches new.place → RecordsThem old new (x ∷ []) (e ∷ [])
one_recorded old new x e asks is gained was holds place =
    let (next, holds_next, (mid, befalls, (count, same)), fails) = asks.served was holds in
    let befalls_so : Befalls (lost_at (link_losses old.link) (link_number old.link)) (link_now old.link) was x next =
    subst (Befalls (lost_at (link_losses old.link) (link_number old.link)) (link_now old.link) was x) (sym same) befalls in
    let (gains, place_next) = gains_so (link_held new.link) old.place new.place e.batches (lost_at (link_losses old.link) (link_number old.link)) (link_now old.link) x was next
    gained place holds_next befalls_so in
    (next, holds_next, place_next, (next, befalls_so, is, gains, (refl, count, refl)))

-- what is known of a record that was made behind an exchange
abbrev pub IsMade : RecordingLink → RecordingLink → Exchange → Type 0
IsMade mid new x = (e : Exchanged) × (new.exchanged ≡ mid.exchanged ++ e ∷ []) × (e.request ≡ x.request) × (e.answer ≡ x.answer)
    × HasGained (link_held mid.link) mid.place e.batches new.place

pub records_one : (old mid new : RecordingLink) (x : Exchange) → Asks old.link mid.link (x ∷ []) → mid.place ≡ old.place → mid.exchanged ≡ old.exchanged → mid.whole ≡ old.whole
    → new.link ≡ mid.link → (new.whole ≡ true → mid.whole ≡ true) → (new.whole ≡ true → IsMade mid new x) → Records old new (x ∷ [])
records_one old mid new x asks place_is exchanged_is whole_is link_is before made =
    let asks_so : Asks old.link new.link (x ∷ []) = subst (λ (l : ServingLink). Asks old.link l (x ∷ [])) (sym link_is) asks in
    record {
      asks = asks_so;
      whole_before = λ whole. sym whole_is ∙ before whole;
      records = λ whole.
          let (e, are, request_is, answer_is, gained) = made whole in (
            e ∷ [],
            are ∙ ap (λ (l : List Exchanged). l ++ e ∷ []) exchanged_is,
            one_recorded old new x e asks_so (record { request_is = request_is; answer_is = answer_is })
                (subst (λ (p : ℕ). HasGained (link_held new.link) p e.batches new.place) place_is
                (subst (λ (l : ServingLink). HasGained (link_held l) mid.place e.batches new.place) (sym link_is) gained)),
          );
    }

-- ---- a request that comes late or again

pub again_gains : (old new : RecordingLink) (request : List ℕ) (given : Delivered) → AsksAgain old.link new.link request (Some given.answer)
    → HasGained (link_held new.link) old.place given.batches new.place → GainsAgain old new request given
again_gains old new request given again gained was holds place =
    let (next, holds_next, befalls) = again.served was holds in
    let (gains, place_next) = gains_so (link_held new.link) old.place new.place given.batches Nothing (link_now old.link) _ was next gained place holds_next befalls in
    (next, holds_next, place_next, befalls, gains)

pub ok_gains : (old new : RecordingLink) (mid : ServingLink) (request answer : List ℕ) (result : Result Delivered AskError) → AsksAgain old.link mid request (Some answer) → new.link ≡ mid
    → IfOk result (λ given. given.answer ≡ answer) → IfOk result (λ given. HasGained (link_held mid) old.place given.batches new.place) → IfOk result (GainsAgain old new request)
ok_gains old new mid request answer (Ok given) again link_is answer_is gained =
    again_gains old new request given
    (subst (λ (l : ServingLink). AsksAgain old.link l request (Some given.answer)) (sym link_is)
    (subst (λ (a : List ℕ). AsksAgain old.link mid request (Some a)) (sym answer_is) again))
    (subst (λ (l : ServingLink). HasGained (link_held l) old.place given.batches new.place) (sym link_is) gained)
ok_gains old new mid request answer (Err error) again link_is answer_is gained = tt

pub again_cause : (old new : RecordingLink) (request : List ℕ) (error : AskError)
    → ((was : Standing) → HoldsIn (link_held old.link) was → (next : Standing) × HoldsIn (link_held new.link) next × Reaches (link_now old.link) was request next (Err error))
    → HasCauseAgain old new error
again_cause old new request ask.Failed reaches = λ was holds.
    let (next, holds_next, reached) = reaches was holds in
    (next, holds_next, is_failed (link_now old.link) was request next reached)
again_cause old new request ask.Memory reaches = tt

-- A request that is delivered late or again, over the link of the ends.
use Rattle.std.specs.Prelude.{◌≢◌, ℕ, [], Some}
use Rattle.sn_events.specs.Calling.{IsOpenHeld}
use Rattle.sn_events.specs.declared.late.Redelivered.{Redelivered}
use Rattle.sn_http.specs.Answers.{IsAnswer as IsHttpAnswer}
use Rattle.sn_laws.specs.Lookups.{Bytes}
use Rattle.sn_link.specs.Deliveries.{Standing}
use Rattle.sn_link.specs.Holdings.{GoesOn, HoldsIn}
use Rattle.sn_link.specs.Links.{Befalls, link_held}
use Rattle.sn_link.specs.declared.link.ServingLink.{ServingLink}
use Rattle.sn_link.specs.declared.losses.Lost.TheVariants.{Nothing}
use Rattle.sn_recorder.specs.Recorded.{Gains, IsPlaceOf}

-- Whatever the server had, it has behind the request what that does to it, its store gained the batches, and it is open. The answer that was given has the status,
-- and isn't that of want of memory.
pub record HasRedelivered (link : ServingLink) (place now : ℕ) (request : Bytes) (made : Redelivered) : Type 0 where
  pub answer : Bytes
  pub body : Bytes
  pub heard : IsHttpAnswer answer made.status body
  pub other : made.status ≢ 503
  pub open_held : IsOpenHeld (link_held made.link)
  pub goes_on : GoesOn (link_held link) (link_held made.link)
  pub served : (was : Standing) → HoldsIn (link_held link) was → IsPlaceOf place was
      → (next : Standing) × HoldsIn (link_held made.link) next × IsPlaceOf made.place next
      × Befalls Nothing now was (record { host = []; request = request; answer = Some answer }) next × Gains was made.batches next

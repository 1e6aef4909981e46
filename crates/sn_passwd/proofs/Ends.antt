-- A call that is over: the steps that its acts are, and where it is answered what is known then.
use Rattle.std.proofs.Common.{List, Option, refl, sym, subst}
use Rattle.sn_device.specs.Runs.{Act, AnswersNothing, Call, Halt, Point, Refuses, answered, broken, goes_on, refused, rows_done}
use Rattle.sn_device.specs.declared.error.ClientError.{ClientError}
use Rattle.sn_laws.specs.Lookups.{Bytes}
use Rattle.sn_laws.specs.declared.ideal.Ideal.{Ideal}
use Rattle.sn_passwd.proofs.Pieces.{Known, LeadsTurn, NeverAnswers, Piece, PieceGoes, answered_turn, answers_nothing_goes}
use Rattle.sn_rows.specs.Table.{Rows}
use Rattle.sn_string.specs.declared.params.KeySet.{KeySet}
use Rattle.sn_sync.specs.declared.request.Request.{Request}
use Rattle.sn_world.proofs.Facts.{Stands, refuses_goes}
use Rattle.sn_world.specs.Calls.{AreServed, BeginsBy, Fate, GoesCall, Leads, LeadsTo, call_steps, rows_served}
use Rattle.sn_world.specs.Happens.{Happens}
use Rattle.sn_world.specs.Holds.{TokensDiffer}
use Rattle.sn_world.specs.Laws.{Keeps, SaysSome}
use Rattle.sn_world.specs.World.{World}

-- the steps lead there; where the call is answered, more is known of a point with those rows
abbrev pub Ends : (secret : Bytes) → World → Ideal → (name : Bytes) → List Happens → Rows → Rows → Known → Halt → Type 0
Ends secret w s name steps server device Q (answered given left) = (q : Point) × LeadsTurn secret w s name steps server device Q (goes_on q)
Ends secret w s name steps server device Q (refused why) = Leads secret w s name steps server device
Ends secret w s name steps server device Q (broken what changes) = LeadsTo secret w s name steps server device (broken what changes)

-- a whole call of a device
pub record EndsCall (secret : Bytes) (w : World) (s : Ideal) (name : Bytes) (call : Call) (acts : List Act) (fates : List Fate) (halt : Halt) (Q : Known)
    : Type 0 where
  pub begins : Request → Option KeySet
  pub of_call : BeginsBy (w.devices name) call begins
  pub ends : Ends secret w s name (call_steps name begins acts fates) (rows_served w.server fates) (rows_done (w.devices name) acts) Q halt

ends_lead : (secret : Bytes) (w : World) (s : Ideal) (name : Bytes) (steps : List Happens) (server device : Rows) (Q : Known) (halt : Halt)
    → Ends secret w s name steps server device Q halt → LeadsTo secret w s name steps server device halt
ends_lead secret w s name steps server device Q (answered given left) (q, x) = x.0
ends_lead secret w s name steps server device Q (refused why) leads = leads
ends_lead secret w s name steps server device Q (broken what changes) leads = leads

-- so it goes
pub goes_call : (secret : Bytes) (w : World) (s : Ideal) (name : Bytes) (call : Call) (acts : List Act) (fates : List Fate) (halt : Halt) (Q : Known)
    → EndsCall secret w s name call acts fates halt Q → GoesCall secret w s name call acts fates halt
goes_call secret w s name call acts fates halt Q x = record {
  begins = x.begins;
  of_call = x.of_call;
  leads = ends_lead secret w s name (call_steps name x.begins acts fates) (rows_served w.server fates) (rows_done (w.devices name) acts) Q halt x.ends;
}

module _ (keeps : Keeps) (says : SaysSome) (secret : Bytes) (differ : TokensDiffer secret) (name : Bytes) (begins : Request → Option KeySet) (v : World)
    (t : Ideal) (server : Rows) (p : Point) (acts : List Act) (fates : List Fate) (k : Stands secret name v t server p.rows)
    (over : AreServed server acts fates) where
  abbrev pub EndsHere : Known → Halt → Type 0
  EndsHere Q halt = Ends secret v t name (call_steps name begins acts fates) (rows_served server fates) (rows_done p.rows acts) Q halt

  -- it is refused before any act
  pub refuses_ends : (Q : Known) (halt : Halt) (why : ClientError) → Refuses acts halt why → EndsHere Q halt
  refuses_ends Q halt why (none, is) =
      subst (EndsHere Q) (sym is) (refuses_goes keeps says secret differ name begins v t server p.rows acts fates (refused why) why k (none, refl) over)

  -- it is over behind its piece, or within it
  pub answers_ends : (piece : Piece) (Pre Post : Known) → PieceGoes secret name begins piece Pre Post → NeverAnswers piece → Pre v t p → (halt : Halt)
      → AnswersNothing piece p acts halt → EndsHere Post halt
  answers_ends piece Pre Post goes never pre (answered given left) so =
      answered_turn keeps says secret differ name begins piece Pre Post goes v t server p acts fates k pre over given left never so
  answers_ends piece Pre Post goes never pre (refused why) so =
      answers_nothing_goes keeps says secret differ name begins piece Pre Post goes v t server p acts fates k pre over (refused why) so
  answers_ends piece Pre Post goes never pre (broken what changes) so =
      answers_nothing_goes keeps says secret differ name begins piece Pre Post goes v t server p acts fates k pre over (broken what changes) so

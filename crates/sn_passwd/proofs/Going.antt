-- A whole sync, a set asked for or not, and a whole change of password are steps of the world, whichever of their requests and answers are lost.
use Rattle.std.proofs.Common.{◌≡◌, ◌⊎◌, ℕ, List, ◌++◌, Option, refl, sym, subst, inl, inr}
use Rattle.rand_chacha.specs.ChaCha.{ChaCha}
use Rattle.sn_device.specs.Runs.{Act, AnswersNothing, AsksFor, Call, ChangesTo, Exchanges, Halt, Point, Refuses, Run, SyncsItems, SyncsUnder, Then, Turn, begun, goes_on, is_over, passwd, rows_done, sync}
use Rattle.sn_device.specs.States.{HasSets}
use Rattle.sn_device.specs.declared.error.ClientError.{ClientError}
use Rattle.sn_device.specs.declared.error.ClientError.TheVariants as refusal
use Rattle.sn_laws.specs.Lookups.{Bytes}
use Rattle.sn_laws.specs.declared.ideal.Ideal.{Ideal}
use Rattle.sn_passwd.proofs.Asking.{AsksDrawn, IsRefused, IsSetFor, asks_drawn_never, asks_or_not, drawn_keys, is_refused_never}
use Rattle.sn_passwd.proofs.Begins.{asked_for, begins_asked, begins_new, begins_past, new_or_asked, none_or}
use Rattle.sn_passwd.proofs.Ends.{EndsCall, answers_ends, goes_call, refuses_ends}
use Rattle.sn_passwd.proofs.Exchanging.{exchanges_never}
use Rattle.sn_passwd.proofs.Pieces.{Known, NeverAnswers, Piece, PieceGoes, known_turn, then_never}
use Rattle.sn_passwd.proofs.Together.{CallLaws, IsBrought, IsBroughtAnew, MayChange, MayResolve, Together, changed_goes, refused_goes, syncs_goes, syncs_never}
use Rattle.sn_passwd.specs.Calls.{EverySyncGoes, IsOnlyAsked, PasswdsGo}
use Rattle.sn_rows.specs.declared.device_rows.OwnerRow.{OwnerRow}
use Rattle.sn_sets.specs.declared.sets.Sets.{Sets}
use Rattle.sn_string.specs.declared.params.KeySet.{KeySet}
use Rattle.sn_sync.specs.declared.request.Request.{Request}
use Rattle.sn_world.proofs.Facts.{Stands}
use Rattle.sn_world.specs.Calls.{AreServed, Fate, MayBeginBy, begins_none, call_steps, rows_served}
use Rattle.sn_world.specs.Holds.{Holds, TokensDiffer}
use Rattle.sn_world.specs.World.{World}

-- ---- what a change of password draws

-- a set that is drawn behind the first exchanges, and more exchanges behind its change
abbrev DrawsThis : Bytes → ℕ → OwnerRow → Sets → OwnerRow → Sets → KeySet → ChaCha → Piece
DrawsThis password cost owner sets later held set left = Then (SyncsUnder owner sets) (Then (AsksDrawn password cost later held set left) Exchanges)

draws_never : (password : Bytes) (cost : ℕ) (owner : OwnerRow) (sets : Sets) (later : OwnerRow) (held : Sets) (set : KeySet) (left : ChaCha)
    → NeverAnswers (DrawsThis password cost owner sets later held set left)
draws_never password cost owner sets later held set left =
    then_never (SyncsUnder owner sets) (Then (AsksDrawn password cost later held set left) Exchanges) (syncs_never owner sets)
    (then_never (AsksDrawn password cost later held set left) Exchanges (asks_drawn_never password cost later held set left) exchanges_never)

-- its new set
record Draws (password : Bytes) (cost : ℕ) (owner : OwnerRow) (sets : Sets) (p : Point) (acts : List Act) (turn : Turn) : Type 0 where
  later : OwnerRow
  held : Sets
  set : KeySet
  left : ChaCha
  keys : IsSetFor password cost set
  so : DrawsThis password cost owner sets later held set left p acts turn

-- or it is refused before that
abbrev DrawsOrNot : Bytes → ℕ → OwnerRow → Sets → Piece
DrawsOrNot password cost owner sets p acts turn = Then (SyncsUnder owner sets) IsRefused p acts turn ⊎ Draws password cost owner sets p acts turn

module _ (password : Bytes) (cost : ℕ) (owner : OwnerRow) (sets : Sets) (p : Point) (acts : List Act) (turn : Turn) where
  module _ (front : List Act) (q : Point) (rest : List Act) (first : SyncsUnder owner sets p front (goes_on q)) (are : acts ≡ front ++ rest) where
    -- it is over with what asks
    over_asking : (halt : Halt) → AsksFor password cost q rest (is_over halt) → turn ≡ is_over halt → DrawsOrNot password cost owner sets p acts turn
    over_asking halt asks is = by (asks_or_not password cost q rest (is_over halt) asks)
      where
        by : IsRefused q rest (is_over halt)
            ⊎ ((later : OwnerRow) × (held : Sets) × (set : KeySet) × (left : ChaCha) × AsksDrawn password cost later held set left q rest (is_over halt))
            → DrawsOrNot password cost owner sets p acts turn
        by (inl refuses) = inl (inr (front, q, rest, first, subst (IsRefused q rest) (sym is) refuses, are))
        by (inr (later, held, set, left, drawn)) = inr (record {
          later = later;
          held = held;
          set = set;
          left = left;
          keys = drawn_keys password cost later held set left q rest (is_over halt) drawn;
          so = inr (front, q, rest, first, inl (halt, drawn, is), are);
        })

    -- it goes on behind that
    on_asking : (asking : List Act) (z : Point) (others : List Act) → AsksFor password cost q asking (goes_on z) → Exchanges z others turn
        → rest ≡ asking ++ others → DrawsOrNot password cost owner sets p acts turn
    on_asking asking z others asks exchanges is = by (asks_or_not password cost q asking (goes_on z) asks)
      where
        by : IsRefused q asking (goes_on z)
            ⊎ ((later : OwnerRow) × (held : Sets) × (set : KeySet) × (left : ChaCha) × AsksDrawn password cost later held set left q asking (goes_on z))
            → DrawsOrNot password cost owner sets p acts turn
        by (inl (why, (none, ends))) = absurd (cc)
        by (inr (later, held, set, left, drawn)) = inr (record {
          later = later;
          held = held;
          set = set;
          left = left;
          keys = drawn_keys password cost later held set left q asking (goes_on z) drawn;
          so = inr (front, q, rest, first, inr (asking, z, others, drawn, exchanges, is), are);
        })

  draws_or_not : ChangesTo password cost owner sets p acts turn → DrawsOrNot password cost owner sets p acts turn
  draws_or_not (inl (halt, first, is)) = inl (inl (halt, first, is))
  draws_or_not (inr (front, q, rest, first, inl (halt, asks, is), are)) = over_asking front q rest first are halt asks is
  draws_or_not (inr (front, q, rest, first, inr (asking, z, others, asks, exchanges, is), are)) =
      on_asking front q rest first are asking z others asks exchanges is

-- so it is of the whole call
abbrev ChangesPasswordTo : Bytes → ℕ → OwnerRow → Sets → Point → List Act → Halt → Type 0
ChangesPasswordTo password cost owner sets p acts halt = AnswersNothing (Then (SyncsUnder owner sets) IsRefused) p acts halt
    ⊎ ((later : OwnerRow) × (held : Sets) × (set : KeySet) × (left : ChaCha) × IsSetFor password cost set
    × AnswersNothing (DrawsThis password cost owner sets later held set left) p acts halt)

changes_or_not : (password : Bytes) (cost : ℕ) (owner : OwnerRow) (sets : Sets) (p : Point) (acts : List Act) (halt : Halt)
    → AnswersNothing (ChangesTo password cost owner sets) p acts halt → ChangesPasswordTo password cost owner sets p acts halt
changes_or_not password cost owner sets p acts halt (inl so) = by (draws_or_not password cost owner sets p acts (is_over halt) so)
  where
    by : DrawsOrNot password cost owner sets p acts (is_over halt) → ChangesPasswordTo password cost owner sets p acts halt
    by (inl refuses) = inl (inl refuses)
    by (inr d) = inr (d.later, d.held, d.set, d.left, d.keys, inl d.so)
changes_or_not password cost owner sets p acts halt (inr (q, so, is)) = by (draws_or_not password cost owner sets p acts (goes_on q) so)
  where
    by : DrawsOrNot password cost owner sets p acts (goes_on q) → ChangesPasswordTo password cost owner sets p acts halt
    by (inl refuses) = inl (inr (q, refuses, is))
    by (inr d) = inr (d.later, d.held, d.set, d.left, d.keys, inr (q, d.so, is))

-- ---- each call

-- a piece of which less is known behind it
weaker : (secret name : Bytes) (begins : Request → Option KeySet) (piece : Piece) (Pre Q R : Known)
    → ((v : World) (t : Ideal) (p : Point) → Q v t p → R v t p) → PieceGoes secret name begins piece Pre Q → PieceGoes secret name begins piece Pre R
weaker secret name begins piece Pre Q R less goes v t server p acts fates turn k pre so over =
    known_turn secret v t name (call_steps name begins acts fates) (rows_served server fates) (rows_done p.rows acts) Q R turn less
    (goes v t server p acts fates turn k pre so over)

module _ (laws : CallLaws) (secret : Bytes) (differ : TokensDiffer secret) (w : World) (s : Ideal) (h : Holds secret w s) (name : Bytes) (words : ChaCha)
    (acts : List Act) (fates : List Fate) (halt : Halt) (only : IsOnlyAsked s (w.devices name)) (over : AreServed w.server acts fates) where
  abbrev first : Point
  first = begun (w.devices name) words

  abbrev call_ends : Call → Known → Type 0
  call_ends call Q = EndsCall secret w s name call acts fates halt Q

  stands : Stands secret name w s w.server (w.devices name)
  stands = record { holds = h; server_is = refl; device_is = refl }

  -- it is refused before any act
  refuses_call : (call : Call) (Q : Known) (why : ClientError) → Refuses acts halt why → call_ends call Q
  refuses_call call Q why refuses = record {
    begins = begins_none;
    of_call = λ r. tt;
    ends = refuses_ends laws.resolving.keeps laws.resolving.says secret differ name begins_none w s w.server first acts fates stands over Q halt why refuses;
  }

  -- what it may do before it begins
  may_resolve : (owner : OwnerRow) (sets : Sets) → HasSets (w.devices name) owner sets → MayResolve owner sets w s first
  may_resolve owner sets holds = (holds, λ set is. only set (asked_for (w.devices name) owner sets set holds is))

  sync_items : (owner : OwnerRow) (sets : Sets) → HasSets (w.devices name) owner sets → SyncsItems (w.devices name) words owner sets acts halt
      → call_ends sync (IsBrought name)
  sync_items owner sets holds so = record {
    begins = λ r. sets.asked;
    of_call = λ r. none_or (MayBeginBy (w.devices name) sync) sets.asked (λ set is. asked_for (w.devices name) owner sets set holds is);
    ends = answers_ends laws.resolving.keeps laws.resolving.says secret differ name (λ r. sets.asked) w s w.server first acts fates stands over
        (SyncsUnder owner sets) (MayResolve owner sets) (IsBrought name)
        (weaker secret name (λ r. sets.asked) (SyncsUnder owner sets) (MayResolve owner sets) (Together name sets.asked owner.token) (IsBrought name)
        (λ v t p (identifier, token, present, past, brought). (identifier, token, present, brought))
        (syncs_goes laws secret differ name (λ r. sets.asked) owner sets (λ set is. is)))
        (syncs_never owner sets) (may_resolve owner sets holds) halt so;
  }

  pub sync_ends : (least : ℕ) → Run least sync (w.devices name) words acts halt → call_ends sync (IsBrought name)
  sync_ends least (inl wants) = refuses_call sync (IsBrought name) refusal.Memory wants
  sync_ends least (inr (inl (nobody, refuses))) = refuses_call sync (IsBrought name) refusal.NoAccount refuses
  sync_ends least (inr (inr (owner, sets, holds, so))) = sync_items owner sets holds so

  module _ (password : Bytes) (cost : ℕ) (owner : OwnerRow) (sets : Sets) (holds : HasSets (w.devices name) owner sets) where
    -- it is refused before a new set is drawn
    refuses_change : AnswersNothing (Then (SyncsUnder owner sets) IsRefused) first acts halt → call_ends (passwd password cost) (IsBroughtAnew s name password cost)
    refuses_change so = record {
      begins = λ r. sets.asked;
      of_call = λ r. none_or (MayBeginBy (w.devices name) (passwd password cost)) sets.asked
          (λ set is. inr (asked_for (w.devices name) owner sets set holds is));
      ends = answers_ends laws.resolving.keeps laws.resolving.says secret differ name (λ r. sets.asked) w s w.server first acts fates stands over
          (Then (SyncsUnder owner sets) IsRefused) (MayResolve owner sets) (IsBroughtAnew s name password cost)
          (refused_goes laws secret differ name (λ r. sets.asked) owner sets (λ set is. is) (IsBroughtAnew s name password cost))
          (then_never (SyncsUnder owner sets) IsRefused (syncs_never owner sets) is_refused_never) (may_resolve owner sets holds) halt so;
    }

    -- this set is drawn
    changes_to : (later : OwnerRow) (held : Sets) (set : KeySet) (left : ChaCha) → IsSetFor password cost set
        → AnswersNothing (DrawsThis password cost owner sets later held set left) first acts halt → call_ends (passwd password cost) (IsBroughtAnew s name password cost)
    changes_to later held set left keys so = record {
      begins = begins_new owner.token sets.asked set;
      of_call = λ r. new_or_asked (MayBeginBy (w.devices name) (passwd password cost)) owner.token sets.asked set (inl keys.0)
          (λ old is. inr (asked_for (w.devices name) owner sets old holds is)) r;
      ends = answers_ends laws.resolving.keeps laws.resolving.says secret differ name (begins_new owner.token sets.asked set) w s w.server first acts fates
          stands over (DrawsThis password cost owner sets later held set left) (MayChange s owner sets) (IsBroughtAnew s name password cost)
          (changed_goes laws secret differ name (begins_new owner.token sets.asked set) owner sets
          (λ old is. begins_asked sets.asked set owner sets.present old is) s password cost later held set left
          (λ past. begins_past sets.asked set owner.token later held.present past) keys)
          (draws_never password cost owner sets later held set left) (may_resolve owner sets holds, refl) halt so;
    }

    renews : ChangesPasswordTo password cost owner sets first acts halt → call_ends (passwd password cost) (IsBroughtAnew s name password cost)
    renews (inl so) = refuses_change so
    renews (inr (later, held, set, left, keys, so)) = changes_to later held set left keys so

  pub passwd_ends : (least : ℕ) (password : Bytes) (cost : ℕ) → Run least (passwd password cost) (w.devices name) words acts halt
      → call_ends (passwd password cost) (IsBroughtAnew s name password cost)
  passwd_ends least password cost (inl wants) = refuses_call (passwd password cost) (IsBroughtAnew s name password cost) refusal.Memory wants
  passwd_ends least password cost (inr (inl (nobody, refuses))) = refuses_call (passwd password cost) (IsBroughtAnew s name password cost) refusal.NoAccount refuses
  passwd_ends least password cost (inr (inr (owner, sets, holds, inl (bad, refuses)))) =
      refuses_call (passwd password cost) (IsBroughtAnew s name password cost) (refusal.Cost cost) refuses
  passwd_ends least password cost (inr (inr (owner, sets, holds, inr (good, so)))) =
      renews password cost owner sets holds (changes_or_not password cost owner sets first acts halt so)

-- ---- the laws

pub every_sync_goes : CallLaws → EverySyncGoes
every_sync_goes laws secret w s name least words acts fates halt differ h only runs over =
    goes_call secret w s name sync acts fates halt (IsBrought name) (sync_ends laws secret differ w s h name words acts fates halt only over least runs)

pub passwds_go : CallLaws → PasswdsGo
passwds_go laws secret w s name least password cost words acts fates halt differ h only runs over =
    goes_call secret w s name (passwd password cost) acts fates halt (IsBroughtAnew s name password cost)
    (passwd_ends laws secret differ w s h name words acts fates halt only over least password cost runs)

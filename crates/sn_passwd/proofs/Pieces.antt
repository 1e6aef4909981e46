-- A call of a device piece by piece, as steps of the world: where a piece leads, and what is known behind it.
use Rattle.std.proofs.Common.{◌≡◌, ℕ, suc, List, [], ◌∷◌, ◌++◌, Option, true, refl, sym, ap, ◌∙◌, subst, inl, inr}
use Rattle.rand_chacha.specs.ChaCha.{ChaCha}
use Rattle.sn_account.specs.Rule.{Rule}
use Rattle.sn_device.specs.Asking.{Reply, lost, said, unheard, unread}
use Rattle.sn_device.specs.Runs.{Act, AnswersNothing, AsksHost, CommitsStep, EndsBy, Given, Halt, Hears, Point, StopsAt, Then, Turn, answered, asked, commits as committed, goes_on, is_over, refused, rows_done}
use Rattle.sn_device.specs.Steps.{Step, What}
use Rattle.sn_device.specs.declared.error.ClientError.{ClientError}
use Rattle.sn_device.specs.declared.error.ClientError.TheVariants as refusal
use Rattle.sn_laws.proofs.Facts.{end_from-append}
use Rattle.sn_laws.specs.Lookups.{Bytes}
use Rattle.sn_laws.specs.Runs.{LegalFrom, end_from}
use Rattle.sn_laws.specs.declared.ideal.Ideal.{Ideal}
use Rattle.sn_laws.specs.declared.moves.Move.{Move}
use Rattle.sn_rows.specs.Table.{Rows, rows_after}
use Rattle.sn_rows.specs.declared.change.Change.{Change}
use Rattle.sn_string.specs.declared.params.KeySet.{KeySet}
use Rattle.sn_sync.specs.Fits.{FitsRequest}
use Rattle.sn_sync.specs.declared.answer.Answer.{Answer}
use Rattle.sn_sync.specs.declared.request.Request.{Request}
use Rattle.sn_world.proofs.Facts.{Goes, Stands, answered_stands, commit_leads, is_answered, last_asked, leads_to_on, made_of, refuses_goes, said_moves, served_leads, served_world, split, stands_then, stops_goes, trace_append, trace_from}
use Rattle.sn_world.specs.Calls.{AreServed, Fate, Leads, LeadsTo, call_steps, rows_behind, rows_served}
use Rattle.sn_world.specs.Committing.{MayCommit}
use Rattle.sn_world.specs.Happens.{Happens, commits, makes, serves}
use Rattle.sn_world.specs.Holds.{Holds, TokensDiffer}
use Rattle.sn_world.specs.Laws.{Keeps, SaysSome}
use Rattle.sn_world.specs.Making.{MakesOf}
use Rattle.sn_world.specs.Serving.{SaysServed}
use Rattle.sn_world.specs.World.{Made, World}

-- ---- what is said of a piece

-- a piece of a call: where it begins, what it does, and how it turns out
abbrev pub Piece : Type 1
Piece = Point → List Act → Turn → Type 0

-- what is known where a call stands
abbrev pub Known : Type 1
Known = World → Ideal → Point → Type 0

-- where the piece ends the call, it leads as the call's end; where it goes on, to the rows of its point, of which more is known
abbrev pub LeadsTurn : (secret : Bytes) → World → Ideal → (name : Bytes) → List Happens → Rows → Rows → Known → Turn → Type 0
LeadsTurn secret w s name steps server device Q (is_over halt) = LeadsTo secret w s name steps server device halt
LeadsTurn secret w s name steps server device Q (goes_on p) =
    (x : Leads secret w s name steps server device) × (device ≡ p.rows) × Q x.next (end_from s x.moves) p

-- of acts with these fates
abbrev pub GoesTurn : (secret name : Bytes) → (Request → Option KeySet) → World → Ideal → Rows → Rows → Known → List Act → List Fate → Turn → Type 0
GoesTurn secret name begins v t server rows Q acts fates turn =
    LeadsTurn secret v t name (call_steps name begins acts fates) (rows_served server fates) (rows_done rows acts) Q turn

-- a piece, wherever this is so before it
abbrev pub PieceGoes : (secret name : Bytes) → (Request → Option KeySet) → Piece → Known → Known → Type 0
PieceGoes secret name begins piece Pre Post =
    (v : World) (t : Ideal) (server : Rows) (p : Point) (acts : List Act) (fates : List Fate) (turn : Turn)
    → Stands secret name v t server p.rows → Pre v t p → piece p acts turn → AreServed server acts fates
    → GoesTurn secret name begins v t server p.rows Post acts fates turn

-- it never answers the call
abbrev pub NeverAnswers : Piece → Type 0
NeverAnswers piece = (p : Point) (acts : List Act) (given : Given) (left : ChaCha) → ¬ (piece p acts (is_over (answered given left)))

-- ---- what leads there

-- the same steps and rows, otherwise spelled
pub same_turn : (secret : Bytes) (v : World) (t : Ideal) (name : Bytes) (a b : List Happens) (server other device rows : Rows) (Q : Known) (turn : Turn)
    → a ≡ b → server ≡ other → device ≡ rows → LeadsTurn secret v t name a server device Q turn → LeadsTurn secret v t name b other rows Q turn
same_turn secret v t name a b server other device rows Q turn steps servers devices x =
    subst (λ (z : List Happens). LeadsTurn secret v t name z other rows Q turn) steps
    (subst (λ (z : Rows). LeadsTurn secret v t name a z rows Q turn) servers
    (subst (λ (z : Rows). LeadsTurn secret v t name a server z Q turn) devices x))

-- less is known
pub known_turn : (secret : Bytes) (v : World) (t : Ideal) (name : Bytes) (steps : List Happens) (server device : Rows) (Q R : Known) (turn : Turn)
    → ((x : World) (u : Ideal) (p : Point) → Q x u p → R x u p) → LeadsTurn secret v t name steps server device Q turn
    → LeadsTurn secret v t name steps server device R turn
known_turn secret v t name steps server device Q R (is_over halt) less x = x
known_turn secret v t name steps server device Q R (goes_on p) less (one, is, known) = (one, is, less one.next (end_from t one.moves) p known)

-- ---- the rows behind some acts and others

served_append : (server : Rows) (met others : List Fate) → rows_served server (met ++ others) ≡ rows_served (rows_served server met) others
served_append server [] others = refl
served_append server (fate ∷ met) others = served_append (rows_behind server fate) met others

done_append : (rows : Rows) (front later : List Act) → rows_done rows (front ++ later) ≡ rows_done (rows_done rows front) later
done_append rows [] later = refl
done_append rows (committed what changes ∷ front) later = done_append (rows_after rows changes) front later
done_append rows (asked r reply ∷ front) later = done_append rows front later

-- ---- pieces that never answer

pub ends_never : (why : ClientError) → NeverAnswers (EndsBy why)
ends_never why p acts given left (none, is) = absurd (cc)

pub then_never : (first next : Piece) → NeverAnswers first → NeverAnswers next → NeverAnswers (Then first next)
then_never first next one two p acts given left (inl (halt, by_first, is)) =
    let same : halt ≡ answered given left = cc in
    one p acts given left (subst (λ (z : Halt). first p acts (is_over z)) same by_first)
then_never first next one two p acts given left (inr (front, q, later, by_first, by_next, is)) = two q later given left by_next

stops_never : (what : What) (changes : List Change) (given : Given) (left : ChaCha) → ¬ (StopsAt what changes (answered given left))
stops_never what changes given left (inl (batch, is)) = absurd (cc)
stops_never what changes given left (inr (inl (large, is))) = absurd (cc)
stops_never what changes given left (inr (inr is)) = absurd (cc)

pub commits_never : (what : What) → NeverAnswers (CommitsStep what)
commits_never what p acts given left (inl ends) = ends_never refusal.Memory p acts given left ends
commits_never what p acts given left (inr (changes, rest, step, inl (batch, one, is))) = absurd (cc)
commits_never what p acts given left (inr (changes, rest, step, inr (halt, none, stops, is))) =
    let same : halt ≡ answered given left = cc in
    stops_never what changes given left (subst (λ (z : Halt). StopsAt what changes z) same stops)

hears_never : (next : Answer → Piece) → ((given : Answer) → NeverAnswers (next given)) → (reply : Reply) → NeverAnswers (Hears next reply)
hears_never next none lost p acts given left (inl ends) = ends_never refusal.LinkFault p acts given left ends
hears_never next none lost p acts given left (inr ends) = ends_never refusal.Memory p acts given left ends
hears_never next none unheard p acts given left ends = ends_never refusal.Memory p acts given left ends
hears_never next none (unread at) p acts given left (inl ends) = ends_never (refusal.BadAnswer at) p acts given left ends
hears_never next none (unread at) p acts given left (inr ends) = ends_never refusal.Memory p acts given left ends
hears_never next none (said answer) p acts given left (inl ends) = ends_never refusal.Memory p acts given left ends
hears_never next none (said answer) p acts given left (inr so) = none answer p acts given left so

pub asks_never : (r : Request) (next : Answer → Piece) → ((given : Answer) → NeverAnswers (next given)) → NeverAnswers (AsksHost r next)
asks_never r next none p acts given left (inl ends) = ends_never refusal.Memory p acts given left ends
asks_never r next none p acts given left (inr (inl (all, ends))) = ends_never refusal.RoundsUsed p acts given left ends
asks_never r next none p acts given left (inr (inr (few, (reply, later, is, hears)))) =
    hears_never next none reply (record { made = suc p.made; rows = p.rows; words = p.words }) later given left hears

module _ (keeps : Keeps) (says : SaysSome) (secret : Bytes) (differ : TokensDiffer secret) (name : Bytes) where
  -- from where the first steps lead
  pub turn_on : (v : World) (t : Ideal) (a b : List Happens) (server rows server_after rows_left : Rows) (Q : Known) (turn : Turn)
      → (one : Leads secret v t name a server rows) → LeadsTurn secret one.next (end_from t one.moves) name b server_after rows_left Q turn
      → LeadsTurn secret v t name (a ++ b) server_after rows_left Q turn
  turn_on v t a b server rows server_after rows_left Q (is_over halt) one two =
      leads_to_on keeps says secret differ name v t a b server rows server_after rows_left halt one two
  turn_on v t a b server rows server_after rows_left Q (goes_on p) one (two, is, known) = (
    record {
      moves = one.moves ++ two.moves;
      next = two.next;
      goes = trace_append secret a b one.moves two.moves v one.next two.next t one.goes two.goes;
      server_is = two.server_is;
      device_is = two.device_is;
    },
    is,
    subst (λ (u : Ideal). Q two.next u p) (sym (end_from-append t one.moves two.moves)) known,
  )

  module _ (begins : Request → Option KeySet) where
    -- ---- nothing more is done

    pub ends_here : (why : ClientError) (Post : Known) (v : World) (t : Ideal) (server : Rows) (p : Point) (acts : List Act) (fates : List Fate) (turn : Turn)
        → Stands secret name v t server p.rows → EndsBy why p acts turn → AreServed server acts fates
        → GoesTurn secret name begins v t server p.rows Post acts fates turn
    ends_here why Post v t server p acts fates turn k (none, is) over =
        subst (λ (z : Turn). GoesTurn secret name begins v t server p.rows Post acts fates z) (sym is)
        (refuses_goes keeps says secret differ name begins v t server p.rows acts fates (refused why) why k (none, refl) over)

    pub ends_by_goes : (why : ClientError) (Pre Post : Known) → PieceGoes secret name begins (EndsBy why) Pre Post
    ends_by_goes why Pre Post v t server p acts fates turn k pre ends over = ends_here why Post v t server p acts fates turn k ends over

    -- ---- one piece behind another

    -- where the first one leads
    pub stands_behind : (v : World) (t : Ideal) (server : Rows) (p q : Point) (acts : List Act) (fates : List Fate) → Stands secret name v t server p.rows
        → (x : Leads secret v t name (call_steps name begins acts fates) (rows_served server fates) (rows_done p.rows acts)) → rows_done p.rows acts ≡ q.rows
        → Stands secret name x.next (end_from t x.moves) (rows_served server fates) q.rows
    stands_behind v t server p q acts fates k x is =
        subst (λ (r : Rows). Stands secret name x.next (end_from t x.moves) (rows_served server fates) r) is
        (stands_then keeps says secret differ name v t (call_steps name begins acts fates) (rows_served server fates) (rows_done p.rows acts) k.holds x)

    pub then_goes : (first next : Piece) (Pre Mid Post : Known) → PieceGoes secret name begins first Pre Mid → PieceGoes secret name begins next Mid Post
        → PieceGoes secret name begins (Then first next) Pre Post
    then_goes first next Pre Mid Post one two v t server p acts fates turn k pre (inl (halt, by_first, is)) over =
        subst (λ (z : Turn). GoesTurn secret name begins v t server p.rows Post acts fates z) (sym is)
        (one v t server p acts fates (is_over halt) k pre by_first over)
    then_goes first next Pre Mid Post one two v t server p acts fates turn k pre (inr (front, q, later, by_first, by_next, is)) over =
        let z = split name begins server front later fates (subst (λ (xs : List Act). AreServed server xs fates) is over) in
        let x : GoesTurn secret name begins v t server p.rows Mid front z.met (goes_on q) = one v t server p front z.met (goes_on q) k pre by_first z.over in
        let y : GoesTurn secret name begins x.0.next (end_from t x.0.moves) (rows_served server z.met) q.rows Post later z.others turn =
        two x.0.next (end_from t x.0.moves) (rows_served server z.met) q later z.others turn (stands_behind v t server p q front z.met k x.0 x.1) x.2 by_next
        z.later_over in
        subst (λ (xs : List Act). GoesTurn secret name begins v t server p.rows Post xs fates turn) (sym is)
        (same_turn secret v t name (call_steps name begins front z.met ++ call_steps name begins later z.others)
        (call_steps name begins (front ++ later) fates) (rows_served (rows_served server z.met) z.others) (rows_served server fates) (rows_done q.rows later)
        (rows_done p.rows (front ++ later)) Post turn (sym z.steps)
        (sym (ap (rows_served server) z.fates_are ∙ served_append server z.met z.others))
        (sym (done_append p.rows front later ∙ ap (λ (r : Rows). rows_done r later) x.1))
        (turn_on v t (call_steps name begins front z.met) (call_steps name begins later z.others) (rows_served server z.met) (rows_done p.rows front)
        (rows_served (rows_served server z.met) z.others) (rows_done q.rows later) Post turn x.0 y))

    -- ---- more is known by the moves that the piece says

    pub with_moves : (piece : Piece) (Pre Q R : Known)
        → ((v : World) (t : Ideal) (p : Point) (x : World) (moves : List Move) (q : Point) → Holds secret v t → v.devices name ≡ p.rows → Pre v t p
        → LegalFrom t moves → Holds secret x (end_from t moves) → x.devices name ≡ q.rows → Q x (end_from t moves) q → R x (end_from t moves) q)
        → PieceGoes secret name begins piece Pre Q → PieceGoes secret name begins piece Pre R
    with_moves piece Pre Q R so goes v t server p acts fates (is_over halt) k pre by over = goes v t server p acts fates (is_over halt) k pre by over
    with_moves piece Pre Q R so goes v t server p acts fates (goes_on q) k pre by over =
        let x : GoesTurn secret name begins v t server p.rows Q acts fates (goes_on q) = goes v t server p acts fates (goes_on q) k pre by over in
        let kept = trace_from keeps secret differ (call_steps name begins acts fates) x.0.moves v x.0.next t k.holds x.0.goes in
        (x.0, x.1, so v t p x.0.next x.0.moves q k.holds k.device_is pre kept.0 kept.1 (x.0.device_is ∙ x.1) x.2)

    -- ---- a commit

    module _ (what : What) (Pre Post : Known)
        (may : (v : World) (t : Ideal) (server : Rows) (p : Point) → Stands secret name v t server p.rows → Pre v t p
        → MayCommit secret server p.rows t name what)
        (behind : (v : World) (t : Ideal) (server : Rows) (p : Point) (changes : List Change) (left : ChaCha) → Stands secret name v t server p.rows → Pre v t p
        → Step p.rows p.words what changes left
        → (one : Leads secret v t name (commits name what changes true ∷ []) server (rows_after p.rows changes))
        → Stands secret name one.next (end_from t one.moves) server (rows_after p.rows changes)
        → Post one.next (end_from t one.moves) (record { made = p.made; rows = rows_after p.rows changes; words = left })) where
      pub commits_step_goes : PieceGoes secret name begins (CommitsStep what) Pre Post
      commits_step_goes v t server p acts fates turn k pre (inl ends) over = ends_here refusal.Memory Post v t server p acts fates turn k ends over
      commits_step_goes v t server p acts fates turn k pre (inr (changes, left, step, inl (batch, one, is))) over =
          let no_fates : fates ≡ [] = subst (λ (xs : List Act). AreServed server xs fates) one over in
          let leads : Leads secret v t name (commits name what changes true ∷ []) server (rows_after p.rows changes) =
          commit_leads keeps says secret differ name v t server p.rows p.words left what changes k step (may v t server p k pre) in
          let stands : Stands secret name leads.next (end_from t leads.moves) server (rows_after p.rows changes) =
          stands_then keeps says secret differ name v t (commits name what changes true ∷ []) server (rows_after p.rows changes) k.holds leads in
          subst (λ (xs : List Act). GoesTurn secret name begins v t server p.rows Post xs fates turn) (sym one)
          (subst (λ (fs : List Fate). GoesTurn secret name begins v t server p.rows Post (committed what changes ∷ []) fs turn) (sym no_fates)
          (subst (λ (z : Turn). GoesTurn secret name begins v t server p.rows Post (committed what changes ∷ []) [] z) (sym is)
          (leads, refl, behind v t server p changes left k pre step leads stands)))
      commits_step_goes v t server p acts fates turn k pre (inr (changes, left, step, inr (halt, none, stops, is))) over =
          subst (λ (z : Turn). GoesTurn secret name begins v t server p.rows Post acts fates z) (sym is)
          (stops_goes keeps says secret differ name begins v t server p.rows acts fates halt p.words left what changes k step (may v t server p k pre) none
          stops over)

    -- ---- a request

    module _ (v : World) (t : Ideal) (server : Rows) (p : Point) (k : Stands secret name v t server p.rows) (r : Request) (of : MakesOf p.rows (begins r) r)
        (Post : Known) where
      abbrev m : Made
      m = made_of name (begins r) r

      abbrev heard : Point
      heard = record { made = suc p.made; rows = p.rows; words = p.words }

      -- what is done behind an answer of the server, whatever moves it says
      abbrev pub BehindAnswer : (Answer → Piece) → Turn → Type 0
      BehindAnswer next turn = (now : ℕ) (changes : List Change) (given : Answer) (moves : List Move) (later : List Act) (fates : List Fate) → FitsRequest r
          → Rule server r now changes given → SaysServed v.server (v.devices name) m changes moves
          → Stands secret name (served_world v m changes) (end_from t moves) (rows_after server changes) p.rows → next given heard later turn
          → AreServed (rows_after server changes) later fates
          → GoesTurn secret name begins (served_world v m changes) (end_from t moves) (rows_after server changes) p.rows Post later fates turn

      no_answer : (reply : Reply) (later : List Act) (fates : List Fate) (turn : Turn) (why : ClientError) → EndsBy why heard later turn
          → AreServed server (asked r reply ∷ later) fates → GoesTurn secret name begins v t server p.rows Post (asked r reply ∷ later) fates turn
      no_answer reply later fates turn why (none, is) over =
          subst (λ (z : Turn). GoesTurn secret name begins v t server p.rows Post (asked r reply ∷ later) fates z) (sym is)
          (last_asked keeps says secret differ name begins v t server p.rows k r of reply later fates (refused why) why (none, refl) over)

      with_answer : (next : Answer → Piece) (given : Answer) (later : List Act) (fates : List Fate) (turn : Turn) → BehindAnswer next turn
          → next given heard later turn → AreServed server (asked r (said given) ∷ later) fates
          → GoesTurn secret name begins v t server p.rows Post (asked r (said given) ∷ later) fates turn
      with_answer next given later [] turn on so over = absurd over
      with_answer next given later (fate ∷ fates) turn on so (one, rest) =
          let a = is_answered server r given (said given) fate refl one in
          let beyond : AreServed (rows_after server a.changes) later fates =
          subst (λ (f : Fate). AreServed (rows_behind server f) later fates) a.fate_is rest in
          let some = said_moves keeps says secret differ name begins v t server p.rows k r of a.now a.changes given a.fits a.rule in
          let leads = served_leads keeps says secret differ name begins v t server p.rows k r of a.now a.changes given some.0 a.fits a.rule some.1 in
          let stands : Stands secret name (served_world v m a.changes) (end_from t some.0) (rows_after server a.changes) p.rows =
          answered_stands keeps says secret differ name begins v t server p.rows k r of a.now a.changes given some.0 a.fits a.rule some.1 in
          let behind : GoesTurn secret name begins leads.0.next (end_from t leads.0.moves) (rows_after server a.changes) p.rows Post later fates turn =
          subst (λ (x : World). GoesTurn secret name begins x (end_from t leads.0.moves) (rows_after server a.changes) p.rows Post later fates turn)
          (sym leads.2)
          (subst (λ (ms : List Move). GoesTurn secret name begins (served_world v m a.changes) (end_from t ms) (rows_after server a.changes) p.rows Post later fates
          turn) (sym leads.1) (on a.now a.changes given some.0 later fates a.fits a.rule some.1 stands so beyond)) in
          subst (λ (f : Fate). GoesTurn secret name begins v t server p.rows Post (asked r (said given) ∷ later) (f ∷ fates) turn) (sym a.fate_is)
          (turn_on v t (makes m ∷ serves m a.now a.changes given true ∷ []) (call_steps name begins later fates) (rows_after server a.changes) p.rows
          (rows_served (rows_after server a.changes) fates) (rows_done p.rows later) Post turn leads.0 behind)

      hears_goes : (next : Answer → Piece) (reply : Reply) (later : List Act) (fates : List Fate) (turn : Turn) → BehindAnswer next turn
          → Hears next reply heard later turn → AreServed server (asked r reply ∷ later) fates
          → GoesTurn secret name begins v t server p.rows Post (asked r reply ∷ later) fates turn
      hears_goes next lost later fates turn on (inl ends) over = no_answer lost later fates turn refusal.LinkFault ends over
      hears_goes next lost later fates turn on (inr ends) over = no_answer lost later fates turn refusal.Memory ends over
      hears_goes next unheard later fates turn on ends over = no_answer unheard later fates turn refusal.Memory ends over
      hears_goes next (unread at) later fates turn on (inl ends) over = no_answer (unread at) later fates turn (refusal.BadAnswer at) ends over
      hears_goes next (unread at) later fates turn on (inr ends) over = no_answer (unread at) later fates turn refusal.Memory ends over
      hears_goes next (said given) later fates turn on (inl ends) over = no_answer (said given) later fates turn refusal.Memory ends over
      hears_goes next (said given) later fates turn on (inr so) over = with_answer next given later fates turn on so over

      pub asks_host_goes : (next : Answer → Piece) (acts : List Act) (fates : List Fate) (turn : Turn) → BehindAnswer next turn → AsksHost r next p acts turn
          → AreServed server acts fates → GoesTurn secret name begins v t server p.rows Post acts fates turn
      asks_host_goes next acts fates turn on (inl ends) over = ends_here refusal.Memory Post v t server p acts fates turn k ends over
      asks_host_goes next acts fates turn on (inr (inl (all, ends))) over = ends_here refusal.RoundsUsed Post v t server p acts fates turn k ends over
      asks_host_goes next acts fates turn on (inr (inr (few, (reply, later, is, hears)))) over =
          subst (λ (xs : List Act). GoesTurn secret name begins v t server p.rows Post xs fates turn) (sym is)
          (hears_goes next reply later fates turn on hears (subst (λ (xs : List Act). AreServed server xs fates) is over))

    -- ---- a call of which nothing is behind the piece

    module _ (piece : Piece) (Pre Post : Known) (goes : PieceGoes secret name begins piece Pre Post) (v : World) (t : Ideal) (server : Rows) (p : Point)
        (acts : List Act) (fates : List Fate) (k : Stands secret name v t server p.rows) (pre : Pre v t p) (over : AreServed server acts fates) where
      pub answers_nothing_goes : (halt : Halt) → AnswersNothing piece p acts halt → Goes secret name begins v t server p.rows acts fates halt
      answers_nothing_goes halt (inl ends) = goes v t server p acts fates (is_over halt) k pre ends over
      answers_nothing_goes halt (inr (q, so, is)) =
          let x : GoesTurn secret name begins v t server p.rows Post acts fates (goes_on q) = goes v t server p acts fates (goes_on q) k pre so over in
          subst (λ (z : Halt). Goes secret name begins v t server p.rows acts fates z) (sym is) x.0

      -- where it is answered, the piece went on
      pub answered_turn : (given : Given) (left : ChaCha) → NeverAnswers piece → AnswersNothing piece p acts (answered given left)
          → (q : Point) × GoesTurn secret name begins v t server p.rows Post acts fates (goes_on q)
      answered_turn given left never (inl ends) = absurd (never p acts given left ends)
      answered_turn given left never (inr (q, so, is)) = (q, goes v t server p acts fates (goes_on q) k pre so over)

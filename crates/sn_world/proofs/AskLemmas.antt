-- A request of a device, whatever becomes of it, as steps of the world; and a call that goes on with its answer.
use Rattle.std.proofs.Common.{◌≡◌, ℕ, List, [], ◌∷◌, Option, true, false, refl, sym, ap, subst, inl, inr}
use Rattle.std.proofs.lemmas.List.{append-nil}
use Rattle.sn_account.specs.Rule.{Rule}
use Rattle.sn_device.specs.Asking.{Reply, lost, said, unheard, unread}
use Rattle.sn_device.specs.Runs.{Act, AsksFirst, Halt, Refuses, asked, rows_done}
use Rattle.sn_device.specs.States.{Bytes}
use Rattle.sn_device.specs.declared.error.ClientError.{ClientError}
use Rattle.sn_device.specs.declared.error.ClientError.TheVariants as refusal
use Rattle.sn_laws.specs.Runs.{end_from}
use Rattle.sn_laws.specs.declared.ideal.Ideal.{Ideal}
use Rattle.sn_laws.specs.declared.moves.Move.{Move}
use Rattle.sn_rows.specs.Table.{Rows, rows_after}
use Rattle.sn_rows.specs.declared.change.Change.{Change}
use Rattle.sn_string.specs.declared.params.KeySet.{KeySet}
use Rattle.sn_sync.specs.Fits.{FitsRequest}
use Rattle.sn_sync.specs.declared.answer.Answer.{Answer}
use Rattle.sn_sync.specs.declared.request.Request.{Request}
use Rattle.sn_world.proofs.CallLemmas.{Goes, Stands, leads_to_on, stands_then}
use Rattle.sn_world.specs.Calls.{AreServed, Fate, IsServed, Leads, call_steps, crashed, rows_behind, rows_served, served, undelivered}
use Rattle.sn_world.specs.Happens.{makes, serves}
use Rattle.sn_world.specs.Holds.{Holds, TokensDiffer}
use Rattle.sn_world.specs.Laws.{Keeps, SaysSome}
use Rattle.sn_world.specs.Making.{MakesRequest, MakesOf}
use Rattle.sn_world.specs.Serving.{SaysServed, Serves}
use Rattle.sn_world.specs.World.{Made, World}

abbrev pub made_of : Bytes → Option KeySet → Request → Made
made_of name begins r = record { device = name; request = r; begins = begins }

abbrev pub made_world : World → Made → World
made_world v m = record { server = v.server; devices = v.devices; made = m ∷ v.made }

abbrev pub served_world : World → Made → List Change → World
served_world v m changes = record { server = rows_after v.server changes; devices = v.devices; made = m ∷ v.made }

pub makes_so : (v : World) (name : Bytes) (begins : Option KeySet) (r : Request) (rows : Rows) → v.devices name ≡ rows → MakesOf rows begins r
    → MakesRequest v (made_world v (made_of name begins r)) (made_of name begins r)
makes_so v name begins r rows device_is of =
    record { of = subst (λ (x : Rows). MakesOf x begins r) (sym device_is) of; server = refl; devices = refl; made = refl }

pub serves_so : (v : World) (m : Made) (server : Rows) (now : ℕ) (changes : List Change) (given : Answer) → v.server ≡ server → FitsRequest m.request
    → Rule server m.request now changes given → Serves (made_world v m) (served_world v m changes) m now changes given
serves_so v m server now changes given server_is fits rule = record {
  made = inl refl;
  fits = fits;
  rule = subst (λ (x : Rows). Rule x m.request now changes given) (sym server_is) rule;
  on = record { server = refl; devices = refl; made = refl };
}

-- where an answer comes back, the request was served, and it is that answer
pub record IsAnswered (server : Rows) (r : Request) (given : Answer) (fate : Fate) : Type 0 where
  pub now : ℕ
  pub changes : List Change
  pub fate_is : fate ≡ served now changes given true
  pub fits : FitsRequest r
  pub rule : Rule server r now changes given

pub is_answered : (server : Rows) (r : Request) (given : Answer) (reply : Reply) (fate : Fate) → reply ≡ said given → IsServed server r reply fate
    → IsAnswered server r given fate
is_answered server r given (said other) (served now changes answer true) is (fits, rule, back) =
    let same : answer ≡ given = cc in
    record {
      now = now;
      changes = changes;
      fate_is = ap (λ (x : Answer). served now changes x true) same;
      fits = fits;
      rule = subst (λ (x : Answer). Rule server r now changes x) same rule;
    }
is_answered server r given (said other) (served now changes answer false) is (fits, rule, back) = absurd back
is_answered server r given (said other) (crashed now changes answer) is (fits, rule, back) = absurd back
is_answered server r given (said other) undelivered is back = absurd back
is_answered server r given lost fate is over = absurd (cc)
is_answered server r given unheard fate is over = absurd (cc)
is_answered server r given (unread at) fate is over = absurd (cc)

-- ---- a request, whatever becomes of it

module _ (keeps : Keeps) (says : SaysSome) (secret : Bytes) (differ : TokensDiffer secret) (name : Bytes) (begins : Request → Option KeySet) (v : World)
    (t : Ideal) (server rows : Rows) (k : Stands secret name v t server rows) (r : Request) (of : MakesOf rows (begins r) r) where
  abbrev m : Made
  m = made_of name (begins r) r

  pub holds_made : Holds secret (made_world v m) t
  holds_made = (keeps secret v (made_world v m) t (makes m) [] differ k.holds (makes_so v name (begins r) r rows k.device_is of) refl).1

  -- it is made and served, with these moves
  pub served_leads : (now : ℕ) (changes : List Change) (given : Answer) (moves : List Move) → FitsRequest r → Rule server r now changes given
      → SaysServed v.server (v.devices name) m changes moves
      → (one : Leads secret v t name (makes m ∷ serves m now changes given true ∷ []) (rows_after server changes) rows)
      × (one.moves ≡ moves) × (one.next ≡ served_world v m changes)
  served_leads now changes given moves fits rule says_it = (
    record {
      moves = moves;
      next = served_world v m changes;
      goes = (
        made_world v m,
        [],
        moves,
        makes_so v name (begins r) r rows k.device_is of,
        refl,
        (served_world v m changes, moves, [], serves_so v m server now changes given k.server_is fits rule, says_it, (refl, refl), sym (append-nil moves)),
        refl,
      );
      server_is = ap (λ (x : Rows). rows_after x changes) k.server_is;
      device_is = k.device_is;
    },
    refl,
    refl,
  )

  -- some moves are said
  pub said_moves : (now : ℕ) (changes : List Change) (given : Answer) → FitsRequest r → Rule server r now changes given
      → (moves : List Move) × SaysServed v.server (v.devices name) m changes moves
  said_moves now changes given fits rule =
      says secret (made_world v m) (served_world v m changes) t (serves m now changes given true) holds_made
      (serves_so v m server now changes given k.server_is fits rule)

  pub ask_leads : (reply : Reply) (fate : Fate) → IsServed server r reply fate
      → Leads secret v t name (call_steps name begins (asked r reply ∷ []) (fate ∷ [])) (rows_behind server fate) rows
  ask_leads reply undelivered over = record {
    moves = [];
    next = made_world v m;
    goes = (made_world v m, [], [], makes_so v name (begins r) r rows k.device_is of, refl, (refl, refl), refl);
    server_is = k.server_is;
    device_is = k.device_is;
  }
  ask_leads reply (served now changes given arrives) (fits, rule, back) =
      let some = said_moves now changes given fits rule in
      (served_leads now changes given some.0 fits rule some.1).0
  ask_leads reply (crashed now changes given) over = record {
    moves = [];
    next = made_world v m;
    goes = (
      made_world v m,
      [],
      [],
      makes_so v name (begins r) r rows k.device_is of,
      refl,
      (made_world v m, [], [], refl, refl, (refl, refl), refl),
      refl,
    );
    server_is = k.server_is;
    device_is = k.device_is;
  }

  -- ---- a call that goes on with the answer

  pub answered_stands : (now : ℕ) (changes : List Change) (given : Answer) (moves : List Move) → FitsRequest r → Rule server r now changes given
      → SaysServed v.server (v.devices name) m changes moves → Stands secret name (served_world v m changes) (end_from t moves) (rows_after server changes) rows
  answered_stands now changes given moves fits rule says_it =
      let one = served_leads now changes given moves fits rule says_it in
      subst (λ (x : World). Stands secret name x (end_from t moves) (rows_after server changes) rows) one.2
      (subst (λ (ms : List Move). Stands secret name one.0.next (end_from t ms) (rows_after server changes) rows) one.1
      (stands_then keeps says secret differ name v t (makes m ∷ serves m now changes given true ∷ []) (rows_after server changes) rows k.holds one.0))

  -- no answer is gone on with
  pub last_asked : (reply : Reply) (later : List Act) (fates : List Fate) (halt : Halt) (why : ClientError) → Refuses later halt why
      → AreServed server (asked r reply ∷ later) fates → Goes secret name begins v t server rows (asked r reply ∷ later) fates halt
  last_asked reply later [] halt why refuses over = absurd over
  last_asked reply later (fate ∷ fates) halt why (none, is) (one, rest) =
      let no_fates : fates ≡ [] = subst (λ (xs : List Act). AreServed (rows_behind server fate) xs fates) none rest in
      subst (λ (xs : List Act). Goes secret name begins v t server rows (asked r reply ∷ xs) (fate ∷ fates) halt) (sym none)
      (subst (λ (fs : List Fate). Goes secret name begins v t server rows (asked r reply ∷ []) (fate ∷ fs) halt) (sym no_fates)
      (subst (λ (z : Halt). Goes secret name begins v t server rows (asked r reply ∷ []) (fate ∷ []) z) (sym is)
      (ask_leads reply fate one)))

  -- what is done behind an answer of the server, whatever moves it says
  abbrev pub Behind : (Answer → List Act → Halt → Type 0) → Halt → Type 0
  Behind P halt = (now : ℕ) (changes : List Change) (given : Answer) (moves : List Move) (later : List Act) (fates : List Fate) → FitsRequest r
      → Rule server r now changes given → SaysServed v.server (v.devices name) m changes moves → P given later halt
      → AreServed (rows_after server changes) later fates
      → Goes secret name begins (served_world v m changes) (end_from t moves) (rows_after server changes) rows later fates halt

  pub goes_on_asked : (P : Answer → List Act → Halt → Type 0) (reply : Reply) (given : Answer) (later : List Act) (fates : List Fate) (halt : Halt) → Behind P halt
      → reply ≡ said given → P given later halt → AreServed server (asked r reply ∷ later) fates
      → Goes secret name begins v t server rows (asked r reply ∷ later) fates halt
  goes_on_asked P reply given later [] halt on is p over = absurd over
  goes_on_asked P reply given later (fate ∷ fates) halt on is p (one, rest) =
      let a = is_answered server r given reply fate is one in
      let beyond : AreServed (rows_after server a.changes) later fates = subst (λ (f : Fate). AreServed (rows_behind server f) later fates) a.fate_is rest in
      let some = said_moves a.now a.changes given a.fits a.rule in
      let leads = served_leads a.now a.changes given some.0 a.fits a.rule some.1 in
      let behind : Goes secret name begins leads.0.next (end_from t leads.0.moves) (rows_after server a.changes) rows later fates halt =
      subst (λ (x : World). Goes secret name begins x (end_from t leads.0.moves) (rows_after server a.changes) rows later fates halt) (sym leads.2)
      (subst (λ (ms : List Move). Goes secret name begins (served_world v m a.changes) (end_from t ms) (rows_after server a.changes) rows later fates halt)
      (sym leads.1) (on a.now a.changes given some.0 later fates a.fits a.rule some.1 p beyond)) in
      subst (λ (f : Fate). Goes secret name begins v t server rows (asked r reply ∷ later) (f ∷ fates) halt) (sym a.fate_is)
      (leads_to_on keeps says secret differ name v t (makes m ∷ serves m a.now a.changes given true ∷ []) (call_steps name begins later fates)
      (rows_after server a.changes) rows (rows_served (rows_after server a.changes) fates) (rows_done rows later) halt leads.0 behind)

  pub asks_goes : (P : Answer → List Act → Halt → Type 0) (acts : List Act) (fates : List Fate) (halt : Halt) → Behind P halt → AsksFirst r P acts halt
      → AreServed server acts fates → Goes secret name begins v t server rows acts fates halt
  asks_goes P acts fates halt on (reply, later, is, inl (why, fails, refuses)) over =
      subst (λ (xs : List Act). Goes secret name begins v t server rows xs fates halt) (sym is)
      (last_asked reply later fates halt why refuses (subst (λ (xs : List Act). AreServed server xs fates) is over))
  asks_goes P acts fates halt on (reply, later, is, inr (inl wants)) over =
      subst (λ (xs : List Act). Goes secret name begins v t server rows xs fates halt) (sym is)
      (last_asked reply later fates halt refusal.Memory wants (subst (λ (xs : List Act). AreServed server xs fates) is over))
  asks_goes P acts fates halt on (reply, later, is, inr (inr (given, said_so, p))) over =
      subst (λ (xs : List Act). Goes secret name begins v t server rows xs fates halt) (sym is)
      (goes_on_asked P reply given later fates halt on said_so p (subst (λ (xs : List Act). AreServed server xs fates) is over))

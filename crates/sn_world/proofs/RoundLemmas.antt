-- A round of a device's sync is steps of the world.
use Rattle.std.proofs.Common.{◌≡◌, ℕ, List, [], ◌∷◌, ◌++◌, Option, None, true, refl, sym, ap, ◌∙◌, subst, inl}
use Rattle.rand_chacha.specs.ChaCha.{ChaCha}
use Rattle.sn_account.specs.Rule.{Rule}
use Rattle.sn_account.specs.Tells.{AreApart, uuids}
use Rattle.sn_device.specs.Runs.{IsRound, Round, Sends, Standing, items_of}
use Rattle.sn_device.specs.Sending.{PostsAll}
use Rattle.sn_device.specs.States.{IsSound}
use Rattle.sn_device.specs.Steps.{Step, applies, posts}
use Rattle.sn_laws.specs.Lookups.{Bytes}
use Rattle.sn_laws.specs.Runs.{end_from}
use Rattle.sn_laws.specs.declared.ideal.Ideal.{Ideal}
use Rattle.sn_laws.specs.declared.moves.Move.{Move}
use Rattle.sn_rows.specs.Table.{Rows, rows_after}
use Rattle.sn_rows.specs.declared.change.Change.{Change}
use Rattle.sn_shows.specs.Laws.{AccountsApart}
use Rattle.sn_string.specs.declared.params.KeySet.{KeySet}
use Rattle.sn_sync.specs.Fits.{FitsRequest}
use Rattle.sn_sync.specs.declared.answer.Answer.{Answer}
use Rattle.sn_sync.specs.declared.answer.Answer.TheVariants as answer
use Rattle.sn_sync.specs.declared.request.Request.{Request}
use Rattle.sn_sync.specs.declared.request.Request.TheVariants as request
use Rattle.sn_world.proofs.DeviceRows.{with_device, with_other, with_own}
use Rattle.sn_world.specs.Committing.{AreDifferent, Commits}
use Rattle.sn_world.specs.Happens.{Happens, Trace, commits, makes, serves}
use Rattle.sn_world.specs.Holds.{Holds, TokensDiffer}
use Rattle.sn_world.specs.Laws.{KeepsCommitting, KeepsMaking, KeepsServing, SaysSome, SendsArePosted, ServedTells}
use Rattle.sn_world.specs.Making.{MakesRequest, MakesOf, SendsTokens}
use Rattle.sn_world.specs.Rounds.{RoundsGo, posting_steps}
use Rattle.sn_world.specs.Serving.{SaysServed, Serves}
use Rattle.sn_world.specs.World.{Made, OnDevice, World}

pub record RoundLaws : Type 0 where
  pub apart : AccountsApart
  pub commit : KeepsCommitting
  pub make : KeepsMaking
  pub serve : KeepsServing
  pub tells : ServedTells
  pub sends : SendsArePosted
  pub says : SaysSome

pub changed_device : (w : World) (name : Bytes) (changes : List Change) → OnDevice w (with_device w name (rows_after (w.devices name) changes)) name changes
changed_device w name changes = record {
  server = refl;
  own = with_own w name (rows_after (w.devices name) changes);
  others = with_other w name (rows_after (w.devices name) changes);
  made = refl;
}

-- a device's request that would begin this set
abbrev pub made_with : Bytes → Option KeySet → Request → Made
made_with name begins r = record { device = name; request = r; begins = begins }

-- ---- behind the posting

-- the request is made and served at this time, which changes this, and the answer is applied
abbrev pub asking_steps : Made → ℕ → List Change → Answer → List Change → List Happens
asking_steps m now changes given applied =
    makes m ∷ serves m now changes given true ∷ commits m.device (applies m.request given) applied true ∷ []

pub record GoesOn (secret name : Bytes) (begins : Option KeySet) (w : World) (s : Ideal) (now : ℕ) (changes applied : List Change) (r : Request)
    (given : Answer) : Type 0 where
  pub moves : List Move
  pub next : World
  pub goes : Trace secret w s (asking_steps (made_with name begins r) now changes given applied) moves next
  pub server : next.server ≡ rows_after w.server changes
  pub device : next.devices name ≡ rows_after (w.devices name) applied

module _ (laws : RoundLaws) (secret : Bytes) (differ : TokensDiffer secret) (name : Bytes) (begins : Option KeySet) (w : World) (s : Ideal)
    (h : Holds secret w s) (words left : ChaCha) (now : ℕ) (changes applied : List Change) where
  abbrev m : Request → Made
  m r = made_with name begins r

  abbrev made : Request → World
  made r = record { server = w.server; devices = w.devices; made = m r ∷ w.made }

  abbrev served : Request → World
  served r = record { server = rows_after w.server changes; devices = w.devices; made = m r ∷ w.made }

  abbrev last : Request → World
  last r = with_device (served r) name (rows_after (w.devices name) applied)

  pub goes_on_applied : (r : Request) (given : Answer) → FitsRequest r → MakesOf (w.devices name) begins r → AreApart (uuids (items_of r))
      → SendsTokens (w.devices name) r → Rule w.server r now changes given → Step (w.devices name) words (applies r given) applied left
      → GoesOn secret name begins w s now changes applied r given
  goes_on_applied (request.Sync token items limit sync_token cursor_token) (answer.Sync conflicts cursor retrieved saved next_token) fits makes_it apart tokens rule step =
      let r : Request = request.Sync token items limit sync_token cursor_token in
      let given : Answer = answer.Sync conflicts cursor retrieved saved next_token in
      let makes_so : MakesRequest w (made r) (m r) = record { of = makes_it; server = refl; devices = refl; made = refl } in
      let h_made : Holds secret (made r) s = laws.make secret w (made r) s (m r) differ h makes_so in
      let serves_so : Serves (made r) (served r) (m r) now changes given =
      record { made = inl refl; fits = fits; rule = rule; on = record { server = refl; devices = refl; made = refl } } in
      let said_so : (moves : List Move) × SaysServed w.server (w.devices name) (m r) changes moves =
      laws.says secret (made r) (served r) s (serves (m r) now changes given true) h_made serves_so in
      let first : List Move = said_so.0 in
      let told =
      laws.tells secret (made r) (served r) s (m r) token items now changes first conflicts cursor retrieved saved next_token differ h_made
      (record { limit = limit; sync_token = sync_token; cursor_token = cursor_token; is = refl }) makes_it.from tokens apart serves_so said_so.1 in
      let h_served : Holds secret (served r) (end_from s first) =
      (laws.serve secret (made r) (served r) s (m r) now changes given first differ h_made serves_so said_so.1).1 in
      let commits_so : Commits (served r) (last r) name (applies r given) applied =
      record { words = words; left = left; step = step; on = changed_device (served r) name applied } in
      let says = laws.says secret (served r) (last r) (end_from s first) (commits name (applies r given) applied true) h_served (commits_so, told) in
      record {
        moves = first ++ (says.0 ++ []);
        next = last r;
        server = refl;
        device = with_own (served r) name (rows_after (w.devices name) applied);
        goes = (
          made r,
          [],
          first ++ (says.0 ++ []),
          makes_so,
          refl,
          (
            served r,
            first,
            says.0 ++ [],
            serves_so,
            said_so.1,
            (
              last r,
              says.0,
              [],
              (commits_so, told),
              says.1,
              (refl, refl),
              refl,
            ),
            refl,
          ),
          refl,
        );
      }
  goes_on_applied (request.Sync token items limit sync_token cursor_token) (answer.Account other identifier uuid) fits makes_it apart tokens rule step = absurd step
  goes_on_applied (request.Sync token items limit sync_token cursor_token) (answer.Params params) fits makes_it apart tokens rule step = absurd step
  goes_on_applied (request.Sync token items limit sync_token cursor_token) (answer.Refused status tag more) fits makes_it apart tokens rule step = absurd step
  goes_on_applied (request.Register params pw) given fits makes_it apart tokens rule step = absurd step
  goes_on_applied (request.Params identifier) given fits makes_it apart tokens rule step = absurd step
  goes_on_applied (request.SignIn identifier pw) given fits makes_it apart tokens rule step = absurd step
  goes_on_applied (request.ChangePw token current pw cost nonce) given fits makes_it apart tokens rule step = absurd step

-- ---- a round

posted_none : (rows : Rows) (posted : List Change) → PostsAll rows [] posted → posted ≡ []
posted_none rows [] all = refl
posted_none rows (c ∷ cs) all = absurd all

-- what is posted and sent of the rows of a world that holds
pub sent_of : SendsArePosted → (secret : Bytes) (w : World) (s : Ideal) (name : Bytes) (rows : Rows) → Holds secret w s → w.devices name ≡ rows
    → (numbers : List ℕ) (posted : List Change) (r : Request) (ready : Rows) → Sends rows numbers posted r ready
    → AreDifferent numbers × ((begins : Option KeySet) → MakesOf ready begins r) × AreApart (uuids (items_of r)) × SendsTokens ready r
sent_of are_posted secret w s name rows h rows_are numbers posted r ready sends =
    are_posted rows numbers posted r ready (subst (λ (r : Rows). IsSound r) rows_are (h.sound name)) sends

-- the steps of a round whose request would begin this set
abbrev pub round_steps_with : Bytes → Option KeySet → Round → ℕ → List Change → List Happens
round_steps_with name begins round now changes =
    posting_steps name round.numbers round.posted
    ++ asking_steps (made_with name begins round.request) now changes round.given round.applied

-- the rows of the device and of the server are those after the round, whichever set its request would begin
pub record GoesRoundBy (secret : Bytes) (w : World) (s : Ideal) (name : Bytes) (begins : Option KeySet) (round : Round) (after : Standing) (now : ℕ)
    (changes : List Change) : Type 0 where
  pub moves : List Move
  pub next : World
  pub goes : Trace secret w s (round_steps_with name begins round now changes) moves next
  pub server : next.server ≡ rows_after w.server changes
  pub device : next.devices name ≡ after.rows

module _ (laws : RoundLaws) (secret : Bytes) (w : World) (s : Ideal) (name : Bytes) (begins : Option KeySet) (at : Standing) (round : Round)
    (after : Standing) (now : ℕ) (changes : List Change) (differ : TokensDiffer secret) (h : Holds secret w s)
    (fits : FitsRequest round.request) (rows_are : w.devices name ≡ at.rows) (x : IsRound at round after)
    (rule : Rule w.server round.request now changes round.given) where
  ready_is : x.ready ≡ rows_after at.rows round.posted
  ready_is = x.sends.ready_is

  sends : AreDifferent round.numbers × ((begins : Option KeySet) → MakesOf x.ready begins round.request) × AreApart (uuids (items_of round.request))
      × SendsTokens x.ready round.request
  sends = sent_of laws.sends secret w s name at.rows h rows_are round.numbers round.posted round.request x.ready x.sends

  -- from the rows that the posting leaves
  behind : (v : World) (t : Ideal) → Holds secret v t → v.server ≡ w.server → v.devices name ≡ x.ready
      → GoesOn secret name begins v t now changes round.applied round.request round.given
  behind v t k server device =
      goes_on_applied laws secret differ name begins v t k at.words x.left now changes round.applied round.request round.given fits
      (subst (λ (r : Rows). MakesOf r begins round.request) (sym device) (sends.1 begins)) sends.2
      (subst (λ (r : Rows). SendsTokens r round.request) (sym device) sends.3)
      (subst (λ (r : Rows). Rule r round.request now changes round.given) (sym server) rule)
      (subst (λ (r : Rows). Step r at.words (applies round.request round.given) round.applied x.left) (sym device) x.step)

  rows_then : (v : World) → v.devices name ≡ x.ready → (next : World) → next.devices name ≡ rows_after (v.devices name) round.applied → next.devices name ≡ after.rows
  rows_then v device next is = is ∙ ap (λ (r : Rows). rows_after r round.applied) device ∙ ap (λ (z : Standing). z.rows) (sym x.after_is)

  by_numbers : (numbers : List ℕ) → round.numbers ≡ numbers
      → (moves : List Move) × (next : World) × Trace secret w s (posting_steps name numbers round.posted
      ++ asking_steps (made_with name begins round.request) now changes round.given round.applied) moves next
      × (next.server ≡ rows_after w.server changes) × (next.devices name ≡ after.rows)
  by_numbers [] is =
      let none : round.posted ≡ [] = posted_none at.rows round.posted (subst (λ (ns : List ℕ). PostsAll at.rows ns round.posted) is x.sends.posts_them) in
      let device : w.devices name ≡ x.ready = rows_are ∙ sym (ready_is ∙ ap (rows_after at.rows) none) in
      let g = behind w s h refl device in
      (g.moves, g.next, g.goes, g.server, rows_then w device g.next g.device)
  by_numbers (n ∷ ns) is =
      let v : World = with_device w name (rows_after (w.devices name) round.posted) in
      let posts_them : PostsAll (w.devices name) (n ∷ ns) round.posted =
      subst (λ (r : Rows). PostsAll r (n ∷ ns) round.posted) (sym rows_are) (subst (λ (ks : List ℕ). PostsAll at.rows ks round.posted) is x.sends.posts_them) in
      let apart : AreDifferent (n ∷ ns) = subst AreDifferent is sends.0 in
      let commits_so : Commits w v name (posts (n ∷ ns)) round.posted =
      record { words = at.words; left = at.words; step = (posts_them, refl); on = changed_device w name round.posted } in
      let said = laws.says secret w v s (commits name (posts (n ∷ ns)) round.posted true) h (commits_so, apart) in
      let kept = laws.commit secret w v s name (posts (n ∷ ns)) round.posted said.0 differ h commits_so apart said.1 in
      let device : v.devices name ≡ x.ready =
      with_own w name (rows_after (w.devices name) round.posted) ∙ ap (λ (r : Rows). rows_after r round.posted) rows_are ∙ sym ready_is in
      let g = behind v (end_from s said.0) kept.1 refl device in (
        said.0 ++ g.moves,
        g.next,
        (v, said.0, g.moves, (commits_so, apart), said.1, g.goes, refl),
        g.server,
        rows_then v device g.next g.device,
      )

  pub round_goes : GoesRoundBy secret w s name begins round after now changes
  round_goes = let g = by_numbers round.numbers refl in record { moves = g.0; next = g.1; goes = g.2; server = g.3; device = g.4 }

-- a round whose request begins none
pub rounds_go : RoundLaws → RoundsGo
rounds_go laws secret w s name at round after now changes differ h fits rows_are x rule =
    let g = round_goes laws secret w s name None at round after now changes differ h fits rows_are x rule in
    record { moves = g.moves; next = g.next; goes = g.goes; server = g.server; device = g.device }

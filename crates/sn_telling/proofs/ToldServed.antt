-- What is said of the batches of a request is what its fate says.
use Rattle.std.proofs.Common.{◌≡◌, ◌++◌, ℕ, List, [], ◌∷◌, true, false, Option, Some, None, refl, sym, ap, ◌∙◌, subst}
use Rattle.std.proofs.lemmas.List.{append-nil}
use Rattle.sn_laws.specs.Lookups.{Bytes}
use Rattle.sn_laws.specs.Runs.{end_from}
use Rattle.sn_laws.specs.declared.ideal.Ideal.{Ideal}
use Rattle.sn_laws.specs.declared.moves.Move.{Move}
use Rattle.sn_recorder.specs.Told.{batches_of}
use Rattle.sn_rows.specs.Table.{Rows, rows_after}
use Rattle.sn_rows.specs.declared.change.Change.{Change}
use Rattle.sn_saying.specs.Laws.{SaidOnce}
use Rattle.sn_saying.specs.Served.{IsBegunAs}
use Rattle.sn_server.specs.Stores.{batch_of}
use Rattle.sn_string.specs.declared.params.KeySet.{KeySet}
use Rattle.sn_sync.specs.declared.answer.Answer.{Answer}
use Rattle.sn_sync.specs.declared.request.Request.{Request}
use Rattle.sn_sync.specs.declared.request.Request.TheVariants as request
use Rattle.sn_world.specs.Calls.{Fate, crashed, fate_steps, rows_behind, served, undelivered}
use Rattle.sn_world.specs.Happens.{Happens, Trace, serves}
use Rattle.sn_world.specs.Holds.{Holds, TokensDiffer}
use Rattle.sn_world.specs.Laws.{Keeps, KeptBy}
use Rattle.sn_world.specs.Serving.{SaysServed, Serves, changes_in, registers_in}
use Rattle.sn_world.specs.World.{Made, World}
use Rattle.sn_telling.specs.Walking.{SaysGained, known_of, rows_behind_all}

-- no changes say nothing
none_registered : (identifier : Bytes) (begins : Option KeySet) → registers_in identifier begins [] ≡ []
none_registered identifier None = refl
none_registered identifier (Some set) = refl

none_changed : (begins : Option KeySet) → changes_in begins [] ≡ []
none_changed None = refl
none_changed (Some set) = refl

none_served : (server device : Rows) (name : Bytes) (r : Request) (begins : Option KeySet) (moves : List Move)
    → SaysServed server device (record { device = name; request = r; begins = begins }) [] moves → moves ≡ []
none_served server device name (request.Register params pw) begins moves says = says ∙ none_registered params.identifier begins
none_served server device name (request.Params identifier) begins moves says = says
none_served server device name (request.SignIn identifier pw) begins moves says = says
none_served server device name (request.ChangePw token current pw cost nonce) begins moves says = says ∙ none_changed begins
none_served server device name (request.Sync token items limit sync_token cursor_token) begins moves says = says

-- a batch, or none, for these changes
pub rows_changed : (server : Rows) (changes : List Change) → rows_behind_all server (batch_of changes) ≡ rows_after server changes
rows_changed server [] = refl
rows_changed server (change ∷ changes) = refl

pub rows_told : (server : Rows) (fate : Fate) → rows_behind_all server (batches_of fate) ≡ rows_behind server fate
rows_told server undelivered = refl
rows_told server (served now changes given arrives) = rows_changed server changes
rows_told server (crashed now changes given) = refl

module _ (once : SaidOnce) (secret : Bytes) (w : World) (s : Ideal) (h : Holds secret w s) (name : Bytes) (r : Request) (begins told : Option KeySet)
    (begun : IsBegunAs r begins told) (server rows : Rows) (server_is : w.server ≡ server) (rows_are : w.devices name ≡ rows) where
  abbrev Asked : Made
  Asked = record { device = name; request = r; begins = begins }

  -- a request that is served
  pub served_told : (next : World) (now : ℕ) (changes : List Change) (given : Answer) (said moves : List Move) → Serves w next Asked now changes given
      → SaysServed w.server (w.devices name) Asked changes said → SaysGained server rows name told (Some (known_of r)) (batch_of changes) moves → moves ≡ said
  served_told next now [] given said moves x says gained = gained ∙ sym (none_served w.server (w.devices name) name r begins said says)
  served_told next now (change ∷ changes) given said moves x says (first, later, serving, none, is) =
      let told_so : SaysServed server rows Asked (change ∷ changes) first =
      serving r refl secret w next s Asked now given h server_is rows_are refl refl begun x in
      let says_so : SaysServed server rows Asked (change ∷ changes) said =
      subst (λ (v : Rows). SaysServed v rows Asked (change ∷ changes) said) server_is
      (subst (λ (v : Rows). SaysServed w.server v Asked (change ∷ changes) said) rows_are says) in
      is ∙ ap (λ (m : List Move). first ++ m) none ∙ append-nil first ∙ once server rows Asked (change ∷ changes) first said told_so says_so

-- where the steps of a request lead, and what is told of its batches
pub record FateLeads (secret : Bytes) (w : World) (s : Ideal) (m : Made) (fate : Fate) (steps : List Happens) (moves : List Move) (next : World) : Type 0 where
  pub mid : World
  pub state : Ideal
  pub first : List Move
  pub later : List Move
  pub holds : Holds secret mid state
  pub server_is : mid.server ≡ rows_behind w.server fate
  pub devices_are : mid.devices ≡ w.devices
  pub goes : Trace secret mid state steps later next
  pub moves_are : moves ≡ first ++ later
  pub told_so : (told : Option KeySet) (server rows : Rows) (said : List Move) → IsBegunAs m.request m.begins told → w.server ≡ server
      → w.devices m.device ≡ rows → SaysGained server rows m.device told (Some (known_of m.request)) (batches_of fate) said → said ≡ first

module _ (once : SaidOnce) (keeps : Keeps) (secret : Bytes) (differ : TokensDiffer secret) (w next : World) (s : Ideal) (h : Holds secret w s) (name : Bytes) (r : Request)
    (begins : Option KeySet) where
  abbrev Of : Made
  Of = record { device = name; request = r; begins = begins }

  pub fate_leads : (fate : Fate) (steps : List Happens) (moves : List Move) → Trace secret w s (fate_steps Of fate ++ steps) moves next
      → FateLeads secret w s Of fate steps moves next
  fate_leads undelivered steps moves goes = record {
    mid = w;
    state = s;
    first = [];
    later = moves;
    holds = h;
    server_is = refl;
    devices_are = refl;
    goes = goes;
    moves_are = refl;
    told_so = λ told server rows said begun same too gained. gained;
  }
  fate_leads (served now changes given arrives) steps moves (mid, first, later, does, says, goes, is) =
      let kept : KeptBy secret mid s first = keeps secret w mid s (serves Of now changes given true) first differ h does says in
      record {
        mid = mid;
        state = end_from s first;
        first = first;
        later = later;
        holds = kept.1;
        server_is = does.on.server;
        devices_are = does.on.devices;
        goes = goes;
        moves_are = is;
        told_so = λ told server rows said begun same too gained.
            served_told once secret w s h name r begins told begun server rows same too mid now changes given first said does says gained;
      }
  fate_leads (crashed now changes given) steps moves (mid, first, later, does, says, goes, is) =
      let kept : KeptBy secret mid s first = keeps secret w mid s (serves Of now changes given false) first differ h does says in
      record {
        mid = mid;
        state = end_from s first;
        first = first;
        later = later;
        holds = kept.1;
        server_is = ap (λ (z : World). z.server) does;
        devices_are = ap (λ (z : World). z.devices) does;
        goes = goes;
        moves_are = is;
        told_so = λ told server rows said begun same too gained. gained ∙ sym says;
      }

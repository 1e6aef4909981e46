-- A whole registration and a whole sign-in are steps of the world, whichever of their requests and answers are lost.
use Rattle.std.proofs.Common.{◌≡◌, ℕ, List, [], ◌∷◌, Option, Some, None, refl, sym, ap, ◌∙◌, subst, inl, inr}
use Rattle.std.specs.Prelude.{IsSome, codes}
use Rattle.rand_chacha.specs.ChaCha.{ChaCha}
use Rattle.sn_account.specs.Lookups.{IsNamed}
use Rattle.sn_account.specs.Rule.{Rule}
use Rattle.sn_account.specs.Rules.{IsPresent, Registers, TellsParams}
use Rattle.sn_device.specs.Runs.{Act, AsksAccount, AsksParams, Halt, IsOrMayBe, KeepsAccount, Run, RunsRegister, SignsInAgain, SignsInBy, SignsInUnder, SignsInWith, nothing, register, sign_in}
use Rattle.sn_device.specs.States.{Bytes, HasSets}
use Rattle.sn_device.specs.Steps.{What, adopts, begins, renews}
use Rattle.sn_device.specs.declared.error.ClientError.TheVariants as refusal
use Rattle.sn_device.specs.declared.error.Place.TheVariants as place
use Rattle.sn_keys.specs.Keys.{AreKeysOf}
use Rattle.sn_laws.specs.Moves.{after}
use Rattle.sn_laws.specs.Runs.{end_from}
use Rattle.sn_laws.specs.declared.ideal.Ideal.{Ideal}
use Rattle.sn_laws.specs.declared.moves.Move.{Move}
use Rattle.sn_laws.specs.declared.moves.Move.TheVariants.{Register}
use Rattle.sn_rows.specs.Table.{Rows, rows_after}
use Rattle.sn_rows.specs.declared.change.Change.{Change}
use Rattle.sn_rows.specs.declared.device_rows.OwnerRow.{OwnerRow}
use Rattle.sn_rows.specs.declared.key.Key.TheVariants as key
use Rattle.sn_rows.specs.declared.server_rows.AccountRow.{AccountRow}
use Rattle.sn_rows.specs.declared.value.Value.{Value}
use Rattle.sn_sets.specs.declared.sets.Sets.{Sets}
use Rattle.sn_shows.specs.Laws.{AccountsApart}
use Rattle.sn_shows.specs.Servers.{ShowsIdentity, account_at}
use Rattle.sn_string.specs.declared.params.KeySet.{KeySet}
use Rattle.sn_string.specs.declared.params.Params.{Params}
use Rattle.sn_sync.specs.declared.answer.Answer.{Answer}
use Rattle.sn_sync.specs.declared.answer.Answer.TheVariants as answer
use Rattle.sn_sync.specs.declared.request.Request.{Request}
use Rattle.sn_sync.specs.declared.request.Request.TheVariants as request
use Rattle.sn_world.proofs.AskLemmas.{Behind, answered_stands, asks_goes, holds_made, made_of, made_world, served_world, serves_so}
use Rattle.sn_world.proofs.CallLemmas.{Goes, Stands, once_goes, refuses_goes}
use Rattle.sn_world.proofs.SignedIn.{signed_in_adopts, signed_in_renews}
use Rattle.sn_world.proofs.Tokens.{apart_of, one_account, there_is}
use Rattle.sn_world.specs.Calls.{AreServed, Fate, GoesCall, IsOnlyOf, RegistersGo, SignInsGo, begins_none}
use Rattle.sn_world.specs.Committing.{MayBegin, MayCommit}
use Rattle.sn_world.specs.Holds.{Holds, TokensDiffer}
use Rattle.sn_world.specs.Laws.{IsOnlySet, Keeps, RegisteredBegins, SaysSome, SignedInBegins}
use Rattle.sn_world.specs.Making.{MakesOf}
use Rattle.sn_world.specs.Serving.{Serves, registers_in}
use Rattle.sn_world.specs.World.{Made, World}

pub record AccountLaws : Type 0 where
  pub apart : AccountsApart
  pub keeps : Keeps
  pub says : SaysSome
  pub registered : RegisteredBegins
  pub begins : SignedInBegins

-- each request would begin this set
abbrev pub begins_set : KeySet → Request → Option KeySet
begins_set set r = Some set

-- ---- what the answers tell

-- a registration that is answered with an account is a move
pub one_registered : (server : Rows) (identifier : Bytes) (params : Params) (pw : Bytes) (set : KeySet) (now : ℕ) (changes : List Change) (token account uuid : Bytes)
    → Rule server (request.Register params pw) now changes (answer.Account token account uuid)
    → registers_in identifier (Some set) changes ≡ Register identifier set ∷ []
one_registered server identifier params pw set now changes token account uuid rule = by rule.2
  where
    by : Registers server rule.0 params pw changes (answer.Account token account uuid) → registers_in identifier (Some set) changes ≡ Register identifier set ∷ []
    by (inl (taken, refused)) = let e = refused.1 in absurd (cc)
    by (inr (inl (unknown, full, refused))) = let e = refused.1 in absurd (cc)
    by (inr (inr (unknown, room, b))) = ap (registers_in identifier (Some set)) b.changes_are

-- the parameters that are answered are those of each account with the identifier
pub told_present : AccountsApart → (secret : Bytes) (v : World) (t : Ideal) → Holds secret v t → (identifier : Bytes) (params : Params)
    → TellsParams v.server identifier (answer.Params params) → (n : ℕ) → IsNamed v.server identifier n → IsPresent v.server n params
told_present apart secret v t h identifier params (inl (unknown, given)) n named = let e = given in absurd (cc)
told_present apart secret v t h identifier params (inr x) n (row, there, is) =
    let b = there_is (account_at n t.accounts) (h.server.all.no_other (key.Account n) (subst (λ (o : Option Value). IsSome o) (sym there) refl)) in
    let c = there_is (account_at x.n t.accounts) (h.server.all.no_other (key.Account x.n) (subst (λ (o : Option Value). IsSome o) (sym x.there) refl)) in
    let its : ShowsIdentity v.server n b.0 = (h.server.all.each n b.0 b.1).identity in
    let others : ShowsIdentity v.server x.n c.0 = (h.server.all.each x.n c.0 c.1).identity in
    let one : row ≡ its.row = one_account row its.row (v.server (key.Account n)) there its.stands in
    let two : x.account ≡ others.row = one_account x.account others.row (v.server (key.Account x.n)) x.there others.stands in
    let left : b.0.identifier ≡ identifier = sym its.identifier ∙ ap (λ (z : AccountRow). z.identifier) (sym one) ∙ is in
    let right : c.0.identifier ≡ identifier = sym others.identifier ∙ ap (λ (z : AccountRow). z.identifier) (sym two) ∙ x.named in
    let same : x.n ≡ n = apart_of apart t h.reached x.n n c.0 b.0 c.1 b.1 (right ∙ sym left) in
    let given = x.answers in
    let told : x.params ≡ params = cc in
    subst (λ (j : ℕ). IsPresent v.server j params) same
    (subst (λ (p : Params). IsPresent v.server x.n p) told
    (record {
      account = x.account;
      there = x.there;
      generation = x.generation;
      stands = x.present;
      identifier = x.identifier_is ∙ sym x.named;
      cost = x.cost;
      nonce = x.nonce;
    }))

module _ (laws : AccountLaws) (secret : Bytes) (differ : TokensDiffer secret) (name : Bytes) where
  -- ---- a registration

  module _ (v : World) (t : Ideal) (server rows : Rows) (words : ChaCha) (set : KeySet) (k : Stands secret name v t server rows) where
    abbrev r : Request
    r = request.Register set.params set.pw

    asks_for : MakesOf rows (Some set) r
    asks_for = record { set = set; is = refl; request_is = refl }

    registered_on : (halt : Halt)
        → Behind laws.keeps laws.says secret differ name (begins_set set) v t server rows k r asks_for (KeepsAccount rows words (begins set)) halt
    registered_on halt now changes given moves later fates fits rule says_it (token, account, uuid, is, once) over =
        let m : Made = made_of name (Some set) r in
        let told : Rule server r now changes (answer.Account token account uuid) = subst (λ (x : Answer). Rule server r now changes x) is rule in
        let served : Serves (made_world v m) (served_world v m changes) m now changes (answer.Account token account uuid) =
        serves_so v m server now changes (answer.Account token account uuid) k.server_is fits told in
        let may : MayBegin secret (after t (Register set.params.identifier set)) set uuid token =
        laws.registered secret (made_world v m) (served_world v m changes) t m set.params set.pw now changes token account uuid set
        (holds_made laws.keeps laws.says secret differ name (begins_set set) v t server rows k r asks_for) served refl refl in
        let one : registers_in set.params.identifier (Some set) changes ≡ Register set.params.identifier set ∷ [] =
        one_registered server set.params.identifier set.params set.pw set now changes token account uuid told in
        once_goes laws.keeps laws.says secret differ name (begins_set set) (served_world v m changes) (end_from t moves) (rows_after server changes) rows later fates
        halt words (begins set uuid token) nothing
        (answered_stands laws.keeps laws.says secret differ name (begins_set set) v t server rows k r asks_for now changes given moves fits rule says_it)
        (subst (λ (u : Ideal). MayBegin secret u set uuid token) (sym (ap (λ (ms : List Move). end_from t ms) (says_it ∙ one))) may) once over

    pub set_goes : (acts : List Act) (fates : List Fate) (halt : Halt) → AsksAccount rows words r (begins set) acts halt → AreServed server acts fates
        → Goes secret name (begins_set set) v t server rows acts fates halt
    set_goes acts fates halt asks over =
        asks_goes laws.keeps laws.says secret differ name (begins_set set) v t server rows k r asks_for (KeepsAccount rows words (begins set)) acts fates halt
        (registered_on halt) asks over

  -- ---- a sign-in

  -- with the keys that the password gives
  module _ (v : World) (t : Ideal) (server rows : Rows) (words : ChaCha) (identifier : Bytes) (set : KeySet) (k : Stands secret name v t server rows) where
    abbrev signing : Request
    signing = request.SignIn identifier set.pw

    signed_on : (what : Bytes → Bytes → What) (halt : Halt)
        → ((now : ℕ) (changes : List Change) (token account uuid : Bytes) → Rule server signing now changes (answer.Account token account uuid)
        → (changed : Rows) → MayCommit secret changed rows t name (what uuid token))
        → Behind laws.keeps laws.says secret differ name begins_none v t server rows k signing tt (KeepsAccount rows words what) halt
    signed_on what halt may now changes given moves later fates fits rule none (token, account, uuid, is, once) over =
        let told : Rule server signing now changes (answer.Account token account uuid) = subst (λ (x : Answer). Rule server signing now changes x) is rule in
        once_goes laws.keeps laws.says secret differ name begins_none (served_world v (made_of name None signing) changes) (end_from t moves)
        (rows_after server changes) rows later fates halt words (what uuid token) nothing
        (answered_stands laws.keeps laws.says secret differ name begins_none v t server rows k signing tt now changes given moves fits rule none)
        (subst (λ (ms : List Move). MayCommit secret (rows_after server changes) rows (end_from t ms) name (what uuid token)) (sym none)
        (may now changes token account uuid told (rows_after server changes))) once over

    asks_account : (what : Bytes → Bytes → What) (acts : List Act) (fates : List Fate) (halt : Halt)
        → ((now : ℕ) (changes : List Change) (token account uuid : Bytes) → Rule server signing now changes (answer.Account token account uuid)
        → (changed : Rows) → MayCommit secret changed rows t name (what uuid token))
        → AsksAccount rows words signing what acts halt → AreServed server acts fates → Goes secret name begins_none v t server rows acts fates halt
    asks_account what acts fates halt may asks over =
        asks_goes laws.keeps laws.says secret differ name begins_none v t server rows k signing tt (KeepsAccount rows words what) acts fates halt
        (signed_on what halt may) asks over

    abbrev IsTold : Params → Type 0
    IsTold params = (n : ℕ) → IsNamed server identifier n → IsPresent server n params

    told_there : (params : Params) → IsTold params → (n : ℕ) → IsNamed v.server identifier n → IsPresent v.server n params
    told_there params told = subst (λ (x : Rows). (n : ℕ) → IsNamed x identifier n → IsPresent x n params) (sym k.server_is) told

    again_goes : (sets : Sets) (owner : OwnerRow) (acts : List Act) (fates : List Fate) (halt : Halt) → HasSets rows owner sets → owner.identifier ≡ identifier
        → IsTold set.params → IsOnlySet t set
        → SignsInAgain rows words identifier sets set acts halt → AreServed server acts fates → Goes secret name begins_none v t server rows acts fates halt
    again_goes sets owner acts fates halt holds is told only (inl (same, differs, refuses)) over =
        refuses_goes laws.keeps laws.says secret differ name begins_none v t server rows acts fates halt refusal.WrongPassword k refuses over
    again_goes sets owner acts fates halt holds is told only (inr (inl (same, asks))) over =
        asks_account (λ uuid token. renews token) acts fates halt
        (λ now changes token account uuid rule changed. signed_in_renews laws.apart secret v t identifier set.pw now changes token account uuid name owner sets
        k.holds (subst (λ (x : Rows). Rule x signing now changes (answer.Account token account uuid)) (sym k.server_is) rule)
        (subst (λ (r : Rows). HasSets r owner sets) (sym k.device_is) holds) is
        (told_there sets.present.params (subst IsTold (ap (λ (z : KeySet). z.params) same) told)))
        asks over
    again_goes sets owner acts fates halt holds is told only (inr (inr (other, inl (older, refuses)))) over =
        refuses_goes laws.keeps laws.says secret differ name begins_none v t server rows acts fates halt refusal.WrongPassword k refuses over
    again_goes sets owner acts fates halt holds is told only (inr (inr (other, inr (not, asks)))) over =
        asks_account (λ uuid token. adopts set token) acts fates halt
        (λ now changes token account uuid rule changed. signed_in_adopts laws.apart secret v t identifier now changes token account uuid name owner sets set
        k.holds (subst (λ (x : Rows). Rule x signing now changes (answer.Account token account uuid)) (sym k.server_is) rule)
        (subst (λ (r : Rows). HasSets r owner sets) (sym k.device_is) holds) is other (told_there set.params told) only)
        asks over

    pub with_goes : (acts : List Act) (fates : List Fate) (halt : Halt) → IsOrMayBe rows identifier
        → IsTold set.params → IsOnlySet t set
        → SignsInWith rows words identifier set acts halt → AreServed server acts fates → Goes secret name begins_none v t server rows acts fates halt
    with_goes acts fates halt may told only (inl (none, asks)) over =
        asks_account (begins set) acts fates halt
        (λ now changes token account uuid rule changed. laws.begins secret v t identifier now changes token account uuid set k.holds
        (subst (λ (x : Rows). Rule x signing now changes (answer.Account token account uuid)) (sym k.server_is) rule)
        (told_there set.params told) only)
        asks over
    with_goes acts fates halt may told only (inr (owner, sets, holds, again)) over =
        again_goes sets owner acts fates halt holds (may owner holds.owned) told only again over

  -- with the parameters that are answered
  module _ (v : World) (t : Ideal) (server rows : Rows) (words : ChaCha) (identifier password : Bytes) (k : Stands secret name v t server rows)
      (may : IsOrMayBe rows identifier) (only : IsOnlyOf t identifier password) (least : ℕ) where
    under_goes : (params : Params) (acts : List Act) (fates : List Fate) (halt : Halt)
        → ((n : ℕ) → IsNamed server identifier n → IsPresent server n params)
        → SignsInUnder least rows words identifier password params acts halt → AreServed server acts fates
        → Goes secret name begins_none v t server rows acts fates halt
    under_goes params acts fates halt told (inl (other, refuses)) over =
        refuses_goes laws.keeps laws.says secret differ name begins_none v t server rows acts fates halt (refusal.BadAnswer (place.Member (codes "identifier"))) k refuses
        over
    under_goes params acts fates halt told (inr (same, inl (bad, refuses))) over =
        refuses_goes laws.keeps laws.says secret differ name begins_none v t server rows acts fates halt (refusal.Cost params.pw_cost) k refuses over
    under_goes params acts fates halt told (inr (same, inr (good, (set, keys, signs)))) over =
        let is : params ≡ set.params = sym keys.params in
        with_goes v t server rows words identifier set k acts fates halt may
        (subst (λ (p : Params). (n : ℕ) → IsNamed server identifier n → IsPresent server n p) is told)
        (only set (subst (λ (p : Params). AreKeysOf password p set) is keys) (ap (λ (p : Params). p.identifier) keys.params ∙ same)) signs over

  module _ (v : World) (t : Ideal) (server rows : Rows) (words : ChaCha) (identifier password : Bytes) (k : Stands secret name v t server rows)
      (may : IsOrMayBe rows identifier) (only : IsOnlyOf t identifier password) (least : ℕ) where
    abbrev question : Request
    question = request.Params identifier

    told_on : (halt : Halt)
        → Behind laws.keeps laws.says secret differ name begins_none v t server rows k question tt (SignsInBy least rows words identifier password) halt
    told_on halt now changes given moves later fates fits rule no_moves (params, is, under) over =
        let none : changes ≡ [] = rule.2.0 in
        let unmoved : rows_after server changes ≡ server = ap (rows_after server) none in
        let tells : TellsParams server identifier (answer.Params params) = subst (λ (x : Answer). TellsParams server identifier x) is rule.2.1 in
        let told : (n : ℕ) → IsNamed server identifier n → IsPresent server n params =
        subst (λ (x : Rows). (n : ℕ) → IsNamed x identifier n → IsPresent x n params) k.server_is
        (told_present laws.apart secret v t k.holds identifier params
        (subst (λ (x : Rows). TellsParams x identifier (answer.Params params)) (sym k.server_is) tells)) in
        under_goes (served_world v (made_of name None question) changes) (end_from t moves) (rows_after server changes) rows words identifier password
        (answered_stands laws.keeps laws.says secret differ name begins_none v t server rows k question tt now changes given moves fits rule no_moves) may
        (subst (λ (ms : List Move). IsOnlyOf (end_from t ms) identifier password) (sym no_moves) only) least params later
        fates halt (subst (λ (x : Rows). (n : ℕ) → IsNamed x identifier n → IsPresent x n params) (sym unmoved) told) under over

    pub question_goes : (acts : List Act) (fates : List Fate) (halt : Halt) → AsksParams least rows words identifier password acts halt
        → AreServed server acts fates → Goes secret name begins_none v t server rows acts fates halt
    question_goes acts fates halt asks over =
        asks_goes laws.keeps laws.says secret differ name begins_none v t server rows k question tt (SignsInBy least rows words identifier password) acts fates halt
        (told_on halt) asks over

  pub sign_in_goes : (v : World) (t : Ideal) (server rows : Rows) (words : ChaCha) (identifier password : Bytes) (least : ℕ) (acts : List Act)
      (fates : List Fate) (halt : Halt) → Stands secret name v t server rows → IsOnlyOf t identifier password
      → Run least (sign_in identifier password) rows words acts halt → AreServed server acts fates
      → Goes secret name begins_none v t server rows acts fates halt
  sign_in_goes v t server rows words identifier password least acts fates halt k only (inl wants) over =
      refuses_goes laws.keeps laws.says secret differ name begins_none v t server rows acts fates halt refusal.Memory k wants over
  sign_in_goes v t server rows words identifier password least acts fates halt k only (inr (inl (owner, has, differs, refuses))) over =
      refuses_goes laws.keeps laws.says secret differ name begins_none v t server rows acts fates halt (refusal.OtherAccount owner.identifier) k refuses over
  sign_in_goes v t server rows words identifier password least acts fates halt k only (inr (inr (may, asks))) over =
      question_goes v t server rows words identifier password k may only least acts fates halt asks over

-- ---- each call

register_call : (laws : AccountLaws) (secret : Bytes) (w : World) (s : Ideal) (name : Bytes) (least : ℕ) (identifier password : Bytes) (cost : ℕ)
    (words : ChaCha) (acts : List Act) (fates : List Fate) (halt : Halt) → TokensDiffer secret → Holds secret w s
    → RunsRegister least identifier password cost (w.devices name) words acts halt → AreServed w.server acts fates
    → GoesCall secret w s name (register identifier password cost) acts fates halt
register_call laws secret w s name least identifier password cost words acts fates halt differ h (inl (owner, has, refuses)) over = record {
  begins = begins_none;
  of_call = λ r. tt;
  leads = refuses_goes laws.keeps laws.says secret differ name begins_none w s w.server (w.devices name) acts fates halt (refusal.HasAccount owner.identifier)
      (record { holds = h; server_is = refl; device_is = refl }) refuses over;
}
register_call laws secret w s name least identifier password cost words acts fates halt differ h (inr (none, inl (bad, refuses))) over = record {
  begins = begins_none;
  of_call = λ r. tt;
  leads = refuses_goes laws.keeps laws.says secret differ name begins_none w s w.server (w.devices name) acts fates halt (refusal.Cost cost)
      (record { holds = h; server_is = refl; device_is = refl }) refuses over;
}
register_call laws secret w s name least identifier password cost words acts fates halt differ h (inr (none, inr (good, (set, left, new, asks)))) over = record {
  begins = begins_set set;
  of_call = λ r. new.keys;
  leads = set_goes laws secret differ name w s w.server (w.devices name) left set (record { holds = h; server_is = refl; device_is = refl }) acts fates halt
      asks over;
}

pub registers_go : AccountLaws → RegistersGo
registers_go laws secret w s name least identifier password cost words acts fates halt differ h (inl wants) over = record {
  begins = begins_none;
  of_call = λ r. tt;
  leads = refuses_goes laws.keeps laws.says secret differ name begins_none w s w.server (w.devices name) acts fates halt refusal.Memory
      (record { holds = h; server_is = refl; device_is = refl }) wants over;
}
registers_go laws secret w s name least identifier password cost words acts fates halt differ h (inr runs) over =
    register_call laws secret w s name least identifier password cost words acts fates halt differ h runs over

pub sign_ins_go : AccountLaws → SignInsGo
sign_ins_go laws secret w s name least identifier password words acts fates halt differ h only runs over = record {
  begins = begins_none;
  of_call = λ r. tt;
  leads = sign_in_goes laws secret differ name w s w.server (w.devices name) words identifier password least acts fates halt
      (record { holds = h; server_is = refl; device_is = refl }) only runs over;
}

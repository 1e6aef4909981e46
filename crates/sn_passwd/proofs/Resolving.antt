-- What became of a change of password is found out, and the set that was asked for is adopted where the change was or is made: these are steps of the world.
use Rattle.std.proofs.Common.{◌≡◌, ◌≢◌, ◌<◌, ◌≤◌, ◌+◌, ℕ, suc, List, [], length, Option, Some, None, refl, sym, ap, ◌∙◌, subst, inl, inr, arith}
use Rattle.std.specs.Prelude.{codes}
use Rattle.rand_chacha.specs.ChaCha.{ChaCha}
use Rattle.sn_account.specs.Lookups.{IsNamed}
use Rattle.sn_account.specs.Rule.{Rule}
use Rattle.sn_account.specs.Rules.{IsPresent, TellsParams}
use Rattle.sn_account.specs.Sessions.{session_token}
use Rattle.sn_account.specs.Sound.{most_accounts, most_generations}
use Rattle.sn_device.proofs.Facts.{Adopted, adopted, adopted_sets, one_owner}
use Rattle.sn_device.specs.Runs.{Act, AdoptsOrDrops, AdoptsOrKeeps, AsksHost, CommitsStep, Drops, DropsOrKeeps, EndsBy, Finds, FindsParams, Point, Resolves, Turn, change_to}
use Rattle.sn_device.specs.States.{HasOwner, HasSets, OwnerColumns}
use Rattle.sn_device.specs.Steps.{Adopts, adopts, forgets}
use Rattle.sn_device.specs.declared.error.ClientError.{ClientError}
use Rattle.sn_device.specs.declared.error.ClientError.TheVariants as refusal
use Rattle.sn_laws.specs.Lookups.{Bytes, greatest}
use Rattle.sn_laws.specs.Runs.{end_from}
use Rattle.sn_laws.specs.declared.ideal.Ideal.{Ideal}
use Rattle.sn_laws.specs.declared.moves.Move.{Move}
use Rattle.sn_passwd.proofs.Pieces.{BehindAnswer, GoesTurn, Known, NeverAnswers, PieceGoes, asks_host_goes, asks_never, commits_never, commits_step_goes, ends_by_goes, ends_here, ends_never, then_goes, then_never}
use Rattle.sn_rows.specs.Table.{Rows, rows_after}
use Rattle.sn_rows.specs.declared.change.Change.{Change}
use Rattle.sn_rows.specs.declared.device_rows.OwnerRow.{OwnerRow}
use Rattle.sn_sets.specs.declared.sets.Sets.{Sets}
use Rattle.sn_shows.proofs.Facts.{accounts_apart, number_within}
use Rattle.sn_shows.specs.Laws.{AreApart}
use Rattle.sn_string.specs.declared.params.KeySet.{KeySet}
use Rattle.sn_string.specs.declared.params.Params.{Params}
use Rattle.sn_sync.specs.Fits.{FitsRequest}
use Rattle.sn_sync.specs.declared.answer.Answer.{Answer}
use Rattle.sn_sync.specs.declared.answer.Answer.TheVariants as answer
use Rattle.sn_sync.specs.declared.request.Request.{Request}
use Rattle.sn_sync.specs.declared.request.Request.TheVariants as request
use Rattle.sn_world.proofs.Facts.{Stands, holds_made, made_of, made_world, served_world, serves_so, told_present}
use Rattle.sn_world.specs.Calls.{AreServed, Fate}
use Rattle.sn_world.specs.Committing.{MayAdopt}
use Rattle.sn_world.specs.Holds.{DeviceToken, Holds, TokensDiffer}
use Rattle.sn_world.specs.Laws.{ChangedAdopts, IsOnlySet, Keeps, SaysSome, SignedInAdopts}
use Rattle.sn_world.specs.Making.{MakesChange}
use Rattle.sn_world.specs.Plain.{AsksNoSet}
use Rattle.sn_world.specs.Serving.{SaysServed}
use Rattle.sn_world.specs.World.{Made, World}

pub record ResolvingLaws : Type 0 where
  pub keeps : Keeps
  pub says : SaysSome
  pub changed : ChangedAdopts
  pub signed : SignedInAdopts

-- ---- what is known

-- the device has this account, this present set, and this one as asked for, which alone has its account's parameters and check value
pub record AsksSet (owner : OwnerRow) (present set : KeySet) (v : World) (t : Ideal) (p : Point) : Type 0 where
  pub sets : Sets
  pub holds : HasSets p.rows owner sets
  pub present_is : sets.present ≡ present
  pub asked_is : sets.asked ≡ Some set
  pub only : IsOnlySet t set

-- and these are its account's parameters
pub record IsTold (owner : OwnerRow) (present set : KeySet) (params : Params) (v : World) (t : Ideal) (p : Point) : Type 0 where
  pub asks : AsksSet owner present set v t p
  pub told : (n : ℕ) → IsNamed v.server owner.identifier n → IsPresent v.server n params

-- a device with this row may adopt the set with this session token
pub record CanAdopt (secret name : Bytes) (owner : OwnerRow) (set : KeySet) (token : Bytes) (v : World) (t : Ideal) (p : Point) : Type 0 where
  pub may : MayAdopt secret t name set token
  pub owned : HasOwner p.rows owner

-- the device has the set as its present one, asks for none, and has another session token than it had with this row
pub record HasAdopted (before : OwnerRow) (set : KeySet) (v : World) (t : Ideal) (p : Point) : Type 0 where
  pub none_asked : AsksNoSet p.rows
  pub owner : OwnerRow
  pub sets : Sets
  pub holds : HasSets p.rows owner sets
  pub same : owner.identifier ≡ before.identifier
  pub present_is : sets.present ≡ set
  pub other_token : owner.token ≢ before.token

-- nothing
abbrev Anything : Known
Anything v t p = Unit {0}

-- ---- the session token of an adoption is another than the device's

token_differs : (secret : Bytes) (w : World) (s : Ideal) (name : Bytes) (owner : OwnerRow) (set : KeySet) (token : Bytes) → TokensDiffer secret → Holds secret w s
    → HasOwner (w.devices name) owner → MayAdopt secret s name set token → token ≢ owner.token
token_differs secret w s name owner set token differ h owned may same =
    let own : DeviceToken secret (w.devices name) s.accounts may.device = h.own_tokens name may.device may.named in
    let row : own.owner ≡ owner = one_owner (w.devices name) own.owner owner own.has owned in
    let apart : AreApart s.accounts = subst (λ (u : Ideal). AreApart u.accounts) (sym h.reached.is) (accounts_apart h.reached.moves h.reached.legal) in
    let number : own.number ≡ may.number =
    apart own.number may.number own.account may.account own.at may.at (own.own ∙ sym may.own) in
    let was : owner.token ≡ session_token secret may.number (greatest 0 may.device.held) =
    ap (λ (o : OwnerRow). o.token) (sym row) ∙ own.is ∙ ap (λ (n : ℕ). session_token secret n (greatest 0 may.device.held)) number in
    let alike : session_token secret may.number (length may.account.sets) ≡ session_token secret may.number (greatest 0 may.device.held) =
    sym may.token_is ∙ same ∙ was in
    let within : may.number < length s.accounts + 1 = number_within s.accounts may.number may.account may.at in
    let accounts : length s.accounts ≤ most_accounts = h.few.accounts_few in
    let sets : length may.account.sets ≤ most_generations = h.few.sets_few may.number may.account may.at in
    let above : greatest 0 may.device.held < length may.account.sets = may.above in
    let few : may.number ≤ most_accounts = omega arith in
    let held : greatest 0 may.device.held ≤ most_generations = omega arith in
    let equal : length may.account.sets ≡ greatest 0 may.device.held =
    differ may.number (length may.account.sets) (greatest 0 may.device.held) few sets held alike in
    absurd (omega arith)

-- what an adoption leaves
pub has_adopted : (secret name : Bytes) (v : World) (t : Ideal) (server : Rows) (p : Point) (owner : OwnerRow) (set : KeySet) (token : Bytes) (changes : List Change)
    (left : ChaCha) → TokensDiffer secret → Stands secret name v t server p.rows → CanAdopt secret name owner set token v t p
    → Adopts p.rows p.words set token changes left → (x : World) (u : Ideal)
    → HasAdopted owner set x u (record { made = p.made; rows = rows_after p.rows changes; words = left })
has_adopted secret name v t server p owner set token changes left differ k pre step x u =
    let after : Adopted p.rows step.sets set token step.owner (rows_after p.rows changes) = adopted p.rows p.words left set token changes step in
    let row : step.owner ≡ owner = one_owner p.rows step.owner owner step.holds.owned pre.owned in
    let token_is : after.later.token ≡ token = ap (λ (c : OwnerColumns). c.token) after.columns_are in
    let owned : HasOwner (v.devices name) owner = subst (λ (r : Rows). HasOwner r owner) (sym k.device_is) pre.owned in
    record {
      none_asked = after.asked;
      owner = after.later;
      sets = record { present = set; older = Some step.sets.present; asked = None };
      holds = adopted_sets p.rows step.sets set token step.owner (rows_after p.rows changes) after;
      same = ap (λ (c : OwnerColumns). c.identifier) after.columns_are ∙ ap (λ (o : OwnerRow). o.identifier) row;
      present_is = refl;
      other_token = λ same. token_differs secret v t name owner set token differ k.holds owned pre.may (sym token_is ∙ same);
    }

-- ---- none of these pieces answers the call

pub drops_never : (why : ClientError) → NeverAnswers (Drops why)
drops_never why = then_never (CommitsStep forgets) (EndsBy why) (commits_never forgets) (ends_never why)

drops_or_keeps_never : (status : ℕ) (tag : Bytes) → NeverAnswers (DropsOrKeeps status tag)
drops_or_keeps_never status tag p acts given left (inl (is, drops)) = drops_never (refusal.Refused status tag) p acts given left drops
drops_or_keeps_never status tag p acts given left (inr (other, ends)) = ends_never (refusal.Refused status tag) p acts given left ends

adopts_or_drops_never : (set : KeySet) (given : Answer) → NeverAnswers (AdoptsOrDrops set given)
adopts_or_drops_never set (answer.Account token identifier uuid) p acts given left so = commits_never (adopts set token) p acts given left so
adopts_or_drops_never set (answer.Refused status tag more) p acts given left so = drops_never (refusal.Refused status tag) p acts given left so
adopts_or_drops_never set (answer.Params params) p acts given left so = so
adopts_or_drops_never set (answer.Sync conflicts cursor retrieved saved token) p acts given left so = so

adopts_or_keeps_never : (set : KeySet) (given : Answer) → NeverAnswers (AdoptsOrKeeps set given)
adopts_or_keeps_never set (answer.Account token identifier uuid) p acts given left so = commits_never (adopts set token) p acts given left so
adopts_or_keeps_never set (answer.Refused status tag more) p acts given left so = drops_or_keeps_never status tag p acts given left so
adopts_or_keeps_never set (answer.Params params) p acts given left so = so
adopts_or_keeps_never set (answer.Sync conflicts cursor retrieved saved token) p acts given left so = so

finds_params_never : (owner : OwnerRow) (present set : KeySet) (params : Params) → NeverAnswers (FindsParams owner present set params)
finds_params_never owner present set params p acts given left (inl (same, so)) =
    asks_never (change_to owner present set) (AdoptsOrDrops set) (adopts_or_drops_never set) p acts given left so
finds_params_never owner present set params p acts given left (inr (other, inl (same, so))) =
    asks_never (request.SignIn owner.identifier set.pw) (AdoptsOrKeeps set) (adopts_or_keeps_never set) p acts given left so
finds_params_never owner present set params p acts given left (inr (other, inr (apart, so))) =
    drops_never (refusal.Refused 401 (codes "bad-auth")) p acts given left so

finds_never : (owner : OwnerRow) (present set : KeySet) (given : Answer) → NeverAnswers (Finds owner present set given)
finds_never owner present set (answer.Params params) p acts given left so = finds_params_never owner present set params p acts given left so
finds_never owner present set (answer.Refused status tag more) p acts given left so = drops_or_keeps_never status tag p acts given left so
finds_never owner present set (answer.Account token identifier uuid) p acts given left so = so
finds_never owner present set (answer.Sync conflicts cursor retrieved saved token) p acts given left so = so

pub resolves_never : (owner : OwnerRow) (present set : KeySet) → NeverAnswers (Resolves owner present set)
resolves_never owner present set = asks_never (request.Params owner.identifier) (Finds owner present set) (finds_never owner present set)

module _ (laws : ResolvingLaws) (secret : Bytes) (differ : TokensDiffer secret) (name : Bytes) (begins : Request → Option KeySet) where
  -- ---- commits

  pub adopts_goes : (owner : OwnerRow) (set : KeySet) (token : Bytes)
      → PieceGoes secret name begins (CommitsStep (adopts set token)) (CanAdopt secret name owner set token) (HasAdopted owner set)
  adopts_goes owner set token =
      commits_step_goes laws.keeps laws.says secret differ name begins (adopts set token) (CanAdopt secret name owner set token) (HasAdopted owner set)
      (λ v t server p k pre. pre.may)
      (λ v t server p changes left k pre step one stands.
      has_adopted secret name v t server p owner set token changes left differ k pre step one.next (end_from t one.moves))

  pub drops_goes : (why : ClientError) (Pre Post : Known) → PieceGoes secret name begins (Drops why) Pre Post
  drops_goes why Pre Post =
      then_goes laws.keeps laws.says secret differ name begins (CommitsStep forgets) (EndsBy why) Pre Anything Post
      (commits_step_goes laws.keeps laws.says secret differ name begins forgets Pre Anything (λ v t server p k pre. tt)
      (λ v t server p changes left k pre step one stands. tt))
      (ends_by_goes laws.keeps laws.says secret differ name begins why Anything Post)

  drops_or_keeps_goes : (status : ℕ) (tag : Bytes) (Pre Post : Known) → PieceGoes secret name begins (DropsOrKeeps status tag) Pre Post
  drops_or_keeps_goes status tag Pre Post v t server p acts fates turn k pre (inl (is, drops)) over =
      drops_goes (refusal.Refused status tag) Pre Post v t server p acts fates turn k pre drops over
  drops_or_keeps_goes status tag Pre Post v t server p acts fates turn k pre (inr (other, ends)) over =
      ends_here laws.keeps laws.says secret differ name begins (refusal.Refused status tag) Post v t server p acts fates turn k ends over

  module _ (owner : OwnerRow) (present set : KeySet) where
    abbrev Leaves : Known
    Leaves = HasAdopted owner set

    -- ---- the change

    module _ (begins_set : begins (change_to owner present set) ≡ Some set) (v : World) (t : Ideal) (server : Rows) (p : Point)
        (k : Stands secret name v t server p.rows) (pre : AsksSet owner present set v t p) where
      abbrev change : Request
      change = change_to owner present set

      abbrev m : Made
      m = made_of name (begins change) change

      makes_change : (rows : Rows) (found : Option KeySet) → HasSets rows owner pre.sets → found ≡ Some set → MakesChange rows found change
      makes_change rows found holds is = record {
        owner = owner;
        sets = pre.sets;
        holds = holds;
        set = set;
        asked = pre.asked_is;
        is = is;
        request_is = ap (λ (x : KeySet). change_to owner x set) (sym pre.present_is);
      }

      of : MakesChange p.rows (begins change) change
      of = makes_change p.rows (begins change) pre.holds begins_set

      -- where an account is answered, the set may be adopted
      pub changed_may : (now : ℕ) (changes : List Change) (token identifier uuid : Bytes) (moves : List Move) → FitsRequest change
          → Rule server change now changes (answer.Account token identifier uuid) → SaysServed v.server (v.devices name) m changes moves
          → CanAdopt secret name owner set token (served_world v m changes) (end_from t moves) (record { made = suc p.made; rows = p.rows; words = p.words })
      changed_may now changes token identifier uuid moves fits rule says_it = record {
        may = laws.changed secret (made_world v m) (served_world v m changes) t m now changes moves token identifier uuid set differ
            (holds_made laws.keeps laws.says secret differ name begins v t server p.rows k change of)
            (makes_change (v.devices name) (Some set) (subst (λ (r : Rows). HasSets r owner pre.sets) (sym k.device_is) pre.holds) refl) begins_set
            (serves_so v m server now changes (answer.Account token identifier uuid) k.server_is fits rule) says_it;
        owned = pre.holds.owned;
      }

      again_behind : (turn : Turn)
          → BehindAnswer laws.keeps laws.says secret differ name begins v t server p k change of Leaves (AdoptsOrDrops set) turn
      again_behind turn now changes (answer.Account token identifier uuid) moves later fates fits rule says_it stands so over =
          adopts_goes owner set token (served_world v m changes) (end_from t moves) (rows_after server changes)
          (record { made = suc p.made; rows = p.rows; words = p.words }) later fates turn stands
          (changed_may now changes token identifier uuid moves fits rule says_it) so over
      again_behind turn now changes (answer.Refused status tag more) moves later fates fits rule says_it stands so over =
          drops_goes (refusal.Refused status tag) Anything Leaves (served_world v m changes) (end_from t moves) (rows_after server changes)
          (record { made = suc p.made; rows = p.rows; words = p.words }) later fates turn stands tt so over
      again_behind turn now changes (answer.Params params) moves later fates fits rule says_it stands so over = absurd so
      again_behind turn now changes (answer.Sync conflicts cursor retrieved saved token) moves later fates fits rule says_it stands so over = absurd so

      again_goes : (acts : List Act) (fates : List Fate) (turn : Turn) → AsksHost change (AdoptsOrDrops set) p acts turn → AreServed server acts fates
          → GoesTurn secret name begins v t server p.rows Leaves acts fates turn
      again_goes acts fates turn so over =
          asks_host_goes laws.keeps laws.says secret differ name begins v t server p k change of Leaves (AdoptsOrDrops set) acts fates turn
          (again_behind turn) so over

    -- ---- the sign-in

    module _ (v : World) (t : Ideal) (server : Rows) (p : Point) (k : Stands secret name v t server p.rows) (pre : IsTold owner present set set.params v t p)
        (other : set.params ≢ present.params) where
      abbrev signing : Request
      signing = request.SignIn owner.identifier set.pw

      abbrev asker : Made
      asker = made_of name (begins signing) signing

      signed_may : (now : ℕ) (changes : List Change) (token identifier uuid : Bytes) (moves : List Move)
          → Rule server signing now changes (answer.Account token identifier uuid) → moves ≡ []
          → CanAdopt secret name owner set token (served_world v asker changes) (end_from t moves) (record { made = suc p.made; rows = p.rows; words = p.words })
      signed_may now changes token identifier uuid moves rule no_moves = record {
        may = subst (λ (ms : List Move). MayAdopt secret (end_from t ms) name set token) (sym no_moves)
            (laws.signed secret v t owner.identifier now changes token identifier uuid name owner pre.asks.sets set k.holds
            (subst (λ (x : Rows). Rule x signing now changes (answer.Account token identifier uuid)) (sym k.server_is) rule)
            (subst (λ (r : Rows). HasSets r owner pre.asks.sets) (sym k.device_is) pre.asks.holds) refl
            (λ same. other (same ∙ ap (λ (x : KeySet). x.params) pre.asks.present_is)) pre.told pre.asks.only);
        owned = pre.asks.holds.owned;
      }

      signed_behind : (turn : Turn)
          → BehindAnswer laws.keeps laws.says secret differ name begins v t server p k signing tt Leaves (AdoptsOrKeeps set) turn
      signed_behind turn now changes (answer.Account token identifier uuid) moves later fates fits rule no_moves stands so over =
          adopts_goes owner set token (served_world v asker changes) (end_from t moves) (rows_after server changes)
          (record { made = suc p.made; rows = p.rows; words = p.words }) later fates turn stands
          (signed_may now changes token identifier uuid moves rule no_moves) so over
      signed_behind turn now changes (answer.Refused status tag more) moves later fates fits rule no_moves stands so over =
          drops_or_keeps_goes status tag Anything Leaves (served_world v asker changes) (end_from t moves) (rows_after server changes)
          (record { made = suc p.made; rows = p.rows; words = p.words }) later fates turn stands tt so over
      signed_behind turn now changes (answer.Params params) moves later fates fits rule no_moves stands so over = absurd so
      signed_behind turn now changes (answer.Sync conflicts cursor retrieved saved token) moves later fates fits rule no_moves stands so over = absurd so

      signs_goes : (acts : List Act) (fates : List Fate) (turn : Turn) → AsksHost signing (AdoptsOrKeeps set) p acts turn → AreServed server acts fates
          → GoesTurn secret name begins v t server p.rows Leaves acts fates turn
      signs_goes acts fates turn so over =
          asks_host_goes laws.keeps laws.says secret differ name begins v t server p k signing tt Leaves (AdoptsOrKeeps set) acts fates turn
          (signed_behind turn) so over

    -- ---- the parameters

    module _ (begins_set : begins (change_to owner present set) ≡ Some set) where
      finds_params_goes : (params : Params)
          → PieceGoes secret name begins (FindsParams owner present set params) (IsTold owner present set params) Leaves
      finds_params_goes params v t server p acts fates turn k pre (inl (same, so)) over =
          again_goes begins_set v t server p k pre.asks acts fates turn so over
      finds_params_goes params v t server p acts fates turn k pre (inr (other, inl (same, so))) over =
          signs_goes v t server p k (subst (λ (x : Params). IsTold owner present set x v t p) same pre) (λ e. other (same ∙ e)) acts fates turn so over
      finds_params_goes params v t server p acts fates turn k pre (inr (other, inr (apart, so))) over =
          drops_goes (refusal.Refused 401 (codes "bad-auth")) Anything Leaves v t server p acts fates turn k tt so over

      module _ (v : World) (t : Ideal) (server : Rows) (p : Point) (k : Stands secret name v t server p.rows) (pre : AsksSet owner present set v t p) where
        abbrev question : Request
        question = request.Params owner.identifier

        abbrev who : Made
        who = made_of name (begins question) question

        is_told : (now : ℕ) (changes : List Change) (params : Params) (moves : List Move) → Rule server question now changes (answer.Params params) → moves ≡ []
            → IsTold owner present set params (served_world v who changes) (end_from t moves) (record { made = suc p.made; rows = p.rows; words = p.words })
        is_told now changes params moves rule no_moves =
            let unmoved : rows_after v.server changes ≡ v.server = ap (rows_after v.server) rule.2.0 in
            let tells : TellsParams v.server owner.identifier (answer.Params params) =
            subst (λ (x : Rows). TellsParams x owner.identifier (answer.Params params)) (sym k.server_is) rule.2.1 in
            record {
              asks = record {
                sets = pre.sets;
                holds = pre.holds;
                present_is = pre.present_is;
                asked_is = pre.asked_is;
                only = subst (λ (ms : List Move). IsOnlySet (end_from t ms) set) (sym no_moves) pre.only;
              };
              told = subst (λ (x : Rows). (n : ℕ) → IsNamed x owner.identifier n → IsPresent x n params) (sym unmoved)
                  (told_present accounts_apart secret v t k.holds owner.identifier params tells);
            }

        finds_behind : (turn : Turn)
            → BehindAnswer laws.keeps laws.says secret differ name begins v t server p k question tt Leaves (Finds owner present set) turn
        finds_behind turn now changes (answer.Params params) moves later fates fits rule no_moves stands so over =
            finds_params_goes params (served_world v who changes) (end_from t moves) (rows_after server changes)
            (record { made = suc p.made; rows = p.rows; words = p.words }) later fates turn stands (is_told now changes params moves rule no_moves) so over
        finds_behind turn now changes (answer.Refused status tag more) moves later fates fits rule no_moves stands so over =
            drops_or_keeps_goes status tag Anything Leaves (served_world v who changes) (end_from t moves) (rows_after server changes)
            (record { made = suc p.made; rows = p.rows; words = p.words }) later fates turn stands tt so over
        finds_behind turn now changes (answer.Account token identifier uuid) moves later fates fits rule no_moves stands so over = absurd so
        finds_behind turn now changes (answer.Sync conflicts cursor retrieved saved token) moves later fates fits rule no_moves stands so over = absurd so

      pub resolves_goes : PieceGoes secret name begins (Resolves owner present set) (AsksSet owner present set) Leaves
      resolves_goes v t server p acts fates turn k pre so over =
          asks_host_goes laws.keeps laws.says secret differ name begins v t server p k (request.Params owner.identifier) tt Leaves (Finds owner present set) acts
          fates turn (finds_behind v t server p k pre turn) so over

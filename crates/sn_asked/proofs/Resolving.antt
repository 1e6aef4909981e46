-- How the set that is asked for is resolved: for which causes that ends the call, or that the set is adopted.
use Rattle.std.proofs.Common.{◌≡◌, ◌≢◌, ◌⊎◌, ◌<◌, ℕ, List, [], ◌∷◌, Option, Some, true, refl, sym, ap, ◌∙◌, subst, inl, inr, arith}
use Rattle.std.specs.Prelude.{codes}
use Rattle.rand_chacha.specs.ChaCha.{ChaCha}
use Rattle.sn_account.specs.Lookups.{HasAccount as HasAccountRow}
use Rattle.sn_account.specs.Rule.{Rule}
use Rattle.sn_account.specs.Rules.{Admits, IsPresent, Rejects}
use Rattle.sn_account.specs.Sessions.{IsSession}
use Rattle.sn_asked.proofs.Accounts.{IsAdmitted, admits_last, admitted, asked_params, held_params, holds_last, named, number, rejects_not, signs, told}
use Rattle.sn_asked.proofs.Changes.{Conflicts, conflicts, made_session}
use Rattle.sn_asked.proofs.LastAdopted.{adopted_last}
use Rattle.sn_asked.proofs.Requests.{Committed, Dropped, GoesOn, TooLarge, commit_goes, drops_goes, host_goes}
use Rattle.sn_asked.specs.Asked.{DropsIt, HearsAccount, HearsParams, IsLastSet, IsNext, IsTooLarge, RefusesAgain}
use Rattle.sn_device.proofs.Facts.{Adopted, adopted}
use Rattle.sn_device.specs.Asking.{said}
use Rattle.sn_device.specs.Runs.{Act, AdoptsOrDrops, AdoptsOrKeeps, AsksHost, CommitsStep, Drops, DropsOrKeeps, Finds, FindsParams, Halt, Point, Resolves, Turn, asked, begun, change_to, commits as committed, goes_on, is_over, most_exchanges, refused}
use Rattle.sn_device.specs.States.{HasSets, IsSound, OwnerColumns}
use Rattle.sn_device.specs.Steps.{Step, adopts}
use Rattle.sn_device.specs.declared.error.ClientError.TheVariants as refusal
use Rattle.sn_laws.specs.Each.{Each}
use Rattle.sn_laws.specs.Lookups.{Bytes}
use Rattle.sn_laws.specs.Runs.{end_from}
use Rattle.sn_laws.specs.declared.ideal.Ideal.{Ideal}
use Rattle.sn_ready.proofs.RowEnds.{Fails}
use Rattle.sn_ready.specs.Passwds.{IsConflict, IsFinished}
use Rattle.sn_ready.specs.Ready.{HoldsLast}
use Rattle.sn_rows.specs.Table.{Rows, rows_after}
use Rattle.sn_rows.specs.declared.change.Change.{Change}
use Rattle.sn_rows.specs.declared.device_rows.OwnerRow.{OwnerRow}
use Rattle.sn_rows.specs.declared.key.Key.TheVariants as key
use Rattle.sn_sets.specs.declared.sets.Sets.{Sets}
use Rattle.sn_shows.specs.Laws.{AccountsApart}
use Rattle.sn_string.specs.declared.params.KeySet.{KeySet}
use Rattle.sn_string.specs.declared.params.Params.{Params}
use Rattle.sn_sync.specs.declared.answer.Answer.{Answer}
use Rattle.sn_sync.specs.declared.answer.Answer.TheVariants as answer
use Rattle.sn_sync.specs.declared.answer.More.{More}
use Rattle.sn_sync.specs.declared.answer.More.TheVariants as more
use Rattle.sn_sync.specs.declared.request.Request.{Request}
use Rattle.sn_sync.specs.declared.request.Request.TheVariants as request
use Rattle.sn_world.proofs.FittingRows.{steps_fit_uuids}
use Rattle.sn_world.proofs.Facts.{Stands, answered_stands, commit_leads, holds_made, made_of, made_world, said_moves, served_world, serves_so, stands_then}
use Rattle.sn_world.specs.Answering.{Arrives}
use Rattle.sn_world.specs.Calls.{AreServed, Fate, Leads, served}
use Rattle.sn_world.specs.Committing.{MayAdopt}
use Rattle.sn_world.specs.Fitting.{FitsUuids}
use Rattle.sn_world.specs.Happens.{commits}
use Rattle.sn_world.specs.Holds.{Holds, TokensDiffer}
use Rattle.sn_world.specs.Laws.{ChangedAdopts, IsOnlySet, Keeps, SaysSome}
use Rattle.sn_world.specs.Making.{MakesChange}
use Rattle.sn_world.specs.World.{Made, World}

module _ (apart : AccountsApart) (keeps : Keeps) (says : SaysSome) (changing : ChangedAdopts) (secret : Bytes) (differ : TokensDiffer secret) (name : Bytes)
    (w : World) (s : Ideal) (h : Holds secret w s) (owner : OwnerRow) (sets : Sets) (holds : HasSets (w.devices name) owner sets) (set : KeySet)
    (asked_is : sets.asked ≡ Some set) (known : IsOnlySet s set ⊎ (IsLastSet s name set ⊎ HoldsLast s name)) (have : FitsUuids (w.devices name))
    (words : ChaCha) where
  abbrev rows : Rows
  rows = w.devices name

  abbrev present : KeySet
  present = sets.present

  abbrev n : ℕ
  n = number apart secret w s h name owner sets holds

  abbrev begins : Request → Option KeySet
  begins r = Some set

  -- behind the parameters, and behind the request after them
  abbrev at : Point
  at = record { made = 1; rows = rows; words = words }

  abbrev here : Point
  here = record { made = 2; rows = rows; words = words }

  few : 1 < most_exchanges
  few = omega arith

  -- ---- what it comes to

  -- the call ends
  abbrev pub EndsSo : List Act → List Fate → Halt → Type 0
  EndsSo acts fates halt = DropsIt s name owner present set rows w.server acts fates halt
      ⊎ (((first : HearsParams w.server owner acts fates) × (RefusesAgain s name owner present set w.server rows acts fates first halt
      ⊎ IsTooLarge s name owner present set w.server rows words acts fates first halt)) ⊎ Fails halt)

  -- the set is adopted, and the greatest set that the device holds is its account's last again
  pub record IsAdopted (acts : List Act) (fates : List Fate) (q : Point) : Type 0 where
    pub first : HearsParams w.server owner acts fates
    pub hears : HearsAccount s name owner present set w.server rows words acts fates first
    pub later_is : hears.later ≡ committed (adopts set hears.token) hears.adopted ∷ []
    pub none : hears.others ≡ []
    pub q_is : q ≡ record { made = 2; rows = rows_after rows hears.adopted; words = hears.left }
    pub next : World
    pub state : Ideal
    pub stands : Stands secret name next state (rows_after w.server hears.changes) (rows_after rows hears.adopted)
    pub holds_last : HoldsLast state name
    pub fits : FitsUuids (rows_after rows hears.adopted)

  abbrev pub Comes : List Act → List Fate → Turn → Type 0
  Comes acts fates turn = ((halt : Halt) × (turn ≡ is_over halt) × EndsSo acts fates halt) ⊎ ((q : Point) × (turn ≡ goes_on q) × IsAdopted acts fates q)

  module _ (acts : List Act) (fates : List Fate) (turn : Turn) where
    fails : (halt : Halt) → turn ≡ is_over halt → Fails halt → Comes acts fates turn
    fails halt is so = inl (halt, is, inr (inr so))

    wants : turn ≡ is_over (refused refusal.Memory) → Comes acts fates turn
    wants is = fails (refused refusal.Memory) is (inl refl)

    module _ (first : HearsParams w.server owner acts fates) (number_is : first.number ≡ n) (present_is : IsPresent w.server n first.params)
        (over : AreServed w.server first.later first.others)
        (arrive : Each Arrives first.others) (v : World) (k : Stands secret name v s w.server rows) where
      -- ---- an account is answered

      module _ (r : Request) (is_next : IsNext s name owner present set first.params r) (what : Answer → Point → List Act → Turn → Type 0)
          (g : GoesOn w.server r what at first.later first.others turn) (token identifier uuid : Bytes)
          (given_is : g.given ≡ answer.Account token identifier uuid) (session : IsSession (rows_after w.server g.changes) token n) (x : World) (u : Ideal)
          (stands : Stands secret name x u (rows_after w.server g.changes) rows) (may : MayAdopt secret u name set token) where
        module _ (changes : List Change) (left : ChaCha) (step : Step rows words (adopts set token) changes left) where
          abbrev hears : HearsAccount s name owner present set w.server rows words acts fates first
          hears = record {
            request = r;
            next = is_next;
            token = token;
            identifier = identifier;
            uuid = uuid;
            now = g.now;
            changes = g.changes;
            others = g.others;
            fates_are = g.fates_are ∙ ap (λ (z : Answer). served g.now g.changes z true ∷ g.others) given_is;
            session = subst (λ (m : ℕ). IsSession (rows_after w.server g.changes) token m) (sym number_is) session;
            adopted = changes;
            left = left;
            step = step;
            later = g.later;
            later_is = g.acts_are ∙ ap (λ (z : Answer). asked r (said z) ∷ g.later) given_is;
          }

          leads : Leads secret x u name (commits name (adopts set token) changes true ∷ []) (rows_after w.server g.changes) (rows_after rows changes)
          leads = commit_leads keeps says secret differ name x u (rows_after w.server g.changes) rows words left (adopts set token) changes stands step may

          there : Stands secret name leads.next (end_from u leads.moves) (rows_after w.server g.changes) (rows_after rows changes)
          there =
              stands_then keeps says secret differ name x u (commits name (adopts set token) changes true ∷ []) (rows_after w.server g.changes)
              (rows_after rows changes) stands.holds leads

          last_there : HoldsLast (end_from u leads.moves) name
          last_there =
              let after : Adopted rows step.sets set token step.owner (rows_after rows changes) = adopted rows words left set token changes step in
              adopted_last apart secret differ name x leads.next u (end_from u leads.moves) stands.holds there.holds
              (there.server_is ∙ sym stands.server_is) set
              token may after.later (ap (λ (z : Rows). z key.Owner) there.device_is ∙ after.owned)
              (ap (λ (c : OwnerColumns). c.token) after.columns_are)

          fitting : FitsUuids (rows_after rows changes)
          fitting = steps_fit_uuids rows words left (adopts set token) changes (subst IsSound stands.device_is (stands.holds.sound name)) have step

        adopts_so : CommitsStep (adopts set token) here g.later turn → Comes acts fates turn
        adopts_so so = by (commit_goes (adopts set token) here g.later turn so)
          where
            by : ((q : Point) × (turn ≡ goes_on q) × Committed (adopts set token) here g.later q)
                ⊎ ((halt : Halt) × (turn ≡ is_over halt) × (TooLarge (adopts set token) here g.later halt ⊎ Fails halt)) → Comes acts fates turn
            by (inl (q, is, c)) =
                inr (
                  q,
                  is,
                  record {
                    first = first;
                    hears = hears c.changes c.left c.step;
                    later_is = c.acts_are;
                    none = subst (λ (xs : List Act). AreServed (rows_after w.server g.changes) xs g.others) c.acts_are g.over;
                    q_is = c.q_is;
                    next = (leads c.changes c.left c.step).next;
                    state = end_from u (leads c.changes c.left c.step).moves;
                    stands = there c.changes c.left c.step;
                    holds_last = last_there c.changes c.left c.step;
                    fits = fitting c.changes c.left c.step;
                  },
                )
            by (inr (halt, is, inl y)) =
                inl (
                  halt,
                  is,
                  inr (inl (first, inr (record { hears = hears y.changes y.left y.step; large = y.large; no_more = y.none; is = y.is }))),
                )
            by (inr (halt, is, inr failed)) = fails halt is failed

      -- ---- the set is dropped

      not_held : first.params ≢ present.params → ¬ (HoldsLast s name)
      not_held other is_last = other (held_params apart secret w s h name owner sets holds first.params present_is is_last)

      -- the parameters are another set's
      third_so : first.params ≢ present.params → first.params ≢ set.params → Drops (refusal.Refused 401 (codes "bad-auth")) at first.later turn
          → Comes acts fates turn
      third_so other differs so = by (drops_goes (refusal.Refused 401 (codes "bad-auth")) at first.later turn so)
        where
          by : Dropped (refusal.Refused 401 (codes "bad-auth")) at first.later turn ⊎ ((halt : Halt) × (turn ≡ is_over halt) × Fails halt)
              → Comes acts fates turn
          by (inl x) =
              inl (
                refused (refusal.Refused 401 (codes "bad-auth")),
                x.is,
                inl (record {
                  first = first;
                  not_asked = λ is_last. differs (asked_params apart secret w s h name owner sets holds set first.params present_is is_last);
                  not_held = not_held other;
                  other = other;
                  dropped = x.dropped;
                  drops = x.drops;
                  how = inl (differs, x.acts_are, subst (λ (xs : List Act). AreServed w.server xs first.others) x.acts_are over);
                  is = refl;
                }),
              )
          by (inr (halt, is, failed)) = fails halt is failed

      -- ---- the sign-in

      module _ (same : first.params ≡ set.params) (other : first.params ≢ present.params) where
        abbrev signing : Request
        signing = request.SignIn owner.identifier set.pw

        module _ (g : GoesOn w.server signing (AdoptsOrKeeps set) at first.later first.others turn) where
          module _ (is_last : IsLastSet s name set) (x : Admits w.server g.rule.0 owner.identifier set.pw g.given) where
            let_in : IsAdmitted apart secret w s h name owner sets holds set is_last first.params present_is other g.rule.0 g.rule.1 g.given
            let_in = admitted apart secret w s h name owner sets holds set is_last first.params present_is other g.rule.0 g.rule.1 g.given x

            admitted_so : Comes acts fates turn
            admitted_so =
                adopts_so signing (inl (is_last, same, other, refl)) (AdoptsOrKeeps set) g let_in.token let_in.identifier let_in.uuid let_in.given_is
                (subst (λ (z : Rows). IsSession z let_in.token n) (ap (rows_after w.server) (sym g.rule.2.0)) let_in.session)
                (served_world v (made_of name (Some set) signing) g.changes) s
                (answered_stands keeps says secret differ name begins v s w.server rows k signing tt g.now g.changes g.given [] g.fits g.rule refl) let_in.may
                (subst (λ (z : Answer). AdoptsOrKeeps set z here g.later turn) let_in.given_is g.so)

          -- it is refused
          rejected_so : Rejects w.server owner.identifier set.pw → g.given ≡ answer.Refused 401 (codes "bad-auth") more.Nothing → Comes acts fates turn
          rejected_so rejects is = by (subst (λ (z : Answer). AdoptsOrKeeps set z here g.later turn) is g.so)
            where
              drops_so : Dropped (refusal.Refused 401 (codes "bad-auth")) here g.later turn ⊎ ((halt : Halt) × (turn ≡ is_over halt) × Fails halt)
                  → Comes acts fates turn
              drops_so (inl x) =
                  let no_others : g.others ≡ [] = subst (λ (xs : List Act). AreServed (rows_after w.server g.changes) xs g.others) x.acts_are g.over in
                  inl (
                    refused (refusal.Refused 401 (codes "bad-auth")),
                    x.is,
                    inl (record {
                      first = first;
                      not_asked = rejects_not apart secret w s h name owner sets holds set rejects;
                      not_held = not_held other;
                      other = other;
                      dropped = x.dropped;
                      drops = x.drops;
                      how = inr (
                        same,
                        g.acts_are ∙ ap (λ (z : Answer). asked signing (said z) ∷ g.later) is
                            ∙ ap (λ (xs : List Act). asked signing (said (answer.Refused 401 (codes "bad-auth") more.Nothing)) ∷ xs) x.acts_are,
                        (
                          g.now,
                          g.fates_are ∙ ap (λ (fs : List Fate). served g.now g.changes g.given true ∷ fs) no_others
                              ∙ ap (λ (cs : List Change). served g.now cs g.given true ∷ []) g.rule.2.0
                              ∙ ap (λ (z : Answer). served g.now [] z true ∷ []) is,
                        ),
                      );
                      is = refl;
                    }),
                  )
              drops_so (inr (halt, over_is, failed)) = fails halt over_is failed

              by : DropsOrKeeps 401 (codes "bad-auth") here g.later turn → Comes acts fates turn
              by (inl (denied, so)) = drops_so (drops_goes (refusal.Refused 401 (codes "bad-auth")) here g.later turn so)
              by (inr (not, so)) = absurd (not refl)

          signed_so : Comes acts fates turn
          signed_so = by (signs apart secret w s h name owner sets holds set g.rule.0 g.given g.rule.2.1)
            where
              last_of : Admits w.server g.rule.0 owner.identifier set.pw g.given → IsOnlySet s set ⊎ (IsLastSet s name set ⊎ HoldsLast s name)
                  → IsLastSet s name set
              last_of x (inl only) = admits_last apart secret w s h name owner sets holds set g.rule.0 g.given x first.params present_is same only
              last_of x (inr (inl is_last)) = is_last
              last_of x (inr (inr is_last)) = absurd (not_held other is_last)

              by : (Rejects w.server owner.identifier set.pw × (g.given ≡ answer.Refused 401 (codes "bad-auth") more.Nothing))
                  ⊎ Admits w.server g.rule.0 owner.identifier set.pw g.given → Comes acts fates turn
              by (inl (rejects, is)) = rejected_so rejects is
              by (inr x) = admitted_so (last_of x known) x

        signs_so : AsksHost signing (AdoptsOrKeeps set) at first.later turn → Comes acts fates turn
        signs_so so = by (host_goes w.server signing (AdoptsOrKeeps set) at first.later first.others turn few so over arrive)
          where
            by : (turn ≡ is_over (refused refusal.Memory)) ⊎ GoesOn w.server signing (AdoptsOrKeeps set) at first.later first.others turn
                → Comes acts fates turn
            by (inl is) = wants is
            by (inr g) = signed_so g

      -- ---- the change

      module _ (is_last : HoldsLast s name) (same : first.params ≡ present.params) where
        abbrev change : Request
        change = change_to owner present set

        abbrev m : Made
        m = made_of name (Some set) change

        module _ (g : GoesOn w.server change (AdoptsOrDrops set) at first.later first.others turn) where
          makes : (z : Rows) → HasSets z owner sets → MakesChange z (Some set) change
          makes z has = record { owner = owner; sets = sets; holds = has; set = set; asked = asked_is; is = refl; request_is = refl }

          made_so : (token identifier uuid : Bytes) → g.given ≡ answer.Account token identifier uuid → CommitsStep (adopts set token) here g.later turn
              → Comes acts fates turn
          made_so token identifier uuid is so =
              let rule : Rule w.server change g.now g.changes (answer.Account token identifier uuid) =
              subst (λ (z : Answer). Rule w.server change g.now g.changes z) is g.rule in
              let some = said_moves keeps says secret differ name begins v s w.server rows k change (makes rows holds) g.now g.changes
              (answer.Account token identifier uuid) g.fits rule in
              adopts_so change (inr (is_last, same, refl)) (AdoptsOrDrops set) g token identifier uuid is
              (made_session apart secret w s h name owner sets holds is_last first.params present_is rule.0 rule.1 set.pw set.params.pw_cost
              set.params.pw_nonce g.changes token identifier uuid rule.2)
              (served_world v m g.changes) (end_from s some.0)
              (answered_stands keeps says secret differ name begins v s w.server rows k change (makes rows holds) g.now g.changes
              (answer.Account token identifier uuid) some.0 g.fits rule some.1)
              (changing secret (made_world v m) (served_world v m g.changes) s m g.now g.changes some.0 token identifier uuid set differ
              (holds_made keeps says secret differ name begins v s w.server rows k change (makes rows holds))
              (makes (v.devices name) (subst (λ (z : Rows). HasSets z owner sets) (sym k.device_is) holds)) refl
              (serves_so v m w.server g.now g.changes (answer.Account token identifier uuid) k.server_is g.fits rule) some.1)
              so

          refused_so : (status : ℕ) (tag : Bytes) (further : More) → g.given ≡ answer.Refused status tag further
              → Drops (refusal.Refused status tag) here g.later turn → Comes acts fates turn
          refused_so status tag further is so = by (drops_goes (refusal.Refused status tag) here g.later turn so)
            where
              rule : Rule w.server change g.now g.changes (answer.Refused status tag further)
              rule = subst (λ (z : Answer). Rule w.server change g.now g.changes z) is g.rule

              x : Conflicts apart secret w s h name owner sets holds is_last first.params present_is rule.0 rule.1 set.pw set.params.pw_cost
                  set.params.pw_nonce g.changes status tag further
              x = conflicts apart secret w s h name owner sets holds is_last first.params present_is rule.0 rule.1 set.pw set.params.pw_cost
                  set.params.pw_nonce g.changes status tag further rule.2

              refuses : (z : Dropped (refusal.Refused status tag) here g.later turn)
                  → RefusesAgain s name owner present set w.server rows acts fates first (refused (refusal.Refused status tag))
              refuses z =
                  let no_others : g.others ≡ [] =
                  subst (λ (xs : List Act). AreServed (rows_after w.server g.changes) xs g.others) z.acts_are g.over in
                  let given_is : g.given ≡ answer.Refused 409 tag further = is ∙ ap (λ (c : ℕ). answer.Refused c tag further) x.status_is in
                  record {
                    last = is_last;
                    same = same;
                    session = subst (λ (m : ℕ). IsSession w.server owner.token m) (sym number_is) x.session;
                    account = x.account;
                    there = subst (λ (m : ℕ). HasAccountRow w.server m x.account) (sym number_is) x.there;
                    tag = tag;
                    further = further;
                    conflict = subst (λ (m : ℕ). IsConflict (¬ (IsFinished s name)) w.server m x.account first.params set.params.pw_nonce tag further)
                        (sym number_is) x.conflict;
                    now = g.now;
                    fates_are = g.fates_are ∙ ap (λ (fs : List Fate). served g.now g.changes g.given true ∷ fs) no_others
                        ∙ ap (λ (cs : List Change). served g.now cs g.given true ∷ []) x.none
                        ∙ ap (λ (c : Answer). served g.now [] c true ∷ []) given_is;
                    dropped = z.dropped;
                    drops = z.drops;
                    later_is = g.acts_are ∙ ap (λ (c : Answer). asked change (said c) ∷ g.later) given_is
                        ∙ ap (λ (xs : List Act). asked change (said (answer.Refused 409 tag further)) ∷ xs) z.acts_are;
                    is = ap (λ (c : ℕ). refused (refusal.Refused c tag)) x.status_is;
                  }

              by : Dropped (refusal.Refused status tag) here g.later turn ⊎ ((halt : Halt) × (turn ≡ is_over halt) × Fails halt) → Comes acts fates turn
              by (inl z) = inl (refused (refusal.Refused status tag), z.is, inr (inl (first, inl (refuses z))))
              by (inr (halt, over_is, failed)) = fails halt over_is failed

          changed_so : (given : Answer) → g.given ≡ given → AdoptsOrDrops set given here g.later turn → Comes acts fates turn
          changed_so (answer.Account token identifier uuid) is so = made_so token identifier uuid is so
          changed_so (answer.Refused status tag further) is so = refused_so status tag further is so
          changed_so (answer.Params params) is so = absurd so
          changed_so (answer.Sync conflicts cursor retrieved saved token) is so = absurd so

        changes_so : AsksHost change (AdoptsOrDrops set) at first.later turn → Comes acts fates turn
        changes_so so = by (host_goes w.server change (AdoptsOrDrops set) at first.later first.others turn few so over arrive)
          where
            by : (turn ≡ is_over (refused refusal.Memory)) ⊎ GoesOn w.server change (AdoptsOrDrops set) at first.later first.others turn → Comes acts fates turn
            by (inl is) = wants is
            by (inr g) = changed_so g g.given refl g.so

      -- ---- behind the parameters

      finds_so : FindsParams owner present set first.params at first.later turn → Comes acts fates turn
      finds_so (inl (same, so)) = changes_so (holds_last apart secret w s h name owner sets holds first.params present_is same) same so
      finds_so (inr (other, inl (same, so))) = signs_so same other so
      finds_so (inr (other, inr (differs, so))) = third_so other differs so

  -- ---- the parameters

  module _ (acts : List Act) (fates : List Fate) (turn : Turn) where
    abbrev question : Request
    question = request.Params owner.identifier

    k : Stands secret name w s w.server rows
    k = record { holds = h; server_is = refl; device_is = refl }

    module _ (g : GoesOn w.server question (Finds owner present set) (begun rows words) acts fates turn) where
      params : (params : Params) × (g.given ≡ answer.Params params) × IsPresent w.server n params
      params = told apart secret w s h name owner sets holds g.given g.rule.2.1

      none : g.changes ≡ []
      none = g.rule.2.0

      abbrev first : HearsParams w.server owner acts fates
      first = record {
        number = n;
        named = named apart secret w s h name owner sets holds;
        params = params.0;
        present_is = params.2;
        later = g.later;
        acts_are = g.acts_are ∙ ap (λ (z : Answer). asked question (said z) ∷ g.later) params.1;
        now = g.now;
        others = g.others;
        fates_are = g.fates_are ∙ ap (λ (cs : List Change). served g.now cs g.given true ∷ g.others) none
            ∙ ap (λ (z : Answer). served g.now [] z true ∷ g.others) params.1;
      }

      found_so : Comes acts fates turn
      found_so =
          finds_so acts fates turn first refl params.2
          (subst (λ (cs : List Change). AreServed (rows_after w.server cs) g.later g.others) none g.over) g.arrive
          (served_world w (made_of name (Some set) question) [])
          (answered_stands keeps says secret differ name begins w s w.server rows k question tt g.now [] g.given [] g.fits
          (subst (λ (cs : List Change). Rule w.server question g.now cs g.given) none g.rule) refl)
          (subst (λ (z : Answer). Finds owner present set z at g.later turn) params.1 g.so)

    pub resolves_so : Resolves owner present set (begun rows words) acts turn → AreServed w.server acts fates → Each Arrives fates → Comes acts fates turn
    resolves_so so over arrive =
        by (host_goes w.server question (Finds owner present set) (begun rows words) acts fates turn (omega arith) so over arrive)
      where
        by : (turn ≡ is_over (refused refusal.Memory)) ⊎ GoesOn w.server question (Finds owner present set) (begun rows words) acts fates turn
            → Comes acts fates turn
        by (inl is) = wants acts fates turn is
        by (inr g) = found_so g

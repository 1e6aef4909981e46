-- How a change of password ends behind its first row of exchanges, of a device that holds its account's last set alone there.
use Rattle.std.proofs.Common.{◌≡◌, ◌⊎◌, ◌+◌, ◌<◌, ℕ, suc, List, [], ◌∷◌, ◌++◌, length, Option, Some, refl, sym, ap, ◌∙◌, subst, inl, inr, arith}
use Rattle.std.specs.List.{flat_map}
use Rattle.std.proofs.lemmas.List.{append-nil}
use Rattle.rand_chacha.specs.ChaCha.{ChaCha}
use Rattle.sn_device.specs.Runs.{Act, AsksFor, EndsSync, Exchanges, Halt, IsDone, Point, RefusesChange, Refuses, Standing, Then, Turn, acts_of, answered, commits as committed, goes_on, is_over, most_exchanges, nothing}
use Rattle.sn_device.specs.States.{HasOwner, HasSets}
use Rattle.sn_device.specs.Steps.{adopts}
use Rattle.sn_device.specs.declared.error.ClientError.{ClientError}
use Rattle.sn_device.specs.declared.error.ClientError.TheVariants as refusal
use Rattle.sn_laws.proofs.Facts.{each_back, each_front}
use Rattle.sn_laws.specs.Each.{Each}
use Rattle.sn_laws.specs.Laws.{VersionsRise}
use Rattle.sn_laws.specs.Lookups.{Bytes, greatest}
use Rattle.sn_laws.specs.Runs.{end_from}
use Rattle.sn_laws.specs.declared.ideal.Account.{Account}
use Rattle.sn_laws.specs.declared.ideal.Device.{Device}
use Rattle.sn_laws.specs.declared.ideal.Ideal.{Ideal}
use Rattle.sn_passwd.proofs.Asking.{AsksDrawn, HasNew, IsReady as IsReadySince, IsRefused, asks_drawn_goes, asks_or_not}
use Rattle.sn_passwd.proofs.Pieces.{GoesTurn, stands_behind}
use Rattle.sn_passwd.proofs.Points.{last_alone}
use Rattle.sn_passwd.proofs.Renewed.{HoldsBoth, HoldsFrom, Since, since_first}
use Rattle.sn_passwd.proofs.Together.{CallLaws}
use Rattle.sn_ready.proofs.AskedChange.{EndsAsking, IsAdopted, asks_comes, point}
use Rattle.sn_ready.proofs.RowEnds.{Fails, row_stops}
use Rattle.sn_ready.specs.Passwds.{IsChanged, IsMade, IsTooLarge, RefusesIt, RowDone, StopsLater, StopsRow, rows_made}
use Rattle.sn_ready.specs.Ready.{HoldsLast}
use Rattle.sn_rows.specs.Table.{Rows}
use Rattle.sn_rows.specs.declared.device_rows.OwnerRow.{OwnerRow}
use Rattle.sn_rows.specs.declared.key.Key.TheVariants as key
use Rattle.sn_rows.specs.declared.value.Value.TheVariants as value
use Rattle.sn_sets.specs.declared.sets.Sets.{Sets}
use Rattle.sn_shows.proofs.Facts.{greatest_of_two, holder_from}
use Rattle.sn_shows.specs.Laws.{HasAccount}
use Rattle.sn_string.specs.declared.params.KeySet.{KeySet}
use Rattle.sn_sync.specs.Laws.{HasOneStamp}
use Rattle.sn_sync.specs.declared.answer.Answer.TheVariants as answer
use Rattle.sn_sync.specs.declared.request.Request.{Request}
use Rattle.sn_world.proofs.CallFronts.{Split, split}
use Rattle.sn_world.proofs.CallLemmas.{Stands}
use Rattle.sn_world.specs.Answering.{Arrives}
use Rattle.sn_world.specs.Calls.{AreServed, Fate, begins_none, rows_served}
use Rattle.sn_world.specs.Delivered.{FitsDevices, TracesFit}
use Rattle.sn_world.specs.Fitting.{FitsUuids}
use Rattle.sn_world.specs.Holds.{TokensDiffer}
use Rattle.sn_world.specs.World.{World}

-- ---- sets

-- of two sets the greatest is the last
both_last : (s t : Ideal) (name : Bytes) → HoldsBoth s name t → HoldsLast t name
both_last s t name both d a has =
    let x : HoldsFrom s d a (length a.sets ∷ []) = both d a has in
    let next = x.next in
    let less : x.first < length a.sets = omega arith in
    ap (greatest 0) x.held ∙ greatest_of_two x.first (length a.sets) less

-- ---- a row that is brought to its end

pub ends_done : (count : ℕ) (at : Standing) (acts : List Act) (q : Point) → EndsSync count at acts (goes_on q)
    → IsDone at.rows at.last × (acts ≡ []) × (q ≡ point count at)
ends_done count at acts q (inl (done, none, is)) = (done, none, cc)
ends_done count at acts q (inr (over, is, stops)) = absurd (cc)

-- the acts of a row that leaves nothing
pub row_acts : (p : Point) (acts : List Act) (q : Point) (x : Exchanges p acts (goes_on q)) → acts ≡ flat_map acts_of x.rounds
row_acts p acts q x =
    let d = ends_done (p.made + length x.rounds) x.at x.later q x.ends in
    x.acts_are ∙ ap (λ (xs : List Act). flat_map acts_of x.rounds ++ xs) d.1 ∙ append-nil (flat_map acts_of x.rounds)

-- with what is done after it
abbrev pub row_of : (p : Point) (front later acts : List Act) (q : Point) (x : Exchanges p front (goes_on q)) → acts ≡ front ++ later
    → RowDone p.rows p.words acts
row_of p front later acts q x are = record {
  behind = record {
    rounds = x.rounds;
    at = x.at;
    went = x.went;
    later = later;
    acts_are = are ∙ ap (λ (xs : List Act). xs ++ later) (row_acts p front q x);
  };
  done = (ends_done (p.made + length x.rounds) x.at x.later q x.ends).0;
}

-- ---- behind the first row of exchanges

-- what the call comes to
abbrev pub Outcome : (Halt → Type 0) → Turn → Type 0
Outcome P turn = ((halt : Halt) × (turn ≡ is_over halt) × P halt) ⊎ ((q : Point) × (turn ≡ goes_on q) × P (answered nothing q.words))

abbrev made_of : (made : ℕ) (password : Bytes) (cost : ℕ) (at : Standing) (front later acts : List Act) (q : Point)
    (x : IsAdopted made password cost at front q) → acts ≡ front ++ later → IsMade password cost at acts
made_of made password cost at front later acts q x are = record {
  makes = record {
    change = record {
      owner = x.owner;
      sets = x.sets;
      holds = x.holds;
      set = x.set;
      left = x.left;
      new = x.new;
      kept = x.kept;
      keeps = x.keeps;
      given = answer.Account x.token x.identifier x.uuid;
      later = committed (adopts x.set x.token) x.adopted ∷ later;
      acts_are = are ∙ ap (λ (xs : List Act). xs ++ later) x.acts_are;
    };
    token = x.token;
    identifier = x.identifier;
    uuid = x.uuid;
    given_is = refl;
    adopted = x.adopted;
    left = x.rest;
    step = x.step;
  };
  later = later;
  later_is = refl;
}

module _ (laws : CallLaws) (rise : VersionsRise) (one_stamp : HasOneStamp) (secret : Bytes) (differ : TokensDiffer secret) (name password : Bytes) (cost : ℕ) where
  -- the ends behind the row, without want of memory and the disk
  abbrev pub Ended : (made : ℕ) → Rows → Standing → List Act → List Fate → Halt → Type 0
  Ended made server at acts fates halt = IsChanged password cost at acts halt
      ⊎ (((owner : OwnerRow) × (sets : Sets) × HasSets at.rows owner sets × (why : ClientError) × RefusesChange at.rows sets why × Refuses acts halt why)
      ⊎ (((made ≡ most_exchanges) × Refuses acts halt refusal.RoundsUsed)
      ⊎ (RefusesIt (Unit {0}) password cost server at acts fates halt
      ⊎ (IsTooLarge password cost at acts halt ⊎ StopsLater (suc made) password cost server at acts fates halt))))

  abbrev pub EndedOr : (made : ℕ) → Rows → Standing → List Act → List Fate → Halt → Type 0
  EndedOr made server at acts fates halt = Ended made server at acts fates halt ⊎ Fails halt

  asking_ended : (made : ℕ) (server : Rows) (at : Standing) (acts : List Act) (fates : List Fate) (halt : Halt)
      → EndsAsking made password cost server at acts fates halt → EndedOr made server at acts fates halt
  asking_ended made server at acts fates halt (inl runs) = inl (inr (inl runs))
  asking_ended made server at acts fates halt (inr (inl used)) = inl (inr (inr (inl used)))
  asking_ended made server at acts fates halt (inr (inr (inl refuses))) = inl (inr (inr (inr (inl refuses))))
  asking_ended made server at acts fates halt (inr (inr (inr (inl large)))) = inl (inr (inr (inr (inr (inl large)))))
  asking_ended made server at acts fates halt (inr (inr (inr (inr fails)))) = inr fails

  -- ---- the second row

  module _ (v : World) (t : Ideal) (server : Rows) (made : ℕ) (at : Standing) (acts front later : List Act) (fates : List Fate) (q : Point)
      (x : IsAdopted made password cost at front q) (are : acts ≡ front ++ later) (met others : List Fate) (fates_are : fates ≡ met ++ others)
      (k : Stands secret name v t (rows_served server met) q.rows) (last : HoldsLast t name) (have : FitsUuids q.rows)
      (over : AreServed (rows_served server met) later others) (arrive : Each Arrives others) where
    abbrev then : IsMade password cost at acts
    then = made_of made password cost at front later acts q x are

    abbrev second : Point
    second = record { made = suc made; rows = rows_made at then; words = x.rest }

    q_is : q ≡ second
    q_is = x.q_is

    stops_later : (halt : Halt) → Exchanges second later (is_over halt) → EndedOr made server at acts fates halt
    stops_later halt ex =
        by (row_stops laws.rounds laws.resolving.keeps laws.resolving.says rise one_stamp secret differ name v t (rows_served server met) second later others
        (subst (λ (z : Point). Stands secret name v t (rows_served server met) z.rows) q_is k) last (subst (λ (z : Point). FitsUuids z.rows) q_is have) over arrive
        halt ex)
      where
        by : StopsRow (suc made) (rows_served server met) (rows_made at then) x.rest later others halt ⊎ Fails halt → EndedOr made server at acts fates halt
        by (inl stops) = inl (inr (inr (inr (inr (inr (record { is_made = then; met = met; others = others; fates_are = fates_are; stops = stops }))))))
        by (inr fails) = inr fails

    changed : (z : Point) → Exchanges second later (goes_on z) → EndedOr made server at acts fates (answered nothing z.words)
    changed z ex =
        let d = ends_done (suc made + length ex.rounds) ex.at ex.later z ex.ends in
        let row : RowDone (rows_made at then) x.rest later = row_of second later [] later z ex (sym (append-nil later)) in
        inl (inl (record {
          is_made = then;
          second = row_of second later [] later z ex (sym (append-nil later));
          no_more = refl;
          is = ap (λ (y : Point). answered nothing y.words) d.2;
        }))

    second_row : (turn : Turn) → Exchanges q later turn → Outcome (EndedOr made server at acts fates) turn
    second_row (is_over halt) ex = inl (halt, refl, stops_later halt (subst (λ (z : Point). Exchanges z later (is_over halt)) q_is ex))
    second_row (goes_on z) ex = inr (z, refl, changed z (subst (λ (y : Point). Exchanges y later (goes_on z)) q_is ex))

  -- ---- the change

  -- from a world in which it stands alone
  module _ (fits_on : TracesFit) (v : World) (t : Ideal) (server : Rows) (made : ℕ) (at : Standing) (acts : List Act) (fates : List Fate)
      (k : Stands secret name v t server at.rows) (alone : (d : Device) (a : Account) → HasAccount t name d a → d.held ≡ length a.sets ∷ [])
      (fits : FitsDevices v) (over : AreServed server acts fates) (arrive : Each Arrives fates) where
    last : HoldsLast t name
    last = last_alone t name alone

    since : (owner : OwnerRow) → HasOwner at.rows owner → Since t name t
    since owner owned =
        let its = holder_from (v.devices name) t name key.Owner (value.Owner owner) (k.holds.devices name)
        (subst (λ (r : Rows). HasOwner r owner) (sym k.device_is) owned) in
        since_first name t t [] its.0 its.1 refl its.2 tt

    module _ (front : List Act) (q : Point) (later : List Act) (asks_it : AsksFor password cost (point made at) front (goes_on q)) (are : acts ≡ front ++ later) where
      module _ (owner : OwnerRow) (sets : Sets) (set : KeySet) (left : ChaCha)
          (drawn : AsksDrawn password cost owner sets set left (point made at) front (goes_on q)) where
        abbrev begins : Request → Option KeySet
        begins r = Some set

        parts : Split name begins server front later fates
        parts = split name begins server front later fates (subst (λ (xs : List Act). AreServed server xs fates) are over)

        went : GoesTurn secret name begins v t server at.rows (HasNew t name owner.identifier set) front parts.met (goes_on q)
        went =
            asks_drawn_goes laws.resolving secret differ name begins t password cost owner sets set left (λ x u p. IsReadySince t name u) (λ x u p z. z)
            (λ x u p z holds. refl) v t server (point made at) front parts.met (goes_on q) k (alone, since owner drawn.0.owned) drawn parts.over

        arrive_parts : Each Arrives (parts.met ++ parts.others)
        arrive_parts = subst (λ (fs : List Fate). Each Arrives fs) parts.fates_are arrive

        module _ (x : IsAdopted made password cost at front q) (turn : Turn) (ex : Exchanges q later turn) where
          behind_drawn : Outcome (EndedOr made server at acts fates) turn
          behind_drawn =
              second_row went.0.next (end_from t went.0.moves) server made at acts front later fates q x are parts.met parts.others parts.fates_are
              (stands_behind laws.resolving.keeps laws.resolving.says secret differ name begins v t server (point made at) q front parts.met k went.0 went.1)
              (both_last t (end_from t went.0.moves) name went.2.2)
              (subst FitsUuids (went.0.device_is ∙ went.1) (fits_on secret v went.0.next t _ went.0.moves differ k.holds fits went.0.goes name))
              parts.later_over (each_back Arrives parts.met parts.others arrive_parts) turn ex

      on_so : (turn : Turn) → Exchanges q later turn → IsAdopted made password cost at front q → Outcome (EndedOr made server at acts fates) turn
      on_so turn ex x = by (asks_or_not password cost (point made at) front (goes_on q) asks_it)
        where
          by : IsRefused (point made at) front (goes_on q)
              ⊎ ((owner : OwnerRow) × (sets : Sets) × (set : KeySet) × (left : ChaCha)
              × AsksDrawn password cost owner sets set left (point made at) front (goes_on q))
              → Outcome (EndedOr made server at acts fates) turn
          by (inl (why, (none, is))) = absurd (cc)
          by (inr (owner, sets, set, left, drawn)) = behind_drawn owner sets set left drawn x turn ex

      first_parts : Split name begins_none server front later fates
      first_parts = split name begins_none server front later fates (subst (λ (xs : List Act). AreServed server xs fates) are over)

      adopted_so : (turn : Turn) → Exchanges q later turn → Outcome (EndedOr made server at acts fates) turn
      adopted_so turn ex =
          by (asks_comes laws.rounds.apart secret name v t server made at k last password cost front first_parts.met first_parts.over
          (each_front Arrives first_parts.met first_parts.others (subst (λ (fs : List Fate). Each Arrives fs) first_parts.fates_are arrive)) (goes_on q)
          asks_it)
        where
          by : ((halt : Halt) × (goes_on q ≡ is_over halt) × EndsAsking made password cost server at front first_parts.met halt)
              ⊎ ((z : Point) × (goes_on q ≡ goes_on z) × IsAdopted made password cost at front z) → Outcome (EndedOr made server at acts fates) turn
          by (inl (halt, is, ends)) = absurd (cc)
          by (inr (z, is, x)) =
              let same : z ≡ q = cc in
              on_so turn ex (subst (λ (y : Point). IsAdopted made password cost at front y) same x)

    over_so : (turn : Turn) (halt : Halt) → turn ≡ is_over halt → AsksFor password cost (point made at) acts (is_over halt)
        → Outcome (EndedOr made server at acts fates) turn
    over_so turn halt is asks_it =
        by (asks_comes laws.rounds.apart secret name v t server made at k last password cost acts fates over arrive (is_over halt) asks_it)
      where
        by : ((z : Halt) × (is_over halt ≡ is_over z) × EndsAsking made password cost server at acts fates z)
            ⊎ ((z : Point) × (is_over halt ≡ goes_on z) × IsAdopted made password cost at acts z) → Outcome (EndedOr made server at acts fates) turn
        by (inl (z, same, ends)) = inl (z, is ∙ same, asking_ended made server at acts fates z ends)
        by (inr (z, on, x)) = absurd (cc)

    pub change_so : (turn : Turn) → Then (AsksFor password cost) Exchanges (point made at) acts turn → Outcome (EndedOr made server at acts fates) turn
    change_so turn (inl (halt, asks_it, is)) = over_so turn halt is asks_it
    change_so turn (inr (front, q, later, asks_it, ex, are)) = adopted_so front q later asks_it are turn ex

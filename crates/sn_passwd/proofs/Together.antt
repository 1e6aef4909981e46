-- A device and its server are brought together, and a new set is asked for: pieces of a sync and of a change of password as steps of the world.
use Rattle.std.proofs.Common.{◌≡◌, ℕ, Option, Some, refl, sym, ap, ◌∙◌, subst, inl, inr}
use Rattle.rand_chacha.specs.ChaCha.{ChaCha}
use Rattle.sn_device.specs.Runs.{Exchanges, Point, Resolves, SyncsUnder, Then, change_to, rows_done}
use Rattle.sn_device.specs.States.{HasOwner, HasSets, IsInSlot}
use Rattle.sn_laws.specs.Lookups.{Bytes}
use Rattle.sn_laws.specs.declared.ideal.Account.{Account}
use Rattle.sn_laws.specs.declared.ideal.Device.{Device}
use Rattle.sn_laws.specs.declared.ideal.Ideal.{Ideal}
use Rattle.sn_passwd.proofs.Asking.{AsksDrawn, HasNew, IsRefused, IsSetFor, asks_drawn_goes}
use Rattle.sn_passwd.proofs.Begins.{IsPast}
use Rattle.sn_passwd.proofs.Exchanging.{exchanges_goes, exchanges_never}
use Rattle.sn_passwd.proofs.Pieces.{Known, NeverAnswers, PieceGoes, ends_here, known_turn, then_goes, then_never, with_moves}
use Rattle.sn_passwd.proofs.Points.{Brought, HasKeys, Unasked}
use Rattle.sn_passwd.proofs.Renewed.{HoldsBoth, IsRenewed, Since, is_renewed, since_first}
use Rattle.sn_passwd.proofs.Resolving.{HasAdopted, ResolvingLaws, resolves_goes, resolves_never}
use Rattle.sn_rows.specs.Table.{Rows}
use Rattle.sn_rows.specs.declared.device_rows.OwnerRow.{OwnerRow}
use Rattle.sn_rows.specs.declared.key.Key.TheVariants as key
use Rattle.sn_rows.specs.declared.key.Slot.TheVariants.{Asked}
use Rattle.sn_rows.specs.declared.value.Value.TheVariants as value
use Rattle.sn_sets.specs.declared.sets.Sets.{Sets}
use Rattle.sn_shows.proofs.Facts.{accounts_apart, holder_from}
use Rattle.sn_shows.specs.Laws.{HasAccount}
use Rattle.sn_string.specs.declared.params.KeySet.{KeySet}
use Rattle.sn_sync.specs.declared.request.Request.{Request}
use Rattle.sn_world.proofs.Facts.{RoundLaws, one_owner}
use Rattle.sn_world.specs.Calls.{call_steps, rows_served}
use Rattle.sn_world.specs.Holds.{TokensDiffer}
use Rattle.sn_world.specs.Laws.{AppliedWhole, IsOnlySet}
use Rattle.sn_world.specs.Plain.{AsksNoSet}
use Rattle.sn_world.specs.World.{World}

pub record CallLaws : Type 0 where
  pub resolving : ResolvingLaws
  pub whole : AppliedWhole
  pub rounds : RoundLaws

-- ---- a device and its server brought together

-- the device has these sets, and the one that is asked for alone has its account's parameters and check value
abbrev pub MayResolve : OwnerRow → Sets → Known
MayResolve owner sets v t p = HasSets p.rows owner sets × ((set : KeySet) → sets.asked ≡ Some set → IsOnlySet t set)

-- they are brought together, under the token of before or, where a set was asked for, under another
abbrev pub Together : Bytes → Option KeySet → Bytes → Known
Together name asked before v t p =
    (identifier : Bytes) × (token : Bytes) × (present : KeySet) × IsPast asked token before × Brought name identifier token present v t p

-- and so they are under whatever keys; and under the keys of a password
abbrev pub IsBrought : Bytes → Known
IsBrought name v t p = (identifier : Bytes) × (token : Bytes) × (present : KeySet) × Brought name identifier token present v t p

-- its account has more sets than it had in this state, and the device has retired the one before the last
abbrev pub AreRenewed : Ideal → Bytes → Ideal → Type 0
AreRenewed s name t = (d : Device) (a : Account) → HasAccount t name d a → IsRenewed s t name a

abbrev pub IsBroughtAnew : Ideal → Bytes → Bytes → ℕ → Known
IsBroughtAnew s name password cost v t p = (identifier : Bytes) × (token : Bytes) × (present : KeySet) × IsSetFor password cost present
    × Brought name identifier token present v t p × AreRenewed s name t

-- what a change of password begins with in this state
abbrev pub MayChange : Ideal → OwnerRow → Sets → Known
MayChange s owner sets v t p = MayResolve owner sets v t p × (t ≡ s)

pub syncs_never : (owner : OwnerRow) (sets : Sets) → NeverAnswers (SyncsUnder owner sets)
syncs_never owner sets p acts given left (inl (none, so)) = exchanges_never p acts given left so
syncs_never owner sets p acts given left (inr (set, asked, so)) =
    then_never (Resolves owner sets.present set) Exchanges (resolves_never owner sets.present set) exchanges_never p acts given left so

module _ (laws : CallLaws) (secret : Bytes) (differ : TokensDiffer secret) (name : Bytes) (begins : Request → Option KeySet) where
  -- behind exchanges, what follows from what they leave
  exchanged : (identifier token : Bytes) (present : KeySet) (Pre Post : Known)
      → ((v : World) (t : Ideal) (p : Point) → Pre v t p → Unasked identifier token present v t p)
      → ((v : World) (t : Ideal) (p : Point) → Brought name identifier token present v t p → Post v t p) → PieceGoes secret name begins Exchanges Pre Post
  exchanged identifier token present Pre Post from to v t server p acts fates turn k pre so over =
      known_turn secret v t name (call_steps name begins acts fates) (rows_served server fates) (rows_done p.rows acts)
      (Brought name identifier token present) Post turn to
      (exchanges_goes laws.whole laws.rounds laws.resolving.keeps laws.resolving.says secret differ name begins identifier token present v t server p acts fates
      turn k (from v t p pre) so over)

  module _ (owner : OwnerRow) (sets : Sets)
      (begins_old : (set : KeySet) → sets.asked ≡ Some set → begins (change_to owner sets.present set) ≡ Some set) where
    abbrev Left : Known
    Left = Together name sets.asked owner.token

    -- behind a set that was resolved
    behind_resolved : (set : KeySet) → sets.asked ≡ Some set → PieceGoes secret name begins Exchanges (HasAdopted owner set) Left
    behind_resolved set asked v t server p acts fates turn k pre so over =
        let past : IsPast sets.asked pre.owner.token owner.token =
        subst (λ (o : Option KeySet). IsPast o pre.owner.token owner.token) (sym asked) pre.other_token in
        let keys : HasKeys p.rows owner.identifier pre.owner.token set =
        record { owner = pre.owner; sets = pre.sets; holds = pre.holds; identifier_is = pre.same; token_is = refl; present_is = pre.present_is } in
        exchanged owner.identifier pre.owner.token set (Unasked owner.identifier pre.owner.token set) Left (λ x u q z. z)
        (λ x u q brought. (owner.identifier, pre.owner.token, set, past, brought)) v t server p acts fates turn k (pre.none_asked, keys) so over

    resolves_first : (set : KeySet) → sets.asked ≡ Some set
        → PieceGoes secret name begins (Resolves owner sets.present set) (MayResolve owner sets) (HasAdopted owner set)
    resolves_first set asked v t server p acts fates turn k (holds, only) so over =
        resolves_goes laws.resolving secret differ name begins owner sets.present set (begins_old set asked) v t server p acts fates turn k
        (record { sets = sets; holds = holds; present_is = refl; asked_is = asked; only = only set asked }) so over

    pub syncs_goes : PieceGoes secret name begins (SyncsUnder owner sets) (MayResolve owner sets) Left
    syncs_goes v t server p acts fates turn k (holds, only) (inl (none, so)) over =
        let unasked : AsksNoSet p.rows = subst (λ (o : Option KeySet). IsInSlot p.rows owner.identifier Asked o) none holds.wanted in
        let past : IsPast sets.asked owner.token owner.token = subst (λ (o : Option KeySet). IsPast o owner.token owner.token) (sym none) tt in
        let keys : HasKeys p.rows owner.identifier owner.token sets.present =
        record { owner = owner; sets = sets; holds = holds; identifier_is = refl; token_is = refl; present_is = refl } in
        exchanged owner.identifier owner.token sets.present (Unasked owner.identifier owner.token sets.present) Left (λ x u q z. z)
        (λ x u q brought. (owner.identifier, owner.token, sets.present, past, brought)) v t server p acts fates turn k (unasked, keys) so over
    syncs_goes v t server p acts fates turn k (holds, only) (inr (set, asked, so)) over =
        then_goes laws.resolving.keeps laws.resolving.says secret differ name begins (Resolves owner sets.present set) Exchanges (MayResolve owner sets)
        (HasAdopted owner set) Left (resolves_first set asked) (behind_resolved set asked) v t server p acts fates turn k (holds, only) so over

    -- ---- a change of password

    -- no new set is drawn
    pub refused_goes : (Post : Known) → PieceGoes secret name begins (Then (SyncsUnder owner sets) IsRefused) (MayResolve owner sets) Post
    refused_goes Post =
        then_goes laws.resolving.keeps laws.resolving.says secret differ name begins (SyncsUnder owner sets) IsRefused (MayResolve owner sets) Left Post
        syncs_goes
        (λ v t server p acts fates turn k pre ends over.
        ends_here laws.resolving.keeps laws.resolving.says secret differ name begins ends.0 Post v t server p acts fates turn k ends.1 over)

    module _ (s : Ideal) where
      abbrev LeftSince : Known
      LeftSince v t p = Left v t p × Since s name t

      syncs_since : PieceGoes secret name begins (SyncsUnder owner sets) (MayChange s owner sets) LeftSince
      syncs_since =
          with_moves laws.resolving.keeps laws.resolving.says secret differ name begins (SyncsUnder owner sets) (MayChange s owner sets) Left LeftSince
          (λ v t p x moves q h is pre legal there rows known.
          (let own = holder_from (v.devices name) t name key.Owner (value.Owner owner) (h.devices name)
          (subst (λ (r : Rows). HasOwner r owner) (sym is) pre.0.0.owned) in
          (known, since_first name s t moves own.0 own.1 pre.1 own.2 legal)))
          (λ v t server p acts fates turn k pre so over. syncs_goes v t server p acts fates turn k pre.0 so over)

      -- this one is
      module _ (password : Bytes) (cost : ℕ) (later : OwnerRow) (held : Sets) (set : KeySet) (left : ChaCha)
          (begins_new_set : IsPast sets.asked later.token owner.token → begins (change_to later held.present set) ≡ Some set)
          (keys : IsSetFor password cost set) where
        begins_then : (v : World) (t : Ideal) (p : Point) → LeftSince v t p → HasSets p.rows later held → begins (change_to later held.present set) ≡ Some set
        begins_then v t p ((identifier, token, present, past, brought), since) holds =
            let same : brought.keys.owner ≡ later = one_owner brought.keys.owner later (p.rows key.Owner) brought.keys.holds.owned holds.owned in
            let is : token ≡ later.token = sym brought.keys.token_is ∙ ap (λ (o : OwnerRow). o.token) same in
            begins_new_set (subst (λ (z : Bytes). IsPast sets.asked z owner.token) is past)

        drawn_goes : PieceGoes secret name begins (AsksDrawn password cost later held set left) LeftSince (HasNew s name later.identifier set)
        drawn_goes =
            asks_drawn_goes laws.resolving secret differ name begins s password cost later held set left LeftSince
            (λ v t p ((identifier, token, present, past, brought), since). (brought.alone, since)) begins_then

        exchanges_new : (identifier token : Bytes) → PieceGoes secret name begins Exchanges
            (λ v t p. Unasked identifier token set v t p × HoldsBoth s name t) (IsBroughtAnew s name password cost)
        exchanges_new identifier token =
            with_moves laws.resolving.keeps laws.resolving.says secret differ name begins Exchanges
            (λ v t p. Unasked identifier token set v t p × HoldsBoth s name t) (Brought name identifier token set) (IsBroughtAnew s name password cost)
            (λ v t p x moves q h is pre legal there rows brought. (
              identifier,
              token,
              set,
              keys,
              brought,
              λ d a has.
                  (let had : HasKeys (v.devices name) identifier token set =
                  subst (λ (r : Rows). HasKeys r identifier token set) (sym is) pre.0.1 in
                  let now : HasKeys (x.devices name) identifier token set =
                  subst (λ (r : Rows). HasKeys r identifier token set) (sym rows) brought.keys in
                  let own = holder_from (v.devices name) t name key.Owner (value.Owner had.owner) (h.devices name) had.holds.owned in
                  is_renewed accounts_apart secret differ name v x s t moves h there legal identifier token set had now pre.1 brought.alone own.0 own.1 own.2 d a
                  has),
            ))
            (λ v t server p acts fates turn k pre so over.
            exchanged identifier token set (Unasked identifier token set) (Brought name identifier token set) (λ x u q z. z) (λ x u q z. z) v t server p acts
            fates turn k pre.0 so over)

        behind_drawn : PieceGoes secret name begins Exchanges (HasNew s name later.identifier set) (IsBroughtAnew s name password cost)
        behind_drawn v t server p acts fates turn k (none, (token, has), both) so over =
            exchanges_new later.identifier token v t server p acts fates turn k ((none, has), both) so over

        pub changed_goes : PieceGoes secret name begins (Then (SyncsUnder owner sets) (Then (AsksDrawn password cost later held set left) Exchanges))
            (MayChange s owner sets) (IsBroughtAnew s name password cost)
        changed_goes =
            then_goes laws.resolving.keeps laws.resolving.says secret differ name begins (SyncsUnder owner sets)
            (Then (AsksDrawn password cost later held set left) Exchanges) (MayChange s owner sets) LeftSince (IsBroughtAnew s name password cost) syncs_since
            (then_goes laws.resolving.keeps laws.resolving.says secret differ name begins (AsksDrawn password cost later held set left) Exchanges LeftSince
            (HasNew s name later.identifier set) (IsBroughtAnew s name password cost) drawn_goes behind_drawn)

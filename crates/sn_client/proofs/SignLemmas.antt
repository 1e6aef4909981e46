-- How a sign-in goes on behind each of its exchanges.
use Rattle.std.specs.Prelude.{◌≡◌, ◌≢◌, ◌⊎◌, ◌++◌, ℕ, List, [], ◌∷◌, codes}
use Rattle.std.proofs.Common.{inl, inr, refl, sym, ap, subst, ◌∙◌}
use Rattle.rand_chacha.specs.ChaCha.{ChaCha}
use Rattle.sn_net.specs.Exchanges.{Exchange}
use Rattle.sn_keys.specs.Keys.{AreKeysOf}
use Rattle.sn_rows.specs.Table.{Rows}
use Rattle.sn_rows.specs.declared.change.Change.{Change}
use Rattle.sn_rows.specs.declared.device_rows.OwnerRow.{OwnerRow}
use Rattle.sn_sets.specs.declared.sets.Sets.{Sets}
use Rattle.sn_string.specs.declared.params.KeySet.{KeySet}
use Rattle.sn_string.specs.declared.params.Params.{Params}
use Rattle.sn_sync.specs.declared.answer.Answer.{Answer}
use Rattle.sn_sync.specs.declared.answer.Answer.TheVariants as answer
use Rattle.sn_sync.specs.declared.request.Request.{Request}
use Rattle.sn_sync.specs.declared.request.Request.TheVariants as request
use Rattle.sn_table.specs.Kept.{Kept}
use Rattle.sn_exchange.specs.Asked.{AsksOnce}
use Rattle.sn_device.specs.Asking.{said}
use Rattle.sn_client.specs.Going.{GoesOver, MayWant}
use Rattle.sn_client.specs.Calls.{CallsOver}
use Rattle.sn_device.specs.Runs.{Act, AsksAccount, AsksFirst, Given, Halt, IsOrMayBe, IsOtherOlder, Run, SignsInBy, SignsInUnder, SignsInWith, asked, refused, sign_in}
use Rattle.sn_joining.specs.Signing.{HasKeys, JoinsBy, RefusesKeys, RefusesParams, RefusesWith}
use Rattle.sn_client.specs.Signing.{MadeBySignIn}
use Rattle.sn_device.specs.Steps.{Adopts, BeginsDevice, Renews, adopts, begins, renews}
use Rattle.sn_device.specs.States.{Bytes, HasNoAccount, HasOwner, HasSets}
use Rattle.sn_client.specs.declared.called.Called.{Called}
use Rattle.sn_client.specs.declared.called.Called.TheVariants as called
use Rattle.sn_device.specs.declared.error.ClientError.{ClientError}
use Rattle.sn_device.specs.declared.error.ClientError.TheVariants as refusal
use Rattle.sn_device.specs.declared.error.Place.TheVariants as place
use Rattle.sn_joining.specs.declared.signing.Joining.TheVariants as joining
use Rattle.sn_client.proofs.AccountLemmas.{ends_behind}
use Rattle.sn_client.proofs.RegisterLemmas.{refused_call, refuses}

-- ---- why it is refused, and what is held

-- a device that begins has no account
pub joins_first : (rows : Rows) (set : KeySet) → JoinsBy rows set joining.Begins → HasNoAccount rows
joins_first rows set (inl (none, is)) = none
joins_first rows set (inr (owner, sets, has, never)) = absurd never

-- the keys are those of the present set
pub record HoldsKeys (rows : Rows) (set : KeySet) : Type 0 where
  pub owner : OwnerRow
  pub sets : Sets
  pub has : HasSets rows owner sets
  pub same : set ≡ sets.present

pub joins_again : (rows : Rows) (set : KeySet) → JoinsBy rows set joining.Renews → HoldsKeys rows set
joins_again rows set (inl (none, is)) = absurd cc
joins_again rows set (inr (owner, sets, has, same)) = record { owner = owner; sets = sets; has = has; same = same }

-- they are of no set that is held
pub record HoldsOthers (rows : Rows) (set : KeySet) : Type 0 where
  pub owner : OwnerRow
  pub sets : Sets
  pub has : HasSets rows owner sets
  pub apart : set.params ≢ sets.present.params
  pub other : ¬ (IsOtherOlder sets set)

pub joins_other : (rows : Rows) (set : KeySet) → JoinsBy rows set joining.Adopts → HoldsOthers rows set
joins_other rows set (inl (none, is)) = absurd cc
joins_other rows set (inr (owner, sets, has, (apart, other))) = record { owner = owner; sets = sets; has = has; apart = apart; other = other }

-- ---- whose keys they are

-- the keys are the account's that was asked for
pub keys_named : (least : ℕ) (identifier password : Bytes) (asks : List Exchange → Type 0) (host : Bytes) (set : KeySet) → HasKeys asks host least identifier password set
    → set.params.identifier ≡ identifier
keys_named least identifier password asks host set keys = ap (λ (p : Params). p.identifier) keys.keys.params ∙ keys.named

-- so a device that may have that account may have theirs
pub keys_may_be : (least : ℕ) (rows : Rows) (identifier password : Bytes) (asks : List Exchange → Type 0) (host : Bytes) (set : KeySet)
    → HasKeys asks host least identifier password set → IsOrMayBe rows identifier → IsOrMayBe rows set.params.identifier
keys_may_be least rows identifier password asks host set keys may =
    subst (λ (i : Bytes). IsOrMayBe rows i) (sym (keys_named least identifier password asks host set keys)) may

-- what is begun, renewed or adopted with the password's keys is of this sign-in
pub made_by : (least : ℕ) (rows : Rows) (words left : ChaCha) (identifier password : Bytes) (asks : List Exchange → Type 0) (host : Bytes) (set : KeySet)
    (changes : List Change) → HasKeys asks host least identifier password set
    → (uuid : Bytes) × (token : Bytes) × (BeginsDevice set uuid token changes ⊎ (Renews rows token changes ⊎ Adopts rows words set token changes left))
    → MadeBySignIn rows words identifier password changes left
made_by least rows words left identifier password asks host set changes keys (uuid, token, inl begun) = (
  uuid,
  token,
  inr (
    set,
    keys_named least identifier password asks host set keys,
    subst (λ (p : Params). AreKeysOf password p set) (sym keys.keys.params) keys.keys,
    inl begun,
  ),
)
made_by least rows words left identifier password asks host set changes keys (uuid, token, inr (inl renewed)) = (uuid, token, inl renewed)
made_by least rows words left identifier password asks host set changes keys (uuid, token, inr (inr adopted)) = (
  uuid,
  token,
  inr (
    set,
    keys_named least identifier password asks host set keys,
    subst (λ (p : Params). AreKeysOf password p set) (sym keys.keys.params) keys.keys,
    inr adopted,
  ),
)

-- ---- what a device makes of keys

-- why parameters are refused
refused_under : (least : ℕ) (rows : Rows) (words : ChaCha) (identifier password : Bytes) (params : Params) (why : ClientError)
    → RefusesParams least identifier params why → SignsInUnder least rows words identifier password params [] (refused why)
refused_under least rows words identifier password params why (inl (other, is)) =
    inl (other, (refl, refuses why (refusal.BadAnswer (place.Member (codes "identifier"))) is))
refused_under least rows words identifier password params why (inr (named, bad, is)) = inr (named, inl (bad, (refl, refuses why (refusal.Cost params.pw_cost) is)))

signs_by : (least : ℕ) (rows : Rows) (words : ChaCha) (identifier password : Bytes) (first : List Exchange → Type 0) (host : Bytes) (set : KeySet)
    (keys : HasKeys first host least identifier password set) (acts : List Act) (halt : Halt)
    → MayWant (SignsInWith rows words set.params.identifier set) acts halt
    → MayWant (SignsInBy least rows words identifier password (answer.Params keys.params)) acts halt
signs_by least rows words identifier password first host set keys acts halt (inl wants) = inl wants
signs_by least rows words identifier password first host set keys acts halt (inr signs) =
    let named : set.params.identifier ≡ identifier = keys_named least identifier password first host set keys in
    inr (
      keys.params,
      refl,
      inr (
        keys.named,
        inr (
          keys.taken,
          (
            set,
            keys.keys,
            subst (λ (i : Bytes). SignsInWith rows words i set acts halt) named signs,
          ),
        ),
      ),
    )

-- keys that are refused
pub signs_refused : (rows : Rows) (words : ChaCha) (identifier : Bytes) (set : KeySet) (why : ClientError) → RefusesWith rows set why
    → MayWant (SignsInWith rows words identifier set) [] (refused why)
signs_refused rows words identifier set why (inl memory) = inl (refl, refuses why refusal.Memory memory)
signs_refused rows words identifier set why (inr (owner, sets, has, (is, inl (same, other)))) =
    inr (inr (owner, sets, has, inl (same, other, (refl, refuses why refusal.WrongPassword is))))
signs_refused rows words identifier set why (inr (owner, sets, has, (is, inr (apart, older)))) =
    inr (inr (owner, sets, has, inr (inr (apart, inl (older, (refl, refuses why refusal.WrongPassword is))))))

-- a device without an account begins
pub signs_first : (rows : Rows) (words : ChaCha) (r : Request) (identifier : Bytes) (set : KeySet) (acts : List Act) (halt : Halt) → HasNoAccount rows
    → r ≡ request.SignIn identifier set.pw → MayWant (AsksAccount rows words r (begins set)) acts halt → MayWant (SignsInWith rows words identifier set) acts halt
signs_first rows words r identifier set acts halt none is (inl wants) = inl wants
signs_first rows words r identifier set acts halt none is (inr asks) =
    inr (inl (none, subst (λ (q : Request). AsksAccount rows words q (begins set) acts halt) is asks))

-- one with the keys renews its session token
pub signs_again : (rows : Rows) (words : ChaCha) (r : Request) (identifier : Bytes) (set : KeySet) (acts : List Act) (halt : Halt) → HoldsKeys rows set
    → r ≡ request.SignIn identifier set.pw → MayWant (AsksAccount rows words r (λ uuid token. renews token)) acts halt
    → MayWant (SignsInWith rows words identifier set) acts halt
signs_again rows words r identifier set acts halt held is (inl wants) = inl wants
signs_again rows words r identifier set acts halt held is (inr asks) =
    inr (inr (
      held.owner,
      held.sets,
      held.has,
      inr (inl (held.same, subst (λ (q : Request). AsksAccount rows words q (λ uuid token. renews token) acts halt) is asks)),
    ))

-- one with other keys adopts the set
pub signs_other : (rows : Rows) (words : ChaCha) (r : Request) (identifier : Bytes) (set : KeySet) (acts : List Act) (halt : Halt) → HoldsOthers rows set
    → r ≡ request.SignIn identifier set.pw → MayWant (AsksAccount rows words r (λ uuid token. adopts set token)) acts halt
    → MayWant (SignsInWith rows words identifier set) acts halt
signs_other rows words r identifier set acts halt held is (inl wants) = inl wants
signs_other rows words r identifier set acts halt held is (inr asks) =
    inr (inr (
      held.owner,
      held.sets,
      held.has,
      inr (inr (held.apart, inr (held.other, subst (λ (q : Request). AsksAccount rows words q (λ uuid token. adopts set token) acts halt) is asks))),
    ))

-- the refusal of a store with another account
pub other_refused : (least : ℕ) (identifier password : Bytes) (rows : Rows) (words : ChaCha) (why : ClientError) → (why ≡ refusal.Memory)
    ⊎ ((owner : OwnerRow) × HasOwner rows owner × (owner.identifier ≢ identifier) × (why ≡ refusal.OtherAccount owner.identifier))
    → Run least (sign_in identifier password) rows words [] (refused why)
other_refused least identifier password rows words why (inl memory) = inl (refl, refuses why refusal.Memory memory)
other_refused least identifier password rows words why (inr (owner, has, other, is)) =
    inr (inl (owner, has, other, (refl, refuses why (refusal.OtherAccount owner.identifier) is)))

module _ {S D T : Type 0} (is_open : S → Kept → Type 0) (may_have : D → Kept → List Change → Type 0) (gives : T → Given) (kept : Kept) where
  -- what runs so runs as this says
  pub goes_as : (run other : List Act → Halt → Type 0) (asks : List Exchange → Type 0) (host : Bytes) (left : ChaCha) (result : Called S D T)
      → ((acts : List Act) (halt : Halt) → run acts halt → other acts halt) → GoesOver is_open may_have gives run asks host kept left result
      → GoesOver is_open may_have gives other asks host kept left result
  goes_as run other asks host left result says goes = record {
    acts = goes.acts;
    halt = goes.halt;
    runs = says goes.acts goes.halt goes.runs;
    exchanges = goes.exchanges;
    are = goes.are;
    asked_so = goes.asked_so;
    ends = goes.ends;
  }

  -- what goes to a host goes to it by its other name
  pub goes_at : (run : List Act → Halt → Type 0) (asks : List Exchange → Type 0) (host other : Bytes) (left : ChaCha) (result : Called S D T) → other ≡ host
      → GoesOver is_open may_have gives run asks other kept left result → GoesOver is_open may_have gives run asks host kept left result
  goes_at run asks host other left result same goes = subst (λ (h : Bytes). GoesOver is_open may_have gives run asks h kept left result) same goes

  -- behind an answer it goes on
  pub goes_behind : (run : Answer → List Act → Halt → Type 0) (first later asks : List Exchange → Type 0) (host : Bytes) (r : Request) (given : Answer) (left : ChaCha)
      (result : Called S D T) → ((xs ys : List Exchange) → first xs → later ys → asks (xs ++ ys)) → AsksOnce first host r (said given)
      → GoesOver is_open may_have gives (MayWant (run given)) later host kept left result
      → GoesOver is_open may_have gives (AsksFirst r run) asks host kept left result
  goes_behind run first later asks host r given left result more once goes = record {
    acts = asked r (said given) ∷ goes.acts;
    halt = goes.halt;
    runs = (
      said given,
      goes.acts,
      refl,
      elim goes.runs [
        | inl wants ↦ inr (inl wants)
        | inr runs ↦ inr (inr (given, refl, runs))
      ],
    );
    exchanges = once.exchange ∷ goes.exchanges;
    are = (once.exchange, goes.exchanges, refl, once.is, goes.are);
    asked_so = more (once.exchange ∷ []) goes.exchanges once.asked goes.asked_so;
    ends = ends_behind is_open may_have gives kept r (said given) goes.acts goes.halt left result goes.ends;
  }

  -- ---- a sign-in

  -- it is refused for its answer about the parameters
  pub keys_refused : (least : ℕ) (identifier password : Bytes) (asks : List Exchange → Type 0) (host : Bytes) (words left : ChaCha) (device : S) (why : ClientError)
      → is_open device kept → IsOrMayBe kept.rows identifier → RefusesKeys asks host least identifier why
      → CallsOver is_open may_have gives least (sign_in identifier password) asks host kept words left (called.Refused device why)
  keys_refused least identifier password asks host words left device why opens may (inl (inl (none, is))) =
      let memory : why ≡ refusal.Memory = cc in
      refused_call is_open may_have gives kept least (sign_in identifier password) asks host words left device why opens none (inl (refl, refuses why refusal.Memory memory))
  keys_refused least identifier password asks host words left device why opens may (inl (inr (reply, once, comes))) = record {
    acts = asked (request.Params identifier) reply ∷ [];
    halt = refused why;
    runs = inr (inr (
      may,
      (
        reply,
        [],
        refl,
        elim comes [
          | inl fails ↦ inl (why, fails, (refl, refl))
          | inr memory ↦ inr (inl (refl, refuses why refusal.Memory memory))
        ],
      ),
    ));
    exchanges = once.exchange ∷ [];
    are = (once.exchange, [], refl, once.is, refl);
    asked_so = once.asked;
    ends = (refl, opens);
  }
  keys_refused least identifier password asks host words left device why opens may (inr (params, once, refuses_so)) = record {
    acts = asked (request.Params identifier) (said (answer.Params params)) ∷ [];
    halt = refused why;
    runs = inr (inr (
      may,
      (
        said (answer.Params params),
        [],
        refl,
        inr (inr (
          answer.Params params,
          refl,
          (params, refl, refused_under least kept.rows words identifier password params why refuses_so),
        )),
      ),
    ));
    exchanges = once.exchange ∷ [];
    are = (once.exchange, [], refl, once.is, refl);
    asked_so = once.asked;
    ends = (refl, opens);
  }

  -- it goes on with the keys
  pub goes_sign_in : (least : ℕ) (identifier password : Bytes) (first later asks : List Exchange → Type 0) (host : Bytes) (words left : ChaCha) (set : KeySet)
      (result : Called S D T) → IsOrMayBe kept.rows identifier → ((xs ys : List Exchange) → first xs → later ys → asks (xs ++ ys))
      → HasKeys first host least identifier password set
      → GoesOver is_open may_have gives (MayWant (SignsInWith kept.rows words set.params.identifier set)) later host kept left result
      → CallsOver is_open may_have gives least (sign_in identifier password) asks host kept words left result
  goes_sign_in least identifier password first later asks host words left set result may more keys goes =
      let under = goes_as (MayWant (SignsInWith kept.rows words set.params.identifier set)) (MayWant (SignsInBy least kept.rows words identifier password (answer.Params keys.params)))
      later host left result (λ acts halt. signs_by least kept.rows words identifier password first host set keys acts halt) goes in
      let all = goes_behind (SignsInBy least kept.rows words identifier password) first later asks host (request.Params identifier) (answer.Params keys.params) left result more keys.once under in
      record { acts = all.acts; halt = all.halt; runs = inr (inr (may, all.runs)); exchanges = all.exchanges; are = all.are; asked_so = all.asked_so; ends = all.ends }

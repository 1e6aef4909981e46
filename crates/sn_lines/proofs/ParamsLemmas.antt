-- Parameters of an account's set are in the state, and stay in it along moves.
use Rattle.std.proofs.Common.{◌≡◌, ℕ, zero, suc, List, [], ◌∷◌, ◌++◌, length, Bool, true, false, Option, Some, None, refl, sym, subst, inl, inr}
use Rattle.std.proofs.lemmas.Option.{none-some, same_Some}
use Rattle.std.specs.Prelude.{if◌then◌else◌, slice_get}
use Rattle.sn_laws.proofs.Facts.{end_from-append, one_front}
use Rattle.sn_laws.specs.Each.{One}
use Rattle.sn_laws.specs.Lookups.{Bytes, account_of, account_with, draft_at, is_account, last_of}
use Rattle.sn_laws.specs.Moves.{accepted, after, again as sealed_again, changed_where, rewrapped, version_of}
use Rattle.sn_laws.specs.Runs.{end_from}
use Rattle.sn_laws.specs.declared.ideal.Account.{Account}
use Rattle.sn_laws.specs.declared.ideal.Draft.{Draft}
use Rattle.sn_laws.specs.declared.ideal.Ideal.{Ideal}
use Rattle.sn_laws.specs.declared.moves.Move.{Move}
use Rattle.sn_laws.specs.declared.moves.Move.TheVariants.{Accept, Change as Changed, Register, Rewrap}
use Rattle.sn_lines.specs.Passwords.{AreApart, IsParamsIn, ParamsStay}
use Rattle.sn_shows.specs.Servers.{account_at}
use Rattle.sn_shows.specs.Sets.{set_at}
use Rattle.sn_string.specs.declared.params.KeySet.{KeySet}
use Rattle.sn_string.specs.declared.params.Params.{Params}

-- ---- of a set that an account has

one_got : {A : Type 0} (P : A → Type 0) (xs : List A) (place : ℕ) (x : A) → slice_get xs place ≡ Some x → P x → One P xs
one_got P [] place x at has = absurd (none-some x at)
one_got P (y ∷ ys) zero x at has = inl (subst P (sym (same_Some y x at)) has)
one_got P (y ∷ ys) (suc place) x at has = inr (one_got P ys place x at has)

pub params_at : (s : Ideal) (n number : ℕ) (a : Account) (set : KeySet) → account_at n s.accounts ≡ Some a → set_at number a.sets ≡ Some set
    → IsParamsIn s set.params
params_at s zero number a set at_account at_set = absurd (none-some a at_account)
params_at s (suc n) zero a set at_account at_set = absurd (none-some set at_set)
params_at s (suc n) (suc number) a set at_account at_set =
    one_got (λ (b : Account). One (λ (x : KeySet). x.params ≡ set.params) b.sets) s.accounts n a at_account
    (one_got (λ (x : KeySet). x.params ≡ set.params) a.sets number set at_set refl)

-- ---- along moves

module _ (p : Params) where
  abbrev HasParams : Account → Type 0
  HasParams a = One (λ (set : KeySet). set.params ≡ p) a.sets

  -- some accounts change, and none loses them
  params_changed : (q : Account → Bool) (f : Account → Account) → ((a : Account) → HasParams a → HasParams (f a)) → (accounts : List Account)
      → One HasParams accounts → One HasParams (changed_where q f accounts)
  params_changed q f so [] h = absurd h
  params_changed q f so (a ∷ accounts) (inl here) = inl (at (q a))
    where
      at : (b : Bool) → HasParams (if b then f a else a)
      at true = so a here
      at false = here
  params_changed q f so (a ∷ accounts) (inr later) = inr (params_changed q f so accounts later)

  params_accepted : (accounts : List Account) (a : Option Account) (d : Option Draft) (stamp : ℕ) → One HasParams accounts
      → One HasParams (accepted accounts a d stamp)
  params_accepted accounts None d stamp h = h
  params_accepted accounts (Some a) None stamp h = h
  params_accepted accounts (Some a) (Some d) stamp h =
      params_changed (is_account a.identifier) (λ (b : Account). record b { versions = b.versions ++ version_of stamp (length a.sets) d ∷ [] })
      (λ b has. has) accounts h

  params_rewrapped : (accounts : List Account) (a : Option Account) (uuid : Bytes) (stamp : ℕ) → One HasParams accounts
      → One HasParams (rewrapped accounts a uuid stamp)
  params_rewrapped accounts None uuid stamp h = h
  params_rewrapped accounts (Some a) uuid stamp h =
      params_changed (is_account a.identifier)
      (λ (b : Account). record b { versions = b.versions ++ sealed_again stamp (length a.sets) (last_of uuid a.versions) }) (λ b has. has) accounts h

  params_after : (s : Ideal) (m : Move) → IsParamsIn s p → IsParamsIn (after s m) p
  params_after s (Register identifier set) h = one_front HasParams s.accounts (record { identifier = identifier; sets = set ∷ []; versions = [] } ∷ []) h
  params_after s (Changed identifier number set) h =
      params_changed (is_account identifier) (λ (a : Account). record a { sets = a.sets ++ set ∷ [] })
      (λ a has. one_front (λ (x : KeySet). x.params ≡ p) a.sets (set ∷ []) has) s.accounts h
  params_after s (Accept device uuid stamp under) h = params_accepted s.accounts (account_of s device) (draft_at s device uuid) stamp h
  params_after s (Rewrap uuid stamp under) h = params_rewrapped s.accounts (account_with s.accounts uuid) uuid stamp h
  params_after s m h = h

pub params_stay : ParamsStay
params_stay s [] p h = h
params_stay s (m ∷ moves) p h = params_stay (after s m) moves p (params_after p s m h)

-- so passwords that are apart behind more moves are so before these
pub apart_before : (known : Bytes → Type 0) (s : Ideal) (before later : List Move) → AreApart known (IsParamsIn (end_from s (before ++ later)))
    → AreApart known (IsParamsIn (end_from s before))
apart_before known s before later apart one other p a b is_one is_other used =
    let there : IsParamsIn (end_from s (before ++ later)) p =
    subst (λ (t : Ideal). IsParamsIn t p) (sym (end_from-append s before later)) (params_stay (end_from s before) later p used) in
    apart one other p a b is_one is_other there

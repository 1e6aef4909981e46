-- Which sets are held by devices, move by move.
use Rattle.std.proofs.Common.{◌≡◌, ◌≢◌, ◌⊎◌, ◌≤◌, ℕ, List, [], ◌∷◌, ◌++◌, length, Option, Some, None, Bool, true, false, refl, sym, ap, ◌∙◌, subst, inl, inr, ⊎_elim, arith}
use Rattle.std.specs.Prelude.{IsTrue, ◌==◌, cond, find, if◌then◌else◌, map, not}
use Rattle.std.specs.Option.{option_map}
use Rattle.std.specs.Str.{bytes_eq}
use Rattle.sn_changed.proofs.Facts.{apart_texts}
use Rattle.sn_laws.proofs.Facts.{Gains, accept_gains, allowed_from, device_after, device_joined, each_changed, each_more, each_weaker, found_passes, identifiers_differ, last_other, last_own, more, one_account, one_front, one_there, retired, rewrap_gains, same_number, same_text, sealed_again}
use Rattle.sn_laws.specs.Each.{Each, One}
use Rattle.sn_laws.specs.Lookups.{Bytes, account_for, account_of, account_with, device_named, draft_at, greatest, held_by, is_account, is_device, last_of}
use Rattle.sn_laws.specs.Moves.{after, allows, version_of, without}
use Rattle.sn_laws.specs.Reached.{AllDiffer, DevicesHold, HoldsSets, IsOneOrTwo, NumbersHeld}
use Rattle.sn_laws.specs.Relation.{IsUnder, MayAccept, MayRetire, MayRewrap}
use Rattle.sn_laws.specs.Runs.{LegalFrom, end_from}
use Rattle.sn_laws.specs.declared.ideal.Account.{Account}
use Rattle.sn_laws.specs.declared.ideal.Device.{Device}
use Rattle.sn_laws.specs.declared.ideal.Draft.{Draft}
use Rattle.sn_laws.specs.declared.ideal.Ideal.{Ideal}
use Rattle.sn_laws.specs.declared.ideal.Posted.{Posted}
use Rattle.sn_laws.specs.declared.ideal.Version.{Version}
use Rattle.sn_laws.specs.declared.moves.Move.{Move}
use Rattle.sn_laws.specs.declared.moves.Move.TheVariants.{Accept, Change, Join, Register, Retire, Rewrap}
use Rattle.sn_shows.proofs.Facts.{greatest_of_one, greatest_of_two}
use Rattle.sn_world.proofs.Steps.{reached_more}
use Rattle.sn_world.specs.Holds.{Reached}

-- a device of the account of this identifier holds the set of this number
pub record IsHeld (s : Ideal) (identifier : Bytes) (number : ℕ) : Type 0 where
  pub name : Bytes
  pub device : Device
  pub named : device_named s name ≡ Some device
  pub own : device.account ≡ identifier
  pub holds : One (λ m. m ≡ number) device.held

-- so is each set that a live last version of the account carries
abbrev pub LastsHeld : Ideal → Account → Type 0
LastsHeld s a = (uuid : Bytes) (v : Version) (k : ℕ) → last_of uuid a.versions ≡ Some v → IsUnder k v.body → IsHeld s a.identifier k

abbrev pub AllHeld : Ideal → Type 0
AllHeld s = Each (LastsHeld s) s.accounts

-- where a version is sealed again, the last set of its account is held
abbrev pub SealsHeld : Ideal → Move → Type 0
SealsHeld s (Rewrap uuid stamp under) = (a : Account) → account_with s.accounts uuid ≡ Some a → IsHeld s a.identifier (length a.sets)
SealsHeld s m = Unit {0}

abbrev pub SealHeld : Ideal → List Move → Type 0
SealHeld s [] = Unit {0}
SealHeld s (m ∷ ms) = SealsHeld s m × SealHeld (after s m) ms

-- ---- states that legal moves lead to

differ : (s : Ideal) → Reached s → AllDiffer (map (λ (a : Account). a.identifier) s.accounts)
differ s r = subst (λ (t : Ideal). AllDiffer (map (λ (a : Account). a.identifier) t.accounts)) (sym r.is) (identifiers_differ r.moves r.legal)

-- ---- devices

same_devices : (s t : Ideal) (identifier : Bytes) (number : ℕ) → t.devices ≡ s.devices → IsHeld s identifier number → IsHeld t identifier number
same_devices s t identifier number e h = record {
  name = h.name;
  device = h.device;
  named = ap (λ (ds : List Device). find (is_device h.name) ds) e ∙ h.named;
  own = h.own;
  holds = h.holds;
}

lasts_same : (s t : Ideal) → t.devices ≡ s.devices → (accounts : List Account) → Each (LastsHeld s) accounts → Each (LastsHeld t) accounts
lasts_same s t e accounts h =
    each_weaker (LastsHeld s) (LastsHeld t) (λ a k uuid v n last under. same_devices s t a.identifier n e (k uuid v n last under)) accounts h

-- a device that comes to hold one set more holds those that it held
join_held : (s : Ideal) (name other : Bytes) (joined : ℕ) (identifier : Bytes) (number : ℕ) → IsHeld s identifier number
    → IsHeld (after s (Join name other joined)) identifier number
join_held s name other joined identifier number h = at (bytes_eq name h.name) refl
  where
    found : device_named (after s (Join name other joined)) h.name
        ≡ (if bytes_eq name h.name then Some (device_joined name other joined (device_named s name)) else device_named s h.name)
    found = device_after s (Join name other joined) h.name

    choose : (b : Bool) → bytes_eq name h.name ≡ b → device_named (after s (Join name other joined)) h.name
        ≡ (if b then Some (device_joined name other joined (device_named s name)) else device_named s h.name)
    choose b e = found ∙ ap (λ (q : Bool). if q then Some (device_joined name other joined (device_named s name)) else device_named s h.name) e

    at : (b : Bool) → bytes_eq name h.name ≡ b → IsHeld (after s (Join name other joined)) identifier number
    at true e = record {
      name = h.name;
      device = device_joined name other joined (Some h.device);
      named = choose true e
          ∙ ap (λ (o : Option Device). Some (device_joined name other joined o)) (ap (device_named s) (same_text name h.name e) ∙ h.named);
      own = h.own;
      holds = one_front (λ m. m ≡ number) h.device.held (joined ∷ []) h.holds;
    }
    at false e = record { name = h.name; device = h.device; named = choose false e ∙ h.named; own = h.own; holds = h.holds }

-- one that holds a set less holds each other one
still_one : (number retired : ℕ) (held : List ℕ) → number ≢ retired → One (λ m. m ≡ number) held → One (λ m. m ≡ number) (without (λ m. m == retired) held)
still_one number retired [] off h = absurd h
still_one number retired (m ∷ ms) off h = at (λ e. still_one number retired ms off e) (m == retired) refl h
  where
    at : (One (λ k. k ≡ number) ms → One (λ k. k ≡ number) (without (λ k. k == retired) ms)) → (b : Bool) → (m == retired) ≡ b
        → (m ≡ number) ⊎ One (λ k. k ≡ number) ms
        → One (λ k. k ≡ number) (cond (not b) (m ∷ without (λ k. k == retired) ms) (without (λ k. k == retired) ms))
    at rest true e one = ⊎_elim (λ (is : m ≡ number). absurd (off (sym is ∙ same_number m retired e))) rest one
    at rest false e one = ⊎_elim (λ (is : m ≡ number). inl is) (λ more. inr (rest more)) one

retire_held : (s : Ideal) (name : Bytes) (out : ℕ) (identifier : Bytes) (number : ℕ) (h : IsHeld s identifier number) → (h.name ≡ name → number ≢ out)
    → IsHeld (after s (Retire name out)) identifier number
retire_held s name out identifier number h off = at (bytes_eq name h.name) refl
  where
    found : device_named (after s (Retire name out)) h.name
        ≡ (if bytes_eq name h.name then option_map (retired out) (device_named s h.name) else device_named s h.name)
    found = device_after s (Retire name out) h.name

    choose : (b : Bool) → bytes_eq name h.name ≡ b → device_named (after s (Retire name out)) h.name
        ≡ (if b then option_map (retired out) (device_named s h.name) else device_named s h.name)
    choose b e = found ∙ ap (λ (q : Bool). if q then option_map (retired out) (device_named s h.name) else device_named s h.name) e

    at : (b : Bool) → bytes_eq name h.name ≡ b → IsHeld (after s (Retire name out)) identifier number
    at true e = record {
      name = h.name;
      device = retired out h.device;
      named = choose true e ∙ ap (option_map (retired out)) h.named;
      own = h.own;
      holds = still_one number out h.device.held (off (sym (same_text name h.name e))) h.holds;
    }
    at false e = record { name = h.name; device = h.device; named = choose false e ∙ h.named; own = h.own; holds = h.holds }

-- the set that ends is carried by no last version of the device's account
module _ (s : Ideal) (name : Bytes) (out : ℕ) (may : MayRetire s name out) (apart : AllDiffer (map (λ (a : Account). a.identifier) s.accounts)) (a : Account)
    (there : One (λ (x : Account). x ≡ a) s.accounts) (h : LastsHeld s a) where
  -- a device of this name that is the account's is that one
  own_account : (d : Device) → device_named s name ≡ Some d → d.account ≡ a.identifier → may.account ≡ a
  own_account d named own =
      let found = found_passes (is_account d.account) s.accounts may.account
      (ap (account_for s.accounts) (sym named) ∙ may.has) in
      one_account s may.account a apart found.1 there (same_text may.account.identifier d.account found.0 ∙ own)

  retire_lasts : LastsHeld (after s (Retire name out)) a
  retire_lasts uuid v k last under =
      let held : IsHeld s a.identifier k = h uuid v k last under in
      retire_held s name out a.identifier k held
      (λ same is.
      let own : may.account ≡ a = own_account held.device (subst (λ (n : Bytes). device_named s n ≡ Some held.device) same held.named) held.own in
      may.unused uuid v (subst (λ (x : Account). last_of uuid x.versions ≡ Some v) (sym own) last) (subst (λ (n : ℕ). IsUnder n v.body) is under))

each_among : (P Q : Account → Type 0) (xs : List Account) → Each P xs → ((x : Account) → One (λ (y : Account). y ≡ x) xs → P x → Q x) → Each Q xs
each_among P Q [] h f = tt
each_among P Q (x ∷ xs) h f = (f x (inl refl) h.0, each_among P Q xs h.1 (λ y e. f y (inr e)))

-- ---- versions

-- an account gets a version under a set that is held
module _ (s t : Ideal) (uuid : Bytes) (a : Account) (w : Version) (same : t.devices ≡ s.devices) (g : Gains s uuid a w t.accounts)
    (held : IsHeld s a.identifier (length a.sets)) where
  new_last : (x : Account) → is_account a.identifier x ≡ true → LastsHeld t x → LastsHeld t (more w x)
  new_last x its h other v k last under = by (apart_texts w.uuid other)
    where
      by : (w.uuid ≡ other) ⊎ (w.uuid ≢ other) → IsHeld t x.identifier k
      by (inl e) =
          let is : w ≡ v = let whole : Some w ≡ Some v = sym (last_own other x.versions w e) ∙ last in cc in
          let number : length a.sets ≡ k = g.under k (subst (λ (y : Version). IsUnder k y.body) (sym is) under) in
          same_devices s t x.identifier k same
          (subst (λ (i : Bytes). IsHeld s i k) (sym (same_text x.identifier a.identifier its)) (subst (λ (n : ℕ). IsHeld s a.identifier n) number held))
      by (inr off) = h other v k (sym (last_other other x.versions w off) ∙ last) under

  gains_held : AllHeld s → AllHeld t
  gains_held h =
      subst (λ (xs : List Account). Each (LastsHeld t) xs) (sym g.next_is)
      (each_changed (LastsHeld t) (is_account a.identifier) (more w) s.accounts (lasts_same s t same s.accounts h) (λ x there its k. new_last x its k))

-- ---- what is accepted was sent under its account's last set, which its device holds

pub greatest_held : (n : ℕ) (held : List ℕ) → IsOneOrTwo n held → n ≤ greatest 0 held → One (λ m. m ≡ n) held
greatest_held n [] h le = absurd h
greatest_held n (g ∷ []) h le = let is : greatest 0 (g ∷ []) ≡ g = greatest_of_one g in inl (omega (arith, h.1, le, is))
greatest_held n (o ∷ g ∷ []) h le = let is : greatest 0 (o ∷ g ∷ []) ≡ g = greatest_of_two o g h.1 in inr (inl (omega (arith, h.2, le, is)))
greatest_held n (o ∷ g ∷ m ∷ rest) h le = absurd h

-- a device that has sent something under its account's last set holds it
last_held : (s : Ideal) (name : Bytes) (a : Account) (found : Option Device) → device_named s name ≡ found → account_for s.accounts found ≡ Some a
    → ((d : Device) → found ≡ Some d → HoldsSets (account_for s.accounts found) d) → length a.sets ≤ greatest 0 (held_by found)
    → IsHeld s a.identifier (length a.sets)
last_held s name a None e has hold le = absurd (cc)
last_held s name a (Some d) e has hold le =
    let its : HoldsSets (account_for s.accounts (Some d)) d = hold d refl in
    let is : its.account ≡ a = one_there its.account a (account_for s.accounts (Some d)) its.has has in
    record {
      name = name;
      device = d;
      named = e;
      own = sym (same_text a.identifier d.account (found_passes (is_account d.account) s.accounts a has).0);
      holds = greatest_held (length a.sets) d.held (subst (λ (x : Account). IsOneOrTwo (length x.sets) d.held) is its.held) le;
    }

-- a device holds one set of its account or two
pub hold_at : DevicesHold → (s : Ideal) → Reached s → (name : Bytes) (d : Device) → device_named s name ≡ Some d → HoldsSets (account_of s name) d
hold_at hold s r =
    subst (λ (t : Ideal). (name : Bytes) (d : Device) → device_named t name ≡ Some d → HoldsSets (account_of t name) d) (sym r.is)
    (λ name d e. hold r.moves name d r.legal e)

module _ (hold : DevicesHold) (numbers : NumbersHeld) where
  number_at : (s : Ideal) → Reached s → (name uuid : Bytes) (d : Draft) (p : Posted) (k : ℕ) → draft_at s name uuid ≡ Some d → d.posted ≡ Some p
      → p.set ≡ Some k → k ≤ greatest 0 (held_by (device_named s name))
  number_at s r =
      subst (λ (t : Ideal). (name uuid : Bytes) (d : Draft) (p : Posted) (k : ℕ) → draft_at t name uuid ≡ Some d → d.posted ≡ Some p → p.set ≡ Some k
      → k ≤ greatest 0 (held_by (device_named t name))) (sym r.is) (λ name uuid d p k at sent set. numbers r.moves name uuid d p k r.legal at sent set)

  accept_held : (s : Ideal) (name uuid : Bytes) (stamp : ℕ) (under : Option ℕ) → Reached s → (may : MayAccept s name uuid stamp under)
      → IsHeld s may.account.identifier (length may.account.sets)
  accept_held s name uuid stamp under r may =
      last_held s name may.account (device_named s name) refl may.is.has (hold_at hold s r name)
      (number_at s r name uuid may.draft may.posted (length may.account.sets) may.is.at may.sent may.last_set)

  -- ---- each move

  pub held_step : (s : Ideal) (m : Move) → Reached s → IsTrue (allows s m) → SealsHeld s m → AllHeld s → AllHeld (after s m)
  held_step s (Register identifier set) r may seal h =
      each_more (LastsHeld (after s (Register identifier set))) s.accounts (record { identifier = identifier; sets = set ∷ []; versions = [] })
      (lasts_same s (after s (Register identifier set)) refl s.accounts h) (λ uuid v k last under. absurd (cc))
  held_step s (Join name identifier number) r may seal h =
      each_weaker (LastsHeld s) (LastsHeld (after s (Join name identifier number)))
      (λ a k uuid v n last under. join_held s name identifier number a.identifier n (k uuid v n last under)) s.accounts h
  held_step s (Accept name uuid stamp under) r may seal h =
      let is : MayAccept s name uuid stamp under = allowed_from s (Accept name uuid stamp under) may in
      gains_held s (after s (Accept name uuid stamp under)) uuid is.account (version_of stamp (length is.account.sets) is.draft) refl
      (accept_gains s name uuid stamp under is) (accept_held s name uuid stamp under r is) h
  held_step s (Rewrap uuid stamp under) r may seal h =
      let is : MayRewrap s uuid stamp under = allowed_from s (Rewrap uuid stamp under) may in
      gains_held s (after s (Rewrap uuid stamp under)) uuid is.account (sealed_again stamp (length is.account.sets) is.version) refl
      (rewrap_gains s uuid stamp under is) (seal is.account is.has) h
  held_step s (Change identifier number set) r may seal h =
      each_changed (LastsHeld (after s (Change identifier number set))) (is_account identifier) (λ (a : Account). record a { sets = a.sets ++ set ∷ [] })
      s.accounts (lasts_same s (after s (Change identifier number set)) refl s.accounts h) (λ _ _ _ k. k)
  held_step s (Retire name number) r may seal h =
      let is : MayRetire s name number = allowed_from s (Retire name number) may in
      each_among (LastsHeld s) (LastsHeld (after s (Retire name number))) s.accounts h
      (λ a there k. retire_lasts s name number is (differ s r) a there k)
  held_step s m r may seal h = lasts_same s (after s m) refl s.accounts h

  -- and all of a list
  pub held_along : (moves : List Move) (s : Ideal) → Reached s → LegalFrom s moves → SealHeld s moves → AllHeld s → AllHeld (end_from s moves)
  held_along [] s r legal seal h = h
  held_along (m ∷ ms) s r legal seal h =
      held_along ms (after s m) (reached_more s m r legal.0) legal.1 seal.1 (held_step s m r legal.0 seal.0 h)

-- What an allowed move does to the accounts: nothing, or an account begins, or one gets a version or a set.
use Rattle.std.proofs.Common.{◌≡◌, ◌≢◌, ◌⊎◌, ℕ, List, [], ◌∷◌, ◌++◌, length, Option, Some, None, refl, sym, ap, ◌∙◌, subst, inl, inr}
use Rattle.std.specs.Prelude.{Bool, IsTrue, find, if◌then◌else◌}
use Rattle.std.specs.Str.{bytes_eq}
use Rattle.std.proofs.lemmas.Bool.{and_parts}
use Rattle.sn_laws.specs.declared.ideal.Content.{Content}
use Rattle.sn_laws.specs.declared.ideal.Content.TheVariants.{Plain, Deleted}
use Rattle.sn_laws.specs.declared.ideal.Body.{Body}
use Rattle.sn_laws.specs.declared.ideal.Body.TheVariants.{Under, Gone}
use Rattle.sn_laws.specs.declared.ideal.Version.{Version}
use Rattle.sn_laws.specs.declared.ideal.Account.{Account}
use Rattle.sn_laws.specs.declared.ideal.Draft.{Draft}
use Rattle.sn_laws.specs.declared.ideal.Device.{Device}
use Rattle.sn_laws.specs.declared.ideal.Ideal.{Ideal}
use Rattle.sn_laws.specs.declared.moves.Move.{Move}
use Rattle.sn_laws.specs.declared.moves.Move.TheVariants.{Register, Accept, Rewrap, Change}
use Rattle.sn_string.specs.declared.params.KeySet.{KeySet}
use Rattle.sn_laws.specs.Each.{Each, One}
use Rattle.sn_laws.specs.Lookups.{Bytes, account_for, account_named, account_of, account_with, device_named, draft_at, has_item, is_account, is_draft, last_of}
use Rattle.sn_laws.specs.Moves.{accepted, after, again, allows, body_under, changed_where, resealed, rewrapped, sent_content, version_of}
use Rattle.sn_laws.specs.Reached.{HasItem}
use Rattle.sn_laws.specs.Relation.{IsNewStamp, IsOnLast, IsUnder, MayAccept, MayChange, MayRewrap}
use Rattle.sn_laws.proofs.ChangedLemmas.{each_one, find_changed, none_one}
use Rattle.sn_laws.proofs.EachLemmas.{found_passes, same_text, text_same}
use Rattle.sn_laws.proofs.LastLemmas.{last_among, last_item}
use Rattle.sn_laws.proofs.RelatedLemmas.{allowed_from}

-- an account with one version more, and with one set more

abbrev pub more : Version → Account → Account
more w b = record b { versions = b.versions ++ w ∷ [] }

abbrev pub more_sets : KeySet → Account → Account
more_sets set b = record b { sets = b.sets ++ set ∷ [] }

-- no account has the item
abbrev pub IsFree : Ideal → Bytes → Type 0
IsFree s uuid = Each (λ (b : Account). Each (λ (v : Version). v.uuid ≢ uuid) b.versions) s.accounts

pub record Begins (s : Ideal) (next : List Account) : Type 0 where
  pub identifier : Bytes
  pub set : KeySet
  pub fresh : Each (λ (a : Account). a.identifier ≢ identifier) s.accounts
  pub next_is : next ≡ s.accounts ++ record { identifier = identifier; sets = set ∷ []; versions = [] } ∷ []

-- an account gets a version of the item: under its last set, where no other account has the item
pub record Gains (s : Ideal) (uuid : Bytes) (account : Account) (version : Version) (next : List Account) : Type 0 where
  pub among : One (λ (x : Account). x ≡ account) s.accounts
  pub item : version.uuid ≡ uuid
  pub new : IsNewStamp s version.stamp
  pub under : (k : ℕ) → IsUnder k version.body → length account.sets ≡ k
  pub owned : IsFree s uuid ⊎ HasItem uuid account
  pub next_is : next ≡ changed_where (is_account account.identifier) (more version) s.accounts

-- an account gets a set
pub record Changes (s : Ideal) (identifier : Bytes) (number : ℕ) (set : KeySet) (next : List Account) : Type 0 where
  pub may : MayChange s identifier number set
  pub next_is : next ≡ changed_where (is_account identifier) (more_sets set) s.accounts

pub data Grows (s : Ideal) (next : List Account) : Type 0 where
  stays : next ≡ s.accounts → Grows s next
  begins : Begins s next → Grows s next
  gains : (uuid : Bytes) (account : Account) (version : Version) → Gains s uuid account version next → Grows s next
  changes : (identifier : Bytes) (number : ℕ) (set : KeySet) → Changes s identifier number set next → Grows s next

-- an item that no account has is in none of them
pub free_has : (s : Ideal) (uuid : Bytes) (a : Account) → IsFree s uuid → One (λ (x : Account). x ≡ a) s.accounts → HasItem uuid a → ⊥
free_has s uuid a free one has =
    none_one (λ (v : Version). v.uuid ≡ uuid) a.versions
    (each_one (λ (b : Account). Each (λ (v : Version). v.uuid ≢ uuid) b.versions) s.accounts a free one) has

-- where the account that gets a version is the one of its identifier, it is found with that version
pub gained_named : (s : Ideal) (uuid : Bytes) (a : Account) (w : Version) (next : List Account) → Gains s uuid a w next
    → account_named s a.identifier ≡ Some a → find (is_account a.identifier) next ≡ Some (more w a)
gained_named s uuid a w next g named =
    let is : Account → Bool = is_account a.identifier in
    ap (find is) g.next_is ∙ find_changed is is (more w) (λ x. refl) s.accounts a named
    ∙ ap (λ b. Some (if b then more w a else a)) (text_same a.identifier a.identifier refl)

-- a device's account is one of the accounts, and goes by its identifier

account_among : (s : Ideal) (d : Option Device) (a : Account) → account_for s.accounts d ≡ Some a → One (λ (x : Account). x ≡ a) s.accounts
account_among s None a h = absurd (cc)
account_among s (Some d) a h = (found_passes (is_account d.account) s.accounts a h).1

pub among : (s : Ideal) (device : Bytes) (a : Account) → account_of s device ≡ Some a → One (λ (x : Account). x ≡ a) s.accounts
among s device a h = account_among s (device_named s device) a h

account_named_for : (s : Ideal) (d : Option Device) (a : Account) → account_for s.accounts d ≡ Some a → account_named s a.identifier ≡ Some a
account_named_for s None a h = absurd (cc)
account_named_for s (Some d) a h =
    let found = found_passes (is_account d.account) s.accounts a h in
    subst (λ name. account_named s name ≡ Some a) (sym (same_text a.identifier d.account found.0)) h

pub named_so : (s : Ideal) (device : Bytes) (a : Account) → account_of s device ≡ Some a → account_named s a.identifier ≡ Some a
named_so s device a h = account_named_for s (device_named s device) a h

pub draft_uuid : (s : Ideal) (device uuid : Bytes) (d : Draft) → draft_at s device uuid ≡ Some d → d.uuid ≡ uuid
draft_uuid s device uuid d h =
    let found = found_passes (is_draft device uuid) s.drafts d h in
    same_text d.uuid uuid (and_parts (bytes_eq d.device device) (bytes_eq d.uuid uuid) found.0).1

-- what each kind of move gives

under_sent : (c : Content) (n k : ℕ) → IsUnder k (body_under c n) → n ≡ k
under_sent (Plain text) n k h = h
under_sent Deleted n k h = absurd h

under_resealed : (b : Body) (n k : ℕ) → IsUnder k (resealed n b) → n ≡ k
under_resealed (Under text set) n k h = h
under_resealed Gone n k h = absurd h

owned_on : (s : Ideal) (a : Account) (uuid : Bytes) (base : Option ℕ) → IsOnLast s a uuid base → IsFree s uuid ⊎ HasItem uuid a
owned_on s a uuid None h = inl h
owned_on s a uuid (Some stamp) h = inr (last_item uuid a.versions h.0 h.1)

pub accept_gains : (s : Ideal) (device uuid : Bytes) (stamp : ℕ) (under : Option ℕ) (may : MayAccept s device uuid stamp under)
    → Gains s uuid may.account (version_of stamp (length may.account.sets) may.draft) (after s (Accept device uuid stamp under)).accounts
accept_gains s device uuid stamp under may =
    record {
      among = among s device may.account may.is.has;
      item = draft_uuid s device uuid may.draft may.is.at;
      new = may.new;
      under = λ k. under_sent (sent_content may.draft.latest may.draft.posted) (length may.account.sets) k;
      owned = owned_on s may.account uuid may.draft.base may.on_last;
      next_is = ap (λ a. accepted s.accounts a (draft_at s device uuid) stamp) may.is.has
          ∙ ap (λ d. accepted s.accounts (Some may.account) d stamp) may.is.at;
    }

-- the version that a rewrap makes
abbrev pub sealed_again : ℕ → ℕ → Version → Version
sealed_again stamp n v = record v { stamp = stamp; body = resealed n v.body }

rewrapped_is : (s : Ideal) (uuid : Bytes) (stamp : ℕ) (a : Account) (v : Version) → account_with s.accounts uuid ≡ Some a
    → last_of uuid a.versions ≡ Some v
    → rewrapped s.accounts (account_with s.accounts uuid) uuid stamp ≡ changed_where (is_account a.identifier) (more (sealed_again stamp (length a.sets) v)) s.accounts
rewrapped_is s uuid stamp a v has last =
    ap (λ found. rewrapped s.accounts found uuid stamp) has
    ∙ ap (λ found. changed_where (is_account a.identifier) (λ b. record b { versions = b.versions ++ again stamp (length a.sets) found }) s.accounts) last

pub rewrap_gains : (s : Ideal) (uuid : Bytes) (stamp under : ℕ) (may : MayRewrap s uuid stamp under)
    → Gains s uuid may.account (sealed_again stamp (length may.account.sets) may.version) (after s (Rewrap uuid stamp under)).accounts
rewrap_gains s uuid stamp under may =
    record {
      among = (found_passes (has_item uuid) s.accounts may.account may.has).1;
      item = (last_among uuid may.account.versions may.version may.last).1;
      new = may.new;
      under = λ k. under_resealed may.version.body (length may.account.sets) k;
      owned = inr (last_item uuid may.account.versions may.version may.last);
      next_is = rewrapped_is s uuid stamp may.account may.version may.has may.last;
    }

pub grows : (s : Ideal) (m : Move) → IsTrue (allows s m) → Grows s (after s m).accounts
grows s (Register identifier set) h =
    begins (record { identifier = identifier; set = set; fresh = allowed_from s (Register identifier set) h; next_is = refl })
grows s (Accept device uuid stamp under) h =
    let may : MayAccept s device uuid stamp under = allowed_from s (Accept device uuid stamp under) h in
    gains uuid may.account (version_of stamp (length may.account.sets) may.draft) (accept_gains s device uuid stamp under may)
grows s (Rewrap uuid stamp under) h =
    let may : MayRewrap s uuid stamp under = allowed_from s (Rewrap uuid stamp under) h in
    gains uuid may.account (sealed_again stamp (length may.account.sets) may.version) (rewrap_gains s uuid stamp under may)
grows s (Change identifier number set) h =
    changes identifier number set (record { may = allowed_from s (Change identifier number set) h; next_is = refl })
grows s m h = stays refl

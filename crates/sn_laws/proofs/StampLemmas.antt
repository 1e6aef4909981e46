-- Stamps rise, over all accounts and in each.
use Rattle.std.proofs.Common.{◌≡◌, ◌<◌, ℕ, List, [], ◌∷◌, ◌++◌, length, true, refl, sym, ap, ◌∙◌, subst, ⊎_elim}
use Rattle.std.specs.Prelude.{IsTrue, if◌then◌else◌, map}
use Rattle.sn_laws.specs.declared.ideal.Version.{Version}
use Rattle.sn_laws.specs.declared.ideal.Account.{Account}
use Rattle.sn_laws.specs.declared.ideal.Ideal.{Ideal}
use Rattle.sn_laws.specs.declared.moves.Move.{Move}
use Rattle.sn_laws.specs.declared.moves.Move.TheVariants.{Accept, Rewrap}
use Rattle.sn_laws.specs.Each.{Each, One}
use Rattle.sn_laws.specs.Laws.{Rises, stamps_of}
use Rattle.sn_laws.specs.Lookups.{Bytes, empty, is_account}
use Rattle.sn_laws.specs.Moves.{after, allows, changed_where, version_of}
use Rattle.sn_laws.specs.Relation.{MayAccept, MayRewrap}
use Rattle.sn_laws.specs.Runs.{Legal, LegalFrom, end}
use Rattle.sn_laws.proofs.AccountLemmas.{Gains, Grows, accept_gains, begins, changes, gains, grows, more, more_sets, rewrap_gains, sealed_again, stays}
use Rattle.sn_laws.proofs.ChangedLemmas.{each_changed, each_more, each_one, each_unchanged, each_weaker, map_more}
use Rattle.sn_laws.proofs.EachLemmas.{each_back, each_front, text_same}
use Rattle.sn_laws.proofs.RelatedLemmas.{allowed_from}
use Rattle.sn_laws.proofs.RunLemmas.{reached}

-- all versions of all accounts are below the stamp

abbrev AllBelow : ℕ → Account → Type 0
AllBelow t a = Each (λ (v : Version). v.stamp < t) a.versions

abbrev Below : ℕ → List Account → Type 0
Below t accounts = Each (AllBelow t) accounts

-- what is below afterwards was below before
below_before : (t : ℕ) (s : Ideal) (next : List Account) → Grows s next → Below t next → Below t s.accounts
below_before t s next (stays e) h = subst (Below t) e h
below_before t s next (begins b) h =
    each_front (AllBelow t) s.accounts (record { identifier = b.identifier; sets = b.set ∷ []; versions = [] } ∷ []) (subst (Below t) b.next_is h)
below_before t s next (gains uuid a w g) h =
    each_unchanged (AllBelow t) (is_account a.identifier) (more w)
    (λ x k. each_front (λ (v : Version). v.stamp < t) x.versions (w ∷ []) k) s.accounts (subst (Below t) g.next_is h)
below_before t s next (changes identifier number set c) h =
    each_unchanged (AllBelow t) (is_account identifier) (more_sets set) (λ x k. k) s.accounts (subst (Below t) c.next_is h)

-- what is below afterwards is above the stamp of the version that is made
gained : (t : ℕ) (w : Version) (name : Bytes) (xs : List Account) (a : Account) → One (λ (x : Account). x ≡ a) xs → a.identifier ≡ name
    → Below t (changed_where (is_account name) (more w) xs) → w.stamp < t
gained t w name [] a among named h = absurd among
gained t w name (x ∷ xs) a among named h = ⊎_elim first (λ rest. gained t w name xs a rest named h.1) among
  where
    first : x ≡ a → w.stamp < t
    first e =
        let is : is_account name x ≡ true = text_same x.identifier name (ap (λ (b : Account). b.identifier) e ∙ named) in
        let all : AllBelow t (more w x) = subst (λ b. AllBelow t (if b then more w x else x)) is h.0 in
        (each_back (λ (v : Version). v.stamp < t) x.versions (w ∷ []) all).0

made_below : (t : ℕ) (s : Ideal) (uuid : Bytes) (a : Account) (w : Version) (next : List Account) → Gains s uuid a w next → Below t next → w.stamp < t
made_below t s uuid a w next g h = gained t w a.identifier s.accounts a g.among refl (subst (Below t) g.next_is h)

-- the stamps to come are above all that are there

later_above : (s : Ideal) (m : Move) (ts : List ℕ) → IsTrue (allows s m) → Each (λ t. Below t (after s m).accounts) ts
    → Each (λ t. Below t s.accounts) ts
later_above s m ts may h =
    each_weaker (λ t. Below t (after s m).accounts) (λ t. Below t s.accounts)
    (λ t. below_before t s (after s m).accounts (grows s m may)) ts h

above : (s : Ideal) (ms : List Move) → LegalFrom s ms → Each (λ t. Below t s.accounts) (stamps_of ms)
above s [] h = tt
above s (Accept device uuid stamp under ∷ ms) h =
    let m : Move = Accept device uuid stamp under in
    ((allowed_from s m h.0).new.above, later_above s m (stamps_of ms) h.0 (above (after s m) ms h.1))
above s (Rewrap uuid stamp under ∷ ms) h =
    let m : Move = Rewrap uuid stamp under in
    ((allowed_from s m h.0).new.above, later_above s m (stamps_of ms) h.0 (above (after s m) ms h.1))
above s (m ∷ ms) h = later_above s m (stamps_of ms) h.0 (above (after s m) ms h.1)

made_above : (s : Ideal) (uuid : Bytes) (a : Account) (w : Version) (next : List Account) (ts : List ℕ) → Gains s uuid a w next
    → Each (λ t. Below t next) ts → Each (λ t. w.stamp < t) ts
made_above s uuid a w next ts g h = each_weaker (λ t. Below t next) (λ t. w.stamp < t) (λ t. made_below t s uuid a w next g) ts h

pub rises : (s : Ideal) (ms : List Move) → LegalFrom s ms → Rises (stamps_of ms)
rises s [] h = tt
rises s (Accept device uuid stamp under ∷ ms) h =
    let m : Move = Accept device uuid stamp under in
    let may : MayAccept s device uuid stamp under = allowed_from s m h.0 in (
      made_above s uuid may.account (version_of stamp (length may.account.sets) may.draft) (after s m).accounts (stamps_of ms)
          (accept_gains s device uuid stamp under may) (above (after s m) ms h.1),
      rises (after s m) ms h.1,
    )
rises s (Rewrap uuid stamp under ∷ ms) h =
    let m : Move = Rewrap uuid stamp under in
    let may : MayRewrap s uuid stamp under = allowed_from s m h.0 in (
      made_above s uuid may.account (sealed_again stamp (length may.account.sets) may.version) (after s m).accounts (stamps_of ms)
          (rewrap_gains s uuid stamp under may) (above (after s m) ms h.1),
      rises (after s m) ms h.1,
    )
rises s (m ∷ ms) h = rises (after s m) ms h.1

-- each account's versions rise

abbrev Ordered : Account → Type 0
Ordered a = Rises (map (λ (v : Version). v.stamp) a.versions)

ordered_more : (vs : List Version) (w : Version) → Rises (map (λ (v : Version). v.stamp) vs) → Each (λ (v : Version). v.stamp < w.stamp) vs
    → Rises (map (λ (v : Version). v.stamp) (vs ++ w ∷ []))
ordered_more [] w h k = (tt, tt)
ordered_more (v ∷ vs) w h k = (
  subst (λ ns. Each (λ m. v.stamp < m) ns) (sym (map_more (λ (x : Version). x.stamp) vs w))
      (each_more (λ m. v.stamp < m) (map (λ (x : Version). x.stamp) vs) w.stamp h.0 k.0),
  ordered_more vs w h.1 k.1,
)

ordered_kept : (s : Ideal) (next : List Account) → Grows s next → Each Ordered s.accounts → Each Ordered next
ordered_kept s next (stays e) h = subst (Each Ordered) (sym e) h
ordered_kept s next (begins b) h =
    subst (Each Ordered) (sym b.next_is)
    (each_more Ordered s.accounts (record { identifier = b.identifier; sets = b.set ∷ []; versions = [] }) h tt)
ordered_kept s next (gains uuid a w g) h =
    subst (Each Ordered) (sym g.next_is)
    (each_changed Ordered (is_account a.identifier) (more w) s.accounts h
    (λ x there is k. ordered_more x.versions w k (each_one (AllBelow w.stamp) s.accounts x g.new.above there)))
ordered_kept s next (changes identifier number set c) h =
    subst (Each Ordered) (sym c.next_is) (each_changed Ordered (is_account identifier) (more_sets set) s.accounts h (λ x there is k. k))

pub ordered : (ms : List Move) → Legal ms → Each Ordered (end ms).accounts
ordered ms legal = reached (λ (s : Ideal). Each Ordered s.accounts) (λ s m h. ordered_kept s (after s m).accounts (grows s m h)) empty ms legal tt

-- An item is in one account.
use Rattle.std.proofs.Common.{◌≡◌, ◌⊎◌, List, [], ◌∷◌, ◌++◌, Bool, true, refl, sym, ap, ◌∙◌, subst, inl, inr, ⊎_elim}
use Rattle.sn_laws.specs.declared.ideal.Version.{Version}
use Rattle.sn_laws.specs.declared.ideal.Account.{Account}
use Rattle.sn_laws.specs.declared.ideal.Ideal.{Ideal}
use Rattle.sn_laws.specs.declared.moves.Move.{Move}
use Rattle.sn_string.specs.declared.params.KeySet.{KeySet}
use Rattle.sn_laws.specs.Each.{One}
use Rattle.sn_laws.specs.Lookups.{Bytes, empty, is_account}
use Rattle.sn_laws.specs.Moves.{after, changed_where}
use Rattle.sn_laws.specs.Reached.{HasItem}
use Rattle.sn_laws.specs.Runs.{Legal, end}
use Rattle.sn_laws.proofs.AccountLemmas.{Gains, Grows, begins, changes, free_has, gains, grows, more, more_sets, stays}
use Rattle.sn_laws.proofs.ChangedLemmas.{one_changed, one_last, one_split}
use Rattle.sn_laws.proofs.EachLemmas.{same_text}
use Rattle.sn_laws.proofs.IdentifierLemmas.{identifiers_differ, one_account}
use Rattle.sn_laws.proofs.RunLemmas.{reached}

abbrev OwnsOne : List Account → Type 0
OwnsOne xs = (uuid : Bytes) (a b : Account) → One (λ (x : Account). x ≡ a) xs → One (λ (x : Account). x ≡ b) xs
    → HasItem uuid a → HasItem uuid b → a.identifier ≡ b.identifier

-- the account was there, and had the item, or gets its first version of it
record Was (s : Ideal) (uuid : Bytes) (First : Account → Type 0) (x : Account) : Type 0 where
  was : Account
  there : One (λ (y : Account). y ≡ was) s.accounts
  named : x.identifier ≡ was.identifier
  item : HasItem uuid was ⊎ First was

-- nothing is new
abbrev Never : Account → Type 0
Never a = ⊥

owns_still : (s : Ideal) (next : List Account) → OwnsOne s.accounts
    → ((uuid : Bytes) (x : Account) → One (λ (y : Account). y ≡ x) next → HasItem uuid x → Was s uuid Never x) → OwnsOne next
owns_still s next h was uuid a b one other has too =
    let first : Was s uuid Never a = was uuid a one has in
    let second : Was s uuid Never b = was uuid b other too in
    first.named
    ∙ h uuid first.was second.was first.there second.there (⊎_elim (λ e. e) (λ e. absurd e) first.item) (⊎_elim (λ e. e) (λ e. absurd e) second.item)
    ∙ sym second.named

-- where an account begins, and where one gets a set

was_there : (s : Ideal) (uuid : Bytes) (new x : Account) → new.versions ≡ [] → One (λ (y : Account). y ≡ x) (s.accounts ++ new ∷ [])
    → HasItem uuid x → Was s uuid Never x
was_there s uuid new x none one has =
    ⊎_elim (λ e. record { was = x; there = e; named = refl; item = inl has })
    (λ e. absurd (nothing (one_last (λ (y : Account). y ≡ x) new e))) (one_split (λ (y : Account). y ≡ x) s.accounts (new ∷ []) one)
  where
    nothing : new ≡ x → ⊥
    nothing e = subst (λ vs. One (λ (v : Version). v.uuid ≡ uuid) vs) none (subst (HasItem uuid) (sym e) has)

was_changed : (s : Ideal) (q : Account → Bool) (set : KeySet) (uuid : Bytes) (x : Account)
    → One (λ (y : Account). y ≡ x) (changed_where q (more_sets set) s.accounts) → HasItem uuid x → Was s uuid Never x
was_changed s q set uuid x one has =
    let found = one_changed q (more_sets set) s.accounts x one in
    ⊎_elim (λ e. record { was = found.0; there = found.1; named = ap (λ (y : Account). y.identifier) e; item = inl (subst (HasItem uuid) e has) })
    (λ e. record { was = found.0; there = found.1; named = ap (λ (y : Account). y.identifier) e.1; item = inl (subst (HasItem uuid) e.1 has) })
    found.2

-- where an account gets a version

abbrev Gets : Bytes → Account → Version → Account → Type 0
Gets uuid a w b = (w.uuid ≡ uuid) × (b.identifier ≡ a.identifier)

was_gained : (s : Ideal) (a : Account) (w : Version) (uuid : Bytes) (x : Account)
    → One (λ (y : Account). y ≡ x) (changed_where (is_account a.identifier) (more w) s.accounts) → HasItem uuid x → Was s uuid (Gets uuid a w) x
was_gained s a w uuid x one has =
    let found = one_changed (is_account a.identifier) (more w) s.accounts x one in
    ⊎_elim (λ e. record { was = found.0; there = found.1; named = ap (λ (y : Account). y.identifier) e; item = inl (subst (HasItem uuid) e has) })
    (λ e. record {
      was = found.0;
      there = found.1;
      named = ap (λ (y : Account). y.identifier) e.1;
      item = had found.0 e.0 (subst (HasItem uuid) e.1 has);
    })
    found.2
  where
    had : (y : Account) → is_account a.identifier y ≡ true → HasItem uuid (more w y) → HasItem uuid y ⊎ Gets uuid a w y
    had y is e =
        ⊎_elim (λ f. inl f) (λ f. inr (one_last (λ (v : Version). v.uuid ≡ uuid) w f, same_text y.identifier a.identifier is))
        (one_split (λ (v : Version). v.uuid ≡ uuid) y.versions (w ∷ []) e)

-- an account that had the item is the one that gets a version of it
had_before : (s : Ideal) (item uuid : Bytes) (a : Account) (w : Version) (next : List Account) → Gains s item a w next → OwnsOne s.accounts
    → (b : Account) → One (λ (x : Account). x ≡ b) s.accounts → HasItem uuid b → w.uuid ≡ uuid → b.identifier ≡ a.identifier
had_before s item uuid a w next g h b there has is =
    let same : uuid ≡ item = sym is ∙ g.item in
    let it : HasItem item b = subst (λ u. HasItem u b) same has in
    ⊎_elim (λ free. absurd (free_has s item b free there it)) (λ e. h item b a there g.among it e) g.owned

owns_gained : (s : Ideal) (item uuid : Bytes) (a : Account) (w : Version) (next : List Account) → Gains s item a w next → OwnsOne s.accounts
    → (x y : Account) → Was s uuid (Gets uuid a w) x → Was s uuid (Gets uuid a w) y → x.identifier ≡ y.identifier
owns_gained s item uuid a w next g h x y first second = first.named ∙ both first.item second.item ∙ sym second.named
  where
    both : HasItem uuid first.was ⊎ Gets uuid a w first.was → HasItem uuid second.was ⊎ Gets uuid a w second.was
        → first.was.identifier ≡ second.was.identifier
    both (inl e) (inl k) = h uuid first.was second.was first.there second.there e k
    both (inl e) (inr k) = had_before s item uuid a w next g h first.was first.there e k.0 ∙ sym k.1
    both (inr e) (inl k) = e.1 ∙ sym (had_before s item uuid a w next g h second.was second.there k e.0)
    both (inr e) (inr k) = e.1 ∙ sym k.1

owns_kept : (s : Ideal) (next : List Account) → Grows s next → OwnsOne s.accounts → OwnsOne next
owns_kept s next (stays e) h = subst OwnsOne (sym e) h
owns_kept s next (begins b) h =
    let new : Account = record { identifier = b.identifier; sets = b.set ∷ []; versions = [] } in
    subst OwnsOne (sym b.next_is)
    (owns_still s (s.accounts ++ new ∷ []) h (λ uuid x one has. was_there s uuid new x refl one has))
owns_kept s next (gains item a w g) h =
    subst OwnsOne (sym g.next_is)
    (λ uuid x y one other has too. owns_gained s item uuid a w next g h x y (was_gained s a w uuid x one has) (was_gained s a w uuid y other too))
owns_kept s next (changes identifier number set c) h =
    subst OwnsOne (sym c.next_is)
    (owns_still s (changed_where (is_account identifier) (more_sets set) s.accounts) h
    (λ uuid x one has. was_changed s (is_account identifier) set uuid x one has))

pub one_owner : (ms : List Move) (uuid : Bytes) (a b : Account) → Legal ms → One (λ (x : Account). x ≡ a) (end ms).accounts
    → One (λ (x : Account). x ≡ b) (end ms).accounts → HasItem uuid a → HasItem uuid b → a.identifier ≡ b.identifier
one_owner ms uuid a b legal one other has too =
    reached (λ (s : Ideal). OwnsOne s.accounts) (λ s m h. owns_kept s (after s m).accounts (grows s m h)) empty ms legal
    (λ u x y nothing also e k. absurd nothing) uuid a b one other has too

-- two accounts that have one item are the same
pub same_account : (ms : List Move) (uuid : Bytes) (a b : Account) → Legal ms → One (λ (x : Account). x ≡ a) (end ms).accounts
    → One (λ (x : Account). x ≡ b) (end ms).accounts → HasItem uuid a → HasItem uuid b → a ≡ b
same_account ms uuid a b legal one other has too =
    one_account (end ms) a b (identifiers_differ ms legal) one other (one_owner ms uuid a b legal one other has too)

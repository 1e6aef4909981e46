-- What is sent becomes one version at most.
use Rattle.std.proofs.Common.{◌≡◌, ◌<◌, ◌≤◌, ◌⊎◌, ℕ, List, [], ◌∷◌, ◌++◌, length, Option, Some, None, Bool, true, refl, sym, ap, ◌∙◌, subst, inl, inr, ⊎_elim, arith}
use Rattle.std.specs.Prelude.{IsTrue, ◌&&◌, find, reverse}
use Rattle.std.specs.List.{list_any}
use Rattle.std.specs.Option.{option_map, option_or}
use Rattle.std.proofs.lemmas.Bool.{and_parts}
use Rattle.std.proofs.lemmas.List.{reverse-append}
use Rattle.std.proofs.lemmas.List.Folds.{find-append}
use Rattle.sn_laws.specs.declared.ideal.Account.{Account}
use Rattle.sn_laws.specs.declared.ideal.Content.{Content}
use Rattle.sn_laws.specs.declared.ideal.Device.{Device}
use Rattle.sn_laws.specs.declared.ideal.Draft.{Draft}
use Rattle.sn_laws.specs.declared.ideal.Ideal.{Ideal}
use Rattle.sn_laws.specs.declared.ideal.Posted.{Posted}
use Rattle.sn_laws.specs.declared.ideal.Version.{Version}
use Rattle.sn_laws.specs.declared.moves.Move.{Move}
use Rattle.sn_laws.specs.declared.moves.Move.TheVariants.{Accept, Post}
use Rattle.sn_laws.specs.Each.{Each, One}
use Rattle.sn_laws.specs.Lookups.{Bytes, account_for, account_of, device_named, draft_at, empty, has_item, is_account, is_draft, is_of, last_of}
use Rattle.sn_laws.specs.Moves.{accepted, after, allows, changed_where, is_new_stamp, is_on_last, is_said, is_sent_under, may_accept, number_is, sent_content, version_of, without_number}
use Rattle.sn_laws.specs.Reached.{PostedOnce}
use Rattle.sn_laws.specs.Runs.{LegalFrom, end, end_from}
use Rattle.sn_laws.proofs.AccountFrames.{Below, Stays, new_above, own_account_stays}
use Rattle.sn_laws.proofs.AccountLemmas.{among}
use Rattle.sn_laws.proofs.ChangedLemmas.{each_one}
use Rattle.sn_laws.proofs.DraftFrames.{draft_edited, draft_is}
use Rattle.sn_laws.proofs.DraftOrigins.{DraftFrom, as_was, by_edit, by_fork, by_post, by_rename, by_settle, by_unpost, draft_from}
use Rattle.sn_laws.proofs.EachLemmas.{clash, found_passes, not_false, one_to, same_number, same_text, text_same}
use Rattle.sn_laws.proofs.FindLemmas.{found_changed}
use Rattle.sn_laws.proofs.LastLemmas.{last_among, last_own}
use Rattle.sn_laws.proofs.RelatedLemmas.{one_there}
use Rattle.sn_laws.proofs.RunLemmas.{end_from-append, legal_after, legal_before}

-- sent, under the set of a number
abbrev IsNumbered : Option Posted → Type 0
IsNumbered None = ⊥
IsNumbered (Some p) = (k : ℕ) × (p.set ≡ Some k)

-- the item's last version in the account is above the base
record Beyond (found : Option Account) (uuid : Bytes) (base : Option ℕ) : Type 0 where
  account : Account
  has : found ≡ Some account
  version : Version
  last : last_of uuid account.versions ≡ Some version
  above : (b : ℕ) → base ≡ Some b → b < version.stamp

-- what was sent of the draft can't be accepted any more
abbrev IsPassed : Option Account → Bytes → Option Draft → Type 0
IsPassed a uuid None = Unit {0}
IsPassed a uuid (Some d) = IsNumbered d.posted → Beyond a uuid d.base

-- the last version after others, each above all that were there

record LastAbove (v : Version) (last : Option Version) : Type 0 where
  version : Version
  last_is : last ≡ Some version
  above : v.stamp ≤ version.stamp

last_later : (uuid : Bytes) (vs ws : List Version) (v : Version) → last_of uuid vs ≡ Some v → Each (λ (w : Version). Below w.stamp vs) ws
    → LastAbove v (last_of uuid (vs ++ ws))
last_later uuid vs ws v h above =
    subst (LastAbove v) (sym (ap (find (is_of uuid)) (reverse-append vs ws) ∙ find-append (is_of uuid) (reverse ws) (reverse vs))) (at (last_of uuid ws) refl)
  where
    at : (found : Option Version) → last_of uuid ws ≡ found → LastAbove v (option_or found (last_of uuid vs))
    at None e = record { version = v; last_is = h; above = omega arith }
    at (Some w) e =
        let later : Below w.stamp vs = each_one (λ (x : Version). Below x.stamp vs) ws w above (last_among uuid ws w e).0 in
        let less : v.stamp < w.stamp = each_one (λ (x : Version). x.stamp < w.stamp) vs v later (last_among uuid vs v h).0 in
        record { version = w; last_is = refl; above = omega (arith, less) }

beyond_still : (s : Ideal) (m : Move) (device uuid : Bytes) (base : Option ℕ) → IsTrue (allows s m) → Beyond (account_of s device) uuid base
    → Beyond (account_of (after s m) device) uuid base
beyond_still s m device uuid base may h =
    let there : Stays h.account (account_of (after s m) device) = own_account_stays s m device h.account may h.has in
    let last : LastAbove h.version (last_of uuid there.now_is.versions) =
    subst (λ vs. LastAbove h.version (last_of uuid vs)) (sym there.grown.versions_are)
    (last_later uuid h.account.versions there.grown.versions h.version h.last there.grown.above) in
    record {
      account = there.now_is;
      has = there.found_is;
      version = last.version;
      last = last.last_is;
      above = λ b e. omega (arith, h.above b e, last.above);
    }

-- one move: it is the post, or what was sent stays passed

unnumbered : (posted : Option Posted) → IsNumbered (without_number posted) → ⊥
unnumbered None h = h
unnumbered (Some p) h = let none : None ≡ Some h.0 = h.1 in cc

edit_passed : (a : Option Account) (device uuid kind : Bytes) (base : Option ℕ) (latest : Content) (found : Option Draft) → IsPassed a uuid found
    → IsPassed a uuid (Some (draft_edited device uuid kind base latest found))
edit_passed a device uuid kind base latest None h = λ e. absurd e
edit_passed a device uuid kind base latest (Some d) h = h

passed_from : (s : Ideal) (m : Move) (device uuid : Bytes) (d : Draft) → IsPassed (account_of s device) uuid (draft_at s device uuid)
    → DraftFrom s m device uuid d → (m ≡ Post device uuid) ⊎ IsPassed (account_of s device) uuid (Some d)
passed_from s m device uuid d h (as_was e) = inr (subst (IsPassed (account_of s device) uuid) e h)
passed_from s m device uuid d h (by_edit kind base latest e is) =
    inr (subst (λ x. IsPassed (account_of s device) uuid (Some x)) (sym is)
    (edit_passed (account_of s device) device uuid kind base latest (draft_at s device uuid) h))
passed_from s m device uuid d h (by_post was at e is) = inl e
passed_from s m device uuid d h (by_unpost was at e is) =
    inr (subst (λ x. IsPassed (account_of s device) uuid (Some x)) (sym is) (λ k. absurd (unnumbered was.posted k)))
passed_from s m device uuid d h (by_settle stamp was at e is) =
    inr (subst (λ x. IsPassed (account_of s device) uuid (Some x)) (sym is) (λ k. absurd k))
passed_from s m device uuid d h (by_fork item was at e is) =
    inr (subst (λ x. IsPassed (account_of s device) uuid (Some x)) (sym is) (λ k. absurd k))
passed_from s m device uuid d h (by_rename item was at e is) =
    inr (subst (λ x. IsPassed (account_of s device) uuid (Some x)) (sym is) (λ k. absurd k))

passed_step : (s : Ideal) (m : Move) (device uuid : Bytes) → IsTrue (allows s m) → IsPassed (account_of s device) uuid (draft_at s device uuid)
    → (m ≡ Post device uuid) ⊎ IsPassed (account_of (after s m) device) uuid (draft_at (after s m) device uuid)
passed_step s m device uuid may h = at (draft_at (after s m) device uuid) refl
  where
    at : (found : Option Draft) → draft_at (after s m) device uuid ≡ found → (m ≡ Post device uuid) ⊎ IsPassed (account_of (after s m) device) uuid found
    at None e = inr tt
    at (Some d) e =
        ⊎_elim (λ k. inl k) (λ k. inr (λ numbered. beyond_still s m device uuid d.base may (k numbered)))
        (passed_from s m device uuid d h (draft_from s m device uuid d may e))

passed_all : (s : Ideal) (ms : List Move) (device uuid : Bytes) → LegalFrom s ms → IsPassed (account_of s device) uuid (draft_at s device uuid)
    → One (λ m. m ≡ Post device uuid) ms ⊎ IsPassed (account_of (end_from s ms) device) uuid (draft_at (end_from s ms) device uuid)
passed_all s [] device uuid legal h = inr h
passed_all s (m ∷ ms) device uuid legal h =
    ⊎_elim (λ e. inl (inl e))
    (λ k. ⊎_elim (λ e. inl (inr e)) (λ rest. inr rest) (passed_all (after s m) ms device uuid legal.1 k))
    (passed_step s m device uuid legal.0 h)

-- what an allowed accept says

record Accepts (s : Ideal) (device uuid : Bytes) (stamp : ℕ) : Type 0 where
  account : Account
  has : account_of s device ≡ Some account
  draft : Draft
  at : draft_at s device uuid ≡ Some draft
  numbered : IsNumbered draft.posted
  on_last : is_on_last s.accounts uuid draft.base (last_of uuid account.versions) ≡ true
  new : is_new_stamp s.accounts stamp ≡ true

numbered_from : (n : ℕ) (posted : Option Posted) → is_sent_under n posted ≡ true → IsNumbered posted
numbered_from n None h = absurd (cc)
numbered_from n (Some p) h = at p.set refl h
  where
    at : (set : Option ℕ) → p.set ≡ set → number_is n set ≡ true → (k : ℕ) × (p.set ≡ Some k)
    at None e k = absurd (cc)
    at (Some m) e k = (m, e)

accepts : (s : Ideal) (device uuid : Bytes) (stamp : ℕ) (under : Option ℕ) (a : Option Account) (d : Option Draft) → account_of s device ≡ a
    → draft_at s device uuid ≡ d → may_accept s.accounts a d uuid stamp under ≡ true → Accepts s device uuid stamp
accepts s device uuid stamp under None d e k may = absurd (cc)
accepts s device uuid stamp under (Some a) None e k may = absurd (cc)
accepts s device uuid stamp under (Some a) (Some d) e k may =
    let sent : Bool = is_sent_under (length a.sets) d.posted in
    let said : Bool = is_said (length a.sets) (sent_content d.latest d.posted) under in
    let on : Bool = is_on_last s.accounts uuid d.base (last_of uuid a.versions) in
    let first = and_parts (sent && said && on) (is_new_stamp s.accounts stamp) may in
    let second = and_parts (sent && said) on first.0 in
    record {
      account = a;
      has = e;
      draft = d;
      at = k;
      numbered = numbered_from (length a.sets) d.posted (and_parts sent said second.0).0;
      on_last = second.1;
      new = first.1;
    }

-- after an accept the item's last version is above the draft's base

base_below : (accounts : List Account) (uuid : Bytes) (base : Option ℕ) (versions : List Version) (last : Option Version) (stamp : ℕ)
    → last_of uuid versions ≡ last → Below stamp versions → is_on_last accounts uuid base last ≡ true → (b : ℕ) → base ≡ Some b → b < stamp
base_below accounts uuid None versions last stamp e all on b is = absurd (cc)
base_below accounts uuid (Some c) versions None stamp e all on b is = absurd (cc)
base_below accounts uuid (Some c) versions (Some v) stamp e all on b is =
    let same : c ≡ b = cc in
    let stamp_is : v.stamp ≡ c = same_number v.stamp c on in
    let less : v.stamp < stamp = each_one (λ (x : Version). x.stamp < stamp) versions v all (last_among uuid versions v e).0 in
    omega (arith, same, stamp_is, less)

abbrev with_version : Version → Account → Account
with_version w b = record b { versions = b.versions ++ w ∷ [] }

own_changed : (accounts : List Account) (found : Option Device) (a : Account) (w : Version) → account_for accounts found ≡ Some a
    → account_for (changed_where (is_account a.identifier) (with_version w) accounts) found ≡ Some (with_version w a)
own_changed accounts None a w h = absurd (cc)
own_changed accounts (Some d) a w h =
    let named : a.identifier ≡ d.account = same_text a.identifier d.account (found_passes (is_account d.account) accounts a h).0 in
    subst (λ n. find (is_account d.account) (changed_where (is_account n) (with_version w) accounts) ≡ Some (with_version w a)) (sym named)
    (found_changed (is_account d.account) (with_version w) (λ _. refl) accounts ∙ ap (option_map (with_version w)) h)

accepted_passed : (s : Ideal) (device uuid : Bytes) (stamp : ℕ) (under : Option ℕ) → IsTrue (allows s (Accept device uuid stamp under))
    → IsPassed (account_of (after s (Accept device uuid stamp under)) device) uuid (draft_at s device uuid)
accepted_passed s device uuid stamp under may =
    subst (IsPassed (account_of (after s (Accept device uuid stamp under)) device) uuid) (sym h.at)
    (λ _. record {
      account = with_version w h.account;
      has = there;
      version = w;
      last = last_own uuid h.account.versions w (draft_is device uuid h.draft (found_passes (is_draft device uuid) s.drafts h.draft h.at).0).1;
      above = base_below s.accounts uuid h.draft.base h.account.versions (last_of uuid h.account.versions) stamp refl
          (new_above s.accounts stamp h.account h.new (among s device h.account h.has)) h.on_last;
    })
  where
    h : Accepts s device uuid stamp
    h = accepts s device uuid stamp under (account_of s device) (draft_at s device uuid) refl refl may

    w : Version
    w = version_of stamp (length h.account.sets) h.draft

    there : account_of (after s (Accept device uuid stamp under)) device ≡ Some (with_version w h.account)
    there =
        subst (λ d. account_for (accepted s.accounts (account_of s device) d stamp) (device_named s device) ≡ Some (with_version w h.account)) (sym h.at)
        (subst (λ a. account_for (accepted s.accounts a (Some h.draft) stamp) (device_named s device) ≡ Some (with_version w h.account)) (sym h.has)
        (own_changed s.accounts (device_named s device) h.account w h.has))

-- what is passed isn't accepted

off_last : (accounts : List Account) (uuid : Bytes) (a : Account) (base : Option ℕ) (v : Version) → One (λ (x : Account). x ≡ a) accounts
    → last_of uuid a.versions ≡ Some v → ((b : ℕ) → base ≡ Some b → b < v.stamp) → is_on_last accounts uuid base (Some v) ≡ true → ⊥
off_last accounts uuid a None v one last above on =
    let there = last_among uuid a.versions v last in
    let has : has_item uuid a ≡ true =
    one_to (is_of uuid) (λ (w : Version). w ≡ v) (λ w e. text_same w.uuid uuid (ap (λ (x : Version). x.uuid) e ∙ there.1)) a.versions there.0 in
    clash (list_any (has_item uuid) accounts)
    (one_to (has_item uuid) (λ (x : Account). x ≡ a) (λ x e. subst (λ (y : Account). has_item uuid y ≡ true) (sym e) has) accounts one)
    (not_false (list_any (has_item uuid) accounts) on)
off_last accounts uuid a (Some c) v one last above on = omega (arith, same_number v.stamp c on, above c refl)

not_again : (s : Ideal) (device uuid : Bytes) (stamp : ℕ) (under : Option ℕ) → IsTrue (allows s (Accept device uuid stamp under))
    → IsPassed (account_of s device) uuid (draft_at s device uuid) → ⊥
not_again s device uuid stamp under may passed =
    let h : Accepts s device uuid stamp = accepts s device uuid stamp under (account_of s device) (draft_at s device uuid) refl refl may in
    let beyond : Beyond (account_of s device) uuid h.draft.base = subst (IsPassed (account_of s device) uuid) h.at passed h.numbered in
    let same : beyond.account ≡ h.account = one_there beyond.account h.account (account_of s device) beyond.has h.has in
    let last : last_of uuid h.account.versions ≡ Some beyond.version =
    subst (λ (x : Account). last_of uuid x.versions ≡ Some beyond.version) same beyond.last in
    off_last s.accounts uuid h.account h.draft.base beyond.version (among s device h.account h.has) last beyond.above
    (subst (λ x. is_on_last s.accounts uuid h.draft.base x ≡ true) last h.on_last)

pub posted_only_once : PostedOnce
posted_only_once ms between device uuid stamp later under under_later legal =
    let first : Move = Accept device uuid stamp under in
    let second : Move = Accept device uuid later under_later in
    let rest : LegalFrom (end ms) (first ∷ between) =
    legal_after empty ms (first ∷ between) (legal_before empty (ms ++ first ∷ between) (second ∷ []) legal) in
    let again : IsTrue (allows (end_from (after (end ms) first) between) second) =
    subst (λ s. IsTrue (allows s second)) (end_from-append empty ms (first ∷ between)) (legal_after empty (ms ++ first ∷ between) (second ∷ []) legal).0 in
    ⊎_elim (λ e. e) (λ passed. absurd (not_again (end_from (after (end ms) first) between) device uuid later under_later again passed))
    (passed_all (after (end ms) first) between device uuid rest.1 (accepted_passed (end ms) device uuid stamp under rest.0))

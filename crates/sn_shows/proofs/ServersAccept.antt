-- The row that is put of an accepted version shows the accounts with it.
use Rattle.std.proofs.Common.{◌≡◌, ◌≢◌, ℕ, [], ◌∷◌, length, Option, Some, None, sym, subst}
use Rattle.std.specs.Prelude.{IsTrue}
use Rattle.std.specs.Str.{bytes_eq}
use Rattle.std.proofs.lemmas.Bool.{and_parts}
use Rattle.sn_laws.specs.declared.ideal.Account.{Account}
use Rattle.sn_laws.specs.declared.ideal.Draft.{Draft}
use Rattle.sn_laws.specs.declared.ideal.Ideal.{Ideal}
use Rattle.sn_laws.specs.declared.ideal.Version.{Version}
use Rattle.sn_laws.specs.declared.moves.Move.TheVariants.{Accept}
use Rattle.sn_laws.specs.Lookups.{Bytes, account_of, draft_at, is_draft, last_of}
use Rattle.sn_laws.specs.Moves.{accepted, after, allows, version_of}
use Rattle.sn_laws.specs.Relation.{IsOnLast, MayAccept}
use Rattle.sn_laws.proofs.Facts.{allowed_from, found_passes, one_there, same_text, stands}
use Rattle.sn_rows.specs.Table.{Rows, rows_after}
use Rattle.sn_rows.specs.declared.change.Change.{Change}
use Rattle.sn_shows.specs.Servers.{ShowsAccounts, account_at}
use Rattle.sn_shows.specs.Laws.{AreApart, PutsVersion}
use Rattle.sn_shows.proofs.ServersApart.{one_at}
use Rattle.sn_shows.proofs.ServersGrown.{PutsNext, one_owner, shows_grown}

-- the version that the draft becomes is the next one
next_version : (change : Change) (number : ℕ) (a : Account) (d : Draft) (stamp : ℕ) → PutsVersion change number a d stamp
    → PutsNext change number a (version_of stamp (length a.sets) d)
next_version change number a d stamp p =
    record { row = p.row; puts = p.puts; account = p.account; kind = p.kind; updated = p.updated; created = p.created; strings = p.strings }

-- no other account has the item: a draft without a base is of an item that none has, and a row is one account's
none_has : (rows : Rows) (s : Ideal) (number other : ℕ) (a b : Account) (uuid : Bytes) (base : Option ℕ) (v : Version) → ShowsAccounts rows s.accounts
    → account_at number s.accounts ≡ Some a → account_at other s.accounts ≡ Some b → number ≢ other → IsOnLast s a uuid base
    → last_of uuid b.versions ≡ Some v → ⊥
none_has rows s number other a b uuid None v h at at_other apart on last =
    let never : None ≡ Some v.stamp = stands s b uuid None v (one_at s.accounts other b at_other) last on in
    cc
none_has rows s number other a b uuid (Some stamp) v h at at_other apart on last =
    apart (one_owner rows s.accounts number other a b uuid on.0 v h at at_other on.1 last)

draft_uuid : (s : Ideal) (device uuid : Bytes) (d : Draft) → draft_at s device uuid ≡ Some d → d.uuid ≡ uuid
draft_uuid s device uuid d h =
    let found = found_passes (is_draft device uuid) s.drafts d h in
    same_text d.uuid uuid (and_parts (bytes_eq d.device device) (bytes_eq d.uuid uuid) found.0).1

pub accepted_shows : (rows : Rows) (s : Ideal) (device uuid : Bytes) (stamp : ℕ) (under : Option ℕ) (number : ℕ) (a : Account) (d : Draft) (change : Change)
    → ShowsAccounts rows s.accounts → AreApart s.accounts → IsTrue (allows s (Accept device uuid stamp under))
    → account_of s device ≡ Some a → account_at number s.accounts ≡ Some a → draft_at s device uuid ≡ Some d
    → PutsVersion change number a d stamp
    → ShowsAccounts (rows_after rows (change ∷ [])) (after s (Accept device uuid stamp under)).accounts
accepted_shows rows s device uuid stamp under number a d change h apart allowed has at drafted p =
    let may : MayAccept s device uuid stamp under = allowed_from s (Accept device uuid stamp under) allowed in
    let same : may.account ≡ a = one_there may.account a (account_of s device) may.is.has has in
    let on : IsOnLast s a uuid may.draft.base = subst (λ (x : Account). IsOnLast s x uuid may.draft.base) same may.on_last in
    let on_its : IsOnLast s a d.uuid may.draft.base =
    subst (λ (u : Bytes). IsOnLast s a u may.draft.base) (sym (draft_uuid s device uuid d drafted)) on in
    let shown = shows_grown rows s.accounts number a (version_of stamp (length a.sets) d) change (next_version change number a d stamp p) h apart at
    (λ other b v at_other differs last. none_has rows s number other a b d.uuid may.draft.base v h at at_other differs on_its last) in
    subst (λ (o : Option Account). ShowsAccounts (rows_after rows (change ∷ [])) (accepted s.accounts o (draft_at s device uuid) stamp)) (sym has)
    (subst (λ (o : Option Draft). ShowsAccounts (rows_after rows (change ∷ [])) (accepted s.accounts (Some a) o stamp)) (sym drafted) shown)

-- The row that is put of an item that is sealed again shows the accounts with its new version.
use Rattle.std.proofs.Common.{◌≡◌, ◌≢◌, ℕ, List, [], ◌∷◌, ◌++◌, length, Option, Some, sym, ap, ◌∙◌, subst}
use Rattle.std.specs.Prelude.{IsTrue}
use Rattle.sn_laws.specs.declared.ideal.Account.{Account}
use Rattle.sn_laws.specs.declared.ideal.Ideal.{Ideal}
use Rattle.sn_laws.specs.declared.ideal.Version.{Version}
use Rattle.sn_laws.specs.declared.moves.Move.TheVariants.{Rewrap}
use Rattle.sn_laws.specs.Lookups.{Bytes, account_with, has_item, is_account, last_of}
use Rattle.sn_laws.specs.Moves.{after, again, allows, changed_where, resealed, rewrapped}
use Rattle.sn_laws.specs.Relation.{MayRewrap}
use Rattle.sn_laws.proofs.Facts.{allowed_from, found_passes, last_among, one_there}
use Rattle.sn_rows.specs.Table.{Rows, rows_after}
use Rattle.sn_rows.specs.declared.change.Change.{Change}
use Rattle.sn_shows.specs.Servers.{ShowsAccounts, account_at}
use Rattle.sn_shows.specs.Laws.{AreApart, created_of}
use Rattle.sn_shows.specs.Rekeying.{PutsRewrapped}
use Rattle.sn_shows.proofs.ServersGrown.{PutsNext, one_owner, shows_grown}
use Rattle.sn_shows.proofs.ServersLists.{number_of}

-- the version that is sealed again under the set of this number
abbrev pub sealed_again : ℕ → ℕ → Version → Version
sealed_again stamp number v = record v { stamp = stamp; body = resealed number v.body }

-- the account has what is sealed again of this version, if there is one
abbrev pub with_again : List Account → Account → ℕ → Option Version → List Account
with_again accounts a stamp found =
    changed_where (is_account a.identifier) (λ (b : Account). record b { versions = b.versions ++ again stamp (length a.sets) found }) accounts

-- it is the next one
next_version : (change : Change) (number : ℕ) (a : Account) (v : Version) (stamp : ℕ) → PutsRewrapped change number a v stamp
    → PutsNext change number a (sealed_again stamp (length a.sets) v)
next_version change number a v stamp p =
    record {
      row = p.row;
      puts = p.puts;
      account = p.account;
      kind = p.kind;
      updated = p.updated;
      created = p.created ∙ ap (λ (o : Option Version). created_of o stamp) (sym p.first_is);
      strings = p.strings;
    }

-- the account that has the item is the one of this number
has_last : (rows : Rows) (s : Ideal) (uuid : Bytes) (stamp under number : ℕ) (a : Account) (v : Version) → ShowsAccounts rows s.accounts
    → MayRewrap s uuid stamp under → account_at number s.accounts ≡ Some a → last_of uuid a.versions ≡ Some v → account_with s.accounts uuid ≡ Some a
has_last rows s uuid stamp under number a v h may at last =
    let its = number_of s.accounts may.account (found_passes (has_item uuid) s.accounts may.account may.has).1 in
    let one : number ≡ its.0 = one_owner rows s.accounts number its.0 a may.account uuid v may.version h at its.1 last may.last in
    let same : a ≡ may.account =
    one_there a may.account (account_at its.0 s.accounts) (subst (λ (n : ℕ). account_at n s.accounts ≡ Some a) one at) its.1 in
    may.has ∙ ap Some (sym same)

-- no other account has a version of it
none_has : (rows : Rows) (s : Ideal) (uuid : Bytes) (number other : ℕ) (a b : Account) (v w : Version) → ShowsAccounts rows s.accounts
    → account_at number s.accounts ≡ Some a → last_of uuid a.versions ≡ Some v → account_at other s.accounts ≡ Some b → number ≢ other
    → last_of v.uuid b.versions ≡ Some w → ⊥
none_has rows s uuid number other a b v w h at last at_other differs last_there =
    let own : v.uuid ≡ uuid = (last_among uuid a.versions v last).1 in
    differs (one_owner rows s.accounts number other a b uuid v w h at at_other last
    (subst (λ (u : Bytes). last_of u b.versions ≡ Some w) own last_there))

pub rewrapped_shows : (rows : Rows) (s : Ideal) (uuid : Bytes) (stamp number : ℕ) (a : Account) (v : Version) (change : Change)
    → ShowsAccounts rows s.accounts → AreApart s.accounts → IsTrue (allows s (Rewrap uuid stamp (length a.sets)))
    → account_at number s.accounts ≡ Some a → last_of uuid a.versions ≡ Some v
    → PutsRewrapped change number a v stamp
    → ShowsAccounts (rows_after rows (change ∷ [])) (after s (Rewrap uuid stamp (length a.sets))).accounts
rewrapped_shows rows s uuid stamp number a v change h apart allowed at last p =
    let may : MayRewrap s uuid stamp (length a.sets) = allowed_from s (Rewrap uuid stamp (length a.sets)) allowed in
    let has : account_with s.accounts uuid ≡ Some a = has_last rows s uuid stamp (length a.sets) number a v h may at last in
    let shown = shows_grown rows s.accounts number a (sealed_again stamp (length a.sets) v) change (next_version change number a v stamp p) h apart at
    (λ other b w at_other differs last_there. none_has rows s uuid number other a b v w h at last at_other differs last_there) in
    subst (λ (o : Option Account). ShowsAccounts (rows_after rows (change ∷ [])) (rewrapped s.accounts o uuid stamp)) (sym has)
    (subst (λ (o : Option Version). ShowsAccounts (rows_after rows (change ∷ [])) (with_again s.accounts a stamp o)) (sym last) shown)

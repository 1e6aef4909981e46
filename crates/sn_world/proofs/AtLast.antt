-- The last version of an item, and a row that stands on it.
use Rattle.std.proofs.Common.{◌≡◌, ◌<◌, ℕ, List, [], ◌∷◌, map, Option, Some, None, Bool, true, false, refl, sym, ap, ◌∙◌, subst, inl, inr, ⊎_elim, ◌⊎◌}
use Rattle.std.specs.Option.{option_or}
use Rattle.std.specs.Prelude.{find}
use Rattle.sn_account.specs.Tells.{IsStored}
use Rattle.sn_laws.proofs.Facts.{last_among, one_there}
use Rattle.sn_laws.specs.Each.{Each, One}
use Rattle.sn_laws.specs.Laws.{Rises}
use Rattle.sn_laws.specs.Lookups.{Bytes, is_of, last_of}
use Rattle.sn_laws.specs.Relation.{IsLive}
use Rattle.sn_laws.specs.declared.ideal.Account.{Account}
use Rattle.sn_laws.specs.declared.ideal.Body.{Body as Versions}
use Rattle.sn_laws.specs.declared.ideal.Version.{Version}
use Rattle.sn_rows.specs.Table.{Rows}
use Rattle.sn_shows.specs.Servers.{ShowsAccounts, account_at}
use Rattle.sn_sync.specs.Laws.{HasOneStamp}
use Rattle.sn_sync.specs.Stamps.{IsStampText}
use Rattle.sn_sync.specs.Versions.{NamesStamp}
use Rattle.sn_sync.specs.declared.item.Body.TheVariants as body
use Rattle.sn_sync.specs.declared.item.Item.{Item}
use Rattle.sn_world.proofs.Based.{given_gone, given_strings, gone_version, live_version}
use Rattle.sn_world.proofs.Lasts.{has_last, last_cons}
use Rattle.sn_world.proofs.Standing.{its_last}
use Rattle.sn_world.proofs.Lists.{this_one}
use Rattle.sn_world.specs.Pulled.{HasBase, HasNoBase, PulledAt}

-- ---- the last version of an item

-- a version of the item is its last one, or an older one
pub rises_last : (uuid : Bytes) (vs : List Version) (w v : Version) → Rises (map (λ (y : Version). y.stamp) vs) → One (λ (y : Version). y ≡ w) vs → w.uuid ≡ uuid
    → last_of uuid vs ≡ Some v → (w ≡ v) ⊎ (w.stamp < v.stamp)
rises_last uuid [] w v rise one is last = absurd one
rises_last uuid (x ∷ xs) w v rise one is last = by (λ rest here. rises_last uuid xs w v rise.1 rest is here) (last_of uuid xs) refl
  where
    as_is : (found : Option Version) → last_of uuid xs ≡ found → option_or found (find (is_of uuid) (x ∷ [])) ≡ Some v
    as_is found e = ap (λ (o : Option Version). option_or o (find (is_of uuid) (x ∷ []))) (sym e) ∙ sym (last_cons uuid x xs) ∙ last

    alone : (b : Bool) → is_of uuid x ≡ b → find (is_of uuid) (x ∷ []) ≡ Some v → x ≡ v
    alone true e h = let found : find (is_of uuid) (x ∷ []) ≡ Some x = rw e refl in cc
    alone false e h = let none : find (is_of uuid) (x ∷ []) ≡ None = rw e refl in absurd (cc)

    each_stamp : (ys : List Version) → Each (λ (m : ℕ). x.stamp < m) (map (λ (y : Version). y.stamp) ys) → Each (λ (y : Version). x.stamp < y.stamp) ys
    each_stamp [] h = tt
    each_stamp (y ∷ ys) h = (h.0, each_stamp ys h.1)

    by : (One (λ (y : Version). y ≡ w) xs → last_of uuid xs ≡ Some v → (w ≡ v) ⊎ (w.stamp < v.stamp)) → (found : Option Version) → last_of uuid xs ≡ found
        → (w ≡ v) ⊎ (w.stamp < v.stamp)
    by behind None e =
        ⊎_elim (λ (same : x ≡ w). inl (sym same ∙ alone (is_of uuid x) refl (as_is None e)))
        (λ rest. let some = has_last uuid xs w rest is in absurd (cc)) one
    by behind (Some y) e =
        let same : y ≡ v = let h : Some y ≡ Some v = as_is (Some y) e in cc in
        let here : last_of uuid xs ≡ Some v = e ∙ ap Some same in
        ⊎_elim
        (λ (is_x : x ≡ w).
        let among = last_among uuid xs v here in
        inr (subst (λ (z : Version). z.stamp < v.stamp) is_x (this_one (λ (z : Version). x.stamp < z.stamp) xs v (each_stamp xs rise.0) among.0)))
        (λ rest. behind rest here) one

-- it, as the server tells it
pub record LastTold (a : Account) (i : Item) : Type 0 where
  pub version : Version
  pub last : last_of i.uuid a.versions ≡ Some version
  pub stamp_is : (stamp : ℕ) → NamesStamp i stamp → version.stamp ≡ stamp
  pub alive : (content enc : Bytes) → i.body ≡ body.Strings content enc → IsLive version.body
  pub dead : i.body ≡ body.Deleted → ¬ (IsLive version.body)

pub last_told : HasOneStamp → (server : Rows) (accounts : List Account) (n : ℕ) (a : Account) (i : Item) → ShowsAccounts server accounts → account_at n accounts ≡ Some a
    → IsStored server n i → LastTold a i
last_told one_stamp server accounts n a i shows at stored =
    let its = its_last server accounts n a i.uuid stored.0 shows at stored.1 stored.2 in
    record {
      version = its.0;
      last = its.1;
      stamp_is = λ stamp named.
          let text : stored.3.stamp ≡ named.0 = one_there stored.3.stamp named.0 i.updated_at stored.3.updated named.2 in
          sym its.3 ∙ one_stamp named.0 stored.0.updated stamp (subst (λ (t : Bytes). IsStampText t stored.0.updated) text stored.3.spelled) named.1;
      alive = λ c enc is.
          let parts = given_strings stored.0 stored.0.deleted c enc (sym stored.3.body ∙ is) in
          let live = live_version a.sets i.uuid stored.0 its.0.body its.2 parts.0 in
          subst (λ (b : Versions). IsLive b) (sym live.2) tt;
      dead = λ is alive.
          let gone = given_gone stored.0 stored.0.deleted (sym stored.3.body ∙ is) in
          subst (λ (b : Versions). IsLive b) (gone_version a.sets i.uuid stored.0 its.0.body its.2 gone) alive;
    }

-- ---- the row of an item stands on that

-- whatever stamp it has
abbrev pub IsAtLast : Rows → Account → Bytes → Type 0
IsAtLast rows a uuid = (upto : ℕ) → PulledAt rows a upto uuid

pub at_live : (rows : Rows) (a : Account) (i : Item) (t : LastTold a i) → IsLive t.version.body → HasBase rows i.uuid t.version.stamp → IsAtLast rows a i.uuid
at_live rows a i t live base upto = record {
  live = λ v last within alive. subst (λ (w : Version). HasBase rows i.uuid w.stamp) (one_there t.version v (last_of i.uuid a.versions) t.last last) base;
  gone = λ v last within dead. absurd (dead (subst (λ (w : Version). IsLive w.body) (one_there t.version v (last_of i.uuid a.versions) t.last last) live));
}

pub at_gone : (rows : Rows) (a : Account) (i : Item) (t : LastTold a i) → ¬ (IsLive t.version.body) → HasNoBase rows i.uuid → IsAtLast rows a i.uuid
at_gone rows a i t dead none upto = record {
  live = λ v last within alive.
      absurd (dead (subst (λ (w : Version). IsLive w.body) (sym (one_there t.version v (last_of i.uuid a.versions) t.last last)) alive));
  gone = λ v last within gone. none;
}

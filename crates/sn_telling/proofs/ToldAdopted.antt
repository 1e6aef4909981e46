-- An adoption says one list of moves.
use Rattle.std.proofs.Common.{◌≡◌, ◌++◌, List, [], ◌∷◌, Some, sym, ap, ◌∙◌, subst, inl, inr, length}
use Rattle.sn_account.proofs.RisingLists.{one_rising, rises_so}
use Rattle.sn_adopted.specs.Moves.{adopting, reposting}
use Rattle.sn_device.specs.Listing.{AreItems}
use Rattle.sn_device.specs.Sending.{Numbered}
use Rattle.sn_laws.specs.Lookups.{Bytes, account_named, device_named}
use Rattle.sn_laws.specs.declared.ideal.Account.{Account}
use Rattle.sn_laws.specs.declared.ideal.Device.{Device}
use Rattle.sn_laws.specs.declared.ideal.Ideal.{Ideal}
use Rattle.sn_laws.specs.declared.moves.Move.{Move}
use Rattle.sn_rows.specs.Table.{Rows}
use Rattle.sn_shows.specs.Laws.{HasAccount}
use Rattle.sn_world.specs.Committing.{AreRepostedUuids, SaysAdoption}

-- a device has one account
one_device : (s : Ideal) (name : Bytes) (d e : Device) (a b : Account) → HasAccount s name d a → HasAccount s name e b → (d ≡ e) × (a ≡ b)
one_device s name d e a b x y =
    let of_name : device_named s name ≡ Some d = x.device in
    let too : device_named s name ≡ Some e = y.device in
    let same : d ≡ e = cc in
    let of_device : account_named s d.account ≡ Some a = x.account in
    let also : account_named s e.account ≡ Some b = y.account in
    (same, cc)

-- rows have one list of items
one_listing : (rows : Rows) (items others : List Numbered) → AreItems rows items → AreItems rows others → items ≡ others
one_listing rows items others x y =
    one_rising (λ (w : Numbered). w.0) items others (rises_so (λ (w : Numbered). w.0) items x.rising) (rises_so (λ (w : Numbered). w.0) others y.rising)
    (λ (w : Numbered) has. (y.whole w.0 w.1).1 ((x.whole w.0 w.1).0 has)) (λ (w : Numbered) has. (x.whole w.0 w.1).1 ((y.whole w.0 w.1).0 has))

-- and of those in an account one list of uuids is sent again
one_reposted : (a : Account) (items : List Numbered) (uuids others : List Bytes) → AreRepostedUuids a items uuids → AreRepostedUuids a items others
    → uuids ≡ others
one_reposted a [] uuids others x y = x ∙ sym y
one_reposted a (item ∷ items) uuids others (inl (is, (later, e, x))) (inl (so, (more, f, y))) =
    e ∙ ap (λ (us : List Bytes). item.1.uuid ∷ us) (one_reposted a items later more x y) ∙ sym f
one_reposted a (item ∷ items) uuids others (inl (is, x)) (inr (not, y)) = absurd (not is)
one_reposted a (item ∷ items) uuids others (inr (not, x)) (inl (is, y)) = absurd (not is)
one_reposted a (item ∷ items) uuids others (inr (not, x)) (inr (nor, y)) = one_reposted a items uuids others x y

-- so all of it is one
pub one_adoption : (rows : Rows) (s : Ideal) (name : Bytes) (moves others : List Move) → SaysAdoption rows s name moves → SaysAdoption rows s name others
    → moves ≡ others
one_adoption rows s name moves others x y =
    let same = one_device s name x.device y.device x.account y.account x.has y.has in
    let listed : x.items ≡ y.items = one_listing rows x.items y.items x.items_are y.items_are in
    let posted : AreRepostedUuids y.account y.items x.uuids =
    subst (λ (a : Account). AreRepostedUuids a y.items x.uuids) same.1
    (subst (λ (items : List Numbered). AreRepostedUuids x.account items x.uuids) listed x.reposted) in
    x.moves_are
    ∙ ap (λ (a : Account). adopting name a.identifier (length a.sets) x.device.held ++ reposting name x.uuids) same.1
    ∙ ap (λ (d : Device). adopting name y.account.identifier (length y.account.sets) d.held ++ reposting name x.uuids) same.0
    ∙ ap (λ (us : List Bytes). adopting name y.account.identifier (length y.account.sets) y.device.held ++ reposting name us)
    (one_reposted y.account y.items x.uuids y.uuids posted y.reposted)
    ∙ sym y.moves_are

-- Which items of a device are sent again with an adoption.
use Rattle.std.proofs.Common.{◌≡◌, ◌≢◌, ◌⊎◌, ◌<◌, ℕ, List, [], ◌∷◌, Option, Some, None, Bool, true, false, refl, sym, ap, ◌∙◌, subst, inl, inr, ⊎_elim, arith}
use Rattle.std.specs.List.{Contains}
use Rattle.std.specs.Prelude.{◌==◌}
use Rattle.sn_adopted.specs.Moves.{reposting}
use Rattle.sn_device.specs.Sending.{Numbered}
use Rattle.sn_laws.proofs.Facts.{clash, number_same, one_there, same_number}
use Rattle.sn_laws.specs.Each.{Each, One}
use Rattle.sn_laws.specs.Lookups.{Bytes, last_of}
use Rattle.sn_laws.specs.Moves.{after}
use Rattle.sn_laws.specs.Reached.{AllDiffer}
use Rattle.sn_laws.specs.Relation.{IsBased}
use Rattle.sn_laws.specs.Runs.{end_from}
use Rattle.sn_laws.specs.declared.ideal.Account.{Account}
use Rattle.sn_laws.specs.declared.ideal.Ideal.{Ideal}
use Rattle.sn_laws.specs.declared.ideal.Version.{Version}
use Rattle.sn_laws.specs.declared.moves.Move.TheVariants.{Post, Unpost}
use Rattle.sn_rows.specs.declared.body.RowBody.{RowBody}
use Rattle.sn_rows.specs.declared.device_rows.LocalItem.{LocalItem}
use Rattle.sn_world.proofs.AnswerLists.{Rises, above_head, at_head, behind_head, head_or_behind, none_of, rises_behind}
use Rattle.sn_world.proofs.Lists.{each_contained}
use Rattle.sn_world.specs.Committing.{AreRepostedUuids, IsReposted}

-- ---- what the moves leave

pub reposting_accounts : (s : Ideal) (name : Bytes) (uuids : List Bytes) → (end_from s (reposting name uuids)).accounts ≡ s.accounts
reposting_accounts s name [] = refl
reposting_accounts s name (uuid ∷ uuids) = reposting_accounts (after (after s (Unpost name uuid)) (Post name uuid)) name uuids

pub reposting_devices : (s : Ideal) (name : Bytes) (uuids : List Bytes) → (end_from s (reposting name uuids)).devices ≡ s.devices
reposting_devices s name [] = refl
reposting_devices s name (uuid ∷ uuids) = reposting_devices (after (after s (Unpost name uuid)) (Post name uuid)) name uuids

-- ---- the items

module _ (a : Account) where
  -- what holds of each item that is sent again holds of each uuid
  pub each_reposted : (P : Bytes → Type 0) (items : List Numbered) (uuids : List Bytes) → AreRepostedUuids a items uuids
      → Each (λ (w : Numbered). IsReposted a w.1 → P w.1.uuid) items → Each P uuids
  each_reposted P [] uuids e f = subst (λ (us : List Bytes). Each P us) (sym e) tt
  each_reposted P (w ∷ items) uuids (inl (is, (later, e, rest))) f =
      subst (λ (us : List Bytes). Each P us) (sym e) (f.0 is, each_reposted P items later rest f.1)
  each_reposted P (w ∷ items) uuids (inr (off, rest)) f = each_reposted P items uuids rest f.1

  -- no two are the same, where no two items have one uuid
  pub reposted_differ : (items : List Numbered) (uuids : List Bytes) → AreRepostedUuids a items uuids → Rises (λ (w : Numbered). w.0) items
      → ((x y : Numbered) → Contains items x → Contains items y → x.1.uuid ≡ y.1.uuid → x.0 ≡ y.0) → AllDiffer uuids
  reposted_differ [] uuids e rises one = subst AllDiffer (sym e) tt
  reposted_differ (w ∷ items) uuids (inl (is, (later, e, rest))) rises one =
      subst AllDiffer (sym e) (
        each_reposted (λ (uuid : Bytes). uuid ≢ w.1.uuid) items later rest
            (each_contained (λ (z : Numbered). IsReposted a z.1 → z.1.uuid ≢ w.1.uuid) items
            (λ z has so same.
            let equal : z.0 ≡ w.0 = one z w (behind_head w items z has) (at_head w items) same in
            let above : w.0 < z.0 = above_head (λ (x : Numbered). x.0) w items z rises has in
            absurd (omega arith))),
        reposted_differ items later rest (rises_behind (λ (x : Numbered). x.0) w items rises)
            (λ x y first second same. one x y (behind_head w items x first) (behind_head w items y second) same),
      )
  reposted_differ (w ∷ items) uuids (inr (off, rest)) rises one =
      reposted_differ items uuids rest (rises_behind (λ (x : Numbered). x.0) w items rises)
      (λ x y first second same. one x y (behind_head w items x first) (behind_head w items y second) same)

  -- each item of which it is so is one of them
  pub reposted_one : (items : List Numbered) (uuids : List Bytes) → AreRepostedUuids a items uuids → (w : Numbered) → Contains items w → IsReposted a w.1
      → One (λ (uuid : Bytes). uuid ≡ w.1.uuid) uuids
  reposted_one [] uuids e w has is = absurd (none_of w has)
  reposted_one (x ∷ items) uuids (inl (so, (later, e, rest))) w has is =
      subst (λ (us : List Bytes). One (λ (uuid : Bytes). uuid ≡ w.1.uuid) us) (sym e)
      (⊎_elim (λ (same : x ≡ w). inl (ap (λ (z : Numbered). z.1.uuid) same)) (λ behind. inr (reposted_one items later rest w behind is))
      (head_or_behind x items w has))
  reposted_one (x ∷ items) uuids (inr (off, rest)) w has is =
      ⊎_elim (λ (same : x ≡ w). absurd (off (subst (λ (z : Numbered). IsReposted a z.1) (sym same) is)))
      (λ behind. reposted_one items uuids rest w behind is) (head_or_behind x items w has)

-- ---- it is so or not

based_or_not : (base : Option ℕ) (last : Option Version) → IsBased base last ⊎ ¬ (IsBased base last)
based_or_not None None = inl refl
based_or_not None (Some v) = inr (λ none. absurd (cc))
based_or_not (Some stamp) None = inr (λ based. let some : None ≡ Some based.0 = based.1 in absurd (cc))
based_or_not (Some stamp) (Some v) = by (v.stamp == stamp) refl
  where
    by : (b : Bool) → (v.stamp == stamp) ≡ b → IsBased (Some stamp) (Some v) ⊎ ¬ (IsBased (Some stamp) (Some v))
    by true same = inl (v, refl, same_number v.stamp stamp same)
    by false off =
        inr (λ based.
        let is : based.0 ≡ v = one_there based.0 v (Some v) based.1 refl in
        clash (v.stamp == stamp) (number_same v.stamp stamp (sym (ap (λ (x : Version). x.stamp) is) ∙ based.2)) off)

module _ (a : Account) where
  reposted_or_not : (local : LocalItem) → IsReposted a local ⊎ ¬ (IsReposted a local)
  reposted_or_not local = by local.posted refl
    where
      by : (found : Option RowBody) → local.posted ≡ found → IsReposted a local ⊎ ¬ (IsReposted a local)
      by None e = inr (λ is. is.0 e)
      by (Some b) e =
          ⊎_elim (λ (on : IsBased local.base (last_of local.uuid a.versions)). inl ((λ none. absurd (cc)), on))
          (λ (off : ¬ (IsBased local.base (last_of local.uuid a.versions))). inr (λ is. off is.1)) (based_or_not local.base (last_of local.uuid a.versions))

  pub reposted_of : (items : List Numbered) → (uuids : List Bytes) × AreRepostedUuids a items uuids
  reposted_of [] = ([], refl)
  reposted_of (w ∷ items) =
      let rest = reposted_of items in
      ⊎_elim
      (λ (is : IsReposted a w.1). (w.1.uuid ∷ rest.0, inl (is, (rest.0, refl, rest.1))))
      (λ (off : ¬ (IsReposted a w.1)). (rest.0, inr (off, rest.1))) (reposted_or_not w.1)

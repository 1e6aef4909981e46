-- The last version of an item.
use Rattle.std.proofs.Common.{◌≡◌, ◌≢◌, List, [], ◌∷◌, ◌++◌, Some, refl, sym, ap, ◌∙◌, subst, inl, inr, ⊎_elim}
use Rattle.std.specs.Prelude.{cond, find, reverse}
use Rattle.std.specs.Str.{bytes_eq}
use mathlib.Core.List.{reverse-cons}
use Rattle.sn_laws.specs.declared.ideal.Version.{Version}
use Rattle.sn_laws.specs.Each.{Each, One}
use Rattle.sn_laws.specs.Lookups.{Bytes, is_of, last_of}
use Rattle.sn_laws.proofs.ChangedLemmas.{each_one, one_each, one_last, one_of, one_split}
use Rattle.sn_laws.proofs.EachLemmas.{found_passes, is_false, same_text, text_same}

reversed : (vs : List Version) (w : Version) → reverse (vs ++ w ∷ []) ≡ w ∷ reverse vs
reversed [] w = refl
reversed (v ∷ vs) w =
    reverse-cons v (vs ++ w ∷ []) ∙ ap (λ rest. rest ++ v ∷ []) (reversed vs w) ∙ ap (λ rest. w ∷ rest) (sym (reverse-cons v vs))

-- after one more of the item it is that one
pub last_own : (uuid : Bytes) (vs : List Version) (w : Version) → w.uuid ≡ uuid → last_of uuid (vs ++ w ∷ []) ≡ Some w
last_own uuid vs w e =
    ap (find (is_of uuid)) (reversed vs w) ∙ ap (λ b. cond b (Some w) (find (is_of uuid) (reverse vs))) (text_same w.uuid uuid e)

-- after one more of another item it is the same
pub last_other : (uuid : Bytes) (vs : List Version) (w : Version) → w.uuid ≢ uuid → last_of uuid (vs ++ w ∷ []) ≡ last_of uuid vs
last_other uuid vs w e =
    ap (find (is_of uuid)) (reversed vs w)
    ∙ ap (λ b. cond b (Some w) (find (is_of uuid) (reverse vs))) (is_false (bytes_eq w.uuid uuid) (λ k. e (same_text w.uuid uuid k)))

one_reversed : (P : Version → Type 0) (xs : List Version) → One P (reverse xs) → One P xs
one_reversed P [] h = h
one_reversed P (x ∷ xs) h =
    ⊎_elim (λ e. inr (one_reversed P xs e)) (λ e. inl (one_last P x e))
    (one_split P (reverse xs) (x ∷ []) (subst (λ ys. One P ys) (reverse-cons x xs) h))

-- it is one of the versions, and of the item
pub last_among : (uuid : Bytes) (vs : List Version) (v : Version) → last_of uuid vs ≡ Some v → One (λ (w : Version). w ≡ v) vs × (v.uuid ≡ uuid)
last_among uuid vs v h =
    let found = found_passes (is_of uuid) (reverse vs) v h in
    (one_reversed (λ (w : Version). w ≡ v) vs found.1, same_text v.uuid uuid found.0)

-- where an item has one, it has versions
pub last_item : (uuid : Bytes) (vs : List Version) (v : Version) → last_of uuid vs ≡ Some v → One (λ (w : Version). w.uuid ≡ uuid) vs
last_item uuid vs v h =
    let there = last_among uuid vs v h in
    one_of (λ (w : Version). w.uuid ≡ uuid) vs v there.0 there.1

-- what holds of the last version of each item that a list of versions has
pub each_last : (P : Bytes → Type 0) (vs : List Version) → Each (λ (v : Version). P v.uuid) vs → (uuid : Bytes) (v : Version)
    → last_of uuid vs ≡ Some v → P uuid
each_last P vs h uuid v e =
    let there = last_among uuid vs v e in
    subst P there.1 (each_one (λ (w : Version). P w.uuid) vs v h there.0)

pub each_version : (P : Bytes → Type 0) (vs : List Version) → ((uuid : Bytes) → P uuid) → Each (λ (v : Version). P v.uuid) vs
each_version P vs h = one_each (λ (v : Version). P v.uuid) vs (λ v e. h v.uuid)

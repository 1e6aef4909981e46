-- The members that are written say what they were written for.
use Rattle.std.proofs.Common.{arith, rules, ◌≡◌, ◌∙◌, sym, ap, subst, ℕ, zero, suc, ◌<◌, List, [], ◌∷◌, codes, Option, Some, None, inl, inr, refl}
use Rattle.std.specs.List.{All}
use Rattle.std.proofs.lemmas.List.Elements.{All-head, All-tail}
use Rattle.hex.specs.Hex.{IsBytes, encode_lower}
use Rattle.serde_json.specs.Data.{Data, Items, item, no_items}
use Rattle.serde_json.specs.Find.{get}
use Rattle.sn_string.specs.Uuids.{uuid_text}
use Rattle.sn_sync.specs.Items.{AreItems, IsItem, SaysCreated, SaysUpdated, SaysVersion, sent, stored}
use Rattle.sn_sync.specs.Fits.{AreBytes, FitsKind, FitsSent, FitsStored}
use Rattle.sn_sync.specs.Members.{Bytes, IsObject, SaysHash, SaysNullable, SaysOptional, SaysUuid}
use Rattle.sn_sync.specs.Stamps.{IsStampText}
use Rattle.sn_sync.specs.Written.{AreItemsData, IsCreatedData, IsItemData, hash_data, item_data, optional_data, uuid_data}
use Rattle.sn_sync.specs.declared.item.Body.{Body}
use Rattle.sn_sync.specs.declared.item.Body.TheVariants as body
use Rattle.sn_sync.specs.declared.item.Item.{Item}

-- ---- members

fit : (bytes : Bytes) → All (λ b. b < 256) bytes → IsBytes bytes
fit [] h i = omega arith
fit (b ∷ bytes) h zero = All-head (λ x. x < 256) b bytes h
fit (b ∷ bytes) h (suc i) = fit bytes (All-tail (λ x. x < 256) b bytes h) i

pub SaysHash-data : (m : Option Data) (bytes : Bytes) → AreBytes 32 bytes → m ≡ Some (hash_data bytes) → SaysHash m bytes
SaysHash-data m bytes h is = (encode_lower bytes, is, record { count = h.0; fit = fit bytes h.1; spelled = refl })

pub SaysUuid-data : (m : Option Data) (uuid : Bytes) → AreBytes 16 uuid → m ≡ Some (uuid_data uuid) → SaysUuid m uuid
SaysUuid-data m uuid h is = (uuid_text uuid, is, record { count = h.0; fit = h.1; spelled = refl })

pub SaysOptional-data : (m : Option Data) (text : Option Bytes) → m ≡ Some (optional_data text) → SaysOptional m text
SaysOptional-data m None is = inr is
SaysOptional-data m (Some text) is = is

pub SaysNullable-data : (m : Option Data) (text : Option Bytes) → m ≡ Some (optional_data text) → SaysNullable m text
SaysNullable-data m None is = is
SaysNullable-data m (Some text) is = is

-- ---- an item

created-data : (m : Option Data) (d : Data) (created : Option ℕ) (first : ℕ) → created ≡ Some first → IsCreatedData created d → m ≡ Some d
    → SaysCreated stored m created
created-data m d None first has h is = absurd (let impossible : ⊥ = cc in impossible)
created-data m d (Some stamp) first has h is = (h.0, is ∙ ap Some h.2, h.1)

updated-data : (m : Option Data) (updated_at : Option Bytes) (text : Bytes) (last : ℕ) → updated_at ≡ Some text → IsStampText text last
    → m ≡ Some (optional_data updated_at) → SaysUpdated stored m updated_at
updated-data m None text last has h is = absurd (let impossible : ⊥ = cc in impossible)
updated-data m (Some t) text last has h is =
    let same : text ≡ t = cc in
    let P : Bytes → Type 0 = λ s. IsStampText s last in
    (is, (last, subst P same h))

object-data : (d : Data) (i : Item) (b : Body) → IsObject (item_data d i b)
object-data d i (body.Strings content enc) = search rules
object-data d i body.Deleted = search rules

uuid-at : (d : Data) (i : Item) (b : Body) → get (codes "uuid") (item_data d i b) ≡ Some (uuid_data i.uuid)
uuid-at d i (body.Strings content enc) = refl
uuid-at d i body.Deleted = refl

created-at : (d : Data) (i : Item) (b : Body) → get (codes "created_at") (item_data d i b) ≡ Some d
created-at d i (body.Strings content enc) = refl
created-at d i body.Deleted = refl

updated-at : (d : Data) (i : Item) (b : Body) → get (codes "updated_at") (item_data d i b) ≡ Some (optional_data i.updated_at)
updated-at d i (body.Strings content enc) = refl
updated-at d i body.Deleted = refl

version-data : (d : Data) (i : Item) (b : Body) → FitsKind b i.kind → SaysVersion (item_data d i b) i.kind b
version-data d i (body.Strings content enc) h = (inl refl, (inl refl, h.0, h.1), inl refl, inl refl)
version-data d i body.Deleted h = (refl, (inl refl, omega arith, h))

pub IsItem-sent : (i : Item) (d : Data) → FitsSent i → IsItemData i d → IsItem sent d i
IsItem-sent i d fits h =
    let e : Data = item_data h.created i i.body in
    let P : Data → Type 0 = λ x. IsItem sent x i in
    subst P (sym h.is) (record {
      object = object-data h.created i i.body;
      uuid = SaysUuid-data (get (codes "uuid") e) i.uuid fits.uuid (uuid-at h.created i i.body);
      created = fits.created;
      updated = SaysOptional-data (get (codes "updated_at") e) i.updated_at (updated-at h.created i i.body);
      version = version-data h.created i i.body fits.kind;
    })

pub IsItem-stored : (i : Item) (d : Data) → FitsStored i → IsItemData i d → IsItem stored d i
IsItem-stored i d fits h =
    let e : Data = item_data h.created i i.body in
    let P : Data → Type 0 = λ x. IsItem stored x i in
    subst P (sym h.is) (record {
      object = object-data h.created i i.body;
      uuid = SaysUuid-data (get (codes "uuid") e) i.uuid fits.uuid (uuid-at h.created i i.body);
      created = created-data (get (codes "created_at") e) h.created i.created fits.first fits.created h.spells (created-at h.created i i.body);
      updated = updated-data (get (codes "updated_at") e) i.updated_at fits.text fits.last fits.updated_at fits.stamped (updated-at h.created i i.body);
      version = version-data h.created i i.body fits.kind;
    })

pub AreItems-sent : (is : List Item) (ds : Items) → All FitsSent is → AreItemsData is ds → AreItems sent ds is
AreItems-sent [] no_items fits h = tt
AreItems-sent [] (item d ds) fits h = absurd h
AreItems-sent (i ∷ is) no_items fits h = absurd h
AreItems-sent (i ∷ is) (item d ds) fits h =
    (IsItem-sent i d (All-head FitsSent i is fits) h.0, AreItems-sent is ds (All-tail FitsSent i is fits) h.1)

pub AreItems-stored : (is : List Item) (ds : Items) → All FitsStored is → AreItemsData is ds → AreItems stored ds is
AreItems-stored [] no_items fits h = tt
AreItems-stored [] (item d ds) fits h = absurd h
AreItems-stored (i ∷ is) no_items fits h = absurd h
AreItems-stored (i ∷ is) (item d ds) fits h =
    (IsItem-stored i d (All-head FitsStored i is fits) h.0, AreItems-stored is ds (All-tail FitsStored i is fits) h.1)

-- Versions of the server's, as rows that stand on them.
use Rattle.std.proofs.Common.{◌≡◌, ◌≢◌, ◌∙◌, ◌≤◌, ◌+◌, ◌||◌, ℕ, Bool, true, false, [], ◌∷◌, ◌++◌, Option, Some, None, IfNone, IfSome, inl, inr, refl, sym, ap, subst, length, arith, append_assoc, length-append}
use Rattle.std.specs.List.{All}
use Rattle.std.proofs.lemmas.List.Elements.{All-head, All-tail}
use Rattle.std.proofs.lemmas.List.Splits.{join_with_byte-slice_split}
use Rattle.rand_chacha.specs.ChaCha.{ChaCha}
use Rattle.sn_conflict.specs.Checks.{AreStringsOf, IsStringOf}
use Rattle.sn_items.specs.declared.sealed.Sealed.{Sealed}
use Rattle.sn_rekey.specs.Rewraps.{OpensNotOlder, RewrapsOlder}
use Rattle.sn_rows.specs.Bounds.{HasDeviceLengths, after_colon, before_colon, has_colon, is_colon}
use Rattle.sn_rows.specs.Table.{Puts, Removes, Rows}
use Rattle.sn_rows.specs.declared.body.RowBody.{RowBody}
use Rattle.sn_rows.specs.declared.body.RowBody.TheVariants as row
use Rattle.sn_rows.specs.declared.body.RowStrings.{RowStrings}
use Rattle.sn_rows.specs.declared.change.Change.{Change}
use Rattle.sn_rows.specs.declared.device_rows.LocalItem.{LocalItem}
use Rattle.sn_rows.specs.declared.key.Key.TheVariants as key
use Rattle.sn_rows.specs.declared.value.Value.TheVariants as value
use Rattle.sn_sets.specs.Sets.{sealed_of}
use Rattle.sn_sets.specs.declared.sets.Sets.{Sets}
use Rattle.sn_string.proofs.Facts.{HasNoColon-base64}
use Rattle.sn_string.specs.Grammar.{Reading, colon, joined, version}
use Rattle.sn_sync.specs.Versions.{NamesStamp}
use Rattle.sn_sync.specs.declared.item.Body.{Body}
use Rattle.sn_sync.specs.declared.item.Body.TheVariants as body
use Rattle.sn_sync.specs.declared.item.Item.{Item}
use Rattle.sn_device.specs.States.{Bytes, columns}
use Rattle.sn_taking.specs.Taken.{IsVersion, after, so_far}
use Rattle.sn_device.specs.Taking.{IsKeptAs, MakesRow, Progress, StandsOn, TakesBody, TakesVersion, changed, last_number, with_words}
use Rattle.sn_taking.specs.declared.taken.Effect.TheVariants as effect
use Rattle.sn_taking.specs.declared.taken.Taken.{Taken}

-- ---- the lengths of a string's parts

abbrev IsOther : ℕ → Type 0
IsOther byte = is_colon byte ≡ false

no_colon : (part : Bytes) → All IsOther part → has_colon part ≡ false
no_colon [] plain = refl
no_colon (byte ∷ part) plain =
    let one : is_colon byte ≡ false = All-head IsOther byte part plain in
    let more : has_colon part ≡ false = no_colon part (All-tail IsOther byte part plain) in
    rw (one, more) refl

or_right : (x y : Bool) → y ≡ true → (x || y) ≡ true
or_right true y e = refl
or_right false y e = e

colon_there : (front last : Bytes) → has_colon (front ++ colon ∷ last) ≡ true
colon_there [] last = refl
colon_there (byte ∷ front) last = or_right (is_colon byte) (has_colon (front ++ colon ∷ last)) (colon_there front last)

-- the colon between two texts, of which the second has none, is the last
before_last : (front last : Bytes) → has_colon last ≡ false → before_colon (front ++ colon ∷ last) ≡ front
before_last [] last none = rw none refl
before_last (byte ∷ front) last none =
    let there : has_colon (front ++ colon ∷ last) ≡ true = colon_there front last in
    let more : before_colon (front ++ colon ∷ last) ≡ front = before_last front last none in
    rw there (ap (λ l. byte ∷ l) more)

after_last : (front last : Bytes) → has_colon last ≡ false → after_colon (front ++ colon ∷ last) ≡ last
after_last [] last none = rw none refl
after_last (byte ∷ front) last none =
    let there : has_colon (front ++ colon ∷ last) ≡ true = colon_there front last in
    let more : after_colon (front ++ colon ∷ last) ≡ last = after_last front last none in
    rw there more

abbrev front_of : Reading → Bytes
front_of r = joined (version ∷ r.hash ∷ r.uuid ∷ r.iv ∷ r.ciphertext ∷ [])

joined_front : (v h u i c p : Bytes) → joined (v ∷ h ∷ u ∷ i ∷ c ∷ p ∷ []) ≡ joined (v ∷ h ∷ u ∷ i ∷ c ∷ []) ++ colon ∷ p
joined_front v h u i c p = simp append_assoc

-- a short string fits a row: its parameters are short
device_lengths : (uuid text : Bytes) → IsStringOf uuid text → HasDeviceLengths text
device_lengths uuid text (short, (r, names)) =
    let front : Bytes = front_of r in
    let last : Bytes = r.params_text in
    let none : has_colon last ≡ false = no_colon last (HasNoColon-base64 last names.reads.params.json names.reads.params.encoded).all in
    let text_is : text ≡ front ++ colon ∷ last =
    sym (join_with_byte-slice_split colon text) ∙ ap joined names.reads.parts ∙ joined_front version r.hash r.uuid r.iv r.ciphertext last in
    let before : length (before_colon text) ≡ length front = ap (λ t. length (before_colon t)) text_is ∙ ap length (before_last front last none) in
    let behind : length (after_colon text) ≡ length last = ap (λ t. length (after_colon t)) text_is ∙ ap length (after_last front last none) in
    let long : length text ≡ length front + length (colon ∷ last) = ap length text_is ∙ length-append front (colon ∷ last) in
    let few : length last ≤ 8192 = names.reads.params.short in
    (omega (arith, before, long, short), omega (arith, behind, few))

pub version_lengths : (i : Item) (content enc : Bytes) → IsVersion i → i.body ≡ body.Strings content enc → HasDeviceLengths content × HasDeviceLengths enc
version_lengths i content enc is has =
    let strings : AreStringsOf i.uuid (body.Strings content enc) = subst (AreStringsOf i.uuid) has is.strings in
    (device_lengths i.uuid content strings.0, device_lengths i.uuid enc strings.1)

-- ---- the strings as they are kept

-- those that are sealed again
pub kept_again : (sets : Sets) (words left : ChaCha) (uuid : Bytes) (given : Sealed) (found : Option RowStrings) (again : RowStrings)
    → found ≡ Some again → IfSome found (λ strings. RewrapsOlder sets sets.present words uuid given (sealed_of strings) left)
    → IsKeptAs sets words uuid given again true left
kept_again sets words left uuid given found again is some =
    let r : RewrapsOlder sets sets.present words uuid given (sealed_of again) left =
    subst (λ (o : Option RowStrings). IfSome o (λ strings. RewrapsOlder sets sets.present words uuid given (sealed_of strings) left)) is some in
    inr (r.text, r.opens, r.rewraps, refl)

-- and those that aren't
pub kept_so : (sets : Sets) (words left : ChaCha) (uuid : Bytes) (given : RowStrings) (found : Option RowStrings) → found ≡ None
    → IfNone found (OpensNotOlder sets uuid (sealed_of given) × (left ≡ words)) → IsKeptAs sets words uuid (sealed_of given) given false left
kept_so sets words left uuid given found is none =
    let so : OpensNotOlder sets uuid (sealed_of given) × (left ≡ words) =
    subst (λ (o : Option RowStrings). IfNone o (OpensNotOlder sets uuid (sealed_of given) × (left ≡ words))) is none in
    inl (so.0, refl, refl, so.1)

-- ---- rows that stand on versions

-- the parts of the row
pub record IsRowOf (i : Item) (stamp : ℕ) (strings : RowStrings) (stale : Bool) (latest : Option RowBody) (local : LocalItem) : Type 0 where
  pub uuid_is : local.uuid ≡ i.uuid
  pub kind_is : local.kind ≡ i.kind
  pub base_is : local.base ≡ Some stamp
  pub stale_is : local.stale ≡ stale
  pub body_is : local.body ≡ Some (row.Sealed strings)
  pub latest_is : local.latest ≡ latest
  pub posted_is : local.posted ≡ None

-- the strings of a row are those of the version
kept_of : (sets : Sets) (words left : ChaCha) (uuid content enc : Bytes) (given strings : RowStrings) (stale : Bool) → given.content ≡ content
    → given.enc ≡ enc → IsKeptAs sets words uuid (sealed_of given) strings stale left
    → IsKeptAs sets words uuid (record { content = content; enc = enc }) strings stale left
kept_of sets words left uuid content enc given strings stale content_is enc_is kept =
    subst (λ (e : Bytes). IsKeptAs sets words uuid (record { content = content; enc = e }) strings stale left) enc_is
    (subst (λ (t : Bytes). IsKeptAs sets words uuid (record { content = t; enc = given.enc }) strings stale left) content_is kept)

-- with its strings as they are kept
pub stands_on : (sets : Sets) (words left : ChaCha) (i : Item) (content enc : Bytes) (stamp : ℕ) (given strings : RowStrings) (stale : Bool)
    (latest : Option RowBody) (local : LocalItem) → IsRowOf i stamp strings stale latest local → NamesStamp i stamp → given.content ≡ content
    → given.enc ≡ enc → IsKeptAs sets words i.uuid (sealed_of given) strings stale left
    → StandsOn sets words i content enc latest None (columns local) left
stands_on sets words left i content enc stamp given strings stale latest local is named content_is enc_is kept = record {
  uuid_is = is.uuid_is;
  kind_is = is.kind_is;
  stamp = stamp;
  stamped = named;
  base_is = is.base_is;
  strings = strings;
  kept = subst (λ (b : Bool). IsKeptAs sets words i.uuid (record { content = content; enc = enc }) strings b left) (sym is.stale_is)
      (kept_of sets words left i.uuid content enc given strings stale content_is enc_is kept);
  body_is = is.body_is;
  latest_is = is.latest_is;
  posted_is = is.posted_is;
}

-- nothing is drawn for a deletion
pub takes_deleted : (sets : Sets) (p : Progress) (number : ℕ) (i : Item) (latest : Option RowBody) (change : Change) (words : ChaCha)
    → i.body ≡ body.Deleted → Removes change (key.Local number) → p.words ≡ words
    → TakesVersion sets p number i latest None (with_words (changed p change) words)
takes_deleted sets p number i latest change words has removes same =
    let still : with_words (changed p change) words ≡ changed p change = ap (λ (w : ChaCha). with_words (changed p change) w) (sym same) in
    subst (λ (b : Body). TakesBody sets p number i b latest None (with_words (changed p change) words)) (sym has) (change, removes, still)

pub takes_strings : (sets : Sets) (p : Progress) (number : ℕ) (i : Item) (content enc : Bytes) (latest : Option RowBody) (local : LocalItem)
    (change : Change) (words left : ChaCha) → i.body ≡ body.Strings content enc → p.words ≡ words
    → StandsOn sets words i content enc latest None (columns local) left → Puts change (key.Local number) (value.Local local)
    → TakesVersion sets p number i latest None (with_words (changed p change) left)
takes_strings sets p number i content enc latest local change words left has same stands puts =
    let own : StandsOn sets p.words i content enc latest None (columns local) left =
    subst (λ (w : ChaCha). StandsOn sets w i content enc latest None (columns local) left) (sym same) stands in
    subst (λ (b : Body). TakesBody sets p number i b latest None (with_words (changed p change) left)) (sym has)
    (columns local, left, change, own, record { local = local; puts = puts; columns_are = refl }, refl)

pub makes_none : (sets : Sets) (rows : Rows) (taken : Taken) (words : ChaCha) (i : Item) → i.body ≡ body.Deleted
    → MakesRow sets (so_far rows taken words) i i.body (after (so_far rows taken words) effect.Nothing words)
makes_none sets rows taken words i has =
    subst (λ (b : Body). MakesRow sets (so_far rows taken words) i b (after (so_far rows taken words) effect.Nothing words)) (sym has) refl

pub makes_row : (sets : Sets) (rows : Rows) (taken : Taken) (words left : ChaCha) (i : Item) (content enc : Bytes) (local : LocalItem) (change : Change)
    → taken.next ≢ last_number → i.body ≡ body.Strings content enc → StandsOn sets words i content enc None None (columns local) left
    → Puts change (key.Local taken.next) (value.Local local)
    → MakesRow sets (so_far rows taken words) i i.body (after (so_far rows taken words) (effect.Made change) left)
makes_row sets rows taken words left i content enc local change room has stands puts =
    subst (λ (b : Body). MakesRow sets (so_far rows taken words) i b (after (so_far rows taken words) (effect.Made change) left)) (sym has)
    (room, columns local, left, change, stands, record { local = local; puts = puts; columns_are = refl }, refl)

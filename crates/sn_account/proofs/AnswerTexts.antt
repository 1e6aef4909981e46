-- How long the JSON of items, conflicts and refusals is at most.
use Rattle.std.proofs.Common.{◌≡◌, ℕ, ◌+◌, ◌*◌, ◌≤◌, Bool, true, false, cond, List, [], ◌∷◌, ◌++◌, length, Option, Some, None, All, codes, sum_by, ap, ◌∙◌, rules, arith, length-append}
use Rattle.std.proofs.lemmas.List.Elements.{All-head, All-tail}
use Rattle.std.proofs.lemmas.List.Sums.{sum_by-cons}
use Rattle.json.specs.Print.{escape, escape_byte, quoted}
use Rattle.serde_json.specs.Data.{Data, Items, Members, boolean, item, member, no_items, no_members, null, string}
use Rattle.serde_json.specs.Written.{comma_if, compact_text, items_text, members_text}
use Rattle.uuid.proofs.TextLemmas.{by_index_length}
use Rattle.sn_string.specs.Uuids.{uuid_text}
use Rattle.sn_sync.proofs.Facts.{length-padded}
use Rattle.sn_sync.specs.Answers.{content_error, sync_conflict, uuid_conflict}
use Rattle.sn_sync.specs.Stamps.{Moment, moment_text}
use Rattle.sn_sync.specs.Written.{AreConflictsData, AreItemsData, IsConflictData, IsCreatedData, IsItemData, item_data, optional_data, uuid_data}
use Rattle.sn_sync.specs.declared.answer.Conflict.{Conflict}
use Rattle.sn_sync.specs.declared.answer.Conflict.TheVariants as conflict
use Rattle.sn_sync.specs.declared.item.Body.{Body}
use Rattle.sn_sync.specs.declared.item.Body.TheVariants as body
use Rattle.sn_sync.specs.declared.item.Item.{Item}
use Rattle.sn_account.specs.AnswerSize.{AreUnescaped, NamesShortly, StampsAreShort, strings_size}
use Rattle.sn_account.specs.Lookups.{Bytes}
use Rattle.sn_account.specs.Syncs.{strings_in}
use Rattle.sn_account.specs.Tells.{item_of}
use Rattle.sn_account.proofs.UnescapedTexts.{length-quoted_unescaped}

-- ---- texts and members

length-cond : (b : Bool) (n : ℕ) (xs ys : Bytes) → length xs ≤ n → length ys ≤ n → length (cond b xs ys) ≤ n
length-cond true n xs ys h k = h
length-cond false n xs ys h k = k

length-escape_byte : (x : ℕ) → length (escape_byte x) ≤ 6
unfolding escape_byte
length-escape_byte x = search (rules, length-cond)

length-escape : (s : Bytes) → length (escape s) ≤ 6 * length s
length-escape [] = omega arith
length-escape (x ∷ s) =
    let one = length-escape_byte x in
    let others = length-escape s in
    omega (arith, length-append (escape_byte x) (escape s))

-- a byte takes at most six
pub length-quoted : (s : Bytes) → length (quoted s) ≤ 6 * length s + 2
length-quoted s =
    let text = length-escape s in
    omega (arith, length-append (escape s) (34 ∷ []))

length-comma : (later : Bool) → length (comma_if later) ≤ 1
length-comma true = omega arith
length-comma false = omega arith

-- a member: a comma, its name, a colon and its value
pub length-member : (later : Bool) (k : Bytes) (d : Data) (ms : Members)
    → length (members_text later (member k d ms)) ≤ 6 * length k + 4 + length (compact_text d) + length (members_text true ms)
length-member later k d ms =
    let comma = length-comma later in
    let name = length-quoted k in
    omega (
      arith,
      length-append (comma_if later) (quoted k ++ 58 ∷ (compact_text d ++ members_text true ms)),
      length-append (quoted k) (58 ∷ (compact_text d ++ members_text true ms)),
      length-append (compact_text d) (members_text true ms),
    )

-- ---- the parts of an item

length-moment : (m : Moment) → length (moment_text m) ≡ 27
unfolding moment_text
length-moment m =
    simp (length-append, length-padded) (omega arith)

pub length-stamp : StampsAreShort
length-stamp text stamp is = ap length is.spelled ∙ length-moment is.moment

length-created : (o : Option ℕ) (d : Data) → IsCreatedData o d → length (compact_text d) ≤ 164
length-created None d is = (let e = ap (λ (x : Data). length (compact_text x)) is in omega arith)
length-created (Some stamp) d (text, spells, is) =
    let e = ap (λ (x : Data). length (compact_text x)) is in
    let size = length-stamp text stamp spells in
    let long = length-quoted text in
    omega arith

length-optional : (o : Option Bytes) → NamesShortly o → length (compact_text (optional_data o)) ≤ 1532
length-optional None is = omega arith
length-optional (Some text) is = (let long = length-quoted text in omega arith)

pub length-uuid : (uuid : Bytes) → length (compact_text (uuid_data uuid)) ≤ 218
length-uuid uuid =
    let size : length (uuid_text uuid) ≡ 36 = by_index_length 36 _ in
    let long = length-quoted (uuid_text uuid) in
    omega arith

-- an item whose type and version are short, and whose strings stand in JSON as they are
pub record IsSlim (i : Item) : Type 0 where
  pub kind : length i.kind ≤ 255
  pub named : NamesShortly i.updated_at
  pub unescaped : All AreUnescaped (strings_in i.body)

length-data : (created : Data) (i : Item) (b : Body) → length (compact_text created) ≤ 164 → length i.kind ≤ 255 → NamesShortly i.updated_at
    → All AreUnescaped (strings_in b) → length (compact_text (item_data created i b)) ≤ 4000 + strings_size b
length-data created i (body.Strings content enc) first kind named unescaped =
    let seventh : Members = member (codes "uuid") (uuid_data i.uuid) no_members in
    let sixth : Members = member (codes "updated_at") (optional_data i.updated_at) seventh in
    let fifth : Members = member (codes "enc_item_key") (string enc) sixth in
    let fourth : Members = member (codes "deleted") (boolean false) fifth in
    let third : Members = member (codes "created_at") created fourth in
    let second : Members = member (codes "content_type") (string i.kind) third in
    let a = length-member false (codes "content") (string content) second in
    let b = length-member true (codes "content_type") (string i.kind) third in
    let c = length-member true (codes "created_at") created fourth in
    let d = length-member true (codes "deleted") (boolean false) fifth in
    let e = length-member true (codes "enc_item_key") (string enc) sixth in
    let f = length-member true (codes "updated_at") (optional_data i.updated_at) seventh in
    let g = length-member true (codes "uuid") (uuid_data i.uuid) no_members in
    let type = length-quoted i.kind in
    let version = length-optional i.updated_at named in
    let uuid = length-uuid i.uuid in
    let sealed = length-quoted_unescaped content (All-head AreUnescaped content (enc ∷ []) unescaped) in
    let item_key = length-quoted_unescaped enc (All-head AreUnescaped enc [] (All-tail AreUnescaped content (enc ∷ []) unescaped)) in
    omega arith
length-data created i body.Deleted first kind named unescaped =
    let seventh : Members = member (codes "uuid") (uuid_data i.uuid) no_members in
    let sixth : Members = member (codes "updated_at") (optional_data i.updated_at) seventh in
    let fifth : Members = member (codes "enc_item_key") null sixth in
    let fourth : Members = member (codes "deleted") (boolean true) fifth in
    let third : Members = member (codes "created_at") created fourth in
    let second : Members = member (codes "content_type") (string i.kind) third in
    let a = length-member false (codes "content") null second in
    let b = length-member true (codes "content_type") (string i.kind) third in
    let c = length-member true (codes "created_at") created fourth in
    let d = length-member true (codes "deleted") (boolean true) fifth in
    let e = length-member true (codes "enc_item_key") null sixth in
    let f = length-member true (codes "updated_at") (optional_data i.updated_at) seventh in
    let g = length-member true (codes "uuid") (uuid_data i.uuid) no_members in
    let type = length-quoted i.kind in
    let version = length-optional i.updated_at named in
    let uuid = length-uuid i.uuid in
    omega arith

length-item : (i : Item) (d : Data) → IsItemData i d → IsSlim i → length (compact_text d) ≤ 4000 + strings_size i.body
length-item i d is slim =
    let text = length-data is.created i i.body (length-created i.created is.created is.spells) slim.kind slim.named slim.unescaped in
    let same = ap (λ (x : Data). length (compact_text x)) is.is in
    omega arith

-- ---- lists

-- an element: a comma and its value
length-element : (later : Bool) (d : Data) (ds : Items) → length (items_text later (item d ds)) ≤ 1 + length (compact_text d) + length (items_text true ds)
length-element later d ds =
    let comma = length-comma later in
    omega (arith, length-append (comma_if later) (compact_text d ++ items_text true ds), length-append (compact_text d) (items_text true ds))

abbrev pub item_size : Item → ℕ
item_size i = strings_size i.body

pub length-items : (later : Bool) (is : List Item) (ds : Items) → AreItemsData is ds → All IsSlim is
    → length (items_text later ds) ≤ 1 + length is * 4001 + sum_by item_size is
length-items later [] no_items are slim = omega arith
length-items later [] (item d ds) are slim = absurd are
length-items later (i ∷ is) no_items are slim = absurd are
length-items later (i ∷ is) (item d ds) are slim =
    let one = length-item i d are.0 (All-head IsSlim i is slim) in
    let others = length-items true is ds are.1 (All-tail IsSlim i is slim) in
    let both = length-element later d ds in
    let sizes = sum_by-cons item_size i is in
    omega arith

abbrev pub conflict_size : Conflict → ℕ
conflict_size c = strings_size (item_of c).body

abbrev pub IsSlimConflict : Conflict → Type 0
IsSlimConflict c = IsSlim (item_of c)

length-conflict : (c : Conflict) (d : Data) → IsConflictData c d → IsSlimConflict c → length (compact_text d) ≤ 4400 + conflict_size c
length-conflict (conflict.Sync server) d (inner, is, e) slim =
    let one = length-item server inner is slim in
    let last : Members = member (codes "type") (string sync_conflict) no_members in
    let a = length-member false (codes "server_item") inner last in
    let b = length-member true (codes "type") (string sync_conflict) no_members in
    let type = length-quoted sync_conflict in
    let same = ap (λ (x : Data). length (compact_text x)) e in
    omega arith
length-conflict (conflict.Uuid unsaved) d (inner, is, e) slim =
    let one = length-item unsaved inner is slim in
    let last : Members = member (codes "unsaved_item") inner no_members in
    let a = length-member false (codes "type") (string uuid_conflict) last in
    let b = length-member true (codes "unsaved_item") inner no_members in
    let type = length-quoted uuid_conflict in
    let same = ap (λ (x : Data). length (compact_text x)) e in
    omega arith
length-conflict (conflict.Content unsaved) d (inner, is, e) slim =
    let one = length-item unsaved inner is slim in
    let last : Members = member (codes "unsaved_item") inner no_members in
    let a = length-member false (codes "type") (string content_error) last in
    let b = length-member true (codes "unsaved_item") inner no_members in
    let type = length-quoted content_error in
    let same = ap (λ (x : Data). length (compact_text x)) e in
    omega arith

pub length-conflicts : (later : Bool) (cs : List Conflict) (ds : Items) → AreConflictsData cs ds → All IsSlimConflict cs
    → length (items_text later ds) ≤ 1 + length cs * 4401 + sum_by conflict_size cs
length-conflicts later [] no_items are slim = omega arith
length-conflicts later [] (item d ds) are slim = absurd are
length-conflicts later (c ∷ cs) no_items are slim = absurd are
length-conflicts later (c ∷ cs) (item d ds) are slim =
    let one = length-conflict c d are.0 (All-head IsSlimConflict c cs slim) in
    let others = length-conflicts true cs ds are.1 (All-tail IsSlimConflict c cs slim) in
    let both = length-element later d ds in
    let sizes = sum_by-cons conflict_size c cs in
    omega arith

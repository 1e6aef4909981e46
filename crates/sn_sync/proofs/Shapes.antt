-- What is written has no float and is at most a few levels deep, so that it reads back.
use Rattle.std.proofs.Common.{arith, ◌≡◌, sym, subst, ℕ, suc, ◌≤◌, List, [], ◌∷◌, true, false, Option, Some, None, Result, Ok, Err, String, Global, string_bytes, refl}
use Rattle.std.specs.Prelude.{IfOk}
use Rattle.std.specs.declared.alloc.AllocError.{AllocError}
use Rattle.std.proofs.lemmas.Str.{IsUtf8-string_bytes}
use Rattle.serde_json.specs.Data.{Data, Items, Members, array, boolean, depth, item, items_depth, member, members_depth, no_items, no_members, null, number, object, string, unsigned}
use Rattle.serde_json.specs.Read.{max_depth, read}
use Rattle.serde_json.specs.Written.{compact_text, has_float, items_have_float, members_have_float}
use Rattle.sn_sync.specs.Members.{Bytes}
use Rattle.sn_sync.specs.Written.{AreConflictsData, AreItemsData, IsAnswerData, IsConflictData, IsCreatedData, IsItemData, IsJsonOf, IsRequestData, WritesRequest, error_data, item_data, optional_data}
use Rattle.sn_sync.specs.declared.answer.Answer.{Answer}
use Rattle.sn_sync.specs.declared.answer.Answer.TheVariants as answer
use Rattle.sn_sync.specs.declared.answer.Conflict.{Conflict}
use Rattle.sn_sync.specs.declared.answer.Conflict.TheVariants as conflict
use Rattle.sn_sync.specs.declared.answer.More.{More}
use Rattle.sn_sync.specs.declared.answer.More.TheVariants as more
use Rattle.sn_sync.specs.declared.item.Body.{Body}
use Rattle.sn_sync.specs.declared.item.Body.TheVariants as body
use Rattle.sn_sync.specs.declared.item.Item.{Item}
use Rattle.sn_sync.specs.declared.request.Request.{Request}
use Rattle.sn_sync.specs.declared.request.Request.TheVariants as request

-- no float, and at most n levels
pub record IsShallow (n : ℕ) (d : Data) : Type 0 where
  pub whole : has_float d ≡ false
  pub levels : depth d ≤ n

record AreShallow (n : ℕ) (ds : Items) : Type 0 where
  pub whole : items_have_float ds ≡ false
  pub levels : items_depth ds ≤ n

record HasShallow (n : ℕ) (ms : Members) : Type 0 where
  pub whole : members_have_float ms ≡ false
  pub levels : members_depth ms ≤ n

-- ---- how they are put together

null-shallow : {n : ℕ} → IsShallow n null
null-shallow {n} = record { whole = refl; levels = omega arith }

text-shallow : {n : ℕ} {s : Bytes} → IsShallow n (string s)
text-shallow {n} {s} = record { whole = refl; levels = omega arith }

true-shallow : {n : ℕ} → IsShallow n (boolean true)
true-shallow {n} = record { whole = refl; levels = omega arith }

false-shallow : {n : ℕ} → IsShallow n (boolean false)
false-shallow {n} = record { whole = refl; levels = omega arith }

number-shallow : {n m : ℕ} → IsShallow n (number (unsigned m))
number-shallow {n} {m} = record { whole = refl; levels = omega arith }

no_items-shallow : {n : ℕ} → AreShallow n no_items
no_items-shallow {n} = record { whole = refl; levels = omega arith }

item-shallow : {n : ℕ} {d : Data} {ds : Items} → IsShallow n d → AreShallow n ds → AreShallow n (item d ds)
item-shallow {n} {d} {ds} one rest = record { whole = rw one.whole rest.whole; levels = omega (arith, one.levels, rest.levels) }

array-shallow : {n : ℕ} {ds : Items} → AreShallow n ds → IsShallow (suc n) (array ds)
array-shallow {n} {ds} h = record { whole = h.whole; levels = omega (arith, h.levels) }

no_members-shallow : {n : ℕ} → HasShallow n no_members
no_members-shallow {n} = record { whole = refl; levels = omega arith }

member-shallow : {n : ℕ} {k : Bytes} {d : Data} {ms : Members} → IsShallow n d → HasShallow n ms → HasShallow n (member k d ms)
member-shallow {n} {k} {d} {ms} one rest = record { whole = rw one.whole rest.whole; levels = omega (arith, one.levels, rest.levels) }

object-shallow : {n : ℕ} {ms : Members} → HasShallow n ms → IsShallow (suc n) (object ms)
object-shallow {n} {ms} h = record { whole = h.whole; levels = omega (arith, h.levels) }

-- of one level and of several
deeper : {n : ℕ} {d : Data} → IsShallow n d → IsShallow (suc n) d
deeper {n} {d} h = record { whole = h.whole; levels = omega (arith, h.levels) }

same-shallow : {n : ℕ} {d e : Data} → d ≡ e → IsShallow n e → IsShallow n d
same-shallow {n} {d} {e} same h = let P : Data → Type 0 = λ x. IsShallow n x in subst P (sym same) h

optional-shallow : {n : ℕ} (text : Option Bytes) → IsShallow n (optional_data text)
optional-shallow {n} None = null-shallow
optional-shallow {n} (Some text) = text-shallow

-- ---- items

created-shallow : (created : Option ℕ) (d : Data) → IsCreatedData created d → IsShallow 0 d
created-shallow None d h = same-shallow h null-shallow
created-shallow (Some stamp) d h = same-shallow h.2 text-shallow

version-shallow : (d : Data) (i : Item) (b : Body) → IsShallow 0 d → IsShallow 1 (item_data d i b)
version-shallow d i (body.Strings content enc) h = object-shallow (member-shallow text-shallow (member-shallow text-shallow
    (member-shallow h (member-shallow false-shallow (member-shallow text-shallow
    (member-shallow (optional-shallow i.updated_at) (member-shallow text-shallow no_members-shallow)))))))
version-shallow d i body.Deleted h = object-shallow (member-shallow null-shallow (member-shallow text-shallow
    (member-shallow h (member-shallow true-shallow (member-shallow null-shallow
    (member-shallow (optional-shallow i.updated_at) (member-shallow text-shallow no_members-shallow)))))))

one-shallow : (i : Item) (d : Data) → IsItemData i d → IsShallow 1 d
one-shallow i d h = same-shallow h.is (version-shallow h.created i i.body (created-shallow i.created h.created h.spells))

items-shallow : (is : List Item) (ds : Items) → AreItemsData is ds → AreShallow 1 ds
items-shallow [] no_items h = no_items-shallow
items-shallow [] (item d ds) h = absurd h
items-shallow (i ∷ is) no_items h = absurd h
items-shallow (i ∷ is) (item d ds) h = item-shallow (one-shallow i d h.0) (items-shallow is ds h.1)

-- ---- requests

pub request-shallow : (r : Request) (d : Data) → IsRequestData r d → IsShallow 3 d
request-shallow (request.Register params pw) d h = same-shallow h (object-shallow (member-shallow text-shallow
    (member-shallow text-shallow (member-shallow number-shallow (member-shallow text-shallow (member-shallow text-shallow no_members-shallow))))))
request-shallow (request.Params identifier) d h = absurd h
request-shallow (request.SignIn identifier pw) d h =
    same-shallow h (object-shallow (member-shallow text-shallow (member-shallow text-shallow no_members-shallow)))
request-shallow (request.ChangePw token current pw cost nonce) d h = same-shallow h (object-shallow (member-shallow text-shallow
    (member-shallow text-shallow (member-shallow number-shallow (member-shallow text-shallow (member-shallow text-shallow no_members-shallow))))))
request-shallow (request.Sync token items limit sync_token cursor_token) d h = same-shallow h.2 (object-shallow (member-shallow text-shallow
    (member-shallow (optional-shallow cursor_token) (member-shallow (array-shallow (items-shallow items h.0 h.1))
    (member-shallow number-shallow (member-shallow (optional-shallow sync_token) no_members-shallow))))))

-- ---- answers

one_conflict-shallow : (c : Conflict) (d : Data) → IsConflictData c d → IsShallow 2 d
one_conflict-shallow (conflict.Sync server) d h =
    same-shallow h.2 (object-shallow (member-shallow (one-shallow server h.0 h.1) (member-shallow text-shallow no_members-shallow)))
one_conflict-shallow (conflict.Uuid unsaved) d h =
    same-shallow h.2 (object-shallow (member-shallow text-shallow (member-shallow (one-shallow unsaved h.0 h.1) no_members-shallow)))
one_conflict-shallow (conflict.Content unsaved) d h =
    same-shallow h.2 (object-shallow (member-shallow text-shallow (member-shallow (one-shallow unsaved h.0 h.1) no_members-shallow)))

conflicts-shallow : (cs : List Conflict) (ds : Items) → AreConflictsData cs ds → AreShallow 2 ds
conflicts-shallow [] no_items h = no_items-shallow
conflicts-shallow [] (item d ds) h = absurd h
conflicts-shallow (c ∷ cs) no_items h = absurd h
conflicts-shallow (c ∷ cs) (item d ds) h = item-shallow (one_conflict-shallow c d h.0) (conflicts-shallow cs ds h.1)

error-shallow : (tag : Bytes) (further : More) → IsShallow 3 (error_data tag further)
error-shallow tag more.Nothing = object-shallow (member-shallow text-shallow no_members-shallow)
error-shallow tag (more.Name name) = object-shallow (member-shallow text-shallow (member-shallow text-shallow no_members-shallow))
error-shallow tag (more.Number n) = object-shallow (member-shallow number-shallow (member-shallow text-shallow no_members-shallow))
error-shallow tag (more.Uuid uuid) = object-shallow (member-shallow text-shallow (member-shallow text-shallow no_members-shallow))
error-shallow tag (more.Both n uuid) =
    object-shallow (member-shallow number-shallow (member-shallow text-shallow (member-shallow text-shallow no_members-shallow)))

pub answer-shallow : (a : Answer) (d : Data) → IsAnswerData a d → IsShallow 4 d
answer-shallow (answer.Account token identifier uuid) d h = same-shallow h (object-shallow (member-shallow text-shallow
    (member-shallow (object-shallow (member-shallow text-shallow (member-shallow text-shallow no_members-shallow))) no_members-shallow)))
answer-shallow (answer.Params params) d h = same-shallow h (object-shallow (member-shallow text-shallow (member-shallow number-shallow
    (member-shallow text-shallow (member-shallow text-shallow no_members-shallow)))))
answer-shallow (answer.Sync conflicts cursor_token retrieved saved sync_token) d h = same-shallow h.6 (object-shallow
    (member-shallow (array-shallow (conflicts-shallow conflicts h.0 h.3)) (member-shallow (optional-shallow cursor_token)
    (member-shallow (deeper (array-shallow (items-shallow retrieved h.1 h.4))) (member-shallow (deeper (array-shallow (items-shallow saved h.2 h.5)))
    (member-shallow text-shallow no_members-shallow))))))
answer-shallow (answer.Refused status tag further) d h = same-shallow h (object-shallow (member-shallow (error-shallow tag further) no_members-shallow))

-- ---- the text

pub IsJsonOf-written : (d : Data) (r : Result (String Global) AllocError) → has_float d ≡ false → depth d ≤ max_depth
    → IfOk r (λ s. has_float d ≡ false → string_bytes s ≡ compact_text d) → IfOk r (λ s. depth d ≤ max_depth → read (string_bytes s) ≡ Some d)
    → IfOk r (λ s. IsJsonOf d (string_bytes s))
IsJsonOf-written d (Ok s) whole levels text reads = record { utf8 = IsUtf8-string_bytes s; compact = text whole; reads = reads levels }
IsJsonOf-written d (Err e) whole levels text reads = tt

pub WritesRequest-body : (r : Request) (d : Data) (text : Bytes) → IsRequestData r d → IsJsonOf d text → WritesRequest r text
WritesRequest-body (request.Register params pw) d text is h = (d, is, h)
WritesRequest-body (request.Params identifier) d text is h = absurd is
WritesRequest-body (request.SignIn identifier pw) d text is h = (d, is, h)
WritesRequest-body (request.ChangePw token current pw cost nonce) d text is h = (d, is, h)
WritesRequest-body (request.Sync token items limit sync_token cursor_token) d text is h = (d, is, h)

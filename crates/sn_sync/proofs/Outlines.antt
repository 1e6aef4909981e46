-- The tokens that are written of a sync are read as its value.
use Rattle.std.proofs.Common.{arith, ◌≡◌, ◌∙◌, sym, ap, ap₂, subst, refl, ℕ, suc, max, ◌<◌, ◌≤◌, ◌^◌, List, [], ◌∷◌, Option, Some, None, option_and_then, append-nil}
use Rattle.std.specs.Str.{IsUtf8}
use Rattle.json.specs.Json.{Json, if_last, value}
use Rattle.json.specs.Lex.{tokens}
use Rattle.json.specs.Print.{print}
use Rattle.json.specs.Token.{Token}
use Rattle.json.specs.Tree as tree
use Rattle.json.proofs.Printed.Trees.{value-json_tokens}
use Rattle.serde_json.specs.Data.{Data, Items, Members, array, boolean, depth, item, items_depth, member, members_depth, no_items, no_members, null, number, object, string}
use Rattle.serde_json.specs.Read.{max_depth, of_items, of_json}
use Rattle.serde_json.specs.Written.{items_outline, members_outline, outline}
use Rattle.serde_json.proofs.Numbers.{number_of-decimal}
use Rattle.serde_json.proofs.Texts.{print-outline}
use Rattle.sn_sync.specs.Appended.{IsReadable}
use Rattle.sn_sync.specs.Members.{Bytes}
use Rattle.sn_sync.specs.Written.{AreConflictsData, AreItemsData, IsConflictData, IsCreatedData, IsItemData, IsJsonOf, item_data, optional_data, sync_data, synced_data}
use Rattle.sn_sync.specs.declared.answer.Answer.TheVariants as answer
use Rattle.sn_sync.specs.declared.answer.Conflict.{Conflict}
use Rattle.sn_sync.specs.declared.answer.Conflict.TheVariants as conflict
use Rattle.sn_sync.specs.declared.item.Body.{Body}
use Rattle.sn_sync.specs.declared.item.Body.TheVariants as body
use Rattle.sn_sync.specs.declared.item.Item.{Item}
use Rattle.sn_sync.specs.declared.request.Request.TheVariants as request
use Rattle.sn_sync.proofs.Shapes.{IsShallow, answer-shallow, request-shallow}

-- ---- an outline is as deep as its value

mutual
  depth-outline : (d : Data) → tree.depth (outline d) ≡ depth d
  depth-outline null = refl
  depth-outline (boolean b) = refl
  depth-outline (number n) = refl
  depth-outline (string s) = refl
  depth-outline (array ds) = ap (λ n. suc n) (items_depth-outline ds)
  depth-outline (object ms) = ap (λ n. suc n) (members_depth-outline ms)

  items_depth-outline : (ds : Items) → tree.items_depth (items_outline ds) ≡ items_depth ds
  items_depth-outline no_items = refl
  items_depth-outline (item d ds) = ap₂ max (depth-outline d) (items_depth-outline ds)

  members_depth-outline : (ms : Members) → tree.members_depth (members_outline ms) ≡ members_depth ms
  members_depth-outline no_members = refl
  members_depth-outline (member k d ms) = ap₂ max (depth-outline d) (members_depth-outline ms)

-- ---- and says it: keys in order stay where they are, and there is no float

abbrev SaysItself : Data → Type 0
SaysItself d = of_json (outline d) ≡ Some d

created-says : (created : Option ℕ) (d : Data) → IsCreatedData created d → SaysItself d
created-says None d h = subst SaysItself (sym h) refl
created-says (Some stamp) d h = subst SaysItself (sym h.2) refl

optional-says : (text : Option Bytes) → SaysItself (optional_data text)
optional-says None = refl
optional-says (Some text) = refl

version-says : (d : Data) (i : Item) (b : Body) → SaysItself d → SaysItself (item_data d i b)
version-says d i (body.Strings content enc) h = rw (h, optional-says i.updated_at) refl
version-says d i body.Deleted h = rw (h, optional-says i.updated_at) refl

item-says : (i : Item) (d : Data) → IsItemData i d → SaysItself d
item-says i d h = subst SaysItself (sym h.is) (version-says h.created i i.body (created-says i.created h.created h.spells))

items-say : (is : List Item) (ds : Items) → AreItemsData is ds → of_items (items_outline ds) ≡ Some ds
items-say [] no_items h = refl
items-say [] (item d ds) h = absurd h
items-say (i ∷ is) no_items h = absurd h
items-say (i ∷ is) (item d ds) h = rw (item-says i d h.0, items-say is ds h.1) refl

conflict-says : (c : Conflict) (d : Data) → IsConflictData c d → SaysItself d
conflict-says (conflict.Sync server) d h = subst SaysItself (sym h.2) (rw (item-says server h.0 h.1) refl)
conflict-says (conflict.Uuid unsaved) d h = subst SaysItself (sym h.2) (rw (item-says unsaved h.0 h.1) refl)
conflict-says (conflict.Content unsaved) d h = subst SaysItself (sym h.2) (rw (item-says unsaved h.0 h.1) refl)

conflicts-say : (cs : List Conflict) (ds : Items) → AreConflictsData cs ds → of_items (items_outline ds) ≡ Some ds
conflicts-say [] no_items h = refl
conflicts-say [] (item d ds) h = absurd h
conflicts-say (c ∷ cs) no_items h = absurd h
conflicts-say (c ∷ cs) (item d ds) h = rw (conflict-says c d h.0, conflicts-say cs ds h.1) refl

-- ---- a request and an answer

pub sync-readable : (is : List Item) (ds : Items) (limit : ℕ) (sync_token cursor_token : Option Bytes) → limit < 2 ^ 64 → AreItemsData is ds
    → IsReadable (sync_data ds limit sync_token cursor_token)
sync-readable is ds limit sync_token cursor_token few h =
    let d : Data = sync_data ds limit sync_token cursor_token in
    let shallow : IsShallow 3 d = request-shallow (request.Sync [] is limit sync_token cursor_token) d (ds, h, refl) in
    record {
      reads = rw (optional-says cursor_token, items-say is ds h, number_of-decimal limit few, optional-says sync_token) refl;
      shallow = omega (arith, shallow.levels);
    }

pub synced-readable : (conflicts : List Conflict) (retrieved saved : List Item) (cs gs ss : Items) (cursor_token : Option Bytes) (sync_token : Bytes)
    → AreConflictsData conflicts cs → AreItemsData retrieved gs → AreItemsData saved ss → IsReadable (synced_data cs cursor_token gs ss sync_token)
synced-readable conflicts retrieved saved cs gs ss cursor_token sync_token c g s =
    let d : Data = synced_data cs cursor_token gs ss sync_token in
    let shallow : IsShallow 4 d = answer-shallow (answer.Sync conflicts cursor_token retrieved saved sync_token) d (cs, gs, ss, c, g, s, refl) in
    record {
      reads = rw (conflicts-say conflicts cs c, optional-says cursor_token, items-say retrieved gs g, items-say saved ss s) refl;
      shallow = omega (arith, shallow.levels);
    }

-- ---- the text

pub IsJsonOf-tokens : (d : Data) (ts : List Token) (text : Bytes) → IsReadable d → ts ≡ tree.json_tokens (outline d) → text ≡ print ts
    → tokens (print ts) ≡ ts → IsUtf8 (print ts) → IsJsonOf d text
IsJsonOf-tokens d ts text h is printed back utf8 =
    let j : Json = outline d in
    let shallow : tree.depth j ≤ max_depth = omega (arith, depth-outline d, h.shallow) in
    let found : tokens text ≡ tree.json_tokens j = ap tokens printed ∙ back ∙ is in
    record {
      utf8 = subst IsUtf8 (sym printed) utf8;
      compact = printed ∙ ap print is ∙ print-outline d;
      reads =
          ap (λ read. option_and_then of_json (option_and_then (λ p. if_last p.0 p.1) read))
          (ap (value max_depth) (found ∙ sym (append-nil (tree.json_tokens j))) ∙ value-json_tokens j max_depth [] shallow)
          ∙ h.reads;
    }

-- What a commit says is what is computed.
use Rattle.std.proofs.Common.{◌≡◌, ◌⊎◌, ℕ, Bool, true, false, List, [], ◌∷◌, ◌++◌, length, Option, Some, None, refl, sym, ap, ◌∙◌, subst, inl, inr, ⊎_elim}
use Rattle.std.proofs.lemmas.Bool.{cases_Bool}
use Rattle.std.proofs.lemmas.List.{append-nil}
use Rattle.std.specs.List.{AllZip, flat_map, list_any}
use Rattle.std.specs.Option.{option_and_then, option_to_list}
use Rattle.std.specs.Prelude.{◌&&◌, if◌then◌else◌, is_none}
use Rattle.std.specs.Str.{bytes_eq}
use Rattle.rand_chacha.specs.ChaCha.{ChaCha}
use Rattle.sn_adopted.specs.Moves.{IsRetiring}
use Rattle.sn_device.specs.Laws.{AreStanding, StayStanding}
use Rattle.sn_device.specs.Sending.{PostsAll, PutsColumns}
use Rattle.sn_device.specs.States.{AreSoundLocals, HasItem, HasLocal, IsInSlot, columns}
use Rattle.sn_device.specs.Steps.{AppliesTo, Deletes, Edits, IsUnknown, Retires, Step, adopts, applies, asks, begins, deletes, drafted, edits, forgets, posts, puts, renews, start}
use Rattle.sn_device.specs.Taking.{told_by}
use Rattle.sn_conflict.specs.Checks.{Passes}
use Rattle.sn_laws.proofs.Facts.{one_there}
use Rattle.sn_laws.specs.Lookups.{Bytes, account_named, device_named, held_by}
use Rattle.sn_laws.specs.declared.ideal.Account.{Account}
use Rattle.sn_laws.specs.declared.ideal.Content.TheVariants as content
use Rattle.sn_laws.specs.declared.moves.Move.{Move}
use Rattle.sn_laws.specs.declared.moves.Move.TheVariants.{Drop, Edit, Join, Post}
use Rattle.sn_rows.specs.Table.{Removes, Rows, key_of, rows_after, value_of}
use Rattle.sn_rows.specs.declared.body.RowBody.{RowBody}
use Rattle.sn_rows.specs.declared.body.RowBody.TheVariants as row
use Rattle.sn_rows.specs.declared.change.Change.{Change}
use Rattle.sn_rows.specs.declared.device_rows.LocalItem.{LocalItem}
use Rattle.sn_rows.specs.declared.key.Key.{Key}
use Rattle.sn_rows.specs.declared.key.Key.TheVariants as key
use Rattle.sn_rows.specs.declared.key.Slot.TheVariants.{Older}
use Rattle.sn_rows.specs.declared.value.Value.{Value}
use Rattle.sn_rows.specs.declared.value.Value.TheVariants as value
use Rattle.sn_string.specs.declared.params.KeySet.{KeySet}
use Rattle.sn_sync.specs.Laws.{HasOneStamp}
use Rattle.sn_sync.specs.declared.answer.Answer.{Answer}
use Rattle.sn_sync.specs.declared.answer.Answer.TheVariants as answer
use Rattle.sn_sync.specs.declared.answer.Conflict.{Conflict}
use Rattle.sn_sync.specs.declared.item.Item.{Item}
use Rattle.sn_sync.specs.declared.request.Request.{Request}
use Rattle.sn_sync.specs.declared.request.Request.TheVariants as request
use Rattle.sn_world.specs.Applying.{SaysAnswer, SaysApplied}
use Rattle.sn_moves.specs.Commits.{change_moved, deletion_of, edit_of, item_moved, moves_of}
use Rattle.sn_world.specs.Committing.{IsPostOf, SaysCommit, SaysDeletion, SaysEdit}
use Rattle.sn_moves.specs.Drafts.{answered, copy_made, item_at, item_found, item_left, item_move}
use Rattle.sn_laws.specs.Reached.{DeletionsStay}
use Rattle.sn_world.specs.Happens.{commits}
use Rattle.sn_world.specs.Laws.{SaysSome}
use Rattle.sn_world.specs.Plain.{PlainRows}
use Rattle.sn_moves.specs.Laws.{HoldsNoOlder, KeepsDeletions, SaysAnswered, SaysComputed, SaysOne, SaysPlainly}
use Rattle.sn_moves.specs.Foreign.{foreign_in, foreign_of}
use Rattle.sn_moves.specs.declared.done.Done.{Done}
use Rattle.sn_moves.specs.declared.done.Done.TheVariants as done
use Rattle.sn_moves.proofs.ApartLemmas.{told_all, told_apart, told_checked}
use Rattle.sn_moves.proofs.Shown.{keeps_deletions}
use Rattle.sn_moves.proofs.ToldLemmas.{AreLeft, IsIn, IsOut, all_said, foreign_told}
use Rattle.sn_moves.proofs.Turns.{Said, found_at}

-- ---- one item

abbrev local_in : Option Value → Option LocalItem
local_in (Some (value.Local local)) = Some local
local_in found = None

same_local : (rows : Rows) (n : ℕ) (l m : LocalItem) → HasLocal rows n l → HasLocal rows n m → l ≡ m
same_local rows n l m has there = one_there l m (local_in (rows (key.Local n))) (ap local_in has) (ap local_in there)

-- a uuid is that of one item
same_item : (rows : Rows) → AreSoundLocals rows → (uuid : Bytes) (n k : ℕ) (l m : LocalItem) → HasItem rows uuid n l → HasItem rows uuid k m → l ≡ m
same_item rows sound uuid n k l m has there =
    let at : n ≡ k = sound.apart n k l m has.0 there.0 (has.1 ∙ sym there.1) in
    same_local rows k l m (subst (λ (x : ℕ). HasLocal rows x l) at has.0) there.0

-- ---- what is done to it

moved_one : (rows : Rows) (name : Bytes) (what : Done) (changes : List Change) (change : Change) (n : ℕ) (local : LocalItem) → changes ≡ change ∷ []
    → key_of change ≡ key.Local n → HasLocal rows n local → (m : Move) → item_moved name what local ≡ Some m
    → flat_map (change_moved rows name what) changes ≡ m ∷ []
moved_one rows name what changes change n local are named has m is =
    ap (flat_map (change_moved rows name what)) are
    ∙ ap (λ (found : Option LocalItem). option_to_list (option_and_then (item_moved name what) found) ++ []) (found_at rows change n local named has)
    ∙ ap (λ (said : Option Move). option_to_list said ++ []) is

edit_one : (rows : Rows) → AreSoundLocals rows → (words left : ChaCha) (name uuid text : Bytes) (changes : List Change) (moves : List Move)
    → Edits rows words uuid text changes left → SaysEdit rows name uuid (content.Plain text) moves → moves ≡ moves_of rows name (done.Edits text) changes
edit_one rows sound words left name uuid text changes moves x (n, l, has, is) =
    let same : l ≡ x.local = same_item rows sound uuid n x.number l x.local has x.stands in
    is
    ∙ ap (λ (u : Bytes). Edit name u l.kind l.base (content.Plain text) ∷ []) (sym has.1)
    ∙ ap (λ (m : LocalItem). edit_of name (content.Plain text) m ∷ []) same
    ∙ sym (moved_one rows name (done.Edits text) changes x.change x.number x.local x.changes_are x.change_is.puts.key_is x.stands.0
    (edit_of name (content.Plain text) x.local) refl)

unknown : (base : Option ℕ) (posted : Option RowBody) → base ≡ None → posted ≡ None → (is_none base && is_none posted) ≡ true
unknown base posted e f = ap (λ (b : Option ℕ). is_none b && is_none posted) e ∙ ap (λ (p : Option RowBody). is_none p) f

known : (base : Option ℕ) (posted : Option RowBody) → ¬ ((base ≡ None) × (posted ≡ None)) → (is_none base && is_none posted) ≡ false
known None None h = absurd (h (refl, refl))
known None (Some p) h = refl
known (Some b) posted h = refl

deletion_said : (name uuid : Bytes) (l : LocalItem) (moves : List Move) → l.uuid ≡ uuid
    → ((IsUnknown l × (moves ≡ Drop name l.uuid ∷ [])) ⊎ (¬ (IsUnknown l) × (moves ≡ Edit name uuid l.kind l.base content.Deleted ∷ [])))
    → moves ≡ deletion_of name l ∷ []
deletion_said name uuid l moves named (inl (new, is)) =
    is ∙ ap (λ (b : Bool). (if b then Drop name l.uuid else edit_of name content.Deleted l) ∷ []) (sym (unknown l.base l.posted new.0 new.1))
deletion_said name uuid l moves named (inr (old, is)) =
    is
    ∙ ap (λ (u : Bytes). Edit name u l.kind l.base content.Deleted ∷ []) (sym named)
    ∙ ap (λ (b : Bool). (if b then Drop name l.uuid else edit_of name content.Deleted l) ∷ []) (sym (known l.base l.posted old))

deleted_key : (rows : Rows) (uuid : Bytes) (changes : List Change) → (x : Deletes rows uuid changes) → key_of x.change ≡ key.Local x.number
deleted_key rows uuid changes x =
    ⊎_elim (λ (gone : IsUnknown x.local × Removes x.change (key.Local x.number)). gone.1.key_is)
    (λ (kept : ¬ (IsUnknown x.local) × PutsColumns x.change x.number (drafted (Some row.Deleted) (columns x.local))). kept.1.puts.key_is) x.change_is

deletion_one : (rows : Rows) → AreSoundLocals rows → (name uuid : Bytes) (changes : List Change) (moves : List Move) → Deletes rows uuid changes
    → SaysDeletion rows name uuid moves → moves ≡ moves_of rows name done.Deletes changes
deletion_one rows sound name uuid changes moves x (n, l, has, is) =
    let same : l ≡ x.local = same_item rows sound uuid n x.number l x.local has x.stands in
    deletion_said name uuid l moves has.1 is
    ∙ ap (λ (m : LocalItem). deletion_of name m ∷ []) same
    ∙ sym (moved_one rows name done.Deletes changes x.change x.number x.local x.changes_are (deleted_key rows uuid changes x) x.stands.0
    (deletion_of name x.local) refl)

posts_one : (rows : Rows) (name : Bytes) (numbers : List ℕ) (changes : List Change) (moves : List Move) → PostsAll rows numbers changes
    → AllZip (IsPostOf rows name) numbers moves → moves ≡ flat_map (change_moved rows name done.Posts) changes
posts_one rows name [] [] [] all says = refl
posts_one rows name [] [] (m ∷ ms) all says = absurd says
posts_one rows name [] (c ∷ cs) moves all says = absurd all
posts_one rows name (n ∷ ns) [] moves all says = absurd all
posts_one rows name (n ∷ ns) (c ∷ cs) [] all says = absurd says
posts_one rows name (n ∷ ns) (c ∷ cs) (m ∷ ms) (one, rest) ((l, has, is), others) =
    let same : l ≡ one.local = same_local rows n l one.local has one.stands in
    let first : change_moved rows name done.Posts c ≡ Post name one.local.uuid ∷ [] =
    ap (λ (found : Option LocalItem). option_to_list (option_and_then (item_moved name done.Posts) found)) (found_at rows c n one.local one.puts.puts.key_is one.stands) in
    ap (λ (x : Move). x ∷ ms) (is ∙ ap (λ (k : LocalItem). Post name k.uuid) same)
    ∙ ap (λ (more : List Move). Post name one.local.uuid ∷ more) (posts_one rows name ns cs ms rest others)
    ∙ ap (λ (x : List Move). x ++ flat_map (change_moved rows name done.Posts) cs) (sym first)

-- ---- the changes behind those of an answer's items

-- a change of no item's row says nothing
quiet : (name : Bytes) (foreign : List Bytes) (rows : Rows) (c : Change) (later : List Change) → item_found rows c ≡ None → item_left c ≡ None
    → answered name foreign None rows (c ∷ later) ≡ answered name foreign None (rows_after rows (c ∷ [])) later
quiet name foreign rows c later found left =
    ap
    (λ (was : Option LocalItem). option_to_list (item_move name foreign None was (item_left c))
    ++ answered name foreign (copy_made was (item_left c)) (rows_after rows (c ∷ [])) later) found
    ∙ ap (λ (now : Option LocalItem). answered name foreign (copy_made None now) (rows_after rows (c ∷ [])) later) left

-- nor does that of the device's own row
own_quiet : (name : Bytes) (foreign : List Bytes) (rows : Rows) (c : Change) (later : List Change) → key_of c ≡ key.Owner
    → answered name foreign None rows (c ∷ later) ≡ answered name foreign None (rows_after rows (c ∷ [])) later
own_quiet name foreign rows c later named =
    quiet name foreign rows c later (ap (λ (k : Key). item_at k (rows k)) named) (ap (λ (k : Key). item_at k (value_of c)) named)

-- nor the end of an older set
older_quiet : (name : Bytes) (foreign : List Bytes) (rows told : Rows) (cursor : Option Bytes) (found : Option KeySet) (changes : List Change)
    → Retires told cursor found changes → answered name foreign None rows changes ≡ []
older_quiet name foreign rows told cursor None changes none = ap (answered name foreign None rows) none
older_quiet name foreign rows told cursor (Some set) changes (inl (may, (change, gone, is))) =
    ap (answered name foreign None rows) is
    ∙ quiet name foreign rows change [] (ap (λ (k : Key). item_at k (rows k)) gone.key_is) (ap (λ (k : Key). item_at k (value_of change)) gone.key_is)
older_quiet name foreign rows told cursor (Some set) changes (inr (stays, none)) = ap (answered name foreign None rows) none

-- ---- an answer

module _ (one_stamp : HasOneStamp) (stays : StayStanding) (rows : Rows) (sound : AreSoundLocals rows) (stay : KeepsDeletions rows) (held : List ℕ) (name : Bytes)
    (sent : List Item) (conflicts : List Conflict) (cursor : Option Bytes) (retrieved saved : List Item) (token : Bytes) (changes : List Change)
    (moves : List Move) (passes : Passes sent saved conflicts retrieved cursor)
    (says : SaysApplied rows held name conflicts cursor retrieved saved token changes moves) where
  abbrev foreign : List Bytes
  foreign = flat_map foreign_of conflicts

  standing : AreStanding says.owner.next rows
  standing = record {
    numbered = λ number local there. sound.numbered says.owner number local says.holds.owned there;
    apart = sound.apart;
    items = sound.items;
  }

  before : AreLeft foreign rows (foreign_told (told_by saved conflicts retrieved))
  before n l has is =
      ⊎_elim (λ (among : IsIn l.uuid foreign). inr (subst (λ (us : List Bytes). IsIn l.uuid us) (sym (told_all saved conflicts retrieved)) among))
      (λ (out : IsOut l.uuid foreign). inl out) (cases_Bool (list_any (bytes_eq l.uuid) foreign))

  said : Said name foreign (start rows says.owner says.words) says.end says.first
  said =
      all_said one_stamp stays name foreign says.sets saved (told_by saved conflicts retrieved) (start rows says.owner says.words) says.end says.first
      (told_checked sent saved conflicts retrieved cursor passes) (told_apart sent saved conflicts retrieved cursor passes) standing stay before says.told

  -- behind the items' rows the device's own row is put, and an older set may end
  behind : answered name foreign None says.end.rows (says.counted ∷ says.retired) ≡ []
  behind =
      own_quiet name foreign says.end.rows says.counted says.retired says.counted_is.puts_it.key_is
      ∙ older_quiet name foreign (rows_after says.end.rows (says.counted ∷ [])) says.end.rows cursor says.sets.older says.retired says.retires

  pub applied_one : says.first ≡ answered name foreign None rows changes
  applied_one =
      sym (append-nil says.first)
      ∙ ap (λ (m : List Move). says.first ++ m) (sym behind)
      ∙ sym (said.says (says.counted ∷ says.retired))
      ∙ ap (answered name foreign None rows) (ap (λ (c : List Change). c ++ says.counted ∷ says.retired) (sym said.changes_are) ∙ sym says.changes_are)

-- it was the answer to a sync
passed : (rows : Rows) (words left : ChaCha) (r : Request) (conflicts : List Conflict) (cursor : Option Bytes) (retrieved saved : List Item) (token : Bytes)
    (changes : List Change) → AppliesTo rows words r (answer.Sync conflicts cursor retrieved saved token) changes left
    → (sent : List Item) × Passes sent saved conflicts retrieved cursor
passed rows words left (request.Sync token items limit sync_token cursor_token) conflicts cursor retrieved saved next_token changes step =
    (items, step.passes)
passed rows words left (request.Register params pw) conflicts cursor retrieved saved token changes step = absurd step
passed rows words left (request.Params identifier) conflicts cursor retrieved saved token changes step = absurd step
passed rows words left (request.SignIn identifier pw) conflicts cursor retrieved saved token changes step = absurd step
passed rows words left (request.ChangePw current_token current pw cost nonce) conflicts cursor retrieved saved token changes step = absurd step

pub says_answered : HasOneStamp → StayStanding → SaysAnswered
says_answered one_stamp stays rows words left r held name conflicts cursor retrieved saved token changes moves sound stay step says =
    let its = passed rows words left r conflicts cursor retrieved saved token changes step in
    applied_one one_stamp stays rows sound stay held name its.0 conflicts cursor retrieved saved token changes moves its.1 says

-- ---- each of the others

done_as : (rows : Rows) (name : Bytes) (changes : List Change) (moves : List Move) (did is : Done) → did ≡ is → moves ≡ moves_of rows name is changes
    → moves ≡ moves_of rows name did changes
done_as rows name changes moves did is same said = said ∙ ap (λ (d : Done). moves_of rows name d changes) (sym same)

pub says_plainly : SaysPlainly
says_plainly rows s name words left (renews token) changes moves did sound plain is step says = done_as rows name changes moves did _ is says
says_plainly rows s name words left (puts uuid kind text) changes moves did sound plain is step says = done_as rows name changes moves did _ is says
says_plainly rows s name words left (edits uuid text) changes moves did sound plain is step says =
    done_as rows name changes moves did _ is (edit_one rows sound words left name uuid text changes moves step says)
says_plainly rows s name words left (deletes uuid) changes moves did sound plain is step says =
    done_as rows name changes moves did _ is (deletion_one rows sound name uuid changes moves step.0 says)
says_plainly rows s name words left (posts numbers) changes moves did sound plain is step says =
    done_as rows name changes moves did _ is (posts_one rows name numbers changes moves step.0 says)
says_plainly rows s name words left (begins set uuid token) changes moves did sound plain is step says = absurd plain
says_plainly rows s name words left (applies r given) changes moves did sound plain is step says = absurd plain
says_plainly rows s name words left (asks set) changes moves did sound plain is step says = absurd plain
says_plainly rows s name words left (adopts set token) changes moves did sound plain is step says = absurd plain
says_plainly rows s name words left forgets changes moves did sound plain is step says = absurd plain

-- ---- where no older set is held

no_older : (rows : Rows) (identifier : Bytes) (found : Option KeySet) → HoldsNoOlder rows → IsInSlot rows identifier Older found → found ≡ None
no_older rows identifier None none is = refl
no_older rows identifier (Some set) none (keys, has, of) = absurd (cc)

none_retiring : (rows : Rows) (cursor : Option Bytes) (found : Option KeySet) (name : Bytes) (held : List ℕ) (moves : List Move) → found ≡ None
    → IsRetiring rows cursor found name held moves → moves ≡ []
none_retiring rows cursor None name held moves none is = is
none_retiring rows cursor (Some set) name held moves none is = absurd (cc)

-- an answer says no more than of its items
answer_one : SaysAnswered → (rows : Rows) → AreSoundLocals rows → KeepsDeletions rows → HoldsNoOlder rows → (held : List ℕ) (name : Bytes)
    (words left : ChaCha) (r : Request) (given : Answer) (changes : List Change) (moves : List Move) → Step rows words (applies r given) changes left
    → SaysAnswer rows held name given changes moves → moves ≡ moves_of rows name (done.Applies (foreign_in given)) changes
answer_one one rows sound stay older held name words left r (answer.Sync conflicts cursor retrieved saved token) changes moves step says =
    let none : says.sets.older ≡ None = no_older rows says.owner.identifier says.sets.older older says.holds.before in
    says.moves_are
    ∙ ap (λ (m : List Move). says.first ++ m) (none_retiring says.end.rows cursor says.sets.older name held says.later none says.retiring)
    ∙ append-nil says.first
    ∙ one rows words left r held name conflicts cursor retrieved saved token changes moves sound stay step says
answer_one one rows sound stay older held name words left r (answer.Account other identifier uuid) changes moves step says = absurd says
answer_one one rows sound stay older held name words left r (answer.Params params) changes moves step says = absurd says
answer_one one rows sound stay older held name words left r (answer.Refused status tag more) changes moves step says = absurd says

pub says_one : SaysAnswered → SaysPlainly → SaysOne
says_one answer plain rows s name words left (begins set uuid token) changes moves did sound stay older (a, named, is) step (b, there, says) =
    let same : b ≡ a = one_there b a (account_named s set.params.identifier) there named in
    done_as rows name changes moves did _ is (says ∙ ap (λ (x : Account). Join name set.params.identifier (length x.sets) ∷ []) same)
says_one answer plain rows s name words left (renews token) changes moves did sound stay older is step says =
    plain rows s name words left (renews token) changes moves did sound tt is step says
says_one answer plain rows s name words left (puts uuid kind text) changes moves did sound stay older is step says =
    plain rows s name words left (puts uuid kind text) changes moves did sound tt is step says
says_one answer plain rows s name words left (edits uuid text) changes moves did sound stay older is step says =
    plain rows s name words left (edits uuid text) changes moves did sound tt is step says
says_one answer plain rows s name words left (deletes uuid) changes moves did sound stay older is step says =
    plain rows s name words left (deletes uuid) changes moves did sound tt is step says
says_one answer plain rows s name words left (posts numbers) changes moves did sound stay older is step says =
    plain rows s name words left (posts numbers) changes moves did sound tt is step says
says_one answer plain rows s name words left (applies r given) changes moves did sound stay older is step says =
    done_as rows name changes moves did _ is
    (answer_one answer rows sound stay older (held_by (device_named s name)) name words left r given changes moves step says)
says_one answer plain rows s name words left (asks set) changes moves did sound stay older is step says = absurd is
says_one answer plain rows s name words left (adopts set token) changes moves did sound stay older is step says = absurd is
says_one answer plain rows s name words left forgets changes moves did sound stay older is step says = absurd is

-- ---- in the world

pub says_computed : DeletionsStay → SaysOne → SaysSome → PlainRows → SaysComputed
says_computed law one some plain secret w next s name what changes did hp x may is =
    let said : (moves : List Move) × SaysCommit (w.devices name) s name what changes moves =
    some secret w next s (commits name what changes true) hp.holds (x, may) in
    let stay : KeepsDeletions (w.devices name) = keeps_deletions law (w.devices name) s hp.holds.reached name (hp.holds.devices name) in
    let same : said.0 ≡ moves_of (w.devices name) name did changes =
    one (w.devices name) s name x.words x.left what changes said.0 did (hp.holds.sound name).locals stay (plain secret w s name hp).1 is x.step said.1 in
    subst (λ (m : List Move). SaysCommit (w.devices name) s name what changes m) same said.1

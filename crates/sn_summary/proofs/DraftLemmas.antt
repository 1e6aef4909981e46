-- The keys of the drafts that there are, move by move.
use Rattle.std.proofs.Common.{◌≡◌, ◌≤◌, ℕ, ◌+◌, List, [], ◌∷◌, ◌++◌, length, Option, Some, None, Result, Ok, Err, Bool, true, false, cond, Less, Equal, Greater, refl, sym, ap, ◌∙◌, subst, arith, length-append, string_bytes}
use Rattle.std.specs.Prelude.{◌&&◌, find, if◌then◌else◌, is_some, not, OnOk}
use Rattle.std.specs.BTreeMap.{is_at}
use Rattle.std.specs.BTreeSet.{BTreeSet, btree_set_len, contains}
use Rattle.std.specs.Cmp.Lexicographic.{slice_cmp}
use Rattle.std.specs.Option.{option_map}
use Rattle.std.specs.Ordering.{is_eq, nat_cmp, ordering_then}
use Rattle.std.specs.Str.{bytes_eq}
use Rattle.std.specs.declared.cmp.Ordering.{Ordering}
use Rattle.std.proofs.lemmas.Map.Text.{is_eq-slice_cmp}
use Rattle.sn_laws.specs.Kept.{is_of_draft}
use Rattle.sn_laws.specs.Lookups.{Bytes, device_named, draft_at, greatest, held_by, is_draft}
use Rattle.sn_laws.specs.Moves.{after, changed_where, edited, forked, posted_under, renamed, settled_at, unposted, without}
use Rattle.sn_laws.specs.Relation.{MayFork, MayRename}
use Rattle.sn_laws.specs.declared.ideal.Content.{Content}
use Rattle.sn_laws.specs.declared.ideal.Draft.{Draft}
use Rattle.sn_laws.specs.declared.ideal.Ideal.{Ideal}
use Rattle.sn_laws.specs.declared.moves.Move.{Move}
use Rattle.sn_laws.specs.declared.moves.Move.TheVariants.{Register, Join, Edit, Drop, Post, Unpost, Accept, Rewrap, Settle, SettlePosted, Fork, Rename, GiveWay, Change, Retire}
use Rattle.sn_laws.proofs.Facts.{allowed_from, clash, draft_after, draft_edited, draft_is, same_draft}
use Rattle.sn_summary.specs.Walks.{AddsKey, HoldsDrafts, NotesDrafts, RemovesKey, TakesKey, drafts_of, key_cmp}
use Rattle.sn_summary.specs.declared.drafts.DraftKey.{DraftKey}
use Rattle.sn_summary.proofs.DraftCounts.{length-without, of_changed, of_found, of_more, of_moved, of_none, of_without}
use Rattle.sn_summary.proofs.Lists.{length-changed}

-- ---- calls that may want memory

pub on_ok : {T E : Type 0} (r : Result T E) (P Q : Type 0) → (P → Q) → OnOk r P → OnOk r Q
on_ok (Ok x) P Q f h = f h
on_ok (Err e) P Q f h = tt {0}

-- ---- keys

pub added_len : (n m : ℕ) (a b : Bool) → a ≡ not b → n ≡ m + cond a 1 0 → n ≡ m + cond b 0 1
added_len n m a true is h = h ∙ ap (λ c. m + cond c 1 0) is
added_len n m a false is h = h ∙ ap (λ c. m + cond c 1 0) is

then_both : (a b : Ordering) → is_eq (ordering_then a b) ≡ (is_eq a && is_eq b)
then_both Less b = refl
then_both Equal b = refl
then_both Greater b = refl

-- a key is compared by its device and its item
key_test : (k q : DraftKey) → is_at (key_cmp k) q ≡ is_of_draft (string_bytes q.device) q.uuid (string_bytes k.device) k.uuid
key_test k q =
    then_both (slice_cmp nat_cmp (string_bytes k.device) (string_bytes q.device)) (slice_cmp nat_cmp k.uuid q.uuid)
    ∙ ap (λ b. b && is_eq (slice_cmp nat_cmp k.uuid q.uuid)) (is_eq-slice_cmp (string_bytes k.device) (string_bytes q.device))
    ∙ ap (λ b. bytes_eq (string_bytes k.device) (string_bytes q.device) && b) (is_eq-slice_cmp k.uuid q.uuid)

key_is : (k q : DraftKey) (device uuid : Bytes) → string_bytes k.device ≡ device → k.uuid ≡ uuid
    → is_at (key_cmp k) q ≡ is_of_draft (string_bytes q.device) q.uuid device uuid
key_is k q device uuid e f =
    key_test k q ∙ ap (λ n. is_of_draft (string_bytes q.device) q.uuid n k.uuid) e ∙ ap (λ u. is_of_draft (string_bytes q.device) q.uuid device u) f

adds : (old new : BTreeSet DraftKey) (device uuid : Bytes) → AddsKey old new device uuid → (q : DraftKey)
    → contains key_cmp new q ≡ cond (is_of_draft (string_bytes q.device) q.uuid device uuid) true (contains key_cmp old q)
adds old new device uuid a q = a.updates q ∙ ap (λ b. cond b true (contains key_cmp old q)) (key_is a.key q device uuid a.device_is a.uuid_is)

removes : (old new : BTreeSet DraftKey) (device uuid : Bytes) → RemovesKey old new device uuid → (q : DraftKey)
    → contains key_cmp new q ≡ cond (is_of_draft (string_bytes q.device) q.uuid device uuid) false (contains key_cmp old q)
removes old new device uuid a q = a.updates q ∙ ap (λ b. cond b false (contains key_cmp old q)) (key_is a.key q device uuid a.device_is a.uuid_is)

-- whether a key is there
there : (keys : BTreeSet DraftKey) (drafts : List Draft) (k : DraftKey) (device uuid : Bytes) → HoldsDrafts keys drafts
    → string_bytes k.device ≡ device → k.uuid ≡ uuid → contains key_cmp keys k ≡ is_some (find (is_draft device uuid) drafts)
there keys drafts k device uuid h e f =
    h.found k ∙ ap (λ n. is_some (find (is_draft n k.uuid) drafts)) e ∙ ap (λ u. is_some (find (is_draft device u) drafts)) f

abbrev one_if : Bool → ℕ
one_if b = cond b 1 0

abbrev one_unless : Bool → ℕ
one_unless b = cond b 0 1

-- ---- an edit

abbrev Once : List Draft → Type 0
Once drafts = (device uuid : Bytes) → drafts_of device uuid drafts ≤ 1

picked : (b : Bool) (d : Draft) (o : Option Draft) → cond b true (is_some o) ≡ is_some (cond b (Some d) o)
picked true d o = refl
picked false d o = refl

edited_once : (drafts : List Draft) (name item kind : Bytes) (base : Option ℕ) (latest : Content) (o : Option Draft)
    → find (is_draft name item) drafts ≡ o → Once drafts → Once (edited drafts name item kind base latest o)
edited_once drafts name item kind base latest None none once device uuid =
    at (is_draft device uuid (draft_edited name item kind base latest None)) refl
  where
    all : drafts_of device uuid (drafts ++ draft_edited name item kind base latest None ∷ [])
        ≡ drafts_of device uuid drafts + cond (is_draft device uuid (draft_edited name item kind base latest None)) 1 0
    all = of_more device uuid drafts (draft_edited name item kind base latest None)

    at : (b : Bool) → is_draft device uuid (draft_edited name item kind base latest None) ≡ b
        → drafts_of device uuid (drafts ++ draft_edited name item kind base latest None ∷ []) ≤ 1
    at true e =
        let same = same_draft device uuid name item e in
        let free : drafts_of device uuid drafts ≡ 0 =
        of_none device uuid drafts
        (subst (λ n. find (is_draft n uuid) drafts ≡ None) same.0 (subst (λ u. find (is_draft name u) drafts ≡ None) same.1 none)) in
        let sum : drafts_of device uuid (drafts ++ draft_edited name item kind base latest None ∷ []) ≡ drafts_of device uuid drafts + 1 =
        all ∙ ap (λ b. drafts_of device uuid drafts + cond b 1 0) e in
        omega arith
    at false e =
        let few : drafts_of device uuid drafts ≤ 1 = once device uuid in
        let sum : drafts_of device uuid (drafts ++ draft_edited name item kind base latest None ∷ []) ≡ drafts_of device uuid drafts + 0 =
        all ∙ ap (λ b. drafts_of device uuid drafts + cond b 1 0) e in
        omega arith
edited_once drafts name item kind base latest (Some d) some once device uuid =
    let less = of_changed device uuid (is_draft name item) (λ (e : Draft). record e { latest = latest }) (λ e is k. k) drafts in
    let few : drafts_of device uuid drafts ≤ 1 = once device uuid in
    omega arith

length-edited : (drafts : List Draft) (name item kind : Bytes) (base : Option ℕ) (latest : Content) (o : Option Draft)
    → length (edited drafts name item kind base latest o) ≡ length drafts + cond (is_some o) 0 1
length-edited drafts name item kind base latest None = length-append drafts (draft_edited name item kind base latest None ∷ [])
length-edited drafts name item kind base latest (Some d) =
    let e = length-changed (is_draft name item) (λ (x : Draft). record x { latest = latest }) drafts in
    omega arith

pub edit_noted : (old new : BTreeSet DraftKey) (name item kind : Bytes) (base : Option ℕ) (latest : Content) → AddsKey old new name item
    → NotesDrafts old new (Edit name item kind base latest)
edit_noted old new name item kind base latest a s may h = record {
  found = λ q.
      adds old new name item a q
      ∙ ap (λ b. cond (is_of_draft (string_bytes q.device) q.uuid name item) true b) (h.found q)
      ∙ picked (is_of_draft (string_bytes q.device) q.uuid name item) (draft_edited name item kind base latest (draft_at s name item))
      (draft_at s (string_bytes q.device) q.uuid)
      ∙ ap (λ o. is_some o) (sym (draft_after s (Edit name item kind base latest) (string_bytes q.device) q.uuid may));
  once = edited_once s.drafts name item kind base latest (draft_at s name item) refl h.once;
  count = a.len ∙ ap (λ n. n + cond (contains key_cmp old a.key) 0 1) h.count
      ∙ ap (λ b. length s.drafts + cond b 0 1) (there old s.drafts a.key name item h a.device_is a.uuid_is)
      ∙ sym (length-edited s.drafts name item kind base latest (draft_at s name item));
}

-- ---- moves that end a draft

ended : (b : Bool) (o : Option Draft) → cond b false (is_some o) ≡ is_some (cond b None o)
ended true o = refl
ended false o = refl

ends : (old new : BTreeSet DraftKey) (name item : Bytes) → RemovesKey old new name item → (s next : Ideal)
    → next.drafts ≡ without (is_draft name item) s.drafts
    → ((device uuid : Bytes) → draft_at next device uuid ≡ (if is_of_draft device uuid name item then None else draft_at s device uuid))
    → HoldsDrafts old s.drafts → HoldsDrafts new next.drafts
ends old new name item a s next next_is found h = record {
  found = λ q.
      removes old new name item a q
      ∙ ap (λ b. cond (is_of_draft (string_bytes q.device) q.uuid name item) false b) (h.found q)
      ∙ ended (is_of_draft (string_bytes q.device) q.uuid name item) (draft_at s (string_bytes q.device) q.uuid)
      ∙ ap (λ o. is_some o) (sym (found (string_bytes q.device) q.uuid));
  once = λ device uuid. subst (λ ds. drafts_of device uuid ds ≤ 1) (sym next_is) (fewer device uuid);
  count = (
      let one : drafts_of name item s.drafts ≡ one_if (is_some (draft_at s name item)) = of_found name item s.drafts (h.once name item) in
      let here : one_if (contains key_cmp old a.key) ≡ one_if (is_some (draft_at s name item)) =
      ap one_if (there old s.drafts a.key name item h a.device_is a.uuid_is) in
      let sum : length (without (is_draft name item) s.drafts) + drafts_of name item s.drafts ≡ length s.drafts = length-without name item s.drafts in
      let left : length next.drafts ≡ length (without (is_draft name item) s.drafts) = ap length next_is in
      let keys : btree_set_len new + one_if (contains key_cmp old a.key) ≡ btree_set_len old = a.len in
      let was : btree_set_len old ≡ length s.drafts = h.count in
      omega arith);
}
  where
    fewer : (device uuid : Bytes) → drafts_of device uuid (without (is_draft name item) s.drafts) ≤ 1
    fewer device uuid =
        let less = of_without device uuid (is_draft name item) s.drafts in
        let few : drafts_of device uuid s.drafts ≤ 1 = h.once device uuid in
        omega arith

pub drop_noted : (old new : BTreeSet DraftKey) (name item : Bytes) → RemovesKey old new name item → NotesDrafts old new (Drop name item)
drop_noted old new name item a s may h =
    ends old new name item a s (after s (Drop name item)) refl (λ device uuid. draft_after s (Drop name item) device uuid may) h

pub settle_noted : (old new : BTreeSet DraftKey) (name item : Bytes) → RemovesKey old new name item → NotesDrafts old new (Settle name item)
settle_noted old new name item a s may h =
    ends old new name item a s (after s (Settle name item)) refl (λ device uuid. draft_after s (Settle name item) device uuid may) h

pub give_way_noted : (old new : BTreeSet DraftKey) (name item : Bytes) → RemovesKey old new name item → NotesDrafts old new (GiveWay name item)
give_way_noted old new name item a s may h =
    ends old new name item a s (after s (GiveWay name item)) refl (λ device uuid. draft_after s (GiveWay name item) device uuid may) h

-- ---- moves that take a draft to another item

taken : (b c : Bool) (f : Draft → Draft) (d : Draft) (o p : Option Draft) → p ≡ Some d
    → cond b true (cond c false (is_some o)) ≡ is_some (cond b (option_map f p) (cond c None o))
taken true c f d o p is = sym (ap (λ x. is_some (option_map f x)) is)
taken false true f d o p is = refl
taken false false f d o p is = refl

never : (b : Bool) → cond b false false ≡ false
never true = refl
never false = refl

takes : (old mid new : BTreeSet DraftKey) (name item other : Bytes) (f : Draft → Draft) → RemovesKey old mid name item → AddsKey mid new name other
    → (s next : Ideal) (d : Draft) → draft_at s name item ≡ Some d → draft_at s name other ≡ None
    → next.drafts ≡ changed_where (is_draft name item) f s.drafts
    → ((device uuid : Bytes) (x : Draft) → is_draft device uuid (f x) ≡ (bytes_eq x.device device && bytes_eq other uuid))
    → ((device uuid : Bytes) → draft_at next device uuid
    ≡ (if is_of_draft device uuid name other then option_map f (draft_at s name item)
    else (if is_of_draft device uuid name item then None else draft_at s device uuid)))
    → HoldsDrafts old s.drafts → HoldsDrafts new next.drafts
takes old mid new name item other f r a s next d has free next_is goes found h = record {
  found = λ q.
      adds mid new name other a q
      ∙ ap (λ b. cond (is_of_draft (string_bytes q.device) q.uuid name other) true b)
      (removes old mid name item r q ∙ ap (λ b. cond (is_of_draft (string_bytes q.device) q.uuid name item) false b) (h.found q))
      ∙ taken (is_of_draft (string_bytes q.device) q.uuid name other) (is_of_draft (string_bytes q.device) q.uuid name item) f d
      (draft_at s (string_bytes q.device) q.uuid) (draft_at s name item) has
      ∙ ap (λ o. is_some o) (sym (found (string_bytes q.device) q.uuid));
  once = λ device uuid. subst (λ ds. drafts_of device uuid ds ≤ 1) (sym next_is) (one device uuid (is_of_draft device uuid name other) refl);
  count = (
      let was : btree_set_len old ≡ length s.drafts = h.count in
      let out : btree_set_len mid + one_if (contains key_cmp old r.key) ≡ btree_set_len old = r.len in
      let here : one_if (contains key_cmp old r.key) ≡ 1 =
      ap one_if (there old s.drafts r.key name item h r.device_is r.uuid_is ∙ ap (λ o. is_some o) has) in
      let come : btree_set_len new ≡ btree_set_len mid + one_unless (contains key_cmp mid a.key) = a.len in
      let gone : one_unless (contains key_cmp mid a.key) ≡ 1 =
      ap one_unless
      (r.updates a.key
      ∙ ap (λ b. cond (is_at (key_cmp r.key) a.key) false b)
      (there old s.drafts a.key name other h a.device_is a.uuid_is ∙ ap (λ o. is_some o) free)
      ∙ never (is_at (key_cmp r.key) a.key)) in
      let same : length next.drafts ≡ length s.drafts = ap length next_is ∙ length-changed (is_draft name item) f s.drafts in
      omega arith);
}
  where
    one : (device uuid : Bytes) (b : Bool) → is_of_draft device uuid name other ≡ b
        → drafts_of device uuid (changed_where (is_draft name item) f s.drafts) ≤ 1
    one device uuid true e =
        let same = same_draft device uuid name other e in
        let none : drafts_of device uuid s.drafts ≡ 0 =
        of_none device uuid s.drafts
        (subst (λ n. find (is_draft n uuid) s.drafts ≡ None) same.0 (subst (λ u. find (is_draft name u) s.drafts ≡ None) same.1 free)) in
        let less = of_moved device uuid name item f s.drafts in
        let few : drafts_of name item s.drafts ≤ 1 = h.once name item in
        omega arith
    one device uuid false e =
        let less =
        of_changed device uuid (is_draft name item) f
        (λ x is k. absurd (clash (is_of_draft device uuid name other)
        (subst (λ n. (bytes_eq n device && bytes_eq other uuid) ≡ true) (draft_is name item x is).0 (sym (goes device uuid x) ∙ k)) e)) s.drafts in
        let few : drafts_of device uuid s.drafts ≤ 1 = h.once device uuid in
        omega arith

pub fork_noted : (old new : BTreeSet DraftKey) (name item other : Bytes) → TakesKey old new name item other → NotesDrafts old new (Fork name item other)
fork_noted old new name item other t s may h =
    let is : MayFork s name item other = allowed_from s (Fork name item other) may in
    takes old t.between new name item other (forked other) t.removes t.adds s (after s (Fork name item other)) is.draft is.meets.is.at is.free refl (λ _ _ _. refl)
    (λ device uuid. draft_after s (Fork name item other) device uuid may) h

pub rename_noted : (old new : BTreeSet DraftKey) (name item other : Bytes) → TakesKey old new name item other → NotesDrafts old new (Rename name item other)
rename_noted old new name item other t s may h =
    let is : MayRename s name item other = allowed_from s (Rename name item other) may in
    takes old t.between new name item other (renamed other) t.removes t.adds s (after s (Rename name item other)) is.draft is.is.at is.free refl (λ _ _ _. refl)
    (λ device uuid. draft_after s (Rename name item other) device uuid may) h

-- ---- the other moves

same_found : (b : Bool) (f : Draft → Draft) (o : Option Draft) → is_some (cond b (option_map f o) o) ≡ is_some o
same_found true f None = refl
same_found true f (Some d) = refl
same_found false f o = refl

stays : (keys : BTreeSet DraftKey) (name item : Bytes) (f : Draft → Draft) (s next : Ideal)
    → next.drafts ≡ changed_where (is_draft name item) f s.drafts
    → ((device uuid : Bytes) (x : Draft) → is_draft device uuid (f x) ≡ is_draft device uuid x)
    → ((device uuid : Bytes) → draft_at next device uuid
    ≡ (if is_of_draft device uuid name item then option_map f (draft_at s device uuid) else draft_at s device uuid))
    → HoldsDrafts keys s.drafts → HoldsDrafts keys next.drafts
stays keys name item f s next next_is same found h = record {
  found = λ q.
      h.found q
      ∙ sym (same_found (is_of_draft (string_bytes q.device) q.uuid name item) f (draft_at s (string_bytes q.device) q.uuid))
      ∙ ap (λ o. is_some o) (sym (found (string_bytes q.device) q.uuid));
  once = λ device uuid. subst (λ ds. drafts_of device uuid ds ≤ 1) (sym next_is) (few device uuid);
  count = h.count ∙ sym (ap length next_is ∙ length-changed (is_draft name item) f s.drafts);
}
  where
    few : (device uuid : Bytes) → drafts_of device uuid (changed_where (is_draft name item) f s.drafts) ≤ 1
    few device uuid =
        let less = of_changed device uuid (is_draft name item) f (λ x is k. sym (same device uuid x) ∙ k) s.drafts in
        let least : drafts_of device uuid s.drafts ≤ 1 = h.once device uuid in
        omega arith

-- a move that begins and ends no draft, and takes none to another item
abbrev pub keeps_keys : Move → Bool
keeps_keys (Register identifier set) = true
keeps_keys (Join device identifier number) = true
keeps_keys (Post device uuid) = true
keeps_keys (Unpost device uuid) = true
keeps_keys (Accept device uuid stamp under) = true
keeps_keys (Rewrap uuid stamp under) = true
keeps_keys (SettlePosted device uuid stamp) = true
keeps_keys (Change identifier number set) = true
keeps_keys (Retire device number) = true
keeps_keys m = false

pub kept_noted : (keys : BTreeSet DraftKey) (m : Move) → keeps_keys m ≡ true → NotesDrafts keys keys m
kept_noted keys (Register identifier set) is s may h = h
kept_noted keys (Join name identifier number) is s may h = h
kept_noted keys (Edit name item kind base latest) is s may h = absurd (cc)
kept_noted keys (Drop name item) is s may h = absurd (cc)
kept_noted keys (Post name item) is s may h =
    stays keys name item (posted_under (greatest 0 (held_by (device_named s name)))) s (after s (Post name item)) refl (λ _ _ _. refl)
    (λ device uuid. draft_after s (Post name item) device uuid may) h
kept_noted keys (Unpost name item) is s may h =
    stays keys name item unposted s (after s (Unpost name item)) refl (λ _ _ _. refl)
    (λ device uuid. draft_after s (Unpost name item) device uuid may) h
kept_noted keys (Accept name item stamp under) is s may h = h
kept_noted keys (Rewrap item stamp under) is s may h = h
kept_noted keys (Settle name item) is s may h = absurd (cc)
kept_noted keys (SettlePosted name item stamp) is s may h =
    stays keys name item (settled_at stamp) s (after s (SettlePosted name item stamp)) refl (λ _ _ _. refl)
    (λ device uuid. draft_after s (SettlePosted name item stamp) device uuid may) h
kept_noted keys (Fork name item other) is s may h = absurd (cc)
kept_noted keys (Rename name item other) is s may h = absurd (cc)
kept_noted keys (GiveWay name item) is s may h = absurd (cc)
kept_noted keys (Change identifier number set) is s may h = h
kept_noted keys (Retire name number) is s may h = h

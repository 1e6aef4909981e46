-- What a device without drafts makes of the versions of a page: it has each of them, and has what it had.
use Rattle.std.proofs.Common.{◌≡◌, ◌≢◌, ◌⊎◌, ◌+◌, ◌<◌, ◌≤◌, ℕ, suc, true, false, List, [], ◌∷◌, ◌++◌, All, length, length-append, Some, None, refl, sym, ap, ◌∙◌, subst, ⊎_elim, inl, inr, arith}
use Rattle.std.specs.List.{AllZip, Contains}
use Rattle.std.proofs.lemmas.Bool.{cases_Bool}
use Rattle.std.proofs.lemmas.List.Elements.{All-append, All-cons, All-nil}
use Rattle.rand_chacha.specs.ChaCha.{ChaCha}
use Rattle.sn_account.specs.Pages.{Found}
use Rattle.sn_account.specs.Stored.{IsGiven}
use Rattle.sn_device.specs.Sending.{PutsColumns}
use Rattle.sn_device.specs.States.{Bytes, Columns, HasItem, HasLocal, IsFree, columns}
use Rattle.sn_device.specs.Taking.{MakesRow, Meets, Progress, StandsOn, Takes, TakesAll, TakesBody, TakesServer, Told, changed, is_retrieved, made, with_words}
use Rattle.sn_conflict.specs.Meetings.{IsKnown, MeetsAs}
use Rattle.sn_conflict.specs.declared.meeting.Meeting.{Meeting}
use Rattle.sn_conflict.specs.declared.meeting.Meeting.TheVariants as meeting
use Rattle.sn_items.specs.declared.sealed.Sealed.{Sealed}
use Rattle.sn_pull.specs.Pulls.{Has, IsOfAccount, IsPulled, StandsOnVersion}
use Rattle.sn_pull.proofs.ListLemmas.{at_head, behind_head, head_or_behind, none_of}
use Rattle.sn_pull.proofs.RowLemmas.{after_append, left_row, looked, same_row}
use Rattle.sn_pull.proofs.SizeLemmas.{IsSmall, small_put, small_removal}
use Rattle.sn_pull.proofs.VersionLemmas.{gone_where, live_where}
use Rattle.sn_rows.specs.Facts.{keys_compare, put_elsewhere, put_here, put_or_not, removed_elsewhere, removed_here}
use Rattle.sn_rows.specs.Kinds.{key_kind}
use Rattle.sn_rows.specs.Table.{Removes, Rows, rows_after, same_key}
use Rattle.sn_rows.specs.declared.body.RowBody.{RowBody}
use Rattle.sn_rows.specs.declared.body.RowBody.TheVariants as row
use Rattle.sn_rows.specs.declared.body.RowStrings.{RowStrings}
use Rattle.sn_rows.specs.declared.change.Change.{Change}
use Rattle.sn_rows.specs.declared.device_rows.LocalItem.{LocalItem}
use Rattle.sn_rows.specs.declared.key.Key.{Key}
use Rattle.sn_rows.specs.declared.key.Key.TheVariants as key
use Rattle.sn_rows.specs.declared.kind.RowKind.TheVariants as kind
use Rattle.sn_rows.specs.declared.server_rows.ItemRow.{ItemRow}
use Rattle.sn_rows.specs.declared.value.Value.TheVariants as value
use Rattle.sn_sets.specs.declared.sets.Sets.{Sets}
use Rattle.sn_sync.specs.Laws.{HasOneStamp}
use Rattle.sn_sync.specs.Stamps.{IsStampText}
use Rattle.sn_sync.specs.declared.item.Body.{Body}
use Rattle.sn_sync.specs.declared.item.Body.TheVariants as body
use Rattle.sn_sync.specs.declared.item.Item.{Item}

-- ---- the columns of a row that stands on a version

-- neither a draft nor anything to send again
abbrev pub IsClean : LocalItem → Type 0
IsClean local = (local.latest ≡ None) × (local.posted ≡ None) × (local.stale ≡ false)

record Taken (uuid : Bytes) (version : ItemRow) (cs : Columns) : Type 0 where
  uuid_is : cs.uuid ≡ uuid
  undeleted : version.deleted ≡ false
  kind_is : cs.kind ≡ version.kind
  base_is : cs.base ≡ Some version.updated
  strings : RowStrings
  body_is : cs.body ≡ Some (row.Sealed strings)
  content_is : strings.content ≡ version.content
  enc_is : strings.enc ≡ version.enc
  latest_is : cs.latest ≡ None
  posted_is : cs.posted ≡ None
  stale_is : cs.stale ≡ false

module _ (uuid : Bytes) (version : ItemRow) (cs : Columns) (t : Taken uuid version cs) (l : LocalItem) (is : columns l ≡ cs) where
  named_so : l.uuid ≡ uuid
  named_so = ap (λ (z : Columns). z.uuid) is ∙ t.uuid_is

  stands_so : StandsOnVersion version l
  stands_so = record {
    undeleted = t.undeleted;
    kind_is = ap (λ (z : Columns). z.kind) is ∙ t.kind_is;
    base_is = ap (λ (z : Columns). z.base) is ∙ t.base_is;
    strings = t.strings;
    body_is = ap (λ (z : Columns). z.body) is ∙ t.body_is;
    content_is = t.content_is;
    enc_is = t.enc_is;
  }

  clean_so : IsClean l
  clean_so = (
    ap (λ (z : Columns). z.latest) is ∙ t.latest_is,
    ap (λ (z : Columns). z.posted) is ∙ t.posted_is,
    ap (λ (z : Columns). z.stale) is ∙ t.stale_is,
  )

-- ---- what is left so far

-- the rows so far: what changes of items have left of the first ones, without drafts, of the account, and numbered below the next local number, which
-- hasn't fallen; nothing was drawn
pub record Going (server first : Rows) (n next : ℕ) (words : ChaCha) (p : Progress) : Type 0 where
  pub numbered : (number : ℕ) (local : LocalItem) → HasLocal p.rows number local → number < p.next
  pub apart : (number other : ℕ) (local twin : LocalItem) → HasLocal p.rows number local → HasLocal p.rows other twin → local.uuid ≡ twin.uuid → number ≡ other
  pub clean : (number : ℕ) (local : LocalItem) → HasLocal p.rows number local → IsClean local
  pub of_account : (number : ℕ) (local : LocalItem) → HasLocal p.rows number local → IsOfAccount server n local
  pub rows_are : p.rows ≡ rows_after first p.changes
  pub others : (at : Key) → key_kind at ≢ kind.Local → p.rows at ≡ first at
  pub small : All IsSmall p.changes
  pub rises : next ≤ p.next
  pub words_are : p.words ≡ words

-- a version of the account is taken
record Took (server first : Rows) (n next : ℕ) (words : ChaCha) (p q : Progress) (uuid : Bytes) (version : ItemRow) : Type 0 where
  going : Going server first n next words q
  here : IsPulled q.rows uuid version
  kept : (other : Bytes) (v : ItemRow) → Has server n other v → IsPulled p.rows other v → IsPulled q.rows other v
  more : length q.changes ≤ length p.changes + 1

moved_rows : (first : Rows) (p : Progress) (c : Change) → p.rows ≡ rows_after first p.changes → rows_after p.rows (c ∷ []) ≡ rows_after first (p.changes ++ c ∷ [])
moved_rows first p c are = ap (λ (r : Rows). rows_after r (c ∷ [])) are ∙ sym (after_append first p.changes (c ∷ []))

one_more : (changes : List Change) (c : Change) → length (changes ++ c ∷ []) ≤ length changes + 1
one_more changes c = omega (arith, length-append changes (c ∷ []))

module _ (server first : Rows) (n next : ℕ) (words : ChaCha) where
  abbrev Goes : Progress → Type 0
  Goes p = Going server first n next words p

  one_version : (uuid : Bytes) (a b : ItemRow) → Has server n uuid a → Has server n uuid b → a ≡ b
  one_version uuid a b h k = let x = h.0 in let y = k.0 in cc

  -- the same uuid has the same version
  other_pulled : (rows : Rows) (uuid other : Bytes) (version v : ItemRow) → Has server n uuid version → Has server n other v → uuid ≡ other
      → IsPulled rows uuid version → IsPulled rows other v
  other_pulled rows uuid other version v has had same pulled =
      let one : version ≡ v = one_version other version v (subst (λ (u : Bytes). Has server n u version) same has) had in
      subst (λ (w : ItemRow). IsPulled rows other w) one (subst (λ (u : Bytes). IsPulled rows u version) same pulled)

  took_to : (p q r : Progress) (uuid : Bytes) (version : ItemRow) → r ≡ q → Took server first n next words p q uuid version → Took server first n next words p r uuid version
  took_to p q r uuid version e t = subst (λ (z : Progress). Took server first n next words p z uuid version) (sym e) t

  of_account_so : (uuid : Bytes) (version : ItemRow) (cs : Columns) → Taken uuid version cs → Has server n uuid version → (l : LocalItem)
      → columns l ≡ cs → IsOfAccount server n l
  of_account_so uuid version cs t has l is =
      let base : l.base ≡ Some version.updated = ap (λ (z : Columns). z.base) is ∙ t.base_is in
      record {
        version = version;
        there = subst (λ (u : Bytes). Has server n u version) (sym (named_so uuid version cs t l is)) has;
        not_below = λ b stands. (let both : Some b ≡ Some version.updated = sym stands ∙ base in let same : b ≡ version.updated = cc in omega arith);
        level = λ e. stands_so uuid version cs t l is;
      }

  -- ---- a row is put

  module _ (p : Progress) (c : Change) (at later : ℕ) (cs : Columns) (uuid : Bytes) (version : ItemRow) (goes : Goes p) (put : PutsColumns c at cs)
      (t : Taken uuid version cs) (has : Has server n uuid version) (long : length uuid ≡ 16) (up : p.next ≤ later) (below : at < later)
      (old : (l : LocalItem) → HasLocal p.rows at l → l.uuid ≡ uuid)
      (alone : (m : ℕ) (l : LocalItem) → HasLocal p.rows m l → l.uuid ≡ uuid → m ≡ at) where
    abbrev moved : Progress
    moved = record { rows = rows_after p.rows (c ∷ []); changes = p.changes ++ c ∷ []; next = later; words = p.words }

    abbrev Finds : ℕ → LocalItem → Type 0
    Finds m l = ((m ≡ at) × (columns l ≡ cs)) ⊎ HasLocal p.rows m l

    found : (m : ℕ) (l : LocalItem) → HasLocal moved.rows m l → Finds m l
    found m l h = looked p.rows c at cs put m l h

    put_numbered : (m : ℕ) (l : LocalItem) → Finds m l → m < later
    put_numbered m l (inl (e, is)) = omega (arith, e, below)
    put_numbered m l (inr h) = let less = goes.numbered m l h in omega (arith, less, up)

    put_stays_apart : (m k : ℕ) (l j : LocalItem) → l.uuid ≡ j.uuid → Finds m l → Finds k j → m ≡ k
    put_stays_apart m k l j same (inl (e, is)) (inl (f, too)) = e ∙ sym f
    put_stays_apart m k l j same (inl (e, is)) (inr h) = e ∙ sym (alone k j h (sym same ∙ named_so uuid version cs t l is))
    put_stays_apart m k l j same (inr h) (inl (f, too)) = alone m l h (same ∙ named_so uuid version cs t j too) ∙ sym f
    put_stays_apart m k l j same (inr h) (inr i) = goes.apart m k l j h i same

    put_clean : (m : ℕ) (l : LocalItem) → Finds m l → IsClean l
    put_clean m l (inl (e, is)) = clean_so uuid version cs t l is
    put_clean m l (inr h) = goes.clean m l h

    put_of : (m : ℕ) (l : LocalItem) → Finds m l → IsOfAccount server n l
    put_of m l (inl (e, is)) = of_account_so uuid version cs t has l is
    put_of m l (inr h) = goes.of_account m l h

    put_small : IsSmall c
    put_small = small_put c at cs version put (ap length t.uuid_is ∙ long) t.strings t.body_is t.content_is t.enc_is t.latest_is t.posted_is

    put_goes : Goes moved
    put_goes = record {
      numbered = λ m l h. put_numbered m l (found m l h);
      apart = λ m k l j h i same. put_stays_apart m k l j same (found m l h) (found k j i);
      clean = λ m l h. put_clean m l (found m l h);
      of_account = λ m l h. put_of m l (found m l h);
      rows_are = moved_rows first p c goes.rows_are;
      others = λ other beside. put_elsewhere p.rows c (key.Local at) other (value.Local put.local) put.puts (λ e. beside (ap key_kind (sym e)))
          ∙ goes.others other beside;
      small = All-append IsSmall p.changes (c ∷ []) goes.small (All-cons IsSmall c [] put_small (All-nil IsSmall));
      rises = (let r = goes.rises in omega (arith, r, up));
      words_are = goes.words_are;
    }

    there : HasLocal moved.rows at put.local
    there = put_here p.rows c (key.Local at) (value.Local put.local) put.puts

    it_pulled : IsPulled moved.rows uuid version
    it_pulled = inr (at, put.local, (there, named_so uuid version cs t put.local put.columns_are), stands_so uuid version cs t put.local put.columns_are)

    -- a deletion of another item is still no row's
    still_free : (other : Bytes) (v : ItemRow) → Has server n other v → v.deleted ≡ true → IsFree p.rows other → (m : ℕ) (l : LocalItem)
        → l.uuid ≡ other → Finds m l → ⊥
    still_free other v had gone free m l named (inl (e, is)) =
        let same : uuid ≡ other = sym (named_so uuid version cs t l is) ∙ named in
        let one : version ≡ v = one_version other version v (subst (λ (u : Bytes). Has server n u version) same has) had in
        let live : v.deleted ≡ false = ap (λ (w : ItemRow). w.deleted) (sym one) ∙ t.undeleted in
        cc
    still_free other v had gone free m l named (inr h) = free m l (h, named)

    -- a row on another version is still there
    still_stands : (other : Bytes) (v : ItemRow) → Has server n other v → (m : ℕ) (l : LocalItem) → HasItem p.rows other m l → StandsOnVersion v l
        → ((key.Local at ≡ key.Local m) ⊎ (moved.rows (key.Local m) ≡ p.rows (key.Local m))) → IsPulled moved.rows other v
    still_stands other v had m l item stands (inl same) =
        let number : at ≡ m = cc in
        let own : l.uuid ≡ uuid = old l (subst (λ (k : ℕ). HasLocal p.rows k l) (sym number) item.0) in
        other_pulled moved.rows uuid other version v has had (sym own ∙ item.1) it_pulled
    still_stands other v had m l item stands (inr past) = inr (m, l, (past ∙ item.0, item.1), stands)

    put_kept : (other : Bytes) (v : ItemRow) → Has server n other v → IsPulled p.rows other v → IsPulled moved.rows other v
    put_kept other v had (inl (gone, free)) = inl (gone, λ m l h. still_free other v had gone free m l h.1 (found m l h.0))
    put_kept other v had (inr (m, l, item, stands)) =
        still_stands other v had m l item stands (put_or_not p.rows c (key.Local at) (value.Local put.local) put.puts (key.Local m))

    took_put : Took server first n next words p moved uuid version
    took_put = record { going = put_goes; here = it_pulled; kept = put_kept; more = one_more p.changes c }

  -- ---- a row is taken away

  module _ (p : Progress) (c : Change) (at : ℕ) (uuid : Bytes) (version : ItemRow) (goes : Goes p) (removes : Removes c (key.Local at))
      (has : Has server n uuid version) (gone : version.deleted ≡ true) (local : LocalItem) (item : HasItem p.rows uuid at local) where
    left : (m : ℕ) (l : LocalItem) → HasLocal (rows_after p.rows (c ∷ [])) m l → HasLocal p.rows m l
    left m l h = left_row p.rows c at removes m l h

    left_goes : Goes (changed p c)
    left_goes = record {
      numbered = λ m l h. goes.numbered m l (left m l h);
      apart = λ m k l j h i same. goes.apart m k l j (left m l h) (left k j i) same;
      clean = λ m l h. goes.clean m l (left m l h);
      of_account = λ m l h. goes.of_account m l (left m l h);
      rows_are = moved_rows first p c goes.rows_are;
      others = λ other beside. removed_elsewhere p.rows c (key.Local at) other removes (λ e. beside (ap key_kind (sym e))) ∙ goes.others other beside;
      small = All-append IsSmall p.changes (c ∷ []) goes.small (All-cons IsSmall c [] (small_removal c at removes) (All-nil IsSmall));
      rises = goes.rises;
      words_are = goes.words_are;
    }

    left_free : IsFree (rows_after p.rows (c ∷ [])) uuid
    left_free m l h =
        let number : m ≡ at = goes.apart m at l local (left m l h.0) item.0 (h.1 ∙ sym item.1) in
        let none : rows_after p.rows (c ∷ []) (key.Local at) ≡ None = removed_here p.rows c (key.Local at) removes in
        let some : HasLocal (rows_after p.rows (c ∷ [])) at l = subst (λ (k : ℕ). HasLocal (rows_after p.rows (c ∷ [])) k l) number h.0 in
        cc

    left_stands : (other : Bytes) (v : ItemRow) → Has server n other v → (m : ℕ) (l : LocalItem) → HasItem p.rows other m l → StandsOnVersion v l
        → ((same_key (key.Local at) (key.Local m) ≡ true) ⊎ (same_key (key.Local at) (key.Local m) ≡ false)) → IsPulled (rows_after p.rows (c ∷ [])) other v
    left_stands other v had m l h stands (inl same) =
        let keys : key.Local at ≡ key.Local m = (keys_compare (key.Local at) (key.Local m)).0 same in
        let number : at ≡ m = cc in
        let own : local ≡ l = same_row p.rows m local l (subst (λ (k : ℕ). HasLocal p.rows k local) number item.0) h.0 in
        let one_uuid : uuid ≡ other = sym item.1 ∙ ap (λ (x : LocalItem). x.uuid) own ∙ h.1 in
        let one : version ≡ v = one_version other version v (subst (λ (u : Bytes). Has server n u version) one_uuid has) had in
        let live : version.deleted ≡ false = ap (λ (w : ItemRow). w.deleted) one ∙ stands.undeleted in
        absurd cc
    left_stands other v had m l h stands (inr off) =
        inr (
          m,
          l,
          (
            removed_elsewhere p.rows c (key.Local at) (key.Local m) removes (λ e. (let is_same = (keys_compare (key.Local at) (key.Local m)).1 e in cc)) ∙ h.0,
            h.1,
          ),
          stands,
        )

    left_kept : (other : Bytes) (v : ItemRow) → Has server n other v → IsPulled p.rows other v → IsPulled (rows_after p.rows (c ∷ [])) other v
    left_kept other v had (inl (deleted, free)) = inl (deleted, λ m l h. free m l (left m l h.0, h.1))
    left_kept other v had (inr (m, l, h, stands)) = left_stands other v had m l h stands (cases_Bool (same_key (key.Local at) (key.Local m)))

    took_left : Took server first n next words p (changed p c) uuid version
    took_left = record { going = left_goes; here = inl (gone, left_free); kept = left_kept; more = one_more p.changes c }

  -- ---- one version

  -- nothing is done, since the device has it
  took_none : (p : Progress) (uuid : Bytes) (version : ItemRow) → Goes p → IsPulled p.rows uuid version → Took server first n next words p p uuid version
  took_none p uuid version goes pulled = record { going = goes; here = pulled; kept = λ other v had was. was; more = omega arith }

  module _ (stamps : HasOneStamp) (sets : Sets) (alone : sets.older ≡ None) (uuid : Bytes) (version : ItemRow) (i : Item) (given : IsGiven uuid version i)
      (has : Has server n uuid version) (long : length uuid ≡ 16) where
    -- the strings are kept as they are given
    taken_so : (w left : ChaCha) (content enc : Bytes) (cs : Columns) → i.body ≡ body.Strings content enc → StandsOn sets w i content enc None None cs left
        → Taken uuid version cs × (left ≡ w)
    taken_so w left content enc cs is on =
        let live = live_where version content enc (sym given.body ∙ is) in
        let stamp : on.stamp ≡ version.updated =
        (let both : Some on.stamped.0 ≡ Some given.stamp = sym on.stamped.2 ∙ given.updated in
        let text : on.stamped.0 ≡ given.stamp = cc in
        stamps given.stamp on.stamp version.updated (subst (λ (x : Bytes). IsStampText x on.stamp) text on.stamped.1) given.spelled) in
        elim on.kept [
          | inl kept ↦ (
            record {
              uuid_is = on.uuid_is ∙ given.uuid_is;
              undeleted = live.0;
              kind_is = on.kind_is ∙ given.kind;
              base_is = on.base_is ∙ ap (λ (s : ℕ). Some s) stamp;
              strings = on.strings;
              body_is = on.body_is;
              content_is = ap (λ (s : Sealed). s.content) kept.1 ∙ live.1;
              enc_is = ap (λ (s : Sealed). s.enc) kept.1 ∙ live.2;
              latest_is = on.latest_is;
              posted_is = on.posted_is;
              stale_is = kept.2;
            },
            kept.3,
          )
          | inr again ↦ (let held = again.1.held in absurd cc)
        ]

    took_body : (p : Progress) (number : ℕ) (local : LocalItem) (b : Body) (q : Progress) → i.body ≡ b → Goes p → HasItem p.rows uuid number local
        → TakesBody sets p number i b None None q → Took server first n next words p q uuid version
    took_body p number local body.Deleted q is goes item (c, removes, e) =
        took_to p (changed p c) q uuid version e
        (took_left p c number uuid version goes removes has (gone_where version (sym given.body ∙ is)) local item)
    took_body p number local (body.Strings content enc) q is goes item (cs, left, c, on, put, e) =
        let taken = taken_so p.words left content enc cs is on in
        took_to p (record { rows = rows_after p.rows (c ∷ []); changes = p.changes ++ c ∷ []; next = p.next; words = p.words }) q uuid version
        (e ∙ ap (with_words (changed p c)) taken.1)
        (took_put p c number p.next cs uuid version goes put taken.0 has long (omega arith) (goes.numbered number local item.0)
        (λ l h. ap (λ (x : LocalItem). x.uuid) (same_row p.rows number l local h item.0) ∙ item.1)
        (λ m l h named. goes.apart m number l local h item.0 (named ∙ sym item.1)))

    made_body : (p : Progress) (b : Body) (q : Progress) → i.body ≡ b → Goes p → IsFree p.rows uuid → MakesRow sets p i b q
        → Took server first n next words p q uuid version
    made_body p body.Deleted q is goes free e =
        took_to p p q uuid version e (took_none p uuid version goes (inl (gone_where version (sym given.body ∙ is), free)))
    made_body p (body.Strings content enc) q is goes free (room, cs, left, c, on, put, e) =
        let taken = taken_so p.words left content enc cs is on in
        took_to p (record { rows = rows_after p.rows (c ∷ []); changes = p.changes ++ c ∷ []; next = suc p.next; words = p.words }) q uuid version
        (e ∙ ap (with_words (made p c)) taken.1)
        (took_put p c p.next (suc p.next) cs uuid version goes put taken.0 has long (omega arith) (omega arith)
        (λ l h. (let less = goes.numbered p.next l h in absurd (omega arith)))
        (λ m l h named. absurd (free m l (h, named))))

    -- a row that stands on this version or a later one stands on this one
    known : (p : Progress) (number : ℕ) (local : LocalItem) → Goes p → HasItem p.rows uuid number local → IsKnown local i false → IsPulled p.rows uuid version
    known p number local goes item k =
        let a = goes.of_account number local item.0 in
        let one : a.version ≡ version = one_version uuid a.version version (subst (λ (u : Bytes). Has server n u a.version) item.1 a.there) has in
        let both : Some k.stamped.0 ≡ Some given.stamp = sym k.stamped.2 ∙ given.updated in
        let text : k.stamped.0 ≡ given.stamp = cc in
        let stamp : k.stamp ≡ version.updated =
        stamps given.stamp k.stamp version.updated (subst (λ (x : Bytes). IsStampText x k.stamp) text k.stamped.1) given.spelled in
        let less : k.base ≤ a.version.updated = a.not_below k.base k.stands_on in
        let up : a.version.updated ≡ version.updated = ap (λ (w : ItemRow). w.updated) one in
        let old = k.old in
        let level : k.base ≡ a.version.updated = omega (arith, less, up, stamp, old) in
        let stands : StandsOnVersion a.version local = a.level (k.stands_on ∙ ap (λ (s : ℕ). Some s) level) in
        inr (number, local, item, subst (λ (w : ItemRow). StandsOnVersion w local) one stands)

    no_draft : (p : Progress) (number : ℕ) (local : LocalItem) (latest : RowBody) → Goes p → HasItem p.rows uuid number local → local.latest ≡ Some latest → ⊥
    no_draft p number local latest goes item some = let none = (goes.clean number local item.0).0 in cc

    took_meeting : (p : Progress) (number : ℕ) (local : LocalItem) (how : Meeting) (q : Progress) → Goes p → HasItem p.rows uuid number local
        → MeetsAs sets local i false how → Meets sets p number local i how q → Took server first n next words p q uuid version
    took_meeting p number local meeting.Same q goes item (inl k) e =
        took_to p p q uuid version e (took_none p uuid version goes (known p number local goes item k))
    took_meeting p number local meeting.Same q goes item (inr closed) e = absurd (no_draft p number local _ goes item closed.other.meets.drafted)
    took_meeting p number local meeting.Take q goes item m does = took_body p number local i.body q refl goes item does
    took_meeting p number local (meeting.Own true) q goes item m does = absurd (no_draft p number local m.latest goes item m.meets.drafted)
    took_meeting p number local (meeting.Own false) q goes item m does = absurd (no_draft p number local m.latest goes item m.meets.drafted)
    took_meeting p number local meeting.GiveWay q goes item m does = absurd (no_draft p number local _ goes item m.meets.drafted)
    took_meeting p number local meeting.Fork q goes item m does = absurd (no_draft p number local _ goes item m.other.meets.drafted)

    named_it : (p : Progress) (number : ℕ) (local : LocalItem) → HasItem p.rows i.uuid number local → HasItem p.rows uuid number local
    named_it p number local item = (item.0, item.1 ∙ given.uuid_is)

    took_server : (p q : Progress) → Goes p → TakesServer sets p i false q → Took server first n next words p q uuid version
    took_server p q goes (inl (number, local, how, item, m, does)) = took_meeting p number local how q goes (named_it p number local item) m does
    took_server p q goes (inr (free, makes)) =
        made_body p i.body q refl goes (λ m l h. free m l (h.0, h.1 ∙ sym given.uuid_is)) makes

-- ---- a page

-- what is told is the version as it is given
abbrev pub IsTold : Found → Told → Type 0
IsTold f t = (i : Item) × (t ≡ is_retrieved i) × IsGiven f.0 f.1 i

pub record AllTook (server first : Rows) (n next : ℕ) (words : ChaCha) (p q : Progress) (page : List Found) : Type 0 where
  pub going : Going server first n next words q
  pub kept : (uuid : Bytes) (version : ItemRow) → Has server n uuid version → IsPulled p.rows uuid version ⊎ Contains page (uuid, version)
      → IsPulled q.rows uuid version
  pub more : length q.changes ≤ length p.changes + length page

module _ (stamps : HasOneStamp) (server first : Rows) (n next : ℕ) (words : ChaCha) (sets : Sets) (alone : sets.older ≡ None) where
  took_one : (p q : Progress) (f : Found) (t : Told) → Has server n f.0 f.1 → length f.0 ≡ 16 → IsTold f t → Going server first n next words p → Takes sets [] p t q
      → Took server first n next words p q f.0 f.1
  took_one p q f t has long (i, is, given) goes takes =
      elim (subst (λ (x : Told). Takes sets [] p x q) is takes) [
        | inl again ↦ absurd (none_of i.uuid again.0)
        | inr news ↦ took_server server first n next words stamps sets alone f.0 f.1 i given has long p q goes news.1
      ]

  pub took_all : (page : List Found) (ts : List Told) (p q : Progress) → ((f : Found) → Contains page f → Has server n f.0 f.1 × (length f.0 ≡ 16))
      → AllZip IsTold page ts → Going server first n next words p → TakesAll sets [] p ts q → AllTook server first n next words p q page
  took_all [] [] p q own told goes e =
      subst (λ (z : Progress). AllTook server first n next words p z []) (sym e)
      (record {
        going = goes;
        kept = λ uuid version has was. ⊎_elim (λ before. before) (λ among. absurd (none_of (uuid, version) among)) was;
        more = omega arith;
      })
  took_all [] (t ∷ ts) p q own told goes takes = absurd told
  took_all (f ∷ page) [] p q own told goes takes = absurd told
  took_all (f ∷ page) (t ∷ ts) p q own told goes (r, taken, later) =
      let it = own f (at_head f page) in
      let one = took_one p r f t it.0 it.1 told.0 goes taken in
      let rest = took_all page ts r q (λ g among. own g (behind_head f page g among)) told.1 one.going later in
      record {
        going = rest.going;
        kept = λ uuid version has was. rest.kept uuid version has (⊎_elim
            (λ before. inl (one.kept uuid version has before))
            (λ (among : Contains (f ∷ page) (uuid, version)). ⊎_elim
            (λ (same : f ≡ (uuid, version)). inl (subst (λ (g : Found). IsPulled r.rows g.0 g.1) same one.here))
            (λ behind. inr behind)
            (head_or_behind f page (uuid, version) among)) was);
        more = (let a = one.more in let b = rest.more in omega arith);
      }

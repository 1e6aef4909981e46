-- What an answer to a sync tells, item by item.
use Rattle.std.proofs.Common.{◌≡◌, ◌≢◌, ◌∙◌, ℕ, ◌<◌, ◌≤◌, List, [], ◌∷◌, ◌++◌, map, Bool, true, false, Option, Some, None, ◌⊎◌, inl, inr, refl, sym, ap, subst, arith, ⊎_elim, append_assoc}
use Rattle.std.specs.List.{Contains}
use Rattle.std.specs.Prelude.{if◌then◌else◌}
use Rattle.std.specs.List.Sorted.{IsStrictlyIncreasing, IsStrictlySortedBy}
use Rattle.std.specs.Ordering.{nat_cmp}
use Rattle.std.proofs.lemmas.Bool.{cases_Bool}
use Rattle.std.proofs.lemmas.List.{map-append}
use Rattle.std.proofs.lemmas.Map.Keys.{sorted_from_strictly_increasing}
use Rattle.std.proofs.lemmas.List.Elements.{Contains-append_cases, Contains-append_left, Contains-append_right, Contains-push, Contains-push_cases}
use Rattle.sn_rows.specs.Facts.{put_elsewhere, put_here, put_or_not}
use Rattle.sn_rows.specs.Table.{Rows, rows_after}
use Rattle.sn_rows.specs.declared.change.Change.{Change}
use Rattle.sn_rows.specs.declared.key.Key.TheVariants as key
use Rattle.sn_rows.specs.declared.server_rows.ItemRow.{ItemRow}
use Rattle.sn_rows.specs.declared.server_rows.StoreRow.{StoreRow}
use Rattle.sn_rows.specs.declared.value.Value.TheVariants as value
use Rattle.sn_string.specs.declared.params.Params.{Params}
use Rattle.sn_sync.specs.Tokens.{IsToken}
use Rattle.sn_sync.specs.declared.answer.Answer.TheVariants as answer
use Rattle.sn_sync.specs.declared.answer.Conflict.{Conflict}
use Rattle.sn_sync.specs.declared.answer.Conflict.TheVariants as conflict
use Rattle.sn_sync.specs.declared.item.Body.TheVariants as body
use Rattle.sn_sync.specs.declared.item.Item.{Item}
use Rattle.sn_account.specs.Incoming.{Progress, PutsVersion, SameVersion, Takes, TakesAll, stamp_of}
use Rattle.sn_account.specs.Lookups.{Bytes, HasItem, HasStore}
use Rattle.sn_account.specs.Pages.{AreGiven, Found, IsLastOf, IsPage}
use Rattle.sn_account.specs.Sound.{IsSound}
use Rattle.sn_account.specs.Stored.{IsGiven}
use Rattle.sn_account.specs.Syncs.{AreChanges, AreTokens, Synced, above_of, is_first, start}
use Rattle.sn_account.specs.Tells.{AreApart, IsSavedOf, IsStored, SyncsTell, TellsConflict, TellsRows, conflict_uuids, item_of, uuids}
use Rattle.sn_account.proofs.RisingLists.{image, later_above, none_of}
use Rattle.sn_account.proofs.SyncLemmas.{Grown, grown_all, grown_first, same_store}
use Rattle.sn_account.proofs.TakenLemmas.{rows_after-more}

-- ---- lists of uuids

map_push : {A B : Type 0} (f : A → B) (xs : List A) (x : A) → map f (xs ++ x ∷ []) ≡ map f xs ++ f x ∷ []
map_push f [] x = refl
map_push f (y ∷ xs) x = ap (λ ys. f y ∷ ys) (map_push f xs x)

first_is : (w : Bytes) (us : List Bytes) (u : Bytes) → w ≡ u → Contains (w ∷ us) u
first_is w us u same = subst (λ (v : Bytes). Contains (w ∷ us) v) same (Contains-append_left (w ∷ []) us w (Contains-push [] w))

apart_push : (us : List Bytes) (u : Bytes) → AreApart us → ¬ (Contains us u) → AreApart (us ++ u ∷ [])
apart_push [] u apart not = (λ has. absurd (omega (arith, has.1)), tt)
apart_push (w ∷ us) u apart not = (
  λ has. ⊎_elim (λ before. apart.0 before) (λ same. not (first_is w us u (sym same))) (Contains-push_cases us u w has),
  apart_push us u apart.1 (λ has. not (Contains-append_right (w ∷ []) us u has)),
)

-- ---- what was told of the items so far

-- of the rows before, with all that was sent, and those of it that were dealt with
record Told (rows : Rows) (n : ℕ) (present : Params) (sent front : List Item) (p : Progress) : Type 0 where
  saved_apart : AreApart (uuids p.saved)
  conflicts_apart : AreApart (conflict_uuids p.conflicts)
  disjoint : (u : Bytes) → Contains (uuids p.saved) u → ¬ (Contains (conflict_uuids p.conflicts) u)
  saved_named : (u : Bytes) → Contains (uuids p.saved) u → Contains (uuids front) u
  conflicts_named : (u : Bytes) → Contains (conflict_uuids p.conflicts) u → Contains (uuids front) u
  saved_are : (i : Item) → Contains p.saved i → IsStored p.rows n i × ((s : Item) × Contains sent s × IsSavedOf s i)
  conflicts_are : (c : Conflict) → Contains p.conflicts c → TellsConflict p.rows n present sent c
  moved : (u : Bytes) (row : ItemRow) → HasItem p.rows u row → HasItem rows u row ⊎ Contains (uuids p.saved) u
  kept : (u : Bytes) (row : ItemRow) → HasItem rows u row → HasItem p.rows u row ⊎ Contains (uuids p.saved) u

told_first : (rows : Rows) (n : ℕ) (present : Params) (sent : List Item) (p : Progress) → p.rows ≡ rows → p.saved ≡ [] → p.conflicts ≡ []
    → Told rows n present sent [] p
told_first rows n present sent p same saved conflicts =
    let nobody : (u : Bytes) → ¬ (Contains (uuids p.saved) u) = λ u has. none_of u (subst (λ (is : List Item). Contains (uuids is) u) saved has) in
    let nothing : (u : Bytes) → ¬ (Contains (conflict_uuids p.conflicts) u) =
    λ u has. none_of u (subst (λ (cs : List Conflict). Contains (conflict_uuids cs) u) conflicts has) in
    record {
      saved_apart = subst (λ (is : List Item). AreApart (uuids is)) (sym saved) tt;
      conflicts_apart = subst (λ (cs : List Conflict). AreApart (conflict_uuids cs)) (sym conflicts) tt;
      disjoint = λ u has. absurd (nobody u has);
      saved_named = λ u has. absurd (nobody u has);
      conflicts_named = λ u has. absurd (nothing u has);
      saved_are = λ i has. absurd (none_of i (subst (λ (is : List Item). Contains is i) saved has));
      conflicts_are = λ c has. absurd (none_of c (subst (λ (cs : List Conflict). Contains cs c) conflicts has));
      moved = λ u row has. inl (ap (λ (r : Rows). r (key.Item u)) (sym same) ∙ has);
      kept = λ u row has. inl (ap (λ (r : Rows). r (key.Item u)) same ∙ has);
    }

-- names go on behind the front
named_more : (front : List Item) (i : Item) (u : Bytes) → Contains (uuids front) u → Contains (uuids (front ++ i ∷ [])) u
named_more front i u has =
    subst (λ (us : List Bytes). Contains us u) (sym (map_push (λ (j : Item). j.uuid) front i)) (Contains-append_left (uuids front) (i.uuid ∷ []) u has)

named_it : (front : List Item) (i : Item) → Contains (uuids (front ++ i ∷ [])) i.uuid
named_it front i =
    subst (λ (us : List Bytes). Contains us i.uuid) (sym (map_push (λ (j : Item). j.uuid) front i)) (Contains-push (uuids front) i.uuid)

-- ---- a conflict more

module _ (rows : Rows) (n : ℕ) (present : Params) (sent front : List Item) (p q : Progress) (i : Item) (c : Conflict) (t : Told rows n present sent front p)
    (fresh : ¬ (Contains (uuids front) i.uuid)) (same : q.rows ≡ p.rows) (saved : q.saved ≡ p.saved) (conflicts : q.conflicts ≡ p.conflicts ++ c ∷ [])
    (named : (item_of c).uuid ≡ i.uuid) (tells : TellsConflict p.rows n present sent c) where
  names : conflict_uuids q.conflicts ≡ conflict_uuids p.conflicts ++ i.uuid ∷ []
  names = ap conflict_uuids conflicts ∙ map_push (λ (d : Conflict). (item_of d).uuid) p.conflicts c
      ∙ ap (λ (u : Bytes). conflict_uuids p.conflicts ++ u ∷ []) named

  back : (u : Bytes) → Contains (uuids q.saved) u → Contains (uuids p.saved) u
  back u has = subst (λ (is : List Item). Contains (uuids is) u) saved has

  forth : (u : Bytes) → Contains (uuids p.saved) u → Contains (uuids q.saved) u
  forth u has = subst (λ (is : List Item). Contains (uuids is) u) (sym saved) has

  cases : (u : Bytes) → Contains (conflict_uuids q.conflicts) u → Contains (conflict_uuids p.conflicts) u ⊎ (i.uuid ≡ u)
  cases u has = Contains-push_cases (conflict_uuids p.conflicts) i.uuid u (subst (λ (us : List Bytes). Contains us u) names has)

  told_conflict : Told rows n present sent (front ++ i ∷ []) q
  told_conflict = record {
    saved_apart = subst (λ (is : List Item). AreApart (uuids is)) (sym saved) t.saved_apart;
    conflicts_apart = subst AreApart (sym names) (apart_push (conflict_uuids p.conflicts) i.uuid t.conflicts_apart
        (λ has. fresh (t.conflicts_named i.uuid has)));
    disjoint = λ u has other. ⊎_elim (λ before. t.disjoint u (back u has) before)
        (λ (it : i.uuid ≡ u). fresh (subst (λ (w : Bytes). Contains (uuids front) w) (sym it) (t.saved_named u (back u has)))) (cases u other);
    saved_named = λ u has. named_more front i u (t.saved_named u (back u has));
    conflicts_named = λ u has. ⊎_elim (λ before. named_more front i u (t.conflicts_named u before))
        (λ (it : i.uuid ≡ u). subst (λ (w : Bytes). Contains (uuids (front ++ i ∷ [])) w) it (named_it front i)) (cases u has);
    saved_are = λ j has. subst (λ (r : Rows). IsStored r n j × ((s : Item) × Contains sent s × IsSavedOf s j)) (sym same)
        (t.saved_are j (subst (λ (is : List Item). Contains is j) saved has));
    conflicts_are = λ d has. subst (λ (r : Rows). TellsConflict r n present sent d) (sym same)
        (⊎_elim (λ before. t.conflicts_are d before) (λ (it : c ≡ d). subst (λ (e : Conflict). TellsConflict p.rows n present sent e) it tells)
        (Contains-push_cases p.conflicts c d (subst (λ (cs : List Conflict). Contains cs d) conflicts has)));
    moved = λ u row has. ⊎_elim (λ old. inl old) (λ new. inr (forth u new))
        (t.moved u row (ap (λ (r : Rows). r (key.Item u)) (sym same) ∙ has));
    kept = λ u row has. ⊎_elim (λ stays. inl (ap (λ (r : Rows). r (key.Item u)) same ∙ stays)) (λ new. inr (forth u new)) (t.kept u row has);
  }

-- ---- a saved item more

module _ (rows : Rows) (n : ℕ) (present : Params) (sent front : List Item) (p q : Progress) (i given : Item) (t : Told rows n present sent front p)
    (fresh : ¬ (Contains (uuids front) i.uuid)) (among : Contains sent i) (saved : q.saved ≡ p.saved ++ given ∷ []) (conflicts : q.conflicts ≡ p.conflicts)
    (keeps : (u : Bytes) (row : ItemRow) → HasItem p.rows u row → HasItem q.rows u row ⊎ (i.uuid ≡ u))
    (moves : (u : Bytes) (row : ItemRow) → HasItem q.rows u row → HasItem p.rows u row ⊎ (i.uuid ≡ u))
    (stored : IsStored q.rows n given) (is : IsSavedOf i given) where
  saved_names : uuids q.saved ≡ uuids p.saved ++ i.uuid ∷ []
  saved_names = ap uuids saved ∙ map_push (λ (j : Item). j.uuid) p.saved given ∙ ap (λ (u : Bytes). uuids p.saved ++ u ∷ []) is.uuid

  saved_cases : (u : Bytes) → Contains (uuids q.saved) u → Contains (uuids p.saved) u ⊎ (i.uuid ≡ u)
  saved_cases u has = Contains-push_cases (uuids p.saved) i.uuid u (subst (λ (us : List Bytes). Contains us u) saved_names has)

  saved_forth : (u : Bytes) → Contains (uuids p.saved) u → Contains (uuids q.saved) u
  saved_forth u has = subst (λ (us : List Bytes). Contains us u) (sym saved_names) (Contains-append_left (uuids p.saved) (i.uuid ∷ []) u has)

  saved_it : (u : Bytes) → i.uuid ≡ u → Contains (uuids q.saved) u
  saved_it u it = subst (λ (w : Bytes). Contains (uuids q.saved) w) it (subst (λ (us : List Bytes). Contains us i.uuid) (sym saved_names)
      (Contains-push (uuids p.saved) i.uuid))

  conflicts_back : (u : Bytes) → Contains (conflict_uuids q.conflicts) u → Contains (conflict_uuids p.conflicts) u
  conflicts_back u has = subst (λ (cs : List Conflict). Contains (conflict_uuids cs) u) conflicts has

  -- a row of a uuid before this one stays
  stays : (u : Bytes) (row : ItemRow) → Contains (uuids front) u → HasItem p.rows u row → HasItem q.rows u row
  stays u row before has = ⊎_elim (λ on. on)
      (λ (it : i.uuid ≡ u). absurd (fresh (subst (λ (w : Bytes). Contains (uuids front) w) (sym it) before))) (keeps u row has)

  conflict_stays : (d : Conflict) → Contains (uuids front) (item_of d).uuid → TellsConflict p.rows n present sent d → TellsConflict q.rows n present sent d
  conflict_stays (conflict.Sync server) before tells =
      ((tells.0.0, stays server.uuid tells.0.0 before tells.0.1, tells.0.2, tells.0.3), tells.1)
  conflict_stays (conflict.Uuid unsaved) before tells = (tells.0, (tells.1.0, stays unsaved.uuid tells.1.0 before tells.1.1, tells.1.2))
  conflict_stays (conflict.Content unsaved) before tells = tells

  told_saved : Told rows n present sent (front ++ i ∷ []) q
  told_saved = record {
    saved_apart = subst AreApart (sym saved_names) (apart_push (uuids p.saved) i.uuid t.saved_apart (λ has. fresh (t.saved_named i.uuid has)));
    conflicts_apart = subst (λ (cs : List Conflict). AreApart (conflict_uuids cs)) (sym conflicts) t.conflicts_apart;
    disjoint = λ u has other. ⊎_elim (λ before. t.disjoint u before (conflicts_back u other))
        (λ (it : i.uuid ≡ u). fresh (subst (λ (w : Bytes). Contains (uuids front) w) (sym it) (t.conflicts_named u (conflicts_back u other)))) (saved_cases u has);
    saved_named = λ u has. ⊎_elim (λ before. named_more front i u (t.saved_named u before))
        (λ (it : i.uuid ≡ u). subst (λ (w : Bytes). Contains (uuids (front ++ i ∷ [])) w) it (named_it front i)) (saved_cases u has);
    conflicts_named = λ u has. named_more front i u (t.conflicts_named u (conflicts_back u has));
    saved_are = λ j has. ⊎_elim
        (λ before. let a = t.saved_are j before in
        let name = t.saved_named j.uuid (image (λ (k : Item). k.uuid) p.saved j before) in
        ((a.0.0, stays j.uuid a.0.0 name a.0.1, a.0.2, a.0.3), a.1))
        (λ (it : given ≡ j). subst (λ (k : Item). IsStored q.rows n k × ((s : Item) × Contains sent s × IsSavedOf s k)) it (stored, (i, among, is)))
        (Contains-push_cases p.saved given j (subst (λ (js : List Item). Contains js j) saved has));
    conflicts_are = λ d has. let before = subst (λ (cs : List Conflict). Contains cs d) conflicts has in
        conflict_stays d (t.conflicts_named (item_of d).uuid (image (λ (e : Conflict). (item_of e).uuid) p.conflicts d before)) (t.conflicts_are d before);
    moved = λ u row has. ⊎_elim
        (λ old. ⊎_elim (λ first. inl first) (λ new. inr (saved_forth u new)) (t.moved u row old))
        (λ it. inr (saved_it u it)) (moves u row has);
    kept = λ u row has. ⊎_elim
        (λ old. ⊎_elim (λ on. inl on) (λ it. inr (saved_it u it)) (keeps u row old))
        (λ new. inr (saved_forth u new)) (t.kept u row has);
  }

-- ---- one item

given_stored : (rows : Rows) (n : ℕ) (uuid : Bytes) (row : ItemRow) (given : Item) → HasItem rows uuid row → row.account ≡ n → IsGiven uuid row given
    → IsStored rows n given
given_stored rows n uuid row given has own gives =
    let P : Bytes → Type 0 = λ u. (r : ItemRow) × HasItem rows u r × (r.account ≡ n) × IsGiven u r given in
    subst P (sym gives.uuid_is) (row, has, own, gives)

same_kind : (row : ItemRow) (i : Item) → SameVersion row i → i.body ≢ body.Deleted → row.kind ≡ i.kind
same_kind row i same live =
    elim (cases_Bool row.deleted) [
      | inl gone ↦ absurd (live (sym same.0 ∙ ap (λ (b : Bool). if b then body.Deleted else body.Strings row.content row.enc) gone))
      | inr kept ↦ same.1 kept
    ]

same_item : (u w : Bytes) → key.Item u ≡ key.Item w → u ≡ w
same_item u w same = cc

told_new : (rows : Rows) (present : Params) (now n : ℕ) (sent front : List Item) (p q : Progress) (i given : Item) (row : ItemRow) (change : Change)
    → Told rows n present sent front p → ¬ (Contains (uuids front) i.uuid) → Contains sent i → PutsVersion p n (stamp_of now p.last) i row change
    → IsGiven i.uuid row given → q.rows ≡ rows_after p.rows (change ∷ []) → q.saved ≡ p.saved ++ given ∷ [] → q.conflicts ≡ p.conflicts
    → Told rows n present sent (front ++ i ∷ []) q
told_new rows present now n sent front p q i given row change t fresh among puts gives same saved conflicts =
    let at : (u : Bytes) → q.rows (key.Item u) ≡ rows_after p.rows (change ∷ []) (key.Item u) = λ u. ap (λ (r : Rows). r (key.Item u)) same in
    told_saved rows n present sent front p q i given t fresh among saved conflicts
    (λ u old has. ⊎_elim (λ (here : key.Item i.uuid ≡ key.Item u). inr (same_item i.uuid u here)) (λ there. inl (at u ∙ there ∙ has))
    (put_or_not p.rows change (key.Item i.uuid) (value.Item row) puts.puts (key.Item u)))
    (λ u old has. ⊎_elim (λ (here : key.Item i.uuid ≡ key.Item u). inr (same_item i.uuid u here)) (λ there. inl (sym there ∙ sym (at u) ∙ has))
    (put_or_not p.rows change (key.Item i.uuid) (value.Item row) puts.puts (key.Item u)))
    (given_stored q.rows n i.uuid row given (at i.uuid ∙ put_here p.rows change (key.Item i.uuid) (value.Item row) puts.puts) puts.account gives)
    (record { uuid = gives.uuid_is; body = gives.body ∙ puts.body; kind = λ live. gives.kind ∙ puts.kind })

told_takes : (rows : Rows) (present : Params) (now n : ℕ) (sent front : List Item) (p q : Progress) (i : Item) → Told rows n present sent front p
    → ¬ (Contains (uuids front) i.uuid) → Contains sent i → Takes present now n p i q → Told rows n present sent (front ++ i ∷ []) q
told_takes rows present now n sent front p q i t fresh among (inl c) =
    subst (λ (x : Progress). Told rows n present sent (front ++ i ∷ []) x) (sym c.1)
    (told_conflict rows n present sent front p _ i (conflict.Uuid i) t fresh refl refl refl refl (among, c.0))
told_takes rows present now n sent front p q i t fresh among (inr (inl c)) =
    subst (λ (x : Progress). Told rows n present sent (front ++ i ∷ []) x) (sym c.5)
    (told_saved rows n present sent front p _ i c.1 t fresh among refl refl (λ u r h. inl h) (λ u r h. inl h)
    (given_stored p.rows n i.uuid c.0 c.1 c.2.0 c.2.1 c.4)
    (record { uuid = c.4.uuid_is; body = c.4.body ∙ c.3.0; kind = λ live. c.4.kind ∙ same_kind c.0 i c.3 live }))
told_takes rows present now n sent front p q i t fresh among (inr (inr (inl c))) =
    subst (λ (x : Progress). Told rows n present sent (front ++ i ∷ []) x) (sym c.6)
    (told_conflict rows n present sent front p _ i (conflict.Sync c.1) t fresh refl refl refl c.5.uuid_is (
      given_stored p.rows n i.uuid c.0 c.1 c.2.0 c.2.1 c.5,
      subst (λ (u : Bytes). Contains (uuids sent) u) (sym c.5.uuid_is) (image (λ (j : Item). j.uuid) sent i among),
    ))
told_takes rows present now n sent front p q i t fresh among (inr (inr (inr (inl c)))) =
    subst (λ (x : Progress). Told rows n present sent (front ++ i ∷ []) x) (sym c.2)
    (told_conflict rows n present sent front p _ i (conflict.Content i) t fresh refl refl refl refl (among, c.1))
told_takes rows present now n sent front p q i t fresh among (inr (inr (inr (inr c)))) =
    subst (λ (x : Progress). Told rows n present sent (front ++ i ∷ []) x) (sym c.2.5)
    (told_new rows present now n sent front p _ i c.2.2 c.2.0 c.2.1 t fresh among c.2.3 c.2.4 refl refl refl)

-- ---- all items

-- each item's uuid is another than those before it
Fresh : List Item → List Item → Type 0
Fresh front [] = Unit {0}
Fresh front (i ∷ is) = ¬ (Contains (uuids front) i.uuid) × Fresh (front ++ i ∷ []) is

fresh_of : (front items : List Item) → AreApart (uuids items) → ((u : Bytes) → Contains (uuids front) u → ¬ (Contains (uuids items) u)) → Fresh front items
unfolding Fresh
fresh_of front [] apart off = tt
fresh_of front (i ∷ is) apart off =
    let here : Contains (uuids (i ∷ is)) i.uuid = Contains-append_left (i.uuid ∷ []) (uuids is) i.uuid (Contains-push [] i.uuid) in (
      λ has. off i.uuid has here,
      fresh_of (front ++ i ∷ []) is apart.1
          (λ u has later. ⊎_elim (λ before. off u before (Contains-append_right (i.uuid ∷ []) (uuids is) u later))
          (λ (it : i.uuid ≡ u). apart.0 (subst (λ (w : Bytes). Contains (uuids is) w) (sym it) later))
          (Contains-push_cases (uuids front) i.uuid u (subst (λ (us : List Bytes). Contains us u) (map_push (λ (j : Item). j.uuid) front i) has))),
    )

told_all : (rows : Rows) (present : Params) (now n : ℕ) (sent front : List Item) (p q : Progress) (items : List Item) → Told rows n present sent front p
    → Fresh front items → ((j : Item) → Contains items j → Contains sent j) → TakesAll present now n p items q
    → (last : List Item) × Told rows n present sent last q
unfolding Fresh
told_all rows present now n sent front p q [] t fresh among is = (front, subst (λ (x : Progress). Told rows n present sent front x) (sym is) t)
told_all rows present now n sent front p q (i ∷ is) t fresh among (inl c) = (front, subst (λ (x : Progress). Told rows n present sent front x) (sym c.1) t)
told_all rows present now n sent front p q (i ∷ is) t fresh among (inr c) =
    told_all rows present now n sent (front ++ i ∷ []) c.1.0 q is
    (told_takes rows present now n sent front p c.1.0 i t fresh.0 (among i (Contains-append_left (i ∷ []) is i (Contains-push [] i))) c.1.1)
    fresh.1 (λ j has. among j (Contains-append_right (i ∷ []) is j has)) c.1.2

-- ---- stamps, and the rows by the changes

-- the rows are those that the changes leave, and no stamp falls
record Goes (rows : Rows) (last : ℕ) (p : Progress) : Type 0 where
  rows_are : p.rows ≡ rows_after rows p.changes
  rises : last ≤ p.last

goes_takes : (rows : Rows) (last : ℕ) (present : Params) (now n : ℕ) (p q : Progress) (i : Item) → Goes rows last p → Takes present now n p i q → Goes rows last q
goes_takes rows last present now n p q i g (inl c) = subst (λ (x : Progress). Goes rows last x) (sym c.1) (record { rows_are = g.rows_are; rises = g.rises })
goes_takes rows last present now n p q i g (inr (inl c)) = subst (λ (x : Progress). Goes rows last x) (sym c.5) (record { rows_are = g.rows_are; rises = g.rises })
goes_takes rows last present now n p q i g (inr (inr (inl c))) =
    subst (λ (x : Progress). Goes rows last x) (sym c.6) (record { rows_are = g.rows_are; rises = g.rises })
goes_takes rows last present now n p q i g (inr (inr (inr (inl c)))) =
    subst (λ (x : Progress). Goes rows last x) (sym c.2) (record { rows_are = g.rows_are; rises = g.rises })
goes_takes rows last present now n p q i g (inr (inr (inr (inr c)))) =
    let up : last ≤ p.last = g.rises in
    subst (λ (x : Progress). Goes rows last x) (sym c.2.5) (record {
      rows_are = ap (λ (r : Rows). rows_after r (c.2.1 ∷ [])) g.rows_are ∙ sym (rows_after-more rows p.changes c.2.1);
      rises = omega arith;
    })

goes_all : (rows : Rows) (last : ℕ) (present : Params) (now n : ℕ) (p q : Progress) (items : List Item) → Goes rows last p → TakesAll present now n p items q
    → Goes rows last q
goes_all rows last present now n p q [] g is = subst (λ (x : Progress). Goes rows last x) (sym is) g
goes_all rows last present now n p q (i ∷ is) g (inl c) = subst (λ (x : Progress). Goes rows last x) (sym c.1) g
goes_all rows last present now n p q (i ∷ is) g (inr c) =
    goes_all rows last present now n c.1.0 q is (goes_takes rows last present now n p c.1.0 i g c.1.1) c.1.2

-- the items of the rows after the changes are those after the last item
after_item : (rows : Rows) (store : StoreRow) (q : Progress) (changes : List Change) → q.rows ≡ rows_after rows q.changes → AreChanges store q.changes q.last changes
    → (u : Bytes) → rows_after rows changes (key.Item u) ≡ q.rows (key.Item u)
after_item rows store q changes are (inl none) u =
    ap (λ (cs : List Change). rows_after rows cs (key.Item u)) (none.1 ∙ sym none.0) ∙ ap (λ (r : Rows). r (key.Item u)) (sym are)
after_item rows store q changes are (inr some) u =
    let m = some.1 in
    ap (λ (cs : List Change). rows_after rows cs (key.Item u)) m.6
    ∙ ap (λ (r : Rows). r (key.Item u)) (rows_after-more rows q.changes m.0)
    ∙ put_elsewhere (rows_after rows q.changes) m.0 key.Store (key.Item u) (value.Store m.1) m.2 (λ same. cc)
    ∙ ap (λ (r : Rows). r (key.Item u)) (sym are)

-- and the store's last stamp is the last one given, or where nothing changed that of before
after_store : (rows : Rows) (store st : StoreRow) (q : Progress) (changes : List Change) → HasStore rows store → AreChanges store q.changes q.last changes
    → HasStore (rows_after rows changes) st → ((q.changes ≡ []) × (st ≡ store)) ⊎ (st.last ≡ q.last)
after_store rows store st q changes has (inl none) now =
    let both : Some (value.Store st) ≡ Some (value.Store store) =
    sym now ∙ ap (λ (cs : List Change). rows_after rows cs key.Store) none.1 ∙ has in
    inl (none.0, cc)
after_store rows store st q changes has (inr some) now =
    let m = some.1 in
    let put : rows_after rows changes key.Store ≡ Some (value.Store m.1) =
    ap (λ (cs : List Change). rows_after rows cs key.Store) m.6 ∙ ap (λ (r : Rows). r key.Store) (rows_after-more rows q.changes m.0)
    ∙ put_here (rows_after rows q.changes) m.0 key.Store (value.Store m.1) m.2 in
    let both : Some (value.Store st) ≡ Some (value.Store m.1) = sym now ∙ put in
    let same : st ≡ m.1 = cc in
    inr (ap (λ (s : StoreRow). s.last) same ∙ m.5)

-- ---- the page

-- each item of the page is given
zip_given : (page : List Found) (items : List Item) (f : Found) → AreGiven page items → Contains page f → (i : Item) × Contains items i × IsGiven f.0 f.1 i
zip_given [] items f are has = absurd (omega (arith, has.1))
zip_given (g ∷ page) [] f are has = absurd are
zip_given (g ∷ page) (i ∷ items) f are has =
    ⊎_elim
    (λ front. ⊎_elim (λ none. absurd (omega (arith, none.1)))
    (λ (same : g ≡ f). (i, Contains-append_left (i ∷ []) items i (Contains-push [] i), subst (λ (h : Found). IsGiven h.0 h.1 i) same are.0))
    (Contains-push_cases [] g f front))
    (λ behind. let at = zip_given page items f are.1 behind in (at.0, Contains-append_right (i ∷ []) items at.0 at.1, at.2))
    (Contains-append_cases (g ∷ []) page f has)

-- and nothing else
zip_found : (page : List Found) (items : List Item) (i : Item) → AreGiven page items → Contains items i → (f : Found) × Contains page f × IsGiven f.0 f.1 i
zip_found [] [] i are has = absurd (omega (arith, has.1))
zip_found [] (j ∷ items) i are has = absurd are
zip_found (g ∷ page) [] i are has = absurd are
zip_found (g ∷ page) (j ∷ items) i are has =
    ⊎_elim
    (λ front. ⊎_elim (λ none. absurd (omega (arith, none.1)))
    (λ (same : j ≡ i). (g, Contains-append_left (g ∷ []) page g (Contains-push [] g), subst (λ (h : Item). IsGiven g.0 g.1 h) same are.0))
    (Contains-push_cases [] j i front))
    (λ behind. let at = zip_found page items i are.1 behind in (at.0, Contains-append_right (g ∷ []) page at.0 at.1, at.2))
    (Contains-append_cases (j ∷ []) items i has)

-- what is left has a stamp above the page's last
left_above : (page left : List Found) (stamp : ℕ) (f : Found) → IsStrictlyIncreasing (map (λ (g : Found). g.1.updated) (page ++ left)) → IsLastOf page stamp
    → Contains left f → stamp < f.1.updated
left_above page left stamp f rising last has =
    let up : Found → ℕ = λ g. g.1.updated in
    let parts : map up (page ++ left) ≡ map up last.front ++ up last.last ∷ map up left =
    ap (λ (p : List Found). map up (p ++ left)) last.split ∙ ap (map up) (append_assoc last.front (last.last ∷ []) left)
    ∙ map-append up last.front (last.last ∷ left) in
    let sorted : IsStrictlySortedBy nat_cmp (map up last.front ++ up last.last ∷ map up left) =
    sorted_from_strictly_increasing (map up last.front ++ up last.last ∷ map up left) (subst IsStrictlyIncreasing parts rising) in
    let below : up last.last < f.1.updated = later_above (map up last.front) (up last.last) (map up left) (f.1.updated) sorted (image up left f has) in
    let is : stamp ≡ up last.last = last.is in
    omega arith

-- ---- the answer

-- where the sync token's stamp is from, and what it bounds
record Stamped (rows : Rows) (n : ℕ) (q : Progress) (page left : List Found) (stamp : ℕ) : Type 0 where
  reached : (stamp ≡ 0) ⊎ ((u : Bytes) × (i : ItemRow) × (HasItem q.rows u i ⊎ HasItem rows u i) × (i.updated ≡ stamp))
  cut : (f : Found) → Contains left f → stamp < f.1.updated
  whole : left ≡ [] → (u : Bytes) (i : ItemRow) → HasItem q.rows u i → i.account ≡ n → i.updated ≤ stamp

stamped : (rows : Rows) (n : ℕ) (q : Progress) (above : ℕ) (first : Bool) (limit : ℕ) (page left : List Found) (cursor : Option Bytes) (token : Bytes)
    → IsPage rows n above first limit page left → AreTokens q.rows n page left cursor token
    → (stamp : ℕ) × IsToken token stamp × Stamped rows n q page left stamp × ((cursor ≡ None) → left ≡ []) × ((cursor ≡ None) ⊎ (cursor ≡ Some token))
stamped rows n q above first limit page [] cursor token is tokens = (
  tokens.1.0,
  tokens.1.2,
  record {
    reached = ⊎_elim (λ zero. inl zero)
        (λ (at : (u : Bytes) × (i : ItemRow) × HasItem q.rows u i × (i.account ≡ n) × (i.updated ≡ tokens.1.0)). inr (at.0, at.1, inl at.2, at.4)) tokens.1.1.1;
    cut = λ f has. absurd (omega (arith, has.1));
    whole = λ none u i has own. tokens.1.1.0 u i has own;
  },
  λ none. refl,
  inl tokens.0,
)
stamped rows n q above first limit page (f ∷ left) cursor token is tokens =
    let last = tokens.1.1 in
    let there : Contains (page ++ f ∷ left) last.last =
    Contains-append_left page (f ∷ left) last.last (subst (λ (p : List Found). Contains p last.last) (sym last.split) (Contains-push last.front last.last)) in (
      tokens.1.0,
      tokens.1.2,
      record {
        reached = inr (last.last.0, last.last.1, inr ((is.all.whole last.last.0 last.last.1).0 there).0, sym last.is);
        cut = λ g has. left_above page (f ∷ left) tokens.1.0 g is.all.rising last has;
        whole = λ none. absurd cc;
      },
      λ none. (let e = tokens.0 in absurd cc),
      inr tokens.0,
    )

-- a candidate up to that stamp is in the page
found_at : (rows : Rows) (n : ℕ) (above : ℕ) (first : Bool) (limit : ℕ) (page left : List Found) (retrieved : List Item) (stamp : ℕ) (u : Bytes) (row : ItemRow)
    → IsPage rows n above first limit page left → AreGiven page retrieved → ((f : Found) → Contains left f → stamp < f.1.updated) → HasItem rows u row
    → row.account ≡ n → above < row.updated → row.updated ≤ stamp → (first ≡ true → row.deleted ≡ false)
    → (i : Item) × Contains retrieved i × IsGiven u row i
found_at rows n above first limit page left retrieved stamp u row is given cut has own over upto live =
    ⊎_elim
    (λ (shown : Contains page (u, row)). zip_given page retrieved (u, row) given shown)
    (λ (cut_off : Contains left (u, row)). (let past : stamp < row.updated = cut (u, row) cut_off in absurd (omega arith)))
    (Contains-append_cases page left (u, row) ((is.all.whole u row).1 (has, (own, over, live))))

-- an item of the rows after, up to the token's stamp, is told
told_at : (rows : Rows) (n : ℕ) (above : ℕ) (first : Bool) (limit : ℕ) (page left : List Found) (retrieved : List Item) (stamp : ℕ) (u : Bytes) (row : ItemRow)
    → IsPage rows n above first limit page left → AreGiven page retrieved → ((f : Found) → Contains left f → stamp < f.1.updated) → HasItem rows u row
    → row.account ≡ n → above < row.updated → row.updated ≤ stamp
    → ((i : Item) × Contains retrieved i × IsGiven u row i) ⊎ ((row.deleted ≡ true) × (first ≡ true))
told_at rows n above first limit page left retrieved stamp u row is given cut has own over upto =
    ⊎_elim
    (λ (gone : row.deleted ≡ true). ⊎_elim (λ (whole : first ≡ true). inr (gone, whole))
    (λ (later : first ≡ false). inl (found_at rows n above first limit page left retrieved stamp u row is given cut has own over upto
    (λ (whole : first ≡ true). (let e = sym later ∙ whole in absurd cc))))
    (cases_Bool first))
    (λ (live : row.deleted ≡ false). inl (found_at rows n above first limit page left retrieved stamp u row is given cut has own over upto (λ whole. live)))
    (cases_Bool row.deleted)

conflict_at : (before after : Rows) (n : ℕ) (present : Params) (sent : List Item) → ((u : Bytes) → after (key.Item u) ≡ before (key.Item u)) → (c : Conflict)
    → TellsConflict before n present sent c → TellsConflict after n present sent c
conflict_at before after n present sent at (conflict.Sync server) is = ((is.0.0, at server.uuid ∙ is.0.1, is.0.2, is.0.3), is.1)
conflict_at before after n present sent at (conflict.Uuid unsaved) is = (is.0, (is.1.0, at unsaved.uuid ∙ is.1.1, is.1.2))
conflict_at before after n present sent at (conflict.Content unsaved) is = is

-- no stamp past the last one is told
bound_at : (rows : Rows) (store st : StoreRow) (n : ℕ) (q : Progress) (changes : List Change) (stamp : ℕ) → IsSound rows → HasStore rows store
    → Goes rows store.last q → Grown rows n q → AreChanges store q.changes q.last changes → HasStore (rows_after rows changes) st
    → (stamp ≡ 0) ⊎ ((u : Bytes) × (i : ItemRow) × (HasItem q.rows u i ⊎ HasItem rows u i) × (i.updated ≡ stamp)) → stamp ≤ st.last
bound_at rows store st n q changes stamp sound has goes grown are stands (inl zero) = omega arith
bound_at rows store st n q changes stamp sound has goes grown are stands (inr at) =
    let same : sound.store ≡ store = same_store rows sound.store store sound.stands has in
    let store_last : sound.store.last ≡ store.last = ap (λ (s : StoreRow). s.last) same in
    let low : (u : Bytes) (i : ItemRow) → HasItem rows u i → i.updated ≤ store.last = λ u i item. (let given = (sound.items u i item).given in omega arith) in
    let rises = goes.rises in
    let is = at.3 in
    elim (after_store rows store st q changes has are stands) [
      | inl kept ↦ (let still : q.rows ≡ rows = grown.unchanged kept.0 in
          let st_last : st.last ≡ store.last = ap (λ (s : StoreRow). s.last) kept.1 in
          let before : HasItem rows at.0 at.1 = ⊎_elim (λ now. ap (λ (r : Rows). r (key.Item at.0)) (sym still) ∙ now) (λ old. old) at.2 in
          let up = low at.0 at.1 before in omega arith)
      | inr moved ↦ ⊎_elim (λ now. (let up = grown.upper at.0 at.1 now in omega arith)) (λ old. (let up = low at.0 at.1 old in omega arith)) at.2
    ]

tells : (rows : Rows) (store : StoreRow) (n : ℕ) (present : Params) (sent : List Item) (limit : ℕ) (sync from : Option ℕ) (now : ℕ) (changes : List Change)
    (conflicts : List Conflict) (cursor : Option Bytes) (retrieved saved : List Item) (token : Bytes) → IsSound rows → HasStore rows store
    → AreApart (uuids sent) → (s : Synced rows store n present sent limit sync from now changes (answer.Sync conflicts cursor retrieved saved token))
    → TellsRows (rows_after rows changes) n present sent (above_of sync from) (is_first sync from) s.end.conflicts s.cursor_token s.retrieved s.end.saved s.sync_token
tells rows store n present sent limit sync from now changes conflicts cursor retrieved saved token sound has apart s =
    let q : Progress = s.end in
    let after : Rows = rows_after rows changes in
    let fresh : Fresh [] sent = fresh_of [] sent apart (λ u none. absurd (none_of u none)) in
    let told = (told_all rows present now n sent [] (start rows store) q sent (told_first rows n present sent (start rows store) refl refl refl) fresh
    (λ j among. among) s.taken).1 in
    let goes : Goes rows store.last q = goes_all rows store.last present now n (start rows store) q sent
    (record { rows_are = refl; rises = omega arith }) s.taken in
    let grown : Grown rows n q = grown_all rows present now n (start rows store) q sent s.taken (grown_first rows store n sound has) in
    let at : (u : Bytes) → after (key.Item u) ≡ q.rows (key.Item u) = after_item rows store q changes goes.rows_are s.changes_are in
    let stamp = stamped rows n q (above_of sync from) (is_first sync from) limit s.page s.left s.cursor_token s.sync_token s.is_page s.tokens in
    let put : (i : Item) → IsStored q.rows n i → IsStored after n i = λ i is. (is.0, at i.uuid ∙ is.1, is.2, is.3) in
    record {
      saved_apart = told.saved_apart;
      conflicts_apart = told.conflicts_apart;
      disjoint = told.disjoint;
      saved_are = λ i is. (put i (told.saved_are i is).0, (told.saved_are i is).1);
      conflicts_are = λ c is. conflict_at q.rows after n present sent at c (told.conflicts_are c is);
      retrieved_are = λ i is. (let f = zip_found s.page s.retrieved i s.retrieved_are is in
          let own = (s.is_page.all.whole f.0.0 f.0.1).0 (Contains-append_left s.page s.left f.0 f.1) in
          ⊎_elim (λ (stays : HasItem q.rows f.0.0 f.0.1). inl (given_stored after n f.0.0 f.0.1 i (at f.0.0 ∙ stays) own.1.0 f.2))
          (λ new. inr (subst (λ (u : Bytes). Contains (uuids q.saved) u) (sym f.2.uuid_is) new)) (told.kept f.0.0 f.0.1 own.0));
      stamp = stamp.0;
      token_is = stamp.1;
      told = λ u row there own over upto. ⊎_elim
          (λ (old : HasItem rows u row). inr (told_at rows n (above_of sync from) (is_first sync from) limit s.page s.left s.retrieved stamp.0 u row s.is_page
          s.retrieved_are stamp.2.cut old own over upto))
          (λ new. inl new) (told.moved u row (sym (at u) ∙ there));
      cursor_is = stamp.4;
      whole = λ none u row there own. stamp.2.whole (stamp.3 none) u row (sym (at u) ∙ there) own;
      given = λ st stands. bound_at rows store st n q changes stamp.0 sound has goes grown s.changes_are stands stamp.2.reached;
    }

abbrev TellsIt : Rows → ℕ → Params → List Item → Option ℕ → Option ℕ → List Change → List Conflict → Option Bytes → List Item → List Item → Bytes → Type 0
TellsIt rows n present sent sync from changes conflicts cursor retrieved saved next =
    TellsRows (rows_after rows changes) n present sent (above_of sync from) (is_first sync from) conflicts cursor retrieved saved next

tells_it : (rows : Rows) (store : StoreRow) (n : ℕ) (present : Params) (sent : List Item) (limit : ℕ) (sync from : Option ℕ) (now : ℕ) (changes : List Change)
    (conflicts : List Conflict) (cursor : Option Bytes) (retrieved saved : List Item) (token : Bytes) → IsSound rows → HasStore rows store
    → AreApart (uuids sent) → Synced rows store n present sent limit sync from now changes (answer.Sync conflicts cursor retrieved saved token)
    → TellsIt rows n present sent sync from changes conflicts cursor retrieved saved token
tells_it rows store n present sent limit sync from now changes conflicts cursor retrieved saved token sound has apart s =
    let is = s.answers in
    let c : s.end.conflicts ≡ conflicts = cc in
    let u : s.cursor_token ≡ cursor = cc in
    let r : s.retrieved ≡ retrieved = cc in
    let v : s.end.saved ≡ saved = cc in
    let t : s.sync_token ≡ token = cc in
    let C : List Conflict → Type 0 = λ x. TellsIt rows n present sent sync from changes x s.cursor_token s.retrieved s.end.saved s.sync_token in
    let U : Option Bytes → Type 0 = λ x. TellsIt rows n present sent sync from changes conflicts x s.retrieved s.end.saved s.sync_token in
    let R : List Item → Type 0 = λ x. TellsIt rows n present sent sync from changes conflicts cursor x s.end.saved s.sync_token in
    let V : List Item → Type 0 = λ x. TellsIt rows n present sent sync from changes conflicts cursor retrieved x s.sync_token in
    let T : Bytes → Type 0 = λ x. TellsIt rows n present sent sync from changes conflicts cursor retrieved saved x in
    subst T t (subst V v (subst R r (subst U u (subst C c
    (tells rows store n present sent limit sync from now changes conflicts cursor retrieved saved token sound has apart s)))))

pub syncs_tell : SyncsTell
syncs_tell rows token sent limit sync_token cursor_token now changes conflicts cursor retrieved saved next sound apart (store, has, inl refused) =
    (let e = refused.1.1 in absurd cc)
syncs_tell rows token sent limit sync_token cursor_token now changes conflicts cursor retrieved saved next sound apart (store, has, inr (n, session, inl refused)) =
    (let e = refused.1.1 in absurd cc)
syncs_tell rows token sent limit sync_token cursor_token now changes conflicts cursor retrieved saved next sound apart (store, has, inr (n, session, inr (inl refused))) =
    (let e = refused.3.1 in absurd cc)
syncs_tell rows token sent limit sync_token cursor_token now changes conflicts cursor retrieved saved next sound apart
    (store, has, inr (n, session, inr (inr (sync, from, is, at, inl refused)))) = (let e = refused.1.1 in absurd cc)
syncs_tell rows token sent limit sync_token cursor_token now changes conflicts cursor retrieved saved next sound apart
    (store, has, inr (n, session, inr (inr (sync, from, is, at, inr (inl refused))))) = (let e = refused.4.1 in absurd cc)
syncs_tell rows token sent limit sync_token cursor_token now changes conflicts cursor retrieved saved next sound apart
    (store, has, inr (n, session, inr (inr (sync, from, is, at, inr (inr (few, short, (present, stands, inl refused))))))) = (let e = refused.1.1 in absurd cc)
syncs_tell rows token sent limit sync_token cursor_token now changes conflicts cursor retrieved saved next sound apart
    (store, has, inr (n, session, inr (inr (sync, from, is, at, inr (inr (few, short, (present, stands, inr s))))))) = (
      n,
      present,
      sync,
      from,
      session,
      stands,
      is,
      at,
      tells_it rows store n present sent limit sync from now changes conflicts cursor retrieved saved next sound has apart s,
    )

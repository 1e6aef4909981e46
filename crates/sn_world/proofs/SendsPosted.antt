-- What a round of a device's sync posts and sends.
use Rattle.std.proofs.Common.{◌≡◌, ◌≢◌, ◌<◌, ℕ, List, [], ◌∷◌, ◌++◌, map, Option, Some, None, true, Less, Equal, Greater, refl, sym, ap, ◌∙◌, subst, inl, inr, ⊎_elim, arith}
use Rattle.std.proofs.Math.Nat.{eq-or-lt_of_le}
use Rattle.std.proofs.lemmas.Bool.{cases_lt}
use Rattle.std.proofs.lemmas.List.Elements.{All-contains, All-from_recursion, Contains-append_left}
use Rattle.std.proofs.lemmas.Map.Keys.{sorted_from_strictly_increasing}
use Rattle.std.specs.Cmp.{nat_cmp_is}
use Rattle.std.specs.List.{Contains}
use Rattle.std.specs.List.Sorted.{IsStrictlySortedBy}
use Rattle.std.specs.Ordering.{nat_cmp}
use Rattle.std.specs.Prelude.{IsSome}
use Rattle.sn_account.specs.Tells.{AreApart, uuids}
use Rattle.sn_device.specs.Runs.{items_of}
use Rattle.sn_device.specs.Sending.{AreSentAs, AreUnsent, IsSentAs, IsUnsent, IsWaiting, Numbered, Posts, PostsAll, SaysBase, as_posted, first_some}
use Rattle.sn_device.specs.States.{Columns, HasLocal, IsSound, columns, token_of}
use Rattle.sn_laws.specs.Each.{Each}
use Rattle.sn_laws.specs.Lookups.{Bytes}
use Rattle.sn_rows.specs.Facts.{put_elsewhere, put_here}
use Rattle.sn_rows.specs.Table.{Rows, rows_after}
use Rattle.sn_rows.specs.declared.body.RowBody.{RowBody}
use Rattle.sn_rows.specs.declared.change.Change.{Change}
use Rattle.sn_rows.specs.declared.device_rows.LocalItem.{LocalItem}
use Rattle.sn_rows.specs.declared.key.Key.TheVariants as key
use Rattle.sn_rows.specs.declared.value.Value.TheVariants as value
use Rattle.sn_sync.specs.declared.item.Item.{Item}
use Rattle.sn_sync.specs.declared.request.Request.{Request}
use Rattle.sn_world.proofs.DeviceRows.{one_local, one_owner, owner_past}
use Rattle.sn_world.proofs.Lists.{each_contained, each_map, of_each}
use Rattle.sn_world.proofs.Posted.{all_past}
use Rattle.sn_world.specs.Committing.{AreDifferent}
use Rattle.sn_world.specs.Laws.{SendsArePosted}
use Rattle.sn_world.specs.Making.{IsSentBy, IsSentOf, MakesOf, SendsPosted, SendsTokens}
use Rattle.sn_rows.specs.declared.device_rows.OwnerRow.{OwnerRow}

-- ---- numbers that rise

less_lt : (a b : ℕ) → nat_cmp a b ≡ Less → a < b
less_lt a b is =
    elim (cases_lt a b) [
      | inl below ↦ below
      | inr above ↦ elim (eq-or-lt_of_le above) [
        | inl same ↦ (let e = nat_cmp_is a b Equal (sym same) in absurd cc)
        | inr over ↦ (let e = nat_cmp_is a b Greater over in absurd cc)
      ]
    ]

abbrev Rises : List ℕ → Type 0
Rises numbers = IsStrictlySortedBy nat_cmp numbers

above_head : (n : ℕ) (ns : List ℕ) → Rises (n ∷ ns) → (m : ℕ) → Contains ns m → n < m
unfolding IsStrictlySortedBy
above_head n ns rises m has = less_lt n m (All-contains (λ c. nat_cmp n c ≡ Less) ns m (All-from_recursion (λ c. nat_cmp n c ≡ Less) ns rises.0) has)

rises_behind : (n : ℕ) (ns : List ℕ) → Rises (n ∷ ns) → Rises ns
unfolding IsStrictlySortedBy
rises_behind n ns rises = rises.1

-- each is followed by others alone
abbrev Distinct : List Numbered → Type 0
Distinct [] = Unit {0}
Distinct (w ∷ ws) = Each (λ (v : Numbered). w.0 ≢ v.0) ws × Distinct ws

each_of_map : (P : ℕ → Type 0) (ws : List Numbered) → Each P (map (λ w. w.0) ws) → Each (λ (w : Numbered). P w.0) ws
each_of_map P [] h = tt
each_of_map P (w ∷ ws) h = (h.0, each_of_map P ws h.1)

distinct_so : (ws : List Numbered) → Rises (map (λ w. w.0) ws) → Distinct ws
distinct_so [] rises = tt
distinct_so (w ∷ ws) rises = (
  each_of_map (λ n. w.0 ≢ n) ws
      (each_contained (λ n. w.0 ≢ n) (map (λ v. v.0) ws)
      (λ m has e. let less : w.0 < m = above_head w.0 (map (λ v. v.0) ws) rises m has in absurd (omega arith))),
  distinct_so ws (rises_behind w.0 (map (λ v. v.0) ws) rises),
)

front_distinct : (ws vs : List Numbered) → Distinct (ws ++ vs) → Distinct ws
front_distinct [] vs h = tt
front_distinct (w ∷ ws) vs h = (front_each ws vs h.0, front_distinct ws vs h.1)
  where
    front_each : (xs ys : List Numbered) → Each (λ (v : Numbered). w.0 ≢ v.0) (xs ++ ys) → Each (λ (v : Numbered). w.0 ≢ v.0) xs
    front_each [] ys k = tt
    front_each (x ∷ xs) ys k = (k.0, front_each xs ys k.1)

-- ---- what is posted

unsent_apart : (n : ℕ) (chosen : List Numbered) (numbers : List ℕ) → Each (λ (v : Numbered). n ≢ v.0) chosen → AreUnsent chosen numbers
    → Each (λ m. n ≢ m) numbers
unsent_apart n [] numbers apart none = subst (λ (ms : List ℕ). Each (λ m. n ≢ m) ms) (sym none) tt
unsent_apart n (w ∷ ws) numbers apart (inl (unsent, (later, is, rest))) =
    subst (λ (ms : List ℕ). Each (λ m. n ≢ m) ms) (sym is) (apart.0, unsent_apart n ws later apart.1 rest)
unsent_apart n (w ∷ ws) numbers apart (inr (sent, rest)) = unsent_apart n ws numbers apart.1 rest

different : (chosen : List Numbered) (numbers : List ℕ) → Distinct chosen → AreUnsent chosen numbers → AreDifferent numbers
different [] numbers distinct none = subst AreDifferent (sym none) tt
different (w ∷ ws) numbers distinct (inl (unsent, (later, is, rest))) =
    subst AreDifferent (sym is) (unsent_apart w.0 ws later distinct.0 rest, different ws later distinct.1 rest)
different (w ∷ ws) numbers distinct (inr (sent, rest)) = different ws numbers distinct.1 rest

-- a row that isn't posted is as it was
not_posted : (rows : Rows) (n : ℕ) (numbers : List ℕ) (changes : List Change) → Each (λ m. n ≢ m) numbers → PostsAll rows numbers changes
    → AreDifferent numbers → rows_after rows changes (key.Local n) ≡ rows (key.Local n)
not_posted rows n [] [] apart all differ = refl
not_posted rows n [] (c ∷ cs) apart all differ = absurd all
not_posted rows n (m ∷ ms) [] apart all differ = absurd all
not_posted rows n (m ∷ ms) (c ∷ cs) apart (first, rest) differ =
    not_posted (rows_after rows (c ∷ [])) n ms cs apart.1 (all_past rows c m ms cs first differ.0 rest) differ.1
    ∙ put_elsewhere rows c (key.Local m) (key.Local n) (value.Local first.puts.local) first.puts.puts (λ e. apart.0 (cc))

owner_stays : (rows : Rows) (numbers : List ℕ) (changes : List Change) → PostsAll rows numbers changes → AreDifferent numbers
    → rows_after rows changes key.Owner ≡ rows key.Owner
owner_stays rows [] [] all differ = refl
owner_stays rows [] (c ∷ cs) all differ = absurd all
owner_stays rows (m ∷ ms) [] all differ = absurd all
owner_stays rows (m ∷ ms) (c ∷ cs) (first, rest) differ =
    owner_stays (rows_after rows (c ∷ [])) ms cs (all_past rows c m ms cs first differ.0 rest) differ.1
    ∙ owner_past rows c m (value.Local first.puts.local) first.puts.puts

-- ---- what is sent

some_is : (found : Option RowBody) → IsSome found → found ≢ None
some_is None some e = absurd (cc)
some_is (Some b) some e = cc

-- a row that waits
abbrev WaitsAt : Rows → Numbered → Type 0
WaitsAt rows w = HasLocal rows w.0 w.1 × IsWaiting w.1

-- with something posted it is sent as that; without a draft it is to be sealed again
was_sent : (local : LocalItem) (i : Item) → IsWaiting local → ¬ (IsUnsent local) → IsSentAs local i → IsSentBy local i
was_sent local i waits sent x = by local.latest local.posted refl refl
  where
    stale_is : local.latest ≡ None → local.stale ≡ true
    stale_is none = ⊎_elim (λ some. absurd (some_is local.latest some none)) (λ stale. stale) waits

    by : (latest posted : Option RowBody) → local.latest ≡ latest → local.posted ≡ posted → IsSentBy local i
    by latest (Some b) e k = inl (x, λ none. (let some : local.posted ≡ Some b = k in cc))
    by (Some b) None e k = absurd (sent (subst (λ (o : Option RowBody). IsSome o) (sym e) refl, k))
    by None None e k = inr (x, stale_is e, e, k)

-- a draft is sent as it is posted
sent_now : (local new : LocalItem) (i : Item) → local.posted ≡ None → IsSome local.latest → new.uuid ≡ local.uuid → new.kind ≡ local.kind → new.base ≡ local.base
    → new.posted ≡ local.latest → IsSentAs local i → SendsPosted new i
sent_now local new i unsent some uuid kind base posted x = (
  record {
    uuid_is = x.uuid_is ∙ sym uuid;
    kind_is = x.kind_is ∙ sym kind;
    created_is = x.created_is;
    replaces = subst (λ (b : Option ℕ). SaysBase b i.updated_at) (sym base) x.replaces;
    version = x.version;
    sent = ap (λ (o : Option RowBody). first_some o (first_some new.latest new.body)) (posted ∙ latest_is) ∙ refl;
    body_is = x.body_is;
  },
  λ none. some_is local.latest some (sym posted ∙ none),
)
  where
    of : (latest body : Option RowBody) → IsSome latest → first_some None (first_some latest body) ≡ Some x.version → latest ≡ Some x.version
    of None body some e = absurd (cc)
    of (Some b) body some e = e

    latest_is : local.latest ≡ Some x.version
    latest_is = of local.latest local.body some (ap (λ (o : Option RowBody). first_some o (first_some local.latest local.body)) (sym unsent) ∙ x.sent)

past_all : (rows : Rows) (change : Change) (number : ℕ) → Posts rows number change → (ws : List Numbered) → Each (λ (v : Numbered). number ≢ v.0) ws
    → Each (WaitsAt rows) ws → Each (WaitsAt (rows_after rows (change ∷ []))) ws
past_all rows change number x [] apart h = tt
past_all rows change number x (w ∷ ws) apart h = (
  (put_elsewhere rows change (key.Local number) (key.Local w.0) (value.Local x.puts.local) x.puts.puts (λ e. apart.0 (cc)) ∙ h.0.0, h.0.1),
  past_all rows change number x ws apart.1 h.1,
)

sent_rows : (rows : Rows) (chosen : List Numbered) (numbers : List ℕ) (changes : List Change) (items : List Item) → Distinct chosen → Each (WaitsAt rows) chosen
    → AreUnsent chosen numbers → PostsAll rows numbers changes → AreSentAs chosen items → Each (IsSentOf (rows_after rows changes)) items
sent_rows rows [] numbers changes [] distinct waits unsent all sent = tt
sent_rows rows [] numbers changes (i ∷ is) distinct waits unsent all sent = absurd sent
sent_rows rows (w ∷ ws) numbers changes [] distinct waits unsent all sent = absurd sent
sent_rows rows (w ∷ ws) numbers changes (i ∷ is) distinct waits (inr (was, rest)) all sent =
    let differ : AreDifferent numbers = different ws numbers distinct.1 rest in (
      (
        w.0,
        w.1,
        not_posted rows w.0 numbers changes (unsent_apart w.0 ws numbers distinct.0 rest) all differ ∙ waits.0.0,
        was_sent w.1 i waits.0.1 was sent.0,
      ),
      sent_rows rows ws numbers changes is distinct.1 waits.1 rest all sent.1,
    )
sent_rows rows (w ∷ ws) numbers [] (i ∷ is) distinct waits (inl (unsent, (later, numbers_are, rest))) all sent =
    absurd (subst (λ (ns : List ℕ). PostsAll rows ns []) numbers_are all)
sent_rows rows (w ∷ ws) numbers (c ∷ cs) (i ∷ is) distinct waits (inl (unsent, (later, numbers_are, rest))) all sent =
    let every : PostsAll rows (w.0 ∷ later) (c ∷ cs) = subst (λ (ns : List ℕ). PostsAll rows ns (c ∷ cs)) numbers_are all in
    let first : Posts rows w.0 c = every.0 in
    let differ : AreDifferent later = different ws later distinct.1 rest in
    let apart : Each (λ m. w.0 ≢ m) later = unsent_apart w.0 ws later distinct.0 rest in
    let behind : PostsAll (rows_after rows (c ∷ [])) later cs = all_past rows c w.0 later cs first apart every.1 in
    let same : first.local ≡ w.1 = one_local first.local w.1 (rows (key.Local w.0)) first.stands waits.0.0 in
    let new : LocalItem = first.puts.local in
    let column : columns new ≡ as_posted (columns w.1) = first.puts.columns_are ∙ ap (λ (l : LocalItem). as_posted (columns l)) same in (
      (
        w.0,
        new,
        not_posted (rows_after rows (c ∷ [])) w.0 later cs apart behind differ ∙ put_here rows c (key.Local w.0) (value.Local new) first.puts.puts,
        inl (sent_now w.1 new i unsent.1 unsent.0 (ap (λ (k : Columns). k.uuid) column) (ap (λ (k : Columns). k.kind) column)
            (ap (λ (k : Columns). k.base) column) (ap (λ (k : Columns). k.posted) column) sent.0),
      ),
      sent_rows (rows_after rows (c ∷ [])) ws later cs is distinct.1 (past_all rows c w.0 first ws distinct.0 waits.1) rest behind sent.1,
    )

-- ---- whose uuids differ

uuids_apart : (rows : Rows) → IsSound rows → (w : Numbered) → HasLocal rows w.0 w.1 → (ws : List Numbered) (items : List Item) → Each (λ (v : Numbered). w.0 ≢ v.0) ws
    → Each (WaitsAt rows) ws → AreSentAs ws items → (u : Bytes) → u ≡ w.1.uuid → Each (λ (i : Item). i.uuid ≢ u) items
uuids_apart rows sound w stands [] [] apart waits sent u is = tt
uuids_apart rows sound w stands [] (i ∷ is_items) apart waits sent u is = absurd sent
uuids_apart rows sound w stands (v ∷ vs) [] apart waits sent u is = absurd sent
uuids_apart rows sound w stands (v ∷ vs) (i ∷ items) apart waits sent u is = (
  λ e. apart.0 (sound.locals.apart w.0 v.0 w.1 v.1 stands waits.0.0 (sym is ∙ sym e ∙ sent.0.uuid_is)),
  uuids_apart rows sound w stands vs items apart.1 waits.1 sent.1 u is,
)

not_among : (u : Bytes) (items : List Item) → Each (λ (i : Item). i.uuid ≢ u) items → ¬ (Contains (uuids items) u)
not_among u items apart has =
    of_each (λ (v : Bytes). v ≢ u) (uuids items) (each_map (λ (i : Item). i.uuid) (λ (v : Bytes). v ≢ u) items apart) u has refl

items_apart : (rows : Rows) → IsSound rows → (chosen : List Numbered) (items : List Item) → Distinct chosen → Each (WaitsAt rows) chosen → AreSentAs chosen items
    → AreApart (uuids items)
items_apart rows sound [] [] distinct waits sent = tt
items_apart rows sound [] (i ∷ items) distinct waits sent = absurd sent
items_apart rows sound (w ∷ ws) [] distinct waits sent = absurd sent
items_apart rows sound (w ∷ ws) (i ∷ items) distinct waits sent = (
  not_among i.uuid items (uuids_apart rows sound w waits.0.0 ws items distinct.0 waits.1 sent.1 i.uuid sent.0.uuid_is),
  items_apart rows sound ws items distinct.1 waits.1 sent.1,
)

-- ---- a round

pub sends_are_posted : SendsArePosted
sends_are_posted rows numbers posted r ready sound x =
    let waiting = x.chosen_are.all in
    let distinct : Distinct x.chosen = front_distinct x.chosen x.later (distinct_so (x.chosen ++ x.later) (sorted_from_strictly_increasing _ waiting.rising)) in
    let waits : Each (WaitsAt rows) x.chosen =
    each_contained (WaitsAt rows) x.chosen (λ w has. (waiting.whole w.0 w.1).0 (Contains-append_left x.chosen x.later w has)) in
    let differ : AreDifferent numbers = different x.chosen numbers distinct x.unsent in
    let request = x.request_is in
    let items_sent : Each (IsSentOf ready) request.items =
    subst (λ (rows_then : Rows). Each (IsSentOf rows_then) request.items) (sym x.ready_is)
    (sent_rows rows x.chosen numbers posted request.items distinct waits x.unsent x.posts_them request.items_are) in (
      differ,
      λ begins.
          subst (λ (q : Request). MakesOf ready begins q) (sym request.request_is)
          (record {
            owner = x.owner;
            has = ap (λ (f : Rows). f key.Owner) x.ready_is ∙ owner_stays rows numbers posted x.posts_them differ ∙ x.owned;
            token_is = refl;
            from = items_sent;
          }),
      subst (λ (q : Request). AreApart (uuids (items_of q))) (sym request.request_is)
          (items_apart rows sound x.chosen request.items distinct waits request.items_are),
      subst (λ (q : Request). SendsTokens ready q) (sym request.request_is)
          (λ owner has.
          let same : x.owner ≡ owner =
          one_owner x.owner owner (ready key.Owner) (ap (λ (f : Rows). f key.Owner) x.ready_is ∙ owner_stays rows numbers posted x.posts_them differ ∙ x.owned) has in
          (ap (λ (o : OwnerRow). token_of o.sync_token) (sym same), ap (λ (o : OwnerRow). token_of o.cursor_token) (sym same))),
    )

-- Along a batch that answers a sync, each item of an account with one set is what the device has sent.
use Rattle.std.proofs.Common.{◌≡◌, ◌⊎◌, ◌<◌, ◌≤◌, ℕ, List, [], ◌∷◌, ◌++◌, Option, Some, None, refl, sym, ap, ◌∙◌, subst, inl, inr, ⊎_elim, arith}
use Rattle.sn_account.specs.Incoming.{Names, Progress, PutsVersion, SameVersion, Takes, TakesAll, TakesNew, stamp_of}
use Rattle.sn_account.specs.Syncs.{AreChanges}
use Rattle.sn_laws.specs.Each.{Each}
use Rattle.sn_laws.specs.Lookups.{Bytes}
use Rattle.sn_rows.specs.Facts.{put_apart, put_here, put_or_not}
use Rattle.sn_rows.specs.Table.{Puts, Rows, rows_after}
use Rattle.sn_rows.specs.declared.change.Change.{Change}
use Rattle.sn_rows.specs.declared.change.Change.TheVariants.{Put, Remove}
use Rattle.sn_rows.specs.declared.key.Key.{Key}
use Rattle.sn_rows.specs.declared.key.Key.TheVariants as key
use Rattle.sn_rows.specs.declared.server_rows.ItemRow.{ItemRow}
use Rattle.sn_rows.specs.declared.server_rows.StoreRow.{StoreRow}
use Rattle.sn_rows.specs.declared.value.Value.{Value}
use Rattle.sn_rows.specs.declared.value.Value.TheVariants as value
use Rattle.sn_string.specs.declared.params.Params.{Params}
use Rattle.sn_sync.specs.declared.item.Item.{Item}
use Rattle.sn_world.specs.Live.{IsPosted, KnownBelow}
use Rattle.sn_world.specs.Serving.{IsSentRow, generation_of, stamp_in}
use Rattle.sn_saying.specs.Lone.{HasOneSet, LoneChange, LoneChanges, LoneRow}
use Rattle.sn_saying.proofs.ServedLemmas.{after_both, lone_more}

-- ---- an item that may be accepted

-- it is new to the server, or another version than the one of the account that was found, which it names
abbrev pub IsNewsAt : Option Value → ℕ → Item → Type 0
IsNewsAt found n i = ((row : ItemRow) → ¬ (found ≡ Some (value.Item row)))
    ⊎ ((row : ItemRow) × ((found ≡ Some (value.Item row)) × (row.account ≡ n)) × ¬ (SameVersion row i) × Names i row)

-- the device has it as what was sent, and its row stands on what was found
pub record IsReady (found : Option Value) (device : Rows) (i : Item) : Type 0 where
  pub posted : IsPosted device i
  pub base_is : posted.local.base ≡ stamp_in found

-- before the batch: it names no stamp to come, and where its account has one set it is ready, if it may be accepted
abbrev pub Waits : Rows → Rows → ℕ → ℕ → Item → Type 0
Waits server device n last i = KnownBelow last i
    × (generation_of (server (key.Account n)) ≡ 1 → IsNewsAt (server (key.Item i.uuid)) n i → IsReady (server (key.Item i.uuid)) device i)

pub same_row : (r q : ItemRow) (found : Option Value) → found ≡ Some (value.Item r) → found ≡ Some (value.Item q) → r ≡ q
same_row r q found e k = cc

-- ---- the rows along the batch

-- what stands of an item is what stood before the batch, or has a stamp that was given since
abbrev IsKept : Option Value → ℕ → Option Value → Type 0
IsKept before last found = (found ≡ before) ⊎ ((row : ItemRow) × (found ≡ Some (value.Item row)) × (last < row.updated))

-- where an item may be accepted, the former: it names no stamp to come
as_before : (before found : Option Value) (n last : ℕ) (i : Item) → KnownBelow last i → IsNewsAt found n i → IsKept before last found → found ≡ before
as_before before found n last i known news (inl same) = same
as_before before found n last i known (inl absent) (inr (row, there, later)) = absurd (absent row there)
as_before before found n last i known (inr (held, (stands, own), differs, names)) (inr (row, there, later)) =
    let low : held.updated ≤ last = known names.0 held.updated names.2 names.1 in
    let is : held.updated ≡ row.updated = ap (λ (r : ItemRow). r.updated) (same_row held row found stands there) in
    absurd (omega arith)

put_lone : (server device : Rows) (change : Change) (at : Key) (v : Value) → Puts change at v → LoneRow server device at v → LoneChange server device change
put_lone server device (Put row) at v p h =
    let e : row.value ≡ v = cc in
    subst (λ (k : Key). LoneRow server device k row.value) (sym p.key_is) (subst (λ (x : Value). LoneRow server device at x) (sym e) h)
put_lone server device (Remove k) at v p h = absurd (cc)

-- the batch has made these changes so far: no account's row is another
record Walked (server device : Rows) (last : ℕ) (p : Progress) : Type 0 where
  rows : p.rows ≡ rows_after server p.changes
  accounts : (k : ℕ) → p.rows (key.Account k) ≡ server (key.Account k)
  later : last ≤ p.last
  kept : (uuid : Bytes) → IsKept (server (key.Item uuid)) last (p.rows (key.Item uuid))
  lone : LoneChanges server device p.changes

still : (server device : Rows) (last : ℕ) (p q : Progress) → q.rows ≡ p.rows → q.last ≡ p.last → q.changes ≡ p.changes → Walked server device last p
    → Walked server device last q
still server device last p q rows last_is changes w = record {
  rows = rows ∙ w.rows ∙ ap (rows_after server) (sym changes);
  accounts = λ k. ap (λ (r : Rows). r (key.Account k)) rows ∙ w.accounts k;
  later = let up : last ≤ p.last = w.later in omega arith;
  kept = λ uuid. subst (λ (r : Rows). IsKept (server (key.Item uuid)) last (r (key.Item uuid))) (sym rows) (w.kept uuid);
  lone = subst (λ (cs : List Change). LoneChanges server device cs) (sym changes) w.lone;
}

-- ---- an item that is accepted

module _ (server device : Rows) (n last now : ℕ) (present : Params) (p q : Progress) (i : Item) (w : Walked server device last p)
    (waits : Waits server device n last i) (new : TakesNew present now n p i q) where
  abbrev row : ItemRow
  row = new.2.0

  abbrev change : Change
  change = new.2.1

  puts : PutsVersion p n (stamp_of now p.last) i row change
  puts = new.2.3

  rows_are : q.rows ≡ rows_after p.rows (change ∷ [])
  rows_are = ap (λ (x : Progress). x.rows) new.2.5

  last_is : q.last ≡ stamp_of now p.last
  last_is = ap (λ (x : Progress). x.last) new.2.5

  changes_are : q.changes ≡ p.changes ++ change ∷ []
  changes_are = ap (λ (x : Progress). x.changes) new.2.5

  -- the device's row has it as what was sent, where the account has one set
  sent : HasOneSet p.rows row → IsSentRow (p.rows (key.Item i.uuid)) device i.uuid row
  sent one =
      let mine : generation_of (server (key.Account n)) ≡ 1 =
      ap generation_of (sym (w.accounts n)) ∙ ap (λ (k : ℕ). generation_of (p.rows (key.Account k))) (sym puts.account) ∙ one in
      let same : p.rows (key.Item i.uuid) ≡ server (key.Item i.uuid) =
      as_before (server (key.Item i.uuid)) (p.rows (key.Item i.uuid)) n last i waits.0 new.0.0 (w.kept i.uuid) in
      let its : IsReady (server (key.Item i.uuid)) device i = waits.1 mine (subst (λ (found : Option Value). IsNewsAt found n i) same new.0.0) in
      record {
        number = its.posted.number;
        local = its.posted.local;
        stands = (its.posted.stands, its.posted.uuid_is);
        kind_is = its.posted.kind_is ∙ sym puts.kind;
        base_is = its.base_is ∙ ap stamp_in (sym same);
        posted = its.posted.posted;
        posted_is = its.posted.posted_is;
        body_is = puts.body ∙ its.posted.body_is;
      }

  given : last < row.updated
  given =
      let up : last ≤ p.last = w.later in
      let is : row.updated ≡ stamp_of now p.last = puts.updated in
      omega arith

  kept : (uuid : Bytes) → IsKept (server (key.Item uuid)) last (q.rows (key.Item uuid))
  kept uuid =
      ⊎_elim
      (λ (here : key.Item i.uuid ≡ key.Item uuid). inr (
        row,
        ap (λ (r : Rows). r (key.Item uuid)) rows_are
            ∙ subst (λ (k : Key). rows_after p.rows (change ∷ []) k ≡ Some (value.Item row)) here
            (put_here p.rows change (key.Item i.uuid) (value.Item row) puts.puts),
        given,
      ))
      (λ (elsewhere : rows_after p.rows (change ∷ []) (key.Item uuid) ≡ p.rows (key.Item uuid)).
      subst (λ (found : Option Value). IsKept (server (key.Item uuid)) last found) (sym (ap (λ (r : Rows). r (key.Item uuid)) rows_are ∙ elsewhere)) (w.kept uuid))
      (put_or_not p.rows change (key.Item i.uuid) (value.Item row) puts.puts (key.Item uuid))

  lone : LoneChanges server device q.changes
  lone =
      subst (λ (cs : List Change). LoneChanges server device cs) (sym changes_are)
      (lone_more server device p.changes change w.lone
      (subst (λ (r : Rows). LoneChange r device change) w.rows (put_lone p.rows device change (key.Item i.uuid) (value.Item row) puts.puts sent)))

  taken : Walked server device last q
  taken = record {
    rows = rows_are
        ∙ ap (λ (r : Rows). rows_after r (change ∷ [])) w.rows
        ∙ sym (after_both server p.changes (change ∷ []))
        ∙ ap (rows_after server) (sym changes_are);
    accounts = λ k. ap (λ (r : Rows). r (key.Account k)) rows_are
        ∙ put_apart p.rows change (key.Item i.uuid) (key.Account k) (value.Item row) puts.puts refl
        ∙ w.accounts k;
    later = let up : last ≤ p.last = w.later in let is : q.last ≡ stamp_of now p.last = last_is in omega arith;
    kept = kept;
    lone = lone;
  }

-- ---- all items

module _ (server device : Rows) (n last now : ℕ) (present : Params) where
  one_taken : (p q : Progress) (i : Item) → Walked server device last p → Waits server device n last i → Takes present now n p i q → Walked server device last q
  one_taken p q i w waits (inl (foreign, is)) =
      still server device last p q (ap (λ (x : Progress). x.rows) is) (ap (λ (x : Progress). x.last) is) (ap (λ (x : Progress). x.changes) is) w
  one_taken p q i w waits (inr (inl (stored, saved, held, same, gives, is))) =
      still server device last p q (ap (λ (x : Progress). x.rows) is) (ap (λ (x : Progress). x.last) is) (ap (λ (x : Progress). x.changes) is) w
  one_taken p q i w waits (inr (inr (inl (stored, saved, held, other, not_named, gives, is)))) =
      still server device last p q (ap (λ (x : Progress). x.rows) is) (ap (λ (x : Progress). x.last) is) (ap (λ (x : Progress). x.changes) is) w
  one_taken p q i w waits (inr (inr (inr (inl (stands, bad, is))))) =
      still server device last p q (ap (λ (x : Progress). x.rows) is) (ap (λ (x : Progress). x.last) is) (ap (λ (x : Progress). x.changes) is) w
  one_taken p q i w waits (inr (inr (inr (inr new)))) = taken server device n last now present p q i w waits new

  all_taken : (items : List Item) (p q : Progress) → Walked server device last p → Each (Waits server device n last) items → TakesAll present now n p items q
      → Walked server device last q
  all_taken [] p q w waits is =
      still server device last p q (ap (λ (x : Progress). x.rows) is) (ap (λ (x : Progress). x.last) is) (ap (λ (x : Progress). x.changes) is) w
  all_taken (i ∷ items) p q w waits (inl (full, is)) =
      still server device last p q (ap (λ (x : Progress). x.rows) is) (ap (λ (x : Progress). x.last) is) (ap (λ (x : Progress). x.changes) is) w
  all_taken (i ∷ items) p q w waits (inr (room, (r, first, rest))) = all_taken items r q (one_taken p r i w waits.0 first) waits.1 rest

  pub lone_taken : (items : List Item) (p q : Progress) → p.rows ≡ server → p.last ≡ last → p.changes ≡ [] → Each (Waits server device n last) items
      → TakesAll present now n p items q → LoneChanges server device q.changes
  lone_taken items p q rows last_is none waits all = (all_taken items p q begun waits all).lone
    where
      begun : Walked server device last p
      begun = record {
        rows = rows ∙ ap (rows_after server) (sym none);
        accounts = λ k. ap (λ (r : Rows). r (key.Account k)) rows;
        later = omega arith;
        kept = λ uuid. inl (ap (λ (r : Rows). r (key.Item uuid)) rows);
        lone = subst (λ (cs : List Change). LoneChanges server device cs) (sym none) tt;
      }

-- the store's own row, which is put at the end, is no item's
pub lone_all : (server device : Rows) (store : StoreRow) (made : List Change) (last : ℕ) (changes : List Change) → AreChanges store made last changes
    → LoneChanges server device made → LoneChanges server device changes
lone_all server device store made last changes (inl (none, is)) made_lone = subst (λ (cs : List Change). LoneChanges server device cs) (sym is) tt
lone_all server device store made last changes (inr (some, (end, own, put, secret, accounts, latest, is))) made_lone =
    subst (λ (cs : List Change). LoneChanges server device cs) (sym is)
    (lone_more server device made end made_lone (put_lone (rows_after server made) device end key.Store (value.Store own) put tt))

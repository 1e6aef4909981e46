-- Items of a sync are dealt with in one way.
use Rattle.std.proofs.Common.{◌≡◌, ◌⊎◌, ℕ, ◌+◌, ◌<◌, ◌≤◌, List, [], ◌∷◌, ◌++◌, Some, sym, ap, ◌∙◌, subst, inl, inr, arith}
use Rattle.sn_rows.specs.Table.{rows_after}
use Rattle.sn_rows.specs.declared.change.Change.{Change}
use Rattle.sn_rows.specs.declared.key.Key.TheVariants as key
use Rattle.sn_rows.specs.declared.server_rows.ItemRow.{ItemRow}
use Rattle.sn_rows.specs.declared.value.Value.TheVariants as value
use Rattle.sn_string.specs.declared.params.Params.{Params}
use Rattle.sn_sync.proofs.Facts.{one_spelling}
use Rattle.sn_sync.specs.Stamps.{last_stamp}
use Rattle.sn_sync.specs.declared.answer.Conflict.TheVariants as conflict
use Rattle.sn_sync.specs.declared.item.Item.{Item}
use Rattle.sn_account.specs.Incoming.{IsAbsent, IsForeign, IsFree, IsHeld, IsNews, Names, Progress, PutsVersion, RunsOut, SameVersion, Takes, TakesAll, TakesForeign, TakesNew, TakesOther, TakesSame, TakesUnread, stamp_of}
use Rattle.sn_account.specs.Lookups.{Bytes, HasItem}
use Rattle.sn_account.specs.Pages.{most_bytes, weight}
use Rattle.sn_account.specs.Stored.{IsGiven}
use Rattle.sn_account.proofs.SyncSteps.{one_item}
use Rattle.sn_account.proofs.UniqueRows.{item_same, one_put, row_by_body}

-- a row is given as one item
pub one_given : (uuid : Bytes) (row : ItemRow) (i j : Item) → IsGiven uuid row i → IsGiven uuid row j → i ≡ j
one_given uuid row i j a b =
    let stamps : a.stamp ≡ b.stamp = one_spelling a.stamp b.stamp row.updated a.spelled b.spelled in
    item_same i j (a.uuid_is ∙ sym b.uuid_is) (a.kind ∙ sym b.kind) (a.created ∙ sym b.created) (a.updated ∙ ap Some stamps ∙ sym b.updated)
    (a.body ∙ sym b.body)

-- two equal rows likewise
pub same_given : (uuid : Bytes) (row other : ItemRow) (i j : Item) → row ≡ other → IsGiven uuid row i → IsGiven uuid other j → i ≡ j
same_given uuid row other i j same a b = one_given uuid row i j a (subst (λ (r : ItemRow). IsGiven uuid r j) (sym same) b)

-- ---- one case

module _ (present : Params) (now n : ℕ) (p : Progress) (i : Item) where
  foreign_not_held : (row : ItemRow) → IsForeign p n i → IsHeld p n i row → ⊥
  foreign_not_held row (other, has, off) held =
      off (ap (λ (r : ItemRow). r.account) (one_item p.rows i.uuid other row has held.0) ∙ held.1)

  foreign_not_news : IsForeign p n i → IsNews p n i → ⊥
  foreign_not_news (other, has, off) (inl absent) = absent other has
  foreign_not_news foreign (inr (row, held, apart, names)) = foreign_not_held row foreign held

  -- one row is held
  one_held : (row other : ItemRow) → IsHeld p n i row → IsHeld p n i other → row ≡ other
  one_held row other held had = one_item p.rows i.uuid row other held.0 had.0

  same_not_news : (row : ItemRow) → IsHeld p n i row → SameVersion row i → IsNews p n i → ⊥
  same_not_news row held same (inl absent) = absent row held.0
  same_not_news row held same (inr (other, had, apart, names)) = apart (subst (λ (r : ItemRow). SameVersion r i) (one_held row other held had) same)

  unnamed_not_news : (row : ItemRow) → IsHeld p n i row → ¬ (Names i row) → IsNews p n i → ⊥
  unnamed_not_news row held unnamed (inl absent) = absent row held.0
  unnamed_not_news row held unnamed (inr (other, had, apart, names)) =
      unnamed (subst (λ (r : ItemRow). Names i r) (sym (one_held row other held had)) names)

  same_not_other : (row other : ItemRow) → IsHeld p n i row → SameVersion row i → IsHeld p n i other → ¬ (SameVersion other i) → ⊥
  same_not_other row other held same had apart = apart (subst (λ (r : ItemRow). SameVersion r i) (one_held row other held had) same)

  -- ---- what is left of each

  of_foreign : (q r : Progress) → TakesForeign n p i q → Takes present now n p i r → q ≡ r
  of_foreign q r (foreign, e) (inl (too, f)) = e ∙ sym f
  of_foreign q r (foreign, e) (inr (inl (row, given, held, same, gives, f))) = absurd (foreign_not_held row foreign held)
  of_foreign q r (foreign, e) (inr (inr (inl (row, given, held, apart, unnamed, gives, f)))) = absurd (foreign_not_held row foreign held)
  of_foreign q r (foreign, e) (inr (inr (inr (inl (news, unread, f))))) = absurd (foreign_not_news foreign news)
  of_foreign q r (foreign, e) (inr (inr (inr (inr (free, low, put))))) = absurd (foreign_not_news foreign free.0)

  of_same : (q r : Progress) → TakesSame n p i q → Takes present now n p i r → q ≡ r
  of_same q r (row, given, held, same, gives, e) (inl (foreign, f)) = absurd (foreign_not_held row foreign held)
  of_same q r (row, given, held, same, gives, e) (inr (inl (other, item, had, too, tells, f))) =
      let items : given ≡ item = same_given i.uuid row other given item (one_held row other held had) gives tells in
      e ∙ ap (λ (j : Item). record p { saved = p.saved ++ j ∷ [] }) items ∙ sym f
  of_same q r (row, given, held, same, gives, e) (inr (inr (inl (other, item, had, apart, unnamed, tells, f)))) =
      absurd (same_not_other row other held same had apart)
  of_same q r (row, given, held, same, gives, e) (inr (inr (inr (inl (news, unread, f))))) = absurd (same_not_news row held same news)
  of_same q r (row, given, held, same, gives, e) (inr (inr (inr (inr (free, low, put))))) = absurd (same_not_news row held same free.0)

  of_other : (q r : Progress) → TakesOther n p i q → Takes present now n p i r → q ≡ r
  of_other q r (row, given, held, apart, unnamed, gives, e) (inl (foreign, f)) = absurd (foreign_not_held row foreign held)
  of_other q r (row, given, held, apart, unnamed, gives, e) (inr (inl (other, item, had, same, tells, f))) =
      absurd (same_not_other other row had same held apart)
  of_other q r (row, given, held, apart, unnamed, gives, e) (inr (inr (inl (other, item, had, off, too, tells, f)))) =
      let rows : row ≡ other = one_held row other held had in
      let items : given ≡ item = same_given i.uuid row other given item rows gives tells in
      let first : q ≡ record p { conflicts = p.conflicts ++ conflict.Sync item ∷ []; bytes = p.bytes + weight row } =
      e ∙ ap (λ (j : Item). record p { conflicts = p.conflicts ++ conflict.Sync j ∷ []; bytes = p.bytes + weight row }) items in
      first ∙ ap (λ (o : ItemRow). record p { conflicts = p.conflicts ++ conflict.Sync item ∷ []; bytes = p.bytes + weight o }) rows ∙ sym f
  of_other q r (row, given, held, apart, unnamed, gives, e) (inr (inr (inr (inl (news, unread, f))))) =
      absurd (unnamed_not_news row held unnamed news)
  of_other q r (row, given, held, apart, unnamed, gives, e) (inr (inr (inr (inr (free, low, put))))) =
      absurd (unnamed_not_news row held unnamed free.0)

  of_unread : (q r : Progress) → TakesUnread present n p i q → Takes present now n p i r → q ≡ r
  of_unread q r (news, unread, e) (inl (foreign, f)) = absurd (foreign_not_news foreign news)
  of_unread q r (news, unread, e) (inr (inl (row, given, held, same, gives, f))) = absurd (same_not_news row held same news)
  of_unread q r (news, unread, e) (inr (inr (inl (row, given, held, apart, unnamed, gives, f)))) = absurd (unnamed_not_news row held unnamed news)
  of_unread q r (news, unread, e) (inr (inr (inr (inl (new, too, f))))) = e ∙ sym f
  of_unread q r (news, unread, e) (inr (inr (inr (inr (free, low, put))))) = absurd (unread free.1)

  -- ---- an accepted item

  one_created : (stamp : ℕ) (row other : ItemRow) (change also : Change) → PutsVersion p n stamp i row change → PutsVersion p n stamp i other also
      → row.created ≡ other.created
  one_created stamp row other change also a b = by_first a.first b.first
    where
      by_first : ((old : ItemRow) × HasItem p.rows i.uuid old × (row.created ≡ old.created)) ⊎ (IsAbsent p.rows i.uuid × (row.created ≡ stamp))
          → ((old : ItemRow) × HasItem p.rows i.uuid old × (other.created ≡ old.created)) ⊎ (IsAbsent p.rows i.uuid × (other.created ≡ stamp))
          → row.created ≡ other.created
      by_first (inl (old, has, e)) (inl (was, had, f)) = e ∙ ap (λ (r : ItemRow). r.created) (one_item p.rows i.uuid old was has had) ∙ sym f
      by_first (inl (old, has, e)) (inr (absent, f)) = absurd (absent old has)
      by_first (inr (absent, e)) (inl (was, had, f)) = absurd (absent was had)
      by_first (inr (absent, e)) (inr (none, f)) = e ∙ sym f

  one_version : (stamp : ℕ) (row other : ItemRow) (change also : Change) → PutsVersion p n stamp i row change → PutsVersion p n stamp i other also
      → row ≡ other
  one_version stamp row other change also a b =
      row_by_body row other (a.account ∙ sym b.account) (a.kind ∙ sym b.kind) (one_created stamp row other change also a b)
      (a.updated ∙ sym b.updated) (a.body ∙ sym b.body) a.gone b.gone

  -- what is left after this change
  abbrev accepted : Change → Item → Progress
  accepted change given = record p {
    rows = rows_after p.rows (change ∷ []);
    last = stamp_of now p.last;
    changes = p.changes ++ change ∷ [];
    saved = p.saved ++ given ∷ [];
  }

  of_new : (q r : Progress) → TakesNew present now n p i q → Takes present now n p i r → q ≡ r
  of_new q r (free, low, put) (inl (foreign, f)) = absurd (foreign_not_news foreign free.0)
  of_new q r (free, low, put) (inr (inl (row, given, held, same, gives, f))) = absurd (same_not_news row held same free.0)
  of_new q r (free, low, put) (inr (inr (inl (row, given, held, apart, unnamed, gives, f)))) = absurd (unnamed_not_news row held unnamed free.0)
  of_new q r (free, low, put) (inr (inr (inr (inl (news, unread, f))))) = absurd (unread free.1)
  of_new q r (free, low, (row, change, given, puts, gives, e)) (inr (inr (inr (inr (also, under, (other, second, item, put, tells, f)))))) =
      let rows : row ≡ other = one_version (stamp_of now p.last) row other change second puts put in
      let changes : change ≡ second = one_put change second (key.Item i.uuid) (value.Item row) (value.Item other) (ap value.Item rows) puts.puts put.puts in
      let items : given ≡ item = same_given i.uuid row other given item rows gives tells in
      e ∙ ap (λ (c : Change). accepted c given) changes ∙ ap (λ (j : Item). accepted second j) items ∙ sym f

  pub one_left : (q r : Progress) → Takes present now n p i q → Takes present now n p i r → q ≡ r
  one_left q r (inl a) b = of_foreign q r a b
  one_left q r (inr (inl a)) b = of_same q r a b
  one_left q r (inr (inr (inl a))) b = of_other q r a b
  one_left q r (inr (inr (inr (inl a)))) b = of_unread q r a b
  one_left q r (inr (inr (inr (inr a)))) b = of_new q r a b

  -- an item that may be accepted is, with a stamp that there is
  pub free_is_new : (q : Progress) → IsFree p n present i → Takes present now n p i q → stamp_of now p.last ≤ last_stamp
  free_is_new q free (inl (foreign, f)) = absurd (foreign_not_news foreign free.0)
  free_is_new q free (inr (inl (row, given, held, same, gives, f))) = absurd (same_not_news row held same free.0)
  free_is_new q free (inr (inr (inl (row, given, held, apart, unnamed, gives, f)))) = absurd (unnamed_not_news row held unnamed free.0)
  free_is_new q free (inr (inr (inr (inl (news, unread, f))))) = absurd (unread free.1)
  free_is_new q free (inr (inr (inr (inr (also, low, put))))) = low

-- ---- all of them

module _ (present : Params) (now n : ℕ) where
  pub one_end : (p : Progress) (items : List Item) (q r : Progress) → TakesAll present now n p items q → TakesAll present now n p items r → q ≡ r
  one_end p [] q r a b = a ∙ sym b
  one_end p (i ∷ is) q r (inl (past, e)) (inl (over, f)) = e ∙ sym f
  one_end p (i ∷ is) q r (inl (past, e)) (inr (within, more)) = absurd (omega arith)
  one_end p (i ∷ is) q r (inr (within, more)) (inl (past, f)) = absurd (omega arith)
  one_end p (i ∷ is) q r (inr (within, (mid, takes, a))) (inr (also, (same, took, b))) =
      let one : same ≡ mid = sym (one_left present now n p i mid same takes took) in
      one_end mid is q r a (subst (λ (x : Progress). TakesAll present now n x is r) one b)

  -- where the stamps run out the items aren't all dealt with
  out_at : (p : Progress) (front : List Item) (item : Item) (later : List Item) (at q : Progress) → TakesAll present now n p front at → at.bytes ≤ most_bytes
      → IsFree at n present item → last_stamp < stamp_of now at.last → TakesAll present now n p (front ++ item ∷ later) q → ⊥
  out_at p [] item later at q here looked free past (inl (over, f)) = (let e = ap (λ (x : Progress). x.bytes) here in absurd (omega arith))
  out_at p [] item later at q here looked free past (inr (within, (mid, takes, more))) =
      let of_p : IsFree p n present item = subst (λ (x : Progress). IsFree x n present item) here free in
      let low : stamp_of now p.last ≤ last_stamp = free_is_new present now n p item mid of_p takes in
      let over : last_stamp < stamp_of now p.last = subst (λ (x : Progress). last_stamp < stamp_of now x.last) here past in
      absurd (omega arith)
  out_at p (i ∷ front) item later at q (inl (over, e)) looked free past b = (let same = ap (λ (x : Progress). x.bytes) e in absurd (omega arith))
  out_at p (i ∷ front) item later at q (inr (within, a)) looked free past (inl (over, f)) = absurd (omega arith)
  out_at p (i ∷ front) item later at q (inr (within, (mid, takes, a))) looked free past (inr (also, (same, took, b))) =
      let one : same ≡ mid = sym (one_left present now n p i mid same takes took) in
      out_at mid front item later at q a looked free past (subst (λ (x : Progress). TakesAll present now n x (front ++ item ∷ later) q) one b)

  pub out_or_all : (p : Progress) (items : List Item) (q : Progress) → RunsOut present now n p items → TakesAll present now n p items q → ⊥
  out_or_all p items q out all =
      out_at p out.front out.item out.later out.at q out.taken out.looked out.free out.past
      (subst (λ (is : List Item). TakesAll present now n p is q) out.split all)

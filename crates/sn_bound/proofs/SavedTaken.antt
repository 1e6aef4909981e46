-- What a device's rows become where they take what an answer saved of items without a draft that are sealed under the present set: those items wait no
-- more, and each other row is as it was.
use Rattle.std.proofs.Common.{◌≡◌, ◌≢◌, ◌⊎◌, ℕ, Bool, true, false, List, [], ◌∷◌, map, None, refl, sym, ap, ◌∙◌, subst, inl, inr, ⊎_elim}
use Rattle.std.proofs.lemmas.Bool.{cases_Bool}
use Rattle.std.specs.List.{Contains}
use Rattle.rand_chacha.specs.ChaCha.{ChaCha}
use Rattle.sn_device.specs.States.{Bytes, Columns, HasItem, HasLocal, AreApart}
use Rattle.sn_device.specs.Taking.{IsKeptAs, Meets, Progress, TakesAll, TakesBody, TakesServer, is_saved}
use Rattle.sn_conflict.specs.Meetings.{MeetsAs}
use Rattle.sn_conflict.specs.declared.meeting.Meeting.{Meeting}
use Rattle.sn_conflict.specs.declared.meeting.Meeting.TheVariants as meeting
use Rattle.sn_items.specs.Items.{OpensItem}
use Rattle.sn_items.specs.declared.sealed.Sealed.{Sealed}
use Rattle.sn_laws.specs.Each.{Each}
use Rattle.sn_rows.specs.Facts.{keys_compare, put_here}
use Rattle.sn_rows.specs.Table.{Rows, key_of, rows_after, same_key}
use Rattle.sn_rows.specs.declared.body.RowStrings.{RowStrings}
use Rattle.sn_rows.specs.declared.change.Change.{Change}
use Rattle.sn_rows.specs.declared.device_rows.LocalItem.{LocalItem}
use Rattle.sn_rows.specs.declared.key.Key.TheVariants as key
use Rattle.sn_rows.specs.declared.value.Value.TheVariants as value
use Rattle.sn_sets.specs.declared.sets.Sets.{Sets}
use Rattle.sn_sync.specs.Versions.{uuids}
use Rattle.sn_sync.specs.declared.item.Body.{Body}
use Rattle.sn_sync.specs.declared.item.Body.TheVariants as body
use Rattle.sn_sync.specs.declared.item.Item.{Item}
use Rattle.sn_world.proofs.AnswerLists.{at_head, behind_head, head_or_behind, none_of}
use Rattle.sn_world.proofs.DeviceRows.{number_of_key, one_local, past_key}

-- a row without a draft has the item, which opens under the present set
pub record HasClean (sets : Sets) (rows : Rows) (i : Item) : Type 0 where
  pub number : ℕ
  pub local : LocalItem
  pub stands : HasItem rows i.uuid number local
  pub clean : local.latest ≡ None
  pub content : Bytes
  pub enc : Bytes
  pub body_is : i.body ≡ body.Strings content enc
  pub text : Bytes
  pub opens : OpensItem (record { content = content; enc = enc }) i.uuid sets.present text

-- nothing is left to send of it
abbrev pub IsAnswered : LocalItem → Type 0
IsAnswered local = (local.latest ≡ None) × (local.stale ≡ false)

-- ---- one item

record IsTakenAt (p : Rows) (uuid : Bytes) (number : ℕ) (q : Rows) : Type 0 where
  local : LocalItem
  stands : HasItem q uuid number local
  answered : IsAnswered local
  others : (m : ℕ) → (m ≡ number) ⊎ ((m ≢ number) × (q (key.Local m) ≡ p (key.Local m)))

here_or_past : (rows : Rows) (change : Change) (number m : ℕ) → key_of change ≡ key.Local number
    → (m ≡ number) ⊎ ((m ≢ number) × (rows_after rows (change ∷ []) (key.Local m) ≡ rows (key.Local m)))
here_or_past rows change number m named = by (cases_Bool (same_key (key.Local number) (key.Local m)))
  where
    by : ((same_key (key.Local number) (key.Local m) ≡ true) ⊎ (same_key (key.Local number) (key.Local m) ≡ false))
        → (m ≡ number) ⊎ ((m ≢ number) × (rows_after rows (change ∷ []) (key.Local m) ≡ rows (key.Local m)))
    by (inl same) = inl (number_of_key ((keys_compare (key.Local number) (key.Local m)).0 same))
    by (inr off) =
        let apart : key.Local number ≢ key.Local m =
        λ e. (let on : same_key (key.Local number) (key.Local m) ≡ true = (keys_compare (key.Local number) (key.Local m)).1 e in cc) in
        inr (λ e. apart (ap key.Local (sym e)), past_key rows change (key.Local number) (key.Local m) named apart)

not_stale : (sets : Sets) (words : ChaCha) (uuid : Bytes) (given : Sealed) (strings : RowStrings) (stale : Bool) (left : ChaCha) (text : Bytes)
    → OpensItem given uuid sets.present text → IsKeptAs sets words uuid given strings stale left → stale ≡ false
not_stale sets words uuid given strings stale left text opens (inl (closed, same, is, undrawn)) = is
not_stale sets words uuid given strings stale left text opens (inr (other, older, wraps, is)) = absurd (older.not_present text opens)

module _ (sets : Sets) (p q : Progress) (i : Item) (x : HasClean sets p.rows i) where
  takes_body : (b : Body) → i.body ≡ b → TakesBody sets p x.number i b None None q → IsTakenAt p.rows i.uuid x.number q.rows
  takes_body body.Deleted is takes = absurd (let strings = x.body_is in cc)
  takes_body (body.Strings content enc) is (c, left, change, stands, put, q_is) =
      let content_is : x.content ≡ content = (let strings = x.body_is in cc) in
      let enc_is : x.enc ≡ enc = (let strings = x.body_is in cc) in
      let opens : OpensItem (record { content = content; enc = enc }) i.uuid sets.present x.text =
      subst (λ (z : Bytes). OpensItem (record { content = content; enc = z }) i.uuid sets.present x.text) enc_is
      (subst (λ (z : Bytes). OpensItem (record { content = z; enc = x.enc }) i.uuid sets.present x.text) content_is x.opens) in
      let stale : c.stale ≡ false =
      not_stale sets p.words i.uuid (record { content = content; enc = enc }) stands.strings c.stale left x.text opens stands.kept in
      let rows_are : q.rows ≡ rows_after p.rows (change ∷ []) = ap (λ (z : Progress). z.rows) q_is in
      record {
        local = put.local;
        stands = (
          ap (λ (r : Rows). r (key.Local x.number)) rows_are ∙ put_here p.rows change (key.Local x.number) (value.Local put.local) put.puts,
          ap (λ (k : Columns). k.uuid) put.columns_are ∙ stands.uuid_is,
        );
        answered = (ap (λ (k : Columns). k.latest) put.columns_are ∙ stands.latest_is, ap (λ (k : Columns). k.stale) put.columns_are ∙ stale);
        others = λ m.
            subst (λ (r : Rows). (m ≡ x.number) ⊎ ((m ≢ x.number) × (r (key.Local m) ≡ p.rows (key.Local m)))) (sym rows_are)
            (here_or_past p.rows change x.number m put.puts.key_is);
      }

  meets : (local : LocalItem) → local.latest ≡ None → (how : Meeting) → MeetsAs sets local i true how → Meets sets p x.number local i how q
      → IsTakenAt p.rows i.uuid x.number q.rows
  meets local clean meeting.Same (inl known) does = absurd (let retrieved = known.retrieved in cc)
  meets local clean meeting.Same (inr closed) does = absurd (let drafted = closed.other.meets.drafted in cc)
  meets local clean meeting.Take as_it does = takes_body i.body refl does
  meets local clean (meeting.Own true) own does = absurd (let drafted = own.meets.drafted in cc)
  meets local clean (meeting.Own false) own does = absurd (let drafted = own.meets.drafted in cc)
  meets local clean meeting.GiveWay gone does = absurd (let drafted = gone.meets.drafted in cc)
  meets local clean meeting.Fork text does = absurd (let drafted = text.other.meets.drafted in cc)

  one_taken : AreApart p.rows → TakesServer sets p i true q → IsTakenAt p.rows i.uuid x.number q.rows
  one_taken apart (inl (number, local, how, stands, as_it, does)) =
      let same : number ≡ x.number = apart number x.number local x.local stands.0 x.stands.0 (stands.1 ∙ sym x.stands.1) in
      let there : HasLocal p.rows x.number local = subst (λ (k : ℕ). HasLocal p.rows k local) same stands.0 in
      let local_is : x.local ≡ local = one_local x.local local (p.rows (key.Local x.number)) x.stands.0 there in
      meets local (ap (λ (l : LocalItem). l.latest) (sym local_is) ∙ x.clean) how as_it (subst (λ (k : ℕ). Meets sets p k local i how q) same does)
  one_taken apart (inr (free, makes)) = absurd (free x.number x.local x.stands)

-- ---- all of them

module _ (p q : Rows) (uuid : Bytes) (number : ℕ) (was : LocalItem) (stood : HasItem p uuid number was) (x : IsTakenAt p uuid number q) where
  -- of a row behind it the uuid was there before
  was_there : (m : ℕ) (local : LocalItem) → HasLocal q m local → (old : LocalItem) × HasLocal p m old × (old.uuid ≡ local.uuid)
  was_there m local found =
      ⊎_elim
      (λ (same : m ≡ number).
      let is : x.local ≡ local = one_local x.local local (q (key.Local number)) x.stands.0 (subst (λ (k : ℕ). HasLocal q k local) same found) in (
        was,
        subst (λ (k : ℕ). HasLocal p k was) (sym same) stood.0,
        stood.1 ∙ sym x.stands.1 ∙ ap (λ (l : LocalItem). l.uuid) is,
      ))
      (λ (past : (m ≢ number) × (q (key.Local m) ≡ p (key.Local m))). (local, sym past.1 ∙ found, refl)) (x.others m)

  apart_on : AreApart p → AreApart q
  apart_on apart m k local twin found other same =
      let one = was_there m local found in
      let two = was_there k twin other in
      apart m k one.0 two.0 one.1 two.1 (one.2 ∙ same ∙ sym two.2)

  clean_on : (sets : Sets) → (items : List Item) → Each (HasClean sets p) items → Each (HasClean sets q) items
  clean_on sets [] all = tt
  clean_on sets (i ∷ items) (y, all) = (
    ⊎_elim
        (λ (same : y.number ≡ number). record {
          number = number;
          local = x.local;
          stands = (
            x.stands.0,
            x.stands.1 ∙ sym stood.1
                ∙ ap (λ (l : LocalItem). l.uuid)
                (one_local was y.local (p (key.Local number)) stood.0 (subst (λ (k : ℕ). HasLocal p k y.local) same y.stands.0))
                ∙ y.stands.1,
          );
          clean = x.answered.0;
          content = y.content;
          enc = y.enc;
          body_is = y.body_is;
          text = y.text;
          opens = y.opens;
        })
        (λ (past : (y.number ≢ number) × (q (key.Local y.number) ≡ p (key.Local y.number))). record {
          number = y.number;
          local = y.local;
          stands = (past.1 ∙ y.stands.0, y.stands.1);
          clean = y.clean;
          content = y.content;
          enc = y.enc;
          body_is = y.body_is;
          text = y.text;
          opens = y.opens;
        }) (x.others y.number),
    clean_on sets items all,
  )

-- the rows of other items stay, and each row is one of those or is answered
pub record AreTaken (before : Rows) (items : List Item) (after : Rows) : Type 0 where
  pub kept : (number : ℕ) (local : LocalItem) → HasLocal before number local → ¬ (Contains (uuids items) local.uuid) → HasLocal after number local
  pub from : (number : ℕ) (local : LocalItem) → HasLocal after number local
      → (HasLocal before number local × ¬ (Contains (uuids items) local.uuid)) ⊎ IsAnswered local

taken_on : (before mid after : Rows) (i : Item) (items : List Item) (number : ℕ) (was : LocalItem) → HasItem before i.uuid number was → AreApart before
    → IsTakenAt before i.uuid number mid → AreTaken mid items after → AreTaken before (i ∷ items) after
taken_on before mid after i items number was stood apart one rest = record {
  kept = λ m local stands none.
      ⊎_elim
      (λ (same : m ≡ number).
      let is : was ≡ local = one_local was local (before (key.Local number)) stood.0 (subst (λ (k : ℕ). HasLocal before k local) same stands) in
      let named : i.uuid ≡ local.uuid = sym stood.1 ∙ ap (λ (l : LocalItem). l.uuid) is in
      absurd (none (subst (λ (u : Bytes). Contains (uuids (i ∷ items)) u) named (at_head i.uuid (uuids items)))))
      (λ (past : (m ≢ number) × (mid (key.Local m) ≡ before (key.Local m))).
      rest.kept m local (past.1 ∙ stands) (λ has. none (behind_head i.uuid (uuids items) local.uuid has))) (one.others m);
  from = λ m local found. (by m local (rest.from m local found));
}
  where
    by : (m : ℕ) (local : LocalItem) → (HasLocal mid m local × ¬ (Contains (uuids items) local.uuid)) ⊎ IsAnswered local
        → (HasLocal before m local × ¬ (Contains (uuids (i ∷ items)) local.uuid)) ⊎ IsAnswered local
    by m local (inr answered) = inr answered
    by m local (inl (stands, none)) =
        ⊎_elim
        (λ (same : m ≡ number).
        let is : one.local ≡ local = one_local one.local local (mid (key.Local number)) one.stands.0 (subst (λ (k : ℕ). HasLocal mid k local) same stands) in
        inr (subst IsAnswered is one.answered))
        (λ (past : (m ≢ number) × (mid (key.Local m) ≡ before (key.Local m))).
        let there : HasLocal before m local = sym past.1 ∙ stands in
        inl (
          there,
          λ has.
              ⊎_elim (λ (named : i.uuid ≡ local.uuid). past.0 (apart m number local was there stood.0 (sym named ∙ sym stood.1))) (λ behind. none behind)
              (head_or_behind i.uuid (uuids items) local.uuid has),
        )) (one.others m)

pub all_taken : (sets : Sets) (saved items : List Item) (p q : Progress) → AreApart p.rows → Each (HasClean sets p.rows) items
    → TakesAll sets saved p (map is_saved items) q → AreTaken p.rows items q.rows
all_taken sets saved [] p q apart clean is =
    let rows_are : q.rows ≡ p.rows = ap (λ (z : Progress). z.rows) is in
    record {
      kept = λ m local stands none. ap (λ (r : Rows). r (key.Local m)) rows_are ∙ stands;
      from = λ m local found. inl (ap (λ (r : Rows). r (key.Local m)) (sym rows_are) ∙ found, none_of local.uuid);
    }
all_taken sets saved (i ∷ items) p q apart (x, clean) (r, takes, later) =
    let one = one_taken sets p r i x apart takes in
    taken_on p.rows r.rows q.rows i items x.number x.local x.stands apart one
    (all_taken sets saved items r q (apart_on p.rows r.rows i.uuid x.number x.local x.stands one apart)
    (clean_on p.rows r.rows i.uuid x.number x.local x.stands one sets items clean) later)

-- Each item of a sync is dealt with, unless the stamps run out.
use Rattle.std.proofs.Common.{◌≡◌, ◌⊎◌, ℕ, suc, ◌+◌, ◌<◌, ◌≤◌, Bool, true, false, List, [], ◌∷◌, ◌++◌, length, Option, Some, None, All, refl, sym, ap, ◌∙◌, subst, inl, inr, ⊎_elim, arith}
use Rattle.std.specs.Str.{IsUtf8}
use Rattle.std.proofs.lemmas.List.Elements.{All-head, All-tail}
use Rattle.std.proofs.lemmas.Str.{IsUtf8-from_ascii, IsUtf8-nil}
use Rattle.sn_rows.specs.Table.{Puts, rows_after}
use Rattle.sn_rows.specs.declared.change.Change.{Change}
use Rattle.sn_rows.specs.declared.key.Key.TheVariants as key
use Rattle.sn_rows.specs.declared.server_rows.ItemRow.{ItemRow}
use Rattle.sn_rows.specs.declared.value.Value.TheVariants as value
use Rattle.sn_string.specs.declared.params.Params.{Params}
use Rattle.sn_sync.proofs.Facts.{one_spelling}
use Rattle.sn_sync.specs.Fits.{FitsKind, FitsSent}
use Rattle.sn_sync.specs.Stamps.{IsStampText, last_stamp}
use Rattle.sn_sync.specs.declared.answer.Conflict.TheVariants as conflict
use Rattle.sn_sync.specs.declared.item.Body.{Body}
use Rattle.sn_sync.specs.declared.item.Body.TheVariants as body
use Rattle.sn_sync.specs.declared.item.Item.{Item}
use Rattle.sn_account.specs.Incoming.{IsAbsent, IsFree, IsHeld, IsNews, IsOwnBody, IsOwnString, Names, Progress, PutsVersion, RunsOut, SameVersion, Takes, TakesAll, stamp_of}
use Rattle.sn_account.specs.Lookups.{Bytes, HasItem}
use Rattle.sn_account.specs.Pages.{most_bytes, weight}
use Rattle.sn_account.specs.Stored.{IsGiven, body_of}
use Rattle.sn_account.specs.Syncs.{AreShort, IsShort, NoneLong, strings_in}
use Rattle.sn_account.proofs.Deciding.{Decided, at_most, both, decided_so, same_list, same_number}
use Rattle.sn_account.proofs.ReadingOrNot.{own_strings}
use Rattle.sn_account.proofs.StampTexts.{has_text}
use Rattle.sn_account.proofs.SyncSteps.{Items, ran_one}
use Rattle.sn_account.proofs.TotalRows.{put_of, stored_or_not, text_fits}
use Rattle.sn_account.proofs.UnescapedTexts.{sealed_are_ascii}

-- ---- a stored item

-- it is given as some item
pub has_given : (u : Bytes) (row : ItemRow) → (i : Item) × IsGiven u row i
has_given u row =
    let text : (t : Bytes) × IsStampText t row.updated = has_text row.updated row.updated_fits in (
      record {
        uuid = u;
        kind = row.kind;
        created = Some row.created;
        updated_at = Some text.0;
        body = body_of row;
        created_fits = λ stamp e. (let same : row.created ≡ stamp = cc in subst (λ (k : ℕ). k ≤ last_stamp) same row.created_fits);
      },
      record { uuid_is = refl; kind = refl; created = refl; stamp = text.0; spelled = text.1; updated = refl; body = refl },
    )

-- ---- two versions

names_or_not : (i : Item) (row : ItemRow) → Decided (Names i row)
names_or_not i row = by_version i.updated_at refl
  where
    text : (t : Bytes) × IsStampText t row.updated
    text = has_text row.updated row.updated_fits

    by_version : (o : Option Bytes) → i.updated_at ≡ o → Decided (Names i row)
    by_version None e = inr (λ named. (let f = named.2 in absurd cc))
    by_version (Some t) e =
        decided_so (λ same. (text.0, text.1, e ∙ ap Some same))
        (λ named. (let one : named.0 ≡ text.0 = one_spelling named.0 text.0 row.updated named.1 text.1 in
        let own : Some t ≡ Some named.0 = sym e ∙ named.2 in
        let first : t ≡ named.0 = cc in
        first ∙ one))
        (same_list t text.0)

same_body : (a b : Body) → Decided (a ≡ b)
same_body body.Deleted body.Deleted = inl refl
same_body (body.Strings c e) (body.Strings d f) =
    decided_so (λ p. (let first = p.0 in let second = p.1 in cc)) (λ same. ((cc), (cc))) (both (same_list c d) (same_list e f))
same_body body.Deleted (body.Strings d f) = inr (λ e. absurd cc)
same_body (body.Strings c e) body.Deleted = inr (λ f. absurd cc)

same_version : (row : ItemRow) (i : Item) → Decided (SameVersion row i)
same_version row i = both (same_body (body_of row) i.body) (by_deletion row.deleted refl)
  where
    by_deletion : (b : Bool) → row.deleted ≡ b → Decided (row.deleted ≡ false → row.kind ≡ i.kind)
    by_deletion true gone = inl (λ live. absurd cc)
    by_deletion false live = decided_so (λ same off. same) (λ over. over live) (same_list row.kind i.kind)

own_body : (u : Bytes) (p : Params) (b : Body) → Decided (IsOwnBody u p b)
own_body u p body.Deleted = inl tt
own_body u p (body.Strings content enc) = own_strings u p content enc

-- ---- an accepted item

-- the row of a body
record IsBuilt (account : ℕ) (kind : Bytes) (created updated : ℕ) (b : Body) (row : ItemRow) : Type 0 where
  account_is : row.account ≡ account
  kind_is : row.kind ≡ kind
  created_is : row.created ≡ created
  updated_is : row.updated ≡ updated
  body_is : body_of row ≡ b
  gone : row.deleted ≡ true → (row.content ≡ []) × (row.enc ≡ [])

own_utf8 : (u : Bytes) (p : Params) (text : Bytes) → IsOwnString u p text → IsUtf8 text
own_utf8 u p text own = IsUtf8-from_ascii text (sealed_are_ascii text own.0 own.1)

build : (account : ℕ) (kind : Bytes) (created updated : ℕ) (u : Bytes) (p : Params) (b : Body) → created ≤ last_stamp → updated ≤ last_stamp → IsUtf8 kind
    → FitsKind b kind → IsOwnBody u p b → AreShort (strings_in b) → (row : ItemRow) × IsBuilt account kind created updated b row
build account kind created updated u p body.Deleted first last utf8 fits own short = (
  record {
    account = account;
    kind = kind;
    created = created;
    updated = updated;
    deleted = true;
    content = [];
    enc = [];
    kind_fits = text_fits 0 255 kind utf8 (omega arith) fits;
    kind_stands = λ live. absurd cc;
    created_fits = first;
    updated_fits = last;
    content_fits = text_fits 0 1048576 [] IsUtf8-nil (omega arith) (omega arith);
    enc_fits = text_fits 0 1048576 [] IsUtf8-nil (omega arith) (omega arith);
  },
  record { account_is = refl; kind_is = refl; created_is = refl; updated_is = refl; body_is = refl; gone = λ gone. (refl, refl) },
)
build account kind created updated u p (body.Strings content enc) first last utf8 fits own short =
    let few : length content ≤ 1048576 = All-head IsShort content (enc ∷ []) short in
    let few_too : length enc ≤ 1048576 = All-head IsShort enc [] (All-tail IsShort content (enc ∷ []) short) in (
      record {
        account = account;
        kind = kind;
        created = created;
        updated = updated;
        deleted = false;
        content = content;
        enc = enc;
        kind_fits = text_fits 0 255 kind utf8 (omega arith) fits.1;
        kind_stands = λ live. fits.0;
        created_fits = first;
        updated_fits = last;
        content_fits = text_fits 0 1048576 content (own_utf8 u p content own.0) (omega arith) few;
        enc_fits = text_fits 0 1048576 enc (own_utf8 u p enc own.1) (omega arith) few_too;
      },
      record { account_is = refl; kind_is = refl; created_is = refl; updated_is = refl; body_is = refl; gone = λ gone. absurd cc },
    )

module _ (present : Params) (now n : ℕ) where
  -- the stamp of its first acceptance
  abbrev IsFirst : Progress → Item → ℕ → Type 0
  IsFirst p i created =
      ((old : ItemRow) × HasItem p.rows i.uuid old × (created ≡ old.created)) ⊎ (IsAbsent p.rows i.uuid × (created ≡ stamp_of now p.last))

  record HasFirst (p : Progress) (i : Item) : Type 0 where
    created : ℕ
    low : created ≤ last_stamp
    is : IsFirst p i created

  has_first : (p : Progress) (i : Item) → stamp_of now p.last ≤ last_stamp → IsNews p n i → HasFirst p i
  has_first p i low (inl absent) = record { created = stamp_of now p.last; low = low; is = inr (absent, refl) }
  has_first p i low (inr (row, held, apart, names)) = record { created = row.created; low = row.created_fits; is = inl (row, held.0, refl) }

  -- it is dealt with, or would be accepted with a stamp past the last
  abbrev IsDealt : Progress → Item → Type 0
  IsDealt p i = ((q : Progress) × Takes present now n p i q) ⊎ (IsFree p n present i × (last_stamp < stamp_of now p.last))

  accepted : (p : Progress) (i : Item) → FitsSent i → IsUtf8 i.kind → AreShort (strings_in i.body) → IsFree p n present i → stamp_of now p.last ≤ last_stamp
      → (q : Progress) × Takes present now n p i q
  accepted p i fits utf8 short free low =
      let first : HasFirst p i = has_first p i low free.0 in
      let built : (row : ItemRow) × IsBuilt n i.kind first.created (stamp_of now p.last) i.body row =
      build n i.kind first.created (stamp_of now p.last) i.uuid present i.body first.low low utf8 fits.kind free.1 short in
      let put : (c : Change) × Puts c (key.Item i.uuid) (value.Item built.0) = put_of (key.Item i.uuid) (value.Item built.0) refl in
      let given : (j : Item) × IsGiven i.uuid built.0 j = has_given i.uuid built.0 in
      let puts : PutsVersion p n (stamp_of now p.last) i built.0 put.0 = record {
        puts = put.1;
        account = built.1.account_is;
        kind = built.1.kind_is;
        updated = built.1.updated_is;
        body = built.1.body_is;
        gone = built.1.gone;
        first = subst (IsFirst p i) (sym built.1.created_is) first.is;
      } in (
        record p {
          rows = rows_after p.rows (put.0 ∷ []);
          last = stamp_of now p.last;
          changes = p.changes ++ put.0 ∷ [];
          saved = p.saved ++ given.0 ∷ [];
        },
        inr (inr (inr (inr (free, low, (built.0, put.0, given.0, puts, given.1, refl))))),
      )

  of_news : (p : Progress) (i : Item) → FitsSent i → IsUtf8 i.kind → AreShort (strings_in i.body) → IsNews p n i → IsDealt p i
  of_news p i fits utf8 short news = by_body (own_body i.uuid present i.body)
    where
      by_body : Decided (IsOwnBody i.uuid present i.body) → IsDealt p i
      by_body (inr unread) = inl (record p { conflicts = p.conflicts ++ conflict.Content i ∷ [] }, inr (inr (inr (inl (news, unread, refl)))))
      by_body (inl own) =
          ⊎_elim (λ (low : stamp_of now p.last ≤ last_stamp). inl (accepted p i fits utf8 short (news, own) low))
          (λ (over : stamp_of now p.last ≤ last_stamp → ⊥). inr ((news, own), past over)) (at_most (stamp_of now p.last) last_stamp)
        where
          past : (stamp_of now p.last ≤ last_stamp → ⊥) → last_stamp < stamp_of now p.last
          past over = ⊎_elim (λ (is : suc last_stamp ≤ stamp_of now p.last). is)
              (λ (less : suc last_stamp ≤ stamp_of now p.last → ⊥). absurd (over (omega arith))) (at_most (suc last_stamp) (stamp_of now p.last))

  dealt : (p : Progress) (i : Item) → Items p.rows p.last n → FitsSent i → IsUtf8 i.kind → AreShort (strings_in i.body) → IsDealt p i
  dealt p i items fits utf8 short = by_row (stored_or_not p.rows items.kinds i.uuid)
    where
      by_version : (row : ItemRow) → IsHeld p n i row → Decided (SameVersion row i) → Decided (Names i row) → IsDealt p i
      by_version row held (inl same) names =
          let given : (j : Item) × IsGiven i.uuid row j = has_given i.uuid row in
          inl (record p { saved = p.saved ++ given.0 ∷ [] }, inr (inl (row, given.0, held, same, given.1, refl)))
      by_version row held (inr apart) (inl names) = of_news p i fits utf8 short (inr (row, held, apart, names))
      by_version row held (inr apart) (inr unnamed) =
          let given : (j : Item) × IsGiven i.uuid row j = has_given i.uuid row in
          inl (
            record p { conflicts = p.conflicts ++ conflict.Sync given.0 ∷ []; bytes = p.bytes + weight row },
            inr (inr (inl (row, given.0, held, apart, unnamed, given.1, refl))),
          )

      by_account : (row : ItemRow) → HasItem p.rows i.uuid row → Decided (row.account ≡ n) → IsDealt p i
      by_account row has (inl own) = by_version row (has, own) (same_version row i) (names_or_not i row)
      by_account row has (inr off) = inl (record p { conflicts = p.conflicts ++ conflict.Uuid i ∷ [] }, inl ((row, has, off), refl))

      by_row : ((row : ItemRow) × HasItem p.rows i.uuid row) ⊎ ((row : ItemRow) → HasItem p.rows i.uuid row → ⊥) → IsDealt p i
      by_row (inl (row, has)) = by_account row has (same_number row.account n)
      by_row (inr absent) = of_news p i fits utf8 short (inl absent)

  -- the last stamp stays one
  last_low : (p q : Progress) (i : Item) → Takes present now n p i q → p.last ≤ last_stamp → q.last ≤ last_stamp
  last_low p q i (inl (foreign, e)) low = subst (λ (k : ℕ). k ≤ last_stamp) (sym (ap (λ (x : Progress). x.last) e)) low
  last_low p q i (inr (inl (row, given, held, same, gives, e))) low = subst (λ (k : ℕ). k ≤ last_stamp) (sym (ap (λ (x : Progress). x.last) e)) low
  last_low p q i (inr (inr (inl (row, given, held, apart, unnamed, gives, e)))) low =
      subst (λ (k : ℕ). k ≤ last_stamp) (sym (ap (λ (x : Progress). x.last) e)) low
  last_low p q i (inr (inr (inr (inl (news, unread, e))))) low = subst (λ (k : ℕ). k ≤ last_stamp) (sym (ap (λ (x : Progress). x.last) e)) low
  last_low p q i (inr (inr (inr (inr (free, within, (row, change, given, puts, gives, e)))))) low =
      subst (λ (k : ℕ). k ≤ last_stamp) (sym (ap (λ (x : Progress). x.last) e)) within

  -- ---- all of them

  -- all are dealt with
  pub record IsDone (p : Progress) (items : List Item) : Type 0 where
    pub end : Progress
    pub taken : TakesAll present now n p items end
    pub low : end.last ≤ last_stamp

  abbrev IsText : Item → Type 0
  IsText i = IsUtf8 i.kind

  abbrev IsShortItem : Item → Type 0
  IsShortItem i = AreShort (strings_in i.body)

  out_behind : (p mid : Progress) (i : Item) (is : List Item) → p.bytes ≤ most_bytes → Takes present now n p i mid → RunsOut present now n mid is
      → RunsOut present now n p (i ∷ is)
  out_behind p mid i is looked takes out = record {
    front = i ∷ out.front;
    item = out.item;
    later = out.later;
    split = ap (λ (x : List Item). i ∷ x) out.split;
    at = out.at;
    taken = inr (looked, (mid, takes, out.taken));
    looked = out.looked;
    free = out.free;
    past = out.past;
  }

  pub done_or_out : (p : Progress) (items : List Item) → Items p.rows p.last n → p.last ≤ last_stamp → All FitsSent items → All IsText items → NoneLong items
      → IsDone p items ⊎ RunsOut present now n p items
  done_or_out p [] stored low fits texts short = inl (record { end = p; taken = refl; low = low })
  done_or_out p (i ∷ is) stored low fits texts short =
      by_bytes
      (λ mid takes. done_or_out mid is (ran_one n now present p mid i (All-head FitsSent i is fits).uuid stored takes).items (last_low p mid i takes low)
      (All-tail FitsSent i is fits) (All-tail IsText i is texts) (All-tail IsShortItem i is short))
      (at_most p.bytes most_bytes)
    where
      by_rest : (mid : Progress) → p.bytes ≤ most_bytes → Takes present now n p i mid → IsDone mid is ⊎ RunsOut present now n mid is
          → IsDone p (i ∷ is) ⊎ RunsOut present now n p (i ∷ is)
      by_rest mid looked takes (inl done) = inl (record { end = done.end; taken = inr (looked, (mid, takes, done.taken)); low = done.low })
      by_rest mid looked takes (inr out) = inr (out_behind p mid i is looked takes out)

      by_item : p.bytes ≤ most_bytes → ((mid : Progress) → Takes present now n p i mid → IsDone mid is ⊎ RunsOut present now n mid is) → IsDealt p i
          → IsDone p (i ∷ is) ⊎ RunsOut present now n p (i ∷ is)
      by_item looked rest (inl (mid, takes)) = by_rest mid looked takes (rest mid takes)
      by_item looked rest (inr (free, past)) =
          inr (record { front = []; item = i; later = is; split = refl; at = p; taken = refl; looked = looked; free = free; past = past })

      past : (p.bytes ≤ most_bytes → ⊥) → most_bytes < p.bytes
      past over = ⊎_elim (λ (is : suc most_bytes ≤ p.bytes). is) (λ (less : suc most_bytes ≤ p.bytes → ⊥). absurd (over (omega arith)))
          (at_most (suc most_bytes) p.bytes)

      by_bytes : ((mid : Progress) → Takes present now n p i mid → IsDone mid is ⊎ RunsOut present now n mid is) → Decided (p.bytes ≤ most_bytes)
          → IsDone p (i ∷ is) ⊎ RunsOut present now n p (i ∷ is)
      by_bytes rest (inr over) = inl (record { end = p; taken = inl (past over, refl); low = low })
      by_bytes rest (inl looked) = by_item looked rest (dealt p i stored (All-head FitsSent i is fits) (All-head IsText i is texts) (All-head IsShortItem i is short))

-- Rows, changes and items with equal columns are equal.
use Rattle.std.proofs.Common.{◌≡◌, ℕ, ◌≤◌, Bool, true, false, List, [], length, Option, Some, None, refl, sym, ap, subst, ◌∙◌}
use Rattle.std.specs.Prelude.{IsTrue, if◌then◌else◌}
use Rattle.std.proofs.Props.{props}
use Rattle.sn_rows.specs.Bounds.{is_identifier, is_nonce, is_server_string, is_type_or_empty, last_stamp}
use Rattle.sn_rows.specs.Kinds.{key_kind, value_kind}
use Rattle.sn_rows.specs.Table.{Puts}
use Rattle.sn_rows.specs.declared.change.Change.{Change}
use Rattle.sn_rows.specs.declared.change.Change.TheVariants.{Put, Remove}
use Rattle.sn_rows.specs.declared.change.Row.{Row}
use Rattle.sn_rows.specs.declared.key.Key.{Key}
use Rattle.sn_rows.specs.declared.server_rows.AccountRow.{AccountRow}
use Rattle.sn_rows.specs.declared.server_rows.GenerationRow.{GenerationRow}
use Rattle.sn_rows.specs.declared.server_rows.ItemRow.{ItemRow}
use Rattle.sn_rows.specs.declared.server_rows.StoreRow.{StoreRow}
use Rattle.sn_rows.specs.declared.value.Value.{Value}
use Rattle.sn_sync.specs.Stamps.{IsStampOrNone}
use Rattle.sn_sync.specs.declared.item.Body.{Body}
use Rattle.sn_sync.specs.declared.item.Body.TheVariants as body
use Rattle.sn_sync.specs.declared.item.Item.{Item}
use Rattle.sn_account.specs.Stored.{body_of}

pub store_same : (a b : StoreRow) → a.secret ≡ b.secret → a.last ≡ b.last → a.accounts ≡ b.accounts → a ≡ b
store_same a b e0 e1 e2 =
    let P : (List ℕ × ℕ × ℕ) → Type 0 = λ t. (g0 : t.1 ≤ last_stamp) → a ≡ record { secret = t.0; last = t.1; accounts = t.2; last_fits = g0 } in
    let p0 : IsProp (a.last ≤ last_stamp) = hlevel props in
    let same : (a.secret, a.last, a.accounts) ≡ (b.secret, b.last, b.accounts) = cc in
    subst P same (λ g0. λ i. record { secret = a.secret; last = a.last; accounts = a.accounts; last_fits = p0 a.last_fits g0 i }) b.last_fits

pub account_same : (a b : AccountRow) → a.identifier ≡ b.identifier → a.generation ≡ b.generation → a.check ≡ b.check → a ≡ b
account_same a b e0 e1 e2 =
    let P : (List ℕ × ℕ × List ℕ) → Type 0 = λ t. (g0 : IsTrue (is_identifier t.0))
    → a ≡ record { identifier = t.0; generation = t.1; check = t.2; identifier_fits = g0 } in
    let p0 : IsProp (IsTrue (is_identifier a.identifier)) = hlevel props in
    let same : (a.identifier, a.generation, a.check) ≡ (b.identifier, b.generation, b.check) = cc in
    subst P same (λ g0. λ i. record {
      identifier = a.identifier;
      generation = a.generation;
      check = a.check;
      identifier_fits = p0 a.identifier_fits g0 i;
    }) b.identifier_fits

pub generation_same : (a b : GenerationRow) → a.pw_cost ≡ b.pw_cost → a.pw_nonce ≡ b.pw_nonce → a ≡ b
generation_same a b e0 e1 =
    let P : (ℕ × List ℕ) → Type 0 = λ t. (g0 : 1 ≤ t.0) → (g1 : IsTrue (is_nonce t.1)) → (g2 : t.0 ≤ 4294967295)
    → a ≡ record { pw_cost = t.0; pw_nonce = t.1; cost_fits = g0; nonce_fits = g1; cost_bounded = g2 } in
    let p0 : IsProp (1 ≤ a.pw_cost) = hlevel props in
    let p1 : IsProp (IsTrue (is_nonce a.pw_nonce)) = hlevel props in
    let p2 : IsProp (a.pw_cost ≤ 4294967295) = hlevel props in
    let same : (a.pw_cost, a.pw_nonce) ≡ (b.pw_cost, b.pw_nonce) = cc in
    subst P same (λ g0 g1 g2. λ i. record {
      pw_cost = a.pw_cost;
      pw_nonce = a.pw_nonce;
      cost_fits = p0 a.cost_fits g0 i;
      nonce_fits = p1 a.nonce_fits g1 i;
      cost_bounded = p2 a.cost_bounded g2 i;
    }) b.cost_fits b.nonce_fits b.cost_bounded

pub item_row_same : (a b : ItemRow) → a.account ≡ b.account → a.kind ≡ b.kind → a.created ≡ b.created → a.updated ≡ b.updated
    → a.deleted ≡ b.deleted → a.content ≡ b.content → a.enc ≡ b.enc → a ≡ b
item_row_same a b e0 e1 e2 e3 e4 e5 e6 =
    let P : (ℕ × List ℕ × ℕ × ℕ × Bool × List ℕ × List ℕ) → Type 0 = λ t. (g0 : IsTrue (is_type_or_empty t.1))
    → (g1 : (t.4 ≡ false → 1 ≤ length t.1)) → (g2 : t.2 ≤ last_stamp) → (g3 : t.3 ≤ last_stamp) → (g4 : IsTrue (is_server_string t.5))
    → (g5 : IsTrue (is_server_string t.6)) → a ≡ record {
      account = t.0;
      kind = t.1;
      created = t.2;
      updated = t.3;
      deleted = t.4;
      content = t.5;
      enc = t.6;
      kind_fits = g0;
      kind_stands = g1;
      created_fits = g2;
      updated_fits = g3;
      content_fits = g4;
      enc_fits = g5;
    } in
    let p0 : IsProp (IsTrue (is_type_or_empty a.kind)) = hlevel props in
    let p1 : IsProp ((a.deleted ≡ false → 1 ≤ length a.kind)) = hlevel props in
    let p2 : IsProp (a.created ≤ last_stamp) = hlevel props in
    let p3 : IsProp (a.updated ≤ last_stamp) = hlevel props in
    let p4 : IsProp (IsTrue (is_server_string a.content)) = hlevel props in
    let p5 : IsProp (IsTrue (is_server_string a.enc)) = hlevel props in
    let same : (a.account, a.kind, a.created, a.updated, a.deleted, a.content, a.enc)
    ≡ (b.account, b.kind, b.created, b.updated, b.deleted, b.content, b.enc) = cc in
    subst P same (λ g0 g1 g2 g3 g4 g5. λ i. record {
      account = a.account;
      kind = a.kind;
      created = a.created;
      updated = a.updated;
      deleted = a.deleted;
      content = a.content;
      enc = a.enc;
      kind_fits = p0 a.kind_fits g0 i;
      kind_stands = p1 a.kind_stands g1 i;
      created_fits = p2 a.created_fits g2 i;
      updated_fits = p3 a.updated_fits g3 i;
      content_fits = p4 a.content_fits g4 i;
      enc_fits = p5 a.enc_fits g5 i;
    }) b.kind_fits b.kind_stands b.created_fits b.updated_fits b.content_fits b.enc_fits

row_same : (a b : Row) → a.key ≡ b.key → a.value ≡ b.value → a ≡ b
row_same a b e0 e1 =
    let P : (Key × Value) → Type 0 = λ t. (g0 : key_kind t.0 ≡ value_kind t.1) → a ≡ record { key = t.0; value = t.1; one_kind = g0 } in
    let p0 : IsProp (key_kind a.key ≡ value_kind a.value) = hlevel props in
    let same : (a.key, a.value) ≡ (b.key, b.value) = cc in
    subst P same (λ g0. λ i. record { key = a.key; value = a.value; one_kind = p0 a.one_kind g0 i }) b.one_kind

-- one change puts a value at a key
pub one_put : (a b : Change) (at : Key) (v w : Value) → v ≡ w → Puts a at v → Puts b at w → a ≡ b
one_put (Put r) (Put s) at v w same p q =
    let keys : r.key ≡ s.key = p.key_is ∙ sym q.key_is in
    let first : Some r.value ≡ Some v = p.value_is in
    let second : Some s.value ≡ Some w = q.value_is in
    let values : r.value ≡ s.value = cc in
    ap Put (row_same r s keys values)
one_put (Remove k) b at v w same p q = absurd (let e : None ≡ Some v = p.value_is in cc)
one_put (Put r) (Remove k) at v w same p q = absurd (let e : None ≡ Some w = q.value_is in cc)

pub item_same : (a b : Item) → a.uuid ≡ b.uuid → a.kind ≡ b.kind → a.created ≡ b.created → a.updated_at ≡ b.updated_at → a.body ≡ b.body → a ≡ b
item_same a b e0 e1 e2 e3 e4 =
    let P : (List ℕ × List ℕ × Option ℕ × Option (List ℕ) × Body) → Type 0 = λ t. (g0 : IsStampOrNone t.2)
    → a ≡ record { uuid = t.0; kind = t.1; created = t.2; updated_at = t.3; body = t.4; created_fits = g0 } in
    let p0 : IsProp (IsStampOrNone a.created) = hlevel props in
    let same : (a.uuid, a.kind, a.created, a.updated_at, a.body) ≡ (b.uuid, b.kind, b.created, b.updated_at, b.body) = cc in
    subst P same (λ g0. λ i. record {
      uuid = a.uuid;
      kind = a.kind;
      created = a.created;
      updated_at = a.updated_at;
      body = a.body;
      created_fits = p0 a.created_fits g0 i;
    }) b.created_fits

-- ---- a row by its body

-- what a row's body says of its columns
record SameColumns (a b : ItemRow) : Type 0 where
  deleted : a.deleted ≡ b.deleted
  content : a.content ≡ b.content
  enc : a.enc ≡ b.enc

-- the strings of a deleted row are empty
abbrev pub IsGone : ItemRow → Type 0
IsGone row = row.deleted ≡ true → (row.content ≡ []) × (row.enc ≡ [])

same_columns : (a b : ItemRow) (p q : Bool) → a.deleted ≡ p → b.deleted ≡ q → body_of a ≡ body_of b → IsGone a → IsGone b → SameColumns a b
same_columns a b true true x y same gone went = record {
  deleted = x ∙ sym y;
  content = (gone x).0 ∙ sym (went y).0;
  enc = (gone x).1 ∙ sym (went y).1;
}
same_columns a b false false x y same gone went =
    let first : body_of a ≡ body.Strings a.content a.enc = ap (λ (t : Bool). if t then body.Deleted else body.Strings a.content a.enc) x in
    let second : body_of b ≡ body.Strings b.content b.enc = ap (λ (t : Bool). if t then body.Deleted else body.Strings b.content b.enc) y in
    let strings : body.Strings a.content a.enc ≡ body.Strings b.content b.enc = sym first ∙ same ∙ second in
    record { deleted = x ∙ sym y; content = cc; enc = cc }
same_columns a b true false x y same gone went =
    let first : body_of a ≡ body.Deleted = ap (λ (t : Bool). if t then body.Deleted else body.Strings a.content a.enc) x in
    let second : body_of b ≡ body.Strings b.content b.enc = ap (λ (t : Bool). if t then body.Deleted else body.Strings b.content b.enc) y in
    let strings : body.Deleted ≡ body.Strings b.content b.enc = sym first ∙ same ∙ second in
    absurd cc
same_columns a b false true x y same gone went =
    let first : body_of a ≡ body.Strings a.content a.enc = ap (λ (t : Bool). if t then body.Deleted else body.Strings a.content a.enc) x in
    let second : body_of b ≡ body.Deleted = ap (λ (t : Bool). if t then body.Deleted else body.Strings b.content b.enc) y in
    let strings : body.Strings a.content a.enc ≡ body.Deleted = sym first ∙ same ∙ second in
    absurd cc

pub row_by_body : (a b : ItemRow) → a.account ≡ b.account → a.kind ≡ b.kind → a.created ≡ b.created → a.updated ≡ b.updated
    → body_of a ≡ body_of b → IsGone a → IsGone b → a ≡ b
row_by_body a b account kind created updated same gone went =
    let are : SameColumns a b = same_columns a b a.deleted b.deleted refl refl same gone went in
    item_row_same a b account kind created updated are.deleted are.content are.enc

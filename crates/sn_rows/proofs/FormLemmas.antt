-- The columns of a row that a program holds are in form, and short enough for a length of four bytes.
use Rattle.std.proofs.Common.{◌≡◌, refl, sym, subst, ℕ, suc, ◌^◌, ◌<◌, ◌≤◌, Bool, true, false, ◌&&◌, List, [], ◌∷◌, ◌++◌, length, arith, length-append}
use Rattle.std.specs.Prelude.{nat_le, IfSome, Option, Some, None, ◌==◌}
use Rattle.std.specs.Option.{ForSome}
use Rattle.std.specs.List.{list_all}
use Rattle.std.proofs.lemmas.List.{append-nil}
use Rattle.std.specs.Int.{w32, w64, to_be_bytes}
use Rattle.std.specs.Str.{is_utf8}
use Rattle.std.proofs.lemmas.Bool.{and_parts, leb-true, ne_eqb}
use Rattle.sn_rows.specs.Bounds.{is_text_of, is_visible, is_device_string, has_device_lengths, before_colon, after_colon, last_stamp}
use Rattle.sn_rows.specs.Cells.{counted, flag_byte, is_undeleted, base_bytes, body_bytes, BodyInForm}
use Rattle.sn_rows.specs.Columns.{value_columns, value_cells, body_of}
use Rattle.sn_rows.proofs.TextLemmas.{colon_parts, device_short}
use Rattle.sn_rows.specs.declared.body.RowBody.{RowBody}
use Rattle.sn_rows.specs.declared.body.RowBody.TheVariants.{Deleted, Sealed}
use Rattle.sn_rows.specs.declared.device_rows.LocalItem.{LocalItem}
use Rattle.sn_rows.specs.Spelling.{Framed}
use Rattle.sn_rows.specs.declared.kind.RowKind.TheVariants as kind
use Rattle.sn_rows.specs.declared.server_rows.StoreRow.{StoreRow}
use Rattle.sn_rows.specs.declared.server_rows.AccountRow.{AccountRow}
use Rattle.sn_rows.specs.declared.server_rows.GenerationRow.{GenerationRow}
use Rattle.sn_rows.specs.declared.server_rows.ItemRow.{ItemRow}
use Rattle.sn_rows.specs.declared.device_rows.OwnerRow.{OwnerRow}
use Rattle.sn_rows.specs.declared.device_rows.SetRow.{SetRow}
use Rattle.sn_rows.specs.declared.value.Value.TheVariants as value

pub text_length : (least most : ℕ) (t : List ℕ) → is_text_of least most t ≡ true → length t ≤ most
text_length least most t e =
    let p = and_parts (is_utf8 t) (nat_le least (length t) && nat_le (length t) most) e in
    let q = and_parts (nat_le least (length t)) (nat_le (length t) most) p.1 in
    leb-true (length t) most q.1

pub store_form : (r : StoreRow) → length r.secret ≡ 32 → r.accounts < 2 ^ 64 → Framed (value_columns kind.Store) (value_cells (value.Store r))
store_form r secret accounts = record {
  each = (secret, (r.last_fits, (accounts, tt)));
  short = omega (arith, secret, length-append r.secret (to_be_bytes w64 r.last ++ (to_be_bytes w64 r.accounts ++ [])));
}

pub account_form : (r : AccountRow) → r.generation < 2 ^ 64 → length r.check ≡ 32 → Framed (value_columns kind.Account) (value_cells (value.Account r))
account_form r generation check =
    let identifier = text_length 1 254 r.identifier r.identifier_fits in
    let rest = to_be_bytes w64 r.generation ++ (r.check ++ []) in
    record {
      each = ((r.identifier_fits, omega arith), (generation, (check, tt)));
      short = omega (arith, identifier, check, length-append (counted r.identifier) rest, length-append (to_be_bytes w32 (length r.identifier)) r.identifier, length-append r.check []);
    }

pub generation_form : (r : GenerationRow) → r.pw_cost < 2 ^ 32 → Framed (value_columns kind.Generation) (value_cells (value.Generation r))
generation_form r cost =
    let nonce = text_length 1 256 r.pw_nonce r.nonce_fits in
    record {
      each = ((r.cost_fits, cost), ((r.nonce_fits, omega arith), tt));
      short = omega (arith, nonce, length-append (counted r.pw_nonce) [], length-append (to_be_bytes w32 (length r.pw_nonce)) r.pw_nonce);
    }

-- a flag of deletion behind two stamps
stands : (kind : List ℕ) (created updated : ℕ) (deleted : Bool) (rest : List ℕ) → (deleted ≡ false → 1 ≤ length kind)
    → ((length kind == 0) && is_undeleted (to_be_bytes w64 created ++ (to_be_bytes w64 updated ++ (flag_byte deleted ∷ rest)))) ≡ false
stands [] created updated false rest h = absurd (omega (arith, h refl))
stands [] created updated true rest h = refl
stands (k ∷ kind) created updated deleted rest h = rw (ne_eqb (suc (length kind)) 0 (λ e. absurd (omega arith))) refl

pub item_form : (r : ItemRow) → r.account < 2 ^ 64 → Framed (value_columns kind.Item) (value_cells (value.Item r))
item_form r account =
    let type = text_length 0 255 r.kind r.kind_fits in
    let content = text_length 0 1048576 r.content r.content_fits in
    let enc = text_length 0 1048576 r.enc r.enc_fits in
    let last = counted r.enc ++ [] in
    let later = counted r.content ++ last in
    let rest = to_be_bytes w64 r.created ++ (to_be_bytes w64 r.updated ++ (flag_byte r.deleted ∷ later)) in
    record {
      each = (
        account,
        (
          (r.kind_fits, omega arith, subst (λ (x : List ℕ). ((length r.kind == 0) && is_undeleted x) ≡ false) (sym (append-nil rest)) (stands r.kind r.created r.updated r.deleted later r.kind_stands)),
          (r.created_fits, (r.updated_fits, (tt, ((r.content_fits, omega arith), ((r.enc_fits, omega arith), tt))))),
        ),
      );
      short = omega (
        arith,
        type,
        content,
        enc,
        length-append (counted r.kind) rest,
        length-append (to_be_bytes w32 (length r.kind)) r.kind,
        length-append (counted r.content) last,
        length-append (to_be_bytes w32 (length r.content)) r.content,
        length-append (counted r.enc) [],
        length-append (to_be_bytes w32 (length r.enc)) r.enc,
      );
    }

pub set_form : (r : SetRow) → r.pw_cost < 2 ^ 32 → length r.pw ≡ 32 → length r.mk ≡ 32 → length r.ak ≡ 32 → Framed (value_columns kind.Set) (value_cells (value.Set r))
set_form r cost pw mk ak =
    let nonce = text_length 1 256 r.pw_nonce r.nonce_fits in
    let keys = r.pw ++ (r.mk ++ (r.ak ++ [])) in
    record {
      each = ((r.cost_fits, cost), ((r.nonce_fits, omega arith), (pw, (mk, (ak, tt)))));
      short = omega (
        arith,
        nonce,
        pw,
        mk,
        ak,
        length-append (counted r.pw_nonce) keys,
        length-append (to_be_bytes w32 (length r.pw_nonce)) r.pw_nonce,
        length-append r.pw (r.mk ++ (r.ak ++ [])),
        length-append r.mk (r.ak ++ []),
        length-append r.ak [],
      );
    }

pub owner_form : (r : OwnerRow) → length r.account ≡ 16 → r.next < 2 ^ 64 → Framed (value_columns kind.Owner) (value_cells (value.Owner r))
owner_form r account next =
    let identifier = text_length 1 254 r.identifier r.identifier_fits in
    let token = text_length 1 1024 r.token (and_parts (is_text_of 1 1024 r.token) (list_all is_visible r.token) r.token_fits).0 in
    let sync = text_length 0 33554432 r.sync_token r.sync_token_fits in
    let cursor = text_length 0 33554432 r.cursor_token r.cursor_token_fits in
    let r4 = to_be_bytes w64 r.next ++ [] in
    let r3 = counted r.cursor_token ++ r4 in
    let r2 = counted r.sync_token ++ r3 in
    let r1 = counted r.token ++ r2 in
    record {
      each = ((r.identifier_fits, omega arith), (account, ((r.token_fits, omega arith), ((r.sync_token_fits, omega arith), ((r.cursor_token_fits, omega arith), (next, tt))))));
      short = omega (
        arith,
        identifier,
        token,
        sync,
        cursor,
        account,
        length-append (counted r.identifier) (r.account ++ r1),
        length-append (to_be_bytes w32 (length r.identifier)) r.identifier,
        length-append r.account r1,
        length-append (counted r.token) r2,
        length-append (to_be_bytes w32 (length r.token)) r.token,
        length-append (counted r.sync_token) r3,
        length-append (to_be_bytes w32 (length r.sync_token)) r.sync_token,
        length-append (counted r.cursor_token) r4,
        length-append (to_be_bytes w32 (length r.cursor_token)) r.cursor_token,
      );
    }

device_length : (t : List ℕ) → is_device_string t ≡ true → length t ≤ 1056769
device_length t e =
    let p = and_parts (is_utf8 t) (has_device_lengths t) e in
    let q = and_parts (nat_le (length (before_colon t)) 1048576) (nat_le (length (after_colon t)) 8192) p.1 in
    omega (arith, colon_parts t, leb-true (length (before_colon t)) 1048576 q.0, leb-true (length (after_colon t)) 8192 q.1)

body_form : (o : Option RowBody) → BodyInForm (body_of o)
body_form None = tt
body_form (Some Deleted) = tt
body_form (Some (Sealed s)) = (s.content_fits, s.enc_fits, device_short s.content s.content_fits, device_short s.enc s.enc_fits)

body_length : (o : Option RowBody) → length (body_bytes (body_of o)) ≤ 2113547
body_length None = omega arith
body_length (Some Deleted) = omega arith
body_length (Some (Sealed s)) =
    omega (
      arith,
      device_length s.content s.content_fits,
      device_length s.enc s.enc_fits,
      length-append (counted s.content) (counted s.enc),
      length-append (to_be_bytes w32 (length s.content)) s.content,
      length-append (to_be_bytes w32 (length s.enc)) s.enc,
    )

base_form : (o : Option ℕ) → ForSome o (λ n. n ≤ last_stamp) → IfSome o (λ n. n ≤ last_stamp)
base_form None h = tt
base_form (Some n) h = h n refl

base_length : (o : Option ℕ) → length (base_bytes o) ≡ 9
base_length None = refl
base_length (Some n) = refl

pub local_form : (r : LocalItem) → length r.uuid ≡ 16 → Framed (value_columns kind.Local) (value_cells (value.Local r))
local_form r uuid =
    let type = text_length 1 255 r.kind r.kind_fits in
    let b4 = body_bytes (body_of r.posted) ++ [] in
    let b3 = body_bytes (body_of r.latest) ++ b4 in
    let b2 = body_bytes (body_of r.body) ++ b3 in
    let b1 = flag_byte r.stale ∷ b2 in
    let b0 = base_bytes r.base ++ b1 in
    record {
      each = (uuid, ((r.kind_fits, omega arith), (base_form r.base r.base_fits, (tt, (body_form r.body, (body_form r.latest, (body_form r.posted, tt)))))));
      short = omega (
        arith,
        uuid,
        type,
        length-append r.uuid (counted r.kind ++ b0),
        length-append (counted r.kind) b0,
        length-append (to_be_bytes w32 (length r.kind)) r.kind,
        length-append (base_bytes r.base) b1,
        base_length r.base,
        length-append (body_bytes (body_of r.body)) b3,
        body_length r.body,
        length-append (body_bytes (body_of r.latest)) b4,
        body_length r.latest,
        length-append (body_bytes (body_of r.posted)) [],
        body_length r.posted,
      );
    }

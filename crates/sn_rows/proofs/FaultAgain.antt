-- Bytes that have a first fault are refused by it.
use Rattle.std.proofs.Common.{◌≡◌, ◌⊎◌, ℕ, zero, suc, ◌+◌, ◌^◌, ◌<◌, ◌≤◌, Bool, true, false, cond, ltb, List, [], ◌∷◌, ◌++◌, length, Option, Some, None, Result, Ok, Err, refl, sym, ap, subst, ◌∙◌, append_assoc, arith, inl, inr, ◌&&◌}
use Rattle.std.specs.Prelude.{IsTrue, nat_le, ◌==◌}
use Rattle.std.specs.Int.{Width, w32, w64, byte_len, from_be_bytes, to_be_bytes}
use Rattle.std.specs.List.{AllByRecursion}
use Rattle.std.proofs.lemmas.Bool.{cases_Bool, cases_lt, le-ltb, leb-true, lt-ltb, ne_eqb}
use Rattle.std.proofs.lemmas.List.{drop_at, length-append, take_at}
use Rattle.std.proofs.lemmas.List.Concat.{flat_map-cons}
use Rattle.sn_rows.specs.Bounds.{last_stamp, is_device_string, is_type_or_empty}
use Rattle.sn_rows.specs.Kinds.{kind_number, kind_of_number}
use Rattle.sn_rows.specs.Cells.{Cell, Column, AllInForm, cell_bytes, cells_bytes, counted, flag_byte, is_undeleted, narrow, wide, plain, text, flag, slot, base, body}
use Rattle.sn_rows.specs.Cells as col
use Rattle.sn_rows.specs.Columns.{key_columns, value_columns}
use Rattle.sn_rows.specs.Spelling.{Entry, EntryInForm, entries_bytes, entry_bytes}
use Rattle.sn_rows.specs.Faults.{Field, FieldInForm, IsByteBelow, IsChangeFault, IsColumnFault, IsColumnsFault, IsFault, IsFieldOfText, IsFirstFault, IsFrameFault, IsLeftOver, IsRefusal}
use Rattle.sn_rows.specs.Faults as field
use Rattle.sn_rows.specs.Reading.{◌>>=◌, Read, Spot, spot, bytes_at, number_at, byte_at, stamp_at, cost_at, text_at, type_at, flag_at, slot_at, base_at, body_at, cell_as, column_at, columns_at, window_at, framed_at, op_at, kind_at, kind_or, entry_at, entries_at, payload_at}
use Rattle.sn_rows.specs.declared.kind.RowKind.{RowKind}
use Rattle.sn_rows.specs.declared.error.RowError.{RowError}
use Rattle.sn_rows.specs.declared.error.RowError.TheVariants as error
use Rattle.sn_rows.proofs.FieldLemmas.{byte_again, bytes_again, flag_again, number_again, text_again, wide32}
use Rattle.sn_rows.proofs.ColumnLemmas.{body_is, column_again, columns_again, entry_again, entry_some, framed_again, kind_again, kind_is, op_again, strings_at}

-- ---- fields

abbrev refused : {A : Type 0} → RowError → Result A RowError
refused e = Err e

number_short : (w : Width) (place : ℕ) (rest : List ℕ) → length rest < byte_len w → number_at w (spot place rest) ≡ Err (error.Short place)
unfolding number_at
number_short w place rest lt = let short : ltb (length rest) (byte_len w) ≡ true = lt-ltb _ _ lt in rw short refl

number_read : (w : Width) (place : ℕ) (bytes behind : List ℕ) → length bytes ≡ byte_len w
    → number_at w (spot place (bytes ++ behind)) ≡ Ok (from_be_bytes w bytes, spot (place + byte_len w) behind)
unfolding number_at
number_read w place bytes behind len =
    let long : ltb (length (bytes ++ behind)) (byte_len w) ≡ false = le-ltb _ _ (omega (arith, length-append bytes behind)) in
    rw (long, take_at bytes behind (byte_len w) len, drop_at bytes behind (byte_len w) len) refl

bytes_short : (count place : ℕ) (rest : List ℕ) → length rest < count → bytes_at count (spot place rest) ≡ Err (error.Short place)
unfolding bytes_at
bytes_short count place rest lt = let short : ltb (length rest) count ≡ true = lt-ltb _ _ lt in rw short refl

byte_short : (place : ℕ) (rest : List ℕ) → length rest < 1 → byte_at (spot place rest) ≡ Err (error.Short place)
unfolding byte_at
byte_short place [] lt = refl
byte_short place (b ∷ rest) lt = absurd (omega arith)

not_le : (n m : ℕ) → (n ≤ m → ⊥) → nat_le n m ≡ false
not_le n m off = elim (cases_Bool (nat_le n m)) [ inl t ↦ absurd (off (leb-true n m t)) | inr f ↦ f ]

is_zero : (n : ℕ) → (1 ≤ n → ⊥) → (n == 0) ≡ true
is_zero zero off = refl
is_zero (suc n) off = absurd (off (omega arith))

off_test : (b : Bool) → (b ≡ true → ⊥) → b ≡ false
off_test true off = absurd (off refl)
off_test false off = refl

one_byte : (bytes : List ℕ) → length bytes ≡ 1 → (b : ℕ) × (bytes ≡ b ∷ [])
one_byte [] len = absurd (omega (arith, len))
one_byte (b ∷ []) len = (b, refl)
one_byte (b ∷ c ∷ bytes) len = absurd (omega (arith, len))

at_least : (limit b : ℕ) (bytes : List ℕ) → bytes ≡ b ∷ [] → (IsByteBelow limit bytes → ⊥) → limit ≤ b
at_least limit b bytes one off = elim (cases_lt b limit) [ inl lt ↦ absurd (off (b, lt, one)) | inr le ↦ le ]

-- a byte that is at fault is missing, or is none of the first
byte_bad : (f : Field) (limit place : ℕ) (rest : List ℕ) (e told : RowError) (A : Type 0) (read : Spot → Result A RowError)
    → (length rest < 1 → read (spot place rest) ≡ Err (error.Short place))
    → ((b : ℕ) (behind : List ℕ) → limit ≤ b → read (spot place (b ∷ behind)) ≡ Err told)
    → ((length rest < 1) × (e ≡ error.Short place)) ⊎ ((bytes : List ℕ) × (behind : List ℕ) × (rest ≡ bytes ++ behind) × (length bytes ≡ 1) × (IsByteBelow limit bytes → ⊥) × (e ≡ told))
    → read (spot place rest) ≡ Err e
byte_bad f limit place rest e told A read short out (inl (lt, is)) = short lt ∙ ap (λ (q : RowError). refused q) (sym is)
byte_bad f limit place rest e told A read short out (inr (bytes, behind, parts, len, off, is)) =
    let one = one_byte bytes len in
    ap (λ (l : List ℕ). read (spot place l)) (parts ∙ ap (λ (l : List ℕ). l ++ behind) one.1) ∙ out one.0 behind (at_least limit one.0 bytes one.1 off)
    ∙ ap (λ (q : RowError). refused q) (sym is)

stamp_bad : (place : ℕ) (rest : List ℕ) (e : RowError) → IsFault field.stamp place rest e → stamp_at (spot place rest) ≡ Err e
unfolding stamp_at
stamp_bad place rest e (inl (lt, is)) = rw (number_short w64 place rest lt) (ap (λ (q : RowError). refused q) (sym is))
stamp_bad place rest e (inr (bytes, behind, parts, len, off, is)) =
    ap (λ (l : List ℕ). number_at w64 (spot place l) >>= λ n. cond (nat_le n.0 last_stamp) (Ok n) (Err (error.Range place))) parts
    ∙ rw (number_read w64 place bytes behind len, not_le (from_be_bytes w64 bytes) last_stamp off) (ap (λ (q : RowError). refused q) (sym is))

cost_bad : (place : ℕ) (rest : List ℕ) (e : RowError) → IsFault field.cost place rest e → cost_at (spot place rest) ≡ Err e
unfolding cost_at
cost_bad place rest e (inl (lt, is)) = rw (number_short w32 place rest lt) (ap (λ (q : RowError). refused q) (sym is))
cost_bad place rest e (inr (bytes, behind, parts, len, off, is)) =
    ap (λ (l : List ℕ). number_at w32 (spot place l) >>= λ n. cond (n.0 == 0) (Err (error.Range place)) (Ok n)) parts
    ∙ rw (number_read w32 place bytes behind len, is_zero (from_be_bytes w32 bytes) off) (ap (λ (q : RowError). refused q) (sym is))

flag_short : (place : ℕ) (rest : List ℕ) → length rest < 1 → flag_at (spot place rest) ≡ Err (error.Short place)
unfolding flag_at
flag_short place rest lt = rw (byte_short place rest lt) refl

flag_out : (place b : ℕ) (behind : List ℕ) → 2 ≤ b → flag_at (spot place (b ∷ behind)) ≡ Err (error.Range place)
unfolding flag_at
flag_out place b behind le = rw (byte_again b place behind, ne_eqb b 0 (λ e. absurd (omega (arith, e))), ne_eqb b 1 (λ e. absurd (omega (arith, e)))) refl

flag_bad : (place : ℕ) (rest : List ℕ) (e : RowError) → IsFault (field.below 2) place rest e → flag_at (spot place rest) ≡ Err e
flag_bad place rest e h = byte_bad (field.below 2) 2 place rest e (error.Range place) _ flag_at (flag_short place rest) (flag_out place) h

slot_short : (place : ℕ) (rest : List ℕ) → length rest < 1 → slot_at (spot place rest) ≡ Err (error.Short place)
unfolding slot_at
slot_short place rest lt = rw (byte_short place rest lt) refl

slot_out : (place b : ℕ) (behind : List ℕ) → 3 ≤ b → slot_at (spot place (b ∷ behind)) ≡ Err (error.Range place)
unfolding slot_at
slot_out place b behind le =
    rw (byte_again b place behind, ne_eqb b 0 (λ e. absurd (omega (arith, e))), ne_eqb b 1 (λ e. absurd (omega (arith, e))), ne_eqb b 2 (λ e. absurd (omega (arith, e)))) refl

slot_bad : (place : ℕ) (rest : List ℕ) (e : RowError) → IsFault (field.below 3) place rest e → slot_at (spot place rest) ≡ Err e
slot_bad place rest e h = byte_bad (field.below 3) 3 place rest e (error.Range place) _ slot_at (slot_short place rest) (slot_out place) h

body_short : (place : ℕ) (rest : List ℕ) → length rest < 1 → body_at (spot place rest) ≡ Err (error.Short place)
body_short place rest lt = body_is (spot place rest) ∙ rw (byte_short place rest lt) refl

body_out : (place b : ℕ) (behind : List ℕ) → 3 ≤ b → body_at (spot place (b ∷ behind)) ≡ Err (error.Range place)
body_out place b behind le =
    body_is (spot place (b ∷ behind))
    ∙ rw (byte_again b place behind, ne_eqb b 0 (λ e. absurd (omega (arith, e))), ne_eqb b 1 (λ e. absurd (omega (arith, e))), ne_eqb b 2 (λ e. absurd (omega (arith, e)))) refl

op_short : (place : ℕ) (rest : List ℕ) → length rest < 1 → op_at (spot place rest) ≡ Err (error.Short place)
unfolding op_at
op_short place rest lt = rw (byte_short place rest lt) refl

op_out : (place b : ℕ) (behind : List ℕ) → 2 ≤ b → op_at (spot place (b ∷ behind)) ≡ Err (error.Kind place)
unfolding op_at
op_out place b behind le = rw (byte_again b place behind, ne_eqb b 0 (λ e. absurd (omega (arith, e))), ne_eqb b 1 (λ e. absurd (omega (arith, e)))) refl

op_bad : (place : ℕ) (rest : List ℕ) (e : RowError) → IsFault field.op place rest e → op_at (spot place rest) ≡ Err e
op_bad place rest e h = byte_bad field.op 2 place rest e (error.Kind place) _ op_at (op_short place rest) (op_out place) h

no_kind : (b : ℕ) (o : Option RowKind) → kind_of_number b ≡ o → ((k : RowKind) → b ∷ [] ≡ kind_number k ∷ [] → ⊥) → kind_of_number b ≡ None
no_kind b None e off = e
no_kind b (Some k) e off = absurd (off k (ap (λ (n : ℕ). n ∷ []) (sym (kind_is b k e))))

kind_bad : (place : ℕ) (rest : List ℕ) (e : RowError) → IsFault field.kind place rest e → kind_at (spot place rest) ≡ Err e
unfolding kind_at
kind_bad place rest e (inl (lt, is)) = rw (byte_short place rest lt) (ap (λ (q : RowError). refused q) (sym is))
kind_bad place rest e (inr (bytes, behind, parts, len, off, is)) =
    let one = one_byte bytes len in
    let none : kind_of_number one.0 ≡ None = no_kind one.0 (kind_of_number one.0) refl (λ k same. off (k, one.1 ∙ same)) in
    ap (λ (l : List ℕ). byte_at (spot place l) >>= λ b. kind_or (kind_of_number b.0) (spot place l) b.1) (parts ∙ ap (λ (l : List ℕ). l ++ behind) one.1)
    ∙ rw (byte_again one.0 place behind, none) (ap (λ (q : RowError). refused q) (sym is))

-- ---- texts

size_bad : (place : ℕ) (rest : List ℕ) (e : RowError) → IsFault field.size place rest e → number_at w32 (spot place rest) ≡ Err e
size_bad place rest e (inl (lt, is)) = number_short w32 place rest lt ∙ ap (λ (q : RowError). refused q) (sym is)
size_bad place rest e (inr (bytes, behind, parts, len, off, is)) = absurd (off tt)

-- the first field of a text is at fault
size_fault : (place : ℕ) (front more : List ℕ) (own : Field) (e : RowError) → front ≡ [] → own ≡ field.size → IsFault own (place + length front) more e
    → number_at w32 (spot place (front ++ more)) ≡ Err e
size_fault place front more own e none is fault =
    ap (λ (l : List ℕ). number_at w32 (spot place (l ++ more))) none
    ∙ size_bad place more e (subst (λ (p : ℕ). IsFault field.size p more e) (omega (arith, ap length none)) (subst (λ (f : Field). IsFault f (place + length front) more e) is fault))

-- and the second one
bytes_fault : (text_bytes : ℕ → Field) (n place : ℕ) (front more : List ℕ) (own : Field) (e : RowError) → front ≡ to_be_bytes w32 n → own ≡ text_bytes n
    → IsFault own (place + length front) more e → IsFault (text_bytes n) (place + 4) more e
bytes_fault text_bytes n place front more own e front_is is fault =
    subst (λ (p : ℕ). IsFault (text_bytes n) p more e) (ap (λ (l : List ℕ). place + length l) front_is) (subst (λ (f : Field). IsFault f (place + length front) more e) is fault)

text_bad : (test : List ℕ → Bool) (n place : ℕ) (more : List ℕ) (e : RowError) → n < 2 ^ 32 → IsFault (field.text test n) (place + 4) more e
    → text_at test (spot place (to_be_bytes w32 n ++ more)) ≡ Err e
unfolding text_at
text_bad test n place more e lt (inl (short, is)) =
    rw (number_again w32 (2 ^ 32) wide32 n place more lt, bytes_short n (place + 4) more short) (ap (λ (q : RowError). refused q) (sym is))
text_bad test n place more e lt (inr (bytes, behind, parts, len, off, is)) =
    rw (number_again w32 (2 ^ 32) wide32 n place more lt, parts, bytes_again bytes n (place + 4) behind len, off_test (test bytes) off) (ap (λ (q : RowError). refused q) (sym is))

text_so : (test : List ℕ → Bool) (place : ℕ) (front more : List ℕ) (own : Field) (e : RowError) → IsFieldOfText (field.text test) front own → IsFault own (place + length front) more e
    → text_at test (spot place (front ++ more)) ≡ Err e
unfolding text_at
text_so test place front more own e (inl (none, is)) fault =
    ap (λ (r : Read ℕ). r >>= λ n. bytes_at n.0 n.1 >>= λ t. cond (test t.0) (Ok t) (Err (error.Range n.1.place))) (size_fault place front more own e none is fault)
text_so test place front more own e (inr (n, lt, front_is, is)) fault =
    ap (λ (l : List ℕ). text_at test (spot place (l ++ more))) front_is ∙ text_bad test n place more e lt (bytes_fault (field.text test) n place front more own e front_is is fault)

type_bad : (n place : ℕ) (more : List ℕ) (e : RowError) → n < 2 ^ 32 → IsFault (field.item_type n) (place + 4) more e
    → type_at (spot place (to_be_bytes w32 n ++ more)) ≡ Err e
unfolding type_at
type_bad n place more e lt (inl (short, is)) =
    rw (number_again w32 (2 ^ 32) wide32 n place more lt, bytes_short n (place + 4) more short) (ap (λ (q : RowError). refused q) (sym is))
type_bad n place more e lt (inr (bytes, behind, parts, len, off, is)) =
    let told : refused {A = List ℕ × Spot} (error.Range (place + 4)) ≡ Err e = ap (λ (q : RowError). refused q) (sym is) in
    elim (cases_Bool (is_type_or_empty bytes)) [
      | inl on ↦ (
          let both : ((length bytes == 0) && is_undeleted behind) ≡ true = is_on ((length bytes == 0) && is_undeleted behind) (λ f. off (on, f)) in
          rw (number_again w32 (2 ^ 32) wide32 n place more lt, parts, bytes_again bytes n (place + 4) behind len, on, both) told)
      | inr out ↦ rw (number_again w32 (2 ^ 32) wide32 n place more lt, parts, bytes_again bytes n (place + 4) behind len, out) told
    ]
  where
    is_on : (b : Bool) → (b ≡ false → ⊥) → b ≡ true
    is_on true h = refl
    is_on false h = absurd (h refl)

type_so : (place : ℕ) (front more : List ℕ) (own : Field) (e : RowError) → IsFieldOfText field.item_type front own → IsFault own (place + length front) more e
    → type_at (spot place (front ++ more)) ≡ Err e
unfolding type_at
type_so place front more own e (inl (none, is)) fault =
    ap (λ (r : Read ℕ). r >>= λ n. bytes_at n.0 n.1 >>= λ t. cond (is_type_or_empty t.0) (cond ((length t.0 == 0) && is_undeleted t.1.rest) (Err (error.Range n.1.place)) (Ok t)) (Err (error.Range n.1.place)))
    (size_fault place front more own e none is fault)
type_so place front more own e (inr (n, lt, front_is, is)) fault =
    ap (λ (l : List ℕ). type_at (spot place (l ++ more))) front_is ∙ type_bad n place more e lt (bytes_fault field.item_type n place front more own e front_is is fault)

-- ---- bases and bodies

none_bad : (place : ℕ) (rest : List ℕ) (e : RowError) → IsFault field.no_stamp (place + 1) rest e → base_at (spot place (0 ∷ rest)) ≡ Err e
unfolding base_at stamp_at
none_bad place rest e (inl (lt, is)) = rw (flag_again false place rest, number_short w64 (place + 1) rest lt) (ap (λ (q : RowError). refused q) (sym is))
none_bad place rest e (inr (bytes, behind, parts, len, off, is)) =
    let told : refused {A = Option ℕ × Spot} (error.Range (place + 1)) ≡ Err e = ap (λ (q : RowError). refused q) (sym is) in
    elim (cases_Bool (nat_le (from_be_bytes w64 bytes) last_stamp)) [
      | inl on ↦ rw (flag_again false place rest, parts, number_read w64 (place + 1) bytes behind len, on, ne_eqb (from_be_bytes w64 bytes) 0 off) told
      | inr out ↦ rw (flag_again false place rest, parts, number_read w64 (place + 1) bytes behind len, out) told
    ]

some_bad : (place : ℕ) (rest : List ℕ) (e : RowError) → IsFault field.stamp (place + 1) rest e → base_at (spot place (1 ∷ rest)) ≡ Err e
unfolding base_at
some_bad place rest e fault = rw (flag_again true place rest, stamp_bad (place + 1) rest e fault) refl

base_flag_bad : (place : ℕ) (rest : List ℕ) (e : RowError) → IsFault (field.below 2) place rest e → base_at (spot place rest) ≡ Err e
unfolding base_at
base_flag_bad place rest e fault = rw (flag_bad place rest e fault) refl

content_bad : (place : ℕ) (part more : List ℕ) (own : Field) (e : RowError) → IsFieldOfText (field.text is_device_string) part own → IsFault own ((place + 1) + length part) more e
    → body_at (spot place (2 ∷ (part ++ more))) ≡ Err e
unfolding strings_at
content_bad place part more own e of fault =
    body_is (spot place (2 ∷ (part ++ more))) ∙ rw (byte_again 2 place (part ++ more), text_so is_device_string (place + 1) part more own e of fault) refl

enc_bad : (place : ℕ) (content part more : List ℕ) (own : Field) (e : RowError) → IsTrue (is_device_string content) → length content < 2 ^ 32
    → IsFieldOfText (field.text is_device_string) part own → IsFault own ((((place + 1) + 4) + length content) + length part) more e
    → body_at (spot place (2 ∷ (counted content ++ (part ++ more)))) ≡ Err e
unfolding strings_at
enc_bad place content part more own e passes short of fault =
    body_is (spot place (2 ∷ (counted content ++ (part ++ more))))
    ∙ rw (byte_again 2 place (counted content ++ (part ++ more)), text_again is_device_string content (place + 1) (part ++ more) passes short, text_so is_device_string (((place + 1) + 4) + length content) part more own e of fault) refl

-- ---- columns

-- the first field of a column is at fault
at_front : (own : Field) (place : ℕ) (bytes front more : List ℕ) (f : Field) (e : RowError) → front ≡ [] → f ≡ own → bytes ≡ front ++ more → IsFault f (place + length front) more e
    → IsFault own place bytes e
at_front own place bytes front more f e none is parts fault =
    let whole : more ≡ bytes = sym (parts ∙ ap (λ (l : List ℕ). l ++ more) none) in
    subst (λ (l : List ℕ). IsFault own place l e) whole
    (subst (λ (p : ℕ). IsFault own p more e) (omega (arith, ap length none)) (subst (λ (q : Field). IsFault q (place + length front) more e) is fault))

-- a field behind these bytes is
behind_front : (own : Field) (place at : ℕ) (front known more : List ℕ) (f : Field) (e : RowError) → front ≡ known → f ≡ own → place + length known ≡ at
    → IsFault f (place + length front) more e → IsFault own at more e
behind_front own place at front known more f e same is there fault =
    subst (λ (p : ℕ). IsFault own p more e) (ap (λ (l : List ℕ). place + length l) same ∙ there) (subst (λ (q : Field). IsFault q (place + length front) more e) is fault)

base_so : (place : ℕ) (bytes : List ℕ) (e : RowError) → IsColumnFault col.base_stamp place bytes e → base_at (spot place bytes) ≡ Err e
base_so place bytes e f = by_field f.is_field
  where
    by_field : ((f.front ≡ []) × (f.field ≡ field.below 2)) ⊎ (((f.front ≡ 1 ∷ []) × (f.field ≡ field.stamp)) ⊎ ((f.front ≡ 0 ∷ []) × (f.field ≡ field.no_stamp)))
        → base_at (spot place bytes) ≡ Err e
    by_field (inl (none, is)) = base_flag_bad place bytes e (at_front (field.below 2) place bytes f.front f.more f.field e none is f.parts f.fault)
    by_field (inr (inl (one, is))) =
        ap (λ (l : List ℕ). base_at (spot place l)) (f.parts ∙ ap (λ (l : List ℕ). l ++ f.more) one)
        ∙ some_bad place f.more e (behind_front field.stamp place (place + 1) f.front (1 ∷ []) f.more f.field e one is (omega arith) f.fault)
    by_field (inr (inr (one, is))) =
        ap (λ (l : List ℕ). base_at (spot place l)) (f.parts ∙ ap (λ (l : List ℕ). l ++ f.more) one)
        ∙ none_bad place f.more e (behind_front field.no_stamp place (place + 1) f.front (0 ∷ []) f.more f.field e one is (omega arith) f.fault)

body_so : (place : ℕ) (bytes : List ℕ) (e : RowError) → IsColumnFault col.version place bytes e → body_at (spot place bytes) ≡ Err e
body_so place bytes e f = by_field f.is_field
  where
    by_field : ((f.front ≡ []) × (f.field ≡ field.below 3))
        ⊎ (((part : List ℕ) × (f.front ≡ 2 ∷ part) × IsFieldOfText (field.text is_device_string) part f.field)
        ⊎ ((content : List ℕ) × (part : List ℕ) × (f.front ≡ 2 ∷ (counted content ++ part)) × IsTrue (is_device_string content) × (length content < 2 ^ 32)
        × IsFieldOfText (field.text is_device_string) part f.field))
        → body_at (spot place bytes) ≡ Err e
    by_field (inl (none, is)) =
        byte_bad (field.below 3) 3 place bytes e (error.Range place) _ body_at (body_short place bytes) (body_out place) (at_front (field.below 3) place bytes f.front f.more f.field e none is f.parts f.fault)
    by_field (inr (inl (part, front_is, of))) =
        ap (λ (l : List ℕ). body_at (spot place l)) (f.parts ∙ ap (λ (l : List ℕ). l ++ f.more) front_is)
        ∙ content_bad place part f.more f.field e of (behind_front f.field place ((place + 1) + length part) f.front (2 ∷ part) f.more f.field e front_is refl (omega arith) f.fault)
    by_field (inr (inr (content, part, front_is, passes, short, of))) =
        ap (λ (l : List ℕ). body_at (spot place l))
        (f.parts ∙ ap (λ (l : List ℕ). l ++ f.more) front_is ∙ ap (λ (l : List ℕ). 2 ∷ l) (append_assoc (counted content) part f.more))
        ∙ enc_bad place content part f.more f.field e passes short of
        (behind_front f.field place ((((place + 1) + 4) + length content) + length part) f.front (2 ∷ (counted content ++ part)) f.more f.field e front_is refl
        (omega (arith, length-append (counted content) part, length-append (to_be_bytes w32 (length content)) content)) f.fault)

-- a number, or bytes, can only be missing
number_bad : (place : ℕ) (rest : List ℕ) (e : RowError) → IsFault field.number place rest e → number_at w64 (spot place rest) ≡ Err e
number_bad place rest e (inl (lt, is)) = number_short w64 place rest lt ∙ ap (λ (q : RowError). refused q) (sym is)
number_bad place rest e (inr (bytes, behind, parts, len, off, is)) = absurd (off tt)

fixed_bad : (count place : ℕ) (rest : List ℕ) (e : RowError) → IsFault (field.fixed count) place rest e → bytes_at count (spot place rest) ≡ Err e
fixed_bad count place rest e (inl (lt, is)) = bytes_short count place rest lt ∙ ap (λ (q : RowError). refused q) (sym is)
fixed_bad count place rest e (inr (bytes, behind, parts, len, off, is)) = absurd (off tt)

column_so : (c : Column) (place : ℕ) (bytes : List ℕ) (e : RowError) → IsColumnFault c place bytes e → column_at c (spot place bytes) ≡ Err e
column_so col.number place bytes e f = ap (cell_as wide) (number_bad place bytes e (at_front field.number place bytes f.front f.more f.field e f.is_field.0 f.is_field.1 f.parts f.fault))
column_so col.stamp place bytes e f = ap (cell_as wide) (stamp_bad place bytes e (at_front field.stamp place bytes f.front f.more f.field e f.is_field.0 f.is_field.1 f.parts f.fault))
column_so col.cost place bytes e f = ap (cell_as narrow) (cost_bad place bytes e (at_front field.cost place bytes f.front f.more f.field e f.is_field.0 f.is_field.1 f.parts f.fault))
column_so (col.fixed count) place bytes e f = ap (cell_as plain) (fixed_bad count place bytes e (at_front (field.fixed count) place bytes f.front f.more f.field e f.is_field.0 f.is_field.1 f.parts f.fault))
column_so (col.text_that test) place bytes e f = ap (λ (l : List ℕ). column_at (col.text_that test) (spot place l)) f.parts ∙ ap (cell_as text) (text_so test place f.front f.more f.field e f.is_field f.fault)
column_so col.item_type place bytes e f = ap (λ (l : List ℕ). column_at col.item_type (spot place l)) f.parts ∙ ap (cell_as text) (type_so place f.front f.more f.field e f.is_field f.fault)
column_so col.yes_or_no place bytes e f = ap (cell_as flag) (flag_bad place bytes e (at_front (field.below 2) place bytes f.front f.more f.field e f.is_field.0 f.is_field.1 f.parts f.fault))
column_so col.which_set place bytes e f = ap (cell_as slot) (slot_bad place bytes e (at_front (field.below 3) place bytes f.front f.more f.field e f.is_field.0 f.is_field.1 f.parts f.fault))
column_so col.base_stamp place bytes e f = ap (cell_as base) (base_so place bytes e f)
column_so col.version place bytes e f = ap (cell_as body) (body_so place bytes e f)

columns_bad : (before : List Column) (cells : List Cell) (c : Column) (after : List Column) (place : ℕ) (more : List ℕ) (e : RowError) → AllInForm before cells more
    → IsColumnFault c (place + length (cells_bytes cells)) more e → columns_at (before ++ c ∷ after) (spot place (cells_bytes cells ++ more)) ≡ Err e
columns_bad [] [] c after place more e form fault =
    let here : column_at c (spot place more) ≡ Err e = column_so c place more e (subst (λ (p : ℕ). IsColumnFault c p more e) (omega arith) fault) in
    rw here refl
columns_bad (b ∷ before) (x ∷ xs) c after place more e form fault =
    let one = column_again b x place (cells_bytes xs ++ more) form.0 in
    let others : columns_at (before ++ c ∷ after) (spot one.0 (cells_bytes xs ++ more)) ≡ Err e =
    columns_bad before xs c after one.0 more e form.1 (subst (λ (p : ℕ). IsColumnFault c p more e) (omega (arith, one.2, length-append (cell_bytes x) (cells_bytes xs))) fault) in
    rw (append_assoc (cell_bytes x) (cells_bytes xs) more, one.1, others) refl
columns_bad before cells c after place more e form fault = absurd form

columns_so : (cs : List Column) (place : ℕ) (bytes : List ℕ) (e : RowError) → IsColumnsFault cs place bytes e → columns_at cs (spot place bytes) ≡ Err e
columns_so cs place bytes e f =
    ap (λ (l : List ℕ). columns_at cs (spot place l)) f.parts
    ∙ ap (λ (l : List Column). columns_at l (spot place (cells_bytes f.cells ++ f.more))) f.columns_are
    ∙ columns_bad f.before f.cells f.column f.after place f.more e f.in_form f.fault

-- ---- keys, values, changes and lists of them

abbrev frame_end : Spot → (List Cell × Spot) → Read (List Cell)
frame_end after cells = cond (length cells.1.rest == 0) (Ok (cells.0, after)) (Err (error.Extra cells.1.place))

inner_so : (cs : List Column) (place : ℕ) (inner : List ℕ) (after : Spot) (e : RowError) → IsColumnsFault cs place inner e ⊎ IsLeftOver cs place inner e
    → (columns_at cs (spot place inner) >>= frame_end after) ≡ Err e
inner_so cs place inner after e (inl f) = ap (λ (r : Read (List Cell)). r >>= frame_end after) (columns_so cs place inner e f)
inner_so cs place inner after e (inr f) =
    let read = columns_again cs f.cells place f.more f.in_form in
    let some : (length f.more == 0) ≡ false = ne_eqb (length f.more) 0 (λ z. absurd (omega (arith, z, f.some))) in
    ap (λ (l : List ℕ). columns_at cs (spot place l) >>= frame_end after) f.parts
    ∙ rw (read.1, some) (ap (λ (q : RowError). refused q) (ap error.Extra read.2 ∙ sym f.error_is))

framed_so : (cs : List Column) (place : ℕ) (bytes : List ℕ) (e : RowError) → IsFrameFault cs place bytes e → framed_at cs (spot place bytes) ≡ Err e
unfolding framed_at window_at
framed_so cs place bytes e (inl fault) = rw (size_bad place bytes e fault) refl
framed_so cs place bytes e (inr (inl (n, more, lt, parts, inl (short, is)))) =
    rw (parts, number_again w32 (2 ^ 32) wide32 n place more lt, bytes_short n (place + 4) more short) (ap (λ (q : RowError). refused q) (sym is))
framed_so cs place bytes e (inr (inl (n, more, lt, parts, inr (front, behind, split, len, off, is)))) = absurd (off tt)
framed_so cs place bytes e (inr (inr (inner, more, lt, parts, fault))) =
    rw (parts, append_assoc (to_be_bytes w32 (length inner)) inner more, number_again w32 (2 ^ 32) wide32 (length inner) place (inner ++ more) lt, bytes_again inner (length inner) (place + 4) more refl)
    (inner_so cs (place + 4) inner (spot ((place + 4) + length inner) more) e fault)

entry_so : (place : ℕ) (bytes : List ℕ) (e : RowError) → IsChangeFault place bytes e → entry_at (spot place bytes) ≡ Err e
unfolding entry_at
entry_so place bytes e (inl fault) = rw (op_bad place bytes e fault) refl
entry_so place bytes e (inr (inl (b, more, parts, fault))) = rw (parts, op_again b place more, kind_bad (place + 1) more e fault) refl
entry_so place bytes e (inr (inr (inl (b, k, more, parts, fault)))) =
    let key : framed_at (key_columns k) (spot ((place + 1) + 1) more) ≡ Err e = framed_so (key_columns k) ((place + 1) + 1) more e (subst (λ (p : ℕ). IsFrameFault (key_columns k) p more e) (omega arith) fault) in
    rw (parts, op_again b place (kind_number k ∷ more), kind_again k (place + 1) more, key) refl
entry_so place bytes e (inr (inr (inr (k, key, more, parts, form, fault)))) =
    let read = framed_again (key_columns k) key ((place + 1) + 1) more form in
    let value : framed_at (value_columns k) (spot read.0 more) ≡ Err e = framed_so (value_columns k) read.0 more e (subst (λ (p : ℕ). IsFrameFault (value_columns k) p more e) (omega (arith, read.2)) fault) in
    rw (parts, op_again true place (kind_number k ∷ (counted (cells_bytes key) ++ more)), kind_again k (place + 1) (counted (cells_bytes key) ++ more), read.1, value) refl

entries_so : (changes : List Entry) (n place : ℕ) (more : List ℕ) (e : RowError) → length (entries_bytes changes ++ more) ≤ n → AllByRecursion EntryInForm changes → 0 < length more
    → IsChangeFault (place + length (entries_bytes changes)) more e → entries_at n (spot place (entries_bytes changes ++ more)) ≡ Err e
unfolding entries_at
entries_so [] zero place more e le form some fault = absurd (omega (arith, some, le))
entries_so [] (suc n) place more e le form some fault =
    let here : entry_at (spot place more) ≡ Err e = entry_so place more e (subst (λ (p : ℕ). IsChangeFault p more e) (omega arith) fault) in
    let left : (length more == 0) ≡ false = ne_eqb (length more) 0 (λ z. absurd (omega (arith, z, some))) in
    rw (left, here) refl
entries_so (x ∷ xs) zero place more e le form some fault = absurd (omega (arith, some, le, length-append (entries_bytes (x ∷ xs)) more))
entries_so (x ∷ xs) (suc n) place more e le form some fault =
    let whole : entries_bytes (x ∷ xs) ≡ entry_bytes x ++ entries_bytes xs = flat_map-cons entry_bytes x xs in
    let split : entries_bytes (x ∷ xs) ++ more ≡ entry_bytes x ++ (entries_bytes xs ++ more) = ap (λ (l : List ℕ). l ++ more) whole ∙ append_assoc (entry_bytes x) (entries_bytes xs) more in
    let len = length-append (entry_bytes x) (entries_bytes xs ++ more) in
    let one = entry_again x place (entries_bytes xs ++ more) form.0 in
    let others : entries_at n (spot one.0 (entries_bytes xs ++ more)) ≡ Err e =
    entries_so xs n one.0 more e (omega (arith, le, ap length split, len, entry_some x)) form.1 some
    (subst (λ (p : ℕ). IsChangeFault p more e) (omega (arith, one.2, ap length whole, length-append (entry_bytes x) (entries_bytes xs))) fault) in
    let left : (length (entry_bytes x ++ (entries_bytes xs ++ more)) == 0) ≡ false = ne_eqb _ 0 (λ z. absurd (omega (arith, z, len, entry_some x))) in
    ap (λ (l : List ℕ). entries_at (suc n) (spot place l)) split ∙ rw (left, one.1, others) refl

payload_so : (bytes : List ℕ) (e : RowError) → IsFirstFault bytes e → payload_at bytes ≡ Err e
payload_so bytes e f =
    let size : length (entries_bytes f.changes ++ f.more) ≤ length bytes = omega (arith, ap length f.parts) in
    ap (λ (l : List ℕ). entries_at (length bytes) (spot 0 l)) f.parts
    ∙ entries_so f.changes (length bytes) 0 f.more e size f.in_form f.some (subst (λ (p : ℕ). IsChangeFault p f.more e) (omega arith) f.fault)

-- bytes that may be refused so are refused so, or memory is wanting
pub refusal_so : (bytes : List ℕ) (e : RowError) → IsRefusal bytes e → (e ≡ error.Memory) ⊎ (payload_at bytes ≡ Err e)
refusal_so bytes error.Memory h = inl refl
refusal_so bytes (error.Short p) h = inr (payload_so bytes (error.Short p) h)
refusal_so bytes (error.Kind p) h = inr (payload_so bytes (error.Kind p) h)
refusal_so bytes (error.Range p) h = inr (payload_so bytes (error.Range p) h)
refusal_so bytes (error.Extra p) h = inr (payload_so bytes (error.Extra p) h)

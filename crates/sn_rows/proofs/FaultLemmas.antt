-- Where reading fails, it fails at the first field that is at fault.
use Rattle.std.proofs.Common.{◌≡◌, ◌⊎◌, ℕ, ◌+◌, ◌^◌, ◌<◌, ◌≤◌, Bool, true, false, cond, ltb, List, [], ◌∷◌, ◌++◌, length, Option, Some, None, Result, Ok, Err, refl, sym, ap, subst, ◌∙◌, append_assoc, arith, inl, inr, ◌&&◌}
use Rattle.std.specs.Prelude.{nat_le, ◌==◌}
use Rattle.std.specs.Int.{Width, w32, w64, byte_len, from_be_bytes, to_be_bytes}
use Rattle.std.proofs.lemmas.Bool.{ltb-true, le-leb, eqb-true, eqb-false}
use Rattle.std.proofs.lemmas.List.{length-append}
use Rattle.sn_rows.specs.Bounds.{last_stamp, is_device_string, is_type_or_empty}
use Rattle.sn_rows.specs.Cells.{Body, Cell, narrow, wide, plain, text, flag, slot, base, body, Column, AllInForm, InForm, cell_bytes, cells_bytes, counted, flag_byte, is_undeleted}
use Rattle.sn_rows.specs.Cells as col
use Rattle.sn_rows.specs.Faults.{Field, FieldInForm, IsFault, IsFieldOf, IsFieldOfText, IsColumnFault, IsColumnsFault, IsLeftOver, IsFrameFault, field_size, out_of_form}
use Rattle.sn_rows.specs.Faults as field
use Rattle.sn_rows.specs.Reading.{◌>>=◌, Read, Spot, bytes_at, number_at, byte_at, stamp_at, cost_at, text_at, type_at, flag_at, slot_at, base_at, body_at, cell_as, column_at, columns_at}
use Rattle.sn_rows.specs.declared.key.Slot.TheVariants.{Present, Older, Asked}
use Rattle.sn_rows.specs.declared.error.RowError.{RowError}
use Rattle.sn_rows.specs.declared.error.RowError.TheVariants as error
use Rattle.sn_rows.proofs.FieldLemmas.{IsBytes, Takes, bytes_take, byte_takes, chosen, flag_takes, number_takes, stamp_takes, text_takes, wide32, wide64}
use Rattle.sn_rows.proofs.ColumnLemmas.{body_is, column_takes, strings_at}

-- ---- steps that fail

err_is : {A : Type 0} (c d : RowError) → (let x : Result A RowError = Err c in x) ≡ Err d → c ≡ d
err_is c d e = cc

pub bind_err : {A B : Type 0} (r : Result A RowError) (f : A → Result B RowError) (d : RowError) → (r >>= f) ≡ Err d → (r ≡ Err d) ⊎ ((x : A) × (r ≡ Ok x) × (f x ≡ Err d))
bind_err (Ok x) f d e = inr (x, refl, e)
bind_err (Err c) f d e = let same : c ≡ d = cc in inl (ap (λ (q : RowError). Err q) same)

-- a test that failed
pub guard_err : {A : Type 0} (b : Bool) (c d : RowError) (x : A) → cond b (Err c) (Ok x) ≡ Err d → (b ≡ true) × (d ≡ c)
guard_err true c d x e = (refl, let same : c ≡ d = cc in sym same)
guard_err false c d x e = absurd cc

pub passed_err : {A : Type 0} (b : Bool) (c d : RowError) (x : A) → cond b (Ok x) (Err c) ≡ Err d → (b ≡ false) × (d ≡ c)
passed_err true c d x e = absurd cc
passed_err false c d x e = (refl, let same : c ≡ d = cc in sym same)

-- ---- fields

pub fault_short : (f : Field) (place : ℕ) (rest : List ℕ) (e : RowError) → length rest < field_size f → e ≡ error.Short place → IsFault f place rest e
fault_short f place rest e lt is = inl (lt, is)

pub fault_out : (f : Field) (place : ℕ) (rest bytes behind : List ℕ) (e : RowError) → rest ≡ bytes ++ behind → length bytes ≡ field_size f
    → (FieldInForm f bytes behind → ⊥) → e ≡ out_of_form f place → IsFault f place rest e
fault_out f place rest bytes behind e parts len off is = inr (bytes, behind, parts, len, off, is)

pub number_fails : (w : Width) (s : Spot) (e : RowError) → number_at w s ≡ Err e → (length s.rest < byte_len w) × (e ≡ error.Short s.place)
unfolding number_at
number_fails w s e h =
    let g = guard_err (ltb (length s.rest) (byte_len w)) (error.Short s.place) e _ h in
    (ltb-true (length s.rest) (byte_len w) g.0, g.1)

pub bytes_fail : (count : ℕ) (s : Spot) (e : RowError) → bytes_at count s ≡ Err e → (length s.rest < count) × (e ≡ error.Short s.place)
unfolding bytes_at
bytes_fail count s e h =
    let g = guard_err (ltb (length s.rest) count) (error.Short s.place) e _ h in
    (ltb-true (length s.rest) count g.0, g.1)

pub byte_fails : (s : Spot) (e : RowError) → byte_at s ≡ Err e → (length s.rest < 1) × (e ≡ error.Short s.place)
unfolding byte_at
byte_fails s e h =
    let g = guard_err (length s.rest == 0) (error.Short s.place) e _ h in
    let none : length s.rest ≡ 0 = eqb-true (length s.rest) 0 g.0 in
    (omega arith, g.1)

pub stamp_fails : (s : Spot) (e : RowError) → IsBytes s.rest → stamp_at s ≡ Err e → IsFault field.stamp s.place s.rest e
unfolding stamp_at
stamp_fails s e fits h = elim (bind_err (number_at w64 s) (λ n. cond (nat_le n.0 last_stamp) (Ok n) (Err (error.Range s.place))) e h) [
  | inl short ↦ (let p = number_fails w64 s e short in fault_short field.stamp s.place s.rest e p.0 p.1)
  | inr read ↦ (
      let n = read.0 in
      let g = passed_err (nat_le n.0 last_stamp) (error.Range s.place) e n read.2 in
      let t = number_takes w64 (2 ^ 64) wide64 s n fits read.1 in
      fault_out field.stamp s.place s.rest (to_be_bytes w64 n.0) n.1.rest e t.0.parts (wide64.len n.0)
      (λ form. past_last n.0 (from_be_bytes w64 (to_be_bytes w64 n.0)) g.0 form (sym (wide64.again n.0 t.1))) g.1)
]
  where
    past_last : (n m : ℕ) → nat_le n last_stamp ≡ false → m ≤ last_stamp → n ≡ m → ⊥
    past_last n m off le same = let on : nat_le n last_stamp ≡ true = le-leb n last_stamp (omega arith) in absurd cc

pub cost_fails : (s : Spot) (e : RowError) → IsBytes s.rest → cost_at s ≡ Err e → IsFault field.cost s.place s.rest e
unfolding cost_at
cost_fails s e fits h = elim (bind_err (number_at w32 s) (λ n. cond (n.0 == 0) (Err (error.Range s.place)) (Ok n)) e h) [
  | inl short ↦ (let p = number_fails w32 s e short in fault_short field.cost s.place s.rest e p.0 p.1)
  | inr read ↦ (
      let n = read.0 in
      let g = guard_err (n.0 == 0) (error.Range s.place) e n read.2 in
      let t = number_takes w32 (2 ^ 32) wide32 s n fits read.1 in
      let none : n.0 ≡ 0 = eqb-true n.0 0 g.0 in
      fault_out field.cost s.place s.rest (to_be_bytes w32 n.0) n.1.rest e t.0.parts (wide32.len n.0)
      (λ form. absurd (omega (arith, form, wide32.again n.0 t.1, none))) g.1)
]

-- one byte that is none of the first numbers
pub byte_out : (limit b : ℕ) → ((c : ℕ) → c < limit → b ≡ c → ⊥) → FieldInForm (field.below limit) (b ∷ []) [] → ⊥
byte_out limit b off form = let same : b ≡ form.0 = cc in off form.0 form.1 same

pub flag_fails : (s : Spot) (e : RowError) → IsBytes s.rest → flag_at s ≡ Err e → IsFault (field.below 2) s.place s.rest e
unfolding flag_at
flag_fails s e fits h = elim (bind_err (byte_at s) (λ b. cond (b.0 == 0) (Ok (false, b.1)) (cond (b.0 == 1) (Ok (true, b.1)) (Err (error.Range s.place)))) e h) [
  | inl short ↦ (let p = byte_fails s e short in fault_short (field.below 2) s.place s.rest e p.0 p.1)
  | inr read ↦ elim (chosen (read.0.0 == 0) (Ok (false, read.0.1)) (cond (read.0.0 == 1) (Ok (true, read.0.1)) (Err (error.Range s.place))) (Err e) read.2) [
    | inl p ↦ absurd (let never = p.1 in cc)
    | inr q ↦ (
        let g = passed_err (read.0.0 == 1) (error.Range s.place) e (true, read.0.1) q.1 in
        fault_out (field.below 2) s.place s.rest (read.0.0 ∷ []) read.0.1.rest e (byte_takes s read.0 fits read.1).parts refl
        (byte_out 2 read.0.0 (λ c lt same. absurd (omega (arith, eqb-false read.0.0 0 q.0, eqb-false read.0.0 1 g.0, same, lt)))) g.1)
  ]
]

pub slot_fails : (s : Spot) (e : RowError) → IsBytes s.rest → slot_at s ≡ Err e → IsFault (field.below 3) s.place s.rest e
unfolding slot_at
slot_fails s e fits h = elim (bind_err (byte_at s) (λ b. cond (b.0 == 0) (Ok (Present, b.1)) (cond (b.0 == 1) (Ok (Older, b.1)) (cond (b.0 == 2) (Ok (Asked, b.1)) (Err (error.Range s.place))))) e h) [
  | inl short ↦ (let p = byte_fails s e short in fault_short (field.below 3) s.place s.rest e p.0 p.1)
  | inr read ↦ elim (chosen (read.0.0 == 0) (Ok (Present, read.0.1)) (cond (read.0.0 == 1) (Ok (Older, read.0.1)) (cond (read.0.0 == 2) (Ok (Asked, read.0.1)) (Err (error.Range s.place)))) (Err e) read.2) [
    | inl p ↦ absurd (let never = p.1 in cc)
    | inr q ↦ elim (chosen (read.0.0 == 1) (Ok (Older, read.0.1)) (cond (read.0.0 == 2) (Ok (Asked, read.0.1)) (Err (error.Range s.place))) (Err e) q.1) [
      | inl p ↦ absurd (let never = p.1 in cc)
      | inr r ↦ (
          let g = passed_err (read.0.0 == 2) (error.Range s.place) e (Asked, read.0.1) r.1 in
          fault_out (field.below 3) s.place s.rest (read.0.0 ∷ []) read.0.1.rest e (byte_takes s read.0 fits read.1).parts refl
          (byte_out 3 read.0.0 (λ c lt same. absurd (omega (arith, eqb-false read.0.0 0 q.0, eqb-false read.0.0 1 r.0, eqb-false read.0.0 2 g.0, same, lt)))) g.1)
    ]
  ]
]

-- ---- texts

-- the first fault of a text
pub record TextFault (text_bytes : ℕ → Field) (place : ℕ) (bytes : List ℕ) (e : RowError) : Type 0 where
  pub front : List ℕ
  pub more : List ℕ
  pub own : Field
  pub is_field : IsFieldOfText text_bytes front own
  pub parts : bytes ≡ front ++ more
  pub fault : IsFault own (place + length front) more e

size_fault : (text_bytes : ℕ → Field) (s : Spot) (e : RowError) → number_at w32 s ≡ Err e → TextFault text_bytes s.place s.rest e
size_fault text_bytes s e h =
    let p = number_fails w32 s e h in
    record {
      front = [];
      more = s.rest;
      own = field.size;
      is_field = inl (refl, refl);
      parts = refl;
      fault = fault_short field.size (s.place + 0) s.rest e p.0 (p.1 ∙ ap error.Short (omega arith));
    }

bytes_fault : (text_bytes : ℕ → Field) (s : Spot) (n : ℕ × Spot) (e : RowError) → IsBytes s.rest → number_at w32 s ≡ Ok n → IsFault (text_bytes n.0) n.1.place n.1.rest e
    → TextFault text_bytes s.place s.rest e
bytes_fault text_bytes s n e fits h fault =
    let t = number_takes w32 (2 ^ 32) wide32 s n fits h in
    record {
      front = to_be_bytes w32 n.0;
      more = n.1.rest;
      own = text_bytes n.0;
      is_field = inr (n.0, t.1, refl, refl);
      parts = t.0.parts;
      fault = subst (λ (p : ℕ). IsFault (text_bytes n.0) p n.1.rest e) t.0.place_is fault;
    }

pub text_fails : (test : List ℕ → Bool) (s : Spot) (e : RowError) → IsBytes s.rest → text_at test s ≡ Err e → TextFault (field.text test) s.place s.rest e
unfolding text_at
text_fails test s e fits h = elim (bind_err (number_at w32 s) (λ n. bytes_at n.0 n.1 >>= λ t. cond (test t.0) (Ok t) (Err (error.Range n.1.place))) e h) [
  | inl short ↦ size_fault (field.text test) s e short
  | inr a ↦ elim (bind_err (bytes_at a.0.0 a.0.1) (λ t. cond (test t.0) (Ok t) (Err (error.Range a.0.1.place))) e a.2) [
    | inl short ↦ (let p = bytes_fail a.0.0 a.0.1 e short in bytes_fault (field.text test) s a.0 e fits a.1 (fault_short (field.text test a.0.0) a.0.1.place a.0.1.rest e p.0 p.1))
    | inr b ↦ (
        let g = passed_err (test b.0.0) (error.Range a.0.1.place) e b.0 b.2 in
        let n = number_takes w32 (2 ^ 32) wide32 s a.0 fits a.1 in
        let t = bytes_take a.0.0 a.0.1 b.0 n.0.rest_fits b.1 in
        bytes_fault (field.text test) s a.0 e fits a.1
        (fault_out (field.text test a.0.0) a.0.1.place a.0.1.rest b.0.0 b.0.1.rest e t.0.parts t.1 (λ passes. let off = g.0 in absurd cc) g.1))
  ]
]

pub type_fails : (s : Spot) (e : RowError) → IsBytes s.rest → type_at s ≡ Err e → TextFault field.item_type s.place s.rest e
unfolding type_at
type_fails s e fits h = elim (bind_err (number_at w32 s) (λ n. bytes_at n.0 n.1 >>= λ t. cond (is_type_or_empty t.0) (cond ((length t.0 == 0) && is_undeleted t.1.rest) (Err (error.Range n.1.place)) (Ok t)) (Err (error.Range n.1.place))) e h) [
  | inl short ↦ size_fault field.item_type s e short
  | inr a ↦ elim (bind_err (bytes_at a.0.0 a.0.1) (λ t. cond (is_type_or_empty t.0) (cond ((length t.0 == 0) && is_undeleted t.1.rest) (Err (error.Range a.0.1.place)) (Ok t)) (Err (error.Range a.0.1.place))) e a.2) [
    | inl short ↦ (let p = bytes_fail a.0.0 a.0.1 e short in bytes_fault field.item_type s a.0 e fits a.1 (fault_short (field.item_type a.0.0) a.0.1.place a.0.1.rest e p.0 p.1))
    | inr b ↦ (
        let n = number_takes w32 (2 ^ 32) wide32 s a.0 fits a.1 in
        let t = bytes_take a.0.0 a.0.1 b.0 n.0.rest_fits b.1 in
        let out : (FieldInForm (field.item_type a.0.0) b.0.0 b.0.1.rest → ⊥) → e ≡ error.Range a.0.1.place → TextFault field.item_type s.place s.rest e =
        λ off is. bytes_fault field.item_type s a.0 e fits a.1 (fault_out (field.item_type a.0.0) a.0.1.place a.0.1.rest b.0.0 b.0.1.rest e t.0.parts t.1 off is) in
        elim (chosen (is_type_or_empty b.0.0) (cond ((length b.0.0 == 0) && is_undeleted b.0.1.rest) (Err (error.Range a.0.1.place)) (Ok b.0)) (Err (error.Range a.0.1.place)) (Err e) b.2) [
          | inl p ↦ (let g = guard_err ((length b.0.0 == 0) && is_undeleted b.0.1.rest) (error.Range a.0.1.place) e b.0 p.1 in out (λ form. let on = g.0 in let off = form.1 in absurd cc) g.1)
          | inr p ↦ out (λ form. let off = p.0 in let on = form.0 in absurd cc) (let same : error.Range a.0.1.place ≡ e = cc in sym same)
        ])
  ]
]

-- ---- columns

-- a column's first field
first_field : (c : Column) (own : Field) (place : ℕ) (bytes : List ℕ) (e : RowError) → IsFieldOf c [] own → IsFault own place bytes e → IsColumnFault c place bytes e
first_field c own place bytes e of fault = record {
  front = [];
  more = bytes;
  field = own;
  is_field = of;
  parts = refl;
  fault = subst (λ (p : ℕ). IsFault own p bytes e) (omega arith) fault;
}

-- a field behind others of the column
later_field : (c : Column) (own : Field) (s t : Spot) (front : List ℕ) (e : RowError) → IsFieldOf c front own → Takes s front t → IsFault own t.place t.rest e
    → IsColumnFault c s.place s.rest e
later_field c own s t front e of takes fault = record {
  front = front;
  more = t.rest;
  field = own;
  is_field = of;
  parts = takes.parts;
  fault = subst (λ (p : ℕ). IsFault own p t.rest e) takes.place_is fault;
}

-- a text in a column, behind other fields of it
text_in : (c : Column) (text_bytes : ℕ → Field) (s t : Spot) (before : List ℕ) (e : RowError) → ((front : List ℕ) (own : Field) → IsFieldOfText text_bytes front own → IsFieldOf c (before ++ front) own)
    → Takes s before t → TextFault text_bytes t.place t.rest e → IsColumnFault c s.place s.rest e
text_in c text_bytes s t before e of takes f = record {
  front = before ++ f.front;
  more = f.more;
  field = f.own;
  is_field = of f.front f.own f.is_field;
  parts = takes.parts ∙ ap (λ (l : List ℕ). before ++ l) f.parts ∙ sym (append_assoc before f.front f.more);
  fault = subst (λ (p : ℕ). IsFault f.own p f.more e) (omega (arith, takes.place_is, length-append before f.front)) f.fault;
}

nothing_taken : (s : Spot) → IsBytes s.rest → Takes s [] s
nothing_taken s fits = record { parts = refl; rest_fits = fits; place_is = omega arith }

no_stamp_fault : (place : ℕ) (rest : List ℕ) (e : RowError) → IsFault field.stamp place rest e → IsFault field.no_stamp place rest e
no_stamp_fault place rest e (inl short) = inl short
no_stamp_fault place rest e (inr (bytes, behind, parts, len, off, is)) = inr (bytes, behind, parts, len, λ none. off (omega (arith, none)), is)

-- what becomes of a base's stamp
abbrev base_end : Bool → Spot → (ℕ × Spot) → Read (Option ℕ)
base_end b t n = cond b (Ok (Some n.0, n.1)) (cond (n.0 == 0) (Ok (None, n.1)) (Err (error.Range t.place)))

base_fails : (s : Spot) (e : RowError) → IsBytes s.rest → base_at s ≡ Err e → IsColumnFault col.base_stamp s.place s.rest e
unfolding base_at
base_fails s e fits h = elim (bind_err (flag_at s) (λ b. stamp_at b.1 >>= base_end b.0 b.1) e h) [
  | inl first ↦ first_field col.base_stamp (field.below 2) s.place s.rest e (inl (refl, refl)) (flag_fails s e fits first)
  | inr a ↦ by_flag a.0.0 a.0.1 (flag_takes s a.0 fits a.1) a.2
]
  where
    none_fault : (t : Spot) (n : ℕ × Spot) → IsBytes t.rest → stamp_at t ≡ Ok n → base_end false t n ≡ Err e
        → IsFault field.no_stamp t.place t.rest e
    none_fault t n fits read f =
        let g = passed_err (n.0 == 0) (error.Range t.place) e _ f in
        let u = stamp_takes t n fits read in
        fault_out field.no_stamp t.place t.rest (to_be_bytes w64 n.0) n.1.rest e u.0.parts (wide64.len n.0)
        (λ none. absurd (eqb-false n.0 0 g.0 (sym (wide64.again n.0 (omega (arith, u.1))) ∙ none))) g.1

    by_flag : (b : Bool) (t : Spot) → Takes s (flag_byte b ∷ []) t → (stamp_at t >>= base_end b t) ≡ Err e
        → IsColumnFault col.base_stamp s.place s.rest e
    by_flag true t takes f = elim (bind_err (stamp_at t) (base_end true t) e f) [
      | inl bad ↦ later_field col.base_stamp field.stamp s t (1 ∷ []) e (inr (inl (refl, refl))) takes (stamp_fails t e takes.rest_fits bad)
      | inr read ↦ absurd (let never = read.2 in cc)
    ]
    by_flag false t takes f = elim (bind_err (stamp_at t) (base_end false t) e f) [
      | inl bad ↦ later_field col.base_stamp field.no_stamp s t (0 ∷ []) e (inr (inr (refl, refl))) takes (no_stamp_fault t.place t.rest e (stamp_fails t e takes.rest_fits bad))
      | inr read ↦ later_field col.base_stamp field.no_stamp s t (0 ∷ []) e (inr (inr (refl, refl))) takes (none_fault t read.0 takes.rest_fits read.1 read.2)
    ]

strings_fail : (s t : Spot) (e : RowError) → Takes s (2 ∷ []) t → strings_at t ≡ Err e → IsColumnFault col.version s.place s.rest e
unfolding strings_at
strings_fail s t e takes h = elim (bind_err (text_at is_device_string t) (λ content. text_at is_device_string content.1 >>= λ enc. Ok (Some (Some (content.0, enc.0)), enc.1)) e h) [
  | inl bad ↦ text_in col.version (field.text is_device_string) s t (2 ∷ []) e (λ front own is. inr (inl (front, refl, is))) takes (text_fails is_device_string t e takes.rest_fits bad)
  | inr a ↦ elim (bind_err (text_at is_device_string a.0.1) (λ enc. Ok (let x : Body × Spot = (Some (Some (a.0.0, enc.0)), enc.1) in x)) e a.2) [
    | inl bad ↦ (
        let one = text_takes is_device_string t a.0 takes.rest_fits a.1 in
        text_in col.version (field.text is_device_string) s a.0.1 (2 ∷ counted a.0.0) e (λ front own is. inr (inr (a.0.0, front, refl, one.1, one.2, is)))
        (record { parts = takes.parts ∙ ap (λ (l : List ℕ). 2 ∷ l) one.0.parts; rest_fits = one.0.rest_fits; place_is = omega (arith, takes.place_is, one.0.place_is) })
        (text_fails is_device_string a.0.1 e one.0.rest_fits bad))
    | inr b ↦ absurd (let never = b.2 in cc)
  ]
]

body_fails : (s : Spot) (e : RowError) → IsBytes s.rest → body_at s ≡ Err e → IsColumnFault col.version s.place s.rest e
body_fails s e fits h = elim (bind_err (byte_at s) (λ b. cond (b.0 == 0) (Ok (None, b.1)) (cond (b.0 == 1) (Ok (Some None, b.1)) (cond (b.0 == 2) (strings_at b.1) (Err (error.Range s.place))))) e (sym (body_is s) ∙ h)) [
  | inl short ↦ (let p = byte_fails s e short in first_field col.version (field.below 3) s.place s.rest e (inl (refl, refl)) (fault_short (field.below 3) s.place s.rest e p.0 p.1))
  | inr a ↦ elim (chosen (a.0.0 == 0) (Ok (let x : Body × Spot = (None, a.0.1) in x)) (cond (a.0.0 == 1) (Ok (Some None, a.0.1)) (cond (a.0.0 == 2) (strings_at a.0.1) (Err (error.Range s.place)))) (Err e) a.2) [
    | inl p ↦ absurd (let never = p.1 in cc)
    | inr q ↦ elim (chosen (a.0.0 == 1) (Ok (let x : Body × Spot = (Some None, a.0.1) in x)) (cond (a.0.0 == 2) (strings_at a.0.1) (Err (error.Range s.place))) (Err e) q.1) [
      | inl p ↦ absurd (let never = p.1 in cc)
      | inr r ↦ elim (chosen (a.0.0 == 2) (strings_at a.0.1) (Err (error.Range s.place)) (Err e) r.1) [
        | inl p ↦ strings_fail s a.0.1 e (subst (λ (b : ℕ). Takes s (b ∷ []) a.0.1) (eqb-true a.0.0 2 p.0) (byte_takes s a.0 fits a.1)) p.1
        | inr p ↦ first_field col.version (field.below 3) s.place s.rest e (inl (refl, refl))
            (fault_out (field.below 3) s.place s.rest (a.0.0 ∷ []) a.0.1.rest e (byte_takes s a.0 fits a.1).parts refl
            (byte_out 3 a.0.0 (λ c lt same. absurd (omega (arith, eqb-false a.0.0 0 q.0, eqb-false a.0.0 1 r.0, eqb-false a.0.0 2 p.0, same, lt))))
            (let same : error.Range s.place ≡ e = cc in sym same))
      ]
    ]
  ]
]

cell_err : {A : Type 0} (f : A → Cell) (r : Read A) (e : RowError) → cell_as f r ≡ Err e → r ≡ Err e
cell_err f (Ok y) e h = absurd cc
cell_err f (Err d) e h = let same : d ≡ e = cc in ap (λ (q : RowError). Err q) same

pub column_fails : (c : Column) (s : Spot) (e : RowError) → IsBytes s.rest → column_at c s ≡ Err e → IsColumnFault c s.place s.rest e
column_fails col.number s e fits h = let p = number_fails w64 s e (cell_err wide (number_at w64 s) e h) in first_field col.number field.number s.place s.rest e (refl, refl) (fault_short field.number s.place s.rest e p.0 p.1)
column_fails col.stamp s e fits h = first_field col.stamp field.stamp s.place s.rest e (refl, refl) (stamp_fails s e fits (cell_err wide (stamp_at s) e h))
column_fails col.cost s e fits h = first_field col.cost field.cost s.place s.rest e (refl, refl) (cost_fails s e fits (cell_err narrow (cost_at s) e h))
column_fails (col.fixed count) s e fits h = let p = bytes_fail count s e (cell_err plain (bytes_at count s) e h) in first_field (col.fixed count) (field.fixed count) s.place s.rest e (refl, refl) (fault_short (field.fixed count) s.place s.rest e p.0 p.1)
column_fails (col.text_that test) s e fits h = text_in (col.text_that test) (field.text test) s s [] e (λ front own is. is) (nothing_taken s fits) (text_fails test s e fits (cell_err text (text_at test s) e h))
column_fails col.item_type s e fits h = text_in col.item_type field.item_type s s [] e (λ front own is. is) (nothing_taken s fits) (type_fails s e fits (cell_err text (type_at s) e h))
column_fails col.yes_or_no s e fits h = first_field col.yes_or_no (field.below 2) s.place s.rest e (refl, refl) (flag_fails s e fits (cell_err flag (flag_at s) e h))
column_fails col.which_set s e fits h = first_field col.which_set (field.below 3) s.place s.rest e (refl, refl) (slot_fails s e fits (cell_err slot (slot_at s) e h))
column_fails col.base_stamp s e fits h = base_fails s e fits (cell_err base (base_at s) e h)
column_fails col.version s e fits h = body_fails s e fits (cell_err body (body_at s) e h)

pub columns_fail : (cs : List Column) (s : Spot) (e : RowError) → IsBytes s.rest → columns_at cs s ≡ Err e → IsColumnsFault cs s.place s.rest e
columns_fail [] s e fits h = absurd cc
columns_fail (c ∷ cs) s e fits h = elim (bind_err (column_at c s) (λ cell. columns_at cs cell.1 >>= λ cells. Ok (cell.0 ∷ cells.0, cells.1)) e h) [
  | inl bad ↦ record {
    before = [];
    column = c;
    after = cs;
    cells = [];
    more = s.rest;
    columns_are = refl;
    parts = refl;
    in_form = tt;
    fault = subst (λ (p : ℕ). IsColumnFault c p s.rest e) (omega arith) (column_fails c s e fits bad);
  }
  | inr a ↦ elim (bind_err (columns_at cs a.0.1) (λ cells. Ok (let x : List Cell × Spot = (a.0.0 ∷ cells.0, cells.1) in x)) e a.2) [
    | inl bad ↦ (let first = column_takes c s a.0 fits a.1 in one_more c cs s a.0 e first.0 first.1 (columns_fail cs a.0.1 e first.0.rest_fits bad))
    | inr b ↦ absurd (let never = b.2 in cc)
  ]
]
  where
    one_more : (c : Column) (cs : List Column) (s : Spot) (x : Cell × Spot) (e : RowError) → Takes s (cell_bytes x.0) x.1 → InForm c x.0 x.1.rest
        → IsColumnsFault cs x.1.place x.1.rest e → IsColumnsFault (c ∷ cs) s.place s.rest e
    one_more c cs s x e takes form f = record {
      before = c ∷ f.before;
      column = f.column;
      after = f.after;
      cells = x.0 ∷ f.cells;
      more = f.more;
      columns_are = ap (λ (l : List Column). c ∷ l) f.columns_are;
      parts = takes.parts ∙ ap (λ (l : List ℕ). cell_bytes x.0 ++ l) f.parts ∙ sym (append_assoc (cell_bytes x.0) (cells_bytes f.cells) f.more);
      in_form = (subst (λ (r : List ℕ). InForm c x.0 r) f.parts form, f.in_form);
      fault = subst (λ (p : ℕ). IsColumnFault f.column p f.more e) (omega (arith, takes.place_is, length-append (cell_bytes x.0) (cells_bytes f.cells))) f.fault;
    }

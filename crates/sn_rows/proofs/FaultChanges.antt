-- Where reading a change fails, it fails at its first fault; so the reader refuses bytes by the first fault.
use Rattle.std.proofs.Common.{◌≡◌, ◌⊎◌, ℕ, zero, suc, ◌+◌, ◌^◌, ◌<◌, Bool, true, false, cond, List, [], ◌∷◌, ◌++◌, length, Option, Some, None, Ok, Err, refl, sym, ap, subst, ◌∙◌, append_assoc, arith, inl, inr}
use Rattle.std.specs.Prelude.{◌==◌}
use Rattle.std.specs.Int.{w32, to_be_bytes}
use Rattle.std.specs.List.{AllByRecursion}
use Rattle.std.proofs.lemmas.Bool.{eqb-false}
use Rattle.std.proofs.lemmas.List.{length-append}
use Rattle.std.proofs.lemmas.List.Concat.{flat_map-cons}
use Rattle.sn_rows.specs.Kinds.{kind_number, kind_of_number}
use Rattle.sn_rows.specs.Cells.{Cell, Column, cells_bytes, counted, flag_byte}
use Rattle.sn_rows.specs.Columns.{key_columns, value_columns}
use Rattle.sn_rows.specs.Spelling.{Entry, EntryInForm, Framed, entries_bytes, entry_bytes, put, remove}
use Rattle.sn_rows.specs.Faults.{Field, IsChangeFault, IsColumnsFault, IsFault, IsFirstFault, IsFrameFault, IsLeftOver, IsRefusal}
use Rattle.sn_rows.specs.Faults as field
use Rattle.sn_rows.specs.Reading.{◌>>=◌, Read, Spot, spot, bytes_at, byte_at, columns_at, entries_at, entry_at, framed_at, kind_at, kind_or, number_at, op_at, payload_at, window_at}
use Rattle.sn_rows.specs.declared.kind.RowKind.{RowKind}
use Rattle.sn_rows.specs.declared.error.RowError.{RowError}
use Rattle.sn_rows.specs.declared.error.RowError.TheVariants as error
use Rattle.sn_rows.proofs.FieldLemmas.{IsBytes, Takes, Takes-then, bind_ok, bytes_take, byte_takes, chosen, done, number_takes, ok_is, wide32}
use Rattle.sn_rows.proofs.ColumnLemmas.{columns_take, entry_takes, framed_takes, kind_numbered, kind_takes, op_takes}
use Rattle.sn_rows.proofs.FaultLemmas.{bind_err, byte_fails, byte_out, bytes_fail, columns_fail, fault_out, fault_short, number_fails, passed_err}

-- ---- keys and values

-- the bytes that a length counts
record Window (s : Spot) (w : Spot × Spot) : Type 0 where
  takes : Takes s (counted w.0.rest) w.1
  place_is : w.0.place ≡ s.place + 4
  short : length w.0.rest < 2 ^ 32
  fits : IsBytes w.0.rest

window_takes : (s : Spot) (w : Spot × Spot) → IsBytes s.rest → window_at s ≡ Ok w → Window s w
unfolding window_at
window_takes s w fits e =
    let n = bind_ok (number_at w32 s) (λ n. bytes_at n.0 n.1 >>= λ t. Ok (spot n.1.place t.0, t.1)) w e in
    let t = bind_ok (bytes_at n.0.0 n.0.1) (λ t. Ok (spot n.0.1.place t.0, t.1)) w n.2 in
    let first = number_takes w32 (2 ^ 32) wide32 s n.0 fits n.1 in
    let second = bytes_take n.0.0 n.0.1 t.0 first.0.rest_fits t.1 in
    let both = Takes-then s (to_be_bytes w32 n.0.0) n.0.1 t.0.0 t.0.1 first.0 second.0 in
    subst (Window s) (ok_is (spot n.0.1.place t.0.0, t.0.1) w t.2) record {
      takes = subst (λ (k : ℕ). Takes s (to_be_bytes w32 k ++ t.0.0) t.0.1) (sym second.1) both;
      place_is = first.0.place_is;
      short = omega (arith, first.1, second.1);
      fits = second.2;
    }

window_fails : (cs : List Column) (s : Spot) (e : RowError) → IsBytes s.rest → window_at s ≡ Err e → IsFrameFault cs s.place s.rest e
unfolding window_at
window_fails cs s e fits h = elim (bind_err (number_at w32 s) (λ n. bytes_at n.0 n.1 >>= λ t. Ok (spot n.1.place t.0, t.1)) e h) [
  | inl bad ↦ (let p = number_fails w32 s e bad in inl (fault_short field.size s.place s.rest e p.0 p.1))
  | inr n ↦ elim (bind_err (bytes_at n.0.0 n.0.1) (λ t. Ok (let x : Spot × Spot = (spot n.0.1.place t.0, t.1) in x)) e n.2) [
    | inl bad ↦ (
        let p = bytes_fail n.0.0 n.0.1 e bad in
        let t = number_takes w32 (2 ^ 32) wide32 s n.0 fits n.1 in
        let fault : IsFault (field.block n.0.0) n.0.1.place n.0.1.rest e = fault_short (field.block n.0.0) n.0.1.place n.0.1.rest e p.0 p.1 in
        inr (inl (n.0.0, n.0.1.rest, t.1, t.0.parts, subst (λ (q : ℕ). IsFault (field.block n.0.0) q n.0.1.rest e) t.0.place_is fault)))
    | inr t ↦ absurd (let never = t.2 in cc)
  ]
]

-- what becomes of the columns of a key or a value
abbrev frame_end : Spot → (List Cell × Spot) → Read (List Cell)
frame_end after cells = cond (length cells.1.rest == 0) (Ok (cells.0, after)) (Err (error.Extra cells.1.place))

framed_fails : (cs : List Column) (s : Spot) (e : RowError) → IsBytes s.rest → framed_at cs s ≡ Err e → IsFrameFault cs s.place s.rest e
unfolding framed_at
framed_fails cs s e fits h = elim (bind_err (window_at s) (λ w. columns_at cs w.0 >>= frame_end w.1) e h) [
  | inl bad ↦ window_fails cs s e fits bad
  | inr w ↦ (
      let own = window_takes s w.0 fits w.1 in
      inr (inr (w.0.0.rest, w.0.1.rest, own.short, own.takes.parts, inside w.0.0 w.0.1 own.fits own.place_is w.2)))
]
  where
    inside : (inner after : Spot) → IsBytes inner.rest → inner.place ≡ s.place + 4 → (columns_at cs inner >>= frame_end after) ≡ Err e
        → IsColumnsFault cs (s.place + 4) inner.rest e ⊎ IsLeftOver cs (s.place + 4) inner.rest e
    inside inner after fits place_is h = elim (bind_err (columns_at cs inner) (frame_end after) e h) [
      | inl bad ↦ inl (subst (λ (p : ℕ). IsColumnsFault cs p inner.rest e) place_is (columns_fail cs inner e fits bad))
      | inr c ↦ (
          let g = passed_err (length c.0.1.rest == 0) (error.Extra c.0.1.place) e (c.0.0, after) c.2 in
          let t = columns_take cs inner c.0 fits c.1 in
          let some : length c.0.1.rest ≡ 0 → ⊥ = eqb-false (length c.0.1.rest) 0 g.0 in
          inr record {
            cells = c.0.0;
            more = c.0.1.rest;
            parts = t.0.parts;
            in_form = t.1;
            some = omega arith;
            error_is = g.1 ∙ ap error.Extra (t.0.place_is ∙ ap (λ (p : ℕ). p + length (cells_bytes c.0.0)) place_is);
          })
    ]

-- ---- changes

op_fails : (s : Spot) (e : RowError) → IsBytes s.rest → op_at s ≡ Err e → IsFault field.op s.place s.rest e
unfolding op_at
op_fails s e fits h = elim (bind_err (byte_at s) (λ b. cond (b.0 == 0) (Ok (false, b.1)) (cond (b.0 == 1) (Ok (true, b.1)) (Err (error.Kind s.place)))) e h) [
  | inl short ↦ (let p = byte_fails s e short in fault_short field.op s.place s.rest e p.0 p.1)
  | inr read ↦ elim (chosen (read.0.0 == 0) (Ok (false, read.0.1)) (cond (read.0.0 == 1) (Ok (true, read.0.1)) (Err (error.Kind s.place))) (Err e) read.2) [
    | inl p ↦ absurd (let never = p.1 in cc)
    | inr q ↦ (
        let g = passed_err (read.0.0 == 1) (error.Kind s.place) e (true, read.0.1) q.1 in
        fault_out field.op s.place s.rest (read.0.0 ∷ []) read.0.1.rest e (byte_takes s read.0 fits read.1).parts refl
        (byte_out 2 read.0.0 (λ c lt same. absurd (omega (arith, eqb-false read.0.0 0 q.0, eqb-false read.0.0 1 g.0, same, lt)))) g.1)
  ]
]

kind_or_err : (o : Option RowKind) (s t : Spot) (e : RowError) → kind_or o s t ≡ Err e → (o ≡ None) × (e ≡ error.Kind s.place)
kind_or_err (Some k) s t e h = absurd cc
kind_or_err None s t e h = (refl, let same : error.Kind s.place ≡ e = cc in sym same)

kind_fails : (s : Spot) (e : RowError) → IsBytes s.rest → kind_at s ≡ Err e → IsFault field.kind s.place s.rest e
unfolding kind_at
kind_fails s e fits h = elim (bind_err (byte_at s) (λ b. kind_or (kind_of_number b.0) s b.1) e h) [
  | inl short ↦ (let p = byte_fails s e short in fault_short field.kind s.place s.rest e p.0 p.1)
  | inr read ↦ (
      let g = kind_or_err (kind_of_number read.0.0) s read.0.1 e read.2 in
      fault_out field.kind s.place s.rest (read.0.0 ∷ []) read.0.1.rest e (byte_takes s read.0 fits read.1).parts refl
      (λ form. no_kind read.0.0 form.0 g.0 form.1) g.1)
]
  where
    no_kind : (b : ℕ) (k : RowKind) → kind_of_number b ≡ None → b ∷ [] ≡ kind_number k ∷ [] → ⊥
    no_kind b k none is = let same : b ≡ kind_number k = cc in let some : kind_of_number b ≡ Some k = ap kind_of_number same ∙ kind_numbered k in absurd cc

-- what becomes of a key
abbrev entry_end : Bool → RowKind → (List Cell × Spot) → Read Entry
entry_end op k key = cond op (framed_at (value_columns k) key.1 >>= λ value. Ok (put k key.0 value.0, value.1)) (Ok (remove k key.0, key.1))

entry_fails : (s : Spot) (e : RowError) → IsBytes s.rest → entry_at s ≡ Err e → IsChangeFault s.place s.rest e
unfolding entry_at
entry_fails s e fits h = elim (bind_err (op_at s) (λ op. kind_at op.1 >>= λ kind. framed_at (key_columns kind.0) kind.1 >>= entry_end op.0 kind.0) e h) [
  | inl bad ↦ inl (op_fails s e fits bad)
  | inr o ↦ (
      let a = op_takes s o.0 fits o.1 in
      elim (bind_err (kind_at o.0.1) (λ kind. framed_at (key_columns kind.0) kind.1 >>= entry_end o.0.0 kind.0) e o.2) [
        | inl bad ↦ inr (inl (o.0.0, o.0.1.rest, a.parts, subst (λ (p : ℕ). IsFault field.kind p o.0.1.rest e) a.place_is (kind_fails o.0.1 e a.rest_fits bad)))
        | inr k ↦ (
            let b = kind_takes o.0.1 k.0 a.rest_fits k.1 in
            let two : s.rest ≡ flag_byte o.0.0 ∷ kind_number k.0.0 ∷ k.0.1.rest = a.parts ∙ ap (λ (l : List ℕ). flag_byte o.0.0 ∷ l) b.parts in
            let place_is : k.0.1.place ≡ s.place + 2 = omega (arith, a.place_is, b.place_is) in
            inr (inr (framed o.0.0 k.0.0 k.0.1 b.rest_fits two place_is k.2)))
      ])
]
  where
    framed : (op : Bool) (k : RowKind) (t : Spot) → IsBytes t.rest → s.rest ≡ flag_byte op ∷ kind_number k ∷ t.rest → t.place ≡ s.place + 2
        → (framed_at (key_columns k) t >>= entry_end op k) ≡ Err e
        → ((b : Bool) × (q : RowKind) × (more : List ℕ) × (s.rest ≡ flag_byte b ∷ kind_number q ∷ more) × IsFrameFault (key_columns q) (s.place + 2) more e)
        ⊎ ((q : RowKind) × (key : List Cell) × (more : List ℕ) × (s.rest ≡ 1 ∷ kind_number q ∷ (counted (cells_bytes key) ++ more))
        × Framed (key_columns q) key × IsFrameFault (value_columns q) (s.place + 2 + length (counted (cells_bytes key))) more e)
    framed op k t fits two place_is h = elim (bind_err (framed_at (key_columns k) t) (entry_end op k) e h) [
      | inl bad ↦ inl (op, k, t.rest, two, subst (λ (p : ℕ). IsFrameFault (key_columns k) p t.rest e) place_is (framed_fails (key_columns k) t e fits bad))
      | inr f ↦ (
          let c = framed_takes (key_columns k) t f.0 fits f.1 in
          elim (chosen op (framed_at (value_columns k) f.0.1 >>= λ value. Ok (put k f.0.0 value.0, value.1)) (Ok (remove k f.0.0, f.0.1)) (Err e) f.2) [
            | inr p ↦ absurd (let never = p.1 in cc)
            | inl p ↦ elim (bind_err (framed_at (value_columns k) f.0.1) (λ value. Ok (let x : Entry × Spot = (put k f.0.0 value.0, value.1) in x)) e p.1) [
              | inr v ↦ absurd (let never = v.2 in cc)
              | inl bad ↦ (
                  let fault = framed_fails (value_columns k) f.0.1 e c.0.rest_fits bad in
                  let at : f.0.1.place ≡ s.place + 2 + length (counted (cells_bytes f.0.0)) = c.0.place_is ∙ ap (λ (q : ℕ). q + length (counted (cells_bytes f.0.0))) place_is in
                  inr (
                    k,
                    f.0.0,
                    f.0.1.rest,
                    two ∙ ap (λ (b : Bool). flag_byte b ∷ kind_number k ∷ t.rest) p.0 ∙ ap (λ (l : List ℕ). 1 ∷ kind_number k ∷ l) c.0.parts,
                    c.1,
                    subst (λ (q : ℕ). IsFrameFault (value_columns k) q f.0.1.rest e) at fault,
                  ))
            ]
          ])
    ]

-- ---- lists of changes

-- the first fault of a list of changes from a place on
record EntriesFault (place : ℕ) (bytes : List ℕ) (e : RowError) : Type 0 where
  changes : List Entry
  more : List ℕ
  parts : bytes ≡ entries_bytes changes ++ more
  in_form : AllByRecursion EntryInForm changes
  some : 0 < length more
  fault : IsChangeFault (place + length (entries_bytes changes)) more e

one_more : (s : Spot) (x : Entry × Spot) (e : RowError) → Takes s (entry_bytes x.0) x.1 → EntryInForm x.0 → EntriesFault x.1.place x.1.rest e → EntriesFault s.place s.rest e
one_more s x e takes form f =
    let whole : entries_bytes (x.0 ∷ f.changes) ≡ entry_bytes x.0 ++ entries_bytes f.changes = flat_map-cons entry_bytes x.0 f.changes in
    record {
      changes = x.0 ∷ f.changes;
      more = f.more;
      parts = takes.parts ∙ ap (λ (l : List ℕ). entry_bytes x.0 ++ l) f.parts ∙ sym (append_assoc (entry_bytes x.0) (entries_bytes f.changes) f.more)
          ∙ ap (λ (l : List ℕ). l ++ f.more) (sym whole);
      in_form = (form, f.in_form);
      some = f.some;
      fault = subst (λ (p : ℕ). IsChangeFault p f.more e) (omega (arith, takes.place_is, ap length whole, length-append (entry_bytes x.0) (entries_bytes f.changes))) f.fault;
    }

entries_fail : (n : ℕ) (s : Spot) (e : RowError) → IsBytes s.rest → entries_at n s ≡ Err e → EntriesFault s.place s.rest e
unfolding entries_at
entries_fail zero s e fits h = absurd cc
entries_fail (suc n) s e fits h =
    elim (chosen (length s.rest == 0) (done []) (entry_at s >>= λ x. entries_at n x.1 >>= λ xs. Ok (x.0 ∷ xs)) (Err e) h) [
      | inl p ↦ absurd (let never = p.1 in cc)
      | inr p ↦ elim (bind_err (entry_at s) (λ x. entries_at n x.1 >>= λ xs. Ok (x.0 ∷ xs)) e p.1) [
        | inl bad ↦ record {
          changes = [];
          more = s.rest;
          parts = refl;
          in_form = tt;
          some = (let none : length s.rest ≡ 0 → ⊥ = eqb-false (length s.rest) 0 p.0 in omega arith);
          fault = subst (λ (q : ℕ). IsChangeFault q s.rest e) (omega arith) (entry_fails s e fits bad);
        }
        | inr a ↦ elim (bind_err (entries_at n a.0.1) (λ xs. Ok (let x : List Entry = a.0.0 ∷ xs in x)) e a.2) [
          | inl bad ↦ (let first = entry_takes s a.0 fits a.1 in one_more s a.0 e first.0 first.1 (entries_fail n a.0.1 e first.0.rest_fits bad))
          | inr b ↦ absurd (let never = b.2 in cc)
        ]
      ]
    ]

payload_fails : (bytes : List ℕ) (e : RowError) → IsBytes bytes → payload_at bytes ≡ Err e → IsFirstFault bytes e
payload_fails bytes e fits h =
    let f = entries_fail (length bytes) (spot 0 bytes) e fits h in
    record {
      changes = f.changes;
      more = f.more;
      parts = f.parts;
      in_form = f.in_form;
      some = f.some;
      fault = subst (λ (q : ℕ). IsChangeFault q f.more e) (omega arith) f.fault;
    }

-- the reader's refusals are first faults
pub refused_so : (bytes : List ℕ) (e : RowError) → IsBytes bytes → (e ≡ error.Memory) ⊎ (payload_at bytes ≡ Err e) → IsRefusal bytes e
refused_so bytes error.Memory fits h = tt
refused_so bytes (error.Short p) fits (inr h) = payload_fails bytes (error.Short p) fits h
refused_so bytes (error.Kind p) fits (inr h) = payload_fails bytes (error.Kind p) fits h
refused_so bytes (error.Range p) fits (inr h) = payload_fails bytes (error.Range p) fits h
refused_so bytes (error.Extra p) fits (inr h) = payload_fails bytes (error.Extra p) fits h
refused_so bytes e fits (inl is) = absurd cc

-- Columns, keys, values and changes: what is read is spelled so and in form, and what is spelled in form is read again.
use Rattle.std.proofs.Common.{◌≡◌, ℕ, zero, suc, ◌+◌, ◌^◌, ◌<◌, ◌≤◌, Bool, true, false, cond, List, [], ◌∷◌, ◌++◌, length, Option, Some, None, Ok, Err, refl, sym, ap, subst, ◌∙◌, append_assoc, arith, inl, inr}
use Rattle.std.specs.Prelude.{◌==◌}
use Rattle.std.specs.Int.{w32, w64, to_be_bytes}
use Rattle.std.specs.List.{AllByRecursion}
use Rattle.std.proofs.lemmas.Bool.{eqb-true, ne_eqb}
use Rattle.std.proofs.lemmas.List.{append-nil, nil_from_length, length-append}
use Rattle.std.proofs.lemmas.List.Concat.{flat_map-cons}
use Rattle.sn_rows.specs.Bounds.{is_device_string}
use Rattle.sn_rows.specs.Kinds.{kind_number, kind_of_number}
use Rattle.sn_rows.specs.Cells.{Body, Cell, narrow, wide, plain, text, flag, slot, base, body, Column, number, stamp, cost, fixed, text_that, item_type, yes_or_no, which_set, base_stamp, version, base_bytes, counted, flag_byte, body_bytes, cell_bytes, cells_bytes, BodyInForm, InForm, AllInForm}
use Rattle.sn_rows.specs.Columns.{key_columns, value_columns}
use Rattle.sn_rows.specs.Spelling.{Entry, put, remove, entry_bytes, entries_bytes, Framed, EntryInForm}
use Rattle.sn_rows.specs.Reading.{◌>>=◌, Read, Spot, spot, bytes_at, number_at, byte_at, stamp_at, cost_at, text_at, type_at, flag_at, slot_at, base_at, body_at, cell_as, column_at, columns_at, window_at, framed_at, op_at, kind_or, kind_at, entry_at, entries_at, payload_at}
use Rattle.sn_rows.specs.declared.kind.RowKind.{RowKind}
use Rattle.sn_rows.specs.declared.kind.RowKind.TheVariants as kind
use Rattle.sn_rows.specs.declared.error.RowError.TheVariants as error
use Rattle.sn_rows.proofs.FieldLemmas.{IsBytes, bind_ok, passed_ok, chosen, done, ok_is, Takes, Takes-then, wide32, wide64, number_takes, number_again, bytes_take, bytes_again, byte_takes, byte_again, stamp_takes, stamp_again, cost_takes, cost_again, text_takes, text_again, type_takes, type_again, flag_takes, flag_again, slot_takes, slot_again, base_takes, base_again}

-- ---- bodies

unfoldable pub strings_at : Spot → Read Body
strings_at s = text_at is_device_string s >>= λ content. text_at is_device_string content.1 >>= λ enc. Ok (Some (Some (content.0, enc.0)), enc.1)

pub strings_take : (s : Spot) (t : Spot) (x : Body × Spot) → IsBytes t.rest → Takes s (2 ∷ []) t → strings_at t ≡ Ok x → Takes s (body_bytes x.0) x.1 × BodyInForm x.0
unfolding strings_at
strings_take s t x fits front e =
    let a = bind_ok (text_at is_device_string t) (λ content. text_at is_device_string content.1 >>= λ enc. Ok (Some (Some (content.0, enc.0)), enc.1)) x e in
    let b = bind_ok (text_at is_device_string a.0.1) (λ enc. Ok (Some (Some (a.0.0, enc.0)), enc.1)) x a.2 in
    let one = text_takes is_device_string t a.0 fits a.1 in
    let two = text_takes is_device_string a.0.1 b.0 one.0.rest_fits b.1 in
    let both = Takes-then t (counted a.0.0) a.0.1 (counted b.0.0) b.0.1 one.0 two.0 in
    let all = Takes-then s (2 ∷ []) t (counted a.0.0 ++ counted b.0.0) b.0.1 front both in
    subst (λ (y : Body × Spot). Takes s (body_bytes y.0) y.1 × BodyInForm y.0) (ok_is (Some (Some (a.0.0, b.0.0)), b.0.1) x b.2) (all, (one.1, two.1, one.2, two.2))

strings_again : (c e : List ℕ) (place : ℕ) (rest : List ℕ) → BodyInForm (Some (Some (c, e))) → (q : ℕ) × (strings_at (spot place ((counted c ++ counted e) ++ rest)) ≡ Ok (Some (Some (c, e)), spot q rest)) × (q ≡ place + length (counted c ++ counted e))
unfolding strings_at
strings_again c e place rest h = (
  ((((place + 4) + length c) + 4) + length e),
  rw (append_assoc (counted c) (counted e) rest, text_again is_device_string c place (counted e ++ rest) h.0 h.2, text_again is_device_string e ((place + 4) + length c) rest h.1 h.3) refl,
  omega (arith, length-append (counted c) (counted e), length-append (to_be_bytes w32 (length c)) c, length-append (to_be_bytes w32 (length e)) e),
)

pub body_is : (s : Spot) → body_at s ≡ (byte_at s >>= λ b. cond (b.0 == 0) (Ok (None, b.1)) (cond (b.0 == 1) (Ok (Some None, b.1)) (cond (b.0 == 2) (strings_at b.1) (Err (error.Range s.place)))))
unfolding body_at strings_at
body_is s = refl

body_takes : (s : Spot) (x : Body × Spot) → IsBytes s.rest → body_at s ≡ Ok x → Takes s (body_bytes x.0) x.1 × BodyInForm x.0
body_takes s x fits e =
    let a = bind_ok (byte_at s) (λ b. cond (b.0 == 0) (Ok (None, b.1)) (cond (b.0 == 1) (Ok (Some None, b.1)) (cond (b.0 == 2) (strings_at b.1) (Err (error.Range s.place))))) x (sym (body_is s) ∙ e) in
    let t = byte_takes s a.0 fits a.1 in
    elim (chosen (a.0.0 == 0) (done (None, a.0.1)) (cond (a.0.0 == 1) (Ok (Some None, a.0.1)) (cond (a.0.0 == 2) (strings_at a.0.1) (Err (error.Range s.place)))) (Ok x) a.2) [
      | inl p ↦ (let zero_byte : a.0.0 ≡ 0 = eqb-true a.0.0 0 p.0 in
          subst (λ (y : Body × Spot). Takes s (body_bytes y.0) y.1 × BodyInForm y.0) (ok_is (None, a.0.1) x p.1) (subst (λ (b : ℕ). Takes s (b ∷ []) a.0.1) zero_byte t, tt))
      | inr q ↦ elim (chosen (a.0.0 == 1) (done (Some None, a.0.1)) (cond (a.0.0 == 2) (strings_at a.0.1) (Err (error.Range s.place))) (Ok x) q.1) [
        | inl p ↦ (let one_byte : a.0.0 ≡ 1 = eqb-true a.0.0 1 p.0 in
            subst (λ (y : Body × Spot). Takes s (body_bytes y.0) y.1 × BodyInForm y.0) (ok_is (Some None, a.0.1) x p.1) (subst (λ (b : ℕ). Takes s (b ∷ []) a.0.1) one_byte t, tt))
        | inr r ↦ elim (chosen (a.0.0 == 2) (strings_at a.0.1) (Err (error.Range s.place)) (Ok x) r.1) [
          | inl p ↦ (let two_byte : a.0.0 ≡ 2 = eqb-true a.0.0 2 p.0 in
              strings_take s a.0.1 x t.rest_fits (subst (λ (b : ℕ). Takes s (b ∷ []) a.0.1) two_byte t) p.1)
          | inr p ↦ absurd (let never : Err (error.Range s.place) ≡ Ok x = p.1 in cc)
        ]
      ]
    ]

body_again : (b : Body) (place : ℕ) (rest : List ℕ) → BodyInForm b → (q : ℕ) × (body_at (spot place (body_bytes b ++ rest)) ≡ Ok (b, spot q rest)) × (q ≡ place + length (body_bytes b))
body_again None place rest h = (place + 1, body_is (spot place (0 ∷ rest)) ∙ rw (byte_again 0 place rest) refl, omega arith)
body_again (Some None) place rest h = (place + 1, body_is (spot place (1 ∷ rest)) ∙ rw (byte_again 1 place rest) refl, omega arith)
body_again (Some (Some (c, e))) place rest h =
    let s = strings_again c e (place + 1) rest h in
    (s.0, body_is (spot place (2 ∷ ((counted c ++ counted e) ++ rest))) ∙ rw (byte_again 2 place ((counted c ++ counted e) ++ rest)) s.1, omega (arith, s.2))

-- ---- columns

pub cell_ok : {A : Type 0} (f : A → Cell) (r : Read A) (x : Cell × Spot) → cell_as f r ≡ Ok x → (y : A × Spot) × (r ≡ Ok y) × ((f y.0, y.1) ≡ x)
cell_ok f (Ok y) x e = (y, refl, ok_is (f y.0, y.1) x e)
cell_ok f (Err d) x e = absurd cc

abbrev Good : Column → Spot → Cell × Spot → Type 0
Good c s y = Takes s (cell_bytes y.0) y.1 × InForm c y.0 y.1.rest

pub column_takes : (c : Column) (s : Spot) (x : Cell × Spot) → IsBytes s.rest → column_at c s ≡ Ok x → Takes s (cell_bytes x.0) x.1 × InForm c x.0 x.1.rest
column_takes number s x fits e = let c = cell_ok wide (number_at w64 s) x e in subst (Good number s) c.2 (number_takes w64 (2 ^ 64) wide64 s c.0 fits c.1)
column_takes stamp s x fits e = let c = cell_ok wide (stamp_at s) x e in subst (Good stamp s) c.2 (stamp_takes s c.0 fits c.1)
column_takes cost s x fits e = let c = cell_ok narrow (cost_at s) x e in let t = cost_takes s c.0 fits c.1 in subst (Good cost s) c.2 (t.0, (t.1, t.2))
column_takes (fixed count) s x fits e = let c = cell_ok plain (bytes_at count s) x e in let t = bytes_take count s c.0 fits c.1 in subst (Good (fixed count) s) c.2 (t.0, t.1)
column_takes (text_that test) s x fits e = let c = cell_ok text (text_at test s) x e in let t = text_takes test s c.0 fits c.1 in subst (Good (text_that test) s) c.2 (t.0, (t.1, t.2))
column_takes item_type s x fits e = let c = cell_ok text (type_at s) x e in let t = type_takes s c.0 fits c.1 in subst (Good item_type s) c.2 (t.0, (t.1, t.2, t.3))
column_takes yes_or_no s x fits e = let c = cell_ok flag (flag_at s) x e in subst (Good yes_or_no s) c.2 (flag_takes s c.0 fits c.1, tt)
column_takes which_set s x fits e = let c = cell_ok slot (slot_at s) x e in subst (Good which_set s) c.2 (slot_takes s c.0 fits c.1, tt)
column_takes base_stamp s x fits e = let c = cell_ok base (base_at s) x e in subst (Good base_stamp s) c.2 (base_takes s c.0 fits c.1)
column_takes version s x fits e = let c = cell_ok body (body_at s) x e in subst (Good version s) c.2 (body_takes s c.0 fits c.1)

base_length : (o : Option ℕ) → length (base_bytes o) ≡ 9
base_length None = refl
base_length (Some n) = refl

pub column_again : (c : Column) (x : Cell) (place : ℕ) (rest : List ℕ) → InForm c x rest → (q : ℕ) × (column_at c (spot place (cell_bytes x ++ rest)) ≡ Ok (x, spot q rest)) × (q ≡ place + length (cell_bytes x))
column_again number (wide n) place rest h = (place + 8, rw (number_again w64 (2 ^ 64) wide64 n place rest h) refl, refl)
column_again stamp (wide n) place rest h = (place + 8, rw (stamp_again n place rest h) refl, refl)
column_again cost (narrow n) place rest h = (place + 4, rw (cost_again n place rest h.0 h.1) refl, refl)
column_again (fixed count) (plain bytes) place rest h = (place + count, rw (bytes_again bytes count place rest h) refl, omega (arith, h))
column_again (text_that test) (text t) place rest h = ((place + 4) + length t, rw (text_again test t place rest h.0 h.1) refl, omega (arith, length-append (to_be_bytes w32 (length t)) t))
column_again item_type (text t) place rest h = ((place + 4) + length t, rw (type_again t place rest h.0 h.1 h.2) refl, omega (arith, length-append (to_be_bytes w32 (length t)) t))
column_again yes_or_no (flag b) place rest h = (place + 1, rw (flag_again b place rest) refl, omega arith)
column_again which_set (slot b) place rest h = (place + 1, rw (slot_again b place rest) refl, omega arith)
column_again base_stamp (base o) place rest h = ((place + 1) + 8, rw (base_again o place rest h) refl, omega (arith, base_length o))
column_again version (body b) place rest h = let p = body_again b place rest h in (p.0, rw (p.1) refl, p.2)
column_again c x place rest h = absurd h

pub columns_take : (cs : List Column) (s : Spot) (x : List Cell × Spot) → IsBytes s.rest → columns_at cs s ≡ Ok x → Takes s (cells_bytes x.0) x.1 × AllInForm cs x.0 x.1.rest
columns_take [] s x fits e = subst (λ (y : List Cell × Spot). Takes s (cells_bytes y.0) y.1 × AllInForm [] y.0 y.1.rest) (ok_is ([], s) x e) (record { parts = refl; rest_fits = fits; place_is = omega arith }, tt)
columns_take (c ∷ cs) s x fits e =
    let a = bind_ok (column_at c s) (λ cell. columns_at cs cell.1 >>= λ cells. Ok (cell.0 ∷ cells.0, cells.1)) x e in
    let b = bind_ok (columns_at cs a.0.1) (λ cells. Ok (a.0.0 ∷ cells.0, cells.1)) x a.2 in
    let first = column_takes c s a.0 fits a.1 in
    let others = columns_take cs a.0.1 b.0 first.0.rest_fits b.1 in
    let both = Takes-then s (cell_bytes a.0.0) a.0.1 (cells_bytes b.0.0) b.0.1 first.0 others.0 in
    let form : InForm c a.0.0 (cells_bytes b.0.0 ++ b.0.1.rest) = subst (λ (r : List ℕ). InForm c a.0.0 r) others.0.parts first.1 in
    subst (λ (y : List Cell × Spot). Takes s (cells_bytes y.0) y.1 × AllInForm (c ∷ cs) y.0 y.1.rest) (ok_is (a.0.0 ∷ b.0.0, b.0.1) x b.2) (both, (form, others.1))

pub columns_again : (cs : List Column) (xs : List Cell) (place : ℕ) (rest : List ℕ) → AllInForm cs xs rest → (q : ℕ) × (columns_at cs (spot place (cells_bytes xs ++ rest)) ≡ Ok (xs, spot q rest)) × (q ≡ place + length (cells_bytes xs))
columns_again [] [] place rest h = (place, refl, omega arith)
columns_again (c ∷ cs) (x ∷ xs) place rest h =
    let one = column_again c x place (cells_bytes xs ++ rest) h.0 in
    let others = columns_again cs xs one.0 rest h.1 in
    (others.0, rw (append_assoc (cell_bytes x) (cells_bytes xs) rest, one.1, others.1) refl, omega (arith, one.2, others.2, length-append (cell_bytes x) (cells_bytes xs)))
columns_again cs xs place rest h = absurd h

-- ---- keys and values

ok_pair : {A : Type 0} (x y : A) → done x ≡ done y → x ≡ y
ok_pair x y e = ok_is x y e

pub framed_takes : (cs : List Column) (s : Spot) (x : List Cell × Spot) → IsBytes s.rest → framed_at cs s ≡ Ok x → Takes s (counted (cells_bytes x.0)) x.1 × Framed cs x.0
unfolding framed_at window_at
framed_takes cs s x fits e =
    let ends : (List Cell × Spot) → Spot → Read (List Cell) = λ cells after. cond (length cells.1.rest == 0) (Ok (cells.0, after)) (Err (error.Extra cells.1.place)) in
    let w = bind_ok (number_at w32 s >>= λ n. bytes_at n.0 n.1 >>= λ t. Ok (spot n.1.place t.0, t.1)) (λ w. columns_at cs w.0 >>= λ cells. ends cells w.1) x e in
    let n = bind_ok (number_at w32 s) (λ n. bytes_at n.0 n.1 >>= λ t. Ok (spot n.1.place t.0, t.1)) w.0 w.1 in
    let t = bind_ok (bytes_at n.0.0 n.0.1) (λ t. Ok (spot n.0.1.place t.0, t.1)) w.0 n.2 in
    let c = bind_ok (columns_at cs w.0.0) (λ cells. ends cells w.0.1) x w.2 in
    let g = passed_ok (length c.0.1.rest == 0) (error.Extra c.0.1.place) (c.0.0, w.0.1) x c.2 in
    let first = number_takes w32 (2 ^ 32) wide32 s n.0 fits n.1 in
    let second = bytes_take n.0.0 n.0.1 t.0 first.0.rest_fits t.1 in
    let is : (spot n.0.1.place t.0.0, t.0.1) ≡ w.0 = ok_pair (spot n.0.1.place t.0.0, t.0.1) w.0 t.2 in
    let inner : t.0.0 ≡ w.0.0.rest = ap (λ (p : Spot × Spot). p.0.rest) is in
    let after : t.0.1 ≡ w.0.1 = ap (λ (p : Spot × Spot). p.1) is in
    let cells = columns_take cs w.0.0 c.0 (subst IsBytes inner second.2) c.1 in
    let nothing : c.0.1.rest ≡ [] = nil_from_length c.0.1.rest (eqb-true _ _ g.0) in
    let whole : t.0.0 ≡ cells_bytes c.0.0 = inner ∙ cells.0.parts ∙ ap (λ (r : List ℕ). cells_bytes c.0.0 ++ r) nothing ∙ append-nil (cells_bytes c.0.0) in
    let both = Takes-then s (to_be_bytes w32 n.0.0) n.0.1 t.0.0 t.0.1 first.0 second.0 in
    let len : n.0.0 ≡ length (cells_bytes c.0.0) = sym second.1 ∙ ap length whole in
    let taken : Takes s (counted (cells_bytes c.0.0)) t.0.1 = subst (λ (b : List ℕ). Takes s b t.0.1) (ap (λ (k : ℕ). to_be_bytes w32 k ++ t.0.0) len ∙ ap (λ (b : List ℕ). to_be_bytes w32 (length (cells_bytes c.0.0)) ++ b) whole) both in
    let form : AllInForm cs c.0.0 [] = subst (λ (r : List ℕ). AllInForm cs c.0.0 r) nothing cells.1 in
    subst (λ (y : List Cell × Spot). Takes s (counted (cells_bytes y.0)) y.1 × Framed cs y.0) g.1
    (subst (λ (a : Spot). Takes s (counted (cells_bytes c.0.0)) a) after taken, record { each = form; short = omega (arith, first.1, len) })

pub framed_again : (cs : List Column) (xs : List Cell) (place : ℕ) (rest : List ℕ) → Framed cs xs → (q : ℕ) × (framed_at cs (spot place (counted (cells_bytes xs) ++ rest)) ≡ Ok (xs, spot q rest)) × (q ≡ place + length (counted (cells_bytes xs)))
unfolding framed_at window_at
framed_again cs xs place rest h =
    let bytes = cells_bytes xs in
    let cells = columns_again cs xs (place + 4) [] h.each in
    let inner : columns_at cs (spot (place + 4) bytes) ≡ Ok (xs, spot cells.0 []) = ap (λ (b : List ℕ). columns_at cs (spot (place + 4) b)) (sym (append-nil bytes)) ∙ cells.1 in (
      (place + 4) + length bytes,
      rw (append_assoc (to_be_bytes w32 (length bytes)) bytes rest, number_again w32 (2 ^ 32) wide32 (length bytes) place (bytes ++ rest) h.short, bytes_again bytes (length bytes) (place + 4) rest refl, inner) refl,
      omega (arith, length-append (to_be_bytes w32 (length bytes)) bytes),
    )

-- ---- changes

kind_named : (k j : RowKind) (n : ℕ) → Some j ≡ Some k → n ≡ kind_number j → kind_number k ≡ n
kind_named k j n e is = ap kind_number (let same : k ≡ j = cc in same) ∙ sym is

pub kind_is : (n : ℕ) (k : RowKind) → kind_of_number n ≡ Some k → kind_number k ≡ n
kind_is n k e =
    elim (chosen (n == 1) (Some kind.Store) (cond (n == 2) (Some kind.Account) (cond (n == 3) (Some kind.Generation) (cond (n == 4) (Some kind.Item) (cond (n == 17) (Some kind.Owner) (cond (n == 18) (Some kind.Set) (cond (n == 19) (Some kind.Local) None)))))) (Some k) e) [
      | inl p ↦ kind_named k kind.Store n p.1 (eqb-true n 1 p.0)
      | inr a ↦ elim (chosen (n == 2) (Some kind.Account) (cond (n == 3) (Some kind.Generation) (cond (n == 4) (Some kind.Item) (cond (n == 17) (Some kind.Owner) (cond (n == 18) (Some kind.Set) (cond (n == 19) (Some kind.Local) None))))) (Some k) a.1) [
        | inl p ↦ kind_named k kind.Account n p.1 (eqb-true n 2 p.0)
        | inr b ↦ elim (chosen (n == 3) (Some kind.Generation) (cond (n == 4) (Some kind.Item) (cond (n == 17) (Some kind.Owner) (cond (n == 18) (Some kind.Set) (cond (n == 19) (Some kind.Local) None)))) (Some k) b.1) [
          | inl p ↦ kind_named k kind.Generation n p.1 (eqb-true n 3 p.0)
          | inr c ↦ elim (chosen (n == 4) (Some kind.Item) (cond (n == 17) (Some kind.Owner) (cond (n == 18) (Some kind.Set) (cond (n == 19) (Some kind.Local) None))) (Some k) c.1) [
            | inl p ↦ kind_named k kind.Item n p.1 (eqb-true n 4 p.0)
            | inr d ↦ elim (chosen (n == 17) (Some kind.Owner) (cond (n == 18) (Some kind.Set) (cond (n == 19) (Some kind.Local) None)) (Some k) d.1) [
              | inl p ↦ kind_named k kind.Owner n p.1 (eqb-true n 17 p.0)
              | inr f ↦ elim (chosen (n == 18) (Some kind.Set) (cond (n == 19) (Some kind.Local) None) (Some k) f.1) [
                | inl p ↦ kind_named k kind.Set n p.1 (eqb-true n 18 p.0)
                | inr g ↦ elim (chosen (n == 19) (Some kind.Local) None (Some k) g.1) [
                  | inl p ↦ kind_named k kind.Local n p.1 (eqb-true n 19 p.0)
                  | inr h ↦ absurd (let never : None ≡ Some k = h.1 in cc)
                ]
              ]
            ]
          ]
        ]
      ]
    ]

pub op_takes : (s : Spot) (x : Bool × Spot) → IsBytes s.rest → op_at s ≡ Ok x → Takes s (flag_byte x.0 ∷ []) x.1
unfolding op_at
op_takes s x fits e =
    let a = bind_ok (byte_at s) (λ b. cond (b.0 == 0) (Ok (false, b.1)) (cond (b.0 == 1) (Ok (true, b.1)) (Err (error.Kind s.place)))) x e in
    let t = byte_takes s a.0 fits a.1 in
    elim (chosen (a.0.0 == 0) (done (false, a.0.1)) (cond (a.0.0 == 1) (Ok (true, a.0.1)) (Err (error.Kind s.place))) (Ok x) a.2) [
      | inl p ↦ (let zero_byte : a.0.0 ≡ 0 = eqb-true a.0.0 0 p.0 in
          subst (λ (y : Bool × Spot). Takes s (flag_byte y.0 ∷ []) y.1) (ok_is (false, a.0.1) x p.1) (subst (λ (b : ℕ). Takes s (b ∷ []) a.0.1) zero_byte t))
      | inr p ↦ (let g = passed_ok (a.0.0 == 1) (error.Kind s.place) (true, a.0.1) x p.1 in
          let one_byte : a.0.0 ≡ 1 = eqb-true a.0.0 1 g.0 in
          subst (λ (y : Bool × Spot). Takes s (flag_byte y.0 ∷ []) y.1) g.1 (subst (λ (b : ℕ). Takes s (b ∷ []) a.0.1) one_byte t))
    ]

pub op_again : (b : Bool) (place : ℕ) (rest : List ℕ) → op_at (spot place (flag_byte b ∷ rest)) ≡ Ok (b, spot (place + 1) rest)
unfolding op_at
op_again false place rest = rw (byte_again 0 place rest) refl
op_again true place rest = rw (byte_again 1 place rest) refl

pub kind_or_ok : (o : Option RowKind) (s t : Spot) (x : RowKind × Spot) → kind_or o s t ≡ Ok x → (o ≡ Some x.0) × (t ≡ x.1)
kind_or_ok (Some k) s t x e = let p = ok_is (k, t) x e in (ap (λ (y : RowKind × Spot). Some y.0) p, ap (λ (y : RowKind × Spot). y.1) p)
kind_or_ok None s t x e = absurd cc

pub kind_takes : (s : Spot) (x : RowKind × Spot) → IsBytes s.rest → kind_at s ≡ Ok x → Takes s (kind_number x.0 ∷ []) x.1
unfolding kind_at
kind_takes s x fits e =
    let a = bind_ok (byte_at s) (λ b. kind_or (kind_of_number b.0) s b.1) x e in
    let t = byte_takes s a.0 fits a.1 in
    let k = kind_or_ok (kind_of_number a.0.0) s a.0.1 x a.2 in
    subst (λ (y : Spot). Takes s (kind_number x.0 ∷ []) y) k.1 (subst (λ (b : ℕ). Takes s (b ∷ []) a.0.1) (sym (kind_is a.0.0 x.0 k.0)) t)

pub kind_numbered : (k : RowKind) → kind_of_number (kind_number k) ≡ Some k
kind_numbered kind.Store = refl
kind_numbered kind.Account = refl
kind_numbered kind.Generation = refl
kind_numbered kind.Item = refl
kind_numbered kind.Owner = refl
kind_numbered kind.Set = refl
kind_numbered kind.Local = refl

pub kind_again : (k : RowKind) (place : ℕ) (rest : List ℕ) → kind_at (spot place (kind_number k ∷ rest)) ≡ Ok (k, spot (place + 1) rest)
unfolding kind_at
kind_again k place rest = rw (byte_again (kind_number k) place rest, kind_numbered k) refl

pub entry_takes : (s : Spot) (x : Entry × Spot) → IsBytes s.rest → entry_at s ≡ Ok x → Takes s (entry_bytes x.0) x.1 × EntryInForm x.0
unfolding entry_at
entry_takes s x fits e =
    let last : Bool → RowKind → (List Cell × Spot) → Read Entry = λ op kind key. cond op (framed_at (value_columns kind) key.1 >>= λ value. Ok (put kind key.0 value.0, value.1)) (Ok (remove kind key.0, key.1)) in
    let o = bind_ok (op_at s) (λ op. kind_at op.1 >>= λ kind. framed_at (key_columns kind.0) kind.1 >>= λ key. last op.0 kind.0 key) x e in
    let k = bind_ok (kind_at o.0.1) (λ kind. framed_at (key_columns kind.0) kind.1 >>= λ key. last o.0.0 kind.0 key) x o.2 in
    let f = bind_ok (framed_at (key_columns k.0.0) k.0.1) (λ key. last o.0.0 k.0.0 key) x k.2 in
    let a = op_takes s o.0 fits o.1 in
    let b = kind_takes o.0.1 k.0 a.rest_fits k.1 in
    let c = framed_takes (key_columns k.0.0) k.0.1 f.0 b.rest_fits f.1 in
    let ab = Takes-then s (flag_byte o.0.0 ∷ []) o.0.1 (kind_number k.0.0 ∷ []) k.0.1 a b in
    let abc = Takes-then s ((flag_byte o.0.0 ∷ []) ++ (kind_number k.0.0 ∷ [])) k.0.1 (counted (cells_bytes f.0.0)) f.0.1 ab c.0 in
    elim (chosen o.0.0 (framed_at (value_columns k.0.0) f.0.1 >>= λ value. Ok (put k.0.0 f.0.0 value.0, value.1)) (Ok (remove k.0.0 f.0.0, f.0.1)) (Ok x) f.2) [
      | inl p ↦ (let v = bind_ok (framed_at (value_columns k.0.0) f.0.1) (λ value. Ok (put k.0.0 f.0.0 value.0, value.1)) x p.1 in
          let d = framed_takes (value_columns k.0.0) f.0.1 v.0 c.0.rest_fits v.1 in
          let all = Takes-then s (((flag_byte o.0.0 ∷ []) ++ (kind_number k.0.0 ∷ [])) ++ counted (cells_bytes f.0.0)) f.0.1 (counted (cells_bytes v.0.0)) v.0.1 abc d.0 in
          subst (λ (y : Entry × Spot). Takes s (entry_bytes y.0) y.1 × EntryInForm y.0) (ok_is (put k.0.0 f.0.0 v.0.0, v.0.1) x v.2)
          (subst (λ (op : Bool). Takes s (flag_byte op ∷ kind_number k.0.0 ∷ (counted (cells_bytes f.0.0) ++ counted (cells_bytes v.0.0))) v.0.1) p.0 all, (c.1, d.1)))
      | inr p ↦ subst (λ (y : Entry × Spot). Takes s (entry_bytes y.0) y.1 × EntryInForm y.0) (ok_is (remove k.0.0 f.0.0, f.0.1) x p.1)
          (subst (λ (op : Bool). Takes s (flag_byte op ∷ kind_number k.0.0 ∷ counted (cells_bytes f.0.0)) f.0.1) p.0 abc, c.1)
    ]

pub entry_again : (x : Entry) (place : ℕ) (rest : List ℕ) → EntryInForm x → (q : ℕ) × (entry_at (spot place (entry_bytes x ++ rest)) ≡ Ok (x, spot q rest)) × (q ≡ place + length (entry_bytes x))
unfolding entry_at
entry_again (put kind key value) place rest h =
    let k = framed_again (key_columns kind) key ((place + 1) + 1) (counted (cells_bytes value) ++ rest) h.0 in
    let v = framed_again (value_columns kind) value k.0 rest h.1 in
    (v.0, rw (append_assoc (counted (cells_bytes key)) (counted (cells_bytes value)) rest, op_again true place (kind_number kind ∷ (counted (cells_bytes key) ++ (counted (cells_bytes value) ++ rest))), kind_again kind (place + 1) (counted (cells_bytes key) ++ (counted (cells_bytes value) ++ rest)), k.1, v.1) refl, omega (arith, k.2, v.2, length-append (counted (cells_bytes key)) (counted (cells_bytes value))))
entry_again (remove kind key) place rest h =
    let k = framed_again (key_columns kind) key ((place + 1) + 1) rest h in
    (k.0, rw (op_again false place (kind_number kind ∷ (counted (cells_bytes key) ++ rest)), kind_again kind (place + 1) (counted (cells_bytes key) ++ rest), k.1) refl, omega (arith, k.2))

pub entry_some : (x : Entry) → 0 < length (entry_bytes x)
entry_some (put kind key value) = omega arith
entry_some (remove kind key) = omega arith

entries_take : (n : ℕ) (s : Spot) (es : List Entry) → IsBytes s.rest → length s.rest ≤ n → entries_at n s ≡ Ok es → (s.rest ≡ entries_bytes es) × AllByRecursion EntryInForm es
unfolding entries_at
entries_take zero s es fits le e =
    subst (λ (y : List Entry). (s.rest ≡ entries_bytes y) × AllByRecursion EntryInForm y) (ok_is [] es e) (nil_from_length s.rest (omega arith), tt)
entries_take (suc n) s es fits le e =
    elim (chosen (length s.rest == 0) (done []) (entry_at s >>= λ x. entries_at n x.1 >>= λ xs. Ok (x.0 ∷ xs)) (Ok es) e) [
      | inl p ↦ subst (λ (y : List Entry). (s.rest ≡ entries_bytes y) × AllByRecursion EntryInForm y) (ok_is [] es p.1) (nil_from_length s.rest (eqb-true _ _ p.0), tt)
      | inr p ↦ (
          let a = bind_ok (entry_at s) (λ x. entries_at n x.1 >>= λ xs. Ok (x.0 ∷ xs)) es p.1 in
          let b = bind_ok (entries_at n a.0.1) (λ xs. Ok (a.0.0 ∷ xs)) es a.2 in
          let first = entry_takes s a.0 fits a.1 in
          let shorter : length a.0.1.rest ≤ n = omega (arith, ap length first.0.parts, length-append (entry_bytes a.0.0) a.0.1.rest, entry_some a.0.0) in
          let others = entries_take n a.0.1 b.0 first.0.rest_fits shorter b.1 in
          subst (λ (y : List Entry). (s.rest ≡ entries_bytes y) × AllByRecursion EntryInForm y) (ok_is (a.0.0 ∷ b.0) es b.2)
          (first.0.parts ∙ ap (λ (r : List ℕ). entry_bytes a.0.0 ++ r) others.0 ∙ sym (flat_map-cons entry_bytes a.0.0 b.0), (first.1, others.1)))
    ]

entries_again : (es : List Entry) (n place : ℕ) → length (entries_bytes es) ≤ n → AllByRecursion EntryInForm es → entries_at n (spot place (entries_bytes es)) ≡ Ok es
unfolding entries_at
entries_again [] zero place le h = refl
entries_again [] (suc n) place le h = refl
entries_again (x ∷ xs) zero place le h = absurd (omega (arith, ap length (flat_map-cons entry_bytes x xs), length-append (entry_bytes x) (entries_bytes xs), entry_some x))
entries_again (x ∷ xs) (suc n) place le h =
    let len = length-append (entry_bytes x) (entries_bytes xs) in
    let whole = flat_map-cons entry_bytes x xs in
    let some = entry_some x in
    let one = entry_again x place (entries_bytes xs) h.0 in
    let others = entries_again xs n one.0 (omega (arith, ap length whole, len, some)) h.1 in
    let more : (length (entry_bytes x ++ entries_bytes xs) == 0) ≡ false = ne_eqb (length (entry_bytes x ++ entries_bytes xs)) 0 (λ z. absurd (omega (arith, len, some))) in
    ap (λ (b : List ℕ). entries_at (suc n) (spot place b)) whole ∙ rw (more, one.1, others) refl

-- what is read is spelled so, and in form
pub payload_takes : (bytes : List ℕ) (es : List Entry) → IsBytes bytes → payload_at bytes ≡ Ok es → (bytes ≡ entries_bytes es) × AllByRecursion EntryInForm es
payload_takes bytes es fits e = entries_take (length bytes) (spot 0 bytes) es fits (omega arith) e

-- what is spelled in form is read again
pub payload_again : (es : List Entry) → AllByRecursion EntryInForm es → payload_at (entries_bytes es) ≡ Ok es
payload_again es h = entries_again es (length (entries_bytes es)) 0 (omega arith) h

-- What is read of a field is the field that is spelled so, and what is spelled is read again.
use Rattle.std.proofs.Common.{◌≡◌, ℕ, zero, suc, ◌+◌, ◌^◌, ◌<◌, ◌≤◌, Bool, true, false, cond, ltb, List, [], ◌∷◌, ◌++◌, length, get_or, take, drop, Option, Some, None, Result, Ok, Err, refl, sym, ap, subst, ◌∙◌, append_assoc, arith, inl, inr, ◌&&◌}
use Rattle.std.specs.Prelude.{IfSome, IsTrue, nat_le, ◌⊎◌, ◌==◌, slice_index_or}
use Rattle.std.specs.Int.{Width, w32, w64, byte_len, from_be_bytes, to_be_bytes}
use Rattle.std.proofs.lemmas.Bool.{cases_lt, ltb-false, le-ltb, leb-true, le-leb, eqb-true, eqb-false, ne_eqb}
use Rattle.std.proofs.lemmas.List.{take_at, drop_at, take-append-drop, length-append, length-take, get_or-drop, get_or-take, get_or_past}
use Rattle.std.proofs.lemmas.Nat.{be_bytes_4, be_bytes_8, from_be_bytes-to_be_bytes_4, from_be_bytes-to_be_bytes_8}
use Rattle.sn_rows.specs.Bounds.{last_stamp, is_type_or_empty}
use Rattle.sn_rows.specs.Cells.{base_bytes, counted, flag_byte, slot_byte, is_undeleted}
use Rattle.sn_rows.specs.Reading.{◌>>=◌, Read, Spot, spot, past, bytes_at, number_at, byte_at, stamp_at, cost_at, text_at, type_at, flag_at, slot_at, base_at}
use Rattle.sn_rows.specs.declared.key.Slot.{Slot}
use Rattle.sn_rows.specs.declared.key.Slot.TheVariants.{Present, Older, Asked}
use Rattle.sn_rows.specs.declared.error.RowError.{RowError}
use Rattle.sn_rows.specs.declared.error.RowError.TheVariants as error

-- the value of a step that did not fail
pub bind_ok : {A B : Type 0} (r : Result A RowError) (f : A → Result B RowError) (y : B) → (r >>= f) ≡ Ok y → (x : A) × (r ≡ Ok x) × (f x ≡ Ok y)
bind_ok (Ok x) f y e = (x, refl, e)
bind_ok (Err d) f y e = absurd cc

-- a test that did not fail
pub guard_ok : {A : Type 0} (b : Bool) (d : RowError) (x y : A) → cond b (Err d) (Ok x) ≡ Ok y → (b ≡ false) × (x ≡ y)
guard_ok true d x y e = absurd cc
guard_ok false d x y e = (refl, cc)

pub passed_ok : {A : Type 0} (b : Bool) (d : RowError) (x y : A) → cond b (Ok x) (Err d) ≡ Ok y → (b ≡ true) × (x ≡ y)
passed_ok true d x y e = (refl, cc)
passed_ok false d x y e = absurd cc

abbrev pub done : {A : Type 0} → A → Result A RowError
done x = Ok x

pub ok_is : {A : Type 0} (x y : A) → done x ≡ done y → x ≡ y
ok_is x y e = cc

positive : (n : ℕ) → (n == 0) ≡ false → 1 ≤ n
positive zero e = absurd cc
positive (suc n) e = omega arith

-- which way a choice went
pub chosen : {A : Type 0} (b : Bool) (x y z : A) → cond b x y ≡ z → ((b ≡ true) × (x ≡ z)) ⊎ ((b ≡ false) × (y ≡ z))
chosen true x y z e = inl (refl, e)
chosen false x y z e = inr (refl, e)

-- an empty type, two stamps behind which stands no flag of deletion
pub type_stands : (kind rest one two : List ℕ) → one ≡ drop 8 rest → two ≡ drop 8 one → slice_index_or two 0 1 ≡ 0 → ((length kind == 0) && is_undeleted rest) ≡ false → 1 ≤ length kind
type_stands [] rest one two a b flag stands =
    let there : slice_index_or rest 16 1 ≡ 0 = sym (rw (b, a, get_or-drop, get_or-drop) refl) ∙ flag in
    absurd (eqb-false (slice_index_or rest 16 1) 0 stands there)
type_stands (k ∷ kind) rest one two a b flag stands = omega arith

-- ---- bytes

abbrev pub IsBytes : List ℕ → Type 0
IsBytes bytes = (i : ℕ) → get_or bytes i 0 < 256

IsBytes-drop : (n : ℕ) (bytes : List ℕ) → IsBytes bytes → IsBytes (drop n bytes)
IsBytes-drop n bytes h i = rw get_or-drop (h (n + i))

IsBytes-take : (n : ℕ) (bytes : List ℕ) → IsBytes bytes → IsBytes (take n bytes)
IsBytes-take n bytes h i =
    elim (cases_lt i n) [
      | inl lt ↦ rw (get_or-take n bytes i 0 lt) (h i)
      | inr le ↦ rw (get_or_past (take n bytes) i 0 (omega (arith, length-take n bytes))) (omega arith)
    ]

-- what a reader took from the front
pub record Takes (s : Spot) (text : List ℕ) (t : Spot) : Type 0 where
  pub parts : s.rest ≡ text ++ t.rest
  pub rest_fits : IsBytes t.rest
  pub place_is : t.place ≡ s.place + length text

pub Takes-then : (a : Spot) (x : List ℕ) (b : Spot) (y : List ℕ) (c : Spot) → Takes a x b → Takes b y c → Takes a (x ++ y) c
Takes-then a x b y c p q = record { parts = p.parts ∙ ap (λ (t : List ℕ). x ++ t) q.parts ∙ sym (append_assoc x y c.rest); rest_fits = q.rest_fits; place_is = omega (arith, p.place_is, q.place_is, length-append x y) }

-- ---- numbers

pub record IsWide (w : Width) (limit : ℕ) : Type 0 where
  pub len : (n : ℕ) → length (to_be_bytes w n) ≡ byte_len w
  pub back : (bytes : List ℕ) → length bytes ≡ byte_len w → IsBytes bytes → to_be_bytes w (from_be_bytes w bytes) ≡ bytes
  pub again : (n : ℕ) → n < limit → from_be_bytes w (to_be_bytes w n) ≡ n
  pub below : (bytes : List ℕ) → IsBytes bytes → from_be_bytes w bytes < limit

pub wide32 : IsWide w32 (2 ^ 32)
wide32 = record {
  len = λ n. refl;
  back = λ bytes len fits. be_bytes_4 bytes _ len fits refl;
  again = λ n lt. from_be_bytes-to_be_bytes_4 n lt;
  below = λ bytes fits. omega (arith, fits 0, fits 1, fits 2, fits 3);
}

pub wide64 : IsWide w64 (2 ^ 64)
wide64 = record {
  len = λ n. refl;
  back = λ bytes len fits. be_bytes_8 bytes _ len fits refl;
  again = λ n lt. from_be_bytes-to_be_bytes_8 n lt;
  below = λ bytes fits. omega (arith, fits 0, fits 1, fits 2, fits 3, fits 4, fits 5, fits 6, fits 7);
}

pub number_takes : (w : Width) (limit : ℕ) (wide : IsWide w limit) (s : Spot) (x : ℕ × Spot) → IsBytes s.rest → number_at w s ≡ Ok x → Takes s (to_be_bytes w x.0) x.1 × (x.0 < limit)
unfolding number_at
number_takes w limit wide s x fits e =
    let bytes = s.rest in
    let g = guard_ok (ltb (length bytes) (byte_len w)) (error.Short s.place) (from_be_bytes w (take (byte_len w) bytes), past (byte_len w) s) x e in
    let long : byte_len w ≤ length bytes = ltb-false _ _ g.0 in
    let front : to_be_bytes w (from_be_bytes w (take (byte_len w) bytes)) ≡ take (byte_len w) bytes = wide.back (take (byte_len w) bytes) (omega (arith, length-take (byte_len w) bytes)) (IsBytes-take (byte_len w) bytes fits) in
    subst (λ (y : ℕ × Spot). Takes s (to_be_bytes w y.0) y.1 × (y.0 < limit)) g.1
    (record { parts = rw front (sym (take-append-drop (byte_len w) bytes)); rest_fits = IsBytes-drop (byte_len w) bytes fits; place_is = ap (λ (k : ℕ). s.place + k) (sym (wide.len (from_be_bytes w (take (byte_len w) bytes)))) }, wide.below (take (byte_len w) bytes) (IsBytes-take (byte_len w) bytes fits))

pub number_again : (w : Width) (limit : ℕ) (wide : IsWide w limit) (n place : ℕ) (rest : List ℕ) → n < limit → number_at w (spot place (to_be_bytes w n ++ rest)) ≡ Ok (n, spot (place + byte_len w) rest)
unfolding number_at
number_again w limit wide n place rest lt =
    let len = wide.len n in
    let long : ltb (length (to_be_bytes w n ++ rest)) (byte_len w) ≡ false = le-ltb _ _ (omega (arith, length-append (to_be_bytes w n) rest)) in
    rw (long, take_at (to_be_bytes w n) rest (byte_len w) len, drop_at (to_be_bytes w n) rest (byte_len w) len, wide.again n lt) refl

-- ---- bytes

pub bytes_take : (count : ℕ) (s : Spot) (x : List ℕ × Spot) → IsBytes s.rest → bytes_at count s ≡ Ok x → Takes s x.0 x.1 × (length x.0 ≡ count) × IsBytes x.0
unfolding bytes_at
bytes_take count s x fits e =
    let g = guard_ok (ltb (length s.rest) count) (error.Short s.place) (take count s.rest, past count s) x e in
    let long : count ≤ length s.rest = ltb-false _ _ g.0 in
    subst (λ (y : List ℕ × Spot). Takes s y.0 y.1 × (length y.0 ≡ count) × IsBytes y.0) g.1
    (record { parts = sym (take-append-drop count s.rest); rest_fits = IsBytes-drop count s.rest fits; place_is = omega (arith, length-take count s.rest) }, omega (arith, length-take count s.rest), IsBytes-take count s.rest fits)

pub bytes_again : (bytes : List ℕ) (count place : ℕ) (rest : List ℕ) → length bytes ≡ count → bytes_at count (spot place (bytes ++ rest)) ≡ Ok (bytes, spot (place + count) rest)
unfolding bytes_at
bytes_again bytes count place rest len =
    let long : ltb (length (bytes ++ rest)) count ≡ false = le-ltb _ _ (omega (arith, length-append bytes rest)) in
    rw (long, take_at bytes rest count len, drop_at bytes rest count len) refl

pub byte_again : (b place : ℕ) (rest : List ℕ) → byte_at (spot place (b ∷ rest)) ≡ Ok (b, spot (place + 1) rest)
unfolding byte_at
byte_again b place rest = rw (ne_eqb (suc (length rest)) 0 (λ e. absurd (omega arith))) refl

byte_takes-of : (place : ℕ) (bytes : List ℕ) (x : ℕ × Spot) → IsBytes bytes → byte_at (spot place bytes) ≡ Ok x → Takes (spot place bytes) (x.0 ∷ []) x.1
unfolding byte_at
byte_takes-of place [] x fits e = absurd cc
byte_takes-of place (b ∷ bytes) x fits e =
    let here : done (b, spot (place + 1) bytes) ≡ done x = sym (byte_again b place bytes) ∙ e in
    subst (λ (y : ℕ × Spot). Takes (spot place (b ∷ bytes)) (y.0 ∷ []) y.1) (ok_is (b, spot (place + 1) bytes) x here) (record { parts = refl; rest_fits = λ i. fits (suc i); place_is = omega arith })

pub byte_takes : (s : Spot) (x : ℕ × Spot) → IsBytes s.rest → byte_at s ≡ Ok x → Takes s (x.0 ∷ []) x.1
byte_takes s x fits e = byte_takes-of s.place s.rest x fits e

-- ---- stamps and costs

pub stamp_takes : (s : Spot) (x : ℕ × Spot) → IsBytes s.rest → stamp_at s ≡ Ok x → Takes s (to_be_bytes w64 x.0) x.1 × (x.0 ≤ last_stamp)
unfolding stamp_at
stamp_takes s x fits e =
    let a = bind_ok (number_at w64 s) (λ n. cond (nat_le n.0 last_stamp) (Ok n) (Err (error.Range s.place))) x e in
    let g = passed_ok (nat_le a.0.0 last_stamp) (error.Range s.place) a.0 x a.2 in
    let t = number_takes w64 (2 ^ 64) wide64 s a.0 fits a.1 in
    subst (λ (y : ℕ × Spot). Takes s (to_be_bytes w64 y.0) y.1 × (y.0 ≤ last_stamp)) g.1 (t.0, leb-true a.0.0 last_stamp g.0)

pub stamp_again : (n place : ℕ) (rest : List ℕ) → n ≤ last_stamp → stamp_at (spot place (to_be_bytes w64 n ++ rest)) ≡ Ok (n, spot (place + 8) rest)
unfolding stamp_at
stamp_again n place rest le = rw (number_again w64 (2 ^ 64) wide64 n place rest (omega arith), le-leb n last_stamp le) refl

pub cost_takes : (s : Spot) (x : ℕ × Spot) → IsBytes s.rest → cost_at s ≡ Ok x → Takes s (to_be_bytes w32 x.0) x.1 × (1 ≤ x.0) × (x.0 < 2 ^ 32)
unfolding cost_at
cost_takes s x fits e =
    let a = bind_ok (number_at w32 s) (λ n. cond (n.0 == 0) (Err (error.Range s.place)) (Ok n)) x e in
    let g = guard_ok (a.0.0 == 0) (error.Range s.place) a.0 x a.2 in
    let t = number_takes w32 (2 ^ 32) wide32 s a.0 fits a.1 in
    let some : 1 ≤ a.0.0 = positive a.0.0 g.0 in
    subst (λ (y : ℕ × Spot). Takes s (to_be_bytes w32 y.0) y.1 × (1 ≤ y.0) × (y.0 < 2 ^ 32)) g.1 (t.0, some, t.1)

pub cost_again : (n place : ℕ) (rest : List ℕ) → 1 ≤ n → n < 2 ^ 32 → cost_at (spot place (to_be_bytes w32 n ++ rest)) ≡ Ok (n, spot (place + 4) rest)
unfolding cost_at
cost_again n place rest some lt = rw (number_again w32 (2 ^ 32) wide32 n place rest lt, ne_eqb n 0 (λ e. absurd (omega arith))) refl

-- ---- texts

counted_takes : (s : Spot) (n : ℕ × Spot) (t : List ℕ × Spot) → IsBytes s.rest → number_at w32 s ≡ Ok n → bytes_at n.0 n.1 ≡ Ok t → Takes s (counted t.0) t.1 × (length t.0 < 2 ^ 32) × IsBytes t.0
counted_takes s n t fits a b =
    let first = number_takes w32 (2 ^ 32) wide32 s n fits a in
    let second = bytes_take n.0 n.1 t first.0.rest_fits b in
    let both = Takes-then s (to_be_bytes w32 n.0) n.1 t.0 t.1 first.0 second.0 in
    (subst (λ (k : ℕ). Takes s (to_be_bytes w32 k ++ t.0) t.1) (sym second.1) both, omega (arith, first.1, second.1), second.2)

-- a text that is spelled so is read as its length and its bytes
counted_again : (t : List ℕ) (place : ℕ) (rest : List ℕ) → length t < 2 ^ 32
    → (number_at w32 (spot place (counted t ++ rest)) ≡ Ok (length t, spot (place + 4) (t ++ rest))) × (bytes_at (length t) (spot (place + 4) (t ++ rest)) ≡ Ok (t, spot ((place + 4) + length t) rest))
counted_again t place rest lt = (
  ap (λ (x : List ℕ). number_at w32 (spot place x)) (append_assoc (to_be_bytes w32 (length t)) t rest) ∙ number_again w32 (2 ^ 32) wide32 (length t) place (t ++ rest) lt,
  bytes_again t (length t) (place + 4) rest refl,
)

pub text_takes : (test : List ℕ → Bool) (s : Spot) (x : List ℕ × Spot) → IsBytes s.rest → text_at test s ≡ Ok x → Takes s (counted x.0) x.1 × IsTrue (test x.0) × (length x.0 < 2 ^ 32)
unfolding text_at
text_takes test s x fits e =
    let a = bind_ok (number_at w32 s) (λ n. bytes_at n.0 n.1 >>= λ t. cond (test t.0) (Ok t) (Err (error.Range n.1.place))) x e in
    let b = bind_ok (bytes_at a.0.0 a.0.1) (λ t. cond (test t.0) (Ok t) (Err (error.Range a.0.1.place))) x a.2 in
    let g = passed_ok (test b.0.0) (error.Range a.0.1.place) b.0 x b.2 in
    let t = counted_takes s a.0 b.0 fits a.1 b.1 in
    subst (λ (y : List ℕ × Spot). Takes s (counted y.0) y.1 × IsTrue (test y.0) × (length y.0 < 2 ^ 32)) g.1 (t.0, g.0, t.1)

pub text_again : (test : List ℕ → Bool) (t : List ℕ) (place : ℕ) (rest : List ℕ) → IsTrue (test t) → length t < 2 ^ 32 → text_at test (spot place (counted t ++ rest)) ≡ Ok (t, spot ((place + 4) + length t) rest)
unfolding text_at
text_again test t place rest passes lt =
    let two = counted_again t place rest lt in
    ap (λ (r : Read ℕ). r >>= λ n. bytes_at n.0 n.1 >>= λ t. cond (test t.0) (Ok t) (Err (error.Range n.1.place))) two.0
    ∙ ap (λ (r : Read (List ℕ)). r >>= λ t. cond (test t.0) (Ok t) (Err (error.Range (place + 4)))) two.1
    ∙ rw passes refl

pub type_takes : (s : Spot) (x : List ℕ × Spot) → IsBytes s.rest → type_at s ≡ Ok x → Takes s (counted x.0) x.1 × IsTrue (is_type_or_empty x.0) × (length x.0 < 2 ^ 32) × (((length x.0 == 0) && is_undeleted x.1.rest) ≡ false)
unfolding type_at
type_takes s x fits e =
    let a = bind_ok (number_at w32 s) (λ n. bytes_at n.0 n.1 >>= λ t. cond (is_type_or_empty t.0) (cond ((length t.0 == 0) && is_undeleted t.1.rest) (Err (error.Range n.1.place)) (Ok t)) (Err (error.Range n.1.place))) x e in
    let b = bind_ok (bytes_at a.0.0 a.0.1) (λ t. cond (is_type_or_empty t.0) (cond ((length t.0 == 0) && is_undeleted t.1.rest) (Err (error.Range a.0.1.place)) (Ok t)) (Err (error.Range a.0.1.place))) x a.2 in
    let t = counted_takes s a.0 b.0 fits a.1 b.1 in
    elim (chosen (is_type_or_empty b.0.0) (cond ((length b.0.0 == 0) && is_undeleted b.0.1.rest) (Err (error.Range a.0.1.place)) (Ok b.0)) (Err (error.Range a.0.1.place)) (Ok x) b.2) [
      | inl p ↦ (let g = guard_ok ((length b.0.0 == 0) && is_undeleted b.0.1.rest) (error.Range a.0.1.place) b.0 x p.1 in
          subst (λ (y : List ℕ × Spot). Takes s (counted y.0) y.1 × IsTrue (is_type_or_empty y.0) × (length y.0 < 2 ^ 32) × (((length y.0 == 0) && is_undeleted y.1.rest) ≡ false)) g.1 (t.0, p.0, t.1, g.0))
      | inr p ↦ absurd (let never : Err (error.Range a.0.1.place) ≡ Ok x = p.1 in cc)
    ]

pub type_again : (t : List ℕ) (place : ℕ) (rest : List ℕ) → IsTrue (is_type_or_empty t) → length t < 2 ^ 32 → ((length t == 0) && is_undeleted rest) ≡ false → type_at (spot place (counted t ++ rest)) ≡ Ok (t, spot ((place + 4) + length t) rest)
unfolding type_at
type_again t place rest passes lt stands =
    let two = counted_again t place rest lt in
    ap (λ (r : Read ℕ). r >>= λ n. bytes_at n.0 n.1 >>= λ t. cond (is_type_or_empty t.0) (cond ((length t.0 == 0) && is_undeleted t.1.rest) (Err (error.Range n.1.place)) (Ok t)) (Err (error.Range n.1.place))) two.0
    ∙ ap (λ (r : Read (List ℕ)). r >>= λ t. cond (is_type_or_empty t.0) (cond ((length t.0 == 0) && is_undeleted t.1.rest) (Err (error.Range (place + 4))) (Ok t)) (Err (error.Range (place + 4)))) two.1
    ∙ rw (passes, stands) refl

-- ---- flags, sets, bases and bodies

pub flag_takes : (s : Spot) (x : Bool × Spot) → IsBytes s.rest → flag_at s ≡ Ok x → Takes s (flag_byte x.0 ∷ []) x.1
unfolding flag_at
flag_takes s x fits e =
    let a = bind_ok (byte_at s) (λ b. cond (b.0 == 0) (Ok (false, b.1)) (cond (b.0 == 1) (Ok (true, b.1)) (Err (error.Range s.place)))) x e in
    let t = byte_takes s a.0 fits a.1 in
    elim (chosen (a.0.0 == 0) (done (false, a.0.1)) (cond (a.0.0 == 1) (Ok (true, a.0.1)) (Err (error.Range s.place))) (Ok x) a.2) [
      | inl p ↦ (let zero_byte : a.0.0 ≡ 0 = eqb-true a.0.0 0 p.0 in
          subst (λ (y : Bool × Spot). Takes s (flag_byte y.0 ∷ []) y.1) (ok_is (false, a.0.1) x p.1) (subst (λ (b : ℕ). Takes s (b ∷ []) a.0.1) zero_byte t))
      | inr p ↦ (let g = passed_ok (a.0.0 == 1) (error.Range s.place) (true, a.0.1) x p.1 in
          let one_byte : a.0.0 ≡ 1 = eqb-true a.0.0 1 g.0 in
          subst (λ (y : Bool × Spot). Takes s (flag_byte y.0 ∷ []) y.1) g.1 (subst (λ (b : ℕ). Takes s (b ∷ []) a.0.1) one_byte t))
    ]

pub flag_again : (b : Bool) (place : ℕ) (rest : List ℕ) → flag_at (spot place (flag_byte b ∷ rest)) ≡ Ok (b, spot (place + 1) rest)
unfolding flag_at
flag_again false place rest = rw (byte_again 0 place rest) refl
flag_again true place rest = rw (byte_again 1 place rest) refl

pub slot_takes : (s : Spot) (x : Slot × Spot) → IsBytes s.rest → slot_at s ≡ Ok x → Takes s (slot_byte x.0 ∷ []) x.1
unfolding slot_at
slot_takes s x fits e =
    let a = bind_ok (byte_at s) (λ b. cond (b.0 == 0) (Ok (Present, b.1)) (cond (b.0 == 1) (Ok (Older, b.1)) (cond (b.0 == 2) (Ok (Asked, b.1)) (Err (error.Range s.place))))) x e in
    let t = byte_takes s a.0 fits a.1 in
    elim (chosen (a.0.0 == 0) (done (Present, a.0.1)) (cond (a.0.0 == 1) (Ok (Older, a.0.1)) (cond (a.0.0 == 2) (Ok (Asked, a.0.1)) (Err (error.Range s.place)))) (Ok x) a.2) [
      | inl p ↦ (let zero_byte : a.0.0 ≡ 0 = eqb-true a.0.0 0 p.0 in
          subst (λ (y : Slot × Spot). Takes s (slot_byte y.0 ∷ []) y.1) (ok_is (Present, a.0.1) x p.1) (subst (λ (b : ℕ). Takes s (b ∷ []) a.0.1) zero_byte t))
      | inr q ↦ elim (chosen (a.0.0 == 1) (done (Older, a.0.1)) (cond (a.0.0 == 2) (Ok (Asked, a.0.1)) (Err (error.Range s.place))) (Ok x) q.1) [
        | inl p ↦ (let one_byte : a.0.0 ≡ 1 = eqb-true a.0.0 1 p.0 in
            subst (λ (y : Slot × Spot). Takes s (slot_byte y.0 ∷ []) y.1) (ok_is (Older, a.0.1) x p.1) (subst (λ (b : ℕ). Takes s (b ∷ []) a.0.1) one_byte t))
        | inr p ↦ (let g = passed_ok (a.0.0 == 2) (error.Range s.place) (Asked, a.0.1) x p.1 in
            let two_byte : a.0.0 ≡ 2 = eqb-true a.0.0 2 g.0 in
            subst (λ (y : Slot × Spot). Takes s (slot_byte y.0 ∷ []) y.1) g.1 (subst (λ (b : ℕ). Takes s (b ∷ []) a.0.1) two_byte t))
      ]
    ]

pub slot_again : (b : Slot) (place : ℕ) (rest : List ℕ) → slot_at (spot place (slot_byte b ∷ rest)) ≡ Ok (b, spot (place + 1) rest)
unfolding slot_at
slot_again Present place rest = rw (byte_again 0 place rest) refl
slot_again Older place rest = rw (byte_again 1 place rest) refl
slot_again Asked place rest = rw (byte_again 2 place rest) refl

base_of_flag : (b : Bool) (n : ℕ) (t : Spot) (d : RowError) (x : Option ℕ × Spot) → n ≤ last_stamp → cond b (Ok (Some n, t)) (cond (n == 0) (Ok (None, t)) (Err d)) ≡ Ok x
    → ((flag_byte b ∷ to_be_bytes w64 n) ≡ base_bytes x.0) × (x.1 ≡ t) × IfSome x.0 (λ s. s ≤ last_stamp)
base_of_flag true n t d x le e =
    subst (λ (y : Option ℕ × Spot). ((1 ∷ to_be_bytes w64 n) ≡ base_bytes y.0) × (y.1 ≡ t) × IfSome y.0 (λ s. s ≤ last_stamp)) (ok_is (Some n, t) x e) (refl, refl, le)
base_of_flag false n t d x le e =
    let g = passed_ok (n == 0) d (None, t) x e in
    let none : n ≡ 0 = eqb-true n 0 g.0 in
    subst (λ (y : Option ℕ × Spot). ((0 ∷ to_be_bytes w64 n) ≡ base_bytes y.0) × (y.1 ≡ t) × IfSome y.0 (λ s. s ≤ last_stamp)) g.1 (ap (λ (k : ℕ). 0 ∷ to_be_bytes w64 k) none, refl, tt)

pub base_takes : (s : Spot) (x : Option ℕ × Spot) → IsBytes s.rest → base_at s ≡ Ok x → Takes s (base_bytes x.0) x.1 × IfSome x.0 (λ n. n ≤ last_stamp)
unfolding base_at
base_takes s x fits e =
    let a = bind_ok (flag_at s) (λ b. stamp_at b.1 >>= λ n. cond b.0 (Ok (Some n.0, n.1)) (cond (n.0 == 0) (Ok (None, n.1)) (Err (error.Range b.1.place)))) x e in
    let b = bind_ok (stamp_at a.0.1) (λ n. cond a.0.0 (Ok (Some n.0, n.1)) (cond (n.0 == 0) (Ok (None, n.1)) (Err (error.Range a.0.1.place)))) x a.2 in
    let t = flag_takes s a.0 fits a.1 in
    let u = stamp_takes a.0.1 b.0 t.rest_fits b.1 in
    let both = Takes-then s (flag_byte a.0.0 ∷ []) a.0.1 (to_be_bytes w64 b.0.0) b.0.1 t u.0 in
    let f = base_of_flag a.0.0 b.0.0 b.0.1 (error.Range a.0.1.place) x u.1 b.2 in
    (subst (λ (y : Spot). Takes s (base_bytes x.0) y) (sym f.1) (subst (λ (bytes : List ℕ). Takes s bytes b.0.1) f.0 both), f.2)

pub base_again : (o : Option ℕ) (place : ℕ) (rest : List ℕ) → IfSome o (λ n. n ≤ last_stamp) → base_at (spot place (base_bytes o ++ rest)) ≡ Ok (o, spot ((place + 1) + 8) rest)
unfolding base_at
base_again None place rest le = rw (flag_again false place (to_be_bytes w64 0 ++ rest), stamp_again 0 (place + 1) rest (omega arith)) refl
base_again (Some n) place rest le = rw (flag_again true place (to_be_bytes w64 n ++ rest), stamp_again n (place + 1) rest le) refl

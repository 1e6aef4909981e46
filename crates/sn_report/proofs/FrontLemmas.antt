-- What stands at the front of a text.
use Rattle.std.proofs.Common.{◌≡◌, ℕ, zero, suc, ◌<◌, ◌≤◌, List, [], ◌∷◌, ◌++◌, length, take, drop, get_or, Option, Some, None, Bool, true, false, refl, sym, ap, subst, ◌∙◌, inl, arith, append_assoc, append-nil}
use Rattle.std.specs.Prelude.{◌||◌, cond, if◌then◌else◌, All}
use Rattle.std.specs.Char.{encode_utf8, len_utf8}
use Rattle.std.specs.List.{starts_with}
use Rattle.std.specs.Prelude.{nat_eq}
use Rattle.std.specs.Str.{bytes_eq, IsCharBoundary, IsUtf8}
use Rattle.std.proofs.lemmas.List.{get_or-take, length-take}
use Rattle.std.proofs.lemmas.Slice.Eq.{bytes_eq-Decides}
use Rattle.std.proofs.lemmas.Str.{IsCharBoundary-after_ascii, inside_one, length-encode, len_utf8_bounds, len_utf8_ascii}
use Rattle.uuid.specs.Text.{lower, parsed}
use Rattle.uuid.proofs.RoundTrips.{parses_hyphenated}
use Rattle.uuid.proofs.TextLemmas.{by_index_length, hyphenated_ascii, same_test}
use Rattle.sn_laws.specs.Lookups.{Bytes}
use Rattle.sn_string.specs.Uuids.{uuid_text}
use Rattle.sn_report.specs.Labels.{Labels, is_labelled, label_at, label_text, one, relabelled, relabelled_from}
use Rattle.sn_report.specs.Numbers.{IsUuidBytes}
use Rattle.sn_report.proofs.NumberLemmas.{same_bytes, bytes_same}

all_first : (l : Bytes) (ls : Labels) → All IsUuidBytes (l ∷ ls) → IsUuidBytes l
all_first l ls are = are 0 l (omega arith)

all_rest : (l : Bytes) (ls : Labels) → All IsUuidBytes (l ∷ ls) → All IsUuidBytes ls
all_rest l ls are = λ k d i. are (suc k) d (omega arith)

-- a uuid's text

pub length-uuid_text : (u : Bytes) → length (uuid_text u) ≡ 36
length-uuid_text u = by_index_length 36 _

pub spelled_same : (u w : Bytes) → IsUuidBytes u → IsUuidBytes w → uuid_text u ≡ uuid_text w → u ≡ w
spelled_same u w a b e =
    let one_way : Some u ≡ parsed (uuid_text u) = parses_hyphenated lower u (inl refl) a.count a.fit in
    let other : Some w ≡ parsed (uuid_text w) = parses_hyphenated lower w (inl refl) b.count b.fit in
    let same : parsed (uuid_text u) ≡ parsed (uuid_text w) = ap parsed e in
    cc

-- a text whose first 36 bytes are the text of a uuid may be cut behind them
pub cut_behind : (text : List ℕ) (u : Bytes) → IsUtf8 text → take 36 text ≡ uuid_text u → IsCharBoundary text 36
cut_behind text u utf8 e =
    let count : length (take 36 text) ≡ 36 = ap length e ∙ length-uuid_text u in
    let long : 35 < length text = omega (arith, count, length-take 36 text) in
    let low : get_or (uuid_text u) 35 0 < 128 = hyphenated_ascii lower u (inl refl) 35 in
    let at : get_or (take 36 text) 35 0 ≡ get_or text 35 0 = get_or-take 36 text 35 0 (omega arith) in
    let is : get_or (take 36 text) 35 0 ≡ get_or (uuid_text u) 35 0 = ap (λ (xs : List ℕ). get_or xs 35 0) e in
    let small : get_or text 35 0 < 128 = omega (arith, low, at, is) in
    IsCharBoundary-after_ascii text 35 utf8 long small

-- the front of a text is the text of this uuid exactly where it is that of an equal one
starts_same : (text : List ℕ) (l w : Bytes) → IsUuidBytes l → IsUuidBytes w → take 36 text ≡ uuid_text w
    → starts_with nat_eq text (uuid_text l) ≡ bytes_eq l w
starts_same text l w a b e =
    let cut : take (length (uuid_text l)) text ≡ uuid_text w = ap (λ (n : ℕ). take n text) (length-uuid_text l) ∙ e in
    let test : starts_with nat_eq text (uuid_text l) ≡ bytes_eq (uuid_text l) (uuid_text w) = ap (bytes_eq (uuid_text l)) cut in
    test ∙ same_test (bytes_eq (uuid_text l) (uuid_text w)) (bytes_eq l w) (l ≡ w)
    (λ h. spelled_same l w a b (same_bytes (uuid_text l) (uuid_text w) h), λ h. bytes_same (uuid_text l) (uuid_text w) (ap uuid_text h))
    (bytes_eq-Decides l w)

-- the label at the front of a text, where a uuid stands there

picks : (b r : Bool) (x y z : Option (List ℕ)) → (b ≡ true → x ≡ y) → z ≡ cond r y None → cond b x z ≡ cond (b || r) y None
picks true r x y z h k = h refl
picks false r x y z h k = k

label_spelled : (all ls : Labels) (text : List ℕ) (w : Bytes) → All IsUuidBytes ls → IsUuidBytes w → take 36 text ≡ uuid_text w
    → label_at all ls text ≡ (if is_labelled ls w then Some (label_text all w) else None)
label_spelled all [] text w are b e = refl
label_spelled all (l ∷ ls) text w are b e =
    ap (λ (t : Bool). cond t (Some (label_text all l)) (label_at all ls text)) (starts_same text l w (all_first l ls are) b e)
    ∙ picks (bytes_eq l w) (is_labelled ls w) (Some (label_text all l)) (Some (label_text all w)) (label_at all ls text)
    (λ h. ap (λ (u : Bytes). Some (label_text all u)) (same_bytes l w h))
    (label_spelled all ls text w (all_rest l ls are) b e)

pub label_found : (labels : Labels) (text : List ℕ) (w : Bytes) → All IsUuidBytes labels → IsUuidBytes w → take 36 text ≡ uuid_text w
    → is_labelled labels w ≡ true → label_at labels labels text ≡ Some (label_text labels w)
label_found labels text w are b e h =
    label_spelled labels labels text w are b e ∙ ap (λ (t : Bool). cond t (Some (label_text labels w)) None) h

pub label_missing : (labels : Labels) (text : List ℕ) (w : Bytes) → All IsUuidBytes labels → IsUuidBytes w → take 36 text ≡ uuid_text w
    → is_labelled labels w ≡ false → label_at labels labels text ≡ None
label_missing labels text w are b e h =
    label_spelled labels labels text w are b e ∙ ap (λ (t : Bool). cond t (Some (label_text labels w)) None) h

-- and where none stands there

starts_not : (text : List ℕ) (l : Bytes) → (take 36 text ≡ uuid_text l → ⊥) → (b : Bool) → starts_with nat_eq text (uuid_text l) ≡ b → b ≡ false
starts_not text l h true e =
    absurd (h (ap (λ (n : ℕ). take n text) (sym (length-uuid_text l)) ∙ sym (same_bytes (uuid_text l) (take (length (uuid_text l)) text) e)))
starts_not text l h false e = refl

skips : (b : Bool) (x z : Option (List ℕ)) → b ≡ false → z ≡ None → cond b x z ≡ None
skips true x z h k = absurd (cc)
skips false x z h k = k

label_none : (all ls : Labels) (text : List ℕ) → All IsUuidBytes ls → ((u : Bytes) → IsUuidBytes u → take 36 text ≡ uuid_text u → ⊥)
    → label_at all ls text ≡ None
label_none all [] text are h = refl
label_none all (l ∷ ls) text are h =
    skips (starts_with nat_eq text (uuid_text l)) (Some (label_text all l)) (label_at all ls text)
    (starts_not text l (h l (all_first l ls are)) (starts_with nat_eq text (uuid_text l)) refl)
    (label_none all ls text (all_rest l ls are) h)

pub no_label : (labels : Labels) (text : List ℕ) → All IsUuidBytes labels → ((u : Bytes) → IsUuidBytes u → take 36 text ≡ uuid_text u → ⊥)
    → label_at labels labels text ≡ None
no_label labels text are h = label_none labels labels text are h

-- inside a character no uuid begins

high_first : (l : Bytes) (b : ℕ) (bs : List ℕ) → 128 ≤ b → take 36 (b ∷ bs) ≡ uuid_text l → ⊥
high_first l b bs h e =
    let low : get_or (uuid_text l) 0 0 < 128 = hyphenated_ascii lower l (inl refl) 0 in
    let is : b ≡ get_or (uuid_text l) 0 0 = ap (λ (xs : List ℕ). get_or xs 0 0) e in
    omega (arith, low, is)

high_none : (all ls : Labels) (b : ℕ) (bs : List ℕ) → 128 ≤ b → label_at all ls (b ∷ bs) ≡ None
high_none all [] b bs h = refl
high_none all (l ∷ ls) b bs h =
    skips (starts_with nat_eq (b ∷ bs) (uuid_text l)) (Some (label_text all l)) (label_at all ls (b ∷ bs))
    (starts_not (b ∷ bs) l (high_first l b bs h) (starts_with nat_eq (b ∷ bs) (uuid_text l)) refl)
    (high_none all ls b bs h)

-- a text, piece by piece

passed : (labels : Labels) (n : ℕ) (text : List ℕ) → relabelled_from labels n text ≡ relabelled labels (drop n text)
passed labels zero [] = refl
passed labels zero (c ∷ cs) = refl
passed labels (suc n) [] = refl
passed labels (suc n) (c ∷ cs) = passed labels n cs

step : (labels : Labels) (c : ℕ) (cs : List ℕ) (o : Option (List ℕ)) → label_at labels labels (c ∷ cs) ≡ o
    → relabelled labels (c ∷ cs) ≡ one o c (relabelled_from labels 35 cs) (relabelled labels cs)
step labels c cs o e = ap (λ (p : Option (List ℕ)). one p c (relabelled_from labels 35 cs) (relabelled labels cs)) e

-- a label, and what stands behind the uuid
pub label_first : (labels : Labels) (text label : List ℕ) → 0 < length text → label_at labels labels text ≡ Some label
    → relabelled labels text ≡ label ++ relabelled labels (drop 36 text)
label_first labels [] label h e = absurd (omega arith)
label_first labels (c ∷ cs) label h e = step labels c cs (Some label) e ∙ ap (λ (xs : List ℕ). label ++ xs) (passed labels 35 cs)

high_through : (labels : Labels) (bs rest : List ℕ) → ((k : ℕ) → k < length bs → 128 ≤ get_or bs k 0)
    → relabelled labels (bs ++ rest) ≡ bs ++ relabelled labels rest
high_through labels [] rest h = refl
high_through labels (b ∷ bs) rest h =
    let high : 128 ≤ b = h 0 (omega arith) in
    step labels b (bs ++ rest) None (high_none labels labels b (bs ++ rest) high)
    ∙ ap (λ (xs : List ℕ). b ∷ xs) (high_through labels bs rest (λ k i. h (suc k) (omega arith)))

through : (labels : Labels) (bs rest : List ℕ) → 0 < length bs → label_at labels labels (bs ++ rest) ≡ None
    → ((k : ℕ) → 0 < k → k < length bs → 128 ≤ get_or bs k 0) → relabelled labels (bs ++ rest) ≡ bs ++ relabelled labels rest
through labels [] rest some none h = absurd (omega arith)
through labels (b ∷ bs) rest some none h =
    step labels b (bs ++ rest) None none
    ∙ ap (λ (xs : List ℕ). b ∷ xs) (high_through labels bs rest (λ k i. h (suc k) (omega arith) (omega arith)))

at_least : (x y : ℕ) → (x < y → ⊥) → y ≤ x
at_least x y h = grind arith

-- the bytes of a character after its first
high_inside : (c k : ℕ) → 0 < k → k < length (encode_utf8 c) → 128 ≤ get_or (encode_utf8 c) k 0
high_inside c k some h =
    at_least (get_or (encode_utf8 c) k 0) 128
    (λ low.
    let is : c ≡ get_or (encode_utf8 c) k 0 = inside_one c [] (encode_utf8 c) k (sym (append-nil (encode_utf8 c))) h low in
    let single : len_utf8 c ≡ 1 = len_utf8_ascii c (omega (arith, is)) in
    let long : k < 1 = omega (arith, single, length-encode c) in
    omega arith)

-- a character, and what stands behind it
pub character_first : (labels : Labels) (text rest : List ℕ) (c : ℕ) → label_at labels labels text ≡ None → text ≡ encode_utf8 c ++ rest
    → relabelled labels text ≡ encode_utf8 c ++ relabelled labels rest
character_first labels text rest c none e =
    let some : 0 < length (encode_utf8 c) = omega (arith, length-encode c, (len_utf8_bounds c).0) in
    let here : label_at labels labels (encode_utf8 c ++ rest) ≡ None = ap (label_at labels labels) (sym e) ∙ none in
    ap (relabelled labels) e ∙ through labels (encode_utf8 c) rest some here (high_inside c)

-- what holds of the fields holds of the value
pub at_self : (made labels : Labels) (text : List ℕ) (o : Option (List ℕ)) → made ≡ labels → label_at made made text ≡ o → label_at labels labels text ≡ o
at_self made labels text o e h = let P : Labels → Type 0 = λ ls. label_at ls ls text ≡ o in subst P e h

pub wrong : false ≡ true → ⊥
wrong h = cc

-- pieces that were written, and what stands behind
pub written_piece : (old new piece behind whole : List ℕ) → new ≡ old ++ piece → whole ≡ piece ++ behind → new ++ behind ≡ old ++ whole
written_piece old new piece behind whole e h =
    ap (λ (xs : List ℕ). xs ++ behind) e ∙ append_assoc old piece behind ∙ ap (λ (xs : List ℕ). old ++ xs) (sym h)

-- Any items fall into portions, in just one way.
use Rattle.std.proofs.Common.{◌≡◌, ◌≢◌, ◌⊎◌, ◌+◌, ◌≤◌, ℕ, zero, suc, List, [], ◌∷◌, ◌++◌, length, length-append, refl, sym, ap, ◌∙◌, subst, inl, inr, append_assoc, arith}
use Rattle.std.specs.Prelude.{sum_by}
use Rattle.std.proofs.lemmas.Bool.{cases_lt}
use Rattle.std.proofs.lemmas.List.{append_cancel_left}
use Rattle.std.proofs.lemmas.List.Sums.{sum_by-append}
use Rattle.sn_bound.specs.Portions.{ArePortions, IsFront, OneDivision}
use Rattle.sn_device.specs.Sending.{FitsSending, Numbered, most_sent, sent_of, weight_of}
use Rattle.sn_string.specs.Bounds.{most_bytes}

abbrev weight_all : List Numbered → ℕ
weight_all xs = sum_by (λ w. weight_of (sent_of w.1)) xs

push_some : {A : Type 0} (xs : List A) (x : A) → xs ++ x ∷ [] ≢ []
push_some [] x none = cc
push_some (y ∷ xs) x none = cc

-- ---- there are portions

fits_or_not : (xs : List Numbered) → FitsSending xs ⊎ ¬ (FitsSending xs)
fits_or_not xs =
    elim (cases_lt most_sent (length xs)) [
      | inl many ↦ inr (λ fits. let few = fits.0 in omega arith)
      | inr few ↦ elim (cases_lt most_bytes (weight_all xs)) [
        | inl heavy ↦ inr (λ fits. let light = fits.1 in omega arith)
        | inr light ↦ inl (few, light)
      ]
    ]

record Parted (items : List Numbered) (most : ℕ) : Type 0 where
  front : List Numbered
  later : List Numbered
  is : items ≡ front ++ later
  is_front : IsFront front later
  shorter : length later ≤ most

-- the longest front that begins so
extended : (later front : List Numbered) → front ≢ [] → FitsSending front ⊎ (length front ≡ 1) → Parted (front ++ later) (length later)
extended [] front some fits = record {
  front = front;
  later = [];
  is = refl;
  is_front = record { some = some; fits = fits; longest = λ next others e. absurd (cc) };
  shorter = omega arith;
}
extended (next ∷ others) front some fits =
    elim (fits_or_not (front ++ next ∷ [])) [
      | inl more ↦
          (let x = extended others (front ++ next ∷ []) (push_some front next) (inl more) in
          let few : length x.later ≤ length others = x.shorter in
          record {
            front = x.front;
            later = x.later;
            is = sym (append_assoc front (next ∷ []) others) ∙ x.is;
            is_front = x.is_front;
            shorter = omega arith;
          })
      | inr not ↦ record {
        front = front;
        later = next ∷ others;
        is = refl;
        is_front = record {
          some = some;
          fits = fits;
          longest = λ second rest e. (let same : next ≡ second = cc in subst (λ (w : Numbered). ¬ (FitsSending (front ++ w ∷ []))) same not);
        };
        shorter = omega arith;
      }
    ]

portions_of : (n : ℕ) (waiting : List Numbered) → length waiting ≤ n → (portions : List (List Numbered)) × ArePortions portions waiting
portions_of n [] few = ([], refl)
portions_of zero (w ∷ waiting) few = absurd (omega arith)
portions_of (suc n) (w ∷ waiting) few =
    let x = extended waiting (w ∷ []) (λ e. cc) (inr refl) in
    let shorter : length x.later ≤ length waiting = x.shorter in
    let y = portions_of n x.later (omega arith) in
    (x.front ∷ y.0, (x.later, x.is, x.is_front, y.1))

-- ---- and no others

-- the second front goes on behind the first
record IsPast (a later b : List Numbered) : Type 0 where
  next : Numbered
  others : List Numbered
  more : List Numbered
  later_is : later ≡ next ∷ others
  is : b ≡ a ++ next ∷ more

one_or_past : (a la b lb : List Numbered) → a ++ la ≡ b ++ lb → (a ≡ b) ⊎ (IsPast a la b ⊎ IsPast b lb a)
one_or_past [] la [] lb e = inl refl
one_or_past [] la (y ∷ b) lb e = inr (inl (record { next = y; others = b ++ lb; more = b; later_is = e; is = refl }))
one_or_past (x ∷ a) la [] lb e = inr (inr (record { next = x; others = a ++ la; more = a; later_is = sym e; is = refl }))
one_or_past (x ∷ a) la (y ∷ b) lb e =
    let head : x ≡ y = cc in
    let tail : a ++ la ≡ b ++ lb = cc in
    elim (one_or_past a la b lb tail) [
      | inl same ↦ inl (cc)
      | inr (inl p) ↦ (let is = p.is in inr (inl (record { next = p.next; others = p.others; more = p.more; later_is = p.later_is; is = cc })))
      | inr (inr p) ↦ (let is = p.is in inr (inr (record { next = p.next; others = p.others; more = p.more; later_is = p.later_is; is = cc })))
    ]

not_past : (a la b lb : List Numbered) → IsFront a la → IsFront b lb → IsPast a la b → ⊥
not_past a la b lb f g p = by g.fits
  where
    b_is : b ≡ (a ++ p.next ∷ []) ++ p.more
    b_is = p.is ∙ sym (append_assoc a (p.next ∷ []) p.more)

    long : length b ≡ length (a ++ p.next ∷ []) + length p.more
    long = ap length b_is ∙ length-append (a ++ p.next ∷ []) p.more

    by : FitsSending b ⊎ (length b ≡ 1) → ⊥
    by (inl fits) =
        let heavy : weight_all b ≡ weight_all (a ++ p.next ∷ []) + weight_all p.more =
        ap weight_all b_is ∙ sum_by-append (λ (w : Numbered). weight_of (sent_of w.1)) (a ++ p.next ∷ []) p.more in
        let all = long in
        let few = fits.0 in
        let light = fits.1 in
        f.longest p.next p.others p.later_is (omega arith, omega arith)
    by (inr one) =
        let all = long in
        let size = length-append a (p.next ∷ []) in
        f.some (empty a (omega arith))
      where
        empty : (xs : List Numbered) → length xs ≡ 0 → xs ≡ []
        empty [] none = refl
        empty (x ∷ xs) none = absurd (omega arith)

none_left : (front later : List Numbered) → [] ≡ front ++ later → front ≡ []
none_left [] later e = refl
none_left (x ∷ front) later e = absurd (cc)

one_front : (a la b lb : List Numbered) → IsFront a la → IsFront b lb → a ++ la ≡ b ++ lb → a ≡ b
one_front a la b lb f g e =
    elim (one_or_past a la b lb e) [
      | inl same ↦ same
      | inr (inl past) ↦ absurd (not_past a la b lb f g past)
      | inr (inr past) ↦ absurd (not_past b lb a la g f past)
    ]

one_way : (others portions : List (List Numbered)) (waiting : List Numbered) → ArePortions others waiting → ArePortions portions waiting → others ≡ portions
one_way [] [] waiting are those = refl
one_way [] (b ∷ portions) waiting none (later, is, f, rest) = absurd (f.some (none_left b later (sym none ∙ is)))
one_way (a ∷ others) [] waiting (later, is, f, rest) none = absurd (f.some (none_left a later (sym none ∙ is)))
one_way (a ∷ others) (b ∷ portions) waiting (la, a_is, f, a_rest) (lb, b_is, g, b_rest) =
    let front : a ≡ b = one_front a la b lb f g (sym a_is ∙ b_is) in
    let later : lb ≡ la = append_cancel_left a lb la (ap (λ (xs : List Numbered). xs ++ lb) front ∙ sym b_is ∙ a_is) in
    let rest : others ≡ portions = one_way others portions la a_rest (subst (ArePortions portions) later b_rest) in
    cc

pub one_division : OneDivision
one_division waiting =
    let x = portions_of (length waiting) waiting (omega arith) in
    (x.0, x.1, λ others are. one_way others x.0 waiting are x.1)

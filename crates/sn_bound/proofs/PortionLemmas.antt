-- Fronts and portions of the items that wait.
use Rattle.std.proofs.Common.{◌≡◌, ◌≢◌, ◌⊎◌, ◌+◌, ◌*◌, ◌<◌, ◌≤◌, List, [], ◌∷◌, ◌++◌, length, length-append, refl, sym, ap, ◌∙◌, subst, inl, inr, append_assoc, arith}
use Rattle.std.proofs.lemmas.Bool.{cases_lt}
use Rattle.std.proofs.lemmas.List.{append-nil}
use Rattle.sn_bound.specs.Portions.{ArePortions, AreLight, FewPortions, IsFront}
use Rattle.sn_device.specs.Sending.{AreChosen, FitsSending, Numbered, most_sent}
use Rattle.sn_rows.specs.Table.{Rows}

-- ---- fronts

none_of : {A : Type 0} (front later : List A) → [] ≡ front ++ later → front ≡ []
none_of [] later e = refl
none_of (x ∷ front) later e = absurd (cc)

-- where some are chosen of those that wait, they are such a front
pub is_front : (rows : Rows) (chosen later : List Numbered) → AreChosen rows chosen later → chosen ≢ [] → IsFront chosen later
is_front rows chosen later x some = record { some = some; fits = x.fits; longest = λ next others e. (x.longest next others e).1 }

-- and some are where some wait
pub some_chosen : (rows : Rows) (chosen later : List Numbered) → AreChosen rows chosen later → chosen ++ later ≢ [] → chosen ≢ []
some_chosen rows chosen [] x some none = some (append-nil chosen ∙ none)
some_chosen rows chosen (next ∷ others) x some none = (x.longest next others refl).0 none

front_size : (front later : List Numbered) → IsFront front later → FitsSending front ⊎ (length front ≡ 1) → length front ≤ most_sent
front_size front later f (inl fits) = fits.0
front_size front later f (inr one) = omega arith

-- ---- portions

pub light_later : (front later : List Numbered) → AreLight (front ++ later) → AreLight later
light_later front later light before some rest e few =
    light (front ++ before) some rest (ap (λ (xs : List Numbered). front ++ xs) e ∙ simp append_assoc) few

-- a front behind which another waits is full
front_full : (front : List Numbered) (next : Numbered) (others : List Numbered) → IsFront front (next ∷ others) → AreLight (front ++ next ∷ others)
    → length front ≡ most_sent
front_full front next others f light = by (cases_lt (length front) most_sent)
  where
    by : (length front < most_sent) ⊎ (most_sent ≤ length front) → length front ≡ most_sent
    by (inl less) =
        let few : length (front ++ next ∷ []) ≤ most_sent = omega (arith, length-append front (next ∷ [])) in
        absurd (f.longest next others refl (few, light [] (front ++ next ∷ []) others (sym (append_assoc front (next ∷ []) others)) few))
    by (inr more) = let most = front_size front (next ∷ others) f f.fits in omega arith

some_length : {A : Type 0} (xs : List A) → xs ≢ [] → 1 ≤ length xs
some_length [] some = absurd (some refl)
some_length (x ∷ xs) some = omega arith

pub last_one : (portions : List (List Numbered)) → ArePortions portions [] → portions ≡ []
last_one [] none = refl
last_one (front ∷ portions) (later, is, f, rest) = absurd (f.some (none_of front later is))

few_more : (front later : List Numbered) (portions : List (List Numbered)) → IsFront front later → ArePortions portions later → AreLight (front ++ later)
    → length later ≤ most_sent * length portions → most_sent * length portions < length later + most_sent
    → (length (front ++ later) ≤ most_sent * length (front ∷ portions)) × (most_sent * length (front ∷ portions) < length (front ++ later) + most_sent)
few_more front [] portions f are light most least =
    let size = front_size front [] f f.fits in
    let last : length portions ≡ 0 = ap length (last_one portions are) in
    let whole : length (front ++ []) ≡ length front = ap length (append-nil front) in
    let some = some_length front f.some in
    (omega arith, omega arith)
few_more front (next ∷ others) portions f are light most least =
    let full = front_full front next others f light in
    let whole = length-append front (next ∷ others) in
    (omega arith, omega arith)

pub few_portions : FewPortions
few_portions waiting [] are light = let none : length waiting ≡ 0 = ap length are in (omega arith, omega arith)
few_portions waiting (front ∷ portions) (later, is, f, rest) light =
    let light_so : AreLight (front ++ later) = subst AreLight is light in
    let x = few_portions later portions rest (light_later front later light_so) in
    let y = few_more front later portions f rest light_so x.0 x.1 in
    let whole : length waiting ≡ length (front ++ later) = ap length is in
    (omega arith, omega arith)

-- Pages, as the code makes them: of the items that it finds, one after another.
use Rattle.std.proofs.Common.{◌≡◌, ◌≢◌, ◌∙◌, ℕ, suc, ◌+◌, ◌<◌, ◌≤◌, List, [], ◌∷◌, ◌++◌, Bool, true, false, ◌⊎◌, inl, inr, length, refl, sym, ap, subst, arith, append_assoc, length-append, add-zero, ⊎_elim}
use Rattle.std.specs.Prelude.{sum_by}
use Rattle.std.proofs.lemmas.Bool.{cases_lt}
use Rattle.std.proofs.lemmas.List.Sums.{sum_by-append, sum_by-cons}
use Rattle.sn_rows.specs.Table.{Rows}
use Rattle.sn_sync.specs.Stamps.{last_stamp}
use Rattle.sn_sync.specs.declared.item.Item.{Item}
use Rattle.sn_account.specs.Pages.{AreAbove, AreGiven, FitsPage, Found, IsGreatest, IsLastOf, IsPageOf, most_bytes, weight}
use Rattle.sn_account.specs.Stored.{IsGiven}
use Rattle.sn_account.specs.Taking.{most_weight}
use Rattle.sn_account.specs.declared.page.Page.{Page}

-- no room for one more
abbrev pub IsFull : ℕ → ℕ → ℕ → Type 0
IsFull count limit sum = (count ≢ 0) × ((limit ≤ count) ⊎ (most_bytes < sum))

-- ---- the page, as far as it has come

-- what was given, before what is left
pub record InPage (rows : Rows) (n above : ℕ) (first : Bool) (limit : ℕ) (left : List Found) (items : List Item) (last bytes : ℕ) : Type 0 where
  pub done : List Found
  pub all : AreAbove rows n above first (done ++ left)
  pub given : AreGiven done items
  pub bytes_are : bytes ≡ sum_by (λ (f : Found). weight f.1) done
  pub few : bytes ≤ most_bytes
  pub bound : last ≤ last_stamp
  pub count : (length done ≤ limit) ⊎ (length done ≡ 1)
  pub last_is : (done ≡ []) ⊎ IsLastOf done last

zip_more : (fs : List Found) (items : List Item) (f : Found) (i : Item) → AreGiven fs items → IsGiven f.0 f.1 i → AreGiven (fs ++ f ∷ []) (items ++ i ∷ [])
zip_more [] [] f i are is = (is, tt)
zip_more [] (j ∷ items) f i are is = absurd are
zip_more (g ∷ fs) [] f i are is = absurd are
zip_more (g ∷ fs) (j ∷ items) f i are is = (are.0, zip_more fs items f i are.1 is)

zip_long : (fs : List Found) (items : List Item) → AreGiven fs items → length items ≡ length fs
zip_long [] [] are = refl
zip_long [] (j ∷ items) are = absurd are
zip_long (g ∷ fs) [] are = absurd are
zip_long (g ∷ fs) (j ∷ items) are = ap suc (zip_long fs items are.1)

sum_by-one : (w : Found → ℕ) (f : Found) → sum_by w (f ∷ []) ≡ w f
sum_by-one w f = sum_by-cons w f [] ∙ add-zero (w f)

weighs : (fs : List Found) (f : Found) → sum_by (λ (g : Found). weight g.1) fs + weight f.1 ≡ sum_by (λ (g : Found). weight g.1) (fs ++ f ∷ [])
weighs fs f =
    let w : Found → ℕ = λ g. weight g.1 in
    sym (sum_by-append w fs (f ∷ []) ∙ ap (λ (n : ℕ). sum_by w fs + n) (sum_by-one w f))

module _ (rows : Rows) (n above : ℕ) (first : Bool) (limit : ℕ) where
  pub in_none : (left : List Found) (items : List Item) → AreAbove rows n above first left → items ≡ [] → InPage rows n above first limit left items 0 0
  in_none left items all none = record {
    done = [];
    all = all;
    given = subst (AreGiven []) (sym none) tt;
    bytes_are = refl;
    few = omega arith;
    bound = omega arith;
    count = inl (omega arith);
    last_is = inl refl;
  }

  -- one item more
  pub in_more : (left : List Found) (f : Found) (items after : List Item) (given : Item) (last bytes sum stamp : ℕ)
      → InPage rows n above first limit (f ∷ left) items last bytes → f.1.updated ≡ stamp → IsGiven f.0 f.1 given → after ≡ items ++ given ∷ []
      → sum ≡ bytes + weight f.1 → sum ≤ most_bytes → (length items < limit) ⊎ (length items ≡ 0)
      → InPage rows n above first limit left after stamp sum
  in_more left f items after given last bytes sum stamp p at gives after_is sum_is few room =
      let long : length (p.done ++ f ∷ []) ≡ length p.done + 1 = length-append p.done (f ∷ []) in
      let same : length items ≡ length p.done = zip_long p.done items p.given in
      record {
        done = p.done ++ f ∷ [];
        all = subst (AreAbove rows n above first) (sym (append_assoc p.done (f ∷ []) left)) p.all;
        given = subst (λ (is : List Item). AreGiven (p.done ++ f ∷ []) is) (sym after_is) (zip_more p.done items f given p.given gives);
        bytes_are = sum_is ∙ ap (λ (m : ℕ). m + weight f.1) p.bytes_are ∙ weighs p.done f;
        few = few;
        bound = (let fits = f.1.updated_fits in omega (arith, at, fits));
        count = ⊎_elim (λ below. inl (omega arith)) (λ none. inr (omega arith)) room;
        last_is = inr (record { front = p.done; last = f; split = refl; is = sym at });
      }

  -- ---- its end

  -- what fits so far, or is a single one
  fits_page : (left : List Found) (items : List Item) (last bytes : ℕ) (p : InPage rows n above first limit left items last bytes)
      → FitsPage limit p.done ⊎ (length p.done ≡ 1)
  fits_page left items last bytes p =
      elim p.count [
        | inl within ↦ inl (within, subst (λ (m : ℕ). m ≤ most_bytes) p.bytes_are p.few)
        | inr single ↦ inr single
      ]

  -- one more is past the bounds
  past : (f : Found) (left : List Found) (items : List Item) (last bytes : ℕ) (p : InPage rows n above first limit (f ∷ left) items last bytes)
      → (limit ≤ length items) ⊎ (most_bytes < bytes + weight f.1) → ¬ (FitsPage limit (p.done ++ f ∷ []))
  past f left items last bytes p full fits =
      let long : length items ≡ length p.done = zip_long p.done items p.given in
      let count : length (p.done ++ f ∷ []) ≡ length p.done + 1 = length-append p.done (f ∷ []) in
      let sums : sum_by (λ (g : Found). weight g.1) p.done + weight f.1 ≡ sum_by (λ (g : Found). weight g.1) (p.done ++ f ∷ []) = weighs p.done f in
      let b = p.bytes_are in
      ⊎_elim (λ few. absurd (omega (arith, fits.0))) (λ heavy. absurd (omega (arith, fits.1))) full

  last_of : (fs : List Found) (last : ℕ) → fs ≢ [] → (fs ≡ []) ⊎ IsLastOf fs last → IsLastOf fs last
  last_of fs last some (inl none) = absurd (some none)
  last_of fs last some (inr is) = is

  -- where nothing is left
  pub page_whole : (page : Page) (left : List Found) (items : List Item) (last bytes : ℕ) → page.items ≡ items → left ≡ [] → page.more ≡ false
      → IsGreatest rows n page.greatest → InPage rows n above first limit left items last bytes → IsPageOf rows n above first limit page
  page_whole page left items last bytes items_are none more greatest p = record {
    page = p.done;
    left = left;
    is = record { all = p.all; fits = fits_page left items last bytes p; longest = λ next later is. absurd cc };
    items = subst (AreGiven p.done) (sym items_are) p.given;
    more = (λ is. absurd cc, λ some. absurd (some none));
    last = λ is. absurd cc;
    greatest = greatest;
  }

  -- where the next one doesn't fit
  pub page_cut : (page : Page) (found : List Found) (f : Found) (left : List Found) (items : List Item) (last bytes count w : ℕ) → page.items ≡ items
      → page.last ≡ last → page.more ≡ true → IsGreatest rows n page.greatest → found ≡ f ∷ left → count ≡ length items → w ≡ weight f.1
      → IsFull count limit (bytes + w) → InPage rows n above first limit found items last bytes → IsPageOf rows n above first limit page
  page_cut page found f left items last bytes count w items_are last_is more greatest next_is count_is w_is full so_far =
      let p : InPage rows n above first limit (f ∷ left) items last bytes =
      subst (λ (fs : List Found). InPage rows n above first limit fs items last bytes) next_is so_far in
      let some : p.done ≢ [] = λ none. full.0 (count_is ∙ zip_long p.done items p.given ∙ ap length none) in
      let full_is : (limit ≤ length items) ⊎ (most_bytes < bytes + weight f.1) =
      ⊎_elim (λ at. inl (omega (arith, at, count_is))) (λ over. inr (omega (arith, over, w_is))) full.1 in
      record {
        page = p.done;
        left = f ∷ left;
        is = record {
          all = p.all;
          fits = fits_page (f ∷ left) items last bytes p;
          longest = λ next later is. (
            some,
            (let same : f ≡ next = cc in
                subst (λ (g : Found). ¬ (FitsPage limit (p.done ++ g ∷ []))) same (past f left items last bytes p full_is)),
          );
        };
        items = subst (AreGiven p.done) (sym items_are) p.given;
        more = (λ is. (λ none. cc), λ left_some. more);
        last = λ is. subst (IsLastOf p.done) (sym last_is) (last_of p.done last some p.last_is);
        greatest = greatest;
      }

-- ---- what the code tests

weigh_none : (fs : List Found) → length fs ≡ 0 → sum_by (λ (f : Found). weight f.1) fs ≡ 0
weigh_none [] none = refl
weigh_none (f ∷ fs) none = absurd (omega (arith, none))

le_from_not : (a b : ℕ) → ¬ (b < a) → a ≤ b
le_from_not a b not = ⊎_elim (λ below. absurd (not below)) (λ le. le) (cases_lt b a)

lt_from_not : (a b : ℕ) → ¬ (b ≤ a) → a < b
lt_from_not a b not = ⊎_elim (λ below. below) (λ le. absurd (not le)) (cases_lt a b)

-- where there is room for one more
pub in_room : (rows : Rows) (n above : ℕ) (first : Bool) (limit : ℕ) (left : List Found) (items : List Item) (last bytes count w : ℕ)
    → InPage rows n above first limit left items last bytes → count ≡ length items → w ≤ most_weight → ¬ (IsFull count limit (bytes + w))
    → (bytes + w ≤ most_bytes) × ((length items < limit) ⊎ (length items ≡ 0))
in_room rows n above first limit left items last bytes count w p count_is light room =
    elim (cases_lt 0 (length items)) [
      | inl some ↦ (let fits : bytes + w ≤ most_bytes = le_from_not (bytes + w) most_bytes (λ past. room (omega arith, inr past)) in
          let below : length items < limit = lt_from_not (length items) limit (λ full. room (omega arith, inl (omega arith))) in
          (fits, inl below))
      | inr none ↦ (let zero : length items ≡ 0 = omega arith in
          let long : length items ≡ length p.done = zip_long p.done items p.given in
          let empty : bytes ≡ 0 = p.bytes_are ∙ weigh_none p.done (sym long ∙ zero) in
          (omega arith, inr zero))
    ]

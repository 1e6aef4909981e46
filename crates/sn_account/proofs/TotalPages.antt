-- An account has a page from any stamp on, and a greatest stamp.
use Rattle.std.proofs.Common.{◌≡◌, ◌≢◌, ◌⊎◌, ℕ, zero, suc, ◌<◌, ◌≤◌, Bool, List, [], ◌∷◌, ◌++◌, length, map, Option, Some, None, sum_by, codes, decimal, refl, sym, ap, ◌∙◌, subst, inl, inr, ⊎_elim, arith, append_assoc}
use Rattle.std.specs.List.{Contains}
use Rattle.std.specs.List.Sorted.{IsStrictlySortedBy}
use Rattle.std.proofs.lemmas.Bool.{cases_lt}
use Rattle.std.proofs.lemmas.List.Elements.{Contains-append_left, Contains-push, Contains-push_cases}
use Rattle.std.proofs.lemmas.Map.Keys.{IsStrictlyIncreasing-from_sorted}
use Rattle.sn_rows.specs.Table.{Rows}
use Rattle.sn_rows.specs.declared.server_rows.ItemRow.{ItemRow}
use Rattle.sn_string.specs.Base64.{base64_text}
use Rattle.sn_sync.specs.Fits.{AreBytes}
use Rattle.sn_sync.specs.Stamps.{last_stamp}
use Rattle.sn_sync.specs.Tokens.{IsToken}
use Rattle.sn_sync.specs.declared.item.Item.{Item}
use Rattle.sn_account.specs.Lookups.{Bytes, HasItem}
use Rattle.sn_account.specs.Pages.{AreAbove, AreGiven, FitsPage, Found, IsCandidate, IsGreatest, IsLastOf, IsPage, most_bytes, weight}
use Rattle.sn_account.specs.Stored.{IsGiven}
use Rattle.sn_account.specs.Syncs.{AreTokens}
use Rattle.sn_account.proofs.Deciding.{Decided, IsLeast, at_most, both, decided_so, least_or_none, same_number}
use Rattle.sn_account.proofs.FoundLemmas.{candidate_or_not}
use Rattle.sn_account.proofs.RisingLists.{Rises, above_head, all_above, at_head, behind_head, none_of, none_rise}
use Rattle.sn_account.proofs.SyncSteps.{Items, one_item}
use Rattle.sn_account.proofs.TotalItems.{has_given}
use Rattle.sn_account.proofs.TotalRows.{stored_or_not}

-- ---- lists that rise

rises_push : {A : Type 0} (number : A → ℕ) (xs : List A) (x : A) → Rises number xs → ((z : A) → Contains xs z → number z < number x) → Rises number (xs ++ x ∷ [])
unfolding IsStrictlySortedBy
rises_push number [] x rises below = (tt, tt)
rises_push number (y ∷ xs) x rises below = (
  all_above number (number y) (xs ++ x ∷ [])
      (λ z has. ⊎_elim (λ (old : Contains xs z). above_head number y xs z rises old)
      (λ (new : x ≡ z). subst (λ w. number y < number w) new (below y (at_head y xs))) (Contains-push_cases xs x z has)),
  rises_push number xs x rises.1 (λ z has. below z (behind_head y xs z has)),
)

-- ---- items by their stamps

module _ (rows : Rows) (last n : ℕ) (items : Items rows last n) where
  -- an item of which this is so, by its stamp
  module _ (P : ItemRow → Type 0) (decide : (i : ItemRow) → Decided (P i)) where
    abbrev IsAt : ℕ → Bytes → Type 0
    IsAt stamp u = (i : ItemRow) × HasItem rows u i × P i × (i.updated ≡ stamp)

    at_or_not : (stamp : ℕ) (u : Bytes) → Decided (IsAt stamp u)
    at_or_not stamp u = by_row (stored_or_not rows items.kinds u)
      where
        by_row : ((row : ItemRow) × HasItem rows u row) ⊎ ((row : ItemRow) → HasItem rows u row → ⊥) → Decided (IsAt stamp u)
        by_row (inl (row, has)) =
            decided_so (λ p. (row, has, p.0, p.1))
            (λ at. (let same : at.0 ≡ row = one_item rows u at.0 row at.1 has in
            (subst P same at.2, ap (λ (r : ItemRow). r.updated) (sym same) ∙ at.3)))
            (both (decide row) (same_number row.updated stamp))
        by_row (inr none) = inr (λ at. none at.0 at.1)

    pub at_stamp : (stamp : ℕ) → ((u : Bytes) × IsAt stamp u) ⊎ ((u : Bytes) → IsAt stamp u → ⊥)
    at_stamp stamp = by_search (least_or_none 16 (IsAt stamp) (at_or_not stamp))
      where
        by_search : ((u : Bytes) × IsLeast (IsAt stamp) 16 u) ⊎ ((u : Bytes) → AreBytes 16 u → IsAt stamp u → ⊥)
            → ((u : Bytes) × IsAt stamp u) ⊎ ((u : Bytes) → IsAt stamp u → ⊥)
        by_search (inl (u, least)) = inl (u, least.is)
        by_search (inr none) = inr (λ u at. none u (items.named u at.0 at.1) at)

  -- ---- the greatest stamp

  -- of the account's items up to a stamp
  record HasGreatest (k : ℕ) : Type 0 where
    stamp : ℕ
    upper : (u : Bytes) (i : ItemRow) → HasItem rows u i → i.account ≡ n → i.updated ≤ k → i.updated ≤ stamp
    is : (stamp ≡ 0) ⊎ ((u : Bytes) × (i : ItemRow) × HasItem rows u i × (i.account ≡ n) × (i.updated ≡ stamp))

  greatest_upto : (k : ℕ) → HasGreatest k
  greatest_upto zero = record { stamp = 0; upper = λ u i has own low. low; is = inl refl }
  greatest_upto (suc k) = by_stamp (greatest_upto k) (at_stamp (λ i. i.account ≡ n) (λ i. same_number i.account n) (suc k))
    where
      by_stamp : HasGreatest k → ((u : Bytes) × IsAt (λ i. i.account ≡ n) (λ i. same_number i.account n) (suc k) u)
          ⊎ ((u : Bytes) → IsAt (λ i. i.account ≡ n) (λ i. same_number i.account n) (suc k) u → ⊥) → HasGreatest (suc k)
      by_stamp below (inl (u, (i, has, own, is))) =
          record { stamp = suc k; upper = λ w j had owns low. low; is = inr (u, i, has, own, is) }
      by_stamp below (inr none) = record {
        stamp = below.stamp;
        upper = λ u i has own low. ⊎_elim (λ (less : i.updated < suc k). below.upper u i has own (omega arith))
            (λ (over : suc k ≤ i.updated). absurd (none u (i, has, own, omega arith))) (cases_lt i.updated (suc k));
        is = below.is;
      }

  pub has_greatest : (stamp : ℕ) × IsGreatest rows n stamp × (stamp ≤ last_stamp)
  has_greatest = (g.stamp, (λ u i has own. g.upper u i has own (let given = (items.sound u i has).given in given), g.is), low g.is)
    where
      g : HasGreatest last
      g = greatest_upto last

      low : {stamp : ℕ} → (stamp ≡ 0) ⊎ ((u : Bytes) × (i : ItemRow) × HasItem rows u i × (i.account ≡ n) × (i.updated ≡ stamp)) → stamp ≤ last_stamp
      low (inl none) = omega arith
      low (inr (u, i, has, own, is)) = (let fits = i.updated_fits in omega arith)

  -- ---- all candidates

  module _ (above : ℕ) (first : Bool) where
    -- those up to a stamp
    record HasAbove (k : ℕ) : Type 0 where
      found : List Found
      rising : Rises (λ (f : Found). f.1.updated) found
      each : (f : Found) → Contains found f → HasItem rows f.0 f.1 × (IsCandidate n above first f.1 × (f.1.updated ≤ k))
      whole : (u : Bytes) (i : ItemRow) → HasItem rows u i → IsCandidate n above first i → i.updated ≤ k → Contains found (u, i)

    above_upto : (k : ℕ) → HasAbove k
    above_upto zero = record {
      found = [];
      rising = none_rise (λ (f : Found). f.1.updated);
      each = λ f has. absurd (none_of f has);
      whole = λ u i has is low. (let over = is.1 in absurd (omega arith));
    }
    above_upto (suc k) = by_stamp (above_upto k) (at_stamp (IsCandidate n above first) (candidate_or_not n above first) (suc k))
      where
        by_stamp : HasAbove k → ((u : Bytes) × IsAt (IsCandidate n above first) (candidate_or_not n above first) (suc k) u)
            ⊎ ((u : Bytes) → IsAt (IsCandidate n above first) (candidate_or_not n above first) (suc k) u → ⊥) → HasAbove (suc k)
        by_stamp below (inl (u, (i, has, is, stamp))) = record {
          found = below.found ++ (u, i) ∷ [];
          rising = rises_push (λ (f : Found). f.1.updated) below.found (u, i) below.rising
              (λ f had. (let low = (below.each f had).1.1 in omega arith));
          each = λ f had. ⊎_elim
              (λ (old : Contains below.found f). (let at = below.each f old in let low = at.1.1 in (at.0, (at.1.0, omega arith))))
              (λ (new : (u, i) ≡ f). subst (λ (g : Found). HasItem rows g.0 g.1 × (IsCandidate n above first g.1 × (g.1.updated ≤ suc k))) new (has, (is, omega arith)))
              (Contains-push_cases below.found (u, i) f had);
          whole = λ w j had also low. ⊎_elim
              (λ (less : j.updated < suc k). Contains-append_left below.found ((u, i) ∷ []) (w, j) (below.whole w j had also (omega arith)))
              (λ (over : suc k ≤ j.updated). (let uuids : w ≡ u = items.stamps w u j i had has (omega arith) in
              let rows_same : j ≡ i = one_item rows u j i (subst (λ (x : Bytes). HasItem rows x j) uuids had) has in
              let same : (u, i) ≡ (w, j) = cc in
              subst (λ (g : Found). Contains (below.found ++ (u, i) ∷ []) g) same (Contains-push below.found (u, i))))
              (cases_lt j.updated (suc k));
        }
        by_stamp below (inr none) = record {
          found = below.found;
          rising = below.rising;
          each = λ f had. (let at = below.each f had in let low = at.1.1 in (at.0, (at.1.0, omega arith)));
          whole = λ w j had also low. ⊎_elim (λ (less : j.updated < suc k). below.whole w j had also (omega arith))
              (λ (over : suc k ≤ j.updated). absurd (none w (j, had, also, omega arith))) (cases_lt j.updated (suc k));
        }

    all_of : (found : List Found) → HasAbove last → (h : HasAbove last) → found ≡ h.found → AreAbove rows n above first found
    all_of found unused h e =
        subst (AreAbove rows n above first) (sym e)
        (record {
          rising = IsStrictlyIncreasing-from_sorted (map (λ (f : Found). f.1.updated) h.found) h.rising;
          whole = λ u i. (
            λ has. (let at = h.each (u, i) has in (at.0, at.1.0)),
            λ at. h.whole u i at.0 at.1 ((items.sound u i at.0).given),
          );
        })

    -- ---- the longest front

    -- a front with what is left of these
    record Cuts (limit : ℕ) (found : List Found) : Type 0 where
      page : List Found
      left : List Found
      split : page ++ left ≡ found
      fits : FitsPage limit page ⊎ (length page ≡ 1)
      longest : (next : Found) (later : List Found) → left ≡ next ∷ later → (page ≢ []) × (FitsPage limit (page ++ next ∷ []) → ⊥)

    fits_or_not : (limit : ℕ) (page : List Found) → Decided (FitsPage limit page)
    fits_or_not limit page = both (at_most (length page) limit) (at_most (sum_by (λ (f : Found). weight f.1) page) most_bytes)

    not_empty : (front : List Found) (f : Found) → front ++ f ∷ [] ≢ []
    not_empty [] f e = absurd cc
    not_empty (g ∷ front) f e = absurd cc

    grown : (limit : ℕ) (page left : List Found) → page ≢ [] → FitsPage limit page ⊎ (length page ≡ 1) → Cuts limit (page ++ left)
    grown limit page [] some fits = record { page = page; left = []; split = refl; fits = fits; longest = λ next later e. absurd cc }
    grown limit page (f ∷ left) some fits =
        by_fit (fits_or_not limit (page ++ f ∷ [])) (λ more. grown limit (page ++ f ∷ []) left (not_empty page f) (inl more))
      where
        by_fit : Decided (FitsPage limit (page ++ f ∷ [])) → (FitsPage limit (page ++ f ∷ []) → Cuts limit ((page ++ f ∷ []) ++ left)) → Cuts limit (page ++ f ∷ left)
        by_fit (inl more) rest = subst (Cuts limit) (append_assoc page (f ∷ []) left) (rest more)
        by_fit (inr over) rest = record {
          page = page;
          left = f ∷ left;
          split = refl;
          fits = fits;
          longest = λ next later e. (some, (let same : f ≡ next = cc in subst (λ (g : Found). FitsPage limit (page ++ g ∷ []) → ⊥) same over));
        }

    cut : (limit : ℕ) (found : List Found) → Cuts limit found
    cut limit [] = record { page = []; left = []; split = refl; fits = inl (omega arith, omega arith); longest = λ next later e. absurd cc }
    cut limit (f ∷ found) = grown limit (f ∷ []) found (λ e. absurd cc) (inr refl)

    pub has_page : (limit : ℕ) → (page : List Found) × (left : List Found) × IsPage rows n above first limit page left
    has_page limit =
        let all : HasAbove last = above_upto last in
        let c : Cuts limit all.found = cut limit all.found in
        (c.page, c.left, record { all = all_of (c.page ++ c.left) all all c.split; fits = c.fits; longest = c.longest })

-- ---- what is given

pub has_retrieved : (page : List Found) → (items : List Item) × AreGiven page items
has_retrieved [] = ([], tt)
has_retrieved (f ∷ page) =
    let one : (i : Item) × IsGiven f.0 f.1 i = has_given f.0 f.1 in
    let others : (items : List Item) × AreGiven page items = has_retrieved page in
    (one.0 ∷ others.0, (one.1, others.1))

pub has_token : (stamp : ℕ) → stamp ≤ last_stamp → (token : Bytes) × IsToken token stamp
has_token stamp low = (base64_text (codes "2:" ++ decimal stamp), record { bound = low; spelled = refl })

has_last : (front : List Found) (f : Found) → (stamp : ℕ) × (IsLastOf (f ∷ front) stamp × (stamp ≤ last_stamp))
has_last [] f = (f.1.updated, (record { front = []; last = f; split = refl; is = refl }, f.1.updated_fits))
has_last (g ∷ front) f =
    let at : (stamp : ℕ) × (IsLastOf (g ∷ front) stamp × (stamp ≤ last_stamp)) = has_last front g in
    (at.0, (record { front = f ∷ at.1.0.front; last = at.1.0.last; split = ap (λ (p : List Found). f ∷ p) at.1.0.split; is = at.1.0.is }, at.1.1))

pub has_tokens : (rows : Rows) (n : ℕ) (page left : List Found) → ((next : Found) (later : List Found) → left ≡ next ∷ later → page ≢ [])
    → (stamp : ℕ) × IsGreatest rows n stamp × (stamp ≤ last_stamp)
    → (cursor : Option Bytes) × (token : Bytes) × AreTokens rows n page left cursor token
has_tokens rows n page [] some (stamp, greatest, low) =
    let token : (t : Bytes) × IsToken t stamp = has_token stamp low in
    (None, token.0, (refl, (stamp, greatest, token.1)))
has_tokens rows n [] (f ∷ left) some greatest = absurd (some f left refl refl)
has_tokens rows n (g ∷ page) (f ∷ left) some greatest =
    let last : (s : ℕ) × (IsLastOf (g ∷ page) s × (s ≤ last_stamp)) = has_last page g in
    let token : (t : Bytes) × IsToken t last.0 = has_token last.0 last.1.1 in
    (Some token.0, token.0, (refl, (last.0, last.1.0, token.1)))

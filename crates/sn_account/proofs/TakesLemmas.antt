-- Items that are dealt with one after another.
use Rattle.std.proofs.Common.{◌≡◌, ◌∙◌, ℕ, suc, ◌<◌, ◌≤◌, ◌+◌, List, [], ◌∷◌, ◌++◌, length, get_or, take, drop, inl, inr, refl, sym, subst, arith}
use Rattle.std.proofs.lemmas.List.{take-append-drop, take_all}
use Rattle.sn_string.specs.declared.params.Params.{Params}
use Rattle.sn_sync.specs.Stamps.{last_stamp}
use Rattle.sn_sync.specs.declared.item.Item.{Item}
use Rattle.sn_account.specs.Incoming.{IsFree, Progress, RunsOut, Takes, TakesAll, stamp_of}
use Rattle.sn_account.specs.Pages.{most_bytes}
use Rattle.sn_account.proofs.ListLemmas.{around, take_more}

-- once there are too many bytes, nothing more is taken
pub stops : (present : Params) (now n : ℕ) (p : Progress) (items : List Item) → most_bytes < p.bytes → TakesAll present now n p items p
stops present now n p [] over = refl
stops present now n p (i ∷ is) over = inl (over, refl)

stopped : (present : Params) (now n : ℕ) (p q : Progress) (items : List Item) → most_bytes < p.bytes → TakesAll present now n p items q → q ≡ p
stopped present now n p q [] over is = is
stopped present now n p q (i ∷ is) over (inl t) = t.1
stopped present now n p q (i ∷ is) over (inr t) = absurd (omega (arith, t.0))

-- items behind others
pub takes_append : (present : Params) (now n : ℕ) (p r q : Progress) (front behind : List Item) → TakesAll present now n p front r
    → TakesAll present now n r behind q → TakesAll present now n p (front ++ behind) q
takes_append present now n p r q [] behind first second = subst (λ (s : Progress). TakesAll present now n s behind q) first second
takes_append present now n p r q (i ∷ front) behind (inl t) second =
    let over : most_bytes < r.bytes = subst (λ (s : Progress). most_bytes < s.bytes) (sym t.1) t.0 in
    inl (t.0, stopped present now n r q behind over second ∙ t.1)
takes_append present now n p r q (i ∷ front) behind (inr t) second =
    inr (t.0, (t.1.0, t.1.1, takes_append present now n t.1.0 r q front behind t.1.2 second))

-- one item more
pub takes_more : (present : Params) (now n : ℕ) (p r q : Progress) (items : List Item) (k : ℕ) (i : Item) → k < length items → i ≡ get_or items k i
    → TakesAll present now n p (take k items) r → r.bytes ≤ most_bytes → Takes present now n r i q
    → TakesAll present now n p (take (k + 1) items) q
takes_more present now n p r q items k i within is first looked step =
    subst (λ (xs : List Item). TakesAll present now n p xs q) (sym (take_more items k i within is))
    (takes_append present now n p r q (take k items) (i ∷ []) first (inr (looked, (q, step, refl))))

-- all of them
pub takes_whole : (present : Params) (now n : ℕ) (p q : Progress) (items : List Item) (k : ℕ) → length items ≤ k
    → TakesAll present now n p (take k items) q → TakesAll present now n p items q
takes_whole present now n p q items k whole taken = subst (λ (xs : List Item). TakesAll present now n p xs q) (take_all k items whole) taken

-- those before the bytes are too many
pub takes_front : (present : Params) (now n : ℕ) (p q : Progress) (items : List Item) (k : ℕ) → most_bytes < q.bytes
    → TakesAll present now n p (take k items) q → TakesAll present now n p items q
takes_front present now n p q items k over taken =
    subst (λ (xs : List Item). TakesAll present now n p xs q) (take-append-drop k items)
    (takes_append present now n p q q (take k items) (drop k items) taken (stops present now n q (drop k items) over))

-- the stamps run out at one of them
pub runs_out : (present : Params) (now n : ℕ) (p q : Progress) (items : List Item) (k : ℕ) (i : Item) → k < length items → i ≡ get_or items k i
    → TakesAll present now n p (take k items) q → q.bytes ≤ most_bytes → IsFree q n present i → last_stamp < stamp_of now q.last
    → RunsOut present now n p items
runs_out present now n p q items k i within is taken looked free past = record {
  front = take k items;
  item = i;
  later = drop (suc k) items;
  split = around items k i within is;
  at = q;
  taken = taken;
  looked = looked;
  free = free;
  past = past;
}

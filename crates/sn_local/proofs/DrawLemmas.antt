-- Uuids that were drawn, one after another.
use Rattle.std.specs.Prelude.{◌≡◌, ◌<◌, ◌+◌, ℕ, List, [], ◌∷◌, ◌++◌, length, All, Option, Some, None, IfSome, IfNone, is_some}
use Rattle.std.specs.Bool.{MatchBool}
use Rattle.std.specs.Borrow.{Bor}
use Rattle.std.proofs.Common.{refl, ap, subst, ◌∙◌, arith, length-append}
use Rattle.std.proofs.lemmas.List.Elements.{All-nil, All-cons, All-append}
use Rattle.rand_chacha.specs.ChaCha.{ChaCha}
use Rattle.sn_items.specs.Draws.{as_version_4, drawn}
use Rattle.sn_rows.specs.Table.{Rows}
use Rattle.sn_rows.specs.declared.device_rows.LocalItem.{LocalItem}
use Rattle.sn_sets.proofs.Facts.{later_again}
use Rattle.sn_sets.specs.Seals.{IsLater}
use Rattle.sn_device.specs.Draws.{DrawsFresh, DrawsNoFresh, DrawsUuids}
use Rattle.sn_device.specs.States.{Bytes, HasItem, IsFree, IsUsed}

-- what is left of the words behind one draw
pub later_drawn : (size : ℕ) (bytes : Bytes) (words left : ChaCha) → (bytes, left) ≡ drawn size words → IsLater words left
later_drawn size bytes words left is = (size ∷ [], ap (λ (p : Bytes × ChaCha). p.1) is)

-- ---- uuids

-- this one was drawn, and items have all of those before it
pub record HasDrawn (rows : Rows) (words : ChaCha) (uuid : Bytes) (draws : ℕ) (left : ChaCha) : Type 0 where
  pub before : List Bytes
  pub count : length before + 1 ≡ draws
  pub uuids : DrawsUuids words (before ++ uuid ∷ []) left
  pub used : All (IsUsed rows) before
  pub later : IsLater words left

-- the next uuid of the words
abbrev pub DrawsUuid : ChaCha → Bytes → ChaCha → Type 0
DrawsUuid words uuid left = (bytes : Bytes) × ((bytes, left) ≡ drawn 16 words) × (uuid ≡ as_version_4 bytes)

uuids_more : (before : List Bytes) (words between : ChaCha) (uuid : Bytes) (left : ChaCha) → DrawsUuids words before between → DrawsUuid between uuid left
    → DrawsUuids words (before ++ uuid ∷ []) left
uuids_more [] words between uuid left drew (bytes, is, spelled) = (bytes, left, subst (λ (w : ChaCha). (bytes, left) ≡ drawn 16 w) drew is, spelled, refl)
uuids_more (first ∷ before) words between uuid left (bytes, rest, is, spelled, drew) next = (bytes, rest, is, spelled, uuids_more before rest between uuid left drew next)

pub drawn_first : (rows : Rows) (words : ChaCha) (uuid : Bytes) (left : ChaCha) → DrawsUuid words uuid left → HasDrawn rows words uuid 1 left
drawn_first rows words uuid left draw = record {
  before = [];
  count = refl;
  uuids = uuids_more [] words words uuid left refl draw;
  used = All-nil (IsUsed rows);
  later = later_drawn 16 draw.0 words left draw.1;
}

pub drawn_more : (rows : Rows) (words between : ChaCha) (uuid next : Bytes) (draws : ℕ) (left : ChaCha) → HasDrawn rows words uuid draws between → IsUsed rows uuid
    → DrawsUuid between next left → HasDrawn rows words next (draws + 1) left
drawn_more rows words between uuid next draws left had used draw = record {
  before = had.before ++ uuid ∷ [];
  count = omega (arith, had.count, length-append had.before (uuid ∷ []));
  uuids = uuids_more (had.before ++ uuid ∷ []) words between next left had.uuids draw;
  used = All-append (IsUsed rows) had.before (uuid ∷ []) had.used (All-cons (IsUsed rows) uuid [] used (All-nil (IsUsed rows)));
  later = later_again words between left had.later (later_drawn 16 draw.0 between left draw.1);
}

pub draws_fresh : (rows : Rows) (words : ChaCha) (uuid : Bytes) (draws : ℕ) (left : ChaCha) → HasDrawn rows words uuid draws left → draws < 17 → IsFree rows uuid
    → DrawsFresh rows words uuid left
draws_fresh rows words uuid draws left had few free = record {
  before = had.before;
  few = omega (arith, had.count, few);
  draws = had.uuids;
  used = had.used;
  fresh = free;
}

pub draws_no_fresh : (rows : Rows) (words : ChaCha) (uuid : Bytes) (left : ChaCha) → HasDrawn rows words uuid 16 left → IsUsed rows uuid → DrawsNoFresh rows words uuid
draws_no_fresh rows words uuid left had used = record {
  before = had.before;
  left = left;
  all = length-append had.before (uuid ∷ []) ∙ had.count;
  draws = had.uuids;
  used = All-append (IsUsed rows) had.before (uuid ∷ []) had.used (All-cons (IsUsed rows) uuid [] used (All-nil (IsUsed rows)));
}

-- an item that is found has the uuid
pub used_by : (rows : Rows) (uuid : Bytes) (found : Option (ℕ × Bor LocalItem)) → IfSome found (λ f. HasItem rows uuid f.0 f.1.now) → IfNone found (IsFree rows uuid)
    → MatchBool (is_some found) (IsUsed rows uuid) (IsFree rows uuid)
used_by rows uuid (Some f) has free = (f.0, f.1.now, has)
used_by rows uuid None has free = free

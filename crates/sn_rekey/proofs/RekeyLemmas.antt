-- A row at the adoption of a key set.
use Rattle.std.proofs.Common.{◌≡◌, sym, refl, subst, inl, inr, Bool, true, false, ◌||◌, Option, Some, None, is_some, Result, Ok, Err, IfOk, IfSome, IfNone}
use Rattle.rand_chacha.specs.ChaCha.{ChaCha}
use Rattle.sn_items.specs.declared.sealed.Sealed.{Sealed}
use Rattle.sn_rekey.specs.Laws.{ClosedStays, OpenOrNot, VersionStays}
use Rattle.sn_rekey.specs.Rekeying.{HasNoneOpen, HasOpen, HasStrings, IsClosed, OpensUnderHeld, IsRewrapped, Rekeys, RewrapsPlace, SealsAgain, with_strings}
use Rattle.sn_rekey.specs.Rewraps.{Bytes, RewrapsHeld}
use Rattle.sn_rows.specs.declared.body.RowBody.{RowBody}
use Rattle.sn_rows.specs.declared.body.RowBody.TheVariants as row
use Rattle.sn_rows.specs.declared.body.RowStrings.{RowStrings}
use Rattle.sn_rows.specs.declared.device_rows.LocalItem.{LocalItem}
use Rattle.sn_sets.specs.Sets.{OpensHeld, OpensNowhere, sealed_of}
use Rattle.sn_sets.specs.declared.sets.Sets.{Sets}
use Rattle.sn_string.specs.declared.params.KeySet.{KeySet}

-- ---- one place

pub place_sealed : {E : Type 0} (outcome : Result (Option RowStrings) E) (sets : Sets) (set : KeySet) (words : ChaCha) (uuid : Bytes)
    (place : Option RowBody) (strings : RowStrings) (left : ChaCha) → place ≡ Some (row.Sealed strings)
    → IfOk outcome (λ found. IfSome found (λ again. RewrapsHeld sets set words uuid (sealed_of strings) (sealed_of again) left))
    → IfOk outcome (λ found. IfNone found (OpensNowhere sets uuid (sealed_of strings) × (left ≡ words)))
    → IfOk outcome (λ found. RewrapsPlace sets set words uuid (is_some found) place (with_strings found place) left)
place_sealed (Ok (Some again)) sets set words uuid place strings left is some none =
    record { given = strings; given_is = is; again = again; again_is = refl; rewraps = some }
place_sealed (Ok None) sets set words uuid place strings left is some none =
    record { closed = subst (λ (p : Option RowBody). IsClosed sets uuid p) (sym is) none.0; same = refl; undrawn = none.1 }
place_sealed (Err e) sets set words uuid place strings left is some none = tt

opens_of : (sets : Sets) (set : KeySet) (words : ChaCha) (uuid : Bytes) (given again : Sealed) (left : ChaCha)
    → RewrapsHeld sets set words uuid given again left → (text : Bytes) × OpensHeld sets uuid given text
opens_of sets set words uuid given again left (inl present) = (present.text, inl present.opens)
opens_of sets set words uuid given again left (inr older) = (older.text, inr older.opens)

is_open : (sets : Sets) (set : KeySet) (words : ChaCha) (uuid : Bytes) (before after : Option RowBody) (left : ChaCha)
    → SealsAgain sets set words uuid before after left → OpensUnderHeld sets uuid before
is_open sets set words uuid before after left made =
    subst (λ (p : Option RowBody). OpensUnderHeld sets uuid p) (sym made.given_is)
    (opens_of sets set words uuid (sealed_of made.given) (sealed_of made.again) left made.rewraps)

-- ---- the row

-- the three places, one after another
pub record Places (sets : Sets) (set : KeySet) (words : ChaCha) (local : LocalItem) (body latest posted : Option RowStrings) (left : ChaCha) : Type 0 where
  pub second : ChaCha
  pub body_is : RewrapsPlace sets set words local.uuid (is_some body) local.body (with_strings body local.body) second
  pub third : ChaCha
  pub latest_is : RewrapsPlace sets set second local.uuid (is_some latest) local.latest (with_strings latest local.latest) third
  pub posted_is : RewrapsPlace sets set third local.uuid (is_some posted) local.posted (with_strings posted local.posted) left

pub rekeys : (sets : Sets) (set : KeySet) (words : ChaCha) (before after : LocalItem) (body latest posted : Option RowStrings) (left : ChaCha)
    → Places sets set words before body latest posted left → HasStrings before body latest posted after → Rekeys sets set words before after left
rekeys sets set words before after body latest posted left places has =
    record {
      uuid_is = has.uuid_is;
      kind_is = has.kind_is;
      base_is = has.base_is;
      body_again = is_some body;
      second = places.second;
      body_is = subst (λ (p : Option RowBody). RewrapsPlace sets set words before.uuid (is_some body) before.body p places.second) (sym has.body_is) places.body_is;
      latest_again = is_some latest;
      third = places.third;
      latest_is = subst (λ (p : Option RowBody). RewrapsPlace sets set places.second before.uuid (is_some latest) before.latest p places.third) (sym has.latest_is) places.latest_is;
      posted_again = is_some posted;
      posted_is = subst (λ (p : Option RowBody). RewrapsPlace sets set places.third before.uuid (is_some posted) before.posted p left) (sym has.posted_is) places.posted_is;
      stale_is = has.stale_is;
    }

pub has_open : (sets : Sets) (set : KeySet) (words : ChaCha) (local : LocalItem) (body latest posted : Option RowStrings) (left : ChaCha)
    → (is_some body || is_some latest || is_some posted) ≡ true → Places sets set words local body latest posted left → HasOpen sets local
has_open sets set words local (Some b) latest posted left some places =
    inl (is_open sets set words local.uuid local.body (Some (row.Sealed b)) places.second places.body_is)
has_open sets set words local None (Some l) posted left some places =
    inr (inl (is_open sets set places.second local.uuid local.latest (Some (row.Sealed l)) places.third places.latest_is))
has_open sets set words local None None (Some p) left some places =
    inr (inr (is_open sets set places.third local.uuid local.posted (Some (row.Sealed p)) left places.posted_is))
has_open sets set words local None None None left some places = absurd (cc)

-- ---- the laws

pub closed_stays : ClosedStays
closed_stays sets set words local closed =
    record {
      uuid_is = refl;
      kind_is = refl;
      base_is = refl;
      body_again = false;
      second = words;
      body_is = record { closed = closed.body; same = refl; undrawn = refl };
      latest_again = false;
      third = words;
      latest_is = record { closed = closed.latest; same = refl; undrawn = refl };
      posted_again = false;
      posted_is = record { closed = closed.posted; same = refl; undrawn = refl };
      stale_is = refl;
    }

not_both : (sets : Sets) (uuid : Bytes) (place : Option RowBody) → OpensUnderHeld sets uuid place → ¬ (IsClosed sets uuid place)
not_both sets uuid None found closed = absurd found
not_both sets uuid (Some row.Deleted) found closed = absurd found
not_both sets uuid (Some (row.Sealed strings)) found closed = closed found.0 found.1

open_somewhere : (sets : Sets) (local : LocalItem) → HasOpen sets local → ¬ (HasNoneOpen sets local)
open_somewhere sets local (inl body) none = not_both sets local.uuid local.body body none.body
open_somewhere sets local (inr (inl latest)) none = not_both sets local.uuid local.latest latest none.latest
open_somewhere sets local (inr (inr posted)) none = not_both sets local.uuid local.posted posted none.posted

pub open_or_not : OpenOrNot
open_or_not = open_somewhere

stays : (sets : Sets) (set : KeySet) (words : ChaCha) (uuid : Bytes) (again : Bool) (before : RowBody) (after : Option RowBody) (left : ChaCha)
    → RewrapsPlace sets set words uuid again (Some before) after left
    → (body : RowBody) × (after ≡ Some body) × IsRewrapped sets set words uuid before body left
stays sets set words uuid true before after left made = (
  row.Sealed made.again,
  made.again_is,
  inl (record { given = made.given; given_is = made.given_is; again = made.again; again_is = refl; rewraps = made.rewraps }),
)
stays sets set words uuid false before after left kept =
    (before, kept.same, inr (record { closed = kept.closed; same = refl; undrawn = kept.undrawn }))

pub version_stays : VersionStays
version_stays = stays

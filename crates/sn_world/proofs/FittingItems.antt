-- Requests of rows whose lengths are as they should be are within the bounds of those that are read.
use Rattle.std.proofs.Common.{◌≡◌, ◌≤◌, ℕ, true, List, [], ◌∷◌, All, length, sym, subst, arith}
use Rattle.std.specs.List.{Contains}
use Rattle.std.specs.Prelude.{◌&&◌, nat_le}
use Rattle.std.specs.Str.{IsUtf8, is_utf8}
use Rattle.std.proofs.lemmas.Bool.{and_parts, leb-true}
use Rattle.std.proofs.lemmas.List.Elements.{All-cons, All-contains_itself, All-head, All-nil, All-tail, All-weaker, Contains-append_left}
use Rattle.std.proofs.lemmas.Str.{IsUtf8-from_is_utf8}
use Rattle.sn_device.specs.Runs.{change_to}
use Rattle.sn_device.specs.Sending.{AreSentAs, IsSentAs, Numbered}
use Rattle.sn_device.specs.States.{Bytes, HasLocal}
use Rattle.sn_rows.specs.Bounds.{is_text_of}
use Rattle.sn_rows.specs.Table.{Rows}
use Rattle.sn_rows.specs.declared.device_rows.LocalItem.{LocalItem}
use Rattle.sn_rows.specs.declared.device_rows.OwnerRow.{OwnerRow}
use Rattle.sn_string.specs.declared.params.KeySet.{KeySet}
use Rattle.sn_sync.specs.Fits.{AreBytes, FitsKind, FitsRequest, FitsSent}
use Rattle.sn_sync.specs.declared.item.Body.{Body}
use Rattle.sn_sync.specs.declared.item.Body.TheVariants as body
use Rattle.sn_sync.specs.declared.item.Item.{Item}
use Rattle.sn_sync.specs.declared.request.Request.TheVariants as request
use Rattle.sn_world.specs.Fitting.{FitsUuids, SendsFit}

-- ---- texts of a row

record HasBounds (least most : ℕ) (text : Bytes) : Type 0 where
  utf8 : IsUtf8 text
  long : least ≤ length text
  short : length text ≤ most

bounds : (least most : ℕ) (text : Bytes) → is_text_of least most text ≡ true → HasBounds least most text
bounds least most text is =
    let p = and_parts (is_utf8 text) (nat_le least (length text) && nat_le (length text) most) is in
    let q = and_parts (nat_le least (length text)) (nat_le (length text) most) p.1 in
    record { utf8 = IsUtf8-from_is_utf8 text p.0; long = leb-true least (length text) q.0; short = leb-true (length text) most q.1 }

-- ---- an item that is sent

kind_fits : (b : Body) (kind : Bytes) → HasBounds 1 255 kind → FitsKind b kind
kind_fits body.Deleted kind h = h.short
kind_fits (body.Strings content enc) kind h = (h.long, h.short)

sent_fits : (local : LocalItem) (i : Item) → AreBytes 16 local.uuid → IsSentAs local i → FitsSent i
sent_fits local i uuid x = record {
  uuid = subst (AreBytes 16) (sym x.uuid_is) uuid;
  kind = subst (FitsKind i.body) (sym x.kind_is) (kind_fits i.body local.kind (bounds 1 255 local.kind local.kind_fits));
  created = x.created_is;
}

abbrev StandsAt : Rows → Numbered → Type 0
StandsAt rows w = HasLocal rows w.0 w.1

all_fit : (rows : Rows) → FitsUuids rows → (chosen : List Numbered) (items : List Item) → All (StandsAt rows) chosen → AreSentAs chosen items → All FitsSent items
all_fit rows fits [] [] stand sent = All-nil FitsSent
all_fit rows fits [] (i ∷ items) stand sent = absurd sent
all_fit rows fits (w ∷ chosen) [] stand sent = absurd sent
all_fit rows fits (w ∷ chosen) (i ∷ items) stand sent =
    All-cons FitsSent i items (sent_fits w.1 i (fits w.0 w.1 (All-head (StandsAt rows) w chosen stand)) sent.0)
    (all_fit rows fits chosen items (All-tail (StandsAt rows) w chosen stand) sent.1)

-- ---- a sync

pub sends_fit : SendsFit
sends_fit rows numbers posted r ready fits x =
    let stand : All (StandsAt rows) x.chosen =
    All-weaker (Contains x.chosen) (StandsAt rows)
    (λ w has. ((x.chosen_are.all.whole w.0 w.1).0 (Contains-append_left x.chosen x.later w has)).0) x.chosen (All-contains_itself x.chosen) in
    let sent = x.request_is in
    subst FitsRequest (sym sent.request_is) (all_fit rows fits x.chosen sent.items stand sent.items_are, omega arith, omega arith)

-- ---- requests without items

pub params_fit : (owner : OwnerRow) → FitsRequest (request.Params owner.identifier)
params_fit owner = let b = bounds 1 254 owner.identifier owner.identifier_fits in ((b.long, b.short), b.utf8)

pub sign_in_fits : (owner : OwnerRow) (set : KeySet) → AreBytes 32 set.pw → FitsRequest (request.SignIn owner.identifier set.pw)
sign_in_fits owner set pw = let b = bounds 1 254 owner.identifier owner.identifier_fits in ((b.long, b.short), pw)

pub change_fits : (owner : OwnerRow) (present set : KeySet) → AreBytes 32 present.pw → AreBytes 32 set.pw → FitsRequest (change_to owner present set)
change_fits owner present set current pw = (current, pw, set.params.cost_fits, set.params.nonce_fits)

-- The row of a device's account, put first with its first set, and put again.
use Rattle.std.proofs.Common.{◌≡◌, ◌≢◌, ℕ, [], ◌∷◌, Option, Some, None, refl, sym, ap, ◌∙◌, subst, ⊎_elim, arith}
use Rattle.std.specs.Prelude.{IsSome, find}
use Rattle.std.proofs.lemmas.Bool.Decides.{nat_tests}
use Rattle.sn_laws.proofs.Facts.{text_same}
use Rattle.sn_laws.specs.Lookups.{Bytes, device_named, draft_at, greatest, is_device}
use Rattle.sn_laws.specs.Moves.{after, joined}
use Rattle.sn_laws.specs.declared.ideal.Account.{Account}
use Rattle.sn_laws.specs.declared.ideal.Device.{Device}
use Rattle.sn_laws.specs.declared.ideal.Ideal.{Ideal}
use Rattle.sn_laws.specs.declared.moves.Move.TheVariants.{Join}
use Rattle.sn_rows.specs.Table.{Rows, rows_after}
use Rattle.sn_rows.specs.declared.change.Change.{Change}
use Rattle.sn_rows.specs.declared.key.Key.{Key}
use Rattle.sn_rows.specs.declared.key.Key.TheVariants as key
use Rattle.sn_rows.specs.declared.key.Slot.TheVariants.{Present, Older}
use Rattle.sn_rows.specs.declared.value.Value.{Value}
use Rattle.sn_rows.specs.declared.value.Value.TheVariants as value
use Rattle.sn_rows.specs.Facts.{first_put, neither_put, put_elsewhere, put_or_not, put_here, second_put}
use Rattle.sn_shows.specs.Devices.{HasRow, IsDeviceKey, IsSetRow, ShowsDevice, ShowsDeviceAs, ShowsHolder, ShowsNothing, ShowsOlder}
use Rattle.sn_shows.specs.Laws.{JoinedShows, PutsOwner, PutsTokens, TokensShow}
use Rattle.sn_shows.proofs.DeviceLookups.{find_new}
use Rattle.sn_shows.proofs.DeviceStates.{holder_of, shows_of}

-- the account's row put again

tokens_holder : (rows : Rows) (s : Ideal) (name : Bytes) (d : Device) (a : Account) (change : Change)
    → ShowsHolder rows s name d a → PutsTokens change a → ShowsHolder (rows_after rows (change ∷ [])) s name d a
tokens_holder rows s name d a change h p =
    let away : (other : Key) → key.Owner ≢ other → rows_after rows (change ∷ []) other ≡ rows other =
    λ other apart. put_elsewhere rows change key.Owner other (value.Owner p.row) p.puts apart in
    record {
      owner = record { owner = p.row; stands = put_here rows change key.Owner (value.Owner p.row) p.puts; identifier = p.identifier };
      present = record { row = h.present.row; stands = away (key.Set Present) (λ e. cc) ∙ h.present.stands; is = h.present.is };
      older = subst (λ (found : Option Value). ShowsOlder a found d.held) (sym (away (key.Set Older) (λ e. cc))) h.older;
      locals = λ number item e. h.locals number item (sym (away (key.Local number) (λ k. cc)) ∙ e);
      once = λ number other item twin e k. h.once number other item twin (sym (away (key.Local number) (λ x. cc)) ∙ e) (sym (away (key.Local other) (λ x. cc)) ∙ k);
      drafts = λ uuid draft e.
          let was : HasRow rows uuid = h.drafts uuid draft e in
          record { number = was.number; item = was.item; stands = away (key.Local was.number) (λ k. cc) ∙ was.stands; item_is = was.item_is };
      no_other = λ other some.
          ⊎_elim
          (λ (e : key.Owner ≡ other). subst IsDeviceKey e tt)
          (λ (e : rows_after rows (change ∷ []) other ≡ rows other). h.no_other other (subst (λ (found : Option Value). IsSome found) e some))
          (put_or_not rows change key.Owner (value.Owner p.row) p.puts other);
    }

pub tokens_show : TokensShow
tokens_show rows s name d a change h has p =
    shows_of (rows_after rows (change ∷ [])) s name d a has (tokens_holder rows s name d a change (holder_of rows s name d a h has) p)

-- the first set

greatest_one : (number : ℕ) → greatest 0 (number ∷ []) ≡ number
greatest_one number = grind (arith, nat_tests)

nothing_of : (rows : Rows) (s : Ideal) (name : Bytes) → ShowsDevice rows s name → device_named s name ≡ None → ShowsNothing rows s name
nothing_of rows s name h e = subst (λ (found : Option Device). ShowsDeviceAs rows s name found) e h

joined_holder : (rows : Rows) (s : Ideal) (name identifier : Bytes) (number : ℕ) (a : Account) (owner present : Change)
    → ShowsNothing rows s name → PutsOwner owner present a number
    → ShowsHolder (rows_after rows (owner ∷ present ∷ [])) (after s (Join name identifier number)) name
    (record { name = name; account = identifier; held = number ∷ [] }) a
joined_holder rows s name identifier number a owner present h p =
    let away : (other : Key) → key.Owner ≢ other → key.Set Present ≢ other → rows_after rows (owner ∷ present ∷ []) other ≡ None =
    λ other apart further.
    neither_put rows owner present key.Owner (key.Set Present) other (value.Owner p.row) (value.Set p.set) p.owner_puts p.present_puts apart further
    ∙ h.none other in
    record {
      owner = record {
        owner = p.row;
        stands = first_put rows owner present key.Owner (key.Set Present) (value.Owner p.row) (value.Set p.set) p.owner_puts p.present_puts (λ e. cc);
        identifier = p.identifier;
      };
      present = record {
        row = p.set;
        stands = second_put rows owner present (key.Set Present) (value.Set p.set) p.present_puts;
        is = subst (λ (n : ℕ). IsSetRow a n p.set) (sym (greatest_one number)) p.set_is;
      };
      older = away (key.Set Older) (λ e. cc) (λ e. cc);
      locals = λ local item e. let none = away (key.Local local) (λ k. cc) (λ k. cc) in absurd (cc);
      once = λ local other item twin e. let none = away (key.Local local) (λ k. cc) (λ k. cc) in absurd (cc);
      drafts = λ uuid draft e. let none : draft_at s name uuid ≡ None = h.no_draft uuid in absurd (cc);
      no_other = λ other some.
          ⊎_elim
          (λ (e : key.Set Present ≡ other). subst IsDeviceKey e tt)
          (λ (e : rows_after rows (owner ∷ present ∷ []) other ≡ rows_after rows (owner ∷ []) other).
          ⊎_elim
          (λ (k : key.Owner ≡ other). subst IsDeviceKey k tt)
          (λ (k : rows_after rows (owner ∷ []) other ≡ rows other).
          let none : IsSome {T = Value} None = subst (λ (found : Option Value). IsSome found) (e ∙ k ∙ h.none other) some in
          absurd (cc))
          (put_or_not rows owner key.Owner (value.Owner p.row) p.owner_puts other))
          (put_or_not (rows_after rows (owner ∷ [])) present (key.Set Present) (value.Set p.set) p.present_puts other);
    }

pub joined_shows : JoinedShows
joined_shows rows s name identifier number a owner present h new named p =
    let d : Device = record { name = name; account = identifier; held = number ∷ [] } in
    let device : device_named (after s (Join name identifier number)) name ≡ Some d =
    ap (λ (found : Option Device). find (is_device name) (joined s.devices name identifier number found)) new
    ∙ find_new (is_device name) s.devices d new (text_same name name refl) in
    shows_of (rows_after rows (owner ∷ present ∷ [])) (after s (Join name identifier number)) name d a
    (record { device = device; account = named })
    (joined_holder rows s name identifier number a owner present (nothing_of rows s name h new) p)

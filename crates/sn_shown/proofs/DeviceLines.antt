-- The lines of a device, and of the devices so far.
use Rattle.std.proofs.Common.{◌≡◌, ℕ, ◌+◌, ◌<◌, ◌≤◌, List, [], ◌∷◌, ◌++◌, length, take, get_or, Option, Some, None, refl, sym, ap, ◌∙◌, subst, append_assoc}
use Rattle.std.specs.Prelude.{OnOk, Result}
use Rattle.std.specs.List.{flat_map}
use Rattle.std.proofs.lemmas.List.{append-nil, take_all, take_more}
use Rattle.std.proofs.lemmas.List.Concat.{flat_map-append}
use Rattle.sn_laws.specs.Lookups.{Bytes, account_for, account_named, account_of, device_named, draft_at, greatest}
use Rattle.sn_laws.specs.declared.ideal.Account.{Account}
use Rattle.sn_laws.specs.declared.ideal.Device.{Device}
use Rattle.sn_laws.specs.declared.ideal.Draft.{Draft}
use Rattle.sn_laws.specs.declared.ideal.Ideal.{Ideal}
use Rattle.sn_report.specs.Labels.{Labels, items_of}
use Rattle.sn_report.specs.Showing.{closed_lines, device_lines, device_text, draft_lines, none_text, sets_text}
use Rattle.sn_rows.specs.Table.{Rows}
use Rattle.sn_shows.specs.Devices.{ShowsDevice, ShowsDeviceAs, ShowsDrafted, ShowsHolder, ShowsNothing}
use Rattle.sn_shown.specs.Closed.{AreClosedTo, IsClosedAs, IsClosedUnder, IsItemClosedAs, ShowsClosed}
use Rattle.sn_shown.specs.Drafts.{ShowsDrafts}
use Rattle.sn_shown.specs.Held.{AreNumbers, IsHolding, numbers_of}
use Rattle.sn_shown.specs.declared.holding.Holding.{Holding}
use Rattle.sn_shown.specs.declared.numbers.Numbers.{Numbers}
use Rattle.sn_shown.proofs.ClosedRows.{item_as}
use Rattle.sn_shown.proofs.Finds.{never, one_found}
use Rattle.sn_shown.proofs.HoldingLemmas.{Owned, has_account, owned_by}

-- ---- a device without an account

no_drafts : (labels : Labels) (s : Ideal) (name : Bytes) → ((uuid : Bytes) → draft_at s name uuid ≡ None) → (ls : List Bytes)
    → flat_map (λ uuid. draft_lines labels (draft_at s name uuid)) ls ≡ []
no_drafts labels s name none [] = refl
no_drafts labels s name none (l ∷ ls) =
    ap (λ (found : Option Draft). draft_lines labels found ++ flat_map (λ uuid. draft_lines labels (draft_at s name uuid)) ls) (none l)
    ∙ no_drafts labels s name none ls

-- nothing is closed to it
no_closed : (rows : Rows) (labels : Labels) (s : Ideal) (name : Bytes) (closed : Bytes → Option ℕ) → device_named s name ≡ None
    → AreClosedTo rows s name closed → (ls : List Bytes) → flat_map (λ uuid. closed_lines labels name uuid (closed uuid)) ls ≡ []
no_closed rows labels s name closed e are [] = refl
no_closed rows labels s name closed e are (l ∷ ls) =
    ap (λ (found : Option ℕ). closed_lines labels name l found ++ flat_map (λ uuid. closed_lines labels name uuid (closed uuid)) ls)
    (none (closed l) (are l))
    ∙ no_closed rows labels s name closed e are ls
  where
    none : (found : Option ℕ) → IsClosedAs rows s name l found → found ≡ None
    none None c = refl
    none (Some under) c = never (device_named s name) c.device c.has.device e

pub one_line : (rows : Rows) (labels : Labels) (s : Ideal) (closed : Bytes → Bytes → Option ℕ) (name : Bytes) → ShowsDevice rows s name
    → AreClosedTo rows s name (closed name) → device_named s name ≡ None → none_text name ∷ [] ≡ device_lines labels s closed name
one_line rows labels s closed name shows are e =
    let nothing : ShowsNothing rows s name = subst (λ (found : Option Device). ShowsDeviceAs rows s name found) e shows in
    let drafts : List Bytes = flat_map (λ uuid. draft_lines labels (draft_at s name uuid)) (items_of labels) in
    let behind : List Bytes = flat_map (λ uuid. closed_lines labels name uuid (closed name uuid)) (items_of labels) in
    sym
    (ap (λ (found : Option Device). device_text name found ∷ (drafts ++ behind)) e
    ∙ ap (λ (ls : List Bytes). none_text name ∷ (ls ++ behind)) (no_drafts labels s name nothing.no_draft (items_of labels))
    ∙ ap (λ (ls : List Bytes). none_text name ∷ ls) (no_closed rows labels s name (closed name) e are (items_of labels)))

-- ---- and one with one

module _ (rows : Rows) (labels : Labels) (s : Ideal) (name : Bytes) (h : Holding) (shows : ShowsDevice rows s name) (is : IsHolding s name h) where
  owned : Owned rows s name is.device
  owned = owned_by rows s name is.device shows is.named

  same_account : owned.account ≡ is.account
  same_account = one_found (account_of s name) owned.account is.account (has_account rows s name is.device owned is.named) is.has

  holder : ShowsHolder rows s name is.device is.account
  holder = subst (λ (a : Account). ShowsHolder rows s name is.device a) same_account owned.holder

  pub drafts_shown : ShowsDrafts rows h.present.set s name
  drafts_shown =
      record {
        sets = is.account.sets;
        number = h.present.number;
        set_is = is.present;
        shown = λ n item stands.
            subst (λ (m : ℕ). ShowsDrafted is.account.sets m item (draft_at s name item.uuid)) is.greatest_is (holder.locals n item stands).draft;
        rows_of = holder.drafts;
      }

  own_line : sets_text name h.present.set.params.identifier (numbers_of h) ≡ device_text name (device_named s name)
  own_line =
      ap (λ (t : Bytes). sets_text name t (numbers_of h)) is.identifier
      ∙ ap (λ (ns : List ℕ). sets_text name is.device.account ns) (sym is.held)
      ∙ ap (device_text name) (sym is.named)

  named_account : account_named s is.device.account ≡ Some is.account
  named_account = sym (ap (account_for s.accounts) is.named) ∙ is.has

  pub closed_shown : (numbers : Numbers) (closed : Bytes → Option ℕ) → AreNumbers numbers s.accounts → AreClosedTo rows s name closed
      → ShowsClosed rows numbers h closed
  closed_shown numbers closed numbered are =
      record {
        shown = λ n item stands.
            record {
              accounts = s.accounts;
              are = numbered;
              account = is.account;
              at = is.at;
              greatest = greatest 0 is.device.held;
              base = (holder.locals n item stands).base;
              closed =
                  subst (λ (held : List ℕ). IsItemClosedAs is.account held item (closed item.uuid)) is.held
                  (item_as rows s name is.device is.account is.named named_account holder n item stands (closed item.uuid) (are item.uuid));
            };
        rows_of = λ uuid under e.
            let c : IsClosedUnder rows s name uuid under = subst (λ (o : Option ℕ). IsClosedAs rows s name uuid o) e (are uuid) in
            record { number = c.number; item = c.item; stands = c.stands; item_is = c.item_is };
      }

  pub with_account : {E : Type 0} (result : Result (Unit {0}) E) (closed : Bytes → Bytes → Option ℕ) (before middle drafted after : List Bytes)
      (line identifier : Bytes) (held : List ℕ) → line ≡ sets_text name identifier held → identifier ≡ h.present.set.params.identifier
      → held ≡ numbers_of h → middle ≡ before ++ line ∷ []
      → drafted ≡ middle ++ flat_map (λ uuid. draft_lines labels (draft_at s name uuid)) (items_of labels)
      → OnOk result (after ≡ drafted ++ flat_map (λ uuid. closed_lines labels name uuid (closed name uuid)) (items_of labels))
      → OnOk result (after ≡ before ++ device_lines labels s closed name)
  with_account result closed before middle drafted after line identifier held line_is same held_are pushed drafted_is added =
      let drafts : List Bytes = flat_map (λ uuid. draft_lines labels (draft_at s name uuid)) (items_of labels) in
      let behind : List Bytes = flat_map (λ uuid. closed_lines labels name uuid (closed name uuid)) (items_of labels) in
      let own : line ≡ device_text name (device_named s name) =
      line_is ∙ ap (λ (t : Bytes). sets_text name t held) same ∙ ap (λ (ns : List ℕ). sets_text name h.present.set.params.identifier ns) held_are ∙ own_line in
      let lines : drafted ++ behind ≡ before ++ device_lines labels s closed name =
      ap (λ (xs : List Bytes). xs ++ behind) drafted_is
      ∙ ap (λ (xs : List Bytes). (xs ++ drafts) ++ behind) pushed
      ∙ append_assoc (before ++ line ∷ []) drafts behind
      ∙ append_assoc before (line ∷ []) (drafts ++ behind)
      ∙ ap (λ (x : Bytes). before ++ x ∷ (drafts ++ behind)) own in
      subst (λ (xs : List Bytes). OnOk result (after ≡ xs)) lines added

-- ---- one turn of a loop over the names, and its end

module _ (f : Bytes → List Bytes) (names : List Bytes) (index : ℕ) (before lines : List Bytes) (so_far : lines ≡ before ++ flat_map f (take index names)) where
  pub names_step : (name : Bytes) (after : List Bytes) → index < length names → name ≡ get_or names index name
      → after ≡ lines ++ f name → after ≡ before ++ flat_map f (take (index + 1) names)
  names_step name after lt at more =
      let taken : take (index + 1) names ≡ take index names ++ name ∷ [] = take_more names index name lt ∙ ap (λ (n : Bytes). take index names ++ n ∷ []) (sym at) in
      let one : f name ≡ flat_map f (name ∷ []) = sym (append-nil (f name)) in
      more
      ∙ ap (λ (xs : List Bytes). xs ++ f name) so_far
      ∙ append_assoc before (flat_map f (take index names)) (f name)
      ∙ ap (λ (xs : List Bytes). before ++ xs)
      (ap (λ (xs : List Bytes). flat_map f (take index names) ++ xs) one
      ∙ sym (flat_map-append f (take index names) (name ∷ []))
      ∙ ap (λ (ns : List Bytes). flat_map f ns) (sym taken))

  pub names_all : length names ≤ index → lines ≡ before ++ flat_map f names
  names_all all = so_far ∙ ap (λ (ns : List Bytes). before ++ flat_map f ns) (take_all index names all)

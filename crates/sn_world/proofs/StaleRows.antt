-- A row that takes a version: where its strings open under the older of two sets, it is to be sent again.
use Rattle.std.proofs.Common.{◌≡◌, ◌<◌, ℕ, List, [], ◌∷◌, length, Option, Some, true, refl, sym, ap, ◌∙◌, subst, inl, ⊎_elim}
use Rattle.sn_adopted.specs.Moves.{OlderStale}
use Rattle.sn_device.specs.States.{HasSets}
use Rattle.sn_laws.specs.Each.{One}
use Rattle.sn_laws.specs.Lookups.{Bytes, greatest}
use Rattle.sn_laws.specs.Reached.{IsOneOrTwo}
use Rattle.sn_laws.specs.declared.ideal.Account.{Account}
use Rattle.sn_laws.specs.declared.ideal.Device.{Device}
use Rattle.sn_laws.specs.declared.ideal.Ideal.{Ideal}
use Rattle.sn_rows.specs.Facts.{put_here, put_or_not}
use Rattle.sn_rows.specs.Table.{Puts, Rows, rows_after}
use Rattle.sn_rows.specs.declared.body.RowBody.{RowBody}
use Rattle.sn_rows.specs.declared.body.RowBody.TheVariants as row
use Rattle.sn_rows.specs.declared.body.RowStrings.{RowStrings}
use Rattle.sn_rows.specs.declared.change.Change.{Change}
use Rattle.sn_rows.specs.declared.device_rows.LocalItem.{LocalItem}
use Rattle.sn_rows.specs.declared.device_rows.OwnerRow.{OwnerRow}
use Rattle.sn_rows.specs.declared.key.Key.TheVariants as key
use Rattle.sn_rows.specs.declared.value.Value.TheVariants as value
use Rattle.sn_sets.specs.Sets.{sealed_of}
use Rattle.sn_sets.specs.declared.sets.Sets.{Sets}
use Rattle.sn_shows.proofs.Facts.{greatest_of_two, holder_of}
use Rattle.sn_shows.specs.Devices.{ShowsDevice, ShowsHolder}
use Rattle.sn_shows.specs.Laws.{HasAccount}
use Rattle.sn_shows.specs.Sets.{OpensUnder}
use Rattle.sn_sync.specs.declared.item.Item.{Item}
use Rattle.sn_world.proofs.AccountSets.{one_set}
use Rattle.sn_world.proofs.Based.{takes_stale}
use Rattle.sn_world.proofs.DeviceRows.{one_local}
use Rattle.sn_world.proofs.HeldSets.{held_sets}
use Rattle.sn_world.proofs.NumberedSets.{AreHeld, HoldsEach, are_held, holds_each}
use Rattle.sn_world.proofs.Tokens.{named_at}
use Rattle.sn_world.specs.Holds.{Reached}
use Rattle.sn_world.specs.Settling.{TakesLast}

-- of one row
abbrev pub IsStaleUnder : Account → ℕ → LocalItem → Type 0
IsStaleUnder a older item = (strings : RowStrings) (text : Bytes) → item.body ≡ Some (row.Sealed strings)
    → OpensUnder a.sets older item.uuid (sealed_of strings) text → item.stale ≡ true

-- where it is so of the row that is put, it stays so of all
pub stale_put : (rows : Rows) (a : Account) (held : List ℕ) (change : Change) (number : ℕ) (new : LocalItem) → Puts change (key.Local number) (value.Local new)
    → ((older present : ℕ) → held ≡ older ∷ present ∷ [] → IsStaleUnder a older new) → OlderStale rows a held → OlderStale
    (rows_after rows (change ∷ [])) a held
stale_put rows a [] change number new puts own h = tt
stale_put rows a (g ∷ []) change number new puts own h = tt
stale_put rows a (older ∷ present ∷ m ∷ more) change number new puts own h = tt
stale_put rows a (older ∷ present ∷ []) change number new puts own h = after
  where
    after : OlderStale (rows_after rows (change ∷ [])) a (older ∷ present ∷ [])
    after local item strings text there is opens =
        ⊎_elim
        (λ (same : key.Local number ≡ key.Local local).
        let new_row : item ≡ new = one_local item new (rows_after rows (change ∷ []) (key.Local local)) there
        (ap (rows_after rows (change ∷ [])) (sym same) ∙ put_here rows change (key.Local number) (value.Local new) puts) in
        subst (λ (l : LocalItem). IsStaleUnder a older l) (sym new_row) (own older present refl) strings text is opens)
        (λ (past : rows_after rows (change ∷ []) (key.Local local) ≡ rows (key.Local local)). h local item strings text (sym past ∙ there) is opens)
        (put_or_not rows change (key.Local number) (value.Local new) puts (key.Local local))

-- as it is of a row that takes a version
pub stale_takes : (rows : Rows) (s : Ideal) (name : Bytes) (d : Device) (a : Account) (owner : OwnerRow) (sets : Sets) → Reached s → ShowsDevice rows s name
    → HasAccount s name d a → HasSets rows owner sets → (change : Change) (number : ℕ) (i : Item) (latest : Option RowBody)
    → TakesLast sets change number i latest → OlderStale rows a d.held → OlderStale (rows_after rows (change ∷ [])) a d.held
stale_takes rows s name d a owner sets r shows has holds change number i latest takes h =
    stale_put rows a d.held change number takes.puts.local takes.puts.puts own h
  where
    holder : ShowsHolder rows s name d a
    holder = holder_of rows s name d a shows has

    held : AreHeld a d.held sets
    held =
        let at = named_at s d.account a has.account in
        are_held rows s name d a owner sets holder holds (one_set s r at.0 a at.1)

    each : HoldsEach a d.held sets
    each = holds_each rows s name d a owner sets holder holds (held_sets s r name d a has)

    own : (older present : ℕ) → d.held ≡ older ∷ present ∷ [] → IsStaleUnder a older takes.puts.local
    own older present two strings text is opens =
        let are : IsOneOrTwo (length a.sets) (older ∷ present ∷ []) = subst (IsOneOrTwo (length a.sets)) two (held_sets s r name d a has) in
        let less : older < greatest 0 d.held =
        subst (λ (k : ℕ). older < k) (sym (ap (greatest 0) two ∙ greatest_of_two older present are.1)) are.1 in
        takes_stale a d.held sets held each change number i latest takes older strings text
        (subst (λ (ns : List ℕ). One (λ (m : ℕ). m ≡ older) ns) (sym two) (inl refl)) less is opens

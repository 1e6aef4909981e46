-- A device's moves leave what the rows of every other device show.
use Rattle.std.proofs.Common.{◌≡◌, ◌≢◌, ℕ, List, [], ◌∷◌, ◌++◌, Option, Some, None, refl}
use Rattle.std.specs.Prelude.{find}
use Rattle.sn_laws.proofs.Facts.{same_text}
use Rattle.sn_laws.specs.Lookups.{Bytes, device_named, draft_at, greatest, held_by, is_device, is_draft}
use Rattle.sn_laws.specs.Moves.{after, edited, joined, posted_under}
use Rattle.sn_laws.specs.declared.ideal.Content.TheVariants.{Plain}
use Rattle.sn_laws.specs.declared.ideal.Device.{Device}
use Rattle.sn_laws.specs.declared.ideal.Draft.{Draft}
use Rattle.sn_laws.specs.declared.moves.Move.TheVariants.{Join, Edit, Post, Settle}
use Rattle.sn_shows.specs.Laws.{EditKeeps, JoinKeeps, PostKeeps, SettleKeeps}
use Rattle.sn_shows.proofs.DeviceLookups.{find_past_changed, find_past_new, find_past_without}
use Rattle.sn_shows.proofs.DeviceStates.{draft_is, not_device, not_of_device, shows_alike}

-- the device that joins is none of another name
joined_other : (devices : List Device) (name other identifier : Bytes) (number : ℕ) (before : Option Device) → other ≢ name
    → find (is_device other) (joined devices name identifier number before) ≡ find (is_device other) devices
joined_other devices name other identifier number None apart =
    let new : Device = record { name = name; account = identifier; held = number ∷ [] } in
    find_past_new (is_device other) devices new (not_device name other new apart refl)
joined_other devices name other identifier number (Some d) apart =
    find_past_changed (is_device other) (is_device name) (λ e. record e { held = e.held ++ number ∷ [] })
    (λ e h. not_device name other e apart (same_text e.name name h))
    (λ e h. not_device name other e apart (same_text e.name name h))
    devices

pub join_keeps : JoinKeeps
join_keeps rows s name other identifier number apart h =
    shows_alike rows s (after s (Join name identifier number)) other
    (joined_other s.devices name other identifier number (device_named s name) apart)
    (λ i. refl) (λ u. refl) h

-- nor is a draft of the device one of another's

edited_other : (drafts : List Draft) (name other uuid mine kind text : Bytes) (before : Option Draft) → other ≢ name → before ≡ None
    → find (is_draft other mine) (edited drafts name uuid kind None (Plain text) before) ≡ find (is_draft other mine) drafts
edited_other drafts name other uuid mine kind text None apart none =
    let new : Draft = record { device = name; uuid = uuid; kind = kind; base = None; latest = Plain text; posted = None } in
    find_past_new (is_draft other mine) drafts new (not_of_device name other mine new apart refl)
edited_other drafts name other uuid mine kind text (Some d) apart none = absurd (cc)

pub edit_keeps : EditKeeps
edit_keeps rows s name other uuid kind text apart none h =
    shows_alike rows s (after s (Edit name uuid kind None (Plain text))) other refl (λ i. refl)
    (λ mine. edited_other s.drafts name other uuid mine kind text (draft_at s name uuid) apart none) h

pub post_keeps : PostKeeps
post_keeps rows s name other uuid apart h =
    shows_alike rows s (after s (Post name uuid)) other refl (λ i. refl)
    (λ mine. find_past_changed (is_draft other mine) (is_draft name uuid) (posted_under (greatest 0 (held_by (device_named s name))))
    (λ d e. not_of_device name other mine d apart (draft_is name uuid d e).0)
    (λ d e. not_of_device name other mine (posted_under (greatest 0 (held_by (device_named s name))) d) apart (draft_is name uuid d e).0)
    s.drafts)
    h

pub settle_keeps : SettleKeeps
settle_keeps rows s name other uuid apart h =
    shows_alike rows s (after s (Settle name uuid)) other refl (λ i. refl)
    (λ mine. find_past_without (is_draft other mine) (is_draft name uuid)
    (λ d e. not_of_device name other mine d apart (draft_is name uuid d e).0) s.drafts)
    h

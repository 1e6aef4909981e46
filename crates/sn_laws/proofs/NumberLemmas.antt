-- What was sent was sent under no set above the greatest that the device holds.
use Rattle.std.proofs.Common.{◌≡◌, ◌<◌, ◌≤◌, ℕ, Option, Some, None, Bool, true, false, refl, sym, subst, arith}
use Rattle.std.specs.Prelude.{IsTrue, ◌&&◌, ◌==◌, nat_lt, if◌then◌else◌}
use Rattle.std.specs.List.{list_any}
use Rattle.std.specs.Option.{option_map}
use Rattle.std.specs.Str.{bytes_eq}
use Rattle.std.proofs.lemmas.Bool.{and_parts}
use Rattle.sn_laws.specs.declared.ideal.Account.{Account}
use Rattle.sn_laws.specs.declared.ideal.Content.{Content}
use Rattle.sn_laws.specs.declared.ideal.Device.{Device}
use Rattle.sn_laws.specs.declared.ideal.Draft.{Draft}
use Rattle.sn_laws.specs.declared.ideal.Ideal.{Ideal}
use Rattle.sn_laws.specs.declared.ideal.Posted.{Posted}
use Rattle.sn_laws.specs.declared.moves.Move.{Move}
use Rattle.sn_laws.specs.declared.moves.Move.TheVariants.{Join, Retire}
use Rattle.sn_laws.specs.Lookups.{Bytes, account_of, device_named, draft_at, empty, greatest, held_by}
use Rattle.sn_laws.specs.Moves.{after, allows, may_retire, none_carries, sent_content, without_number}
use Rattle.sn_laws.specs.Reached.{NumbersHeld}
use Rattle.sn_laws.specs.Runs.{end}
use Rattle.sn_laws.proofs.DeviceFrames.{device_after, device_joined, retired}
use Rattle.sn_laws.proofs.DraftFrames.{draft_edited}
use Rattle.sn_laws.proofs.DraftOrigins.{DraftFrom, as_was, by_edit, by_fork, by_post, by_rename, by_settle, by_unpost, draft_from}
use Rattle.sn_laws.proofs.EachLemmas.{below, one_from, same_text}
use Rattle.sn_laws.proofs.GreatestLemmas.{greatest_less, greatest_more}
use Rattle.sn_laws.proofs.RunLemmas.{reached}

-- what a device holds at most grows

abbrev pub most_held : Ideal → Bytes → ℕ
most_held s name = greatest 0 (held_by (device_named s name))

join_grows : (name identifier : Bytes) (number : ℕ) (found : Option Device)
    → greatest 0 (held_by found) ≤ greatest 0 (held_by (Some (device_joined name identifier number found)))
join_grows name identifier number None = omega arith
join_grows name identifier number (Some d) = greatest_more d.held number

retire_grows : (a : Option Account) (found : Option Device) (number : ℕ) → may_retire a (held_by found) number ≡ true
    → greatest 0 (held_by found) ≤ greatest 0 (held_by (option_map (retired number) found))
retire_grows None found number may = absurd (cc)
retire_grows (Some a) None number may = omega arith
retire_grows (Some a) (Some d) number may =
    greatest_less d.held number
    (one_from (λ m. nat_lt number m) (λ m. number < m) (λ m e. below number m e) d.held
    (and_parts (list_any (λ m. m == number) d.held) (list_any (λ m. nat_lt number m) d.held)
    (and_parts (list_any (λ m. m == number) d.held && list_any (λ m. nat_lt number m) d.held) (none_carries number a.versions) may).0).1)

same_most : (n : ℕ) → n ≤ n
same_most n = omega arith

pub most_grows : (s : Ideal) (m : Move) (name : Bytes) → IsTrue (allows s m) → most_held s name ≤ most_held (after s m) name
most_grows s (Join device identifier number) name may =
    subst (λ found. most_held s name ≤ greatest 0 (held_by found)) (sym (device_after s (Join device identifier number) name)) (at (bytes_eq device name) refl)
  where
    at : (b : Bool) → bytes_eq device name ≡ b
        → most_held s name ≤ greatest 0 (held_by (if b then Some (device_joined device identifier number (device_named s device)) else device_named s name))
    at true e =
        subst (λ n. most_held s n ≤ greatest 0 (held_by (Some (device_joined device identifier number (device_named s device)))))
        (same_text device name e) (join_grows device identifier number (device_named s device))
    at false e = same_most (most_held s name)
most_grows s (Retire device number) name may =
    subst (λ found. most_held s name ≤ greatest 0 (held_by found)) (sym (device_after s (Retire device number) name)) (at (bytes_eq device name) refl)
  where
    at : (b : Bool) → bytes_eq device name ≡ b
        → most_held s name ≤ greatest 0 (held_by (if b then option_map (retired number) (device_named s name) else device_named s name))
    at true e =
        retire_grows (account_of s name) (device_named s name) number
        (subst (λ n. may_retire (account_of s n) (held_by (device_named s n)) number ≡ true) (same_text device name e) may)
    at false e = same_most (most_held s name)
most_grows s m name may = same_most (most_held s name)

-- the number of what was sent

abbrev IsWithin : ℕ → Option Posted → Type 0
IsWithin most None = Unit {0}
IsWithin most (Some p) = (k : ℕ) → p.set ≡ Some k → k ≤ most

abbrev AllWithin : Ideal → Type 0
AllWithin s = (name uuid : Bytes) (d : Draft) → draft_at s name uuid ≡ Some d → IsWithin (most_held s name) d.posted

wider : (most more : ℕ) (posted : Option Posted) → most ≤ more → IsWithin most posted → IsWithin more posted
wider most more None le h = tt
wider most more (Some p) le h = λ k e. omega (arith, h k e, le)

edit_within : (most : ℕ) (device uuid kind : Bytes) (base : Option ℕ) (latest : Content) (found : Option Draft)
    → ((d : Draft) → found ≡ Some d → IsWithin most d.posted) → IsWithin most (draft_edited device uuid kind base latest found).posted
edit_within most device uuid kind base latest None h = tt
edit_within most device uuid kind base latest (Some d) h = h d refl

post_within : (most : ℕ) (content : Content) → IsWithin most (Some (record { content = content; set = Some most }))
post_within most content k e = let same : most ≡ k = cc in omega (arith, same)

unpost_within : (most : ℕ) (posted : Option Posted) → IsWithin most (without_number posted)
unpost_within most None = tt
unpost_within most (Some p) = λ k e. absurd (cc)

within_from : (s : Ideal) (m : Move) (device uuid : Bytes) (d : Draft) → AllWithin s → DraftFrom s m device uuid d → IsWithin (most_held s device) d.posted
within_from s m device uuid d h (as_was e) = h device uuid d e
within_from s m device uuid d h (by_edit kind base latest e is) =
    subst (λ (x : Draft). IsWithin (most_held s device) x.posted) (sym is)
    (edit_within (most_held s device) device uuid kind base latest (draft_at s device uuid) (h device uuid))
within_from s m device uuid d h (by_post was at e is) =
    subst (λ (x : Draft). IsWithin (most_held s device) x.posted) (sym is) (post_within (most_held s device) (sent_content was.latest was.posted))
within_from s m device uuid d h (by_unpost was at e is) =
    subst (λ (x : Draft). IsWithin (most_held s device) x.posted) (sym is) (unpost_within (most_held s device) was.posted)
within_from s m device uuid d h (by_settle stamp was at e is) = subst (λ (x : Draft). IsWithin (most_held s device) x.posted) (sym is) tt
within_from s m device uuid d h (by_fork item was at e is) = subst (λ (x : Draft). IsWithin (most_held s device) x.posted) (sym is) tt
within_from s m device uuid d h (by_rename item was at e is) = subst (λ (x : Draft). IsWithin (most_held s device) x.posted) (sym is) tt

within_step : (s : Ideal) (m : Move) → IsTrue (allows s m) → AllWithin s → AllWithin (after s m)
within_step s m may h name uuid d at =
    wider (most_held s name) (most_held (after s m) name) d.posted (most_grows s m name may)
    (within_from s m name uuid d h (draft_from s m name uuid d may at))

pub numbers_all_held : NumbersHeld
numbers_all_held ms name uuid d p k legal at sent number =
    let all : IsWithin (most_held (end ms) name) d.posted = reached AllWithin within_step empty ms legal (λ _ _ _ e. absurd (cc)) name uuid d at in
    subst (IsWithin (most_held (end ms) name)) sent all k number

-- A draft of which a deletion was sent is deleted.
use Rattle.std.proofs.Common.{◌≡◌, ℕ, Option, Some, None, true, refl, sym, subst}
use Rattle.std.specs.Prelude.{IsTrue, ◌&&◌}
use Rattle.std.proofs.lemmas.Bool.{and_parts}
use Rattle.sn_laws.specs.declared.ideal.Account.{Account}
use Rattle.sn_laws.specs.declared.ideal.Content.{Content}
use Rattle.sn_laws.specs.declared.ideal.Content.TheVariants.{Plain, Deleted}
use Rattle.sn_laws.specs.declared.ideal.Draft.{Draft}
use Rattle.sn_laws.specs.declared.ideal.Ideal.{Ideal}
use Rattle.sn_laws.specs.declared.ideal.Posted.{Posted}
use Rattle.sn_laws.specs.declared.moves.Move.{Move}
use Rattle.sn_laws.specs.Lookups.{Bytes, account_of, device_named, draft_at, empty, greatest, held_by}
use Rattle.sn_laws.specs.Moves.{after, allows, is_as, is_plain, is_writable, may_edit, sent_content, without_number}
use Rattle.sn_laws.specs.Reached.{DeletionsStay}
use Rattle.sn_laws.proofs.DraftFrames.{draft_edited}
use Rattle.sn_laws.proofs.DraftOrigins.{DraftFrom, as_was, by_edit, by_fork, by_post, by_rename, by_settle, by_unpost, draft_from}
use Rattle.sn_laws.proofs.RunLemmas.{reached}

-- what was sent is a deletion
abbrev IsDeletion : Option Posted → Type 0
IsDeletion None = ⊥
IsDeletion (Some p) = p.content ≡ Deleted

abbrev Stays : Draft → Type 0
Stays d = IsDeletion d.posted → d.latest ≡ Deleted

abbrev AllStay : Ideal → Type 0
AllStay s = (name uuid : Bytes) (d : Draft) → draft_at s name uuid ≡ Some d → Stays d

-- what was deleted is no content
not_plain : (latest : Content) → is_plain latest ≡ true → latest ≡ Deleted → ⊥
not_plain (Plain text) h e = cc
not_plain Deleted h e = cc

edit_stays : (a : Option Account) (device uuid kind : Bytes) (base : Option ℕ) (latest : Content) (found : Option Draft)
    → ((d : Draft) → found ≡ Some d → Stays d) → may_edit a found uuid kind base latest ≡ true
    → Stays (draft_edited device uuid kind base latest found)
edit_stays a device uuid kind base latest None h may = λ e. absurd e
edit_stays None device uuid kind base latest (Some d) h may = absurd (cc)
edit_stays (Some a) device uuid kind base (Plain text) (Some d) h may =
    λ e. absurd (not_plain d.latest
    (and_parts (is_as d kind base) (is_plain d.latest) (and_parts (is_as d kind base && is_plain d.latest) (is_writable text) may).0).1 (h d refl e))
edit_stays (Some a) device uuid kind base Deleted (Some d) h may = λ e. refl

post_stays : (number : ℕ) (latest : Content) (posted : Option Posted) → (IsDeletion posted → latest ≡ Deleted)
    → sent_content latest posted ≡ Deleted → latest ≡ Deleted
post_stays number latest None h e = e
post_stays number latest (Some p) h e = h e

unpost_stays : (latest : Content) (posted : Option Posted) → (IsDeletion posted → latest ≡ Deleted)
    → IsDeletion (without_number posted) → latest ≡ Deleted
unpost_stays latest None h e = absurd e
unpost_stays latest (Some p) h e = h e

stays_from : (s : Ideal) (m : Move) (device uuid : Bytes) (d : Draft) → IsTrue (allows s m) → AllStay s → DraftFrom s m device uuid d → Stays d
stays_from s m device uuid d may h (as_was e) = h device uuid d e
stays_from s m device uuid d may h (by_edit kind base latest e is) =
    subst Stays (sym is)
    (edit_stays (account_of s device) device uuid kind base latest (draft_at s device uuid) (h device uuid)
    (subst (λ x. IsTrue (allows s x)) e may))
stays_from s m device uuid d may h (by_post was at e is) =
    subst Stays (sym is) (post_stays (greatest 0 (held_by (device_named s device))) was.latest was.posted (h device uuid was at))
stays_from s m device uuid d may h (by_unpost was at e is) = subst Stays (sym is) (unpost_stays was.latest was.posted (h device uuid was at))
stays_from s m device uuid d may h (by_settle stamp was at e is) = subst Stays (sym is) (λ k. absurd k)
stays_from s m device uuid d may h (by_fork item was at e is) = subst Stays (sym is) (λ k. absurd k)
stays_from s m device uuid d may h (by_rename item was at e is) = subst Stays (sym is) (λ k. absurd k)

stay_step : (s : Ideal) (m : Move) → IsTrue (allows s m) → AllStay s → AllStay (after s m)
stay_step s m may h name uuid d e = stays_from s m name uuid d may h (draft_from s m name uuid d may e)

pub deletions_all_stay : DeletionsStay
deletions_all_stay ms name uuid d p legal at sent content =
    reached AllStay stay_step empty ms legal (λ _ _ _ e. absurd (cc)) name uuid d at (subst IsDeletion (sym sent) content)

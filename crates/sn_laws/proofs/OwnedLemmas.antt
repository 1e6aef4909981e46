-- A device with drafts has an account.
use Rattle.std.proofs.Common.{◌≡◌, ℕ, Option, Some, None, true, refl, subst}
use Rattle.std.specs.Prelude.{IsTrue}
use Rattle.sn_laws.specs.declared.ideal.Account.{Account}
use Rattle.sn_laws.specs.declared.ideal.Content.{Content}
use Rattle.sn_laws.specs.declared.ideal.Draft.{Draft}
use Rattle.sn_laws.specs.declared.ideal.Ideal.{Ideal}
use Rattle.sn_laws.specs.declared.moves.Move.{Move}
use Rattle.sn_laws.specs.Lookups.{Bytes, account_of, draft_at, empty}
use Rattle.sn_laws.specs.Moves.{after, allows, may_edit}
use Rattle.sn_laws.specs.Reached.{DraftsOwned}
use Rattle.sn_laws.proofs.AccountFrames.{Stays, own_account_stays}
use Rattle.sn_laws.proofs.DraftOrigins.{DraftFrom, as_was, by_edit, by_fork, by_post, by_rename, by_settle, by_unpost, draft_from}
use Rattle.sn_laws.proofs.RunLemmas.{reached}

abbrev Owned : Ideal → Bytes → Type 0
Owned s name = (a : Account) × (account_of s name ≡ Some a)

abbrev AllOwned : Ideal → Type 0
AllOwned s = (name uuid : Bytes) (d : Draft) → draft_at s name uuid ≡ Some d → Owned s name

edit_owned : (a : Option Account) (found : Option Draft) (uuid kind : Bytes) (base : Option ℕ) (latest : Content)
    → may_edit a found uuid kind base latest ≡ true → (b : Account) × (a ≡ Some b)
edit_owned None found uuid kind base latest h = absurd (cc)
edit_owned (Some a) found uuid kind base latest h = (a, refl)

owned_from : (s : Ideal) (m : Move) (device uuid : Bytes) (d : Draft) → IsTrue (allows s m) → AllOwned s → DraftFrom s m device uuid d → Owned s device
owned_from s m device uuid d may h (as_was e) = h device uuid d e
owned_from s m device uuid d may h (by_edit kind base latest e is) =
    edit_owned (account_of s device) (draft_at s device uuid) uuid kind base latest (subst (λ x. IsTrue (allows s x)) e may)
owned_from s m device uuid d may h (by_post was at e is) = h device uuid was at
owned_from s m device uuid d may h (by_unpost was at e is) = h device uuid was at
owned_from s m device uuid d may h (by_settle stamp was at e is) = h device uuid was at
owned_from s m device uuid d may h (by_fork item was at e is) = h device item was at
owned_from s m device uuid d may h (by_rename item was at e is) = h device item was at

owned_step : (s : Ideal) (m : Move) → IsTrue (allows s m) → AllOwned s → AllOwned (after s m)
owned_step s m may h name uuid d at =
    let own : Owned s name = owned_from s m name uuid d may h (draft_from s m name uuid d may at) in
    let there : Stays own.0 (account_of (after s m) name) = own_account_stays s m name own.0 may own.1 in
    (there.now_is, there.found_is)

pub drafts_all_owned : DraftsOwned
drafts_all_owned ms name uuid d legal at = reached AllOwned owned_step empty ms legal (λ _ _ _ e. absurd (cc)) name uuid d at

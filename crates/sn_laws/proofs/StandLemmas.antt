-- What an accept stands on, and what a draft that is settled has.
use Rattle.std.proofs.Common.{◌≡◌, ℕ, List, [], ◌∷◌, ◌++◌, Option, Some, None, sym, ap, subst}
use Rattle.sn_laws.specs.declared.ideal.Version.{Version}
use Rattle.sn_laws.specs.declared.ideal.Account.{Account}
use Rattle.sn_laws.specs.declared.ideal.Ideal.{Ideal}
use Rattle.sn_laws.specs.declared.moves.Move.{Move}
use Rattle.sn_laws.specs.declared.moves.Move.TheVariants.{Accept, Settle}
use Rattle.sn_laws.specs.Each.{One}
use Rattle.sn_laws.specs.Laws.{IsVersion, StandsOn}
use Rattle.sn_laws.specs.Lookups.{Bytes, account_of, empty, last_of}
use Rattle.sn_laws.specs.Relation.{IsOnLast, MayAccept, MaySettle}
use Rattle.sn_laws.specs.Runs.{Legal, end}
use Rattle.sn_laws.proofs.AccountLemmas.{among, free_has}
use Rattle.sn_laws.proofs.LastLemmas.{last_among, last_item}
use Rattle.sn_laws.proofs.RelatedLemmas.{allowed_from, one_there}
use Rattle.sn_laws.proofs.RunLemmas.{legal_after}

-- where the item has a last version, what stands on the last one stands on it

pub stands : (s : Ideal) (a : Account) (uuid : Bytes) (base : Option ℕ) (v : Version) → One (λ (x : Account). x ≡ a) s.accounts
    → last_of uuid a.versions ≡ Some v → IsOnLast s a uuid base → base ≡ Some v.stamp
stands s a uuid None v one last on = absurd (free_has s uuid a on one (last_item uuid a.versions v last))
stands s a uuid (Some stamp) v one last on =
    let same : on.0 ≡ v = one_there on.0 v (last_of uuid a.versions) on.1 last in
    ap Some (sym (subst (λ (w : Version). w.stamp ≡ stamp) same on.2))

pub stands_on_last : (s : Ideal) (device uuid : Bytes) (stamp : ℕ) (under : Option ℕ) (a : Account) (v : Version)
    → MayAccept s device uuid stamp under → account_of s device ≡ Some a → last_of uuid a.versions ≡ Some v → StandsOn s device uuid v.stamp
stands_on_last s device uuid stamp under a v may has last =
    let same : may.account ≡ a = one_there may.account a (account_of s device) may.is.has has in
    record {
      draft = may.draft;
      at = may.is.at;
      base = stands s a uuid may.draft.base v (among s device a has) last (subst (λ (x : Account). IsOnLast s x uuid may.draft.base) same may.on_last);
    }

pub follows : (ms : List Move) (device uuid : Bytes) (stamp : ℕ) (under : Option ℕ) (a : Account) (v : Version)
    → Legal (ms ++ Accept device uuid stamp under ∷ []) → account_of (end ms) device ≡ Some a → last_of uuid a.versions ≡ Some v
    → StandsOn (end ms) device uuid v.stamp
follows ms device uuid stamp under a v legal has last =
    stands_on_last (end ms) device uuid stamp under a v
    (allowed_from (end ms) (Accept device uuid stamp under) (legal_after empty ms (Accept device uuid stamp under ∷ []) legal).0) has last

settled : (s : Ideal) (device uuid : Bytes) → MaySettle s device uuid → IsVersion s device uuid
settled s device uuid may =
    let there = last_among uuid may.account.versions may.version may.last in
    record {
      account = may.account;
      has = may.is.has;
      draft = may.draft;
      at = may.is.at;
      version = may.version;
      among = there.0;
      item = there.1;
      content = may.content;
    }

pub settles : (ms : List Move) (device uuid : Bytes) → Legal (ms ++ Settle device uuid ∷ []) → IsVersion (end ms) device uuid
settles ms device uuid legal =
    settled (end ms) device uuid (allowed_from (end ms) (Settle device uuid) (legal_after empty ms (Settle device uuid ∷ []) legal).0)

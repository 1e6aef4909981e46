-- What a rewrap makes.
use Rattle.std.proofs.Common.{◌≡◌, ℕ, List, [], ◌∷◌, ◌++◌, length, Some, refl, sym, ap, ◌∙◌, subst}
use Rattle.sn_laws.specs.declared.ideal.Body.{Body}
use Rattle.sn_laws.specs.declared.ideal.Body.TheVariants.{Under, Gone}
use Rattle.sn_laws.specs.declared.ideal.Version.{Version}
use Rattle.sn_laws.specs.declared.ideal.Account.{Account}
use Rattle.sn_laws.specs.declared.ideal.Ideal.{Ideal}
use Rattle.sn_laws.specs.declared.moves.Move.{Move}
use Rattle.sn_laws.specs.declared.moves.Move.TheVariants.{Rewrap}
use Rattle.sn_laws.specs.Laws.{SealsAgain}
use Rattle.sn_laws.specs.Lookups.{Bytes, account_named, account_with, empty, last_of}
use Rattle.sn_laws.specs.Moves.{after, resealed}
use Rattle.sn_laws.specs.Relation.{IsLive, MayRewrap}
use Rattle.sn_laws.specs.Runs.{Legal, end}
use Rattle.sn_laws.proofs.AccountLemmas.{gained_named, more, rewrap_gains, sealed_again}
use Rattle.sn_laws.proofs.IdentifierLemmas.{Differ, identifiers_differ, named_there}
use Rattle.sn_laws.proofs.RelatedLemmas.{allowed_from, one_there}
use Rattle.sn_laws.proofs.RunLemmas.{end_from-append, legal_after, legal_before}

pub live_under : (b : Body) → IsLive b → (text : Bytes) × (set : ℕ) × (b ≡ Under text set)
live_under (Under text set) h = (text, set, refl)
live_under Gone h = absurd h

pub rewrap_named : (s : Ideal) (uuid : Bytes) (stamp under : ℕ) (may : MayRewrap s uuid stamp under) → Differ s.accounts
    → account_named (after s (Rewrap uuid stamp under)) may.account.identifier
    ≡ Some (more (sealed_again stamp (length may.account.sets) may.version) may.account)
rewrap_named s uuid stamp under may h =
    let g = rewrap_gains s uuid stamp under may in
    gained_named s uuid may.account (sealed_again stamp (length may.account.sets) may.version) (after s (Rewrap uuid stamp under)).accounts g
    (named_there s may.account h g.among)

seals_again : (s : Ideal) (uuid : Bytes) (stamp under : ℕ) (may : MayRewrap s uuid stamp under) → Differ s.accounts
    → SealsAgain may.account may.version stamp under (account_named (after s (Rewrap uuid stamp under)) may.account.identifier)
seals_again s uuid stamp under may h =
    let a : Account = may.account in
    let v : Version = may.version in
    let live = live_under v.body may.live in
    record {
      text = live.0;
      set = live.1;
      was = live.2;
      now_is = more (sealed_again stamp (length a.sets) v) a;
      found_is = rewrap_named s uuid stamp under may h;
      versions = ap (λ b. a.versions ++ record { uuid = v.uuid; stamp = stamp; kind = v.kind; body = b } ∷ [])
          (ap (resealed (length a.sets)) live.2 ∙ ap (Under live.0) (sym may.last_set));
      last_set = may.last_set;
    }

pub rewraps_last : (ms : List Move) (uuid : Bytes) (stamp under : ℕ) (a : Account) (v : Version)
    → Legal (ms ++ Rewrap uuid stamp under ∷ []) → account_with (end ms).accounts uuid ≡ Some a → last_of uuid a.versions ≡ Some v
    → SealsAgain a v stamp under (account_named (end (ms ++ Rewrap uuid stamp under ∷ [])) a.identifier)
rewraps_last ms uuid stamp under a v legal has last =
    let m : Move = Rewrap uuid stamp under in
    let s : Ideal = end ms in
    let may : MayRewrap s uuid stamp under = allowed_from s m (legal_after empty ms (m ∷ []) legal).0 in
    let h : Differ s.accounts = identifiers_differ ms (legal_before empty ms (m ∷ []) legal) in
    let same : may.account ≡ a = one_there may.account a (account_with s.accounts uuid) may.has has in
    let is : may.version ≡ v =
    one_there may.version v (last_of uuid a.versions) (subst (λ (x : Account). last_of uuid x.versions ≡ Some may.version) same may.last) last in
    let there : SealsAgain a may.version stamp under (account_named (after s m) a.identifier) =
    subst (λ (x : Account). SealsAgain x may.version stamp under (account_named (after s m) x.identifier)) same (seals_again s uuid stamp under may h) in
    let whole : SealsAgain a v stamp under (account_named (after s m) a.identifier) =
    subst (λ (x : Version). SealsAgain a x stamp under (account_named (after s m) a.identifier)) is there in
    subst (λ (next : Ideal). SealsAgain a v stamp under (account_named next a.identifier)) (sym (end_from-append empty ms (m ∷ []))) whole

-- Versions stay.
use Rattle.std.proofs.Common.{◌≡◌, ℕ, List, [], ◌∷◌, ◌++◌, length, Option, Some, None, Bool, true, false, refl, sym, ap, ◌∙◌, subst, append_assoc}
use Rattle.std.proofs.lemmas.List.{append-nil}
use Rattle.std.specs.Prelude.{if◌then◌else◌, find}
use Rattle.sn_laws.specs.declared.ideal.Version.{Version}
use Rattle.sn_laws.specs.declared.ideal.Account.{Account}
use Rattle.sn_laws.specs.declared.ideal.Draft.{Draft}
use Rattle.sn_laws.specs.declared.ideal.Ideal.{Ideal}
use Rattle.sn_laws.specs.declared.moves.Move.{Move}
use Rattle.sn_laws.specs.declared.moves.Move.TheVariants.{Register, Accept, Rewrap, Change}
use Rattle.sn_laws.specs.Laws.{Keeps}
use Rattle.sn_laws.specs.Lookups.{Bytes, account_named, account_of, account_with, draft_at, empty, is_account, last_of}
use Rattle.sn_laws.specs.Moves.{accepted, after, again, changed_where, rewrapped, version_of}
use Rattle.sn_laws.specs.Runs.{end_from}
use Rattle.sn_laws.proofs.ChangedLemmas.{find_changed}
use Rattle.sn_laws.proofs.FindLemmas.{find_before}
use Rattle.sn_laws.proofs.RunLemmas.{end_from-append}

same : (a : Account) (found : Option Account) → found ≡ Some a → Keeps a found
same a found e = record { now_is = a; found_is = e; later = []; versions = sym (append-nil a.versions) }

-- a change of some accounts leaves identifiers, and adds versions at the end
keeps_changed : (q : Account → Bool) (f : Account → Account) (later : List Version) → ((x : Account) → (f x).identifier ≡ x.identifier)
    → ((x : Account) → (f x).versions ≡ x.versions ++ later) → (identifier : Bytes) (xs : List Account) (a : Account)
    → find (is_account identifier) xs ≡ Some a → Keeps a (find (is_account identifier) (changed_where q f xs))
keeps_changed q f later named grown identifier xs a h =
    at (q a) (find_changed (is_account identifier) q f (λ x. ap (λ n. is_account identifier (record x { identifier = n })) (named x)) xs a h)
  where
    at : (b : Bool) → find (is_account identifier) (changed_where q f xs) ≡ Some (if b then f a else a)
        → Keeps a (find (is_account identifier) (changed_where q f xs))
    at true e = record { now_is = f a; found_is = e; later = later; versions = grown a }
    at false e = same a (find (is_account identifier) (changed_where q f xs)) e

keeps_accepted : (identifier : Bytes) (xs : List Account) (b : Option Account) (d : Option Draft) (stamp : ℕ) (a : Account)
    → find (is_account identifier) xs ≡ Some a → Keeps a (find (is_account identifier) (accepted xs b d stamp))
keeps_accepted identifier xs None d stamp a h = same a (find (is_account identifier) xs) h
keeps_accepted identifier xs (Some b) None stamp a h = same a (find (is_account identifier) xs) h
keeps_accepted identifier xs (Some b) (Some d) stamp a h =
    let w : Version = version_of stamp (length b.sets) d in
    keeps_changed (is_account b.identifier) (λ x. record x { versions = x.versions ++ w ∷ [] }) (w ∷ []) (λ x. refl) (λ x. refl) identifier xs a h

keeps_rewrapped : (identifier uuid : Bytes) (xs : List Account) (b : Option Account) (stamp : ℕ) (a : Account)
    → find (is_account identifier) xs ≡ Some a → Keeps a (find (is_account identifier) (rewrapped xs b uuid stamp))
keeps_rewrapped identifier uuid xs None stamp a h = same a (find (is_account identifier) xs) h
keeps_rewrapped identifier uuid xs (Some b) stamp a h =
    let ws : List Version = again stamp (length b.sets) (last_of uuid b.versions) in
    keeps_changed (is_account b.identifier) (λ x. record x { versions = x.versions ++ ws }) ws (λ x. refl) (λ x. refl) identifier xs a h

pub keeps_step : (s : Ideal) (m : Move) (identifier : Bytes) (a : Account) → account_named s identifier ≡ Some a
    → Keeps a (account_named (after s m) identifier)
keeps_step s (Register other set) identifier a h =
    same a (account_named (after s (Register other set)) identifier)
    (find_before (is_account identifier) s.accounts (record { identifier = other; sets = set ∷ []; versions = [] } ∷ []) a h)
keeps_step s (Accept device uuid stamp under) identifier a h =
    keeps_accepted identifier s.accounts (account_of s device) (draft_at s device uuid) stamp a h
keeps_step s (Rewrap uuid stamp under) identifier a h = keeps_rewrapped identifier uuid s.accounts (account_with s.accounts uuid) stamp a h
keeps_step s (Change other number set) identifier a h =
    keeps_changed (is_account other) (λ x. record x { sets = x.sets ++ set ∷ [] }) [] (λ x. refl) (λ x. sym (append-nil x.versions)) identifier s.accounts a h
keeps_step s m identifier a h = same a (account_named s identifier) h

further : (a b : Account) (found : Option Account) (later : List Version) → b.versions ≡ a.versions ++ later → Keeps b found → Keeps a found
further a b found later e k =
    record {
      now_is = k.now_is;
      found_is = k.found_is;
      later = later ++ k.later;
      versions = k.versions ∙ ap (λ vs. vs ++ k.later) e ∙ append_assoc a.versions later k.later;
    }

keeps_all : (s : Ideal) (ms : List Move) (identifier : Bytes) (a : Account) → account_named s identifier ≡ Some a
    → Keeps a (account_named (end_from s ms) identifier)
keeps_all s [] identifier a h = same a (account_named s identifier) h
keeps_all s (m ∷ ms) identifier a h =
    let first : Keeps a (account_named (after s m) identifier) = keeps_step s m identifier a h in
    further a first.now_is (account_named (end_from (after s m) ms) identifier) first.later first.versions
    (keeps_all (after s m) ms identifier first.now_is first.found_is)

pub keeps : (ms others : List Move) (identifier : Bytes) (a : Account) → account_named (end_from empty ms) identifier ≡ Some a
    → Keeps a (account_named (end_from empty (ms ++ others)) identifier)
keeps ms others identifier a h =
    subst (λ (s : Ideal). Keeps a (account_named s identifier)) (sym (end_from-append empty ms others))
    (keeps_all (end_from empty ms) others identifier a h)

-- Versions of every state that legal moves lead to are short: each is what was sent of a draft, or another version's content sealed again.
use Rattle.std.proofs.Common.{◌≡◌, ◌≤◌, ℕ, List, [], ◌∷◌, length, Option, Some, None, refl, sym, subst}
use Rattle.std.specs.Prelude.{IsTrue}
use Rattle.sn_laws.proofs.Facts.{Gains, accept_gains, allowed_from, each_changed, each_more, last_among, more, more_sets, rewrap_gains, sealed_again}
use Rattle.sn_laws.specs.Each.{Each}
use Rattle.sn_laws.specs.Lookups.{Bytes, empty, is_account}
use Rattle.sn_laws.specs.Moves.{after, allows, body_under, resealed, sent_content, version_of}
use Rattle.sn_laws.specs.Relation.{MayAccept, MayRewrap}
use Rattle.sn_laws.specs.Runs.{LegalFrom, end_from}
use Rattle.sn_laws.specs.declared.ideal.Account.{Account}
use Rattle.sn_laws.specs.declared.ideal.Body.{Body}
use Rattle.sn_laws.specs.declared.ideal.Body.TheVariants.{Gone, Under}
use Rattle.sn_laws.specs.declared.ideal.Content.{Content}
use Rattle.sn_laws.specs.declared.ideal.Content.TheVariants.{Deleted, Plain}
use Rattle.sn_laws.specs.declared.ideal.Ideal.{Ideal}
use Rattle.sn_laws.specs.declared.ideal.Posted.{Posted}
use Rattle.sn_laws.specs.declared.ideal.Version.{Version}
use Rattle.sn_laws.specs.declared.moves.Move.{Move}
use Rattle.sn_laws.specs.declared.moves.Move.TheVariants.{Accept, Change, Register, Rewrap}
use Rattle.sn_shows.specs.Servers.{account_at}
use Rattle.sn_world.proofs.LegalMoves.{reached_after}
use Rattle.sn_world.proofs.Lists.{this_one}
use Rattle.sn_world.proofs.ShortDrafts.{IsShortContent, IsShortDraft, IsShortPosted, drafts_short}
use Rattle.sn_world.proofs.ShortTexts.{longest_draft}
use Rattle.sn_world.proofs.ShowsLemmas.{each_at}
use Rattle.sn_world.specs.Holds.{Reached}

abbrev pub IsShortBody : Body → Type 0
IsShortBody (Under text set) = length text ≤ longest_draft
IsShortBody Gone = Unit {0}

abbrev pub AreShortVersions : Account → Type 0
AreShortVersions a = Each (λ (v : Version). IsShortBody v.body) a.versions

-- ---- one version

sent_short : (latest : Content) (posted : Option Posted) → IsShortContent latest → IsShortPosted posted → IsShortContent (sent_content latest posted)
sent_short latest None short sent = short
sent_short latest (Some p) short sent = sent

under_short : (c : Content) (n : ℕ) → IsShortContent c → IsShortBody (body_under c n)
under_short (Plain text) n short = short
under_short Deleted n short = tt

resealed_short : (n : ℕ) (b : Body) → IsShortBody b → IsShortBody (resealed n b)
resealed_short n (Under text set) short = short
resealed_short n Gone short = tt

-- ---- one move

gained_short : (s : Ideal) (uuid : Bytes) (a : Account) (w : Version) (next : List Account) → Gains s uuid a w next → IsShortBody w.body
    → Each AreShortVersions s.accounts → Each AreShortVersions next
gained_short s uuid a w next g short h =
    subst (Each AreShortVersions) (sym g.next_is)
    (each_changed AreShortVersions (is_account a.identifier) (more w) s.accounts h
    (λ x there is k. each_more (λ (v : Version). IsShortBody v.body) x.versions w k short))

accepted_short : (s : Ideal) → Reached s → (device uuid : Bytes) (stamp : ℕ) (under : Option ℕ) → MayAccept s device uuid stamp under
    → Each AreShortVersions s.accounts → Each AreShortVersions (after s (Accept device uuid stamp under)).accounts
accepted_short s r device uuid stamp under may h =
    let d : IsShortDraft may.draft = drafts_short s r device uuid may.draft may.is.at in
    gained_short s uuid may.account (version_of stamp (length may.account.sets) may.draft) (after s (Accept device uuid stamp under)).accounts
    (accept_gains s device uuid stamp under may)
    (under_short (sent_content may.draft.latest may.draft.posted) (length may.account.sets)
    (sent_short may.draft.latest may.draft.posted d.latest d.posted)) h

rewrapped_short : (s : Ideal) (uuid : Bytes) (stamp under : ℕ) → MayRewrap s uuid stamp under
    → Each AreShortVersions s.accounts → Each AreShortVersions (after s (Rewrap uuid stamp under)).accounts
rewrapped_short s uuid stamp under may h =
    let g = rewrap_gains s uuid stamp under may in
    let own : AreShortVersions may.account = this_one AreShortVersions s.accounts may.account h g.among in
    let was : IsShortBody may.version.body =
    this_one (λ (v : Version). IsShortBody v.body) may.account.versions may.version own (last_among uuid may.account.versions may.version may.last).0 in
    gained_short s uuid may.account (sealed_again stamp (length may.account.sets) may.version) (after s (Rewrap uuid stamp under)).accounts g
    (resealed_short (length may.account.sets) may.version.body was) h

after_short : (s : Ideal) (m : Move) → IsTrue (allows s m) → Reached s → Each AreShortVersions s.accounts → Each AreShortVersions (after s m).accounts
after_short s (Register identifier set) may r h =
    each_more AreShortVersions s.accounts (record { identifier = identifier; sets = set ∷ []; versions = [] }) h tt
after_short s (Accept device uuid stamp under) may r h =
    accepted_short s r device uuid stamp under (allowed_from s (Accept device uuid stamp under) may) h
after_short s (Rewrap uuid stamp under) may r h = rewrapped_short s uuid stamp under (allowed_from s (Rewrap uuid stamp under) may) h
after_short s (Change identifier number set) may r h =
    each_changed AreShortVersions (is_account identifier) (more_sets set) s.accounts h (λ x there is k. k)
after_short s m may r h = h

-- ---- all moves

short_from : (s : Ideal) (ms : List Move) → LegalFrom s ms → Reached s → Each AreShortVersions s.accounts → Each AreShortVersions (end_from s ms).accounts
short_from s [] legal r h = h
short_from s (m ∷ ms) legal r h =
    short_from (after s m) ms legal.1 (reached_after s (m ∷ []) r (legal.0, tt)) (after_short s m legal.0 r h)

reached_first : Reached empty
reached_first = record { moves = []; legal = tt; is = refl }

pub versions_short : (s : Ideal) → Reached s → (n : ℕ) (a : Account) → account_at n s.accounts ≡ Some a → AreShortVersions a
versions_short s r n a at =
    each_at AreShortVersions s.accounts n a
    (subst (λ (t : Ideal). Each AreShortVersions t.accounts) (sym r.is) (short_from empty r.moves r.legal reached_first tt)) at

-- Drafts of every state that legal moves lead to are short: a content that is edited has 700,000 bytes at most, and a copy 53 more.
use Rattle.std.proofs.Common.{◌≡◌, ◌≤◌, ℕ, List, [], ◌∷◌, length, Option, Some, None, refl, sym, ap, subst, inl, inr, arith}
use Rattle.std.proofs.lemmas.Bool.{cases_lt}
use Rattle.std.specs.Prelude.{IsTrue}
use Rattle.sn_laws.proofs.Facts.{DraftFrom, allowed_from, as_was, by_edit, by_fork, by_post, by_rename, by_settle, by_unpost, draft_edited, draft_from}
use Rattle.sn_laws.specs.Lookups.{Bytes, draft_at, empty}
use Rattle.sn_laws.specs.Moves.{after, allows, copied, sent_content, without_number}
use Rattle.sn_laws.specs.Relation.{MayEdit}
use Rattle.sn_laws.specs.Runs.{LegalFrom, end_from}
use Rattle.sn_laws.specs.declared.ideal.Content.{Content}
use Rattle.sn_laws.specs.declared.ideal.Content.TheVariants.{Deleted, Plain}
use Rattle.sn_laws.specs.declared.ideal.Draft.{Draft}
use Rattle.sn_laws.specs.declared.ideal.Ideal.{Ideal}
use Rattle.sn_laws.specs.declared.ideal.Posted.{Posted}
use Rattle.sn_laws.specs.declared.moves.Move.{Move}
use Rattle.sn_laws.specs.declared.moves.Move.TheVariants.{Edit}
use Rattle.sn_notes.proofs.Facts.{copy_bound, kept_long}
use Rattle.sn_notes.specs.Copies.{copy_of}
use Rattle.sn_string.specs.Bounds.{longest_content}
use Rattle.sn_world.proofs.ShortTexts.{longest_draft}
use Rattle.sn_world.specs.Holds.{Reached}

abbrev pub IsShortContent : Content → Type 0
IsShortContent (Plain text) = length text ≤ longest_draft
IsShortContent Deleted = Unit {0}

abbrev pub IsShortPosted : Option Posted → Type 0
IsShortPosted None = Unit {0}
IsShortPosted (Some p) = IsShortContent p.content

pub record IsShortDraft (d : Draft) : Type 0 where
  pub latest : IsShortContent d.latest
  pub posted : IsShortPosted d.posted

abbrev AreShort : Ideal → Type 0
AreShort s = (name uuid : Bytes) (d : Draft) → draft_at s name uuid ≡ Some d → IsShortDraft d

-- ---- contents

copy_short : (text uuid : Bytes) → length text ≤ longest_draft → length (copy_of text uuid) ≤ longest_draft
copy_short text uuid short =
    elim (cases_lt longest_content (length text)) [
      | inl long ↦ (let same : length (copy_of text uuid) ≡ length text = ap length (kept_long text uuid long) in omega (arith, same, short))
      | inr few ↦ (let bound = copy_bound text uuid (copy_of text uuid) refl in omega (arith, bound, few))
    ]

copied_short : (c : Content) (uuid : Bytes) → IsShortContent c → IsShortContent (copied c uuid)
copied_short (Plain text) uuid short = copy_short text uuid short
copied_short Deleted uuid short = tt

edited_content : (s : Ideal) (name uuid kind : Bytes) (base : Option ℕ) (latest : Content) → MayEdit s name uuid kind base latest → IsShortContent latest
edited_content s name uuid kind base (Plain text) may = let short = may.short in omega (arith, short)
edited_content s name uuid kind base Deleted may = tt

sent_short : (latest : Content) (posted : Option Posted) → IsShortContent latest → IsShortPosted posted → IsShortContent (sent_content latest posted)
sent_short latest None short sent = short
sent_short latest (Some p) short sent = sent

unnumbered_short : (posted : Option Posted) → IsShortPosted posted → IsShortPosted (without_number posted)
unnumbered_short None sent = tt
unnumbered_short (Some p) sent = sent

-- ---- one move

module _ (s : Ideal) (m : Move) (may : IsTrue (allows s m)) (short : AreShort s) (name uuid : Bytes) where
  edited_short : (kind : Bytes) (base : Option ℕ) (latest : Content) → IsShortContent latest → (found : Option Draft) → draft_at s name uuid ≡ found
      → IsShortDraft (draft_edited name uuid kind base latest found)
  edited_short kind base latest few None is = record { latest = few; posted = tt }
  edited_short kind base latest few (Some was) is = record { latest = few; posted = (short name uuid was is).posted }

  short_from : (d : Draft) → DraftFrom s m name uuid d → IsShortDraft d
  short_from d (as_was is) = short name uuid d is
  short_from d (by_edit kind base latest m_is d_is) =
      let may_edit : IsTrue (allows s (Edit name uuid kind base latest)) = subst (λ (n : Move). IsTrue (allows s n)) m_is may in
      let few = edited_content s name uuid kind base latest (allowed_from s (Edit name uuid kind base latest) may_edit) in
      subst IsShortDraft (sym d_is) (edited_short kind base latest few (draft_at s name uuid) refl)
  short_from d (by_post was is m_is d_is) =
      let w = short name uuid was is in
      subst IsShortDraft (sym d_is) (record { latest = w.latest; posted = sent_short was.latest was.posted w.latest w.posted })
  short_from d (by_unpost was is m_is d_is) =
      let w = short name uuid was is in
      subst IsShortDraft (sym d_is) (record { latest = w.latest; posted = unnumbered_short was.posted w.posted })
  short_from d (by_settle stamp was is m_is d_is) =
      let w = short name uuid was is in
      subst IsShortDraft (sym d_is) (record { latest = w.latest; posted = tt })
  short_from d (by_fork item was is m_is d_is) =
      let w = short name item was is in
      subst IsShortDraft (sym d_is) (record { latest = copied_short was.latest was.uuid w.latest; posted = tt })
  short_from d (by_rename item was is m_is d_is) =
      let w = short name item was is in
      subst IsShortDraft (sym d_is) (record { latest = w.latest; posted = tt })

-- ---- all moves

short_first : AreShort empty
short_first name uuid d is = absurd (cc)

short_end : (s : Ideal) (ms : List Move) → LegalFrom s ms → AreShort s → AreShort (end_from s ms)
short_end s [] legal short = short
short_end s (m ∷ ms) legal short =
    short_end (after s m) ms legal.1 (λ name uuid d is. short_from s m legal.0 short name uuid d (draft_from s m name uuid d legal.0 is))

pub drafts_short : (s : Ideal) → Reached s → (name uuid : Bytes) (d : Draft) → draft_at s name uuid ≡ Some d → IsShortDraft d
drafts_short s r = subst AreShort (sym r.is) (short_end empty r.moves r.legal short_first)

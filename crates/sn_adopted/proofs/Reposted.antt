-- What was sent of a list of items is sent again: when that is legal, and what it leaves of the drafts.
use Rattle.std.proofs.Common.{◌≡◌, ◌≢◌, ℕ, List, [], ◌∷◌, Option, Some, None, Bool, true, false, refl, sym, ap, ◌∙◌, subst, inl, inr}
use Rattle.std.proofs.lemmas.Bool.{and_parts}
use Rattle.std.specs.Prelude.{IsTrue, length}
use Rattle.std.specs.Str.{bytes_eq}
use Rattle.sn_laws.proofs.Facts.{clash, draft_is, is_false, same_text, text_same}
use Rattle.sn_laws.specs.Each.{Each, One}
use Rattle.sn_laws.specs.Lookups.{Bytes, account_of, device_named, draft_at, greatest, held_by, is_draft, last_of}
use Rattle.sn_laws.specs.Moves.{after, allows, is_based, is_sent_before, is_unsent, may_post, may_unpost, posted_under, sent_content, unposted, without_number}
use Rattle.sn_laws.specs.Runs.{end_from}
use Rattle.sn_laws.specs.declared.ideal.Account.{Account}
use Rattle.sn_laws.specs.declared.ideal.Draft.{Draft}
use Rattle.sn_laws.specs.declared.ideal.Ideal.{Ideal}
use Rattle.sn_laws.specs.declared.ideal.Posted.{Posted}
use Rattle.sn_laws.specs.declared.moves.Move.TheVariants.{Post, Unpost}
use Rattle.sn_shows.proofs.Facts.{find_changed, find_past_changed}
use Rattle.sn_adopted.specs.Laws.{RepostsAllowed, RepostsMove}
use Rattle.sn_adopted.specs.Moves.{reposting, sent_again}

-- ---- one draft

unsent : (n : ℕ) (p : Option Posted) → IsTrue (is_sent_before n p) → IsTrue (is_unsent (without_number p))
unsent n None t = absurd (cc)
unsent n (Some p) t = refl

-- it is sent again with its content
again_is : (n : ℕ) (d : Draft) (p : Posted) → d.posted ≡ Some p → posted_under n (unposted d) ≡ sent_again n d p
again_is n d p e =
    ap (λ (o : Option Posted). record d { posted = Some (record { content = sent_content d.latest (without_number o); set = Some n }) }) e

-- ---- one item

module _ (s : Ideal) (name uuid : Bytes) where
  abbrev free : Ideal
  free = after s (Unpost name uuid)

  abbrev next : Ideal
  next = after free (Post name uuid)

  abbrev most : ℕ
  most = greatest 0 (held_by (device_named s name))

  -- another draft is as it was
  past : (device item : Bytes) → ¬ ((device ≡ name) × (uuid ≡ item)) → draft_at next device item ≡ draft_at s device item
  past device item apart =
      find_past_changed (is_draft device item) (is_draft name uuid) (posted_under most) off off free.drafts
      ∙ find_past_changed (is_draft device item) (is_draft name uuid) unposted off off s.drafts
    where
      off : (x : Draft) → is_draft name uuid x ≡ true → is_draft device item x ≡ false
      off x t =
          is_false (is_draft device item x)
          (λ k. let own = draft_is name uuid x t in
          let other = draft_is device item x k in
          apart (sym other.0 ∙ own.0, sym own.1 ∙ other.1))

  -- what was sent of this one is sent under the greatest set
  own : (d : Draft) (p : Posted) → draft_at s name uuid ≡ Some d → d.posted ≡ Some p → draft_at next name uuid ≡ Some (sent_again most d p)
  own d p e sent =
      let first : draft_at free name uuid ≡ Some (unposted d) = find_changed (is_draft name uuid) unposted (λ x. refl) s.drafts d e in
      find_changed (is_draft name uuid) (posted_under most) (λ x. refl) free.drafts (unposted d) first ∙ ap Some (again_is most d p sent)

  -- what is sent again may be sent
  posts : IsTrue (allows s (Unpost name uuid)) → IsTrue (allows free (Post name uuid))
  posts t = at (account_of s name) (draft_at s name uuid) refl t
    where
      at : (account : Option Account) (found : Option Draft) → draft_at s name uuid ≡ found → IsTrue (may_unpost account found uuid)
          → IsTrue (may_post account (draft_at free name uuid))
      at None found e k = absurd (cc)
      at (Some a) None e k = absurd (cc)
      at (Some a) (Some d) e k =
          subst (λ (o : Option Draft). IsTrue (may_post (Some a) o)) (sym (find_changed (is_draft name uuid) unposted (λ x. refl) s.drafts d e))
          (unsent (length a.sets) d.posted (and_parts (is_sent_before (length a.sets) d.posted) (is_based d.base (last_of uuid a.versions)) k).0)

-- ---- all of them

-- others may lose their number still
each_past : (s : Ideal) (name uuid : Bytes) (uuids : List Bytes) → Each (λ other. other ≢ uuid) uuids
    → Each (λ other. IsTrue (allows s (Unpost name other))) uuids → Each (λ other. IsTrue (allows (next s name uuid) (Unpost name other))) uuids
each_past s name uuid [] apart may = tt
each_past s name uuid (other ∷ uuids) apart may = (
  subst (λ (o : Option Draft). IsTrue (may_unpost (account_of s name) o other)) (sym (past s name uuid name other (λ e. apart.0 (sym e.1)))) may.0,
  each_past s name uuid uuids apart.1 may.1,
)

pub reposts_allowed : RepostsAllowed
reposts_allowed s name [] differ may = tt
reposts_allowed s name (uuid ∷ uuids) differ may = (
  may.0,
  (posts s name uuid may.0, reposts_allowed (next s name uuid) name uuids differ.1 (each_past s name uuid uuids differ.0 may.1)),
)

-- what is sent so stays so
again_stays : (s : Ideal) (name item : Bytes) (uuids : List Bytes) (d : Draft) (p : Posted)
    → draft_at s name item ≡ Some (sent_again (greatest 0 (held_by (device_named s name))) d p)
    → draft_at (end_from s (reposting name uuids)) name item ≡ Some (sent_again (greatest 0 (held_by (device_named s name))) d p)
again_stays s name item [] d p e = e
again_stays s name item (uuid ∷ uuids) d p e = again_stays (next s name uuid) name item uuids d p (by (bytes_eq uuid item) refl)
  where
    by : (b : Bool) → bytes_eq uuid item ≡ b → draft_at (next s name uuid) name item ≡ Some (sent_again (most s name uuid) d p)
    by true same =
        let is : uuid ≡ item = same_text uuid item same in
        subst (λ (u : Bytes). draft_at (next s name uuid) name u ≡ Some (sent_again (most s name uuid) d p)) is
        (own s name uuid (sent_again (most s name uuid) d p) (record p { set = Some (most s name uuid) }) (ap (draft_at s name) is ∙ e) refl)
    by false off = past s name uuid name item (λ k. clash (bytes_eq uuid item) (text_same uuid item k.1) off) ∙ e

all_again : (s : Ideal) (name item : Bytes) (uuids : List Bytes) (d : Draft) (p : Posted) → One (λ u. u ≡ item) uuids → draft_at s name item ≡ Some d
    → d.posted ≡ Some p → draft_at (end_from s (reposting name uuids)) name item ≡ Some (sent_again (greatest 0 (held_by (device_named s name))) d p)
all_again s name item [] d p one e sent = absurd one
all_again s name item (uuid ∷ uuids) d p one e sent =
    by (λ later before. all_again (next s name uuid) name item uuids d p later before sent) (bytes_eq uuid item) refl one
  where
    by : (One (λ u. u ≡ item) uuids → draft_at (next s name uuid) name item ≡ Some d
        → draft_at (end_from (next s name uuid) (reposting name uuids)) name item ≡ Some (sent_again (most s name uuid) d p))
        → (b : Bool) → bytes_eq uuid item ≡ b → One (λ u. u ≡ item) (uuid ∷ uuids)
        → draft_at (end_from (next s name uuid) (reposting name uuids)) name item ≡ Some (sent_again (most s name uuid) d p)
    by rest true same here =
        let is : uuid ≡ item = same_text uuid item same in
        again_stays (next s name uuid) name item uuids d p
        (subst (λ (u : Bytes). draft_at (next s name uuid) name u ≡ Some (sent_again (most s name uuid) d p)) is
        (own s name uuid d p (ap (draft_at s name) is ∙ e) sent))
    by rest false off (inl is) = absurd (clash (bytes_eq uuid item) (text_same uuid item is) off)
    by rest false off (inr later) = rest later (past s name uuid name item (λ k. clash (bytes_eq uuid item) (text_same uuid item k.1) off) ∙ e)

all_past : (s : Ideal) (name device item : Bytes) (uuids : List Bytes) → ¬ ((device ≡ name) × One (λ u. u ≡ item) uuids)
    → draft_at (end_from s (reposting name uuids)) device item ≡ draft_at s device item
all_past s name device item [] off = refl
all_past s name device item (uuid ∷ uuids) off =
    all_past (next s name uuid) name device item uuids (λ e. off (e.0, inr e.1)) ∙ past s name uuid device item (λ e. off (e.0, inl e.1))

pub reposts_move : RepostsMove
reposts_move s name uuids = record {
  own = λ uuid d p one. all_again s name uuid uuids d p one;
  others = λ device uuid off. all_past s name device uuid uuids off;
}

-- What was sent of a list of items loses its number and is sent again: a device's rows show the same of it.
use Rattle.std.proofs.Common.{◌≡◌, List, [], ◌∷◌, Some, None, Bool, true, false, refl, sym, ap, ◌∙◌, subst}
use Rattle.std.specs.Prelude.{cond, if◌then◌else◌, find}
use Rattle.sn_laws.specs.Each.{Each}
use Rattle.sn_laws.specs.Lookups.{Bytes, device_named, greatest, held_by, is_draft}
use Rattle.sn_laws.specs.Moves.{after, changed_where, posted_under, sent_content, unposted, without_number}
use Rattle.sn_laws.specs.declared.ideal.Draft.{Draft}
use Rattle.sn_laws.specs.declared.ideal.Ideal.{Ideal}
use Rattle.sn_laws.specs.declared.ideal.Posted.{Posted}
use Rattle.sn_laws.specs.declared.moves.Move.TheVariants.{Post, Unpost}
use Rattle.sn_shows.proofs.Facts.{reposted_shows, unposted_shows}
use Rattle.sn_shows.specs.Devices.{ShowsDevice}
use Rattle.sn_adopted.specs.Laws.{RepostsShow}
use Rattle.sn_adopted.specs.Moves.{WasSent}

-- ---- something was sent of a draft

abbrev IsSent : Draft → Type 0
IsSent x = (p : Posted) × (x.posted ≡ Some p)

unposted_sent : (x : Draft) → IsSent x → IsSent (unposted x)
unposted_sent x (p, e) = (record { content = p.content; set = None }, ap without_number e)

-- a draft that is found is found so after a change of some that leaves it so
found_sent : (p q : Draft → Bool) (f : Draft → Draft) → ((x : Draft) → q (f x) ≡ q x) → ((x : Draft) → IsSent x → IsSent (f x)) → (xs : List Draft) (x : Draft)
    → find q xs ≡ Some x → IsSent x → (y : Draft) × (find q (changed_where p f xs) ≡ Some y) × IsSent y
found_sent p q f same so [] x e sent = absurd (cc)
found_sent p q f same so (w ∷ xs) x e sent = at (λ k. found_sent p q f same so xs x k sent) (p w) (q w) refl e
  where
    here : (w ≡ x) → IsSent w
    here is = subst IsSent (sym is) sent

    at : (find q xs ≡ Some x → (y : Draft) × (find q (changed_where p f xs) ≡ Some y) × IsSent y) → (b c : Bool) → q w ≡ c
        → cond c (Some w) (find q xs) ≡ Some x
        → (y : Draft) × (cond (q (if b then f w else w)) (Some (if b then f w else w)) (find q (changed_where p f xs)) ≡ Some y) × IsSent y
    at rest true true k h = let is : w ≡ x = cc in (f w, rw (same w ∙ k) refl, so w (here is))
    at rest true false k h = let r = rest h in (r.0, rw (same w ∙ k) r.1, r.2)
    at rest false true k h = let is : w ≡ x = cc in (w, rw k refl, here is)
    at rest false false k h = let r = rest h in (r.0, rw k r.1, r.2)

module _ (s : Ideal) (name uuid : Bytes) where
  abbrev free : Ideal
  free = after s (Unpost name uuid)

  abbrev next : Ideal
  next = after free (Post name uuid)

  sent_free : (other : Bytes) → WasSent s name other → WasSent free name other
  sent_free other x =
      let y = found_sent (is_draft name uuid) (is_draft name other) unposted (λ z. refl) unposted_sent s.drafts x.draft x.at (x.posted, x.sent) in
      record { draft = y.0; at = y.1; posted = y.2.0; sent = y.2.1 }

  sent_next : (other : Bytes) → WasSent free name other → WasSent next name other
  sent_next other x =
      let under = greatest 0 (held_by (device_named free name)) in
      let y = found_sent (is_draft name uuid) (is_draft name other) (posted_under under) (λ z. refl)
      (λ z k. (record { content = sent_content z.latest z.posted; set = Some under }, refl)) free.drafts x.draft x.at (x.posted, x.sent) in
      record { draft = y.0; at = y.1; posted = y.2.0; sent = y.2.1 }

  each_next : (uuids : List Bytes) → Each (WasSent s name) uuids → Each (WasSent next name) uuids
  each_next [] each = tt
  each_next (other ∷ uuids) each = (sent_next other (sent_free other each.0), each_next uuids each.1)

pub reposts_show : RepostsShow
reposts_show rows s name [] h each = h
reposts_show rows s name (uuid ∷ uuids) h each =
    let free : ShowsDevice rows (after s (Unpost name uuid)) name = unposted_shows rows s name uuid h in
    let x : WasSent (after s (Unpost name uuid)) name uuid = sent_free s name uuid uuid each.0 in
    let shown : ShowsDevice rows (after (after s (Unpost name uuid)) (Post name uuid)) name =
    reposted_shows rows (after s (Unpost name uuid)) name uuid x.draft x.posted free x.at x.sent in
    reposts_show rows (after (after s (Unpost name uuid)) (Post name uuid)) name uuids shown (each_next s name uuid uuids each.1)

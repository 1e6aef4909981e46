-- The row of an item at an adoption: what it showed under the former set it shows under the new one.
use Rattle.std.proofs.Common.{◌≡◌, ◌<◌, ℕ, List, Option, Some, None, Bool, true, false, refl, sym, ap, ◌∙◌, subst, inl, inr, arith}
use Rattle.std.specs.Prelude.{IsSome}
use Rattle.sn_laws.specs.Lookups.{Bytes, draft_at}
use Rattle.sn_laws.specs.Reached.{NoncesApart}
use Rattle.sn_laws.specs.declared.ideal.Account.{Account}
use Rattle.sn_laws.specs.declared.ideal.Content.{Content}
use Rattle.sn_laws.specs.declared.ideal.Content.TheVariants.{Plain, Deleted}
use Rattle.sn_laws.specs.declared.ideal.Draft.{Draft}
use Rattle.sn_laws.specs.declared.ideal.Ideal.{Ideal}
use Rattle.sn_laws.specs.declared.ideal.Posted.{Posted}
use Rattle.sn_rows.specs.declared.body.RowBody.{RowBody}
use Rattle.sn_rows.specs.declared.body.RowBody.TheVariants as body
use Rattle.sn_rows.specs.declared.body.RowStrings.{RowStrings}
use Rattle.sn_rows.specs.declared.device_rows.LocalItem.{LocalItem}
use Rattle.sn_sets.specs.Sets.{sealed_of}
use Rattle.sn_string.specs.declared.params.KeySet.{KeySet}
use Rattle.sn_shows.proofs.AdoptedSets.{one_opened, one_set}
use Rattle.sn_shows.specs.Adopting.{CarriesBase, IsAdopted, IsCarried, IsClosedUnder, IsLeft, IsSealedAgain}
use Rattle.sn_shows.specs.Devices.{IsBase, ListsBase, OpensBase, ShowsBase, ShowsContent, ShowsDraft, ShowsDrafted, ShowsLocal, ShowsPosted}
use Rattle.sn_shows.specs.Sets.{OpensUnder}

-- ---- one place

module _ (sets : List KeySet) (old number : ℕ) (uuid : Bytes) where
  -- what is sealed again had these strings
  same_given : (before later : Option RowBody) (strings : RowStrings) (text : Bytes) → (p : IsSealedAgain sets old number uuid before later)
      → before ≡ Some (body.Sealed strings) → OpensUnder sets old uuid (sealed_of strings) text → OpensUnder sets number uuid (sealed_of p.again) text
  same_given before later strings text p e h =
      let same : p.given ≡ strings = cc in
      let opens : OpensUnder sets old uuid (sealed_of strings) p.text = subst (λ (x : RowStrings). OpensUnder sets old uuid (sealed_of x) p.text) same p.opens in
      subst (λ (t : Bytes). OpensUnder sets number uuid (sealed_of p.again) t) (one_opened sets old uuid (sealed_of strings) p.text text opens h) p.still

  -- a content that was shown is shown again, in a place where there is one
  abbrev ShowsAgain : Option RowBody → Content → Type 0
  ShowsAgain later content = (again : RowBody) × (later ≡ Some again) × ShowsContent sets number uuid again content

  sealed_content : (b : RowBody) (content : Content) (later : Option RowBody) → IsSealedAgain sets old number uuid (Some b) later
      → ShowsContent sets old uuid b content → ShowsAgain later content
  sealed_content (body.Sealed strings) (Plain text) later p h =
      (body.Sealed p.again, p.again_is, same_given (Some (body.Sealed strings)) later strings text p refl h)
  sealed_content (body.Sealed strings) Deleted later p h = absurd h
  sealed_content body.Deleted content later p h = absurd (cc)

  left_content : (b : RowBody) (content : Content) (later : Option RowBody) → IsLeft sets old uuid (Some b) later
      → ShowsContent sets old uuid b content → ShowsAgain later content
  left_content (body.Sealed strings) (Plain text) later p h = absurd (p.closed text h)
  left_content (body.Sealed strings) Deleted later p h = absurd h
  left_content body.Deleted (Plain text) later p h = absurd h
  left_content body.Deleted Deleted later p h = (body.Deleted, p.same, tt)

  carried_content : (b : RowBody) (content : Content) (later : Option RowBody) → IsCarried sets old number uuid (Some b) later
      → ShowsContent sets old uuid b content → ShowsAgain later content
  carried_content b content later (inl p) h = sealed_content b content later p h
  carried_content b content later (inr p) h = left_content b content later p h

  -- where there was nothing there is nothing, and where there was something there is
  carried_none : (before later : Option RowBody) → before ≡ None → IsCarried sets old number uuid before later → later ≡ None
  carried_none before later e (inl p) = let given : before ≡ Some (body.Sealed p.given) = p.given_is in absurd (cc)
  carried_none before later e (inr p) = p.same ∙ e

  carried_some : (before later : Option RowBody) → IsSome before → IsCarried sets old number uuid before later → IsSome later
  carried_some before later some (inl p) = subst (λ (o : Option RowBody). IsSome o) (sym p.again_is) refl
  carried_some before later some (inr p) = subst (λ (o : Option RowBody). IsSome o) (sym p.same) some

  carried_posted : (before : Option RowBody) (posted : Option Posted) (later : Option RowBody) → IsCarried sets old number uuid before later
      → ShowsPosted sets old uuid before posted → ShowsPosted sets number uuid later posted
  carried_posted None None later c h =
      subst (λ (o : Option RowBody). ShowsPosted sets number uuid o None) (sym (carried_none None later refl c)) tt
  carried_posted None (Some p) later c h = absurd h
  carried_posted (Some b) None later c h = absurd h
  carried_posted (Some b) (Some p) later c h =
      let shown : ShowsAgain later p.content = carried_content b p.content later c h in
      subst (λ (o : Option RowBody). ShowsPosted sets number uuid o (Some p)) (sym shown.1) shown.2

-- ---- the row

module _ (a : Account) (old number : ℕ) (item again : LocalItem) (p : IsAdopted a old number item again) where
  draft_so : (draft : Draft) → ShowsDraft a.sets old item draft → ShowsDraft a.sets number again draft
  draft_so draft h =
      let latest : ShowsAgain a.sets old number item.uuid again.latest draft.latest =
      carried_content a.sets old number item.uuid h.latest draft.latest again.latest
      (subst (λ (o : Option RowBody). IsCarried a.sets old number item.uuid o again.latest) h.latest_is p.latest_is) h.content in
      let posted : ShowsPosted a.sets number item.uuid again.posted draft.posted =
      carried_posted a.sets old number item.uuid item.posted draft.posted again.posted p.posted_is h.posted in
      record {
        kind = p.kind_is ∙ h.kind;
        base = p.base_is ∙ h.base;
        latest = latest.0;
        latest_is = latest.1;
        content = subst (λ (u : Bytes). ShowsContent a.sets number u latest.0 draft.latest) (sym p.uuid_is) latest.2;
        posted = subst (λ (u : Bytes). ShowsPosted a.sets number u again.posted draft.posted) (sym p.uuid_is) posted;
      }

  drafted_so : (found : Option Draft) → ShowsDrafted a.sets old item found → ShowsDrafted a.sets number again found
  drafted_so None h = (
    carried_none a.sets old number item.uuid item.latest again.latest h.0 p.latest_is,
    carried_none a.sets old number item.uuid item.posted again.posted h.1 p.posted_is,
  )
  drafted_so (Some draft) h = draft_so draft h

  -- the row stands on the same version, with these strings
  abbrev listed_so : (stamp : ℕ) → ListsBase a item stamp → (strings : RowStrings) → again.body ≡ Some (body.Sealed strings) → ListsBase a again stamp
  listed_so stamp l strings e = record {
    version = l.version;
    among = l.among;
    item_is = l.item_is ∙ sym p.uuid_is;
    kind_is = l.kind_is ∙ sym p.kind_is;
    stamp_is = l.stamp_is;
    strings = strings;
    body_is = e;
    text = l.text;
    number = l.number;
    live = l.live;
  }

  -- what opened under the former set is of that set's version, or was stale: then its version is of an earlier one
  before_so : NoncesApart a → (stamp : ℕ) (l : ListsBase a item stamp) (text : Bytes) → OpensUnder a.sets old item.uuid (sealed_of l.strings) text
      → (stale : Bool) → OpensBase a.sets old l.number item.uuid l.strings l.text stale → old < number → (l.number < number) × OpensUnder a.sets old item.uuid (sealed_of l.strings) l.text
  before_so apart stamp l text opens false h lt =
      let of : l.number ≡ old = one_set a l.number old item.uuid (sealed_of l.strings) l.text text apart h opens in
      (subst (λ (n : ℕ). n < number) (sym of) lt, subst (λ (n : ℕ). OpensUnder a.sets n item.uuid (sealed_of l.strings) l.text) of h)
  before_so apart stamp l text opens true h lt = (omega (arith, h.0, lt), h.1)

  sealed_base : NoncesApart a → old < number → (stamp : ℕ) → IsBase a old item stamp → IsSealedAgain a.sets old number item.uuid item.body again.body
      → again.stale ≡ true → IsBase a number again stamp
  sealed_base apart lt stamp h s stale =
      let l : ListsBase a item stamp = h.listed in
      let same : s.given ≡ l.strings = same_strings l.body_is s.given_is in
      let opens : OpensUnder a.sets old item.uuid (sealed_of l.strings) s.text =
      subst (λ (x : RowStrings). OpensUnder a.sets old item.uuid (sealed_of x) s.text) same s.opens in
      let was = before_so apart stamp l s.text opens item.stale h.opens lt in
      let still : OpensUnder a.sets number item.uuid (sealed_of s.again) l.text =
      same_given a.sets old number item.uuid item.body again.body l.strings l.text s l.body_is was.1 in
      record {
        listed = listed_so stamp l s.again s.again_is;
        opens = subst (λ (b : Bool). OpensBase a.sets number l.number again.uuid s.again l.text b) (sym stale)
            (was.0, subst (λ (u : Bytes). OpensUnder a.sets number u (sealed_of s.again) l.text) (sym p.uuid_is) still);
      }
    where
      same_strings : {x y : RowStrings} {found : Option RowBody} → found ≡ Some (body.Sealed x) → found ≡ Some (body.Sealed y) → y ≡ x
      same_strings e k = cc

  left_base : (stamp : ℕ) → IsBase a old item stamp → IsLeft a.sets old item.uuid item.body again.body → again.stale ≡ item.stale → IsBase a number again stamp
  left_base stamp h s stale =
      let l : ListsBase a item stamp = h.listed in
      record {
        listed = listed_so stamp l l.strings (s.same ∙ l.body_is);
        opens = subst (λ (b : Bool). OpensBase a.sets number l.number again.uuid l.strings l.text b) (sym stale)
            (open_so l (subst (IsClosedUnder a.sets old item.uuid) l.body_is s.closed) item.stale h.opens);
      }
    where
      open_so : (l : ListsBase a item stamp) → IsClosedUnder a.sets old item.uuid (Some (body.Sealed l.strings)) → (b : Bool)
          → OpensBase a.sets old l.number item.uuid l.strings l.text b → OpensBase a.sets number l.number again.uuid l.strings l.text b
      open_so l closed false k = subst (λ (u : Bytes). OpensUnder a.sets l.number u (sealed_of l.strings) l.text) (sym p.uuid_is) k
      open_so l closed true k = absurd (closed l.text k.1)

  carries_base : NoncesApart a → old < number → (stamp : ℕ) → IsBase a old item stamp → CarriesBase a.sets old number item again → IsBase a number again stamp
  carries_base apart lt stamp h (inl s) = sealed_base apart lt stamp h s.0 s.1
  carries_base apart lt stamp h (inr s) = left_base stamp h s.0 s.1

  -- where it stands on none, there is no body
  carries_none : item.body ≡ None → CarriesBase a.sets old number item again → again.body ≡ None
  carries_none e (inl s) = carried_none a.sets old number item.uuid item.body again.body e (inl s.0)
  carries_none e (inr s) = carried_none a.sets old number item.uuid item.body again.body e (inr s.0)

  base_so : NoncesApart a → old < number → (base : Option ℕ) → ShowsBase a old item base → ShowsBase a number again base
  base_so apart lt None h =
      (carries_none h.0 p.body_is, carried_some a.sets old number item.uuid item.latest again.latest h.1 p.latest_is)
  base_so apart lt (Some stamp) h = carries_base apart lt stamp h p.body_is

  -- the state's drafts stay as they are
  pub adopted_local : (s t : Ideal) (name : Bytes) → NoncesApart a → old < number
      → draft_at t name item.uuid ≡ draft_at s name item.uuid → ShowsLocal s name old a item → ShowsLocal t name number a again
  adopted_local s t name apart lt same h =
      let found : draft_at s name item.uuid ≡ draft_at t name again.uuid = sym same ∙ ap (draft_at t name) (sym p.uuid_is) in
      record {
        draft = subst (λ (o : Option Draft). ShowsDrafted a.sets number again o) found (drafted_so (draft_at s name item.uuid) h.draft);
        base = subst (λ (o : Option ℕ). ShowsBase a number again o) (sym p.base_is) (base_so apart lt item.base h.base);
      }

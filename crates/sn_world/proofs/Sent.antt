-- The draft of a device's row that was sent, and the server's row that it becomes.
use Rattle.std.proofs.Common.{◌≡◌, ℕ, List, [], Option, Some, None, Bool, true, false, refl, subst}
use Rattle.std.specs.Prelude.{if◌then◌else◌}
use Rattle.sn_account.specs.Stored.{body_of}
use Rattle.sn_items.specs.declared.sealed.Sealed.{Sealed}
use Rattle.sn_laws.specs.Lookups.{Bytes}
use Rattle.sn_laws.specs.Moves.{body_under}
use Rattle.sn_laws.specs.declared.ideal.Content.{Content}
use Rattle.sn_laws.specs.declared.ideal.Content.TheVariants as content
use Rattle.sn_laws.specs.declared.ideal.Draft.{Draft}
use Rattle.sn_laws.specs.declared.ideal.Posted.{Posted}
use Rattle.sn_rows.specs.declared.body.RowBody.{RowBody}
use Rattle.sn_rows.specs.declared.body.RowBody.TheVariants as row_body
use Rattle.sn_rows.specs.declared.body.RowStrings.{RowStrings}
use Rattle.sn_rows.specs.declared.device_rows.LocalItem.{LocalItem}
use Rattle.sn_rows.specs.declared.server_rows.ItemRow.{ItemRow}
use Rattle.sn_string.specs.declared.params.KeySet.{KeySet}
use Rattle.sn_sync.specs.declared.item.Body.TheVariants as body
use Rattle.sn_sets.specs.Sets.{sealed_of}
use Rattle.sn_shows.specs.Devices.{ShowsContent, ShowsDrafted, ShowsPosted}
use Rattle.sn_shows.specs.Servers.{ShowsStrings}
use Rattle.sn_shows.specs.Sets.{OpensUnder}
use Rattle.sn_device.specs.Sending.{message_body}

pub record Sent (sets : List KeySet) (number : ℕ) (item : LocalItem) (b : RowBody) (found : Option Draft) : Type 0 where
  pub draft : Draft
  pub found_is : found ≡ Some draft
  pub kind : item.kind ≡ draft.kind
  pub base : item.base ≡ draft.base
  pub posted : Posted
  pub posted_is : draft.posted ≡ Some posted
  pub content : ShowsContent sets number item.uuid b posted.content

posted_of : (sets : List KeySet) (number : ℕ) (uuid : Bytes) (b : RowBody) (found : Option RowBody) (o : Option Posted) → found ≡ Some b
    → ShowsPosted sets number uuid found o → (p : Posted) × (o ≡ Some p) × ShowsContent sets number uuid b p.content
posted_of sets number uuid b None o e h = absurd (cc)
posted_of sets number uuid b (Some c) None e h = absurd h
posted_of sets number uuid b (Some c) (Some p) e h =
    let same : c ≡ b = cc in
    (p, refl, subst (λ (x : RowBody). ShowsContent sets number uuid x p.content) same h)

pub sent_of : (sets : List KeySet) (number : ℕ) (item : LocalItem) (b : RowBody) (found : Option Draft) → item.posted ≡ Some b
    → ShowsDrafted sets number item found → Sent sets number item b found
sent_of sets number item b None e h = let none : item.posted ≡ None = h.1 in absurd (cc)
sent_of sets number item b (Some draft) e h =
    let p = posted_of sets number item.uuid b item.posted draft.posted e h.posted in
    record { draft = draft; found_is = refl; kind = h.kind; base = h.base; posted = p.0; posted_is = p.1; content = p.2 }

-- the row of what was sent opens to the content that was sent

strings_are : (row : ItemRow) (strings : RowStrings) (q : Bool) (c e : Bytes) → (if q then body.Deleted else body.Strings row.content row.enc) ≡ body.Strings c e
    → strings.content ≡ c → strings.enc ≡ e → (q ≡ false) × (sealed_of strings ≡ record { content = row.content; enc = row.enc })
strings_are row strings true c e h k l = absurd (cc)
strings_are row strings false c e h k l =
    let first : strings.content ≡ row.content = cc in
    let second : strings.enc ≡ row.enc = cc in
    (refl, cc)

gone_is : (row : ItemRow) (q : Bool) → (if q then body.Deleted else body.Strings row.content row.enc) ≡ body.Deleted → q ≡ true
gone_is row true h = refl
gone_is row false h = absurd (cc)

pub strings_of : (sets : List KeySet) (number : ℕ) (uuid : Bytes) (b : RowBody) (c : Content) (row : ItemRow) → body_of row ≡ message_body b
    → (row.deleted ≡ true → (row.content ≡ []) × (row.enc ≡ [])) → ShowsContent sets number uuid b c → ShowsStrings sets uuid row (body_under c number)
strings_of sets number uuid (row_body.Sealed strings) content.Deleted row is gone h = absurd h
strings_of sets number uuid row_body.Deleted (content.Plain text) row is gone h = absurd h
strings_of sets number uuid row_body.Deleted content.Deleted row is gone h =
    let deleted : row.deleted ≡ true = gone_is row row.deleted is in
    let none = gone deleted in
    (deleted, none.0, none.1)
strings_of sets number uuid (row_body.Sealed strings) (content.Plain text) row is gone h =
    let are = strings_are row strings row.deleted strings.content strings.enc is refl refl in
    (are.0, subst (λ (x : Sealed). OpensUnder sets number uuid x text) are.1 h)

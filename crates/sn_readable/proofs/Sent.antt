-- What a device sends in a sync is readable.
use Rattle.std.proofs.Common.{◌≡◌, ◌⊎◌, ℕ, ◌≤◌, true, List, [], ◌∷◌, length, Option, Some, None, All, sum_by, refl, sym, ap, ◌∙◌, subst, inl, inr, arith}
use Rattle.std.specs.List.{Contains, list_all}
use Rattle.std.specs.Prelude.{nat_le, suc}
use Rattle.std.proofs.lemmas.Bool.{and_parts, leb-true}
use Rattle.std.proofs.lemmas.List.Elements.{All-cons, All-contains_itself, All-head, All-nil, All-tail, All-weaker, Contains-append_left}
use Rattle.std.proofs.lemmas.List.Sums.{AllPass-from_list_all, sum_by-cons}
use Rattle.sn_account.proofs.Facts.{IsSlim, item_size, length-stamp, lengths, sealed_are_unescaped}
use Rattle.sn_account.specs.AnswerSize.{AreUnescaped, NamesShortly, strings_size}
use Rattle.sn_device.specs.Runs.{Sends}
use Rattle.sn_device.specs.Sending.{AreSentAs, FitsSending, IsSentAs, Numbered, SaysBase, first_some, message_body, sent_of, weight_of}
use Rattle.sn_device.specs.States.{Bytes, HasLocal, IsSound, IsSoundItem, NamesVersion, columns, token_of}
use Rattle.sn_conflict.specs.Checks.{most_retrieved}
use Rattle.sn_link.specs.Laws.{IsReadable, ReadableWithin}
use Rattle.sn_rows.specs.Bounds.{is_text_of, is_visible}
use Rattle.sn_rows.specs.Table.{Rows}
use Rattle.sn_rows.specs.declared.body.RowBody.{RowBody}
use Rattle.sn_rows.specs.declared.body.RowBody.TheVariants as row
use Rattle.sn_rows.specs.declared.change.Change.{Change}
use Rattle.sn_rows.specs.declared.device_rows.LocalItem.{LocalItem}
use Rattle.sn_rows.specs.declared.device_rows.OwnerRow.{OwnerRow}
use Rattle.sn_sync.specs.Fits.{FitsRequest}
use Rattle.sn_sync.specs.Members.{IsSessionToken}
use Rattle.sn_sync.specs.Versions.{strings_in}
use Rattle.sn_sync.specs.declared.item.Body.{Body}
use Rattle.sn_sync.specs.declared.item.Item.{Item}
use Rattle.sn_sync.specs.declared.request.Request.{Request}
use Rattle.sn_sync.specs.declared.request.Request.TheVariants as request
use Rattle.sn_world.proofs.Facts.{body_most, sends_fit, strings_size as row_strings_size}
use Rattle.sn_world.specs.Fitting.{FitsUuids}
use Rattle.sn_readable.proofs.Bodies.{sync_short}
use Rattle.sn_readable.proofs.Tokens.{HasShortTokens, IsShortToken, TokensAreShort}
use Rattle.sn_readable.specs.Laws.{IsHostName}

-- ---- a version

-- its strings stand in JSON as they are
version_plain : (uuid : Bytes) (version : RowBody) → NamesVersion uuid (Some version) → All AreUnescaped (strings_in (message_body version))
version_plain uuid row.Deleted named = All-nil AreUnescaped
version_plain uuid (row.Sealed strings) (content, enc) =
    All-cons AreUnescaped strings.content (strings.enc ∷ []) (sealed_are_unescaped strings.content content.0 content.1.reads)
    (All-cons AreUnescaped strings.enc [] (sealed_are_unescaped strings.enc enc.0 enc.1.reads) (All-nil AreUnescaped))

first_named : (uuid : Bytes) (a b : Option RowBody) → NamesVersion uuid a → NamesVersion uuid b → NamesVersion uuid (first_some a b)
first_named uuid None b x y = y
first_named uuid (Some version) b x y = x

sent_named : (local : LocalItem) → IsSoundItem (columns local) → NamesVersion local.uuid (sent_of local)
sent_named local sound =
    first_named local.uuid local.posted (first_some local.latest local.body) sound.posted_named
    (first_named local.uuid local.latest local.body sound.latest_named sound.body_named)

-- it has as many bytes in a message
version_size : (version : RowBody) → strings_size (message_body version) ≡ weight_of (Some version)
version_size row.Deleted = refl
version_size (row.Sealed strings) = refl

-- at most so many
weight_most : (version : Option RowBody) → weight_of version ≤ 2113538
weight_most None = omega arith
weight_most (Some row.Deleted) = omega arith
weight_most (Some (row.Sealed strings)) =
    let whole = row_strings_size strings in
    let most = body_most (Some (row.Sealed strings)) in
    omega arith

-- ---- an item

base_short : (base : Option ℕ) (updated : Option Bytes) → SaysBase base updated → NamesShortly updated
base_short None updated e = subst NamesShortly (sym e) tt
base_short (Some stamp) updated (text, is, e) =
    let long = length-stamp text stamp is in
    let short : NamesShortly (Some text) = omega arith in
    subst NamesShortly (sym e) short

sent_slim : (local : LocalItem) (i : Item) → IsSoundItem (columns local) → IsSentAs local i → IsSlim i
sent_slim local i sound x =
    let kind : length local.kind ≤ 255 = (lengths 1 255 local.kind local.kind_fits).1 in
    let named : NamesVersion local.uuid (Some x.version) = subst (NamesVersion local.uuid) x.sent (sent_named local sound) in
    record {
      kind = subst (λ (k : Bytes). length k ≤ 255) (sym x.kind_is) kind;
      named = base_short local.base i.updated_at x.replaces;
      unescaped = subst (λ (b : Body). All AreUnescaped (strings_in b)) (sym x.body_is) (version_plain local.uuid x.version named);
    }

sent_size : (local : LocalItem) (i : Item) → IsSentAs local i → item_size i ≡ weight_of (sent_of local)
sent_size local i x = ap strings_size x.body_is ∙ version_size x.version ∙ ap weight_of (sym x.sent)

-- ---- all items

abbrev StandsAt : Rows → Numbered → Type 0
StandsAt rows w = HasLocal rows w.0 w.1

abbrev weight : Numbered → ℕ
weight w = weight_of (sent_of w.1)

-- they are as many, with as many bytes
record Sized (chosen : List Numbered) (items : List Item) : Type 0 where
  slim : All IsSlim items
  many : length items ≡ length chosen
  size : sum_by item_size items ≡ sum_by weight chosen

sized : (rows : Rows) → IsSound rows → (chosen : List Numbered) (items : List Item) → All (StandsAt rows) chosen → AreSentAs chosen items
    → Sized chosen items
sized rows sound [] [] stand sent = record { slim = All-nil IsSlim; many = refl; size = refl }
sized rows sound [] (i ∷ items) stand sent = absurd sent
sized rows sound (w ∷ chosen) [] stand sent = absurd sent
sized rows sound (w ∷ chosen) (i ∷ items) stand sent =
    let others : Sized chosen items = sized rows sound chosen items (All-tail (StandsAt rows) w chosen stand) sent.1 in
    let item : IsSoundItem (columns w.1) = sound.locals.items w.0 w.1 (All-head (StandsAt rows) w chosen stand) in
    let one = sent_size w.1 i sent.0 in
    let rest = others.size in
    let here = sum_by-cons item_size i items in
    let there = sum_by-cons weight w chosen in
    record {
      slim = All-cons IsSlim i items (sent_slim w.1 i item sent.0) others.slim;
      many = ap suc others.many;
      size = omega arith;
    }

-- what is chosen has at most 150 items and 4 MiB, also where it is one item alone
record IsLight (chosen : List Numbered) : Type 0 where
  few : length chosen ≤ 150
  light : sum_by weight chosen ≤ 4194304

one_light : (chosen : List Numbered) → length chosen ≡ 1 → IsLight chosen
one_light [] one = absurd (omega arith)
one_light (w ∷ []) one =
    let most = weight_most (sent_of w.1) in
    let sum = sum_by-cons weight w [] in
    record { few = omega arith; light = omega arith }
one_light (w ∷ v ∷ chosen) one = absurd (omega arith)

chosen_light : (chosen : List Numbered) → FitsSending chosen ⊎ (length chosen ≡ 1) → IsLight chosen
chosen_light chosen (inl fits) = record { few = fits.0; light = fits.1 }
chosen_light chosen (inr one) = one_light chosen one

-- ---- a sync

-- the session token of a device's row
pub owner_token : (owner : OwnerRow) → IsSessionToken owner.token
owner_token owner =
    let both = and_parts (is_text_of 1 1024 owner.token) (list_all is_visible owner.token) owner.token_fits in
    let long = lengths 1 1024 owner.token both.0 in
    (long.0, long.1, λ k d within. visible _ (AllPass-from_list_all is_visible owner.token both.1 k d within))
  where
    visible : (b : ℕ) → is_visible b ≡ true → (33 ≤ b) × (b ≤ 126)
    visible b is = (let p = and_parts (nat_le 33 b) (nat_le b 126) is in (leb-true 33 b p.0, leb-true b 126 p.1))

module _ (within : ReadableWithin) (host : Bytes) (named : IsHostName host) where
  sync_readable : (token : Bytes) (items : List Item) (limit : ℕ) (sync_token cursor_token : Option Bytes)
      → FitsRequest (request.Sync token items limit sync_token cursor_token) → IsSessionToken token → All IsSlim items → length items ≤ 150
      → sum_by item_size items ≤ 4194304 → IsShortToken sync_token → IsShortToken cursor_token
      → IsReadable host (request.Sync token items limit sync_token cursor_token)
  sync_readable token items limit sync_token cursor_token fits session slim few light synced page =
      within host (request.Sync token items limit sync_token cursor_token) fits named.0 named.1 (inr session)
      (λ text writes. sync_short token items limit sync_token cursor_token text slim few light fits.2 synced page writes)

  pub sends_readable : (rows : Rows) (numbers : List ℕ) (posted : List Change) (r : Request) (ready : Rows) → IsSound rows → FitsUuids rows
      → TokensAreShort rows → Sends rows numbers posted r ready → IsReadable host r
  sends_readable rows numbers posted r ready sound uuids short x =
      let stand : All (StandsAt rows) x.chosen =
      All-weaker (Contains x.chosen) (StandsAt rows)
      (λ w has. ((x.chosen_are.all.whole w.0 w.1).0 (Contains-append_left x.chosen x.later w has)).0) x.chosen (All-contains_itself x.chosen) in
      let sent = x.request_is in
      let sizes : Sized x.chosen sent.items = sized rows sound x.chosen sent.items stand sent.items_are in
      let light : IsLight x.chosen = chosen_light x.chosen x.chosen_are.fits in
      let few = light.few in
      let many = sizes.many in
      let bytes = light.light in
      let same = sizes.size in
      let tokens : HasShortTokens x.owner = short x.owner x.owned in
      subst (IsReadable host) (sym sent.request_is)
      (sync_readable x.owner.token sent.items most_retrieved (token_of x.owner.sync_token) (token_of x.owner.cursor_token)
      (subst FitsRequest sent.request_is (sends_fit rows numbers posted r ready uuids x)) (owner_token x.owner) sizes.slim (omega arith) (omega arith)
      tokens.0 tokens.1)

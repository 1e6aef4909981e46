-- The lines of accounts: of each alone, and with one item more.
use Rattle.std.proofs.Common.{◌≡◌, ◌≢◌, ◌+◌, ◌<◌, ◌≤◌, ℕ, zero, suc, List, [], ◌∷◌, ◌++◌, length, take, get_or, Option, Some, None, Result, Ok, Err, refl, sym, ap, ◌∙◌, subst, arith, add-one}
use Rattle.std.specs.Prelude.{IsSome, OnOk, map, slice_get, slice_set, reverse}
use Rattle.std.specs.List.{flat_map}
use Rattle.std.proofs.lemmas.List.{append-nil, length-map, map-append, take_all}
use Rattle.std.proofs.lemmas.List.Concat.{flat_map-append}
use Rattle.std.proofs.lemmas.List.Folds.{flat_map-map}
use Rattle.std.proofs.lemmas.Option.{slice_get_within}
use Rattle.sn_laws.proofs.Facts.{found_passes, same_text}
use Rattle.sn_laws.specs.Lookups.{Bytes, is_of, last_of}
use Rattle.sn_laws.specs.declared.ideal.Account.{Account}
use Rattle.sn_laws.specs.declared.ideal.Body.{Body}
use Rattle.sn_laws.specs.declared.ideal.Version.{Version}
use Rattle.sn_report.specs.Labels.{Labels, items_of}
use Rattle.sn_report.specs.Showing.{account_lines, account_text, item_text, last_set_text, version_lines, version_text}
use Rattle.sn_rows.specs.Table.{Rows}
use Rattle.sn_rows.specs.declared.key.Key.TheVariants as key
use Rattle.sn_rows.specs.declared.server_rows.AccountRow.{AccountRow}
use Rattle.sn_rows.specs.declared.server_rows.ItemRow.{ItemRow}
use Rattle.sn_rows.specs.declared.value.Value.{Value}
use Rattle.sn_shows.specs.Servers.{IsShown, ShowsIdentity, ShowsItem, ShowsServer, ShowsStrings, account_at}
use Rattle.sn_shown.specs.Lines.{lines_so_far}
use Rattle.sn_shown.specs.Rows.{account_in, item_in}
use Rattle.sn_shown.proofs.Finds.{never, one_found}
use Rattle.sn_shown.proofs.PlaceLemmas.{at_place, map_at, map_same, map_set, taken, taken_at}

-- each account's own line

pub own_line : (rows : Rows) (accounts : List Account) (a : Account) (number : ℕ) (row : AccountRow) (line : Bytes) → ShowsServer rows accounts
    → account_at number accounts ≡ Some a → account_in (rows (key.Account number)) ≡ Some row
    → line ≡ last_set_text row.identifier row.generation → line ≡ account_text a
own_line rows accounts a number row line h at is line_is =
    let identity : ShowsIdentity rows number a = (h.all.each number a at).identity in
    let same : row ≡ identity.row = one_found (account_in (rows (key.Account number))) row identity.row is (ap account_in identity.stands) in
    let identifier : row.identifier ≡ a.identifier = ap (λ (r : AccountRow). r.identifier) same ∙ identity.identifier in
    let generation : row.generation ≡ length a.sets = ap (λ (r : AccountRow). r.generation) same ∙ identity.generation in
    line_is ∙ ap (λ (i : Bytes). last_set_text i row.generation) identifier ∙ ap (λ (n : ℕ). last_set_text a.identifier n) generation

pub own_identifier : (rows : Rows) (accounts : List Account) (a : Account) (number : ℕ) (row : AccountRow) → ShowsServer rows accounts
    → account_at number accounts ≡ Some a → account_in (rows (key.Account number)) ≡ Some row → row.identifier ≡ a.identifier
own_identifier rows accounts a number row h at is =
    let identity : ShowsIdentity rows number a = (h.all.each number a at).identity in
    let same : row ≡ identity.row = one_found (account_in (rows (key.Account number))) row identity.row is (ap account_in identity.stands) in
    ap (λ (r : AccountRow). r.identifier) same ∙ identity.identifier

pub own_row : {A : Type 0} (rows : Rows) (accounts : List Account) (a : Account) (number : ℕ) → ShowsServer rows accounts
    → account_at number accounts ≡ Some a → account_in (rows (key.Account number)) ≡ None → A
own_row rows accounts a number h at none =
    let identity : ShowsIdentity rows number a = (h.all.each number a at).identity in
    never (account_in (rows (key.Account number))) identity.row (ap account_in identity.stands) none

-- one account more
pub own_lines_more : (accounts : List Account) (index : ℕ) (lists now : List (List Bytes)) (list : List Bytes) → index < length accounts
    → ((a : Account) → account_at (index + 1) accounts ≡ Some a → list ≡ account_text a ∷ [])
    → lists ≡ map (lines_so_far [] []) (take index accounts) → now ≡ lists ++ list ∷ []
    → now ≡ map (lines_so_far [] []) (take (index + 1) accounts)
own_lines_more accounts index lists now list lt line is more =
    let found = at_place accounts index lt in
    let place : slice_get accounts index ≡ Some found.0 = found.1 in
    let at : account_at (index + 1) accounts ≡ Some found.0 = ap (λ (n : ℕ). account_at n accounts) (add-one index) ∙ place in
    more
    ∙ ap (λ (ls : List (List Bytes)). ls ++ list ∷ []) is
    ∙ ap (λ (l : List Bytes). map (lines_so_far [] []) (take index accounts) ++ l ∷ []) (line found.0 at)
    ∙ sym (map-append (lines_so_far [] []) (take index accounts) (found.0 ∷ []))
    ∙ ap (λ (xs : List Account). map (lines_so_far [] []) xs) (sym (taken_at accounts index found.0 place))

pub own_lines_all : (accounts : List Account) (index : ℕ) (lists : List (List Bytes)) → length accounts ≤ index
    → lists ≡ map (lines_so_far [] []) (take index accounts) → lists ≡ map (lines_so_far [] []) accounts
own_lines_all accounts index lists all is = is ∙ ap (λ (xs : List Account). map (lines_so_far [] []) xs) (take_all index accounts all)

-- one item more

lines_more : (labels : Labels) (front : List Bytes) (uuid : Bytes) (a : Account)
    → lines_so_far labels (front ++ uuid ∷ []) a ≡ lines_so_far labels front a ++ version_lines labels (last_of uuid a.versions)
lines_more labels front uuid a =
    ap (λ (ls : List Bytes). account_text a ∷ ls)
    (flat_map-append (λ (u : Bytes). version_lines labels (last_of u a.versions)) front (uuid ∷ [])
    ∙ ap (λ (ls : List Bytes). flat_map (λ (u : Bytes). version_lines labels (last_of u a.versions)) front ++ ls)
    (append-nil (version_lines labels (last_of uuid a.versions))))

lines_none : (labels : Labels) (front : List Bytes) (uuid : Bytes) (a : Account) → last_of uuid a.versions ≡ None
    → lines_so_far labels front a ≡ lines_so_far labels (front ++ uuid ∷ []) a
lines_none labels front uuid a none =
    sym
    (lines_more labels front uuid a
    ∙ ap (λ (found : Option Version). lines_so_far labels front a ++ version_lines labels found) none
    ∙ append-nil (lines_so_far labels front a))

lines_some : (labels : Labels) (front : List Bytes) (uuid : Bytes) (a : Account) (v : Version) → last_of uuid a.versions ≡ Some v
    → lines_so_far labels front a ++ version_text labels v ∷ [] ≡ lines_so_far labels (front ++ uuid ∷ []) a
lines_some labels front uuid a v some =
    sym
    (lines_more labels front uuid a
    ∙ ap (λ (found : Option Version). lines_so_far labels front a ++ version_lines labels found) some)

-- an item that has no row has no version
pub item_absent : (rows : Rows) (accounts : List Account) (labels : Labels) (front : List Bytes) (uuid : Bytes) (lists : List (List Bytes))
    → ShowsServer rows accounts → item_in (rows (key.Item uuid)) ≡ None → lists ≡ map (lines_so_far labels front) accounts
    → lists ≡ map (lines_so_far labels (front ++ uuid ∷ [])) accounts
item_absent rows accounts labels front uuid lists h none is =
    is
    ∙ map_same (lines_so_far labels front) (lines_so_far labels (front ++ uuid ∷ [])) accounts
    (λ n a at. lines_none labels front uuid a (no_version n a at (last_of uuid a.versions) refl))
  where
    no_version : (n : ℕ) (a : Account) → slice_get accounts n ≡ Some a → (found : Option Version) → last_of uuid a.versions ≡ found
        → last_of uuid a.versions ≡ None
    no_version n a at None e = e
    no_version n a at (Some v) e =
        let item : ShowsItem rows (suc n) a uuid v = (h.all.each (suc n) a at).items uuid v e in
        never (item_in (rows (key.Item uuid))) item.row (ap item_in item.stands) none

-- whose item a row is
pub record IsRowOf (accounts : List Account) (uuid : Bytes) (row : ItemRow) : Type 0 where
  pub place : ℕ
  pub account : Account
  pub at : slice_get accounts place ≡ Some account
  pub version : Version
  pub last : last_of uuid account.versions ≡ Some version
  pub number : row.account ≡ suc place
  pub updated : row.updated ≡ version.stamp
  pub strings : ShowsStrings account.sets uuid row version.body
  pub alone : (other : ℕ) (b : Account) → other ≢ place → slice_get accounts other ≡ Some b → last_of uuid b.versions ≡ None

some_row : (found : Option Value) (row : ItemRow) → item_in found ≡ Some row → IsSome found
some_row None row e = absurd (cc)
some_row (Some v) row e = refl

pub row_of : (rows : Rows) (accounts : List Account) (uuid : Bytes) (row : ItemRow) → ShowsServer rows accounts
    → item_in (rows (key.Item uuid)) ≡ Some row → IsRowOf accounts uuid row
row_of rows accounts uuid row h is =
    let shown : IsShown accounts uuid = h.all.no_other (key.Item uuid) (some_row (rows (key.Item uuid)) row is) in
    by shown.number shown.account shown.version shown.at shown.last
  where
    same_row : (number : ℕ) (a : Account) (v : Version) (item : ShowsItem rows number a uuid v) → item.row ≡ row
    same_row number a v item = one_found (item_in (rows (key.Item uuid))) item.row row (ap item_in item.stands) is

    by : (number : ℕ) (a : Account) (v : Version) → account_at number accounts ≡ Some a → last_of uuid a.versions ≡ Some v → IsRowOf accounts uuid row
    by zero a v at last = absurd (cc)
    by (suc n) a v at last =
        let item : ShowsItem rows (suc n) a uuid v = (h.all.each (suc n) a at).items uuid v last in
        let same : item.row ≡ row = same_row (suc n) a v item in
        let number : row.account ≡ suc n = ap (λ (r : ItemRow). r.account) (sym same) ∙ item.account in
        record {
          place = n;
          account = a;
          at = at;
          version = v;
          last = last;
          number = number;
          updated = ap (λ (r : ItemRow). r.updated) (sym same) ∙ item.updated;
          strings = subst (λ (r : ItemRow). ShowsStrings a.sets uuid r v.body) same item.strings;
          alone = λ other b ne at_other. no_version number other b ne at_other (last_of uuid b.versions) refl;
        }
      where
        no_version : row.account ≡ suc n → (other : ℕ) (b : Account) → other ≢ n → slice_get accounts other ≡ Some b → (found : Option Version)
            → last_of uuid b.versions ≡ found → last_of uuid b.versions ≡ None
        no_version number other b ne at_other None e = e
        no_version number other b ne at_other (Some w) e =
            let item : ShowsItem rows (suc other) b uuid w = (h.all.each (suc other) b at_other).items uuid w e in
            let numbers : suc other ≡ suc n = sym item.account ∙ ap (λ (r : ItemRow). r.account) (same_row (suc other) b w item) ∙ number in
            let equal : other ≡ n = omega (arith, numbers) in
            absurd (ne equal)

-- the line of a row is that of its version
pub line_of : (accounts : List Account) (labels : Labels) (uuid : Bytes) (row : ItemRow) (body : Body) (line : Bytes) (r : IsRowOf accounts uuid row)
    → body ≡ r.version.body → line ≡ item_text labels uuid row.updated body → line ≡ version_text labels r.version
line_of accounts labels uuid row body line r body_is is =
    let own : r.version.uuid ≡ uuid =
    same_text r.version.uuid uuid (found_passes (is_of uuid) (reverse r.account.versions) r.version r.last).0 in
    is
    ∙ ap (λ (b : Body). item_text labels uuid row.updated b) body_is
    ∙ ap (λ (n : ℕ). item_text labels uuid n r.version.body) r.updated
    ∙ ap (λ (u : Bytes). item_text labels u r.version.stamp r.version.body) (sym own)

-- and stands in the list of its account
pub item_added : (accounts : List Account) (labels : Labels) (front : List Bytes) (uuid : Bytes) (row : ItemRow) (line : Bytes)
    (lists now : List (List Bytes)) (r : IsRowOf accounts uuid row) → lists ≡ map (lines_so_far labels front) accounts
    → line ≡ version_text labels r.version
    → ((index : ℕ) → row.account ≡ index + 1 → index < length lists → now ≡ slice_set lists index (get_or lists index [] ++ line ∷ []))
    → now ≡ map (lines_so_far labels (front ++ uuid ∷ [])) accounts
item_added accounts labels front uuid row line lists now r is line_is set =
    let within : r.place < length accounts = slice_get_within accounts r.place r.account r.at in
    let long : length lists ≡ length accounts = ap length is ∙ length-map accounts (lines_so_far labels front) in
    let lt : r.place < length lists = omega (arith, within, long) in
    set r.place (r.number ∙ sym (add-one r.place)) lt
    ∙ ap (λ (ls : List (List Bytes)). slice_set ls r.place (get_or ls r.place [] ++ line ∷ [])) is
    ∙ map_set (lines_so_far labels front) (lines_so_far labels (front ++ uuid ∷ [])) accounts r.place r.account
    (get_or (map (lines_so_far labels front) accounts) r.place [] ++ line ∷ []) r.at
    (ap (λ (ls : List Bytes). ls ++ line ∷ []) (map_at (lines_so_far labels front) accounts r.place r.account [] r.at)
    ∙ ap (λ (l : Bytes). lines_so_far labels front r.account ++ l ∷ []) line_is
    ∙ lines_some labels front uuid r.account r.version r.last)
    (λ other b ne at. lines_none labels front uuid b (r.alone other b ne at))

pub item_added_on : {T E : Type 0} (result : Result T E) (accounts : List Account) (labels : Labels) (front : List Bytes) (uuid : Bytes) (row : ItemRow)
    (line : Bytes) (lists now : List (List Bytes)) (r : IsRowOf accounts uuid row) → lists ≡ map (lines_so_far labels front) accounts
    → line ≡ version_text labels r.version
    → ((index : ℕ) → row.account ≡ index + 1 → index < length lists
    → OnOk result (now ≡ slice_set lists index (get_or lists index [] ++ line ∷ [])))
    → OnOk result (now ≡ map (lines_so_far labels (front ++ uuid ∷ [])) accounts)
item_added_on (Err e) accounts labels front uuid row line lists now r is line_is set = tt
item_added_on (Ok x) accounts labels front uuid row line lists now r is line_is set =
    item_added accounts labels front uuid row line lists now r is line_is set

-- the lines of all items

pub items_more : (accounts : List Account) (labels : Labels) (items : List Bytes) (index : ℕ) (uuid : Bytes) (lists : List (List Bytes))
    → items ≡ items_of labels → index < length items → uuid ≡ get_or items index uuid
    → lists ≡ map (lines_so_far labels (take index (items_of labels) ++ uuid ∷ [])) accounts
    → lists ≡ map (lines_so_far labels (take (index + 1) (items_of labels))) accounts
items_more accounts labels items index uuid lists same lt at is =
    let within : index < length (items_of labels) = subst (λ (us : List Bytes). index < length us) same lt in
    let there : uuid ≡ get_or (items_of labels) index uuid = subst (λ (us : List Bytes). uuid ≡ get_or us index uuid) same at in
    is ∙ ap (λ (front : List Bytes). map (lines_so_far labels front) accounts) (sym (taken (items_of labels) index uuid within there))

pub items_all : (accounts : List Account) (labels : Labels) (items : List Bytes) (index : ℕ) (lists : List (List Bytes))
    → items ≡ items_of labels → length items ≤ index → lists ≡ map (lines_so_far labels (take index (items_of labels))) accounts
    → flat_map (λ (list : List Bytes). list) lists ≡ flat_map (account_lines labels) accounts
items_all accounts labels items index lists same all is =
    let within : length (items_of labels) ≤ index = subst (λ (us : List Bytes). length us ≤ index) same all in
    ap (λ (ls : List (List Bytes)). flat_map (λ (list : List Bytes). list) ls)
    (is ∙ ap (λ (front : List Bytes). map (lines_so_far labels front) accounts) (take_all index (items_of labels) within))
    ∙ flat_map-map (λ (list : List Bytes). list) (lines_so_far labels (items_of labels)) accounts

pub joined : {T E : Type 0} (result : Result T E) (before after xs ys : List Bytes) → OnOk result (after ≡ before ++ xs) → xs ≡ ys
    → OnOk result (after ≡ before ++ ys)
joined result before after xs ys h e = subst (λ (lines : List Bytes). OnOk result (after ≡ before ++ lines)) e h

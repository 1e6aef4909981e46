-- What the honest server retrieves, and its cursor, pass a device's checks; and no answer has more items and bytes than a page.
use Rattle.std.proofs.Common.{◌≡◌, ◌≤◌, ◌+◌, ℕ, Bool, true, false, List, [], ◌∷◌, ◌++◌, length, take, Option, Some, codes, IsTrue, if◌then◌else◌, refl, sym, ap, ◌∙◌, subst, ⊎_elim, inl, inr, arith}
use Rattle.std.specs.List.{Contains, slice_get, sum_by}
use Rattle.std.specs.Fmt.{decimal}
use Rattle.std.proofs.lemmas.Bool.{cases_Bool}
use Rattle.std.proofs.lemmas.Bool.Decides.{nat_tests}
use Rattle.std.proofs.lemmas.Fmt.{length-decimal-le}
use Rattle.std.proofs.lemmas.List.{append_assoc, length-append, length-take}
use Rattle.std.proofs.lemmas.List.Elements.{Contains-append_left, Contains-append_right}
use Rattle.std.proofs.lemmas.List.Sums.{sum_by-cons}
use Rattle.std.proofs.lemmas.Option.{slice_get_within}
use Rattle.sn_account.specs.Lookups.{HasItem}
use Rattle.sn_account.specs.Pages.{AreGiven, Found, IsPage, weight}
use Rattle.sn_account.specs.Sound.{IsSound as IsSoundServer, NamesItem}
use Rattle.sn_account.specs.Stored.{IsGiven, body_of}
use Rattle.sn_account.specs.Syncs.{AreTokens}
use Rattle.sn_conflict.specs.Checks.{AreStringsOf, HasItsStrings, IsRetrieved, IsStringOf, MayGoOn, most_retrieved}
use Rattle.sn_conflict.specs.Lists.{AllRight}
use Rattle.sn_laws.specs.Lookups.{Bytes}
use Rattle.sn_rows.specs.Bounds.{HasLength, is_text_of}
use Rattle.sn_rows.specs.Table.{Rows}
use Rattle.sn_rows.specs.declared.server_rows.ItemRow.{ItemRow}
use Rattle.sn_string.proofs.Facts.{length-base64_text}
use Rattle.sn_sync.specs.Laws.{AreBytes, HasOneStamp}
use Rattle.sn_sync.specs.Stamps.{IsStampText}
use Rattle.sn_sync.specs.Tokens.{IsToken}
use Rattle.sn_sync.specs.Versions.{NamesStamp}
use Rattle.sn_sync.specs.declared.item.Body.{Body}
use Rattle.sn_sync.specs.declared.item.Body.TheVariants as body
use Rattle.sn_sync.specs.declared.item.Item.{Item}
use Rattle.sn_world.proofs.AnswerLists.{Rises, below_at, at_head, rises_so, zip_at, zip_length, zip_other}

-- a text's length by its test
pub lengths : (least most : ℕ) (text : List ℕ) → IsTrue (is_text_of least most text) → HasLength least most text
lengths least most text is = grind (arith, nat_tests)

abbrev given_body : Bool → ItemRow → Body
given_body b version = if b then body.Deleted else body.Strings version.content version.enc

gone_body : (version : ItemRow) → version.deleted ≡ true → body_of version ≡ body.Deleted
gone_body version gone = ap (λ (b : Bool). given_body b version) gone

live_body : (version : ItemRow) → version.deleted ≡ false → body_of version ≡ body.Strings version.content version.enc
live_body version live = ap (λ (b : Bool). given_body b version) live

-- ---- one item

-- a version's strings are short 003 strings of its item
module _ (server : Rows) (sound : IsSoundServer server) where
  string_of : (u text : Bytes) → AreBytes 16 u → length text ≤ 1048576 → NamesItem text u → IsStringOf u text
  string_of u text fits short named = (
    short,
    (
      named.0,
      record {
        reads = named.1;
        uuid_is = record { count = fits.0; fit = fits.1; spelled = named.2 };
      },
    ),
  )

  strings_of : (u : Bytes) (v : ItemRow) → HasItem server u v → AreStringsOf u (body_of v)
  strings_of u v has = elim (cases_Bool v.deleted) [
    | inl gone ↦ subst (AreStringsOf u) (sym (gone_body v gone)) tt
    | inr live ↦ subst (AreStringsOf u) (sym (live_body v live))
        (let names = (sound.items u v has).sealed live in
        let fits = sound.named u v has in (
          string_of u v.content fits (lengths 0 1048576 v.content v.content_fits).1 names.0,
          string_of u v.enc fits (lengths 0 1048576 v.enc v.enc_fits).1 names.1,
        ))
  ]

  -- of a stored item, as it is given
  pub stored_strings : (u : Bytes) (v : ItemRow) (i : Item) → HasItem server u v → IsGiven u v i → HasItsStrings i
  stored_strings u v i has given =
      subst (λ (b : Body). AreStringsOf i.uuid b) (sym given.body) (subst (λ (w : Bytes). AreStringsOf w (body_of v)) (sym given.uuid_is) (strings_of u v has))

pub names_it : (u : Bytes) (v : ItemRow) (i : Item) → IsGiven u v i → NamesStamp i v.updated
names_it u v i given = (given.stamp, given.spelled, given.updated)

-- an item names no other stamp
names_one : HasOneStamp → (u : Bytes) (v : ItemRow) (i : Item) (stamp : ℕ) → IsGiven u v i → NamesStamp i stamp → stamp ≡ v.updated
names_one stamps u v i stamp given names =
    let both : Some names.0 ≡ Some given.stamp = sym names.2 ∙ given.updated in
    let text : names.0 ≡ given.stamp = cc in
    stamps given.stamp stamp v.updated (subst (λ (x : Bytes). IsStampText x stamp) text names.1) given.spelled

-- ---- a page

module _ (server : Rows) (n : ℕ) (sound : IsSoundServer server) (stamps : HasOneStamp) (above : ℕ) (first : Bool) (page left : List Found)
    (retrieved : List Item) (is : IsPage server n above first most_retrieved page left) (given : AreGiven page retrieved) where
  abbrev up : Found → ℕ
  up f = f.1.updated

  own : (f : Found) → Contains page f → HasItem server f.0 f.1
  own f has = let whole = (is.all.whole f.0 f.1).0 (Contains-append_left page left f has) in whole.0

  pub few_retrieved : length retrieved ≤ most_retrieved
  few_retrieved =
      let same = zip_length (λ (f : Found) (i : Item). IsGiven f.0 f.1 i) page retrieved given in
      ⊎_elim (λ fits. (let less = fits.0 in omega arith)) (λ (one : length page ≡ 1). omega arith) is.fits

  right_place : (k : ℕ) (x : Item) → slice_get retrieved k ≡ Some x → IsRetrieved (take k retrieved) x
  right_place k x at =
      let within = slice_get_within retrieved k x at in
      let p = zip_at (λ (f : Found) (i : Item). IsGiven f.0 f.1 i) page retrieved k x given at in
      let whole : page ++ left ≡ p.before ++ p.at ∷ (p.later ++ left) =
      ap (λ (xs : List Found). xs ++ left) p.split ∙ append_assoc p.before (p.at ∷ p.later) left in
      let rises : Rises up (p.before ++ p.at ∷ (p.later ++ left)) = subst (λ (xs : List Found). Rises up xs) whole (rises_so up (page ++ left) is.all.rising) in
      let among : Contains page p.at =
      subst (λ (xs : List Found). Contains xs p.at) (sym p.split) (Contains-append_right p.before (p.at ∷ p.later) p.at (at_head p.at p.later)) in
      record {
        room = (let short = length-take k retrieved in let all = few_retrieved in omega arith);
        rises = record {
          stamp = p.at.1.updated;
          stamped = names_it p.at.0 p.at.1 x p.is;
          above = λ j other has names. (
              let g = zip_other (λ (f : Found) (i : Item). IsGiven f.0 f.1 i) p.before (take k retrieved) j p.zipped has in
              let same = names_one stamps g.0.0 g.0.1 j other g.2 names in
              let less = below_at up p.before p.at (p.later ++ left) g.0 rises g.1 in
              omega arith
              );
        };
        strings = stored_strings server sound p.at.0 p.at.1 x (own p.at among) p.is;
      }

  pub retrieved_right : AllRight IsRetrieved retrieved
  retrieved_right = λ k x less at. right_place k x at

  pub goes_on : (after : Rows) (cursor : Option Bytes) (token : Bytes) → AreTokens after n page left cursor token → MayGoOn cursor retrieved
  goes_on after cursor token tokens = some_page left refl tokens
    where
      some_page : (rest : List Found) → left ≡ rest → AreTokens after n page rest cursor token → MayGoOn cursor retrieved
      some_page [] e t = inl t.0
      some_page (f ∷ rest) e t = inr (λ (none : retrieved ≡ []).
          (let same = zip_length (λ (g : Found) (i : Item). IsGiven g.0 g.1 i) page retrieved given in
          let empty : length retrieved ≡ 0 = ap length none in
          let last = t.1.1 in
          let split = ap length last.split ∙ length-append last.front (last.last ∷ []) in
          omega arith))

-- ---- bytes of a page

-- the bytes of an item's strings
abbrev pub weigh : Body → ℕ
weigh body.Deleted = 0
weigh (body.Strings content enc) = length content + length enc

abbrev pub weigh_all : List Item → ℕ
weigh_all [] = 0
weigh_all (i ∷ items) = weigh i.body + weigh_all items

given_weight : (v : ItemRow) → weigh (body_of v) ≤ weight v
given_weight v = elim (cases_Bool v.deleted) [
  | inl gone ↦ (let e : weigh (body_of v) ≡ 0 = ap weigh (gone_body v gone) in omega arith)
  | inr live ↦ (let e : weigh (body_of v) ≡ length v.content + length v.enc = ap weigh (live_body v live) in omega arith)
]

given_weights : (page : List Found) (retrieved : List Item) → AreGiven page retrieved → weigh_all retrieved ≤ sum_by (λ f. weight f.1) page
given_weights [] [] given = omega arith
given_weights [] (i ∷ items) given = absurd given
given_weights (f ∷ page) [] given = absurd given
given_weights (f ∷ page) (i ∷ items) given =
    let rest = given_weights page items given.1 in
    let one = given_weight f.1 in
    let same : weigh i.body ≡ weigh (body_of f.1) = ap weigh given.0.body in
    let parts = sum_by-cons (λ (g : Found). weight g.1) f page in
    omega arith

row_weight : (v : ItemRow) → weight v ≤ 2097152
row_weight v =
    let content = (lengths 0 1048576 v.content v.content_fits).1 in
    let enc = (lengths 0 1048576 v.enc v.enc_fits).1 in
    omega arith

one_weight : (page : List Found) → length page ≡ 1 → sum_by (λ f. weight f.1) page ≤ 4194304
one_weight [] one = absurd (omega arith)
one_weight (f ∷ []) one =
    let parts = sum_by-cons (λ (g : Found). weight g.1) f [] in
    let row = row_weight f.1 in
    omega arith
one_weight (f ∷ (g ∷ page)) one = absurd (omega arith)

pub page_weight : (server : Rows) (n above : ℕ) (first : Bool) (page left : List Found) (retrieved : List Item)
    → IsPage server n above first most_retrieved page left → AreGiven page retrieved → weigh_all retrieved ≤ 4194304
page_weight server n above first page left retrieved is given =
    let less = given_weights page retrieved given in
    ⊎_elim (λ fits. (let few = fits.1 in omega arith)) (λ (one : length page ≡ 1). (let few = one_weight page one in omega arith)) is.fits

-- ---- tokens

abbrev token_bytes : ℕ → Bytes
token_bytes stamp = codes "2:" ++ decimal stamp

pub token_length : (text : Bytes) (stamp : ℕ) → IsToken text stamp → length text ≤ 28
token_length text stamp h =
    let digits = length-decimal-le 18 stamp (omega arith) (omega (arith, h.bound)) (omega (arith, h.bound)) in
    omega (arith, ap length h.spelled, length-base64_text (token_bytes stamp))

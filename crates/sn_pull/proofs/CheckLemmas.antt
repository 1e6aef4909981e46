-- A page passes the checks of an answer, and its tokens fit a device's row.
use Rattle.std.proofs.Common.{◌≡◌, ◌⊎◌, ◌≤◌, ℕ, Bool, List, [], ◌∷◌, ◌++◌, length, take, Option, Some, None, codes, refl, sym, ap, ◌∙◌, subst, ⊎_elim, inl, inr, arith}
use Rattle.std.specs.List.{Contains, slice_get}
use Rattle.std.proofs.lemmas.Bool.{cases_Bool}
use Rattle.std.proofs.lemmas.List.{append_assoc, length-append, length-take}
use Rattle.std.proofs.lemmas.List.Elements.{Contains-append_left, Contains-append_right}
use Rattle.std.proofs.lemmas.Option.{slice_get_within}
use Rattle.std.specs.Fmt.{decimal}
use Rattle.std.proofs.lemmas.Fmt.{length-decimal-le}
use Rattle.sn_account.specs.Pages.{AreGiven, Found, IsPage}
use Rattle.sn_account.specs.Sound.{IsSound as IsSoundServer, NamesItem}
use Rattle.sn_account.specs.Stored.{IsGiven, body_of}
use Rattle.sn_account.specs.Syncs.{AreTokens}
use Rattle.sn_device.specs.Runs.{HasLongToken}
use Rattle.sn_device.specs.States.{Bytes, token_of}
use Rattle.sn_conflict.specs.Checks.{AreStringsOf, FailsAt, HasItsStrings, IsConflict, IsRetrieved, IsSaved, IsStringOf, MayGoOn, RetrievedRight, most_retrieved}
use Rattle.sn_conflict.specs.Lists.{AllRight}
use Rattle.sn_conflict.specs.declared.error.CheckError.{CheckError}
use Rattle.sn_conflict.specs.declared.error.CheckError.TheVariants as wrong
use Rattle.sn_pull.specs.Pulls.{Has}
use Rattle.sn_pull.proofs.VersionLemmas.{gone_body, lengths, live_body}
use Rattle.sn_pull.proofs.ListLemmas.{Rises, at_head, below_at, rises_so, zip_at, zip_length, zip_other}
use Rattle.sn_rows.specs.Table.{Rows}
use Rattle.sn_rows.specs.declared.server_rows.ItemRow.{ItemRow}
use Rattle.sn_sync.specs.Laws.{AreBytes, HasOneStamp}
use Rattle.sn_sync.specs.Stamps.{IsStampText}
use Rattle.sn_sync.specs.Tokens.{IsToken}
use Rattle.sn_sync.specs.Versions.{NamesStamp}
use Rattle.sn_sync.specs.declared.item.Body.{Body}
use Rattle.sn_sync.specs.declared.item.Item.{Item}
use Rattle.sn_string.specs.Base64.{base64_text}
use Rattle.sn_string.proofs.Facts.{length-base64_text}

-- ---- one item

-- a version's strings are short 003 strings of its item
module _ (server : Rows) (n : ℕ) (sound : IsSoundServer server) (stamps : HasOneStamp) where
  string_of : (u text : Bytes) → AreBytes 16 u → (length text ≤ 1048576) → NamesItem text u → IsStringOf u text
  string_of u text fits short named = (
    short,
    (
      named.0,
      record {
        reads = named.1;
        uuid_is = record { count = fits.0; fit = fits.1; spelled = named.2 };
      },
    ),
  )

  strings_of : (u : Bytes) (v : ItemRow) → Has server n u v → AreStringsOf u (body_of v)
  strings_of u v has = elim (cases_Bool v.deleted) [
    | inl gone ↦ subst (AreStringsOf u) (sym (gone_body v gone)) tt
    | inr live ↦ subst (AreStringsOf u) (sym (live_body v live))
        (let names = (sound.items u v has.0).sealed live in
        let fits = sound.named u v has.0 in (
          string_of u v.content fits (lengths 0 1048576 v.content v.content_fits).1 names.0,
          string_of u v.enc fits (lengths 0 1048576 v.enc v.enc_fits).1 names.1,
        ))
  ]

  its_strings : (u : Bytes) (v : ItemRow) (i : Item) → Has server n u v → IsGiven u v i → HasItsStrings i
  its_strings u v i has given =
      subst (λ (b : Body). AreStringsOf i.uuid b) (sym given.body) (subst (λ (w : Bytes). AreStringsOf w (body_of v)) (sym given.uuid_is) (strings_of u v has))

  names_it : (u : Bytes) (v : ItemRow) (i : Item) → IsGiven u v i → NamesStamp i v.updated
  names_it u v i given = (given.stamp, given.spelled, given.updated)

  -- an item names no other stamp
  names_one : (u : Bytes) (v : ItemRow) (i : Item) (stamp : ℕ) → IsGiven u v i → NamesStamp i stamp → stamp ≡ v.updated
  names_one u v i stamp given names =
      let both : Some names.0 ≡ Some given.stamp = sym names.2 ∙ given.updated in
      let text : names.0 ≡ given.stamp = cc in
      stamps given.stamp stamp v.updated (subst (λ (x : Bytes). IsStampText x stamp) text names.1) given.spelled

  -- ---- a page

  module _ (above : ℕ) (first : Bool) (page left : List Found) (retrieved : List Item) (is : IsPage server n above first most_retrieved page left)
      (given : AreGiven page retrieved) where
    abbrev up : Found → ℕ
    up f = f.1.updated

    own : (f : Found) → Contains page f → Has server n f.0 f.1
    own f has = let whole = (is.all.whole f.0 f.1).0 (Contains-append_left page left f has) in (whole.0, whole.1.0)

    few : length retrieved ≤ most_retrieved
    few =
        let same = zip_length (λ (f : Found) (i : Item). IsGiven f.0 f.1 i) page retrieved given in
        ⊎_elim (λ fits. (let less = fits.0 in omega arith)) (λ (one : length page ≡ 1). omega arith) is.fits

    right_place : (k : ℕ) (x : Item) → slice_get retrieved k ≡ Some x → IsRetrieved (take k retrieved) x
    right_place k x at =
        let within = slice_get_within retrieved k x at in
        let p = zip_at (λ (f : Found) (i : Item). IsGiven f.0 f.1 i) page retrieved k x given at in
        let whole : page ++ left ≡ p.before ++ p.at ∷ (p.later ++ left) =
        ap (λ (xs : List Found). xs ++ left) p.split ∙ append_assoc p.before (p.at ∷ p.later) left in
        let rises : Rises up (p.before ++ p.at ∷ (p.later ++ left)) = subst (λ (xs : List Found). Rises up xs) whole (rises_so up (page ++ left) is.all.rising) in
        let among : Contains page p.at =
        subst (λ (xs : List Found). Contains xs p.at) (sym p.split) (Contains-append_right p.before (p.at ∷ p.later) p.at (at_head p.at p.later)) in
        record {
          room = (let short = length-take k retrieved in let all = few in omega arith);
          rises = record {
            stamp = p.at.1.updated;
            stamped = names_it p.at.0 p.at.1 x p.is;
            above = λ j other has names. (
                let g = zip_other (λ (f : Found) (i : Item). IsGiven f.0 f.1 i) p.before (take k retrieved) j p.zipped has in
                let same = names_one g.0.0 g.0.1 j other g.2 names in
                let less = below_at up p.before p.at (p.later ++ left) g.0 rises g.1 in
                omega arith
                );
          };
          strings = its_strings p.at.0 p.at.1 x (own p.at among) p.is;
        }

    nothing_right : {X : Type 0} (Right : List X → X → Type 0) → AllRight Right []
    nothing_right Right = λ k x less at. absurd (omega arith)

    pub lists_right : RetrievedRight [] [] [] retrieved
    lists_right = record {
      named = record { saved_are = nothing_right (IsSaved []); conflicts_are = nothing_right (IsConflict [] []) };
      retrieved_are = λ k x less at. right_place k x at;
    }

    pub goes_on : (cursor : Option Bytes) (token : Bytes) → AreTokens server n page left cursor token → MayGoOn cursor retrieved
    goes_on cursor token tokens = some_page left refl tokens
      where
        some_page : (rest : List Found) → left ≡ rest → AreTokens server n page rest cursor token → MayGoOn cursor retrieved
        some_page [] e t = inl t.0
        some_page (f ∷ rest) e t = inr (λ (none : retrieved ≡ []).
            (let same = zip_length (λ (g : Found) (i : Item). IsGiven g.0 g.1 i) page retrieved given in
            let empty : length retrieved ≡ 0 = ap length none in
            let last = t.1.1 in
            let split = ap length last.split ∙ length-append last.front (last.last ∷ []) in
            omega arith))

    pub never_fails : (cursor : Option Bytes) (token : Bytes) (e : CheckError) → AreTokens server n page left cursor token
        → FailsAt [] [] [] retrieved cursor e → e ≡ wrong.Memory
    never_fails cursor token (wrong.Saved k) tokens f = absurd (let at = f.1 in cc)
    never_fails cursor token (wrong.Conflict k) tokens f = absurd (let at = f.1.1 in cc)
    never_fails cursor token (wrong.Retrieved k) tokens f = absurd (f.1.3 (right_place k f.1.0 f.1.1))
    never_fails cursor token wrong.Cursor tokens f = absurd (f.1 (goes_on cursor token tokens))
    never_fails cursor token wrong.Memory tokens f = refl

-- ---- tokens

-- the bytes of a stamp's token
abbrev token_bytes : ℕ → Bytes
token_bytes stamp = codes "2:" ++ decimal stamp

token_length : (text : Bytes) (stamp : ℕ) → IsToken text stamp → length text ≤ 28
token_length text stamp h =
    let digits = length-decimal-le 18 stamp (omega arith) (omega (arith, h.bound)) (omega (arith, h.bound)) in
    omega (arith, ap length h.spelled, length-base64_text (token_bytes stamp))

pub no_token : (stamp : ℕ) → IsToken [] stamp → ⊥
no_token stamp token =
    let none : 0 ≡ length (base64_text (token_bytes stamp)) = ap length token.spelled in
    let long = length-base64_text (token_bytes stamp) in
    omega arith

pub token_some : (text : Bytes) (stamp : ℕ) → IsToken text stamp → token_of text ≡ Some text
token_some [] stamp token = absurd (no_token stamp token)
token_some (b ∷ bytes) stamp token = refl

pub never_long : (cursor : Option Bytes) (token name : Bytes) (stamp : ℕ) → IsToken token stamp → (cursor ≡ None) ⊎ (cursor ≡ Some token)
    → HasLongToken cursor token name → ⊥
never_long None token name stamp is which long = let short = token_length token stamp is in let past = long.0 in omega arith
never_long (Some text) token name stamp is (inl none) long = cc
never_long (Some text) token name stamp is (inr same) (inl long) =
    let it : text ≡ token = cc in
    let e = ap length it in
    let short = token_length token stamp is in
    let past = long.0 in
    omega arith
never_long (Some text) token name stamp is (inr same) (inr long) = let short = token_length token stamp is in let past = long.1 in omega arith

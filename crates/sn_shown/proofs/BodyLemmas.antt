-- What the strings of an item's row hold.
use Rattle.std.proofs.Common.{◌≡◌, ℕ, List, Option, Some, Err, true, false, refl, sym, ap, ◌∙◌}
use Rattle.sn_items.specs.Items.{CarriesParams, OpensItem}
use Rattle.sn_laws.specs.Lookups.{Bytes, last_of}
use Rattle.sn_laws.specs.declared.ideal.Account.{Account}
use Rattle.sn_laws.specs.declared.ideal.Body.{Body}
use Rattle.sn_laws.specs.declared.ideal.Body.TheVariants.{Under, Gone}
use Rattle.sn_laws.specs.declared.ideal.Version.{Version}
use Rattle.sn_rows.specs.declared.key.Key.{Key}
use Rattle.sn_rows.specs.declared.key.Key.TheVariants as key
use Rattle.sn_rows.specs.declared.server_rows.ItemRow.{ItemRow}
use Rattle.sn_shows.specs.Servers.{ShowsStrings, account_at}
use Rattle.sn_shows.specs.Sets.{set_at}
use Rattle.sn_string.specs.Grammar.{Is003, Reading}
use Rattle.sn_string.specs.Parts.{reading_of}
use Rattle.sn_string.specs.Refusals.{IsRefusal}
use Rattle.sn_string.specs.declared.params.KeySet.{KeySet}
use Rattle.sn_string.specs.declared.params.Params.{Params}
use Rattle.sn_string.specs.declared.reader.Parts.{Parts}
use Rattle.sn_string.specs.declared.reader.StringError.{StringError}
use Rattle.sn_string.specs.declared.reader.StringError.TheVariants as error
use Rattle.sn_string.proofs.Facts.{one_reading, read_back}
use Rattle.sn_shown.specs.Held.{AreSets, HasSet}
use Rattle.sn_shown.specs.Rows.{sealed_in}
use Rattle.sn_shown.proofs.Finds.{one_found}

-- ---- the nonce that a string carries

pub carried : (text : Bytes) (parts : Parts) (params : Params) → Is003 text (reading_of parts) → CarriesParams text params
    → parts.params.pw_nonce ≡ params.pw_nonce
carried text parts params reads carries =
    let same : reading_of parts ≡ carries.reading = one_reading text (reading_of parts) carries.reading reads carries.reads in
    ap (λ (r : Reading). r.params.pw_nonce) same ∙ ap (λ (p : Params). p.pw_nonce) carries.params_are

pub only_memory : (text : Bytes) (refusal : StringError) (params : Params) → IsRefusal text refusal → CarriesParams text params → refusal ≡ error.Memory
only_memory text refusal params refused carries = read_back text carries.reading carries.reads (Err refusal) refused

-- ---- the body of a version

pub gone : (sets : List KeySet) (uuid : Bytes) (row : ItemRow) (body : Body) → row.deleted ≡ true → ShowsStrings sets uuid row body
    → Some Gone ≡ Some body
gone sets uuid row Gone deleted shows = refl
gone sets uuid row (Under text number) deleted shows = let no : true ≡ false = sym deleted ∙ shows.0 in absurd (cc)

-- a live one: its text and the number of its set, and the set by the key of its row
pub record IsLive (found : Key → Option KeySet) (account : ℕ) (a : Account) (uuid : Bytes) (row : ItemRow) (body : Body) : Type 0 where
  pub text : Bytes
  pub number : ℕ
  pub body_is : body ≡ Under text number
  pub set : KeySet
  pub at : set_at number a.sets ≡ Some set
  pub there : found (key.Generation account number) ≡ Some set
  pub opens : OpensItem (sealed_in row) uuid set text

live_as : (found : Key → Option KeySet) (accounts : List Account) (account : ℕ) (a : Account) (uuid : Bytes) (row : ItemRow) (v : Version) (body : Body)
    → AreSets found accounts → account_at account accounts ≡ Some a → last_of uuid a.versions ≡ Some v → v.body ≡ body → row.deleted ≡ false
    → ShowsStrings a.sets uuid row body → IsLive found account a uuid row body
live_as found accounts account a uuid row v Gone sets at last is live shows = let no : false ≡ true = sym live ∙ shows.0 in absurd (cc)
live_as found accounts account a uuid row v (Under text number) sets at last is live shows =
    let under = shows.1 in
    let has : HasSet found account a number = sets account a uuid v text number at last is in
    let same : has.set ≡ under.set = one_found (set_at number a.sets) has.set under.set has.at under.at in
    record {
      text = text;
      number = number;
      body_is = refl;
      set = under.set;
      at = under.at;
      there = has.there ∙ ap (λ (k : KeySet). Some k) same;
      opens = under.opens;
    }

pub live_of : (found : Key → Option KeySet) (accounts : List Account) (account : ℕ) (a : Account) (uuid : Bytes) (row : ItemRow) (v : Version)
    → AreSets found accounts → account_at account accounts ≡ Some a → last_of uuid a.versions ≡ Some v → row.deleted ≡ false
    → ShowsStrings a.sets uuid row v.body → IsLive found account a uuid row v.body
live_of found accounts account a uuid row v sets at last live shows = live_as found accounts account a uuid row v v.body sets at last refl live shows

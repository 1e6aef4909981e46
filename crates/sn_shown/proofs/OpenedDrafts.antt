-- What the strings of a draft's row open to.
use Rattle.std.proofs.Common.{◌≡◌, ℕ, List, Some, refl, sym, ◌∙◌, subst}
use Rattle.sn_items.specs.Items.{OpensItem}
use Rattle.sn_laws.specs.Lookups.{Bytes}
use Rattle.sn_laws.specs.declared.ideal.Content.{Content}
use Rattle.sn_laws.specs.declared.ideal.Content.TheVariants as content
use Rattle.sn_rows.specs.declared.body.RowBody.{RowBody}
use Rattle.sn_rows.specs.declared.body.RowBody.TheVariants as body
use Rattle.sn_rows.specs.declared.body.RowStrings.{RowStrings}
use Rattle.sn_sets.specs.Sets.{sealed_of}
use Rattle.sn_shows.specs.Devices.{ShowsContent}
use Rattle.sn_shows.specs.Sets.{OpensUnder, set_at}
use Rattle.sn_string.specs.declared.params.KeySet.{KeySet}

-- a content that sealed strings show
pub record IsOpened (strings : RowStrings) (uuid : Bytes) (set : KeySet) (shown : Content) : Type 0 where
  pub text : Bytes
  pub shown_is : shown ≡ content.Plain text
  pub opens : OpensItem (sealed_of strings) uuid set text

module _ (sets : List KeySet) (number : ℕ) (set : KeySet) (strings : RowStrings) (uuid : Bytes) (at : set_at number sets ≡ Some set) where
  opened_under : (text : Bytes) → OpensUnder sets number uuid (sealed_of strings) text → OpensItem (sealed_of strings) uuid set text
  opened_under text under =
      let found : Some under.set ≡ Some set = sym under.at ∙ at in
      let same : under.set ≡ set = cc in
      subst (λ (x : KeySet). OpensItem (sealed_of strings) uuid x text) same under.opens

  sealed_shows : (shown : Content) → ShowsContent sets number uuid (body.Sealed strings) shown → IsOpened strings uuid set shown
  sealed_shows (content.Plain text) shows = record { text = text; shown_is = refl; opens = opened_under text shows }
  sealed_shows content.Deleted shows = absurd shows

  pub opened_content : (latest : RowBody) (shown : Content) → latest ≡ body.Sealed strings → ShowsContent sets number uuid latest shown
      → IsOpened strings uuid set shown
  opened_content latest shown is shows = sealed_shows shown (subst (λ (b : RowBody). ShowsContent sets number uuid b shown) is shows)

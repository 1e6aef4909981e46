-- A stored version as an answer gives it, and the lengths of its texts.
use Rattle.std.proofs.Common.{◌≡◌, ℕ, Bool, true, false, List, IsTrue, ap, inl, inr, arith}
use Rattle.std.specs.Prelude.{if◌then◌else◌}
use Rattle.std.proofs.lemmas.Bool.{cases_Bool}
use Rattle.std.proofs.lemmas.Bool.Decides.{nat_tests}
use Rattle.sn_account.specs.Stored.{body_of}
use Rattle.sn_device.specs.States.{Bytes}
use Rattle.sn_rows.specs.Bounds.{HasLength, is_text_of}
use Rattle.sn_rows.specs.declared.server_rows.ItemRow.{ItemRow}
use Rattle.sn_sync.specs.declared.item.Body.{Body}
use Rattle.sn_sync.specs.declared.item.Body.TheVariants as body

-- a text's length by its test
pub lengths : (least most : ℕ) (text : List ℕ) → IsTrue (is_text_of least most text) → HasLength least most text
lengths least most text is = grind (arith, nat_tests)

-- an item as it is given is deleted where the version is
abbrev given_body : Bool → ItemRow → Body
given_body b version = if b then body.Deleted else body.Strings version.content version.enc

pub gone_body : (version : ItemRow) → version.deleted ≡ true → body_of version ≡ body.Deleted
gone_body version gone = ap (λ (b : Bool). given_body b version) gone

pub live_body : (version : ItemRow) → version.deleted ≡ false → body_of version ≡ body.Strings version.content version.enc
live_body version live = ap (λ (b : Bool). given_body b version) live

pub gone_where : (version : ItemRow) → body_of version ≡ body.Deleted → version.deleted ≡ true
gone_where version is = elim (cases_Bool version.deleted) [
  | inl gone ↦ gone
  | inr live ↦ (let other = live_body version live in absurd cc)
]

pub live_where : (version : ItemRow) (content enc : Bytes) → body_of version ≡ body.Strings content enc
    → (version.deleted ≡ false) × (content ≡ version.content) × (enc ≡ version.enc)
live_where version content enc is = elim (cases_Bool version.deleted) [
  | inl gone ↦ (let other = gone_body version gone in absurd cc)
  | inr live ↦ (let other = live_body version live in (live, cc, cc))
]

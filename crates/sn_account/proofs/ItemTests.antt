-- What is asked of an item.
use Rattle.std.proofs.Common.{◌≡◌, ◌∙◌, ℕ, ◌↔◌, Bool, true, false, IsTrue, Option, Some, None, Result, IfOk, IfNone, IfSome, sym, subst}
use Rattle.std.proofs.lemmas.Result.{IfOk-weaker}
use Rattle.std.specs.Prelude.{is_some}
use denote.Ref.{Bor}
use Rattle.sn_rows.specs.Table.{Rows}
use Rattle.sn_rows.specs.declared.key.Key.{Key}
use Rattle.sn_rows.specs.declared.key.Key.TheVariants as key
use Rattle.sn_rows.specs.declared.server_rows.AccountRow.{AccountRow}
use Rattle.sn_rows.specs.declared.server_rows.ItemRow.{ItemRow}
use Rattle.sn_rows.specs.declared.value.Value.{Value}
use Rattle.sn_rows.specs.declared.value.Value.TheVariants as value
use Rattle.sn_sync.specs.Laws.{AreBytes}
use Rattle.sn_account.specs.Lookups.{Bytes, HasAccount}
use Rattle.sn_account.specs.Sound.{NamesItem}
use Rattle.sn_account.specs.Unsound.{HasSoundItem}
use Rattle.sn_account.specs.Walks.{HasSoundStamps, HasSoundStrings, IsOwned, IsSoundRow}
use Rattle.sn_account.proofs.SoundKinds.{never, not_true}

-- the first string isn't of its uuid
pub not_first : (u : Bytes) (i : ItemRow) (first : Bool) → i.deleted ≡ false → IsTrue first ↔ NamesItem i.content u → first ≡ false
    → IsTrue false ↔ HasSoundStrings u i
not_first u i first live test missed = never (λ strings. (let both = strings.1 live in not_true first test missed both.0))

-- the first is
pub then_second : {E : Type 0} (u : Bytes) (i : ItemRow) (first : Bool) (second : Result Bool E) → i.deleted ≡ false → IsTrue first ↔ NamesItem i.content u
    → first ≡ true → IfOk second (λ b. IsTrue b ↔ NamesItem i.enc u) → IfOk second (λ b. IsTrue b ↔ HasSoundStrings u i)
then_second u i first second live test is told =
    IfOk-weaker second (λ (b : Bool). IsTrue b ↔ NamesItem i.enc u) (λ (b : Bool). IsTrue b ↔ HasSoundStrings u i)
    (λ b when. (
      λ hit. ((λ gone. absurd (let wrong : true ≡ false = sym gone ∙ live in cc)), λ _. (test.0 is, when.0 hit)),
      λ strings. (let both = strings.1 live in when.1 both.1),
    )) told

-- account and stamps are sound
pub then_strings : {E : Type 0} (rows : Rows) (last : ℕ) (u : Bytes) (i : ItemRow) (result : Result Bool E) → AreBytes 16 u
    → IsOwned rows i → HasSoundStamps last i → IfOk result (λ b. IsTrue b ↔ HasSoundStrings u i)
    → IfOk result (λ b. IsTrue b ↔ HasSoundItem rows last u i)
then_strings rows last u i result named owned stamps told =
    IfOk-weaker result (λ (b : Bool). IsTrue b ↔ HasSoundStrings u i) (λ (b : Bool). IsTrue b ↔ HasSoundItem rows last u i)
    (λ b when. (
      λ hit. (let strings = when.0 hit in record {
        named = named;
        owned = owned;
        item = record { first = stamps.0; later = stamps.1; given = stamps.2; gone = strings.0; sealed = strings.1 };
      }),
      λ sound. when.1 (sound.item.gone, sound.item.sealed),
    )) told

-- the row is this item's
pub of_row : {E : Type 0} (rows : Rows) (last : ℕ) (k : Key) (v : Value) (u : Bytes) (i : ItemRow) (result : Result Bool E) → k ≡ key.Item u → v ≡ value.Item i
    → IfOk result (λ b. IsTrue b ↔ HasSoundItem rows last u i) → IfOk result (λ b. IsTrue b ↔ IsSoundRow rows last k v)
of_row rows last k v u i result named held told =
    IfOk-weaker result (λ (b : Bool). IsTrue b ↔ HasSoundItem rows last u i) (λ (b : Bool). IsTrue b ↔ IsSoundRow rows last k v)
    (λ b when. (
      λ hit w j other_named other_held. (
          let keys : key.Item u ≡ key.Item w = sym named ∙ other_named in
          let values : value.Item i ≡ value.Item j = sym held ∙ other_held in
          let one : u ≡ w = cc in
          let same : i ≡ j = cc in
          subst (λ (x : Bytes). HasSoundItem rows last x j) one (subst (λ (y : ItemRow). HasSoundItem rows last u y) same (when.0 hit))
          ),
      λ all. when.1 (all u i named held),
    )) told

-- whether the account that is looked for is found
pub owned_or_not : (rows : Rows) (i : ItemRow) (number : ℕ) (found : Option (Bor AccountRow)) (b : Bool) → number ≡ i.account
    → IfSome found (λ row. HasAccount rows number row.now) → IfNone found ((row : AccountRow) → ¬ (HasAccount rows number row))
    → b ≡ is_some found → IsTrue b ↔ IsOwned rows i
owned_or_not rows i number (Some a) b of has none is = (λ _. (a.now, subst (λ (n : ℕ). HasAccount rows n a.now) of has), λ _. is)
owned_or_not rows i number None b of has none is = (
  λ holds. absurd (let wrong : true ≡ false = sym holds ∙ is in cc),
  λ there. absurd (none there.0 (subst (λ (n : ℕ). HasAccount rows n there.0) (sym of) there.1)),
)

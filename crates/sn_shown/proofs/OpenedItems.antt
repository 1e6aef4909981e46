-- What an item's strings open to: one content, and no refusal but for want of memory.
use Rattle.std.proofs.Common.{◌≡◌, sym, subst}
use Rattle.std.specs.Prelude.{IfOk, IsErr, Result, Ok, Err}
use Rattle.sn_items.specs.ItemRefusals.{ItemHasCause}
use Rattle.sn_items.specs.Items.{OpensItem}
use Rattle.sn_items.specs.declared.error.ItemError.{ItemError}
use Rattle.sn_items.specs.declared.error.ItemError.TheVariants.{Memory}
use Rattle.sn_items.specs.declared.sealed.Sealed.{Sealed}
use Rattle.sn_items.specs.declared.sealed.Which.{Which}
use Rattle.sn_items.proofs.Facts.{no_item_refusal, one_content}
use Rattle.sn_laws.specs.Lookups.{Bytes}
use Rattle.sn_string.specs.declared.params.KeySet.{KeySet}

module _ (kept_content kept_enc content enc uuid text : Bytes) (set : KeySet) (content_is : content ≡ kept_content) (enc_is : enc ≡ kept_enc)
    (opens : OpensItem (record { content = kept_content; enc = kept_enc }) uuid set text) where
  abbrev sealed : Sealed
  sealed = record { content = content; enc = enc }

  opens_so : OpensItem sealed uuid set text
  opens_so =
      let same : ◌≡◌ {A = Sealed} (record { content = kept_content; enc = kept_enc }) sealed = λ i. record { content = sym content_is i; enc = sym enc_is i } in
      subst (λ (s : Sealed). OpensItem s uuid set text) same opens

  pub one_text : (other : Bytes) → OpensItem sealed uuid set other → other ≡ text
  one_text other opened = one_content sealed uuid set other text opened opens_so

  pub only_memory : (which : Which) (error : ItemError) → ItemHasCause sealed uuid set which error → error ≡ Memory
  only_memory which error cause = no_item_refusal sealed uuid set text which error opens_so cause

pub none_given : {A E : Type 0} (result : Result A E) (P : A → Type 0) → IsErr result → IfOk result P
none_given (Ok x) P h = absurd (cc)
none_given (Err e) P h = tt

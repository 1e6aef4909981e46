-- A journal that was opened is at rest.
use Rattle.std.proofs.Common.{◌≡◌, ◌⊎◌, inl, inr, ℕ, List, [], ◌∷◌, ◌++◌, length, sym, ◌∙◌, ap, subst}
use Rattle.sn_disk.specs.Disk.{Only}
use Rattle.sn_disk.specs.declared.disk.Disk.{Ghosts}
use Rattle.sn_journal.specs.Image.{front, IsChain, IsImage, IsBeforeOrAfter}
use Rattle.sn_journal.specs.Opening.{IsOpened}
use Rattle.sn_journal.specs.AtRest.{HasDurably, IsRead, IsLoaded}
use Rattle.sn_journal.specs.Findings.{one_image, either_list}
use Rattle.sn_journal.specs.declared.owner.Owner.{Owner}
use Rattle.sn_journal.specs.declared.journal.Journal.{Journal}
use Rattle.sn_journal.specs.declared.loading.Opened.{Opened}

module _ {D : Type 0} {g : Ghosts D} (owner : Owner) (journal : Journal D g) (old new : D) (opened : Opened) where
  read_of : (o : IsOpened g.seen g.may_leave owner old new opened) → journal.disk ≡ new → journal.owner ≡ owner → journal.gate ≡ opened.gate → journal.count ≡ opened.count → IsRead journal opened.batches o.payloads
  read_of o disk owned gate count = record {
    durably = record {
      chain = subst (λ (d : D). IsChain journal.owner (g.seen d) o.payloads) (sym disk) (subst (λ (w : Owner). IsChain w (g.seen new) o.payloads) (sym owned) o.chain);
      place = gate ∙ o.gate_is ∙ ap (λ (w : Owner). length (front w o.payloads)) (sym owned);
      count = count ∙ o.count_is;
      durable = subst (λ (d : D). Only (g.seen d) (g.may_leave d)) (sym disk) o.durable;
    };
    read = o.read;
  }

  pub loaded_of : IsOpened g.seen g.may_leave owner old new opened → journal.disk ≡ new → journal.owner ≡ owner → journal.gate ≡ opened.gate → journal.count ≡ opened.count → IsLoaded owner (g.seen old) journal opened.batches
  loaded_of o disk owned gate count = record { payloads = o.payloads; read = read_of o disk owned gate count; image = o.image }

-- the batches of a file are those that were loaded
pub same_read : {D : Type 0} {g : Ghosts D} (owner : Owner) (file : List ℕ) (journal : Journal D g) (bytes : List ℕ) (payloads : List (List ℕ)) → IsLoaded owner file journal bytes → IsImage owner file payloads → IsRead journal bytes payloads
same_read owner file journal bytes payloads loaded image = subst (IsRead journal bytes) (one_image owner file loaded.payloads payloads loaded.image image) loaded.read

pub either_read : {D : Type 0} {g : Ghosts D} (owner : Owner) (file : List ℕ) (journal : Journal D g) (bytes : List ℕ) (payloads : List (List ℕ)) (payload : List ℕ) → IsLoaded owner file journal bytes → IsBeforeOrAfter owner payloads payload file
    → IsRead journal bytes payloads ⊎ IsRead journal bytes (payloads ++ payload ∷ [])
either_read owner file journal bytes payloads payload loaded (inl before) = inl (same_read owner file journal bytes payloads loaded before)
either_read owner file journal bytes payloads payload loaded (inr after) = inr (same_read owner file journal bytes (payloads ++ payload ∷ []) loaded after)

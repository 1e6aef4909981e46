-- A registration: its new set, and the call's run.
use Rattle.std.specs.Prelude.{◌≡◌, ◌⊎◌, ℕ, List, [], ◌∷◌}
use Rattle.std.proofs.Common.{inl, inr, refl, ap, subst}
use Rattle.rand_chacha.specs.ChaCha.{ChaCha}
use Rattle.sn_items.specs.Draws.{drawn}
use Rattle.sn_net.specs.Exchanges.{Exchange}
use Rattle.sn_rows.specs.Table.{Rows}
use Rattle.sn_rows.specs.declared.change.Change.{Change}
use Rattle.sn_rows.specs.declared.device_rows.OwnerRow.{OwnerRow}
use Rattle.sn_sets.specs.Seals.{IsLater}
use Rattle.sn_string.specs.declared.params.KeySet.{KeySet}
use Rattle.sn_sync.specs.declared.request.Request.{Request}
use Rattle.sn_sync.specs.declared.request.Request.TheVariants as request
use Rattle.sn_table.specs.Kept.{Kept}
use Rattle.sn_client.specs.Calls.{CallsOver}
use Rattle.sn_client.specs.Going.{GoesOver, MayWant}
use Rattle.sn_joining.specs.Accounts.{IsSetWith}
use Rattle.sn_device.specs.Runs.{AsksAccount, Call, Given, IsBadCost, IsNewSet, Run, refused, register}
use Rattle.sn_device.specs.States.{Bytes, HasNoAccount, HasOwner}
use Rattle.sn_device.specs.Steps.{begins}
use Rattle.sn_client.specs.declared.called.Called.{Called}
use Rattle.sn_client.specs.declared.called.Called.TheVariants as called
use Rattle.sn_device.specs.declared.error.ClientError.{ClientError}
use Rattle.sn_device.specs.declared.error.ClientError.TheVariants as refusal

-- ---- the set

-- with a drawn nonce it is a new set
pub is_new : (words left : ChaCha) (nonce identifier password : Bytes) (cost : ℕ) (set : KeySet) → (nonce, left) ≡ drawn 32 words
    → IsSetWith nonce identifier password cost set → IsNewSet words identifier password cost set left
is_new words left nonce identifier password cost set draws is = record {
  identifier_is = is.identifier_is;
  cost_is = is.cost_is;
  nonce_is = record { bytes = nonce; is_drawn = draws; spelled = is.nonce_is };
  keys = is.keys;
}

pub later_nonce : (words left : ChaCha) (nonce : Bytes) → (nonce, left) ≡ drawn 32 words → IsLater words left
later_nonce words left nonce draws = (32 ∷ [], ap (λ (p : Bytes × ChaCha). p.1) draws)

-- ---- the call

-- why it is refused before anything is drawn
abbrev pub RefusesBefore : Rows → ℕ → ℕ → ClientError → Type 0
RefusesBefore rows least cost why = (why ≡ refusal.Memory)
    ⊎ (((owner : OwnerRow) × HasOwner rows owner × (why ≡ refusal.HasAccount owner.identifier))
    ⊎ (HasNoAccount rows × IsBadCost least cost × (why ≡ refusal.Cost cost)))

pub refuses : (a b : ClientError) → a ≡ b → refused a ≡ refused b
refuses a b is = ap (λ (e : ClientError). refused e) is

refused_before : (least cost : ℕ) (identifier password : Bytes) (rows : Rows) (words : ChaCha) (why : ClientError) → RefusesBefore rows least cost why
    → Run least (register identifier password cost) rows words [] (refused why)
refused_before least cost identifier password rows words why (inl memory) = inl (refl, refuses why refusal.Memory memory)
refused_before least cost identifier password rows words why (inr (inl (owner, has, is))) =
    inr (inl (owner, has, (refl, refuses why (refusal.HasAccount owner.identifier) is)))
refused_before least cost identifier password rows words why (inr (inr (none, bad, is))) =
    inr (inr (none, inl (bad, (refl, refuses why (refusal.Cost cost) is))))

module _ {S D T : Type 0} (is_open : S → Kept → Type 0) (may_have : D → Kept → List Change → Type 0) (gives : T → Given) (kept : Kept) where
  -- a call that is refused before its first act
  pub refused_call : (least : ℕ) (call : Call) (asks : List Exchange → Type 0) (host : Bytes) (words left : ChaCha) (device : S) (why : ClientError)
      → is_open device kept → asks [] → Run least call kept.rows words [] (refused why)
      → CallsOver is_open may_have gives least call asks host kept words left (called.Refused device why)
  refused_call least call asks host words left device why opens none runs =
      record { acts = []; halt = refused why; runs = runs; exchanges = []; are = refl; asked_so = none; ends = (refl, opens) }

  pub refused_register : (least cost : ℕ) (identifier password : Bytes) (rows : Rows) (asks : List Exchange → Type 0) (host : Bytes) (words left : ChaCha) (device : S)
      (why : ClientError) → is_open device kept → asks [] → rows ≡ kept.rows → RefusesBefore rows least cost why
      → CallsOver is_open may_have gives least (register identifier password cost) asks host kept words left (called.Refused device why)
  refused_register least cost identifier password rows asks host words left device why opens none same before =
      refused_call least (register identifier password cost) asks host words left device why opens none
      (subst (λ (r : Rows). Run least (register identifier password cost) r words [] (refused why)) same
      (refused_before least cost identifier password rows words why before))

  -- one that goes on
  pub goes_register : (least cost : ℕ) (identifier password : Bytes) (rows : Rows) (asks : List Exchange → Type 0) (host : Bytes) (words left : ChaCha) (set : KeySet)
      (r : Request) (result : Called S D T) → rows ≡ kept.rows → HasNoAccount rows × ¬ (IsBadCost least cost) → IsNewSet words identifier password cost set left
      → r ≡ request.Register set.params set.pw → GoesOver is_open may_have gives (MayWant (AsksAccount kept.rows left r (begins set))) asks host kept left result
      → CallsOver is_open may_have gives least (register identifier password cost) asks host kept words left result
  goes_register least cost identifier password rows asks host words left set r result same free new is goes = record {
    acts = goes.acts;
    halt = goes.halt;
    runs = elim goes.runs [
      | inl wants ↦ inl wants
      | inr asks ↦ inr (inr (
        subst HasNoAccount same free.0,
        inr (
          free.1,
          (
            set,
            left,
            new,
            subst (λ (q : Request). AsksAccount kept.rows left q (begins set) goes.acts goes.halt) is asks,
          ),
        ),
      ))
    ];
    exchanges = goes.exchanges;
    are = goes.are;
    asked_so = goes.asked_so;
    ends = goes.ends;
  }

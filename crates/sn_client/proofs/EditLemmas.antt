-- How the user's changes end.
use Rattle.std.specs.Prelude.{◌≡◌, ◌⊎◌, ℕ, List, [], ◌∷◌, All}
use Rattle.std.proofs.Common.{inr, refl, sym, ap, subst, ◌∙◌, ⊎_elim}
use Rattle.std.proofs.lemmas.List.Elements.{All-nil, All-cons}
use Rattle.rand_chacha.specs.ChaCha.{ChaCha}
use Rattle.sn_journal.specs.declared.owner.Owner.TheVariants.{Device as DeviceOwner}
use Rattle.sn_rows.specs.Kinds.{key_kind}
use Rattle.sn_rows.specs.Table.{Rows, key_of}
use Rattle.sn_rows.specs.declared.change.Change.{Change}
use Rattle.sn_rows.specs.declared.key.Key.{Key}
use Rattle.sn_rows.specs.declared.key.Key.TheVariants as key
use Rattle.sn_table.specs.Batches.{IsOf, owner_of_kind}
use Rattle.sn_table.specs.Kept.{Kept}
use Rattle.sn_client.specs.Calls.{Calls}
use Rattle.sn_drafts.specs.Refusing.{MayRefuse, Prepares}
use Rattle.sn_device.specs.Runs.{Call, Given, Run, RunsCall, refused}
use Rattle.sn_device.specs.States.{Bytes}
use Rattle.sn_device.specs.Steps.{Deletes, Edits, PutsNew, What, puts}
use Rattle.sn_client.specs.declared.called.Called.{Called}
use Rattle.sn_client.specs.declared.called.Called.TheVariants as called
use Rattle.sn_device.specs.declared.error.ClientError.{ClientError}
use Rattle.sn_client.proofs.CallLemmas.{Answers}

-- ---- the end of a call

module _ {S D T : Type 0} (is_open : S → Kept → Type 0) (may_have : D → Kept → List Change → Type 0) (gives : T → Given) (least : ℕ) (call : Call) (kept : Kept)
    (rows : Rows) (words : ChaCha) where
  -- a call that is refused before its first act
  pub refused_call : (left : ChaCha) (device : S) (why : ClientError) → rows ≡ kept.rows → is_open device kept → MayRefuse (RunsCall least call rows words) why
      → Calls is_open may_have gives least call kept words left (called.Refused device why)
  refused_call left device why are opens may = record {
    acts = [];
    halt = refused why;
    runs = subst (λ (r : Rows). Run least call r words [] (refused why)) are may;
    ends = (refl, opens);
  }

  -- a call that makes its last commit
  pub answered_call : (left : ChaCha) (what : What) (changes : List Change) (given : T) (result : Called S D T) → rows ≡ kept.rows
      → Prepares (RunsCall least call rows words) what changes (gives given) left → Answers is_open may_have gives kept what left changes given result
      → Calls is_open may_have gives least call kept words left result
  answered_call left what changes given result are prepared (acts, halt, commits, ends) = record {
    acts = acts;
    halt = halt;
    runs = subst (λ (r : Rows). Run least call r words acts halt) are (inr (prepared acts halt commits));
    ends = ends;
  }

-- ---- whose rows are changed

own_at : (change : Change) (at : Key) → owner_of_kind (key_kind at) ≡ DeviceOwner → key_of change ≡ at → IsOf DeviceOwner change
own_at change at own is = ap (λ (k : Key). owner_of_kind (key_kind k)) is ∙ own

own_one : (change : Change) (changes : List Change) → IsOf DeviceOwner change → changes ≡ change ∷ [] → All (IsOf DeviceOwner) changes
own_one change changes own are = subst (All (IsOf DeviceOwner)) (sym are) (All-cons (IsOf DeviceOwner) change [] own (All-nil (IsOf DeviceOwner)))

pub puts_owned : (rows : Rows) (words left : ChaCha) (uuid kind text : Bytes) (changes : List Change) → PutsNew rows words uuid kind text changes left
    → All (IsOf DeviceOwner) changes
puts_owned rows words left uuid kind text changes p =
    subst (All (IsOf DeviceOwner)) (sym p.changes_are)
    (All-cons (IsOf DeviceOwner) p.item (p.counted ∷ []) (own_at p.item (key.Local p.owner.next) refl p.item_is.puts.key_is)
    (own_one p.counted (p.counted ∷ []) (own_at p.counted key.Owner refl p.counted_is.puts_it.key_is) refl))

pub edits_owned : (rows : Rows) (words left : ChaCha) (uuid text : Bytes) (changes : List Change) → Edits rows words uuid text changes left → All (IsOf DeviceOwner) changes
edits_owned rows words left uuid text changes e = own_one e.change changes (own_at e.change (key.Local e.number) refl e.change_is.puts.key_is) e.changes_are

pub deletes_owned : (rows : Rows) (uuid : Bytes) (changes : List Change) → Deletes rows uuid changes → All (IsOf DeviceOwner) changes
deletes_owned rows uuid changes d =
    own_one d.change changes (⊎_elim (λ u. own_at d.change (key.Local d.number) refl u.1.key_is) (λ k. own_at d.change (key.Local d.number) refl k.1.puts.key_is) d.change_is) d.changes_are

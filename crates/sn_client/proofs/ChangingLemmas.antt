-- Asking for a new set: when that ends before anything is asked, and of what it is made.
use Rattle.std.proofs.Common.{◌≡◌, ◌≢◌, ◌<◌, ◌⊎◌, ℕ, List, [], None, ap, refl, inl, inr}
use Rattle.rand_chacha.specs.ChaCha.{ChaCha}
use Rattle.sn_rows.specs.Table.{Rows}
use Rattle.sn_rows.specs.declared.device_rows.LocalItem.{LocalItem}
use Rattle.sn_rows.specs.declared.device_rows.OwnerRow.{OwnerRow}
use Rattle.sn_sets.specs.declared.sets.Sets.{Sets}
use Rattle.sn_string.specs.declared.params.KeySet.{KeySet}
use Rattle.sn_drafts.specs.Refusing.{MayRefuse, none_more}
use Rattle.sn_device.specs.Changing.{MayAsk, NoneRuns}
use Rattle.sn_device.specs.Runs.{Act, AnswersChange, AsksFor, AsksHost, CommitsStep, IsNewSet, Point, RefusesChange, Then, Turn, WithAccount, change_to, is_over, most_exchanges, refused}
use Rattle.sn_device.specs.States.{Bytes, HasLocal, HasOwner, HasSets, HasNoneAsked}
use Rattle.sn_device.specs.Steps.{asks}
use Rattle.sn_device.specs.declared.error.ClientError.{ClientError}
use Rattle.sn_device.specs.declared.error.ClientError.TheVariants as refusal
use Rattle.sn_client.proofs.SettledLemmas.{none_asked}

-- on a device with an account only memory may be wanting
pub only_memory : (rows : Rows) (owner : OwnerRow) (why : ClientError) → HasOwner rows owner → MayRefuse (WithAccount rows (λ owner sets. none_more)) why
    → why ≡ refusal.Memory
only_memory rows owner why has (inl (none, is)) = cc
only_memory rows owner why has (inr (inl (fresh, (none, is)))) = absurd cc
only_memory rows owner why has (inr (inr (held, sets, holds, never))) = absurd never

pub no_link_change : (rows : Rows) (sets : Sets) (why : ClientError) → (why ≡ refusal.Memory) ⊎ RefusesChange rows sets why → why ≢ refusal.LinkFault
no_link_change rows sets why (inl is) e = cc
no_link_change rows sets why (inr (inl (by, runs, is))) e = cc
no_link_change rows sets why (inr (inr (uuid, none, first, is))) e = cc

pub may_ask : (rows : Rows) (owner : OwnerRow) (sets : Sets) → HasSets rows owner sets → HasNoneAsked rows → NoneRuns rows sets
    → ((number : ℕ) (local : LocalItem) → HasLocal rows number local → local.posted ≡ None) → MayAsk rows sets
may_ask rows owner sets has none runs sent = record { none_runs = runs; none_asked = none_asked rows owner sets has none; none_sent = sent }

module _ (password : Bytes) (cost : ℕ) (p : Point) where
  pub asks_wanting : (why : ClientError) → why ≡ refusal.Memory → AsksFor password cost p [] (is_over (refused why))
  asks_wanting why is = inl (refl, ap (λ (w : ClientError). is_over (refused w)) is)

  module _ (owner : OwnerRow) (sets : Sets) (has : HasSets p.rows owner sets) where
    pub asks_refused : (why : ClientError) → (why ≡ refusal.Memory) ⊎ RefusesChange p.rows sets why → AsksFor password cost p [] (is_over (refused why))
    asks_refused why (inl is) = asks_wanting why is
    asks_refused why (inr so) = inr (owner, sets, has, inl (why, so, (refl, refl)))

    pub asks_used : MayAsk p.rows sets → p.made ≡ most_exchanges → AsksFor password cost p [] (is_over (refused refusal.RoundsUsed))
    asks_used may is = inr (owner, sets, has, inr (may, inl (is, (refl, refl))))

    pub asks_new : MayAsk p.rows sets → p.made < most_exchanges → (set : KeySet) (left : ChaCha)
        → IsNewSet p.words owner.identifier password cost set left → (acts : List Act) (turn : Turn)
        → Then (CommitsStep (asks set)) (AsksHost (change_to owner sets.present set) (AnswersChange owner sets.present set))
        (record { made = p.made; rows = p.rows; words = left }) acts turn
        → AsksFor password cost p acts turn
    asks_new may few set left new acts turn so = inr (owner, sets, has, inr (may, inr (few, (set, left, new, so))))

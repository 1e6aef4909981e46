-- A sync and a change of password as calls: of which pieces they are made, and when they end before their first act.
use Rattle.std.proofs.Common.{arith, ◌≤◌, ◌≢◌, ℕ, List, [], refl, inl, inr}
use Rattle.rand_chacha.specs.ChaCha.{ChaCha}
use Rattle.sn_net.specs.Exchanges.{Exchange}
use Rattle.sn_rows.specs.Table.{Rows}
use Rattle.sn_rows.specs.declared.change.Change.{Change}
use Rattle.sn_rows.specs.declared.device_rows.OwnerRow.{OwnerRow}
use Rattle.sn_sets.specs.declared.sets.Sets.{Sets}
use Rattle.sn_table.specs.Kept.{Kept}
use Rattle.sn_client.specs.Calls.{CallsOver}
use Rattle.sn_drafts.specs.Refusing.{MayRefuse, none_more}
use Rattle.sn_client.specs.Going.{GoesOver}
use Rattle.sn_device.specs.Runs.{AnswersNothing, ChangesPassword, ChangesTo, IsBadCost, Run, SyncsUnder, WithAccount, begun, passwd, refused, sync}
use Rattle.sn_device.specs.States.{Bytes, HasNoAccount, HasSets}
use Rattle.sn_client.specs.Syncing.{IsAnsweredPast, WentBy, gives_nothing}
use Rattle.sn_client.specs.declared.called.Called.{Called}
use Rattle.sn_device.specs.declared.error.ClientError.{ClientError}
use Rattle.sn_device.specs.declared.error.ClientError.TheVariants as refusal
use Rattle.sn_client.specs.declared.piece_end.PieceEnd.{PieceEnd}
use Rattle.sn_drafts.proofs.Facts.{without_account}
use Rattle.sn_client.proofs.PieceLemmas.{answers_over}

-- ---- before the first act

pub sync_wanting : (least : ℕ) (rows : Rows) (words : ChaCha) → Run least sync rows words [] (refused refusal.Memory)
sync_wanting least rows words = inl (refl, refl)

pub sync_unowned : (least : ℕ) (rows : Rows) (words : ChaCha) → HasNoAccount rows → Run least sync rows words [] (refused refusal.NoAccount)
sync_unowned least rows words fresh = inr (inl (fresh, (refl, refl)))

-- no account is there, or memory is wanting
pub passwd_unowned : (least : ℕ) (password : Bytes) (cost : ℕ) (rows : Rows) (words : ChaCha) (why : ClientError)
    → MayRefuse (WithAccount rows (λ owner sets. none_more)) why → Run least (passwd password cost) rows words [] (refused why)
passwd_unowned least password cost rows words why may = without_account rows (ChangesPassword least password cost rows words) why may

-- the cost isn't taken
pub passwd_cost : (least : ℕ) (password : Bytes) (cost : ℕ) (rows : Rows) (words : ChaCha) (owner : OwnerRow) (sets : Sets) → HasSets rows owner sets
    → IsBadCost least cost → Run least (passwd password cost) rows words [] (refused (refusal.Cost cost))
passwd_cost least password cost rows words owner sets has bad = inr (inr (owner, sets, has, inl (bad, (refl, refl))))

pub taken_cost : (least cost : ℕ) → ¬ (IsBadCost least cost) → 1 ≤ cost
taken_cost least cost taken = let some : cost ≢ 0 = λ is. taken (inl is) in omega (arith, some)

-- ---- with an account's sets

module _ {S D T : Type 0} (is_open : S → Kept → Type 0) (may_have : D → Kept → List Change → Type 0) (least : ℕ) (kept : Kept) (words : ChaCha) (host : Bytes)
    (asks : List Exchange → Type 0) (left : ChaCha) (owner : OwnerRow) (sets : Sets) (has : HasSets kept.rows owner sets) (went : PieceEnd S D T)
    (result : Called S D T) (is : IsAnsweredPast went result) where
  pub syncs_goes : WentBy is_open may_have (SyncsUnder owner sets) (begun kept.rows words) kept host asks left went
      → CallsOver is_open may_have gives_nothing least sync asks host kept words left result
  syncs_goes w =
      let over : GoesOver is_open may_have gives_nothing (AnswersNothing (SyncsUnder owner sets) (begun kept.rows words)) asks host kept left result =
      answers_over is_open may_have (SyncsUnder owner sets) (begun kept.rows words) kept host asks left went result is w
      in
      record {
        acts = over.acts;
        halt = over.halt;
        runs = inr (inr (owner, sets, has, over.runs));
        exchanges = over.exchanges;
        are = over.are;
        asked_so = over.asked_so;
        ends = over.ends;
      }

  pub passwd_goes : (password : Bytes) (cost : ℕ) → ¬ (IsBadCost least cost)
      → WentBy is_open may_have (ChangesTo password cost owner sets) (begun kept.rows words) kept host asks left went
      → CallsOver is_open may_have gives_nothing least (passwd password cost) asks host kept words left result
  passwd_goes password cost taken w =
      let over : GoesOver is_open may_have gives_nothing (AnswersNothing (ChangesTo password cost owner sets) (begun kept.rows words)) asks host kept left result =
      answers_over is_open may_have (ChangesTo password cost owner sets) (begun kept.rows words) kept host asks left went result is w
      in
      record {
        acts = over.acts;
        halt = over.halt;
        runs = inr (inr (owner, sets, has, inr (taken, over.runs)));
        exchanges = over.exchanges;
        are = over.are;
        asked_so = over.asked_so;
        ends = over.ends;
      }

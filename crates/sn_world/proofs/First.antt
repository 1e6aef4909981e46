-- The invariant holds before anything happened.
use Rattle.std.proofs.Common.{◌≡◌, ℕ, zero, suc, [], Some, None, refl, arith}
use Rattle.sn_laws.specs.declared.ideal.Account.{Account}
use Rattle.sn_shows.specs.Servers.{account_at}
use Rattle.sn_world.specs.Laws.{HoldsFirst}
use Rattle.sn_device.specs.Laws.{FreshIsSound}

no_account : (number : ℕ) (a : Account) → account_at number [] ≡ Some a → ⊥
no_account zero a e = absurd (cc)
no_account (suc n) a e = absurd (cc)

pub holds_first : FreshIsSound → HoldsFirst
holds_first fresh secret = record {
  reached = record { moves = []; legal = tt; is = refl };
  few = record { accounts_few = omega arith; sets_few = λ n a e. absurd (no_account n a e) };
  keeps_secret = λ store e. absurd (cc);
  server = record { store = refl; all = record { each = λ n a e. absurd (no_account n a e); no_other = λ k some. absurd (cc) } };
  server_sound = λ store e. absurd (cc);
  devices = λ name. record { none = λ k. refl; no_draft = λ uuid. refl };
  sound = λ name. fresh.sound;
  older_stale = λ name d a has. let none : None ≡ Some d = has.device in absurd (cc);
  numbers = λ name d a has. let none : None ≡ Some d = has.device in absurd (cc);
  own_tokens = λ name d named. absurd (cc);
  sync_tokens = λ name owner has. absurd (cc);
  bases_pulled = λ name owner has. absurd (cc);
  pulled = λ name d number a owner text stamp named at. absurd (no_account number a at);
  syncs = λ m token items one is. absurd one;
  changes = λ m token current pw cost nonce one is. absurd one;
  registers = λ m params pw one is. absurd one;
}

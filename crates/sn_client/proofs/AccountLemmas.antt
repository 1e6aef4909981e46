-- How a call over a link goes on behind an account, and the first rows that keep it.
use Rattle.std.specs.Prelude.{◌≡◌, ℕ, List, [], ◌∷◌, Option, Some, None, Err}
use Rattle.std.proofs.Common.{inl, inr, refl, sym, ap, subst}
use Rattle.rand_chacha.specs.ChaCha.{ChaCha}
use Rattle.sn_disk.specs.Disk.{LeavesOnly}
use Rattle.sn_disk.specs.Moments.{started}
use Rattle.sn_disk.specs.declared.disk.Disk.{Ghosts}
use Rattle.sn_journal.specs.declared.owner.Owner.{Owner}
use Rattle.sn_journal.specs.declared.owner.Owner.TheVariants.{Device as DeviceOwner}
use Rattle.sn_net.specs.Exchanges.{Exchange}
use Rattle.sn_rows.specs.Table.{Rows}
use Rattle.sn_rows.specs.declared.change.Change.{Change}
use Rattle.sn_rows.specs.declared.value.Value.{Value}
use Rattle.sn_sync.specs.declared.answer.Answer.TheVariants as answer
use Rattle.sn_sync.specs.declared.request.Request.{Request}
use Rattle.sn_table.specs.Batches.{IsAllOrNothing, IsStore}
use Rattle.sn_table.specs.Committing.{IsCause}
use Rattle.sn_table.specs.Facts.{open_each}
use Rattle.sn_table.specs.Kept.{Kept}
use Rattle.sn_table.specs.Tables.{IsOpen as IsOpenTable, table_disk, table_owner}
use Rattle.sn_table.specs.declared.committed.CommitError.{CommitError}
use Rattle.sn_table.specs.declared.committed.CommitError.TheVariants as commit
use Rattle.sn_table.specs.declared.table.Table.{Table}
use Rattle.sn_exchange.specs.Asked.{IsAsked}
use Rattle.sn_device.specs.Asking.{Reply, said}
use Rattle.sn_client.specs.Calls.{Ends, IfRefused, StandsOrHas, of_commit}
use Rattle.sn_joining.specs.Accounts.{GivesAccount}
use Rattle.sn_client.specs.Going.{GoesOver, MayWant}
use Rattle.sn_device.specs.Runs.{Act, AreExchanges, AsksAccount, EndsCommit, Given, Halt, asked, nothing, refused}
use Rattle.sn_device.specs.States.{Bytes, HasNoAccount, HasOwner, IsFresh, IsSound}
use Rattle.sn_device.specs.Steps.{Step, What}
use Rattle.sn_client.specs.declared.called.Called.{Called}
use Rattle.sn_client.specs.declared.called.Called.TheVariants as called
use Rattle.sn_device.specs.declared.error.ClientError.{ClientError}
use Rattle.sn_device.specs.declared.error.ClientError.TheVariants as refusal

-- ---- a device without an account

no_value : (found : Option Value) → ((v : Value) → found ≡ Some v → ⊥) → found ≡ None
no_value None none = refl
no_value (Some v) none = absurd (none v refl)

-- sound rows without an account are none
pub is_fresh : (rows : Rows) → IsSound rows → HasNoAccount rows → IsFresh rows
is_fresh rows sound none at = no_value (rows at) (λ v is. let has = sound.owner at v is in let owned : HasOwner rows has.0 = has.1 in absurd cc)

-- ---- the end of a call, behind a request

no_exchanges : (host : Bytes) (what : What) (changes : List Change) (given : Given) (left : ChaCha) (acts : List Act) (halt : Halt)
    → EndsCommit what changes given left acts halt → AreExchanges host acts []
no_exchanges host what changes given left acts halt (inl (batch, are, is)) = subst (λ (a : List Act). AreExchanges host a []) (sym are) refl
no_exchanges host what changes given left acts halt (inr (are, stops)) = subst (λ (a : List Act). AreExchanges host a []) (sym are) refl

module _ {S D T : Type 0} (is_open : S → Kept → Type 0) (may_have : D → Kept → List Change → Type 0) (gives : T → Given) (kept : Kept) where
  pub ends_behind : (r : Request) (reply : Reply) (acts : List Act) (halt : Halt) (left : ChaCha) (result : Called S D T)
      → Ends is_open may_have gives kept acts halt left result → Ends is_open may_have gives kept (asked r reply ∷ acts) halt left result
  ends_behind r reply acts halt left (called.Done device given) ends = ends
  ends_behind r reply acts halt left (called.Refused device why) ends = ends
  ends_behind r reply acts halt left (called.Broken disk) ends = ends

  -- a call that is refused before its first act
  pub refuses_first : (run : List Act → Halt → Type 0) (asks : List Exchange → Type 0) (host : Bytes) (left : ChaCha) (device : S) (why : ClientError)
      → is_open device kept → asks [] → run [] (refused why) → GoesOver is_open may_have gives run asks host kept left (called.Refused device why)
  refuses_first run asks host left device why opens none runs =
      record { acts = []; halt = refused why; runs = runs; exchanges = []; are = refl; asked_so = none; ends = (refl, opens) }

  -- a call that doesn't get an account
  pub gets_none : (words left : ChaCha) (asks : List Exchange → Type 0) (host : Bytes) (r : Request) (what : Bytes → Bytes → What) (device : S) (why : ClientError)
      → is_open device kept → IsAsked asks host r (Err why)
      → GoesOver is_open may_have gives (MayWant (AsksAccount kept.rows words r what)) asks host kept left (called.Refused device why)
  gets_none words left asks host r what device why opens (inl (none, is)) =
      let memory : why ≡ refusal.Memory = cc in
      refuses_first (MayWant (AsksAccount kept.rows words r what)) asks host left device why opens none (inl (refl, ap (λ (e : ClientError). refused e) memory))
  gets_none words left asks host r what device why opens (inr (reply, once, comes)) = record {
    acts = asked r reply ∷ [];
    halt = refused why;
    runs = inr (
      reply,
      [],
      refl,
      elim comes [
        | inl fails ↦ inl (why, fails, (refl, refl))
        | inr memory ↦ inr (inl (refl, ap (λ (e : ClientError). refused e) memory))
      ],
    );
    exchanges = once.exchange ∷ [];
    are = (once.exchange, [], refl, once.is, refl);
    asked_so = once.asked;
    ends = (refl, opens);
  }

  -- one that gets an account, and makes its last commit with it
  pub keeps_with : (words left : ChaCha) (asks : List Exchange → Type 0) (host : Bytes) (r : Request) (what : Bytes → Bytes → What) (uuid token : Bytes)
      (changes : List Change) (result : Called S D T) → GivesAccount asks host r uuid token → Step kept.rows words (what uuid token) changes left
      → ((acts : List Act) × (halt : Halt) × EndsCommit (what uuid token) changes nothing left acts halt × Ends is_open may_have gives kept acts halt left result)
      → GoesOver is_open may_have gives (MayWant (AsksAccount kept.rows words r what)) asks host kept left result
  keeps_with words left asks host r what uuid token changes result (identifier, once) step (acts, halt, commit, ends) = record {
    acts = asked r (said (answer.Account token identifier uuid)) ∷ acts;
    halt = halt;
    runs = inr (
      said (answer.Account token identifier uuid),
      acts,
      refl,
      inr (inr (
        answer.Account token identifier uuid,
        refl,
        (token, identifier, uuid, refl, (changes, left, step, commit)),
      )),
    );
    exchanges = once.exchange ∷ [];
    are = (once.exchange, [], refl, once.is, no_exchanges host (what uuid token) changes nothing left acts halt commit);
    asked_so = once.asked;
    ends = ends_behind r (said (answer.Account token identifier uuid)) acts halt left result ends;
  }

  -- one that draws nothing for it
  pub keeps_it : (words : ChaCha) (asks : List Exchange → Type 0) (host : Bytes) (r : Request) (what : Bytes → Bytes → What) (uuid token : Bytes)
      (changes : List Change) (result : Called S D T) → GivesAccount asks host r uuid token → Step kept.rows words (what uuid token) changes words
      → ((acts : List Act) × (halt : Halt) × EndsCommit (what uuid token) changes nothing words acts halt × Ends is_open may_have gives kept acts halt words result)
      → GoesOver is_open may_have gives (MayWant (AsksAccount kept.rows words r what)) asks host kept words result
  keeps_it words asks host r what uuid token changes result given step ends = keeps_with words words asks host r what uuid token changes result given step ends

-- an account came back, and memory is wanting behind it
pub wants_behind : (asks : List Exchange → Type 0) (host : Bytes) (r : Request) (uuid token : Bytes) → GivesAccount asks host r uuid token
    → IsAsked asks host r (Err refusal.Memory)
wants_behind asks host r uuid token (identifier, once) = inr (said (answer.Account token identifier uuid), once, inr refl)

-- ---- what a crash leaves

-- all or nothing of changes of which this holds
pub stands_or_has : (batches : List (List Change)) (changes : List Change) (P : List Change → Type 0) (c : List ℕ) → P changes
    → IsAllOrNothing DeviceOwner batches changes c → StandsOrHas batches P c
stands_or_has batches changes P c is (inl stands) = inl stands
stands_or_has batches changes P c is (inr has) = inr (changes, is, has)

-- the same of what says less
pub stands_weaker : (batches : List (List Change)) (P Q : List Change → Type 0) (c : List ℕ) → ((changes : List Change) → P changes → Q changes)
    → StandsOrHas batches P c → StandsOrHas batches Q c
stands_weaker batches P Q c says (inl stands) = inl stands
stands_weaker batches P Q c says (inr (changes, is, has)) = inr (changes, says changes is, has)

module _ {D : Type 0} {g : Ghosts D} where
  -- a table whose disk isn't called
  pub still_stands : (table : Table D g) (batches : List (List Change)) (P : List Change → Type 0)
      → ((disk : D) (c : List ℕ) → g.left_since disk (g.moment disk) c → g.may_leave disk c) → table_owner table ≡ DeviceOwner → IsOpenTable table batches
      → LeavesOnly g.moment g.left_since (table_disk table) (table_disk table) (StandsOrHas batches P)
  still_stands table batches P only owner opens =
      started g.moment g.left_since (table_disk table) (StandsOrHas batches P)
      (λ c left. inl (subst (λ (o : Owner). IsStore o c batches) owner (open_each table batches opens c (only (table_disk table) c left))))

-- ---- a link fails only in its own call

-- a call that is refused for its commit isn't refused for its link
pub no_link_fault : {S D T : Type 0} (result : Called S D T) (changes : List Change) (P : Type 0)
    → IfRefused result (λ why. (e : CommitError) × IsCause changes e × (why ≡ of_commit e)) → IfRefused result (λ why. why ≡ refusal.LinkFault → P)
no_link_fault (called.Done device given) changes P cause = tt
no_link_fault (called.Refused device why) changes P (commit.TooLarge size, is, so) = λ fault. absurd cc
no_link_fault (called.Refused device why) changes P (commit.Memory, is, so) = λ fault. absurd cc
no_link_fault (called.Broken disk) changes P cause = tt

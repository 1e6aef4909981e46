-- A batch that a server's log takes is one of a server's rows.
use Rattle.std.specs.Prelude.{◌≡◌, List, All}
use Rattle.std.proofs.Common.{refl}
use Rattle.std.proofs.lemmas.List.Elements.{All-weaker}
use Rattle.sn_journal.specs.declared.owner.Owner.TheVariants.{Server}
use Rattle.sn_rows.specs.Kinds.{key_kind}
use Rattle.sn_rows.specs.Table.{key_of}
use Rattle.sn_rows.specs.declared.change.Change.{Change}
use Rattle.sn_rows.specs.declared.kind.RowKind.{RowKind}
use Rattle.sn_rows.specs.declared.kind.RowKind.TheVariants as kind
use Rattle.sn_account.specs.RuleBatch.{IsServerBatch, IsServerKind}
use Rattle.sn_table.specs.Batches.{IsOf, owner_of_kind}

kind_own : (k : RowKind) → IsServerKind k → owner_of_kind k ≡ Server
kind_own kind.Store is = refl
kind_own kind.Account is = refl
kind_own kind.Generation is = refl
kind_own kind.Item is = refl
kind_own kind.Owner is = absurd is
kind_own kind.Set is = absurd is
kind_own kind.Local is = absurd is

pub batch_owns : (changes : List Change) → IsServerBatch changes → All (IsOf Server) changes
batch_owns changes batch = All-weaker (λ c. IsServerKind (key_kind (key_of c))) (IsOf Server) (λ c is. kind_own (key_kind (key_of c)) is) changes batch.0

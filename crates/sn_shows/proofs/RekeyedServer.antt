-- A change of password leaves the store's row, which is right behind it too: a server's rows stay whole.
use Rattle.std.proofs.Common.{◌≡◌, ℕ, ◌+◌, List, [], ◌∷◌, length, Option, Some, None, sym, ap, ◌∙◌, subst}
use Rattle.std.specs.Prelude.{if◌then◌else◌}
use Rattle.std.proofs.lemmas.List.{length-map}
use Rattle.sn_laws.specs.declared.ideal.Account.{Account}
use Rattle.sn_laws.specs.declared.ideal.Ideal.{Ideal}
use Rattle.sn_laws.specs.declared.moves.Move.TheVariants as move
use Rattle.sn_laws.specs.Lookups.{Bytes, is_account}
use Rattle.sn_laws.specs.Moves.{after, changed_where}
use Rattle.sn_rows.specs.Table.{Rows, rows_after}
use Rattle.sn_rows.specs.declared.change.Change.{Change}
use Rattle.sn_rows.specs.declared.key.Key.TheVariants as key
use Rattle.sn_rows.specs.declared.value.Value.{Value}
use Rattle.sn_rows.specs.declared.value.Value.TheVariants as value
use Rattle.sn_rows.specs.Facts.{neither_put}
use Rattle.sn_string.specs.declared.params.KeySet.{KeySet}
use Rattle.sn_shows.specs.Servers.{ShowsServer, ShowsStore, account_at}
use Rattle.sn_shows.specs.Laws.{AreApart}
use Rattle.sn_shows.specs.Rekeying.{PutsGeneration}
use Rattle.sn_shows.proofs.RekeyedLast.{changed_last}
use Rattle.sn_shows.proofs.RekeyedSets.{changed_shows}
use Rattle.sn_shows.proofs.ServersLists.{more_sets}

-- the store's row has the greatest stamp and the number of the accounts, which both stay
store_stays : (found : Option Value) (s : Ideal) (identifier : Bytes) (number : ℕ) (set : KeySet) → ShowsStore found s.accounts
    → ShowsStore found (after s (move.Change identifier number set)).accounts
store_stays None s identifier number set h = ap (λ (xs : List Account). changed_where (is_account identifier) (more_sets set) xs) h
store_stays (Some v) s identifier number set h = (
  h.0,
  h.1,
  h.2 ∙ sym (changed_last s identifier number set),
  h.3 ∙ sym (length-map s.accounts (λ (x : Account). if is_account identifier x then more_sets set x else x)),
)

pub changed_server : (rows : Rows) (s : Ideal) (number : ℕ) (a : Account) (set : KeySet) (account generation : Change)
    → ShowsServer rows s.accounts → AreApart s.accounts → account_at number s.accounts ≡ Some a
    → PutsGeneration account generation number a set
    → ShowsServer (rows_after rows (account ∷ generation ∷ [])) (after s (move.Change a.identifier (length a.sets + 1) set)).accounts
changed_server rows s number a set account generation h apart at p =
    let same : rows_after rows (account ∷ generation ∷ []) key.Store ≡ rows key.Store =
    neither_put rows account generation (key.Account number) (key.Generation number (length a.sets + 1)) key.Store (value.Account p.row) (value.Generation p.params)
    p.account_puts p.generation_puts (λ e. cc) (λ e. cc) in
    record {
      store = subst (λ (o : Option Value). ShowsStore o (after s (move.Change a.identifier (length a.sets + 1) set)).accounts) (sym same)
          (store_stays (rows key.Store) s a.identifier (length a.sets + 1) set h.store);
      all = changed_shows rows s number a set account generation h.all apart at p;
    }

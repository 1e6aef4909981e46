-- The store's row, put last, makes a server's rows whole.
use Rattle.std.proofs.Common.{List, [], ◌∷◌, Option, refl, sym, subst}
use Rattle.sn_laws.specs.declared.ideal.Account.{Account}
use Rattle.sn_rows.specs.Table.{Rows, rows_after}
use Rattle.sn_rows.specs.declared.change.Change.{Change}
use Rattle.sn_rows.specs.declared.key.Key.TheVariants as key
use Rattle.sn_rows.specs.declared.value.Value.{Value}
use Rattle.sn_rows.specs.declared.value.Value.TheVariants as value
use Rattle.sn_rows.specs.Facts.{put_apart, put_here}
use Rattle.sn_shows.specs.Servers.{ShowsAccounts, ShowsServer, ShowsStore}
use Rattle.sn_shows.specs.Laws.{PutsStore}
use Rattle.sn_shows.proofs.ServersRows.{cause_after, keep_account}

pub store_shows : (rows : Rows) (accounts : List Account) (change : Change) → ShowsAccounts rows accounts → PutsStore change accounts
    → ShowsServer (rows_after rows (change ∷ [])) accounts
store_shows rows accounts change h p =
    let now : Rows = rows_after rows (change ∷ []) in
    record {
      store = subst (λ (o : Option Value). ShowsStore o accounts) (sym (put_here rows change key.Store (value.Store p.row) p.puts)) (p.row, refl, p.last, p.count);
      all = record {
        each = λ number a at.
            keep_account rows now number a (put_apart rows change key.Store (key.Account number) (value.Store p.row) p.puts refl)
            (λ generation. put_apart rows change key.Store (key.Generation number generation) (value.Store p.row) p.puts refl)
            (λ uuid v last. put_apart rows change key.Store (key.Item uuid) (value.Store p.row) p.puts refl) (h.each number a at);
        no_other = cause_after rows accounts change key.Store (value.Store p.row) p.puts tt h.no_other;
      };
    }

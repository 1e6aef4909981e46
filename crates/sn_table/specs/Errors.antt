-- The journal's refusals, as the table's.
use Rattle.sn_journal.specs.declared.error.JournalError.{JournalError}
use Rattle.sn_journal.specs.declared.error.JournalError.TheVariants as journal
use Rattle.sn_table.specs.declared.error.TableError.{TableError}
use Rattle.sn_table.specs.declared.error.TableError.TheVariants.{Foreign, Damaged, DiskFault, Memory}

abbrev pub of_journal : JournalError → TableError
of_journal (journal.Foreign place) = Foreign place
of_journal (journal.Damaged place) = Damaged place
of_journal journal.DiskFault = DiskFault
of_journal journal.Memory = Memory

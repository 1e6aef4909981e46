use Rattle.std.proofs.Common.{◌≡◌, ◌++◌, [], rules, arith}
use Rattle.std.specs.Int.{w64, to_be_bytes}
use Rattle.sn_rows.proofs.FormLemmas.{store_form}
use Rattle.sn_rows.proofs.Appending.{onto, last}
use Rattle.sn_rows.proofs.writing.put_store.Goals as goal

pub returns-clause-ok : goal.returns-clause-ok
returns-clause-ok c =
    let row = c.args.row.now in
    let one : c.extend_from_slice.new.self.items ≡ c.args.out.now.items ++ row.secret = search rules in
    let two : c.put_u64.new.out.items ≡ c.extend_from_slice.new.self.items ++ to_be_bytes w64 row.last = search rules in
    let three : c.put_u64-2.new.out.items ≡ c.put_u64.new.out.items ++ to_be_bytes w64 row.accounts = search rules in
    onto c.args.out.now.items row.secret (to_be_bytes w64 row.last ++ (to_be_bytes w64 row.accounts ++ [])) c.extend_from_slice.new.self.items c.put_u64-2.new.out.items one
    (onto c.extend_from_slice.new.self.items (to_be_bytes w64 row.last) (to_be_bytes w64 row.accounts ++ []) c.put_u64.new.out.items c.put_u64-2.new.out.items two
    (last c.put_u64.new.out.items (to_be_bytes w64 row.accounts) c.put_u64-2.new.out.items three))

pub returns-clause-form : goal.returns-clause-form
returns-clause-form c = store_form c.args.row.now (search rules) (omega arith)

use Rattle.std.proofs.Common.{◌≡◌, ◌++◌, ◌∷◌, [], List, ℕ, ap, ◌∙◌, rules, arith}
use Rattle.std.specs.Int.{w64, to_be_bytes}
use Rattle.sn_rows.specs.Cells.{counted, flag_byte}
use Rattle.sn_rows.proofs.FormLemmas.{item_form}
use Rattle.sn_rows.proofs.Appending.{onto, last}
use Rattle.sn_rows.proofs.writing.put_item.Goals as goal

pub returns-clause-ok : goal.returns-clause-ok
returns-clause-ok c =
    let row = c.args.row.now in
    let x1 = c.put_u64.new.out.items in
    let x2 = c.put_counted.new.out.items in
    let x3 = c.put_u64-2.new.out.items in
    let x4 = c.put_u64-3.new.out.items in
    let x5 = c.put_byte.new.out.items in
    let x6 = c.put_counted-2.new.out.items in
    let z = c.put_counted-3.new.out.items in
    let e1 : x1 ≡ c.args.out.now.items ++ to_be_bytes w64 row.account = search rules in
    let e2 : x2 ≡ x1 ++ counted row.kind = c.in_ok-put_counted.ensures ∙ ap (λ (t : List ℕ). x1 ++ counted t) (c.as_bytes.ensures.value ∙ c.kind.ensures) in
    let e3 : x3 ≡ x2 ++ to_be_bytes w64 row.created = search rules in
    let e4 : x4 ≡ x3 ++ to_be_bytes w64 row.updated = search rules in
    let e5 : x5 ≡ x4 ++ flag_byte row.deleted ∷ [] = search rules in
    let e6 : x6 ≡ x5 ++ counted row.content = c.in_ok-put_counted-2.ensures ∙ ap (λ (t : List ℕ). x5 ++ counted t) (c.as_bytes-2.ensures.value ∙ c.content.ensures) in
    let e7 : z ≡ x6 ++ counted row.enc = c.in_ok-put_counted-3.ensures ∙ ap (λ (t : List ℕ). x6 ++ counted t) (c.as_bytes-3.ensures.value ∙ c.enc.ensures) in
    let r6 = counted row.enc ++ [] in
    let r5 = counted row.content ++ r6 in
    let r4 = (flag_byte row.deleted ∷ []) ++ r5 in
    let r3 = to_be_bytes w64 row.updated ++ r4 in
    let r2 = to_be_bytes w64 row.created ++ r3 in
    let r1 = counted row.kind ++ r2 in
    onto c.args.out.now.items (to_be_bytes w64 row.account) r1 x1 z e1
    (onto x1 (counted row.kind) r2 x2 z e2
    (onto x2 (to_be_bytes w64 row.created) r3 x3 z e3
    (onto x3 (to_be_bytes w64 row.updated) r4 x4 z e4
    (onto x4 (flag_byte row.deleted ∷ []) r5 x5 z e5
    (onto x5 (counted row.content) r6 x6 z e6
    (last x6 (counted row.enc) z e7))))))

pub returns-clause-form : goal.returns-clause-form
returns-clause-form c = item_form c.args.row.now (omega arith)

use Rattle.std.proofs.Common.{◌∙◌, None, IsTrue, sym}
use Rattle.std.proofs.lemmas.Map.Text.{btree_map_updates_text}
use Rattle.sn_account.proofs.NamesLemmas.{rows_without}
use Rattle.sn_account.proofs.names.Names.remove.Goals as goal

pub returns : goal.returns
returns c =
    let alone : IsTrue c.is_alone.result = c.if-not-is_alone.false in
    rows_without c.args.self.now (record { alloc = c.args.self.now.alloc; entries = c.remove.new.self }) c.args.rows.now c.args.identifier.now c.args.number
    (btree_map_updates_text c.args.identifier.now c.args.self.now.entries c.remove.new.self None c.remove.ensures.updates)
    (sym c.numbers.ensures ∙ c.is_alone.ensures alone)
    (λ named. let holds = c.has_name.ensures.1 named in let not = c.if-has_name.false in cc)

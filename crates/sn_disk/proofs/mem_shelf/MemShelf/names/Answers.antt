use Rattle.std.proofs.Common.{rules, ◌≡◌, map, ap, ◌∙◌, string_bytes}
use Rattle.std.specs.Map.Iter.{deref}
use Rattle.std.proofs.lemmas.Map.Iter.{iter_end}
use Rattle.sn_disk.proofs.Shelves.{names_are}
use Rattle.sn_disk.proofs.mem_shelf.MemShelf.names.Goals as goal

pub returns : goal.returns
returns c =
    let whole : map deref c.names.yielded ≡ c.keys-name-items.result = search (rules, iter_end) in
    names_are c.args.self.now _ c.keys-name-items.ensures.ordered (c.names.invariant ∙ ap (λ l. map string_bytes l) (whole ∙ c.keys-name-items.ensures.rest))

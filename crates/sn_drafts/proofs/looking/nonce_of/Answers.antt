use Rattle.std.specs.Prelude.{Err}
use Rattle.std.proofs.Common.{subst}
use Rattle.sn_string.proofs.Facts.{read_back}
use Rattle.sn_string.specs.Refusals.{IsRefusal}
use Rattle.sn_device.specs.States.{Bytes}
use Rattle.sn_drafts.proofs.LookLemmas.{says_nonce}
use Rattle.sn_drafts.proofs.looking.nonce_of.Goals as goal

pub memory_of-requires : goal.memory_of-requires
memory_of-requires c =
    read_back c.args.strings.now.enc c.requires.0 c.requires.1 (Err c.in-Err.error)
    (subst (λ (text : Bytes). IsRefusal text c.in-Err.error) c.as_str.ensures c.in-Err.ensures.err)

pub returns-in-Ok : goal.returns-in-Ok
returns-in-Ok c = says_nonce c.args.strings.now c.as_str.result.now _ c.try_clone.result c.as_str.ensures c.in-Ok.ensures.ok c.try_clone.ensures

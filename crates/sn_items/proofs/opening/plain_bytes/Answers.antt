use Rattle.std.proofs.Common.{rules}
use Rattle.sn_items.proofs.OpenLemmas.{no_plain, whole_bytes}
use Rattle.sn_string.specs.Base64.{IsBase64}
use Rattle.sn_items.proofs.opening.plain_bytes.Goals as goal

pub returns-clause-padding : goal.returns-clause-padding
returns-clause-padding c fault =
    let are : IsBase64 c.args.ciphertext.now c.in-Some-2.bytes.items = search rules in
    no_plain c.args.iv.now c.args.ciphertext.now c.args.encryption_key.now c.in-Some.iv c.in-Some-2.bytes.items
    c.in-Some.ensures.some are (c.unseal_owned.ensures.padding fault).1

pub returns-clause-whole : goal.returns-clause-whole
returns-clause-whole c length fault =
    let are : IsBase64 c.args.ciphertext.now c.in-Some-2.bytes.items = search rules in
    (c.unseal_owned.ensures.length length fault).1
    (whole_bytes c.args.ciphertext.now c.in-Some-2.bytes.items c.requires.ciphertext are)

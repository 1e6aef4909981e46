use Rattle.std.proofs.Common.{rules, ◌≢◌, Err, ap}
use Rattle.sn_items.specs.Opens.{hash_of}
use Rattle.sn_items.proofs.OpenLemmas.{opened_text, refused_text}
use Rattle.sn_string.specs.Hex.{IsLowerHex}
use Rattle.sn_string.specs.Parts.{reading_of}
use Rattle.sn_string.specs.Uuids.{IsUuidText}
use Rattle.sn_items.proofs.opening.open_parts.Goals as goal

pub returns-then-ne-clause-err : goal.returns-then-ne-clause-err
returns-then-ne-clause-err c text reads =
    let differs : c.in-Some.written ≢ c.args.uuid = search rules in
    record { reading = reading_of c.args.parts.now; names = record { reads = reads; uuid_is = c.in-Some.ensures.some }; differs = differs }

pub returns-then-ne-2-clause-err : goal.returns-then-ne-2-clause-err
returns-then-ne-2-clause-err c text reads =
    let uuid_is : IsUuidText c.args.parts.now.uuid.now c.args.uuid = search rules in
    let differs : c.in-Some-hash_bytes.written ≢ c.hash_of_parts-computed.result = search rules in
    record {
      reading = reading_of c.args.parts.now;
      names = record { reads = reads; uuid_is = uuid_is };
      written_is = c.in-Some-hash_bytes.ensures.some;
      computed_is = c.hash_of_parts-computed.ensures;
      differs = differs;
    }

pub returns-in-Ok-clause-ok : goal.returns-in-Ok-clause-ok
returns-in-Ok-clause-ok c =
    let uuid_is : IsUuidText c.args.parts.now.uuid.now c.args.uuid = search rules in
    let hash_is : IsLowerHex 32 c.args.parts.now.hash.now (hash_of c.args.authentication_key.now (reading_of c.args.parts.now)) = search rules in
    opened_text c.plain_text.result (reading_of c.args.parts.now) c.args.uuid c.args.encryption_key.now c.args.authentication_key.now
    c.in-Ok.plain.items c.plain_text.ensures.ok
    (λ text reads. record { names = record { reads = reads; uuid_is = uuid_is }; hash_is = hash_is }) c.in-Ok.ensures.ok

pub returns-in-Ok-clause-err : goal.returns-in-Ok-clause-err
returns-in-Ok-clause-err c =
    let uuid_is : IsUuidText c.args.parts.now.uuid.now c.args.uuid = search rules in
    let hash_is : IsLowerHex 32 c.args.parts.now.hash.now (hash_of c.args.authentication_key.now (reading_of c.args.parts.now)) = search rules in
    refused_text c.plain_text.result (reading_of c.args.parts.now) c.args.uuid c.args.encryption_key.now c.args.authentication_key.now
    c.in-Ok.plain.items c.plain_text.ensures.err
    (λ text reads. record { names = record { reads = reads; uuid_is = uuid_is }; hash_is = hash_is }) c.in-Ok.ensures.ok

pub returns-in-Err-Padding-clause-err : goal.returns-in-Err-Padding-clause-err
returns-in-Err-Padding-clause-err c text reads =
    let uuid_is : IsUuidText c.args.parts.now.uuid.now c.args.uuid = search rules in
    let hash_is : IsLowerHex 32 c.args.parts.now.hash.now (hash_of c.args.authentication_key.now (reading_of c.args.parts.now)) = search rules in
    record {
      reading = reading_of c.args.parts.now;
      authentic = record { names = record { reads = reads; uuid_is = uuid_is }; hash_is = hash_is };
      none = c.in-Err-Padding.ensures.padding (ap Err c.in-Err-Padding.field-0-is);
    }

use Rattle.std.proofs.Common.{ℕ, List, string_bytes, refl, rules}
use Rattle.std.specs.Prelude.{IfOk}
use Rattle.sn_cbc.specs.Cbc.{IsCbc}
use Rattle.sn_items.specs.Opens.{Decrypts, hash_of}
use Rattle.sn_items.specs.Seals.{IsWrittenPart}
use Rattle.sn_items.proofs.SealLemmas.{carries_written, ciphertext_of, opens_written}
use Rattle.sn_string.specs.Base64.{IsBase64, base64_text}
use Rattle.sn_string.specs.Grammar.{Is003, Reading, written}
use Rattle.sn_string.specs.Hex.{IsLowerHex}
use Rattle.sn_string.specs.Uuids.{IsUuidText}
use Rattle.sn_string.specs.declared.params.Params.{Params}
use Rattle.sn_items.proofs.sealing.string_of.Goals as goal

abbrev reading_of : goal.After-drop-uuid-2 → Params → Reading
reading_of c params = written c.deref-3.result.now c.deref.result.now c.deref-2.result.now (base64_text c.args.bytes.now) params

spelled : (c : goal.After-drop-uuid-2) → IsBase64 (base64_text c.args.bytes.now) c.args.bytes.now
spelled c = record { fit = search rules; spelled = refl }

reads : (c : goal.After-drop-uuid-2) (encryption_key plain : List ℕ) (params : Params) → IsCbc encryption_key c.args.iv.now plain c.args.bytes.now
    → IsWrittenPart c.args.last.now params → IfOk c.with_hash.result (λ text. Is003 (string_bytes text) (reading_of c params))
reads c encryption_key plain params cbc last =
    let uuid_is : IsUuidText c.deref.result.now c.args.uuid = search rules in
    let iv_is : IsLowerHex 16 c.deref-2.result.now c.args.iv.now = search rules in
    c.with_hash.ensures.grammar c.deref.result.now c.deref-2.result.now (base64_text c.args.bytes.now) params
    c.in_ok-text.ensures (c.args.uuid, uuid_is) (c.args.iv.now, iv_is)
    (ciphertext_of encryption_key c.args.iv.now plain c.args.bytes.now (spelled c) cbc) last.written last.reads

pub returns-clause-opens : goal.returns-clause-opens
returns-clause-opens c = λ encryption_key plain params cbc last utf8.
    let reading = reading_of c params in
    let uuid_is : IsUuidText reading.uuid c.args.uuid = search rules in
    let iv_is : IsLowerHex 16 reading.iv c.args.iv.now = search rules in
    let hash_is : IsLowerHex 32 reading.hash (hash_of c.args.authentication_key.now reading) = search rules in
    let decrypts : Decrypts reading.iv reading.ciphertext encryption_key plain =
    record { iv = c.args.iv.now; bytes = c.args.bytes.now; iv_is = iv_is; bytes_are = spelled c; cbc = cbc } in
    opens_written c.with_hash.result reading c.args.uuid encryption_key c.args.authentication_key.now plain
    (reads c encryption_key plain params cbc last) uuid_is hash_is decrypts utf8

pub returns-clause-carries : goal.returns-clause-carries
returns-clause-carries c = λ encryption_key plain params cbc last.
    carries_written c.with_hash.result (reading_of c params) (reads c encryption_key plain params cbc last)

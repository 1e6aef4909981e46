use Rattle.std.proofs.Common.{rules, ◌≡◌, ◌≢◌, subst, sym}
use Rattle.sn_items.specs.ItemRefusals.{ContentHasCause}
use Rattle.sn_items.proofs.ItemLemmas.{both_carry, content_form, content_other, enc_other}
use Rattle.sn_string.specs.Grammar.{Is003}
use Rattle.sn_string.specs.Parts.{reading_of}
use Rattle.sn_string.specs.Refusals.{IsRefusal}
use Rattle.sn_items.proofs.items.read_both.Goals as goal

pub returns-in-Err-read-clause-err : goal.returns-in-Err-read-clause-err
returns-in-Err-read-clause-err c =
    let enc_reads : Is003 c.args.sealed.now.enc (reading_of c.in-Ok.parts) = subst (λ text. Is003 text (reading_of c.in-Ok.parts)) c.as_str.ensures c.in-Ok.ensures.ok in
    let refused : IsRefusal c.args.sealed.now.content c.in-Err-read.error = subst (λ text. IsRefusal text c.in-Err-read.error) c.as_str-2.ensures c.in-Err-read.ensures.err in
    subst (ContentHasCause c.args.sealed.now c.args.uuid c.args.set.now) (sym c.form_error-in-Err-read.ensures)
    (content_form c.args.sealed.now c.args.uuid c.args.set.now (reading_of c.in-Ok.parts) c.in-Err-read.error enc_reads refused)

pub returns-then-not-same-clause-err : goal.returns-then-not-same-clause-err
returns-then-not-same-clause-err c =
    let enc_reads : Is003 c.args.sealed.now.enc (reading_of c.in-Ok.parts) = subst (λ text. Is003 text (reading_of c.in-Ok.parts)) c.as_str.ensures c.in-Ok.ensures.ok in
    let content_reads : Is003 c.args.sealed.now.content (reading_of c.in-Ok-read.parts) = subst (λ text. Is003 text (reading_of c.in-Ok-read.parts)) c.as_str-2.ensures c.in-Ok-read.ensures.ok in
    let differs : c.in-Ok.parts.params ≢ c.args.set.now.params = search rules in
    enc_other c.args.sealed.now c.args.uuid c.args.set.now (reading_of c.in-Ok.parts) (reading_of c.in-Ok-read.parts) c.other_set.result
    enc_reads content_reads differs c.other_set.ensures

pub returns-then-not-same-2-clause-err : goal.returns-then-not-same-2-clause-err
returns-then-not-same-2-clause-err c =
    let enc_reads : Is003 c.args.sealed.now.enc (reading_of c.in-Ok.parts) = subst (λ text. Is003 text (reading_of c.in-Ok.parts)) c.as_str.ensures c.in-Ok.ensures.ok in
    let content_reads : Is003 c.args.sealed.now.content (reading_of c.in-Ok-read.parts) = subst (λ text. Is003 text (reading_of c.in-Ok-read.parts)) c.as_str-2.ensures c.in-Ok-read.ensures.ok in
    let same : c.in-Ok.parts.params ≡ c.args.set.now.params = search rules in
    let differs : c.in-Ok-read.parts.params ≢ c.args.set.now.params = search rules in
    content_other c.args.sealed.now c.args.uuid c.args.set.now (reading_of c.in-Ok.parts) (reading_of c.in-Ok-read.parts) c.other_set-then-not-same-2.result
    enc_reads content_reads same differs c.other_set-then-not-same-2.ensures

pub returns-clause-carries : goal.returns-clause-carries
returns-clause-carries c =
    let enc_reads : Is003 c.args.sealed.now.enc (reading_of c.in-Ok.parts) = subst (λ text. Is003 text (reading_of c.in-Ok.parts)) c.as_str.ensures c.in-Ok.ensures.ok in
    let content_reads : Is003 c.args.sealed.now.content (reading_of c.in-Ok-read.parts) = subst (λ text. Is003 text (reading_of c.in-Ok-read.parts)) c.as_str-2.ensures c.in-Ok-read.ensures.ok in
    let enc_same : c.in-Ok.parts.params ≡ c.args.set.now.params = search rules in
    let content_same : c.in-Ok-read.parts.params ≡ c.args.set.now.params = search rules in
    both_carry c.args.sealed.now c.args.set.now.params (reading_of c.in-Ok.parts) (reading_of c.in-Ok-read.parts) enc_reads content_reads enc_same content_same

pub returns-clause-read : goal.returns-clause-read
returns-clause-read c =
    record {
      enc_reads = subst (λ text. Is003 text (reading_of c.in-Ok.parts)) c.as_str.ensures c.in-Ok.ensures.ok;
      content_reads = subst (λ text. Is003 text (reading_of c.in-Ok-read.parts)) c.as_str-2.ensures c.in-Ok-read.ensures.ok;
    }

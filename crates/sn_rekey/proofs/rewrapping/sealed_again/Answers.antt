use Rattle.std.proofs.Common.{subst, sym, string_bytes, ℕ, List}
use Rattle.sn_items.specs.Items.{CarriesParams}
use Rattle.sn_items.specs.Opens.{Opens}
use Rattle.sn_items.specs.Seals.{IsSealed}
use Rattle.sn_rekey.proofs.RewrapLemmas.{rewraps}
use Rattle.sn_string.specs.Grammar.{Is003, with_params_of}
use Rattle.sn_rekey.proofs.rewrapping.sealed_again.Goals as goal

pub with_params-requires : goal.with_params-requires
with_params-requires c =
    let item = c.requires.1 in
    (item.opens.reading, subst (λ (text : List ℕ). Is003 text item.opens.reading) (sym c.as_str.ensures) item.opens.authentic.names.reads)

pub returns-clause-ok : goal.returns-clause-ok
returns-clause-ok c = λ text item.
    let enc_is = sym c.of_string-2.ensures in
    let digits : List ℕ = string_bytes c.in_ok-digits.digits in
    let to = c.args.to.now in
    rewraps c.args.words.now c.seal_owned_text.new.words c.args.uuid text c.args.from.now to c.args.sealed.now
    (record { content = c.of_string.result; enc = c.of_string-2.result }) digits item c.in_ok-digits.ensures
    (λ reading reads.
    subst (λ (t : List ℕ). Is003 t (with_params_of reading to.params)) (sym c.of_string.ensures)
    (c.in_ok-content.ensures reading (subst (λ (t : List ℕ). Is003 t reading) (sym c.as_str.ensures) reads)))
    (record {
      iv = c.in_ok-enc.ensures.sealed.0;
      is_drawn = c.in_ok-enc.ensures.sealed.1;
      is_sealed = subst (λ (t : List ℕ). IsSealed digits c.args.uuid c.in_ok-enc.ensures.sealed.0 to.mk to.ak to.params t) enc_is c.in_ok-enc.ensures.sealed.2;
      opens = subst (λ (t : List ℕ). Opens t c.args.uuid to.mk to.ak digits) enc_is c.in_ok-enc.ensures.opens;
      carries = subst (λ (t : List ℕ). CarriesParams t to.params) enc_is c.in_ok-enc.ensures.carries;
    })

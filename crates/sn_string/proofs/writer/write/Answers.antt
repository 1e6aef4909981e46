use Rattle.std.proofs.Common.{rules, ◌≡◌, List, ℕ, [], ◌∷◌, string_bytes, IfOk, subst}
use Rattle.std.proofs.lemmas.Result.{IfOk-weaker}
use Rattle.sn_string.specs.Grammar.{joined, version}
use Rattle.sn_string.specs.Parameters.{IsParamsPart, params_text}
use Rattle.sn_string.proofs.Written.{Is003-joined}
use Rattle.sn_string.proofs.writer.write.Goals as goal

pub returns-clause-grammar : goal.returns-clause-grammar
returns-clause-grammar c =
    let hash = c.args.hash.now in
    let uuid = c.args.uuid.now in
    let iv = c.args.iv.now in
    let ciphertext = c.args.ciphertext.now in
    let p = c.args.params.now in
    let P : List ℕ → Type 0 = λ part. IsParamsPart part p in
    let part : IsParamsPart (params_text p) p = subst P c.in_ok-last.ensures.text c.in_ok-last.ensures.reads in
    let text : IfOk c.format.result (λ s. string_bytes s ≡ joined (version ∷ hash ∷ uuid ∷ iv ∷ ciphertext ∷ params_text p ∷ [])) = search rules in
    IfOk-weaker c.format.result _ _ (λ s same. Is003-joined (string_bytes s) hash uuid iv ciphertext p same
    c.requires.hash c.requires.uuid c.requires.iv c.requires.ciphertext part) text

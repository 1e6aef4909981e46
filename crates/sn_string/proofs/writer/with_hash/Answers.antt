use Rattle.std.proofs.Common.{List, ℕ, [], ◌∷◌, ◌∙◌, string_bytes, ap, subst}
use Rattle.std.proofs.lemmas.Result.{IfOk-weaker}
use Rattle.sn_string.specs.Grammar.{joined, version}
use Rattle.sn_string.specs.Parameters.{IsParamsPart}
use Rattle.sn_string.proofs.Written.{Is003-joined}
use Rattle.sn_string.proofs.writer.with_hash.Goals as goal

pub returns-clause-grammar : goal.returns-clause-grammar
returns-clause-grammar c = λ uuid iv ciphertext params same uuid_is iv_is ciphertext_is last_is part.
    let hash = c.args.hash.now in
    IfOk-weaker c.framed.result _ _
    (λ text e. Is003-joined (string_bytes text) hash uuid iv ciphertext params
    (e ∙ ap (λ (l : List ℕ). joined (version ∷ hash ∷ uuid ∷ iv ∷ ciphertext ∷ l ∷ [])) last_is)
    c.requires.hash uuid_is iv_is ciphertext_is (subst (λ (l : List ℕ). IsParamsPart l params) last_is part))
    (c.framed.ensures uuid iv ciphertext same)

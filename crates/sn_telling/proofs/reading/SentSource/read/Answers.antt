use Rattle.std.proofs.Common.{◌≡◌, ◌++◌, length, drop, take, ℕ, ◌+◌, List, sym, ◌∙◌, ap, arith, length-drop, length-take, length-append, take-append-drop}
use Rattle.std.proofs.lemmas.List.{take_at, take_rest, drop-drop, drop_all}
use Rattle.sn_telling.proofs.reading.SentSource.read.Goals as goal

-- the front of what is left is given, and the rest stays
gives : (bytes front into : List ℕ) (at n : ℕ) → front ≡ take n (drop at bytes) → length front ≡ n → drop at bytes ≡ take n (front ++ drop n into) ++ drop (at + n) bytes
gives bytes front into at n is long =
    sym (take-append-drop n (drop at bytes)) ∙ ap (λ (l : List ℕ). l ++ drop n (drop at bytes)) (sym is)
    ∙ ap (λ (l : List ℕ). l ++ drop n (drop at bytes)) (sym (take_at front (drop n into) n long))
    ∙ ap (λ (l : List ℕ). take n (front ++ drop n into) ++ l) (drop-drop n at bytes)

pub returns-clause-bytes : goal.returns-clause-bytes
returns-clause-bytes c =
    let n = c.min-count.result in
    let at = c.args.self.now.at in
    let bytes = c.args.self.now.bytes.now in (
      gives bytes c.copy_from_slice.new.self c.args.into.now at n (c.copy_from_slice.ensures.after ∙ ap (λ (l : List ℕ). take n l) (take_rest bytes at)) (grind (arith, length-drop, length-take)),
      λ none some. drop_all (at + n) bytes (grind (arith, length-drop, length-append, length-take)),
    )

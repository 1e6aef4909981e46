-- What is left of words after draws.
use Rattle.std.proofs.Common.{◌≡◌, ◌∙◌, ap, refl, ℕ, List, [], ◌∷◌, ◌++◌}
use Rattle.rand_chacha.specs.ChaCha.{ChaCha}
use Rattle.sn_items.specs.Draws.{drawn}
use Rattle.sn_items.specs.Items.{IsDrawn}
use Rattle.sn_sets.specs.Laws.{LaterAgain, LaterAtOnce}
use Rattle.sn_sets.specs.Seals.{IsLater, left_after}

left_after-append : (first second : List ℕ) (words : ChaCha) → left_after second (left_after first words) ≡ left_after (first ++ second) words
left_after-append [] second words = refl
left_after-append (size ∷ first) second words = left_after-append first second (drawn size words).1

pub later_at_once : LaterAtOnce
later_at_once words = ([], refl)

pub later_again : LaterAgain
later_again words middle left first second = (
  first.0 ++ second.0,
  second.1 ∙ ap (left_after second.0) first.1 ∙ left_after-append first.0 second.0 words,
)

-- an item's key and its two vectors
pub later_drawn : (words : ChaCha) (key content_iv enc_iv : List ℕ) (left : ChaCha) → IsDrawn words key content_iv enc_iv left → IsLater words left
later_drawn words key content_iv enc_iv left h =
    let first : h.first ≡ (drawn 64 words).1 = ap (λ p. p.1) h.key_drawn in
    let second : h.second ≡ (drawn 16 h.first).1 = ap (λ p. p.1) h.content_drawn in
    let last : left ≡ (drawn 16 h.second).1 = ap (λ p. p.1) h.enc_drawn in (
      64 ∷ 16 ∷ 16 ∷ [],
      last ∙ ap (λ w. (drawn 16 w).1) (second ∙ ap (λ w. (drawn 16 w).1) first),
    )

-- One turn more of the loops over the words of a line, and over the moves of an event.
use Rattle.std.proofs.Common.{◌≡◌, ℕ, ◌+◌, ◌<◌, Bool, List, [], ◌∷◌, ◌++◌, length, get_or, take, refl, sym, ap, ◌∙◌}
use Rattle.std.proofs.lemmas.List.{take_more}
use Rattle.sn_course.specs.Lines.{losses_from, losses_with}
use Rattle.sn_laws.specs.declared.moves.Move.{Move}
use Rattle.sn_link.specs.declared.losses.Losses.{Losses}
use Rattle.sn_report.specs.Labels.{Labels, labels_after, labels_of}
use Rattle.sn_script.specs.declared.script.Fate.{Fate}

losses_more : (first : Losses) (fates : List Fate) (f : Fate) → losses_from first (fates ++ f ∷ []) ≡ losses_with (losses_from first fates) f
losses_more first [] f = refl
losses_more first (x ∷ fates) f = losses_more (losses_with first x) fates f

pub losses_next : (first now next : Losses) (fates : List Fate) (index : ℕ) (f : Fate) → index < length fates → now ≡ losses_from first (take index fates)
    → next ≡ losses_with now (get_or fates index f) → next ≡ losses_from first (take (index + 1) fates)
losses_next first now next fates index f lt now_is next_is =
    next_is ∙ ap (λ (l : Losses). losses_with l (get_or fates index f)) now_is ∙ sym (losses_more first (take index fates) (get_or fates index f))
    ∙ ap (losses_from first) (sym (take_more fates index f lt))

labels_more : (puts : Bool) (labels : Labels) (moves : List Move) (m : Move) → labels_of puts labels (moves ++ m ∷ []) ≡ labels_after puts (labels_of puts labels moves) m
labels_more puts labels [] m = refl
labels_more puts labels (x ∷ moves) m = labels_more puts (labels_after puts labels x) moves m

pub labels_next : (puts : Bool) (first now next : Labels) (moves : List Move) (index : ℕ) (m : Move) → index < length moves → m ≡ get_or moves index m
    → now ≡ labels_of puts first (take index moves) → next ≡ labels_after puts now m → next ≡ labels_of puts first (take (index + 1) moves)
labels_next puts first now next moves index m lt at now_is next_is =
    next_is ∙ ap (λ (l : Labels). labels_after puts l m) now_is ∙ sym (labels_more puts first (take index moves) m)
    ∙ ap (λ (x : Move). labels_of puts first (take index moves ++ x ∷ [])) at ∙ ap (labels_of puts first) (sym (take_more moves index m lt))

-- Into how many requests the items fall that wait to be sent.
use Rattle.std.specs.Prelude.{◌≡◌, ◌≢◌, ◌⊎◌, ◌+◌, ◌*◌, ◌<◌, ◌≤◌, List, [], ◌∷◌, ◌++◌, length, sum_by}
use Rattle.sn_device.specs.Sending.{FitsSending, Numbered, most_sent, sent_of, weight_of}
use Rattle.sn_string.specs.Bounds.{most_bytes}

-- a front of them that one request takes: the longest that fits, and at least one
pub record IsFront (front later : List Numbered) : Type 0 where
  pub some : front ≢ []
  pub fits : FitsSending front ⊎ (length front ≡ 1)
  pub longest : (next : Numbered) (others : List Numbered) → later ≡ next ∷ others → ¬ (FitsSending (front ++ next ∷ []))

-- they fall into these portions: each is the front that one request takes of what those before it leave
abbrev pub ArePortions : List (List Numbered) → List Numbered → Type 0
ArePortions [] waiting = waiting ≡ []
ArePortions (front ∷ portions) waiting =
    (later : List Numbered) × (waiting ≡ front ++ later) × IsFront front later × ArePortions portions later

-- no 150 of them that follow one another have more bytes than a request takes
abbrev pub AreLight : List Numbered → Type 0
AreLight waiting = (before some later : List Numbered) → waiting ≡ before ++ some ++ later → length some ≤ most_sent
    → sum_by (λ w. weight_of (sent_of w.1)) some ≤ most_bytes

-- then they fall into as few as 150 to a request allow
abbrev pub FewPortions : Type 0
FewPortions = (waiting : List Numbered) (portions : List (List Numbered)) → ArePortions portions waiting → AreLight waiting
    → (length waiting ≤ most_sent * length portions) × (most_sent * length portions < length waiting + most_sent)

-- any items fall into portions, in just one way
abbrev pub OneDivision : Type 0
OneDivision = (waiting : List Numbered) → (portions : List (List Numbered)) × ArePortions portions waiting
    × ((others : List (List Numbered)) → ArePortions others waiting → others ≡ portions)

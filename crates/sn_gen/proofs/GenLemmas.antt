-- Scripts that are made from a number, as a replay takes them: their lines are bounded, and they have one password.
use Rattle.std.proofs.Common.{◌≡◌, ◌⊎◌, inl, inr, ℕ, suc, List, [], ◌∷◌, ◌++◌, All, Some, None, codes, refl, sym, ◌∙◌, ap, subst, slice_get, slice_index_or}
use Rattle.sn_course.specs.Headline.{IsPasswordOf, PasswordsApart}
use Rattle.sn_course.specs.Lines.{password_of}
use Rattle.sn_generator.specs.Generated.{IsEvent, IsGenerated, closing, edits, loses, opening, puts, syncs}
use Rattle.sn_generator.specs.Playable.{IsPlayable}
use Rattle.sn_keys.specs.Keys.{AreKeysOf}
use Rattle.sn_laws.specs.Each.{One}
use Rattle.sn_laws.specs.Lookups.{Bytes}
use Rattle.sn_laws.specs.declared.moves.Move.{Move}
use Rattle.sn_replay.specs.Lines.{IsBounded}
use Rattle.sn_script.specs.declared.script.Line.{Line}
use Rattle.sn_script.specs.declared.script.Line.TheVariants as line
use Rattle.sn_script.specs.declared.script.Script.{Script}
use Rattle.sn_string.specs.declared.params.KeySet.{KeySet}
use Rattle.sn_string.specs.declared.params.Params.{Params}

-- ---- bounded lines

line_bounded : (l : Line) → IsPlayable l → IsBounded l
line_bounded (line.Seed bytes) h = tt
line_bounded (line.Cost n) h = h
line_bounded (line.Clock n) h = tt
line_bounded (line.Register device identifier password fates) h = h
line_bounded (line.SignIn device identifier password fates) h = h
line_bounded (line.Put device fates text) h = tt
line_bounded (line.Edit device label fates text) h = tt
line_bounded (line.Delete device label fates) h = tt
line_bounded (line.Sync device fates) h = tt
line_bounded (line.Passwd device password fates) h = tt
line_bounded (line.Late device request) h = tt
line_bounded line.Show h = tt

pub lines_bounded : (lines : List Line) → All IsPlayable lines → All IsBounded lines
lines_bounded lines h k d lt = line_bounded (slice_index_or lines k d) (h k d lt)

-- ---- one password

-- the line has this password
abbrev Has : Bytes → Line → Type 0
Has password l = password_of l ≡ Some password

one_of : (xs ys : List Line) (password : Bytes) → One (Has password) (xs ++ ys) → One (Has password) xs ⊎ One (Has password) ys
one_of [] ys password h = inr h
one_of (x ∷ xs) ys password (inl h) = inl (inl h)
one_of (x ∷ xs) ys password (inr h) = elim (one_of xs ys password h) [ inl there ↦ inl (inr there) | inr later ↦ inr later ]

none_has : (l : Line) (password : Bytes) → password_of l ≡ None → Has password l → ⊥
none_has l password none has =
    let both : Some password ≡ None = sym has ∙ none in
    cc

-- an event has none
event_has_none : (number i : ℕ) (l : Line) → IsEvent number i l → password_of l ≡ None
event_has_none number i l (puts put is) = ap password_of is
event_has_none number i l (edits k kind last is) = ap password_of is
event_has_none number i l (syncs least most is) = ap password_of is
event_has_none number i l (loses kind is) = ap password_of is

none_among : (lines : List Line) → ((k : ℕ) (l : Line) → slice_get lines k ≡ Some l → password_of l ≡ None) → (password : Bytes)
    → One (Has password) lines → ⊥
none_among [] none password h = h
none_among (l ∷ lines) none password (inl h) = none_has l password (none 0 l refl) h
none_among (l ∷ lines) none password (inr later) = none_among lines (λ k x there. none (suc k) x there) password later

-- those before the events have one
opening_has : (password : Bytes) → One (Has password) opening → password ≡ codes "p"
opening_has password (inl h) = absurd (none_has (line.Cost 1) password refl h)
opening_has password (inr (inl h)) = absurd (none_has (line.Clock 1) password refl h)
opening_has password (inr (inr (inl h))) =
    let both : Some (codes "p") ≡ Some password = h in
    cc
opening_has password (inr (inr (inr (inl h)))) =
    let both : Some (codes "p") ≡ Some password = h in
    cc
opening_has password (inr (inr (inr (inr none)))) = absurd none

-- and those behind them none
closing_has : (password : Bytes) → One (Has password) closing → ⊥
closing_has password (inl h) = none_has (line.Sync (codes "A") []) password refl h
closing_has password (inr (inl h)) = none_has (line.Sync (codes "B") []) password refl h
closing_has password (inr (inr (inl h))) = none_has (line.Sync (codes "A") []) password refl h
closing_has password (inr (inr (inr none))) = none

only_password : (number count : ℕ) (script : Script) → IsGenerated number count script → (password : Bytes) → IsPasswordOf script password
    → password ≡ codes "p"
only_password number count script is password has =
    elim (one_of opening (is.events ++ closing) password (subst (One (Has password)) is.lines_are has)) [
      | inl first ↦ opening_has password first
      | inr later ↦ elim (one_of is.events closing password later) [
        | inl event ↦ absurd (none_among is.events (λ k l there. event_has_none number (suc k) l (is.are.each k l there)) password event)
        | inr last ↦ absurd (closing_has password last)
      ]
    ]

-- a password has one set of keys under parameters
one_set : (password : Bytes) (p : Params) (a b : KeySet) → AreKeysOf password p a → AreKeysOf password p b → a ≡ b
one_set password p a b first second =
    let params : a.params ≡ b.params = first.params ∙ sym second.params in
    let pw : a.pw ≡ b.pw = first.pw ∙ sym second.pw in
    let mk : a.mk ≡ b.mk = first.mk ∙ sym second.mk in
    let ak : a.ak ≡ b.ak = first.ak ∙ sym second.ak in
    λ i. record { params = params i; pw = pw i; mk = mk i; ak = ak i }

-- so no two passwords of the script have one check value and different keys, whatever the moves are
pub passwords_apart : (number count : ℕ) (script : Script) → IsGenerated number count script → (moves : List Move) → PasswordsApart script moves
passwords_apart number count script is moves one other p a b one_is other_is used one_keys other_keys same =
    let first : AreKeysOf (codes "p") p a = subst (λ (w : Bytes). AreKeysOf w p a) (only_password number count script is one one_is) one_keys in
    let second : AreKeysOf (codes "p") p b = subst (λ (w : Bytes). AreKeysOf w p b) (only_password number count script is other other_is) other_keys in
    one_set (codes "p") p a b first second

-- What holds of every text that opens.
use Rattle.std.specs.Prelude.{◌≡◌, ◌⊎◌, ℕ, List, Result, Ok, Err, IfOk, IfErr}
use Rattle.sn_cbc.specs.Cbc.{AreBytes}
use Rattle.sn_items.specs.Opens.{Opens}
use Rattle.sn_items.specs.Refusals.{HasCause}
use Rattle.sn_items.specs.declared.error.ItemError.{ItemError}
use Rattle.sn_items.specs.declared.error.ItemError.TheVariants.{Memory}

-- a text opens to one plain text at most
abbrev pub OneText : Type 0
OneText = (text uuid encryption_key authentication_key plain other : List ℕ)
    → AreBytes plain → AreBytes other
    → Opens text uuid encryption_key authentication_key plain → Opens text uuid encryption_key authentication_key other → plain ≡ other

-- where a text opens, whatever answer the contract of opening allows is the plain text or want of memory
abbrev pub SealedOpens : Type 0
SealedOpens = (text uuid encryption_key authentication_key plain : List ℕ) (answer : Result (List ℕ) ItemError)
    → AreBytes plain
    → Opens text uuid encryption_key authentication_key plain
    → IfOk answer (λ opened. AreBytes opened × Opens text uuid encryption_key authentication_key opened)
    → IfErr answer (HasCause text uuid encryption_key authentication_key)
    → (answer ≡ Ok plain) ⊎ (answer ≡ Err Memory)

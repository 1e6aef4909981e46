-- A call that asks for nothing makes no request, and doesn't end for the link.
use Rattle.std.proofs.Common.{◌≡◌, ℕ, List, [], ◌∷◌, refl, sym, ◌∙◌, subst, inl, inr}
use Rattle.std.specs.Prelude.{⊤, ◌≢◌}
use Rattle.rand_chacha.specs.ChaCha.{ChaCha}
use Rattle.sn_device.specs.Runs.{Act, Call, CommitsOnce, Given, Halt, PutsItem, Run, StopsAt, WithContent, a_uuid, answered, asked, commits, content, delete, edit, list, nothing, passwd, put, refused, register, sign_in, sync}
use Rattle.sn_device.specs.Steps.{What, deletes, edits, puts}
use Rattle.sn_device.specs.declared.error.ClientError.{ClientError}
use Rattle.sn_device.specs.declared.error.ClientError.TheVariants as refusal
use Rattle.sn_events.specs.Fates.{AreByLosses}
use Rattle.sn_events.specs.Laws.{commits_of}
use Rattle.sn_laws.specs.Lookups.{Bytes}
use Rattle.sn_link.specs.Laws.{AreReadable, HearsNoWant}
use Rattle.sn_link.specs.declared.losses.Losses.{Losses}
use Rattle.sn_recorder.specs.Told.{AreTold}
use Rattle.sn_recorder.specs.declared.exchanged.Exchanged.{Exchanged}
use Rattle.sn_rows.specs.Table.{Rows}
use Rattle.sn_rows.specs.declared.change.Change.{Change}
use Rattle.sn_world.specs.Calls.{AreServed, AsksNothing}

abbrev pub OnlyCommits : List Act → Type 0
OnlyCommits [] = ⊤
OnlyCommits (commits what changes ∷ acts) = OnlyCommits acts
OnlyCommits (asked r reply ∷ acts) = ⊥

-- any refusal but for the link
abbrev IsOther : ClientError → Type 0
IsOther refusal.LinkFault = ⊥
IsOther other = ⊤

-- no request is made, and the call doesn't end for the link
abbrev pub IsQuiet : List Act → Halt → Type 0
IsQuiet acts halt = OnlyCommits acts × (halt ≢ refused refusal.LinkFault)

same_refusal : (why other : ClientError) → refused why ≡ refused other → why ≡ other
same_refusal why other is = cc

other_halt : (halt : Halt) (why : ClientError) → halt ≡ refused why → IsOther why → halt ≢ refused refusal.LinkFault
other_halt halt why is other fault =
    let never : ⊥ = subst IsOther (same_refusal why refusal.LinkFault (sym is ∙ fault)) other in
    never

none_quiet : (acts : List Act) (halt : Halt) (why : ClientError) → acts ≡ [] → halt ≡ refused why → IsOther why → IsQuiet acts halt
none_quiet acts halt why none is other = (subst OnlyCommits (sym none) tt, other_halt halt why is other)

told_quiet : (acts : List Act) (halt : Halt) (given : Given) (left : ChaCha) → OnlyCommits acts → halt ≡ answered given left → IsQuiet acts halt
told_quiet acts halt given left only is = (only, λ fault. let impossible : ⊥ = cc in impossible)

stops_quiet : (what : What) (changes : List Change) (halt : Halt) → StopsAt what changes halt → halt ≢ refused refusal.LinkFault
stops_quiet what changes halt (inl (batch, is)) = λ fault. let impossible : ⊥ = cc in impossible
stops_quiet what changes halt (inr (inl (large, is))) = other_halt halt _ is tt
stops_quiet what changes halt (inr (inr is)) = other_halt halt _ is tt

once_quiet : (rows : Rows) (words : ChaCha) (what : What) (given : Given) (acts : List Act) (halt : Halt) → CommitsOnce rows words what given acts halt → IsQuiet acts halt
once_quiet rows words what given acts halt (changes, left, step, inl (batch, is, end)) = told_quiet acts halt _ _ (subst OnlyCommits (sym is) tt) end
once_quiet rows words what given acts halt (changes, left, step, inr (none, stops)) = (subst OnlyCommits (sym none) tt, stops_quiet what changes halt stops)

content_quiet : (text : Bytes) (P : List Act → Halt → Type 0) (acts : List Act) (halt : Halt) → (P acts halt → IsQuiet acts halt) → WithContent text P acts halt → IsQuiet acts halt
content_quiet text P acts halt goes (inl (long, (none, is))) = none_quiet acts halt _ none is tt
content_quiet text P acts halt goes (inr (short, inl (other, (none, is)))) = none_quiet acts halt _ none is tt
content_quiet text P acts halt goes (inr (short, inr (object, p))) = goes p

pub quiet_runs : (call : Call) (rows : Rows) (words : ChaCha) (acts : List Act) (halt : Halt) → AsksNothing call → Run 1 call rows words acts halt → IsQuiet acts halt
quiet_runs (register identifier password cost) rows words acts halt none x = absurd none
quiet_runs (sign_in identifier password) rows words acts halt none x = absurd none
quiet_runs sync rows words acts halt none x = absurd none
quiet_runs (passwd password cost) rows words acts halt none x = absurd none
quiet_runs (put kind text) rows words acts halt quiet (inl (none, is)) = none_quiet acts halt _ none is tt
quiet_runs (put kind text) rows words acts halt quiet (inr (inl (fresh, (none, is)))) = none_quiet acts halt _ none is tt
quiet_runs (put kind text) rows words acts halt quiet (inr (inr (owner, sets, has, x))) = content_quiet text (PutsItem rows words owner kind text) acts halt puts_quiet x
  where
    puts_quiet : PutsItem rows words owner kind text acts halt → IsQuiet acts halt
    puts_quiet (inl (used, (none, is))) = none_quiet acts halt _ none is tt
    puts_quiet (inr (more, inl (drawn, unfresh, (none, is)))) = none_quiet acts halt _ none is tt
    puts_quiet (inr (more, inr (uuid, once))) = once_quiet rows words (puts uuid kind text) (a_uuid uuid) acts halt once
quiet_runs (edit uuid text) rows words acts halt quiet (inl (none, is)) = none_quiet acts halt _ none is tt
quiet_runs (edit uuid text) rows words acts halt quiet (inr (inl (fresh, (none, is)))) = none_quiet acts halt _ none is tt
quiet_runs (edit uuid text) rows words acts halt quiet (inr (inr (owner, sets, has, inl (gone, (none, is))))) = none_quiet acts halt _ none is tt
quiet_runs (edit uuid text) rows words acts halt quiet (inr (inr (owner, sets, has, inr (number, local, item, stands, inl (nonce, closed, (none, is)))))) = none_quiet acts halt _ none is tt
quiet_runs (edit uuid text) rows words acts halt quiet (inr (inr (owner, sets, has, inr (number, local, item, stands, inr (shown, shows, x))))) =
    content_quiet text (CommitsOnce rows words (edits uuid text) nothing) acts halt (λ once. once_quiet rows words (edits uuid text) nothing acts halt once) x
quiet_runs (delete uuid) rows words acts halt quiet (inl (none, is)) = none_quiet acts halt _ none is tt
quiet_runs (delete uuid) rows words acts halt quiet (inr (inl (fresh, (none, is)))) = none_quiet acts halt _ none is tt
quiet_runs (delete uuid) rows words acts halt quiet (inr (inr (owner, sets, has, inl (free, (none, is))))) = none_quiet acts halt _ none is tt
quiet_runs (delete uuid) rows words acts halt quiet (inr (inr (owner, sets, has, inr (used, once)))) = once_quiet rows words (deletes uuid) nothing acts halt once
quiet_runs list rows words acts halt quiet (inl (none, is)) = none_quiet acts halt _ none is tt
quiet_runs list rows words acts halt quiet (inr (inl (fresh, (none, is)))) = none_quiet acts halt _ none is tt
quiet_runs list rows words acts halt quiet (inr (inr (owner, sets, has, (listed, are, none, is)))) = told_quiet acts halt _ _ (subst OnlyCommits (sym none) tt) is
quiet_runs (content uuid) rows words acts halt quiet (inl (none, is)) = none_quiet acts halt _ none is tt
quiet_runs (content uuid) rows words acts halt quiet (inr (inl (fresh, (none, is)))) = none_quiet acts halt _ none is tt
quiet_runs (content uuid) rows words acts halt quiet (inr (inr (owner, sets, has, inl (gone, (none, is))))) = none_quiet acts halt _ none is tt
quiet_runs (content uuid) rows words acts halt quiet (inr (inr (owner, sets, has, inr (number, local, item, stands, inl (nonce, closed, (none, is)))))) = none_quiet acts halt _ none is tt
quiet_runs (content uuid) rows words acts halt quiet (inr (inr (owner, sets, has, inr (number, local, item, stands, inr (shown, shows, (none, is)))))) = told_quiet acts halt _ _ (subst OnlyCommits (sym none) tt) is

pub only_hears : (acts : List Act) → OnlyCommits acts → HearsNoWant acts
only_hears [] only = tt
only_hears (commits what changes ∷ acts) only = only_hears acts only
only_hears (asked r reply ∷ acts) only = absurd only

pub only_served : (server : Rows) (acts : List Act) → OnlyCommits acts → AreServed server acts []
only_served server [] only = refl
only_served server (commits what changes ∷ acts) only = only_served server acts only
only_served server (asked r reply ∷ acts) only = absurd only

pub only_by : (losses : Losses) (number : ℕ) (acts : List Act) → OnlyCommits acts → AreByLosses losses number acts []
only_by losses number [] only = refl
only_by losses number (commits what changes ∷ acts) only = only_by losses number acts only
only_by losses number (asked r reply ∷ acts) only = absurd only

pub only_told : (host : Bytes) (acts : List Act) (records : List Exchanged) → OnlyCommits acts → records ≡ [] → AreTold host acts [] (commits_of acts) records
only_told host [] records only none = (refl, refl, none)
only_told host (commits what changes ∷ acts) records only none = (refl, only_told host acts records only none)
only_told host (asked r reply ∷ acts) records only none = absurd only

pub only_readable : (host : Bytes) (acts : List Act) → OnlyCommits acts → AreReadable host acts
only_readable host [] only = tt
only_readable host (commits what changes ∷ acts) only = only_readable host acts only
only_readable host (asked r reply ∷ acts) only = absurd only

-- A text to which a line is a right one isn't refused.
use Rattle.std.proofs.Common.{◌≡◌, ◌⊎◌, inl, inr, ℕ, zero, suc, ◌+◌, ◌≤◌, List, [], ◌∷◌, ◌++◌, Option, Some, None, Result, Ok, Err, length, length-append, append-nil, slice_get, refl, sym, ap, subst, ◌∙◌, arith}
use Rattle.std.proofs.lemmas.List.{append_cancel_right}
use Rattle.std.specs.Str.{IsUtf8}
use Rattle.sn_cli.specs.Calls.{OpenCallsFor, OpenRefuses, ReplayCallsFor, ReplayRefuses, SealCallsFor, SealRefuses, ShowRefuses, encryption_half, authentication_half}
use Rattle.sn_command.specs.CommandLine.{OpenLine, ServeLine, IsUsage}
use Rattle.sn_calls.specs.declared.ends.CallEnd.{CallEnd}
use Rattle.sn_cli.specs.DeviceCalls.{IsPassword, TakesPassword, first_line}
use Rattle.sn_command.specs.DeviceLines.{DeviceLine}
use Rattle.sn_cli.specs.Devices.{DeviceRuns}
use Rattle.sn_status.specs.Errors.{form_error, item_error}
use Rattle.sn_device.specs.Runs.{Call}
use Rattle.sn_cli.specs.Inputs.{MOST_INPUT, HasText, IsOneLine}
use Rattle.sn_cli.specs.Runs.{Accepts, IsInputRefusal, IsRefusal, Meets, RunsOver}
use Rattle.sn_cli.specs.Shown.{IsShown}
use Rattle.sn_course.specs.Headline.{IsNotAllowed}
use Rattle.sn_status.specs.declared.refusal.FormRefusal.{FormRefusal}
use Rattle.sn_status.specs.declared.refusal.FormRefusal.TheVariants as form
use Rattle.sn_status.specs.declared.refusal.ItemRefusal.{ItemRefusal}
use Rattle.sn_status.specs.declared.refusal.ItemRefusal.TheVariants as item
use Rattle.sn_status.specs.declared.refusal.Refusal.{Refusal}
use Rattle.sn_status.specs.declared.refusal.Refusal.TheVariants.{InputLong, InputUtf8, Form, Item, Line, NotAllowed, PasswordLine, Client}
use Rattle.sn_status.specs.declared.status.Status.{Status}
use Rattle.sn_status.specs.declared.status.Status.TheVariants.{Done, Usage, Refused, DiskFault, LinkFault, ReadFault, WriteFault, Memory, Foreign, Server, BadAnswer}
use Rattle.sn_io.specs.Streams.{GivesPart, HasGiven}
use Rattle.sn_items.proofs.Facts.{utf8_bytes}
use Rattle.sn_items.specs.Laws.{SealedOpens}
use Rattle.sn_items.specs.Refusals.{HasCause}
use Rattle.sn_items.specs.declared.error.ItemError.{ItemError}
use Rattle.sn_items.specs.declared.error.ItemError.TheVariants as item_errors
use Rattle.sn_disk.specs.declared.mem_shelf.MemShelf.{MemShelf}
use Rattle.sn_script.specs.Scripts.{AreLinesFrom, IsLineAt, IsScript, lines_of}
use Rattle.sn_script.specs.Laws.{HasOneScript}
use Rattle.sn_script.specs.declared.script.Line.{Line as ScriptLine}
use Rattle.sn_script.specs.declared.script.Script.{Script}
use Rattle.sn_string.specs.Grammar.{parts_of}
use Rattle.sn_string.specs.Laws.{IsReadBack}
use Rattle.sn_string.specs.Refusals.{RefusedFor}
use Rattle.sn_string.specs.Refusals.{IsRefusal as MayRefuse}
use Rattle.sn_string.specs.declared.reader.StringError.TheVariants as string_errors

-- ---- the input

-- what was read to the end is what was left
same_input : (i j : Option (List ℕ)) (text input : List ℕ) → i ≡ Some text → HasGiven MOST_INPUT i j input → input ≡ text
same_input None j text input is given = cc
same_input (Some left) None text input is given = absurd given.given
same_input (Some left) (Some rest) text input is given =
    let same : left ≡ text = cc in
    sym (append-nil input) ∙ ap (λ r. input ++ r) (sym given.at_end) ∙ sym given.given ∙ same

no_longer : (i j : Option (List ℕ)) (text : List ℕ) → i ≡ Some text → length text ≤ MOST_INPUT → GivesPart i j (MOST_INPUT + 1) → ⊥
no_longer None j text is short part = cc
no_longer (Some left) None text is short part = absurd part.2
no_longer (Some left) (Some rest) text is short part =
    let same : left ≡ text = cc in
    let count = part.1 in
    let whole : length left ≡ length part.0 + length rest = ap length part.2 ∙ length-append part.0 rest in
    let short_left : length left ≤ MOST_INPUT = subst (λ t. length t ≤ MOST_INPUT) (sym same) short in
    omega (arith, whole, count, short_left)

-- a text that calls for something, and that this command doesn't refuse, is no cause of a refusal
not_refused : (calls_for : List ℕ → List ℕ → Type 0) (refuses : List ℕ → Refusal → Type 0) (refusal : Refusal) (i j o p : Option (List ℕ))
    (text : List ℕ) → HasText i text → ((r : Refusal) → refuses text r → ⊥) → RunsOver calls_for refuses (Refused refusal) i j o p → ⊥
not_refused calls_for refuses InputLong i j o p text has none ran = no_longer i j text has.is has.short ran
not_refused calls_for refuses (InputUtf8 place) i j o p text has none ran =
    ran.valid.invalid (subst IsUtf8 (sym (same_input i j text ran.input has.is ran.given)) has.utf8)
not_refused calls_for refuses (Form refusal) i j o p text has none ran =
    none (Form refusal) (subst (λ t. refuses t (Form refusal)) (same_input i j text ran.text has.is ran.read.given) ran.cause)
not_refused calls_for refuses (Item refusal) i j o p text has none ran =
    none (Item refusal) (subst (λ t. refuses t (Item refusal)) (same_input i j text ran.text has.is ran.read.given) ran.cause)
not_refused calls_for refuses (Line number) i j o p text has none ran =
    none (Line number) (subst (λ t. refuses t (Line number)) (same_input i j text ran.text has.is ran.read.given) ran.cause)
not_refused calls_for refuses (NotAllowed number) i j o p text has none ran =
    none (NotAllowed number) (subst (λ t. refuses t (NotAllowed number)) (same_input i j text ran.text has.is ran.read.given) ran.cause)
not_refused calls_for refuses (PasswordLine count) i j o p text has none ran =
    none (PasswordLine count) (subst (λ t. refuses t (PasswordLine count)) (same_input i j text ran.text has.is ran.read.given) ran.cause)
not_refused calls_for refuses (Client refusal) i j o p text has none ran =
    none (Client refusal) (subst (λ t. refuses t (Client refusal)) (same_input i j text ran.text has.is ran.read.given) ran.cause)

-- ---- `open`

no_want : (refusal : ItemRefusal) → item_error refusal ≡ item_errors.Memory → ⊥
no_want (item.Form refusal) is = cc
no_want (item.OtherUuid written) is = cc
no_want (item.HashMismatch written computed) is = cc
no_want item.Padding is = cc
no_want (item.NotUtf8 place) is = cc
no_want item.NotItemKey is = cc
no_want item.NotObject is = cc
no_want (item.OtherSet nonce) is = cc

text_or_error : (answer : Result (List ℕ) ItemError) (error : ItemError) (plain : List ℕ) → answer ≡ Err error → answer ≡ Ok plain → ⊥
text_or_error answer error plain is other = cc

same_error : (answer : Result (List ℕ) ItemError) (a b : ItemError) → answer ≡ Err a → answer ≡ Err b → a ≡ b
same_error answer a b is other = cc

-- what stands before the same byte
append_same : (a b : List ℕ) → a ++ 10 ∷ [] ≡ b ++ 10 ∷ [] → a ≡ b
append_same a b is = append_cancel_right a b (10 ∷ []) is

one_line : (input a b : List ℕ) → IsOneLine input a → IsOneLine input b → a ≡ b
one_line input a b (inl first) (inl second) = append_same a b (sym first ∙ second)
one_line input a b (inl first) (inr second) = absurd (second.1 a first)
one_line input a b (inr first) (inl second) = absurd (first.1 b second)
one_line input a b (inr first) (inr second) = sym first.0 ∙ second.0

open_apart : SealedOpens → (line : OpenLine) (input plain : List ℕ) → OpenCallsFor line input plain → (refusal : Refusal)
    → OpenRefuses line input refusal → ⊥
open_apart law line input plain calls InputLong refuses = refuses
open_apart law line input plain calls (InputUtf8 place) refuses = refuses
open_apart law line input plain calls (Form refusal) refuses = refuses
open_apart law line input plain calls (Line number) refuses = refuses
open_apart law line input plain calls (NotAllowed number) refuses = refuses
open_apart law line input plain calls (PasswordLine count) refuses = refuses
open_apart law line input plain calls (Client refusal) refuses = refuses
open_apart law line input plain calls (Item refusal) refuses =
    let cause : HasCause calls.text line.uuid (encryption_half line.key) (authentication_half line.key) (item_error refusal) =
    subst (λ t. HasCause t line.uuid (encryption_half line.key) (authentication_half line.key) (item_error refusal))
    (one_line input refuses.text calls.text refuses.one_line calls.one_line) refuses.cause in
    let answer : Result (List ℕ) ItemError = Err (item_error refusal) in
    let either : (answer ≡ Ok plain) ⊎ (answer ≡ Err item_errors.Memory) =
    law calls.text line.uuid (encryption_half line.key) (authentication_half line.key) plain answer (utf8_bytes plain calls.opens.utf8)
    calls.opens tt cause in
    elim either [
      | inl opened ↦ text_or_error answer (item_error refusal) plain refl opened
      | inr want ↦ no_want refusal (same_error answer (item_error refusal) item_errors.Memory refl want)
    ]

-- ---- `show`

may_refuse : (text : List ℕ) (refusal : FormRefusal) → RefusedFor (parts_of text) (form_error refusal) → MayRefuse text (form_error refusal)
may_refuse text (form.Parts count) refuses = refuses
may_refuse text (form.Version place) refuses = refuses
may_refuse text (form.Hash place) refuses = refuses
may_refuse text (form.Uuid place) refuses = refuses
may_refuse text (form.Iv place) refuses = refuses
may_refuse text (form.Ciphertext place) refuses = refuses
may_refuse text (form.Params place) refuses = refuses

no_form_want : (refusal : FormRefusal) → form_error refusal ≡ string_errors.Memory → ⊥
no_form_want (form.Parts count) is = cc
no_form_want (form.Version place) is = cc
no_form_want (form.Hash place) is = cc
no_form_want (form.Uuid place) is = cc
no_form_want (form.Iv place) is = cc
no_form_want (form.Ciphertext place) is = cc
no_form_want (form.Params place) is = cc

show_apart : IsReadBack → (text output : List ℕ) → IsShown text output → (refusal : Refusal) → ShowRefuses text refusal → ⊥
show_apart law text output shown InputLong refuses = refuses
show_apart law text output shown (InputUtf8 place) refuses = refuses
show_apart law text output shown (Form refusal) refuses =
    no_form_want refusal (law text shown.reading shown.reads (Err (form_error refusal)) (may_refuse text refusal refuses))
show_apart law text output shown (Item refusal) refuses = refuses
show_apart law text output shown (Line number) refuses = refuses
show_apart law text output shown (NotAllowed number) refuses = refuses
show_apart law text output shown (PasswordLine count) refuses = refuses
show_apart law text output shown (Client refusal) refuses = refuses

-- ---- `replay`

-- each of the texts is a line at its place
line_there : (texts : List (List ℕ)) (lines : List ScriptLine) (from place n : ℕ) (text : List ℕ) → AreLinesFrom from texts lines
    → slice_get texts place ≡ Some text → n ≡ from + place → (l : ScriptLine) × IsLineAt n text l
line_there [] lines from place n text are there is = cc
line_there (t ∷ ts) [] from place n text are there is = absurd are
line_there (t ∷ ts) (l ∷ ls) from zero n text are there is =
    let at : from ≡ n = omega (arith, is) in
    let same : t ≡ text = cc in
    (l, subst (λ k. IsLineAt k text l) at (subst (λ u. IsLineAt from u l) same are.0))
line_there (t ∷ ts) (l ∷ ls) from (suc place) n text are there is =
    line_there ts ls (suc from) place n text are.1 there (omega (arith, is))

replay_apart : HasOneScript → (text : List ℕ) (script : Script) → IsScript text script.lines → ((number : ℕ) → ¬ (IsNotAllowed script number))
    → (refusal : Refusal) → ReplayRefuses text refusal → ⊥
replay_apart one text script is allowed InputLong refuses = refuses
replay_apart one text script is allowed (InputUtf8 place) refuses = refuses
replay_apart one text script is allowed (Form refusal) refuses = refuses
replay_apart one text script is allowed (Item refusal) refuses = refuses
replay_apart one text script is allowed (PasswordLine count) refuses = refuses
replay_apart one text script is allowed (Client refusal) refuses = refuses
replay_apart one text script is allowed (Line number) refuses =
    let found = line_there (lines_of text) script.lines 0 refuses.place refuses.place refuses.wrong_text is refuses.there (omega arith) in
    refuses.wrong found.0 found.1
replay_apart one text script is allowed (NotAllowed number) (other, other_is, refused) =
    let lines : other.lines ≡ script.lines = one text other.lines script.lines other_is is in
    let same : other ≡ script = ap (λ (ls : List ScriptLine). record { lines = ls }) lines in
    allowed number (subst (λ (s : Script). IsNotAllowed s number) same refused)

-- ---- every command

no_usage : (words : List (List ℕ)) (text : List ℕ) → IsUsage words → Accepts words text → ⊥
no_usage words text usage (inl (line, is)) = usage.no_seal line is
no_usage words text usage (inr (inl (line, plain, is, calls))) = usage.no_open line is
no_usage words text usage (inr (inr (inl (output, is, shown)))) = usage.no_show is
no_usage words text usage (inr (inr (inr (script, is, text_is, allowed)))) = usage.no_replay is

none_refused : SealedOpens → IsReadBack → HasOneScript → (words : List (List ℕ)) (serves : ServeLine → Status → Type 0) (ends : List ℕ → Call → Option (List ℕ) → CallEnd → Type 0) (untouched left link_left shelf_left : Type 0) (refusal : Refusal) (b c : MemShelf) (i j o p : Option (List ℕ))
    (s t : Option (List (List ℕ))) (text : List ℕ) → HasText i text → Accepts words text → Meets words serves ends untouched left link_left shelf_left (Refused refusal) b c i j o p s t → ⊥
none_refused opens reads one words serves ends untouched left link_left shelf_left refusal b c i j o p s t text has (inl (line, is)) met =
    let runs = met.seal line is in
    not_refused (SealCallsFor line runs.seed) SealRefuses refusal i j o p text has (λ r refuses. refuses) runs.ran
none_refused opens reads one words serves ends untouched left link_left shelf_left refusal b c i j o p s t text has (inr (inl (line, plain, is, calls))) met =
    not_refused (OpenCallsFor line) (OpenRefuses line) refusal i j o p text has (open_apart opens line text plain calls) (met.open_ line is)
none_refused opens reads one words serves ends untouched left link_left shelf_left refusal b c i j o p s t text has (inr (inr (inl (output, is, shown)))) met =
    not_refused IsShown ShowRefuses refusal i j o p text has (show_apart reads text output shown) (met.show is)
none_refused opens reads one words serves ends untouched left link_left shelf_left refusal b c i j o p s t text has (inr (inr (inr (script, is, text_is, allowed)))) met =
    not_refused (ReplayCallsFor c) ReplayRefuses refusal i j o p text has (replay_apart one text script text_is allowed) (met.replay is)

pub accepted : SealedOpens → IsReadBack → HasOneScript → (words : List (List ℕ)) (serves : ServeLine → Status → Type 0) (ends : List ℕ → Call → Option (List ℕ) → CallEnd → Type 0) (untouched left link_left shelf_left : Type 0) (status : Status) (b c : MemShelf) (i j o p : Option (List ℕ))
    (s t : Option (List (List ℕ))) → Meets words serves ends untouched left link_left shelf_left status b c i j o p s t → (text : List ℕ) → HasText i text → Accepts words text
    → IsRefusal status → ⊥
accepted opens reads one words serves ends untouched left link_left shelf_left Done b c i j o p s t met text has accepts refusal = refusal
accepted opens reads one words serves ends untouched left link_left shelf_left Usage b c i j o p s t met text has accepts refusal = no_usage words text met.spelled accepts
accepted opens reads one words serves ends untouched left link_left shelf_left (Refused r) b c i j o p s t met text has accepts refusal =
    none_refused opens reads one words serves ends untouched left link_left shelf_left r b c i j o p s t text has accepts met
accepted opens reads one words serves ends untouched left link_left shelf_left ReadFault b c i j o p s t met text has accepts refusal = refusal
accepted opens reads one words serves ends untouched left link_left shelf_left WriteFault b c i j o p s t met text has accepts refusal = refusal
accepted opens reads one words serves ends untouched left link_left shelf_left Memory b c i j o p s t met text has accepts refusal = refusal
accepted opens reads one words serves ends untouched left link_left shelf_left DiskFault b c i j o p s t met text has accepts refusal = refusal
accepted opens reads one words serves ends untouched left link_left shelf_left LinkFault b c i j o p s t met text has accepts refusal = refusal
accepted opens reads one words serves ends untouched left link_left shelf_left (Foreign unfit) b c i j o p s t met text has accepts refusal = refusal
accepted opens reads one words serves ends untouched left link_left shelf_left (Server number tag) b c i j o p s t met text has accepts refusal = refusal
accepted opens reads one words serves ends untouched left link_left shelf_left (BadAnswer place) b c i j o p s t met text has accepts refusal = refusal

-- ---- a device

-- an input of which the line takes what it asks isn't refused
pub taken : (ends : List ℕ → Call → Option (List ℕ) → CallEnd → Type 0) (untouched : Type 0) (line : DeviceLine) (status : Status)
    (i j o p : Option (List ℕ)) (text : List ℕ) → DeviceRuns ends untouched line i j o p status
    → HasText i text → (TakesPassword line.task → IsPassword (first_line text)) → IsInputRefusal status → ⊥
taken ends untouched line Done i j o p text runs has password refusal = refusal
taken ends untouched line Usage i j o p text runs has password refusal = runs
taken ends untouched line (Refused InputLong) i j o p text runs has password refusal = no_longer i j text has.is has.short runs.read.stops
taken ends untouched line (Refused (InputUtf8 place)) i j o p text runs has password refusal =
    runs.read.stops.valid.invalid (subst IsUtf8 (sym (same_input i j text runs.read.stops.input has.is runs.read.stops.given)) has.utf8)
taken ends untouched line (Refused (Form cause)) i j o p text runs has password refusal = runs
taken ends untouched line (Refused (Item cause)) i j o p text runs has password refusal = runs
taken ends untouched line (Refused (Line number)) i j o p text runs has password refusal = runs
taken ends untouched line (Refused (NotAllowed number)) i j o p text runs has password refusal = runs
taken ends untouched line (Refused (PasswordLine count)) i j o p text runs has password refusal =
    runs.read.none (subst (λ t. IsPassword (first_line t)) (sym (same_input i j text runs.read.text has.is runs.read.read.given)) (password runs.read.takes))
taken ends untouched line (Refused (Client cause)) i j o p text runs has password refusal = refusal
taken ends untouched line DiskFault i j o p text runs has password refusal = refusal
taken ends untouched line LinkFault i j o p text runs has password refusal = refusal
taken ends untouched line ReadFault i j o p text runs has password refusal = refusal
taken ends untouched line WriteFault i j o p text runs has password refusal = refusal
taken ends untouched line Memory i j o p text runs has password refusal = refusal
taken ends untouched line (Foreign fault) i j o p text runs has password refusal = refusal
taken ends untouched line (Server number tag) i j o p text runs has password refusal = refusal
taken ends untouched line (BadAnswer place) i j o p text runs has password refusal = refusal

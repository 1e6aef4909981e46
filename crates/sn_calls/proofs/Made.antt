-- A call that was made, by what the device's calls say.
use Rattle.std.specs.Prelude.{Bool, true, false, Option, Some, None, Result, Ok, Err}
use Rattle.std.proofs.Common.{◌≡◌, ◌∙◌, ℕ, List, [], refl, sym, subst}
use Rattle.rand_chacha.specs.ChaCha.{ChaCha, of_seed}
use Rattle.sn_client.specs.Calls.{Calls, CallsOver, Ends, IsOpen, MayHave, Tells, called_disk, device_disk, device_rows, kept_done}
use Rattle.sn_device.specs.Runs.{Act, AreExchanges, Call, Given, Halt, Run, answered, refused}
use Rattle.sn_device.specs.States.{Bytes}
use Rattle.sn_client.specs.declared.called.Called.{Called}
use Rattle.sn_client.specs.declared.called.Called.TheVariants as called
use Rattle.sn_client.specs.declared.device.Device.{Device}
use Rattle.sn_device.specs.declared.error.ClientError.{ClientError}
use Rattle.sn_disk.specs.declared.disk.Disk.{Ghosts}
use Rattle.sn_io.specs.Streams.{Gains}
use Rattle.sn_journal.specs.declared.owner.Owner.{Owner}
use Rattle.sn_net.specs.Exchanges.{Exchange}
use Rattle.sn_rows.specs.Table.{Rows}
use Rattle.sn_table.specs.Batches.{IsStore}
use Rattle.sn_table.specs.Facts.{open_each}
use Rattle.sn_table.specs.Kept.{Kept}
use Rattle.sn_calls.specs.Ends.{RunsCall, outside}
use Rattle.sn_calls.specs.Making.{Draws, EachStands, HasEnded, HasRun, IsAimed, end_called, end_told}
use Rattle.sn_calls.specs.Parts.{call_of, draws, given_of, server_of}
use Rattle.sn_calls.specs.declared.device_call.DeviceCall.{DeviceCall}
use Rattle.sn_calls.specs.declared.ends.Answered.{Answered}
use Rattle.sn_calls.specs.declared.ends.CallEnd.{CallEnd}
use Rattle.sn_calls.specs.declared.ends.CallEnd.TheVariants as end

-- the words of a seed that was drawn
pub drawn_so : {R : Type 0} (drawn : R → Option (List (List ℕ))) (old new : R) (seed : List ℕ) (words : ChaCha) (P : ChaCha → Type 0) → Gains (drawn old) (drawn new) seed
    → words ≡ of_seed seed → P words → Draws drawn true old new P
drawn_so drawn old new seed words P gains is p = (seed, gains, subst P is p)

-- of the words of a call another thing holds, too
pub draws_on : {R : Type 0} (drawn : R → Option (List (List ℕ))) (b : Bool) (old new : R) (P Q : ChaCha → Type 0) → ((words : ChaCha) → P words → Q words)
    → Draws drawn b old new P → Draws drawn b old new Q
draws_on drawn true old new P Q more (seed, gains, p) = (seed, gains, more (of_seed seed) p)
draws_on drawn false old new P Q more (same, p) = (same, λ words. more words (p words))

pub draws_none : {R : Type 0} (drawn : R → Option (List (List ℕ))) (b : Bool) (old new : R) (P : ChaCha → Type 0) → ((words : ChaCha) → P words → ⊥)
    → Draws drawn b old new P → ⊥
draws_none drawn true old new P none (seed, gains, p) = none (of_seed seed) p
draws_none drawn false old new P none (same, p) = let words : ChaCha = record { key = []; stream = 0; word_pos = 0 } in none words (p words)

module _ {D : Type 0} {g : Ghosts D} where
  -- a crash leaves the batches of an open device
  pub device_each : (device : Device D g) (kept : Kept) → IsOpen device kept → g.told → EachStands g (device_disk device) kept.batches
  device_each device kept is told = λ c left. subst (λ (o : Owner). IsStore o c kept.batches) device.owner (open_each device.table kept.batches (is.stands told) c left)

  pub back_each : (device : Device D g) (kept : Kept) (back : D) → back ≡ device_disk device → IsOpen device kept → g.told → EachStands g back kept.batches
  back_each device kept back same is told = subst (λ (d : D). EachStands g d kept.batches) (sym same) (device_each device kept is told)

module _ {D T : Type 0} {g : Ghosts D} (says : T → Answered) (kept : Kept) (acts : List Act) (halt : Halt) (left : ChaCha) (back : D) where
  ended : (result : Called (Device D g) D T) → Ends {S = Device D g} {D = D} IsOpen (MayHave g.told g.may_leave) (λ given. given_of (says given)) kept acts halt left result
      → back ≡ called_disk device_disk result → HasEnded g kept acts halt back (end_called says result)
  ended (called.Done device given) ends same = (left, ends.0, back_each device (kept_done kept acts) back same ends.1)
  ended (called.Refused device why) ends same = (ends.0, back_each device (kept_done kept acts) back same ends.1)
  ended (called.Broken disk) ends same = (ends.0, ends.1, ends.2, subst (λ (d : D). MayHave g.told g.may_leave d (kept_done kept acts) ends.1) (sym same) ends.3)

module _ {D L T : Type 0} {g : Ghosts D} (asks : L → L → List Exchange → Type 0) (aimed : L → Bytes) (least : ℕ) (old new : L) (says : T → Answered) (kept : Kept)
    (back : D) (how : CallEnd) (call : Call) where
  -- a call that asks nothing
  pub run_alone : (words left : ChaCha) (result : Called (Device D g) D T)
      → Calls {S = Device D g} {D = D} IsOpen (MayHave g.told g.may_leave) (λ given. given_of (says given)) least call kept words left result
      → new ≡ old → back ≡ called_disk device_disk result → how ≡ end_called says result → HasRun g asks aimed call None least old new kept words back how
  run_alone words left result calls same back_is end_is =
      subst (λ (e : CallEnd). HasRun g asks aimed call None least old new kept words back e) (sym end_is) (record {
        acts = calls.acts;
        halt = calls.halt;
        runs = calls.runs;
        asked = same;
        ended = ended says kept calls.acts calls.halt left back result calls.ends back_is;
      })

  -- a call that asks the link's host
  pub run_over : (host : Bytes) (words left : ChaCha) (result : Called (Device D g) D T)
      → CallsOver {S = Device D g} {D = D} IsOpen (MayHave g.told g.may_leave) (λ given. given_of (says given)) least call (asks old new) (aimed old) kept words left result
      → aimed old ≡ host → aimed new ≡ aimed old → back ≡ called_disk device_disk result → how ≡ end_called says result
      → HasRun g asks aimed call (Some host) least old new kept words back how
  run_over host words left result calls aim stays back_is end_is =
      subst (λ (e : CallEnd). HasRun g asks aimed call (Some host) least old new kept words back e) (sym end_is) (record {
        acts = calls.acts;
        halt = calls.halt;
        runs = calls.runs;
        asked = (stays ∙ aim, calls.exchanges, subst (λ (h : Bytes). AreExchanges h calls.acts calls.exchanges) aim calls.are, calls.asked_so);
        ended = ended says kept calls.acts calls.halt left back result calls.ends back_is;
      })

  -- a call that changes nothing
  pub run_told : (device : Device D g) (words : ChaCha) (result : Result T ClientError) → Tells least call (device_rows device) (λ given. given_of (says given)) result
      → IsOpen device kept → new ≡ old → back ≡ device_disk device → how ≡ end_told says result → HasRun g asks aimed call None least old new kept words back how
  run_told device words (Ok given) tells is same back_is end_is =
      subst (λ (e : CallEnd). HasRun g asks aimed call None least old new kept words back e) (sym end_is) (record {
        acts = [];
        halt = answered (given_of (says given)) words;
        runs = subst (λ (rows : Rows). Run least call rows words [] (answered (given_of (says given)) words)) is.rows_are (tells words);
        asked = same;
        ended = (words, refl, back_each device kept back back_is is);
      })
  run_told device words (Err why) tells is same back_is end_is =
      subst (λ (e : CallEnd). HasRun g asks aimed call None least old new kept words back e) (sym end_is) (record {
        acts = [];
        halt = refused why;
        runs = subst (λ (rows : Rows). Run least call rows words [] (refused why)) is.rows_are (tells words);
        asked = same;
        ended = (refl, back_each device kept back back_is is);
      })

module _ {D L R T : Type 0} (g : Ghosts D) (asks : L → L → List Exchange → Type 0) (aimed : L → Bytes) (drawn : R → Option (List (List ℕ))) (least : ℕ) (old_link new_link : L)
    (old_seeds new_seeds : R) (says : T → Answered) (kept : Kept) (back : D) (how : CallEnd) (asked made : DeviceCall) (is : asked ≡ made) where
  abbrev Ran : Option Bytes → ChaCha → Type 0
  Ran server words = HasRun g asks aimed (call_of made) server least old_link new_link kept words back how

  abbrev MakesOf : DeviceCall → Type 0
  MakesOf dc = RunsCall g asks aimed drawn (call_of dc) (server_of dc) least (outside old_link old_seeds) (outside new_link new_seeds) kept back how

  -- the call that was asked for, by its server and whether it draws
  as_asked : (server : Option Bytes) (b : Bool) → server_of made ≡ server → draws (call_of made) ≡ b → Draws drawn b old_seeds new_seeds (Ran server) → MakesOf asked
  as_asked server b server_is draws_is drew =
      subst MakesOf (sym is)
      (subst (λ (s : Option Bytes). Draws drawn (draws (call_of made)) old_seeds new_seeds (Ran s)) (sym server_is)
      (subst (λ (d : Bool). Draws drawn d old_seeds new_seeds (Ran server)) (sym draws_is) drew))

  -- a call over the link
  pub makes_over : (host : Bytes) (seed : List ℕ) (words left : ChaCha) (result : Called (Device D g) D T) → server_of made ≡ Some host → draws (call_of made) ≡ true
      → Gains (drawn old_seeds) (drawn new_seeds) seed → words ≡ of_seed seed → IsAimed (server_of asked) (aimed old_link)
      → CallsOver {S = Device D g} {D = D} IsOpen (MayHave g.told g.may_leave) (λ given. given_of (says given)) least (call_of made) (asks old_link new_link) (aimed old_link) kept words left result
      → aimed new_link ≡ aimed old_link → back ≡ called_disk device_disk result → how ≡ end_called says result → MakesOf asked
  makes_over host seed words left result server_is draws_is gains words_are aim calls stays back_is end_is =
      let aim_made : IsAimed (server_of made) (aimed old_link) = subst (λ (dc : DeviceCall). IsAimed (server_of dc) (aimed old_link)) is aim in
      let aim_host : aimed old_link ≡ host = subst (λ (s : Option Bytes). IsAimed s (aimed old_link)) server_is aim_made in
      as_asked (Some host) true server_is draws_is
      (drawn_so drawn old_seeds new_seeds seed words (Ran (Some host)) gains words_are
      (run_over asks aimed least old_link new_link says kept back how (call_of made) host words left result calls aim_host stays back_is end_is))

  -- one that draws and asks nothing
  pub makes_drawn : (seed : List ℕ) (words left : ChaCha) (result : Called (Device D g) D T) → server_of made ≡ None → draws (call_of made) ≡ true
      → Gains (drawn old_seeds) (drawn new_seeds) seed → words ≡ of_seed seed
      → Calls {S = Device D g} {D = D} IsOpen (MayHave g.told g.may_leave) (λ given. given_of (says given)) least (call_of made) kept words left result
      → new_link ≡ old_link → back ≡ called_disk device_disk result → how ≡ end_called says result → MakesOf asked
  makes_drawn seed words left result server_is draws_is gains words_are calls same back_is end_is =
      as_asked None true server_is draws_is
      (drawn_so drawn old_seeds new_seeds seed words (Ran None) gains words_are
      (run_alone asks aimed least old_link new_link says kept back how (call_of made) words left result calls same back_is end_is))

  -- one that changes something and draws nothing
  pub makes_undrawn : (result : Called (Device D g) D T) → server_of made ≡ None → draws (call_of made) ≡ false → new_seeds ≡ old_seeds
      → ((words : ChaCha) → Calls {S = Device D g} {D = D} IsOpen (MayHave g.told g.may_leave) (λ given. given_of (says given)) least (call_of made) kept words words result)
      → new_link ≡ old_link → back ≡ called_disk device_disk result → how ≡ end_called says result → MakesOf asked
  makes_undrawn result server_is draws_is undrawn calls same back_is end_is =
      as_asked None false server_is draws_is
      (undrawn, λ words. run_alone asks aimed least old_link new_link says kept back how (call_of made) words words result (calls words) same back_is end_is)

  -- one that changes nothing
  pub makes_told : (device : Device D g) (result : Result T ClientError) → server_of made ≡ None → draws (call_of made) ≡ false → new_seeds ≡ old_seeds
      → Tells least (call_of made) (device_rows device) (λ given. given_of (says given)) result → IsOpen device kept → new_link ≡ old_link → back ≡ device_disk device
      → how ≡ end_told says result → MakesOf asked
  makes_told device result server_is draws_is undrawn tells opens same back_is end_is =
      as_asked None false server_is draws_is
      (undrawn, λ words. run_told asks aimed least old_link new_link says kept back how (call_of made) device words result tells opens same back_is end_is)

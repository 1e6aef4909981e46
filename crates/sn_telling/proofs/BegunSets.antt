-- What is told of the set that a request would begin is what it begins.
use Rattle.std.proofs.Common.{◌≡◌, Option, Some, sym, ap, ◌∙◌, subst}
use Rattle.sn_device.specs.Runs.{Call, content, delete, edit, list, passwd, put, register, sign_in, sync}
use Rattle.sn_device.specs.States.{IsInSlot}
use Rattle.sn_keys.specs.Keys.{AreKeysOf, derived, third}
use Rattle.sn_laws.specs.Lookups.{Bytes}
use Rattle.sn_rows.specs.Table.{Rows}
use Rattle.sn_rows.specs.declared.key.Slot.TheVariants.{Asked}
use Rattle.sn_saying.specs.Served.{IsBegunAs}
use Rattle.sn_string.proofs.Facts.{same_keys}
use Rattle.sn_string.specs.declared.params.KeySet.{KeySet}
use Rattle.sn_string.specs.declared.params.Params.{Params}
use Rattle.sn_sync.specs.declared.request.Request.{Request}
use Rattle.sn_sync.specs.declared.request.Request.TheVariants as request
use Rattle.sn_world.specs.Calls.{BeginsBy, IsAskedFor, IsNoneOr, MayBeginBy}
use Rattle.sn_world.specs.Making.{MakesChange, MakesOf, MakesRegister}
use Rattle.sn_telling.specs.Walking.{IsBegunIn, known_of, set_given}
use Rattle.sn_telling.specs.declared.calling.Calling.{Calling}
use Rattle.sn_telling.proofs.StepsActs.{IsAskedSo}
use Rattle.sn_telling.proofs.StepsCalls.{IsRegistered, RegistersBy}

-- a password has one set of keys under some parameters
keys_one : (password : Bytes) (x y : KeySet) → AreKeysOf password x.params x → AreKeysOf password y.params y → x.params ≡ y.params → x ≡ y
keys_one password x y h k same =
    same_keys x y (ap (λ (p : Params). p.identifier) same) (ap (λ (p : Params). p.pw_cost) same) (ap (λ (p : Params). p.pw_nonce) same)
    (h.pw ∙ ap (λ (p : Params). third 0 (derived password p)) same ∙ sym k.pw)
    (h.mk ∙ ap (λ (p : Params). third 32 (derived password p)) same ∙ sym k.mk)
    (h.ak ∙ ap (λ (p : Params). third 64 (derived password p)) same ∙ sym k.ak)

params_of : (params other : Params) (pw others : Bytes) → request.Register params pw ≡ request.Register other others → params ≡ other
params_of params other pw others is = cc

-- a registration would begin the set of its call
of_registered : (password : Bytes) (given begins : Option KeySet) (params : Params) (pw : Bytes) → IsRegistered password given params
    → MakesRegister begins (request.Register params pw) → IsNoneOr (λ (set : KeySet). AreKeysOf password set.params set) begins → begins ≡ given
of_registered password given begins params pw (new, given_is, same, keys) makes may =
    let own : AreKeysOf password makes.set.params makes.set = subst (IsNoneOr (λ (set : KeySet). AreKeysOf password set.params set)) makes.is may in
    makes.is
    ∙ ap Some (keys_one password makes.set new own keys (sym (params_of params makes.set.params pw makes.set.pw makes.request_is) ∙ same)) ∙ sym given_is

of_register : (device : Rows) (call : Call) (what : Calling) (begins : Option KeySet) (params : Params) (pw : Bytes) → RegistersBy call what params
    → MakesRegister begins (request.Register params pw) → IsNoneOr (MayBeginBy device call) begins → begins ≡ set_given what
of_register device (register identifier password cost) what begins params pw of makes may = of_registered password (set_given what) begins params pw of makes may
of_register device (sign_in identifier password) what begins params pw of makes may = absurd of
of_register device (put kind text) what begins params pw of makes may = absurd of
of_register device (edit uuid text) what begins params pw of makes may = absurd of
of_register device (delete uuid) what begins params pw of makes may = absurd of
of_register device list what begins params pw of makes may = absurd of
of_register device (content uuid) what begins params pw of makes may = absurd of
of_register device sync what begins params pw of makes may = absurd of
of_register device (passwd password cost) what begins params pw of makes may = absurd of

-- a change of password the set that the device's rows ask for
of_change : (rows : Rows) (begins : Option KeySet) (r : Request) (told : Option KeySet) → MakesChange rows begins r
    → ((set : KeySet) → IsAskedFor rows set → told ≡ Some set) → begins ≡ told
of_change rows begins r told makes all =
    let asked_for : IsAskedFor rows makes.set =
    (makes.owner, makes.holds.owned, subst (IsInSlot rows makes.owner.identifier Asked) makes.asked makes.holds.wanted) in
    makes.is ∙ sym (all makes.set asked_for)

-- of each request
pub begun_so : (device rows : Rows) (call : Call) (what : Calling) (begins : Request → Option KeySet) (r : Request) (told : Option KeySet)
    → BeginsBy device call begins → IsAskedSo (RegistersBy call what) r → MakesOf rows (begins r) r → IsBegunIn what rows (Some (known_of r)) told
    → IsBegunAs r (begins r) told
begun_so device rows call what begins (request.Register params pw) told may of makes is =
    of_register device call what (begins (request.Register params pw)) params pw of makes (may (request.Register params pw)) ∙ sym is
begun_so device rows call what begins (request.Params identifier) told may of makes is = tt
begun_so device rows call what begins (request.SignIn identifier pw) told may of makes is = tt
begun_so device rows call what begins (request.ChangePw token current pw cost nonce) told may of makes is =
    of_change rows (begins (request.ChangePw token current pw cost nonce)) (request.ChangePw token current pw cost nonce) told makes is
begun_so device rows call what begins (request.Sync token items limit sync_token cursor_token) told may of makes is = tt

-- Each line that asks a device for a call: what its event is, whatever the call does.
use Rattle.std.proofs.Common.{◌≡◌, ◌≢◌, ℕ, List, [], ◌++◌, Option, Some, None, refl, sym, ap, ◌∙◌, subst}
use Rattle.std.specs.Option.{option_map}
use Rattle.hex.specs.Hex.{encode_lower}
use Rattle.rand_chacha.specs.ChaCha.{ChaCha}
use Rattle.sn_device.specs.Runs.{IsNewSet, delete, edit, passwd, put, register, sign_in, sync}
use Rattle.sn_course.specs.Stages.{Stage, Reported}
use Rattle.sn_course.specs.Fits.{CallsOf}
use Rattle.sn_course.specs.Headline.{IsPasswordOf}
use Rattle.sn_course.specs.Lines.{labelled_item, note_kind}
use Rattle.sn_course.specs.Settings.{words_of}
use Rattle.sn_course.specs.declared.settings.Settings.{Settings}
use Rattle.sn_keys.specs.Keys.{AreKeysOf, derived, third}
use Rattle.sn_laws.specs.Lookups.{Bytes}
use Rattle.sn_laws.specs.Runs.{end}
use Rattle.sn_passwd.specs.Ends.{EverySyncEnds, PasswdsEnd}
use Rattle.sn_script.specs.declared.script.Fate.{Fate}
use Rattle.sn_script.specs.declared.script.Line.{Line}
use Rattle.sn_script.specs.declared.script.Line.TheVariants as line
use Rattle.sn_script.specs.declared.script.Ordinal.{Ordinal}
use Rattle.sn_script.specs.declared.script.Script.{Script}
use Rattle.sn_string.proofs.Facts.{same_keys, same_params}
use Rattle.std.specs.Str.{IsUtf8}
use Rattle.sn_string.specs.Bounds.{IsIdentifier}
use Rattle.sn_string.specs.declared.params.KeySet.{KeySet}
use Rattle.sn_string.specs.declared.params.Params.{Params}
use Rattle.sn_telling.specs.declared.calling.Calling.TheVariants as calling
use Rattle.sn_world.specs.Holds.{Holds, TokensDiffer}
use Rattle.sn_replay.specs.Lines.{DrawsSet}
use Rattle.sn_replay.specs.Playing.{IsLineOf}
use Rattle.sn_replay.proofs.Ending.{passwd_well, sync_well}

-- ---- words draw one set

keys_one : (password : Bytes) (x y : KeySet) → AreKeysOf password x.params x → AreKeysOf password y.params y → x.params ≡ y.params → x ≡ y
keys_one password x y h k same =
    same_keys x y (ap (λ (p : Params). p.identifier) same) (ap (λ (p : Params). p.pw_cost) same) (ap (λ (p : Params). p.pw_nonce) same)
    (h.pw ∙ ap (λ (p : Params). third 0 (derived password p)) same ∙ sym k.pw)
    (h.mk ∙ ap (λ (p : Params). third 32 (derived password p)) same ∙ sym k.mk)
    (h.ak ∙ ap (λ (p : Params). third 64 (derived password p)) same ∙ sym k.ak)

one_new : (words left rest : ChaCha) (identifier password : Bytes) (cost : ℕ) (x y : KeySet) → IsNewSet words identifier password cost x left
    → IsNewSet words identifier password cost y rest → x ≡ y
one_new words left rest identifier password cost x y h k =
    let same : h.nonce_is.bytes ≡ k.nonce_is.bytes = ap (λ (p : Bytes × ChaCha). p.0) (h.nonce_is.is_drawn ∙ sym k.nonce_is.is_drawn) in
    let spelled : x.params.pw_nonce ≡ y.params.pw_nonce = h.nonce_is.spelled ∙ ap encode_lower same ∙ sym k.nonce_is.spelled in
    keys_one password x y h.keys k.keys (same_params x.params y.params (h.identifier_is ∙ sym k.identifier_is) (h.cost_is ∙ sym k.cost_is) spelled)

-- ---- the lines

module _ (script : Script) (secret : Bytes) (c : Stage) (number : ℕ) (settings : Settings) (device : Bytes) where
  abbrev reported_so : Line → Reported
  reported_so l = record { number = number; settings = settings; asks = l }

  abbrev words : ChaCha
  words = words_of settings number

  pub register_of : (identifier password : Bytes) (fates : List Fate) (set : KeySet) → IsPasswordOf script password
      → DrawsSet words identifier password settings.cost set
      → IsLineOf script secret c (reported_so (line.Register device identifier password fates)) device (register identifier password settings.cost)
      (calling.Register identifier (Some set))
  register_of identifier password fates set of draws = record {
    named = refl;
    happens = λ e next h. h;
    shows = refl;
    puts = refl;
    fits = tt;
    gives = of;
    is = (refl, λ new left drawn. ap Some (one_new words draws.0 left identifier password settings.cost set new draws.1 drawn));
    well = λ acts lost halt comes x one l ended. tt;
  }

  pub sign_in_of : (identifier password : Bytes) (fates : List Fate) (replaying : Bytes) → identifier ≡ replaying → IsIdentifier identifier → IsUtf8 identifier
      → IsPasswordOf script password
      → IsLineOf script secret c (reported_so (line.SignIn device identifier password fates)) device (sign_in identifier password) (calling.SignIn replaying)
  sign_in_of identifier password fates replaying is long utf8 of = record {
    named = refl;
    happens = λ e next h. h;
    shows = refl;
    puts = refl;
    fits = (long, utf8);
    gives = of;
    is = is;
    well = λ acts lost halt comes x one l ended. tt;
  }

  pub put_of : (fates : List Fate) (text kind content : Bytes) → note_kind ≡ kind → text ≡ content
      → IsLineOf script secret c (reported_so (line.Put device fates text)) device (put note_kind text) (calling.Put kind content)
  put_of fates text kind content kind_is text_is = record {
    named = refl;
    happens = λ e next h. h;
    shows = refl;
    puts = refl;
    fits = tt;
    gives = tt;
    is = (kind_is, text_is);
    well = λ acts lost halt comes x one l ended. tt;
  }

  pub edit_of : (label : Ordinal) (fates : List Fate) (uuid text content : Bytes) → labelled_item c.labels label ≡ Some uuid → text ≡ content
      → IsLineOf script secret c (reported_so (line.Edit device label fates text)) device (edit uuid text) (calling.Edit content)
  edit_of label fates uuid text content found text_is = record {
    named = refl;
    happens = λ e next h.
        subst (λ (o : Option Bytes). CallsOf secret c (reported_so (line.Edit device label fates text)) (Some device) (option_map (λ u. edit u text) o) e next)
        (sym found) h;
    shows = refl;
    puts = refl;
    fits = tt;
    gives = tt;
    is = text_is;
    well = λ acts lost halt comes x one l ended. tt;
  }

  pub delete_of : (label : Ordinal) (fates : List Fate) (uuid : Bytes) → labelled_item c.labels label ≡ Some uuid
      → IsLineOf script secret c (reported_so (line.Delete device label fates)) device (delete uuid) calling.Delete
  delete_of label fates uuid found = record {
    named = refl;
    happens = λ e next h.
        subst (λ (o : Option Bytes). CallsOf secret c (reported_so (line.Delete device label fates)) (Some device) (option_map delete o) e next) (sym found) h;
    shows = refl;
    puts = refl;
    fits = tt;
    gives = tt;
    is = tt;
    well = λ acts lost halt comes x one l ended. tt;
  }

  pub sync_of : EverySyncEnds → TokensDiffer secret → Holds secret c.world (end c.moves) → (fates : List Fate)
      → IsLineOf script secret c (reported_so (line.Sync device fates)) device sync calling.Sync
  sync_of ends differ h fates = record {
    named = refl;
    happens = λ e next k. k;
    shows = refl;
    puts = refl;
    fits = tt;
    gives = tt;
    is = tt;
    well = λ acts lost halt comes x one l ended. sync_well secret differ c.world c.moves h device words ends acts lost halt comes x one l ended;
  }

  pub passwd_of : PasswdsEnd → TokensDiffer secret → Holds secret c.world (end c.moves) → (password : Bytes) (fates : List Fate) → IsPasswordOf script password
      → IsLineOf script secret c (reported_so (line.Passwd device password fates)) device (passwd password settings.cost) calling.Passwd
  passwd_of ends differ h password fates of = record {
    named = refl;
    happens = λ e next k. k;
    shows = refl;
    puts = refl;
    fits = tt;
    gives = of;
    is = tt;
    well = λ acts lost halt comes x one l ended.
        passwd_well secret differ c.world c.moves h device words ends password settings.cost acts lost halt comes x one l ended;
  }

-- a label that names nothing may not be named
pub not_labelled : (labels replaying : List Bytes) (label : Ordinal) (found : Option Bytes) → replaying ≡ labels → found ≡ labelled_item replaying label → found ≡ None
    → ¬ (labelled_item labels label ≢ None)
not_labelled labels replaying label found same is none some =
    some (sym (ap (λ (ls : List Bytes). labelled_item ls label) same) ∙ sym is ∙ none)

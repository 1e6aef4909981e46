-- A sync, and a change of password, that end well.
use Rattle.std.proofs.Common.{◌≡◌, ℕ, List, [], ◌++◌, Bool, true, refl, sym, ap, ◌∙◌, subst}
use Rattle.std.specs.Prelude.{if◌then◌else◌}
use Rattle.rand_chacha.specs.ChaCha.{ChaCha}
use Rattle.sn_device.specs.Runs.{Act, Call, Given, Halt, answered, broken, passwd, refused, rows_done, sync}
use Rattle.sn_device.specs.declared.error.ClientError.{ClientError}
use Rattle.sn_device.specs.declared.error.ClientError.TheVariants as client
use Rattle.sn_course.specs.Fits.{EndsRefused, EndsSo, EndsWell}
use Rattle.sn_laws.proofs.Facts.{end_from-append, text_same}
use Rattle.sn_laws.specs.Lookups.{Bytes, empty}
use Rattle.sn_laws.specs.Runs.{end, end_from}
use Rattle.sn_laws.specs.declared.ideal.Ideal.{Ideal}
use Rattle.sn_laws.specs.declared.moves.Move.{Move}
use Rattle.sn_lines.specs.Lines.{MayHappen}
use Rattle.sn_passwd.specs.Ends.{EverySyncEnds, HasNewSet, IsAtRest, LeadsAtRest, PasswdsEnd}
use Rattle.sn_report.specs.declared.report.Last.{Last}
use Rattle.sn_report.specs.declared.report.Last.TheVariants as last
use Rattle.sn_rows.specs.Table.{Rows}
use Rattle.sn_status.specs.declared.refusal.ClientRefusal.{ClientRefusal}
use Rattle.sn_world.proofs.Facts.{by_name, made_so, others_stay, own_steps}
use Rattle.sn_world.specs.Calls.{Fate, call_steps}
use Rattle.sn_world.specs.Happens.{Happens}
use Rattle.sn_world.specs.Holds.{Holds, TokensDiffer}
use Rattle.sn_world.specs.Sessions.{LeadsLine, calls}
use Rattle.sn_world.specs.World.{World}

-- no refusal is a fine end
no_refusal : (l : Last) (why : ClientRefusal) → l ≡ last.Refused why → l ≡ last.Done → ⊥
no_refusal l why is done = absurd (cc)

refused_not : (why : ClientError) (l : Last) → EndsRefused why l → l ≡ last.Done → ⊥
refused_not client.NoAccount l h done = no_refusal l _ h done
refused_not (client.NoItem uuid) l h done = no_refusal l _ h done
refused_not (client.Closed nonce) l h done = no_refusal l _ h done
refused_not (client.TooLong length) l h done = no_refusal l _ h done
refused_not client.NotObject l h done = no_refusal l _ h done
refused_not (client.Refused status tag) l h done = absurd (cc)
refused_not (client.BadAnswer place) l h done = absurd (cc)
refused_not client.RoundsUsed l h done = no_refusal l _ h done
refused_not (client.NoFreshUuid drawn) l h done = no_refusal l _ h done
refused_not client.WrongPassword l h done = no_refusal l _ h done
refused_not (client.OtherAccount identifier) l h done = no_refusal l _ h done
refused_not (client.HasAccount identifier) l h done = no_refusal l _ h done
refused_not (client.Cost cost) l h done = no_refusal l _ h done
refused_not (client.NumbersUsed next) l h done = no_refusal l _ h done
refused_not (client.Rekey error) l h done = no_refusal l _ h done
refused_not (client.TooLarge size) l h done = no_refusal l _ h done
refused_not client.LinkFault l h done = absurd (cc)
refused_not client.Memory l h done = h

-- ---- a call that is answered

module _ (secret : Bytes) (differ : TokensDiffer secret) (w : World) (moves : List Move) (h : Holds secret w (end moves)) (name : Bytes) (words : ChaCha) where
  abbrev Leads : Call → List Act → List Fate → Halt → Type 0
  Leads call acts fates halt = LeadsLine secret w (end moves) (calls name 1 call words acts fates halt true)

  -- where the line says one list of moves, what is said behind one way to make it holds behind each
  abbrev IsOne : (call : Call) (acts : List Act) (fates : List Fate) (halt : Halt) → Leads call acts fates halt → Type 0
  IsOne call acts fates halt x = (other : Leads call acts fates halt) → other.moves ≡ x.moves

  module _ (call : Call) (acts : List Act) (fates : List Fate) (given : Given) (left : ChaCha) (y : LeadsAtRest secret w (end moves) name call acts fates)
      (x : Leads call acts fates (answered given left)) (one : IsOne call acts fates (answered given left) x) where
    abbrev steps : List Happens
    steps = call_steps name y.begins acts fates

    -- the steps that lead there make the line
    abbrev again : Leads call acts fates (answered given left)
    again = record {
      begins = y.begins;
      of_line = y.of_call;
      moves = y.leads.moves;
      next = y.leads.next;
      goes = y.leads.goes;
      server_is = y.leads.server_is;
      devices_are = by_name y.leads.next w name (λ (rows : Rows). rows_done rows acts) y.leads.device_is
          (λ other apart. others_stay secret other steps y.leads.moves w y.leads.next (end moves) (own_steps other name y.begins acts fates apart) y.leads.goes);
      made_is = made_so secret steps y.leads.moves w y.leads.next (end moves) y.leads.goes;
    }

    same_rows : y.leads.next.devices name ≡ x.next.devices name
    same_rows =
        y.leads.device_is
        ∙ sym (x.devices_are name ∙ ap (λ (b : Bool). if b then rows_done (w.devices name) acts else w.devices name) (text_same name name refl))

    same_end : end_from (end moves) y.leads.moves ≡ end (moves ++ x.moves)
    same_end = ap (end_from (end moves)) (one again) ∙ sym (end_from-append empty moves x.moves)

    pub rests : (P : Rows → Ideal → Type 0) → P (y.leads.next.devices name) (end_from (end moves) y.leads.moves) → P (x.next.devices name) (end (moves ++ x.moves))
    rests P p = subst (λ (r : Rows). P r (end (moves ++ x.moves))) same_rows (subst (P (y.leads.next.devices name)) same_end p)

  pub sync_well : EverySyncEnds → (acts : List Act) (fates : List Fate) (halt : Halt) → MayHappen secret w (end moves) (calls name 1 sync words acts fates halt true)
      → (x : Leads sync acts fates halt) → IsOne sync acts fates halt x → (l : Last) → EndsSo halt l
      → EndsWell sync name (end moves) (x.next.devices name) (end (moves ++ x.moves)) l
  sync_well ends acts fates (answered given left) comes x one l ended done =
      let y = ends secret w (end moves) name 1 words left acts fates given differ h comes.may comes.runs comes.over in
      rests sync acts fates given left y x one (λ rows s. IsAtRest rows s name) y.at_rest
  sync_well ends acts fates (refused why) comes x one l ended done = absurd (refused_not why l ended done)
  sync_well ends acts fates (broken what changes) comes x one l ended done = absurd ended

  pub passwd_well : PasswdsEnd → (password : Bytes) (cost : ℕ) (acts : List Act) (fates : List Fate) (halt : Halt)
      → MayHappen secret w (end moves) (calls name 1 (passwd password cost) words acts fates halt true)
      → (x : Leads (passwd password cost) acts fates halt) → IsOne (passwd password cost) acts fates halt x → (l : Last) → EndsSo halt l
      → EndsWell (passwd password cost) name (end moves) (x.next.devices name) (end (moves ++ x.moves)) l
  passwd_well ends password cost acts fates (answered given left) comes x one l ended done =
      let y = ends secret w (end moves) name 1 password cost words left acts fates given differ h comes.may comes.runs comes.over in
      rests (passwd password cost) acts fates given left y.0 x one
      (λ rows s. (z : IsAtRest rows s name) × HasNewSet rows (end moves) z.synced.account password cost) (y.0.at_rest, y.1)
  passwd_well ends password cost acts fates (refused why) comes x one l ended done = absurd (refused_not why l ended done)
  passwd_well ends password cost acts fates (broken what changes) comes x one l ended done = absurd ended

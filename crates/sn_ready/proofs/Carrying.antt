-- While an account gets no set, its undeleted last versions carry the last one that it has, where they did before.
use Rattle.std.proofs.Common.{◌≡◌, ◌+◌, ◌≤◌, ℕ, Bool, true, false, List, [], ◌∷◌, ◌++◌, length, length-append, Some, refl, sym, ap, ◌∙◌, subst, arith}
use Rattle.std.specs.Prelude.{IsTrue, find, map, if◌then◌else◌}
use Rattle.std.specs.Str.{bytes_eq}
use Rattle.sn_finished.specs.Finished.{CarriesLast}
use Rattle.sn_laws.proofs.AccountFrames.{Stays, account_stays}
use Rattle.sn_laws.proofs.AccountLemmas.{Changes, Gains, Grows, begins, changes, gains, grows, more, more_sets, stays}
use Rattle.sn_laws.proofs.ChangedLemmas.{find_changed}
use Rattle.sn_laws.proofs.Facts.{find_before, found_passes, identifiers_differ, last_other, last_own, one_account, one_there, same_text, text_same}
use Rattle.sn_laws.specs.Lookups.{Bytes, account_named, is_account, last_of}
use Rattle.sn_laws.specs.Moves.{after, allows}
use Rattle.sn_laws.specs.Reached.{AllDiffer}
use Rattle.sn_laws.specs.Relation.{IsLive, IsUnder}
use Rattle.sn_laws.specs.Runs.{LegalFrom, end_from}
use Rattle.sn_laws.specs.declared.ideal.Account.{Account}
use Rattle.sn_laws.specs.declared.ideal.Body.{Body}
use Rattle.sn_laws.specs.declared.ideal.Body.TheVariants.{Gone, Under}
use Rattle.sn_laws.specs.declared.ideal.Ideal.{Ideal}
use Rattle.sn_laws.specs.declared.ideal.Version.{Version}
use Rattle.sn_laws.specs.declared.moves.Move.{Move}
use Rattle.sn_passwd.proofs.Retiring.{grows_from}
use Rattle.sn_string.specs.declared.params.KeySet.{KeySet}
use Rattle.sn_world.proofs.LegalMoves.{reached_after}
use Rattle.sn_world.specs.Holds.{Reached}

-- ---- one version more

live_under : (b : Body) (n : ℕ) → IsLive b → ((k : ℕ) → IsUnder k b → n ≡ k) → IsUnder n b
live_under (Under text set) n live under = sym (under set refl)
live_under Gone n live under = absurd live

more_carries : (a : Account) (w : Version) → ((k : ℕ) → IsUnder k w.body → length a.sets ≡ k) → CarriesLast a → CarriesLast (more w a)
more_carries a w under carries uuid v last live = by (bytes_eq w.uuid uuid) refl
  where
    by : (b : Bool) → bytes_eq w.uuid uuid ≡ b → IsUnder (length a.sets) v.body
    by true e =
        let same : w ≡ v = one_there w v (last_of uuid (a.versions ++ w ∷ [])) (last_own uuid a.versions w (same_text w.uuid uuid e)) last in
        subst (λ (x : Version). IsUnder (length a.sets) x.body) same
        (live_under w.body (length a.sets) (subst (λ (x : Version). IsLive x.body) (sym same) live) under)
    by false e =
        carries uuid v
        (sym (last_other uuid a.versions w (λ k. let is : bytes_eq w.uuid uuid ≡ true = text_same w.uuid uuid k in cc)) ∙ last) live

-- ---- one move

module _ (s : Ideal) (r : Reached s) (identifier : Bytes) (a b : Account) (before : account_named s identifier ≡ Some a) (carries : CarriesLast a)
    (same_sets : length b.sets ≡ length a.sets) where
  abbrev is : Account → Bool
  is = is_account identifier

  -- of one identifier there is one account
  own : (c : Account) (uuid : Bytes) (w : Version) (next : List Account) → Gains s uuid c w next → is_account c.identifier a ≡ true → c ≡ a
  own c uuid w next g on =
      one_account s c a
      (subst (λ (t : Ideal). AllDiffer (map (λ (x : Account). x.identifier) t.accounts)) (sym r.is) (identifiers_differ r.moves r.legal)) g.among
      (found_passes is s.accounts a before).1 (sym (same_text a.identifier c.identifier on))

  gained : (c : Account) (uuid : Bytes) (w : Version) (next : List Account) → Gains s uuid c w next → find is next ≡ Some b → CarriesLast b
  gained c uuid w next g found = by (is_account c.identifier a) refl
    where
      there : find is next ≡ Some (if is_account c.identifier a then more w a else a)
      there = ap (find is) g.next_is ∙ find_changed is (is_account c.identifier) (more w) (λ x. refl) s.accounts a before

      by : (q : Bool) → is_account c.identifier a ≡ q → CarriesLast b
      by true on =
          let same : c ≡ a = own c uuid w next g on in
          let is_b : more w a ≡ b =
          one_there (more w a) b (find is next) (there ∙ ap (λ (q : Bool). Some (if q then more w a else a)) on) found in
          subst CarriesLast is_b
          (more_carries a w (subst (λ (x : Account). (k : ℕ) → IsUnder k w.body → length x.sets ≡ k) same g.under) carries)
      by false off =
          subst CarriesLast (one_there a b (find is next) (there ∙ ap (λ (q : Bool). Some (if q then more w a else a)) off) found) carries

  changed : (other : Bytes) (number : ℕ) (set : KeySet) (next : List Account) → Changes s other number set next → find is next ≡ Some b → CarriesLast b
  changed other number set next c found = by (is_account other a) refl
    where
      there : find is next ≡ Some (if is_account other a then more_sets set a else a)
      there = ap (find is) c.next_is ∙ find_changed is (is_account other) (more_sets set) (λ x. refl) s.accounts a before

      by : (q : Bool) → is_account other a ≡ q → CarriesLast b
      by true on =
          let is_b : more_sets set a ≡ b =
          one_there (more_sets set a) b (find is next) (there ∙ ap (λ (q : Bool). Some (if q then more_sets set a else a)) on) found in
          let longer : length b.sets ≡ length a.sets + 1 = ap (λ (x : Account). length x.sets) (sym is_b) ∙ length-append a.sets (set ∷ []) in
          absurd (omega arith)
      by false off =
          subst CarriesLast (one_there a b (find is next) (there ∙ ap (λ (q : Bool). Some (if q then more_sets set a else a)) off) found) carries

  grown : (next : List Account) → Grows s next → find is next ≡ Some b → CarriesLast b
  grown next (stays e) found = subst CarriesLast (one_there a b (find is next) (ap (find is) e ∙ before) found) carries
  grown next (begins x) found =
      subst CarriesLast
      (one_there a b (find is next)
      (ap (find is) x.next_is ∙ find_before is s.accounts (record { identifier = x.identifier; sets = x.set ∷ []; versions = [] } ∷ []) a before) found)
      carries
  grown next (gains uuid c w g) found = gained c uuid w next g found
  grown next (changes other number set c) found = changed other number set next c found

  pub step_carries : (m : Move) → IsTrue (allows s m) → account_named (after s m) identifier ≡ Some b → CarriesLast b
  step_carries m may found = grown (after s m).accounts (grows s m may) found

-- ---- all moves

pub stays_carrying : (ms : List Move) (s : Ideal) → Reached s → LegalFrom s ms → (identifier : Bytes) (a b : Account) → account_named s identifier ≡ Some a
    → account_named (end_from s ms) identifier ≡ Some b → length b.sets ≡ length a.sets → CarriesLast a → CarriesLast b
stays_carrying [] s r legal identifier a b before found same carries =
    subst CarriesLast (one_there a b (account_named s identifier) before found) carries
stays_carrying (m ∷ ms) s r legal identifier a b before found same carries =
    let x : Stays a (account_named (after s m) identifier) = account_stays s m identifier a legal.0 before in
    let y = grows_from ms (after s m) legal.1 identifier x.now_is x.found_is in
    let last : y.0 ≡ b = one_there y.0 b (account_named (end_from (after s m) ms) identifier) y.1 found in
    let fewer : length a.sets ≤ length x.now_is.sets =
    (let longer = ap length x.grown.sets_are ∙ length-append a.sets x.grown.sets in omega arith) in
    let within : length x.now_is.sets ≤ length b.sets = subst (λ (z : Account). length x.now_is.sets ≤ length z.sets) last y.2 in
    let first : length x.now_is.sets ≡ length a.sets = omega (arith, fewer, within, same) in
    let later : length b.sets ≡ length x.now_is.sets = omega (arith, fewer, within, same) in
    stays_carrying ms (after s m) (reached_after s (m ∷ []) r (legal.0, tt)) legal.1 identifier x.now_is b x.found_is found later
    (step_carries s r identifier a x.now_is before carries first m legal.0 x.found_is)

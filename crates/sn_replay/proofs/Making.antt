-- Devices by their names, and the requests that a call makes with what is kept of them.
use Rattle.std.proofs.Common.{◌≡◌, ◌≢◌, ◌⊎◌, List, [], ◌∷◌, ◌++◌, Bool, true, false, Option, Some, None, refl, sym, ap, ◌∙◌, subst, inl, inr, append_assoc}
use Rattle.std.specs.Prelude.{if◌then◌else◌, filter, reverse}
use Rattle.std.specs.List.{AllZip, list_any}
use Rattle.std.specs.Str.{bytes_eq}
use Rattle.std.proofs.lemmas.List.{append-nil, reverse-append}
use Rattle.sn_device.specs.Asking.{Reply}
use Rattle.sn_device.specs.Runs.{Act, asked, commits as committed}
use Rattle.sn_course.specs.Stages.{made_by, names_with}
use Rattle.sn_events.specs.Calling.{host}
use Rattle.sn_laws.proofs.Facts.{same_text, text_same}
use Rattle.sn_laws.specs.Each.{One}
use Rattle.sn_laws.specs.Lookups.{Bytes}
use Rattle.sn_link.specs.Laws.{AreReadable, IsReadable}
use Rattle.sn_recorder.specs.Told.{AreTold, IsToldOf}
use Rattle.sn_recorder.specs.declared.exchanged.Exchanged.{Exchanged}
use Rattle.sn_rows.specs.declared.change.Change.{Change as RowChange}
use Rattle.sn_saying.specs.Served.{IsBegunAs}
use Rattle.sn_string.specs.declared.params.KeySet.{KeySet}
use Rattle.sn_sync.specs.declared.request.Request.{Request}
use Rattle.sn_telling.specs.Laws.{AreBegunAs}
use Rattle.sn_telling.specs.Walking.{requests_in}
use Rattle.sn_world.specs.Calls.{Fate, call_steps, crashed, fate_steps, served, undelivered}
use Rattle.sn_world.specs.Happens.{Happens, makes}
use Rattle.sn_world.specs.Sessions.{made_behind}
use Rattle.sn_world.specs.World.{Made}
use Rattle.sn_replay.specs.Keeping.{IsKeptOf, kept_all}
use Rattle.sn_replay.specs.declared.kept.Kept.{Kept}
use Rattle.sn_replay.proofs.Lists.{one_before, one_last, one_named, zip_append}

-- ---- names

pub same_or_apart : (one other : Bytes) → (one ≡ other) ⊎ (one ≢ other)
same_or_apart one other = at (bytes_eq one other) refl
  where
    at : (b : Bool) → bytes_eq one other ≡ b → (one ≡ other) ⊎ (one ≢ other)
    at true same = inl (same_text one other same)
    at false off = inr (λ e. let on : bytes_eq one other ≡ true = text_same one other e in absurd (cc))

pub bytes_apart : (one other : Bytes) → one ≢ other → bytes_eq one other ≡ false
bytes_apart one other apart = at (bytes_eq one other) refl
  where
    at : (b : Bool) → bytes_eq one other ≡ b → bytes_eq one other ≡ false
    at true same = absurd (apart (same_text one other same))
    at false off = off

pub names_among : (names : List Bytes) (name : Bytes) → One (λ n. n ≡ name) (names_with names (Some name))
names_among names name = at (list_any (λ n. bytes_eq n name) names) refl
  where
    at : (b : Bool) → list_any (λ n. bytes_eq n name) names ≡ b → One (λ n. n ≡ name) (if b then names else names ++ name ∷ [])
    at true same = one_named names name same
    at false off = one_last (λ n. n ≡ name) names name refl

pub names_grow : (P : Bytes → Type 0) (names : List Bytes) (found : Option Bytes) → One P names → One P (names_with names found)
names_grow P names None h = h
names_grow P names (Some name) h = at (list_any (λ n. bytes_eq n name) names)
  where
    at : (b : Bool) → One P (if b then names else names ++ name ∷ [])
    at true = h
    at false = one_before P names (name ∷ []) h

-- ---- the requests of one device

abbrev by_of : Bytes → Made → Bool
by_of name m = bytes_eq m.device name

made_own : (name : Bytes) (m : Made) (made : List Made) → m.device ≡ name → made_by name (m ∷ made) ≡ made_by name made ++ m ∷ []
made_own name m made is =
    ap (λ (b : Bool). reverse (if b then m ∷ filter (by_of name) made else filter (by_of name) made)) (text_same m.device name is)
    ∙ reverse-append (m ∷ []) (filter (by_of name) made)

made_other : (name : Bytes) (m : Made) (made : List Made) → m.device ≢ name → made_by name (m ∷ made) ≡ made_by name made
made_other name m made apart =
    ap (λ (b : Bool). reverse (if b then m ∷ filter (by_of name) made else filter (by_of name) made)) (bytes_apart m.device name apart)

-- ---- of a call

behind_fate : (m : Made) (fate : Fate) (steps : List Happens) (made : List Made)
    → made_behind made (makes m ∷ fate_steps m fate ++ steps) ≡ made_behind (m ∷ made) steps
behind_fate m undelivered steps made = refl
behind_fate m (served now changes given arrives) steps made = refl
behind_fate m (crashed now changes given) steps made = refl

module _ (name : Bytes) (begins : Request → Option KeySet) where
  abbrev made_of : Request → Made
  made_of r = record { device = name; request = r; begins = begins r }

  pub others_made : (other : Bytes) → other ≢ name → (acts : List Act) (fates : List Fate) (made : List Made)
      → made_by other (made_behind made (call_steps name begins acts fates)) ≡ made_by other made
  others_made other apart [] fates made = refl
  others_made other apart (committed what changes ∷ acts) fates made = others_made other apart acts fates made
  others_made other apart (asked r reply ∷ acts) [] made = refl
  others_made other apart (asked r reply ∷ acts) (fate ∷ fates) made =
      ap (made_by other) (behind_fate (made_of r) fate (call_steps name begins acts fates) made)
      ∙ others_made other apart acts fates (made_of r ∷ made) ∙ made_other other (made_of r) made (λ e. apart (sym e))

  abbrev kept_of : Exchanged → Option KeySet → Kept
  kept_of e told = record { request = e.request; begins = told }

  kept_more : (made : List Made) (kept : List Kept) (r : Request) (reply : Reply) (fate : Fate) (e : Exchanged) (told : Option KeySet) → IsToldOf host r reply fate e
      → IsReadable host r → IsBegunAs r (begins r) told → AllZip IsKeptOf (made_by name made) kept
      → AllZip IsKeptOf (made_by name (made_of r ∷ made)) (kept ++ kept_of e told ∷ [])
  kept_more made kept r reply fate e told is readable so h =
      subst (λ (ms : List Made). AllZip IsKeptOf ms (kept ++ kept_of e told ∷ [])) (sym (made_own name (made_of r) made refl))
      (zip_append IsKeptOf (made_by name made) (made_of r ∷ []) kept (kept_of e told ∷ []) h
      (record { sent = is.sent; begins_so = so; readable = readable }, tt))

  pub own_kept : (acts : List Act) (fates : List Fate) (batches : List (List RowChange)) (exchanged : List Exchanged) (begun : List (Option KeySet)) (made : List Made)
      (kept : List Kept) → AreTold host acts fates batches exchanged → AreReadable host acts → AreBegunAs begins acts begun → AllZip IsKeptOf (made_by name made) kept
      → AllZip IsKeptOf (made_by name (made_behind made (call_steps name begins acts fates))) (kept ++ kept_all (requests_in exchanged) begun)
  own_kept [] fates batches exchanged begun made kept told readable so h =
      subst (λ (es : List Exchanged). AllZip IsKeptOf (made_by name made) (kept ++ kept_all (requests_in es) begun)) (sym told.2)
      (subst (λ (ks : List Kept). AllZip IsKeptOf (made_by name made) ks) (sym (append-nil kept)) h)
  own_kept (committed what changes ∷ acts) fates [] exchanged begun made kept told readable so h = absurd told
  own_kept (committed what changes ∷ acts) fates (batch ∷ batches) exchanged begun made kept told readable so h =
      own_kept acts fates batches exchanged begun made kept told.1 readable so h
  own_kept (asked r reply ∷ acts) [] batches exchanged begun made kept told readable so h = absurd told
  own_kept (asked r reply ∷ acts) (fate ∷ fates) batches [] begun made kept told readable so h = absurd told
  own_kept (asked r reply ∷ acts) (fate ∷ fates) batches (e ∷ exchanged) [] made kept told readable so h = absurd so
  own_kept (asked r reply ∷ acts) (fate ∷ fates) batches (e ∷ exchanged) (one ∷ begun) made kept told readable so h =
      let more = kept_more made kept r reply fate e one told.0 readable.0 so.0 h in
      let rest = own_kept acts fates batches exchanged begun (made_of r ∷ made) (kept ++ kept_of e one ∷ []) told.1 readable.1 so.1 more in
      subst (λ (ms : List Made). AllZip IsKeptOf (made_by name ms) (kept ++ kept_of e one ∷ kept_all (requests_in exchanged) begun))
      (sym (behind_fate (made_of r) fate (call_steps name begins acts fates) made))
      (subst (λ (ks : List Kept). AllZip IsKeptOf (made_by name (made_behind (made_of r ∷ made) (call_steps name begins acts fates))) ks)
      (append_assoc kept (kept_of e one ∷ []) (kept_all (requests_in exchanged) begun)) rest)

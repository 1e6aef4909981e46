-- What a crash leaves at each moment of a call of many commits.
use Rattle.std.proofs.Common.{arith, ◌≡◌, ◌+◌, ℕ, Bool, List, [], ◌∷◌, ◌++◌, length, refl, sym, ap, ◌∙◌, subst, inl, inr, append-nil, append_assoc, length-append}
use Rattle.std.proofs.lemmas.List.{append_cancel_left}
use Rattle.rand_chacha.specs.ChaCha.{ChaCha}
use Rattle.sn_disk.specs.Disk.{LeavesOnly}
use Rattle.sn_disk.specs.Moments.{joined, started, weaker}
use Rattle.sn_disk.specs.declared.disk.Disk.{Ghosts}
use Rattle.sn_journal.specs.declared.owner.Owner.{Owner}
use Rattle.sn_journal.specs.declared.owner.Owner.TheVariants.{Device as DeviceOwner}
use Rattle.sn_net.specs.Exchanges.{Exchange}
use Rattle.sn_rows.specs.declared.change.Change.{Change}
use Rattle.sn_sync.specs.declared.request.Request.{Request}
use Rattle.sn_table.specs.Batches.{IsAllOrNothing, IsStore}
use Rattle.sn_table.specs.Facts.{open_each}
use Rattle.sn_table.specs.Kept.{Kept, with_batch}
use Rattle.sn_client.specs.Calls.{CallsOver, Ends, HasFront, IsOpen, MayHave, called_disk, device_disk, kept_done, tried}
use Rattle.sn_device.specs.Runs.{Act, Call, Given, Halt, Standing, acts_of, asked, commits}
use Rattle.sn_device.specs.States.{Bytes}
use Rattle.sn_device.specs.Steps.{applies}
use Rattle.sn_client.specs.Syncing.{AppliesOne, EndsOne, IsAskedAndApplied, IsBetween, IsOpenSince, MayHaveSince, gives_nothing}
use Rattle.sn_client.specs.declared.called.Called.{Called}
use Rattle.sn_client.specs.declared.called.Called.TheVariants as called
use Rattle.sn_client.specs.declared.device.Device.{Device}
use Rattle.sn_client.specs.declared.syncing.Exchanged.{Exchanged}
use Rattle.sn_client.specs.declared.syncing.Exchanged.TheVariants as exchanged
use Rattle.sn_client.proofs.SyncLemmas.{kept_append}

-- ---- batches of acts

-- what acts leave has the batches from before, and then others
made_by : (kept : Kept) (acts : List Act) → (made : List (List Change)) × ((kept_done kept acts).batches ≡ kept.batches ++ made)
made_by kept [] = ([], sym (append-nil kept.batches))
made_by kept (commits what changes ∷ acts) =
    let (made, is) = made_by (with_batch kept changes) acts in
    (changes ∷ made, is ∙ append_assoc kept.batches (changes ∷ []) made)
made_by kept (asked r reply ∷ acts) = made_by kept acts

-- a front of the batches is what a front of the acts leaves
abbrev LeavesFront : Kept → List Act → List (List Change) → Type 0
LeavesFront kept acts made = (front : List Act) × (later : List Act) × (acts ≡ front ++ later) × ((kept_done kept front).batches ≡ kept.batches ++ made)

no_longer : (batches made later : List (List Change)) (x : List Change) → batches ≡ (batches ++ x ∷ made) ++ later → ⊥
no_longer batches made later x is =
    let e : length batches ≡ length ((batches ++ x ∷ made) ++ later) = ap (λ (l : List (List Change)). length l) is in
    let f : length ((batches ++ x ∷ made) ++ later) ≡ length (batches ++ x ∷ made) + length later = length-append (batches ++ x ∷ made) later in
    let h : length (batches ++ x ∷ made) ≡ length batches + length (x ∷ made) = length-append batches (x ∷ made) in
    omega arith

front_of : (acts : List Act) (kept : Kept) (made later : List (List Change)) → (kept_done kept acts).batches ≡ (kept.batches ++ made) ++ later
    → LeavesFront kept acts made
front_of [] kept [] later is = ([], [], refl, sym (append-nil kept.batches))
front_of [] kept (x ∷ made) later is = absurd (no_longer kept.batches made later x is)
front_of (commits what changes ∷ acts) kept [] later is = ([], commits what changes ∷ acts, refl, sym (append-nil kept.batches))
front_of (commits what changes ∷ acts) kept (x ∷ made) later is =
    let (more, so) = made_by (with_batch kept changes) acts in
    let same : changes ∷ more ≡ x ∷ (made ++ later) =
    append_cancel_left kept.batches (changes ∷ more) (x ∷ (made ++ later))
    (sym (append_assoc kept.batches (changes ∷ []) more) ∙ sym so ∙ is ∙ append_assoc kept.batches (x ∷ made) later)
    in
    let first : changes ≡ x = cc in
    let moved : (kept.batches ++ changes ∷ []) ++ made ≡ kept.batches ++ x ∷ made =
    append_assoc kept.batches (changes ∷ []) made ∙ ap (λ (c : List Change). kept.batches ++ c ∷ made) first
    in
    let (front, rest, split, leaves) = front_of acts (with_batch kept changes) made later (is ∙ ap (λ (l : List (List Change)). l ++ later) (sym moved)) in
    (commits what changes ∷ front, rest, ap (λ (l : List Act). commits what changes ∷ l) split, leaves ∙ moved)
front_of (asked r reply ∷ acts) kept made later is =
    let (front, rest, split, leaves) = front_of acts kept made later is in
    (asked r reply ∷ front, rest, ap (λ (l : List Act). asked r reply ∷ l) split, leaves)

has_front : (kept : Kept) (acts : List Act) (c : List ℕ) → IsBetween kept (kept_done kept acts) c → HasFront kept acts c
has_front kept acts c b =
    let (front, later, split, leaves) = front_of acts kept b.made b.later b.split in
    record { front = front; later = later; split = split; stands = subst (λ (l : List (List Change)). IsStore DeviceOwner c l) (sym leaves) b.stands }

-- ---- bytes between

between_none : (kept : Kept) (c : List ℕ) → IsStore DeviceOwner c kept.batches → IsBetween kept kept c
between_none kept c stands = record {
  made = [];
  later = [];
  split = sym (append-nil kept.batches) ∙ sym (append-nil (kept.batches ++ []));
  stands = subst (λ (l : List (List Change)). IsStore DeviceOwner c l) (sym (append-nil kept.batches)) stands;
}

between_one : (kept : Kept) (changes : List Change) (c : List ℕ) → IsAllOrNothing DeviceOwner kept.batches changes c → IsBetween kept (with_batch kept changes) c
between_one kept changes c (inl stands) = record {
  made = [];
  later = changes ∷ [];
  split = ap (λ (l : List (List Change)). l ++ changes ∷ []) (sym (append-nil kept.batches));
  stands = subst (λ (l : List (List Change)). IsStore DeviceOwner c l) (sym (append-nil kept.batches)) stands;
}
between_one kept changes c (inr has) =
    record { made = changes ∷ []; later = []; split = sym (append-nil (kept.batches ++ changes ∷ [])); stands = has }

-- more is kept later
between_first : (old mid new : Kept) (more : List (List Change)) (c : List ℕ) → new.batches ≡ mid.batches ++ more → IsBetween old mid c → IsBetween old new c
between_first old mid new more c is b = record {
  made = b.made;
  later = b.later ++ more;
  split = is ∙ ap (λ (l : List (List Change)). l ++ more) b.split ∙ append_assoc (old.batches ++ b.made) b.later more;
  stands = b.stands;
}

-- less was kept earlier
between_later : (old mid new : Kept) (before : List (List Change)) (c : List ℕ) → mid.batches ≡ old.batches ++ before → IsBetween mid new c → IsBetween old new c
between_later old mid new before c is b =
    let moved : mid.batches ++ b.made ≡ old.batches ++ (before ++ b.made) =
    ap (λ (l : List (List Change)). l ++ b.made) is ∙ append_assoc old.batches before b.made
    in
    record {
      made = before ++ b.made;
      later = b.later;
      split = b.split ∙ ap (λ (l : List (List Change)). l ++ b.later) moved;
      stands = subst (λ (l : List (List Change)). IsStore DeviceOwner c l) moved b.stands;
    }

one_more : (old new : Kept) (changes : List Change) (more : List (List Change)) → new.batches ≡ old.batches ++ more
    → (with_batch new changes).batches ≡ old.batches ++ (more ++ changes ∷ [])
one_more old new changes more is = ap (λ (l : List (List Change)). l ++ changes ∷ []) is ∙ append_assoc old.batches more (changes ∷ [])

-- ---- devices

module _ {D : Type 0} {g : Ghosts D} where
  -- its disk wasn't called
  pub still_open : (old device : Device D g) (kept : Kept) → device_disk device ≡ device_disk old
      → (g.told → (disk : D) (c : List ℕ) → g.left_since disk (g.moment disk) c → g.may_leave disk c) → IsOpen old kept → IsOpen device kept
      → IsOpenSince old kept device kept
  still_open old device kept same only was opens = record {
    opens = opens;
    each = λ told.
        subst (λ (d : D). LeavesOnly g.moment g.left_since (device_disk old) d (IsBetween kept kept)) (sym same)
        (started g.moment g.left_since (device_disk old) (IsBetween kept kept)
        (λ c left. between_none kept c
        (subst (λ (o : Owner). IsStore o c kept.batches) old.owner (open_each old.table kept.batches (was.stands told) c (only told (device_disk old) c left)))));
  }

  -- behind a commit
  pub committed_open : (old device : Device D g) (kept : Kept) (changes : List Change)
      → (g.told → LeavesOnly g.moment g.left_since (device_disk old) (device_disk device) (IsAllOrNothing DeviceOwner kept.batches changes))
      → IsOpen device (with_batch kept changes) → IsOpenSince old kept device (with_batch kept changes)
  committed_open old device kept changes leaves opens = record {
    opens = opens;
    each = λ told.
        weaker g.moment g.left_since (device_disk old) (device_disk device) (IsAllOrNothing DeviceOwner kept.batches changes) (IsBetween kept (with_batch kept changes)) (leaves told)
        (λ c is. between_one kept changes c is);
  }

  pub committed_broken : (old : Device D g) (disk : D) (kept : Kept) (changes : List Change)
      → (g.told → LeavesOnly g.moment g.left_since (device_disk old) disk (IsAllOrNothing DeviceOwner kept.batches changes))
      → MayHave g.told g.may_leave disk kept changes → MayHaveSince old kept disk kept changes
  committed_broken old disk kept changes leaves may = record {
    may = may;
    each = λ told.
        weaker g.moment g.left_since (device_disk old) disk (IsAllOrNothing DeviceOwner kept.batches changes) (IsBetween kept (with_batch kept changes)) (leaves told)
        (λ c is. between_one kept changes c is);
  }

  -- behind what was done before
  module _ (old mid : Device D g) (kept : Kept) (before : List Act) (was : IsOpenSince old kept mid (kept_done kept before)) where
    abbrev between : Kept
    between = kept_done kept before

    goes_on : (disk : D) (new : Kept) (more : List (List Change)) → new.batches ≡ between.batches ++ more
        → (g.told → LeavesOnly g.moment g.left_since (device_disk mid) disk (IsBetween between new))
        → g.told → LeavesOnly g.moment g.left_since (device_disk old) disk (IsBetween kept new)
    goes_on disk new more is leaves told =
        let (made, has) = made_by kept before in
        joined g.moment g.left_since (device_disk old) (device_disk mid) disk (IsBetween kept between) (IsBetween between new) (IsBetween kept new) (was.each told) (leaves told)
        (λ c b. between_first kept between new more c is b) (λ c b. between_later kept between new made c has b)

    pub open_on : (device : Device D g) (acts : List Act) → IsOpenSince mid between device (kept_done between acts) → IsOpenSince old kept device (kept_done between acts)
    open_on device acts opens =
        let (more, is) = made_by between acts in
        record { opens = opens.opens; each = goes_on (device_disk device) (kept_done between acts) more is opens.each }

    pub may_on : (disk : D) (acts : List Act) (changes : List Change) → MayHaveSince mid between disk (kept_done between acts) changes
        → MayHaveSince old kept disk (kept_done between acts) changes
    may_on disk acts changes may =
        let (more, is) = made_by between acts in
        record {
          may = may.may;
          each = goes_on disk (with_batch (kept_done between acts) changes) (more ++ changes ∷ []) (one_more between (kept_done between acts) changes more is) may.each;
        }

-- ---- ends of calls

module _ {S D T : Type 0} (P Q : S → Kept → Type 0) (M N : D → Kept → List Change → Type 0) (kept : Kept)
    (opens : (device : S) (acts : List Act) → P device (kept_done kept acts) → Q device (kept_done kept acts))
    (may : (disk : D) (acts : List Act) (changes : List Change) → M disk (kept_done kept acts) changes → N disk (kept_done kept acts) changes) where
  pub ends_as : (gives : T → Given) (acts : List Act) (halt : Halt) (left : ChaCha) (result : Called S D T) → Ends P M gives kept acts halt left result
      → Ends Q N gives kept acts halt left result
  ends_as gives acts halt left (called.Done device given) (is, has) = (is, opens device acts has)
  ends_as gives acts halt left (called.Refused device why) (is, has) = (is, opens device acts has)
  ends_as gives acts halt left (called.Broken disk) (what, changes, is, has) = (what, changes, is, may disk acts changes has)

  pub asked_as : (words : ChaCha) (r : Request) (host : Bytes) (asks : List Exchange → Type 0) (left : ChaCha) (result : Exchanged S D T)
      → IsAskedAndApplied P M kept words r host asks left result → IsAskedAndApplied Q N kept words r host asks left result
  asked_as words r host asks left (exchanged.Applied device more) a = record {
    given = a.given;
    asked_once = a.asked_once;
    applied = record {
      changes = a.applied.changes;
      step = a.applied.step;
      batch = a.applied.batch;
      stands = opens device (commits (applies r a.given) a.applied.changes ∷ []) a.applied.stands;
      is_more = a.applied.is_more;
    };
  }
  asked_as words r host asks left (exchanged.Ended result) a = record {
    acts = a.acts;
    halt = a.halt;
    so = a.so;
    exchanges = a.exchanges;
    are = a.are;
    asked_so = a.asked_so;
    ends = ends_as gives_nothing a.acts a.halt left result a.ends;
  }

  pub ends_one_as : (at : Standing) (host : Bytes) (asks : List Exchange → Type 0) (left : ChaCha) (result : Called S D T)
      → EndsOne P M kept at host asks left result → EndsOne Q N kept at host asks left result
  ends_one_as at host asks left result a = record {
    acts = a.acts;
    halt = a.halt;
    so = a.so;
    exchanges = a.exchanges;
    are = a.are;
    asked_so = a.asked_so;
    ends = ends_as gives_nothing a.acts a.halt left result a.ends;
  }

module _ {S : Type 0} (P Q : S → Kept → Type 0) (kept : Kept)
    (opens : (device : S) (acts : List Act) → P device (kept_done kept acts) → Q device (kept_done kept acts)) where
  pub applies_as : (at : Standing) (host : Bytes) (asks : List Exchange → Type 0) (left : ChaCha) (device : S) (more : Bool)
      → AppliesOne P kept at host asks left device more → AppliesOne Q kept at host asks left device more
  applies_as at host asks left device more a = record {
    round = a.round;
    after = a.after;
    is = a.is;
    words_are = a.words_are;
    is_more = a.is_more;
    exchanges = a.exchanges;
    are = a.are;
    asked_so = a.asked_so;
    stands = opens device (acts_of a.round) a.stands;
  }

module _ {D T : Type 0} {g : Ghosts D} (old : Device D g) (kept : Kept) (gives : T → Given) where
  -- each moment of a call that ends so
  moments_of : (acts : List Act) (halt : Halt) (left : ChaCha) (result : Called (Device D g) D T)
      → Ends (IsOpenSince old kept) (MayHaveSince old kept) gives kept acts halt left result → g.told
      → LeavesOnly g.moment g.left_since (device_disk old) (called_disk device_disk result) (HasFront kept (tried acts halt))
  moments_of acts halt left (called.Done device given) (is, has) told =
      subst (λ (h : Halt). LeavesOnly g.moment g.left_since (device_disk old) (device_disk device) (HasFront kept (tried acts h))) (sym is)
      (weaker g.moment g.left_since (device_disk old) (device_disk device) (IsBetween kept (kept_done kept acts)) (HasFront kept acts) (has.each told)
      (λ c b. has_front kept acts c b))
  moments_of acts halt left (called.Refused device why) (is, has) told =
      subst (λ (h : Halt). LeavesOnly g.moment g.left_since (device_disk old) (device_disk device) (HasFront kept (tried acts h))) (sym is)
      (weaker g.moment g.left_since (device_disk old) (device_disk device) (IsBetween kept (kept_done kept acts)) (HasFront kept acts) (has.each told)
      (λ c b. has_front kept acts c b))
  moments_of acts halt left (called.Broken disk) (what, changes, is, has) told =
      subst (λ (h : Halt). LeavesOnly g.moment g.left_since (device_disk old) disk (HasFront kept (tried acts h))) (sym is)
      (weaker g.moment g.left_since (device_disk old) disk (IsBetween kept (with_batch (kept_done kept acts) changes)) (HasFront kept (acts ++ commits what changes ∷ []))
      (has.each told)
      (λ c b. has_front kept (acts ++ commits what changes ∷ []) c
      (subst (λ (k : Kept). IsBetween kept k c) (sym (kept_append kept acts (commits what changes ∷ []))) b)))

  module _ (least : ℕ) (call : Call) (asks : List Exchange → Type 0) (host : Bytes) (words left : ChaCha) (result : Called (Device D g) D T)
      (over : CallsOver (IsOpenSince old kept) (MayHaveSince old kept) gives least call asks host kept words left result) where
    opened : Ends IsOpen (MayHave g.told g.may_leave) gives kept over.acts over.halt left result
    opened =
        ends_as (IsOpenSince old kept) IsOpen (MayHaveSince old kept) (MayHave g.told g.may_leave) kept (λ device acts has. has.opens) (λ disk acts changes has. has.may) gives
        over.acts over.halt left result over.ends

    pub calls_over : CallsOver IsOpen (MayHave g.told g.may_leave) gives least call asks host kept words left result
    calls_over = record {
      acts = over.acts;
      halt = over.halt;
      runs = over.runs;
      exchanges = over.exchanges;
      are = over.are;
      asked_so = over.asked_so;
      ends = opened;
    }

    -- the run of the call, and what a crash leaves amid its commits
    pub moments_over : g.told → (calls : CallsOver IsOpen (MayHave g.told g.may_leave) gives least call asks host kept words left result)
        × LeavesOnly g.moment g.left_since (device_disk old) (called_disk device_disk result) (HasFront kept (tried calls.acts calls.halt))
    moments_over told = (
      record {
        acts = over.acts;
        halt = over.halt;
        runs = over.runs;
        exchanges = over.exchanges;
        are = over.are;
        asked_so = over.asked_so;
        ends = opened;
      },
      moments_of over.acts over.halt left result over.ends told,
    )

-- The images of a disk in memory, as its events grow by one.
use Rattle.std.proofs.Common.{◌≡◌, ◌⊎◌, ◌++◌, ℕ, ◌+◌, ◌≤◌, List, [], ◌∷◌, length, arith, sym, refl, subst, inl, inr}
use Rattle.std.proofs.lemmas.Bool.{cases_lt}
use Rattle.std.proofs.lemmas.List.{take_all, take-append-le, length-append}
use Rattle.sia_edge.specs.Event.{Event}
use Rattle.sia_edge.specs.Event as event
use Rattle.sia_edge.specs.declared.fault_plan.FaultPlan.{FaultPlan}
use Rattle.sia_edge.specs.declared.disk.Did.{Did}
use Rattle.sia_edge.specs.declared.disk.Did.TheVariants as did
use Rattle.sia_edge.specs.Disk.{TimePasses, Changes, Quiet, Only, Torn, Shortened, images_of}
use Rattle.sia_edge.proofs.Tears.{torn_none, torn_all, shortened_none, shortened_all}
use Rattle.sia_edge.specs.MemDisk.{DiskState, After, Images, ImagesOf, Had, standing_of, ReadIsImage, OverwritesOrKeeps, CutsOrKeeps}

abbrev pub state : List ℕ → List ℕ → List Event → FaultPlan → DiskState
state bytes start events plan = record { bytes = bytes; start = start; events = events; plan = plan }

pub images_more : (events : List Event) (before : List ℕ → Type 0) (e : Event) (c : List ℕ)
    → Images before (events ++ e ∷ []) c → After e (Images before events) c
images_more [] before e c image = image
images_more (x ∷ events) before e c image = images_more events (After x before) e c image

pub images_less : (events : List Event) (before : List ℕ → Type 0) (e : Event) (c : List ℕ)
    → After e (Images before events) c → Images before (events ++ e ∷ []) c
images_less [] before e c image = image
images_less (x ∷ events) before e c image = images_less events (After x before) e c image

-- after all events there are the images of all events
pub had_all : (start : List ℕ) (events : List Event) (t : ℕ) (c : List ℕ) → t ≤ length events → ImagesOf start events c → Had start events t c
had_all start events t c le image =
    (length events, le, omega arith, subst (λ es. ImagesOf start es c) (sym (take_all (length events) events (omega arith))) image)

-- what there was before an event there was after it
pub had_before : (start : List ℕ) (events : List Event) (e : Event) (t : ℕ) (c : List ℕ)
    → Had start events t c → Had start (events ++ e ∷ []) t c
had_before start events e t c had = (
  had.0,
  had.1,
  omega (arith, had.2, length-append events (e ∷ [])),
  subst (λ es. ImagesOf start es c) (sym (take-append-le had.0 events (e ∷ []) had.2)) had.3,
)

-- what there was after an event there was before it, or it is an image after the event
pub had_after : (start : List ℕ) (events : List Event) (e : Event) (t : ℕ) (c : List ℕ)
    → Had start (events ++ e ∷ []) t c → Had start events t c ⊎ After e (ImagesOf start events) c
had_after start events e t c had = elim (cases_lt (length events) had.0) [
  | inl lt ↦ inr (images_more events (λ d. d ≡ start) e c
      (subst (λ es. ImagesOf start es c) (take_all had.0 (events ++ e ∷ []) (omega (arith, lt, length-append events (e ∷ [])))) had.3))
  | inr le ↦ inl (had.0, had.1, le, subst (λ es. ImagesOf start es c) (take-append-le had.0 events (e ∷ []) le) had.3)
]

-- an image after the event is had since it
pub had_now : (start : List ℕ) (events : List Event) (e : Event) (t : ℕ) (c : List ℕ) → t ≤ length events + 1
    → After e (ImagesOf start events) c → Had start (events ++ e ∷ []) t c
had_now start events e t c le image =
    let one : length (events ++ e ∷ []) ≡ length events + 1 = length-append events (e ∷ []) in (
      length events + 1,
      le,
      omega (arith, one),
      subst (λ es. ImagesOf start es c) (sym (take_all (length events + 1) (events ++ e ∷ []) (omega (arith, one))))
          (images_less events (λ d. d ≡ start) e c image),
    )

module _ (old new : DiskState) (e : Event) (start : new.start ≡ old.start) (grown : new.events ≡ old.events ++ e ∷ [])
    (counted : old.plan.faults ≤ new.plan.faults) where
  -- the clock goes on by one event
  pub logged_passes : ReadIsImage old.start old.events old.bytes → TimePasses (standing_of old) (standing_of new)
  logged_passes kept = rw (start, grown) (record {
    later = omega (arith, length-append old.events (e ∷ []));
    none_else = λ t c le left. elim left [
      | inl had ↦ elim (had_after old.start old.events e t c had) [
        | inl before ↦ inl (inl before)
        | inr after ↦ inr (inl (had_now old.start old.events e (length old.events) c (omega arith) after))
      ]
      | inr now ↦ inr (inr (omega (arith, length-append old.events (e ∷ [])), now.1))
    ];
    keeps = λ t c le left. elim left [
      | inl had ↦ inl (had_before old.start old.events e t c had)
      | inr now ↦
          inl (had_before old.start old.events e t c
          (had_all old.start old.events t c now.0 (subst (λ d. ImagesOf old.start old.events d) (sym now.1) kept)))
    ];
    counted = counted;
  })

  -- each image since is an old one after a step that may also do nothing
  pub logged_changes : ReadIsImage old.start old.events old.bytes → (step : List ℕ → List ℕ → Type 0) → ((c : List ℕ) → step c c) → step old.bytes new.bytes
      → ((c : List ℕ) → After e (ImagesOf old.start old.events) c → (d : List ℕ) × ImagesOf old.start old.events d × step d c)
      → Changes step (standing_of old) (standing_of new)
  logged_changes kept step none all done = record {
    time = logged_passes kept;
    images = rw (start, grown) (λ c left. elim left [
      | inl had ↦ elim (had_after old.start old.events e (length old.events) c had) [
        | inl before ↦ (c, inl before, none c)
        | inr after ↦ let from = done c after in (from.0, inl (had_all old.start old.events (length old.events) from.0 (omega arith) from.1), from.2)
      ]
      | inr now ↦ (old.bytes, inr (omega arith, refl), subst (λ bytes. step old.bytes bytes) (sym now.1) all)
    ]);
  }

module _ (old new : DiskState) (start : new.start ≡ old.start) (same : new.events ≡ old.events) (bytes : new.bytes ≡ old.bytes)
    (counted : old.plan.faults ≤ new.plan.faults) where
  -- a call that did nothing
  pub idle_passes : TimePasses (standing_of old) (standing_of new)
  idle_passes = rw (start, same, bytes) (record { later = omega arith; none_else = λ t c le left. inl left; keeps = λ t c le left. left; counted = counted })

  pub idle_quiet : Quiet (standing_of old) (standing_of new)
  idle_quiet = record { same = bytes; leaves = record { time = idle_passes; images = rw (start, same, bytes) (λ c left. left) } }

  pub idle_changes : (step : List ℕ → List ℕ → Type 0) → ((c : List ℕ) → step c c) → Changes step (standing_of old) (standing_of new)
  idle_changes step none = record { time = idle_passes; images = rw (start, same, bytes) (λ c left. (c, left, none c)) }

module _ (old new : DiskState) (start : new.start ≡ old.start) (grown : new.events ≡ old.events ++ event.Synced old.bytes ∷ [])
    (bytes : new.bytes ≡ old.bytes) (counted : old.plan.faults ≤ new.plan.faults) where
  -- after a sync the only image is what it synced
  pub synced_only : Only new.bytes (images_of (standing_of new))
  synced_only = rw (start, grown, bytes) (λ c left. elim left [
    | inl had ↦ elim (had_after old.start old.events (event.Synced old.bytes) _ c had) [
      | inl before ↦ (let no : ⊥ = omega (arith, before.1, before.2, length-append old.events (event.Synced old.bytes ∷ [])) in absurd no)
      | inr after ↦ after
    ]
    | inr now ↦ now.1
  ])

  -- a sync adds no image
  pub synced_quiet : ReadIsImage old.start old.events old.bytes → Quiet (standing_of old) (standing_of new)
  synced_quiet kept = record {
    same = bytes;
    leaves = record {
      time = logged_passes old new (event.Synced old.bytes) start grown counted kept;
      images = rw (start, grown, bytes) (λ c left. elim left [
        | inl had ↦ elim (had_after old.start old.events (event.Synced old.bytes) (length old.events) c had) [
          | inl before ↦ inl before
          | inr after ↦ inr (omega arith, after)
        ]
        | inr now ↦ inr (omega arith, now.1)
      ]);
    };
  }

-- the images of one more event hold what it made of an image before
pub still_image : (start : List ℕ) (events : List Event) (e : Event) (c : List ℕ)
    → After e (ImagesOf start events) c → ReadIsImage start (events ++ e ∷ []) c
still_image start events e c image = images_less events (λ d. d ≡ start) e c image

-- what a disk in memory makes of a write or a cut is among what a crash may leave of it
pub torn_of : (result : Did) (at : ℕ) (piece old new : List ℕ) → at ≤ length old → OverwritesOrKeeps result at piece old new
    → Torn at (length piece) old new
torn_of did.Done at piece old new inside is = subst (Torn at (length piece) old) (sym is) (torn_all at piece old inside)
torn_of did.Failed at piece old new inside is = subst (Torn at (length piece) old) (sym is) (torn_none at (length piece) old)

pub shortened_of : (result : Did) (n : ℕ) (old new : List ℕ) → CutsOrKeeps result n old new → Shortened n old new
shortened_of did.Done n old new is = subst (Shortened n old) (sym is) (shortened_all n old)
shortened_of did.Failed n old new is = subst (Shortened n old) (sym is) (shortened_none n old)

-- Each configuration that is written has sound volumes, where the one before it has.
use Rattle.std.proofs.Common.{◌≡◌, ◌∙◌, ◌≢◌, ℕ, ◌<◌, ◌==◌, true, false, [], Option, refl, sym, ap, subst, inl, inr}
use Rattle.std.specs.Prelude.{Contains}
use Rattle.std.proofs.lemmas.Bool.{eqb-true, false≢true}
use Rattle.std.proofs.lemmas.List.Sorted.{IsPermutation-refl}
use Rattle.std.specs.Str.{bytes_eq}
use Rattle.vx_life.specs.Candidates.{Candidates}
use Rattle.vx_base.specs.Named.{Word}
use Rattle.vx_base.proofs.NamedLemmas.{name_cases, bytes_eq_self}
use Rattle.vx_mask.specs.Mask.{has, only}
use Rattle.vx_mask.proofs.MaskLemmas.{has-only_same, has-zero, same_as_only}
use Rattle.vx_mask.proofs.Tests.{not_both, or_cases, or_from_left}
use Rattle.vx_layout.specs.declared.place.Place.{Place}
use Rattle.vx_config_parts.specs.declared.vol.Vol.{Vol}
use Rattle.vx_objects.specs.declared.config.Config.{Config}
use Rattle.vx_objects.specs.Config.{objects_of}
use Rattle.vx_image.proofs.PlexMembers.{IsIn, any_in}
use Rattle.vx_image.specs.Bytes.{image_of}
use Rattle.vx_image.specs.Own.{IsOfVolume}
use Rattle.vx_image.specs.Soundness.{IsSoundImage}
use Rattle.vx_image.proofs.Members.{contains, is_in}
use Rattle.vx_state_edits.specs.Edits.{is_new}
use Rattle.vx_moments.specs.Commit.{Writing, is_slot_of}
use Rattle.vx_moments.specs.World.{Device, Group, Member, World}
use Rattle.vx_moments.specs.Group.{image_on, public_of, sectors_of}
use Rattle.vx_group_edits.specs.Stays.{AreFewer, EachStays, has_disk_in}
use Rattle.vx_group_edits.proofs.ByKind.{vol_recorded}
use Rattle.vx_sound.proofs.Ready.{IsReady}
use Rattle.vx_readings.proofs.Images.{less_image, reading_sound}
use Rattle.vx_sound_volumes.specs.Volumes.{AreSoundOn}
use Rattle.vx_sound_volumes.proofs.Commits.{one_vol, vol_of}
use Rattle.vx_sound_volumes.proofs.Images.{kept_sound}
use Rattle.vx_sound_volumes.proofs.Parts.{Besides, Every, sectors_same}
use Rattle.vx_sound_imports.specs.Left.{HoldWithin, LiesWithin}
use Rattle.vx_sound_imports.proofs.Counted.{reading_plexes}
use Rattle.vx_sound_imports.proofs.Kept.{fewer_within, some_blocks, stayed_within}
use Rattle.vx_sound_imports.proofs.Left.{IsNextAs}
use Rattle.vx_sound_imports.specs.Offered.{IsWholeGroup}
use Rattle.vx_sound_imports.proofs.Commits.{AreWritten, IsFar, IsNextSound}

-- the public regions of devices hold what those of the others do
abbrev pub SamePublic : (Word → Option Device) → (Word → Option Device) → Type 0
SamePublic old new = (name : Word) (k : ℕ) → public_of (new name) k ≡ public_of (old name) k

-- What is to be written can be, and has sound volumes where the group has, by devices that have the public regions of these. So it is with what
-- the bytes stand for of volumes with such names.
pub record IsSafe (P : Word → Type 0) (x : Writing) (w : World) : Type 0 where
  pub ready : IsReady x w
  pub whole : IsWholeGroup x.group
  pub far : IsFar x
  pub next : (devices : Word → Option Device) → SamePublic w.devices devices → AreSoundOn devices x.group → IsNextSound x devices
  pub stands : (devices : Word → Option Device) → SamePublic w.devices devices → (name : Word) (u : Candidates) → P name → HoldWithin devices x.group name u → IsNextAs x devices name u

-- As this configuration records it, the volume of the name is sound by what the devices hold, if it was started before.
abbrev pub IsSoundIfStarted : Group → Config → Word → World → Type 0
IsSoundIfStarted g next name w = (v : Vol) → Contains next.volumes v → v.name ≡ name → is_new v.state ≡ false → IsSoundImage (image_on w.devices (record g { config = next }) v)

-- what the bytes of the volume of a name lie within they lie within as it is recorded too, if it is sound so
abbrev pub KeepsOwn : Writing → World → Word → Type 0
KeepsOwn x w name =
    (devices : Word → Option Device) → SamePublic w.devices devices → (candidates : Candidates) → HoldWithin devices x.group name candidates →
    (v : Vol) → Contains x.config.volumes v → v.name ≡ name → is_new v.state ≡ false → IsSoundImage (image_of x.config x.group.good (sectors_of devices x.group.members) v) → LiesWithin (image_of x.config x.group.good (sectors_of devices x.group.members) v) candidates

-- ---- what the edits keep

-- the volume was there under its name, as one of these
abbrev pub HasCome : Writing → (Vol → Type 0) → Vol → Type 0
HasCome x These v = (u : Vol) × IsIn x.group.config.volumes u × (u.name ≡ v.name) × These u

-- no disk of the group has the slot of one that joins
abbrev pub IsVacant : Writing → Type 0
IsVacant x = (j : Member) → IsIn x.joiners j → (j.slot < 64) × (has_disk_in x.group.config j.slot ≡ false)

-- the one that joins in the slot
joiner_of : (x : Writing) (slot : ℕ) → is_slot_of x.joiners slot ≡ true → (j : Member) × IsIn x.joiners j × (j.slot ≡ slot)
joiner_of x slot joins = let j = any_in (λ (m : Member). m.slot == slot) x.joiners joins in (j.0, j.1, eqb-true j.0.slot slot j.2)

module _ (x : Writing) (These : Vol → Type 0) (stays : EachStays These x.group.config x.config) (vacant : IsVacant x) where
  fewer : (good : ℕ) → AreWritten x good → AreFewer x.group.config x.group.good good
  fewer good few slot is = elim (or_cases (has x.group.good slot) (is_slot_of x.joiners slot) (few slot is)) [
    | inl was ↦ inl was
    | inr joins ↦ let j = joiner_of x slot joins in inr (subst (λ s. has_disk_in x.group.config s ≡ false) j.2 (vacant j.0 j.1).1)
  ]

  module _ (v : Vol) (there : IsIn x.config.volumes v) (come : HasCome x These v) where
    pub one_next : (devices : Word → Option Device) → AreSoundOn devices x.group → (good : ℕ) → AreWritten x good → is_new v.state ≡ false → IsSoundImage (image_of x.config good (sectors_of devices x.group.members) v)
    one_next devices sound good few started =
        let u = come.0 in
        let s = stays u (vol_of x.group.config u come.1) come.3 x.group.good good (fewer good few) in
        let one : s.now ≡ v = one_vol x.config s.now v (vol_recorded x.config s.now s.recorded) there (s.name ∙ come.2) in
        let was : is_new u.state ≡ false = ap is_new (sym s.state ∙ ap (λ (w : Vol). w.state) one) ∙ started in
        let bytes = sectors_of devices x.group.members in
        subst (λ (w : Vol). IsSoundImage (image_of x.config good bytes w)) one
        (kept_sound x.group.config x.group.good u x.config good s.now s.keeps s.state bytes (sound u (contains x.group.config.volumes u come.1) was))

    one_as : (devices : Word → Option Device) (name : Word) (u : Candidates) → HoldWithin devices x.group name u → v.name ≡ name → (good : ℕ) → AreWritten x good → is_new v.state ≡ false →
        LiesWithin (image_of x.config good (sectors_of devices x.group.members) v) u
    one_as devices name u stands named good few started =
        stayed_within These x.group.config x.config stays x.group.good good (fewer good few) come.0 v come.1 come.3 there come.2 (sectors_of devices x.group.members) u
        (λ before. stands come.0 (contains x.group.config.volumes come.0 come.1) (come.2 ∙ named) before) started

    pub one_far : (place : Place) → IsOfVolume x.config v.name place → is_slot_of x.joiners place.disk ≡ true → ⊥
    one_far place of joins =
        let u = come.0 in
        let j = joiner_of x place.disk joins in
        let free = vacant j.0 j.1 in
        let lone : AreFewer x.group.config 0 (only j.0.slot) = λ s is. inr (subst (λ n. has_disk_in x.group.config n ≡ false) (sym (same_as_only j.0.slot s is)) free.1) in
        let s = stays u (vol_of x.group.config u come.1) come.3 0 (only j.0.slot) lone in
        let before = s.places place (subst (λ n. IsOfVolume x.config n place) (sym (s.name ∙ come.2)) of) in
        false≢true (sym (has-zero place.disk) ∙ s.were_good place before (subst (λ n. has (only j.0.slot) n ≡ true) j.2 (has-only_same j.0.slot free.0)))

-- ---- where no disk joins

module _ (x : Writing) (alone : x.joiners ≡ []) where
  pub none_vacant : IsVacant x
  none_vacant j one = absurd (subst (λ js. IsIn js j) alone one)

  pub none_joins : (slot : ℕ) → is_slot_of x.joiners slot ≡ true → ⊥
  none_joins slot joins = not_both joins (ap (λ js. is_slot_of js slot) alone)

  pub alone_few : (good : ℕ) → AreWritten x good → (slot : ℕ) → has good slot ≡ true → has x.group.good slot ≡ true
  alone_few good few slot is = elim (or_cases (has x.group.good slot) (is_slot_of x.joiners slot) (few slot is)) [
    | inl was ↦ was
    | inr joins ↦ absurd (none_joins slot joins)
  ]

-- ---- where all volumes have come so

module _ (x : Writing) (w : World) (ready : IsReady x w) (whole : IsWholeGroup x.group) where
  pub kept_safe : (These : Vol → Type 0) → EachStays These x.group.config x.config → IsVacant x → ((v : Vol) → IsIn x.config.volumes v → is_new v.state ≡ false → HasCome x These v) → IsSafe Every x w
  kept_safe These stays vacant back = record {
    ready = ready;
    whole = whole;
    far = λ v there started. let one = is_in x.config.volumes v there in one_far x These stays vacant v one (back v one started);
    next = λ devices same sound good few v there started. let one = is_in x.config.volumes v there in one_next x These stays vacant v one (back v one started) devices sound good few started;
    stands = λ devices same name u p stands good few v there named started.
        let one = is_in x.config.volumes v there in one_as x These stays vacant v one (back v one started) devices name u stands named good few started;
  }

  -- no disk joins
  module _ (alone : x.joiners ≡ []) where
    -- the volume of the name, as it is recorded
    pub own_next : (g : Group) → g ≡ x.group → (name : Word) → IsSoundIfStarted g x.config name w → (devices : Word → Option Device) → SamePublic w.devices devices → (good : ℕ) → AreWritten x good →
        (v : Vol) → Contains x.config.volumes v → v.name ≡ name → is_new v.state ≡ false → IsSoundImage (image_of x.config good (sectors_of devices x.group.members) v)
    own_next g own name sound_as devices same good few v there is started =
        let bytes = sectors_of w.devices x.group.members in
        let as_recorded : IsSoundImage (image_of x.config x.group.good bytes v) = subst (λ (h : Group). IsSoundImage (image_on w.devices (record h { config = x.config }) v)) own (sound_as v there is started) in
        reading_sound x.config x.config v x.group.good good bytes (sectors_of devices x.group.members) (vol_of x.config v (is_in x.config.volumes v there)) (IsPermutation-refl (objects_of x.config))
        (record {
          good = λ place of at. alone_few x alone good few place.disk at;
          same = λ place of at. sectors_same w.devices devices x.group.members (λ m one k. same m.device k) place.disk place.sector;
        })
        as_recorded

    -- it lies within what it lies within by all disks that are good, whichever of them stay so
    pub next_within : (devices : Word → Option Device) (u : Candidates) (good : ℕ) → AreWritten x good → (v : Vol) → Contains x.config.volumes v → is_new v.state ≡ false →
        LiesWithin (image_of x.config x.group.good (sectors_of devices x.group.members) v) u → LiesWithin (image_of x.config good (sectors_of devices x.group.members) v) u
    next_within devices u good few v there started lies =
        let bytes = sectors_of devices x.group.members in
        let records = IsPermutation-refl (objects_of x.config) in
        fewer_within (image_of x.config x.group.good bytes v) (image_of x.config good bytes v)
        (less_image x.config x.config v x.group.good good bytes bytes records (record { good = λ place of at. alone_few x alone good few place.disk at; same = λ place of at. refl }))
        (reading_plexes x.config x.config v x.group.good good bytes bytes records) (some_blocks x.config v (vol_of x.config v (is_in x.config.volumes v there))) u started lies

    -- all that are good
    pub all_written : AreWritten x x.group.good
    all_written slot at = or_from_left (has x.group.good slot) (is_slot_of x.joiners slot) at

    -- the volume of a name is sound as it is recorded, and the others are kept
    pub recorded_safe : (g : Group) → g ≡ x.group → (name : Word) → IsSoundIfStarted g x.config name w → (These : Vol → Type 0) → EachStays These x.group.config x.config →
        ((v : Vol) → IsIn x.config.volumes v → v.name ≢ name → is_new v.state ≡ false → HasCome x These v) → IsSafe (Besides name) x w
    recorded_safe g own name sound_as These stays back = record {
      ready = ready;
      whole = whole;
      far = λ v there started place of joins. none_joins x alone place.disk joins;
      next = λ devices same sound good few v there started. elim (name_cases v.name name) [
        | inl is ↦ own_next g own name sound_as devices same good few v there is started
        | inr other ↦
            let one = is_in x.config.volumes v there in
            one_next x These stays (none_vacant x alone) v one (back v one (λ is. not_both (subst (λ n. bytes_eq v.name n ≡ true) is (bytes_eq_self v.name)) other) started) devices sound good few started
      ];
      stands = λ devices same n u apart stands good few v there named started.
          let one = is_in x.config.volumes v there in
          one_as x These stays (none_vacant x alone) v one (back v one (λ is. apart (sym named ∙ is)) started) devices n u stands named good few started;
    }

    -- so it is for all names where the volume is kept too
    pub whole_safe : (g : Group) → g ≡ x.group → (name : Word) → IsSoundIfStarted g x.config name w → IsSafe (Besides name) x w → KeepsOwn x w name → IsSafe Every x w
    whole_safe g own name sound_as others keeps = record {
      ready = others.ready;
      whole = others.whole;
      far = others.far;
      next = others.next;
      stands = λ devices same n u p holds good few v there named started. elim (name_cases v.name name) [
        | inl is ↦
            next_within devices u good few v there started
            (keeps devices same u (λ y one at. holds y one (at ∙ sym is ∙ named)) v there is started (own_next g own name sound_as devices same x.group.good all_written v there is started))
        | inr other ↦ others.stands devices same n u (λ same_name. not_both (subst (λ m. bytes_eq v.name m ≡ true) (named ∙ same_name) (bytes_eq_self v.name)) other) holds good few v there named started
      ];
    }

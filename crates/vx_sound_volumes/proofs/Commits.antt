-- A commit leaves volumes sound that the edits of the configuration keep: it writes to the private regions of disks alone.
use Rattle.std.proofs.Common.{◌≡◌, ◌∙◌, ◌⊎◌, ℕ, ◌+◌, ◌*◌, ◌-◌, ◌≤◌, ◌<◌, ◌==◌, Bool, true, false, cond, List, [], ◌∷◌, ◌++◌, Option, Some, length, refl, sym, ap, subst, inl, inr, arith, length-append}
use Rattle.std.specs.Prelude.{Contains, IsSome}
use Rattle.std.proofs.lemmas.Bool.{eqb-true, false≢true}
use Rattle.std.proofs.lemmas.List.{length-replicate}
use Rattle.vx_base.specs.Blocks.{Contents, blocks_in, written}
use Rattle.vx_base.specs.Named.{Word}
use Rattle.vx_base.proofs.BlockLemmas.{is_in-after, written_out}
use Rattle.vx_mask.specs.Mask.{has, only}
use Rattle.vx_mask.proofs.MaskLemmas.{has-only_same, has-zero, same_as_only}
use Rattle.vx_mask.proofs.Tests.{or_cases, true_or_false}
use Rattle.vx_sector.specs.Fields.{zeros}
use Rattle.vx_config_parts.specs.declared.object.Object.TheVariants.{VolRecord}
use Rattle.vx_config_parts.specs.declared.vol.Vol.{Vol}
use Rattle.vx_rules.proofs.InOrder.{names_differ}
use Rattle.vx_copies.specs.Image.{filled, half_start, sectors_for}
use Rattle.vx_copies.specs.Lists.{AllOf}
use Rattle.vx_copies.specs.Written.{OldOrText, in_both}
use Rattle.vx_copies.proofs.Halves.{few_sectors}
use Rattle.vx_objects.specs.declared.config.Config.{Config}
use Rattle.vx_objects.specs.Config.{objects_of}
use Rattle.vx_image.proofs.PlexMembers.{IsIn, any_in, in_either, in_one, one_named}
use Rattle.vx_image.proofs.Plexes.{config_valid}
use Rattle.vx_state_edits.specs.Edits.{is_new}
use Rattle.vx_image.specs.Bytes.{image_of}
use Rattle.vx_image.specs.Own.{IsOfVolume, SameInside}
use Rattle.vx_image.specs.Soundness.{IsSoundImage}
use Rattle.vx_image.specs.UsedPlexes.{IsVolOf}
use Rattle.vx_image.proofs.Members.{contains, is_in}
use Rattle.vx_image.proofs.Own.{image_own}
use Rattle.vx_answers.specs.declared.answer.End.{End}
use Rattle.vx_moments.specs.Commit.{IsCommitted, IsCommitting, IsStopped, JoinerGoes, MemberGoes, Writing, is_slot_of, parties}
use Rattle.vx_moments.specs.Holding.{IsLent}
use Rattle.vx_moments.specs.Leaving.{grouped}
use Rattle.vx_moments.specs.Moment.{Moment}
use Rattle.vx_moments.specs.World.{Device, Group, Member, Volume}
use Rattle.vx_moments.specs.Group.{HaveOwnDevices, image_on, public_of, sectors_of}
use Rattle.vx_group_edits.specs.Stays.{AreFewer, EachStays, has_disk_in}
use Rattle.vx_group_edits.proofs.ByKind.{records_vol, vol_recorded}
use Rattle.vx_sound_volumes.specs.Volumes.{HasOwnDisks}
use Rattle.vx_sound_volumes.proofs.Images.{kept_sound}
use Rattle.vx_sound_volumes.proofs.Parts.{AreRunning, AreStopped, Keeps, image_same, sectors_same, some_same}

-- ---- one disk

few : (text : List ℕ) → length text ≤ 522240 → blocks_in (filled text) ≤ 1020
unfolding zeros
few text short =
    let long = length-append text (zeros (512 * sectors_for (length text) - length text)) in
    let more = length-replicate {A = ℕ} (512 * sectors_for (length text) - length text) 0 in
    let sectors = few_sectors (length text) short in
    omega (arith, long, more, sectors, short)

-- a text in a half is written before the public region
behind : (half : ℕ) → half < 2 → (text : List ℕ) → length text ≤ 522240 → (old : Contents) (k : ℕ) → written (half_start half) (filled text) old (2048 + k) ≡ old (2048 + k)
behind half low text short old k = written_out (half_start half) (filled text) old (2048 + k) (is_in-after (half_start half) (blocks_in (filled text)) (2048 + k) (let n = few text short in omega (arith, n, low)))

pub text_behind : (text : List ℕ) → length text ≤ 522240 → (old : Contents) (k : ℕ) → in_both text old (2048 + k) ≡ old (2048 + k)
text_behind text short old k = behind 1 (omega arith) text short (written (half_start 0) (filled text) old) k ∙ behind 0 (omega arith) text short old k

same_behind : (text : List ℕ) → length text ≤ 522240 → (old new : Contents) → OldOrText text old new → (k : ℕ) → new (2048 + k) ≡ old (2048 + k)
same_behind text short old new only k = by (only (2048 + k) (λ e. absurd (omega (arith, e))))
  where
    by : (new (2048 + k) ≡ old (2048 + k)) ⊎ (new (2048 + k) ≡ in_both text old (2048 + k)) → new (2048 + k) ≡ old (2048 + k)
    by (inl same) = same
    by (inr is) = is ∙ text_behind text short old k

-- ---- lists

pub all_each : {X : Type 0} (P : X → Type 0) (xs : List X) → AllOf P xs → (x : X) → IsIn xs x → P x
all_each P [] all x one = absurd one
all_each P (y ∷ xs) all x (inl same) = subst P (sym same) all.0
all_each P (y ∷ xs) all x (inr one) = all_each P xs all.1 x one

-- two volumes of one name are one
pub one_vol : (c : Config) (v w : Vol) → IsIn c.volumes v → IsIn c.volumes w → v.name ≡ w.name → v ≡ w
one_vol c v w h k same = vol_same v w (one_named [] (objects_of c) (VolRecord v) (VolRecord w) (names_differ (objects_of c) (config_valid c)) (records_vol c v h) (records_vol c w k) same)
  where
    vol_same : (v w : Vol) → VolRecord v ≡ VolRecord w → v ≡ w
    vol_same v w e = cc

pub vol_of : (c : Config) (v : Vol) → IsIn c.volumes v → IsVolOf c v
vol_of c v one = in_one (objects_of c) (VolRecord v) (records_vol c v one)

-- disks behind the others, in other slots, have none of the sectors
no_sectors : (devices : Word → Option Device) (js : List Member) (slot k : ℕ) → ((j : Member) → IsIn js j → j.slot ≡ slot → ⊥) → sectors_of devices js slot k ≡ []
no_sectors devices [] slot k none = refl
no_sectors devices (j ∷ js) slot k none = by (j.slot == slot) refl (no_sectors devices js slot k (λ i one. none i (inr one)))
  where
    by : (b : Bool) → (j.slot == slot) ≡ b → sectors_of devices js slot k ≡ [] → cond b (public_of (devices j.device)) (sectors_of devices js slot) k ≡ []
    by true e rest = absurd (none j (inl refl) (eqb-true j.slot slot e))
    by false e rest = rest

sectors_joined : (devices : Word → Option Device) (ms js : List Member) (slot k : ℕ) → ((j : Member) → IsIn js j → j.slot ≡ slot → ⊥) → sectors_of devices (ms ++ js) slot k ≡ sectors_of devices ms slot k
sectors_joined devices [] js slot k none = no_sectors devices js slot k none
sectors_joined devices (m ∷ ms) js slot k none = by (m.slot == slot) (sectors_joined devices ms js slot k none)
  where
    by : (b : Bool) → sectors_of devices (ms ++ js) slot k ≡ sectors_of devices ms slot k → cond b (public_of (devices m.device)) (sectors_of devices (ms ++ js) slot) k ≡ cond b (public_of (devices m.device)) (sectors_of devices ms slot) k
    by true rest = refl
    by false rest = rest

-- ---- the disks of the group

module _ (x : Writing) (last : ℕ) (old new : Moment) (is : IsCommitting x last old new) where
  member_goes : (m : Member) → IsIn x.group.members m → MemberGoes x last old new m
  member_goes m one = all_each (MemberGoes x last old new) x.group.members is.members m one

  pub member_public : (m : Member) → IsIn x.group.members m → (k : ℕ) → public_of (new.world.devices m.device) k ≡ public_of (old.world.devices m.device) k
  member_public m one k = elim (true_or_false (has x.group.good m.slot)) [
    | inl good ↦ (
        let d = (member_goes m one).good good in
        ap (λ o. public_of o k) d.is ∙ same_behind x.text is.short d.before.contents d.after.contents d.goes.only k ∙ ap (λ o. public_of o k) (sym d.was))
    | inr bad ↦ ap (λ o. public_of o k) ((member_goes m one).idle bad)
  ]

  member_there : (m : Member) → IsIn x.group.members m → IsSome (old.world.devices m.device) → IsSome (new.world.devices m.device)
  member_there m one there = elim (true_or_false (has x.group.good m.slot)) [
    | inl good ↦ subst (λ o. IsSome o) (sym ((member_goes m one).good good).is) refl
    | inr bad ↦ subst (λ o. IsSome o) (sym ((member_goes m one).idle bad)) there
  ]

  pub party_there : (m : Member) → IsIn (parties x) m → IsSome (old.world.devices m.device) → IsSome (new.world.devices m.device)
  party_there m one there = elim (in_either x.group.members x.joiners m one) [
    | inl member ↦ member_there m member there
    | inr joiner ↦ subst (λ o. IsSome o) (sym (all_each (JoinerGoes x last old new) x.joiners is.joiners m joiner).is) refl
  ]

  pub still_running : (place : ℕ) → AreRunning place old.world.volumes → AreRunning place new.world.volumes
  still_running place all = subst (AreRunning place) (sym is.volumes) all

  lent_before : (name : Word) → IsLent new.world name → IsLent old.world name
  lent_before name (vol, v, at, has) = (vol, v, ap (λ (f : Word → Option Volume). f vol) (sym is.volumes) ∙ at, has)

-- ---- a commit that is stopped

pub commit_stops : (place : ℕ) (P : Word → Type 0) (x : Writing) (old : Moment) (end : End) (new : Moment) → ((g : Group) → old.world.group ≡ Some g → g ≡ x.group) → IsStopped x old end new → Keeps place P old.world → Keeps place P new.world
commit_stops place P x old end new own stopped k =
    let is = stopped.committing in
    record {
      running = still_running x stopped.last old new is place k.running;
      stopped = λ g here v there of started idle.
          let before = sym stopped.group ∙ here in
          subst IsSoundImage (sym (image_same g old.world.devices new.world.devices (λ m one n. member_public x stopped.last old new is m (subst (λ (h : Group). IsIn h.members m) (own g before) one) n) v))
          (k.stopped g before v there of started (ap (λ (f : Word → Option Volume). grouped (f v.name)) (sym is.volumes) ∙ idle));
      disks = λ g here.
          let before = sym stopped.group ∙ here in
          let d = k.disks g before in
          record {
            own = d.own;
            there = λ m one. member_there x stopped.last old new is m (subst (λ (h : Group). IsIn h.members m) (own g before) (is_in g.members m one)) (d.there m one);
            apart = λ m one lent. d.apart m one (lent_before x stopped.last old new is m.device lent);
          };
    }

-- ---- a commit that is done

module _ (x : Writing) (old new : Moment) (c : IsCommitted x old new) where
  abbrev is : IsCommitting x c.last old new
  is = c.committing

  abbrev now : Group
  now = record { config = x.config; good = c.good; members = parties x; sequence = c.last }

  pub disks_done : HaveOwnDevices (parties x) → ((m : Member) → IsIn (parties x) m → IsSome (old.world.devices m.device)) → ((m : Member) → IsIn (parties x) m → IsLent old.world m.device → ⊥) →
      (g : Group) → new.world.group ≡ Some g → HasOwnDisks new.world g
  disks_done own there apart g here = subst (HasOwnDisks new.world) (some_same now g (sym c.group ∙ here)) (record {
    own = own;
    there = λ m one. party_there x c.last old new is m (is_in (parties x) m one) (there m (is_in (parties x) m one));
    apart = λ m one lent. apart m (is_in (parties x) m one) (lent_before x c.last old new is m.device lent);
  })

  -- what the edits keep stays, and volumes of such names have come from volumes that these keep
  module _ (P : Word → Type 0) (These : Vol → Type 0) (stays : EachStays These x.group.config x.config)
      (back : (v : Vol) → IsIn x.config.volumes v → P v.name → is_new v.state ≡ false → (u : Vol) × IsIn x.group.config.volumes u × (u.name ≡ v.name) × These u)
      (vacant : (j : Member) → IsIn x.joiners j → (j.slot < 64) × (has_disk_in x.group.config j.slot ≡ false)) where
    fewer : AreFewer x.group.config x.group.good c.good
    fewer slot good = elim (or_cases (has x.group.good slot) (is_slot_of x.joiners slot) (c.mask.few slot good)) [
      | inl was ↦ inl was
      | inr joins ↦
          let j = any_in (λ (m : Member). m.slot == slot) x.joiners joins in
          inr (subst (λ s. has_disk_in x.group.config s ≡ false) (eqb-true j.0.slot slot j.2) (vacant j.0 j.1).1)
    ]

    -- no disk that joins has a sector of a volume that stays
    far : (u : Vol) → IsIn x.group.config.volumes u → These u → (j : Member) → IsIn x.joiners j → (slot sector : ℕ) → IsOfVolume x.group.config u.name (record { disk = slot; sector = sector }) → j.slot ≡ slot → ⊥
    far u there these j one slot sector of same =
        let free = vacant j one in
        let lone : AreFewer x.group.config 0 (only j.slot) = λ s is. inr (subst (λ n. has_disk_in x.group.config n ≡ false) (sym (same_as_only j.slot s is)) free.1) in
        let s = stays u (vol_of x.group.config u there) these 0 (only j.slot) lone in
        false≢true (sym (has-zero slot) ∙ s.were_good (record { disk = slot; sector = sector }) of (subst (λ n. has (only j.slot) n ≡ true) same (has-only_same j.slot free.0)))

    inside : (u : Vol) → IsIn x.group.config.volumes u → These u → SameInside x.group.config u.name (sectors_of old.world.devices x.group.members) (sectors_of new.world.devices (parties x))
    inside u there these place of =
        sectors_joined new.world.devices x.group.members x.joiners place.disk place.sector (λ j one same. far u there these j one place.disk place.sector of same)
        ∙ sectors_same old.world.devices new.world.devices x.group.members (λ m one k. member_public x c.last old new is m one k) place.disk place.sector

    one_sound : (v u : Vol) → IsIn x.config.volumes v → IsIn x.group.config.volumes u → u.name ≡ v.name → These u → (is_new u.state ≡ false → IsSoundImage (image_on old.world.devices x.group u)) → is_new v.state ≡ false → IsSoundImage (image_on new.world.devices now v)
    one_sound v u there before same these sound started =
        let s = stays u (vol_of x.group.config u before) these x.group.good c.good fewer in
        let one : s.now ≡ v = one_vol x.config s.now v (vol_recorded x.config s.now s.recorded) there (s.name ∙ same) in
        let was : is_new u.state ≡ false = ap is_new (sym s.state ∙ ap (λ (w : Vol). w.state) one) ∙ started in
        let bytes = sectors_of new.world.devices (parties x) in
        let held = subst IsSoundImage (sym (image_own x.group.config x.group.good u (sectors_of old.world.devices x.group.members) bytes (inside u before these))) (sound was) in
        subst (λ (w : Vol). IsSoundImage (image_of x.config c.good bytes w)) one (kept_sound x.group.config x.group.good u x.config c.good s.now s.keeps s.state bytes held)

    pub stopped_done : old.world.group ≡ Some x.group → AreStopped P old.world → AreStopped P new.world
    stopped_done here all g group v there of started idle =
        let same = some_same now g (sym c.group ∙ group) in
        let one = subst (λ (h : Group). Contains h.config.volumes v) (sym same) there in
        let u = back v (is_in x.config.volumes v one) of started in
        let none : grouped (old.world.volumes u.0.name) ≡ _ = ap (λ n. grouped (old.world.volumes n)) u.2 ∙ ap (λ (f : Word → Option Volume). grouped (f v.name)) (sym is.volumes) ∙ idle in
        subst (λ (h : Group). IsSoundImage (image_on new.world.devices h v)) same
        (one_sound v u.0 (is_in x.config.volumes v one) u.1 u.2 u.3 (λ was. all x.group here u.0 (contains x.group.config.volumes u.0 u.1) (subst P (sym u.2) of) was none) started)

    -- no disk joins, or those that do are free
    pub commit_kept : (place : ℕ) → old.world.group ≡ Some x.group → HaveOwnDevices (parties x) → ((j : Member) → IsIn x.joiners j → IsSome (old.world.devices j.device) × (IsLent old.world j.device → ⊥)) → Keeps place P old.world → Keeps place P new.world
    commit_kept place here own free k =
        let d = k.disks x.group here in
        record {
          running = still_running x c.last old new is place k.running;
          stopped = stopped_done here k.stopped;
          disks = disks_done own
              (λ m one. elim (in_either x.group.members x.joiners m one) [ inl member ↦ d.there m (contains x.group.members m member) | inr joiner ↦ (free m joiner).0 ])
              (λ m one. elim (in_either x.group.members x.joiners m one) [ inl member ↦ d.apart m (contains x.group.members m member) | inr joiner ↦ (free m joiner).1 ]);
        }

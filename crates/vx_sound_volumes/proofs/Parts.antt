-- What is known of volumes, in parts, and what keeps each of them: another volume under a name, sectors of a volume, devices of nobody.
use Rattle.std.proofs.Common.{◌≡◌, ◌≢◌, ◌∙◌, ◌==◌, inl, inr, ℕ, Bool, true, false, cond, Option, Some, None, List, [], ◌∷◌, refl, sym, ap, subst}
use Rattle.std.specs.Prelude.{Contains, IsSome}
use Rattle.std.specs.Str.{bytes_eq}
use Rattle.std.proofs.lemmas.Bool.{false≢true}
use Rattle.vx_base.specs.Named.{Word, put}
use Rattle.vx_base.proofs.NamedLemmas.{bytes_eq_self, name_cases, put_same, put_other}
use Rattle.vx_config_parts.specs.declared.vol.Vol.{Vol}
use Rattle.vx_state_edits.specs.Edits.{is_new}
use Rattle.vx_copies.specs.Lists.{AnyOf}
use Rattle.vx_image.proofs.PlexMembers.{IsIn}
use Rattle.vx_image.specs.Bytes.{image_of}
use Rattle.vx_image.specs.Soundness.{IsSoundImage}
use Rattle.vx_image.proofs.Members.{is_in, contains}
use Rattle.vx_moments.specs.Holding.{HasDevice, IsLent, IsMemberDevice}
use Rattle.vx_moments.specs.Leaving.{PowerGoes, group_gone, grouped}
use Rattle.vx_moments.specs.World.{Device, Group, Lies, Member, OnDevice, OnPlexes, Volume, World}
use Rattle.vx_moments.proofs.Lone.{lone_grouped}
use Rattle.vx_moments.specs.Group.{ChangesOnly, DeviceStaysBut, IsSectorOf, image_on, public_of, sectors_of}
use Rattle.vx_moments.proofs.OtherVolumes.{other_image}
use Rattle.vx_stages.specs.GroupCalls.{comes_next}
use Rattle.vx_sound_volumes.specs.Volumes.{HasOwnDisks, IsSoundBefore}

pub some_same : {X : Type 0} (a b : X) → Some a ≡ Some b → a ≡ b
some_same a b e = cc

pub not_none : {A X : Type 0} (a : X) → None ≡ Some a → A
not_none a e = cc

-- ---- the parts

-- each volume that runs on plexes was sound as it began, and is not ahead of the commands
abbrev pub AreRunning : ℕ → (Word → Option Volume) → Type 0
AreRunning place volumes = (name : Word) (run : Volume) → grouped (volumes name) ≡ Some run → (run.sound ≡ true) × (comes_next place run.life ≡ true)

-- each volume of such a name that was started before, and does not run, is sound
abbrev pub AreStopped : (Word → Type 0) → World → Type 0
AreStopped P w = (g : Group) → w.group ≡ Some g → (v : Vol) → Contains g.config.volumes v → P v.name → is_new v.state ≡ false → grouped (w.volumes v.name) ≡ None → IsSoundImage (image_on w.devices g v)

pub record Keeps (place : ℕ) (P : Word → Type 0) (w : World) : Type 0 where
  pub running : AreRunning place w.volumes
  pub stopped : AreStopped P w
  pub disks : (g : Group) → w.group ≡ Some g → HasOwnDisks w g

-- of every name, and of every name but one
abbrev pub Every : Word → Type 0
Every name = Unit {0}

abbrev pub Besides : Word → Word → Type 0
Besides vol name = name ≢ vol

pub keeps_all : (place : ℕ) (w : World) → IsSoundBefore place w → Keeps place Every w
keeps_all place w s = record {
  running = λ name run is. (s.sound.running name run is, s.order name run is);
  stopped = λ g here v there one started idle. s.sound.stopped g here v there started idle;
  disks = s.disks;
}

pub all_kept : (place : ℕ) (w : World) → Keeps place Every w → IsSoundBefore place w
all_kept place w k = record {
  sound = record { stopped = λ g here v there started idle. k.stopped g here v there tt started idle; running = λ name run is. (k.running name run is).0 };
  disks = k.disks;
  order = λ name run is. (k.running name run is).1;
}

pub differs : (name vol : Word) → bytes_eq vol name ≡ false → name ≢ vol
differs name vol e same = false≢true (sym e ∙ subst (λ n. bytes_eq vol n ≡ true) (sym same) (bytes_eq_self vol))

-- ---- another volume under a name

module _ (place : ℕ) (P Q : Word → Type 0) (w : World) (vol : Word) (o : Option Volume) (others : (n : Word) → n ≢ vol → P n → Q n)
    (runs : (run : Volume) → grouped o ≡ Some run → (run.sound ≡ true) × (comes_next place run.life ≡ true))
    (idle : P vol → grouped o ≡ None → Q vol × (grouped (w.volumes vol) ≡ None))
    (lends : (v : Volume) → o ≡ Some v → (name : Word) → HasDevice v.lies name → IsMemberDevice w.group name → IsLent w name) where
  abbrev after : World
  after = record w { volumes = put vol o w.volumes }

  pub put_running : AreRunning place w.volumes → AreRunning place after.volumes
  put_running all name run is = elim (name_cases vol name) [
    | inl same ↦ runs run (sym (ap grouped (put_same vol o w.volumes)) ∙ subst (λ n. grouped (put vol o w.volumes n) ≡ Some run) (sym same) is)
    | inr other ↦ all name run (sym (ap grouped (put_other vol name o w.volumes other)) ∙ is)
  ]

  put_stopped : AreStopped Q w → AreStopped P after
  put_stopped all g here v there of started none = elim (name_cases vol v.name) [
    | inl same ↦
        let now = idle (subst P (sym same) of) (sym (ap grouped (put_same vol o w.volumes)) ∙ subst (λ n. grouped (put vol o w.volumes n) ≡ None) (sym same) none) in
        all g here v there (subst Q same now.0) started (subst (λ n. grouped (w.volumes n) ≡ None) same now.1)
    | inr other ↦ all g here v there (others v.name (differs v.name vol other) of) started (sym (ap grouped (put_other vol v.name o w.volumes other)) ∙ none)
  ]

  lent_before : (g : Group) → w.group ≡ Some g → (m : Member) → IsMemberDevice w.group m.device → IsLent after m.device → IsLent w m.device
  lent_before g here m member (name, v, is, has) = elim (name_cases vol name) [
    | inl same ↦ lends v (sym (put_same vol o w.volumes) ∙ subst (λ n. put vol o w.volumes n ≡ Some v) (sym same) is) m.device has member
    | inr other ↦ (name, v, sym (put_other vol name o w.volumes other) ∙ is, has)
  ]

  pub put_kept : ((g : Group) → (m : Member) → Contains g.members m → w.group ≡ Some g → IsMemberDevice w.group m.device) → Keeps place Q w → Keeps place P after
  put_kept members k = record {
    running = put_running k.running;
    stopped = put_stopped k.stopped;
    disks = λ g here. let d = k.disks g here in record { own = d.own; there = d.there; apart = λ m one lent. d.apart m one (lent_before g here m (members g m one here) lent) };
  }

-- a member's device is one of the group
any_member : (ms : List Member) (m : Member) → IsIn ms m → AnyOf (λ n. n.device ≡ m.device) ms
any_member [] m one = absurd one
any_member (n ∷ ms) m (inl same) = inl (ap (λ (x : Member). x.device) (sym same))
any_member (n ∷ ms) m (inr one) = inr (any_member ms m one)

pub member_device : (w : World) (g : Group) (m : Member) → Contains g.members m → w.group ≡ Some g → IsMemberDevice w.group m.device
member_device w g m one here = subst (λ o. IsMemberDevice o m.device) (sym here) (any_member g.members m (is_in g.members m one))

-- a volume on plexes has no device
pub has_none : (v : Volume) (plexes : List Word) (name : Word) → v.lies ≡ OnPlexes plexes → HasDevice v.lies name → ⊥
has_none v plexes name on has = subst (λ l. HasDevice l name) on has

pub grouped_runs : (v : Volume) (plexes : List Word) → v.lies ≡ OnPlexes plexes → grouped (Some v) ≡ Some v
grouped_runs v plexes on = by v.lies on
  where
    by : (l : Lies) → l ≡ OnPlexes plexes → grouped (Some (record v { lies = l })) ≡ Some (record v { lies = l })
    by (OnPlexes ps) e = refl
    by (OnDevice d) e = cc

pub grouped_was : (o : Option Volume) (v : Volume) → grouped o ≡ Some v → o ≡ Some v
grouped_was None v e = not_none v e
grouped_was (Some u) v e = by u.lies refl
  where
    by : (l : Lies) → u.lies ≡ l → Some u ≡ Some v
    by (OnPlexes ps) is = sym (grouped_runs u ps is) ∙ e
    by (OnDevice d) is = not_none v (sym (ap (λ l. grouped (Some (record u { lies = l }))) is) ∙ e)

-- the volume of the name runs, and is another one, on plexes
pub put_run : (place : ℕ) (w : World) (vol : Word) (run : Volume) (plexes : List Word) → run.lies ≡ OnPlexes plexes → run.sound ≡ true → comes_next place run.life ≡ true → Keeps place (Besides vol) w → Keeps place Every (record w { volumes = put vol (Some run) w.volumes })
put_run place w vol run plexes on sound next k =
    put_kept place Every (Besides vol) w vol (Some run) (λ n other one. other)
    (λ other is. let same = some_same run other (sym (grouped_runs run plexes on) ∙ is) in (subst (λ (v : Volume). v.sound ≡ true) same sound, subst (λ (v : Volume). comes_next place v.life ≡ true) same next))
    (λ one none. not_none run (sym none ∙ grouped_runs run plexes on))
    (λ v is name has member. absurd (has_none run plexes name on (subst (λ (x : Volume). HasDevice x.lies name) (sym (some_same run v is)) has)))
    (member_device w) k

-- the volume of the name is taken out of the world
pub put_away : (place : ℕ) (w : World) (vol : Word) → Keeps place (Besides vol) w → Keeps place (Besides vol) (record w { volumes = put vol None w.volumes })
put_away place w vol k =
    put_kept place (Besides vol) (Besides vol) w vol None (λ n other one. one) (λ run is. not_none run is) (λ one none. absurd (one refl)) (λ v is name has member. not_none v is) (member_device w) k

-- ---- devices

pub sectors_same : (old new : Word → Option Device) (ms : List Member) → ((m : Member) → IsIn ms m → (k : ℕ) → public_of (new m.device) k ≡ public_of (old m.device) k) → (slot k : ℕ) → sectors_of new ms slot k ≡ sectors_of old ms slot k
sectors_same old new [] each slot k = refl
sectors_same old new (m ∷ ms) each slot k = by (m.slot == slot) (sectors_same old new ms (λ n one. each n (inr one)) slot k)
  where
    by : (b : Bool) → sectors_of new ms slot k ≡ sectors_of old ms slot k → cond b (public_of (new m.device)) (sectors_of new ms slot) k ≡ cond b (public_of (old m.device)) (sectors_of old ms slot) k
    by true rest = each m (inl refl) k
    by false rest = rest

-- where the public regions of a group's disks hold the same, its volumes are the same
pub image_same : (g : Group) (old new : Word → Option Device) → ((m : Member) → IsIn g.members m → (k : ℕ) → public_of (new m.device) k ≡ public_of (old m.device) k) → (v : Vol) → image_on new g v ≡ image_on old g v
image_same g old new each v = ap (λ bytes. image_of g.config g.good bytes v) (λ i slot k. sectors_same old new g.members each slot k i)

-- devices change that are none of the group's
pub others_change : (place : ℕ) (P : Word → Type 0) (w : World) (devices : Word → Option Device) → ((name : Word) → IsMemberDevice w.group name → devices name ≡ w.devices name) → Keeps place P w → Keeps place P (record w { devices = devices })
others_change place P w devices same k = record {
  running = k.running;
  stopped = λ g here v there of started idle.
      subst IsSoundImage (sym (image_same g w.devices devices (λ m one n. ap (λ o. public_of o n) (same m.device (member_device w g m (contains g.members m one) here))) v))
      (k.stopped g here v there of started idle);
  disks = λ g here.
      let d = k.disks g here in
      record { own = d.own; there = λ m one. subst (λ o. IsSome o) (sym (same m.device (member_device w g m one here))) (d.there m one); apart = d.apart };
}

pub stays_there : (Q : ℕ → Type 0) (old new : Option Device) → DeviceStaysBut Q old new → IsSome old → IsSome new
stays_there Q None None stays is = is
stays_there Q None (Some e) stays is = absurd stays
stays_there Q (Some d) None stays is = absurd stays
stays_there Q (Some d) (Some e) stays is = refl

-- devices change in the sectors of one volume
pub changed : (place : ℕ) (w : World) (g : Group) (vol : Word) (devices : Word → Option Device) → w.group ≡ Some g → ChangesOnly g vol w.devices devices → Keeps place Every w → Keeps place (Besides vol) (record w { devices = devices })
changed place w g vol devices here changes k = record {
  running = k.running;
  stopped = λ h is v there other started idle.
      let same : g ≡ h = some_same g h (sym here ∙ is) in
      let one = other_image g vol w.devices devices (k.disks g here).own changes v other in
      subst IsSoundImage (sym (subst (λ x. image_on devices x v ≡ image_on w.devices x v) same one)) (k.stopped h is v there tt started idle);
  disks = λ h is.
      let d = k.disks h is in
      record { own = d.own; there = λ m one. stays_there (IsSectorOf g vol m.device) (w.devices m.device) (devices m.device) (changes m.device) (d.there m one); apart = d.apart };
}

-- ---- the group or the power goes

pub group_goes : (place : ℕ) (w : World) → Keeps place Every (group_gone w)
group_goes place w = record {
  running = λ name run is. not_none run (sym (lone_grouped (w.volumes name)) ∙ is);
  stopped = λ g here. not_none g here;
  disks = λ g here. not_none g here;
}

pub power_goes : (place : ℕ) (old new : World) → PowerGoes old new → Keeps place Every new
power_goes place old new goes = record {
  running = λ name run is. not_none run (sym (ap grouped (goes.volumes name)) ∙ is);
  stopped = λ g here. not_none g (sym goes.no_group ∙ here);
  disks = λ g here. not_none g (sym goes.no_group ∙ here);
}

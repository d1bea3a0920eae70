-- Running volumes of a group through a commit: they run by the configuration that was written, on the same disks.
use Rattle.std.proofs.Common.{◌≡◌, ◌∙◌, ℕ, Bool, true, false, cond, List, [], ◌∷◌, Option, Some, None, refl, sym, ap, subst}
use Rattle.std.specs.Prelude.{Contains, IsSome, is_some}
use Rattle.std.proofs.lemmas.Bool.{and_parts}
use Rattle.std.specs.BTreeMap.{is_at}
use Rattle.std.specs.Cmp.Lexicographic.{slice_cmp}
use Rattle.std.specs.Ordering.{nat_cmp}
use Rattle.vx_pages.specs.declared.local_piece.LocalPiece.{Ghosts}
use Rattle.vx_base.specs.Named.{Word}
use Rattle.vx_piece.specs.Seen.{Seen}
use Rattle.vx_copies.specs.Disks.{DiskSeen, good_mask}
use Rattle.vx_copies.specs.Lists.{AllOf, AnyOf}
use Rattle.vx_config_parts.specs.declared.plex.Plex.{Plex}
use Rattle.vx_config_parts.specs.declared.vol.Vol.{Vol}
use Rattle.vx_config_parts.specs.Objects.{is_log, is_log_plex_of, refers}
use Rattle.vx_image.specs.Bytes.{image_of}
use Rattle.vx_objects.specs.declared.config.Config.{Config}
use Rattle.vx_image.specs.Image.{PlexImage, WasStarted}
use Rattle.vx_image.proofs.Imports.{filled}
use Rattle.vx_moments.specs.World.{Group, Member, Volume}
use Rattle.vx_lending.specs.declared.public.Public.{Public}
use Rattle.vx_lending.specs.declared.public.Running.{Running}
use Rattle.vx_volume_laws.specs.Leaving.{AreNamedIn}
use Rattle.vx_volume_laws.proofs.Configurations.{keeping_goes_on, kept_named}
use Rattle.vx_group_volumes.specs.Runs.{RunsIn}
use Rattle.vx_group_edits.specs.Stays.{AreFewer, EachStays, StaysRecorded}
use Rattle.vx_confdb.specs.Groups.{members}
use Rattle.vx_moments.specs.Leaving.{grouped}
use Rattle.vx_lending.specs.Public.{running_at}
use Rattle.vx_moments.specs.Owners.{device_at}
use Rattle.vx_group_volumes.specs.Places.{KeepsPlaces, RunsInPlace}
use Rattle.vx_group_volumes.proofs.Places.{place_stays, places_go_on}
use Rattle.vx_house.specs.Runs.{AllInPlace, AreInPlace, AreRuns, IsAtRun, IsInPlace, IsOnDisk, IsRunOf, IsNumbered}
use Rattle.vx_house.specs.declared.house.Imported.{Imported}
use Rattle.vx_house.proofs.Logs.{IsLogPlexStill, spared_before}
use Rattle.vx_house.proofs.AllLaws.{all_each, found_first, found_in}

-- each of these disks is one of those, by its slot and by the name and the number of its device
abbrev pub AreDisksOf : List DiskSeen → List DiskSeen → Type 0
AreDisksOf hs ks = (h : DiskSeen) → AnyOf (λ x. x ≡ h) hs → (k : DiskSeen) × AnyOf (λ x. x ≡ k) ks × (k.device ≡ h.device) × (k.seen.device ≡ h.seen.device) × (k.slot ≡ h.slot)

-- names that are in a list of plexes that is in another
named_through : (ps qs rs : List PlexImage) → AreNamedIn ps qs → AreNamedIn qs rs → AreNamedIn ps rs
named_through ps qs rs one two p there =
    let q = one p there in
    let r = two q.0 q.1 in
    (r.0, r.1, r.2 ∙ q.2, r.3 ∙ q.3)

-- A volume that runs in its place runs so by a configuration that keeps it.
module _ {P : Type 0} {ghosts : Ghosts P} (see : P → Seen) (c : Config) (good : ℕ) (numbers : List ℕ) (of : Vol) (r : Running P ghosts) (started : WasStarted of.state) (placed : RunsInPlace see c good numbers of r)
    (c' : Config) (good' : ℕ) (stays : StaysRecorded c good of c' good') where
  started_now : WasStarted stays.now.state
  started_now = subst WasStarted (sym stays.state) started

  runs_now : RunsIn see c' good' numbers stays.now r
  runs_now = record {
    recorded = stays.recorded;
    filled = filled stays.now.state started_now;
    opening = placed.runs.opening;
    of = placed.runs.of;
    form = placed.runs.form;
    keeps = keeping_goes_on placed.runs.opening.config placed.runs.opening.good placed.runs.opening.vol placed.runs.opening.fresh c good of c' good' stays.now placed.runs.keeps stays.keeps;
    whole = placed.runs.whole;
    shape = placed.runs.shape;
    logged = placed.runs.logged ∙ ap is_some (sym stays.keeps.dco);
    lies = placed.runs.lies;
    cut = placed.runs.cut;
  }

  plexes_kept : KeepsPlaces c of.name c' stays.now.name
  plexes_kept p there own =
      let q = stays.plexes p there own in
      record { plex = p; there = q.there; own = q.own; name = refl; lies = q.lies }

  placed_now : RunsInPlace see c' good' numbers stays.now r
  unfolding runs_now
  placed_now = record {
    runs = runs_now;
    places = places_go_on placed.runs.opening.config placed.runs.opening.vol.name c of.name c' stays.now.name placed.places plexes_kept;
    numbered = placed.numbered;
    were_good = λ place own now. placed.were_good place own (stays.were_good place (place_stays placed.runs.opening.config placed.runs.opening.vol.name c of.name placed.places place own) now);
  }

-- ---- in the house

on_those : (hs ks : List DiskSeen) → AreDisksOf hs ks → (numbers : List ℕ) (slot : ℕ) → IsOnDisk numbers hs slot → IsOnDisk numbers ks slot
on_those hs ks same numbers slot n =
    let k = same n.disk n.there in
    record { disk = k.0; there = k.1; slot_is = k.4 ∙ n.slot_is; number_is = n.number_is ∙ sym k.3 }

-- the volume is in its place by the configuration that keeps it, on the same disks
module _ {P : Type 0} {ghosts : Ghosts P} (see : P → Seen) (hs ks : List DiskSeen) (same : AreDisksOf hs ks) (c : Config) (good : ℕ) (name : Word) (r : Running P ghosts) (is : IsInPlace see hs c good name r)
    (c' : Config) (good' : ℕ) (stays : StaysRecorded c good is.of c' good') where
  pub place_kept : IsInPlace see ks c' good' name r
  unfolding runs_now placed_now
  place_kept = record {
    of = stays.now;
    named = stays.name ∙ is.named;
    started = started_now see c good is.numbers is.of r is.started is.placed c' good' stays;
    numbers = is.numbers;
    own = is.own;
    placed = placed_now see c good is.numbers is.of r is.started is.placed c' good' stays;
    opened = λ slot there. on_those hs ks same is.numbers slot (is.opened slot there);
    numbered = λ place of e.
        let was = stays.places place of in
        on_those hs ks same is.numbers place.disk (is.numbered place was (stays.were_good place was e));
  }

-- whatever was written to the disks, it is in its place by the same configuration
pub place_moved : {P : Type 0} {ghosts : Ghosts P} (see : P → Seen) (hs ks : List DiskSeen) → AreDisksOf hs ks → (c : Config) (good : ℕ) (name : Word) (r : Running P ghosts) → IsInPlace see hs c good name r → IsInPlace see ks c good name r
place_moved see hs ks same c good name r is = record {
  of = is.of;
  named = is.named;
  started = is.started;
  numbers = is.numbers;
  own = is.own;
  placed = is.placed;
  opened = λ slot there. on_those hs ks same is.numbers slot (is.opened slot there);
  numbered = λ place of e. on_those hs ks same is.numbers place.disk (is.numbered place of e);
}

pub all_moved : {P : Type 0} {ghosts : Ghosts P} (see : P → Seen) (hs ks : List DiskSeen) → AreDisksOf hs ks → (c : Config) (good : ℕ) (es : List (Word × Running P ghosts)) → AllInPlace see hs c good es → AllInPlace see ks c good es
all_moved {P = P} {ghosts = ghosts} see hs ks same c good es all =
    all_each (λ (e : Word × Running P ghosts). IsInPlace see hs c good e.0 e.1) (λ (e : Word × Running P ghosts). IsInPlace see ks c good e.0 e.1) (λ e is. place_moved see hs ks same c good e.0 e.1 is) es all

-- each one that stays recorded is in its place still
module _ {P : Type 0} {ghosts : Ghosts P} (see : P → Seen) (hs ks : List DiskSeen) (same : AreDisksOf hs ks) (c : Config) (good : ℕ) (These : Word → Type 0) (c' : Config) (good' : ℕ)
    (stays : EachStays (λ v. These v.name) c c') (fewer : AreFewer c good good') where
  pub all_kept : (es : List (Word × Running P ghosts)) → AllOf (λ (e : Word × Running P ghosts). These e.0) es → AllInPlace see hs c good es → AllInPlace see ks c' good' es
  all_kept [] these all = tt
  all_kept (e ∷ es) these all =
      let is = all.0 in (
        place_kept see hs ks same c good e.0 e.1 is c' good' (stays is.of is.placed.runs.recorded (subst These (sym is.named) these.0) good good' fewer),
        all_kept es these.1 all.1,
      )

-- ---- in the world

module _ {P : Type 0} {ghosts : Ghosts P} (see : P → Seen) (hs ks : List DiskSeen) (same : AreDisksOf hs ks) (w : Group) (name : Word) (r : Running P ghosts) (run : Volume) (is : IsRunOf see hs w name r run) where
  on_disks : (numbers : List ℕ) (members members' : List Member) (slot : ℕ) → ((d : Word) → device_at members slot ≡ Some d → device_at members' slot ≡ Some d) → IsNumbered numbers hs members slot → IsNumbered numbers ks members' slot
  on_disks numbers members members' slot devices n =
      let k = same n.disk n.there in
      record { disk = k.0; there = k.1; device = devices n.disk.device n.device ∙ ap (λ (d : Word). Some d) (sym k.2); number = n.number ∙ sym k.3 }

  -- whatever was written to the disks, it runs by the same group
  pub run_moved : IsRunOf see ks w name r run
  run_moved = record {
    of = is.of;
    named = is.named;
    started = is.started;
    numbers = is.numbers;
    own = is.own;
    placed = is.placed;
    opened = λ slot there. on_disks is.numbers w.members w.members slot (λ d e. e) (is.opened slot there);
    numbered = λ place of good. on_disks is.numbers w.members w.members place.disk (λ d e. e) (is.numbered place of good);
    lies = is.lies;
    length_is = is.length_is;
    region_is = is.region_is;
    plexes = is.plexes;
    plexes_of = is.plexes_of;
    plexes_then = is.plexes_then;
    runs_as = is.runs_as;
    sure = is.sure;
    exact = is.exact;
  }

  -- and by one that keeps it
  module _ (w' : Group) (stays : StaysRecorded w.config w.good is.of w'.config w'.good)
      (devices : (slot : ℕ) (d : Word) → device_at w.members slot ≡ Some d → device_at w'.members slot ≡ Some d) where
    -- its log plexes are those that it had
    log_still : (p : Plex) → Contains w.config.plexes p → is_log_plex_of name p ≡ true → IsLogPlexStill w w' name p
    log_still p there log_is =
        let parts = and_parts (refers p.vol name) (is_log p.kind) log_is in
        let own : refers p.vol is.of.name ≡ true = ap (refers p.vol) is.named ∙ parts.0 in
        let q = stays.plexes p there own in
        record { plex = p; there = q.there; log_is = log_is; columns = q.lies.columns }

    pub run_kept : IsRunOf see ks w' name r run
    unfolding runs_now placed_now
    run_kept = record {
      of = stays.now;
      named = stays.name ∙ is.named;
      started = started_now see w.config w.good is.numbers is.of r is.started is.placed w'.config w'.good stays;
      numbers = is.numbers;
      own = is.own;
      placed = placed_now see w.config w.good is.numbers is.of r is.started is.placed w'.config w'.good stays;
      opened = λ slot there. on_disks is.numbers w.members w'.members slot (devices slot) (is.opened slot there);
      numbered = λ place of e.
          let was = stays.places place of in
          on_disks is.numbers w.members w'.members place.disk (devices place.disk) (is.numbered place was (stays.were_good place was e));
      lies = is.lies;
      length_is = is.length_is ∙ sym stays.keeps.length_is;
      region_is = is.region_is ∙ sym stays.keeps.region_is;
      plexes = is.plexes;
      plexes_of = λ bytes. named_through (image_of w'.config w'.good bytes stays.now).plexes (image_of w.config w.good bytes is.of).plexes is.plexes
          (kept_named w.config w.good is.of false w'.config w'.good stays.now stays.keeps bytes bytes) (is.plexes_of bytes);
      plexes_then = is.plexes_then;
      runs_as = is.runs_as;
      sure = is.sure;
      exact = λ sound spared. is.exact sound (spared_before w w' devices name run.failed log_still spared);
    }

-- whatever was written to the disks of the group, its volumes run as they did
moved_at : {P : Type 0} {ghosts : Ghosts P} (see : P → Seen) (hs ks : List DiskSeen) → AreDisksOf hs ks → (g : Option Group) (name : Word) (r : Option (Running P ghosts)) (v : Option Volume) → IsAtRun see hs g name r v → IsAtRun see ks g name r v
moved_at see hs ks same g name None None is = tt
moved_at see hs ks same g name None (Some v) is = absurd is
moved_at see hs ks same g name (Some r) None is = absurd is
moved_at see hs ks same None name (Some r) (Some v) is = absurd is
moved_at see hs ks same (Some w) name (Some r) (Some v) is = run_moved see hs ks same w name r v is

pub runs_moved : {P : Type 0} {ghosts : Ghosts P} (see : P → Seen) (o n : Imported P ghosts) → n.public ≡ o.public → AreDisksOf (members see o.base) (members see n.base) → (g : Option Group) (volumes : Word → Option Volume) → AreRuns see (Some o) g volumes → AreRuns see (Some n) g volumes
runs_moved see o n public disks g volumes are name =
    subst (λ p. IsAtRun see (members see n.base) g name (running_at p name) (grouped (volumes name))) (sym public)
    (moved_at see (members see o.base) (members see n.base) disks g name (running_at o.public name) (grouped (volumes name)) (are name))

-- The group keeps each volume of these names, on no more disks, and its members in their slots.
pub record KeepsThese (These : Word → Type 0) (w w' : Group) : Type 0 where
  pub stays : EachStays (λ v. These v.name) w.config w'.config
  pub fewer : AreFewer w.config w.good w'.good
  pub devices : (slot : ℕ) (d : Word) → device_at w.members slot ≡ Some d → device_at w'.members slot ≡ Some d

kept_at : {P : Type 0} {ghosts : Ghosts P} (see : P → Seen) (hs ks : List DiskSeen) → AreDisksOf hs ks → (These : Word → Type 0) (w w' : Group) → KeepsThese These w w' → (name : Word) (r : Option (Running P ghosts)) (v : Option Volume) → (IsSome r → These name) → IsAtRun see hs (Some w) name r v → IsAtRun see ks (Some w') name r v
kept_at see hs ks same These w w' keeps name None None these is = tt
kept_at see hs ks same These w w' keeps name None (Some v) these is = absurd is
kept_at see hs ks same These w w' keeps name (Some r) None these is = absurd is
kept_at see hs ks same These w w' keeps name (Some r) (Some v) these is =
    run_kept see hs ks same w name r v is w' (keeps.stays is.of is.placed.runs.recorded (subst These (sym is.named) (these refl)) w.good w'.good keeps.fewer) keeps.devices

-- a volume of the name runs
abbrev pub Runs : {P : Type 0} {ghosts : Ghosts P} → Imported P ghosts → Word → Type 0
Runs g name = IsSome (running_at g.public name)

pub runs_kept : {P : Type 0} {ghosts : Ghosts P} (see : P → Seen) (o n : Imported P ghosts) → n.public ≡ o.public → AreDisksOf (members see o.base) (members see n.base) → (w w' : Group) → KeepsThese (Runs o) w w' → (volumes : Word → Option Volume) → AreRuns see (Some o) (Some w) volumes → AreRuns see (Some n) (Some w') volumes
runs_kept see o n public disks w w' keeps volumes are name =
    subst (λ p. IsAtRun see (members see n.base) (Some w') name (running_at p name) (grouped (volumes name))) (sym public)
    (kept_at see (members see o.base) (members see n.base) disks (Runs o) w w' keeps name (running_at o.public name) (grouped (volumes name)) (λ there. there) (are name))

-- each entry is of a volume that runs
entries_run : {X : Type 0} (es : List (Word × X)) → AllOf (λ (e : Word × X). IsSome (found_in es e.0)) es
entries_run [] = tt
entries_run {X = X} (e ∷ es) = (
  subst IsSome (sym (found_first e es)) refl,
  all_each (λ (x : Word × X). IsSome (found_in es x.0)) (λ (x : Word × X). IsSome (found_in (e ∷ es) x.0)) (λ x there. by (is_at (slice_cmp nat_cmp x.0) e.0) (found_in es x.0) there) es (entries_run es),
)
  where
    by : (b : Bool) (o : Option X) → IsSome o → IsSome (cond b (Some e.1) o)
    by true o there = refl
    by false o there = there

-- the running volumes of the group are in their places still, where it keeps each of them
pub places_kept : {P : Type 0} {ghosts : Ghosts P} (see : P → Seen) (o n : Imported P ghosts) → n.public ≡ o.public → AreDisksOf (members see o.base) (members see n.base) → EachStays (λ v. Runs o v.name) o.config n.config →
    AreFewer o.config (good_mask (members see o.base)) (good_mask (members see n.base)) → AreInPlace see o → AreInPlace see n
places_kept {P = P} {ghosts = ghosts} see o n public disks stays fewer all =
    subst (λ (p : Public P ghosts). AllInPlace see (members see n.base) n.config (good_mask (members see n.base)) p.running.entries) (sym public)
    (all_kept see (members see o.base) (members see n.base) disks o.config (good_mask (members see o.base)) (Runs o) n.config (good_mask (members see n.base)) stays fewer o.public.running.entries (entries_run o.public.running.entries) all)

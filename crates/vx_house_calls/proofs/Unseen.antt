-- A house of which one running volume is another value that is seen as it was.
use Rattle.std.proofs.Common.{◌≡◌, ◌∙◌, ℕ, ◌<◌, inl, inr, List, [], ◌∷◌, ◌++◌, map, Option, Some, None, sym, ap, subst}
use Rattle.std.specs.Prelude.{IfSome, length, nat_lt}
use Rattle.std.specs.BTreeMap.{is_at, get}
use Rattle.std.specs.Cmp.Lexicographic.{slice_cmp}
use Rattle.std.specs.List.{flat_map}
use Rattle.std.specs.Ordering.{nat_cmp}
use Rattle.std.proofs.lemmas.Grind.{flat_map-append}
use Rattle.vx_pages.specs.declared.local_piece.LocalPiece.{Ghosts}
use Rattle.vx_base.specs.Named.{Word, put}
use Rattle.vx_base.proofs.NamedLemmas.{name_cases, put_other, put_same}
use Rattle.vx_piece.specs.Seen.{Seen}
use Rattle.vx_config_parts.specs.declared.vol.Vol.{Vol}
use Rattle.vx_copies.specs.Disks.{DiskSeen, good_mask}
use Rattle.vx_copies.specs.Lists.{AllOf}
use Rattle.vx_confdb.specs.Groups.{members}
use Rattle.vx_fronts.specs.Parted.{AreParted}
use Rattle.vx_moments.specs.Leaving.{grouped}
use Rattle.vx_moments.specs.Moment.{Moment}
use Rattle.vx_moments.specs.World.{Group, Volume}
use Rattle.vx_objects.specs.declared.config.Config.{Config}
use Rattle.vx_volume.specs.declared.log.VolumeLog.{VolumeLog}
use Rattle.vx_volume.specs.Opening.{count_of}
use Rattle.vx_volume.specs.Volume.{IsVolume, VolumeSeen, log_of, volume_seen}
use Rattle.vx_volume_laws.specs.Exact.{IsExactVolume}
use Rattle.vx_volume_laws.specs.Lying.{IsLogFor, LiesAs, LiesIn}
use Rattle.vx_volume_laws.specs.Running.{IsSureOfOthers, RunsAsVolume}
use Rattle.vx_lending.specs.declared.form.VolumeForm.{VolumeForm}
use Rattle.vx_lending.specs.declared.public.Running.{Running}
use Rattle.vx_lending.specs.Form.{IsFormOf}
use Rattle.vx_lending.specs.Left.{held_pieces, region_plexes}
use Rattle.vx_lending.specs.Logs.{log_copies, log_pieces}
use Rattle.vx_lending.specs.RegionPieces.{all_pieces}
use Rattle.vx_lending.specs.Public.{lent_pieces, running_at, running_pieces, still_pieces, stuck_pieces}
use Rattle.vx_group_calls.specs.Causes.{AreCutWhereDead}
use Rattle.vx_group_volumes.specs.Places.{RunsInPlace}
use Rattle.vx_group_volumes.specs.Runs.{RunsIn}
use Rattle.vx_house.specs.Holders.{AreHeld, Holder, group_rests, hand_holder, holder_in, holders, volume_holder, whole_members}
use Rattle.vx_house.specs.Runs.{IsAtRun, IsInPlace, IsRunOf, fronts_in, run_in}
use Rattle.vx_house.specs.Scene.{AreCountsOf, Scene, Shelved, seen_at}
use Rattle.vx_house.specs.View.{AreSized, IsDeviceOf, IsGroupKept, IsMoment, Keeps, at, group_of, is_lent, scene}
use Rattle.vx_house.specs.declared.house.House.{House}
use Rattle.vx_house.specs.declared.house.Imported.{Imported}
use Rattle.vx_fronts.specs.Fronts.{Rests}
use Rattle.vx_fronts.specs.Laws.{whole_disks}
use Rattle.vx_fronts.specs.Rests.{rests_of}
use Rattle.vx_house_calls.specs.Passes.{with_group}
use Rattle.vx_house_calls.specs.Unseen.{EachUnseenChangeStays, IsSeenSo, IsUnseenIn}
use Rattle.vx_house_calls.proofs.Entries.{IsSetAt, set_at}

-- ---- one volume

module _ {P : Type 0} {ghosts : Ghosts P} (see : P → Seen) (r r' : Running P ghosts) (so : IsSeenSo see r r') where
  pub pieces_same : held_pieces see r'.volume ≡ held_pieces see r.volume
  pieces_same =
      ap (λ (v : VolumeSeen). all_pieces (region_plexes v.cells) ++ log_pieces see (log_of r'.volume)) so.seen
      ∙ ap (λ (l : VolumeLog P ghosts). all_pieces (region_plexes (volume_seen see r.volume).cells) ++ log_pieces see l) so.log

  pub is_volume : IsVolume (volume_seen see r.volume) → IsVolume (volume_seen see r'.volume)
  is_volume v = subst (λ (x : VolumeSeen). IsVolume x) (sym so.seen) v

  lies_so : (numbers : List ℕ) → LiesIn see numbers r.form r.volume → LiesIn see numbers r'.form r'.volume
  lies_so numbers lies =
      record {
        some = subst (λ (f : VolumeForm). 0 < count_of f.shape) (sym so.form) lies.some;
        log_for = subst (λ (f : VolumeForm). IsLogFor f.shape.geometry (log_of r'.volume)) (sym so.form) (subst (λ (l : VolumeLog P ghosts). IsLogFor r.form.shape.geometry l) (sym so.log) lies.log_for);
        lies =
            subst (λ (f : VolumeForm). LiesAs numbers f (volume_seen see r'.volume) (log_copies see (log_of r'.volume))) (sym so.form)
            (subst (λ (l : VolumeLog P ghosts). LiesAs numbers r.form (volume_seen see r'.volume) (log_copies see l)) (sym so.log)
            (subst (λ (x : VolumeSeen). LiesAs numbers r.form x (log_copies see (log_of r.volume))) (sym so.seen) lies.lies));
      }

  runs_so : (config : Config) (good : ℕ) (numbers : List ℕ) (vol : Vol) → RunsIn see config good numbers vol r → RunsIn see config good numbers vol r'
  runs_so config good numbers vol runs =
      record {
        recorded = runs.recorded;
        filled = runs.filled;
        opening = runs.opening;
        of = runs.of;
        form = subst (λ (f : VolumeForm). IsFormOf runs.opening.config runs.opening.good runs.opening.vol runs.opening.fresh f) (sym so.form) runs.form;
        keeps = runs.keeps;
        whole = is_volume runs.whole;
        shape = so.shape ∙ runs.shape ∙ ap (λ (f : VolumeForm). f.shape) (sym so.form);
        logged = ap (λ (f : VolumeForm). nat_lt 0 (length f.logs.items)) so.form ∙ runs.logged;
        lies = lies_so numbers runs.lies;
        cut = subst (λ (x : VolumeSeen). AreCutWhereDead x) (sym so.seen) runs.cut;
      }

  place_so : (config : Config) (good : ℕ) (numbers : List ℕ) (vol : Vol) → RunsInPlace see config good numbers vol r → RunsInPlace see config good numbers vol r'
  unfolding runs_so
  place_so config good numbers vol placed =
      record { runs = runs_so config good numbers vol placed.runs; places = placed.places; numbered = placed.numbered; were_good = placed.were_good }

  pub in_place_so : (hs : List DiskSeen) (config : Config) (good : ℕ) (name : Word) → IsInPlace see hs config good name r → IsInPlace see hs config good name r'
  unfolding place_so runs_so
  in_place_so hs config good name is =
      record {
        of = is.of;
        named = is.named;
        started = is.started;
        numbers = is.numbers;
        own = is.own;
        placed = place_so config good is.numbers is.of is.placed;
        opened = is.opened;
        numbered = is.numbered;
      }

  pub run_so : (hs : List DiskSeen) (g : Group) (name : Word) (w : Volume) → IsRunOf see hs g name r w → IsRunOf see hs g name r' w
  unfolding place_so runs_so
  run_so hs g name w is =
      record {
        of = is.of;
        named = is.named;
        started = is.started;
        numbers = is.numbers;
        own = is.own;
        placed = place_so g.config g.good is.numbers is.of is.placed;
        opened = is.opened;
        numbered = is.numbered;
        lies = is.lies;
        length_is = is.length_is;
        region_is = is.region_is;
        plexes = is.plexes;
        plexes_of = is.plexes_of;
        plexes_then = is.plexes_then;
        runs_as = λ sound. subst (λ (x : VolumeSeen). RunsAsVolume is.plexes x w) (sym so.seen) (is.runs_as sound);
        sure = λ sound. subst (λ (x : VolumeSeen). IsSureOfOthers is.plexes x w) (sym so.seen) (is.sure sound);
        exact = λ sound spared. subst (λ (x : VolumeSeen). IsExactVolume x) (sym so.seen) (is.exact sound spared);
      }

-- ---- one entry of a list

flat_same : {X A : Type 0} (f : X → List A) (xs : List X) (x y : X) (ys : List X) → f y ≡ f x → flat_map f (xs ++ y ∷ ys) ≡ flat_map f (xs ++ x ∷ ys)
flat_same {A = A} f xs x y ys same = flat_map-append f xs (y ∷ ys) ∙ ap (λ (zs : List A). flat_map f xs ++ (zs ++ flat_map f ys)) same ∙ sym (flat_map-append f xs (x ∷ ys))

all_same : {X : Type 0} (Q : X → Type 0) (xs : List X) (x y : X) (ys : List X) → (Q x → Q y) → AllOf Q (xs ++ x ∷ ys) → AllOf Q (xs ++ y ∷ ys)
all_same Q [] x y ys to all = (to all.0, all.1)
all_same Q (z ∷ xs) x y ys to all = (all.0, all_same Q xs x y ys to all.1)

-- ---- the group

module _ {P : Type 0} {ghosts : Ghosts P} (see : P → Seen) (name : Word) (g g' : Imported P ghosts) (is : IsUnseenIn see name g g') where
  abbrev now : Imported P ghosts
  now = record g { public = record g.public { running = g'.public.running } }

  entry : IsSetAt g.public.running.entries g'.public.running.entries is.before is.after
  entry = subst (λ (es : List (Word × Running P ghosts)). IsSetAt g.public.running.entries es is.before is.after) (sym is.entries) (set_at (is_at (slice_cmp nat_cmp name)) is.before is.after g.public.running.entries is.was)

  lent_same : lent_pieces see now.public ≡ lent_pieces see g.public
  lent_same =
      ap (λ (ps : List Seen). ps ++ flat_map (stuck_pieces see) g.public.stuck.items)
      (ap (λ (es : List (Word × Running P ghosts)). flat_map (running_pieces see) es) entry.is
      ∙ flat_same (running_pieces see) entry.before (entry.key, is.before) (entry.key, is.after) entry.behind (pieces_same see is.before is.after is.seen)
      ∙ ap (λ (es : List (Word × Running P ghosts)). flat_map (running_pieces see) es) (sym entry.was))

  abbrev still : List Seen
  still = still_pieces see g.public

  rests_same : group_rests see now ≡ group_rests see g
  rests_same = ap (λ (ps : List Seen). rests_of (still ++ ps) []) lent_same

  pub whole_same : whole_members see now ≡ whole_members see g
  whole_same = ap (λ (rests : Rests). whole_disks rests (members see g.base)) rests_same

  all_entries : (Q : Word × Running P ghosts → Type 0) → ((key : Word) → Q (key, is.before) → Q (key, is.after)) → AllOf Q g.public.running.entries → AllOf Q g'.public.running.entries
  all_entries Q to all =
      subst (λ (es : List (Word × Running P ghosts)). AllOf Q es) (sym entry.is)
      (all_same Q entry.before (entry.key, is.before) (entry.key, is.after) entry.behind (to entry.key) (subst (λ (es : List (Word × Running P ghosts)). AllOf Q es) entry.was all))

  kept_now : IsGroupKept see g → IsGroupKept see now
  kept_now kept =
      record {
        named = kept.named;
        text = kept.text;
        first = kept.first;
        carries = kept.carries;
        sized = subst (λ (hs : List DiskSeen). AreSized hs) (sym whole_same) kept.sized;
        slots = kept.slots;
        recorded = kept.recorded;
        whole = record {
          parted = subst (λ (ps : List Seen). AreParted (members see g.base) (still ++ ps)) (sym lent_same) kept.whole.parted;
          volumes = all_entries (λ (e : Word × Running P ghosts). IsVolume (volume_seen see e.1.volume)) (λ key v. is_volume see is.before is.after is.seen v) kept.whole.volumes;
          stuck = kept.whole.stuck;
        };
        placed =
            all_entries (λ (e : Word × Running P ghosts). IsInPlace see (members see g.base) g.config (good_mask (members see g.base)) e.0 e.1)
            (λ key p. in_place_so see is.before is.after is.seen (members see g.base) g.config (good_mask (members see g.base)) key p) kept.placed;
      }

  pub kept_unseen : IsGroupKept see g → IsGroupKept see g'
  kept_unseen kept = subst (λ (x : Imported P ghosts). IsGroupKept see x) (sym is.same) (kept_now kept)

  -- ---- the house

  module _ (shelf : Shelved) (h : House P ghosts) (has : h.group ≡ Some g) where
    abbrev k : House P ghosts
    k = with_group h g'

    group_was : h ≡ with_group h g
    group_was = ap (λ (o : Option (Imported P ghosts)). (let x : House P ghosts = record { volumes = h.volumes; group = o; hand = h.hand } in x)) has

    holders_of : (x : Imported P ghosts) → whole_members see x ≡ whole_members see g → holders see (with_group h x) ≡ holders see (with_group h g)
    holders_of x same = ap (λ (hs : List DiskSeen). map (volume_holder see) h.volumes.entries ++ (map holder_in hs ++ map (hand_holder see) h.hand.items)) same

    holders_same : holders see k ≡ holders see h
    holders_same =
        holders_of g' (ap (λ (x : Imported P ghosts). whole_members see x) is.same ∙ whole_same) ∙ ap (λ (x : House P ghosts). holders see x) (sym group_was)

    scene_same : scene see (at shelf k) ≡ scene see (at shelf h)
    scene_same = ap (λ (hs : List Holder). (let s : Scene = record { shelf = shelf; taken = hs } in s)) holders_same

    keeps_same : Keeps see (at shelf h) → Keeps see (at shelf k)
    keeps_same keeps =
        record {
          devices = subst (λ (hs : List Holder). AreHeld shelf.held hs) (sym holders_same) keeps.devices;
          house = record {
            ordered = keeps.house.ordered;
            hand = keeps.house.hand;
            volumes = keeps.house.volumes;
            group = kept_unseen (subst (λ (o : Option (Imported P ghosts)). IfSome o (IsGroupKept see)) has keeps.house.group);
          };
        }

    group_same : group_of see (Some g') ≡ group_of see (Some g)
    group_same = ap (λ (x : Imported P ghosts). group_of see (Some x)) is.same

    fronts_same : fronts_in see (Some g') ≡ fronts_in see (Some g)
    fronts_same = ap (λ (x : Imported P ghosts). fronts_in see (Some x)) is.same

    at_name : (hs : List DiskSeen) (w : Option Group) (o : Option Volume) → IsAtRun see hs w name (Some is.before) o → IsAtRun see hs w name (Some is.after) o
    at_name hs w None a = absurd a
    at_name hs None (Some v) a = absurd a
    at_name hs (Some w) (Some v) a = run_so see is.before is.after is.seen hs w name v a

    runs_at : (hs : List DiskSeen) (w : Option Group) (o : Option Volume) (x : Word) → IsAtRun see hs w x (running_at g.public x) o → IsAtRun see hs w x (running_at g'.public x) o
    runs_at hs w o x a =
        subst (λ (r : Option (Running P ghosts)). IsAtRun see hs w x r o) (sym (is.puts x))
        (elim (name_cases name x) [
          | inl same ↦
              subst (λ (y : Word). IsAtRun see hs w y (put name (Some is.after) (get (slice_cmp nat_cmp) g.public.running) y) o) same
              (subst (λ (r : Option (Running P ghosts)). IsAtRun see hs w name r o) (sym (put_same name (Some is.after) (get (slice_cmp nat_cmp) g.public.running)))
              (at_name hs w o (subst (λ (r : Option (Running P ghosts)). IsAtRun see hs w name r o) is.was (subst (λ (y : Word). IsAtRun see hs w y (running_at g.public y) o) (sym same) a))))
          | inr apart ↦ subst (λ (r : Option (Running P ghosts)). IsAtRun see hs w x r o) (sym (put_other name x (Some is.after) (get (slice_cmp nat_cmp) g.public.running) apart)) a
        ])

    moments_same : (m : Moment) → IsMoment see (at shelf h) m → IsMoment see (at shelf k) m
    moments_same m is_m =
        record {
          told = is_m.told;
          devices_are = λ n. subst (λ (s : Scene). IsDeviceOf (is_lent h n) (seen_at s n) (m.world.devices n)) (sym scene_same) (is_m.devices_are n);
          volumes_are = is_m.volumes_are;
          runs_are = λ x.
              subst (λ (hs : List DiskSeen). IsAtRun see hs m.world.group x (running_at g'.public x) (grouped (m.world.volumes x))) (sym fronts_same)
              (runs_at (fronts_in see (Some g)) m.world.group (grouped (m.world.volumes x)) x
              (subst (λ (o : Option (Imported P ghosts)). IsAtRun see (fronts_in see o) m.world.group x (run_in o x) (grouped (m.world.volumes x))) has (is_m.runs_are x)));
          group_is = is_m.group_is ∙ ap (group_of see) has ∙ sym group_same;
          counts = subst (λ (s : Scene). AreCountsOf s m.counts) (sym scene_same) is_m.counts;
        }

pub unseen_stays : {P : Type 0} {ghosts : Ghosts P} (see : P → Seen) (h : House P ghosts) (old new : Imported P ghosts) → EachUnseenChangeStays see h old new
unseen_stays see h old new shelf name has is =
    record {
      keeps = keeps_same see name old new is shelf h has;
      moments = moments_same see name old new is shelf h has;
      scene_is = scene_same see name old new is shelf h has;
    }

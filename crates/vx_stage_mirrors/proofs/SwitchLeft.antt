-- What the regions of a running volume leave is left also as a plex of it is recorded as one in use.
use Rattle.std.proofs.Common.{◌∙◌, ℕ, ◌<◌, List, length, sym, ap, subst, inl, inr}
use Rattle.std.specs.Prelude.{Contains}
use Rattle.vx_image.specs.Image.{Image, IsFilled, PlexImage, regions_of}
use Rattle.vx_moments.specs.World.{Volume}
use Rattle.vx_volume.specs.Volume.{VolumeSeen}
use Rattle.vx_volume_laws.specs.Leaving.{IsLeftBy, told_by}
use Rattle.vx_volume_laws.specs.Regions.{IsMarkedEverywhere, IsPlexOfRegions, LeaveImage, Regions}
use Rattle.vx_volume_laws.specs.Running.{RunsAsVolume, states_of}
use Rattle.vx_stage_mirrors.proofs.SwitchImages.{IsNowUsed, IsUsedImage}

module _ (n : ℕ) (regions : Regions) (v v' : Image) (u : IsUsedImage v v') where
  used_plex : (x y : PlexImage) → IsNowUsed x y → IsPlexOfRegions v.length v.region regions y → IsPlexOfRegions v'.length v'.region regions x
  used_plex x y used is =
      subst (λ (i : Image). IsPlexOfRegions i.length i.region regions x) (sym u.same)
      (subst (λ (p : PlexImage). IsPlexOfRegions v.length v.region regions p) (sym used.same) (record { values = is.values; held = is.held; stale = λ r held stale. is.stale r held (used.stale stale) }))

  used_marked : (x y : PlexImage) → IsNowUsed x y → IsMarkedEverywhere (told_by n v) y → IsMarkedEverywhere (told_by n v') x
  used_marked x y used marked c one r low =
      ap (λ (p : PlexImage). c r p.map) used.same ∙ marked c (subst (λ (i : Image). Contains (told_by n i).copies c) u.same one) r (subst (λ (i : Image). r < regions_of i) u.same low)

  used_leave : LeaveImage regions (told_by n v) → LeaveImage regions (told_by n v')
  used_leave leave = record {
    sized = subst (λ (i : Image). 0 < i.region) (sym u.same) leave.sized;
    plexes = λ x one. let y = u.comes x one in elim (leave.plexes y.0 y.1) [ inl is ↦ inl (used_plex x y.0 y.2 is) | inr marked ↦ inr (used_marked x y.0 y.2 marked) ];
    copies = λ c one. leave.copies c (subst (λ (i : Image). Contains (told_by n i).copies c) u.same one);
    current = λ r B set. let y = leave.current r B set in let x = u.stays y.0 y.1 in (x.0, x.1, ap (λ (p : PlexImage). B p.map) x.2.same ∙ y.2, used_plex x.0 y.0 x.2 y.3);
    snaps = λ m one. leave.snaps m (subst (λ (i : Image). Contains i.snaps m) u.same one);
  }

pub left_used : (plexes : List PlexImage) (v : VolumeSeen) (w : Volume) (run : RunsAsVolume plexes v w) (image image' : Image) → IsUsedImage image image' → IsLeftBy plexes v w run image → IsLeftBy plexes v w run image'
left_used plexes v w run image image' u left = record {
  leave = used_leave (length v.cells) (states_of v run.fixed w.life.entries) image image' u left.leave;
  plexes_of = λ x one.
      let y = u.comes x one in
      let q = left.plexes_of y.0 y.1 in
      (q.0, q.1, q.2 ∙ ap (λ (p : PlexImage). p.name) (sym y.2.same), q.3 ∙ ap (λ (p : PlexImage). p.map) (sym y.2.same));
  length_is = ap (λ (i : Image). i.length) u.same ∙ left.length_is;
  region_is = ap (λ (i : Image). i.region) u.same ∙ left.region_is;
  filled = subst (λ (i : Image). IsFilled i.state) (sym u.same) left.filled;
}

-- Where the house has nothing of a name that is started, nothing of the name is started in the world.
use Rattle.std.proofs.Common.{◌≡◌, ◌∙◌, true, false, Option, Some, None, refl, sym, ap, subst}
use Rattle.std.specs.Prelude.{is_some}
use Rattle.vx_pages.specs.declared.local_piece.LocalPiece.{Ghosts}
use Rattle.vx_base.specs.Named.{Word}
use Rattle.vx_piece.specs.Seen.{Seen}
use Rattle.vx_moments.specs.Leaving.{grouped, grouped_by, lone, lone_by}
use Rattle.vx_moments.specs.Moment.{Moment}
use Rattle.vx_moments.specs.World.{Lies, OnDevice, OnPlexes, Volume}
use Rattle.vx_lending.specs.declared.public.Running.{Running}
use Rattle.vx_started.specs.declared.started.Started.{Started}
use Rattle.vx_house.specs.Holders.{volume_at}
use Rattle.vx_house.specs.Plain.{plain, told_volume}
use Rattle.vx_house.specs.Runs.{IsAtRun, fronts_in, run_in}
use Rattle.vx_house.specs.Scene.{Shelved}
use Rattle.vx_house.specs.View.{IsAtVolume, IsMoment, at}
use Rattle.vx_house.specs.declared.house.House.{House}

-- a volume lies on a device, or on plexes
no_lone : (o : Option Volume) → lone o ≡ None → grouped o ≡ None → o ≡ None
no_lone None a b = refl
no_lone (Some w) a b = by w.lies refl a b
  where
    by : (l : Lies) → w.lies ≡ l → lone (Some w) ≡ None → grouped (Some w) ≡ None → Some w ≡ None
    by (OnDevice device) e a b = absurd (let both : Some w ≡ None = sym (ap (λ l. lone_by l w) e) ∙ a in cc)
    by (OnPlexes plexes) e a b = absurd (let both : Some w ≡ None = sym (ap (λ l. grouped_by l w) e) ∙ b in cc)

module _ {P : Type 0} {ghosts : Ghosts P} (see : P → Seen) (name : Word) (shelf : Shelved) (h : House P ghosts) where
  -- nothing is told of it
  untold : (o : Option Volume) → is_some o ≡ false → o ≡ None
  untold None e = refl
  untold (Some w) e = absurd (let no : true ≡ false = e in cc)

  both_none : (o : Option (Started P)) (r : Option (Running P ghosts)) → told_volume o r ≡ None → (o ≡ None) × (r ≡ None)
  both_none None None e = (refl, refl)
  both_none None (Some r) e = absurd (let no : Some _ ≡ None = e in cc)
  both_none (Some b) r e = absurd (let no : Some _ ≡ None = e in cc)

  not_lone : (o : Option Volume) → IsAtVolume {P = P} see None o → o ≡ None
  not_lone None there = refl
  not_lone (Some w) there = absurd there

  not_run : (m : Moment) (o : Option Volume) → IsAtRun {P = P} {ghosts = ghosts} see (fronts_in see h.group) m.world.group name None o → o ≡ None
  not_run m None there = refl
  not_run m (Some w) there = absurd there

  pub none_in : is_some ((plain see h).volumes name) ≡ false → (m : Moment) → IsMoment see (at shelf h) m → m.world.volumes name ≡ None
  none_in not m is =
      let two = both_none (volume_at h name) (run_in h.group name) (untold ((plain see h).volumes name) not) in
      no_lone (m.world.volumes name)
      (not_lone (lone (m.world.volumes name)) (subst (λ o. IsAtVolume see o (lone (m.world.volumes name))) two.0 (is.volumes_are name)))
      (not_run m (grouped (m.world.volumes name)) (subst (λ o. IsAtRun see (fronts_in see h.group) m.world.group name o (grouped (m.world.volumes name))) two.1 (is.runs_are name)))

-- A call that is served is what the plans say of it: of a volume on a whole device, of one that the group runs, or of none.
use Rattle.std.proofs.Common.{◌≡◌, ◌∙◌, ◌+◌, ◌<◌, ◌≤◌, ℕ, Bool, true, false, List, Option, Some, None, refl, sym, ap, subst}
use Rattle.std.specs.Prelude.{MatchOption, MatchBool, nat_lt, is_some}
use Rattle.std.specs.BTreeMap.{BTreeMap}
use Rattle.std.proofs.lemmas.Bool.{ltb-true, ltb-false, lt-ltb}
use Rattle.vx_pages.specs.declared.local_piece.LocalPiece.{Ghosts}
use Rattle.vx_base.specs.Named.{Word}
use Rattle.vx_piece.specs.Seen.{Seen}
use Rattle.vx_copies.specs.Disks.{DiskSeen}
use Rattle.vx_confdb.specs.Groups.{members}
use Rattle.vx_script_forms.specs.declared.call.Call.{Call}
use Rattle.vx_started.specs.declared.started.Started.{Started}
use Rattle.vx_started.specs.Stands.{EndHasCause}
use Rattle.vx_answers.specs.declared.answer.End.{End}
use Rattle.vx_answers.specs.declared.answer.End.TheVariants as ends
use Rattle.vx_answers.specs.declared.refusal.Refusal.{Refusal}
use Rattle.vx_answers.specs.declared.refusal.Refusal.TheVariants.{NotStarted, Range}
use Rattle.vx_moments.specs.Leaving.{grouped, grouped_by, lone, lone_by}
use Rattle.vx_moments.specs.Moment.{Moment, Rests}
use Rattle.vx_moments.specs.World.{Group, Lies, OnDevice, OnPlexes, Volume}
use Rattle.vx_stages.specs.Calls.{volume_of, start_of, count_of}
use Rattle.vx_plans.specs.Serving.{CallRuns, ServesOn}
use Rattle.vx_lending.specs.declared.public.Running.{Running}
use Rattle.vx_lending.specs.Public.{running_at}
use Rattle.vx_volume.specs.Volume.{volume_seen}
use Rattle.vx_house.specs.Holders.{volume_at}
use Rattle.vx_house.specs.Runs.{IsAtRun, fronts_in, run_in}
use Rattle.vx_house.specs.Scene.{Shelved}
use Rattle.vx_house.specs.View.{IsAtVolume, IsMoment, Keeps, at}
use Rattle.vx_house.specs.declared.house.House.{House}
use Rattle.vx_house.specs.declared.house.Imported.{Imported}
use Rattle.vx_house.proofs.Free.{at_lone}
use Rattle.vx_house.proofs.Takes.{rests_self}
use Rattle.vx_house_calls.proofs.Moments.{run_there}
use Rattle.vx_run.specs.Calling.{IsServedAmong}
use Rattle.vx_run.specs.Grouped.{CallsGroup, CallsVolumes, IsSameHouse, IsSameIfThere, IsServedIn, ServesAny, ServesBy, ServesGroup, ServesInGroup}
use Rattle.vx_run.proofs.CommandEnds.{moment_end}
use Rattle.vx_run.proofs.Given.{Given, refused_given}
use Rattle.vx_run.proofs.RunningCalls.{grouped_given, run_length}
use Rattle.vx_run.proofs.Lives.{lived_keeps, lived_faults, lived_blamed, lived_moment, lived_later, lived_runs, n}
use Rattle.vx_run.proofs.SameHouse.{same_self}

-- what is started neither on a device nor in the group is not started
none_started : {P : Type 0} (ghosts : Ghosts P) (see : P → Seen) (hs : List DiskSeen) (g : Option Group) (name : Word) (o : Option Volume) → IsAtVolume see None (lone o) → IsAtRun {ghosts = ghosts} see hs g name None (grouped o) → o ≡ None
none_started ghosts see hs g name None bare run = refl
none_started ghosts see hs g name (Some v) bare run = by v.lies bare run
  where
    by : (lies : Lies) → IsAtVolume see None (lone_by lies v) → IsAtRun {ghosts = ghosts} see hs g name None (grouped_by lies v) → Some v ≡ None
    by (OnDevice device) bare run = absurd bare
    by (OnPlexes plexes) bare run = absurd run

-- where it is not started the call runs so, ..
runs_unstarted : (place : ℕ) (call : Call) (m : Moment) → m.world.volumes (volume_of call) ≡ None → CallRuns place call m (ends.Refused (NotStarted (volume_of call))) m
runs_unstarted place call m gone =
    subst (λ o. MatchOption o ((ends.Refused (NotStarted (volume_of call)) ≡ ends.Refused (NotStarted (volume_of call))) × Rests m m) (λ u. MatchBool (nat_lt u.length (start_of call + count_of call)) ((ends.Refused (NotStarted (volume_of call)) ≡ ends.Refused Range) × Rests m m) (ServesOn u.lies place call u m (ends.Refused (NotStarted (volume_of call))) m))) (sym gone) (refl, rests_self m)

-- .. and so where its range does not lie in the volume
runs_beyond : (place : ℕ) (call : Call) (m : Moment) (v : Volume) → m.world.volumes (volume_of call) ≡ Some v → v.length < start_of call + count_of call → CallRuns place call m (ends.Refused Range) m
runs_beyond place call m v there beyond =
    subst (λ o. MatchOption o ((ends.Refused Range ≡ ends.Refused (NotStarted (volume_of call))) × Rests m m) (λ u. MatchBool (nat_lt u.length (start_of call + count_of call)) ((ends.Refused Range ≡ ends.Refused Range) × Rests m m) (ServesOn u.lies place call u m (ends.Refused Range) m))) (sym there)
    (subst (λ t. MatchBool t ((ends.Refused Range ≡ ends.Refused Range) × Rests m m) (ServesOn v.lies place call v m (ends.Refused Range) m)) (sym (lt-ltb v.length (start_of call + count_of call) beyond)) (refl, rests_self m))

module _ {P : Type 0} {ghosts : Ghosts P} (shelf : Shelved) (h : House P ghosts) (call : Call) (keeps : Keeps ghosts.seen (at shelf h)) where
  abbrev see : P → Seen
  see = ghosts.seen

  -- ---- a volume on a whole device

  module _ (volumes : BTreeMap Word (Started P)) where
    abbrev mid : House P ghosts
    mid = record h { volumes = volumes }

    same_mid : volumes.entries ≡ h.volumes.entries → IsSameHouse h mid
    same_mid e = record { volumes = e; group = (same_self h).group; hand = refl }

    past_end : (place : ℕ) (b : Started P) → volume_at h (volume_of call) ≡ Some b → b.geometry.length < start_of call + count_of call → (m : Moment) → IsMoment see (at shelf h) m → CallRuns place call m (ends.Refused Range) m
    past_end place b found past m is =
        let there = at_lone see b (m.world.volumes (volume_of call)) (subst (λ o. IsAtVolume see o (lone (m.world.volumes (volume_of call)))) found (is.volumes_are (volume_of call))) in
        runs_beyond place call m there.0 there.1 (subst (λ x. x < start_of call + count_of call) (sym there.2.length_is) past)

    no_refusal : (device : Word) (end : End) (a b : Seen) (r : Refusal) → end ≡ ends.Refused r → EndHasCause device end a b → ⊥
    no_refusal device end a b r is cause = subst (λ e. EndHasCause device e a b) is cause

    -- the volume has lived on
    lived_given : (place : ℕ) (end : End) (b : Started P) → volume_at h (volume_of call) ≡ Some b → start_of call + count_of call ≤ b.geometry.length → IsServedAmong see call b end h.volumes volumes → Given see shelf call place end h mid
    lived_given place end b found within among = record {
      keeps = lived_keeps see shelf h volumes call b end found among keeps;
      goes = λ m is. (
        n see shelf h volumes call b end found among keeps m is place,
        record {
          is = moment_end see end (at shelf mid) _ (lived_moment see shelf h volumes call b end found among keeps m is place);
          later = lived_later see shelf h volumes call b end found among keeps m is place;
          does = (refl, lived_later see shelf h volumes call b end found among keeps m is place, lived_runs see shelf h volumes call b end found among keeps m is place within);
        },
      );
      faults = lived_faults see shelf h volumes call b end found among keeps;
      blamed = lived_blamed see shelf h volumes call b end found among keeps end among.served.cause;
    }

    by_range : (place : ℕ) (end : End) (b : Started P) → volume_at h (volume_of call) ≡ Some b → (t : Bool) → nat_lt b.geometry.length (start_of call + count_of call) ≡ t → MatchBool t ((end ≡ ends.Refused Range) × (volumes.entries ≡ h.volumes.entries)) (IsServedAmong see call b end h.volumes volumes) → Given see shelf call place end h mid
    by_range place end b found true e serves = subst (λ x. Given see shelf call place x h mid) (sym serves.0) (refused_given see shelf call h mid place Range (same_mid serves.1) keeps (past_end place b found (ltb-true b.geometry.length (start_of call + count_of call) e)))
    by_range place end b found false e serves = lived_given place end b found (ltb-false b.geometry.length (start_of call + count_of call) e) serves

  volumes_given : (place : ℕ) (end : End) (b : Started P) (new : House P ghosts) → volume_at h (volume_of call) ≡ Some b → CallsVolumes see call end b h new → Given see shelf call place end h new
  volumes_given place end b new found calls = subst (λ x. Given see shelf call place end h x) (sym calls.now) (by_range calls.volumes place end b found (nat_lt b.geometry.length (start_of call + count_of call)) refl calls.serves)

  -- ---- none

  unstarted_given : (place : ℕ) (new : House P ghosts) → IsSameHouse h new → volume_at h (volume_of call) ≡ None → run_in h.group (volume_of call) ≡ None → Given see shelf call place (ends.Refused (NotStarted (volume_of call))) h new
  unstarted_given place new same bare run = refused_given see shelf call h new place (NotStarted (volume_of call)) same keeps (λ m is.
      runs_unstarted place call m (none_started ghosts see (fronts_in see h.group) m.world.group (volume_of call) (m.world.volumes (volume_of call))
      (subst (λ o. IsAtVolume see o (lone (m.world.volumes (volume_of call)))) bare (is.volumes_are (volume_of call)))
      (subst (λ o. IsAtRun see (fronts_in see h.group) m.world.group (volume_of call) o (grouped (m.world.volumes (volume_of call)))) run (is.runs_are (volume_of call)))))

  -- ---- a volume of the group

  module _ (alike : (p q : P) → is_some (see p).told ≡ is_some (see q).told) where
    module _ (g : Imported P ghosts) (has_group : h.group ≡ Some g) where
      -- the house with the group that it has
      same_with : IsSameHouse h (record h { group = Some g })
      same_with = record { volumes = refl; group = subst (λ o. IsSameIfThere o (Some g)) (sym has_group) (record { same = refl; entries = refl }); hand = refl }

      -- where the range does not lie in the volume that runs
      beyond_run : (place : ℕ) (r : Running P ghosts) → running_at g.public (volume_of call) ≡ Some r → (volume_seen see r.volume).length < start_of call + count_of call → (m : Moment) → IsMoment see (at shelf h) m → CallRuns place call m (ends.Refused Range) m
      beyond_run place r found past m is = by m.world.group (subst (λ o. IsAtRun see (fronts_in see o) m.world.group (volume_of call) (run_in o (volume_of call)) (grouped (m.world.volumes (volume_of call)))) has_group (is.runs_are (volume_of call)))
        where
          by : (w : Option Group) → IsAtRun see (members see g.base) w (volume_of call) (running_at g.public (volume_of call)) (grouped (m.world.volumes (volume_of call))) → CallRuns place call m (ends.Refused Range) m
          by None run = absurd (no_group (grouped (m.world.volumes (volume_of call))) (subst (λ o. IsAtRun see (members see g.base) None (volume_of call) o (grouped (m.world.volumes (volume_of call)))) found run))
            where
              no_group : (o : Option Volume) → IsAtRun see (members see g.base) None (volume_of call) (Some r) o → ⊥
              no_group None at = at
              no_group (Some v) at = at
          by (Some w) run =
              let there = run_there see (members see g.base) w (volume_of call) r (m.world.volumes (volume_of call)) (subst (λ o. IsAtRun see (members see g.base) (Some w) (volume_of call) o (grouped (m.world.volumes (volume_of call)))) found run) in
              runs_beyond place call m there.volume there.there (subst (λ x. x < start_of call + count_of call) (sym (run_length see (members see g.base) w (volume_of call) r there.volume there.run)) past)

      run_range : (place : ℕ) (end : End) (now : Imported P ghosts) (r : Running P ghosts) → running_at g.public (volume_of call) ≡ Some r → (t : Bool) → nat_lt (volume_seen see r.volume).length (start_of call + count_of call) ≡ t →
          MatchBool t ((end ≡ ends.Refused Range) × (now ≡ g)) (IsServedIn see call end g now) → Given see shelf call place end h (record h { group = Some now })
      run_range place end now r found true e serves =
          subst (λ x. Given see shelf call place x h (record h { group = Some now })) (sym serves.0)
          (subst (λ x. Given see shelf call place (ends.Refused Range) h (record h { group = Some x })) (sym serves.1)
          (refused_given see shelf call h (record h { group = Some g }) place Range same_with keeps (beyond_run place r found (ltb-true (volume_seen see r.volume).length (start_of call + count_of call) e))))
      run_range place end now r found false e serves = grouped_given alike shelf h g now has_group call end serves keeps place r found (ltb-false (volume_seen see r.volume).length (start_of call + count_of call) e)

      by_run : (place : ℕ) (end : End) (now : Imported P ghosts) → volume_at h (volume_of call) ≡ None → (o : Option (Running P ghosts)) → running_at g.public (volume_of call) ≡ o → ServesInGroup see call o g now end → Given see shelf call place end h (record h { group = Some now })
      by_run place end now bare None found serves =
          subst (λ x. Given see shelf call place x h (record h { group = Some now })) (sym serves.0)
          (subst (λ x. Given see shelf call place (ends.Refused (NotStarted (volume_of call))) h (record h { group = Some x })) (sym serves.1)
          (unstarted_given place (record h { group = Some g }) same_with bare (ap (λ o. run_in o (volume_of call)) has_group ∙ found)))
      by_run place end now bare (Some r) found serves = run_range place end now r found (nat_lt (volume_seen see r.volume).length (start_of call + count_of call)) refl serves

      calls_given : (place : ℕ) (end : End) (new : House P ghosts) → volume_at h (volume_of call) ≡ None → CallsGroup see call end g h new → Given see shelf call place end h new
      calls_given place end new bare calls = subst (λ x. Given see shelf call place end h x) (sym calls.now) (by_run place end calls.group bare (running_at g.public (volume_of call)) refl calls.serves)

    group_given : (place : ℕ) (end : End) (new : House P ghosts) → volume_at h (volume_of call) ≡ None → (o : Option (Imported P ghosts)) → h.group ≡ o → ServesGroup see call o h new end → Given see shelf call place end h new
    group_given place end new bare None none serves =
        subst (λ x. Given see shelf call place x h new) (sym serves.0)
        (subst (λ x. Given see shelf call place (ends.Refused (NotStarted (volume_of call))) h x) (sym serves.1)
        (unstarted_given place h (same_self h) bare (ap (λ o. run_in o (volume_of call)) none)))
    group_given place end new bare (Some g) has_group serves = calls_given g has_group place end new bare serves

    by_volume : (place : ℕ) (end : End) (new : House P ghosts) (o : Option (Started P)) → volume_at h (volume_of call) ≡ o → ServesBy see call o h new end → Given see shelf call place end h new
    by_volume place end new None bare serves = group_given place end new bare h.group refl serves
    by_volume place end new (Some b) found serves = volumes_given place end b new found serves

    -- whatever is called
    pub given : (place : ℕ) (end : End) (new : House P ghosts) → ServesAny see call h new end → Given see shelf call place end h new
    given place end new serves = by_volume place end new (volume_at h (volume_of call)) refl serves

-- A mirror of a running volume as a stage, by how it ended.
use Rattle.std.proofs.Common.{◌≡◌, ◌∙◌, ℕ, Bool, true, List, [], ◌∷◌, ◌++◌, Option, Some, None, Result, Ok, Err, refl, sym, ap, subst, inl, inr}
use Rattle.std.specs.Prelude.{MatchOption, is_some}
use Rattle.std.specs.Str.{bytes_eq}
use Rattle.vx_pages.specs.declared.local_piece.LocalPiece.{Ghosts}
use Rattle.vx_base.specs.Named.{Word}
use Rattle.vx_mask.specs.Mask.{only}
use Rattle.vx_piece.specs.Seen.{Seen}
use Rattle.vx_block.specs.Regions.{region_count}
use Rattle.vx_copies.specs.Disks.{DiskSeen}
use Rattle.vx_confdb.specs.Groups.{members}
use Rattle.vx_config_parts.specs.declared.object.Object.{Object}
use Rattle.vx_config_parts.specs.declared.vol.Vol.{Vol}
use Rattle.vx_objects.specs.declared.config.Config.{Config}
use Rattle.vx_objects.specs.declared.edit.Edit.TheVariants.{Make}
use Rattle.vx_answers.specs.declared.answer.End.{End}
use Rattle.vx_life.specs.declared.Part.{Part}
use Rattle.vx_answers.specs.declared.answer.End.TheVariants as ends
use Rattle.vx_answers.specs.declared.refusal.Refusal.{Refusal}
use Rattle.vx_answers.specs.declared.refusal.Refusal.TheVariants as refusal
use Rattle.vx_moments.specs.Commit.{Writing}
use Rattle.vx_moments.specs.Leaving.{grouped}
use Rattle.vx_moments.specs.Moment.{AreLater, Moment}
use Rattle.vx_moments.specs.World.{Group, Volume}
use Rattle.vx_lending.specs.declared.public.Running.{Running}
use Rattle.vx_lending.specs.Public.{running_at}
use Rattle.vx_volume.specs.declared.fault.IoFault.{IoFault}
use Rattle.vx_volume.specs.declared.fault.IoFault.TheVariants.{Fault, PowerLost, Range}
use Rattle.vx_marks.specs.declared.marker.MarkFault.{MarkFault}
use Rattle.vx_stages.specs.Ends.{EndsIn, IsChange, refused}
use Rattle.vx_stages.specs.Recorded.{IsMarkedEverywhere, IsSoundAs}
use Rattle.vx_stages.specs.Stopping.{RestStops, runs_on_plexes}
use Rattle.vx_stages.specs.Mirroring.{IsMirrorRefused, IsMirrorUnplanned, IsAdditionRefused}
use Rattle.vx_stages.specs.Mirrored.{IsMarkedFor, IsMirror, IsMirrorCopied, IsMirroredBy, MirrorStops, MirrorStopsIn, MirrorWants}
use Rattle.vx_house.specs.Goes.{Goes}
use Rattle.vx_house.specs.Runs.{IsAtRun, fronts_in, run_in}
use Rattle.vx_house.specs.Scene.{FaultsGoOn, IsBlamed, Shelved}
use Rattle.vx_house.specs.View.{IsMoment, IsMomentButGroup, Keeps, View, at, group_of, scene}
use Rattle.vx_house.specs.declared.house.House.{House}
use Rattle.vx_house.specs.declared.house.Imported.{Imported}
use Rattle.vx_house.specs.declared.stop.Stop.{Stop}
use Rattle.vx_house.specs.declared.stop.Stop.TheVariants as stops
use Rattle.vx_house.proofs.Ends.{goes_ended, keeps_ended}
use Rattle.vx_house.proofs.Moments.{faults_refl, faults_trans, later_refl, later_trans}
use Rattle.vx_house.proofs.Takes.{blamed_later, rests_self}
use Rattle.vx_house_calls.specs.Passes.{with_group}
use Rattle.vx_stage_volumes.specs.Parting.{PartsGroup}
use Rattle.vx_stage_volumes.specs.Resting.{IsFaultTold}
use Rattle.vx_stage_volumes.proofs.PartedHouse.{keeps_now, moment_now, same_scene}
use Rattle.vx_stage_mirrors.specs.declared.planning.PlannedMirror.{PlannedMirror}
use Rattle.vx_stage_mirrors.specs.MarkingLaws.{EachMarkingRests, IsMarkedAt, RestsMarked}
use Rattle.vx_stage_mirrors.specs.Marking.{MarksIn, MayMark, as_io}
use Rattle.vx_stage_mirrors.specs.declared.marking.Unmarked.{Unmarked}
use Rattle.vx_stage_mirrors.specs.declared.marking.Unmarked.TheVariants as unmarked
use Rattle.vx_stage_mirrors.specs.Copying.{CopiesIn, CopyStops}
use Rattle.vx_stage_mirrors.specs.CopyingLaws.{AreToCopy, CopyingGoes, EachCopyingGoes, HasCopied, HasPlexToCopy}
use Rattle.vx_stage_mirrors.specs.Joining.{IsJoinedIn}
use Rattle.vx_stage_mirrors.specs.Moments.{EachFailedJoinStops, EachJoinGoesOn, IsJoinedAt, JoinGoes, JoinStops}
use Rattle.vx_stage_mirrors.specs.Parking.{EachParkingParts, LiesOtherwise}
use Rattle.vx_layout.specs.declared.layout.Layout.{Layout}
use Rattle.vx_stage_volumes.proofs.Named.{found_name}
use Rattle.vx_stage_mirrors.proofs.Copied.{is_copied, is_stopped}
use Rattle.vx_stage_mirrors.specs.Ending.{IsPlannedMirror, IsRefusedHere, seen_group}
use Rattle.vx_stage_mirrors.specs.Going.{MirrorGoes}

-- What the laws below promise.
pub record HaveLaws {P : Type 0} (ghosts : Ghosts P) : Type 0 where
  pub parks : (old new : Imported P ghosts) → EachParkingParts ghosts.seen old new
  pub marks : (h : House P ghosts) (old new : Imported P ghosts) → EachMarkingRests ghosts.seen h old new
  pub joins : (h : House P ghosts) (old new : Imported P ghosts) → EachJoinGoesOn ghosts.seen h old new
  pub stops : (h : House P ghosts) (old new : Imported P ghosts) → EachFailedJoinStops ghosts.seen h old new
  pub copies : (h : House P ghosts) (old new : Imported P ghosts) → EachCopyingGoes ghosts.seen h old new

-- a volume runs in the world just where it does in the house
at_run_same : {P : Type 0} {ghosts : Ghosts P} (see : P → Seen) (hs : List DiskSeen) (g : Option Group) (name : Word) (r : Option (Running P ghosts)) (o : Option Volume) → IsAtRun see hs g name r o → is_some o ≡ is_some r
at_run_same see hs g name None None is = refl
at_run_same see hs g name None (Some v) is = absurd is
at_run_same see hs g name (Some r) None is = absurd is
at_run_same see hs g name (Some r) (Some v) is = refl

module _ {P : Type 0} {ghosts : Ghosts P} (alike : (p q : P) → is_some (ghosts.seen p).told ≡ is_some (ghosts.seen q).told) (laws : HaveLaws ghosts) (name : Word) (disks : List Word) where
  abbrev see : P → Seen
  see = ghosts.seen

  -- it has ended the command, and all is kept
  has_ended : (end : End) (old new : View P ghosts) → Keeps see new → Goes see (λ m n. MirrorStops name disks m end n) old new → FaultsGoOn (scene see old) (scene see new) → IsBlamed end (scene see old) (scene see new) → MirrorGoes see name disks (Err (stops.Ended end)) old new
  has_ended end old new keeps goes faults blamed = record {
    keeps = keeps_ended see end new keeps;
    goes = goes_ended see (λ m n. ⊥) (MirrorStops name disks) (MirrorWants name) end old new goes;
    faults = faults;
    blamed = blamed;
  }

  -- memory was wanting
  has_wanted : (old new : View P ghosts) → Keeps see new → Goes see (MirrorWants name) old new → FaultsGoOn (scene see old) (scene see new) → MirrorGoes see name disks (Err stops.OutOfMemory) old new
  has_wanted old new keeps goes faults = record { keeps = keeps; goes = goes; faults = faults; blamed = tt }

  module _ (shelf : Shelved) (h : House P ghosts) (keeps : Keeps see (at shelf h)) where
    -- no group is imported
    pub no_group : h.group ≡ None → MirrorGoes see name disks (Err (stops.Ended (ends.Refused (refusal.NoGroup None)))) (at shelf h) (at shelf h)
    no_group none = has_ended (ends.Refused (refusal.NoGroup None)) (at shelf h) (at shelf h) keeps (λ m is. (
      m,
      is,
      later_refl m.counts,
      subst (λ o. MatchOption o (EndsIn (refusal.NoGroup None) m (ends.Refused (refusal.NoGroup None)) m) (λ g. MirrorStopsIn g name disks m (ends.Refused (refusal.NoGroup None)) m))
          (sym (is.group_is ∙ ap (group_of see) none)) (refl, rests_self m),
    ))
        (faults_refl (scene see (at shelf h))) tt

    module _ (g : Imported P ghosts) (has_group : h.group ≡ Some g) where
      abbrev gm : Group
      gm = seen_group see g

      pub here : (m : Moment) → IsMoment see (at shelf h) m → m.world.group ≡ Some gm
      here m is = is.group_is ∙ ap (group_of see) has_group

      stops_in : (m n : Moment) (end : End) → IsMoment see (at shelf h) m → MirrorStopsIn gm name disks m end n → MirrorStops name disks m end n
      stops_in m n end is stops = subst (λ o. MatchOption o (EndsIn (refusal.NoGroup None) m end n) (λ w. MirrorStopsIn w name disks m end n)) (sym (here m is)) stops

      runs_same : (m : Moment) → IsMoment see (at shelf h) m → runs_on_plexes m.world name ≡ is_some (running_at g.public name)
      runs_same m is = at_run_same see (fronts_in see h.group) m.world.group name (run_in h.group name) (grouped (m.world.volumes name)) (is.runs_are name) ∙ ap (λ o. is_some (run_in o name)) has_group

      -- ---- refused before anything is touched

      refuses_added : (c : Config) (added : List Object) (end : End) → IsAdditionRefused c added end → (r : Refusal) × (end ≡ refused r)
      refuses_added c added end (inl (r, is, e)) = (r, e)
      refuses_added c added end (inr (next, edited, (text, is, long, e))) = (_, e)

      refuses_plan : (v : Vol) (end : End) → IsMirrorUnplanned g.config gm.good v disks end → (r : Refusal) × (end ≡ refused r)
      refuses_plan v end (inl (r, is, e)) = (r, e)
      refuses_plan v end (inr (m, added, laid, is)) = refuses_added g.config added end is

      refuses : (runs : Bool) (end : End) → IsMirrorRefused runs gm name disks end → (r : Refusal) × (end ≡ refused r)
      refuses runs end (inl (r, is, e)) = (r, e)
      refuses runs end (inr (v, found, fits, is)) = refuses_plan v end is

      pub refused_goes : (end : End) → IsRefusedHere see name disks g (stops.Ended end) → MirrorGoes see name disks (Err (stops.Ended end)) (at shelf h) (at shelf h)
      refused_goes end is = has_ended end (at shelf h) (at shelf h) keeps
          (λ m at_m. (m, at_m, later_refl m.counts, stops_in m m end at_m (inl (subst (λ b. IsMirrorRefused b gm name disks end) (sym (runs_same m at_m)) is, rests_self m))))
          (faults_refl (scene see (at shelf h)))
          (let why = refuses (is_some (running_at g.public name)) end is in subst (λ e. IsBlamed e (scene see (at shelf h)) (scene see (at shelf h))) (sym why.1) tt)

      pub same_house : (g' : Imported P ghosts) → g' ≡ g → h ≡ with_group h g'
      same_house g' same = ap (λ o. (let x : House P ghosts = record { volumes = h.volumes; group = o; hand = h.hand } in x)) (has_group ∙ ap (λ x. Some x) (sym same))

      -- ---- want of memory before the map is marked

      module _ (g' : Imported P ghosts) (parts : PartsGroup see g g') where
        parted_faults : FaultsGoOn (scene see (at shelf h)) (scene see (at shelf (with_group h g')))
        parted_faults = subst (λ s. FaultsGoOn (scene see (at shelf h)) s) (sym (same_scene see shelf h g g' has_group parts)) (faults_refl (scene see (at shelf h)))

        pub parted_wants : MirrorGoes see name disks (Err stops.OutOfMemory) (at shelf h) (at shelf (with_group h g'))
        parted_wants = has_wanted (at shelf h) (at shelf (with_group h g')) (keeps_now see shelf h g g' has_group parts keeps)
            (λ m is. (m, moment_now see shelf h g g' has_group parts m is, later_refl m.counts, inl refl)) parted_faults

      -- ---- planned

      module _ (p : PlannedMirror) (planned : IsPlannedMirror see name disks p g) (ready : Imported P ghosts) (parts1 : PartsGroup see g ready) where
        abbrev h1 : House P ghosts
        h1 = with_group h ready

        keeps1 : Keeps see (at shelf h1)
        keeps1 = keeps_now see shelf h g ready has_group parts1 keeps

        moment1 : (m : Moment) → IsMoment see (at shelf h) m → IsMoment see (at shelf h1) m
        moment1 m is = moment_now see shelf h g ready has_group parts1 m is

        faults1 : FaultsGoOn (scene see (at shelf h)) (scene see (at shelf h1))
        faults1 = parted_faults ready parts1

        mirror : IsMirror gm name disks planned.volume p.map p.plex planned.planned.added
        mirror = record { found = planned.found; fits = planned.fits; laid = planned.planned.laid; rest = planned.planned.at.first.0; first = planned.planned.at.first.1 }

        module _ (mid : Imported P ghosts) (lies : LiesOtherwise see ready mid) where
          abbrev h2 : House P ghosts
          h2 = with_group h1 mid

          parts2 : PartsGroup see ready mid
          parts2 = laws.parks ready mid alike parts1.kept lies

          pub keeps2 : Keeps see (at shelf h2)
          keeps2 = keeps_now see shelf h1 ready mid refl parts2 keeps1

          pub moment2 : (m : Moment) → IsMoment see (at shelf h) m → IsMoment see (at shelf h2) m
          moment2 m is = moment_now see shelf h1 ready mid refl parts2 m (moment1 m is)

          faults2 : FaultsGoOn (scene see (at shelf h)) (scene see (at shelf h2))
          faults2 = subst (λ s. FaultsGoOn (scene see (at shelf h)) s) (sym (same_scene see shelf h1 ready mid refl parts2)) faults1

          -- what was parked stays so, for want of memory
          pub unparked_wants : MirrorGoes see name disks (Err stops.OutOfMemory) (at shelf h) (at shelf h2)
          unparked_wants = has_wanted (at shelf h) (at shelf h2) keeps2 (λ m is. (m, moment2 m is, later_refl m.counts, inl refl)) faults2

          -- ---- marked, or not

          module _ (may : MayMark see p.map (running_at mid.public name)) (result : Result (Unit {0}) Unmarked) (g3 : Imported P ghosts) (marks : MarksIn see name p.map result mid g3) where
            abbrev h3 : House P ghosts
            h3 = with_group h2 g3

            pub rests : RestsMarked see shelf h2 name p.map result mid g3 marks
            rests = laws.marks h2 mid g3 shelf name p.map result alike refl may marks keeps2

            faults3 : FaultsGoOn (scene see (at shelf h)) (scene see (at shelf h3))
            faults3 = faults_trans (scene see (at shelf h)) (scene see (at shelf h2)) (scene see (at shelf h3)) faults2 rests.faults

            abbrev Marked : Moment → Type 0
            Marked m = IsMarkedAt see shelf h3 (members see mid.base) name marks.runs.before marks.runs.after m

            pub marked3 : (m : Moment) → IsMoment see (at shelf h) m → Marked m
            marked3 m is = rests.moments m (moment2 m is)

            -- the volume has come to rest, and memory was wanting
            pub marked_wants : MirrorGoes see name disks (Err stops.OutOfMemory) (at shelf h) (at shelf h3)
            marked_wants = has_wanted (at shelf h) (at shelf h3) rests.keeps (λ m is. let x = marked3 m is in (x.then, x.is, x.later, inr x.rest)) faults3

            -- a fault of the log is told
            pub unmarked_goes : (fault : MarkFault) → result ≡ Err (unmarked.Fault fault) → (end : End) → IsFaultTold see mid.base.disks.items (as_io fault) (stops.Ended end) → MirrorGoes see name disks (Err (stops.Ended end)) (at shelf h) (at shelf h3)
            unmarked_goes fault is_fault end told = has_ended end (at shelf h) (at shelf h3) rests.keeps
                (λ m is.
                let n = rests.ended fault is_fault end told m (moment2 m is) in
                (n.0, n.1, n.2.rest.later, stops_in m n.0 end is (inr (inl (record { volume = planned.volume; map = p.map; plex = p.plex; added = planned.planned.added; mirror = mirror; stops = n.2 })))))
                faults3
                (blamed_later end (scene see (at shelf h)) (scene see (at shelf h2)) (scene see (at shelf h3)) faults2 (rests.blamed fault is_fault end told))

            -- it is marked for the mirror
            abbrev marked_for : (m : Moment) (is : IsMoment see (at shelf h) m) → IsMarkedFor gm name disks m (marked3 m is).then
            marked_for m is = record { volume = planned.volume; map = p.map; plex = p.plex; added = planned.planned.added; mirror = mirror; rest = (marked3 m is).rest }

            -- ---- not committed

            module _ (g4 : Imported P ghosts)
                (sound : (m : Moment) (is : IsMoment see (at shelf h) m) → (marked3 m is).rest.volume.sound ≡ true → (x : Writing) → IsChange (Make planned.planned.added ∷ []) (marked3 m is).then.world x → IsSoundAs (marked3 m is).rest.group x.config name (marked3 m is).then.world)
                (shown : (m : Moment) (is : IsMoment see (at shelf h) m) → (marked3 m is).rest.volume.sound ≡ true → (x : Writing) → IsChange (Make planned.planned.added ∷ []) (marked3 m is).then.world x → IsMarkedEverywhere (marked3 m is).rest.group name p.map (marked3 m is).then.world) where
              abbrev h4 : House P ghosts
              h4 = with_group h3 g4

              uncommitted_at : (end : End) → JoinStops see shelf h3 planned.planned.added g4 end → (m : Moment) → IsMoment see (at shelf h) m → (n : Moment) × IsMomentButGroup see (at shelf h4) n × AreLater m.counts n.counts × MirrorStops name disks m end n
              uncommitted_at end stopped m is =
                  let x = marked3 m is in
                  let s = stopped.moments x.then x.is in (
                    s.then,
                    s.is,
                    later_trans m.counts x.then.counts s.then.counts x.later s.later,
                    stops_in m s.then end is (inr (inr (inl (record {
                      marked = x.then;
                      mark = marked_for m is;
                      rest = s.later;
                      stops = (s.writing, s.change, s.stopped);
                      sound = λ known. sound m is known s.writing s.change;
                      shown = λ known. shown m is known s.writing s.change;
                    })))),
                  )

              faults4 : (end : End) → JoinStops see shelf h3 planned.planned.added g4 end → FaultsGoOn (scene see (at shelf h)) (scene see (at shelf h4))
              faults4 end stopped = faults_trans (scene see (at shelf h)) (scene see (at shelf h3)) (scene see (at shelf h4)) faults3 stopped.faults

              pub lost_goes : JoinStops see shelf h3 planned.planned.added g4 ends.GroupLost → MirrorGoes see name disks (Err (stops.Ended ends.GroupLost)) (at shelf h) (at shelf h4)
              lost_goes stopped = record { keeps = stopped.keeps; goes = λ m is. uncommitted_at ends.GroupLost stopped m is; faults = faults4 ends.GroupLost stopped; blamed = tt }

              pub cut_goes : (parts : List Part) → JoinStops see shelf h3 planned.planned.added g4 (ends.Lost parts) → MirrorGoes see name disks (Err (stops.Ended (ends.Lost parts))) (at shelf h) (at shelf h4)
              cut_goes parts stopped = record { keeps = stopped.keeps; goes = λ m is. uncommitted_at (ends.Lost parts) stopped m is; faults = faults4 (ends.Lost parts) stopped; blamed = tt }

            -- ---- joined

            module _ (l : Layout) (g4 : Imported P ghosts) (joins : IsJoinedIn see name p.map l p.next g3 g4) (has_joined : JoinGoes see shelf h3 name planned.planned.added p.next.config p.plex.name g4 joins.runs.after) where
              abbrev h4' : House P ghosts
              h4' = with_group h3 g4

              abbrev Joined : Moment → Type 0
              Joined x = IsJoinedAt see shelf h4' (members see g4.base) name planned.planned.added p.next.config p.plex.name joins.runs.after x

              joined4 : (m : Moment) (is : IsMoment see (at shelf h) m) → Joined (marked3 m is).then
              joined4 m is = has_joined.moments (marked3 m is).then (marked3 m is).is

              abbrev mirrored : (m : Moment) (is : IsMoment see (at shelf h) m) → IsMirroredBy gm name disks m (joined4 m is).then
              mirrored m is =
                  let j = joined4 m is in
                  record {
                    marked = (marked3 m is).then;
                    mark = marked_for m is;
                    writing = j.writing;
                    change = j.change;
                    recorded = j.recorded;
                    committed = j.committed;
                    rest = subst (AreLater (marked3 m is).then.counts) j.counts j.later;
                    joins = record {
                      volume = j.before;
                      was = j.was;
                      plexes = j.data_plexes ++ j.logs;
                      lies = j.lay;
                      later = j.data_plexes ++ p.plex.name ∷ j.logs;
                      more = record { before = j.data_plexes; behind = j.logs; were = refl; are = refl };
                      world = j.world;
                      counts = j.counts;
                    };
                  }

              faults4' : FaultsGoOn (scene see (at shelf h)) (scene see (at shelf h4'))
              faults4' = faults_trans (scene see (at shelf h)) (scene see (at shelf h3)) (scene see (at shelf h4')) faults3 has_joined.faults

              named : planned.volume.name ≡ name
              named = found_name g.config name planned.volume planned.found

              -- ---- copied to

              module _ (stop : Stop) (g5 : Imported P ghosts) (copies : CopiesIn see name (only p.map) stop g4 g5) (some : HasPlexToCopy (only p.map) copies.one.before) (to : AreToCopy g4.config name (only p.map) copies.one.before (bytes_eq p.plex.name))
                  (all : (n : ℕ) → copies.result ≡ Ok n → n ≡ region_count planned.volume.len planned.volume.region) where
                abbrev h5 : House P ghosts
                h5 = with_group h4' g5

                copying : CopyingGoes see shelf h4' name (only p.map) stop g4 g5 copies
                copying = laws.copies h4' g4 g5 shelf name (only p.map) stop alike refl copies has_joined.keeps

                faults5 : FaultsGoOn (scene see (at shelf h)) (scene see (at shelf h5))
                faults5 = faults_trans (scene see (at shelf h)) (scene see (at shelf h4')) (scene see (at shelf h5)) faults4' copying.faults

                ends_at : (m n : Moment) (end : End) (is : IsMoment see (at shelf h) m) → AreLater (joined4 m is).then.counts n.counts → IsMirrorCopied planned.volume p.plex.name (joined4 m is).then end n → MirrorStops name disks m end n
                ends_at m n end is later copied = stops_in m n end is (inr (inr (inr (record { joined = (joined4 m is).then; mirrored = mirrored m is; rest = later; copied = copied }))))

                later_at : (m n : Moment) (is : IsMoment see (at shelf h) m) → AreLater (joined4 m is).then.counts n.counts → AreLater m.counts n.counts
                later_at m n is later =
                    later_trans m.counts (marked3 m is).then.counts n.counts (marked3 m is).later
                    (later_trans (marked3 m is).then.counts (joined4 m is).then.counts n.counts (joined4 m is).later later)

                done_goes : (n : ℕ) → copies.result ≡ Ok n → Goes see (λ m x. MirrorStops name disks m (ends.Done (Some n) [] []) x) (at shelf h) (at shelf h5)
                done_goes n is_n m is =
                    let x = copying.done n is_n some (bytes_eq p.plex.name) to (joined4 m is).then (joined4 m is).is in
                    let copied = subst (λ w. HasCopied w (bytes_eq p.plex.name) (joined4 m is).then x.0) (sym named) x.2 in
                    (x.0, x.1, later_at m x.0 is x.2.after, ends_at m x.0 (ends.Done (Some n) [] []) is x.2.after (is_copied planned.volume p.plex.name (joined4 m is).then n (all n is_n) x.0 copied))

                fault_goes : (fault : IoFault) → copies.result ≡ Err fault → (end : End) → stop ≡ stops.Ended end → Goes see (λ m x. MirrorStops name disks m end x) (at shelf h) (at shelf h5)
                fault_goes fault is_fault end ended m is =
                    let x = copying.ended fault is_fault end ended (joined4 m is).then (joined4 m is).is in
                    let stopped = subst (λ w. RestStops w (joined4 m is).then end x.0) (sym named) x.2 in
                    (x.0, x.1, later_at m x.0 is x.2.rest.later, ends_at m x.0 end is x.2.rest.later (is_stopped planned.volume p.plex.name (joined4 m is).then end x.0 stopped))

                -- the stop, and how the moments go
                goes_by : (result : Result ℕ IoFault) → copies.result ≡ result → (end : End) × (stop ≡ stops.Ended end) × Goes see (λ m x. MirrorStops name disks m end x) (at shelf h) (at shelf h5)
                goes_by (Ok n) is = let ended : stop ≡ stops.Ended (ends.Done (Some n) [] []) = subst (λ r. CopyStops see g4.base.disks.items r stop) is copies.stop_is in (ends.Done (Some n) [] [], ended, done_goes n is)
                goes_by (Err fault) is = by fault is (subst (λ r. CopyStops see g4.base.disks.items r stop) is copies.stop_is)
                  where
                    by : (f : IoFault) → copies.result ≡ Err f → IsFaultTold see g4.base.disks.items f stop → (end : End) × (stop ≡ stops.Ended end) × Goes see (λ m x. MirrorStops name disks m end x) (at shelf h) (at shelf h5)
                    by (Fault place) is_f (told, device, ended, any) = (ends.Fault told device [], ended, fault_goes (Fault place) is_f (ends.Fault told device []) ended)
                    by PowerLost is_f ended = (ends.Lost [], ended, fault_goes PowerLost is_f (ends.Lost []) ended)
                    by Range is_f ended = absurd ended

                pub mirrored_goes : MirrorGoes see name disks (Err stop) (at shelf h) (at shelf h5)
                mirrored_goes =
                    let x = goes_by copies.result refl in
                    subst (λ s. MirrorGoes see name disks (Err s) (at shelf h) (at shelf h5)) (sym x.1)
                    (has_ended x.0 (at shelf h) (at shelf h5) copying.keeps x.2 faults5 (blamed_later x.0 (scene see (at shelf h)) (scene see (at shelf h4')) (scene see (at shelf h5)) faults4' (copying.blamed x.0 x.1)))
